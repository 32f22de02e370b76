-- Lines that make no act on messages and store nothing on the disk.
use Rattle.std.proofs.Common.{◌≡◌, ℕ, zero, suc, Bool, true, false, refl, ap, ◌∙◌, Option, None, Some, List, [], ◌∷◌, ◌++◌, take, drop, ◌&&◌, ◌==◌, map, find, if◌then◌else◌}
use Rattle.std.specs.Prelude.{Result, Ok, Err}
use Rattle.std.specs.List.{list_all}
use Rattle.std.specs.Option.{option_map_or}
use Rattle.std.proofs.lemmas.List.Folds.{list_all-append}
use Rattle.vd_num.specs.declared.errno.Errno.{Errno}
use Rattle.vd_model.specs.declared.queue.RingPlace.{RingPlace}
use Rattle.vd_model.specs.declared.parts.Part.{Part}
use Rattle.vd_model.specs.declared.parts.Chain.{Chain}
use Rattle.vd_model.specs.declared.step.SubmitForm.{SubmitForm}
use Rattle.vd_model.specs.Setting.{Setting}
use Rattle.vd_model.specs.Creation.{Creation}
use Rattle.vd_model.specs.Live.{live_mappings, live_regions}
use Rattle.vd_model.specs.Rings.{next16, number16, used_event_at, available_event_at}
use Rattle.vd_model.specs.Raw.{little_bytes}
use Rattle.vd_model.specs.Acts.{Act, NodeAct, DriverAct, Daemon_put, Driver_put, Mapped, Fetched, Unmapped, Region_freed, Streaming, Coherent, AddedChain, Request, Node, Driver, Bus, Message_act, State, Queue, Disk_act, message_acts}
use Rattle.vd_model.specs.Memory.{Memory}
use Rattle.vd_model.specs.Trace.{Ending, whole, faulty, missing}
use Rattle.vd_model.specs.Turn.{Turn, refuse}
use Rattle.vd_model.specs.Queues.{Ring, chains_out, Execution}
use Rattle.vd_model.specs.DaemonTurns as daemon
use Rattle.vd_model.specs.RingTurns as ring

-- no act on messages, and nothing stored
abbrev pub is_quiet : Act → Bool
is_quiet (Message_act act) = false
is_quiet (Disk_act act) = false
is_quiet _ = true

abbrev pub are_quiet : List Act → Bool
are_quiet acts = list_all is_quiet acts

abbrev pub Quiet : Turn Act → Type 0
Quiet turn = are_quiet turn.acts ≡ true

-- ---- lists

pub both : {b c : Bool} → b ≡ true → c ≡ true → (b && c) ≡ true
both {b} {c} h k = ap (λ b. b && c) h ∙ k

pub append_quiet : (xs ys : List Act) → are_quiet xs ≡ true → are_quiet ys ≡ true → are_quiet (xs ++ ys) ≡ true
append_quiet xs ys h k = list_all-append is_quiet xs ys ∙ both h k

pub nodes_quiet : (acts : List NodeAct) → are_quiet (map Node acts) ≡ true
nodes_quiet [] = refl
nodes_quiet (act ∷ acts) = nodes_quiet acts

pub drivers_quiet : (acts : List DriverAct) → are_quiet (map Driver acts) ≡ true
drivers_quiet [] = refl
drivers_quiet (act ∷ acts) = drivers_quiet acts

pub message_acts-append : (xs ys : List Act) → message_acts (xs ++ ys) ≡ message_acts xs ++ message_acts ys
message_acts-append [] ys = refl
message_acts-append (Message_act act ∷ xs) ys = ap (λ l. act ∷ l) (message_acts-append xs ys)
message_acts-append (Node act ∷ xs) ys = message_acts-append xs ys
message_acts-append (Driver act ∷ xs) ys = message_acts-append xs ys
message_acts-append (Bus act ∷ xs) ys = message_acts-append xs ys
message_acts-append (State act ∷ xs) ys = message_acts-append xs ys
message_acts-append (Queue act ∷ xs) ys = message_acts-append xs ys
message_acts-append (Disk_act act ∷ xs) ys = message_acts-append xs ys

pub quiet_unheard : (acts : List Act) → are_quiet acts ≡ true → message_acts acts ≡ []
quiet_unheard [] h = refl
quiet_unheard (Message_act act ∷ acts) h = cc
quiet_unheard (Disk_act act ∷ acts) h = cc
quiet_unheard (Node act ∷ acts) h = quiet_unheard acts h
quiet_unheard (Driver act ∷ acts) h = quiet_unheard acts h
quiet_unheard (Bus act ∷ acts) h = quiet_unheard acts h
quiet_unheard (State act ∷ acts) h = quiet_unheard acts h
quiet_unheard (Queue act ∷ acts) h = quiet_unheard acts h

-- ---- turns

pub refuse_quiet : (o : Option Errno) (turn : Turn Act) → Quiet turn → Quiet (refuse o turn)
refuse_quiet None turn h = h
refuse_quiet (Some errno) turn h = refl

pub option_quiet : {X : Type 0} (turn : X → Turn Act) (o : Option X) (other : Turn Act) → ((x : X) → Quiet (turn x)) → Quiet other → Quiet (option_map_or turn o other)
option_quiet turn None other h k = k
option_quiet turn (Some x) other h k = h x

pub if_quiet : (b : Bool) (turn other : Turn Act) → Quiet turn → Quiet other → Quiet (if b then turn else other)
if_quiet true turn other h k = h
if_quiet false turn other h k = k

if_acts_quiet : (b : Bool) (xs ys : List Act) → are_quiet xs ≡ true → are_quiet ys ≡ true → are_quiet (if b then xs else ys) ≡ true
if_acts_quiet true xs ys h k = h
if_acts_quiet false xs ys h k = k

read_quiet : {X : Type 0} (r : Result X ℕ) (turn : X → Turn Act) → ((x : X) → Quiet (turn x)) → Quiet (daemon.read_or r turn)
read_quiet (Ok x) turn h = h x
read_quiet (Err at) turn h = refl

chain_quiet : (e : Ending) (turn : Chain → Turn Act) → ((chain : Chain) → Quiet (turn chain)) → Quiet (daemon.chain_or e turn)
chain_quiet (whole chain) turn h = h chain
chain_quiet (faulty fault) turn h = refl
chain_quiet (missing at) turn h = refl

-- ---- the block daemon

pub walk_quiet : (x : Setting) (made : Creation) (done : List Act) (q head : ℕ) → Quiet (daemon.walk_turn x made done q head)
walk_quiet x made done q head = search (refuse_quiet, chain_quiet)

event_puts_quiet : (done : List Act) (place : RingPlace) (position : ℕ) → are_quiet (daemon.event_puts done place position) ≡ true
event_puts_quiet done place position = by (daemon.has_event_idx done) where
  by : (b : Bool) → are_quiet (if b then Node (Daemon_put (available_event_at place) (little_bytes 2 position)) ∷ [] else []) ≡ true
  by true = refl
  by false = refl

fetched_quiet : (done : List Act) (q : ℕ) (place : RingPlace) (position : ℕ) (chain : Chain) (bytes : List ℕ) → Quiet (daemon.fetched_turn done q place position chain bytes)
fetched_quiet done q place position chain bytes =
    append_quiet (daemon.event_puts done place (next16 position)) (Queue (Fetched q) ∷ []) (event_puts_quiet done place (next16 position)) refl

event_quiet : (x : Setting) (done : List Act) (place : RingPlace) (turn : Turn Act) → Quiet turn → Quiet (daemon.event_or x done place turn)
event_quiet x done place turn h = search (if_quiet, read_quiet, h)

fetch_chain_quiet : (x : Setting) (done : List Act) (q : ℕ) (place : RingPlace) (position : ℕ) (chain : Chain) → Quiet (daemon.fetch_chain x done q place position chain)
fetch_chain_quiet x done q place position chain = search (if_quiet, read_quiet, event_quiet, fetched_quiet)

fetch_at_quiet : (x : Setting) (done : List Act) (q : ℕ) (place : RingPlace) (position : ℕ) → Quiet (daemon.fetch_at x done q place position)
fetch_at_quiet x done q place position = search (read_quiet, chain_quiet, fetch_chain_quiet)

fetch_from_quiet : (x : Setting) (done : List Act) (q : ℕ) (place : RingPlace) (position : ℕ) → Quiet (daemon.fetch_from x done q place position)
fetch_from_quiet x done q place position = search (read_quiet, if_quiet, refuse_quiet, fetch_at_quiet)

pub fetch_quiet : (x : Setting) (made : Creation) (done : List Act) (q : ℕ) → Quiet (daemon.fetch_turn x made done q)
fetch_quiet x made done q = search (refuse_quiet, read_quiet, fetch_from_quiet)

unwritable_quiet : (m : Memory) (parts : List Part) (turn : Turn Act) → Quiet turn → Quiet (daemon.unwritable_or m parts turn)
unwritable_quiet m [] turn h = h
unwritable_quiet m (part ∷ parts) turn h = search (if_quiet, read_quiet, unwritable_quiet m parts turn h)

spread_quiet : (parts : List Part) (bytes : List ℕ) (acts : List Act) → are_quiet acts ≡ true → are_quiet (daemon.spread_acts parts bytes acts) ≡ true
spread_quiet [] bytes acts h = h
spread_quiet (part ∷ parts) bytes acts h =
    if_acts_quiet part.writable (daemon.spread_acts parts (drop part.len bytes) (Node (Daemon_put part.at (take part.len bytes)) ∷ acts)) (daemon.spread_acts parts bytes acts)
    (spread_quiet parts (drop part.len bytes) (Node (Daemon_put part.at (take part.len bytes)) ∷ acts) h) (spread_quiet parts bytes acts h)

finish_puts_quiet : (place : RingPlace) (used : ℕ) (h : daemon.Hand) (end : Execution) → are_quiet (daemon.finish_puts place used h end) ≡ true
finish_puts_quiet place used h end = spread_quiet h.parts (end.bytes ++ end.status ∷ []) [] refl

finished_quiet : (x : Setting) (done : List Act) (q : ℕ) (place : RingPlace) (used : ℕ) (h : daemon.Hand) (puts : List Act) → are_quiet puts ≡ true → Quiet (daemon.finished_turn x done q place used h puts)
finished_quiet x done q place used h puts quiet = read_quiet (number16 (daemon.daemon_memory x (puts ++ done)) (daemon.deciding_field done place)) _ (λ field. quiet)

finish_hand_quiet : (x : Setting) (done : List Act) (q : ℕ) (place : RingPlace) (used : ℕ) (h : daemon.Hand) (end : Execution) → Quiet (daemon.finish_hand x done q place used h end)
finish_hand_quiet x done q place used h end =
    let last : Quiet (daemon.finished_turn x done q place used h (daemon.finish_puts place used h end)) = finished_quiet x done q place used h (daemon.finish_puts place used h end) (finish_puts_quiet place used h end) in
    search (unwritable_quiet, read_quiet, last)

pub finish_quiet : (x : Setting) (made : Creation) (done : List Act) (q : ℕ) → Quiet (daemon.finish_turn x made done q)
finish_quiet x made done q = search (refuse_quiet, option_quiet, finish_hand_quiet)

-- ---- the driver's ring

pub ring_quiet : (x : Setting) (made : Creation) (done : List Act) (q size : ℕ) → Quiet (ring.ring_turn x made done q size)
ring_quiet x made done q size = search (refuse_quiet, option_quiet)

on_ring_quiet : (made : Creation) (done : List Act) (q : ℕ) (turn : Ring → Turn Act) → ((r : Ring) → Quiet (turn r)) → Quiet (ring.on_ring made done q turn)
on_ring_quiet made done q turn h = search (refuse_quiet, option_quiet, h)

unmapped_quiet : (o : Option Streaming) → are_quiet (option_map_or (λ m. Driver (Unmapped m) ∷ []) o []) ≡ true
unmapped_quiet None = refl
unmapped_quiet (Some m) = refl

unmaps_quiet : (mappings : List Streaming) (numbers : List ℕ) → are_quiet (ring.unmap_acts mappings numbers) ≡ true
unmaps_quiet mappings [] = refl
unmaps_quiet mappings (number ∷ numbers) =
    append_quiet (ring.unmap_acts mappings numbers) (ring.unmap_act mappings number) (unmaps_quiet mappings numbers) (unmapped_quiet (find (λ m. m.number == number) mappings))

frees_quiet : (buffer n : ℕ) → are_quiet (ring.free_acts buffer n) ≡ true
frees_quiet buffer zero = refl
frees_quiet buffer (suc n) = frees_quiet buffer n

ended_quiet : (mappings : List Streaming) (r : Request) → are_quiet (ring.request_end_acts mappings r) ≡ true
ended_quiet mappings r = append_quiet (ring.free_acts r.buffer r.buffers) (ring.unmap_acts mappings r.maps) (frees_quiet r.buffer r.buffers) (unmaps_quiet mappings r.maps)

request_quiet : (mappings : List Streaming) (o : Option Request) → are_quiet (option_map_or (ring.request_end_acts mappings) o []) ≡ true
request_quiet mappings None = refl
request_quiet mappings (Some r) = ended_quiet mappings r

requests_quiet : (mappings : List Streaming) (chains : List AddedChain) → are_quiet (ring.requests_end_acts mappings chains) ≡ true
requests_quiet mappings [] = refl
requests_quiet mappings (chain ∷ chains) =
    append_quiet (ring.requests_end_acts mappings chains) (option_map_or (ring.request_end_acts mappings) chain.request []) (requests_quiet mappings chains) (request_quiet mappings chain.request)

freed_quiet : (o : Option Coherent) → are_quiet (option_map_or (λ r. Driver (Region_freed r) ∷ []) o []) ≡ true
freed_quiet None = refl
freed_quiet (Some r) = refl

unring_acts_quiet : (done : List Act) (q : ℕ) (r : Ring) → are_quiet (ring.region_end_acts (live_regions done) r.region ++ ring.requests_end_acts (live_mappings done) (ring.by_head (chains_out done q) r.place.size)) ≡ true
unring_acts_quiet done q r =
    append_quiet (ring.region_end_acts (live_regions done) r.region) (ring.requests_end_acts (live_mappings done) (ring.by_head (chains_out done q) r.place.size))
    (freed_quiet (find (λ c. c.number == r.region) (live_regions done))) (requests_quiet (live_mappings done) (ring.by_head (chains_out done q) r.place.size))

pub unring_quiet : (made : Creation) (done : List Act) (q : ℕ) → Quiet (ring.unring_turn made done q)
unring_quiet made done q = search (on_ring_quiet, refuse_quiet, unring_acts_quiet)

descriptors_quiet : (r : RingPlace) (parts : List Part) (ds : List ℕ) → are_quiet (ring.descriptor_puts r parts ds) ≡ true
descriptors_quiet r [] ds = refl
descriptors_quiet r (part ∷ parts) [] = refl
descriptors_quiet r (part ∷ parts) (d ∷ []) = refl
descriptors_quiet r (part ∷ parts) (d ∷ e ∷ ds) = append_quiet (ring.descriptor_puts r parts (e ∷ ds)) _ (descriptors_quiet r parts (e ∷ ds)) refl

pub add_quiet : (made : Creation) (done : List Act) (q : ℕ) (parts : List Part) → Quiet (ring.add_turn made done q parts)
add_quiet made done q parts = search (on_ring_quiet, refuse_quiet, descriptors_quiet)

pub publish_quiet : (x : Setting) (made : Creation) (done : List Act) (q : ℕ) → Quiet (ring.publish_turn x made done q)
publish_quiet x made done q = search (on_ring_quiet)

maps_quiet : (ms : List Streaming) → are_quiet (ring.map_acts ms) ≡ true
maps_quiet [] = refl
maps_quiet (m ∷ ms) = append_quiet (ring.map_acts ms) (Driver (Mapped m) ∷ []) (maps_quiet ms) refl

buffers_quiet : (indirect : Bool) (a : ring.AskedRequest) (parts : List Part) → are_quiet (ring.buffer_acts indirect a parts) ≡ true
buffers_quiet true a parts = refl
buffers_quiet false a parts = refl

table_quiet : (r : RingPlace) (o : Option Streaming) (ds : List ℕ) → are_quiet (ring.table_puts r o ds) ≡ true
table_quiet r None ds = refl
table_quiet r (Some m) ds = refl

request_puts_quiet : (indirect : Bool) (r : RingPlace) (a : ring.AskedRequest) (ms : List Streaming) (parts : List Part) (ds : List ℕ) → are_quiet (ring.request_puts indirect r a ms parts ds) ≡ true
request_puts_quiet true r a ms parts ds = table_quiet r (ring.last_after (ring.parts_count a) ms) ds
request_puts_quiet false r a ms parts ds = descriptors_quiet r parts ds

request_acts_quiet : (done : List Act) (q : ℕ) (r : Ring) (indirect : Bool) (a : ring.AskedRequest) (ms : List Streaming) (parts : List Part) (ds : List ℕ) → are_quiet (ring.request_acts done q r indirect a ms parts ds) ≡ true
request_acts_quiet done q r indirect a ms parts ds =
    append_quiet (ring.request_puts indirect r.place a ms parts ds ++ ring.map_acts ms) (ring.buffer_acts indirect a parts)
    (append_quiet (ring.request_puts indirect r.place a ms parts ds) (ring.map_acts ms) (request_puts_quiet indirect r.place a ms parts ds) (maps_quiet ms))
    (buffers_quiet indirect a parts)

submitted_quiet : (x : Setting) (done : List Act) (q : ℕ) (r : Ring) (indirect : Bool) (a : ring.AskedRequest) (ms : List Streaming) (ds : List ℕ) → Quiet (ring.submitted_turn x done q r indirect a ms ds)
submitted_quiet x done q r indirect a ms ds = request_acts_quiet done q r indirect a ms (map ring.mapping_part (take (ring.parts_count a) ms)) ds

submit_asked_quiet : (x : Setting) (made : Creation) (done : List Act) (q : ℕ) (r : Ring) (indirect : Bool) (a : ring.AskedRequest) → Quiet (ring.submit_asked x made done q r indirect a)
submit_asked_quiet x made done q r indirect a = search (refuse_quiet, option_quiet, submitted_quiet)

pub submit_quiet : (x : Setting) (made : Creation) (done : List Act) (q : ℕ) (asked : SubmitForm) → Quiet (ring.submit_turn x made done q asked)
submit_quiet x made done q asked = search (on_ring_quiet, submit_asked_quiet)

used_event_quiet : (done : List Act) (r : RingPlace) (position : ℕ) → are_quiet (ring.used_event_puts done r position) ≡ true
used_event_quiet done r position = by (daemon.has_event_idx done) where
  by : (b : Bool) → are_quiet (if b then Driver (Driver_put (used_event_at r) (little_bytes 2 position)) ∷ [] else []) ≡ true
  by true = refl
  by false = refl

completed_quiet : (x : Setting) (done acts : List Act) (chain : AddedChain) (len : ℕ) → are_quiet acts ≡ true → Quiet (ring.completed_turn x done acts chain len)
completed_quiet x done acts chain len h = by chain.request where
  by : (o : Option Request) → Quiet (ring.completed_turn x done acts (record { head = chain.head; descriptors = chain.descriptors; request = o }) len)
  by None = h
  by (Some r) = append_quiet (ring.request_end_acts (live_mappings done) r) acts (ended_quiet (live_mappings done) r) h

reclaimed_quiet : (x : Setting) (done : List Act) (q : ℕ) (r : RingPlace) (id len : ℕ) → Quiet (ring.reclaimed_turn x done q r id len)
reclaimed_quiet x done q r id len = search (option_quiet, completed_quiet, used_event_quiet)

polled_quiet : (x : Setting) (done : List Act) (q : ℕ) (r : RingPlace) (used : ℕ) → Quiet (ring.polled_turn x done q r used)
polled_quiet x done q r used = search (refuse_quiet, if_quiet, reclaimed_quiet)

pub poll_quiet : (x : Setting) (made : Creation) (done : List Act) (q : ℕ) → Quiet (ring.poll_turn x made done q)
poll_quiet x made done q = search (on_ring_quiet, polled_quiet)
