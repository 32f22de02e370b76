-- The driver's lines on a queue's ring: making it, adding and publishing chains, block requests, and their completions.
use Rattle.std.specs.Prelude.{ℕ, zero, suc, ◌+◌, ◌-◌, ◌*◌, ◌/◌, ◌%◌, ◌^◌, List, [], ◌∷◌, ◌++◌, length, take, drop, replicate, map, Bool, true, false, ◌==◌, nat_lt, nat_le, ◌&&◌, ◌||◌, not, if◌then◌else◌, Option, Some, None, is_some, unwrap_or, find}
use Rattle.std.specs.List.{list_any}
use Rattle.std.specs.Option.{option_map, option_map_or}
use Rattle.vd_num.specs.Number.{pages_of, power_from}
use Rattle.vd_num.specs.Field.{field_at}
use Rattle.vd_num.specs.declared.errno.Errno.{Errno}
use Rattle.vd_num.specs.declared.errno.Errno.TheVariants.{Noent, Again, Busy, Exist, Inval, Nospc}
use Rattle.vd_model.specs.declared.memory.Dir.TheVariants.{To, From}
use Rattle.vd_model.specs.declared.memory.Want.{Want}
use Rattle.vd_model.specs.declared.queue.RingPlace.{RingPlace}
use Rattle.vd_model.specs.declared.parts.Part.{Part}
use Rattle.vd_model.specs.declared.step.SubmitForm.{SubmitForm}
use Rattle.vd_model.specs.declared.step.SubmitForm.TheVariants as form
use Rattle.vd_model.specs.declared.answer.Tag.TheVariants as tag
use Rattle.vd_model.specs.declared.answer.Item.{Item}
use Rattle.vd_model.specs.declared.answer.Item.TheVariants.{Word, Number, Address}
use Rattle.vd_model.specs.declared.answer.Answer.TheVariants as answer
use Rattle.vd_model.specs.Setting.{Setting}
use Rattle.vd_model.specs.Creation.{Creation}
use Rattle.vd_model.specs.Acts.{Act, Driver, Queue, Streaming, Coherent, AddedChain, Request, Buffer, Freed, Mapped, Unmapped, Region_made, Region_freed, Driver_put, Ring_made, Ring_dropped, Chain_added, Chains_published, Chain_reclaimed, state_acts}
use Rattle.vd_model.specs.State.{is_ready}
use Rattle.vd_model.specs.Live.{buffers, maps, regions, buffer_len, buffers_len, live_mappings, live_regions}
use Rattle.vd_model.specs.Place.{Slots, place_of, taken_slots}
use Rattle.vd_model.specs.Puts.{is_from_device, ram, bus_bytes}
use Rattle.vd_model.specs.Rings.{minus16, needs_event, available_index_at, available_slot_at, used_event_at, used_flags_at, used_index_at, used_element_at, available_event_at}
use Rattle.vd_model.specs.Turn.{Turn, refusal_turn, refuse, refusal_if, done_with}
use Rattle.vd_model.specs.DriverTurns.{buffer_limit, want_of}
use Rattle.vd_model.specs.BusTurns.{is_missing}
use Rattle.vd_model.specs.Raw.{little_bytes}
use Rattle.vd_model.specs.Queues.{Ring, ring_of, added_count, reclaimed_count, published_count, chains_out, published_chains_out, free_descriptors, some_pending, made_buffer}
use Rattle.vd_model.specs.DaemonTurns.{has_indirect, has_event_idx}

-- ---- a ring

-- the available ring stands behind the table, and the used ring behind it at a multiple of 4 (virtio 1.2, section 2.7)
abbrev pub driver_offset : ℕ → ℕ
driver_offset size = 16 * size

abbrev pub device_offset : ℕ → ℕ
device_offset size = 4 * ((driver_offset size + 6 + 2 * size + 3) / 4)

abbrev pub ring_bytes : ℕ → ℕ
ring_bytes size = device_offset size + 6 + 8 * size

-- the ring of this size in the region at a slot
abbrev pub ring_at : ℕ → ℕ → RingPlace
ring_at size slot = record { size = size; desc = 4096 * slot; driver = 4096 * slot + driver_offset size; device = 4096 * slot + device_offset size }

abbrev pub ring_items : ℕ → RingPlace → List Item
ring_items region r =
    Number region ∷ Word tag.Desc ∷ Address r.desc ∷ Word tag.Driver ∷ Address r.driver ∷ Word tag.Device ∷ Address r.device ∷ []

abbrev pub made_ring_turn : List Act → ℕ → ℕ → ℕ → Turn Act
made_ring_turn done q size slot =
    done_with (ring_items (regions done) (ring_at size slot))
    (Queue (Ring_made q (ring_at size slot) (regions done))
    ∷ Driver (Region_made (record { number = regions done; slot = slot; len = ring_bytes size })) ∷ [])

-- a size is a power of two up to 32,768
abbrev pub is_ring_size : ℕ → Bool
is_ring_size size = nat_le size 32768 && (power_from size == size)

abbrev pub ring_turn : Setting → Creation → List Act → ℕ → ℕ → Turn Act
ring_turn x made done q size =
    refuse (refusal_if (is_missing made q) Inval)
    (refuse (refusal_if (not (is_ring_size size)) Inval)
    (refuse (refusal_if (is_some (ring_of done q)) Exist)
    (option_map_or (made_ring_turn done q size) (place_of (taken_slots done) (pages_of (ring_bytes size)) x.bounce x.iova) (refusal_turn Nospc))))

-- a line on a queue's ring, which is refused where there is no such queue or it has none
abbrev pub on_ring : Creation → List Act → ℕ → (Ring → Turn Act) → Turn Act
on_ring made done q turn = refuse (refusal_if (is_missing made q) Inval) (option_map_or turn (ring_of done q) (refusal_turn Noent))

-- ---- the end of a request

-- the live mapping of a number, to be unmapped
abbrev pub unmap_act : List Streaming → ℕ → List Act
unmap_act mappings number = option_map_or (λ m. Driver (Unmapped m) ∷ []) (find (λ m. m.number == number) mappings) []

-- the acts that unmap these mappings, the first of them the oldest
abbrev pub unmap_acts : List Streaming → List ℕ → List Act
unmap_acts mappings [] = []
unmap_acts mappings (number ∷ numbers) = unmap_acts mappings numbers ++ unmap_act mappings number

-- the acts that free n buffers from this one on
abbrev pub free_acts : ℕ → ℕ → List Act
free_acts buffer zero = []
free_acts buffer (suc n) = Driver (Freed (buffer + n)) ∷ free_acts buffer n

-- a request ends: its mappings are unmapped in the order of mapping, and then its buffers are freed
abbrev pub request_end_acts : List Streaming → Request → List Act
request_end_acts mappings r = free_acts r.buffer r.buffers ++ unmap_acts mappings r.maps

-- ---- unring

-- of some chains, those with a head below n, by ascending head
abbrev pub by_head : List AddedChain → ℕ → List AddedChain
by_head chains zero = []
by_head chains (suc n) = by_head chains n ++ at_head (find (λ chain. chain.head == n) chains) where
  at_head : Option AddedChain → List AddedChain
  at_head None = []
  at_head (Some chain) = chain ∷ []

-- the acts that end the requests of these chains, the first of them the oldest
abbrev pub requests_end_acts : List Streaming → List AddedChain → List Act
requests_end_acts mappings [] = []
requests_end_acts mappings (chain ∷ chains) = requests_end_acts mappings chains ++ option_map_or (request_end_acts mappings) chain.request []

-- the end of a region
abbrev pub region_end_acts : List Coherent → ℕ → List Act
region_end_acts held region = option_map_or (λ r. Driver (Region_freed r) ∷ []) (find (λ r. r.number == region) held) []

abbrev pub unring_turn : Creation → List Act → ℕ → Turn Act
unring_turn made done q =
    on_ring made done q (λ ring.
    refuse (refusal_if (is_ready (state_acts done) q) Busy)
    (done_with []
    (Queue (Ring_dropped q) ∷ region_end_acts (live_regions done) ring.region
    ++ requests_end_acts (live_mappings done) (by_head (chains_out done q) ring.place.size))))

-- ---- adding chains

-- the sixteen bytes of a descriptor (virtio 1.2, section 2.7.5)
abbrev pub descriptor_bytes : ℕ → ℕ → ℕ → ℕ → List ℕ
descriptor_bytes at len flags next = little_bytes 8 at ++ little_bytes 4 len ++ little_bytes 2 flags ++ little_bytes 2 next

-- the flags of a descriptor: NEXT 1, WRITE 2
abbrev pub flags_of : Bool → Bool → ℕ
flags_of has_next writable = (if has_next then 1 else 0) + (if writable then 2 else 0)

-- the puts of the descriptors of some parts, each but the last with the next one's index
abbrev pub descriptor_puts : RingPlace → List Part → List ℕ → List Act
descriptor_puts r [] ds = []
descriptor_puts r (part ∷ parts) [] = []
descriptor_puts r (part ∷ parts) (d ∷ []) = Driver (Driver_put (r.desc + 16 * d) (descriptor_bytes part.at part.len (flags_of false part.writable) 0)) ∷ []
descriptor_puts r (part ∷ parts) (d ∷ e ∷ ds) =
    descriptor_puts r parts (e ∷ ds) ++ Driver (Driver_put (r.desc + 16 * d) (descriptor_bytes part.at part.len (flags_of true part.writable) e)) ∷ []

-- the put of a head into the available ring's next slot
abbrev pub slot_put : RingPlace → ℕ → ℕ → Act
slot_put r n head = Driver (Driver_put (available_slot_at r n) (little_bytes 2 head))

-- the first of some numbers
abbrev pub first_of : List ℕ → ℕ
first_of [] = 0
first_of (d ∷ ds) = d

-- the chain of these parts in these descriptors
abbrev pub chain_acts : List Act → ℕ → RingPlace → List Part → List ℕ → Option Request → List Act
chain_acts done q r parts ds request =
    Queue (Chain_added q (record { head = first_of ds; descriptors = ds; request = request }))
    ∷ slot_put r (added_count done q) (first_of ds)
    ∷ descriptor_puts r parts ds

-- a part that the device reads comes after one that it writes
abbrev pub is_out_of_order : List Part → Bool
is_out_of_order [] = false
is_out_of_order (part ∷ parts) = (part.writable && list_any (λ p. not p.writable) parts) || is_out_of_order parts

-- there are more parts than free descriptors
abbrev pub is_full : ℕ → List AddedChain → ℕ → Bool
is_full size chains n = nat_lt (length (free_descriptors size chains)) n

abbrev pub add_turn : Creation → List Act → ℕ → List Part → Turn Act
add_turn made done q parts =
    on_ring made done q (λ ring.
    refuse (refusal_if (is_out_of_order parts) Inval)
    (refuse (refusal_if (is_full ring.place.size (chains_out done q) (length parts)) Nospc)
    (done_with (Word tag.Head ∷ Number (first_of (free_descriptors ring.place.size (chains_out done q))) ∷ [])
    (chain_acts done q ring.place parts (take (length parts) (free_descriptors ring.place.size (chains_out done q))) None))))

-- ---- publishing

-- the number of two bytes at an address
abbrev pub number_at : Setting → List Act → ℕ → ℕ
number_at x done at = field_at 2 (bus_bytes x.per_page done at 2) 0

-- the device is to be kicked when the available index goes from old to new: with EVENT_IDX where it asked to be told of
-- that index, else unless bit 0 of the used ring's flags asks for none; and never where nothing was added
abbrev pub wants_kick : Setting → List Act → RingPlace → ℕ → ℕ → ℕ
wants_kick x done r new old =
    if new == old then 0
    else if has_event_idx done then (if needs_event (number_at x done (available_event_at r)) (new % 65536) (old % 65536) then 1 else 0)
    else (if number_at x done (used_flags_at r) % 2 == 0 then 1 else 0)

abbrev pub publish_acts : List Act → ℕ → RingPlace → List Act
publish_acts done q r = Queue (Chains_published q) ∷ Driver (Driver_put (available_index_at r) (little_bytes 2 (added_count done q))) ∷ []

abbrev pub publish_items : Setting → List Act → ℕ → RingPlace → List Item
publish_items x done q r =
    Word tag.Idx ∷ Number (added_count done q % 65536) ∷ Word tag.Kick ∷ Number (wants_kick x done r (added_count done q) (published_count done q)) ∷ []

abbrev pub publish_turn : Setting → Creation → List Act → ℕ → Turn Act
publish_turn x made done q = on_ring made done q (λ ring. done_with (publish_items x done q ring.place) (publish_acts done q ring.place))

-- ---- submitting

-- what a form asks: its type, its sector, the range of a buffer that it maps, if any, and which lengths it takes
pub record AskedRequest : Type 0 where
  pub kind : ℕ
  pub sector : ℕ
  pub want : Option Want

abbrev pub asked_by : SubmitForm → AskedRequest
asked_by (form.Read sector buffer offset len) = record { kind = 0; sector = sector; want = Some (want_of buffer offset len From) }
asked_by (form.Write sector buffer offset len) = record { kind = 1; sector = sector; want = Some (want_of buffer offset len To) }
asked_by form.Flush = record { kind = 4; sector = 0; want = None }
asked_by (form.Id buffer offset) = record { kind = 8; sector = 0; want = Some (want_of buffer offset 20 From) }

-- a length is a multiple of 512 from 512 to 1,048,576; that of an id is 20
abbrev pub is_bad_len : ℕ → ℕ → Bool
is_bad_len kind len = not (kind == 8) && (nat_lt len 512 || nat_lt 1048576 len || not (len % 512 == 0))

-- the range is refused: there is no such buffer, a pending request made it, or the length or the range is wrong
abbrev pub want_refusal : Creation → List Act → ℕ → Option Want → Option Errno
want_refusal made done kind None = None
want_refusal made done kind (Some want) = option_map_or (λ size. in_buffer size) (buffer_len done want.buffer) (Some Noent) where
  in_buffer : ℕ → Option Errno
  in_buffer size =
      if some_pending (made_buffer want.buffer) done made.queues then Some Busy
      else refusal_if (is_bad_len kind want.len || nat_lt size (want.offset + want.len)) Inval

-- the buffers that a request makes: the header and the status byte, and with INDIRECT_DESC a table of a descriptor a part
abbrev pub parts_count : AskedRequest → ℕ
parts_count a = if is_some a.want then 3 else 2

abbrev pub table_len : AskedRequest → ℕ
table_len a = 16 * parts_count a

abbrev pub made_len : Bool → AskedRequest → ℕ
made_len indirect a = if indirect then 17 + table_len a else 17

abbrev pub header_and_status : AskedRequest → List ℕ
header_and_status a = little_bytes 4 a.kind ++ little_bytes 4 0 ++ little_bytes 8 a.sector ++ 255 ∷ []

-- the wants of a request, in the order of mapping: the header, the range, the status and the table
abbrev pub given_want : Option Want → List Want
given_want None = []
given_want (Some want) = want ∷ []

abbrev pub part_wants : ℕ → AskedRequest → List Want
part_wants buffer a =
    record { buffer = buffer; offset = 0; len = 16; dir = To } ∷ given_want a.want
    ++ record { buffer = buffer; offset = 16; len = 1; dir = From } ∷ []

abbrev pub table_wants : Bool → ℕ → AskedRequest → List Want
table_wants indirect buffer a = if indirect then record { buffer = buffer + 1; offset = 0; len = table_len a; dir = To } ∷ [] else []

-- the mappings of some wants from this number on, each at its place after those before it, or None where one has none
abbrev pub placed_mapping : Want → ℕ → Option ℕ → (ℕ → Option (List Streaming)) → Option (List Streaming)
placed_mapping want number None more = None
placed_mapping want number (Some slot) more = option_map (λ ms. record { number = number; slot = slot; want = want } ∷ ms) (more slot)

abbrev pub placed_mappings : Setting → List Slots → ℕ → List Want → Option (List Streaming)
placed_mappings x held number [] = Some []
placed_mappings x held number (want ∷ wants) =
    placed_mapping want number (place_of held (pages_of want.len) x.per_page x.bounce)
    (λ slot. placed_mappings x (held ++ record { start = slot; count = pages_of want.len } ∷ []) (number + 1) wants)

-- the part of a mapping: the device writes what comes from it
abbrev pub mapping_part : Streaming → Part
mapping_part m = record { at = 4096 * m.slot; len = m.want.len; writable = is_from_device m.want.dir }

-- the descriptors of an indirect table, the k-th of them next to the one after it
abbrev pub table_bytes : ℕ → List Part → List ℕ
table_bytes k [] = []
table_bytes k (part ∷ []) = descriptor_bytes part.at part.len (flags_of false part.writable) 0
table_bytes k (part ∷ parts) = descriptor_bytes part.at part.len (flags_of true part.writable) (k + 1) ++ table_bytes (k + 1) parts

-- the buffers, the newest first
abbrev pub buffer_acts : Bool → AskedRequest → List Part → List Act
buffer_acts indirect a parts = if indirect then Driver (Buffer (table_bytes 0 parts)) ∷ Driver (Buffer (header_and_status a)) ∷ [] else Driver (Buffer (header_and_status a)) ∷ []

-- the mappings, the first of them the oldest
abbrev pub map_acts : List Streaming → List Act
map_acts [] = []
map_acts (m ∷ ms) = map_acts ms ++ Driver (Mapped m) ∷ []

-- the device writes so many bytes
abbrev pub writable_of : List Part → ℕ
writable_of [] = 0
writable_of (part ∷ parts) = (if part.writable then part.len else 0) + writable_of parts

-- the chain of a request: its parts, or one descriptor that names their table (INDIRECT 4)
abbrev pub table_puts : RingPlace → Option Streaming → List ℕ → List Act
table_puts r None ds = []
table_puts r (Some m) ds = Driver (Driver_put (r.desc + 16 * first_of ds) (descriptor_bytes (4096 * m.slot) m.want.len 4 0)) ∷ []

-- the mapping behind the first n
abbrev pub last_after : ℕ → List Streaming → Option Streaming
last_after n ms = first (drop n ms) where
  first : List Streaming → Option Streaming
  first [] = None
  first (m ∷ ms) = Some m

abbrev pub request_puts : Bool → RingPlace → AskedRequest → List Streaming → List Part → List ℕ → List Act
request_puts indirect r a ms parts ds =
    if indirect then table_puts r (last_after (parts_count a) ms) ds else descriptor_puts r parts ds

abbrev pub request_acts : List Act → ℕ → Ring → Bool → AskedRequest → List Streaming → List Part → List ℕ → List Act
request_acts done q ring indirect a ms parts ds =
    Queue (Chain_added q (record {
      head = first_of ds;
      descriptors = ds;
      request = Some (record { buffer = buffers done; buffers = (if indirect then 2 else 1); maps = map (λ m. m.number) ms; writable = writable_of parts });
    }))
    ∷ slot_put ring.place (added_count done q) (first_of ds)
    ∷ request_puts indirect ring.place a ms parts ds ++ map_acts ms ++ buffer_acts indirect a parts

-- a request is placed and published
abbrev pub submitted_turn : Setting → List Act → ℕ → Ring → Bool → AskedRequest → List Streaming → List ℕ → Turn Act
submitted_turn x done q ring indirect a ms ds =
    let acts = request_acts done q ring indirect a ms (map mapping_part (take (parts_count a) ms)) ds in
    done_with (Word tag.Head ∷ Number (first_of ds) ∷ publish_items x (acts ++ done) q ring.place ++ Word tag.Buf ∷ Number (buffers done) ∷ Word tag.Map ∷ Number (maps done) ∷ [])
    (publish_acts (acts ++ done) q ring.place ++ acts)

-- how many descriptors the ring needs for it
abbrev pub needed_descriptors : Bool → AskedRequest → ℕ
needed_descriptors indirect a = if indirect then 1 else parts_count a

abbrev pub submit_asked : Setting → Creation → List Act → ℕ → Ring → Bool → AskedRequest → Turn Act
submit_asked x made done q ring indirect a =
    refuse (want_refusal made done a.kind a.want)
    (refuse (refusal_if (nat_lt buffer_limit (buffers_len done + made_len indirect a)) Nospc)
    (refuse (refusal_if (is_full ring.place.size (chains_out done q) (needed_descriptors indirect a)) Nospc)
    (option_map_or
    (λ ms. submitted_turn x done q ring indirect a ms (take (needed_descriptors indirect a) (free_descriptors ring.place.size (chains_out done q))))
    (placed_mappings x (taken_slots done) (maps done) (part_wants (buffers done) a ++ table_wants indirect (buffers done) a))
    (refusal_turn Nospc))))

abbrev pub submit_turn : Setting → Creation → List Act → ℕ → SubmitForm → Turn Act
submit_turn x made done q asked = on_ring made done q (λ ring. submit_asked x made done q ring (has_indirect done) (asked_by asked))

-- ---- completions

-- with EVENT_IDX the driver asks to be told of its next used index
abbrev pub used_event_puts : List Act → RingPlace → ℕ → List Act
used_event_puts done r position =
    if has_event_idx done then Driver (Driver_put (used_event_at r) (little_bytes 2 position)) ∷ [] else []

-- the reply of a chain that was added by hand, and of a request: its status byte, unless fewer bytes were used than it has
abbrev pub completed_turn : Setting → List Act → List Act → AddedChain → ℕ → Turn Act
completed_turn x done acts chain len = by chain.request where
  by : Option Request → Turn Act
  by None = done_with (Word tag.Head ∷ Number chain.head ∷ Word tag.Len ∷ Number len ∷ []) acts
  by (Some r) =
      done_with
      (Word tag.Head ∷ Number chain.head ∷ Word tag.Len ∷ Number len ∷ Word tag.Status
      ∷ (if nat_lt len r.writable then Word tag.Dash else Number (ram x.per_page (unmap_acts (live_mappings done) r.maps ++ done) r.buffer 16)) ∷ [])
      (request_end_acts (live_mappings done) r ++ acts)

-- the next used element, where its id is the head of a published chain
abbrev pub reclaimed_turn : Setting → List Act → ℕ → RingPlace → ℕ → ℕ → Turn Act
reclaimed_turn x done q r id len =
    option_map_or
    (λ chain. completed_turn x done (Queue (Chain_reclaimed q chain.head) ∷ used_event_puts done r (reclaimed_count done q + 1)) chain len)
    (find (λ chain. chain.head == id) (published_chains_out done q))
    (record { answer = answer.BadId id; acts = [] })

-- the used index is ahead of all that was published
abbrev pub polled_turn : Setting → List Act → ℕ → RingPlace → ℕ → Turn Act
polled_turn x done q r used =
    refuse (refusal_if (used == reclaimed_count done q % 65536) Again)
    (if nat_lt (length (published_chains_out done q)) (minus16 used (reclaimed_count done q % 65536))
    then record { answer = answer.UsedAhead used (published_count done q % 65536); acts = [] }
    else reclaimed_turn x done q r
    (field_at 4 (bus_bytes x.per_page done (used_element_at r (reclaimed_count done q)) 8) 0)
    (field_at 4 (bus_bytes x.per_page done (used_element_at r (reclaimed_count done q)) 8) 4))

abbrev pub poll_turn : Setting → Creation → List Act → ℕ → Turn Act
poll_turn x made done q = on_ring made done q (λ ring. polled_turn x done q ring.place (number_at x done (used_index_at ring.place)))
