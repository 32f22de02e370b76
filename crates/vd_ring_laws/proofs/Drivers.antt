-- Acts of the driver on its memory, which touch no chain.
use Rattle.std.proofs.Common.{◌≡◌, ℕ, zero, suc, Bool, true, false, refl, ap, ◌∙◌, Option, None, Some, List, [], ◌∷◌, ◌++◌, ◌&&◌, ◌==◌, find, if◌then◌else◌}
use Rattle.std.specs.List.{list_all}
use Rattle.std.specs.Option.{option_map_or}
use Rattle.std.proofs.lemmas.Bool.{and_parts}
use Rattle.std.proofs.lemmas.List.Folds.{list_all-append}
use Rattle.vd_model.specs.declared.queue.RingPlace.{RingPlace}
use Rattle.vd_model.specs.declared.parts.Part.{Part}
use Rattle.vd_model.specs.Live.{live_mappings, live_regions}
use Rattle.vd_model.specs.Rings.{used_event_at}
use Rattle.vd_model.specs.Raw.{little_bytes}
use Rattle.vd_model.specs.Acts.{Act, Driver_put, Mapped, Unmapped, Region_freed, Streaming, Coherent, AddedChain, Request, Driver}
use Rattle.vd_model.specs.Queues.{Ring, ring_of, chains_out, published_chains_out}
use Rattle.vd_model.specs.DaemonTurns as daemon
use Rattle.vd_model.specs.RingTurns as ring

-- the act is the driver's, on its memory
abbrev pub is_driver : Act → Bool
is_driver (Driver act) = true
is_driver _ = false

abbrev pub are_driver : List Act → Bool
are_driver acts = list_all is_driver acts

both : {b c : Bool} → b ≡ true → c ≡ true → (b && c) ≡ true
both {b} {c} h k = ap (λ b. b && c) h ∙ k

pub append_driver : (xs ys : List Act) → are_driver xs ≡ true → are_driver ys ≡ true → are_driver (xs ++ ys) ≡ true
append_driver xs ys h k = list_all-append is_driver xs ys ∙ both h k

-- ---- what they keep

next_ring : (act : Act) (acts : List Act) (q : ℕ) → is_driver act ≡ true → ring_of (act ∷ acts) q ≡ ring_of acts q
next_ring (Driver act) acts q e = refl
next_ring _ acts q e = cc

pub ring_kept : (made acts : List Act) (q : ℕ) → are_driver made ≡ true → ring_of (made ++ acts) q ≡ ring_of acts q
ring_kept [] acts q e = refl
ring_kept (act ∷ made) acts q e = let p = and_parts (is_driver act) (are_driver made) e in next_ring act (made ++ acts) q p.0 ∙ ring_kept made acts q p.1

next_out : (act : Act) (acts : List Act) (q : ℕ) → is_driver act ≡ true → chains_out (act ∷ acts) q ≡ chains_out acts q
next_out (Driver act) acts q e = refl
next_out _ acts q e = cc

pub chains_out_kept : (made acts : List Act) (q : ℕ) → are_driver made ≡ true → chains_out (made ++ acts) q ≡ chains_out acts q
chains_out_kept [] acts q e = refl
chains_out_kept (act ∷ made) acts q e = let p = and_parts (is_driver act) (are_driver made) e in next_out act (made ++ acts) q p.0 ∙ chains_out_kept made acts q p.1

next_published : (act : Act) (acts : List Act) (q : ℕ) → is_driver act ≡ true → published_chains_out (act ∷ acts) q ≡ published_chains_out acts q
next_published (Driver act) acts q e = refl
next_published _ acts q e = cc

pub published_kept : (made acts : List Act) (q : ℕ) → are_driver made ≡ true → published_chains_out (made ++ acts) q ≡ published_chains_out acts q
published_kept [] acts q e = refl
published_kept (act ∷ made) acts q e = let p = and_parts (is_driver act) (are_driver made) e in next_published act (made ++ acts) q p.0 ∙ published_kept made acts q p.1

-- ---- what they are

unmapped_driver : (o : Option Streaming) → are_driver (option_map_or (λ m. Driver (Unmapped m) ∷ []) o []) ≡ true
unmapped_driver None = refl
unmapped_driver (Some m) = refl

unmaps_driver : (mappings : List Streaming) (numbers : List ℕ) → are_driver (ring.unmap_acts mappings numbers) ≡ true
unmaps_driver mappings [] = refl
unmaps_driver mappings (number ∷ numbers) =
    append_driver (ring.unmap_acts mappings numbers) (ring.unmap_act mappings number) (unmaps_driver mappings numbers) (unmapped_driver (find (λ m. m.number == number) mappings))

frees_driver : (buffer n : ℕ) → are_driver (ring.free_acts buffer n) ≡ true
frees_driver buffer zero = refl
frees_driver buffer (suc n) = frees_driver buffer n

pub ended_driver : (mappings : List Streaming) (r : Request) → are_driver (ring.request_end_acts mappings r) ≡ true
ended_driver mappings r = append_driver (ring.free_acts r.buffer r.buffers) (ring.unmap_acts mappings r.maps) (frees_driver r.buffer r.buffers) (unmaps_driver mappings r.maps)

pub request_driver : (mappings : List Streaming) (o : Option Request) → are_driver (option_map_or (ring.request_end_acts mappings) o []) ≡ true
request_driver mappings None = refl
request_driver mappings (Some r) = ended_driver mappings r

requests_driver : (mappings : List Streaming) (chains : List AddedChain) → are_driver (ring.requests_end_acts mappings chains) ≡ true
requests_driver mappings [] = refl
requests_driver mappings (chain ∷ chains) =
    append_driver (ring.requests_end_acts mappings chains) (option_map_or (ring.request_end_acts mappings) chain.request []) (requests_driver mappings chains) (request_driver mappings chain.request)

freed_driver : (o : Option Coherent) → are_driver (option_map_or (λ r. Driver (Region_freed r) ∷ []) o []) ≡ true
freed_driver None = refl
freed_driver (Some r) = refl

pub unring_acts_driver : (done : List Act) (q : ℕ) (r : Ring) → are_driver (ring.region_end_acts (live_regions done) r.region ++ ring.requests_end_acts (live_mappings done) (ring.by_head (chains_out done q) r.place.size)) ≡ true
unring_acts_driver done q r =
    append_driver (ring.region_end_acts (live_regions done) r.region) (ring.requests_end_acts (live_mappings done) (ring.by_head (chains_out done q) r.place.size))
    (freed_driver (find (λ c. c.number == r.region) (live_regions done))) (requests_driver (live_mappings done) (ring.by_head (chains_out done q) r.place.size))

pub descriptors_driver : (r : RingPlace) (parts : List Part) (ds : List ℕ) → are_driver (ring.descriptor_puts r parts ds) ≡ true
descriptors_driver r [] ds = refl
descriptors_driver r (part ∷ parts) [] = refl
descriptors_driver r (part ∷ parts) (d ∷ []) = refl
descriptors_driver r (part ∷ parts) (d ∷ e ∷ ds) = append_driver (ring.descriptor_puts r parts (e ∷ ds)) _ (descriptors_driver r parts (e ∷ ds)) refl

pub maps_driver : (ms : List Streaming) → are_driver (ring.map_acts ms) ≡ true
maps_driver [] = refl
maps_driver (m ∷ ms) = append_driver (ring.map_acts ms) (Driver (Mapped m) ∷ []) (maps_driver ms) refl

pub buffers_driver : (indirect : Bool) (a : ring.AskedRequest) (parts : List Part) → are_driver (ring.buffer_acts indirect a parts) ≡ true
buffers_driver true a parts = refl
buffers_driver false a parts = refl

table_driver : (r : RingPlace) (o : Option Streaming) (ds : List ℕ) → are_driver (ring.table_puts r o ds) ≡ true
table_driver r None ds = refl
table_driver r (Some m) ds = refl

pub request_puts_driver : (indirect : Bool) (r : RingPlace) (a : ring.AskedRequest) (ms : List Streaming) (parts : List Part) (ds : List ℕ) → are_driver (ring.request_puts indirect r a ms parts ds) ≡ true
request_puts_driver true r a ms parts ds = table_driver r (ring.last_after (ring.parts_count a) ms) ds
request_puts_driver false r a ms parts ds = descriptors_driver r parts ds

pub used_event_driver : (done : List Act) (r : RingPlace) (position : ℕ) → are_driver (ring.used_event_puts done r position) ≡ true
used_event_driver done r position = by (daemon.has_event_idx done) where
  by : (b : Bool) → are_driver (if b then Driver (Driver_put (used_event_at r) (little_bytes 2 position)) ∷ [] else []) ≡ true
  by true = refl
  by false = refl
