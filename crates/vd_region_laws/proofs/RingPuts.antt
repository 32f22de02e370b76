-- What a driver writes into a ring lies in the ring's region.
use Rattle.std.proofs.Common.{◌≡◌, ℕ, zero, suc, ◌+◌, ◌*◌, ◌%◌, ◌^◌, ◌<◌, ◌≤◌, Bool, true, false, refl, ap, subst, sym, arith, Option, None, Some, List, [], ◌∷◌, ◌==◌, not, find, length, take, if◌then◌else◌, inl, inr}
use Rattle.std.specs.Option.{option_map_or}
use Rattle.std.proofs.lemmas.Nat.{mod_below}
use Rattle.std.proofs.Math.Nat.{mod-eq_of_lt}
use Rattle.vd_num.specs.Number.{pages_of}
use Rattle.vd_model.specs.declared.queue.RingPlace.{RingPlace}
use Rattle.vd_model.specs.declared.parts.Part.{Part}
use Rattle.vd_model.specs.Setting.{Setting}
use Rattle.vd_model.specs.Acts.{Act, AddedChain, Coherent, Request, Streaming, Driver, Mapped, Unmapped, Driver_put}
use Rattle.vd_model.specs.Queues.{Ring, numbers_below, is_in_chains, free_descriptors}
use Rattle.vd_model.specs.Raw.{little_bytes}
use Rattle.vd_model.specs.Rings.{ring_address, available_slot_at, available_index_at, used_event_at}
use Rattle.vd_model.specs.DaemonTurns.{has_event_idx}
use Rattle.vd_model.specs.RingTurns.{AskedRequest, ring_bytes, driver_offset, unmap_act, unmap_acts, free_acts, request_end_acts, requests_end_acts, descriptor_bytes, flags_of, descriptor_puts, first_of, table_puts, last_after, parts_count, request_puts, map_acts, buffer_acts, used_event_puts}
use Rattle.vd_laws.specs.Among.{Among}
use Rattle.vd_laws.specs.Runs.{IsAddressed}
use Rattle.vd_laws.proofs.Lists.{pushed, filtered}
use Rattle.vd_laws.proofs.Legal.{IsHigh}
use Rattle.vd_region_laws.specs.RegionLaw.{IsInside, IsHoused}
use Rattle.vd_region_laws.proofs.Lines.{inside}
use Rattle.vd_region_laws.proofs.Standing.{AreQuiet, append_quiet}

-- ---- descriptors of the ring

among_take : (n k : ℕ) (xs : List ℕ) → Among k (take n xs) → Among k xs
among_take zero k xs h = absurd h
among_take (suc n) k [] h = absurd h
among_take (suc n) k (x ∷ xs) (inl e) = inl e
among_take (suc n) k (x ∷ xs) (inr h) = inr (among_take n k xs h)

among_below : (n k : ℕ) → Among k (numbers_below n) → k < n
among_below zero k h = absurd h
among_below (suc n) k h = elim (pushed k n (numbers_below n) h) [ inl j ↦ (let l = among_below n k j in omega arith) | inr e ↦ omega arith ]

-- each of them is below the ring's size
abbrev pub AreBelow : ℕ → List ℕ → Type 0
AreBelow size ds = (d : ℕ) → Among d ds → d < size

pub free_below : (size : ℕ) (chains : List AddedChain) (n : ℕ) → AreBelow size (take n (free_descriptors size chains))
free_below size chains n d h = among_below size d (filtered (λ d. not (is_in_chains chains d)) d (numbers_below size) (among_take n d (free_descriptors size chains) h)).0

first_below : (size : ℕ) (ds : List ℕ) → 0 < size → AreBelow size ds → first_of ds < size
first_below size [] some low = some
first_below size (d ∷ ds) some low = low d (inl refl)

-- ---- acts that put nothing

module _ (x : Setting) (held : List Coherent) where
  unmap_quiet : (o : Option Streaming) → AreQuiet x held (option_map_or (λ m. Driver (Unmapped m) ∷ []) o [])
  unmap_quiet None = tt
  unmap_quiet (Some m) = (tt, tt)

  unmaps_quiet : (mappings : List Streaming) (numbers : List ℕ) → AreQuiet x held (unmap_acts mappings numbers)
  unmaps_quiet mappings [] = tt
  unmaps_quiet mappings (n ∷ ns) = append_quiet x held (unmap_acts mappings ns) (unmap_act mappings n) (unmaps_quiet mappings ns) (unmap_quiet (find (λ m. m.number == n) mappings))

  frees_quiet : (buffer n : ℕ) → AreQuiet x held (free_acts buffer n)
  frees_quiet buffer zero = tt
  frees_quiet buffer (suc n) = (tt, frees_quiet buffer n)

  pub end_quiet : (mappings : List Streaming) (r : Request) → AreQuiet x held (request_end_acts mappings r)
  end_quiet mappings r = append_quiet x held (free_acts r.buffer r.buffers) (unmap_acts mappings r.maps) (frees_quiet r.buffer r.buffers) (unmaps_quiet mappings r.maps)

  request_quiet : (mappings : List Streaming) (o : Option Request) → AreQuiet x held (option_map_or (request_end_acts mappings) o [])
  request_quiet mappings None = tt
  request_quiet mappings (Some r) = end_quiet mappings r

  pub requests_quiet : (mappings : List Streaming) (chains : List AddedChain) → AreQuiet x held (requests_end_acts mappings chains)
  requests_quiet mappings [] = tt
  requests_quiet mappings (c ∷ cs) =
      append_quiet x held (requests_end_acts mappings cs) (option_map_or (request_end_acts mappings) c.request []) (requests_quiet mappings cs) (request_quiet mappings c.request)

  pub maps_quiet : (ms : List Streaming) → AreQuiet x held (map_acts ms)
  maps_quiet [] = tt
  maps_quiet (m ∷ ms) = append_quiet x held (map_acts ms) (Driver (Mapped m) ∷ []) (maps_quiet ms) (tt, tt)

  pub buffers_quiet : (indirect : Bool) (a : AskedRequest) (parts : List Part) → AreQuiet x held (buffer_acts indirect a parts)
  buffers_quiet true a parts = (tt, (tt, tt))
  buffers_quiet false a parts = (tt, tt)

-- ---- puts into a ring

module _ (x : Setting) (held : List Coherent) (ring : Ring) (high : IsHigh x ring.place) (house : IsHoused held ring) where
  abbrev place : RingPlace
  place = ring.place

  abbrev start : ℕ
  start = 4096 * house.region.slot

  desc_is : place.desc ≡ start
  desc_is = ap (λ p. p.desc) house.place

  driver_is : place.driver ≡ start + driver_offset place.size
  driver_is = ap (λ p. p.driver) house.place

  -- bytes within the ring's own
  in_ring : (at : ℕ) (bytes : List ℕ) → start ≤ at → at + length bytes ≤ start + ring_bytes place.size → IsInside held at bytes
  in_ring at bytes low up = inside held house.region house.live at bytes low (paged house.region.slot house.region.len (at + length bytes) (subst (λ n. at + length bytes ≤ start + n) (sym house.len) up)) where
    paged : (slot len end : ℕ) → end ≤ 4096 * slot + len → end ≤ 4096 * (slot + pages_of len)
    paged slot len end h = omega arith

  -- a descriptor
  desc_inside : (d : ℕ) → d < place.size → (bytes : List ℕ) → length bytes ≡ 16 → IsInside held (place.desc + 16 * d) bytes
  desc_inside d low bytes e = let p = desc_is in in_ring (place.desc + 16 * d) bytes (omega arith) (fits place.size (omega arith)) where
    fits : (size : ℕ) → d < size → place.desc + 16 * d + length bytes ≤ start + ring_bytes size
    fits size low = let p = desc_is in omega arith

  -- two bytes of the available ring
  available_inside : (offset value : ℕ) → offset + 2 ≤ 6 + 2 * place.size → IsAddressed x → IsInside held (ring_address place.driver offset) (little_bytes 2 value)
  available_inside offset value fits small =
      let ends = high.ends in
      let s : 4096 * x.iova ≤ 2 ^ 64 = small in
      let under : place.driver + offset < 2 ^ 64 = omega arith in
      let same : (place.driver + offset) % 2 ^ 64 ≡ place.driver + offset = mod-eq_of_lt under in
      subst (λ at. IsInside held at (little_bytes 2 value)) (sym same)
      (in_ring (place.driver + offset) (little_bytes 2 value) (let p = driver_is in omega arith) (behind place.size fits driver_is)) where
        behind : (size : ℕ) → offset + 2 ≤ 6 + 2 * size → place.driver ≡ start + driver_offset size → place.driver + offset + 2 ≤ start + ring_bytes size
        behind size f p = omega arith

  pub descriptors_quiet : (parts : List Part) (ds : List ℕ) → AreBelow place.size ds → AreQuiet x held (descriptor_puts place parts ds)
  descriptors_quiet [] ds low = tt
  descriptors_quiet (part ∷ parts) [] low = tt
  descriptors_quiet (part ∷ parts) (d ∷ []) low = ((λ small. desc_inside d (low d (inl refl)) (descriptor_bytes part.at part.len (flags_of false part.writable) 0) refl), tt)
  descriptors_quiet (part ∷ parts) (d ∷ e ∷ ds) low =
      append_quiet x held (descriptor_puts place parts (e ∷ ds)) _ (descriptors_quiet parts (e ∷ ds) (λ k h. low k (inr h)))
      ((λ small. desc_inside d (low d (inl refl)) (descriptor_bytes part.at part.len (flags_of true part.writable) e) refl), tt)

  table_quiet : (o : Option Streaming) (ds : List ℕ) → AreBelow place.size ds → AreQuiet x held (table_puts place o ds)
  table_quiet None ds low = tt
  table_quiet (Some m) ds low = ((λ small. desc_inside (first_of ds) (first_below place.size ds high.sized low) (descriptor_bytes (4096 * m.slot) m.want.len 4 0) refl), tt)

  pub request_puts_quiet : (indirect : Bool) (a : AskedRequest) (ms : List Streaming) (parts : List Part) (ds : List ℕ) → AreBelow place.size ds → AreQuiet x held (request_puts indirect place a ms parts ds)
  request_puts_quiet true a ms parts ds low = table_quiet (last_after (parts_count a) ms) ds low
  request_puts_quiet false a ms parts ds low = descriptors_quiet parts ds low

  pub slot_inside : (n head : ℕ) → IsAddressed x → IsInside held (available_slot_at place n) (little_bytes 2 head)
  slot_inside n head = let low = mod_below n place.size high.sized in available_inside (4 + 2 * (n % place.size)) head (omega arith)

  pub index_inside : (value : ℕ) → IsAddressed x → IsInside held (available_index_at place) (little_bytes 2 value)
  index_inside value = available_inside 2 value (omega arith)

  pub event_quiet : (done : List Act) (position : ℕ) → AreQuiet x held (used_event_puts done place position)
  event_quiet done position = by (has_event_idx done) where
    by : (b : Bool) → AreQuiet x held (if b then Driver (Driver_put (used_event_at place) (little_bytes 2 position)) ∷ [] else [])
    by true = (available_inside (4 + 2 * place.size) position (omega arith), tt)
    by false = tt
