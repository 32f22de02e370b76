-- A ring that was just made stands.
use Rattle.std.proofs.Common.{◌≡◌, ℕ, ◌+◌, ◌*◌, ◌/◌, ◌%◌, ◌^◌, ◌<◌, ◌≤◌, true, ◌==◌, ◌&&◌, if◌then◌else◌, refl, ap, ◌∙◌, arith, List, ◌∷◌, Some, None}
use Rattle.std.specs.List.{list_any}
use Rattle.std.proofs.lemmas.Bool.Decides.{nat_tests}
use Rattle.vd_num.specs.Number.{pages_of, is_within}
use Rattle.vd_model.specs.Acts.{Act, Driver, Region_made, Queue, Ring_made}
use Rattle.vd_model.specs.Live.{live_regions, regions, region_covers}
use Rattle.vd_model.specs.Rings.{IsRingSize}
use Rattle.vd_model.specs.RingTurns.{ring_at, ring_bytes, driver_offset, device_offset}
use Rattle.vd_model.specs.declared.queue.RingPlace.{RingPlace}
use Rattle.vd_model.specs.Memory.{Memory}
use Rattle.vd_model.specs.Setting.{Setting}
use Rattle.vd_model.specs.Puts.{shown_put}
use Rattle.vd_domain.specs.Held.{Held}
use Rattle.vd_domain.specs.Handed.{is_coherent}
use Rattle.vd_domain.specs.Seen.{ring_map, ring_memory}
use Rattle.vd_ring_memory.specs.RingPutLemmas.{ring_finite}
use Rattle.vr_driver.specs.Side.{side_of}
use Rattle.vd_queue_sides.specs.Chains as sides
use Rattle.vd_queue_sides.proofs.Daemons.{itself}
use Rattle.vd_queue_sides.proofs.Lists.{any_more, or_right}
use Rattle.vd_queue_sides.proofs.Drivers.{ring_made}
use Rattle.vd_rings.specs.Stands.{RingLies}
use Rattle.vd_rings.proofs.Lying.{small_size}

-- an address of a region's bytes lies in its slots
in_slots : (slot len a : ℕ) → 4096 * slot ≤ a → a < 4096 * slot + len → is_within slot (pages_of len) (a / 4096) ≡ true
in_slots slot len a low high =
    let from : slot ≤ a / 4096 = omega arith in
    let to : a / 4096 < slot + pages_of len = omega arith in
    grind (arith, nat_tests, from, to)

-- its driver's side stands for the acts, and it lies in its region
pub made_stands : (acts : List Act) (q size slot number : ℕ) → IsRingSize size → number ≡ regions acts
    → sides.RingStands (Queue (Ring_made q (ring_at size slot) number) ∷ Driver (Region_made (record { number = number; slot = slot; len = ring_bytes size })) ∷ acts) q (Some (number, side_of (ring_at size slot)))
    × RingLies (Queue (Ring_made q (ring_at size slot) number) ∷ Driver (Region_made (record { number = number; slot = slot; len = ring_bytes size })) ∷ acts) (record { region = number; ring = side_of (ring_at size slot) })
made_stands acts q size slot number s counted = (
  ring_made (Driver (Region_made (record { number = number; slot = slot; len = ring_bytes size })) ∷ acts) q number (ring_at size slot),
  record {
    slot = slot;
    size = s;
    place = refl;
    bytes = λ a low high.
        any_more (λ r. (r.number == number) && region_covers r a) (live_regions acts) (record { number = number; slot = slot; len = ring_bytes size })
        ∙ or_right (list_any (λ r. (r.number == number) && region_covers r a) (live_regions acts)) ((number == number) && is_within slot (pages_of (ring_bytes size)) (a / 4096))
        (ap (λ t. t && is_within slot (pages_of (ring_bytes size)) (a / 4096)) (itself number) ∙ in_slots slot (ring_bytes size) a low high);
    number = omega arith;
  },
)

-- coherent memory ends at 2 ^ 32
low_address : (x : Setting) (acts : List Act) (h : Held) (a : ℕ) → ring_map h ≡ ring_memory x acts → is_coherent acts a ≡ true → a < 2 ^ 32
low_address x acts h a seen there =
    ring_finite h a (shown_put x.per_page acts a).byte
    (ap (λ (w : Memory). w a) seen ∙ ap (λ t. if t then Some (shown_put x.per_page acts a).byte else None) there)

-- a ring that was placed in a region that was made
module _ (x : Setting) (acts : List Act) (k : Held) (size number at : ℕ) (s : IsRingSize size) (place : RingPlace) (base : at ≡ 4096 * (at / 4096))
    (seen : ring_map k ≡ ring_memory x (Driver (Region_made (record { number = number; slot = at / 4096; len = ring_bytes size })) ∷ acts)) where
  start_low : at < 2 ^ 32
  start_low = low_address x (Driver (Region_made (record { number = number; slot = at / 4096; len = ring_bytes size })) ∷ acts) k at seen (
      any_more (λ r. region_covers r at) (live_regions acts) (record { number = number; slot = at / 4096; len = ring_bytes size })
      ∙ or_right (list_any (λ r. region_covers r at) (live_regions acts)) (is_within (at / 4096) (pages_of (ring_bytes size)) (at / 4096))
      (in_slots (at / 4096) (ring_bytes size) at (omega arith) (omega arith)))

  placed_at : place.size ≡ size → place.desc ≡ at → place.driver ≡ (at + driver_offset size) % 2 ^ 64 → place.device ≡ (at + device_offset size) % 2 ^ 64 → place ≡ ring_at size (at / 4096)
  placed_at a b c d =
      let low = start_low in
      let few = small_size size s in
      let driver : place.driver ≡ 4096 * (at / 4096) + driver_offset size = c ∙ (let e : (at + 16 * size) % 2 ^ 64 ≡ 4096 * (at / 4096) + 16 * size = omega arith in e) in
      let device : place.device ≡ 4096 * (at / 4096) + device_offset size = d ∙ (let e : (at + device_offset size) % 2 ^ 64 ≡ 4096 * (at / 4096) + device_offset size = omega arith in e) in
      let desc : place.desc ≡ 4096 * (at / 4096) = b ∙ base in
      ap (λ n. record { size = n; desc = place.desc; driver = place.driver; device = place.device }) a
      ∙ ap (λ n. record { size = size; desc = n; driver = place.driver; device = place.device }) desc
      ∙ ap (λ n. record { size = size; desc = 4096 * (at / 4096); driver = n; device = place.device }) driver
      ∙ ap (λ n. record { size = size; desc = 4096 * (at / 4096); driver = 4096 * (at / 4096) + driver_offset size; device = n }) device

-- the place of its parts, computed from its address
pub made_at : (x : Setting) (acts : List Act) (k : Held) (size number at : ℕ) → IsRingSize size → at ≡ 4096 * (at / 4096) → ring_map k ≡ ring_memory x (Driver (Region_made (record { number = number; slot = at / 4096; len = ring_bytes size })) ∷ acts)
    → (place : RingPlace) → place ≡ record { size = size; desc = at; driver = (at + driver_offset size) % 2 ^ 64; device = (at + device_offset size) % 2 ^ 64 } → place ≡ ring_at size (at / 4096)
made_at x acts k size number at s base seen place e =
    placed_at x acts k size number at s place base seen (ap (λ (p : RingPlace). p.size) e) (ap (λ (p : RingPlace). p.desc) e) (ap (λ (p : RingPlace). p.driver) e) (ap (λ (p : RingPlace). p.device) e)
