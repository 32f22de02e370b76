-- A ring that lies in its live region is in reach, and its parts lie one behind another below 2 ^ 32.
use Rattle.std.proofs.Common.{◌≡◌, ℕ, ◌+◌, ◌-◌, ◌*◌, ◌<◌, ◌≤◌, Bool, true, false, ◌==◌, ◌&&◌, ◌||◌, if◌then◌else◌, refl, sym, subst, arith, List, [], ◌∷◌, Some, None}
use Rattle.std.specs.Prelude.{IsSome}
use Rattle.std.specs.List.{list_any}
use Rattle.std.specs.Option.{ForSome}
use Rattle.std.proofs.lemmas.Nat.{pow_pos}
use Rattle.std.proofs.Math.Nat.{pow-le-pow_right}
use Rattle.vd_model.specs.declared.queue.RingPlace.{RingPlace}
use Rattle.vd_model.specs.Memory.{Memory, IsFinite}
use Rattle.vd_model.specs.Setting.{Setting}
use Rattle.vd_model.specs.Acts.{Act, Coherent}
use Rattle.vd_model.specs.Live.{live_regions, region_covers}
use Rattle.vd_model.specs.Puts.{shown_put}
use Rattle.vd_model.specs.Rings.{IsRingSize}
use Rattle.vd_model.specs.RingTurns.{ring_at, ring_bytes}
use Rattle.vd_domain.specs.Held.{Held}
use Rattle.vd_domain.specs.Handed.{is_coherent}
use Rattle.vd_domain.specs.Seen.{ring_map, ring_memory}
use Rattle.vr_split.specs.Reach.{Reaches, in_map, in_span, RingInReach}
use Rattle.vd_ring_memory.specs.RingPutLemmas.{ring_finite}
use Rattle.vd_ring_memory.proofs.RingTelling.{ring_there}
use Rattle.vd_rings.specs.declared.held.HeldRing.{HeldRing}
use Rattle.vd_rings.specs.Stands.{RingLies}

-- an address in a region of some number is in a region
in_some : (region a : ℕ) (rs : List Coherent) → list_any (λ r. (r.number == region) && region_covers r a) rs ≡ true → list_any (λ r. region_covers r a) rs ≡ true
in_some region a [] e = e
in_some region a (r ∷ rs) e = by (r.number == region) (region_covers r a) e (in_some region a rs) where
  by : (t u : Bool) → ((t && u) || list_any (λ r. (r.number == region) && region_covers r a) rs) ≡ true
      → (list_any (λ r. (r.number == region) && region_covers r a) rs ≡ true → list_any (λ r. region_covers r a) rs ≡ true) → (u || list_any (λ r. region_covers r a) rs) ≡ true
  by t true e rest = refl
  by true false e rest = rest e
  by false false e rest = rest e

-- how the parts of a ring lie: the table, the available ring, and the used ring
pub record IsLaid (place : RingPlace) : Type 0 where
  pub driver : place.driver ≡ place.desc + 16 * place.size
  pub device_low : place.driver + 6 + 2 * place.size ≤ place.device
  pub device : place.device + 6 + 8 * place.size ≡ place.desc + ring_bytes place.size

laid_at : (size slot : ℕ) → IsLaid (ring_at size slot)
laid_at size slot = record { driver = refl; device_low = omega arith; device = omega arith }

module _ (acts : List Act) (held : HeldRing) (l : RingLies acts held) where
  pub laid : IsLaid held.ring.place
  laid = subst IsLaid (sym l.place) (laid_at held.ring.place.size l.slot)

  -- the addresses of a ring are coherent
  pub in_ring : (at n : ℕ) → held.ring.place.desc ≤ at → at + n ≤ held.ring.place.desc + ring_bytes held.ring.place.size → (a : ℕ) → at ≤ a → a < at + n → is_coherent acts a ≡ true
  in_ring at n low high a from to = in_some held.region a (live_regions acts) (l.bytes a (omega arith) (omega arith))

  pub ring_reached : (x : Setting) (m : Memory) → m ≡ ring_memory x acts → RingInReach (Some m) None held.ring.place
  ring_reached x m seen =
      let w = laid in
      let driver = w.driver in
      let low = w.device_low in
      let device = w.device in
      record {
        desc = in_map (ring_there x acts m seen held.ring.place.desc (16 * held.ring.place.size) (in_ring held.ring.place.desc (16 * held.ring.place.size) (omega arith) (omega arith)));
        driver = in_map (ring_there x acts m seen held.ring.place.driver (6 + 2 * held.ring.place.size) (in_ring held.ring.place.driver (6 + 2 * held.ring.place.size) (omega arith) (omega arith)));
        device = in_map (ring_there x acts m seen held.ring.place.device (6 + 8 * held.ring.place.size) (in_ring held.ring.place.device (6 + 8 * held.ring.place.size) (omega arith) (omega arith)));
      }

-- ---- what is in reach

pub map_of : {a b : Memory} → Some a ≡ Some b → a ≡ b
map_of e = cc

-- what is told is the map of a domain, which has an end
pub ends : (h : Held) → ForSome (Some (ring_map h)) IsFinite
ends h m e = subst IsFinite (map_of e) (ring_finite h)

pub no_span : {R : Type 0} (P : R → Type 0) → ForSome None P
no_span P r e = absurd (cc)

-- addresses in reach are coherent
pub coherent_reached : (x : Setting) (acts : List Act) (m : Memory) → m ≡ ring_memory x acts → (at n : ℕ) → Reaches (Some m) None at n → (a : ℕ) → at ≤ a → a < at + n → is_coherent acts a ≡ true
coherent_reached x acts m seen at n (in_span e) a low high = absurd e
coherent_reached x acts m seen at n (in_map e) a low high =
    let i = a - at in
    let same : at + (a - at) ≡ a = omega arith in
    let P : ℕ → Type 0 = λ k. IsSome (m k) in
    tell (is_coherent acts a) refl (subst (λ (t : Memory). IsSome (t a)) seen (subst P same (e (a - at) (omega arith)))) where
      tell : (t : Bool) → is_coherent acts a ≡ t → IsSome (if is_coherent acts a then Some (shown_put x.per_page acts a).byte else None) → is_coherent acts a ≡ true
      tell true f s = f
      tell false f s = absurd (no (subst (λ t. IsSome (if t then Some (shown_put x.per_page acts a).byte else None)) f s)) where
        no : IsSome {T = ℕ} None → ⊥
        no e = cc

-- ---- sizes

-- a ring's size is at most 32,768
pub small_size : (size : ℕ) → IsRingSize size → size ≤ 32768
small_size size s = subst (λ n. n ≤ 32768) (sym s.2) (pow-le-pow_right {n = 2} (omega arith) {i = s.0} {j = 15} s.1)

-- there is one slot at least
pub some_size : (size : ℕ) → IsRingSize size → 0 < size
some_size size s = subst (λ n. 0 < n) (sym s.2) (pow_pos s.0)
