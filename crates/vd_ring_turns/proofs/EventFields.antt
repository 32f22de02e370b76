-- Puts within a ring, beside its table, slots, elements and indices.
use Rattle.std.proofs.Common.{◌≡◌, ℕ, ◌+◌, ◌*◌, ◌<◌, ◌≤◌, Bool, true, false, subst, ◌∙◌, sym, arith, Some, List, [], ◌∷◌, ◌++◌, if◌then◌else◌, ◌⊎◌, inl, inr}
use Rattle.vd_num.specs.Number.{is_within}
use Rattle.vd_model.specs.declared.queue.RingPlace.{RingPlace}
use Rattle.vd_model.specs.Setting.{Setting}
use Rattle.vd_model.specs.Acts.{Act, Node, Driver, Daemon_put, Driver_put}
use Rattle.vd_model.specs.Queues.{Ring, ring_of, chains_out}
use Rattle.vd_model.specs.Raw.{little_bytes}
use Rattle.vd_laws.specs.Among.{Among}
use Rattle.vd_laws.specs.Runs.{IsAddressed, IsWhole}
use Rattle.vd_laws.proofs.Legal.{Legal}
use Rattle.vd_laws.proofs.Sound.{sound, earlier_legal}
use Rattle.vd_laws.proofs.Ranges.{before_range, past_range}
use Rattle.vd_ring_bytes.specs.FirmLaw.{AllMiss}
use Rattle.vd_ring_bytes.proofs.Numbers.{same_or_not}
use Rattle.vd_ring_bytes.proofs.RingLayout.{IsLaid}
use Rattle.vd_ring_bytes.proofs.RingMemory.{Spares}
use Rattle.vd_ring_bytes.proofs.SameRing.{AreElsewhere}
use Rattle.vd_ring_turns.proofs.CalmRings.{Calms}
use Rattle.vd_ring_turns.proofs.RingSpares.{all_calms, AreWithin, within_all, within_live, within_spares, map_below}

-- an address of a part that matters
abbrev pub IsField : RingPlace → ℕ → Type 0
IsField r a = ((r.desc ≤ a) × (a < r.desc + 16 * r.size)) ⊎ (((r.driver + 2 ≤ a) × (a < r.driver + 4 + 2 * r.size)) ⊎ ((r.device + 2 ≤ a) × (a < r.device + 4 + 8 * r.size)))

pub aside_calms : (x : Setting) → IsAddressed x → IsWhole x → (n : ℕ) (puts acts : List Act) → Legal x (puts ++ acts) → (q : ℕ) (ring : Ring) → ring_of acts q ≡ Some ring
    → AreWithin ring.place puts → ((k : ℕ) → AreElsewhere k puts) → ((a : ℕ) → IsField ring.place a → AllMiss puts a) → Calms x n acts → Calms x n (puts ++ acts)
aside_calms x small full n puts acts legal q ring there w elsewhere miss c = all_calms x small full n puts acts legal elsewhere (λ k r e. spares k r e (same_or_not k q)) c where
  before : Legal x acts
  before = earlier_legal x puts acts legal

  laid : IsLaid x ring.place
  laid = (c.rings q ring there).holds.laid

  spares : (k : ℕ) (r : Ring) → ring_of acts k ≡ Some r → (k ≡ q) ⊎ (k ≡ q → ⊥) → Spares x puts acts r.place (chains_out acts k)
  spares k r e (inr other) = within_spares x puts acts before ring.place r.place laid (c.rings k r e).holds.laid w (c.apart q k ring r (λ f. other (sym f)) there e) (chains_out acts k)
  spares k r e (inl is) =
      let both : Some ring ≡ Some r = sym there ∙ subst (λ j. ring_of acts j ≡ Some r) is e in
      let same : ring ≡ r = cc in
      subst (λ r. Spares x puts acts r.place (chains_out acts k)) same (record {
        table = λ a lo hi. miss a (inl (lo, hi));
        driver = λ a lo hi. miss a (inr (inl (lo, hi)));
        device = λ a lo hi. miss a (inr (inr (lo, hi)));
        alive = λ b i m j l. subst (Among m) (sym (within_live ring.place puts acts w).0) j;
        tables = λ b i m j l a here. within_all ring.place puts a w (inl (let d = map_below x acts m a (sound x acts before) j here in let o = laid.low in omega arith));
        regions = λ b i. subst (Among b) (sym (within_live ring.place puts acts w).1) i;
      })

-- the put of one of the two event fields, if there is one
module _ (x : Setting) (r : RingPlace) (laid : IsLaid x r) (position : ℕ) where
  pub available_event_within : (b : Bool) (at : ℕ) → at ≡ r.device + (4 + 8 * r.size) → AreWithin r (if b then Node (Daemon_put at (little_bytes 2 position)) ∷ [] else [])
  available_event_within true at e = ((let d = laid.driver in let v = laid.device in omega arith, omega arith), tt)
  available_event_within false at e = tt

  pub available_event_elsewhere : (b : Bool) (at k : ℕ) → AreElsewhere k (if b then Node (Daemon_put at (little_bytes 2 position)) ∷ [] else [])
  available_event_elsewhere true at k = (tt, tt)
  available_event_elsewhere false at k = tt

  pub available_event_misses : (b : Bool) (at : ℕ) → at ≡ r.device + (4 + 8 * r.size) → (a : ℕ) → IsField r a → AllMiss (if b then Node (Daemon_put at (little_bytes 2 position)) ∷ [] else []) a
  available_event_misses true at e a f = (before_range at 2 a (by f), tt) where
    by : IsField r a → a < at
    by (inl h) = let hi : a < r.desc + 16 * r.size = h.1 in let d = laid.driver in let v = laid.device in omega arith
    by (inr (inl h)) = let hi : a < r.driver + 4 + 2 * r.size = h.1 in let v = laid.device in omega arith
    by (inr (inr h)) = let hi : a < r.device + 4 + 8 * r.size = h.1 in omega arith
  available_event_misses false at e a f = tt

  pub used_event_within : (b : Bool) (at : ℕ) → at ≡ r.driver + (4 + 2 * r.size) → AreWithin r (if b then Driver (Driver_put at (little_bytes 2 position)) ∷ [] else [])
  used_event_within true at e = ((let d = laid.driver in omega arith, let v = laid.device in omega arith), tt)
  used_event_within false at e = tt

  pub used_event_elsewhere : (b : Bool) (at k : ℕ) → AreElsewhere k (if b then Driver (Driver_put at (little_bytes 2 position)) ∷ [] else [])
  used_event_elsewhere true at k = (tt, tt)
  used_event_elsewhere false at k = tt

  pub used_event_misses : (b : Bool) (at : ℕ) → at ≡ r.driver + (4 + 2 * r.size) → (a : ℕ) → IsField r a → AllMiss (if b then Driver (Driver_put at (little_bytes 2 position)) ∷ [] else []) a
  used_event_misses true at e a f = (by f, tt) where
    by : IsField r a → is_within at 2 a ≡ false
    by (inl h) = before_range at 2 a (let hi : a < r.desc + 16 * r.size = h.1 in let d = laid.driver in omega arith)
    by (inr (inl h)) = before_range at 2 a (let hi : a < r.driver + 4 + 2 * r.size = h.1 in omega arith)
    by (inr (inr h)) = past_range at 2 a (let lo : r.device + 2 ≤ a = h.0 in let v = laid.device in omega arith)
  used_event_misses false at e a f = tt
