-- A ring that is made has a region of its own.
use Rattle.std.proofs.Common.{◌≡◌, ℕ, ◌<◌, Bool, true, false, ap, sym, subst, ◌∙◌, arith, not, List, [], ◌∷◌, Option, Some, None, true≢false, ◌==◌, if◌then◌else◌, inl, inr}
use Rattle.std.specs.Prelude.{◌&&◌, is_some}
use Rattle.std.specs.Option.{option_map_or}
use Rattle.std.proofs.lemmas.Bool.Decides.{eqb_tells}
use Rattle.vd_num.specs.Number.{pages_of}
use Rattle.vd_num.specs.declared.errno.Errno.TheVariants.{Inval, Exist, Nospc}
use Rattle.vd_pool.specs.Memory.{PoolMemory as Pool}
use Rattle.vd_model.specs.declared.queue.RingPlace.{RingPlace}
use Rattle.vd_model.specs.Setting.{Setting}
use Rattle.vd_model.specs.Creation.{Creation}
use Rattle.vd_model.specs.Acts.{Act, Coherent, Driver, Queue, Region_made, Ring_made}
use Rattle.vd_model.specs.Live.{regions}
use Rattle.vd_model.specs.Place.{place_of, taken_slots}
use Rattle.vd_model.specs.Turn.{refuse, refusal_if, refusal_turn}
use Rattle.vd_model.specs.BusTurns.{is_missing}
use Rattle.vd_model.specs.Queues.{Ring, ring_of}
use Rattle.vd_model.specs.RingTurns.{ring_turn, made_ring_turn, is_ring_size, ring_bytes, ring_at}
use Rattle.vd_queue_sides.proofs.Daemons.{itself}
use Rattle.vd_request_lines.specs.declared.held.HeldDriver.{HeldDriver}
use Rattle.vd_request_lines.specs.Stands.{RequestsStand}
use Rattle.vd_instance.specs.declared.instance.Instance.{Instance}
use Rattle.vd_instance.specs.Stands.{Stands, HaveOwnRegions, kept_driver}
use Rattle.vd_instance.proofs.Own.{IsOwn, no_acts, refused_own}

-- the region of a ring, if there is one
region_in : Option Ring → ℕ
region_in None = 0
region_in (Some r) = r.region

no_ring : (r : Ring) → None ≡ Some r → ⊥
no_ring r e = cc

-- the regions of rings are among those that were made
pub low_regions : {x : Setting} {made : Creation} {done : List Act} {i : Instance} {m : Pool} → Stands x made done i m → (k : ℕ) (r : Ring) → ring_of done k ≡ Some r → r.region < regions done
unfolding region_in
low_regions {x} {made} {done} {i} s k r e = by (kept_driver i k) (s.drivers k) where
  by : (o : Option HeldDriver) → RequestsStand done k o → r.region < regions done
  by None h = absurd (no_ring r (sym h.side ∙ e))
  by (Some held) h = subst (λ n. n < regions done) (ap region_in (sym h.side.ring ∙ e)) h.lies.number

module _ (done : List Act) (q : ℕ) (low : (k : ℕ) (r : Ring) → ring_of done k ≡ Some r → r.region < regions done) where
  at_new : (place : RingPlace) (k : ℕ) (r : Ring) → (q == k) ≡ true → (if q == k then Some (record { place = place; region = regions done }) else ring_of done k) ≡ Some r → r.region ≡ regions done
  unfolding region_in
  at_new place k r t e = by (q == k) t e where
    by : (b : Bool) → b ≡ true → (if b then Some (record { place = place; region = regions done }) else ring_of done k) ≡ Some r → r.region ≡ regions done
    by true t e = sym (ap region_in e)
    by false t e = absurd (true≢false (sym t))

  at_old : (place : RingPlace) (k : ℕ) (r : Ring) → (q == k) ≡ false → (if q == k then Some (record { place = place; region = regions done }) else ring_of done k) ≡ Some r → ring_of done k ≡ Some r
  at_old place k r t e = by (q == k) t e where
    by : (b : Bool) → b ≡ false → (if b then Some (record { place = place; region = regions done }) else ring_of done k) ≡ Some r → ring_of done k ≡ Some r
    by true t e = absurd (true≢false t)
    by false t e = e

  made_apart : (place : RingPlace) (g : Coherent) → HaveOwnRegions done → HaveOwnRegions (Queue (Ring_made q place (regions done)) ∷ Driver (Region_made g) ∷ done)
  made_apart place g h a b r s e f same = elim (eqb_tells q a) [
    | inl t ↦ elim (eqb_tells q b) [
      | inl u ↦ sym t.1 ∙ u.1
      | inr u ↦ (let new : r.region ≡ regions done = at_new place a r t.0 e in let old : s.region < regions done = low b s (at_old place b s u.0 f) in omega (arith, new, old, same))
    ]
    | inr t ↦ elim (eqb_tells q b) [
      | inl u ↦ (let new : s.region ≡ regions done = at_new place b s u.0 f in let old : r.region < regions done = low a r (at_old place a r t.0 e) in omega (arith, new, old, same))
      | inr u ↦ h a b r s (at_old place a r t.0 e) (at_old place b s u.0 f) same
    ]
  ]

  made_own : (size slot : ℕ) → IsOwn done q (made_ring_turn done q size slot).acts
  made_own size slot = record {
    may = λ n. false;
    only = ap (λ t. t && true) (itself q);
    freed = λ n f. absurd (true≢false (sym f));
    apart = made_apart (ring_at size slot) (record { number = regions done; slot = slot; len = ring_bytes size });
  }

  placed_own : (size : ℕ) (o : Option ℕ) → IsOwn done q (option_map_or (made_ring_turn done q size) o (refusal_turn Nospc)).acts
  placed_own size None = no_acts done q
  placed_own size (Some slot) = made_own size slot

  pub ring_own : (x : Setting) (made : Creation) (size : ℕ) → IsOwn done q (ring_turn x made done q size).acts
  ring_own x made size =
      refused_own done q (refusal_if (is_missing made q) Inval) _
      (refused_own done q (refusal_if (not (is_ring_size size)) Inval) _
      (refused_own done q (refusal_if (is_some (ring_of done q)) Exist) _
      (placed_own size (place_of (taken_slots done) (pages_of (ring_bytes size)) x.bounce x.iova))))

-- a ring of a queue that isn't there
pub missing_ring : (x : Setting) (made : Creation) (done : List Act) (q size : ℕ) → is_missing made q ≡ true → ring_turn x made done q size ≡ refusal_turn Inval
missing_ring x made done q size e =
    ap (λ t. refuse (refusal_if t Inval)
    (refuse (refusal_if (not (is_ring_size size)) Inval)
    (refuse (refusal_if (is_some (ring_of done q)) Exist)
    (option_map_or (made_ring_turn done q size) (place_of (taken_slots done) (pages_of (ring_bytes size)) x.bounce x.iova) (refusal_turn Nospc))))) e
