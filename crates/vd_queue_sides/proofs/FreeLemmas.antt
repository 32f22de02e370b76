-- The descriptors that are free are those of no chain.
use Rattle.std.proofs.Common.{◌≡◌, ℕ, zero, suc, ◌+◌, ◌<◌, Bool, if◌then◌else◌, refl, ap, sym, subst, ◌∙◌, arith, List, [], ◌∷◌, ◌++◌, length, Some, None, Option, filter, get_or}
use Rattle.std.specs.Prelude.{is_some, not}
use Rattle.vd_model.specs.Queues as model
use Rattle.vd_model.specs.Queues.{is_in_chains, numbers_below}
use Rattle.vr_driver.specs.Side.{DriverSide, free_from, unowned_descriptors}
use Rattle.vd_queue_sides.specs.Chains.{Chains, IsSide}
use Rattle.vd_queue_sides.proofs.Owners.{owned}

abbrev up : ℕ → ℕ → List ℕ
up k zero = []
up k (suc n) = k ∷ up (k + 1) n

up_more : (k n : ℕ) → up k (suc n) ≡ up k n ++ (k + n) ∷ []
up_more k zero = ap (λ j. j ∷ []) (let e : k ≡ k + 0 = omega arith in e)
up_more k (suc n) = ap (λ l. k ∷ l) (up_more (k + 1) n ∙ ap (λ j. up (k + 1) n ++ j ∷ []) (let e : k + 1 + n ≡ k + suc n = omega arith in e))

below_is : (n : ℕ) → numbers_below n ≡ up 0 n
below_is zero = refl
below_is (suc n) = ap (λ l. l ++ n ∷ []) (below_is n) ∙ sym (up_more 0 n ∙ ap (λ j. up 0 n ++ j ∷ []) (let e : 0 + n ≡ n = omega arith in e))

free_is : (owners : List (Option ℕ)) (k : ℕ) (p : ℕ → Bool) → ((d : ℕ) → d < length owners → not (is_some (get_or owners d None)) ≡ p (k + d)) → free_from k owners ≡ filter p (up k (length owners))
free_is [] k p h = refl
free_is (o ∷ owners) k p h = by o (first (h 0 (omega arith))) (free_is owners (k + 1) p (λ d below. h (suc d) (omega arith) ∙ ap p (let e : k + suc d ≡ k + 1 + d = omega arith in e))) where
  first : not (is_some o) ≡ p (k + 0) → p k ≡ not (is_some o)
  first e = ap p (let same : k ≡ k + 0 = omega arith in same) ∙ sym e

  by : (o : Option ℕ) → p k ≡ not (is_some o) → free_from (k + 1) owners ≡ filter p (up (k + 1) (length owners))
      → free_from k (o ∷ owners) ≡ (if p k then k ∷ filter p (up (k + 1) (length owners)) else filter p (up (k + 1) (length owners)))
  by None e rest = ap (λ l. k ∷ l) rest ∙ sym (ap (λ t. if t then k ∷ filter p (up (k + 1) (length owners)) else filter p (up (k + 1) (length owners))) e)
  by (Some x) e rest = rest ∙ sym (ap (λ t. if t then k ∷ filter p (up (k + 1) (length owners)) else filter p (up (k + 1) (length owners))) e)

pub free_same : (c : Chains) (region : ℕ) (s : DriverSide) → IsSide c region s → unowned_descriptors s ≡ model.free_descriptors s.place.size c.out
free_same c region s k =
    free_is s.owners 0 (λ d. not (is_in_chains c.out d)) (λ d below. ap not (ap is_some (k.owners d (subst (λ j. d < j) k.owners_len below)) ∙ owned c.out d) ∙ ap (λ j. not (is_in_chains c.out j)) (let e : d ≡ 0 + d = omega arith in e))
    ∙ ap (λ j. filter (λ d. not (is_in_chains c.out d)) (up 0 j)) k.owners_len
    ∙ ap (λ l. filter (λ d. not (is_in_chains c.out d)) l) (sym (below_is s.place.size))
