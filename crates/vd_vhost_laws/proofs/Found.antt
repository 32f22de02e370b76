-- The region that is found for an address holds it, and no other region of a table does.
use Rattle.std.proofs.Common.{◌≡◌, ℕ, ◌≤◌, Bool, true, false, refl, ap, ◌∙◌, sym, arith, cond, not, nat_le, List, [], ◌∷◌, Option, Some, None, filter, ◌⊎◌, inl, inr, true≢false}
use Rattle.std.specs.List.{list_any}
use Rattle.std.proofs.lemmas.Bool.{and_parts}
use Rattle.std.proofs.lemmas.Bool.Decides.{nat_tests}
use Rattle.vd_model.specs.declared.memory.Region.{Region}
use Rattle.vd_model.specs.AreaTurns.{overlaps, lower, lowest}
use Rattle.vd_laws.specs.Among.{Among}
use Rattle.vd_laws.proofs.Lists.{filtered, filter_in, any_false}
use Rattle.vd_vhost_model.specs.GuestTable.{region_at, are_apart}
use Rattle.vd_vhost_laws.specs.Through.{Holds}

lowest_among : (xs : List Region) (r : Region) → lowest xs ≡ Some r → Among r xs
lowest_among [] r e = cc
lowest_among (x ∷ xs) r e = by (lowest xs) (λ s f. lowest_among xs s f) e where
  by : (o : Option Region) → ((s : Region) → o ≡ Some s → Among s xs) → Some (lower x o) ≡ Some r → (r ≡ x) ⊎ Among r xs
  by None later f = let same : x ≡ r = cc in inl (sym same)
  by (Some s) later f = of (nat_le x.start s.start) f where
    of : (b : Bool) → Some (cond b x s) ≡ Some r → (r ≡ x) ⊎ Among r xs
    of true g = let same : x ≡ r = cc in inl (sym same)
    of false g = let same : s ≡ r = cc in inr (later r (ap Some same))

pub found_holds : (table : List Region) (at : ℕ) (r : Region) → region_at table at ≡ Some r → Holds table r at
found_holds table at r e =
    let held = filtered (overlaps at at) r table (lowest_among (filter (overlaps at at) table) r e) in
    let over = held.1 in
    record { among = held.0; low = grind (arith, nat_tests, over); high = grind (arith, nat_tests, over) }

not_empty : (xs : List Region) (r : Region) → Among r xs → lowest xs ≡ None → ⊥
not_empty [] r h e = h
not_empty (x ∷ xs) r h e = cc

pub none_holds : (table : List Region) (at : ℕ) → region_at table at ≡ None → (r : Region) → Holds table r at → ⊥
none_holds table at e r h =
    let low = h.low in
    let high = h.high in
    let over : overlaps at at r ≡ true = grind (arith, nat_tests) in
    not_empty (filter (overlaps at at) table) r (filter_in (overlaps at at) r table h.among over) e

not_true : (b : Bool) → not b ≡ true → b ≡ false
not_true false e = refl
not_true true e = absurd (true≢false (sym e))

-- two regions that hold an address meet
meets : (r s : Region) (at : ℕ) → r.start ≤ at → at ≤ r.last → s.start ≤ at → at ≤ s.last → overlaps r.start r.last s ≡ true
meets r s at a b c d = grind (arith, nat_tests)

pub one_holds : (table : List Region) → are_apart table ≡ true → (r s : Region) (at : ℕ) → Holds table r at → Holds table s at → r ≡ s
one_holds [] apart r s at h k = absurd h.among
one_holds (x ∷ xs) apart r s at h k = by (λ a b. one_holds xs parts.1 r s at (rest r h.low h.high a) (rest s k.low k.high b)) h.among k.among where
  parts : (not (list_any (overlaps x.start x.last) xs) ≡ true) × (are_apart xs ≡ true)
  parts = and_parts (not (list_any (overlaps x.start x.last) xs)) (are_apart xs) apart

  -- a region behind the first one doesn't meet it
  never : (p q : Region) → p ≡ x → Among q xs → overlaps p.start p.last q ≡ true → ⊥
  never p q is among meet =
      let free = any_false (overlaps x.start x.last) q xs (not_true (list_any (overlaps x.start x.last) xs) parts.0) among in
      true≢false (sym meet ∙ ap (λ (y : Region). overlaps y.start y.last q) is ∙ free)

  rest : (q : Region) → q.start ≤ at → at ≤ q.last → Among q xs → Holds xs q at
  rest q low high among = record { among = among; low = low; high = high }

  by : (Among r xs → Among s xs → r ≡ s) → (r ≡ x) ⊎ Among r xs → (s ≡ x) ⊎ Among s xs → r ≡ s
  by later (inl e) (inl f) = e ∙ sym f
  by later (inl e) (inr b) = absurd (never r s e b (meets r s at h.low h.high k.low k.high))
  by later (inr a) (inl f) = absurd (never s r f a (meets s r at k.low k.high h.low h.high))
  by later (inr a) (inr b) = later a b
