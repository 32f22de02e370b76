-- Which region holds an address.
use Rattle.std.proofs.Common.{◌≡◌, ℕ, ◌+◌, ◌-◌, ◌^◌, ◌<◌, ◌≤◌, inl, inr, refl, ap, subst, sym, ◌∙◌, arith, Bool, true, false, cond, ◌&&◌, ◌||◌, not, nat_lt, nat_le, if◌then◌else◌, List, [], ◌∷◌, Option, Some, None, filter, true≢false}
use Rattle.std.proofs.lemmas.Bool.{and_from, and_parts}
use Rattle.std.proofs.lemmas.Bool.Decides.{nat_tests, leb_tells}
use Rattle.std.specs.List.{list_any, list_all}
use Rattle.vd_model.specs.declared.memory.Region.{Region}
use Rattle.vd_model.specs.AreaTurns.{overlaps, lower, lowest, first_region}
use Rattle.std.specs.Prelude.{IfSome}
use Rattle.vd_vhost_model.specs.declared.access.Access.{Access}
use Rattle.vd_vhost_model.specs.GuestTable.{are_apart, is_region_of, permits, region_at, sees, denial_at}
use Rattle.vd_guest.specs.Kept.{StandsFor, AreWithin}
use Rattle.vd_guest.specs.Parts.{Reaches}
use Rattle.vd_guest.specs.declared.part.Part.{Part}
use Rattle.std.specs.Option.{option_map_or, option_and_then}
use Rattle.vd_vhost_model.specs.declared.access.Denied.{Denied}
use Rattle.vd_vhost_model.specs.declared.access.Denied.TheVariants as denied

-- what is found passes, and has what each region has
pub record IsOne (p q : Region → Bool) (r : Region) : Type 0 where
  pub passes : p r ≡ true
  pub has : q r ≡ true

pub found_one : (p q : Region → Bool) (xs : List Region) (r : Region) → list_all q xs ≡ true → lowest (filter p xs) ≡ Some r → IsOne p q r
found_one p q [] r all found = cc
found_one p q (x ∷ xs) r all found = by (p x) refl (λ s. found_one p q xs s (and_parts (q x) (list_all q xs) all).1) found where
  here : p x ≡ true → IsOne p q x
  here e = record { passes = e; has = (and_parts (q x) (list_all q xs) all).0 }

  among : (o : Option Region) → lowest (filter p xs) ≡ o → p x ≡ true → ((s : Region) → lowest (filter p xs) ≡ Some s → IsOne p q s) → IsOne p q (lower x o)
  among None f e later = here e
  among (Some s) f e later = of (nat_le x.start s.start) where
    of : (b : Bool) → IsOne p q (if b then x else s)
    of true = here e
    of false = later s f

  by : (b : Bool) → p x ≡ b → ((s : Region) → lowest (filter p xs) ≡ Some s → IsOne p q s) → lowest (cond b (x ∷ filter p xs) (filter p xs)) ≡ Some r → IsOne p q r
  by true e later got =
      let is : lower x (lowest (filter p xs)) ≡ r = cc in
      subst (λ s. IsOne p q s) is (among (lowest (filter p xs)) refl e later)
  by false e later got = later r got

none_meets : (a b : Bool) → (a || b) ≡ false → (a ≡ false) × (b ≡ false)
none_meets false false e = (refl, refl)
none_meets false true e = absurd (true≢false e)
none_meets true b e = absurd (true≢false e)

is_no : (b : Bool) → (b ≡ true → ⊥) → b ≡ false
is_no false h = refl
is_no true h = absurd (h refl)

meets_at : (a : ℕ) (r x : Region) → overlaps a a r ≡ true → overlaps a a x ≡ true → overlaps r.start r.last x ≡ true
meets_at a r x one other = grind (arith, nat_tests, one, other)

-- where a region holds the address, none of those that don't meet it does
alone : (a : ℕ) (r : Region) (xs : List Region) → overlaps a a r ≡ true → list_any (overlaps r.start r.last) xs ≡ false → filter (overlaps a a) xs ≡ []
alone a r [] here none = refl
alone a r (x ∷ xs) here none =
    let parts = none_meets (overlaps r.start r.last x) (list_any (overlaps r.start r.last) xs) none in
    let no : overlaps a a x ≡ false = is_no (overlaps a a x) (λ too. true≢false (sym (meets_at a r x here too) ∙ parts.0)) in
    ap (λ b. cond b (x ∷ filter (overlaps a a) xs) (filter (overlaps a a) xs)) no ∙ alone a r xs here parts.1

not_true : (b : Bool) → not b ≡ true → b ≡ false
not_true false e = refl
not_true true e = absurd (true≢false (sym e))

-- the region that holds one address is found at each of its addresses
pub same_holder : (a b : ℕ) (r : Region) (xs : List Region) → are_apart xs ≡ true → first_region xs a a ≡ Some r → overlaps b b r ≡ true → first_region xs b b ≡ Some r
same_holder a b r [] apart found there = cc
same_holder a b r (x ∷ xs) apart found there = by (overlaps a a x) refl (λ f. same_holder a b r xs parts.1 f there) found where
  parts : (not (list_any (overlaps x.start x.last) xs) ≡ true) × (are_apart xs ≡ true)
  parts = and_parts (not (list_any (overlaps x.start x.last) xs)) (are_apart xs) apart

  none : list_any (overlaps x.start x.last) xs ≡ false
  none = not_true (list_any (overlaps x.start x.last) xs) parts.0

  -- of the list, where x holds the address c
  only : (c : ℕ) → overlaps c c x ≡ true → first_region (x ∷ xs) c c ≡ Some x
  only c here = ap (λ t. lowest (cond t (x ∷ filter (overlaps c c) xs) (filter (overlaps c c) xs))) here ∙ ap (λ ys. lowest (x ∷ ys)) (alone c x xs here none)

  by : (t : Bool) → overlaps a a x ≡ t → (first_region xs a a ≡ Some r → first_region xs b b ≡ Some r)
      → lowest (cond t (x ∷ filter (overlaps a a) xs) (filter (overlaps a a) xs)) ≡ Some r → first_region (x ∷ xs) b b ≡ Some r
  by true here later got =
      let first : Some x ≡ Some r = sym (ap (λ ys. lowest (x ∷ ys)) (alone a x xs here none)) ∙ got in
      let is : x ≡ r = cc in
      only b (ap (overlaps b b) is ∙ there) ∙ first
  by false here later got =
      let rest : first_region xs b b ≡ Some r = later got in
      let no : overlaps b b x ≡ false = is_no (overlaps b b x) (λ here_too. nowhere here_too rest) in
      ap (λ t. lowest (cond t (x ∷ filter (overlaps b b) xs) (filter (overlaps b b) xs))) no ∙ rest where
        nowhere : overlaps b b x ≡ true → first_region xs b b ≡ Some r → ⊥
        nowhere there_too rest =
            let empty : None ≡ Some r = sym (ap lowest (alone b x xs there_too none)) ∙ rest in
            cc

-- ---- what is found holds the address, and lies within the memory

pub holds_it : (size at : ℕ) (kept : List Region) → AreWithin size kept → (o : Option Region) → first_region kept at at ≡ o → IfSome o (λ r. (r.start ≤ at) × (at ≤ r.last))
holds_it size at kept all None e = tt
holds_it size at kept all (Some r) e =
    let held = (found_one (overlaps at at) (is_region_of size) kept r all e).passes in
    (grind (arith, nat_tests, held), grind (arith, nat_tests, held))

pub lies_within : (size at : ℕ) (kept : List Region) → AreWithin size kept → (o : Option Region) → first_region kept at at ≡ o → IfSome o (λ r. r.offset + (r.last - r.start) < size)
lies_within size at kept all None e = tt
lies_within size at kept all (Some r) e =
    let good = (found_one (overlaps at at) (is_region_of size) kept r all e).has in
    grind (arith, nat_tests, good)

-- ---- a part

module _ (given kept : List Region) (s : StandsFor given kept) (access : Access) (at n : ℕ) (r : Region) (found : first_region kept at at ≡ Some r)
    (low : r.start ≤ at) (last : at + n ≤ r.last + 1) (allowed : permits access r ≡ true) where
  held : (i : ℕ) → i < n → region_at given (at + i) ≡ Some r
  held i below =
      let there : overlaps (at + i) (at + i) r ≡ true = grind (arith, nat_tests) in
      same_holder at (at + i) r given s.apart (sym (s.same at at) ∙ found) there

  seen : (i : ℕ) → i < n → sees given access (at + i) ≡ Some (r.offset + (at - r.start) + i)
  seen i below =
      let place : r.offset + (at + i - r.start) ≡ r.offset + (at - r.start) + i = omega arith in
      ap (λ o. option_and_then (λ (q : Region). if permits access q then Some (q.offset + (at + i - q.start)) else None) o) (held i below)
      ∙ ap (λ b. if b then Some (r.offset + (at + i - r.start)) else None) allowed
      ∙ ap (λ o. Some o) place

  free : (i : ℕ) → i < n → denial_at given access (at + i) ≡ None
  free i below =
      ap (λ o. option_map_or (λ (q : Region). if permits access q then None else Some (denied.Perm (at + i))) o (Some (denied.Bus (at + i)))) (held i below)
      ∙ ap (λ b. if b then None else Some (denied.Perm (at + i))) allowed

  pub reaches : (left : ℕ) → 0 < n → n ≤ left → at + n ≤ 2 ^ 64 → Reaches given access at left (record { offset = r.offset + (at - r.start); len = n })
  reaches left some few short = record {
    some = some;
    few = few;
    short = short;
    seen = seen;
    free = free;
  }
