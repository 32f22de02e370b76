-- Ranges of a row of counts, their bits, and places among them.
use Rattle.std.proofs.Common.{◌≡◌, ℕ, zero, suc, ◌+◌, ◌-◌, ◌*◌, ◌%◌, ◌<◌, ◌≤◌, inl, inr, refl, subst, ap, sym, ◌∙◌, arith, Bool, true, false, ◌==◌, ◌&&◌, ◌||◌, not, nat_le, List, [], ◌∷◌, length, Some, None, cond, true≢false, max}
use Rattle.std.proofs.lemmas.Bool.Decides.{nat_tests, eqb_tells, leb_tells}
use Rattle.std.specs.List.{slice_index, list_any}
use Rattle.vd_num.specs.Number.{is_within, power_from}
use Rattle.vd_model.specs.Place.{Slots, greatest, meets, is_place, place_of}
use Rattle.vd_iova.specs.Bits.{bit, IsClear, NoRun, IsTopRun}
use Rattle.vd_iova.specs.Space.{Space, ranges_from, taken_of, taken_at, is_covered, IsSound}
use Rattle.vd_iova.proofs.Runs.{bit_tells, bit_small, one_not_zero}

-- ---- the ranges of a row of counts

or_left : (a b : Bool) → a ≡ true → (a || b) ≡ true
or_left a b e = ap (λ x. x || b) e

or_right : (a b : Bool) → b ≡ true → (a || b) ≡ true
or_right true b e = refl
or_right false b e = e

-- a range that passes is among the ranges
pub any_at : (test : Slots → Bool) (counts : List ℕ) (start q : ℕ) → 0 < slice_index counts q → test (record { start = start + q; count = slice_index counts q }) ≡ true → list_any test (ranges_from start counts) ≡ true
any_at test [] start q some pass = absurd (omega arith)
any_at test (zero ∷ counts) start zero some pass = absurd (omega arith)
any_at test (zero ∷ counts) start (suc q) some pass =
    let e : start + suc q ≡ suc start + q = omega arith in
    any_at test counts (suc start) q some (subst (λ k. test (record { start = k; count = slice_index counts q }) ≡ true) e pass)
any_at test (suc n ∷ counts) start zero some pass =
    let e : start + 0 ≡ start = omega arith in
    or_left (test (record { start = start; count = suc n })) (list_any test (ranges_from (suc start) counts)) (subst (λ k. test (record { start = k; count = suc n }) ≡ true) e pass)
any_at test (suc n ∷ counts) start (suc q) some pass =
    let e : start + suc q ≡ suc start + q = omega arith in
    or_right (test (record { start = start; count = suc n })) (list_any test (ranges_from (suc start) counts))
    (any_at test counts (suc start) q some (subst (λ k. test (record { start = k; count = slice_index counts q }) ≡ true) e pass))

-- some range passes
pub record Passes (test : Slots → Bool) (counts : List ℕ) (start : ℕ) : Type 0 where
  pub at : ℕ
  pub some : 0 < slice_index counts at
  pub pass : test (record { start = start + at; count = slice_index counts at }) ≡ true

pub any_found : (test : Slots → Bool) (counts : List ℕ) (start : ℕ) → list_any test (ranges_from start counts) ≡ true → Passes test counts start
any_found test [] start h = absurd (true≢false (sym h))
any_found test (zero ∷ counts) start h = later (any_found test counts (suc start) h) where
  later : Passes test counts (suc start) → Passes test (zero ∷ counts) start
  later p =
      let e : suc start + p.at ≡ start + suc p.at = omega arith in
      record { at = suc p.at; some = p.some; pass = subst (λ k. test (record { start = k; count = slice_index counts p.at }) ≡ true) e p.pass }
any_found test (suc n ∷ counts) start h = by (test (record { start = start; count = suc n })) refl (λ rest. later (any_found test counts (suc start) rest)) where
  later : Passes test counts (suc start) → Passes test (suc n ∷ counts) start
  later p =
      let e : suc start + p.at ≡ start + suc p.at = omega arith in
      record { at = suc p.at; some = p.some; pass = subst (λ k. test (record { start = k; count = slice_index counts p.at }) ≡ true) e p.pass }

  by : (b : Bool) → test (record { start = start; count = suc n }) ≡ b → (list_any test (ranges_from (suc start) counts) ≡ true → Passes test (suc n ∷ counts) start) → Passes test (suc n ∷ counts) start
  by true e rest =
      let back : start ≡ start + 0 = omega arith in
      record { at = 0; some = omega arith; pass = subst (λ k. test (record { start = k; count = suc n }) ≡ true) back e }
  by false e rest = rest (sym (ap (λ b. b || list_any test (ranges_from (suc start) counts)) e) ∙ h)

some_within : (q n p : ℕ) → is_within q n p ≡ true → 0 < n
some_within q n p h = elim (leb_tells 1 n) [
  | inl some ↦ some.1
  | inr none ↦ absurd (let e = none.1 in let no : is_within q n p ≡ false = grind (arith, nat_tests) in true≢false (sym h ∙ no))
]

pub covered_by : (counts : List ℕ) (q p : ℕ) → is_within q (slice_index counts q) p ≡ true → is_covered counts p ≡ true
unfolding is_covered
covered_by counts q p h =
    let zero_more : q ≡ 0 + q = omega arith in
    any_at (λ range. is_within range.start range.count p) counts 0 q (some_within q (slice_index counts q) p h) (subst (λ k. is_within k (slice_index counts q) p ≡ true) zero_more h)

pub covered_found : (counts : List ℕ) (p : ℕ) → is_covered counts p ≡ true → (q : ℕ) × (is_within q (slice_index counts q) p ≡ true)
unfolding is_covered
covered_found counts p h =
    let found = any_found (λ range. is_within range.start range.count p) counts 0 h in
    let zero_more : 0 + found.at ≡ found.at = omega arith in
    (found.at, subst (λ k. is_within k (slice_index counts found.at) p ≡ true) zero_more found.pass)

-- ---- the greatest number that passes

greatest_is : (passes : ℕ → Bool) (s hi : ℕ) → s < hi → passes s ≡ true → ((k : ℕ) → s < k → k < hi → passes k ≡ false) → greatest passes hi ≡ Some s
unfolding greatest
greatest_is passes s zero below here above = absurd (omega arith)
greatest_is passes s (suc n) below here above = elim (eqb_tells s n) [
  | inl same ↦ ap (λ b. cond b (Some n) (greatest passes n)) (subst (λ k. passes k ≡ true) same.1 here) ∙ ap (λ k. Some k) (sym same.1)
  | inr other ↦
      (let ne = other.1 in
      ap (λ b. cond b (Some n) (greatest passes n)) (above n (omega arith) (omega arith)) ∙ greatest_is passes s n (omega arith) here (λ k low high. above k low (omega arith)))
]

greatest_none : (passes : ℕ → Bool) (hi : ℕ) → ((k : ℕ) → k < hi → passes k ≡ false) → greatest passes hi ≡ None
unfolding greatest
greatest_none passes zero h = refl
greatest_none passes (suc n) h = ap (λ b. cond b (Some n) (greatest passes n)) (h n (omega arith)) ∙ greatest_none passes n (λ k below. h k (omega arith))

-- ---- places and clear runs

record Parts (a b c d : Bool) : Type 0 where
  first : a ≡ true
  second : b ≡ true
  third : c ≡ true
  fourth : d ≡ true

parts_of : (a b c d : Bool) → (a && b && c && d) ≡ true → Parts a b c d
parts_of true true true true e = record { first = refl; second = refl; third = refl; fourth = refl }
parts_of true true true false e = absurd (true≢false (sym e))
parts_of true true false d e = absurd (true≢false (sym e))
parts_of true false c d e = absurd (true≢false (sym e))
parts_of false b c d e = absurd (true≢false (sym e))

-- what holds of a place
record Placed (words : List ℕ) (s : Space) (n k : ℕ) : Type 0 where
  multiple : k % power_from n ≡ 0
  low : s.first ≤ k
  high : k + n ≤ s.«end»
  clear : IsClear words k n

module _ (words full : List ℕ) (s : Space) (sound : IsSound words full s) (n : ℕ) (some : 0 < n) where
  placed : (k : ℕ) → is_place (taken_of s) n s.first s.«end» k ≡ true → Placed words s n k
  unfolding taken_of
  placed k e = record { multiple = multiple; low = low; high = high; clear = clear } where
    parts : Parts ((k % power_from n) == 0) (nat_le s.first k) (nat_le (k + n) s.«end») (not (list_any (meets k n) (ranges_from 0 s.counts)))
    parts = parts_of ((k % power_from n) == 0) (nat_le s.first k) (nat_le (k + n) s.«end») (not (list_any (meets k n) (ranges_from 0 s.counts))) e

    multiple : k % power_from n ≡ 0
    multiple = let a = parts.first in grind (arith, nat_tests)

    low : s.first ≤ k
    low = let a = parts.second in grind (arith, nat_tests)

    high : k + n ≤ s.«end»
    high = let a = parts.third in grind (arith, nat_tests)

    free : list_any (meets k n) (ranges_from 0 s.counts) ≡ true → ⊥
    free any = true≢false (sym parts.fourth ∙ ap not any)

    clear : IsClear words k n
    clear p from to = elim (bit_tells (bit words p) (bit_small words p)) [
      | inl none ↦ none
      | inr set ↦
          (let l = low in
          let h = high in
          let found = covered_found s.counts p (sound.covered p (omega arith) (omega arith) set) in
          let within = found.1 in
          let met : meets k n (record { start = 0 + found.0; count = slice_index s.counts found.0 }) ≡ true = grind (arith, nat_tests) in
          absurd (free (any_at (meets k n) s.counts 0 found.0 (some_within found.0 (slice_index s.counts found.0) p found.1) met)))
    ]

  pub clear_place : (k : ℕ) → k % power_from n ≡ 0 → k + n ≤ 64 * length words → IsClear words k n → is_place (taken_of s) n s.first s.«end» k ≡ true
  unfolding taken_of
  clear_place k multiple inside clear = by (list_any (meets k n) (ranges_from 0 s.counts)) refl where
    low : s.first ≤ k
    low = elim (leb_tells s.first k) [
      | inl fits ↦ fits.1
      | inr below ↦ absurd (one_not_zero (clear k (omega arith) (omega arith)) (sound.outside.below k below.1 (omega arith)))
    ]

    high : k + n ≤ s.«end»
    high = elim (leb_tells (k + n) s.«end») [
      | inl fits ↦ fits.1
      | inr past ↦ absurd (let e = past.1 in one_not_zero (clear (k + n - 1) (omega arith) (omega arith)) (sound.outside.above (k + n - 1) (omega arith) (omega arith)))
    ]

    busy : Passes (meets k n) s.counts 0 → ⊥
    busy found =
        let met = found.pass in
        let before : k < 0 + found.at + slice_index s.counts found.at = grind (arith, nat_tests) in
        let after : 0 + found.at < k + n = grind (arith, nat_tests) in
        let count = found.some in
        let within : is_within found.at (slice_index s.counts found.at) (max k found.at) ≡ true = grind (arith, nat_tests) in
        one_not_zero (clear (max k found.at) (omega arith) (omega arith)) (sound.filled found.at (max k found.at) within)

    by : (b : Bool) → list_any (meets k n) (ranges_from 0 s.counts) ≡ b → is_place (taken_of s) n s.first s.«end» k ≡ true
    by true any = absurd (busy (any_found (meets k n) s.counts 0 any))
    by false none =
        let l = low in
        let h = high in
        grind (arith, nat_tests)

  no_place : (k : ℕ) → (Placed words s n k → ⊥) → is_place (taken_of s) n s.first s.«end» k ≡ false
  no_place k never = by (is_place (taken_of s) n s.first s.«end» k) refl where
    by : (b : Bool) → is_place (taken_of s) n s.first s.«end» k ≡ b → b ≡ false
    by true e = absurd (never (placed k e))
    by false e = refl

  module _ (start : ℕ) (top : IsTopRun words (power_from n) n (s.«end» + 1 - n) start) where
    at : Placed words s n start
    at = placed start (clear_place start top.multiple top.inside top.clear)

    pub run_low : s.first ≤ start
    run_low = at.low

    pub run_high : start + n ≤ s.«end»
    run_high = at.high

    pub run_place : place_of (taken_of s) n s.first s.«end» ≡ Some start
    unfolding place_of
    run_place =
        let high = at.high in
        greatest_is (is_place (taken_of s) n s.first s.«end») start s.«end» (omega arith) (clear_place start top.multiple top.inside top.clear)
        (λ k low below. no_place k (λ p. let fits = p.high in top.top k (omega arith) (omega arith) p.multiple p.clear))

    pub run_fresh : taken_at s start ≡ 0
    run_fresh = elim (leb_tells 1 (taken_at s start)) [
      | inl taken ↦
          (let t = taken.1 in
          let within : is_within start (slice_index s.counts start) start ≡ true = grind (arith, nat_tests) in
          absurd (one_not_zero (top.clear start (omega arith) (omega arith)) (sound.filled start start within)))
      | inr none ↦ (let x = none.1 in omega arith)
    ]

  pub none_place : NoRun words (power_from n) n 0 (s.«end» + 1 - n) → place_of (taken_of s) n s.first s.«end» ≡ None
  unfolding place_of
  none_place never = greatest_none (is_place (taken_of s) n s.first s.«end») s.«end» (λ k below. no_place k (λ p. let fits = p.high in never k (omega arith) (omega arith) p.multiple p.clear))

  pub many_place : s.«end» - s.first < n → place_of (taken_of s) n s.first s.«end» ≡ None
  unfolding place_of
  many_place many = greatest_none (is_place (taken_of s) n s.first s.«end») s.«end» (λ k below. no_place k (λ p. let fits = p.high in let low = p.low in omega arith))
