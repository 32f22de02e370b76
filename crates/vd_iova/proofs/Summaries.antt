-- A summary after bits of its words changed.
use Rattle.std.proofs.Common.{◌≡◌, ◌≢◌, ℕ, ◌+◌, ◌-◌, ◌*◌, ◌/◌, ◌%◌, ◌^◌, ◌<◌, ◌≤◌, ◌⊎◌, inl, inr, refl, subst, ap, sym, ◌∙◌, arith, true, false, ◌==◌, List, length, length-set, get_or-set_same, get_or-set_other, if◌then◌else◌, max}
use Rattle.std.proofs.lemmas.Bool.Decides.{nat_tests, eqb_tells, leb_tells}
use Rattle.std.specs.Int.{bit_at}
use Rattle.std.specs.List.{slice_index, slice_set}
use Rattle.std.proofs.lemmas.Nat.Bits.{bit_at_ones}
use Rattle.vd_num.specs.Number.{is_within}
use Rattle.vd_iova.specs.Bits.{bit, IsClear, IsFullWord, IsSummary, Takes}
use Rattle.vd_iova.proofs.Pieces.{written, one_more}
use Rattle.vd_iova.proofs.Runs.{bit_of, bit_small, bit_tells, all_ones, one_not_zero}

-- bit w of the summary is set exactly where word w is full
pub record SumsAt (words full : List ℕ) (w : ℕ) : Type 0 where
  pub is_full : bit full w ≡ 1 → IsFullWord words w
  pub not_full : bit full w ≡ 0 → IsFullWord words w → ⊥

pub sums_at : (words full : List ℕ) → IsSummary words full → (w : ℕ) → w < length words → SumsAt words full w
sums_at words full s w inside = record { is_full = s.is_full w inside; not_full = s.not_full w inside }

pub sums_by : (words full : List ℕ) → length words ≡ 64 * length full → ((w : ℕ) → w < length words → SumsAt words full w) → IsSummary words full
sums_by words full len each = record { len = len; is_full = λ w h. (each w h).is_full; not_full = λ w h. (each w h).not_full }

pub same_at : (words full words' full' : List ℕ) (w : ℕ) → ((i : ℕ) → i < 64 → bit words' (64 * w + i) ≡ bit words (64 * w + i)) → bit full' w ≡ bit full w → SumsAt words full w → SumsAt words' full' w
same_at words full words' full' w bits e s = record {
  is_full = λ set i h. bits i h ∙ s.is_full (sym e ∙ set) i h;
  not_full = λ clear ones. s.not_full (sym e ∙ clear) (λ i h. sym (bits i h) ∙ ones i h);
}

pub full_at : (words full : List ℕ) (w : ℕ) → IsFullWord words w → bit full w ≡ 1 → SumsAt words full w
full_at words full w ones set = record { is_full = λ h. ones; not_full = λ clear h. one_not_zero clear set }

pub open_at : (words full : List ℕ) (w : ℕ) → (IsFullWord words w → ⊥) → bit full w ≡ 0 → SumsAt words full w
open_at words full w open_word clear = record { is_full = λ set. absurd (one_not_zero clear set); not_full = λ h. open_word }

-- a clear bit in a word that its summary bit can't call full
pub sum_clear : (words full : List ℕ) (w i : ℕ) → SumsAt words full w → i < 64 → bit words (64 * w + i) ≡ 0 → bit full w ≡ 0
sum_clear words full w i s below clear = elim (bit_tells (bit full w) (bit_small full w)) [
  | inl none ↦ none
  | inr set ↦ absurd (one_not_zero clear (s.is_full set i below))
]

-- ---- one word is written

pub set_word : (words : List ℕ) (at word i : ℕ) → at < length words → i < 64 → bit (slice_set words at word) (64 * at + i) ≡ bit_at word i
set_word words at word i inside h = bit_of (slice_set words at word) at i h ∙ ap (λ w. bit_at w i) (get_or-set_same words at word 0 inside)

pub other_word : (words : List ℕ) (at word p : ℕ) → p / 64 ≢ at → bit (slice_set words at word) p ≡ bit words p
unfolding bit
other_word words at word p ne = ap (λ w. bit_at w (p % 64)) (get_or-set_other words at (p / 64) word 0 ne)

pub put_bits : (words : List ℕ) (at lo n word : ℕ) → at < length words → lo + n ≤ 64 → 0 < n
    → ((i : ℕ) → bit_at word i ≡ (if is_within lo n i then 1 else bit_at (slice_index words at) i))
    → (p : ℕ) → bit (slice_set words at word) p ≡ (if is_within (64 * at + lo) n p then 1 else bit words p)
put_bits words at lo n word inside fits some bits p =
    let here : (64 * at + lo) / 64 ≡ at = omega arith in
    let index : (64 * at + lo) % 64 ≡ lo = omega arith in
    subst (λ k. bit (slice_set words k word) p ≡ (if is_within (64 * at + lo) n p then 1 else bit words p)) here
    (written words (64 * at + lo) n word 1 (omega arith) (omega arith)
    (λ i h. bits i ∙ ap (λ l. if is_within l n i then 1 else bit_at (slice_index words at) i) (sym index) ∙ ap (λ k. if is_within ((64 * at + lo) % 64) n i then 1 else bit_at (slice_index words k) i) (sym here)) p)

pub full_word : (words : List ℕ) (at word : ℕ) → at < length words → word ≡ 18446744073709551615 → IsFullWord (slice_set words at word) at
full_word words at word inside max i h = set_word words at word i inside h ∙ ap (λ w. bit_at w i) max ∙ bit_at_ones 64 i h

pub open_word : (words : List ℕ) (at word : ℕ) → at < length words → word < 2 ^ 64 → word ≢ 18446744073709551615 → IsFullWord (slice_set words at word) at → ⊥
open_word words at word inside fits ne ones = ne (all_ones word fits (λ i h. sym (set_word words at word i inside h) ∙ ones i h))

module _ (words full : List ℕ) (at lo n word : ℕ) (s : IsSummary words full) (inside : at < length words) (fits : lo + n ≤ 64) (some : 0 < n)
    (bits : (i : ℕ) → bit_at word i ≡ (if is_within lo n i then 1 else bit_at (slice_index words at) i)) where
  kept : (w i : ℕ) → w ≢ at → i < 64 → bit (slice_set words at word) (64 * w + i) ≡ bit words (64 * w + i)
  kept w i ne h = let here : (64 * w + i) / 64 ≡ w = omega arith in other_word words at word (64 * w + i) (λ e. ne (sym here ∙ e))

  size : length (slice_set words at word) ≡ length words
  size = length-set words at word

  pub takes_full : (sum : ℕ) → word ≡ 18446744073709551615 → ((i : ℕ) → bit_at sum i ≡ (if is_within (at % 64) 1 i then 1 else bit_at (slice_index full (at / 64)) i))
      → Takes (64 * at + lo) n words full (slice_set words at word) (slice_set full (at / 64) sum)
  takes_full sum max sums = record {
    bits = put_bits words at lo n word inside fits some bits;
    len = size;
    summary = sums_by (slice_set words at word) (slice_set full (at / 64) sum) (size ∙ s.len ∙ ap (λ k. 64 * k) (sym (length-set full (at / 64) sum)))
        (λ w h. each w (subst (λ k. w < k) size h) (eqb_tells w at));
  } where
    back : 64 * (at / 64) + at % 64 ≡ at
    back = omega arith

    room : at / 64 < length full
    room = let len = s.len in omega arith

    marked : (w : ℕ) → bit (slice_set full (at / 64) sum) w ≡ (if is_within (64 * (at / 64) + at % 64) 1 w then 1 else bit full w)
    marked = put_bits full (at / 64) (at % 64) 1 sum room (omega arith) (omega arith) sums

    each : (w : ℕ) → w < length words → (((w == at) ≡ true) × (w ≡ at)) ⊎ (((w == at) ≡ false) × (w ≢ at)) → SumsAt (slice_set words at word) (slice_set full (at / 64) sum) w
    each w h (inl same) =
        let e = same.1 in
        let yes : is_within (64 * (at / 64) + at % 64) 1 w ≡ true = grind (arith, nat_tests) in
        full_at (slice_set words at word) (slice_set full (at / 64) sum) w (subst (λ k. IsFullWord (slice_set words at word) k) (sym e) (full_word words at word inside max))
        (marked w ∙ ap (λ b. if b then 1 else bit full w) yes)
    each w h (inr other) =
        let ne = other.1 in
        let no : is_within (64 * (at / 64) + at % 64) 1 w ≡ false = grind (arith, nat_tests) in
        same_at words full (slice_set words at word) (slice_set full (at / 64) sum) w (λ i below. kept w i ne below)
        (marked w ∙ ap (λ b. if b then 1 else bit full w) no) (sums_at words full s w h)

  pub takes_open : word < 2 ^ 64 → word ≢ 18446744073709551615 → bit full at ≡ 0 → Takes (64 * at + lo) n words full (slice_set words at word) full
  takes_open small ne clear = record {
    bits = put_bits words at lo n word inside fits some bits;
    len = size;
    summary = sums_by (slice_set words at word) full (size ∙ s.len) (λ w h. each w (subst (λ k. w < k) size h) (eqb_tells w at));
  } where
    each : (w : ℕ) → w < length words → (((w == at) ≡ true) × (w ≡ at)) ⊎ (((w == at) ≡ false) × (w ≢ at)) → SumsAt (slice_set words at word) full w
    each w h (inl same) =
        open_at (slice_set words at word) full w
        (λ ones. open_word words at word inside small ne (subst (λ k. IsFullWord (slice_set words at word) k) same.1 ones))
        (ap (λ k. bit full k) same.1 ∙ clear)
    each w h (inr other) = same_at words full (slice_set words at word) full w (λ i below. kept w i other.1 below) refl (sums_at words full s w h)

-- ---- whole words and a rest are set

-- the words after their whole ones and then the rest were set, and the summary with `more` full words beside the whole ones
pub takes_whole : (words full words' full' : List ℕ) (at n more : ℕ) → IsSummary words full → 0 < n → 64 * at + n ≤ 64 * length words → IsClear words (64 * at) n
    → ((p : ℕ) → bit words' p ≡ (if is_within (64 * (at + n / 64)) (n % 64) p then 1 else (if is_within (64 * at) (64 * (n / 64)) p then 1 else bit words p)))
    → length words' ≡ length words → length full' ≡ length full
    → ((w : ℕ) → bit full' w ≡ (if is_within at (n / 64 + more) w then 1 else bit full w))
    → more ≤ 1 → (more ≡ 1 → 0 < n % 64) → (more ≡ 1 → IsFullWord words' (at + n / 64)) → (more ≡ 0 → 0 < n % 64 → IsFullWord words' (at + n / 64) → ⊥)
    → Takes (64 * at) n words full words' full'
takes_whole words full words' full' at n more s some inside clear parts size sizes marks few rest ones opens = record {
  bits = bits;
  len = size;
  summary = sums_by words' full' (size ∙ s.len ∙ ap (λ k. 64 * k) (sym sizes)) (λ w h. each w (subst (λ k. w < k) size h));
} where
  bits : (p : ℕ) → bit words' p ≡ (if is_within (64 * at) n p then 1 else bit words p)
  bits p =
      let start : 64 * at + 64 * (n / 64) ≡ 64 * (at + n / 64) = omega arith in
      let all : 64 * (n / 64) + n % 64 ≡ n = omega arith in
      parts p
      ∙ ap (λ x. if is_within x (n % 64) p then 1 else (if is_within (64 * at) (64 * (n / 64)) p then 1 else bit words p)) (sym start)
      ∙ one_more (64 * at) (64 * (n / 64)) (n % 64) 1 (bit words p) p ∙ ap (λ k. if is_within (64 * at) k p then 1 else bit words p) all

  set_bit : (p : ℕ) → 64 * at ≤ p → p < 64 * at + n → bit words' p ≡ 1
  set_bit p low high = let yes : is_within (64 * at) n p ≡ true = grind (arith, nat_tests) in bits p ∙ ap (λ b. if b then 1 else bit words p) yes

  kept_bit : (p : ℕ) → (p < 64 * at) ⊎ (64 * at + n ≤ p) → bit words' p ≡ bit words p
  kept_bit p out = let no : is_within (64 * at) n p ≡ false = grind (arith, nat_tests) in bits p ∙ ap (λ b. if b then 1 else bit words p) no

  marked : (w : ℕ) → at ≤ w → w < at + (n / 64 + more) → bit full' w ≡ 1
  marked w low high = let yes : is_within at (n / 64 + more) w ≡ true = grind (arith, nat_tests) in marks w ∙ ap (λ b. if b then 1 else bit full w) yes

  unmarked : (w : ℕ) → (w < at) ⊎ (at + (n / 64 + more) ≤ w) → bit full' w ≡ bit full w
  unmarked w out = let no : is_within at (n / 64 + more) w ≡ false = grind (arith, nat_tests) in marks w ∙ ap (λ b. if b then 1 else bit full w) no

  last : (w : ℕ) → w < length words → w ≡ at + n / 64 → (m : ℕ) → more ≡ m → m < 2 → (m ≡ 0) ⊎ (m ≡ 1) → SumsAt words' full' w
  last w h e m is small (inr one) =
      let is_one : more ≡ 1 = is ∙ one in
      full_at words' full' w (subst (λ k. IsFullWord words' k) (sym e) (ones is_one)) (marked w (omega arith) (omega arith))
  last w h e m is small (inl none) =
      let is_zero : more ≡ 0 = is ∙ none in
      let old = unmarked w (inr (omega arith)) in
      elim (leb_tells 1 (n % 64)) [
        | inl some_rest ↦
            (let r = some_rest.1 in
            let first : bit words (64 * w + 0) ≡ 0 = clear (64 * w + 0) (omega arith) (omega arith) in
            open_at words' full' w (λ all. opens is_zero (omega arith) (subst (λ k. IsFullWord words' k) e all))
            (old ∙ sum_clear words full w 0 (sums_at words full s w h) (omega arith) first))
        | inr no_rest ↦
            (let r = no_rest.1 in
            same_at words full words' full' w (λ i below. kept_bit (64 * w + i) (inr (omega arith))) old (sums_at words full s w h))
      ]

  each : (w : ℕ) → w < length words → SumsAt words' full' w
  each w h = elim (leb_tells at w) [
    | inr before ↦ (let b = before.1 in same_at words full words' full' w (λ i below. kept_bit (64 * w + i) (inl (omega arith))) (unmarked w (inl b)) (sums_at words full s w h))
    | inl after ↦ (let a = after.1 in elim (leb_tells (at + n / 64) w) [
      | inr whole ↦ (let b = whole.1 in full_at words' full' w (λ i below. set_bit (64 * w + i) (omega arith) (omega arith)) (marked w a (omega arith)))
      | inl past ↦ (let p = past.1 in elim (eqb_tells w (at + n / 64)) [
        | inl same ↦ last w h same.1 more refl (omega arith) (bit_tells more (omega arith))
        | inr other ↦
            (let ne = other.1 in
            same_at words full words' full' w (λ i below. kept_bit (64 * w + i) (inr (omega arith))) (unmarked w (inr (omega arith))) (sums_at words full s w h))
      ])
    ])
  ]

-- ---- a range is cleared

pub gives_run : (words full words' full' : List ℕ) (start n : ℕ) → IsSummary words full → 0 < n
    → ((p : ℕ) → bit words' p ≡ (if is_within start n p then 0 else bit words p)) → length words' ≡ length words → length full' ≡ length full
    → ((w : ℕ) → bit full' w ≡ (if is_within (start / 64) ((start % 64 + n + 63) / 64) w then 0 else bit full w))
    → IsSummary words' full'
gives_run words full words' full' start n s some bits size sizes marks =
    sums_by words' full' (size ∙ s.len ∙ ap (λ k. 64 * k) (sym sizes)) (λ w h. each w (subst (λ k. w < k) size h)) where
      cleared : (p : ℕ) → start ≤ p → p < start + n → bit words' p ≡ 0
      cleared p low high = let yes : is_within start n p ≡ true = grind (arith, nat_tests) in bits p ∙ ap (λ b. if b then 0 else bit words p) yes

      kept_bit : (p : ℕ) → (p < start) ⊎ (start + n ≤ p) → bit words' p ≡ bit words p
      kept_bit p out = let no : is_within start n p ≡ false = grind (arith, nat_tests) in bits p ∙ ap (λ b. if b then 0 else bit words p) no

      unmarked : (w : ℕ) → (w < start / 64) ⊎ (start / 64 + (start % 64 + n + 63) / 64 ≤ w) → bit full' w ≡ bit full w
      unmarked w out = let no : is_within (start / 64) ((start % 64 + n + 63) / 64) w ≡ false = grind (arith, nat_tests) in marks w ∙ ap (λ b. if b then 0 else bit full w) no

      opened : (w : ℕ) → start / 64 ≤ w → w < start / 64 + (start % 64 + n + 63) / 64 → IsFullWord words' w → ⊥
      opened w low high ones =
          let i = max start (64 * w) - 64 * w in
          let back : 64 * w + (max start (64 * w) - 64 * w) ≡ max start (64 * w) = omega arith in
          one_not_zero (cleared (64 * w + (max start (64 * w) - 64 * w)) (omega arith) (omega arith)) (ones (max start (64 * w) - 64 * w) (omega arith))

      each : (w : ℕ) → w < length words → SumsAt words' full' w
      each w h = elim (leb_tells (start / 64) w) [
        | inr before ↦ (let b = before.1 in same_at words full words' full' w (λ i below. kept_bit (64 * w + i) (inl (omega arith))) (unmarked w (inl b)) (sums_at words full s w h))
        | inl after ↦ (let a = after.1 in elim (leb_tells (start / 64 + (start % 64 + n + 63) / 64) w) [
          | inl past ↦ (let p = past.1 in same_at words full words' full' w (λ i below. kept_bit (64 * w + i) (inr (omega arith))) (unmarked w (inr p)) (sums_at words full s w h))
          | inr within ↦
              (let b = within.1 in
              let yes : is_within (start / 64) ((start % 64 + n + 63) / 64) w ≡ true = grind (arith, nat_tests) in
              open_at words' full' w (opened w a b) (marks w ∙ ap (λ b. if b then 0 else bit full w) yes))
        ])
      ]

-- ---- the bits outside are set

pub outside_sums : (words full : List ℕ) (first end : ℕ) → first < end → end ≤ 64 * length words → length words ≡ 64 * length full
    → ((p : ℕ) → bit words p ≡ (if is_within end (64 * length words - end) p then 1 else (if is_within 0 first p then 1 else 0)))
    → ((w : ℕ) → bit full w ≡ (if is_within ((end + 63) / 64) (length words - (end + 63) / 64) w then 1 else (if is_within 0 (first / 64) w then 1 else 0)))
    → IsSummary words full
outside_sums words full first end order room len bits sums = sums_by words full len each where
  low_bit : (p : ℕ) → p < first → bit words p ≡ 1
  low_bit p h = let yes : is_within 0 first p ≡ true = grind (arith, nat_tests) in let no : is_within end (64 * length words - end) p ≡ false = grind (arith, nat_tests) in
      bits p ∙ ap (λ b. if b then 1 else (if is_within 0 first p then 1 else 0)) no ∙ ap (λ b. if b then 1 else 0) yes

  high_bit : (p : ℕ) → end ≤ p → p < 64 * length words → bit words p ≡ 1
  high_bit p low h = let yes : is_within end (64 * length words - end) p ≡ true = grind (arith, nat_tests) in bits p ∙ ap (λ b. if b then 1 else (if is_within 0 first p then 1 else 0)) yes

  free_bit : (p : ℕ) → first ≤ p → p < end → bit words p ≡ 0
  free_bit p low high = let none : is_within 0 first p ≡ false = grind (arith, nat_tests) in let no : is_within end (64 * length words - end) p ≡ false = grind (arith, nat_tests) in
      bits p ∙ ap (λ b. if b then 1 else (if is_within 0 first p then 1 else 0)) no ∙ ap (λ b. if b then 1 else 0) none

  low_sum : (w : ℕ) → w < first / 64 → bit full w ≡ 1
  low_sum w h = let yes : is_within 0 (first / 64) w ≡ true = grind (arith, nat_tests) in let no : is_within ((end + 63) / 64) (length words - (end + 63) / 64) w ≡ false = grind (arith, nat_tests) in
      sums w ∙ ap (λ b. if b then 1 else (if is_within 0 (first / 64) w then 1 else 0)) no ∙ ap (λ b. if b then 1 else 0) yes

  high_sum : (w : ℕ) → (end + 63) / 64 ≤ w → w < length words → bit full w ≡ 1
  high_sum w low h = let yes : is_within ((end + 63) / 64) (length words - (end + 63) / 64) w ≡ true = grind (arith, nat_tests) in sums w ∙ ap (λ b. if b then 1 else (if is_within 0 (first / 64) w then 1 else 0)) yes

  free_sum : (w : ℕ) → first / 64 ≤ w → w < (end + 63) / 64 → bit full w ≡ 0
  free_sum w low high = let none : is_within 0 (first / 64) w ≡ false = grind (arith, nat_tests) in let no : is_within ((end + 63) / 64) (length words - (end + 63) / 64) w ≡ false = grind (arith, nat_tests) in
      sums w ∙ ap (λ b. if b then 1 else (if is_within 0 (first / 64) w then 1 else 0)) no ∙ ap (λ b. if b then 1 else 0) none

  each : (w : ℕ) → w < length words → SumsAt words full w
  each w h = elim (leb_tells (first / 64) w) [
    | inr before ↦ (let b = before.1 in full_at words full w (λ i below. low_bit (64 * w + i) (omega arith)) (low_sum w b))
    | inl after ↦ (let a = after.1 in elim (leb_tells ((end + 63) / 64) w) [
      | inl past ↦ (let p = past.1 in full_at words full w (λ i below. high_bit (64 * w + i) (omega arith) (omega arith)) (high_sum w p h))
      | inr within ↦
          (let b = within.1 in
          let back : 64 * w + (max first (64 * w) - 64 * w) ≡ max first (64 * w) = omega arith in
          open_at words full w
          (λ ones. one_not_zero (free_bit (64 * w + (max first (64 * w) - 64 * w)) (omega arith) (omega arith)) (ones (max first (64 * w) - 64 * w) (omega arith)))
          (free_sum w a b))
    ])
  ]
