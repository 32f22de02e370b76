-- What is true of each address space stays so.
use Rattle.std.proofs.Common.{◌≡◌, ◌≢◌, ℕ, zero, suc, ◌+◌, ◌*◌, ◌<◌, ◌≤◌, ◌⊎◌, inl, inr, refl, subst, ap, sym, ◌∙◌, arith, Bool, true, false, ◌==◌, if◌then◌else◌, List, length, replicate, length-set, get_or-set_same, get_or-set_other, true≢false}
use Rattle.std.proofs.lemmas.Bool.Decides.{nat_tests, eqb_tells}
use Rattle.std.specs.List.{slice_index, slice_set}
use Rattle.vd_num.specs.Number.{is_within}
use Rattle.vd_iova.specs.Bits.{bit, IsClear, IsSummary, IsOutside, Takes}
use Rattle.vd_iova.specs.Space.{Space, is_covered, IsSound}
use Rattle.vd_iova.proofs.Runs.{one_not_zero}
use Rattle.vd_iova.proofs.Places.{covered_by, covered_found}

Tells : ℕ → ℕ → Type 0
Tells q start = (((q == start) ≡ true) × (q ≡ start)) ⊎ (((q == start) ≡ false) × (q ≢ start))

pub count_at : (counts : List ℕ) (start n q : ℕ) → start < length counts → slice_index (slice_set counts start n) q ≡ (if q == start then n else slice_index counts q)
count_at counts start n q inside = elim (eqb_tells q start) [
  | inl same ↦ ap (λ k. slice_index (slice_set counts start n) k) same.1 ∙ get_or-set_same counts start n 0 inside ∙ ap (λ b. if b then n else slice_index counts q) (sym same.0)
  | inr other ↦ get_or-set_other counts start q n 0 other.1 ∙ ap (λ b. if b then n else slice_index counts q) (sym other.0)
]

nothing_within : (q p : ℕ) → is_within q 0 p ≡ true → ⊥
nothing_within q p h = let no : is_within q 0 p ≡ false = grind (arith, nat_tests) in true≢false (sym h ∙ no)

module _ (words full : List ℕ) (s : Space) (sound : IsSound words full s) (start : ℕ) (inside : start < length s.counts) where
  pub took_sound : (words' full' : List ℕ) (n : ℕ) → Takes start n words full words' full' → IsClear words start n → 0 < n → s.first ≤ start → start + n ≤ s.«end» → slice_index s.counts start ≡ 0
      → IsSound words' full' (record { counts = slice_set s.counts start n; first = s.first; «end» = s.«end» })
  took_sound words' full' n takes free some low high fresh = record {
    small = sound.small;
    some = sound.some;
    counts = length-set s.counts start n ∙ sound.counts;
    room = subst (λ k. s.«end» ≤ 64 * k) (sym takes.len) sound.room;
    most = subst (λ k. k ≤ 1024) (sym takes.len) sound.most;
    ends = λ q pos. end_of q pos (eqb_tells q start);
    apart = λ q r p h k. part q r p h k (eqb_tells q start) (eqb_tells r start);
    filled = λ q p h. fill q p h (eqb_tells q start);
    covered = λ p from to set. cover p (λ old. sound.covered p from to old) set (is_within start n p) refl;
    outside = record {
      below = λ p under room. kept_bit p (sound.outside.below p under (subst (λ k. p < 64 * k) takes.len room)) (is_within start n p) refl;
      above = λ p over room. kept_bit p (sound.outside.above p over (subst (λ k. p < 64 * k) takes.len room)) (is_within start n p) refl;
    };
    summary = takes.summary;
  } where
    L : ℕ → ℕ
    L q = slice_index (slice_set s.counts start n) q

    here : (q : ℕ) → (q == start) ≡ true → L q ≡ n
    here q e = count_at s.counts start n q inside ∙ ap (λ b. if b then n else slice_index s.counts q) e

    there : (q : ℕ) → (q == start) ≡ false → L q ≡ slice_index s.counts q
    there q e = count_at s.counts start n q inside ∙ ap (λ b. if b then n else slice_index s.counts q) e

    end_of : (q : ℕ) → 0 < L q → (((q == start) ≡ true) × (q ≡ start)) ⊎ (((q == start) ≡ false) × (q ≢ start)) → (s.first ≤ q) × (q + L q ≤ s.«end»)
    end_of q pos (inl same) = let len = here q same.0 in let e = same.1 in (omega arith, omega arith)
    end_of q pos (inr other) = let len = there q other.0 in let old = sound.ends q (subst (λ k. 0 < k) len pos) in (old.0, subst (λ k. q + k ≤ s.«end») (sym len) old.1)

    old : (q p : ℕ) → (q == start) ≡ false → is_within q (L q) p ≡ true → is_within q (slice_index s.counts q) p ≡ true
    old q p e h = subst (λ k. is_within q k p ≡ true) (there q e) h

    mine : (q p : ℕ) → ((q == start) ≡ true) × (q ≡ start) → is_within q (L q) p ≡ true → is_within start n p ≡ true
    mine q p e h = subst (λ k. is_within k n p ≡ true) e.1 (subst (λ k. is_within q k p ≡ true) (here q e.0) h)

    clear_bit : (p : ℕ) → is_within start n p ≡ true → bit words p ≡ 0
    clear_bit p h =
        let from : start ≤ p = grind (arith, nat_tests) in
        let to : p < start + n = grind (arith, nat_tests) in
        free p from to

    set_bit : (p : ℕ) → is_within start n p ≡ true → bit words' p ≡ 1
    set_bit p h = takes.bits p ∙ ap (λ b. if b then 1 else bit words p) h

    kept_bit : (p : ℕ) → bit words p ≡ 1 → (b : Bool) → is_within start n p ≡ b → bit words' p ≡ 1
    kept_bit p one true h = set_bit p h
    kept_bit p one false h = takes.bits p ∙ ap (λ b. if b then 1 else bit words p) h ∙ one

    fill : (q p : ℕ) → is_within q (L q) p ≡ true → (((q == start) ≡ true) × (q ≡ start)) ⊎ (((q == start) ≡ false) × (q ≢ start)) → bit words' p ≡ 1
    fill q p h (inl same) = set_bit p (mine q p same h)
    fill q p h (inr other) = kept_bit p (sound.filled q p (old q p other.0 h)) (is_within start n p) refl

    part : (q r p : ℕ) → is_within q (L q) p ≡ true → is_within r (L r) p ≡ true
        → (((q == start) ≡ true) × (q ≡ start)) ⊎ (((q == start) ≡ false) × (q ≢ start)) → (((r == start) ≡ true) × (r ≡ start)) ⊎ (((r == start) ≡ false) × (r ≢ start)) → q ≡ r
    part q r p h k (inl a) (inl b) = a.1 ∙ sym b.1
    part q r p h k (inl a) (inr b) = absurd (one_not_zero (clear_bit p (mine q p a h)) (sound.filled r p (old r p b.0 k)))
    part q r p h k (inr a) (inl b) = absurd (one_not_zero (clear_bit p (mine r p b k)) (sound.filled q p (old q p a.0 h)))
    part q r p h k (inr a) (inr b) = sound.apart q r p (old q p a.0 h) (old r p b.0 k)

    -- a range that was there covers the slot still
    moved : (p q : ℕ) → is_within q (slice_index s.counts q) p ≡ true → (((q == start) ≡ true) × (q ≡ start)) ⊎ (((q == start) ≡ false) × (q ≢ start)) → is_covered (slice_set s.counts start n) p ≡ true
    moved p q h (inl same) = absurd (nothing_within q p (subst (λ k. is_within q k p ≡ true) (ap (λ k. slice_index s.counts k) same.1 ∙ fresh) h))
    moved p q h (inr other) = covered_by (slice_set s.counts start n) q p (subst (λ k. is_within q k p ≡ true) (sym (there q other.0)) h)

    cover : (p : ℕ) → (bit words p ≡ 1 → is_covered s.counts p ≡ true) → bit words' p ≡ 1 → (b : Bool) → is_within start n p ≡ b → is_covered (slice_set s.counts start n) p ≡ true
    cover p before set true h =
        let same : (start == start) ≡ true = grind (arith, nat_tests) in
        covered_by (slice_set s.counts start n) start p (subst (λ k. is_within start k p ≡ true) (sym (here start same)) h)
    cover p before set false h =
        let found = covered_found s.counts p (before (sym (ap (λ b. if b then 1 else bit words p) h) ∙ sym (takes.bits p) ∙ set)) in
        moved p found.0 found.1 (eqb_tells found.0 start)

  pub gave_sound : (words' full' : List ℕ) (n : ℕ) → n ≡ slice_index s.counts start → 0 < n
      → ((p : ℕ) → bit words' p ≡ (if is_within start n p then 0 else bit words p)) → length words' ≡ length words → IsSummary words' full'
      → IsSound words' full' (record { counts = slice_set s.counts start 0; first = s.first; «end» = s.«end» })
  gave_sound words' full' n len some bits size sums = record {
    small = sound.small;
    some = sound.some;
    counts = length-set s.counts start 0 ∙ sound.counts;
    room = subst (λ k. s.«end» ≤ 64 * k) (sym size) sound.room;
    most = subst (λ k. k ≤ 1024) (sym size) sound.most;
    ends = λ q pos. end_of q pos (eqb_tells q start);
    apart = λ q r p h k. part q r p h k (eqb_tells q start) (eqb_tells r start);
    filled = λ q p h. fill q p h (eqb_tells q start);
    covered = λ p from to set. cover p (λ old. sound.covered p from to old) set (is_within start n p) refl;
    outside = record {
      below = λ p under room. let no : is_within start n p ≡ false = (let low = range.0 in grind (arith, nat_tests)) in
          bits p ∙ ap (λ b. if b then 0 else bit words p) no ∙ sound.outside.below p under (subst (λ k. p < 64 * k) size room);
      above = λ p over room. let no : is_within start n p ≡ false = (let high = range.1 in grind (arith, nat_tests)) in
          bits p ∙ ap (λ b. if b then 0 else bit words p) no ∙ sound.outside.above p over (subst (λ k. p < 64 * k) size room);
    };
    summary = sums;
  } where
    range : (s.first ≤ start) × (start + n ≤ s.«end»)
    range = let old = sound.ends start (subst (λ k. 0 < k) len some) in (old.0, subst (λ k. start + k ≤ s.«end») (sym len) old.1)

    L : ℕ → ℕ
    L q = slice_index (slice_set s.counts start 0) q

    here : (q : ℕ) → (q == start) ≡ true → L q ≡ 0
    here q e = count_at s.counts start 0 q inside ∙ ap (λ b. if b then 0 else slice_index s.counts q) e

    there : (q : ℕ) → (q == start) ≡ false → L q ≡ slice_index s.counts q
    there q e = count_at s.counts start 0 q inside ∙ ap (λ b. if b then 0 else slice_index s.counts q) e

    end_of : (q : ℕ) → 0 < L q → (((q == start) ≡ true) × (q ≡ start)) ⊎ (((q == start) ≡ false) × (q ≢ start)) → (s.first ≤ q) × (q + L q ≤ s.«end»)
    end_of q pos (inl same) = absurd (let none = here q same.0 in omega arith)
    end_of q pos (inr other) = let same = there q other.0 in let old = sound.ends q (subst (λ k. 0 < k) same pos) in (old.0, subst (λ k. q + k ≤ s.«end») (sym same) old.1)

    old : (q p : ℕ) → (q == start) ≡ false → is_within q (L q) p ≡ true → is_within q (slice_index s.counts q) p ≡ true
    old q p e h = subst (λ k. is_within q k p ≡ true) (there q e) h

    gone : (q p : ℕ) → (q == start) ≡ true → is_within q (L q) p ≡ true → ⊥
    gone q p e h = nothing_within q p (subst (λ k. is_within q k p ≡ true) (here q e) h)

    kept_bit : (q p : ℕ) → q ≢ start → is_within q (slice_index s.counts q) p ≡ true → (b : Bool) → is_within start n p ≡ b → bit words' p ≡ 1
    kept_bit q p ne h true k = absurd (ne (sound.apart q start p h (subst (λ m. is_within start m p ≡ true) len k)))
    kept_bit q p ne h false k = bits p ∙ ap (λ b. if b then 0 else bit words p) k ∙ sound.filled q p h

    fill : (q p : ℕ) → is_within q (L q) p ≡ true → (((q == start) ≡ true) × (q ≡ start)) ⊎ (((q == start) ≡ false) × (q ≢ start)) → bit words' p ≡ 1
    fill q p h (inl same) = absurd (gone q p same.0 h)
    fill q p h (inr other) = kept_bit q p other.1 (old q p other.0 h) (is_within start n p) refl

    part : (q r p : ℕ) → is_within q (L q) p ≡ true → is_within r (L r) p ≡ true
        → (((q == start) ≡ true) × (q ≡ start)) ⊎ (((q == start) ≡ false) × (q ≢ start)) → (((r == start) ≡ true) × (r ≡ start)) ⊎ (((r == start) ≡ false) × (r ≢ start)) → q ≡ r
    part q r p h k (inl a) b = absurd (gone q p a.0 h)
    part q r p h k (inr a) (inl b) = absurd (gone r p b.0 k)
    part q r p h k (inr a) (inr b) = sound.apart q r p (old q p a.0 h) (old r p b.0 k)

    moved : (p q : ℕ) → is_within start n p ≡ false → is_within q (slice_index s.counts q) p ≡ true → (((q == start) ≡ true) × (q ≡ start)) ⊎ (((q == start) ≡ false) × (q ≢ start)) → is_covered (slice_set s.counts start 0) p ≡ true
    moved p q out h (inl same) = absurd (true≢false (sym (subst (λ m. is_within start m p ≡ true) (sym len) (subst (λ k. is_within k (slice_index s.counts k) p ≡ true) same.1 h)) ∙ out))
    moved p q out h (inr other) = covered_by (slice_set s.counts start 0) q p (subst (λ k. is_within q k p ≡ true) (sym (there q other.0)) h)

    cover : (p : ℕ) → (bit words p ≡ 1 → is_covered s.counts p ≡ true) → bit words' p ≡ 1 → (b : Bool) → is_within start n p ≡ b → is_covered (slice_set s.counts start 0) p ≡ true
    cover p before set true h = absurd (one_not_zero (bits p ∙ ap (λ b. if b then 0 else bit words p) h) set)
    cover p before set false h =
        let found = covered_found s.counts p (before (sym (ap (λ b. if b then 0 else bit words p) h) ∙ sym (bits p) ∙ set)) in
        moved p found.0 h found.1 (eqb_tells found.0 start)

zero_at : (n i : ℕ) → slice_index (replicate n 0) i ≡ 0
zero_at zero i = refl
zero_at (suc n) zero = refl
zero_at (suc n) (suc i) = zero_at n i

zeros_long : (n : ℕ) → length {A = ℕ} (replicate n 0) ≡ n
zeros_long zero = refl
zeros_long (suc n) = let e = zeros_long n in omega arith

pub new_sound : (words full : List ℕ) (first end : ℕ) → first < end → end ≤ 65536 → end ≤ 64 * length words → length words ≤ 1024 → IsOutside words first end
    → ((p : ℕ) → first ≤ p → p < end → bit words p ≡ 0) → IsSummary words full
    → IsSound words full (record { counts = replicate end 0; first = first; «end» = end })
new_sound words full first end order small room most out free sums = record {
  small = small;
  some = order;
  counts = zeros_long end;
  room = room;
  most = most;
  ends = λ q pos. absurd (let none = zero_at end q in omega arith);
  apart = λ q r p h k. absurd (nothing_within q p (subst (λ m. is_within q m p ≡ true) (zero_at end q) h));
  filled = λ q p h. absurd (nothing_within q p (subst (λ m. is_within q m p ≡ true) (zero_at end q) h));
  covered = λ p low high set. absurd (one_not_zero (free p low high) set);
  outside = out;
  summary = sums;
}
