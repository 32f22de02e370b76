-- The first of some addresses that fails a test.
use Rattle.std.proofs.Common.{◌≡◌, ◌≢◌, ℕ, zero, suc, ◌+◌, ◌-◌, ◌/◌, ◌%◌, ◌<◌, ◌≤◌, ◌⊎◌, inl, inr, Bool, true, false, refl, ap, ◌∙◌, sym, arith, Option, None, Some, cond}
use Rattle.std.proofs.lemmas.Bool.Decides.{eqb_tells}
use Rattle.vd_model.specs.AreaTurns.{first_failing}
use Rattle.vd_bounce.proofs.Pages.{page_is, split}

pub first_failing_here : (passes : ℕ → Bool) (from len : ℕ) → 0 < len → passes from ≡ false → first_failing passes from len ≡ Some from
first_failing_here passes from zero pos h = absurd (omega arith)
first_failing_here passes from (suc len) pos h = ap (λ b. cond b (first_failing passes (from + 1) len) (Some from)) h

first_failing_next : (passes : ℕ → Bool) (from left : ℕ) → 0 < left → passes from ≡ true → first_failing passes from left ≡ first_failing passes (from + 1) (left - 1)
first_failing_next passes from zero pos h = absurd (omega arith)
first_failing_next passes from (suc left) pos h =
    let one : suc left - 1 ≡ left = omega arith in
    rw one (ap (λ b. cond b (first_failing passes (from + 1) left) (Some from)) h)

some_is_not_none : {n : ℕ} → Some n ≡ None → ⊥
some_is_not_none h = cc

nat_tells : (a b : ℕ) → (a ≡ b) ⊎ (a ≢ b)
nat_tells a b = elim (eqb_tells a b) [ inl h ↦ inl h.1 | inr h ↦ inr h.1 ]

-- where none fails, each passes
pub first_failing_none : (passes : ℕ → Bool) (from len : ℕ) → first_failing passes from len ≡ None → (i : ℕ) → from ≤ i → i < from + len → passes i ≡ true
first_failing_none passes from zero e i low high = absurd (omega arith)
first_failing_none passes from (suc len) e i low high = by_first (passes from) refl (λ rest above. first_failing_none passes (from + 1) len rest i above (omega arith)) where
  by_first : (b : Bool) → passes from ≡ b → (first_failing passes (from + 1) len ≡ None → from + 1 ≤ i → passes i ≡ true) → passes i ≡ true
  by_first true here later = by_place (nat_tells i from) where
    by_place : ((i ≡ from) ⊎ (i ≢ from)) → passes i ≡ true
    by_place (inl same) = ap passes same ∙ here
    by_place (inr other) = later (sym (ap (λ b. cond b (first_failing passes (from + 1) len) (Some from)) here) ∙ e) (omega arith)
  by_first false here later = absurd (some_is_not_none (sym (ap (λ b. cond b (first_failing passes (from + 1) len) (Some from)) here) ∙ e))

-- tests that agree in the range
pub first_failing_same : (passes tests : ℕ → Bool) (from len : ℕ) → ((a : ℕ) → from ≤ a → a < from + len → passes a ≡ tests a) → first_failing passes from len ≡ first_failing tests from len
first_failing_same passes tests from zero same = refl
first_failing_same passes tests from (suc len) same =
    ap (λ b. cond b (first_failing passes (from + 1) len) (Some from)) (same from (omega arith) (omega arith))
    ∙ ap (λ o. cond (tests from) o (Some from)) (first_failing_same passes tests (from + 1) len (λ a low high. same a (omega arith) (omega arith)))

-- past some that pass
pub first_failing_past : (passes : ℕ → Bool) (from step left : ℕ) → step ≤ left → ((i : ℕ) → from ≤ i → i < from + step → passes i ≡ true)
    → first_failing passes from left ≡ first_failing passes (from + step) (left - step)
first_failing_past passes from zero left fits all =
    let same : from + 0 ≡ from = omega arith in let rest : left - 0 ≡ left = omega arith in rw (same, rest) refl
first_failing_past passes from (suc step) left fits all =
    let there : from + suc step ≡ from + 1 + step = omega arith in
    let rest : left - suc step ≡ left - 1 - step = omega arith in
    first_failing_next passes from left (omega arith) (all from (omega arith) (omega arith))
    ∙ first_failing_past passes (from + 1) step (left - 1) (omega arith) (λ i low high. all i (omega arith) (omega arith))
    ∙ ap (λ k. first_failing passes k (left - 1 - step)) (sym there) ∙ ap (first_failing passes (from + suc step)) (sym rest)

-- where each passes, none fails
pub first_failing_all : (passes : ℕ → Bool) (from len : ℕ) → ((i : ℕ) → from ≤ i → i < from + len → passes i ≡ true) → first_failing passes from len ≡ None
first_failing_all passes from len all =
    let rest : len - len ≡ 0 = omega arith in
    first_failing_past passes from len len (omega arith) all ∙ ap (first_failing passes (from + len)) rest

-- one that fails among the first is the first of all
pub first_failing_found : (passes : ℕ → Bool) (from some len bad : ℕ) → some ≤ len → first_failing passes from some ≡ Some bad → first_failing passes from len ≡ Some bad
first_failing_found passes from zero len bad fits e = absurd (some_is_not_none (sym e))
first_failing_found passes from (suc some) zero bad fits e = absurd (omega arith)
first_failing_found passes from (suc some) (suc len) bad fits e = by (passes from) refl (λ rest. first_failing_found passes (from + 1) some len bad (omega arith) rest) where
  by : (b : Bool) → passes from ≡ b → (first_failing passes (from + 1) some ≡ Some bad → first_failing passes (from + 1) len ≡ Some bad) → first_failing passes from (suc len) ≡ Some bad
  by true h later =
      ap (λ b. cond b (first_failing passes (from + 1) len) (Some from)) h
      ∙ later (sym (ap (λ b. cond b (first_failing passes (from + 1) some) (Some from)) h) ∙ e)
  by false h later =
      ap (λ b. cond b (first_failing passes (from + 1) len) (Some from)) h
      ∙ sym (ap (λ b. cond b (first_failing passes (from + 1) some) (Some from)) h) ∙ e

-- the same test further on
abbrev pub up : ℕ → Option ℕ → Option ℕ
up top None = None
up top (Some a) = Some (a + top)

pub first_failing_shifted : (passes tests : ℕ → Bool) (from top len : ℕ) → ((a : ℕ) → from ≤ a → a < from + len → passes (a + top) ≡ tests a)
    → (o : Option ℕ) → first_failing tests from len ≡ o → first_failing passes (from + top) len ≡ up top o
first_failing_shifted passes tests from top zero same o e = ap (up top) e
first_failing_shifted passes tests from top (suc len) same o e = by (tests from) refl
    (first_failing_shifted passes tests (from + 1) top len (λ a low high. same a (omega arith) (omega arith)) (first_failing tests (from + 1) len) refl) where
      by : (b : Bool) → tests from ≡ b → first_failing passes (from + 1 + top) len ≡ up top (first_failing tests (from + 1) len) → first_failing passes (from + top) (suc len) ≡ up top o
      by true h rest =
          let next : from + top + 1 ≡ from + 1 + top = omega arith in
          ap (λ b. cond b (first_failing passes (from + top + 1) len) (Some (from + top))) (same from (omega arith) (omega arith) ∙ h)
          ∙ ap (λ k. first_failing passes k len) next ∙ rest
          ∙ ap (up top) (sym (ap (λ b. cond b (first_failing tests (from + 1) len) (Some from)) h) ∙ e)
      by false h rest =
          ap (λ b. cond b (first_failing passes (from + top + 1) len) (Some (from + top))) (same from (omega arith) (omega arith) ∙ h)
          ∙ ap (up top) (sym (ap (λ b. cond b (first_failing tests (from + 1) len) (Some from)) h) ∙ e)

-- addresses up to the end of a page lie in that page
pub same_page : (size at i : ℕ) → 0 < size → at ≤ i → i < at + (size - at % size) → i / size ≡ at / size
same_page size at i some low high =
    let whole = split size at some in
    page_is size (at / size) i some (omega arith) (omega arith)
