-- How many sectors are dirty, and how many aren't.
use Rattle.std.proofs.Common.{◌≡◌, ℕ, zero, suc, ◌+◌, ◌-◌, ◌*◌, ◌<◌, ◌≤◌, ◌==◌, ◌⊎◌, inl, inr, true, false, List, [], length, Option, Some, None, is_some, refl, sym, ap, subst, ◌∙◌, arith}
use Rattle.std.proofs.lemmas.Bool.{cases_eq}
use Rattle.std.proofs.lemmas.Bool.Decides.{nat_tests}
use Rattle.blk_dirty.specs.Dirty.{mark, marked, clean, with_bytes}

pub mark_small : (o : Option (List ℕ)) → mark o ≤ 1
mark_small None = omega arith
mark_small (Some bytes) = omega arith

pub with_same : (sector : ℕ) (o : Option (List ℕ)) (f : ℕ → Option (List ℕ)) → with_bytes sector o f sector ≡ o
with_same sector o f = grind (arith, nat_tests)

pub with_other : (sector : ℕ) (o : Option (List ℕ)) (f : ℕ → Option (List ℕ)) (s : ℕ) → (s ≡ sector → ⊥) → with_bytes sector o f s ≡ f s
with_other sector o f s other = grind (arith, nat_tests)

marked_same : (f g : ℕ → Option (List ℕ)) (n : ℕ) → ((s : ℕ) → s < n → g s ≡ f s) → marked g n ≡ marked f n
marked_same f g zero same = refl
marked_same f g (suc n) same =
    let front : marked g n ≡ marked f n = marked_same f g n (λ s low. same s (omega arith)) in
    let last : mark (g n) ≡ mark (f n) = ap (λ (o : Option (List ℕ)). mark o) (same n (omega arith)) in
    omega arith

pub marked_with : (f g : ℕ → Option (List ℕ)) (sector : ℕ) (o : Option (List ℕ)) (n : ℕ) → ((s : ℕ) → g s ≡ with_bytes sector o f s) → sector < n → marked g n + mark (f sector) ≡ marked f n + mark o
marked_with f g sector o zero is inside = absurd (omega arith)
marked_with f g sector o (suc n) is inside = elim (cases_eq n sector) [
  | inl here ↦
      (let front : marked g n ≡ marked f n = marked_same f g n (λ s low. is s ∙ with_other sector o f s (λ e. omega arith)) in
      let last : mark (g n) ≡ mark o = ap (λ (p : Option (List ℕ)). mark p) (ap (λ (t : ℕ). g t) here ∙ is sector ∙ with_same sector o f) in
      let old : mark (f n) ≡ mark (f sector) = ap (λ (t : ℕ). mark (f t)) here in
      omega arith)
  | inr apart ↦
      (let front : marked g n + mark (f sector) ≡ marked f n + mark o = marked_with f g sector o n is (omega arith) in
      let last : mark (g n) ≡ mark (f n) = ap (λ (p : Option (List ℕ)). mark p) (is n ∙ with_other sector o f n apart) in
      omega arith)
]

clean_same : (f g : ℕ → Option (List ℕ)) (first n : ℕ) → ((s : ℕ) → s < first + n → g s ≡ f s) → clean g first n ≡ clean f first n
clean_same f g first zero same = refl
clean_same f g first (suc n) same =
    let front : clean g first n ≡ clean f first n = clean_same f g first n (λ s low. same s (omega arith)) in
    let last : mark (g (first + n)) ≡ mark (f (first + n)) = ap (λ (o : Option (List ℕ)). mark o) (same (first + n) (omega arith)) in
    omega arith

-- a sector of the stretch that is made dirty
pub clean_with : (f g : ℕ → Option (List ℕ)) (first sector : ℕ) (bytes : List ℕ) (n : ℕ) → ((s : ℕ) → g s ≡ with_bytes sector (Some bytes) f s) → first ≤ sector → sector < first + n →
    clean g first n + (1 - mark (f sector)) ≡ clean f first n
clean_with f g first sector bytes zero is low inside = absurd (omega arith)
clean_with f g first sector bytes (suc n) is low inside = elim (cases_eq (first + n) sector) [
  | inl here ↦
      (let front : clean g first n ≡ clean f first n = clean_same f g first n (λ s below. is s ∙ with_other sector (Some bytes) f s (λ e. omega arith)) in
      let last : mark (g (first + n)) ≡ 1 = ap (λ (p : Option (List ℕ)). mark p) (ap (λ (t : ℕ). g t) here ∙ is sector ∙ with_same sector (Some bytes) f) in
      let old : mark (f (first + n)) ≡ mark (f sector) = ap (λ (t : ℕ). mark (f t)) here in
      omega arith)
  | inr apart ↦
      (let front : clean g first n + (1 - mark (f sector)) ≡ clean f first n = clean_with f g first sector bytes n is low (omega arith) in
      let last : mark (g (first + n)) ≡ mark (f (first + n)) = ap (λ (p : Option (List ℕ)). mark p) (is (first + n) ∙ with_other sector (Some bytes) f (first + n) apart) in
      omega arith)
]

marked_small : (f : ℕ → Option (List ℕ)) (n : ℕ) → marked f n ≤ n
marked_small f zero = omega arith
marked_small f (suc n) = omega (arith, marked_small f n, mark_small (f n))

marked_grows : (f : ℕ → Option (List ℕ)) (n more : ℕ) → marked f (n + more) ≤ marked f n + more
marked_grows f n zero = let same : n + 0 ≡ n = omega arith in subst (λ (k : ℕ). marked f k ≤ marked f n + 0) (sym same) (omega arith)
marked_grows f n (suc more) =
    let next : n + suc more ≡ suc (n + more) = omega arith in
    let front : marked f (n + more) ≤ marked f n + more = marked_grows f n more in
    let last : mark (f (n + more)) ≤ 1 = mark_small (f (n + more)) in
    subst (λ (k : ℕ). marked f k ≤ marked f n + suc more) (sym next) (omega arith)

marked_clean : (f : ℕ → Option (List ℕ)) (first n : ℕ) → marked f (first + n) + clean f first n ≤ first + n
marked_clean f first zero =
    let same : first + 0 ≡ first = omega arith in
    subst (λ (k : ℕ). marked f k + 0 ≤ k) (sym same) (omega (arith, marked_small f first))
marked_clean f first (suc n) =
    let next : first + suc n ≡ suc (first + n) = omega arith in
    let front : marked f (first + n) + clean f first n ≤ first + n = marked_clean f first n in
    let last : mark (f (first + n)) ≤ 1 = mark_small (f (first + n)) in
    subst (λ (k : ℕ). marked f k + clean f first (suc n) ≤ k) (sym next) (omega arith)

-- the dirty sectors and the clean ones of a stretch are no more than the sectors
pub marked_and_clean : (f : ℕ → Option (List ℕ)) (first n all : ℕ) → first + n ≤ all → marked f all + clean f first n ≤ all
marked_and_clean f first n all inside =
    let rest : ℕ = all - (first + n) in
    let sum : first + n + (all - (first + n)) ≡ all = omega arith in
    let front : marked f (first + n) + clean f first n ≤ first + n = marked_clean f first n in
    let grows : marked f (first + n + (all - (first + n))) ≤ marked f (first + n) + (all - (first + n)) = marked_grows f (first + n) (all - (first + n)) in
    let grown : marked f all ≤ marked f (first + n) + (all - (first + n)) = subst (λ (k : ℕ). marked f k ≤ marked f (first + n) + (all - (first + n))) sum grows in
    omega arith

-- a dirty sector is counted
pub marked_some : (f : ℕ → Option (List ℕ)) (sector n : ℕ) → sector < n → mark (f sector) ≤ marked f n
marked_some f sector zero inside = absurd (omega arith)
marked_some f sector (suc n) inside = elim (cases_eq n sector) [
  | inl here ↦ (let same : mark (f n) ≡ mark (f sector) = ap (λ (t : ℕ). mark (f t)) here in omega arith)
  | inr apart ↦ omega (arith, marked_some f sector n (omega arith))
]

-- a clean sector of the stretch is counted
pub clean_some : (f : ℕ → Option (List ℕ)) (first sector n : ℕ) → f sector ≡ None → first ≤ sector → sector < first + n → 1 ≤ clean f first n
clean_some f first sector n none low inside =
    let g : ℕ → Option (List ℕ) = with_bytes sector (Some []) f in
    let sum : clean (with_bytes sector (Some []) f) first n + (1 - mark (f sector)) ≡ clean f first n = clean_with f (with_bytes sector (Some []) f) first sector [] n (λ s. refl) low inside in
    let no : mark (f sector) ≡ 0 = ap (λ (o : Option (List ℕ)). mark o) none in
    omega arith

pub clean_small : (f : ℕ → Option (List ℕ)) (first n : ℕ) → clean f first n ≤ n
clean_small f first zero = omega arith
clean_small f first (suc n) = omega (arith, clean_small f first n)

-- where none is dirty
pub marked_none : (f : ℕ → Option (List ℕ)) (n : ℕ) → ((s : ℕ) → f s ≡ None) → marked f n ≡ 0
marked_none f zero none = refl
marked_none f (suc n) none =
    let last : mark (f n) ≡ 0 = ap (λ (o : Option (List ℕ)). mark o) (none n) in
    omega (arith, marked_none f n none)
