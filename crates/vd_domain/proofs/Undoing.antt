-- Values by numbers that ascend, without the last one.
use Rattle.std.proofs.Common.{◌≡◌, ℕ, ◌+◌, ◌<◌, ◌≤◌, refl, ap, ◌∙◌, arith, Bool, true, false, cond, ◌==◌, not, List, [], ◌∷◌, ◌++◌, filter}
use Rattle.std.proofs.lemmas.Bool.Decides.{nat_tests}
use Rattle.vd_domain.specs.Numbered.{IsRising}

-- the numbers from n on are gone
pub rising_cut : {T : Type 0} (low n : ℕ) (es : List (ℕ × T)) → low ≤ n → IsRising low (n + 1) es → IsRising low n (filter (λ (e : ℕ × T). not (e.0 == n)) es)
rising_cut low n [] le f = le
rising_cut {T} low n (e ∷ es) le f = by (e.0 == n) refl (λ below. rising_cut (e.0 + 1) n es below f.2) where
  none : (es : List (ℕ × T)) → e.0 ≡ n → IsRising (e.0 + 1) (n + 1) es → IsRising low n (filter (λ (e : ℕ × T). not (e.0 == n)) es)
  none [] same rest = le
  none (k ∷ ks) same rest = absurd (let a : e.0 + 1 ≤ k.0 = rest.0 in let b : k.0 < n + 1 = rest.1 in omega arith)

  by : (b : Bool) → (e.0 == n) ≡ b → (e.0 + 1 ≤ n → IsRising (e.0 + 1) n (filter (λ (e : ℕ × T). not (e.0 == n)) es))
      → IsRising low n (cond (not b) (e ∷ filter (λ (e : ℕ × T). not (e.0 == n)) es) (filter (λ (e : ℕ × T). not (e.0 == n)) es))
  by true h rest = let same : e.0 ≡ n = grind (arith, nat_tests) in none es same f.2
  by false h rest =
      let high : e.0 < n + 1 = f.1 in
      let below : e.0 + 1 ≤ n = grind (arith, nat_tests) in
      (f.0, omega arith, rest below)

pub below_last : {T : Type 0} (low high n : ℕ) (es : List (ℕ × T)) (v : T) → IsRising low high (es ++ (n, v) ∷ []) → low ≤ n
below_last low high n [] v f = f.0
below_last low high n (e ∷ es) v f = let a : low ≤ e.0 = f.0 in let b : e.0 + 1 ≤ n = below_last (e.0 + 1) high n es v f.2 in omega arith

-- those before the last one stay
pub without_last : {T : Type 0} (low high n : ℕ) (es : List (ℕ × T)) (v : T) → IsRising low high (es ++ (n, v) ∷ []) → filter (λ (e : ℕ × T). not (e.0 == n)) (es ++ (n, v) ∷ []) ≡ es
without_last low high n [] v f = let same : (n == n) ≡ true = grind (arith, nat_tests) in ap (λ b. cond (not b) ((n, v) ∷ []) []) same
without_last {T} low high n (e ∷ es) v f =
    let below : e.0 + 1 ≤ n = below_last (e.0 + 1) high n es v f.2 in
    let no : (e.0 == n) ≡ false = grind (arith, nat_tests) in
    ap (λ b. cond (not b) (e ∷ filter (λ (e : ℕ × T). not (e.0 == n)) (es ++ (n, v) ∷ [])) (filter (λ (e : ℕ × T). not (e.0 == n)) (es ++ (n, v) ∷ []))) no
    ∙ ap (λ xs. e ∷ xs) (without_last (e.0 + 1) high n es v f.2)
