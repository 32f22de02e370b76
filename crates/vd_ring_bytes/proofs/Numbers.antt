-- Numbers that are the same, and numbers of a list.
use Rattle.std.proofs.Common.{◌≡◌, ℕ, zero, suc, ◌==◌, ◌<◌, ◌≤◌, Bool, true, false, refl, subst, ◌∙◌, sym, arith, List, [], ◌∷◌, length, drop, get_or, eqb-true, true≢false, ◌⊎◌, inl, inr}
use Rattle.vd_laws.specs.Among.{Among}

pub same_number : (q : ℕ) → (q == q) ≡ true
same_number q = by (q == q) refl where
  by : (b : Bool) → (q == q) ≡ b → b ≡ true
  by true e = refl
  by false e = absurd (grind (arith))

pub same_or_not : (q k : ℕ) → (q ≡ k) ⊎ (q ≡ k → ⊥)
same_or_not q k = by (q == k) refl where
  by : (b : Bool) → (q == k) ≡ b → (q ≡ k) ⊎ (q ≡ k → ⊥)
  by true e = inl (eqb-true q k e)
  by false e = inr (λ f. true≢false (sym (subst (λ j. (q == j) ≡ true) f (same_number q)) ∙ e))

-- a head of some heads, behind the first ones
pub among_drop : (r i : ℕ) (ns : List ℕ) → r ≤ i → i < length ns → Among (get_or ns i 0) (drop r ns)
among_drop zero zero [] le low = absurd (omega arith)
among_drop zero zero (n ∷ ns) le low = inl refl
among_drop zero (suc i) [] le low = absurd (omega arith)
among_drop zero (suc i) (n ∷ ns) le low = inr (among_drop zero i ns (omega arith) (omega arith))
among_drop (suc r) zero ns le low = absurd (omega arith)
among_drop (suc r) (suc i) [] le low = absurd (omega arith)
among_drop (suc r) (suc i) (n ∷ ns) le low = among_drop r i ns (omega arith) (omega arith)
