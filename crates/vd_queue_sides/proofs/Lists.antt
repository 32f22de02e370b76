-- Lists with elements set, and tests over lists.
use Rattle.std.proofs.Common.{◌≡◌, ℕ, zero, suc, ◌<◌, Bool, true, false, ◌||◌, refl, ap, sym, ◌∙◌, arith, List, [], ◌∷◌, ◌++◌, length, take, true≢false, get_or}
use Rattle.std.specs.Prelude.{replicate}
use Rattle.std.specs.List.{list_any}
use Rattle.std.proofs.Math.ListN.{set}

pub replicate_at : {X : Type 0} (n : ℕ) (x e : X) (d : ℕ) → d < n → get_or (replicate n x) d e ≡ x
replicate_at zero x e d below = absurd (omega arith)
replicate_at (suc n) x e zero below = refl
replicate_at (suc n) x e (suc d) below = replicate_at n x e d (omega arith)

pub replicate_default : {X : Type 0} (n : ℕ) (x : X) (d : ℕ) → get_or (replicate n x) d x ≡ x
replicate_default zero x d = refl
replicate_default (suc n) x zero = refl
replicate_default (suc n) x (suc d) = replicate_default n x d

pub replicate_len : {X : Type 0} (n : ℕ) (x : X) → length (replicate n x) ≡ n
replicate_len zero x = refl
replicate_len (suc n) x = ap suc (replicate_len n x)

pub set_same : {X : Type 0} (xs : List X) (k : ℕ) (v e : X) → k < length xs → get_or (set xs k v) k e ≡ v
set_same [] k v e below = absurd (omega arith)
set_same (x ∷ xs) zero v e below = refl
set_same (x ∷ xs) (suc k) v e below = set_same xs k v e (omega arith)

pub set_other : {X : Type 0} (xs : List X) (k d : ℕ) (v e : X) → (k ≡ d → ⊥) → get_or (set xs k v) d e ≡ get_or xs d e
set_other [] k d v e off = refl
set_other (x ∷ xs) zero zero v e off = absurd (off refl)
set_other (x ∷ xs) zero (suc d) v e off = refl
set_other (x ∷ xs) (suc k) zero v e off = refl
set_other (x ∷ xs) (suc k) (suc d) v e off = set_other xs k d v e (λ same. off (ap suc same))

pub set_len : {X : Type 0} (xs : List X) (k : ℕ) (v : X) → length (set xs k v) ≡ length xs
set_len [] k v = refl
set_len (x ∷ xs) zero v = refl
set_len (x ∷ xs) (suc k) v = ap suc (set_len xs k v)

pub either : (a b : Bool) → (a || b) ≡ true → (a ≡ false → b ≡ true)
either true b e off = absurd (true≢false off)
either false b e off = e

pub or_left : (a b : Bool) → a ≡ true → (a || b) ≡ true
or_left true b e = refl
or_left false b e = absurd (true≢false (sym e))

pub or_right : (a b : Bool) → b ≡ true → (a || b) ≡ true
or_right true b e = refl
or_right false b e = e

-- a test over a list and one more
pub any_more : {X : Type 0} (p : X → Bool) (xs : List X) (x : X) → list_any p (xs ++ x ∷ []) ≡ (list_any p xs || p x)
any_more p [] x = last (p x) where
  last : (b : Bool) → (b || false) ≡ b
  last true = refl
  last false = refl
any_more p (y ∷ ys) x = ap (λ b. p y || b) (any_more p ys x) ∙ assoc (p y) (list_any p ys) (p x) where
  assoc : (a b c : Bool) → (a || (b || c)) ≡ ((a || b) || c)
  assoc true b c = refl
  assoc false b c = refl

pub any_taken : (p : ℕ → Bool) (n : ℕ) (xs : List ℕ) → list_any p (take n xs) ≡ true → list_any p xs ≡ true
any_taken p zero xs e = absurd (true≢false (sym e))
any_taken p (suc n) [] e = absurd (true≢false (sym e))
any_taken p (suc n) (x ∷ xs) e = by (p x) refl (any_taken p n xs) where
  by : (b : Bool) → p x ≡ b → (list_any p (take n xs) ≡ true → list_any p xs ≡ true) → (p x || list_any p xs) ≡ true
  by true f rest = or_left (p x) (list_any p xs) f
  by false f rest = or_right (p x) (list_any p xs) (rest (either (p x) (list_any p (take n xs)) e f))
