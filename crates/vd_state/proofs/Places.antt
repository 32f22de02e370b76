-- Elements of a list by their places.
use Rattle.std.proofs.Common.{◌≡◌, ℕ, zero, suc, ◌<◌, Some, refl, ap, arith, List, [], ◌∷◌, length, map, set, replicate}
use Rattle.std.specs.List.{slice_get}
use Rattle.std.specs.Option.{option_map}

-- what stands at a place after a write there, and elsewhere
pub written : {X : Type 0} (xs : List X) (i : ℕ) (v : X) → i < length xs → slice_get (set xs i v) i ≡ Some v
written [] i v inside = absurd (omega arith)
written (x ∷ xs) zero v inside = refl
written (x ∷ xs) (suc i) v inside = written xs i v (omega arith)

pub elsewhere : {X : Type 0} (xs : List X) (i q : ℕ) (v : X) → (i ≡ q → ⊥) → slice_get (set xs i v) q ≡ slice_get xs q
elsewhere [] i q v apart = refl
elsewhere (x ∷ xs) zero zero v apart = absurd (apart refl)
elsewhere (x ∷ xs) zero (suc q) v apart = refl
elsewhere (x ∷ xs) (suc i) zero v apart = refl
elsewhere (x ∷ xs) (suc i) (suc q) v apart = elsewhere xs i q v (λ e. apart (ap (λ n. suc n) e))

pub replicated : {X : Type 0} (n q : ℕ) (v : X) → q < n → slice_get (replicate n v) q ≡ Some v
replicated zero q v inside = absurd (omega arith)
replicated (suc n) zero v inside = refl
replicated (suc n) (suc q) v inside = replicated n q v (omega arith)

pub mapped : {X Y : Type 0} (f : X → Y) (xs : List X) (q : ℕ) → slice_get (map f xs) q ≡ option_map f (slice_get xs q)
mapped f [] q = refl
mapped f (x ∷ xs) zero = refl
mapped f (x ∷ xs) (suc q) = mapped f xs q

pub inside_from : {X : Type 0} (xs : List X) (q : ℕ) (v : X) → slice_get xs q ≡ Some v → q < length xs
inside_from [] q v e = cc
inside_from (x ∷ xs) zero v e = omega arith
inside_from (x ∷ xs) (suc q) v e = let more = inside_from xs q v e in omega arith
