-- Words that are too few.
use Rattle.std.proofs.Common.{◌≡◌, ℕ, ◌<◌, List, [], ◌∷◌, length, map, None, refl, arith}
use Rattle.vd_cached.specs.Words.{cached_sizes}

pub too_short : {X : Type 0} (bytes_of : X → List ℕ) (words : List X) → length words < 2 → cached_sizes (map bytes_of words) ≡ None
too_short bytes_of [] few = refl
too_short bytes_of (first ∷ []) few = refl
too_short bytes_of (first ∷ second ∷ rest) few = absurd (omega (arith, few))
