-- What a crash leaves of a disk whose lists have one content each.
use Rattle.std.proofs.Common.{◌≡◌, ℕ, List, [], ◌∷◌, ◌⊎◌, inl, inr, refl, sym, subst}
use Rattle.blk_disk.specs.Contents.{Has}
use Rattle.blk_disk.specs.Moments.{AreSingle, Lie}
use Rattle.blk_cache.specs.Cached.{Keeps, newest_alone}

pub lie_single : (p : ℕ → List ℕ) (lists : ℕ → List (List ℕ)) → AreSingle p lists → Lie (newest_alone p) lists
lie_single p lists single s content has = subst (λ (xs : List (List ℕ)). Has content xs) (single s) has

-- the present content is the newest one
pub present_is : (p q n : ℕ → List ℕ) (lists : ℕ → List (List ℕ)) → Keeps (newest_alone q) n lists → AreSingle p lists → (s : ℕ) → p s ≡ q s
present_is p q n lists keeps single s =
    let there : Has (p s) (lists s) = subst (λ (xs : List (List ℕ)). Has (p s) xs) (sym (single s)) (inl refl) in
    elim (keeps.crash s (p s) there) [
      | inl is ↦ is
      | inr none ↦ absurd none
    ]
