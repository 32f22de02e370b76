-- What a search finds among a list.
use Rattle.std.proofs.Common.{◌≡◌, Bool, true, false, refl, ap, ◌∙◌, sym, Option, Some, None, cond, List, [], ◌∷◌, find, is_some, ◌⊎◌, inl, inr, true≢false}
use Rattle.vd_laws.specs.Among.{Among}
use Rattle.vd_laws.proofs.Lists.{found, found_passes}

-- a search that finds nothing, where there is something to find
pub missed : {X : Type 0} (p : X → Bool) (m : X) (xs : List X) → find p xs ≡ None → Among m xs → p m ≡ false
missed p m [] e h = absurd h
missed p m (x ∷ xs) e h = by (p x) refl e h (λ f k. missed p m xs f k) where
  by : (b : Bool) → p x ≡ b → cond b (Some x) (find p xs) ≡ None → (m ≡ x) ⊎ Among m xs → (find p xs ≡ None → Among m xs → p m ≡ false) → p m ≡ false
  by true here f k later = cc
  by false here f (inl same) later = ap p same ∙ here
  by false here f (inr k) later = later f k

pub finds : {X : Type 0} (p : X → Bool) (m : X) (xs : List X) → Among m xs → p m ≡ true → is_some (find p xs) ≡ true
finds p m xs h e = by (find p xs) refl where
  by : (o : Option _) → find p xs ≡ o → is_some o ≡ true
  by (Some x) f = refl
  by None f = absurd (true≢false (sym e ∙ missed p m xs f h))

-- what is found is there, and passes
pub found_there : {X : Type 0} (p : X → Bool) (m : X) (xs : List X) → find p xs ≡ Some m → Among m xs × (p m ≡ true)
found_there p m xs e = (found p m xs e, found_passes p m xs e)
