-- What is found in a list with one element more.
use Rattle.std.proofs.Common.{◌≡◌, Bool, true, false, refl, ap, ◌∙◌, sym, None, Some, cond, List, [], ◌∷◌, ◌++◌, find}

module _ {X : Type 0} (p : X → Bool) where
  find_hit : (x : X) (xs : List X) → p x ≡ true → find p (x ∷ xs) ≡ Some x
  find_hit x xs h = ap (λ b. cond b (Some x) (find p xs)) h

  find_miss : (x : X) (xs : List X) → p x ≡ false → find p (x ∷ xs) ≡ find p xs
  find_miss x xs h = ap (λ b. cond b (Some x) (find p xs)) h

  pub find_push_hit : (xs : List X) (y : X) → find p xs ≡ None → p y ≡ true → find p (xs ++ y ∷ []) ≡ Some y
  find_push_hit [] y none h = find_hit y [] h
  find_push_hit (z ∷ zs) y none h = by (p z) refl (λ rest. find_push_hit zs y rest h) where
    by : (b : Bool) → p z ≡ b → (find p zs ≡ None → find p (zs ++ y ∷ []) ≡ Some y) → find p (z ∷ (zs ++ y ∷ [])) ≡ Some y
    by true e later = let hit : find p (z ∷ zs) ≡ Some z = find_hit z zs e in cc
    by false e later = find_miss z (zs ++ y ∷ []) e ∙ later (sym (find_miss z zs e) ∙ none)

  pub find_push_miss : (xs : List X) (y : X) → p y ≡ false → find p (xs ++ y ∷ []) ≡ find p xs
  find_push_miss [] y miss = find_miss y [] miss
  find_push_miss (z ∷ zs) y miss = ap (λ o. cond (p z) (Some z) o) (find_push_miss zs y miss)
