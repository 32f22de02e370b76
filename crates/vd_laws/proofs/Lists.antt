-- What is among a list.
use Rattle.std.proofs.Common.{◌≡◌, ℕ, zero, suc, Bool, true, false, refl, ap, subst, ◌∙◌, sym, Some, cond, List, [], ◌∷◌, ◌++◌, ◌||◌, find, map, ◌⊎◌, inl, inr, true≢false}
use Rattle.std.specs.List.{list_any, filter}
use Rattle.vd_model.specs.Place.{greatest}
use Rattle.vd_laws.specs.Among.{Among}

pub pushed : {X : Type 0} (m x : X) (xs : List X) → Among m (xs ++ x ∷ []) → Among m xs ⊎ (m ≡ x)
pushed m x [] (inl e) = inr e
pushed m x [] (inr h) = absurd h
pushed m x (y ∷ ys) (inl e) = inl (inl e)
pushed m x (y ∷ ys) (inr h) = elim (pushed m x ys h) [ inl k ↦ inl (inr k) | inr e ↦ inr e ]

pub push_left : {X : Type 0} (m x : X) (xs : List X) → Among m xs → Among m (xs ++ x ∷ [])
push_left m x [] h = absurd h
push_left m x (y ∷ ys) (inl e) = inl e
push_left m x (y ∷ ys) (inr h) = inr (push_left m x ys h)

pub push_right : {X : Type 0} (m : X) (xs : List X) → Among m (xs ++ m ∷ [])
push_right m [] = inl refl
push_right m (y ∷ ys) = inr (push_right m ys)

pub filtered : {X : Type 0} (p : X → Bool) (m : X) (xs : List X) → Among m (filter p xs) → Among m xs × (p m ≡ true)
filtered p m [] h = absurd h
filtered p m (x ∷ xs) h = by (p x) refl h (λ k. filtered p m xs k) where
  by : (b : Bool) → p x ≡ b → Among m (cond b (x ∷ filter p xs) (filter p xs)) → (Among m (filter p xs) → Among m xs × (p m ≡ true)) → ((m ≡ x) ⊎ Among m xs) × (p m ≡ true)
  by true e (inl same) later = (inl same, ap p same ∙ e)
  by true e (inr k) later = let r = later k in (inr r.0, r.1)
  by false e k later = let r = later k in (inr r.0, r.1)

pub filter_in : {X : Type 0} (p : X → Bool) (m : X) (xs : List X) → Among m xs → p m ≡ true → Among m (filter p xs)
filter_in p m [] h e = absurd h
filter_in p m (x ∷ xs) (inl same) e = subst (λ b. Among m (cond b (x ∷ filter p xs) (filter p xs))) (sym (ap p (sym same) ∙ e)) (inl same)
filter_in p m (x ∷ xs) (inr h) e = by (p x) (filter_in p m xs h e) where
  by : (b : Bool) → Among m (filter p xs) → Among m (cond b (x ∷ filter p xs) (filter p xs))
  by true k = inr k
  by false k = k

pub found : {X : Type 0} (p : X → Bool) (m : X) (xs : List X) → find p xs ≡ Some m → Among m xs
found p m [] e = cc
found p m (x ∷ xs) e = by (p x) e (λ k. found p m xs k) where
  by : (b : Bool) → cond b (Some x) (find p xs) ≡ Some m → (find p xs ≡ Some m → Among m xs) → (m ≡ x) ⊎ Among m xs
  by true k later = let same : x ≡ m = cc in inl (sym same)
  by false k later = inr (later k)

pub any_false : {X : Type 0} (p : X → Bool) (m : X) (xs : List X) → list_any p xs ≡ false → Among m xs → p m ≡ false
any_false p m [] e h = absurd h
any_false p m (x ∷ xs) e h = by (p x) refl e h (λ f k. any_false p m xs f k) where
  by : (b : Bool) → p x ≡ b → (b || list_any p xs) ≡ false → (m ≡ x) ⊎ Among m xs → (list_any p xs ≡ false → Among m xs → p m ≡ false) → p m ≡ false
  by true here f k later = cc
  by false here f (inl same) later = ap p same ∙ here
  by false here f (inr k) later = later f k

pub any_true : {X : Type 0} (p : X → Bool) (m : X) (xs : List X) → Among m xs → p m ≡ true → list_any p xs ≡ true
any_true p m xs h e = by (list_any p xs) refl where
  by : (b : Bool) → list_any p xs ≡ b → list_any p xs ≡ true
  by true f = f
  by false f = absurd (true≢false (sym e ∙ any_false p m xs f h))

pub greatest_is : (passes : ℕ → Bool) (n s : ℕ) → greatest passes n ≡ Some s → passes s ≡ true
unfolding greatest
greatest_is passes zero s e = cc
greatest_is passes (suc n) s e = by (passes n) refl e (λ k. greatest_is passes n s k) where
  by : (b : Bool) → passes n ≡ b → cond b (Some n) (greatest passes n) ≡ Some s → (greatest passes n ≡ Some s → passes s ≡ true) → passes s ≡ true
  by true here k later = let same : n ≡ s = cc in ap passes (sym same) ∙ here
  by false here k later = later k

pub found_passes : {X : Type 0} (p : X → Bool) (m : X) (xs : List X) → find p xs ≡ Some m → p m ≡ true
found_passes p m [] e = cc
found_passes p m (x ∷ xs) e = by (p x) refl e (λ k. found_passes p m xs k) where
  by : (b : Bool) → p x ≡ b → cond b (Some x) (find p xs) ≡ Some m → (find p xs ≡ Some m → p m ≡ true) → p m ≡ true
  by true here k later = let same : x ≡ m = cc in ap p (sym same) ∙ here
  by false here k later = later k

pub any_found : {X : Type 0} (p : X → Bool) (xs : List X) → list_any p xs ≡ true → (x : X) × Among x xs × (p x ≡ true)
any_found p [] e = absurd (true≢false (sym e))
any_found p (x ∷ xs) e = by (p x) refl e (any_found p xs) where
  by : (b : Bool) → p x ≡ b → (b || list_any p xs) ≡ true → (list_any p xs ≡ true → (y : _) × Among y xs × (p y ≡ true)) → (y : _) × Among y (x ∷ xs) × (p y ≡ true)
  by true f g later = (x, inl refl, f)
  by false f g later = let r = later g in (r.0, inr r.1, r.2)

pub among_map : {X Y : Type 0} (f : X → Y) (m : X) (xs : List X) → Among m xs → Among (f m) (map f xs)
among_map f m [] h = absurd h
among_map f m (x ∷ xs) (inl e) = inl (ap f e)
among_map f m (x ∷ xs) (inr h) = inr (among_map f m xs h)

pub among_left : {X : Type 0} (m : X) (xs ys : List X) → Among m xs → Among m (xs ++ ys)
among_left m [] ys h = absurd h
among_left m (x ∷ xs) ys (inl e) = inl e
among_left m (x ∷ xs) ys (inr h) = inr (among_left m xs ys h)
