-- What is kept under numbers, as lists of mappings and of regions.
use Rattle.std.proofs.Common.{◌≡◌, ℕ, refl, ap, sym, ◌∙◌, Bool, true, false, cond, ◌==◌, not, List, [], ◌∷◌, ◌++◌, Option, Some, None, filter, find, map}
use Rattle.std.specs.Option.{option_map}
use Rattle.std.proofs.lemmas.Bool.{eqb-true}

pub found_passes : {X : Type 0} (p : X → Bool) (xs : List X) (x : X) → find p xs ≡ Some x → p x ≡ true
found_passes p [] x e = cc
found_passes p (y ∷ ys) x e = by (p y) refl (λ rest. found_passes p ys x rest) where
  by : (b : Bool) → p y ≡ b → (find p ys ≡ Some x → p x ≡ true) → p x ≡ true
  by true h later = let hit : Some y ≡ Some x = sym (ap (λ b. cond b (Some y) (find p ys)) h) ∙ e in let same : y ≡ x = cc in sym (ap p same) ∙ h
  by false h later = later (sym (ap (λ b. cond b (Some y) (find p ys)) h) ∙ e)

pub mapped_more : {T Y : Type 0} (f : T → Y) (xs : List T) (x : T) → map f (xs ++ x ∷ []) ≡ map f xs ++ f x ∷ []
mapped_more f [] x = refl
mapped_more f (y ∷ ys) x = ap (λ zs. f y ∷ zs) (mapped_more f ys x)

pub mapped_fewer : {T Y : Type 0} (f : T → Y) (p : T → Bool) (q : Y → Bool) → ((x : T) → q (f x) ≡ p x) → (xs : List T) → map f (filter p xs) ≡ filter q (map f xs)
mapped_fewer f p q same [] = refl
mapped_fewer f p q same (x ∷ xs) = by (p x) refl (mapped_fewer f p q same xs) where
  by : (b : Bool) → p x ≡ b → map f (filter p xs) ≡ filter q (map f xs) → map f (filter p (x ∷ xs)) ≡ filter q (map f (x ∷ xs))
  by true h rest =
      ap (λ b. map f (cond b (x ∷ filter p xs) (filter p xs))) h ∙ ap (λ ys. f x ∷ ys) rest
      ∙ sym (ap (λ b. cond b (f x ∷ filter q (map f xs)) (filter q (map f xs))) (same x ∙ h))
  by false h rest =
      ap (λ b. map f (cond b (x ∷ filter p xs) (filter p xs))) h ∙ rest
      ∙ sym (ap (λ b. cond b (f x ∷ filter q (map f xs)) (filter q (map f xs))) (same x ∙ h))

pub mapped_found : {T Y : Type 0} (f : T → Y) (p : T → Bool) (q : Y → Bool) → ((x : T) → q (f x) ≡ p x) → (xs : List T) → find q (map f xs) ≡ option_map f (find p xs)
mapped_found f p q same [] = refl
mapped_found f p q same (x ∷ xs) = by (p x) refl (mapped_found f p q same xs) where
  by : (b : Bool) → p x ≡ b → find q (map f xs) ≡ option_map f (find p xs) → find q (map f (x ∷ xs)) ≡ option_map f (find p (x ∷ xs))
  by true h rest =
      ap (λ b. cond b (Some (f x)) (find q (map f xs))) (same x ∙ h)
      ∙ sym (ap (λ b. option_map f (cond b (Some x) (find p xs))) h)
  by false h rest =
      ap (λ b. cond b (Some (f x)) (find q (map f xs))) (same x ∙ h) ∙ rest
      ∙ sym (ap (λ b. option_map f (cond b (Some x) (find p xs))) h)

-- the value under a number, from what a look-up answers
module _ {T Y : Type 0} (f : ℕ × T → Y) (number : Y → ℕ) (same : (e : ℕ × T) → number (f e) ≡ e.0) where
  tests : (a : ℕ) (e : ℕ × T) → (number (f e) == a) ≡ (e.0 == a)
  tests a e = ap (λ n. n == a) (same e)

  pub kept_fewer : (a : ℕ) (es : List (ℕ × T)) → map f (filter (λ (e : ℕ × T). not (e.0 == a)) es) ≡ filter (λ y. not (number y == a)) (map f es)
  kept_fewer a es = mapped_fewer f (λ (e : ℕ × T). not (e.0 == a)) (λ y. not (number y == a)) (λ e. ap not (tests a e)) es

  kept_found : (a : ℕ) (es : List (ℕ × T)) (x : T) → Some x ≡ option_map (λ (e : ℕ × T). e.1) (find (λ (e : ℕ × T). e.0 == a) es) → find (λ y. number y == a) (map f es) ≡ Some (f (a, x))
  kept_found a es x e = mapped_found f (λ (e : ℕ × T). e.0 == a) (λ y. number y == a) (tests a) es ∙ by (find (λ (e : ℕ × T). e.0 == a) es) refl where
    by : (o : Option (ℕ × T)) → find (λ (e : ℕ × T). e.0 == a) es ≡ o → option_map f o ≡ Some (f (a, x))
    by None h = absurd (let none : Some x ≡ None = e ∙ ap (option_map (λ (e : ℕ × T). e.1)) h in cc)
    by (Some k) h =
        let key : k.0 ≡ a = eqb-true k.0 a (found_passes (λ (e : ℕ × T). e.0 == a) es k h) in
        let some : Some x ≡ Some k.1 = e ∙ ap (option_map (λ (e : ℕ × T). e.1)) h in
        let value : x ≡ k.1 = cc in
        let pair : k ≡ (a, x) = pairs k.0 k.1 a x key (sym value) in
        ap (λ p. Some (f p)) pair where
          pairs : (i : ℕ) (s : T) (j : ℕ) (t : T) → i ≡ j → s ≡ t → (let p : ℕ × T = (i, s) in p) ≡ (j, t)
          pairs i s j t p q = cc

  kept_missing : (a : ℕ) (es : List (ℕ × T)) → None ≡ option_map (λ (e : ℕ × T). e.1) (find (λ (e : ℕ × T). e.0 == a) es) → find (λ y. number y == a) (map f es) ≡ None
  kept_missing a es e = mapped_found f (λ (e : ℕ × T). e.0 == a) (λ y. number y == a) (tests a) es ∙ by (find (λ (e : ℕ × T). e.0 == a) es) refl where
    by : (o : Option (ℕ × T)) → find (λ (e : ℕ × T). e.0 == a) es ≡ o → option_map f o ≡ None
    by None h = refl
    by (Some k) h = absurd (let none : None ≡ Some k.1 = e ∙ ap (option_map (λ (e : ℕ × T). e.1)) h in cc)

  pub kept_option : (a : ℕ) (es : List (ℕ × T)) (o : Option T) → o ≡ option_map (λ (e : ℕ × T). e.1) (find (λ (e : ℕ × T). e.0 == a) es)
      → find (λ y. number y == a) (map f es) ≡ option_map (λ x. f (a, x)) o
  kept_option a es None e = kept_missing a es e
  kept_option a es (Some x) e = kept_found a es x e
