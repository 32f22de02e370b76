-- Options that are there, or not.
use Rattle.std.proofs.Common.{◌≡◌, ℕ, refl, ap, sym, ◌∙◌, Bool, true, false, if◌then◌else◌, List, [], length, Option, Some, None}
use Rattle.std.specs.Prelude.{unwrap_or, is_some}
use Rattle.std.specs.Option.{option_map}

-- areas of one length, or none
pub area_length : (o k : Option (List ℕ)) → option_map length o ≡ option_map length k → length (unwrap_or o []) ≡ length (unwrap_or k [])
area_length o k e = as_length o ∙ ap (λ n. unwrap_or n 0) e ∙ sym (as_length k) where
  as_length : (o : Option (List ℕ)) → length (unwrap_or o []) ≡ unwrap_or (option_map length o) 0
  as_length None = refl
  as_length (Some xs) = refl

pub some_map : {A : Type 0} (f : ℕ → A) (o : Option ℕ) → is_some (option_map f o) ≡ is_some o
some_map f None = refl
some_map f (Some k) = refl

pub some_value : (o : Option ℕ) → is_some o ≡ true → (k : ℕ) × (o ≡ Some k)
some_value None e = absurd (no e) where
  no : false ≡ true → ⊥
  no e = cc
some_value (Some k) e = (k, refl)

pub none_value : (o : Option ℕ) → is_some o ≡ false → o ≡ None
none_value None e = refl
none_value (Some k) e = absurd (no e) where
  no : true ≡ false → ⊥
  no e = cc

-- what is there only where a test holds
pub test_false : (b : Bool) (k : ℕ) → None ≡ (if b then Some k else None) → b ≡ false
test_false false k e = refl
test_false true k e = absurd (no e) where
  no : None ≡ Some k → ⊥
  no e = cc

pub test_true : (b : Bool) (k o : ℕ) → Some o ≡ (if b then Some k else None) → (b ≡ true) × (o ≡ k)
test_true true k o e = (refl, same e) where
  same : Some o ≡ Some k → o ≡ k
  same e = cc
test_true false k o e = absurd (no e) where
  no : Some o ≡ None → ⊥
  no e = cc
