-- What holds of results.
use Rattle.std.proofs.Common.{◌≡◌, ℕ, ◌<◌, ◌≤◌, Bool, true, false, refl, sym, ◌∙◌, arith, Option, Some, None, Result, Ok, Err}
use Rattle.std.specs.Prelude.{IfOk, IfSome, nat_le, ◌↔◌}
use Rattle.std.proofs.lemmas.Bool.Decides.{nat_tests}
use Rattle.blk_driver.specs.declared.driver.SubmitError.{SubmitError}
use Rattle.blk_driver.specs.declared.driver.SubmitError.TheVariants.{Full}

-- what holds of a value, by what held of it
pub if_ok : {A E : Type 0} {P Q : A → Type 0} (r : Result A E) → IfOk r P → ((v : A) → r ≡ Ok v → P v → Q v) → IfOk r Q
if_ok (Ok v) h f = f v refl h
if_ok (Err e) h f = tt

pub if_some : {A : Type 0} {P Q : A → Type 0} (o : Option A) → IfSome o P → ((v : A) → P v → Q v) → IfSome o Q
if_some (Some v) h f = f v h
if_some None h f = tt

some_none : {A : Type 0} {v : A} → Some v ≡ None → ⊥
some_none e = cc

-- nothing is to be shown of no value
pub if_none : {A : Type 0} (P : A → Type 0) (o : Option A) → o ≡ None → IfSome o P
if_none P None e = tt
if_none P (Some v) e = absurd (some_none e)

ok_err : {A E : Type 0} {v : A} {e : E} → Ok v ≡ Err e → ⊥
ok_err e = cc

-- where a call wasn't refused for want of descriptors there were enough
pub enough : {A : Type 0} (r : Result A SubmitError) (v : A) (a b : ℕ) → r ≡ Ok v → (r ≡ Err Full ↔ (a < b)) → b ≤ a
enough r v a b e full = by (nat_le b a) refl where
  by : (t : Bool) → nat_le b a ≡ t → b ≤ a
  by true f = grind (arith, nat_tests, f)
  by false f = let few : a < b = grind (arith, nat_tests, f) in absurd (ok_err (sym e ∙ full.1 few))
