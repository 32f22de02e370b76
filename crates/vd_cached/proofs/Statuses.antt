-- The status after the last flush.
use Rattle.std.proofs.Common.{◌≡◌, ◌≢◌, ◌⊎◌, inl, inr, ℕ, ◌+◌, Bool, true, false, refl, sym, arith, List, length}
use Rattle.std.specs.Prelude.{Result, Ok, Err, OnOk, IsErr, is_ok}
use Rattle.std.proofs.lemmas.Bool.Decides.{nat_tests}
use Rattle.vd_io.specs.Told.{Rose}
use Rattle.vd_top.specs.Executes.{RoseBy}
use Rattle.vd_loop.specs.Statuses.{is_status, is_line_status}
use Rattle.vd_cached.specs.Ends.{IsFlushed, flushed_status, run_status, is_cached_status}

pub run_is : (f : Bool) (n : ℕ) → is_status n ≡ true → run_status (flushed_status f n) ≡ n
run_is true n known = grind (arith, nat_tests, known)
run_is false n known = grind (arith, nat_tests, known)

pub known_is : (f : Bool) (n : ℕ) → is_status n ≡ true → is_cached_status (flushed_status f n) ≡ true
known_is true n known = grind (arith, nat_tests, known)
known_is false n known = grind (arith, nat_tests, known)

pub line_is : (f : Bool) (n : ℕ) → is_line_status (flushed_status f n) ≡ false → is_line_status n ≡ false
line_is true n none = grind (arith, nat_tests, none)
line_is false n none = grind (arith, nat_tests, none)

pub three_is : (f : Bool) (n : ℕ) → flushed_status f n ≡ 3 → n ≡ 3
three_is true n is = grind (arith, nat_tests, is)
three_is false n is = grind (arith, nat_tests, is)

pub four_is : (f : Bool) (n : ℕ) → flushed_status f n ≡ 4 → n ≡ 4
four_is true n is = grind (arith, nat_tests, is)
four_is false n is = grind (arith, nat_tests, is)

pub nine_is : (f : Bool) (n : ℕ) → is_status n ≡ true → flushed_status f n ≡ 9 → f ≡ false
nine_is true n known is = absurd (grind (arith, nat_tests, known, is))
nine_is false n known is = refl

pub zero_is : (f : Bool) (n : ℕ) → flushed_status f n ≡ 0 → f ≡ true
zero_is true n is = refl
zero_is false n is = absurd (grind (arith, nat_tests, is))

pub complete_is : (f : Bool) (n : ℕ) → (n ≡ 0) ⊎ (n ≡ 5) → (flushed_status f n ≡ 0) ⊎ (flushed_status f n ≡ 9) ⊎ (flushed_status f n ≡ 5)
complete_is true n (inl zero) = inl (grind (arith, nat_tests, zero))
complete_is false n (inl zero) = inr (inl (grind (arith, nat_tests, zero)))
complete_is true n (inr five) = inr (inr (grind (arith, nat_tests, five)))
complete_is false n (inr five) = inr (inr (grind (arith, nat_tests, five)))

-- the disk failed once more than at lines
pub rose_more : (n first mid now : ℕ) → RoseBy n first mid → Rose mid now → RoseBy (n + 1) first now
rose_more n first mid now by once = omega (arith, by, once)

-- a flush that certainly succeeded did
pub flushed_is : (f : Bool) (n first mid now : ℕ) (failures : List ℕ) → RoseBy (length failures) first mid → (f ≡ false → Rose mid now) → IsFlushed (flushed_status f n) failures first now → f ≡ true
flushed_is f n first mid now failures by failed certain = elim certain [
  | inl zero ↦ zero_is f n zero
  | inr few ↦ of f (λ e. few (rose_more (length failures) first mid now by (failed e)))
] where
  of : (f : Bool) → (f ≡ false → ⊥) → f ≡ true
  of true never = refl
  of false never = absurd (never refl)

-- what holds of a call that succeeded, and that one failed which didn't
pub on_ok : {T E Q : Type 0} (r : Result T E) → is_ok r ≡ true → OnOk r Q → Q
on_ok (Ok x) ok q = q
on_ok (Err e) ok q = let no : false ≡ true = ok in absurd (cc)

pub is_err : {T E : Type 0} (r : Result T E) → is_ok r ≡ false → IsErr r
is_err (Ok x) ok = let no : true ≡ false = ok in absurd (cc)
is_err (Err e) ok = refl
