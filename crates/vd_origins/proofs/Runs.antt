-- Origins by runs of two lists, one behind the other.
use Rattle.std.proofs.Common.{◌≡◌, ℕ, ◌+◌, ◌-◌, ◌<◌, Bool, true, false, if◌then◌else◌, refl, ap, sym, ◌∙◌, add-one, length, take, get_or, List, [], ◌∷◌, ◌++◌, Option, Some, None}
use Rattle.std.proofs.Math.Seq.{take-suc}
use Rattle.vd_model.specs.declared.memory.Origin.{Origin}
use Rattle.vd_origins.specs.declared.run.Run.{Run}
use Rattle.vd_num.specs.declared.number.Range.{Range}
use Rattle.vd_origins.specs.Runs.{has, run_origin, or_origin, origin_in, moved_origin, is_moved_from}

pub or_assoc : (x y z : Option Origin) → or_origin (or_origin x y) z ≡ or_origin x (or_origin y z)
or_assoc None y z = refl
or_assoc (Some o) y z = refl

pub or_none : (x : Option Origin) → or_origin x None ≡ x
or_none None = refl
or_none (Some o) = refl

pub appended : (xs ys : List Run) (a : ℕ) → origin_in (xs ++ ys) a ≡ or_origin (origin_in xs a) (origin_in ys a)
appended [] ys a = refl
appended (x ∷ xs) ys a = ap (λ o. or_origin (run_origin x a) o) (appended xs ys a) ∙ sym (or_assoc (run_origin x a) (origin_in xs a) (origin_in ys a))

pub pushed : (xs : List Run) (r : Run) (a : ℕ) → origin_in (xs ++ r ∷ []) a ≡ or_origin (origin_in xs a) (run_origin r a)
pushed xs r a = appended xs (r ∷ []) a ∙ ap (λ o. or_origin (origin_in xs a) o) (or_none (run_origin r a))

-- the last run of a list is replaced by one that has the bytes of another, too
pub joined_last : (xs : List Run) (l r j : Run) (a : ℕ) → run_origin j a ≡ or_origin (run_origin l a) (run_origin r a)
    → origin_in (xs ++ j ∷ []) a ≡ or_origin (origin_in (xs ++ l ∷ []) a) (run_origin r a)
joined_last xs l r j a is =
    pushed xs j a ∙ ap (λ o. or_origin (origin_in xs a) o) is
    ∙ sym (or_assoc (origin_in xs a) (run_origin l a) (run_origin r a))
    ∙ ap (λ o. or_origin o (run_origin r a)) (sym (pushed xs l a))

-- the runs of one more run
pub moved_more : (xs : List Run) (x : Run) (range : Range) (to a : ℕ)
    → moved_origin (xs ++ x ∷ []) range to a ≡ or_origin (moved_origin xs range to a) (if is_moved_from range to a then run_origin x (range.start + (a - to)) else None)
moved_more xs x range to a = by (is_moved_from range to a) where
  by : (b : Bool) → (if b then origin_in (xs ++ x ∷ []) (range.start + (a - to)) else None)
      ≡ or_origin (if b then origin_in xs (range.start + (a - to)) else None) (if b then run_origin x (range.start + (a - to)) else None)
  by true = pushed xs x (range.start + (a - to))
  by false = refl

-- the runs from one on
pub first_has : (x : Run) (xs : List Run) (a : ℕ) → has x a ≡ true → origin_in (x ∷ xs) a ≡ Some x.origin
first_has x xs a h = ap (λ b. or_origin (if b then Some x.origin else None) (origin_in xs a)) h

pub first_has_not : (x : Run) (xs : List Run) (a : ℕ) → has x a ≡ false → origin_in (x ∷ xs) a ≡ origin_in xs a
first_has_not x xs a h = ap (λ b. or_origin (if b then Some x.origin else None) (origin_in xs a)) h

-- what the runs so far have in the range, and one run more
pub moved_next : (xs : List Run) (i : ℕ) (d : Run) (range : Range) (to a : ℕ) (base before now part : Option Origin) → i < length xs
    → part ≡ (if is_moved_from range to a then run_origin (get_or xs i d) (range.start + (a - to)) else None)
    → before ≡ or_origin base (moved_origin (take i xs) range to a) → now ≡ or_origin before part
    → now ≡ or_origin base (moved_origin (take (i + 1) xs) range to a)
moved_next xs i d range to a base before now part less part_is before_is now_is =
    now_is
    ∙ ap (λ o. or_origin o part) before_is
    ∙ or_assoc base (moved_origin (take i xs) range to a) part
    ∙ ap (λ o. or_origin base (or_origin (moved_origin (take i xs) range to a) o)) part_is
    ∙ ap (λ o. or_origin base o) (sym (moved_more (take i xs) (get_or xs i d) range to a))
    ∙ ap (λ ys. or_origin base (moved_origin ys range to a)) (sym (ap (λ k. take k xs) (add-one i) ∙ take-suc xs i d less))
