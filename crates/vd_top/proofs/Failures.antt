-- The numbers of the lines at which the image failed, and what a later one doesn't change.
use Rattle.std.proofs.Common.{◌≡◌, ◌≢◌, ℕ, zero, suc, ◌+◌, ◌<◌, ◌≤◌, Bool, true, false, ◌||◌, refl, ap, subst, sym, ◌∙◌, arith, Option, None, Some, List, [], ◌∷◌, ◌++◌, length, length-append, true≢false, ◌⊎◌, inl, inr, ◌==◌}
use Rattle.std.specs.Prelude.{slice_get, ◌-◌}
use Rattle.std.specs.Option.{option_map_or}
use Rattle.std.proofs.lemmas.Bool.{or_left}
use Rattle.std.proofs.lemmas.Bool.Decides.{eqb_tells}
use Rattle.std.proofs.lemmas.List.Folds.{list_any-append}
use Rattle.std.proofs.lemmas.Option.{slice_get_within}
use Rattle.vd_io.specs.Told.{Rose}
use Rattle.vd_output.specs.Out.{good_lines, has_failed}
use Rattle.vd_top.specs.Executes.{is_execute_line, any_executes, executes, is_execute_at, AreFailures, AreUpTo, failed_more, RoseBy}

-- ---- numbers

or_right : (a b : Bool) → b ≡ true → (a || b) ≡ true
or_right true b e = refl
or_right false b e = e

or_cases : (a b : Bool) → (a || b) ≡ true → (a ≡ true) ⊎ (b ≡ true)
or_cases true b e = inl refl
or_cases false b e = inr e

or_none : (b : Bool) → (b || false) ≡ b
or_none true = refl
or_none false = refl

same_number : (n : ℕ) → (n == n) ≡ true
same_number n = elim (eqb_tells n n) [ inl h ↦ h.0 | inr h ↦ absurd (h.1 refl) ]

other_number : (n m : ℕ) → n ≢ m → (n == m) ≡ false
other_number n m other = elim (eqb_tells n m) [ inl h ↦ absurd (other h.1) | inr h ↦ h.0 ]

number_of : (n m : ℕ) → (n == m) ≡ true → n ≡ m
number_of n m e = elim (eqb_tells n m) [ inl h ↦ h.1 | inr h ↦ absurd (true≢false (sym e ∙ h.0)) ]

not_failed : (b : Bool) → (b ≡ true → ⊥) → b ≡ false
not_failed true none = absurd (none refl)
not_failed false none = refl

pub none_above : (last n : ℕ) (failures : List ℕ) → AreUpTo last failures → last < n → has_failed failures n ≡ false
none_above last n failures up above = not_failed (has_failed failures n) (λ e. let low = up n e in omega (arith, low, above))

-- ---- a line more

has_more : (failures : List ℕ) (n m : ℕ) → has_failed (failures ++ n ∷ []) m ≡ (has_failed failures m || (n == m))
has_more failures n m = list_any-append (λ i. i == m) failures (n ∷ []) ∙ ap (λ b. has_failed failures m || b) (or_none (n == m))

pub failed_here : (failed : Bool) (n : ℕ) (failures : List ℕ) → has_failed failures n ≡ false → has_failed (failed_more failed n failures) n ≡ failed
failed_here true n failures none = has_more failures n n ∙ ap (λ b. has_failed failures n || b) (same_number n) ∙ or_right (has_failed failures n) true refl
failed_here false n failures none = none

pub failed_else : (failed : Bool) (n m : ℕ) (failures : List ℕ) → n ≢ m → has_failed (failed_more failed n failures) m ≡ has_failed failures m
failed_else true n m failures other = has_more failures n m ∙ ap (λ b. has_failed failures m || b) (other_number n m other) ∙ or_none (has_failed failures m)
failed_else false n m failures other = refl

pub up_to_more : (failed : Bool) (last n : ℕ) (failures : List ℕ) → AreUpTo last failures → last ≤ n → AreUpTo n (failed_more failed n failures)
up_to_more failed last n failures up low m e = elim (eqb_tells n m) [
  | inl h ↦ (let same = h.1 in omega (arith, same))
  | inr h ↦ (let there = up m (sym (failed_else failed n m failures h.1) ∙ e) in omega (arith, there, low))
]

-- ---- executes

execute_some : (o : Option (List ℕ)) → option_map_or is_execute_line o false ≡ true → (line : List ℕ) × (o ≡ Some line) × (is_execute_line line ≡ true)
execute_some None e = absurd (true≢false (sym e))
execute_some (Some line) e = (line, refl, e)

get_front : {X : Type 0} (xs ys : List X) (i : ℕ) (x : X) → slice_get xs i ≡ Some x → slice_get (xs ++ ys) i ≡ Some x
get_front {X} [] ys i x e = absurd (let within = slice_get_within [] i x e in omega (arith, within))
get_front {X} (y ∷ xs) ys zero x e = e
get_front {X} (y ∷ xs) ys (suc i) x e = get_front xs ys i x e

get_last : {X : Type 0} (xs : List X) (x : X) → slice_get (xs ++ x ∷ []) (length xs) ≡ Some x
get_last {X} [] x = refl
get_last {X} (y ∷ xs) x = get_last xs x

-- an execute of the first lines stays one
pub execute_kept : (done after : List (List ℕ)) (n : ℕ) → is_execute_at done n ≡ true → is_execute_at (done ++ after) n ≡ true
execute_kept done after zero e = e
execute_kept done after (suc k) e = let s = execute_some (slice_get done k) e in ap (λ o. option_map_or is_execute_line o false) (get_front done after k s.0 s.1) ∙ s.2

execute_last : (done : List (List ℕ)) (line : List ℕ) → is_execute_line line ≡ true → is_execute_at (done ++ line ∷ []) (suc (length done)) ≡ true
execute_last done line e = ap (λ o. option_map_or is_execute_line o false) (get_last done line) ∙ e

execute_within : (lines : List (List ℕ)) (n : ℕ) → is_execute_at lines n ≡ true → n ≤ length lines
execute_within lines zero e = absurd (true≢false (sym e))
execute_within lines (suc k) e = let s = execute_some (slice_get lines k) e in let within = slice_get_within lines k s.0 s.1 in omega (arith, within)

execute_any : (lines : List (List ℕ)) (n : ℕ) → is_execute_at lines n ≡ true → any_executes lines ≡ true
execute_any lines zero e = absurd (true≢false (sym e))
execute_any [] (suc k) e = absurd (true≢false (sym e))
execute_any (line ∷ lines) (suc zero) e = or_left (is_execute_line line) (any_executes lines) e
execute_any (line ∷ lines) (suc (suc k)) e = or_right (is_execute_line line) (any_executes lines) (execute_any lines (suc k) e)

-- a line that asks for one among those that are answered
pub executes_by : (text : List ℕ) (done : List (List ℕ)) (line : List ℕ) (after : List (List ℕ)) → good_lines text ≡ done ++ line ∷ after → is_execute_line line ≡ true → executes text ≡ true
executes_by text done line after are e =
    ap any_executes are ∙ list_any-append is_execute_line done (line ∷ after)
    ∙ or_right (any_executes done) (any_executes (line ∷ after)) (or_left (is_execute_line line) (any_executes after) e)

-- ---- numbers of executes

pub up_to_length : (lines : List (List ℕ)) (failures : List ℕ) → AreFailures lines failures → AreUpTo (length lines) failures
up_to_length lines failures a n e = execute_within lines n (a.each n e)

pub failures_none : AreFailures [] []
failures_none = record { each = λ n e. absurd (true≢false (sym e)); ascending = λ i j a b l p q. absurd (let within = slice_get_within [] i a p in omega (arith, within)) }

pub failures_in : (done after : List (List ℕ)) (failures : List ℕ) → AreFailures done failures → AreFailures (done ++ after) failures
failures_in done after failures a = record { each = λ n e. execute_kept done after n (a.each n e); ascending = a.ascending }

has_at : (failures : List ℕ) (i n : ℕ) → slice_get failures i ≡ Some n → has_failed failures n ≡ true
has_at [] i n e = absurd (let within = slice_get_within [] i n e in omega (arith, within))
has_at (f ∷ failures) zero n e = or_left (f == n) (has_failed failures n) (subst (λ m. (f == m) ≡ true) (some_is e) (same_number f)) where
  some_is : Some f ≡ Some n → f ≡ n
  some_is s = cc
has_at (f ∷ failures) (suc i) n e = or_right (f == n) (has_failed failures n) (has_at failures i n e)

-- what is there is in front, or the last
get_cases : (failures : List ℕ) (n j b : ℕ) → slice_get (failures ++ n ∷ []) j ≡ Some b → (slice_get failures j ≡ Some b) ⊎ ((j ≡ length failures) × (b ≡ n))
get_cases [] n zero b e = inr (refl, (let s : b ≡ n = cc in s))
get_cases [] n (suc j) b e = absurd (let within = slice_get_within [] j b e in omega (arith, within))
get_cases (f ∷ failures) n zero b e = inl e
get_cases (f ∷ failures) n (suc j) b e = elim (get_cases failures n j b e) [ inl h ↦ inl h | inr h ↦ inr (ap suc h.0, h.1) ]

module _ (done : List (List ℕ)) (line : List ℕ) (failures : List ℕ) (a : AreFailures done failures) where
  ascending_more : (n : ℕ) → length done < n → (i j f g : ℕ) → i < j → slice_get (failures ++ n ∷ []) i ≡ Some f → slice_get (failures ++ n ∷ []) j ≡ Some g → f < g
  ascending_more n above i j f g less p q = by (get_cases failures n i f p) (get_cases failures n j g q) where
    by : ((slice_get failures i ≡ Some f) ⊎ ((i ≡ length failures) × (f ≡ n))) → ((slice_get failures j ≡ Some g) ⊎ ((j ≡ length failures) × (g ≡ n))) → f < g
    by (inl first) (inl second) = a.ascending i j f g less first second
    by (inl first) (inr second) = let low = up_to_length done failures a f (has_at failures i f first) in let is = second.1 in omega (arith, low, above, is)
    by (inr first) (inl second) = absurd (let within = slice_get_within failures j g second in let is = first.0 in omega (arith, within, is, less))
    by (inr first) (inr second) = absurd (let here = first.0 in let there = second.0 in omega (arith, here, there, less))

  -- the image failed at the next line or not
  pub failures_more : (failed : Bool) → (failed ≡ true → is_execute_line line ≡ true) → AreFailures (done ++ line ∷ []) (failed_more failed (length done + 1) failures)
  failures_more false cause = failures_in done (line ∷ []) failures a
  failures_more true cause = record {
    each = λ n e. elim (eqb_tells (length done + 1) n) [
      | inl h ↦ subst (λ m. is_execute_at (done ++ line ∷ []) m ≡ true) (let is : suc (length done) ≡ n = (let same = h.1 in omega (arith, same)) in is) (execute_last done line (cause refl))
      | inr h ↦ execute_kept done (line ∷ []) n (a.each n (sym (failed_else true (length done + 1) n failures h.1) ∙ e))
    ];
    ascending = ascending_more (length done + 1) (omega arith);
  }

pub failures_gone : (lines : List (List ℕ)) (failures : List ℕ) → AreFailures lines failures → any_executes lines ≡ false → failures ≡ []
failures_gone lines [] a none = refl
failures_gone lines (f ∷ failures) a none = absurd (true≢false (sym (execute_any lines f (a.each f (or_left (f == f) (has_failed failures f) (same_number f)))) ∙ none))

-- ---- the count

pub rose_more : (failed : Bool) (n : ℕ) (failures : List ℕ) (start before now : ℕ) → before ≤ now → (failed ≡ true → Rose before now) → RoseBy (length failures) start before → RoseBy (length (failed_more failed n failures)) start now
rose_more true n failures start before now later cause rose = let size = length-append failures (n ∷ []) in let one = cause refl in omega (arith, size, one, rose, later)
rose_more false n failures start before now later cause rose = omega (arith, rose, later)
