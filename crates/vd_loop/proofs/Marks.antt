-- The marks of the replies that wait, one reply more.
use Rattle.std.proofs.Common.{◌≡◌, ℕ, ◌<◌, ◌≤◌, Bool, true, false, refl, ap, ◌∙◌, sym, arith, inl, inr, Option, None, Some, is_some, List, [], ◌∷◌, ◌++◌, length, length-append, find, true≢false}
use Rattle.std.specs.Option.{option_or}
use Rattle.std.proofs.lemmas.List.Folds.{find-append}
use Rattle.std.proofs.lemmas.Bool.Decides.{nat_tests, leb_tells}
use Rattle.vd_loop.specs.declared.waiting.Mark.{Mark}
use Rattle.vd_loop.specs.Replies.{Replies, IsMarked, IsReplyAdded, ends_after, before}
use Rattle.vd_loop.proofs.Founds.{find_push_hit, find_push_miss}

-- what is found stays found
find_kept : {X : Type 0} (p : X → Bool) (xs ys : List X) → is_some (find p xs) ≡ true → find p (xs ++ ys) ≡ find p xs
find_kept {X} p xs ys there = find-append p xs ys ∙ by (find p xs) there where
  by : (o : Option X) → is_some o ≡ true → option_or o (find p ys) ≡ o
  by None e = absurd (true≢false (sym e))
  by (Some x) e = refl

module _ (old : Replies) (o : IsMarked old) (reply bytes : List ℕ) (marks : List Mark) (lines stop : ℕ) (is : bytes ≡ old.bytes ++ reply) (ends : stop ≡ length bytes)
    (with : marks ≡ old.marks ++ (record { end = stop; before = lines }) ∷ []) where
  in_old : (n : ℕ) → n < length old.bytes → find (ends_after n) marks ≡ find (ends_after n) old.marks
  in_old n early = ap (find (ends_after n)) with ∙ find_kept (ends_after n) old.marks ((record { end = stop; before = lines }) ∷ []) (o.within n early)

  in_new : (n : ℕ) → length old.bytes ≤ n → n < length bytes → find (ends_after n) marks ≡ Some (record { end = stop; before = lines })
  in_new n late below =
      let here : ends_after n (record { end = stop; before = lines }) ≡ true = grind (arith, nat_tests, ends, below) in
      ap (find (ends_after n)) with ∙ find_push_hit (ends_after n) old.marks (record { end = stop; before = lines }) (o.beyond n late) here

  pub marked_more : IsMarked (record { bytes = bytes; marks = marks })
  marked_more = record {
    within = λ n below. elim (leb_tells (length old.bytes) n) [
      | inl late ↦ ap is_some (in_new n late.1 below)
      | inr early ↦ ap is_some (in_old n early.1) ∙ o.within n early.1
    ];
    beyond = λ n past.
        let size = ap length is in let both = length-append old.bytes reply in
        let none : ends_after n (record { end = stop; before = lines }) ≡ false = grind (arith, nat_tests, ends, past) in
        ap (find (ends_after n)) with ∙ find_push_miss (ends_after n) old.marks (record { end = stop; before = lines }) none ∙ o.beyond n (omega (arith, past, size, both));
  }

  pub added_more : IsReplyAdded reply lines old (record { bytes = bytes; marks = marks })
  added_more = record { bytes = is; kept = λ n early. ap before (in_old n early); added = λ n late below. ap before (in_new n late below) }
