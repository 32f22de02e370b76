-- A reader's place in the text, from one line to the next.
use Rattle.std.proofs.Common.{◌≡◌, ℕ, ◌+◌, ◌-◌, ◌<◌, ◌≤◌, Bool, true, false, refl, ap, subst, ◌∙◌, sym, arith, ◌⊎◌, inl, inr, Option, Some, Err, nat_le, List, [], ◌∷◌, ◌++◌, length, take, length-append, append_assoc, append-nil, drop, ◌&&◌}
use Rattle.std.proofs.Math.Seq.{take-append-add, drop-append_seam}
use Rattle.std.specs.List.{list_all}
use Rattle.std.proofs.lemmas.Bool.Decides.{nat_tests}
use Rattle.vd_model.specs.Reading.{lines}
use Rattle.vd_output.specs.Out.{ended_lines, script_lines}
use Rattle.vd_lines.specs.declared.reader.ReadFault.{ReadFault}
use Rattle.vd_lines.specs.declared.reader.ReadFault.TheVariants.{Failed, TooLong, Memory}
use Rattle.vd_lines.specs.Ahead.{Ahead, IsOneLine, IsFilledBy, IsFilled, IsPast}
use Rattle.vd_lines.specs.IsAt.{Cuts, IsAt, Leads, IsRead, IsTaken, StopsLong, IsNext, is_short}
use Rattle.vd_lines.proofs.Texts.{lines_none, lines_last, ended_lines_last, IsLong, lines_long, ended_lines_long, cuts_none, cuts_more}
use Rattle.vd_lines.proofs.Stops.{script_whole, script_cut, good_are, stop_long, long_bad, all_good, stop_limit}

-- a length is within the limit or past it
split : (n : ℕ) → (n ≤ 67108864) ⊎ (67108864 < n)
split n = by (nat_le n 67108864) refl where
  by : (b : Bool) → nat_le n 67108864 ≡ b → (n ≤ 67108864) ⊎ (67108864 < n)
  by true e = let h : n ≤ 67108864 = grind (arith, nat_tests) in inl h
  by false e = let h : 67108864 < n = grind (arith, nat_tests) in inr h

-- what is taken of a text past a front of it
pub take_past : (xs ys : List ℕ) (n : ℕ) → length xs ≤ n → take n (xs ++ ys) ≡ xs ++ take (n - length xs) ys
take_past xs ys n fits =
    let same : n ≡ length xs + (n - length xs) = omega arith in
    ap (λ k. take k (xs ++ ys)) same ∙ take-append-add xs ys (n - length xs)

-- the lines of a script, past those that were read
pub script_from : (text seen more : List ℕ) (done : List (List ℕ)) → Cuts seen done → text ≡ seen ++ more → length seen ≤ 67108864 → (after : List (List ℕ)) × (script_lines text ≡ done ++ after)
script_from text seen more done c is fits = by (split (length text)) where
  by : (length text ≤ 67108864) ⊎ (67108864 < length text) → (after : List (List ℕ)) × (script_lines text ≡ done ++ after)
  by (inl small) = (lines more, script_whole text small ∙ ap lines is ∙ c.all more)
  by (inr large) = (
    ended_lines (take (67108864 - length seen) more),
    script_cut text large ∙ ap (λ t. ended_lines (take 67108864 t)) is ∙ ap ended_lines (take_past seen more 67108864 fits) ∙ c.whole (take (67108864 - length seen) more),
  )

pub at_first : (text : List ℕ) (r : Ahead) (left : Option (List ℕ)) → r ≡ record { line = []; pending = []; taken = 0 } → left ≡ Some text → IsAt text [] r left
at_first text r left new told = subst (λ a. IsAt text [] a left) (sym new) (record {
  seen = [];
  rest = text;
  cuts = cuts_none;
  bytes = refl;
  left_is = told;
  taken = refl;
  room = omega arith;
})

module _ (text : List ℕ) (done : List (List ℕ)) (old new : Ahead) (told left : Option (List ℕ)) (at : IsAt text done old told) where
  -- more was read ahead
  pub at_filled : (n : ℕ) → IsFilledBy n old new told left → new.taken ≡ old.taken + n → new.taken ≤ 67108864 → IsAt text done new left
  at_filled n filled taken room =
      let f = subst (λ o. IsFilledBy n old new o left) at.left_is filled in
      let was = at.taken in
      record {
        seen = at.seen;
        rest = f.1;
        cuts = at.cuts;
        bytes = at.bytes ∙ ap (λ t. at.seen ++ (old.pending ++ t)) (sym f.2) ∙ ap (λ t. at.seen ++ t) (sym (append_assoc old.pending f.0 f.1)) ∙ ap (λ t. at.seen ++ (t ++ f.1)) (sym f.4);
        left_is = f.3;
        taken = (let size = ap length f.4 ∙ length-append old.pending f.0 in let many = f.5 in omega (arith, was, size, many, taken));
        room = room;
      }

  -- a line was cut off
  pub at_cut : old.pending ≡ new.line ++ (10 ∷ new.pending) → IsOneLine new.line → new.taken ≡ old.taken → told ≡ left → IsAt text (done ++ new.line ∷ []) new left
  at_cut is one taken same =
      let was = at.taken in let room = at.room in
      record {
        seen = at.seen ++ (new.line ++ (10 ∷ []));
        rest = at.rest;
        cuts = cuts_more at.seen new.line done one at.cuts;
        bytes = at.bytes ∙ ap (λ t. at.seen ++ (t ++ at.rest)) is ∙ ap (λ t. at.seen ++ t) (append_assoc new.line (10 ∷ new.pending) at.rest)
            ∙ sym (append_assoc at.seen (new.line ++ (10 ∷ [])) (new.pending ++ at.rest) ∙ ap (λ t. at.seen ++ t) (append_assoc new.line (10 ∷ []) (new.pending ++ at.rest)));
        left_is = sym same ∙ at.left_is;
        taken = (let size = ap length is ∙ length-append new.line (10 ∷ new.pending) in let more = length-append at.seen (new.line ++ (10 ∷ [])) in let end = length-append new.line (10 ∷ []) in omega (arith, was, size, more, end, taken));
        room = omega (arith, room, taken);
      }

-- the line that was cut off last is the next of the script
pub at_leads : (text : List ℕ) (done : List (List ℕ)) (line : List ℕ) (r : Ahead) (left : Option (List ℕ)) → IsAt text (done ++ line ∷ []) r left → Leads text done line
at_leads text done line r left at =
    let taken = at.taken in let room = at.room in
    let from = script_from text at.seen (r.pending ++ at.rest) (done ++ line ∷ []) at.cuts at.bytes (omega (arith, taken, room)) in
    record { after = from.0; lines_are = from.1 ∙ append_assoc done (line ∷ []) from.0 }

pub leads_long : (text : List ℕ) (done : List (List ℕ)) (line : List ℕ) → Leads text done line → 65536 < length line → StopsLong text done
leads_long text done line l long = λ reads good.
    (stop_long reads text done line l.after l.lines_are good (long_bad reads line long) long, good_are reads text done line l.after l.lines_are good (long_bad reads line long))

module _ (text : List ℕ) (done : List (List ℕ)) (r : Ahead) (told left : Option (List ℕ)) (at : IsAt text done r told) where
  -- the source has no more
  pub at_none : (new : Ahead) (n : ℕ) → IsFilledBy n r new told left → n ≡ 0 → (left ≡ Some []) × (at.rest ≡ []) × (new.pending ≡ r.pending)
  at_none new n filled zero =
      let f = subst (λ o. IsFilledBy n r new o left) at.left_is filled in
      let empty : at.rest ≡ [] = f.6 zero in
      let less : length f.0 + length f.1 ≡ length at.rest = sym (length-append f.0 f.1) ∙ ap length f.2 in
      let none = ap length empty in (
        f.3 ∙ ap Some (nothing f.1 (omega (arith, none, less))),
        empty,
        f.4 ∙ ap (λ t. r.pending ++ t) (nothing f.0 (omega (arith, none, less))) ∙ append-nil r.pending,
      ) where
        nothing : (xs : List ℕ) → length xs ≡ 0 → xs ≡ []
        nothing [] e = refl
        nothing (x ∷ xs) e = absurd (omega arith)

  text_is : at.rest ≡ [] → text ≡ at.seen ++ r.pending
  text_is empty = at.bytes ∙ ap (λ t. at.seen ++ (r.pending ++ t)) empty ∙ ap (λ t. at.seen ++ t) (append-nil r.pending)

  text_short : at.rest ≡ [] → length text ≤ 67108864
  text_short empty = let size = ap length (text_is empty) ∙ length-append at.seen r.pending in let taken = at.taken in let room = at.room in omega (arith, size, taken, room)

  pub at_end : at.rest ≡ [] → r.pending ≡ [] → left ≡ Some [] → IsRead text done left
  at_end empty none end =
      let all : lines text ≡ done = ap lines (text_is empty) ∙ at.cuts.all r.pending ∙ ap (λ t. done ++ lines t) none ∙ ap (λ l. done ++ l) lines_none ∙ append-nil done in
      record { lines_are = script_whole text (text_short empty) ∙ all; all = all; short = text_short empty; none_left = end }

  pub at_last : at.rest ≡ [] → IsOneLine r.pending → 0 < length r.pending → left ≡ Some [] → IsRead text (done ++ r.pending ∷ []) left
  at_last empty one some end =
      let all : lines text ≡ done ++ r.pending ∷ [] = ap lines (text_is empty) ∙ at.cuts.all r.pending ∙ ap (λ l. done ++ l) (lines_last r.pending some one) in
      record { lines_are = script_whole text (text_short empty) ∙ all; all = all; short = text_short empty; none_left = end }

  -- a fault, after which an LF ends none of what was read ahead
  short_line : (bytes : List ℕ) → IsOneLine bytes → length bytes ≤ 65536 → list_all is_short (lines bytes) ≡ true
  short_line [] one few = ap (list_all is_short) lines_none
  short_line (b ∷ bytes) one few =
      let fits : nat_le (length (b ∷ bytes)) 65536 ≡ true = grind (arith, nat_tests, few) in
      ap (list_all is_short) (lines_last (b ∷ bytes) (omega arith) one) ∙ ap (λ t. t && true) fits

  pub at_failed : left ≡ told → IsOneLine r.pending → length r.pending ≤ 65536 → IsTaken text done left
  at_failed same one few = record {
    taken = at.seen ++ r.pending;
    rest = at.rest;
    bytes = append_assoc at.seen r.pending at.rest ∙ sym at.bytes;
    left_is = same ∙ at.left_is;
    ended_are = at.cuts.whole r.pending ∙ ap (λ l. done ++ l) (ended_lines_last r.pending one) ∙ append-nil done;
    within = (let size = length-append at.seen r.pending in let taken = at.taken in let room = at.room in omega (arith, size, taken, room));
    open_line = ap (λ l. list_all is_short (drop (length done) l)) (at.cuts.all r.pending) ∙ ap (list_all is_short) (drop-append_seam done (lines r.pending))
        ∙ short_line r.pending one few;
  }

  -- what is read ahead is too long for a line
  pub at_long : IsOneLine r.pending → 65536 < length r.pending → StopsLong text done
  at_long one long = by (split (length text)) where
    some_line : (of : List (List ℕ)) → IsLong (length r.pending) of → script_lines text ≡ done ++ of → StopsLong text done
    some_line of l are =
        let length_is = l.long in
        leads_long text done l.line (record { after = l.after; lines_are = are ∙ ap (λ o. done ++ o) l.lines_are }) (omega (arith, length_is, long))

    no_line : 67108864 < length text → script_lines text ≡ done → StopsLong text done
    no_line past are = λ reads good. (stop_limit reads text done are good past, all_good reads text done are good)

    cut_is : 67108864 < length text → script_lines text ≡ done ++ ended_lines (r.pending ++ take (67108864 - length at.seen - length r.pending) at.rest)
    cut_is past =
        let taken = at.taken in let room = at.room in
        let first : length at.seen ≤ 67108864 = omega (arith, taken, room) in
        let then : length r.pending ≤ 67108864 - length at.seen = omega (arith, taken, room) in
        script_cut text past ∙ ap (λ t. ended_lines (take 67108864 t)) at.bytes ∙ ap ended_lines (take_past at.seen (r.pending ++ at.rest) 67108864 first)
        ∙ ap (λ t. ended_lines (at.seen ++ t)) (take_past r.pending at.rest (67108864 - length at.seen) then) ∙ at.cuts.whole (r.pending ++ take (67108864 - length at.seen - length r.pending) at.rest)

    by : (length text ≤ 67108864) ⊎ (67108864 < length text) → StopsLong text done
    by (inl small) = some_line (lines (r.pending ++ at.rest)) (lines_long r.pending at.rest (omega arith) one) (script_whole text small ∙ ap lines at.bytes ∙ at.cuts.all (r.pending ++ at.rest))
    by (inr large) = elim (ended_lines_long r.pending (take (67108864 - length at.seen - length r.pending) at.rest) one) [
      | inl none ↦ no_line large (cut_is large ∙ ap (λ o. done ++ o) none ∙ append-nil done)
      | inr l ↦ some_line _ l (cut_is large)
    ]

  -- the byte past the limit was taken
  pub at_limit : IsOneLine r.pending → r.taken ≡ 67108864 → IsPast r told → StopsLong text done
  at_limit one full past =
      let p = subst (IsPast r) at.left_is past in
      let taken = at.taken in
      let size = ap length at.bytes ∙ length-append at.seen (r.pending ++ at.rest) in let more = length-append r.pending at.rest in
      let large : 67108864 < length text = omega (arith, p, full, taken, size, more) in
      let whole : text ≡ (at.seen ++ r.pending) ++ at.rest = at.bytes ∙ sym (append_assoc at.seen r.pending at.rest) in
      let front = length-append at.seen r.pending in
      let fits : length (at.seen ++ r.pending) ≤ 67108864 = omega (arith, front, taken, full) in
      let none : 67108864 - length (at.seen ++ r.pending) ≡ 0 = omega (arith, front, taken, full) in
      let are : script_lines text ≡ done =
      script_cut text large ∙ ap (λ t. ended_lines (take 67108864 t)) whole ∙ ap ended_lines (take_past (at.seen ++ r.pending) at.rest 67108864 fits)
      ∙ ap (λ n. ended_lines ((at.seen ++ r.pending) ++ take n at.rest)) none ∙ ap ended_lines (append-nil (at.seen ++ r.pending))
      ∙ at.cuts.whole r.pending ∙ ap (λ l. done ++ l) (ended_lines_last r.pending one) ∙ append-nil done in
      λ reads good. (stop_limit reads text done are good large, all_good reads text done are good)

  -- a fault
  pub at_fault : (new : Ahead) (fault : ReadFault) → IsOneLine r.pending → length r.pending ≤ 65536 → IsFilled r new told left (Err fault) → IsNext text done new left (Err fault)
  at_fault new Failed one few f = at_failed f.0 one few
  at_fault new TooLong one few f = at_limit one f.0 f.1
  at_fault new Memory one few f = tt
