-- A run of lines on a queue to which nothing was added.
use Rattle.std.proofs.Common.{◌≡◌, ℕ, ◌≤◌, refl, ap, subst, sym, arith, Bool, true, false, Option, None, Some, List, [], ◌++◌, take, append-nil}
use Rattle.vd_output.specs.Out.{good_lines_in}
use Rattle.vd_loop.specs.Outs.{AppendedFront, AppendedLines, TextWrites}
use Rattle.vd_loop.specs.Runs.{Ran}
use Rattle.vd_loop.specs.Written.{Appended}
use Rattle.vd_loop.specs.Statuses.{is_line_status, is_status, stop_of_status}
use Rattle.vd_loop.specs.declared.ended.Ended.{Ended}
use Rattle.vd_loop.proofs.Outs.{text_stops, text_writes}
use Rattle.vr_pair.specs.QueueLists.{QueueLists, empty_lists}
use Rattle.vr_pair.specs.QueueLines.{queue_replies}
use Rattle.vd_queue_top.specs.Replies.{AreReplies, is_queue_line}
use Rattle.vd_queue_top.specs.Runs.{QueueRan}
use Rattle.vd_queue_top.proofs.Ends.{all_written}
use Rattle.vd_queue_top.proofs.Replies.{queue_grows}
use Rattle.vd_queue_top.proofs.Reached.{due_replies}

pub queue_ran : (size : ℕ) (alone : List ℕ → Bool) (answered : List (List ℕ) → List (List ℕ) → Type 0) (short : List (List ℕ) → List (List ℕ) → List ℕ → Type 0) (ended : Ended)
    (told left old new : Option (List ℕ)) → Ran is_queue_line alone answered short told (stop_of_status ended.status) ended.line ended.lines_done left old new → is_status ended.status ≡ true
    → (is_line_status ended.status ≡ false → ended.line ≡ 0) → ((d s : List (List ℕ)) → answered d s → AreReplies (empty_lists size) d s)
    → ((d s : List (List ℕ)) (line : List ℕ) → short d s line → AreReplies (empty_lists size) d s) → QueueRan size ended told left old new
queue_ran size alone answered short ended told left old new ran known no_line tells tells_short =
    let out = queue_replies (empty_lists size) in
    let stops = text_stops is_queue_line alone answered short told (stop_of_status ended.status) ended.line ended.lines_done left old new ran in
    let due = due_replies out is_queue_line alone answered short told (stop_of_status ended.status) ended.line ended.lines_done left old new ran tells tells_short in
    let writes : (text : List ℕ) → told ≡ Some text → TextWrites out (good_lines_in is_queue_line text) (stop_of_status ended.status) ended.lines_done old new = λ text is.
    text_writes is_queue_line alone answered short told (stop_of_status ended.status) ended.line ended.lines_done left old new ran text is out due (queue_grows (empty_lists size)) in
    record {
      known = known;
      no_line = no_line;
      stopped = stops;
      written = writes;
      whole = λ text is zero. all_written is_queue_line text ended.status ended.line ended.lines_done left (stops text is) out old new (writes text is) zero;
    }

-- ---- no line was answered

no_reply : (q : QueueLists) → queue_replies q [] ≡ []
unfolding queue_replies
no_reply q = refl

none_written : (out : List (List ℕ) → List ℕ) (good : List (List ℕ)) → out [] ≡ [] → (old : Option (List ℕ)) → AppendedLines out good 0 old old
none_written out good none old = record { there = omega arith; written = nothing old; front = empty old } where
  nothing : (from : Option (List ℕ)) → Appended from from (out (take 0 good))
  nothing None = tt
  nothing (Some base) = subst (λ t. Some base ≡ Some (base ++ t)) (sym none) (ap Some (sym (append-nil base)))

  empty : (from : Option (List ℕ)) → AppendedFront from from (out good)
  empty None = tt
  empty (Some base) = ([], out good, refl, ap Some (sym (append-nil base)))

pub none_ran : (size : ℕ) (ended : Ended) (told old : Option (List ℕ)) → ended ≡ record { status = 5; line = 0; lines_done = 0 } → QueueRan size ended told told old old
none_ran size ended told old is = subst (λ e. QueueRan size e told told old old) (sym is) (record {
  known = refl;
  no_line = λ _. refl;
  stopped = λ text _. omega arith;
  written = λ text _. none_written (queue_replies (empty_lists size)) _ (no_reply (empty_lists size)) old;
  whole = λ text _ zero. let no : 5 ≡ 0 = zero in absurd (cc);
})
