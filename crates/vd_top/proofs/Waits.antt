-- The replies that were written, those that wait, and the line of each of their bytes.
use Rattle.std.proofs.Common.{◌≡◌, Bool, ℕ, ◌+◌, ◌-◌, ◌<◌, ◌≤◌, ap, subst, sym, ◌∙◌, arith, Option, None, Some, List, [], ◌∷◌, ◌++◌, length, take, drop, length-append, length-drop, take-add, append_assoc, append-nil, inl, inr}
use Rattle.std.proofs.Math.Seq.{take-length, take-append_seam, take-append-add}
use Rattle.std.proofs.lemmas.List.{take-append-drop, take-append-le, length-take-le}
use Rattle.std.proofs.lemmas.Bool.Decides.{leb_tells}
use Rattle.vd_io.specs.Told.{Pushed}
use Rattle.vd_model.specs.Setting.{Setting}
use Rattle.vd_model.specs.Reading.{reading}
use Rattle.vd_output.specs.Out.{good_lines, has_failed, reply_to, history_after, output_from, script_output}
use Rattle.vd_loop.specs.Written.{Appended}
use Rattle.vd_top.specs.Written.{AppendedFront, replies, IsCut, AppendedCut, AppendedLines}
use Rattle.vd_loop.specs.Replies.{Replies, IsReplyAdded, Cut, Flushed, line_at}
use Rattle.vd_top.specs.Played.{IsIn, Waits}
use Rattle.vd_loop.proofs.Waits.{appended_none, appended_both}
use Rattle.vd_top.proofs.Agree.{script_output_none, script_output_more, script_output_split}

-- ---- the line of each byte

module _ (x : Setting) (failures : List ℕ) (done : List (List ℕ)) (line : List ℕ) where
  in_more : (k n : ℕ) → IsIn x failures done k n → IsIn x failures (done ++ line ∷ []) k n
  in_more k n i =
      let within = i.within in let size = length-append done (line ∷ []) in
      record {
        within = omega (arith, within, size);
        begins = subst (λ l. length (output_from failures x 1 [] l) ≤ n) (sym (take-append-le k done (line ∷ []) (omega (arith, within)))) i.begins;
        ends = subst (λ l. n < length (output_from failures x 1 [] l)) (sym (take-append-le (k + 1) done (line ∷ []) (omega (arith, within)))) i.ends;
      }

  in_last : (n : ℕ) → length (output_from failures x 1 [] done) ≤ n → n < length (output_from failures x 1 [] (done ++ line ∷ [])) → IsIn x failures (done ++ line ∷ []) (length done) n
  in_last n low high =
      let size = length-append done (line ∷ []) in
      record {
        within = omega (arith, size);
        begins = subst (λ l. length (output_from failures x 1 [] l) ≤ n) (sym (take-append_seam done (line ∷ []))) low;
        ends = subst (λ l. n < length (output_from failures x 1 [] l)) (sym (take-append-add done (line ∷ []) 1)) high;
      }

-- nothing waits yet
pub waits_first : (x : Setting) (failures : List ℕ) (waiting : Replies) (held : Option (List ℕ)) → waiting.bytes ≡ [] → Waits x failures [] waiting held held
waits_first x failures waiting held none = record {
  front = [];
  written = appended_none held;
  all = none ∙ sym (script_output_none failures x);
  line = λ n below. let size : length waiting.bytes ≡ 0 = ap length none in absurd (omega (arith, below, size));
}

module _ (x : Setting) (failures : List ℕ) (done : List (List ℕ)) (waiting : Replies) (old now : Option (List ℕ)) (w : Waits x failures done waiting old now) where
  -- the reply to a line more waits
  module _ (line reply : List ℕ) (failed : Bool) (lines : ℕ) (later : Replies) (a : IsReplyAdded reply lines waiting later) (count : lines ≡ length done)
      (here : has_failed failures (1 + length done) ≡ failed) (is : reply ≡ reply_to failed x (history_after failures 1 [] done) (reading line)) where
    more_all : w.front ++ later.bytes ≡ output_from failures x 1 [] (done ++ line ∷ [])
    more_all =
        ap (λ t. w.front ++ t) a.bytes ∙ sym (append_assoc w.front waiting.bytes reply) ∙ ap (λ t. t ++ reply) w.all
        ∙ ap (λ t. output_from failures x 1 [] done ++ t) is ∙ sym (script_output_more failures line failed x done 1 [] here)

    more_line : (n : ℕ) → n < length later.bytes → IsIn x failures (done ++ line ∷ []) (line_at later n) (length w.front + n)
    more_line n below = elim (leb_tells (length waiting.bytes) n) [ inl past ↦ waits_last past.1 | inr early ↦ waits_still early.1 ] where
      waits_last : length waiting.bytes ≤ n → IsIn x failures (done ++ line ∷ []) (line_at later n) (length w.front + n)
      waits_last past =
          let before = ap length w.all in let before_is = length-append w.front waiting.bytes in
          let after = ap length more_all in let after_is = length-append w.front later.bytes in
          subst (λ k. IsIn x failures (done ++ line ∷ []) k (length w.front + n)) (sym (a.added n past below ∙ count))
          (in_last x failures done line (length w.front + n) (omega (arith, past, before, before_is)) (omega (arith, below, after, after_is)))

      waits_still : n < length waiting.bytes → IsIn x failures (done ++ line ∷ []) (line_at later n) (length w.front + n)
      waits_still early =
          subst (λ k. IsIn x failures (done ++ line ∷ []) k (length w.front + n)) (sym (a.kept n early)) (in_more x failures done line (line_at waiting n) (length w.front + n) (w.line n early))

    pub waits_more : Waits x failures (done ++ line ∷ []) later old now
    waits_more = record { front = w.front; written = w.written; all = more_all; line = more_line }

  -- the replies that wait are written, or wait still
  pub waits_flushed : (later : Replies) (next : Option (List ℕ)) → Flushed waiting later now next → Waits x failures done later old next
  waits_flushed later next f = record {
    front = w.front ++ f.front;
    written = appended_both old now next w.front f.front w.written f.written;
    all = append_assoc w.front f.front later.bytes ∙ ap (λ t. w.front ++ t) f.rest ∙ w.all;
    line = λ n below.
        let size = length-append w.front f.front in
        let early : length f.front + n < length waiting.bytes = (let both = length-append f.front later.bytes in let same = ap length f.rest in omega (arith, both, same, below)) in
        subst (λ m. IsIn x failures done (line_at later n) m) (let e : length w.front + (length f.front + n) ≡ length (w.front ++ f.front) + n = omega (arith, size) in e)
        (subst (λ k. IsIn x failures done k (length w.front + (length f.front + n))) (sym (f.line n below)) (w.line (length f.front + n) early));
  }

  -- the run answers these lines first
  module _ (text : List ℕ) (after : List (List ℕ)) (first : good_lines text ≡ done ++ after) (next : Option (List ℕ)) where
    same_replies : (k : ℕ) → k ≤ length done → replies x text failures k ≡ output_from failures x 1 [] (take k done)
    same_replies k within = ap (λ l. output_from failures x 1 [] (take k l)) first ∙ ap (output_from failures x 1 []) (take-append-le k done after within)

    begins : (more : List ℕ) × (output_from failures x 1 [] done ++ more ≡ script_output x text failures)
    begins = let split = script_output_split failures x done after 1 [] in (split.0, sym (ap (output_from failures x 1 []) first ∙ split.1))

    -- the sink fails at the replies that wait
    is_cut : (lines : ℕ) (c : Cut waiting lines now next) → IsCut x text failures lines (w.front ++ take c.size waiting.bytes)
    is_cut lines c =
        let less = c.less in
        let here : IsIn x failures done lines (length w.front + c.size) = subst (λ k. IsIn x failures done k (length w.front + c.size)) (sym c.line) (w.line c.size less) in
        let within = here.within in let low = here.begins in let high = here.ends in
        let size : length (w.front ++ take c.size waiting.bytes) ≡ length w.front + c.size =
        length-append w.front (take c.size waiting.bytes) ∙ ap (λ n. length w.front + n) (length-take-le c.size waiting.bytes (omega (arith, less))) in
        record {
          back = drop c.size waiting.bytes ++ begins.0;
          front = sym (append_assoc (w.front ++ take c.size waiting.bytes) (drop c.size waiting.bytes) begins.0)
              ∙ ap (λ t. t ++ begins.0) (append_assoc w.front (take c.size waiting.bytes) (drop c.size waiting.bytes) ∙ ap (λ t. w.front ++ t) (take-append-drop c.size waiting.bytes) ∙ w.all)
              ∙ begins.1;
          whole = subst (λ l. length l ≤ length (w.front ++ take c.size waiting.bytes)) (sym (same_replies lines (omega (arith, within)))) (omega (arith, low, size));
          not_next = subst (λ l. length (w.front ++ take c.size waiting.bytes) < length l) (sym (same_replies (lines + 1) (omega (arith, within)))) (omega (arith, high, size));
        }

    pub cut_of : (lines : ℕ) → Cut waiting lines now next → AppendedCut x text failures lines old next
    cut_of lines c = by old (appended_both old now next w.front (take c.size waiting.bytes) w.written c.written) where
      by : (from : Option (List ℕ)) → Appended from next (w.front ++ take c.size waiting.bytes) → AppendedCut x text failures lines from next
      by None a = tt
      by (Some base) a = (w.front ++ take c.size waiting.bytes, is_cut lines c, a)

    -- all of them are written
    pub all_written : Appended now next waiting.bytes → Appended old next (output_from failures x 1 [] done)
    all_written a = subst (Appended old next) w.all (appended_both old now next w.front waiting.bytes w.written a)

    pub as_front : Appended now next waiting.bytes → AppendedFront old next (script_output x text failures)
    as_front a = by old (all_written a) where
      by : (from : Option (List ℕ)) → Appended from next (output_from failures x 1 [] done) → AppendedFront from next (script_output x text failures)
      by None b = tt
      by (Some base) b = (output_from failures x 1 [] done, begins.0, begins.1, b)

    pub lines_of : (lines : ℕ) → lines ≡ length done → Appended now next waiting.bytes → AppendedLines x text failures lines old next
    lines_of lines count a =
        let size = ap length first in let both = length-append done after in
        record {
          there = omega (arith, count, size, both);
          written = subst (Appended old next)
              (sym (ap (λ k. replies x text failures k) count ∙ ap (λ l. output_from failures x 1 [] (take (length done) l)) first ∙ ap (output_from failures x 1 []) (take-append_seam done after)))
              (all_written a);
          front = as_front a;
        }
