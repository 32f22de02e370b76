-- Where a run of lines stops.
use Rattle.std.proofs.Common.{◌≡◌, ◌≢◌, ℕ, ◌+◌, ◌≤◌, Bool, true, false, refl, ap, subst, sym, ◌∙◌, arith, cond, nat_le, ◌&&◌, Option, Some, Ok, Err, List, [], ◌∷◌, ◌++◌, length, append_assoc, append-nil, inl, inr, true≢false}
use Rattle.std.specs.List.{list_all, take_while}
use Rattle.std.proofs.lemmas.List.Sums.{take_while-cons}
use Rattle.std.proofs.lemmas.List.Folds.{list_all-append}
use Rattle.std.proofs.lemmas.Bool.Decides.{nat_tests}
use Rattle.vd_output.specs.Out.{is_good_in, good_lines_in, script_lines, Not_in_grammar, Too_long}
use Rattle.vd_lines.specs.Ahead.{Ahead}
use Rattle.vd_lines.specs.IsAt.{IsAt, IsNext, Leads, IsRead, IsTaken, StopsLong}
use Rattle.vd_lines.specs.declared.reader.Next.{Next}
use Rattle.vd_lines.specs.declared.reader.Next.TheVariants.{Line, Last, End as NextEnd}
use Rattle.vd_lines.specs.declared.reader.ReadFault.{ReadFault}
use Rattle.vd_lines.specs.declared.reader.ReadFault.TheVariants.{Failed, TooLong as FaultTooLong, Memory as FaultMemory}
use Rattle.vd_lines.proofs.Places.{script_from}
use Rattle.vd_lines.proofs.Stops.{good_are, stop_bad, all_good, stop_none}
use Rattle.vd_loop.specs.declared.progress.Progress.{Progress}
use Rattle.vd_loop.specs.declared.progress.Stop.{Stop}
use Rattle.vd_loop.specs.declared.progress.Stop.TheVariants.{End, SourceFailed, SinkFailed, Memory, BadLine, TooLong}
use Rattle.vd_loop.specs.Replies.{Replies, Cut, Flushed}
use Rattle.vd_loop.specs.Statuses.{line_of, status_of, is_status, stop_of_fault}
use Rattle.vd_loop.specs.Written.{Appended}
use Rattle.vd_loop.specs.Runs.{IsOut, IsFront, LeftAt, StoppedBy, Played, PlayedCut, Finished, Ran, Waited}
use Rattle.vd_loop.proofs.Waits.{out_flushed, out_more, cut_of, all_of}

-- ---- good lines

and_left : (a b : Bool) → (a && b) ≡ true → a ≡ true
and_left true b e = refl
and_left false b e = e

and_right : (a b : Bool) → (a && b) ≡ true → b ≡ true
and_right true b e = e
and_right false b e = absurd (true≢false (sym e))

and_both : (a b : Bool) → a ≡ true → b ≡ true → (a && b) ≡ true
and_both true b p q = q
and_both false b p q = p

module _ (reads : List ℕ → Bool) where
  -- a line that is short enough and read is good, and one that isn't read isn't
  good_line : (line : List ℕ) → length line ≤ 65536 → reads line ≡ true → is_good_in reads line ≡ true
  good_line line short said = let small : nat_le (length line) 65536 ≡ true = grind (arith, nat_tests) in and_both (nat_le (length line) 65536) (reads line) small said

  bad_line : (line : List ℕ) → reads line ≡ false → is_good_in reads line ≡ false
  bad_line line none = ap (λ o. nat_le (length line) 65536 && o) none ∙ and_false (nat_le (length line) 65536) where
    and_false : (b : Bool) → (b && false) ≡ false
    and_false true = refl
    and_false false = refl

  good_more : (done : List (List ℕ)) (line : List ℕ) → list_all (is_good_in reads) done ≡ true → is_good_in reads line ≡ true → list_all (is_good_in reads) (done ++ line ∷ []) ≡ true
  good_more done line good here =
      list_all-append (is_good_in reads) done (line ∷ [])
      ∙ and_both (list_all (is_good_in reads) done) (list_all (is_good_in reads) (line ∷ [])) good (and_both (is_good_in reads line) true here refl)

  good_front : (done after : List (List ℕ)) → list_all (is_good_in reads) done ≡ true → take_while (is_good_in reads) (done ++ after) ≡ done ++ take_while (is_good_in reads) after
  good_front [] after e = refl
  good_front (line ∷ done) after e =
      take_while-cons (is_good_in reads) line (done ++ after)
      ∙ ap (λ b. cond b (line ∷ take_while (is_good_in reads) (done ++ after)) []) (and_left (is_good_in reads line) (list_all (is_good_in reads) done) e)
      ∙ ap (λ l. line ∷ l) (good_front done after (and_right (is_good_in reads line) (list_all (is_good_in reads) done) e))

  -- good lines that the text begins with are answered first
  front_of : (text : List ℕ) (done after : List (List ℕ)) → script_lines text ≡ done ++ after → list_all (is_good_in reads) done ≡ true → IsFront done (good_lines_in reads text)
  front_of text done after are good = record { rest = take_while (is_good_in reads) after; is = ap (take_while (is_good_in reads)) are ∙ good_front done after good }

  front_at : (text : List ℕ) (done : List (List ℕ)) (reader : Ahead) (left : Option (List ℕ)) → IsAt text done reader left → list_all (is_good_in reads) done ≡ true → IsFront done (good_lines_in reads text)
  front_at text done reader left at good =
      let taken = at.taken in let room = at.room in
      let from = script_from text at.seen (reader.pending ++ at.rest) done at.cuts at.bytes (omega (arith, taken, room)) in
      front_of text done from.0 from.1 good

  front_next : (text : List ℕ) (done : List (List ℕ)) (line : List ℕ) (after : List (List ℕ)) → script_lines text ≡ done ++ line ∷ after → list_all (is_good_in reads) done ≡ true → is_good_in reads line ≡ true
      → IsFront (done ++ line ∷ []) (good_lines_in reads text)
  front_next text done line after are good here = front_of text (done ++ line ∷ []) after (are ∙ sym (append_assoc done (line ∷ []) after)) (good_more done line good here)

-- ---- where a reader stands

-- these lines were read, the next one is there, and it is short enough
pub record IsLine (text : List ℕ) (done : List (List ℕ)) (line : List ℕ) : Type 0 where
  pub after : List (List ℕ)
  pub lines_are : script_lines text ≡ done ++ line ∷ after
  pub short : length line ≤ 65536

-- a line was read, and its bytes are these
pub next_line : (text : List ℕ) (done : List (List ℕ)) (ahead : Ahead) (left : Option (List ℕ)) (n : Next) (line : List ℕ) → n ≡ Line → line ≡ ahead.line → IsNext text done ahead left (Ok n)
    → IsAt text (done ++ line ∷ []) ahead left × Leads text done line × (length line ≤ 65536)
next_line text done ahead left n line is same next =
    subst (λ l. IsAt text (done ++ l ∷ []) ahead left × Leads text done l × (length l ≤ 65536)) (sym same) (subst (λ k. IsNext text done ahead left (Ok k)) is next)

pub next_last : (text : List ℕ) (done : List (List ℕ)) (ahead : Ahead) (left : Option (List ℕ)) (n : Next) (line : List ℕ) → n ≡ Last → line ≡ ahead.line → IsNext text done ahead left (Ok n)
    → IsRead text (done ++ line ∷ []) left × (length line ≤ 65536)
next_last text done ahead left n line is same next =
    subst (λ l. IsRead text (done ++ l ∷ []) left × (length l ≤ 65536)) (sym same) (subst (λ k. IsNext text done ahead left (Ok k)) is next)

pub next_end : (text : List ℕ) (done : List (List ℕ)) (ahead : Ahead) (left : Option (List ℕ)) (n : Next) → n ≡ NextEnd → IsNext text done ahead left (Ok n) → IsRead text done left
next_end text done ahead left n is next = subst (λ k. IsNext text done ahead left (Ok k)) is next

pub line_at : (text : List ℕ) (done : List (List ℕ)) (line : List ℕ) → Leads text done line × (length line ≤ 65536) → IsLine text done line
line_at text done line (leads, short) = record { after = leads.after; lines_are = leads.lines_are; short = short }

pub line_last : (text : List ℕ) (done : List (List ℕ)) (line : List ℕ) (left : Option (List ℕ)) → IsRead text (done ++ line ∷ []) left × (length line ≤ 65536) → IsLine text done line
line_last text done line left (read, short) = record { after = []; lines_are = read.lines_are; short = short }

-- so many lines were answered, and the reader stands behind them
pub record Playing (reads alone : List ℕ → Bool) (answered : List (List ℕ) → List (List ℕ) → Type 0) (told : Option (List ℕ)) (waiting : Replies) (lines : ℕ) (reader : Ahead) (left old now : Option (List ℕ)) : Type 0 where
  pub done : List (List ℕ)
  pub replies : List (List ℕ)
  pub out : IsOut alone done replies waiting lines old now
  pub run : answered done replies
  pub good : (text : List ℕ) → told ≡ Some text → list_all (is_good_in reads) done ≡ true
  pub at : (text : List ℕ) → told ≡ Some text → IsAt text done reader left

module _ (reads alone : List ℕ → Bool) (told : Option (List ℕ)) (waiting : Replies) (lines : ℕ) (reader : Ahead) (left old now : Option (List ℕ)) where
  module _ (answered : List (List ℕ) → List (List ℕ) → Type 0) (g : Playing reads alone answered told waiting lines reader left old now) where
    -- no line is read
    pub halt_end : (short : List (List ℕ) → List (List ℕ) → List ℕ → Type 0) (later : Option (List ℕ)) → ((text : List ℕ) → told ≡ Some text → IsRead text g.done later)
        → Played reads alone answered short told End waiting lines later old now
    halt_end short later read = record {
      done = g.done;
      replies = g.replies;
      carried = g.done;
      out = g.out;
      reached = (refl, g.run);
      stopped = λ text is. let r = read text is in (stop_none reads text g.done r.lines_are (g.good text is) r.short, all_good reads text g.done r.lines_are (g.good text is), r.none_left);
    }

    pub halt_failed : (short : List (List ℕ) → List (List ℕ) → List ℕ → Type 0) (later : Option (List ℕ)) → ((text : List ℕ) → told ≡ Some text → IsTaken text g.done later)
        → Played reads alone answered short told SourceFailed waiting lines later old now
    halt_failed short later taken = record {
      done = g.done;
      replies = g.replies;
      carried = g.done;
      out = g.out;
      reached = (refl, g.run);
      stopped = λ text is. (front_at reads text g.done reader left (g.at text is) (g.good text is), taken text is);
    }

    pub halt_long : (short : List (List ℕ) → List (List ℕ) → List ℕ → Type 0) (later : Option (List ℕ)) → ((text : List ℕ) → told ≡ Some text → StopsLong text g.done)
        → Played reads alone answered short told TooLong waiting lines later old now
    halt_long short later long = record {
      done = g.done;
      replies = g.replies;
      carried = g.done;
      out = g.out;
      reached = (refl, g.run);
      stopped = λ text is. let s = long text is reads (g.good text is) in (s.0 ∙ ap (λ n. Too_long (n + 1)) (sym g.out.count), s.1);
    }

    pub halt_memory : (short : List (List ℕ) → List (List ℕ) → List ℕ → Type 0) (later : Option (List ℕ)) → Played reads alone answered short told Memory waiting lines later old now
    halt_memory short later = record {
      done = g.done;
      replies = g.replies;
      carried = g.done;
      out = g.out;
      reached = inl (refl, g.run);
      stopped = λ text is. front_at reads text g.done reader left (g.at text is) (g.good text is);
    }

    -- the source fails, what it gives is too long, or memory runs out
    pub halt_fault : (short : List (List ℕ) → List (List ℕ) → List ℕ → Type 0) (fault : ReadFault) (ahead : Ahead) (later : Option (List ℕ)) → ((text : List ℕ) → told ≡ Some text → IsNext text g.done ahead later (Err fault))
        → Played reads alone answered short told (stop_of_fault fault) waiting lines later old now
    halt_fault short Failed ahead later next = halt_failed short later next
    halt_fault short FaultTooLong ahead later next = halt_long short later next
    halt_fault short FaultMemory ahead later next = halt_memory short later

    pub halt_sink : (next : Option (List ℕ)) (written : ℕ) → Cut waiting written now next → PlayedCut reads alone answered told written old next
    halt_sink next written c = record {
      done = g.done;
      replies = g.replies;
      waiting = waiting;
      lines = lines;
      between = now;
      out = g.out;
      cut = c;
      run = g.run;
      front = λ text is. front_at reads text g.done reader left (g.at text is) (g.good text is);
    }

    pub go_flushed : (next : Option (List ℕ)) (kept : Replies) → Flushed waiting kept now next → Playing reads alone answered told kept lines reader left old next
    go_flushed next kept f = record { done = g.done; replies = g.replies; out = out_flushed alone g.done g.replies waiting lines old now g.out kept next f; run = g.run; good = g.good; at = g.at }

  -- ---- a line that was asked
  module _ (before answered : List (List ℕ) → List (List ℕ) → Type 0) (g : Playing reads alone before told waiting lines reader left old now) (line reply : List ℕ) (new : Replies) (next : Option (List ℕ)) where
    out_waited : Waited (alone line) reply lines waiting new now next → IsOut alone (g.done ++ line ∷ []) (g.replies ++ reply ∷ []) new (lines + 1) old next
    out_waited w = out_more alone g.done g.replies w.kept lines old next (out_flushed alone g.done g.replies waiting lines old now g.out w.kept next w.flushed) line reply new w.waits w.none

    -- it was answered
    pub go_on : (ahead : Ahead) (later : Option (List ℕ)) → Waited (alone line) reply lines waiting new now next → answered (g.done ++ line ∷ []) (g.replies ++ reply ∷ []) → reads line ≡ true
        → ((text : List ℕ) → told ≡ Some text → IsAt text (g.done ++ line ∷ []) ahead later × Leads text g.done line × (length line ≤ 65536))
        → Playing reads alone answered told new (lines + 1) ahead later old next
    go_on ahead later w run said there = record {
      done = g.done ++ line ∷ [];
      replies = g.replies ++ reply ∷ [];
      out = out_waited w;
      run = run;
      good = λ text is. good_more reads g.done line (g.good text is) (good_line reads line (there text is).2 said);
      at = λ text is. (there text is).0;
    }

    -- it was the last, and was answered
    pub halt_last : (short : List (List ℕ) → List (List ℕ) → List ℕ → Type 0) (later : Option (List ℕ)) → Waited (alone line) reply lines waiting new now next → answered (g.done ++ line ∷ []) (g.replies ++ reply ∷ [])
        → reads line ≡ true → ((text : List ℕ) → told ≡ Some text → IsRead text (g.done ++ line ∷ []) later × (length line ≤ 65536)) → Played reads alone answered short told End new (lines + 1) later old next
    halt_last short later w run said there = record {
      done = g.done ++ line ∷ [];
      replies = g.replies ++ reply ∷ [];
      carried = g.done ++ line ∷ [];
      out = out_waited w;
      reached = (refl, run);
      stopped = λ text is.
          let read = (there text is).0 in
          let good = good_more reads g.done line (g.good text is) (good_line reads line (there text is).1 said) in
          (stop_none reads text (g.done ++ line ∷ []) read.lines_are good read.short, all_good reads text (g.done ++ line ∷ []) read.lines_are good, read.none_left);
    }

    carried_front : (text : List ℕ) (e : told ≡ Some text) → IsLine text g.done line → (b : Bool) → reads line ≡ b → IsFront (cond b (g.done ++ line ∷ []) g.done) (good_lines_in reads text)
    carried_front text e l true said = front_next reads text g.done line l.after l.lines_are (g.good text e) (good_line reads line l.short said)
    carried_front text e l false none = front_at reads text g.done reader left (g.at text e) (g.good text e)

    -- it wasn't
    pub halt_line : (short : List (List ℕ) → List (List ℕ) → List ℕ → Type 0) (later : Option (List ℕ)) (stop : Stop) (written : ℕ) → StoppedBy stop written (reads line) lines waiting new now next
        → LeftAt stop (answered g.done g.replies) (short g.done g.replies line) ((reads line ≡ true) × (alone line ≡ true → new.bytes ≡ []) × answered (g.done ++ line ∷ []) (g.replies ++ reply ∷ []))
        → ((text : List ℕ) → told ≡ Some text → IsLine text g.done line) → Played reads alone answered short told stop new written later old next
    halt_line short later BadLine written (is, none, f) run there = record {
      done = g.done;
      replies = g.replies;
      carried = g.done;
      out = subst (λ n. IsOut alone g.done g.replies new n old next) (sym is) (out_flushed alone g.done g.replies waiting lines old now g.out new next f);
      reached = (refl, run);
      stopped = λ text e.
          let l = there text e in let bad = bad_line reads line none in
          (stop_bad reads text g.done line l.after l.lines_are (g.good text e) bad l.short ∙ ap (λ n. Not_in_grammar (n + 1)) (sym (is ∙ g.out.count)), good_are reads text g.done line l.after l.lines_are (g.good text e) bad);
    }
    halt_line short later Memory written (is, f) (inl run) there = record {
      done = g.done;
      replies = g.replies;
      carried = cond (reads line) (g.done ++ line ∷ []) g.done;
      out = subst (λ n. IsOut alone g.done g.replies new n old next) (sym is) (out_flushed alone g.done g.replies waiting lines old now g.out new next f);
      reached = inr (inl (record { line = line; run = run; is = refl }));
      stopped = λ text e. carried_front text e (there text e) (reads line) refl;
    }
    halt_line short later Memory written (is, f) (inr (said, quiet, run)) there = record {
      done = g.done;
      replies = g.replies;
      carried = g.done ++ line ∷ [];
      out = subst (λ n. IsOut alone g.done g.replies new n old next) (sym is) (out_flushed alone g.done g.replies waiting lines old now g.out new next f);
      reached = inr (inr (record { line = line; reply = reply; is = refl; run = run; is_quiet = quiet }));
      stopped = λ text e. let l = there text e in front_next reads text g.done line l.after l.lines_are (g.good text e) (good_line reads line l.short said);
    }
    halt_line short later SinkFailed written c run there = record {
      done = g.done;
      replies = g.replies;
      waiting = waiting;
      lines = lines;
      between = now;
      out = g.out;
      cut = c;
      run = run;
      front = λ text is. front_at reads text g.done reader left (g.at text is) (g.good text is);
    }
    halt_line short later End written none run there = absurd none
    halt_line short later SourceFailed written none run there = absurd none
    halt_line short later TooLong written none run there = absurd none

-- ---- the last replies

module _ (reads alone : List ℕ → Bool) (answered : List (List ℕ) → List (List ℕ) → Type 0) (short : List (List ℕ) → List (List ℕ) → List ℕ → Type 0) (told : Option (List ℕ)) (waiting : Replies) (lines : ℕ)
    (left old now next : Option (List ℕ)) where
  -- they were written
  pub ran_written : (stop : Stop) → stop ≢ SinkFailed → Played reads alone answered short told stop waiting lines left old now → Appended now next waiting.bytes → Ran reads alone answered short told stop (line_of stop lines) lines left old next
  ran_written End other p a = record { done = p.done; replies = p.replies; carried = p.carried; each = p.out.each; reached = p.reached; stopped = p.stopped; written = all_of alone p.done p.replies waiting lines old now p.out next a }
  ran_written SourceFailed other p a = record { done = p.done; replies = p.replies; carried = p.carried; each = p.out.each; reached = p.reached; stopped = p.stopped; written = all_of alone p.done p.replies waiting lines old now p.out next a }
  ran_written SinkFailed other p a = absurd (other refl)
  ran_written Memory other p a = record {
    done = p.done;
    replies = p.replies;
    carried = p.carried;
    each = p.out.each;
    reached = elim p.reached [
      | inl whole ↦ inl whole
      | inr more ↦ inr (elim more [ inl s ↦ inl s | inr u ↦ inr (record { line = u.line; reply = u.reply; is = u.is; run = u.run; is_quiet = λ _. other }) ])
    ];
    stopped = p.stopped;
    written = all_of alone p.done p.replies waiting lines old now p.out next a;
  }
  ran_written BadLine other p a = record { done = p.done; replies = p.replies; carried = p.carried; each = p.out.each; reached = p.reached; stopped = p.stopped; written = all_of alone p.done p.replies waiting lines old now p.out next a }
  ran_written TooLong other p a = record { done = p.done; replies = p.replies; carried = p.carried; each = p.out.each; reached = p.reached; stopped = p.stopped; written = all_of alone p.done p.replies waiting lines old now p.out next a }

  -- the sink failed at them
  module _ (written : ℕ) (c : Cut waiting written now next) where
    cut_whole : (done replies carried : List (List ℕ)) → IsOut alone done replies waiting lines old now → (carried ≡ done) × answered done replies → ((text : List ℕ) → told ≡ Some text → IsFront done (good_lines_in reads text))
        → Ran reads alone answered short told SinkFailed 0 written left old next
    cut_whole done replies carried out run front = record {
      done = done;
      replies = replies;
      carried = done;
      each = out.each;
      reached = inl (refl, run.1);
      stopped = front;
      written = cut_of alone done replies waiting lines old now out written next c;
    }

    all_front : (done whole : List (List ℕ)) → whole ≡ done → IsFront done whole
    all_front done whole e = record { rest = []; is = e ∙ sym (append-nil done) }

    pub ran_cut : (stop : Stop) → stop ≢ SinkFailed → Played reads alone answered short told stop waiting lines left old now → Ran reads alone answered short told SinkFailed 0 written left old next
    ran_cut End other p = cut_whole p.done p.replies p.carried p.out p.reached (λ text e. all_front p.done (good_lines_in reads text) (p.stopped text e).1)
    ran_cut BadLine other p = cut_whole p.done p.replies p.carried p.out p.reached (λ text e. all_front p.done (good_lines_in reads text) (p.stopped text e).1)
    ran_cut TooLong other p = cut_whole p.done p.replies p.carried p.out p.reached (λ text e. all_front p.done (good_lines_in reads text) (p.stopped text e).1)
    ran_cut SourceFailed other p = cut_whole p.done p.replies p.carried p.out p.reached (λ text e. (p.stopped text e).0)
    ran_cut SinkFailed other p = absurd (other refl)
    ran_cut Memory other p = record {
      done = p.done;
      replies = p.replies;
      carried = p.carried;
      each = p.out.each;
      reached = elim p.reached [
        | inl whole ↦ inl whole
        | inr more ↦
            inr (elim more [
              | inl s ↦ inl s
              | inr u ↦
                  inr (record {
                    line = u.line;
                    reply = u.reply;
                    is = u.is;
                    run = u.run;
                    is_quiet = λ e. absurd (let none = ap length (u.is_quiet e) in let less = c.less in omega (arith, none, less));
                  })
            ])
      ];
      stopped = p.stopped;
      written = cut_of alone p.done p.replies waiting lines old now p.out written next c;
    }

  pub ran_sink : PlayedCut reads alone answered told lines old next → Ran reads alone answered short told SinkFailed 0 lines left old next
  ran_sink p = record {
    done = p.done;
    replies = p.replies;
    carried = p.done;
    each = p.out.each;
    reached = inl (refl, p.run);
    stopped = p.front;
    written = cut_of alone p.done p.replies p.waiting p.lines old p.between p.out lines next p.cut;
  }

-- however the last replies went
pub ran_finished : (reads alone : List ℕ → Bool) (answered : List (List ℕ) → List (List ℕ) → Type 0) (short : List (List ℕ) → List (List ℕ) → List ℕ → Type 0) (told : Option (List ℕ)) (waiting : Replies)
    (left old now next : Option (List ℕ)) (before after : Progress) → Played reads alone answered short told before.stop waiting before.lines left old now → Finished before after waiting now next
    → Ran reads alone answered short told after.stop (line_of after.stop after.lines) after.lines left old next
ran_finished reads alone answered short told waiting left old now next before after p (inl (is, same, held)) =
    subst (λ (r : Progress). Ran reads alone answered short told r.stop (line_of r.stop r.lines) r.lines left old next) (sym same)
    (subst (λ s. Ran reads alone answered short told s (line_of s before.lines) before.lines left old next) (sym is)
    (ran_sink reads alone answered short told waiting before.lines left old now next
    (subst (λ o. PlayedCut reads alone answered told before.lines old o) (sym held) (subst (λ s. Played reads alone answered short told s waiting before.lines left old now) is p))))
ran_finished reads alone answered short told waiting left old now next before after p (inr (other, inl (same, a))) =
    subst (λ (r : Progress). Ran reads alone answered short told r.stop (line_of r.stop r.lines) r.lines left old next) (sym same)
    (ran_written reads alone answered short told waiting before.lines left old now next before.stop other p a)
ran_finished reads alone answered short told waiting left old now next before after p (inr (other, inr (is, c))) =
    subst (λ s. Ran reads alone answered short told s (line_of s after.lines) after.lines left old next) (sym is)
    (ran_cut reads alone answered short told waiting before.lines left old now next after.lines c before.stop other p)

pub known_status : (stop : Stop) → is_status (status_of stop) ≡ true
known_status End = refl
known_status SourceFailed = refl
known_status SinkFailed = refl
known_status Memory = refl
known_status BadLine = refl
known_status TooLong = refl
