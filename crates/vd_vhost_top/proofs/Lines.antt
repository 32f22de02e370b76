-- Lines of a bus: their replies are what is written, and the law on the table holds after them.
use Rattle.std.proofs.Common.{◌≡◌, ℕ, ◌+◌, ◌<◌, ◌≤◌, refl, ap, subst, sym, ◌∙◌, arith, inl, inr, List, [], ◌∷◌, ◌++◌, length, take, append_assoc, append-nil, false}
use Rattle.std.proofs.Math.Seq.{take-length}
use Rattle.std.proofs.lemmas.List.{take-append-le, take_all}
use Rattle.std.proofs.lemmas.Bool.Decides.{leb_tells}
use Rattle.std.specs.List.{concat}
use Rattle.std.specs.Prelude.{Result, Ok, Err, OnErr}
use Rattle.vd_loop.specs.declared.progress.Stop.{Stop}
use Rattle.vd_loop.specs.declared.progress.Stop.TheVariants.{End, SourceFailed, SinkFailed, Memory, BadLine, TooLong}
use Rattle.vd_loop.specs.Outs.{Grows}
use Rattle.vd_loop.specs.Runs.{Reached, ReachedBy}
use Rattle.vd_turns.specs.Turns.{replies_from, RepliesFollow}
use Rattle.vd_turns.proofs.Turns.{replies_grow, follows_first, follows_more}
use Rattle.vd_vhost_model.specs.GuestTable.{VhostAct}
use Rattle.vd_vhost_model.specs.VhostOut.{vhost_output}
use Rattle.vd_vhost_laws.specs.TableLaw.{done_by_lines}
use Rattle.vd_vhost_laws.proofs.Law.{table_law}
use Rattle.vd_vhost.specs.After.{BusParts, IsAfter}
use Rattle.vd_vhost_turns.specs.Answered.{Answering, Replies}
use Rattle.vd_vhost_model.specs.VhostLines.{vhost_reading}
use Rattle.vd_vhost_top.specs.Answered.{is_bus_line, after_line, line_reply, AnsweredAfter, LinesAnswered}
use Rattle.vd_vhost_top.specs.Promise.{TablePromise}

-- ---- what is written

output_is : (size : ℕ) (done : List VhostAct) (lines : List (List ℕ)) → replies_from (after_line size) (line_reply size) done lines ≡ vhost_output size done lines
unfolding vhost_output
output_is size done [] = refl
output_is size done (line ∷ rest) = ap (λ t. line_reply size done line ++ t) (output_is size (after_line size done line) rest)

pub output_grows : (size : ℕ) → Grows (vhost_output size [])
output_grows size xs ys =
    let g = replies_grow (after_line size) (line_reply size) [] xs ys in
    (g.0, sym (output_is size [] (xs ++ ys)) ∙ g.1 ∙ ap (λ t. t ++ g.0) (output_is size [] xs))

pub output_none : (size : ℕ) → vhost_output size [] [] ≡ []
unfolding vhost_output
output_none size = refl

-- ---- the promise

output_next : (size : ℕ) (done : List VhostAct) (lines : List (List ℕ)) (line : List ℕ)
    → vhost_output size done (lines ++ line ∷ []) ≡ vhost_output size done lines ++ line_reply size (done_by_lines size done lines) line
unfolding vhost_output done_by_lines
output_next size done [] line = append-nil (line_reply size done line)
output_next size done (l ∷ rest) line =
    ap (λ t. line_reply size done l ++ t) (output_next size (after_line size done l) rest line)
    ∙ sym (append_assoc (line_reply size done l) (vhost_output size (after_line size done l) rest) (line_reply size (done_by_lines size (after_line size done l) rest) line))

pub promise : (size : ℕ) (lines : List (List ℕ)) → TablePromise size lines
promise size lines = record { law = table_law size lines; next = λ line. output_next size [] lines line }

-- ---- one line more

-- what is so is so where a call failed
pub on_err : {T E P : Type 0} (r : Result T E) → P → OnErr r P
on_err (Ok x) p = tt
on_err (Err e) p = p

pub answered_none : (bus : BusParts) → LinesAnswered bus [] [] bus
answered_none bus = λ size acts at. record { after = acts; follows = follows_first (after_line size) (line_reply size) acts; stands = at }

pub answered_more : (first old : BusParts) (new : Answering) (done replies : List (List ℕ)) (line : List ℕ) → LinesAnswered first done replies old
    → ((size : ℕ) (acts : List VhostAct) → IsAfter size acts old → Replies size acts (vhost_reading line) new)
    → LinesAnswered first (done ++ line ∷ []) (replies ++ new.reply ∷ []) new.bus
answered_more first old new done replies line run one = λ size acts at.
    let before = run size acts at in
    let told = one size before.after before.stands in
    record {
      after = after_line size before.after line;
      follows =
          subst (λ t. RepliesFollow (after_line size) (line_reply size) acts (done ++ line ∷ []) (replies ++ t ∷ []) (after_line size before.after line)) (sym told.reply_is)
          (follows_more (after_line size) (line_reply size) acts before.after done replies line before.follows);
      stands = told.stands;
    }

-- ---- the replies of a run

module _ (size : ℕ) (first now : BusParts) (at : IsAfter size [] first) (done replies : List (List ℕ)) (each : length replies ≡ length done) where
  same_answered : LinesAnswered first done replies now → (k : ℕ) → concat (take k replies) ≡ vhost_output size [] (take k done)
  same_answered run k = (run size [] at).follows.each k ∙ output_is size [] (take k done)

  -- the reply to one line more wasn't kept
  module _ (line reply : List ℕ) (carried : List (List ℕ)) (is : carried ≡ done ++ line ∷ []) (run : LinesAnswered first carried (replies ++ reply ∷ []) now) where
    same_low : (k : ℕ) → k ≤ length done → concat (take k replies) ≡ vhost_output size [] (take k done)
    same_low k low =
        ap concat (sym (take-append-le k replies (reply ∷ []) (omega (arith, each, low)))) ∙ (run size [] at).follows.each k ∙ output_is size [] (take k carried)
        ∙ ap (λ l. vhost_output size [] (take k l)) is ∙ ap (vhost_output size []) (take-append-le k done (line ∷ []) low)

    same_high : (k : ℕ) → length done < k → concat (take k replies) ≡ vhost_output size [] (take k done)
    same_high k high =
        ap concat (take_all k replies (omega (arith, each, high)) ∙ sym (take_all (length done) replies (omega (arith, each)))) ∙ same_low (length done) (omega arith)
        ∙ ap (vhost_output size []) (take-length done ∙ sym (take_all k done (omega (arith, high))))

    same_untold : (k : ℕ) → concat (take k replies) ≡ vhost_output size [] (take k done)
    same_untold k = elim (leb_tells k (length done)) [ inl low ↦ same_low k low.1 | inr high ↦ same_high k high.1 ]

  module _ (quiet : Type 0) (carried : List (List ℕ)) where
    same_reached : Reached is_bus_line (λ _. false) quiet done replies carried (λ d r. LinesAnswered first d r now) (λ d r l. LinesAnswered first d r now)
        → (k : ℕ) → concat (take k replies) ≡ vhost_output size [] (take k done)
    same_reached (inl run) = same_answered run.1
    same_reached (inr (inl short)) = same_answered short.run
    same_reached (inr (inr untold)) = same_untold untold.line untold.reply carried untold.is untold.run

    pub same : (stop : Stop) → ReachedBy stop is_bus_line (λ _. false) quiet done replies carried (λ d r. LinesAnswered first d r now) (λ d r l. LinesAnswered first d r now)
        → (k : ℕ) → concat (take k replies) ≡ vhost_output size [] (take k done)
    same End reached = same_answered reached.1
    same BadLine reached = same_answered reached.1
    same TooLong reached = same_answered reached.1
    same SourceFailed reached = same_answered reached.1
    same SinkFailed reached = same_reached reached
    same Memory reached = same_reached reached
