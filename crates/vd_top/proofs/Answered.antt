-- A line that was answered.
use Rattle.std.specs.Prelude.{OnOk, OnErr, IfErr, MatchResult}
use Rattle.std.proofs.Common.{Result, Ok, Err, ◌≡◌, ℕ, ◌+◌, ◌≤◌, refl, ap, subst, sym, ◌∙◌, arith, Bool, true, false, Option, None, Some, List, [], ◌∷◌, append-nil, true≢false, ◌⊎◌, inl, inr, if◌then◌else◌}
use Rattle.vd_model.specs.declared.step.Step.{Step}
use Rattle.vd_model.specs.Setting.{Setting}
use Rattle.vd_model.specs.History.{History, deeds_of, reply}
use Rattle.vd_model.specs.Replies.{reply_line}
use Rattle.vd_engine.specs.Machine.{StandsFor}
use Rattle.vd_engine.specs.Image.{IsImage}
use Rattle.vd_engine.specs.Frugal.{is_execution}
use Rattle.vd_engine.specs.Does.{Goes}
use Rattle.vd_top.specs.declared.player.Player.{Player}
use Rattle.vd_loop.specs.declared.progress.Progress.{Progress}
use Rattle.vd_loop.specs.declared.progress.Stop.{Stop}
use Rattle.vd_loop.specs.declared.progress.Stop.TheVariants.{End, SourceFailed, SinkFailed, Memory, BadLine, TooLong}
use Rattle.vd_engine.specs.Flushes.{is_flush_step, flushes}
use Rattle.vd_io.specs.Told.{Rose}
use Rattle.vd_top.specs.Executes.{failed_more, RoseBy}
use Rattle.vd_top.specs.Pictures.{Shown, HoldsRun}
use Rattle.vd_loop.specs.Replies.{Replies, IsReplyAdded, Flushed}
use Rattle.vd_top.specs.Played.{Carried, Answered, Untold, Unchanged, IsHindered, StoppedBy}
use Rattle.vd_top.proofs.Plays.{flushed_same}

-- a step more of a run that the image holds
flush_more : (flushed : Bool) (n first before now : ℕ) → before ≤ now → (flushed ≡ true → Rose before now) → RoseBy n first before → RoseBy (n + (if flushed then 1 else 0)) first now
flush_more true n first before now later rose r = let one = rose refl in omega (arith, later, one, r)
flush_more false n first before now later rose r = omega (arith, later, r)

pub holds_more : (x : Setting) (h : History) (step : Step) (failed : Bool) (size : ℕ) (first before after : Shown) → before.flushed ≤ after.flushed
    → (is_flush_step x (deeds_of x h) step (reply x h step failed) ≡ true → Rose before.flushed after.flushed)
    → IsImage x (deeds_of x (record { step = step; failed = failed } ∷ h)) size after.content → HoldsRun x h size first before → HoldsRun x (record { step = step; failed = failed } ∷ h) size first after
unfolding flushes
holds_more x h step failed size first before after later rose i r = record {
  image = i;
  flushed = flush_more (is_flush_step x (deeds_of x h) step (reply x h step failed)) (flushes x h) first.flushed before.flushed after.flushed later rose r.flushed;
}

-- a line that asks nothing
pub answered_nothing : (lines : ℕ) (p : Player) (held : Option (List ℕ)) (size : ℕ) (content : Shown) → Answered (Some None) lines p p held held size content content
answered_nothing lines p held size content = record {
  failed = false;
  carried = record { said = refl; failures = refl; quiet = λ e. (refl, refl); image = λ x h first s i. i };
  kept = p.waiting;
  flushed = flushed_same p.waiting held;
  alone = λ e. absurd (true≢false (sym e));
  reply = [];
  waits = record { bytes = sym (append-nil p.waiting.bytes); kept = λ n below. refl; added = λ n past below. absurd (omega (arith, past, below)) };
  run = λ x h s i. record { stands = s; text = refl };
}

-- the replies that wait weren't written before an execute, or there was no room for its number
pub hindered : (step : Option (Option Step)) (lines : ℕ) (p : Progress) (old new : Player) (held later : Option (List ℕ)) (size : ℕ) (before after : Shown) → IsHindered p.stop p.lines lines old.waiting new.waiting held later
    → Unchanged old new before after → StoppedBy p.stop p.lines step lines old new held later size before after
hindered step lines p old new held later size before after h u = by p.stop h where
  by : (stop : Stop) → IsHindered stop p.lines lines old.waiting new.waiting held later → StoppedBy stop p.lines step lines old new held later size before after
  by SinkFailed cut = (cut, u)
  by Memory m = (m.0, m.1, inl u)
  by End none = absurd none
  by SourceFailed none = absurd none
  by BadLine none = absurd none
  by TooLong none = absurd none

-- a step was played, whose reply is kept apart
module _ (step : Step) (lines : ℕ) (failed : Bool) (old new : Player) (kept : Replies) (reply : List ℕ) (held later : Option (List ℕ)) (size : ℕ) (before after : Shown)
    (flushed : Flushed old.waiting kept held later) (alone : is_execution step ≡ true → kept.bytes ≡ [])
    (failures : new.failures.items ≡ failed_more failed (lines + 1) old.failures.items)
    (quiet : is_execution step ≡ false → (failed ≡ false) × (after ≡ before))
    (run : (x : Setting) (h : History) → StandsFor x h old.engine → (is_execution step ≡ true → IsImage x (deeds_of x h) size before.content) → Goes x (λ said. reply ≡ reply_line said) h step failed new.engine)
    (image : (x : Setting) (h : History) (first : Shown) → StandsFor x h old.engine → HoldsRun x h size first before → HoldsRun x (record { step = step; failed = failed } ∷ h) size first after) where
  carried : Carried (Some (Some step)) lines failed old new size before after
  carried = record { said = refl; failures = failures; quiet = quiet; image = image }

  pub answered_step : IsReplyAdded reply lines kept new.waiting → Answered (Some (Some step)) lines old new held later size before after
  answered_step waits = record {
    failed = failed;
    carried = carried;
    kept = kept;
    flushed = flushed;
    alone = alone;
    reply = reply;
    waits = waits;
    run = λ x h s i. let goes = run x h s i in record { stands = goes.stands; text = goes.says };
  }

  -- there was no memory for the reply
  pub untold_step : (p : Progress) → p ≡ record { stop = Memory; lines = lines } → new.waiting ≡ kept → StoppedBy p.stop p.lines (Some (Some step)) lines old new held later size before after
  untold_step p is same =
      subst (λ (q : Progress). StoppedBy q.stop q.lines (Some (Some step)) lines old new held later size before after) (sym is)
      (refl, subst (λ w. Flushed old.waiting w held later) (sym same) flushed, by (is_execution step) refl) where
        by : (b : Bool) → is_execution step ≡ b → Unchanged old new before after ⊎ Untold (Some (Some step)) lines old new size before after
        by true e = inr (record { is = e; failed = failed; carried = carried; none = ap (λ (w : Replies). w.bytes) same ∙ alone e })
        by false e = let q = quiet e in inl (record { failures = failures ∙ ap (λ b. failed_more b (lines + 1) old.failures.items) q.0; image = q.1 })

  -- the reply waits, or there was no memory for it
  pub step_told : (r : Result (Unit {0}) Progress) → OnOk r (IsReplyAdded reply lines kept new.waiting) → OnErr r (new.waiting ≡ kept) → IfErr r (λ p. p ≡ record { stop = Memory; lines = lines })
      → MatchResult r (λ _. Answered (Some (Some step)) lines old new held later size before after) (λ p. StoppedBy p.stop p.lines (Some (Some step)) lines old new held later size before after)
  step_told (Ok u) added same is = answered_step added
  step_told (Err p) added same is = untold_step p is same
