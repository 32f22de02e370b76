use Rattle.std.proofs.Common.{sym, subst}
use Rattle.vd_vhost.specs.After.{BusParts}
use Rattle.vd_vhost_model.specs.VhostLines.{vhost_reading}
use Rattle.vd_vhost_turns.specs.Answered.{Answered}
use Rattle.vd_vhost_top.specs.Answered.{LinesAnswered}
use Rattle.vd_vhost_top.proofs.Lines.{answered_more, on_err}
use Rattle.vd_vhost_top.proofs.machine.BusMachineMachineUnit.answer.Goals as goal

pub returns-in_err-answer-clause-short : goal.returns-in_err-answer-clause-short
returns-in_err-answer-clause-short c = λ first outside done replies count run.
    let now = subst (λ (bus : BusParts). LinesAnswered first.lines.bus done replies bus) (sym c.in_err-answer.ensures.err) run in
    on_err c.from_residual.result now

pub returns-then-branch-clause-answered : goal.returns-then-branch-clause-answered
returns-then-branch-clause-answered c = λ first outside done replies count run.
    answered_more first.lines.bus c.args.self.now.lines.bus c.answer.new.self done replies c.args.line.now run
    (λ size acts at. subst (λ b. Answered size acts (vhost_reading c.args.line.now) c.args.self.now.lines.bus c.answer.new.self b) c.if-branch.true (c.in_ok-answer.ensures.line size acts at))

pub returns-else-branch-clause-answered : goal.returns-else-branch-clause-answered
returns-else-branch-clause-answered c = λ first outside done replies count run size acts at.
    let before = run size acts at in
    let same = subst (λ b. Answered size before.after (vhost_reading c.args.line.now) c.args.self.now.lines.bus c.answer.new.self b) c.if-branch.false (c.in_ok-answer.ensures.line size before.after before.stands) in
    subst (λ (bus : BusParts). LinesAnswered first.lines.bus done replies bus) (sym same) run size acts at
