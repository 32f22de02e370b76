use Rattle.std.proofs.Common.{rules, ap, sym, ◌∙◌, ◌+◌, ◌-◌, None, if◌then◌else◌}
use Rattle.vd_origins.specs.Runs.{origin_in, run_origin, kept_origin}
use Rattle.vd_origins.proofs.Runs.{or_none, moved_next}
use Rattle.vd_origins.proofs.origins.push_moved.Goals as goal
use Rattle.vd_origins.proofs.origins.push_moved.Goals.{in-Some+in_ok-push, in_default}

pub loop-run-preserved : goal.loop-run-preserved
loop-run-preserved c a less = elim c.match-moved.branch [
  | in-Some+in_ok-push w ↦
      moved_next c.args.runs.now c.loop-run.run-index _ c.args.range c.args.to a (origin_in c.args.into.now.items a) (origin_in c.loop-run.into.items a)
      (origin_in c.match-moved.into.items a) (run_origin w.in-Some.moved a) c.loop-run-test.true (w.in-Some.ensures a less) (c.loop-run.invariant a less)
      (ap (λ v. origin_in v.items a) w.into-is ∙ w.in_ok-push.ensures a)
  | in_default w ↦
      moved_next c.args.runs.now c.loop-run.run-index _ c.args.range c.args.to a (origin_in c.args.into.now.items a) (origin_in c.loop-run.into.items a)
      (origin_in c.match-moved.into.items a) None c.loop-run-test.true (w.in_default.ensures a less) (c.loop-run.invariant a less)
      (ap (λ v. origin_in v.items a) w.into-is ∙ sym (or_none (origin_in c.loop-run.into.items a)))
]
