-- One request more is counted, and no count grows by more than four.
use Rattle.std.proofs.Common.{ap, ◌∙◌, sym, arith, ◌+◌, ◌*◌}
use Rattle.sh_workload.specs.Requests.{plan_from, third}
use Rattle.sh_workload.specs.Workload.{with_plan, with_driver}
use Rattle.sh_workload.proofs.Counted.{driver_more, state_more}
use Rattle.sh_workload.proofs.counts.Counts.add_driver.Goals as goal

pub add-requires-clause-room : goal.add-requires-clause-room
add-requires-clause-room c =
    let few = c.loop.invariant.2 560000 c.requires.room in
    (omega arith, omega arith, omega arith, omega arith)

pub loop-preserved : goal.loop-preserved
loop-preserved c = (
  c.add.ensures.counts
      ∙ ap (λ n. with_plan n c.draw.result) c.loop.invariant.0
      ∙ ap (with_plan (with_driver c.args.start c.args.driver c.args.self.now c.loop.counter)) (c.draw.ensures.plan ∙ ap plan_from c.loop.invariant.1)
      ∙ sym (driver_more c.args.start c.args.driver c.args.self.now c.loop.counter),
  c.draw.ensures.state ∙ ap third c.loop.invariant.1 ∙ sym (state_more c.args.start c.args.driver c.loop.counter),
  λ k h. let more = c.add.ensures.bound (k + 4 * c.loop.counter) (c.loop.invariant.2 k h) in
      (omega arith, omega arith, omega arith, omega arith),
)
