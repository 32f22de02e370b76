use Rattle.std.proofs.Common.{sym, ◌∙◌}
use Rattle.vd_guest.proofs.Onward.{below_end, denied_at_once, denied_past}
use Rattle.vd_guest.proofs.part.denial.Goals as goal

pub returns-in-Err : goal.returns-in-Err
returns-in-Err c given s =
    sym (denied_at_once given c.args.access c.loop-left.next c.loop-left.left c.in-Err.why c.loop-left-test.true (c.in-Err.ensures.part given s)) ∙ c.loop-left.invariant.denies given s

pub loop-left-preserved : goal.loop-left-preserved
loop-left-preserved c = record {
  next = below_end c.past-next.result c.loop-left.next c.in-Ok.part.len c.past-next.ensures;
  denies = λ given s.
      denied_past given c.loop-left.next c.loop-left.left c.past-next.result c.in-Ok.part c.loop-left.invariant.next c.past-next.ensures c.args.access (c.in-Ok.ensures.part given s)
      ∙ c.loop-left.invariant.denies given s;
}
