use Rattle.std.proofs.Common.{arith}
use Rattle.std.proofs.lemmas.Result.{err_from_is_err_and}
use Rattle.vd_vhost_lines.proofs.Regions.{begins, goes_on, stays, fails, ends}
use Rattle.vd_vhost_lines.proofs.read.regions.Goals as goal
use Rattle.vd_vhost_lines.proofs.read.regions.Goals.{in-Some+in_ok-region_of+in_ok-push, in_default}

pub loop-init : goal.loop-init
loop-init c = rw c.new-regions.ensures (begins c.args.words.now)

pub returns-in_err-region_of : goal.returns-in_err-region_of
returns-in_err-region_of c =
    let p = err_from_is_err_and c.from_residual.result c.from_residual.ensures.1 in
    rw (p.1, p.2) (fails c.in_err-region_of.field-0.0 c.loop.regions c.loop.words c.args.words.now c.in-Some.word.now c.next.new.self c.loop.counter c.loop.invariant c.in-Some.ensures c.in_err-region_of.ensures)

pub loop-preserved : goal.loop-preserved
loop-preserved c = elim c.match-next.branch [
  | in-Some+in_ok-region_of+in_ok-push w ↦
      let pushed = goes_on c.loop.regions w.in_ok-region_of.field-0 c.loop.words c.args.words.now w.in-Some.word.now c.next.new.self c.loop.counter c.loop.invariant w.in-Some.ensures w.in_ok-region_of.ensures in
      rw (w.regions-is, w.in_ok-push.ensures.ok) pushed
  | in_default w ↦ rw w.regions-is (stays c.loop.regions c.loop.words c.next.new.self c.args.words.now c.loop.counter c.loop.invariant w.in_default.ensures.0 w.in_default.ensures.1)
]

pub returns : goal.returns
returns c = ends c.done.result c.loop.regions c.loop.words c.args.words.now c.loop.counter c.loop.invariant c.loop-test.false (omega arith) c.done.ensures
