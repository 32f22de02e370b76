use Rattle.std.proofs.Common.{ap, sym, subst, arith, length, take, length-drop}
use Rattle.vd_io.specs.Told.{Pushed}
use Rattle.vd_loop.specs.Written.{Appended}
use Rattle.vd_loop.proofs.Waits.{appended_more, take_rest}
use Rattle.vd_loop.proofs.waiting.write_all.Goals as goal

pub loop-at-preserved : goal.loop-at-preserved
loop-at-preserved g c =
    let pushed = subst (λ t. Pushed c.in-Ok.n t (g.K.Sink.held c.loop-at.sink) (g.K.Sink.held c.push.new.self)) (take_rest c.loop-at.at c.args.bytes.now) c.in-Ok.ensures.given in
    let faults = c.push.ensures.cause.later in
    let before = c.loop-at.invariant.faults in
    let within = c.in-Ok.ensures.within in
    record {
      within = (let size = length-drop c.loop-at.at c.args.bytes.now in let same = ap length (take_rest c.loop-at.at c.args.bytes.now) in omega (arith, size, same, within));
      appended = appended_more c.loop-at.at c.in-Ok.n c.args.bytes.now _ _ _ c.loop-at.invariant.appended pushed;
      faults = omega (arith, faults, before);
    }

pub returns-in-Err-clause-front : goal.returns-in-Err-clause-front
returns-in-Err-clause-front g c = subst (λ o. Appended (g.K.Sink.held c.args.sink.now) o (take c.loop-at.at c.args.bytes.now)) (sym c.in-Err.ensures.kept) c.loop-at.invariant.appended
