use Rattle.std.proofs.Common.{◌≡◌, ◌+◌, ◌∙◌, ap, arith, subst, length}
use Rattle.std.proofs.lemmas.List.Sums.{sum_by_push}
use Rattle.vd_bounce.specs.Frames.{held_count}
use Rattle.vd_instance.specs.Stands.{frames}
use Rattle.vd_engine.specs.declared.devices.Named.{Named}
use Rattle.vd_engine.specs.Machine.{AreHeld, frames_out}
use Rattle.vd_engine.proofs.Names.{last_at}
use Rattle.vd_engine.proofs.Held.{held_popped}
use Rattle.vd_engine.proofs.engine.Engine.end.Goals as goal

pub discard-requires : goal.discard-requires
discard-requires c =
    let held = subst (λ l. AreHeld l c.loop-named.pool) c.in-Some.ensures.items c.loop-named.invariant.held in
    (held.held (length c.pop.new.self.items) c.in-Some.named (last_at c.pop.new.self.items c.in-Some.named)).holds

pub loop-named-preserved : goal.loop-named-preserved
loop-named-preserved c =
    let held = subst (λ l. AreHeld l c.loop-named.pool) c.in-Some.ensures.items c.loop-named.invariant.held in
    let same = ap frames_out c.in-Some.ensures.items ∙ sum_by_push (λ (d : Named). held_count (frames d.instance)) c.pop.new.self.items c.in-Some.named in
    let before = c.loop-named.invariant.back in
    let given = c.discard.ensures.back in
    record {
      held = held_popped c.pop.new.self.items c.in-Some.named c.loop-named.pool c.discard.new.pool _ held c.discard.ensures.kept;
      back = omega (arith, same, before, given);
    }
