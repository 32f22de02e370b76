use Rattle.std.proofs.Common.{◌+◌, ◌*◌, ◌∙◌, ◌++◌, refl, sym, subst, arith}
use Rattle.vd_model.specs.Acts.{Act}
use Rattle.vd_model.specs.Turn.{Turn}
use Rattle.vd_answers.proofs.Telling.{may_tell_as}
use Rattle.vd_bounce.proofs.Kept.{keeps_none}
use Rattle.vd_device.proofs.Parts.{within_later}
use Rattle.vd_request_laws.specs.Owned.{AreOwned}
use Rattle.vd_request_laws.proofs.Lines.{device_owns}
use Rattle.vd_instance.proofs.Calm.{line_calm}
use Rattle.vd_instance.proofs.Kept.{device_tells}
use Rattle.vd_instance.proofs.Regions.{may_free, may_end, spares, dev_refused, dev_is}
use Rattle.vd_instance.proofs.Resting.{within_more, device_room}
use Rattle.vd_instance.proofs.instance.Instance.step.Goals as goal

pub step-requires-clause-reached : goal.step-requires-clause-reached
step-requires-clause-reached g c = let r = c.requires.reached in record { setting = r.setting; made = r.made; acts = r.acts; stands = r.stands.device }

pub step-requires-clause-room : goal.step-requires-clause-room
step-requires-clause-room g c = device_room c.args.self.now c.requires.room

pub returns-then-takes_kept-clause-line : goal.returns-then-takes_kept-clause-line
returns-then-takes_kept-clause-line g c = λ x made seen s e.
    may_tell_as (dev_refused x made seen c.args.step.now (sym (c.takes_kept.ensures x made seen.acts c.args.pool.now s) ∙ c.if-takes_kept.true)) (record { says = c.refused.ensures; stands = s })

pub returns-then-takes_kept-clause-rest : goal.returns-then-takes_kept-clause-rest
returns-then-takes_kept-clause-rest g c = record { kept = keeps_none c.requires.held.holds; page = refl }

pub returns-then-takes_kept-clause-within : goal.returns-then-takes_kept-clause-within
returns-then-takes_kept-clause-within g c = λ most w. within_more most c.args.self.now w

pub returns-clause-line : goal.returns-clause-line
returns-clause-line g c = λ x made seen s e.
    let free = sym (c.takes_kept.ensures x made seen.acts c.args.pool.now s) ∙ c.if-takes_kept.false in
    let is = dev_is x made seen c.args.now e c.args.step.now free in
    may_tell_as is
    (device_tells (may_free made seen.acts) c.step.new.self c.step.result (spares s) (line_calm (may_free made seen.acts) made seen.acts x c.args.now c.args.step.now (may_end made seen.acts c.args.step.now free))
    (subst (λ (t : Turn Act). AreOwned (t.acts ++ seen.acts) made.queues) is (device_owns x made seen c.args.step.now s.owned)) s
    (c.step.ensures.line x made seen.acts s.device))

pub returns-clause-within : goal.returns-clause-within
returns-clause-within g c = λ most w. within_later (4 * most + 1) (4 * (most + 1)) _ (omega arith) (c.step.ensures.within (4 * most) w)
