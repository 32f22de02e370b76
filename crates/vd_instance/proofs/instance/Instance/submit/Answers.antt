use Rattle.std.proofs.Common.{refl, ap, sym, subst, ◌∙◌, ◌<◌, ◌+◌, ◌*◌, ◌^◌, not, None, arith}
use Rattle.std.proofs.lemmas.List.{get_or_read}
use Rattle.vd_num.specs.declared.errno.Errno.TheVariants.{Nodev}
use Rattle.vd_model.specs.Turn.{refuse, refusal_if}
use Rattle.vd_model.specs.RingTurns.{submit_turn}
use Rattle.vd_answers.proofs.Telling.{may_tell_as}
use Rattle.vd_request_lines.specs.Stands.{RequestsStand}
use Rattle.vd_instance.proofs.Own.{submit_own, missing_submit}
use Rattle.vd_instance.proofs.Owned.{submit_owned}
use Rattle.vd_instance.proofs.Placed.{driver_may_tell, is_there, is_gone, is_below}
use Rattle.vd_instance.proofs.Resting.{driver_rests}
use Rattle.vd_instance.proofs.instance.Instance.submit.Goals as goal

pub submit-requires-clause-kept : goal.submit-requires-clause-kept
submit-requires-clause-kept g c =
    let r = c.requires.reached in
    let less = is_there c.args.self.now c.args.queue (c.in-Some.ensures.variant.0 refl) in
    record {
      setting = r.setting;
      acts = r.acts;
      queue = c.args.queue;
      memory = r.stands.device.memory;
      requests = subst (λ o. RequestsStand r.acts c.args.queue o) (sym (get_or_read c.args.self.now.drivers.items c.args.queue c.in-Some.kept.now less c.in-Some.ensures.value None)) (r.stands.drivers c.args.queue);
    }

pub submit-requires-clause-held : goal.submit-requires-clause-held
submit-requires-clause-held g c = record { holds = c.requires.held.holds; size = c.requires.held.size }

pub submit-requires-clause-room : goal.submit-requires-clause-room
submit-requires-clause-room g c = let h = c.requires.room.maps in omega (arith, h)

pub returns-in-Some-clause-line : goal.returns-in-Some-clause-line
returns-in-Some-clause-line g c = λ x made acts s.
    let less = is_there c.args.self.now c.args.queue (c.in-Some.ensures.variant.0 refl) in
    let requests = subst (λ o. RequestsStand acts c.args.queue o) (sym (get_or_read c.args.self.now.drivers.items c.args.queue c.in-Some.kept.now less c.in-Some.ensures.value None)) (s.drivers c.args.queue) in
    let known = c.known_driver.ensures x made acts c.args.pool.now s in
    let busy = c.wants_made_buffer.ensures x made acts c.args.pool.now s in
    let on = sym s.device.path.attached ∙ c.if-not-self.false in
    may_tell_as (ap (λ b. refuse (refusal_if (not b) Nodev) (submit_turn x made acts c.args.queue c.args.form.now)) on)
    (driver_may_tell c.args.queue c.submit.new.memory c.submit.new.kept _ less refl refl refl s c.submit.result (submit_own x made acts c.args.queue c.args.form.now) (submit_owned s on c.args.queue c.args.form.now)
    (c.submit.ensures.line x made acts c.args.queue s.device.memory requests known busy))

pub returns-in-Some-clause-rest : goal.returns-in-Some-clause-rest
returns-in-Some-clause-rest g c =
    let r = c.submit.ensures.rest in
    let maps = c.submit.ensures.maps in
    record { path = refl; kept = r.kept; page = r.page; maps = omega (arith, maps); made = (let made = r.made in omega (arith, made)) }

pub returns-in-None-clause-line : goal.returns-in-None-clause-line
returns-in-None-clause-line g c = λ x made acts s.
    may_tell_as
    (ap (λ b. refuse (refusal_if (not b) Nodev) (submit_turn x made acts c.args.queue c.args.form.now)) (sym s.device.path.attached ∙ c.if-not-self.false)
    ∙ missing_submit acts c.args.queue x made c.args.form.now (is_gone s c.args.queue c.in-None.ensures.variant.1))
    (record { says = c.refused-in-None.ensures; stands = s })

pub returns-in-None-clause-rest : goal.returns-in-None-clause-rest
returns-in-None-clause-rest g c = driver_rests c.args.self.now c.args.pool.now c.requires.held

pub returns-then-not-self-clause-rest : goal.returns-then-not-self-clause-rest
returns-then-not-self-clause-rest g c = driver_rests c.args.self.now c.args.pool.now c.requires.held
