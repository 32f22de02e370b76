use Rattle.std.proofs.Common.{refl, ap, sym, subst, ◌∙◌, ◌<◌, ◌+◌, ◌*◌, ◌^◌, not, None, arith}
use Rattle.std.proofs.lemmas.List.{get_or_read}
use Rattle.vd_num.specs.declared.errno.Errno.TheVariants.{Nodev}
use Rattle.vd_model.specs.Turn.{refuse, refusal_if}
use Rattle.vd_answers.proofs.Telling.{tells_as}
use Rattle.vd_request_lines.specs.Stands.{RequestsStand}
use Rattle.vd_request_laws.proofs.Pending.{each_queue}
use Rattle.vd_instance.specs.Lines.{ring_line_turn}
use Rattle.vd_instance.proofs.Own.{line_own, missing_line}
use Rattle.vd_instance.proofs.Owned.{ring_line_owned}
use Rattle.vd_instance.proofs.Placed.{driver_tells, is_there, is_gone, is_below}
use Rattle.vd_instance.proofs.Resting.{driver_rests}
use Rattle.vd_instance.proofs.instance.Instance.on_ring.Goals as goal

pub answer-requires-clause-held : goal.answer-requires-clause-held
answer-requires-clause-held g c =
    let r = c.requires.reached in
    let less = is_there c.args.self.now c.args.queue (c.in-Some.ensures.variant.0 refl) in
    record {
      setting = r.setting;
      acts = r.acts;
      queue = c.args.queue;
      memory = r.stands.device.memory;
      requests = subst (λ o. RequestsStand r.acts c.args.queue o) (sym (get_or_read c.args.self.now.drivers.items c.args.queue c.in-Some.kept.now less c.in-Some.ensures.value None)) (r.stands.drivers c.args.queue);
      owned = each_queue r.acts r.made.queues c.args.queue r.stands.owned (is_below r.stands c.args.queue less);
    }

pub answer-requires-clause-out : goal.answer-requires-clause-out
answer-requires-clause-out g c = record { holds = c.requires.held.holds; size = c.requires.held.size }

pub answer-requires-clause-room : goal.answer-requires-clause-room
answer-requires-clause-room g c = let h = c.requires.room.maps in omega (arith, h)

pub returns-in-Some-clause-line : goal.returns-in-Some-clause-line
returns-in-Some-clause-line g c = λ x made acts s.
    let less = is_there c.args.self.now c.args.queue (c.in-Some.ensures.variant.0 refl) in
    let requests = subst (λ o. RequestsStand acts c.args.queue o) (sym (get_or_read c.args.self.now.drivers.items c.args.queue c.in-Some.kept.now less c.in-Some.ensures.value None)) (s.drivers c.args.queue) in
    let known = c.known_driver-known.ensures x made acts c.args.pool.now s in
    let on = sym s.device.path.attached ∙ c.if-not-self.false in
    tells_as (ap (λ b. refuse (refusal_if (not b) Nodev) (ring_line_turn x made acts c.args.queue c.args.line)) on)
    (driver_tells c.args.queue c.answer.new.memory c.answer.new.kept _ less refl refl refl s (line_own acts c.args.queue x made c.args.line) (ring_line_owned s on c.args.queue c.args.line)
    (c.answer.ensures.line x made acts c.args.queue s.device.memory requests (each_queue acts made.queues c.args.queue s.owned (is_below s c.args.queue less)) known))

pub returns-in-Some-clause-rest : goal.returns-in-Some-clause-rest
returns-in-Some-clause-rest g c =
    let r = c.answer.ensures.rest in
    let maps = c.answer.ensures.maps in
    record { path = refl; kept = r.kept; page = r.page; maps = omega (arith, maps); made = (let made = r.made in omega (arith, made)) }

pub returns-in-None-clause-line : goal.returns-in-None-clause-line
returns-in-None-clause-line g c = λ x made acts s.
    tells_as
    (ap (λ b. refuse (refusal_if (not b) Nodev) (ring_line_turn x made acts c.args.queue c.args.line)) (sym s.device.path.attached ∙ c.if-not-self.false)
    ∙ missing_line acts c.args.queue x made c.args.line (is_gone s c.args.queue c.in-None.ensures.variant.1))
    (record { says = c.refused-in-None.ensures; stands = s })

pub returns-in-None-clause-rest : goal.returns-in-None-clause-rest
returns-in-None-clause-rest g c = driver_rests c.args.self.now c.args.pool.now c.requires.held

pub returns-then-not-self-clause-rest : goal.returns-then-not-self-clause-rest
returns-then-not-self-clause-rest g c = driver_rests c.args.self.now c.args.pool.now c.requires.held
