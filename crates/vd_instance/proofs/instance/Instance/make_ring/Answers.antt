use Rattle.std.proofs.Common.{refl, ap, sym, subst, ◌∙◌, ◌<◌, ◌+◌, ◌*◌, ◌^◌, not, None, arith}
use Rattle.std.proofs.lemmas.List.{get_or_read}
use Rattle.vd_num.specs.declared.errno.Errno.TheVariants.{Nodev}
use Rattle.vd_model.specs.Turn.{refuse, refusal_if}
use Rattle.vd_model.specs.RingTurns.{ring_turn}
use Rattle.vd_bounce.specs.Bounce.{Bounce}
use Rattle.vd_bounce.specs.Frames.{Keeps}
use Rattle.vd_bounce.proofs.Kept.{keeps_none}
use Rattle.vd_answers.proofs.Telling.{may_tell_as}
use Rattle.vd_request_lines.specs.Stands.{RequestsStand}
use Rattle.vd_instance.proofs.NewRings.{low_regions, ring_own, missing_ring}
use Rattle.vd_instance.proofs.Owned.{new_ring_owned}
use Rattle.vd_instance.proofs.Placed.{driver_may_tell, is_there, is_gone}
use Rattle.vd_instance.proofs.Resting.{driver_rests}
use Rattle.vd_instance.proofs.instance.Instance.make_ring.Goals as goal

pub ring-requires-clause-room : goal.ring-requires-clause-room
ring-requires-clause-room g c = let h = c.requires.room.regions in omega (arith, h)

pub returns-in-Some-clause-line : goal.returns-in-Some-clause-line
returns-in-Some-clause-line g c = λ x made acts m s.
    let less = is_there c.args.self.now c.args.queue (c.in-Some.ensures.variant.0 refl) in
    let requests = subst (λ o. RequestsStand acts c.args.queue o) (sym (get_or_read c.args.self.now.drivers.items c.args.queue c.in-Some.kept.now less c.in-Some.ensures.value None)) (s.drivers c.args.queue) in
    let known = c.known_driver-known.ensures x made acts m s in
    let on = sym s.device.path.attached ∙ c.if-not-self.false in
    may_tell_as (ap (λ b. refuse (refusal_if (not b) Nodev) (ring_turn x made acts c.args.queue c.args.size)) on)
    (driver_may_tell c.args.queue c.ring.new.memory c.ring.new.kept _ less refl refl refl s c.ring.result (ring_own acts c.args.queue (low_regions s) x made c.args.size) (new_ring_owned s on c.args.queue c.args.size)
    (c.ring.ensures.line x made acts m c.args.queue s.device.memory requests known))

pub returns-in-Some-clause-rest : goal.returns-in-Some-clause-rest
returns-in-Some-clause-rest g c = λ m held.
    let same = c.ring.ensures.bounce in
    let counts = c.ring.ensures.counts in
    record {
      path = refl;
      kept = subst (λ (b : Bounce). Keeps c.args.self.now.device.memory.domain.bounce.frames b.frames m m) (sym same) (keeps_none held.holds);
      page = ap (λ (b : Bounce). b.per_page) same;
      maps = (let e = counts.0 in omega (arith, e));
      made = counts.1;
    }

pub returns-in-None-clause-line : goal.returns-in-None-clause-line
returns-in-None-clause-line g c = λ x made acts m s.
    may_tell_as
    (ap (λ b. refuse (refusal_if (not b) Nodev) (ring_turn x made acts c.args.queue c.args.size)) (sym s.device.path.attached ∙ c.if-not-self.false)
    ∙ missing_ring x made acts c.args.queue c.args.size (is_gone s c.args.queue c.in-None.ensures.variant.1))
    (record { says = c.refused-in-None.ensures; stands = s })

pub returns-in-None-clause-rest : goal.returns-in-None-clause-rest
returns-in-None-clause-rest g c = λ m held. driver_rests c.args.self.now m held

pub returns-then-not-self-clause-rest : goal.returns-then-not-self-clause-rest
returns-then-not-self-clause-rest g c = λ m held. driver_rests c.args.self.now m held
