use Rattle.std.proofs.Common.{refl, ap, ◌∙◌, [], length, None, arith}
use Rattle.std.proofs.lemmas.List.{length-replicate}
use Rattle.vd_request_laws.proofs.Pending.{nothing_owned}
use Rattle.vd_instance.specs.Daemons.{new_daemon}
use Rattle.vd_instance.proofs.Fresh.{no_own, empty_stands}
use Rattle.vd_instance.proofs.Holding.{new_hold, new_named}
use Rattle.vd_instance.proofs.instance.Instance.new.Goals as goal

pub returns-clause-stands : goal.returns-clause-stands
returns-clause-stands c = λ x m sized. record {
  device = c.in_ok-device.ensures.stands x m sized;
  drivers = empty_stands [] c.args.offer.queues c.in_ok-drivers.drivers.items c.in_ok-drivers.ensures (λ q. refl) (λ q. refl) (λ q. refl);
  places = ap length c.in_ok-drivers.ensures ∙ length-replicate c.args.offer.queues None;
  owned = nothing_owned c.args.offer.queues;
  apart = no_own [] (λ q. refl);
  sizes = λ q. omega arith;
  daemons = new_hold x c.args.name.now c.args.offer.queues c.in_ok-daemons.daemons.items c.in_ok-daemons.ensures;
  count = ap length c.in_ok-daemons.ensures ∙ length-replicate c.args.offer.queues (new_daemon c.args.name.now);
}

pub returns-clause-held : goal.returns-clause-held
returns-clause-held c = λ m e. let held = c.in_ok-device.ensures.held m e in record { holds = held.holds; size = held.size }

pub returns-clause-named : goal.returns-clause-named
returns-clause-named c = new_named c.args.name.now c.args.offer.queues c.in_ok-daemons.daemons.items c.in_ok-daemons.ensures
