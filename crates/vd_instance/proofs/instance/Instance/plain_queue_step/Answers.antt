use Rattle.std.proofs.Common.{◌∙◌, ap, sym, false}
use Rattle.vd_model.specs.History.{queue_turn, needs_bus}
use Rattle.vd_model.specs.RingTurns.{add_turn}
use Rattle.vd_answers.proofs.Telling.{may_tell_as, tells_ok}
use Rattle.vd_instance.proofs.Resting.{others_rest, within_driver, within_kept}
use Rattle.vd_instance.proofs.instance.Instance.plain_queue_step.Goals as goal

pub returns-in-Walk-clause-line : goal.returns-in-Walk-clause-line
returns-in-Walk-clause-line g c = λ x made name seen s. may_tell_as (ap (queue_turn x made name seen false) c.in-Walk.is) (c.walk.ensures.line x made seen.acts s)

pub returns-in-Walk-clause-rest : goal.returns-in-Walk-clause-rest
returns-in-Walk-clause-rest g c = record { kept = c.walk.ensures.rest.kept; page = c.walk.ensures.rest.page }

pub returns-in-Walk-clause-within : goal.returns-in-Walk-clause-within
returns-in-Walk-clause-within g c = λ most w. within_kept most c.args.self.now c.walk.new.self c.args.pool.now c.walk.new.pool c.walk.ensures.rest c.walk.ensures.path w

pub returns-in-Ring-clause-line : goal.returns-in-Ring-clause-line
returns-in-Ring-clause-line g c = λ x made name seen s. may_tell_as (ap (queue_turn x made name seen false) c.in-Ring.is) (c.make_ring.ensures.line x made seen.acts c.args.pool.now s)

pub returns-in-Ring-clause-rest : goal.returns-in-Ring-clause-rest
returns-in-Ring-clause-rest g c = others_rest (c.make_ring.ensures.rest c.args.pool.now c.requires.held)

pub returns-in-Ring-clause-within : goal.returns-in-Ring-clause-within
returns-in-Ring-clause-within g c = λ most w. within_driver most c.args.self.now c.make_ring.new.self c.args.pool.now c.args.pool.now (c.make_ring.ensures.rest c.args.pool.now c.requires.held) w

pub returns-in-Unring-clause-line : goal.returns-in-Unring-clause-line
returns-in-Unring-clause-line g c = λ x made name seen s. may_tell_as (ap (queue_turn x made name seen false) c.in-Unring.is) (tells_ok (c.on_ring.ensures.line x made seen.acts s))

pub returns-in-Unring-clause-rest : goal.returns-in-Unring-clause-rest
returns-in-Unring-clause-rest g c = others_rest c.on_ring.ensures.rest

pub returns-in-Unring-clause-within : goal.returns-in-Unring-clause-within
returns-in-Unring-clause-within g c = λ most w. within_driver most c.args.self.now c.on_ring.new.self c.args.pool.now c.on_ring.new.pool c.on_ring.ensures.rest w

pub returns-in-Add-clause-line : goal.returns-in-Add-clause-line
returns-in-Add-clause-line g c = λ x made name seen s.
    may_tell_as (ap (queue_turn x made name seen false) c.in-Add.is ∙ ap (λ parts. needs_bus seen.acts (add_turn made seen.acts c.in-Add.queue parts)) (sym c.as_slice.ensures))
    (c.add.ensures.line x made seen.acts s)

pub returns-in-Add-clause-rest : goal.returns-in-Add-clause-rest
returns-in-Add-clause-rest g c = others_rest c.add.ensures.rest

pub returns-in-Add-clause-within : goal.returns-in-Add-clause-within
returns-in-Add-clause-within g c = λ most w. within_driver most c.args.self.now c.add.new.self c.args.pool.now c.add.new.pool c.add.ensures.rest w

pub returns-in-Publish-clause-line : goal.returns-in-Publish-clause-line
returns-in-Publish-clause-line g c = λ x made name seen s. may_tell_as (ap (queue_turn x made name seen false) c.in-Publish.is) (tells_ok (c.on_ring-in-Publish.ensures.line x made seen.acts s))

pub returns-in-Publish-clause-rest : goal.returns-in-Publish-clause-rest
returns-in-Publish-clause-rest g c = others_rest c.on_ring-in-Publish.ensures.rest

pub returns-in-Publish-clause-within : goal.returns-in-Publish-clause-within
returns-in-Publish-clause-within g c = λ most w. within_driver most c.args.self.now c.on_ring-in-Publish.new.self c.args.pool.now c.on_ring-in-Publish.new.pool c.on_ring-in-Publish.ensures.rest w

pub returns-in-Submit-clause-line : goal.returns-in-Submit-clause-line
returns-in-Submit-clause-line g c = λ x made name seen s. may_tell_as (ap (queue_turn x made name seen false) c.in-Submit.is) (c.submit.ensures.line x made seen.acts s)

pub returns-in-Submit-clause-rest : goal.returns-in-Submit-clause-rest
returns-in-Submit-clause-rest g c = others_rest c.submit.ensures.rest

pub returns-in-Submit-clause-within : goal.returns-in-Submit-clause-within
returns-in-Submit-clause-within g c = λ most w. within_driver most c.args.self.now c.submit.new.self c.args.pool.now c.submit.new.pool c.submit.ensures.rest w

pub returns-in-Poll-clause-line : goal.returns-in-Poll-clause-line
returns-in-Poll-clause-line g c = λ x made name seen s. may_tell_as (ap (queue_turn x made name seen false) c.in-Poll.is) (tells_ok (c.on_ring-in-Poll.ensures.line x made seen.acts s))

pub returns-in-Poll-clause-rest : goal.returns-in-Poll-clause-rest
returns-in-Poll-clause-rest g c = others_rest c.on_ring-in-Poll.ensures.rest

pub returns-in-Poll-clause-within : goal.returns-in-Poll-clause-within
returns-in-Poll-clause-within g c = λ most w. within_driver most c.args.self.now c.on_ring-in-Poll.new.self c.args.pool.now c.on_ring-in-Poll.new.pool c.on_ring-in-Poll.ensures.rest w

pub returns-in-Fetch-clause-line : goal.returns-in-Fetch-clause-line
returns-in-Fetch-clause-line g c = λ x made name seen s. may_tell_as (ap (queue_turn x made name seen false) c.in-Fetch.is) (c.on_daemon.ensures.line x made seen.acts s)

pub returns-in-Fetch-clause-rest : goal.returns-in-Fetch-clause-rest
returns-in-Fetch-clause-rest g c = record { kept = c.on_daemon.ensures.rest.kept; page = c.on_daemon.ensures.rest.page }

pub returns-in-Fetch-clause-within : goal.returns-in-Fetch-clause-within
returns-in-Fetch-clause-within g c = λ most w. within_kept most c.args.self.now c.on_daemon.new.self c.args.pool.now c.on_daemon.new.pool c.on_daemon.ensures.rest c.on_daemon.ensures.path w

pub returns-in-Finish-clause-line : goal.returns-in-Finish-clause-line
returns-in-Finish-clause-line g c = λ x made name seen s. may_tell_as (ap (queue_turn x made name seen false) c.in-Finish.is) (c.on_daemon-in-Finish.ensures.line x made seen.acts s)

pub returns-in-Finish-clause-rest : goal.returns-in-Finish-clause-rest
returns-in-Finish-clause-rest g c = record { kept = c.on_daemon-in-Finish.ensures.rest.kept; page = c.on_daemon-in-Finish.ensures.rest.page }

pub returns-in-Finish-clause-within : goal.returns-in-Finish-clause-within
returns-in-Finish-clause-within g c = λ most w. within_kept most c.args.self.now c.on_daemon-in-Finish.new.self c.args.pool.now c.on_daemon-in-Finish.new.pool c.on_daemon-in-Finish.ensures.rest c.on_daemon-in-Finish.ensures.path w
