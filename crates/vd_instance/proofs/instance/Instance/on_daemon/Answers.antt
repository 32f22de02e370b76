use Rattle.std.proofs.Common.{refl, ap, sym, ◌∙◌, Ok}
use Rattle.std.proofs.lemmas.List.{get_or_read}
use Rattle.vd_model.specs.Acts.{state_acts}
use Rattle.vd_model.specs.State.{queue_info}
use Rattle.vd_model.specs.BusTurns.{is_missing}
use Rattle.vd_answers.proofs.Telling.{may_tell_as, tells_ok}
use Rattle.vd_device.proofs.Turns.{session_open}
use Rattle.vd_instance.specs.declared.daemons.HeldDaemon.{HeldDaemon}
use Rattle.vd_instance.specs.Lines.{daemon_line_turn}
use Rattle.vd_instance.proofs.Served.{is_served, is_known, is_unknown, held_there, named_still, renewed, renewed_name, service_may_tell, missing_service}
use Rattle.vd_instance.proofs.ServiceTurns.{fetch_service, finish_service}
use Rattle.vd_instance.proofs.Walked.{small_by}
use Rattle.vd_instance.proofs.instance.Instance.on_daemon.Goals as goal

pub fetch-requires-clause-small : goal.fetch-requires-clause-small
fetch-requires-clause-small g c =
    let r = c.requires.reached in
    let known = c.served_queue-known.ensures r.setting r.made r.acts c.args.pool.now r.stands in
    small_by (is_missing r.made c.args.queue) (queue_info (state_acts r.acts) c.args.queue) c.served_queue-known.result.info known.info (r.stands.sizes c.args.queue)

pub returns-in-Fetch-clause-line : goal.returns-in-Fetch-clause-line
returns-in-Fetch-clause-line g c = λ x made acts s.
    let less = is_served c.args.self.now c.args.queue (c.in-Some.ensures.variant.0 refl) in
    let there = is_known s c.args.queue (c.in-Some.ensures.variant.0 refl) in
    let counted = c.ends-ends.ensures x made acts c.args.pool.now s there in
    let at = get_or_read c.args.self.now.daemons.items c.args.queue c.in-Some.kept.now less c.in-Some.ensures.value c.in-Some.kept.now in
    let stands = renewed (held_there s c.args.queue c.in-Some.kept.now less at) counted c.renew.ensures in
    let known = c.served_queue-known.ensures x made acts c.args.pool.now s in
    may_tell_as (session_open acts (daemon_line_turn x made acts c.args.queue c.args.line) (sym s.device.path.opened ∙ c.if-not-self.false) ∙ ap (daemon_line_turn x made acts c.args.queue) c.in-Fetch.is)
    (service_may_tell c.args.queue c.fetch.new.domain c.fetch.new.daemon c.renew.new.self.ends _ less refl refl refl (ap (λ (d : HeldDaemon). d.ends) c.renew.ensures ∙ counted) s c.fetch.result (fetch_service c.args.queue x made acts)
    (c.fetch.ensures.line x made acts c.args.queue s.device.memory.domain stands known))

pub returns-in-Finish-clause-line : goal.returns-in-Finish-clause-line
returns-in-Finish-clause-line g c = λ x made acts s.
    let less = is_served c.args.self.now c.args.queue (c.in-Some.ensures.variant.0 refl) in
    let there = is_known s c.args.queue (c.in-Some.ensures.variant.0 refl) in
    let counted = c.ends-ends.ensures x made acts c.args.pool.now s there in
    let at = get_or_read c.args.self.now.daemons.items c.args.queue c.in-Some.kept.now less c.in-Some.ensures.value c.in-Some.kept.now in
    let stands = renewed (held_there s c.args.queue c.in-Some.kept.now less at) counted c.renew.ensures in
    let known = c.served_queue-known.ensures x made acts c.args.pool.now s in
    may_tell_as (session_open acts (daemon_line_turn x made acts c.args.queue c.args.line) (sym s.device.path.opened ∙ c.if-not-self.false) ∙ ap (daemon_line_turn x made acts c.args.queue) c.in-Finish.is)
    (service_may_tell c.args.queue c.finish.new.domain c.finish.new.daemon c.renew.new.self.ends _ less refl refl refl (ap (λ (d : HeldDaemon). d.ends) c.renew.ensures ∙ counted) s (Ok tt) (finish_service c.args.queue x made acts)
    (tells_ok (c.finish.ensures.line x made acts c.args.queue s.device.memory.domain stands known)))

pub returns-in-Fetch-clause-named : goal.returns-in-Fetch-clause-named
returns-in-Fetch-clause-named g c = λ name all.
    let less = is_served c.args.self.now c.args.queue (c.in-Some.ensures.variant.0 refl) in
    let at = get_or_read c.args.self.now.daemons.items c.args.queue c.in-Some.kept.now less c.in-Some.ensures.value c.in-Some.kept.now in
    named_still name c.args.self.now.daemons.items c.args.queue (record { daemon = c.fetch.new.daemon; ends = c.renew.new.self.ends })
    (c.fetch.ensures.name ∙ renewed_name name c.args.self.now.daemons.items c.args.queue c.in-Some.kept.now c.ends-ends.result less at c.renew.ensures all) all

pub returns-in-Finish-clause-named : goal.returns-in-Finish-clause-named
returns-in-Finish-clause-named g c = λ name all.
    let less = is_served c.args.self.now c.args.queue (c.in-Some.ensures.variant.0 refl) in
    let at = get_or_read c.args.self.now.daemons.items c.args.queue c.in-Some.kept.now less c.in-Some.ensures.value c.in-Some.kept.now in
    named_still name c.args.self.now.daemons.items c.args.queue (record { daemon = c.finish.new.daemon; ends = c.renew.new.self.ends })
    (c.finish.ensures.name ∙ renewed_name name c.args.self.now.daemons.items c.args.queue c.in-Some.kept.now c.ends-ends.result less at c.renew.ensures all) all

pub returns-in-None-clause-line : goal.returns-in-None-clause-line
returns-in-None-clause-line g c = λ x made acts s.
    may_tell_as (session_open acts (daemon_line_turn x made acts c.args.queue c.args.line) (sym s.device.path.opened ∙ c.if-not-self.false)
    ∙ missing_service x made acts c.args.queue c.args.line (is_unknown s c.args.queue c.in-None.ensures.variant.1))
    (record { says = c.refused-in-None.ensures; stands = s })
