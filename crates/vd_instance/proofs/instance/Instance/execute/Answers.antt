use Rattle.std.proofs.Common.{◌&&◌, true≢false, [], refl, ap, sym, subst, ◌∙◌, ◌≡◌, true, false}
use Rattle.std.proofs.lemmas.List.{get_or_read}
use Rattle.std.specs.Option.{option_map}
use Rattle.vd_model.specs.Acts.{state_acts}
use Rattle.vd_model.specs.BusTurns.{shape_of}
use Rattle.vd_model.specs.DaemonTurns.{execute_turn}
use Rattle.vd_model.specs.History.{disk_of}
use Rattle.vd_model.specs.Turn.{Turn}
use Rattle.vd_model.specs.Acts.{Act}
use Rattle.vd_daemon_lines.specs.Disk.{stored_over}
use Rattle.vd_answers.proofs.Telling.{tells_as}
use Rattle.vd_device.proofs.Turns.{session_open}
use Rattle.vd_instance.specs.declared.daemons.HeldDaemon.{HeldDaemon}
use Rattle.vd_instance.proofs.Executing.{execute_only, execution_tells, goes_for_more, disk_is, window_told, missing_execute}
use Rattle.vd_instance.specs.Flushes.{holds_flush, is_fine}
use Rattle.vd_instance.proofs.Flushing.{flush_told, never_both}
use Rattle.vd_instance.proofs.Served.{is_served, is_known, is_unknown, held_there, named_still, renewed, renewed_name}
use Rattle.vd_instance.proofs.instance.Instance.execute.Goals as goal

pub returns-in-Some-clause-line : goal.returns-in-Some-clause-line
returns-in-Some-clause-line g c = λ x made name seen m s named window.
    let less = is_served c.args.self.now c.args.queue (c.in-Some.ensures.variant.0 refl) in
    let there = is_known s c.args.queue (c.in-Some.ensures.variant.0 refl) in
    let counted = c.ends-ends.ensures x made seen.acts m s there in
    let at = get_or_read c.args.self.now.daemons.items c.args.queue c.in-Some.kept.now less c.in-Some.ensures.value c.in-Some.kept.now in
    let stands = renewed (held_there s c.args.queue c.in-Some.kept.now less at) counted c.renew.ensures in
    let disk = disk_is made name seen (g.I.Image.content c.args.disk.now) c.args.window c.offered.result c.renew.new.self.daemon.name window
    (c.offered.ensures (shape_of made) (state_acts seen.acts) s.device.path.state) (renewed_name name c.args.self.now.daemons.items c.args.queue c.in-Some.kept.now c.ends-ends.result less at c.renew.ensures named) in
    tells_as (session_open seen.acts (execute_turn x made (disk_of made name seen) c.execute.result seen.acts c.args.queue) (sym s.device.path.opened ∙ c.if-not-self.false))
    (execution_tells c.args.queue c.execute.new.daemon c.renew.new.self.ends _ less refl refl refl (ap (λ (d : HeldDaemon). d.ends) c.renew.ensures ∙ counted) s (window_told window)
    (execute_only c.args.queue x made (disk_of made name seen) c.execute.result seen.acts)
    (c.execute.ensures.line x made seen.acts c.args.queue (disk_of made name seen) stands (c.served_queue-known.ensures x made seen.acts m s) disk))

pub returns-in-Some-clause-content : goal.returns-in-Some-clause-content
returns-in-Some-clause-content g c = λ x made name seen m s named window.
    let less = is_served c.args.self.now c.args.queue (c.in-Some.ensures.variant.0 refl) in
    let there = is_known s c.args.queue (c.in-Some.ensures.variant.0 refl) in
    let counted = c.ends-ends.ensures x made seen.acts m s there in
    let at = get_or_read c.args.self.now.daemons.items c.args.queue c.in-Some.kept.now less c.in-Some.ensures.value c.in-Some.kept.now in
    let stands = renewed (held_there s c.args.queue c.in-Some.kept.now less at) counted c.renew.ensures in
    let disk = disk_is made name seen (g.I.Image.content c.args.disk.now) c.args.window c.offered.result c.renew.new.self.daemon.name window
    (c.offered.ensures (shape_of made) (state_acts seen.acts) s.device.path.state) (renewed_name name c.args.self.now.daemons.items c.args.queue c.in-Some.kept.now c.ends-ends.result less at c.renew.ensures named) in
    let line = c.execute.ensures.line x made seen.acts c.args.queue (disk_of made name seen) stands (c.served_queue-known.ensures x made seen.acts m s) disk in
    subst (λ (t : Turn Act). g.I.Image.content c.execute.new.disk ≡ option_map (stored_over c.args.window t.acts) (g.I.Image.content c.args.disk.now))
    (sym (session_open seen.acts (execute_turn x made (disk_of made name seen) c.execute.result seen.acts c.args.queue) (sym s.device.path.opened ∙ c.if-not-self.false)))
    line.stands.content

pub returns-in-Some-clause-more : goal.returns-in-Some-clause-more
returns-in-Some-clause-more g c = λ x made acts m s.
    let less = is_served c.args.self.now c.args.queue (c.in-Some.ensures.variant.0 refl) in
    let there = is_known s c.args.queue (c.in-Some.ensures.variant.0 refl) in
    let counted = c.ends-ends.ensures x made acts m s there in
    let at = get_or_read c.args.self.now.daemons.items c.args.queue c.in-Some.kept.now less c.in-Some.ensures.value c.in-Some.kept.now in
    let stands = renewed (held_there s c.args.queue c.in-Some.kept.now less at) counted c.renew.ensures in
    goes_for_more c.args.queue c.execute.new.daemon c.renew.new.self.ends _ less refl refl refl (ap (λ (d : HeldDaemon). d.ends) c.renew.ensures ∙ counted) s (c.execute.ensures.goes_on x acts c.args.queue stands)

pub returns-in-Some-clause-named : goal.returns-in-Some-clause-named
returns-in-Some-clause-named g c = λ name all.
    let less = is_served c.args.self.now c.args.queue (c.in-Some.ensures.variant.0 refl) in
    let at = get_or_read c.args.self.now.daemons.items c.args.queue c.in-Some.kept.now less c.in-Some.ensures.value c.in-Some.kept.now in
    named_still name c.args.self.now.daemons.items c.args.queue (record { daemon = c.execute.new.daemon; ends = c.renew.new.self.ends })
    (c.execute.ensures.name ∙ renewed_name name c.args.self.now.daemons.items c.args.queue c.in-Some.kept.now c.ends-ends.result less at c.renew.ensures all) all

pub returns-in-None-clause-line : goal.returns-in-None-clause-line
returns-in-None-clause-line g c = λ x made name seen m s named window.
    tells_as (session_open seen.acts (execute_turn x made (disk_of made name seen) false seen.acts c.args.queue) (sym s.device.path.opened ∙ c.if-not-self.false)
    ∙ missing_execute x made (disk_of made name seen) false seen.acts c.args.queue (is_unknown s c.args.queue c.in-None.ensures.variant.1))
    (record { says = c.refused-in-None.ensures; stands = s })

pub returns-in-Some-clause-flushed : goal.returns-in-Some-clause-flushed
returns-in-Some-clause-flushed g c = λ x made name seen m s named window e.
    let less = is_served c.args.self.now c.args.queue (c.in-Some.ensures.variant.0 refl) in
    let there = is_known s c.args.queue (c.in-Some.ensures.variant.0 refl) in
    let counted = c.ends-ends.ensures x made seen.acts m s there in
    let at = get_or_read c.args.self.now.daemons.items c.args.queue c.in-Some.kept.now less c.in-Some.ensures.value c.in-Some.kept.now in
    let stands = renewed (held_there s c.args.queue c.in-Some.kept.now less at) counted c.renew.ensures in
    let disk = disk_is made name seen (g.I.Image.content c.args.disk.now) c.args.window c.offered.result c.renew.new.self.daemon.name window
    (c.offered.ensures (shape_of made) (state_acts seen.acts) s.device.path.state) (renewed_name name c.args.self.now.daemons.items c.args.queue c.in-Some.kept.now c.ends-ends.result less at c.renew.ensures named) in
    let line = c.execute.ensures.line x made seen.acts c.args.queue (disk_of made name seen) stands (c.served_queue-known.ensures x made seen.acts m s) disk in
    let opened = session_open seen.acts (execute_turn x made (disk_of made name seen) c.execute.result seen.acts c.args.queue) (sym s.device.path.opened ∙ c.if-not-self.false) in
    let flush = flush_told x seen.acts c.args.queue made (disk_of made name seen) c.execute.result c.renew.new.self.daemon c.execute.new.daemon stands (line.stands.daemon (window_told window))
    (sym (ap (λ (t : Turn Act). holds_flush x seen.acts c.args.queue && is_fine t.answer) opened) ∙ e) in
    c.execute.ensures.flushed flush.request flush.end flush.before flush.after flush.kind flush.fine

pub returns-in-None-clause-flushed : goal.returns-in-None-clause-flushed
returns-in-None-clause-flushed g c = λ x made name seen m s named window e.
    let turn = session_open seen.acts (execute_turn x made (disk_of made name seen) false seen.acts c.args.queue) (sym s.device.path.opened ∙ c.if-not-self.false)
    ∙ missing_execute x made (disk_of made name seen) false seen.acts c.args.queue (is_unknown s c.args.queue c.in-None.ensures.variant.1) in
    absurd (true≢false (sym e ∙ ap (λ (t : Turn Act). holds_flush x seen.acts c.args.queue && is_fine t.answer) turn ∙ never_both (holds_flush x seen.acts c.args.queue)))
