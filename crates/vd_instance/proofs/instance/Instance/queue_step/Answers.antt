use Rattle.std.proofs.Common.{◌≡◌, ◌+◌, ◌*◌, ◌∙◌, true, false, true≢false, ap, sym, subst, arith, [], Some, None, Ok}
use Rattle.std.specs.Option.{option_map}
use Rattle.std.specs.declared.alloc.AllocError.{AllocError}
use Rattle.vd_bounce.specs.Frames.{Keeps}
use Rattle.vd_bounce.proofs.Kept.{keeps_none}
use Rattle.vd_model.specs.declared.step.QueueStep.{QueueStep}
use Rattle.vd_daemon_lines.specs.Disk.{stored_over}
use Rattle.vd_device.specs.declared.device.Device.{Device}
use Rattle.vd_device.specs.Stands as device
use Rattle.vd_device.proofs.Parts.{within_later}
use Rattle.vd_instance.specs.Image.{Plays, is_execute}
use Rattle.vd_instance.specs.Stands.{After}
use Rattle.vd_model.specs.Deeds.{Seen}
use Rattle.vd_model.specs.History.{queue_turn}
use Rattle.vd_instance.specs.Flushes.{is_flush}
use Rattle.vd_instance.proofs.Executes.{no_execute}
use Rattle.vd_instance.proofs.Flushing.{no_flush}
use Rattle.vd_instance.proofs.instance.Instance.queue_step.Goals as goal

pub returns-in-Err-clause-line : goal.returns-in-Err-clause-line
returns-in-Err-clause-line g c = λ x made name seen s image. (c.in-Err.ensures.line x made name seen s).stands

pub returns-in-Err-clause-more : goal.returns-in-Err-clause-more
returns-in-Err-clause-more g c = λ x made acts s.
    let seen : Seen = record { made = Some made; acts = acts; now = 0; window = None; disk = λ i. 0 } in
    (c.in-Err.ensures.line x made [] seen s).stands

pub returns-in-Ok-clause-line : goal.returns-in-Ok-clause-line
returns-in-Ok-clause-line g c = λ x made name seen s image. let t = c.in-Ok.ensures.line x made name seen s in (t.says, t.stands)

pub returns-in-Ok-clause-content : goal.returns-in-Ok-clause-content
returns-in-Ok-clause-content g c = λ x made name seen e s named window. absurd (true≢false (sym e ∙ no_execute c.args.line.step.now c.in_default.not-Execute))

pub returns-in-Ok-clause-more : goal.returns-in-Ok-clause-more
returns-in-Ok-clause-more g c = λ x made acts s.
    let seen : Seen = record { made = Some made; acts = acts; now = 0; window = None; disk = λ i. 0 } in
    record { more = (queue_turn x made [] seen false c.args.line.step.now).acts; stands = (c.in-Ok.ensures.line x made [] seen s).stands }

pub returns-in-Execute-clause-line : goal.returns-in-Execute-clause-line
returns-in-Execute-clause-line g c = λ x made name seen s image.
    let given = image (ap is_execute c.in-Execute.is) in
    let t = c.execute.ensures.line x made name seen c.args.pool.now s given.0 given.1 in
    subst (λ (step : QueueStep). Plays {E = AllocError} (λ said. g.T.Hears.heard c.args.told.now said c.execute.new.told) (λ failed. queue_turn x made name seen failed step) (After x made seen.acts c.execute.new.self c.args.pool.now) (Ok c.execute.result))
    (sym c.in-Execute.is) (t.says, t.stands)

pub returns-in-Execute-clause-content : goal.returns-in-Execute-clause-content
returns-in-Execute-clause-content g c = λ x made name seen e s named window.
    subst (λ (step : QueueStep). g.I.Image.content c.execute.new.disk ≡ option_map (stored_over c.args.line.window (queue_turn x made name seen c.execute.result step).acts) (g.I.Image.content c.args.disk.now))
    (sym c.in-Execute.is) (c.execute.ensures.content x made name seen c.args.pool.now s named window)

pub returns-in-Execute-clause-more : goal.returns-in-Execute-clause-more
returns-in-Execute-clause-more g c = λ x made acts s. c.execute.ensures.more x made acts c.args.pool.now s

pub returns-in-Execute-clause-only_execute : goal.returns-in-Execute-clause-only_execute
returns-in-Execute-clause-only_execute g c = λ e. absurd (true≢false (sym (ap is_execute c.in-Execute.is) ∙ e))

pub returns-in-Execute-clause-rest : goal.returns-in-Execute-clause-rest
returns-in-Execute-clause-rest g c = record {
  kept = subst (λ (d : Device). Keeps (device.frames c.args.self.now.device) (device.frames d) c.args.pool.now c.args.pool.now) (sym c.execute.ensures.device) (keeps_none c.requires.held.holds);
  page = ap (λ (d : Device). d.memory.domain.bounce.per_page) c.execute.ensures.device;
}

pub returns-in-Execute-clause-within : goal.returns-in-Execute-clause-within
returns-in-Execute-clause-within g c = λ most w. subst (λ (d : Device). device.IsWithin (4 * (most + 1)) d) (sym c.execute.ensures.device) (within_later (4 * most) (4 * (most + 1)) _ (omega arith) w)

pub returns-in-Ok-clause-flushed : goal.returns-in-Ok-clause-flushed
returns-in-Ok-clause-flushed g c = λ x made name seen s named window e.
    absurd (true≢false (sym e ∙ no_flush x seen.acts c.args.line.step.now (queue_turn x made name seen false c.args.line.step.now).answer c.in_default.not-Execute))

pub returns-in-Execute-clause-flushed : goal.returns-in-Execute-clause-flushed
returns-in-Execute-clause-flushed g c = λ x made name seen s named window e.
    c.execute.ensures.flushed x made name seen c.args.pool.now s named window (subst (λ (step : QueueStep). is_flush x seen.acts step (queue_turn x made name seen c.execute.result step).answer ≡ true) c.in-Execute.is e)
