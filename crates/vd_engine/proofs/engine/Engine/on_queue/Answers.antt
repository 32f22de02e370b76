use Rattle.std.proofs.Common.{true≢false, subst, sym, refl, ap, ◌≡◌, ◌+◌, ◌≤◌, ◌∙◌, List, Some, false}
use Rattle.std.specs.Prelude.{find, IfOk}
use Rattle.std.specs.Option.{option_map, option_map_or}
use Rattle.std.specs.List.{slice_get}
use Rattle.std.proofs.lemmas.Option.{slice_get_read}
use Rattle.vd_num.specs.declared.errno.Errno.TheVariants.{Nodev}
use Rattle.vd_model.specs.declared.answer.Answer.TheVariants.{Err}
use Rattle.vd_model.specs.Turn.{refusal_turn}
use Rattle.vd_model.specs.ControlTurns.{Outcome}
use Rattle.vd_model.specs.Setting.{Setting}
use Rattle.vd_model.specs.Deeds.{Deed, device_view, acts_of_device, made_with}
use Rattle.vd_model.specs.History.{queue_turn}
use Rattle.vd_daemon_lines.specs.Disk.{stored_over}
use Rattle.vd_instance.specs.Flushes.{is_flush}
use Rattle.vd_instance.specs.Image.{IsWindow, window_or_none}
use Rattle.vd_engine.specs.Image.{IsImage, HoldsOwn}
use Rattle.vd_engine.specs.Machine.{FirstIs, NoneIs, StandsAt}
use Rattle.vd_engine.specs.Windows.{has_window, given_window}
use Rattle.vd_engine.proofs.Sectors.{window_inside, drive_inside}
use Rattle.vd_engine.proofs.Deeds.{found_stands}
use Rattle.vd_engine.proofs.Images.{window_seen, image_served}
use Rattle.vd_engine.proofs.Engines.{serves_quiet, no_device}
use Rattle.vd_engine.proofs.Flushing.{refused_flush, counts_as}
use Rattle.vd_engine.proofs.Outcomes.{queue_done, queue_more}
use Rattle.vd_engine.proofs.engine.Engine.on_queue.Goals as goal

pub returns-in-None-clause-line : goal.returns-in-None-clause-line
returns-in-None-clause-line g c = serves_quiet c.args.self.now (Err Nodev) (λ x done s.
    no_device x done _ s c.args.name.now (subst (λ l. NoneIs c.args.name.now l) c.deref.ensures.value c.in-None.ensures) (λ made. queue_turn x made c.args.name.now (device_view x c.args.name.now done) false c.args.step.now))
    c.refused.ensures

pub queue_step-requires-clause-window : goal.queue_step-requires-clause-window
queue_step-requires-clause-window g c =
    let r = c.requires.reached in
    let drive = c.drive_of-window.ensures ∙ ap (λ l. window_or_none (option_map given_window (find (has_window c.args.name.now) l))) c.deref-in-Some.ensures.value in
    subst (λ n. c.drive_of-window.result.first + c.drive_of-window.result.count ≤ n) (sym c.requires.disk)
    (drive_inside r.done c.args.self.now.sectors c.args.self.now.windows.items r.stands.windows c.args.name.now c.drive_of-window.result drive)

pub returns-in-Some-clause-line : goal.returns-in-Some-clause-line
returns-in-Some-clause-line g c =
    let first : FirstIs c.args.name.now c.args.self.now.devices.items c.in-Some.place = subst (λ l. FirstIs c.args.name.now l c.in-Some.place) c.deref.ensures.value c.in-Some.ensures in
    let there : slice_get c.args.self.now.devices.items c.in-Some.place ≡ Some c.index_mut-named.result.now = slice_get_read _ _ c.in-Some.place _ refl first.within c.index_mut-named.ensures.value in
    let drive = c.drive_of-window.ensures ∙ ap (λ l. window_or_none (option_map given_window (find (has_window c.args.name.now) l))) c.deref-in-Some.ensures.value in
    let seen_by : (x : Setting) (done : List Deed) → StandsAt x done c.args.self.now.asked c.args.self.now → HoldsOwn x done → IsImage x done (g.I.Image.size c.args.disk.now) (g.I.Image.content c.args.disk.now)
    → IsWindow (g.I.Image.content c.args.disk.now) c.drive_of-window.result (device_view x c.args.name.now done) =
    λ x done s own image.
    window_seen x c.args.name.now done _ _ image own c.drive_of-window.result (drive ∙ ap window_or_none (s.windows.window c.args.name.now))
    (λ w e. subst (λ n. w.first + w.count ≤ n) (sym c.requires.disk) (window_inside done c.args.self.now.sectors c.args.self.now.windows.items s.windows c.args.name.now w e)) in
    record {
      line = λ x done s image.
          let view = device_view x c.args.name.now done in
          let that = found_stands x done _ _ s.devices c.args.name.now c.in-Some.place _ first there in
          queue_done x done c.args.self.now _ s c.args.name.now c.in-Some.place _ _ first there refl refl refl refl refl refl c.queue_step.ensures.rest c.queue_step.ensures.named _
          (λ made failed. queue_turn x made c.args.name.now view failed c.args.step.now) c.queue_step.result c.queue_step.ensures.within
          (λ made stands. c.queue_step.ensures.line x made c.args.name.now view stands
          (λ e. (that.named, seen_by x done s (image e).0 (image e).1)));
      image = λ x done s own image.
          let view = device_view x c.args.name.now done in
          let that = found_stands x done _ _ s.devices c.args.name.now c.in-Some.place _ first there in
          let is = drive ∙ ap window_or_none (s.windows.window c.args.name.now) in
          image_served x c.args.name.now done _ _ image view (λ failed. queue_turn x that.made c.args.name.now view failed c.args.step.now) c.args.step.now _ c.queue_step.result
          (λ failed. ap (λ o. option_map_or (λ made. queue_turn x made c.args.name.now view failed c.args.step.now) o (refusal_turn Nodev)) that.with_that)
          (λ e. subst (λ w. IfOk c.queue_step.result (λ failed. g.I.Image.content c.queue_step.new.disk ≡ option_map (stored_over w (queue_turn x that.made c.args.name.now view failed c.args.step.now).acts) (g.I.Image.content c.args.disk.now))) is
          (c.queue_step.ensures.content x that.made c.args.name.now view e that.stands that.named (seen_by x done s own image)))
          (λ e. ap g.I.Image.content (c.queue_step.ensures.only_execute e).0);
      more = λ x done s. queue_more x done c.args.self.now _ s c.args.name.now c.in-Some.place _ _ first there refl refl refl refl refl refl c.queue_step.ensures.rest c.queue_step.ensures.named c.queue_step.result c.queue_step.ensures.within
          (λ made stands. c.queue_step.ensures.more x made (acts_of_device c.args.name.now done) stands);
      asked = refl;
    }

pub returns-in-None-clause-flushed : goal.returns-in-None-clause-flushed
returns-in-None-clause-flushed g c = λ x done s own image e.
    absurd (true≢false (sym e ∙ ap (λ (o : Outcome). is_flush x (acts_of_device c.args.name.now done) c.args.step.now o.answer)
    (no_device x done _ s c.args.name.now (subst (λ l. NoneIs c.args.name.now l) c.deref.ensures.value c.in-None.ensures) (λ made. queue_turn x made c.args.name.now (device_view x c.args.name.now done) false c.args.step.now))
    ∙ refused_flush x (acts_of_device c.args.name.now done) c.args.step.now Nodev))

pub returns-in-Some-clause-flushed : goal.returns-in-Some-clause-flushed
returns-in-Some-clause-flushed g c = λ x done s own image.
    let first : FirstIs c.args.name.now c.args.self.now.devices.items c.in-Some.place = subst (λ l. FirstIs c.args.name.now l c.in-Some.place) c.deref.ensures.value c.in-Some.ensures in
    let there : slice_get c.args.self.now.devices.items c.in-Some.place ≡ Some c.index_mut-named.result.now = slice_get_read _ _ c.in-Some.place _ refl first.within c.index_mut-named.ensures.value in
    let drive = c.drive_of-window.ensures ∙ ap (λ l. window_or_none (option_map given_window (find (has_window c.args.name.now) l))) c.deref-in-Some.ensures.value in
    let seen : IsWindow (g.I.Image.content c.args.disk.now) c.drive_of-window.result (device_view x c.args.name.now done) =
    window_seen x c.args.name.now done _ _ image own c.drive_of-window.result (drive ∙ ap window_or_none (s.windows.window c.args.name.now))
    (λ w e. subst (λ n. w.first + w.count ≤ n) (sym c.requires.disk) (window_inside done c.args.self.now.sectors c.args.self.now.windows.items s.windows c.args.name.now w e)) in
    let view = device_view x c.args.name.now done in
    let that = found_stands x done _ _ s.devices c.args.name.now c.in-Some.place _ first there in
    counts_as c.queue_step.result (λ failed. is_flush x (acts_of_device c.args.name.now done) c.args.step.now (queue_turn x that.made c.args.name.now view failed c.args.step.now).answer)
    (λ failed. is_flush x (acts_of_device c.args.name.now done) c.args.step.now (option_map_or (λ made. queue_turn x made c.args.name.now view failed c.args.step.now) (made_with c.args.name.now done) (refusal_turn Nodev)).answer)
    (g.I.Image.flushes c.args.disk.now) (g.I.Image.flushes c.queue_step.new.disk)
    (λ failed. ap (λ o. is_flush x (acts_of_device c.args.name.now done) c.args.step.now (option_map_or (λ made. queue_turn x made c.args.name.now view failed c.args.step.now) o (refusal_turn Nodev)).answer) that.with_that)
    (c.queue_step.ensures.flushed x that.made c.args.name.now view that.stands that.named seen)
