use Rattle.std.proofs.Common.{subst, sym, ap, ◌∙◌, ◌≡◌, ◌++◌, false}
use Rattle.vd_model.specs.declared.step.Step.{Step}
use Rattle.vd_model.specs.Deeds.{device_view, image_byte, acts_of_device}
use Rattle.vd_model.specs.History.{outcome, device_outcome, device_turn, device_queue_turn}
use Rattle.vd_instance.specs.Flushes.{is_flush}
use Rattle.vd_engine.specs.Flushes.{is_flush_step}
use Rattle.vd_engine.specs.Frugal.{is_execution}
use Rattle.vd_engine.proofs.Flushing.{counts_none, counts_as}
use Rattle.vd_engine.proofs.Images.{control_stores, device_stores}
use Rattle.vd_engine.proofs.Engines.{serves_plain, serves_as}
use Rattle.vd_engine.proofs.engine.Engine.answer.Goals as goal

pub returns-in-Control-clause-line : goal.returns-in-Control-clause-line
returns-in-Control-clause-line g c = serves_plain (λ x done. ap (λ k. outcome x done k false) c.in-Control.is)
    (λ x done i. subst (λ (k : Step). image_byte x ((outcome x done k false).deeds ++ done) i ≡ image_byte x done i) (sym c.in-Control.is) (control_stores x done c.in-Control.step i))
    c.plain.ensures c.control.ensures

pub returns-in-Device-clause-line : goal.returns-in-Device-clause-line
returns-in-Device-clause-line g c = serves_plain
    (λ x done. ap (λ k. outcome x done k false) c.in-Device.is ∙ ap (λ n. device_outcome n (device_turn x (device_view x n done) c.in-Device.step)) (sym c.as_slice.ensures))
    (λ x done i. subst (λ (k : Step). image_byte x ((outcome x done k false).deeds ++ done) i ≡ image_byte x done i) (sym c.in-Device.is)
    (device_stores x c.in-Device.name done (device_view x c.in-Device.name done) c.in-Device.step i))
    c.plain-in-Device.ensures c.on_device.ensures.line

pub returns-in-Queue-clause-line : goal.returns-in-Queue-clause-line
returns-in-Queue-clause-line g c = serves_as
    (λ x done failed. ap (λ k. outcome x done k failed) c.in-Queue.is ∙ ap (λ n. device_outcome n (device_queue_turn x n (device_view x n done) failed c.in-Queue.step)) (sym c.as_slice-in-Queue.ensures)) (ap is_execution c.in-Queue.is) c.on_queue.ensures.line

pub returns-in-Control-clause-flushed : goal.returns-in-Control-clause-flushed
returns-in-Control-clause-flushed g c = λ x done s own image.
    counts_none c.plain.result (λ failed. is_flush_step x done c.args.step.now (outcome x done c.args.step.now failed).answer) (g.I.Image.flushes c.args.disk.now) (g.I.Image.flushes c.args.disk.now)
    (λ failed. ap (λ (k : Step). is_flush_step x done k (outcome x done c.args.step.now failed).answer) c.in-Control.is)

pub returns-in-Device-clause-flushed : goal.returns-in-Device-clause-flushed
returns-in-Device-clause-flushed g c = λ x done s own image.
    counts_none c.plain-in-Device.result (λ failed. is_flush_step x done c.args.step.now (outcome x done c.args.step.now failed).answer) (g.I.Image.flushes c.args.disk.now) (g.I.Image.flushes c.args.disk.now)
    (λ failed. ap (λ (k : Step). is_flush_step x done k (outcome x done c.args.step.now failed).answer) c.in-Device.is)

pub returns-in-Queue-clause-flushed : goal.returns-in-Queue-clause-flushed
returns-in-Queue-clause-flushed g c = λ x done s own image.
    let name = c.as_slice-in-Queue.ensures in
    counts_as c.on_queue.result (λ failed. is_flush x (acts_of_device c.as_slice-in-Queue.result.now done) c.in-Queue.step (device_queue_turn x c.as_slice-in-Queue.result.now (device_view x c.as_slice-in-Queue.result.now done) failed c.in-Queue.step).answer)
    (λ failed. is_flush_step x done c.args.step.now (outcome x done c.args.step.now failed).answer) (g.I.Image.flushes c.args.disk.now) (g.I.Image.flushes c.on_queue.new.disk)
    (λ failed. ap (λ (k : Step). is_flush_step x done k (outcome x done k failed).answer) c.in-Queue.is
    ∙ ap (λ n. is_flush x (acts_of_device n done) c.in-Queue.step (device_queue_turn x n (device_view x n done) failed c.in-Queue.step).answer) (sym name))
    (c.on_queue.ensures.flushed x done s own image)
