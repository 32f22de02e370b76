-- Which lines on a queue execute a request.
use Rattle.std.proofs.Common.{◌≡◌, ℕ, false, refl}
use Rattle.vd_model.specs.declared.step.QueueStep.{QueueStep}
use Rattle.vd_model.specs.declared.step.QueueStep.TheVariants as queue
use Rattle.vd_instance.specs.Image.{is_execute}

-- what is no execute isn't one
pub no_execute : (step : QueueStep) → ((q : ℕ) → step ≡ queue.Execute q → ⊥) → is_execute step ≡ false
no_execute (queue.Execute q) none = absurd (none q refl)
no_execute (queue.Walk q head) none = refl
no_execute (queue.Fetch q) none = refl
no_execute (queue.Finish q) none = refl
no_execute (queue.Ring q size) none = refl
no_execute (queue.Unring q) none = refl
no_execute (queue.Add q parts) none = refl
no_execute (queue.Publish q) none = refl
no_execute (queue.Submit q asked) none = refl
no_execute (queue.Poll q) none = refl
