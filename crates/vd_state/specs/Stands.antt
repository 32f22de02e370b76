-- The state stands for the acts that were done.
use Rattle.std.specs.Prelude.{ℕ, ◌+◌, ◌<◌, ◌≡◌, List, [], ◌∷◌, ◌++◌, Bool, true, false, ◌&&◌, not, ◌==◌, if◌then◌else◌, Option, Some, None, Result, Ok, Err, length, slice_get}
use Rattle.vd_num.specs.declared.errno.Errno.{Errno}
use Rattle.vd_num.specs.declared.errno.Errno.TheVariants.{Inval}
use Rattle.vd_model.specs.declared.queue.QueueInfo.{QueueInfo}
use Rattle.vd_model.specs.declared.step.QueueOrConfig.{QueueOrConfig}
use Rattle.vd_model.specs.declared.step.QueueOrConfig.TheVariants as interrupt
use Rattle.vd_model.specs.State.{StateAct, Num_set, Addr_set, Ready_set, Kicks_taken, Interrupts_taken, Cleared, DeviceShape, is_queue, is_queue_or_config, device_status, features_of, max_of, num_of, addresses_of, avail_of, is_ready, queue_info, kick_file_of, is_remembered, has_callback, interrupts_of}
use Rattle.vd_state.specs.declared.queue.Queue.{Queue}
use Rattle.vd_state.specs.Kept.{Kept}

-- how often what the queue describes was set anew, or cleared
abbrev pub generation_of : List StateAct → ℕ → ℕ
generation_of [] q = 0
generation_of (Num_set k num ∷ acts) q = if k == q then generation_of acts q + 1 else generation_of acts q
generation_of (Addr_set k desc driver device ∷ acts) q = if k == q then generation_of acts q + 1 else generation_of acts q
generation_of (Ready_set k ready ∷ acts) q = if (k == q) && not ready then generation_of acts q + 1 else generation_of acts q
generation_of (Cleared ∷ acts) q = generation_of acts q + 1
generation_of (_ ∷ acts) q = generation_of acts q

-- what the acts say of a queue
abbrev pub queue_of : List StateAct → ℕ → Queue
queue_of acts q = record {
  max = max_of acts q;
  num = num_of acts q;
  desc = (addresses_of acts q).desc;
  driver = (addresses_of acts q).driver;
  device = (addresses_of acts q).device;
  avail = avail_of acts q;
  ready = is_ready acts q;
  kicks = kick_file_of acts q;
  remembered = is_remembered acts q;
  callback = has_callback acts (interrupt.Queue q);
  interrupts = interrupts_of acts (interrupt.Queue q);
  generation = generation_of acts q;
}

pub record Stands (made : DeviceShape) (acts : List StateAct) (s : Kept) : Type 0 where
  pub offered : s.offered ≡ made.offered
  pub status : s.status ≡ device_status acts
  pub features : s.features ≡ features_of acts
  pub count : length s.queues ≡ made.queues
  pub queues : (q : ℕ) → q < made.queues → slice_get s.queues q ≡ Some (queue_of acts q)
  pub callback : s.callback ≡ has_callback acts interrupt.Config
  pub interrupts : s.interrupts ≡ interrupts_of acts interrupt.Config

-- what a call with an index is about: a queue, or without one the config space
abbrev pub subject : Option ℕ → QueueOrConfig
subject None = interrupt.Config
subject (Some q) = interrupt.Queue q

-- a refused call answers Inval, exactly where a test doesn't hold, and changes nothing
abbrev pub Refuses : DeviceShape → List StateAct → Bool → Errno → Kept → Type 0
Refuses made acts test errno s = (test ≡ false) × (errno ≡ Inval) × Stands made acts s

-- a call that makes this act where the test holds
abbrev pub Does : DeviceShape → List StateAct → Bool → StateAct → Result (Unit {0}) Errno → Kept → Type 0
Does made acts test act (Ok done) s = (test ≡ true) × Stands made (act ∷ acts) s
Does made acts test act (Err errno) s = Refuses made acts test errno s

-- a question for a queue
abbrev pub Tells : DeviceShape → List StateAct → ℕ → Result QueueInfo Errno → Kept → Type 0
Tells made acts index (Ok info) s = (is_queue made index ≡ true) × (info ≡ queue_info acts index)
Tells made acts index (Err errno) s = Refuses made acts (is_queue made index) errno s

-- a question for a kick file's count takes the kicks, if there is a file
abbrev pub kicks_acts : Option ℕ → ℕ → List StateAct
kicks_acts None index = []
kicks_acts (Some count) index = Kicks_taken index ∷ []

abbrev pub TakesKicks : DeviceShape → List StateAct → ℕ → Result (Option ℕ) Errno → Kept → Type 0
TakesKicks made acts index (Ok kicks) s = (is_queue made index ≡ true) × (kicks ≡ kick_file_of acts index) × Stands made (kicks_acts kicks index ++ acts) s
TakesKicks made acts index (Err errno) s = Refuses made acts (is_queue made index) errno s

-- a question for an interrupt's count takes the interrupts
abbrev pub TakesInterrupts : DeviceShape → List StateAct → QueueOrConfig → Result ℕ Errno → Kept → Type 0
TakesInterrupts made acts on (Ok count) s = (is_queue_or_config made on ≡ true) × (count ≡ interrupts_of acts on) × Stands made (Interrupts_taken on ∷ acts) s
TakesInterrupts made acts on (Err errno) s = Refuses made acts (is_queue_or_config made on) errno s
