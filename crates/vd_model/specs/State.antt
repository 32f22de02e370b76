-- The status, features, queues, kicks and interrupts of one device, told from the acts on them, the newest
-- first.
use Rattle.std.specs.Prelude.{ℕ, zero, suc, ◌+◌, ◌%◌, ◌^◌, List, [], ◌∷◌, Bool, true, false, ◌==◌, nat_lt, nat_le, ◌&&◌, ◌||◌, not, if◌then◌else◌, Option, Some, None, bit_and}
use Rattle.std.specs.Int.{is_power_of_two}
use Rattle.vd_model.specs.declared.queue.QueueInfo.{QueueInfo}
use Rattle.vd_model.specs.declared.step.QueueOrConfig.{QueueOrConfig}
use Rattle.vd_model.specs.declared.step.QueueOrConfig.TheVariants.{Config, Queue}

-- an act on the state; the first number is the queue
pub data StateAct : Type 0 where
  -- the largest size that the device takes
  Max_set : ℕ → ℕ → StateAct
  Status_set : ℕ → StateAct
  Features_set : ℕ → StateAct
  Num_set : ℕ → ℕ → StateAct
  Addr_set : ℕ → ℕ → ℕ → ℕ → StateAct
  Ready_set : ℕ → Bool → StateAct
  Avail_set : ℕ → ℕ → StateAct
  -- a kick file was set, or removed
  Kick_file_set : ℕ → Bool → StateAct
  -- the driver kicked the queue
  Kicked : ℕ → StateAct
  -- the count of the kick file was read
  Kicks_taken : ℕ → StateAct
  -- an interrupt's callback was set, or removed
  Callback_set : QueueOrConfig → Bool → StateAct
  Injected : QueueOrConfig → StateAct
  -- the count of interrupts was read
  Interrupts_taken : QueueOrConfig → StateAct
  -- a reset
  Cleared : StateAct

-- what a creation fixes: the number of queues, and the features that the device offers
pub record DeviceShape : Type 0 where
  pub queues : ℕ
  pub offered : ℕ

-- there is a queue of this index
abbrev pub is_queue : DeviceShape → ℕ → Bool
is_queue made q = nat_lt q made.queues

-- ---- status and features

-- the status that was set last, 0 at first and after a reset
abbrev pub device_status : List StateAct → ℕ
device_status [] = 0
device_status (Status_set value ∷ acts) = value
device_status (Cleared ∷ acts) = 0
device_status (_ ∷ acts) = device_status acts

-- the status says that the driver is ready to drive the device
abbrev pub is_driver_ok : List StateAct → Bool
is_driver_ok acts = not (bit_and (device_status acts) 4 == 0)

-- the features that the driver accepted last, none at first and after a reset
abbrev pub features_of : List StateAct → ℕ
features_of [] = 0
features_of (Features_set value ∷ acts) = value
features_of (Cleared ∷ acts) = 0
features_of (_ ∷ acts) = features_of acts

-- the driver may accept these features: each is offered, and the one of the I/O address space, bit 33, is there
abbrev pub may_accept : DeviceShape → ℕ → Bool
may_accept made value = (bit_and value made.offered == value) && not (bit_and value (2 ^ 33) == 0)

-- ---- queues

-- the largest size that the daemon set up, 0 before; a reset keeps it
abbrev pub max_of : List StateAct → ℕ → ℕ
max_of [] q = 0
max_of (Max_set k max ∷ acts) q = if k == q then max else max_of acts q
max_of (_ ∷ acts) q = max_of acts q

-- the size that the driver chose
abbrev pub num_of : List StateAct → ℕ → ℕ
num_of [] q = 0
num_of (Num_set k num ∷ acts) q = if k == q then num else num_of acts q
num_of (Cleared ∷ acts) q = 0
num_of (_ ∷ acts) q = num_of acts q

-- the driver may choose this size of a queue with this largest one: a power of two up to 32,768
abbrev pub may_have : ℕ → ℕ → Bool
may_have max num = nat_le num 32768 && nat_le num max && is_power_of_two num

-- the addresses of a queue's three parts
pub record Addresses : Type 0 where
  pub desc : ℕ
  pub driver : ℕ
  pub device : ℕ

abbrev pub addresses_of : List StateAct → ℕ → Addresses
addresses_of [] q = record { desc = 0; driver = 0; device = 0 }
addresses_of (Addr_set k desc driver device ∷ acts) q =
    if k == q then record { desc = desc; driver = driver; device = device } else addresses_of acts q
addresses_of (Cleared ∷ acts) q = record { desc = 0; driver = 0; device = 0 }
addresses_of (_ ∷ acts) q = addresses_of acts q

-- the addresses have the alignments of the standard's section on split virtqueues
abbrev pub are_aligned : ℕ → ℕ → ℕ → Bool
are_aligned desc driver device = (desc % 16 == 0) && (driver % 2 == 0) && (device % 4 == 0)

-- the available index that the queue begins at
abbrev pub avail_of : List StateAct → ℕ → ℕ
avail_of [] q = 0
avail_of (Avail_set k avail ∷ acts) q = if k == q then avail else avail_of acts q
avail_of (Cleared ∷ acts) q = 0
avail_of (_ ∷ acts) q = avail_of acts q

-- the queue is ready
abbrev pub is_ready : List StateAct → ℕ → Bool
is_ready [] q = false
is_ready (Ready_set k ready ∷ acts) q = if k == q then ready else is_ready acts q
is_ready (Cleared ∷ acts) q = false
is_ready (_ ∷ acts) q = is_ready acts q

-- all that a question for the queue tells
abbrev pub queue_info : List StateAct → ℕ → QueueInfo
queue_info acts q = record {
  max = max_of acts q;
  num = num_of acts q;
  desc = (addresses_of acts q).desc;
  driver = (addresses_of acts q).driver;
  device = (addresses_of acts q).device;
  avail = avail_of acts q;
  ready = is_ready acts q;
}

-- ---- kicks

-- the queue has a kick file: the last of its settings and resets set one
abbrev pub has_kick_file : List StateAct → ℕ → Bool
has_kick_file [] q = false
has_kick_file (Kick_file_set k on ∷ acts) q = if k == q then on else has_kick_file acts q
has_kick_file (Cleared ∷ acts) q = false
has_kick_file (_ ∷ acts) q = has_kick_file acts q

-- a kick is remembered: the ready queue had no kick file then, and got none since while it was ready
abbrev pub is_remembered : List StateAct → ℕ → Bool
is_remembered [] q = false
is_remembered (Kicked k ∷ acts) q = ((k == q) && is_ready acts q && not (has_kick_file acts q)) || is_remembered acts q
is_remembered (Kick_file_set k on ∷ acts) q = not ((k == q) && on && is_ready acts q) && is_remembered acts q
is_remembered (Cleared ∷ acts) q = false
is_remembered (_ ∷ acts) q = is_remembered acts q

-- the count of the kick file: the kicks of the ready queue since the file was set or its kicks were taken, and
-- one more where the file of the ready queue met a remembered kick
abbrev pub kicks_of : List StateAct → ℕ → ℕ
kicks_of [] q = 0
kicks_of (Kicked k ∷ acts) q = if (k == q) && is_ready acts q then kicks_of acts q + 1 else kicks_of acts q
kicks_of (Kick_file_set k true ∷ acts) q =
    if k == q then (if is_ready acts q && is_remembered acts q then 1 else 0) else kicks_of acts q
kicks_of (Kicks_taken k ∷ acts) q = if k == q then 0 else kicks_of acts q
kicks_of (Cleared ∷ acts) q = 0
kicks_of (_ ∷ acts) q = kicks_of acts q

-- what a question for the kicks tells: the file's count, if there is a file
abbrev pub kick_file_of : List StateAct → ℕ → Option ℕ
kick_file_of acts q = if has_kick_file acts q then Some (kicks_of acts q) else None

-- ---- interrupts

-- both are the config space, or both the same queue
abbrev pub is_same : QueueOrConfig → QueueOrConfig → Bool
is_same Config Config = true
is_same (Queue k) (Queue q) = k == q
is_same _ _ = false

-- the interrupt has a callback
abbrev pub has_callback : List StateAct → QueueOrConfig → Bool
has_callback [] on = false
has_callback (Callback_set k set ∷ acts) on = if is_same k on then set else has_callback acts on
has_callback (Cleared ∷ acts) on = false
has_callback (_ ∷ acts) on = has_callback acts on

-- an interrupt counts where its callback is set, and that of a queue where the queue is ready too
abbrev pub counts : List StateAct → QueueOrConfig → Bool
counts acts Config = has_callback acts Config
counts acts (Queue q) = has_callback acts (Queue q) && is_ready acts q

-- how many interrupts counted since the callback was set or removed, or they were taken
abbrev pub interrupts_of : List StateAct → QueueOrConfig → ℕ
interrupts_of [] on = 0
interrupts_of (Injected k ∷ acts) on = if is_same k on && counts acts on then interrupts_of acts on + 1 else interrupts_of acts on
interrupts_of (Callback_set k set ∷ acts) on = if is_same k on then 0 else interrupts_of acts on
interrupts_of (Interrupts_taken k ∷ acts) on = if is_same k on then 0 else interrupts_of acts on
interrupts_of (Cleared ∷ acts) on = 0
interrupts_of (_ ∷ acts) on = interrupts_of acts on

-- there is such a queue, or it is the config space
abbrev pub is_queue_or_config : DeviceShape → QueueOrConfig → Bool
is_queue_or_config made Config = true
is_queue_or_config made (Queue q) = is_queue made q

-- ---- setting up

-- each of the first n queues has a largest size
abbrev pub are_set_up : List StateAct → ℕ → Bool
are_set_up acts zero = true
are_set_up acts (suc n) = nat_lt 0 (max_of acts n) && are_set_up acts n
