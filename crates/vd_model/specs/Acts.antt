-- What is done to one device. A list of acts has the newest first.
use Rattle.std.specs.Prelude.{ℕ, List, [], ◌∷◌, Option}
use Rattle.vd_model.specs.declared.memory.Want.{Want}
use Rattle.vd_model.specs.declared.queue.RingPlace.{RingPlace}
use Rattle.vd_model.specs.Messages.{MessageAct}
use Rattle.vd_model.specs.State.{StateAct}

-- a streaming mapping: its number, its first slot, and what it maps
pub record Streaming : Type 0 where
  pub number : ℕ
  pub slot : ℕ
  pub want : Want

-- a coherent region: its number, its first slot, and how many bytes were asked for
pub record Coherent : Type 0 where
  pub number : ℕ
  pub slot : ℕ
  pub len : ℕ

-- an act of a daemon on the device's memory, or the begin or end of its session
pub data NodeAct : Type 0 where
  Opened : NodeAct
  Closed : NodeAct
  Daemon_put : ℕ → List ℕ → NodeAct
  Area_made : ℕ → NodeAct
  Area_put : ℕ → List ℕ → NodeAct
  -- bytes of the config space, from this one on
  Config_put : ℕ → List ℕ → NodeAct
  -- the bounce memory lies in the area, from this byte of it on, so many bytes
  Registered : ℕ → ℕ → NodeAct
  Deregistered : NodeAct

-- an act of the driver on its buffers, mappings and coherent regions
pub data DriverAct : Type 0 where
  Buffer : List ℕ → DriverAct
  Zeroed : ℕ → DriverAct
  Freed : ℕ → DriverAct
  Poked : ℕ → ℕ → List ℕ → DriverAct
  Mapped : Streaming → DriverAct
  Unmapped : Streaming → DriverAct
  Synced_device : Streaming → DriverAct
  Synced_cpu : Streaming → DriverAct
  Region_made : Coherent → DriverAct
  Region_freed : Coherent → DriverAct
  Driver_put : ℕ → List ℕ → DriverAct

-- an act on the device's place on the bus
pub data BusAct : Type 0 where
  Attached : BusAct
  Detached : BusAct

-- what a block request of the driver has beside its chain: its first buffer and how many it made, its
-- mappings, and how many bytes the device may write
pub record Request : Type 0 where
  pub buffer : ℕ
  pub buffers : ℕ
  pub maps : List ℕ
  pub writable : ℕ

-- a chain that a driver added: its head, its descriptors, and the request that it was made for
pub record AddedChain : Type 0 where
  pub head : ℕ
  pub descriptors : List ℕ
  pub request : Option Request

-- an act on a queue's ring or of the block daemon; the first number is the queue
pub data QueueAct : Type 0 where
  -- the ring and the number of its coherent region
  Ring_made : ℕ → RingPlace → ℕ → QueueAct
  Ring_dropped : ℕ → QueueAct
  Chain_added : ℕ → AddedChain → QueueAct
  Chains_published : ℕ → QueueAct
  Chain_reclaimed : ℕ → ℕ → QueueAct
  Fetched : ℕ → QueueAct
  -- its status, and the bytes that it answers before the status
  Executed : ℕ → ℕ → List ℕ → QueueAct
  Finished : ℕ → QueueAct

-- an act on the device's disk: bytes from this byte of its window on
pub data DiskAct : Type 0 where
  Stored : ℕ → List ℕ → DiskAct

-- an act on one device
pub data Act : Type 0 where
  Node : NodeAct → Act
  Driver : DriverAct → Act
  Bus : BusAct → Act
  Message_act : MessageAct → Act
  State : StateAct → Act
  Queue : QueueAct → Act
  Disk_act : DiskAct → Act

-- of some acts, those on messages
abbrev pub message_acts : List Act → List MessageAct
message_acts [] = []
message_acts (Message_act act ∷ acts) = act ∷ message_acts acts
message_acts (_ ∷ acts) = message_acts acts

-- of some acts, those on the device's state
abbrev pub state_acts : List Act → List StateAct
state_acts [] = []
state_acts (State act ∷ acts) = act ∷ state_acts acts
state_acts (_ ∷ acts) = state_acts acts
