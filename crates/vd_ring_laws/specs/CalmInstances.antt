-- A calm history, in which two requests are submitted and one is finished.
use Rattle.std.specs.Prelude.{List, [], ◌∷◌, ◌++◌, true, false, ◌≡◌, Some}
use Rattle.vd_model.specs.declared.step.Step.{Step}
use Rattle.vd_model.specs.declared.step.Step.TheVariants.{Device, Queue}
use Rattle.vd_model.specs.declared.step.DevStep.TheVariants as line
use Rattle.vd_model.specs.declared.step.BusStep.TheVariants as bus
use Rattle.vd_model.specs.declared.step.QueueStep.TheVariants as queue
use Rattle.vd_model.specs.declared.step.SubmitForm.TheVariants.{Flush}
use Rattle.vd_model.specs.declared.parts.Part.{Part}
use Rattle.vd_model.specs.declared.queue.RingPlace.{RingPlace}
use Rattle.vd_model.specs.Memory.{Memory, bytes_from}
use Rattle.vd_model.specs.RingTurns.{descriptor_bytes}
use Rattle.vd_model.specs.Setting.{Setting}
use Rattle.vd_model.specs.History.{History}
use Rattle.vd_laws.specs.Runs.{acts_of}
use Rattle.vd_laws.specs.Small.{v, history_of, dev, open_node, close_node}
use Rattle.vd_ring_laws.specs.Calm.{IsCalm}
use Rattle.vd_ring_laws.specs.TraceLaw.{IsWritten}
use Rattle.vd_ring_laws.specs.Heads.{placed_heads, pushed_heads, head_in_hand}

-- eight slots of bounce memory, and as many of coherent memory
abbrev pub small : Setting
small = record { bounce = 8; iova = 16; per_page = 1; sectors = 16; content = λ i. 0 }

-- a ring of four descriptors, which is described to the device
abbrev pub ring : Step
ring = Queue v (queue.Ring 0 4)

abbrev pub number : Step
number = Device v (line.Bus (bus.VqNum 0 4))

abbrev pub addresses : Step
addresses = Device v (line.Bus (bus.VqAddr 0 0xf000 0xf040 0xf050))

abbrev pub ready : Step
ready = Device v (line.Bus (bus.VqReady 0 true))

-- a request of two descriptors
abbrev pub submit : Step
submit = Queue v (queue.Submit 0 Flush)

abbrev pub fetch : Step
fetch = Queue v (queue.Fetch 0)

abbrev pub execute : Step
execute = Queue v (queue.Execute 0)

abbrev pub finish : Step
finish = Queue v (queue.Finish 0)

-- two requests are submitted, and the first of them is finished
abbrev pub run : History
run = history_of (finish ∷ execute ∷ fetch ∷ submit ∷ submit ∷ ready ∷ addresses ∷ number ∷ ring ∷ dev v ∷ [])

-- another session fetches the next one
abbrev pub fetched : History
fetched = history_of (fetch ∷ open_node v ∷ close_node v ∷ finish ∷ execute ∷ fetch ∷ submit ∷ submit ∷ ready ∷ addresses ∷ number ∷ ring ∷ dev v ∷ [])

-- a table of two descriptors, at address 0: sixteen bytes that the device reads, and one that it writes
abbrev pub parts : List Part
parts = record { at = 0x1000; len = 16; writable = false } ∷ record { at = 0x2000; len = 1; writable = true } ∷ []

abbrev pub table : RingPlace
table = record { size = 2; desc = 0; driver = 32; device = 44 }

abbrev pub two_descriptors : Memory
two_descriptors = bytes_from 0 (descriptor_bytes 0x1000 16 1 1 ++ descriptor_bytes 0x2000 1 2 0)

pub record CalmInstances : Type 0 where
  -- the history is calm
  pub calm : IsCalm small run v
  -- the heads that were placed, and the one that was pushed
  pub placed_two : placed_heads (acts_of small run v) 0 ≡ 0 ∷ 2 ∷ []
  pub pushed_one : pushed_heads small (acts_of small run v) 0 ≡ 0 ∷ []
  -- the next one is in hand after another fetch
  pub next : head_in_hand small (acts_of small fetched v) 0 ≡ Some 2
  -- the condition of the law on traces is met
  pub written : IsWritten two_descriptors table parts (0 ∷ 1 ∷ [])
