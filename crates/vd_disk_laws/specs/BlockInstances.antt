-- Small histories that meet the conditions of the block law, and two that break it where a condition is left out.
use Rattle.std.specs.Prelude.{ℕ, ◌^◌, ◌<◌, [], ◌∷◌, ◌++◌, List, false, ◌≡◌}
use Rattle.vd_model.specs.declared.step.Step.{Step}
use Rattle.vd_model.specs.declared.step.Step.TheVariants.{Device, Queue}
use Rattle.vd_model.specs.declared.step.DevStep.TheVariants as line
use Rattle.vd_model.specs.declared.step.AreaStep.TheVariants as area
use Rattle.vd_model.specs.declared.step.DriverStep.TheVariants as driver
use Rattle.vd_model.specs.declared.step.QueueStep.TheVariants as queue
use Rattle.vd_model.specs.declared.step.SubmitForm.{SubmitForm}
use Rattle.vd_model.specs.declared.step.SubmitForm.TheVariants.{Read, Write}
use Rattle.vd_model.specs.declared.answer.Tag.TheVariants as tag
use Rattle.vd_model.specs.declared.answer.Item.{Item}
use Rattle.vd_model.specs.declared.answer.Item.TheVariants.{Word, Number}
use Rattle.vd_model.specs.declared.answer.Answer.TheVariants.{Done}
use Rattle.vd_model.specs.Setting.{Setting}
use Rattle.vd_model.specs.Puts.{ram}
use Rattle.vd_model.specs.Block.{result_of}
use Rattle.vd_model.specs.ControlTurns.{plain_creation}
use Rattle.vd_model.specs.RingTurns.{asked_by}
use Rattle.vd_model.specs.Deeds.{device_view}
use Rattle.vd_model.specs.History.{History, deeds_of, disk_of, reply}
use Rattle.vd_laws.specs.Runs.{acts_of, IsAddressed, IsWhole}
use Rattle.vd_laws.specs.Small.{v, history_of, dev, image}
use Rattle.vd_ring_laws.specs.Calm.{IsCalm}
use Rattle.vd_ring_laws.specs.DiskRequest.{request_of}
use Rattle.vd_ring_laws.specs.CalmInstances.{small, ring, number, addresses, ready, fetch, execute, finish}
use Rattle.vd_disk_laws.specs.BlockLaw.{IsSubmitted, IsCompleted}

-- the same, over an image whose bytes are all 7
abbrev pub with_content : Setting
with_content = record { bounce = 8; iova = 16; per_page = 1; sectors = 16; content = λ i. 7 }

-- a buffer of one sector, and requests that give it to sector 1 and fill it from there
abbrev pub zeros : Step
zeros = Device v (line.Driver (driver.Zeros 512))

abbrev pub write : SubmitForm
write = Write 1 0 0 512

abbrev pub read : SubmitForm
read = Read 1 0 0 512

-- a read of a sector whose number has more than 64 bits
abbrev pub far : SubmitForm
far = Read (2 ^ 64) 0 0 512

abbrev pub submit : SubmitForm → Step
submit form = Queue v (queue.Submit 0 form)

abbrev pub poll : Step
poll = Queue v (queue.Poll 0)

-- a daemon writes another length into the used element
abbrev pub store : Step
store = Device v (line.Area (area.Store 0xf058 (2 ∷ [])))

-- the device and its window, and the lines from the ring to the submit
abbrev pub start : History
start = history_of (image v 0 4 ∷ dev v ∷ [])

abbrev pub inside : History
inside = history_of (ready ∷ addresses ∷ number ∷ ring ∷ zeros ∷ [])

-- before a submit, before its fetch, before its execute, and before its poll
abbrev pub at_submit : History
at_submit = history_of (ready ∷ addresses ∷ number ∷ ring ∷ zeros ∷ image v 0 4 ∷ dev v ∷ [])

abbrev pub at_execute : SubmitForm → History
at_execute form = history_of (fetch ∷ submit form ∷ ready ∷ addresses ∷ number ∷ ring ∷ zeros ∷ image v 0 4 ∷ dev v ∷ [])

abbrev pub run : SubmitForm → History
run form = history_of (finish ∷ execute ∷ fetch ∷ submit form ∷ ready ∷ addresses ∷ number ∷ ring ∷ zeros ∷ image v 0 4 ∷ dev v ∷ [])

-- and with that store before the poll
abbrev pub disturbed_run : History
disturbed_run = history_of (store ∷ finish ∷ execute ∷ fetch ∷ submit write ∷ ready ∷ addresses ∷ number ∷ ring ∷ zeros ∷ image v 0 4 ∷ dev v ∷ [])

-- what a poll tells of the request at head 0 after the head
abbrev pub report_items : ℕ → ℕ → List Item
report_items len status = Word tag.Len ∷ Number len ∷ Word tag.Status ∷ Number status ∷ []

-- the conditions of the law are met at once: a request was submitted in the span of a calm history, and the poll reports it
pub record IsMet (x : Setting) (form : SubmitForm) (len status : ℕ) : Type 0 where
  pub addressed : IsAddressed x
  pub whole : IsWhole x
  pub calm : IsCalm x (run form) v
  pub submission : IsSubmitted x (run form) v 0 form 0
  pub low : (asked_by form).sector < 2 ^ 64
  pub in_span : submission.earlier ≡ inside ++ calm.start
  pub polled : reply x (run form) poll false ≡ Done (Word tag.Head ∷ Number 0 ∷ report_items len status)

pub record BlockInstances : Type 0 where
  -- a write and a read meet the conditions, and after the poll the buffer has what was read
  pub write_met : IsMet small write 1 0
  pub read_met : IsMet with_content read 513 0
  pub read_back : ram 1 (acts_of with_content (history_of (poll ∷ []) ++ run read) v) 0 511 ≡ 7
  -- with the store the poll reports another length than the request's
  pub disturbed_submission : IsSubmitted small disturbed_run v 0 write 0
  pub disturbed_poll : reply small disturbed_run poll false ≡ Done (Word tag.Head ∷ Number 0 ∷ report_items 2 0)
  pub disturbed_breaks : IsCompleted small disturbed_run v 0 (request_of small (acts_of small at_submit v) write) (asked_by write).want 0 (report_items 2 0) false → ⊥
  -- the header has the far sector modulo 2 to the 64th: the poll tells success, where the disk refuses the sector itself
  pub far_poll : reply small (run far) poll false ≡ Done (Word tag.Head ∷ Number 0 ∷ report_items 513 0)
  pub far_status : (result_of (disk_of plain_creation v (device_view small v (deeds_of small (at_execute far)))) (request_of small (acts_of small at_submit v) far) false).status ≡ 1
