-- What a line asks of a block device, and why it is refused.
use Rattle.std.specs.Prelude.{ℕ, List, ◌+◌, ◌||◌, nat_lt, Bool, false, if◌then◌else◌, Option, Some, None}
use Rattle.std.specs.Option.{option_map_or}
use Rattle.vd_num.specs.declared.errno.Errno.{Errno}
use Rattle.vd_num.specs.declared.errno.Errno.TheVariants.{Noent, Busy, Inval}
use Rattle.vd_model.specs.declared.memory.Dir.TheVariants.{To, From}
use Rattle.vd_model.specs.declared.memory.Want.{Want}
use Rattle.vd_model.specs.declared.step.SubmitForm.{SubmitForm}
use Rattle.vd_model.specs.declared.step.SubmitForm.TheVariants as form
use Rattle.vd_model.specs.Creation.{Creation}
use Rattle.vd_model.specs.Acts.{Act}
use Rattle.vd_model.specs.DriverTurns.{want_of}
use Rattle.vd_model.specs.Queues.{some_pending, made_buffer}
use Rattle.vd_model.specs.RingTurns.{AskedRequest, asked_by, is_bad_len}
use Rattle.vd_model.specs.Turn.{refusal_if}
use Rattle.vd_buffers.specs.Places.{Places, len_of}
use Rattle.blk_driver.specs.declared.ask.Ask.{Ask}
use Rattle.blk_driver.specs.declared.ask.Ask.TheVariants as ask

-- what a form asks of the driver's side
abbrev pub ask_by : SubmitForm → Ask
ask_by (form.Read sector buffer offset len) = ask.Read sector (want_of buffer offset len From)
ask_by (form.Write sector buffer offset len) = ask.Write sector (want_of buffer offset len To)
ask_by form.Flush = ask.Flush
ask_by (form.Id buffer offset) = ask.Id (want_of buffer offset 20 From)

-- a pending request made the buffer of its range
abbrev pub wants_made_buffer : Creation → List Act → SubmitForm → Bool
wants_made_buffer made acts form = option_map_or (λ (want : Want). some_pending (made_buffer want.buffer) acts made.queues) (asked_by form).want false

-- a range of a buffer of this size, if it is there, is refused
abbrev pub range_refused : ℕ → Want → Bool → Option ℕ → Option Errno
range_refused kind want busy None = Some Noent
range_refused kind want busy (Some size) = if busy then Some Busy else refusal_if (is_bad_len kind want.len || nat_lt size (want.offset + want.len)) Inval

-- the range of a request, if it has one, is refused
abbrev pub asked_refusal : Places → Bool → AskedRequest → Option Errno
asked_refusal places busy a = option_map_or (λ want. range_refused a.kind want busy (len_of places want.buffer)) a.want None
