-- What a submitted request asks of the disk.
use Rattle.std.specs.Prelude.{ℕ, ◌+◌, List, [], Option, Some, None}
use Rattle.vd_model.specs.declared.memory.Dir.{Dir}
use Rattle.vd_model.specs.declared.memory.Dir.TheVariants.{To, From}
use Rattle.vd_model.specs.declared.memory.Want.{Want}
use Rattle.vd_model.specs.declared.step.SubmitForm.{SubmitForm}
use Rattle.vd_model.specs.Setting.{Setting}
use Rattle.vd_model.specs.Acts.{Act}
use Rattle.vd_model.specs.Puts.{ram_bytes}
use Rattle.vd_model.specs.Block.{Block}
use Rattle.vd_model.specs.RingTurns.{asked_by}

-- the bytes that the disk is given: those of the mapped range, where it goes to the device
abbrev pub given_bytes : Setting → List Act → Option Want → List ℕ
given_bytes x acts None = []
given_bytes x acts (Some want) = by want.dir where
  by : Dir → List ℕ
  by To = ram_bytes x.per_page acts want.buffer want.offset want.len
  by _ = []

-- how many bytes the device answers: the range, where it comes from the device, and the status
abbrev pub answer_len : Option Want → ℕ
answer_len None = 1
answer_len (Some want) = by want.dir where
  by : Dir → ℕ
  by From = want.len + 1
  by _ = 1

-- the request of the disk that a form asks for after some acts
abbrev pub request_of : Setting → List Act → SubmitForm → Block
request_of x acts form =
    let asked = asked_by form in
    record { kind = asked.kind; sector = asked.sector; payload = given_bytes x acts asked.want; writable = answer_len asked.want }
