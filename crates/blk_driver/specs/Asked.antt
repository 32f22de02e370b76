-- What is asked of a block device, and where it lies in the driver's buffers.
use Rattle.std.specs.Prelude.{ℕ, ◌≡◌, ◌+◌, if◌then◌else◌, ◌++◌, ◌∷◌, [], List, false, Some, None}
use Rattle.vd_model.specs.declared.memory.Want.{Want}
use Rattle.vd_model.specs.declared.memory.Dir.TheVariants.{To, From}
use Rattle.vd_model.specs.Creation.{has_feature}
use Rattle.vd_model.specs.Puts.{is_from_device}
use Rattle.vd_model.specs.RingTurns.{AskedRequest, is_bad_len, part_wants, table_wants}
use Rattle.blk_proto.specs.Headers.{header_bytes}
use Rattle.blk_proto.specs.declared.header.Header.{Header}
use Rattle.blk_driver.specs.declared.ask.Ask.{Ask}
use Rattle.blk_driver.specs.declared.ask.Ask.TheVariants.{Read, Write, Flush, Id}
use Rattle.blk_driver.specs.declared.ask.Draft.{Draft}

-- its type, its sector, and the range of a buffer that it maps, if any
abbrev pub asked_in : Ask → AskedRequest
asked_in (Read sector want) = record { kind = 0; sector = sector; want = Some want }
asked_in (Write sector want) = record { kind = 1; sector = sector; want = Some want }
asked_in Flush = record { kind = 4; sector = 0; want = None }
asked_in (Id want) = record { kind = 8; sector = 0; want = Some want }

-- a range has a length that the form takes, and the direction that it needs
abbrev pub IsAsked : Ask → Type 0
IsAsked (Read sector want) = (is_bad_len 0 want.len ≡ false) × (want.dir ≡ From)
IsAsked (Write sector want) = (is_bad_len 1 want.len ≡ false) × (want.dir ≡ To)
IsAsked Flush = Unit {0}
IsAsked (Id want) = (want.len ≡ 20) × (want.dir ≡ From)

-- the header, whose reserved word is a tag, and the status byte before the device writes it
abbrev pub header_in : Ask → ℕ → Header
header_in ask tag = record { kind = (asked_in ask).kind; reserved = tag; sector = (asked_in ask).sector }

abbrev pub front_bytes : Ask → ℕ → List ℕ
front_bytes ask tag = header_bytes (header_in ask tag) ++ 255 ∷ []

-- the ranges that a request maps, in the order of mapping: header, given range, status, and the table of its parts
abbrev pub wants_of : Draft → List Want
wants_of d = part_wants d.buffer (asked_in d.ask) ++ table_wants d.indirect d.buffer (asked_in d.ask)

-- how many bytes of some ranges the device may write
abbrev pub written_len : List Want → ℕ
written_len [] = 0
written_len (want ∷ wants) = (if is_from_device want.dir then want.len else 0) + written_len wants

-- a request under the features that the driver accepted: INDIRECT_DESC is 28, EVENT_IDX is 29
abbrev pub draft_of : Ask → ℕ → ℕ → Draft
draft_of ask buffer features = record { ask = ask; buffer = buffer; indirect = has_feature features 28; event_idx = has_feature features 29 }
