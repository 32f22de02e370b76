-- What is told where a ring was made.
use Rattle.std.specs.Prelude.{◌≡◌, [], Option, Some, Result, Ok, Err, IsOk, IsErr}
use Rattle.vd_num.specs.declared.errno.Errno.TheVariants.{Nospc}
use Rattle.vd_model.specs.declared.memory.MapError.{MapError}
use Rattle.vd_model.specs.declared.memory.MapError.TheVariants.{Empty, NoSpace, Memory}
use Rattle.vd_model.specs.declared.answer.Answer.{Answer}
use Rattle.vd_model.specs.declared.answer.Answer.TheVariants as answer
use Rattle.vd_model.specs.RingTurns.{ring_items}
use Rattle.vd_rings.specs.declared.held.HeldRing.{HeldRing}
use Rattle.vd_request_lines.specs.declared.held.HeldDriver.{HeldDriver}

-- a ring without a request
abbrev pub unused : HeldRing → HeldDriver
unused held = record { region = held.region; driver = record { ring = held.ring; pending = [] } }

-- its region and its parts, and it is kept, or the refusal; for want of memory nothing is told
abbrev pub TellsRing : {E : Type 0} → (Answer → Type 0) → Option HeldDriver → Option HeldDriver → Result HeldRing MapError → Result (Unit {0}) E → Type 0
TellsRing heard old new (Ok held) r = IsOk r × heard (answer.Done (ring_items held.region held.ring.place)) × (new ≡ Some (unused held))
TellsRing heard old new (Err Empty) r = IsOk r × heard (answer.Err Nospc) × (new ≡ old)
TellsRing heard old new (Err NoSpace) r = IsOk r × heard (answer.Err Nospc) × (new ≡ old)
TellsRing heard old new (Err Memory) r = IsErr r × (new ≡ old)
