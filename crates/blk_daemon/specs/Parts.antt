-- The parts of a chain, one after another.
use Rattle.std.specs.Prelude.{ℕ, ◌≡◌, List, Some, None, Result, Ok, Err, IsOk}
use Rattle.vd_num.specs.declared.number.Bus.{Bus}
use Rattle.vd_model.specs.Memory.{Memory, read}
use Rattle.vd_model.specs.declared.parts.Part.{Part}
use Rattle.vd_model.specs.DaemonTurns.{readable_bytes}
use Rattle.blk_daemon.specs.Finished.{first_unwritable}

-- the parts that the device reads are these bytes, or the first address of them at which no byte stands
abbrev pub ReadsParts : Memory → List Part → Result (Unit {0}) Bus → List ℕ → Type 0
ReadsParts m parts (Ok _) bytes = readable_bytes m parts ≡ Ok bytes
ReadsParts m parts (Err bus) bytes = readable_bytes m parts ≡ Err bus.at

-- n bytes from an address on can be accessed, or the answer is the first address of them that can't be
abbrev pub IsThere : Memory → ℕ → ℕ → Result (Unit {0}) Bus → Type 0
IsThere m at n (Ok _) = IsOk (read m at n)
IsThere m at n (Err bus) = read m at n ≡ Err bus.at

-- so of the parts that the device writes
abbrev pub AreThere : Memory → List Part → Result (Unit {0}) Bus → Type 0
AreThere m parts (Ok _) = first_unwritable m parts ≡ None
AreThere m parts (Err bus) = first_unwritable m parts ≡ Some bus.at
