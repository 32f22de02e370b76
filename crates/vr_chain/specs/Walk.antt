-- What a walk answers, by the trace of the chain.
use Rattle.std.specs.Prelude.{ℕ, Bool, true, false, ◌≡◌, ◌≢◌, if◌then◌else◌, List, replicate, slice_set, Result, Ok, Err}
use Rattle.vd_num.specs.declared.number.Bus.{Bus as Unmapped}
use Rattle.vd_model.specs.Memory.{Memory}
use Rattle.vd_model.specs.Trace.{descriptor_at, Ending, whole, faulty, missing}
use Rattle.vd_model.specs.declared.answer.ChainKind.{ChainKind}
use Rattle.vd_model.specs.declared.parts.Chain.{Chain}
use Rattle.vd_model.specs.declared.descriptor.Descriptor.{Descriptor}
use Rattle.vd_model.specs.declared.descriptor.Position.{Position}
use Rattle.vr_chain.specs.declared.error.WalkError.{WalkError}
use Rattle.vr_chain.specs.declared.error.WalkError.TheVariants.{Fault, Bus, Memory as OutOfMemory}

-- a fact of the ending that the answer tells; want of memory tells none
abbrev pub UnlessMemory : Result Chain WalkError → (Ending → Type 0) → Type 0
UnlessMemory (Ok chain) P = P (whole chain)
UnlessMemory (Err (Fault fault)) P = P (faulty fault)
UnlessMemory (Err (Bus address)) P = P (missing address)
UnlessMemory (Err OutOfMemory) P = Unit {0}

-- a load of the descriptor at a position answers so
abbrev pub Reads : Memory → Position → Result Descriptor Unmapped → Type 0
Reads m p (Ok d) = descriptor_at m p ≡ Ok d
Reads m p (Err bus) = descriptor_at m p ≡ Err bus.at

-- the error that tells of a fault at a position
abbrev pub error_of : Position → ChainKind → WalkError
error_of p kind = Fault (record { kind = kind; table = p.table.number; index = p.index })

-- no address is missing
abbrev pub IsNoBus : Result Chain WalkError → Type 0
IsNoBus r = (at : ℕ) → r ≢ Err (Bus at)

-- the marks of a table once a position is visited, where the table may be new
abbrev pub marked : Bool → List Bool → Position → List Bool
marked is_new marks p = slice_set (if is_new then replicate p.table.entries false else marks) p.index true
