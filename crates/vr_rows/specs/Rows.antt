-- A small ring to try the definition of a trace on: four descriptors, of which the first is given and the others are zero.
use Rattle.std.specs.Prelude.{ℕ, ◌≡◌, true, List, ◌++◌, replicate}
use Rattle.vd_model.specs.Memory.{Memory, bytes_from}
use Rattle.vd_model.specs.Trace.{TraceStart, ending_of, faulty}
use Rattle.vd_model.specs.declared.answer.ChainKind.{ChainKind}

abbrev pub row_memory : List ℕ → Memory
row_memory first = bytes_from 134213632 (first ++ replicate 48 0)

abbrev pub row_start : ℕ → TraceStart
row_start head = record { ring = record { size = 4; desc = 134213632; driver = 134213696; device = 134213712 }; head = head; negotiated = true }

-- the chain that begins at the head has this fault, at this index of the ring
abbrev pub IsFaulty : List ℕ → ℕ → ChainKind → ℕ → Type 0
IsFaulty first head kind index = ending_of (row_start head) (row_memory first) ≡ faulty (record { kind = kind; table = 0; index = index })
