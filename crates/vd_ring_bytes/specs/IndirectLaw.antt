-- A chain whose descriptor names a table of its own, and its trace.
use Rattle.std.specs.Prelude.{ℕ, ◌+◌, ◌*◌, ◌^◌, ◌<◌, ◌≤◌, List, [], ◌∷◌, length, true, false, Ok, ◌≡◌}
use Rattle.vd_model.specs.declared.parts.Part.{Part}
use Rattle.vd_model.specs.declared.parts.Chain.{Chain}
use Rattle.vd_model.specs.declared.queue.RingPlace.{RingPlace}
use Rattle.vd_model.specs.Memory.{Memory, read}
use Rattle.vd_model.specs.Trace.{trace_start, whole, chain_of, ending_of, total_len}
use Rattle.vd_model.specs.RingTurns.{descriptor_bytes, is_out_of_order}
use Rattle.vd_laws.specs.Among.{Among}
use Rattle.vd_ring_laws.specs.TraceLaw.{IsLinked}

-- the indices of some parts, ascending
abbrev pub indices : ℕ → List Part → List ℕ
indices k [] = []
indices k (part ∷ parts) = k ∷ indices (k + 1) parts

-- a table at an address, as the table of a ring
abbrev pub table_place : ℕ → ℕ → RingPlace
table_place at n = record { size = n; desc = at; driver = 0; device = 0 }

-- the descriptor at the head names a table that has these parts, in its order
pub record IsTable (m : Memory) (r : RingPlace) (head at len : ℕ) (parts : List Part) : Type 0 where
  pub inside : head < r.size
  pub small : r.size ≤ 32768
  pub ends : r.desc + 16 * r.size ≤ 2 ^ 64
  pub names : read m (r.desc + 16 * head) 16 ≡ Ok (descriptor_bytes at len 4 0)
  pub fits : at + len ≤ 2 ^ 64
  pub is_len : len ≡ 16 * length parts
  pub some : 0 < length parts
  pub few : length parts ≤ 3
  pub linked : IsLinked m (table_place at (length parts)) parts (indices 0 parts)
  pub words : (part : Part) → Among part parts → (part.at < 2 ^ 64) × (part.len < 2 ^ 32)
  pub ordered : is_out_of_order parts ≡ false
  pub short : total_len parts ≤ 16777216

-- the trace from that head
pub record IndirectLaw (m : Memory) : Type 0 where
  -- is that of the table's parts, where tables were negotiated
  pub with_tables : (r : RingPlace) (head at len : ℕ) (parts : List Part) → IsTable m r head at len parts → ending_of (trace_start r head true) m ≡ whole (chain_of head parts)
  -- and else it ends in no chain
  pub without_tables : (r : RingPlace) (head at len : ℕ) (parts : List Part) → IsTable m r head at len parts → (chain : Chain) → ending_of (trace_start r head false) m ≡ whole chain → ⊥
