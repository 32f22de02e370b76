-- A chain that a driver wrote into a ring's table, and its trace.
use Rattle.std.specs.Prelude.{ℕ, ◌+◌, ◌*◌, ◌^◌, ◌<◌, ◌≤◌, List, [], ◌∷◌, Bool, true, false, Ok, ◌≡◌}
use Rattle.vd_model.specs.declared.parts.Part.{Part}
use Rattle.vd_model.specs.declared.queue.RingPlace.{RingPlace}
use Rattle.vd_model.specs.Memory.{Memory, read}
use Rattle.vd_model.specs.Trace.{trace_start, whole, chain_of, total_len, ending_of}
use Rattle.vd_model.specs.RingTurns.{descriptor_bytes, flags_of, first_of, is_out_of_order}
use Rattle.vd_laws.specs.Among.{Among}
use Rattle.vd_ring_laws.specs.ChainLaw.{AreDistinct}

-- the table has these parts at these descriptors, each but the last with the next one's index
abbrev pub IsLinked : Memory → RingPlace → List Part → List ℕ → Type 0
IsLinked m r [] ds = ⊥
IsLinked m r (part ∷ parts) [] = ⊥
IsLinked m r (part ∷ []) (d ∷ []) = read m (r.desc + 16 * d) 16 ≡ Ok (descriptor_bytes part.at part.len (flags_of false part.writable) 0)
IsLinked m r (part ∷ []) (d ∷ e ∷ ds) = ⊥
IsLinked m r (part ∷ next ∷ parts) (d ∷ []) = ⊥
IsLinked m r (part ∷ next ∷ parts) (d ∷ e ∷ ds) =
    (read m (r.desc + 16 * d) 16 ≡ Ok (descriptor_bytes part.at part.len (flags_of true part.writable) e)) × IsLinked m r (next ∷ parts) (e ∷ ds)

-- a chain that can be written, in a table that has it
pub record IsWritten (m : Memory) (r : RingPlace) (parts : List Part) (ds : List ℕ) : Type 0 where
  pub linked : IsLinked m r parts ds
  -- its descriptors are numbers of the table, each of them once
  pub distinct : AreDistinct ds
  pub low : (d : ℕ) → Among d ds → d < r.size
  -- the table lies in the address space
  pub size : r.size ≤ 32768
  pub ends : r.desc + 16 * r.size ≤ 2 ^ 64
  -- each part has an address of 64 bits and a length of 32
  pub words : (part : Part) → Among part parts → (part.at < 2 ^ 64) × (part.len < 2 ^ 32)
  -- those that the device reads come first, and all together have 16 MiB at most
  pub ordered : is_out_of_order parts ≡ false
  pub short : total_len parts ≤ 16777216

-- what a driver wrote as a chain is traced as that chain
abbrev pub TraceLaw : Memory → Type 0
TraceLaw m = (r : RingPlace) (parts : List Part) (ds : List ℕ) (negotiated : Bool) → IsWritten m r parts ds
    → ending_of (trace_start r (first_of ds) negotiated) m ≡ whole (chain_of (first_of ds) parts)
