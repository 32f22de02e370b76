use Rattle.std.proofs.Common.{◌≡◌, ◌+◌, ◌<◌, ◌≤◌, ℕ, List, ◌++◌, length, take, drop}
use Rattle.vd_model.specs.declared.parts.Part.{Part}
use Rattle.vr_packed.specs.Lies.{ChainLies}
use Rattle.vr_packed.proofs.steps.read_chain.Given as goal

abbrev pub invariant-loop-i : goal.invariant-loop-i
invariant-loop-i l = (id : ℕ) (parts : List Part) → 0 < length parts → length parts ≤ length l.slots → ChainLies l.slots l.place id parts
    → (l.i < length parts) × (l.into ≡ l.fn.into ++ take l.i parts) × ChainLies l.slots (l.place + l.i) id (drop l.i parts)
