use Rattle.std.proofs.Common.{◌≡◌, ◌+◌, drop}
use Rattle.vr_packed.specs.Lies.{chain_written}
use Rattle.vr_packed.proofs.steps.write_chain.Given as goal

abbrev pub invariant-loop-i : goal.invariant-loop-i
invariant-loop-i l = chain_written l.slots (l.place + l.i) l.id (drop l.i l.parts) ≡ chain_written l.fn.slots l.place l.id l.parts
