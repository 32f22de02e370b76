use Rattle.std.proofs.Common.{◌≡◌, map, take}
use Rattle.vd_origin_moves.specs.Placed.{stretch_of}
use Rattle.vd_provenance.proofs.lists.stretches.Given as goal

abbrev pub invariant-loop-placed : goal.invariant-loop-placed
invariant-loop-placed l = l.met.items ≡ map stretch_of (take l.placed-index l.live.items)
