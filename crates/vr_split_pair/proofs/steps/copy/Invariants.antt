use Rattle.std.proofs.Common.{◌≡◌, ◌++◌, take}
use Rattle.vr_split_pair.proofs.steps.copy.Given as goal

abbrev pub invariant-loop-part : goal.invariant-loop-part
invariant-loop-part l = l.into ≡ l.fn.into ++ take l.part-index l.parts
