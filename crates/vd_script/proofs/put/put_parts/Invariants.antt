use Rattle.std.proofs.Common.{◌≡◌, ◌++◌, map, take}
use Rattle.vd_model.specs.Text.{behind, part_text}
use Rattle.vd_script.proofs.put.put_parts.Given as goal

abbrev pub invariant-loop-part : goal.invariant-loop-part
invariant-loop-part l = l.into ≡ l.fn.into ++ behind 32 (map part_text (take l.part-index l.part-items))
