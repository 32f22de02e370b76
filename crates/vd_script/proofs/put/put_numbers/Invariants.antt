use Rattle.std.proofs.Common.{◌≡◌, ◌++◌, map, take, decimal}
use Rattle.vd_model.specs.Text.{behind}
use Rattle.vd_script.proofs.put.put_numbers.Given as goal

abbrev pub invariant-loop-number : goal.invariant-loop-number
invariant-loop-number l = l.into ≡ l.fn.into ++ behind 32 (map decimal (take l.number-index l.numbers))
