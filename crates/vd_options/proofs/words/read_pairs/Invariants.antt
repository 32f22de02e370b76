use Rattle.std.proofs.Common.{◌≡◌, map, length}
use Rattle.std.specs.Prelude.{string_bytes}
use Rattle.vd_options.specs.Words.{with_pairs, nothing_chosen}
use Rattle.vd_options.proofs.words.read_pairs.Given as goal

abbrev pub invariant-loop-rest : goal.invariant-loop-rest
invariant-loop-rest l = with_pairs l.chosen (map string_bytes l.rest) ≡ with_pairs nothing_chosen (map string_bytes l.words)

abbrev pub decreases-loop-rest : goal.decreases-loop-rest
decreases-loop-rest l = length l.rest
