use Rattle.std.proofs.Common.{◌∙◌, sym, arith}
use Rattle.std.specs.Prelude.{string_bytes}
use Rattle.vd_options.proofs.Numbers.{path_nowhere}
use Rattle.vd_options.proofs.words.read_path.Goals as goal

pub returns : goal.returns
returns c = sym (path_nowhere string_bytes c.loop-rest.rest.now (omega arith)) ∙ c.loop-rest.invariant
