use Rattle.std.proofs.Common.{sym, ◌∙◌, arith}
use Rattle.std.proofs.lemmas.List.{length-take-le}
use Rattle.vd_abi.proofs.Text.{name-is_text}
use Rattle.vd_abi.proofs.bytes.name_in.Goals as goal

pub slice_bounds-before_zero-end : goal.slice_bounds-before_zero-end
slice_bounds-before_zero-end c = sym (length-take-le 255 c.args.from.now (omega arith))

pub returns-clause-text : goal.returns-clause-text
returns-clause-text c =
    name-is_text c.from_vec.result c.args.from.now (c.from_vec.ensures ∙ c.in_ok-from_slice.ensures.items ∙ c.before_zero-chars.ensures)
