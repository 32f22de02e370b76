use Rattle.std.proofs.Common.{sym, subst}
use Rattle.std.specs.Prelude.{Contains}
use Rattle.sh_cells.specs.declared.pass.Token.{Token}
use Rattle.sh_cells.specs.Passes.{view}
use Rattle.sh_cells.specs.Views.{access}
use Rattle.sh_cells.proofs.cells.Cells.load_side.Goals as goal

pub returns-clause-own : goal.returns-clause-own
returns-clause-own g c = λ w has. c.read_cell.ensures.own w (subst (λ (t : Token). Contains (view t).puts (access c.args.side c.args.at w)) (sym c.token_mut.ensures.value) has)
