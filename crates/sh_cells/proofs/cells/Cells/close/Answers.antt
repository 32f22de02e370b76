use Rattle.std.proofs.Common.{arith, ap, ◌∙◌}
use Rattle.sh_cells.specs.declared.pass.Token.{Token}
use Rattle.sh_cells.proofs.Allowed.{look_allowed}
use Rattle.sh_cells.proofs.cells.Cells.close.Goals as goal

pub load-requires : goal.load-requires
load-requires c =
    let cells = c.args.self in
    let token = c.pass.inside.token in
    (ap (λ (t : Token). t.seat.table_id) c.pass.view_is ∙ c.requires.of, omega (arith, cells.wide), look_allowed _ _ _ token.seat.me (omega (arith, token.unspent, token.quota_is)))
