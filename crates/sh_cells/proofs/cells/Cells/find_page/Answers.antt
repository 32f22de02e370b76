use Rattle.std.proofs.Common.{◌<◌, arith}
use Rattle.sh_cells.proofs.Allowed.{find_page_allowed}
use Rattle.sh_cells.proofs.cells.Cells.find_page.Goals as goal

pub load-requires : goal.load-requires
load-requires c =
    let cells = c.args.self.now in
    let token = c.args.token.now in
    let lt : c.args.page < cells.table.shared.key = rw cells.key_is c.requires.inside in
    (c.requires.of, omega (arith, cells.wide, c.requires.inside), find_page_allowed _ _ _ token.seat.me c.args.page lt (omega (arith, token.unspent, token.quota_is)))
