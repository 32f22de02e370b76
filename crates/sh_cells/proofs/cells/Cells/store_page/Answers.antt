use Rattle.std.proofs.Common.{◌<◌, arith}
use Rattle.sh_cells.proofs.Allowed.{set_page_allowed}
use Rattle.sh_cells.proofs.cells.Cells.store_page.Goals as goal

pub store-requires : goal.store-requires
store-requires c =
    let cells = c.args.self.now in
    let token = c.args.token.now in
    let lt : c.args.page < cells.table.shared.key = rw cells.key_is c.requires.inside in
    (c.requires.of, omega (arith, cells.wide, c.requires.inside), set_page_allowed _ _ _ token.seat.me c.args.page _ lt (omega (arith, token.unspent, token.quota_is)))
