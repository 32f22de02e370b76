use Rattle.std.proofs.Common.{arith}
use Rattle.sh_cells.proofs.Allowed.{draw_allowed}
use Rattle.sh_cells.proofs.cells.Cells.draw_entry.Goals as goal

pub fetch_add-last-requires : goal.fetch_add-last-requires
fetch_add-last-requires g c =
    let cells = c.args.self.now in
    let token = c.args.token.now in (
      c.requires.of,
      omega (arith, cells.wide),
      draw_allowed _ _ _ token.seat.me g.D.Draft.kind g.D.Draft.base g.D.Draft.bytes (omega (arith, token.unspent, token.quota_is)) c.requires.left,
    )
