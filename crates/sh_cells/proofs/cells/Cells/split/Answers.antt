use Rattle.std.proofs.Common.{arith}
use Rattle.sh_cells.proofs.Allowed.{split_allowed}
use Rattle.sh_cells.proofs.cells.Cells.split.Goals as goal

pub split_seat-seat-requires : goal.split_seat-seat-requires
split_seat-seat-requires g c =
    let cells = c.args.self.now in
    let seat = c.args.token.now.seat in (
      c.requires.of,
      omega (arith, cells.wide),
      split_allowed _ seat.id seat.me.0 g.D.Share.share (omega (arith, c.requires.share, c.requires.picked)) (omega (arith, c.requires.share, c.requires.picked)) (omega (arith, c.requires.share, c.requires.picked)),
    )
