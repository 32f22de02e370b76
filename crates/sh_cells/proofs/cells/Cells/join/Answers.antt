use Rattle.std.proofs.Common.{arith, ap, ◌∙◌}
use Rattle.sh_cells.specs.Steps.{Holding}
use Rattle.sh_cells.proofs.Allowed.{join_allowed, look_allowed}
use Rattle.sh_cells.proofs.cells.Cells.join.Goals as goal

pub join_seat-requires : goal.join_seat-requires
join_seat-requires c =
    let cells = c.args.self.now in
    let token = c.args.token.now in
    let other = c.args.other in (
      c.requires.of.0,
      c.requires.of.1,
      other.empty_handed,
      omega (arith, cells.wide),
      join_allowed _ token.seat.id token.seat.me.0 other.seat.id other.seat.me.0 (omega (arith, token.unspent, token.quota_is)),
    )

pub load-requires : goal.load-requires
load-requires c =
    let cells = c.args.self.now in
    let token = c.args.token.now in
    let joined = c.join_seat.ensures in
    let quota = ap (λ (m : Holding). m.0.quota) joined.2 in
    (joined.0 ∙ c.requires.of.0, omega (arith, cells.wide), look_allowed _ _ _ c.join_seat.new.seat.me (omega (arith, quota, token.unspent, token.quota_is)))
