use Rattle.std.proofs.Common.{ℕ, ◌*◌, ◌<◌, arith, sym, ◌∙◌, subst}
use Rattle.std.specs.Prelude.{Contains}
use Rattle.sh_cells.specs.declared.word.Side.{Side}
use Rattle.sh_cells.specs.Passes.{view}
use Rattle.sh_cells.specs.Views.{access}
use Rattle.sh_cells.proofs.Places.{cell_side_at, cell_address_at, side_number_small}
use Rattle.sh_cells.proofs.Allowed.{read_allowed}
use Rattle.sh_cells.proofs.cells.Cells.read_cell.Goals as goal

pub load-requires : goal.load-requires
load-requires c =
    let cells = c.args.self.now in
    let token = c.args.token.now in
    let lt : c.args.at < 4096 * cells.table.shared.key = rw cells.key_is c.requires.inside in
    rw c.number.ensures (
      c.requires.of,
      omega (arith, cells.wide, c.requires.inside, c.requires.even, side_number_small c.args.side),
      read_allowed _ _ _ token.seat.me c.args.side c.args.at c.requires.even lt (omega (arith, token.unspent, token.quota_is)),
    )

pub returns-clause-own : goal.returns-clause-own
returns-clause-own c =
    let side_is = cell_side_at c.args.side c.args.at c.number.result c.requires.even c.number.ensures in
    let at_is = cell_address_at c.args.side c.args.at c.number.result c.requires.even c.number.ensures in
    λ w has zero'.
    let H : Side × ℕ → Type 0 = λ x. Contains (view c.args.token.now).puts (access x.0 x.1 w) in
    c.load.ensures.2.2 w (subst H (λ k. (sym side_is k, sym at_is k)) has) (sym c.from_number.ensures ∙ zero')
