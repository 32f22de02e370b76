use Rattle.std.proofs.Common.{◌*◌, ◌<◌, arith, ◌∙◌}
use Rattle.sh_cells.specs.Passes.{view}
use Rattle.sh_cells.specs.Views.{access, with_put}
use Rattle.sh_cells.proofs.Places.{cell_side_at, cell_address_at, side_number_small}
use Rattle.sh_cells.proofs.Allowed.{put_allowed, known_small}
use Rattle.sh_cells.proofs.cells.Cells.put_word.Goals as goal

pub store-requires : goal.store-requires
store-requires c =
    let cells = c.args.self.now in
    let token = c.args.token.now in
    let lt : c.args.at < 4096 * cells.table.shared.key = rw cells.key_is c.requires.inside in
    rw c.number.ensures (
      c.requires.of,
      omega (arith, cells.wide, c.requires.inside, c.requires.even, side_number_small c.args.side),
      put_allowed _ _ _ token.seat.me c.args.side c.args.at _ c.requires.even lt (omega (arith, token.unspent, token.quota_is)) c.args.word c.requires.known c.number-2.ensures.back,
    )

pub returns-clause-gained : goal.returns-clause-gained
returns-clause-gained c =
    let side_is = cell_side_at c.args.side c.args.at c.number.result c.requires.even c.number.ensures in
    let at_is = cell_address_at c.args.side c.args.at c.number.result c.requires.even c.number.ensures in
    let word = c.number-2.ensures.back (known_small _ (view c.args.token.now) c.args.at c.args.word c.requires.known c.store.ensures.2.2) in
    c.store.ensures.2.0 ∙ (λ k. with_put (view c.args.token.now) (access (side_is k) (at_is k) (word k)))
