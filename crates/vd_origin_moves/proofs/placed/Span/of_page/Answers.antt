use Rattle.std.proofs.Common.{rules, ◌*◌, arith}
use Rattle.vd_origin_moves.proofs.Pages.{of_page}
use Rattle.vd_origin_moves.proofs.placed.Span.of_page.Goals as goal

pub returns-clause-has : goal.returns-clause-has
returns-clause-has c a = of_page (4096 * c.args.per_page) c.args.page a (let some = c.requires.some in omega arith)
