use Rattle.std.proofs.Common.{ap, ◌∙◌, ℕ, List}
use Rattle.std.specs.List.{slice_set}
use Rattle.vd_iova.specs.Space.{Space}
use Rattle.vd_domain.proofs.Spans.{set_back}
use Rattle.vd_domain.proofs.booking.book.Goals as goal

pub returns-in-None-clause-err : goal.returns-in-None-clause-err
returns-in-None-clause-err c = (
  c.give.ensures.new
      ∙ ap (λ (s : Space). record s { counts = slice_set s.counts c.in-Ok.slot 0 }) c.in-Ok.ensures.ok
      ∙ ap (λ (xs : List ℕ). record c.args.low.now { counts = xs }) (set_back c.args.low.now.counts c.in-Ok.slot c.pages-n.result c.in-Ok.ensures.fresh),
  c.in-None.ensures.none,
)
