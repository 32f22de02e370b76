use Rattle.vd_pool.proofs.Taken.{zeros_from}
use Rattle.vd_pool.proofs.page.Page.new.Goals as goal

pub returns-clause-zeros : goal.returns-clause-zeros
returns-clause-zeros c = zeros_from c.args.size c.in_ok-vec.field-0.items (c.in_ok-vec.ensures.items_if_clones_equal (λ y h. h))
