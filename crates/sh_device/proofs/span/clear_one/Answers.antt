use Rattle.std.proofs.Common.{◌∷◌, [], Option, sym, subst}
use Rattle.sh_cells.specs.declared.word.Side.{Side}
use Rattle.sh_cells.specs.Passes.{view}
use Rattle.sh_device.specs.Spans.{Clears}
use Rattle.sh_device.proofs.span.clear_one.Goals as goal

pub returns-in-None-clause-gained : goal.returns-in-None-clause-gained
returns-in-None-clause-gained c =
    subst (λ (o : Option Side). Clears (view c.args.pass.now) c.args.page (o ∷ []) (view c.write_on.new.pass)) (sym c.in-None.is) (c.write_on.result, c.write_on.ensures.gained)
