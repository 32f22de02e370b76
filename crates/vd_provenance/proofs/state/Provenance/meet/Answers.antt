use Rattle.std.proofs.Common.{sym, ◌∙◌, ap}
use Rattle.std.specs.List.{list_any}
use Rattle.vd_origin_moves.specs.Placed.{covers}
use Rattle.vd_provenance.specs.Keeping.{Traced}
use Rattle.vd_provenance.proofs.Following.{covered_meets}
use Rattle.vd_provenance.proofs.state.Provenance.meet.Goals as goal

pub returns-then-is_covered : goal.returns-then-is_covered
returns-then-is_covered c =
    covered_meets c.args.stretch c.args.self.now
    (ap (λ (k : Traced). list_any (λ s. covers s c.args.stretch) k.met) (sym c.self.view_is) ∙ sym c.is_covered.ensures ∙ c.if-is_covered.true)
