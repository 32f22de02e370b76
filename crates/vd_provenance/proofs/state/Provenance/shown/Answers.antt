use Rattle.std.proofs.Common.{sym, ◌∙◌}
use Rattle.vd_provenance.proofs.Following.{shown_some, shown_none}
use Rattle.vd_provenance.proofs.state.Provenance.shown.Goals as goal

pub returns-then-sees : goal.returns-then-sees
returns-then-sees c acts f = shown_some c.args.bounce c.args.per_page acts c.args.self.now c.args.at c.origin.result f c.ranges.at.fits (sym c.sees.ensures ∙ c.if-sees.true) c.origin.ensures

pub returns-else-sees : goal.returns-else-sees
returns-else-sees c acts f = shown_none c.args.bounce c.args.per_page acts c.args.self.now c.args.at f (sym c.sees.ensures ∙ c.if-sees.false)
