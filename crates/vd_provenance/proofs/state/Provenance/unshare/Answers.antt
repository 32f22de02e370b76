use Rattle.std.proofs.Common.{subst, sym, ◌∷◌}
use Rattle.vd_model.specs.Acts.{Driver, Region_freed}
use Rattle.vd_provenance.specs.Keeping.{Traced, KeepsOrigins}
use Rattle.vd_provenance.proofs.Following.{unshare_follows}
use Rattle.vd_provenance.proofs.state.Provenance.unshare.Goals as goal

pub returns : goal.returns
returns c g acts m f is = subst (λ (k : Traced). KeepsOrigins g (Driver (Region_freed m) ∷ acts) k) (sym c.leave_shared.ensures) (unshare_follows g acts c.args.number m _ f is)
