use Rattle.std.proofs.Common.{subst, sym, ◌∷◌}
use Rattle.vd_model.specs.Acts.{Driver, Unmapped}
use Rattle.vd_provenance.specs.Keeping.{Traced, KeepsOrigins}
use Rattle.vd_provenance.proofs.Following.{unmap_follows}
use Rattle.vd_provenance.proofs.state.Provenance.unmap.Goals as goal

pub returns : goal.returns
returns c g acts m f is = subst (λ (k : Traced). KeepsOrigins g (Driver (Unmapped m) ∷ acts) k) (sym c.leave.ensures) (unmap_follows g acts c.args.number m _ f is)
