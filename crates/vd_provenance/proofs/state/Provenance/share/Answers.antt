use Rattle.std.proofs.Common.{subst, sym, ◌∷◌, ◌*◌, ◌/◌}
use Rattle.std.proofs.lemmas.Result.{on_ok_weaker}
use Rattle.vd_model.specs.declared.memory.Origin.TheVariants.{Zero}
use Rattle.vd_model.specs.Acts.{Driver, Region_made}
use Rattle.vd_origin_moves.specs.Placed.{coherent}
use Rattle.vd_provenance.specs.Keeping.{Traced, KeepsOrigins, PutAt}
use Rattle.vd_provenance.proofs.Following.{share_follows}
use Rattle.vd_provenance.proofs.state.Provenance.share.Goals as goal

pub returns : goal.returns
returns c g acts f =
    let put = subst (λ n. PutAt (4096 * (c.args.region.iova / 4096)) (4096 * n) Zero c.args.self.now c.put.new.self) c.pages.ensures.value c.in_ok-put.ensures in
    on_ok_weaker _ (λ e. subst (λ (k : Traced). KeepsOrigins g (Driver (Region_made (coherent c.args.region)) ∷ acts) k) (sym e)
    (share_follows g acts c.args.region _ _ f put)) c.enter_shared.ensures
