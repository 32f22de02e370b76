use Rattle.std.proofs.Common.{subst, sym, ◌∷◌}
use Rattle.std.proofs.lemmas.Result.{on_ok_weaker}
use Rattle.vd_model.specs.Acts.{Node, Deregistered}
use Rattle.vd_provenance.specs.Keeping.{Traced, KeepsOrigins}
use Rattle.vd_provenance.proofs.Following.{deregister_follows}
use Rattle.vd_provenance.proofs.state.Provenance.deregister.Goals as goal

pub returns : goal.returns
returns c acts f =
    on_ok_weaker _ (λ e. subst (λ (k : Traced). KeepsOrigins c.args.per_page (Node Deregistered ∷ acts) k) (sym e) (deregister_follows c.args.per_page acts _ _ f c.in_ok-give_back.ensures)) c.end.ensures
