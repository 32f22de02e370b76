use Rattle.std.proofs.Common.{subst, sym, ◌∷◌}
use Rattle.std.proofs.lemmas.Result.{on_ok_weaker}
use Rattle.vd_model.specs.Acts.{Driver, Mapped}
use Rattle.vd_origin_moves.specs.Placed.{streaming}
use Rattle.vd_provenance.specs.Keeping.{Traced, KeepsOrigins, PagesCleared, Met}
use Rattle.vd_provenance.proofs.Following.{map_follows}
use Rattle.vd_provenance.proofs.state.Provenance.map.Goals as goal

pub returns : goal.returns
returns c acts f =
    let cleared = subst (λ s. PagesCleared c.args.per_page s c.args.self.now c.clear.new.self) c.stretch-stretch.ensures c.in_ok-clear.ensures in
    let met = subst (λ s. Met s c.hand.new.self c.meet.new.self) c.stretch-stretch.ensures c.in_ok-meet.ensures in
    on_ok_weaker _ (λ e. subst (λ (k : Traced). KeepsOrigins c.args.per_page (Driver (Mapped (streaming c.args.placed)) ∷ acts) k) (sym e)
    (map_follows c.args.per_page acts c.args.placed _ _ _ _ f cleared c.in_ok-hand.ensures met)) c.enter.ensures
