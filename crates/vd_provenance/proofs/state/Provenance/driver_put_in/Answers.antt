use Rattle.std.proofs.Common.{◌≡◌, ◌+◌, ◌*◌, ◌∷◌, Some, None, subst}
use Rattle.std.proofs.lemmas.Result.{on_ok_weaker}
use Rattle.vd_model.specs.Acts.{Coherent, Driver, Driver_put}
use Rattle.vd_origin_moves.specs.Placed.{coherent}
use Rattle.vd_provenance.specs.Keeping.{KeepsOrigins}
use Rattle.vd_provenance.proofs.Following.{driver_follows}
use Rattle.vd_provenance.proofs.Silent.{region_is, region_missing}
use Rattle.vd_provenance.proofs.state.Provenance.driver_put_in.Goals as goal

pub returns-in-Some : goal.returns-in-Some
returns-in-Some c g acts r bytes f found long =
    let same = region_is g acts _ c.args.region c.in-Some.shared r f c.in-Some.ensures found in
    on_ok_weaker _ (λ p. subst (λ (s : Coherent). KeepsOrigins g (Driver (Driver_put (4096 * s.slot + c.args.offset) bytes) ∷ acts) c.put_in.new.self) same
    (driver_follows g acts (4096 * (coherent c.in-Some.shared).slot + c.args.offset) c.args.len bytes _ _ f long p)) c.put_in.ensures

pub returns-in-None : goal.returns-in-None
returns-in-None c g acts r bytes f found long =
    absurd (no (region_missing g acts _ c.args.region r f c.in-None.ensures found)) where
      no : None ≡ Some r → ⊥
      no e = cc
