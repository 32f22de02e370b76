use Rattle.std.proofs.lemmas.Result.{on_ok_weaker}
use Rattle.vd_provenance.proofs.Following.{new_area_follows}
use Rattle.vd_provenance.proofs.state.Provenance.new_area.Goals as goal

pub returns : goal.returns
returns c g acts f = on_ok_weaker _ (λ p. new_area_follows g acts c.args.len _ _ f p) c.set_area.ensures
