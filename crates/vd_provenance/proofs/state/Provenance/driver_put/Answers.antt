use Rattle.std.proofs.lemmas.Result.{on_ok_weaker}
use Rattle.vd_provenance.proofs.Following.{driver_follows}
use Rattle.vd_provenance.proofs.state.Provenance.driver_put.Goals as goal

pub returns : goal.returns
returns c g acts bytes f long = on_ok_weaker _ (λ p. driver_follows g acts c.args.at c.args.len bytes _ _ f long p) c.put.ensures
