use Rattle.std.proofs.lemmas.Result.{on_ok_weaker}
use Rattle.vd_provenance.proofs.Following.{register_follows}
use Rattle.vd_provenance.proofs.state.Provenance.register.Goals as goal

pub returns : goal.returns
returns c acts f = on_ok_weaker _ (λ p. register_follows c.args.per_page acts c.args.kept _ _ f c.requires.small p) c.adopt.ensures
