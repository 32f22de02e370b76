use Rattle.std.proofs.Common.{◌≡◌, ◌*◌, ◌/◌, subst, ◌∙◌, Some, None, ap, OnOk}
use Rattle.std.proofs.lemmas.Result.{on_ok_weaker}
use Rattle.std.specs.Option.{option_map}
use Rattle.vd_origin_moves.specs.Placed.{streaming}
use Rattle.vd_model.specs.Acts.{Streaming}
use Rattle.vd_provenance.specs.Keeping.{PutAt}
use Rattle.vd_provenance.proofs.Following.{sync_follows, found_is}
use Rattle.vd_provenance.proofs.state.Provenance.sync.Goals as goal

same_some : (m n : Streaming) → Some m ≡ Some n → m ≡ n
same_some m n e = cc

pub returns-in-Some : goal.returns-in-Some
returns-in-Some c g acts m f found =
    let span = subst (λ s. OnOk c.put.result (PutAt s.at s.len c.origin.result c.args.self.now c.put.new.self)) c.span.ensures c.put.ensures in
    let put = subst (λ o. OnOk c.put.result (PutAt (4096 * (c.in-Some.placed.iova / 4096)) c.in-Some.placed.want.len o c.args.self.now c.put.new.self)) c.origin.ensures span in
    on_ok_weaker _ (λ p. sync_follows g acts c.in-Some.placed m _ _ f
    (same_some (streaming c.in-Some.placed) m (ap (λ o. option_map streaming o) c.in-Some.ensures ∙ found_is g acts _ c.args.number f ∙ found)) p) put

pub returns-in-None : goal.returns-in-None
returns-in-None c g acts m f found =
    let none : None ≡ Some m = ap (λ o. option_map streaming o) c.in-None.ensures ∙ found_is g acts _ c.args.number f ∙ found in absurd (no none) where
      no : None ≡ Some m → ⊥
      no e = cc
