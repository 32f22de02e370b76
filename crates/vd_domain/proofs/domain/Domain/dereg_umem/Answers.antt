use Rattle.std.proofs.Common.{◌≡◌, ap, sym, ◌∙◌, true}
use Rattle.std.specs.Prelude.{is_some}
use Rattle.vd_bounce.specs.Bounce.{bounce_len}
use Rattle.vd_domain.specs.Held.{Held}
use Rattle.vd_domain.proofs.AreaActs.{sizes_same}
use Rattle.vd_domain.proofs.Presence.{some_map}
use Rattle.vd_domain.proofs.domain.Domain.dereg_umem.Goals as goal

pub returns-clause-ok : goal.returns-clause-ok
returns-clause-ok c = λ x acts s.
    let there : is_some c.args.self.now.bounce.user ≡ true = ap (λ (h : Held). is_some h.bounce.user) (sym c.self.view_is) ∙ sym c.is_registered.ensures ∙ c.if-not-is_registered.false in
    let whole : c.args.size ≡ bounce_len c.args.self.now.bounce = c.if-size-end_of.false ∙ c.end_of.ensures ∙ ap (λ (h : Held). bounce_len h.bounce) c.self.view_is in
    (ap is_some s.registered ∙ some_map _ c.args.self.now.bounce.user ∙ there, c.if-iova-ne0.false, whole ∙ sym (sizes_same x c.args.self.now s.bounce), c.release.ensures.ok x acts s)
