use Rattle.std.proofs.Common.{◌≡◌, ap, sym, subst, ◌∙◌, true}
use Rattle.std.specs.Prelude.{is_some}
use Rattle.vd_domain.specs.Held.{Held}
use Rattle.vd_domain.specs.Stands.{Stands}
use Rattle.vd_domain.specs.contracts.domain.Domain.{the_view}
use Rattle.vd_domain.proofs.AreaActs.{area_released}
use Rattle.vd_domain.proofs.InUse.{flag_is}
use Rattle.vd_domain.proofs.Presence.{some_value}
use Rattle.vd_domain.proofs.domain.Domain.release.Goals as goal

pub returns-clause-ok : goal.returns-clause-ok
returns-clause-ok c = λ x acts s.
    let h : Held = the_view c.self.inside in
    let t : Stands x acts h c.args.pool.now = subst (λ (h : Held). Stands x acts h c.args.pool.now) (sym c.self.view_is) s in
    let there : is_some c.self.inside.bounce.user ≡ true = ap (λ (h : Held). is_some h.bounce.user) c.self.view_is ∙ c.requires.registered in
    let user = some_value c.self.inside.bounce.user there in
    area_released x acts h c.release_user.new.self c.args.pool.now c.release_user.new.pool user.0 c.in_use.result.now t user.1
    (c.self.invariant.room user.0 user.1) c.release_user.ensures.same
    (flag_is x acts h c.args.pool.now c.self.inside.low c.self.inside.high c.self.inside.uses c.in_use.result.now t c.self.invariant c.in_use.ensures.flags)
    c.release_user.ensures.present c.release_user.ensures.bounce c.release_user.ensures.area
