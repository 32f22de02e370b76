use Rattle.std.proofs.Common.{◌≡◌, ◌-◌, ◌∷◌, refl, ap, sym, subst, ◌∙◌, inl, inr, ℕ, true, None}
use Rattle.std.specs.Prelude.{is_some}
use Rattle.std.specs.Option.{option_map}
use Rattle.vd_model.specs.Setting.{bounce_size}
use Rattle.vd_model.specs.Acts.{Node, Registered}
use Rattle.vd_model.specs.AreaTurns.{may_register, area_start}
use Rattle.vd_domain.specs.Held.{Held}
use Rattle.vd_domain.specs.Stands.{Stands}
use Rattle.vd_domain.specs.contracts.domain.Domain.{the_view}
use Rattle.vd_domain.proofs.AreaActs.{area_registered}
use Rattle.vd_domain.proofs.InUse.{flag_is, flag_framed}
use Rattle.vd_domain.proofs.Presence.{some_map, none_value, test_false, test_true}
use Rattle.vd_domain.proofs.domain.Domain.reg_umem.Goals as goal

pub returns-in-None-clause-ok : goal.returns-in-None-clause-ok
returns-in-None-clause-ok c = λ x acts s.
    inl (refl, test_false (may_register x acts c.args.uaddr c.args.iova c.args.size) (c.args.uaddr - area_start) (c.in-None.ensures.ok x acts c.args.pool.now s))

pub returns-then-is_registered-clause-ok : goal.returns-then-is_registered-clause-ok
returns-then-is_registered-clause-ok c = λ x acts s.
    let may = test_true (may_register x acts c.args.uaddr c.args.iova c.args.size) (c.args.uaddr - area_start) c.in-Some.offset (c.in-Some.ensures.ok x acts c.args.pool.now s) in
    let there : is_some c.args.self.now.bounce.user ≡ true = ap (λ (h : Held). is_some h.bounce.user) (sym c.self.view_is) ∙ sym c.if-is_registered.ensures in
    inr (refl, may.0, ap is_some s.registered ∙ some_map _ c.args.self.now.bounce.user ∙ there)

pub returns-clause-ok : goal.returns-clause-ok
returns-clause-ok c = λ x acts s.
    let h : Held = the_view c.self.inside in
    let t : Stands x acts h c.args.pool.now = subst (λ (h : Held). Stands x acts h c.args.pool.now) (sym c.self.view_is) s in
    let may = test_true (may_register x acts c.args.uaddr c.args.iova c.args.size) (c.args.uaddr - area_start) c.in-Some.offset (c.in-Some.ensures.ok x acts c.args.pool.now s) in
    let free : c.self.inside.bounce.user ≡ None = none_value c.self.inside.bounce.user (sym c.if-is_registered.ensures) in (
      may.0,
      t.registered ∙ ap (λ u. option_map (λ u. record { base = u; size = bounce_size x }) u) free,
      subst (λ (base : ℕ). Stands x (Node (Registered base (bounce_size x)) ∷ acts) (record h { bounce = c.adopt_user.new.self }) c.adopt_user.new.pool) may.1
          (area_registered x acts h c.adopt_user.new.self c.args.pool.now c.adopt_user.new.pool c.in-Some.offset c.in_use.result.now t free c.adopt_user.ensures.same
          (flag_is x acts h c.args.pool.now c.self.inside.low c.self.inside.high c.self.inside.uses c.in_use.result.now t c.self.invariant c.in_use.ensures.flags)
          (flag_framed x acts h c.args.pool.now c.self.inside.low c.self.inside.high c.self.inside.uses c.in_use.result.now t c.self.invariant c.in_use.ensures.flags)
          c.adopt_user.ensures.area),
    )
