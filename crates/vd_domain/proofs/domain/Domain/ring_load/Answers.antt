use Rattle.std.proofs.Common.{◌≡◌, ◌+◌, ◌-◌, ◌<◌, ◌≤◌, arith, ap, sym, subst, ◌∙◌, length}
use Rattle.vd_bounce.specs.Bounce.{IsThere, bounce_len, value, home_place}
use Rattle.vd_domain.specs.Held.{Held}
use Rattle.vd_domain.proofs.Opened.{stands_inside}
use Rattle.vd_domain.proofs.Rings.{ring_loaded}
use Rattle.vd_domain.proofs.domain.Domain.ring_load.Goals as goal

pub returns-in-Some-clause-ok : goal.returns-in-Some-clause-ok
returns-in-Some-clause-ok c = λ x acts m s. sym (c.in-Some.ensures.first x acts m s)

pub get-requires-clause-there : goal.get-requires-clause-there
get-requires-clause-there c =
    let start : c.saturating_sub.result ≡ c.args.at - bounce_len c.self.inside.bounce = c.saturating_sub.ensures ∙ ap (λ e. c.args.at - e) c.end_of-end.ensures in
    subst (λ k. IsThere c.self.inside.shared k (length c.args.out.now)) (sym start)
    (subst (λ (h : Held). IsThere h.shared (c.args.at - bounce_len h.bounce) (length c.args.out.now)) (sym c.self.view_is) c.in_default.ensures.there)

pub returns-clause-ok : goal.returns-clause-ok
returns-clause-ok c = λ x acts m s.
    let start : c.saturating_sub.result ≡ c.args.at - bounce_len c.self.inside.bounce = c.saturating_sub.ensures ∙ ap (λ e. c.args.at - e) c.end_of-end.ensures in
    let above : 0 < length c.args.out.now → bounce_len c.self.inside.bounce ≤ c.args.at =
    subst (λ (h : Held). 0 < length c.args.out.now → bounce_len h.bounce ≤ c.args.at) (sym c.self.view_is) c.in_default.ensures.above in
    let none = sym (c.in_default.ensures.first x acts m s) in (
      none,
      ring_loaded x acts _ m (stands_inside c.self.view_is s) _ _ _ c.self.invariant c.args.at (length c.args.out.now) c.get.new.out (omega arith) above none
          (λ i below. c.get.ensures i below ∙ ap (λ k. value c.self.inside.shared c.self.inside.store (home_place c.self.inside.shared (k + i))) start),
    )
