use Rattle.std.proofs.Common.{◌≡◌, ◌-◌, ◌<◌, ◌≤◌, ap, sym, subst, ◌∙◌, length}
use Rattle.vd_bounce.specs.Bounce.{IsThere, bounce_len, value, home_place, over}
use Rattle.vd_domain.specs.Held.{Held}
use Rattle.vd_domain.proofs.Opened.{stands_inside}
use Rattle.vd_domain.proofs.Rings.{ring_stored}
use Rattle.vd_domain.proofs.domain.Domain.ring_store.Goals as goal

pub returns-in-Some-clause-ok : goal.returns-in-Some-clause-ok
returns-in-Some-clause-ok c = λ x acts m s. sym (c.in-Some.ensures.first x acts m s)

pub put-requires-clause-there : goal.put-requires-clause-there
put-requires-clause-there c =
    let start : c.saturating_sub.result ≡ c.args.at - bounce_len c.self.inside.bounce = c.saturating_sub.ensures ∙ ap (λ e. c.args.at - e) c.end_of-end.ensures in
    subst (λ k. IsThere c.self.inside.shared k (length c.args.bytes.now)) (sym start)
    (subst (λ (h : Held). IsThere h.shared (c.args.at - bounce_len h.bounce) (length c.args.bytes.now)) (sym c.self.view_is) c.in_default.ensures.there)

pub returns-clause-ok : goal.returns-clause-ok
returns-clause-ok c = λ x acts m s.
    let start : c.saturating_sub.result ≡ c.args.at - bounce_len c.self.inside.bounce = c.saturating_sub.ensures ∙ ap (λ e. c.args.at - e) c.end_of-end.ensures in
    let above : 0 < length c.args.bytes.now → bounce_len c.self.inside.bounce ≤ c.args.at =
    subst (λ (h : Held). 0 < length c.args.bytes.now → bounce_len h.bounce ≤ c.args.at) (sym c.self.view_is) c.in_default.ensures.above in (
      sym (c.in_default.ensures.first x acts m s),
      ring_stored x acts _ m (stands_inside c.self.view_is s) _ _ _ c.self.invariant c.args.at c.args.bytes.now above c.put.new.self c.put.new.pool c.put.ensures.same
          (λ p. c.put.ensures.bytes p ∙ ap (λ k. over (home_place c.self.inside.shared k) c.args.bytes.now p (value c.self.inside.shared c.self.inside.store p)) start),
    )
