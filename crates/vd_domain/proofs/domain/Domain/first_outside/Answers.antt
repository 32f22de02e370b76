use Rattle.std.proofs.Common.{◌-◌, ◌<◌, ◌≤◌, arith, sym, subst, ◌∙◌, IfNone}
use Rattle.vd_bounce.specs.Bounce.{bounce_len, IsThere}
use Rattle.vd_domain.specs.Held.{Held}
use Rattle.vd_domain.proofs.Opened.{stands_inside}
use Rattle.vd_domain.proofs.Rings.{outside_is, below_is, there_of}
use Rattle.vd_domain.proofs.domain.Domain.first_outside.Goals as goal
use Rattle.vd_domain.proofs.domain.Domain.first_outside.Goals.{After-first_missing, else-len-gt0-via-then-len-gt0+else-at-end_of, else-len-gt0-via-else-len-gt0}

above : (c : After-first_missing) → 0 < c.args.len → bounce_len c.self.inside.bounce ≤ c.args.at
above c some = elim c.else-len-gt0.branch [
  | else-len-gt0-via-then-len-gt0+else-at-end_of w ↦ grind (arith, some)
  | else-len-gt0-via-else-len-gt0 w ↦ grind (arith, some)
]

pub returns-then-at-end_of-clause-first : goal.returns-then-at-end_of-clause-first
returns-then-at-end_of-clause-first c = λ x acts m s.
    let below : c.args.at < bounce_len c.self.inside.bounce = grind arith in
    let some : 0 < c.args.len = grind arith in
    below_is x acts _ m (stands_inside c.self.view_is s) _ _ _ c.self.invariant c.args.at c.args.len some below

pub returns-clause-first : goal.returns-clause-first
returns-clause-first c = λ x acts m s.
    let at = (goal.at.returns-clause-first c).After-first_missing in
    c.first_missing.ensures ∙ outside_is x acts _ m (stands_inside c.self.view_is s) _ _ _ c.self.invariant c.args.at c.args.len (above at)

pub returns-clause-there : goal.returns-clause-there
returns-clause-there c =
    let at = (goal.at.returns-clause-there c).After-first_missing in
    subst (λ (h : Held). IfNone c.first_missing.result (IsThere h.shared (c.args.at - bounce_len h.bounce) c.args.len)) c.self.view_is
    (there_of c.self.inside.bounce c.self.inside.shared c.args.at c.args.len (above at) c.first_missing.result (sym c.first_missing.ensures))
