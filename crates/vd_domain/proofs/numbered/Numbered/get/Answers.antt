use Rattle.std.proofs.Common.{◌≡◌, ap, sym, ◌∙◌, arith, ℕ, List, find, ◌==◌, None}
use Rattle.std.specs.Option.{option_map}
use Rattle.vd_domain.specs.Numbered.{Numbered}
use Rattle.vd_domain.proofs.Rising.{count_below, found, another, past_all}
use Rattle.vd_domain.proofs.numbered.Numbered.get.Goals as goal
use Rattle.vd_domain.proofs.numbered.Numbered.get.Goals.{else-at-len-via-then-at-len+else-index-number, else-at-len-via-else-at-len}

pub returns-then-index-number : goal.returns-then-index-number
returns-then-index-number g c =
    sym (ap (λ o. option_map (λ (e : ℕ × g.row.T.Denot). e.1) o) (found c.self.inside.made c.args.number c.count_below-at.result c.self.inside.entries c.index.result.now c.index-then-index-number.result.now
    c.self.invariant (omega arith) c.index.ensures c.if-index-number.true c.index-then-index-number.ensures))
    ∙ ap (λ (n : Numbered g.row.T.Denot). option_map (λ (e : ℕ × g.row.T.Denot). e.1) (find (λ (e : ℕ × g.row.T.Denot). e.0 == c.args.number) n.entries)) c.self.view_is

pub returns-else-at-len : goal.returns-else-at-len
returns-else-at-len g c =
    ap (λ o. option_map (λ (e : ℕ × g.row.T.Denot). e.1) o) (sym nowhere)
    ∙ ap (λ (n : Numbered g.row.T.Denot). option_map (λ (e : ℕ × g.row.T.Denot). e.1) (find (λ (e : ℕ × g.row.T.Denot). e.0 == c.args.number) n.entries)) c.self.view_is
  where
    count : count_below c.args.number c.self.inside.entries ≡ c.count_below-at.result
    count = ap (λ (es : List (ℕ × g.row.T.Denot)). count_below c.args.number es) (sym c.as_slice.ensures) ∙ sym c.count_below-at.ensures

    nowhere : find (λ (e : ℕ × g.row.T.Denot). e.0 == c.args.number) c.self.inside.entries ≡ None
    nowhere = elim c.else-at-len.branch [
      | else-at-len-via-then-at-len+else-index-number w ↦ (another c.self.inside.made c.args.number c.count_below-at.result c.self.inside.entries w.index.result.now
          c.self.invariant count (omega arith) w.index.ensures w.if-index-number.false).0
      | else-at-len-via-else-at-len w ↦ (past_all c.self.inside.made c.args.number c.count_below-at.result c.self.inside.entries c.self.invariant count (omega arith)).0
    ]
