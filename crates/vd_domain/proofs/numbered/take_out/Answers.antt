use Rattle.std.proofs.Common.{◌≡◌, ap, sym, ◌∙◌, arith, ℕ, List}
use Rattle.vd_domain.proofs.Rising.{count_below, others, another, past_all}
use Rattle.vd_domain.proofs.numbered.take_out.Goals as goal
use Rattle.vd_domain.proofs.numbered.take_out.Goals.{else-at-len-via-then-at-len+else-index-number, else-at-len-via-else-at-len}

pub returns-then-index-number : goal.returns-then-index-number
returns-then-index-number g c =
    c.remove.ensures
    ∙ others c.requires.0 c.args.number c.count_below-at.result c.args.entries.now c.index.result.now c.requires.1 (omega arith) c.index.ensures c.if-index-number.true

pub returns-else-at-len : goal.returns-else-at-len
returns-else-at-len g c =
    let count : count_below c.args.number c.args.entries.now ≡ c.count_below-at.result
    = ap (λ (es : List (ℕ × g.row.T.Denot)). count_below c.args.number es) (sym c.as_slice.ensures) ∙ sym c.count_below-at.ensures in
    elim c.else-at-len.branch [
      | else-at-len-via-then-at-len+else-index-number w ↦ sym (another c.requires.0 c.args.number c.count_below-at.result c.args.entries.now w.index.result.now
          c.requires.1 count (omega arith) w.index.ensures w.if-index-number.false).1
      | else-at-len-via-else-at-len w ↦ sym (past_all c.requires.0 c.args.number c.count_below-at.result c.args.entries.now c.requires.1 count (omega arith)).1
    ]
