use Rattle.std.proofs.Common.{◌≡◌, ◌<◌, ◌++◌, ◌∷◌, [], refl, sym, subst, ap, ◌∙◌, arith, length}
use Rattle.vd_lines.specs.Ahead.{Ahead, IsOneLine}
use Rattle.vd_lines.specs.IsAt.{IsAt, IsRead}
use Rattle.vd_lines.proofs.Places.{at_cut, at_leads, leads_long, at_long, at_fault, at_filled, at_none, at_last, at_end}
use Rattle.vd_lines.proofs.reader.LineReader.advance.Goals as goal

pub returns-then-line_len-gt-LINE_LIMIT-clause-next : goal.returns-then-line_len-gt-LINE_LIMIT-clause-next
returns-then-line_len-gt-LINE_LIMIT-clause-next g c = λ text done at.
    let here = c.loop-self.invariant.at text done at in
    let cut = c.if-cut.ensures in
    let next = at_cut text done c.loop-self.self c.cut.new.self (g.S.Source.left c.loop-self.source) (g.S.Source.left c.loop-self.source) here cut.0 cut.1 cut.2 refl in
    leads_long text done c.cut.new.self.line (at_leads text done c.cut.new.self.line c.cut.new.self (g.S.Source.left c.loop-self.source) next) (omega arith)

pub returns-then-cut-clause-next : goal.returns-then-cut-clause-next
returns-then-cut-clause-next g c = λ text done at.
    let here = c.loop-self.invariant.at text done at in
    let cut = c.if-cut.ensures in
    let next = at_cut text done c.loop-self.self c.cut.new.self (g.S.Source.left c.loop-self.source) (g.S.Source.left c.loop-self.source) here cut.0 cut.1 cut.2 refl in
    (next, at_leads text done c.cut.new.self.line c.cut.new.self (g.S.Source.left c.loop-self.source) next, omega arith)

pub returns-then-ahead-gt-LINE_LIMIT-clause-next : goal.returns-then-ahead-gt-LINE_LIMIT-clause-next
returns-then-ahead-gt-LINE_LIMIT-clause-next g c = λ text done at.
    let kept = c.if-cut.ensures in
    let here : IsAt text done c.cut.new.self (g.S.Source.left c.loop-self.source) = subst (λ a. IsAt text done a (g.S.Source.left c.loop-self.source)) (sym kept.0) (c.loop-self.invariant.at text done at) in
    let one : IsOneLine c.cut.new.self.pending = subst (λ (a : Ahead). IsOneLine a.pending) (sym kept.0) kept.1 in
    at_long text done c.cut.new.self (g.S.Source.left c.loop-self.source) (g.S.Source.left c.loop-self.source) here one (omega arith)

pub returns-in-Err-clause-next : goal.returns-in-Err-clause-next
returns-in-Err-clause-next g c = λ text done at.
    let kept = c.if-cut.ensures in
    let here : IsAt text done c.cut.new.self (g.S.Source.left c.loop-self.source) = subst (λ a. IsAt text done a (g.S.Source.left c.loop-self.source)) (sym kept.0) (c.loop-self.invariant.at text done at) in
    let one : IsOneLine c.cut.new.self.pending = subst (λ (a : Ahead). IsOneLine a.pending) (sym kept.0) kept.1 in
    at_fault text done c.cut.new.self (g.S.Source.left c.loop-self.source) (g.S.Source.left c.fill.new.source) here c.fill.new.self c.in-Err.fault one (omega arith) c.in-Err.ensures.filled

pub returns-then-cut_last-clause-next : goal.returns-then-cut_last-clause-next
returns-then-cut_last-clause-next g c = λ text done at.
    let kept = c.if-cut.ensures in
    let here : IsAt text done c.cut.new.self (g.S.Source.left c.loop-self.source) = subst (λ a. IsAt text done a (g.S.Source.left c.loop-self.source)) (sym kept.0) (c.loop-self.invariant.at text done at) in
    let one : IsOneLine c.cut.new.self.pending = subst (λ (a : Ahead). IsOneLine a.pending) (sym kept.0) kept.1 in
    let none = at_none text done c.cut.new.self (g.S.Source.left c.loop-self.source) (g.S.Source.left c.fill.new.source) here c.fill.new.self c.in-Ok.n c.in-Ok.ensures.filled.0 c.if-n-eq0.true in
    let line : c.cut_last.new.self.line ≡ c.cut.new.self.pending = c.if-cut_last.ensures.0 ∙ none.2 in
    let some : 0 < length c.cut.new.self.pending = (let size = ap length none.2 in let positive = c.if-cut_last.ensures.1 in omega (arith, size, positive)) in
    let read = at_last text done c.cut.new.self (g.S.Source.left c.loop-self.source) (g.S.Source.left c.fill.new.source) here none.1 one some none.0 in
    (subst (λ l. IsRead text (done ++ l ∷ []) (g.S.Source.left c.fill.new.source)) (sym line) read, (let size = ap length line in omega (arith, size)))

pub returns-else-cut_last-clause-next : goal.returns-else-cut_last-clause-next
returns-else-cut_last-clause-next g c = λ text done at.
    let kept = c.if-cut.ensures in
    let here : IsAt text done c.cut.new.self (g.S.Source.left c.loop-self.source) = subst (λ a. IsAt text done a (g.S.Source.left c.loop-self.source)) (sym kept.0) (c.loop-self.invariant.at text done at) in
    let none = at_none text done c.cut.new.self (g.S.Source.left c.loop-self.source) (g.S.Source.left c.fill.new.source) here c.fill.new.self c.in-Ok.n c.in-Ok.ensures.filled.0 c.if-n-eq0.true in
    at_end text done c.cut.new.self (g.S.Source.left c.loop-self.source) (g.S.Source.left c.fill.new.source) here none.1 (sym none.2 ∙ c.if-cut_last.ensures) none.0

pub loop-self-preserved : goal.loop-self-preserved
loop-self-preserved g c =
    let kept = c.if-cut.ensures in
    let filled = c.in-Ok.ensures.filled in
    let pending = ap (λ (a : Ahead). length a.pending) kept.0 in
    let taken = ap (λ (a : Ahead). a.taken) kept.0 in
    let faults = c.loop-self.invariant.faults in let later = c.fill.ensures.later in
    let more = c.loop-self.invariant.more in
    let size = filled.3 in let count = filled.1 in let small = filled.2 in
    record {
      at = λ text done at.
          let here : IsAt text done c.cut.new.self (g.S.Source.left c.loop-self.source) = subst (λ a. IsAt text done a (g.S.Source.left c.loop-self.source)) (sym kept.0) (c.loop-self.invariant.at text done at) in
          at_filled text done c.cut.new.self c.fill.new.self (g.S.Source.left c.loop-self.source) (g.S.Source.left c.fill.new.source) here c.in-Ok.n filled.0 count small;
      faults = omega (arith, faults, later);
      room = λ _. small;
      more = omega (arith, more, pending, taken, size, count);
    }
