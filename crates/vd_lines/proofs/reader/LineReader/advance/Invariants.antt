use Rattle.std.proofs.Common.{◌≤◌, ◌-◌, ◌+◌, List, ℕ, length}
use Rattle.vd_lines.specs.IsAt.{IsAt}
use Rattle.vd_lines.proofs.reader.LineReader.advance.Given as goal

abbrev pub invariant-loop-self : goal.invariant-loop-self
invariant-loop-self g l = record {
  at : (text : List ℕ) (done : List (List ℕ)) → IsAt text done l.fn.self (g.S.Source.left l.fn.source) → IsAt text done l.self (g.S.Source.left l.source);
  faults : g.S.Source.faults l.fn.source ≤ g.S.Source.faults l.source;
  room : l.fn.self.taken ≤ 67108864 → l.self.taken ≤ 67108864;
  more : length l.self.pending + l.fn.self.taken ≤ l.self.taken + length l.fn.self.pending;
}

abbrev pub decreases-loop-self : goal.decreases-loop-self
decreases-loop-self g l = 67108864 - l.self.taken
