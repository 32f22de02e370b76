use Rattle.std.proofs.Common.{◌≡◌, ◌≤◌, drop}
use Rattle.vd_options.specs.Words.{decimal_from, between}
use Rattle.vd_options.proofs.words.digits.Given as goal

abbrev pub invariant-loop-b : goal.invariant-loop-b
invariant-loop-b l = record {
  small : l.n ≤ l.hi;
  same : between 0 l.hi (decimal_from l.n (drop l.b-index l.text)) ≡ between 0 l.hi (decimal_from 0 l.text);
}
