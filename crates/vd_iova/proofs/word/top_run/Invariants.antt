use Rattle.std.proofs.Common.{◌≡◌, ℕ, ◌%◌, ◌≤◌, ◌<◌}
use Rattle.vd_iova.specs.Bits.{IsClearWord}
use Rattle.vd_iova.proofs.word.top_run.Given as goal

abbrev pub invariant-loop-top : goal.invariant-loop-top
invariant-loop-top l = record {
  most : l.«end» ≤ 64;
  above : (k : ℕ) → l.«end» ≤ k → k < 64 → k % l.step ≡ 0 → IsClearWord l.word k l.n → ⊥;
}

abbrev pub decreases-loop-top : goal.decreases-loop-top
decreases-loop-top l = l.«end»
