use Rattle.std.proofs.Common.{◌≡◌, ℕ, ◌/◌, ◌+◌, ◌≤◌, ◌<◌, true}
use Rattle.vd_model.specs.AreaTurns.{first_failing}
use Rattle.vd_bounce.specs.Bounce.{page_size, bounce_len, is_page_present}
use Rattle.vd_domain.proofs.pages.first_missing.Given as goal

abbrev pub invariant-loop-left : goal.invariant-loop-left
invariant-loop-left l = record {
  sum : l.at + l.left ≡ l.from + l.len;
  later : l.from ≤ l.at;
  inside : l.from < l.at → l.at ≤ bounce_len l.map;
  there : (a : ℕ) → l.from ≤ a → a < l.at → is_page_present l.map (a / page_size l.map) ≡ true;
  same : first_failing (λ a. is_page_present l.map (a / page_size l.map)) l.at l.left ≡ first_failing (λ a. is_page_present l.map (a / page_size l.map)) l.from l.len;
}

abbrev pub decreases-loop-left : goal.decreases-loop-left
decreases-loop-left l = l.left
