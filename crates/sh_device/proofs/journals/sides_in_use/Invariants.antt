use Rattle.std.proofs.Common.{◌≡◌, ℕ, ◌<◌, ◌-◌, ◌≤◌, None}
use Rattle.std.specs.Prelude.{slice_index_or}
use Rattle.sh_device.specs.Calls.{side_after}
use Rattle.sh_device.proofs.journals.sides_in_use.Given as goal

abbrev pub invariant-loop-page : goal.invariant-loop-page
invariant-loop-page g l = record {
  within : l.page ≤ l.count;
  sides : (page : ℕ) → page < l.page → slice_index_or l.sides page None ≡ side_after g.N.Naming.numbers l.state.entries page;
}

abbrev pub decreases-loop-page : goal.decreases-loop-page
decreases-loop-page g l = l.count - l.page
