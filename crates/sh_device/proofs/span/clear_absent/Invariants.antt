use Rattle.std.proofs.Common.{◌≤◌, ◌+◌, ◌-◌, length, take}
use Rattle.sh_cells.specs.Passes.{view, IsOf}
use Rattle.sh_device.specs.Spans.{Clears}
use Rattle.sh_device.proofs.span.clear_absent.Given as goal

abbrev pub invariant-loop-i : goal.invariant-loop-i
invariant-loop-i l = record {
  of : IsOf l.cells l.pass;
  within : l.i ≤ length l.found;
  gained : Clears (view l.initial.pass) l.page (take l.i l.found) (view l.pass);
  left : (view l.initial.pass).left ≤ (view l.pass).left + l.i;
}

abbrev pub decreases-loop-i : goal.decreases-loop-i
decreases-loop-i l = length l.found - l.i
