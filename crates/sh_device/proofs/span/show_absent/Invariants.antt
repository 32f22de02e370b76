use Rattle.std.proofs.Common.{◌≡◌, ◌≤◌, ◌-◌, length, take}
use Rattle.sh_cells.specs.Passes.{view, IsOf}
use Rattle.sh_device.specs.Spans.{with_shown}
use Rattle.sh_device.proofs.span.show_absent.Given as goal

abbrev pub invariant-loop-i : goal.invariant-loop-i
invariant-loop-i l = record {
  of : IsOf l.cells l.pass;
  within : l.i ≤ length l.found;
  gained : view l.pass ≡ with_shown (view l.initial.pass) l.page (take l.i l.found);
}

abbrev pub decreases-loop-i : goal.decreases-loop-i
decreases-loop-i l = length l.found - l.i
