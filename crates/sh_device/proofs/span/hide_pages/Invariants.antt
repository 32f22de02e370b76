use Rattle.std.proofs.Common.{◌≡◌, ◌≤◌, ◌-◌}
use Rattle.sh_cells.specs.Passes.{view, IsOf}
use Rattle.sh_device.specs.Spans.{with_hidden}
use Rattle.sh_device.proofs.span.hide_pages.Given as goal

abbrev pub invariant-loop-i : goal.invariant-loop-i
invariant-loop-i l = record {
  of : IsOf l.cells l.pass;
  within : l.i ≤ l.count;
  gained : view l.pass ≡ with_hidden (view l.initial.pass) l.page l.i;
}

abbrev pub decreases-loop-i : goal.decreases-loop-i
decreases-loop-i l = l.count - l.i
