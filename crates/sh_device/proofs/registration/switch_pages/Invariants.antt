use Rattle.std.proofs.Common.{◌+◌, ◌-◌, ◌≤◌, take}
use Rattle.sh_cells.specs.Passes.{view, IsOf}
use Rattle.sh_device.specs.Spans.{Switches}
use Rattle.sh_device.proofs.registration.switch_pages.Given as goal

abbrev pub invariant-loop-page : goal.invariant-loop-page
invariant-loop-page l = record {
  of : IsOf l.cells l.pass;
  within : l.page ≤ l.count;
  switches : Switches (view l.initial.pass) 0 (take l.page l.sides) (view l.pass);
  left : (view l.initial.pass).left ≤ (view l.pass).left + l.page;
}

abbrev pub decreases-loop-page : goal.decreases-loop-page
decreases-loop-page l = l.count - l.page
