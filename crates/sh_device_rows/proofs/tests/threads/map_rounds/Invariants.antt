use Rattle.std.proofs.Common.{◌≡◌}
use Rattle.sh_cells.specs.Passes.{view, IsOf}
use Rattle.sh_device_rows.proofs.tests.threads.map_rounds.Given as goal

abbrev pub invariant-loop-round : goal.invariant-loop-round
invariant-loop-round g l = record {
  of : IsOf l.device l.driver;
  quota : (view l.driver).quota ≡ (view l.initial.driver).quota;
}
