use Rattle.std.proofs.Common.{◌≡◌}
use Rattle.sh_cells.specs.Passes.{view, IsOf}
use Rattle.sh_device_rows.proofs.tests.threads.load_rounds.Given as goal

abbrev pub invariant-loop : goal.invariant-loop
invariant-loop g l = record {
  of : IsOf l.device l.daemon;
  quota : (view l.daemon).quota ≡ (view l.initial.daemon).quota;
}
