use Rattle.std.proofs.Common.{◌≡◌, ℕ, ◌<◌, ◌≤◌, Some, length}
use Rattle.std.specs.List.{slice_get}
use Rattle.vd_engine.specs.declared.devices.Named.{Named}
use Rattle.vd_engine.specs.Ticked.{IsTicked}
use Rattle.vd_engine.proofs.devices.tick_all.Given as goal

abbrev pub invariant-loop-named : goal.invariant-loop-named
invariant-loop-named l = record {
  count : length l.devices ≡ length l.fn.devices;
  told : (i : ℕ) (c d : Named) → i < l.named-index → slice_get l.fn.devices i ≡ Some c → slice_get l.devices i ≡ Some d → IsTicked l.now c d;
  others : (i : ℕ) → l.named-index ≤ i → slice_get l.devices i ≡ slice_get l.fn.devices i;
}
