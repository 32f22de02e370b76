use Rattle.std.proofs.Common.{◌≡◌, ℕ, ◌<◌, Some, false}
use Rattle.std.specs.List.{slice_get}
use Rattle.vd_engine.specs.declared.windows.Given.{Given}
use Rattle.vd_engine.specs.Windows.{has_window}
use Rattle.vd_engine.proofs.windows.window_of.Given as goal

abbrev pub invariant-loop-given : goal.invariant-loop-given
invariant-loop-given l = (k : ℕ) (g : Given) → k < l.given-index → slice_get l.windows k ≡ Some g → has_window l.name g ≡ false
