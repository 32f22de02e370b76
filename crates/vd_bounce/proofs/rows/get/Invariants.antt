use Rattle.std.proofs.Common.{◌≡◌, ℕ, ◌-◌, ◌+◌, ◌≤◌, ◌<◌, length}
use Rattle.std.specs.List.{slice_index}
use Rattle.vd_bounce.specs.Frames.{frame_byte}
use Rattle.vd_bounce.proofs.rows.get.Given as goal

abbrev pub invariant-loop-done : goal.invariant-loop-done
invariant-loop-done l = (l.done ≤ length l.out) × ((i : ℕ) → i < l.done → slice_index l.out i ≡ frame_byte l.size l.frames l.pool (l.at + i))

abbrev pub decreases-loop-done : goal.decreases-loop-done
decreases-loop-done l = length l.out - l.done
