use Rattle.std.proofs.Common.{◌≡◌, ℕ, ◌-◌, ◌≤◌, length, if◌then◌else◌}
use Rattle.std.specs.List.{slice_index}
use Rattle.vd_num.specs.Number.{is_within}
use Rattle.vd_bounce.specs.Frames.{frame_byte, Keeps}
use Rattle.vd_bounce.proofs.rows.put.Given as goal

abbrev pub invariant-loop-done : goal.invariant-loop-done
invariant-loop-done l = record {
  within : l.done ≤ length l.bytes;
  spare : l.pool.spare ≡ l.initial.pool.spare;
  kept : Keeps l.frames l.frames l.initial.pool l.pool;
  bytes : (a : ℕ) → frame_byte l.size l.frames l.pool a
      ≡ (if is_within l.at l.done a then slice_index l.bytes (a - l.at) else frame_byte l.size l.frames l.initial.pool a);
}

abbrev pub decreases-loop-done : goal.decreases-loop-done
decreases-loop-done l = length l.bytes - l.done
