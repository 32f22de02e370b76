use Rattle.std.proofs.Common.{◌≡◌, ℕ, ◌+◌, ◌/◌, ◌<◌, if◌then◌else◌, nat_lt, false}
use Rattle.std.specs.Prelude.{is_some}
use Rattle.std.specs.List.{slice_index, slice_index_or}
use Rattle.vd_bounce.specs.Frames.{frame_byte, frame_of, Keeps}
use Rattle.vd_bounce.proofs.rows.release.Given as goal

abbrev pub invariant-loop-page : goal.invariant-loop-page
invariant-loop-page l = record {
  kept : Keeps l.initial.frames l.frames l.initial.pool l.pool;
  bytes : (a : ℕ) → a / l.size < l.page → frame_byte l.size l.frames l.pool a
      ≡ (if slice_index_or l.in_use (a / l.size) false then slice_index l.area (l.from + a) else 0);
  present : (p : ℕ) → is_some (frame_of l.frames p) ≡ (if nat_lt p l.page then slice_index_or l.in_use p false else is_some (frame_of l.initial.frames p));
}
