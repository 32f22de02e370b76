use Rattle.std.proofs.Common.{◌≡◌, ℕ, ◌-◌, ◌*◌, ◌/◌, if◌then◌else◌, ◌&&◌, not, nat_lt, false}
use Rattle.std.specs.Prelude.{is_some}
use Rattle.std.specs.List.{slice_index, slice_index_or}
use Rattle.vd_num.specs.Number.{is_within}
use Rattle.vd_bounce.specs.Frames.{frame_byte, frame_of, Keeps}
use Rattle.vd_bounce.proofs.rows.adopt.Given as goal

abbrev pub invariant-loop-page : goal.invariant-loop-page
invariant-loop-page l = record {
  kept : Keeps l.initial.frames l.frames l.initial.pool l.pool;
  bytes : (a : ℕ) → frame_byte l.size l.frames l.pool a
      ≡ (if nat_lt (a / l.size) l.page && not (slice_index_or l.in_use (a / l.size) false) then 0 else frame_byte l.size l.initial.frames l.initial.pool a);
  area : (o : ℕ) → slice_index l.area o
      ≡ (if is_within l.from (l.size * l.page) o && slice_index_or l.in_use ((o - l.from) / l.size) false
      then frame_byte l.size l.initial.frames l.initial.pool (o - l.from) else slice_index l.initial.area o);
  present : (p : ℕ) → is_some (frame_of l.frames p) ≡ (if nat_lt p l.page then slice_index_or l.in_use p false else is_some (frame_of l.initial.frames p));
}
