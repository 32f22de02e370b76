use Rattle.std.proofs.Common.{◌≡◌, ℕ, ◌-◌, ◌+◌, ◌≤◌, ◌<◌, length, ◌||◌}
use Rattle.std.specs.Prelude.{is_some}
use Rattle.vd_num.specs.Number.{is_within}
use Rattle.vd_bounce.specs.Frames.{frame_of, Keeps}
use Rattle.vd_bounce.specs.Bounce.{Place, value, SameShape}
use Rattle.vd_domain.proofs.pages.hold.Given as goal

abbrev pub invariant-loop-page : goal.invariant-loop-page
invariant-loop-page l = record {
  kept : Keeps l.initial.map.frames l.map.frames l.initial.pool l.pool;
  bytes : (x : Place) → value l.map l.pool x ≡ value l.initial.map l.initial.pool x;
  frames : (q : ℕ) → q < length l.initial.map.frames → is_some (frame_of l.map.frames q)
      ≡ (is_within l.fn.pages.first (l.page - l.fn.pages.first) q || is_some (frame_of l.initial.map.frames q));
  same : SameShape l.initial.map l.map;
  spare : l.initial.pool.spare ≤ l.pool.spare + (l.page - l.fn.pages.first);
}
