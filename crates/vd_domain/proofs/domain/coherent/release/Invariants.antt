use Rattle.std.proofs.Common.{◌≡◌, ℕ, ◌-◌, ◌/◌, ◌&&◌, not, if◌then◌else◌}
use Rattle.std.specs.Prelude.{is_some}
use Rattle.vd_num.specs.Number.{is_within}
use Rattle.vd_bounce.specs.Frames.{frame_of, Keeps}
use Rattle.vd_bounce.specs.Bounce.{Iova, value, page_size, SameShape}
use Rattle.vd_domain.proofs.domain.coherent.release.Given as goal

abbrev pub invariant-loop-page : goal.invariant-loop-page
invariant-loop-page l = record {
  kept : Keeps l.initial.map.frames l.map.frames l.initial.pool l.pool;
  bytes : (a : ℕ) → value l.map l.pool (Iova a)
      ≡ (if is_within l.fn.pages.first (l.page - l.fn.pages.first) (a / page_size l.initial.map) then 0 else value l.initial.map l.initial.pool (Iova a));
  frames : (q : ℕ) → is_some (frame_of l.map.frames q)
      ≡ (not (is_within l.fn.pages.first (l.page - l.fn.pages.first) q) && is_some (frame_of l.initial.map.frames q));
  same : SameShape l.initial.map l.map;
}
