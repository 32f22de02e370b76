use Rattle.std.proofs.Common.{◌≡◌, ℕ, ◌<◌, false}
use Rattle.std.specs.Prelude.{is_some}
use Rattle.vd_bounce.specs.Frames.{frame_of, Keeps}
use Rattle.vd_bounce.proofs.rows.empty.Given as goal

abbrev pub invariant-loop-page : goal.invariant-loop-page
invariant-loop-page l = Keeps l.initial.frames l.frames l.initial.pool l.pool × ((p : ℕ) → p < l.page → is_some (frame_of l.frames p) ≡ false)
