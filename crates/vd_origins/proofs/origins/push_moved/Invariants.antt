use Rattle.std.proofs.Common.{◌≡◌, ℕ, ◌<◌, ◌^◌, take}
use Rattle.vd_origins.specs.Runs.{or_origin, origin_in, moved_origin}
use Rattle.vd_origins.proofs.origins.push_moved.Given as goal

-- what the runs so far have in the range is there
abbrev pub invariant-loop-run : goal.invariant-loop-run
invariant-loop-run l = (a : ℕ) → a < 2 ^ 64
    → origin_in l.into.items a ≡ or_origin (origin_in l.initial.into.items a) (moved_origin (take l.run-index l.runs) l.range l.to a)
