use Rattle.std.proofs.Common.{◌≡◌, drop}
use Rattle.vd_origins.specs.Runs.{origin_in}
use Rattle.vd_origins.proofs.origins.Origins.get.Given as goal

-- no run before this one has the byte
abbrev pub invariant-loop-run : goal.invariant-loop-run
invariant-loop-run l = origin_in l.run-items l.at ≡ origin_in (drop l.run-index l.run-items) l.at
