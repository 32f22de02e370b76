use Rattle.std.proofs.Common.{◌≡◌, ◌+◌, vec_len}
use Rattle.vd_bounce.specs.Frames.{held_count, Keeps}
use Rattle.vd_bounce.proofs.rows.discard.Given as goal

abbrev pub invariant-loop-slot : goal.invariant-loop-slot
invariant-loop-slot l = record {
  kept : Keeps l.initial.frames.items l.frames.items l.initial.pool l.pool;
  back : l.pool.spare + held_count l.frames.items ≡ l.initial.pool.spare + held_count l.initial.frames.items;
}

abbrev pub decreases-loop-slot : goal.decreases-loop-slot
decreases-loop-slot l = vec_len l.frames
