use Rattle.std.proofs.Common.{◌≡◌, false, ◌+◌, ◌*◌, ◌-◌, ◌<◌, ◌≤◌, vec_len}
use Rattle.std.specs.Option.{ForSome}
use Rattle.vd_model.specs.Trace.{trace_start}
use Rattle.vr_split.specs.Mem.{IsUnchanged}
use Rattle.vr_chain.proofs.Tracks.{Tracks, unmarked}
use Rattle.vr_chain.proofs.walker.follow.Given as goal

abbrev pub invariant-walk : goal.invariant-walk
invariant-walk g l = record {
  memory : IsUnchanged g.M.Mem.told g.M.Mem.span g.M.Mem.keeps l.fn.mem l.mem;
  number : l.position.table.number ≤ 1;
  inside : l.position.index < l.position.table.entries;
  direct : l.negotiated ≡ false → l.position.table ≡ record { number = 0; at = l.ring.desc; entries = l.ring.size };
  marked : vec_len l.marks ≡ l.position.table.entries;
  tracks : ForSome (g.M.Mem.told l.fn.mem) (λ m. Tracks (trace_start l.ring l.head l.negotiated) m l.position l.marks.items l.gathered);
}

-- the entries that a walk may still come to
abbrev pub decreases-walk : goal.decreases-walk
decreases-walk g l = (1 - l.position.table.number) * 65536 + unmarked l.marks.items
