use Rattle.std.proofs.Common.{◌≡◌, ◌≤◌}
use Rattle.blk_cache.specs.Cached.{Moves}
use Rattle.blk_cache.proofs.cache.Cache.write_back.Given as goal

abbrev pub invariant-loop-self : goal.invariant-loop-self
invariant-loop-self g l = record {
  moves : Moves g.D.Disk.tells g.D.Disk.present g.D.Disk.may_leave g.D.Disk.through l.fn.self.disk l.self.disk l.fn.self.dirty l.self.dirty;
  len : l.self.dirty.len ≤ l.fn.self.dirty.len;
  idle : l.fn.self.dirty.len ≤ l.most → (l.self.disk ≡ l.fn.self.disk) × (l.self.dirty ≡ l.fn.self.dirty);
  size : g.D.Disk.size l.self.disk ≡ g.D.Disk.size l.fn.self.disk;
  faults : g.D.Disk.faults l.fn.self.disk ≤ g.D.Disk.faults l.self.disk;
  lines : l.self.lines ≡ l.fn.self.lines;
  flushes : l.self.flushes ≡ l.fn.self.flushes;
}

abbrev pub decreases-loop-self : goal.decreases-loop-self
decreases-loop-self g l = l.self.dirty.len
