use Rattle.std.proofs.Common.{◌≡◌, ◌+◌, ◌/◌, ℕ, length}
use Rattle.blk_dirty.specs.Dirty.{bytes_at, clean, with_pieces}
use Rattle.blk_dirty.proofs.dirty.Dirty.put_all.Given as goal

abbrev pub invariant-loop-i : goal.invariant-loop-i
invariant-loop-i l = record {
  bytes : (s : ℕ) → bytes_at l.self s ≡ with_pieces l.first l.i l.bytes (bytes_at l.fn.self) s;
  count : l.self.len + clean (bytes_at l.self) l.first (length l.bytes / 512) ≡ l.fn.self.len + clean (bytes_at l.fn.self) l.first (length l.bytes / 512);
  room : l.self.room ≡ l.fn.self.room;
  sectors : length l.self.lines ≡ length l.fn.self.lines;
}
