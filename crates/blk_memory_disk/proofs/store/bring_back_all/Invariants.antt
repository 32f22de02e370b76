use Rattle.std.proofs.Common.{◌≡◌, ℕ, ◌<◌, ◌≤◌, ◌∷◌}
use Rattle.blk_disk.specs.Contents.{Has}
use Rattle.blk_memory_disk.specs.Stored.{content_at, older_at}
use Rattle.blk_memory_disk.proofs.store.bring_back_all.Given as goal

abbrev pub invariant-loop-sector : goal.invariant-loop-sector
invariant-loop-sector l = record {
  done : (s : ℕ) → s < l.sector → Has (content_at l.bytes s) (content_at l.fn.bytes s ∷ older_at l.older s);
  rest : (s : ℕ) → l.sector ≤ s → content_at l.bytes s ≡ content_at l.fn.bytes s;
}
