use Rattle.std.proofs.Common.{length, sym, ap, ◌∙◌}
use Rattle.blk_memory_disk.specs.Passing.{DiskState}
use Rattle.blk_memory_disk.proofs.Writes.{length-content}
use Rattle.blk_memory_disk.proofs.disk.MemDiskDisk.sectors.Goals as goal

pub returns-clause-whole : goal.returns-clause-whole
returns-clause-whole c = λ told s low.
    length-content c.args.self.now.stored.bytes c.sectors.result s (sym (ap (λ (d : DiskState). length d.stored.bytes) c.self.view_is) ∙ c.sectors.ensures.whole) low
