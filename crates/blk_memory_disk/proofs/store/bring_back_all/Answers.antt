use Rattle.std.proofs.Common.{◌∙◌, ◌≡◌, arith}
use Rattle.blk_memory_disk.specs.Stored.{content_at}
use Rattle.blk_memory_disk.proofs.Writes.{brought_more}
use Rattle.blk_memory_disk.proofs.store.bring_back_all.Goals as goal

pub loop-sector-preserved : goal.loop-sector-preserved
loop-sector-preserved c = record {
  done = brought_more (content_at c.args.bytes.now) (content_at c.loop-sector.bytes) (content_at c.bring_back.new.bytes) c.args.older.now c.loop-sector.sector c.loop-sector.invariant.done c.loop-sector.invariant.rest
      c.bring_back.ensures.own c.bring_back.ensures.others;
  rest = λ s high. c.bring_back.ensures.others s (λ (e : s ≡ c.loop-sector.sector). omega (arith, e, high)) ∙ c.loop-sector.invariant.rest s (omega (arith, high));
}
