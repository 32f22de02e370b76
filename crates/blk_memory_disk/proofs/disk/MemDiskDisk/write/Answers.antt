use Rattle.std.proofs.Common.{true, false, sym, ap, subst, ◌∙◌, inl, inr}
use Rattle.blk_disk.specs.Moments.{IsListedWrite}
use Rattle.blk_memory_disk.specs.Stored.{Stored, content_at, list_at, overwritten}
use Rattle.blk_memory_disk.specs.Passing.{DiskState}
use Rattle.blk_memory_disk.proofs.Writes.{content_written, content_other, listed_write}
use Rattle.blk_memory_disk.proofs.Moves.{one_call, by_call, kept_if}
use Rattle.blk_memory_disk.proofs.disk.MemDiskDisk.write.Goals as goal

pub returns-then-add-clause-moments : goal.returns-then-add-clause-moments
returns-then-add-clause-moments c = λ map before later.
    one_call map c.args.self.now (record { stored = c.self.inside.store; calls = c.add.new.self })
    (inr (inl (
      c.args.sector,
      c.args.bytes.now,
      (by_call (overwritten c.args.sector c.args.bytes.now) c.args.self.now c.self.inside.store c.self.inside.store c.self.inside.calls c.add.new.self c.add.result c.self.view_is c.add.ensures.fails c.add.ensures.counted
          (kept_if c.add.result true c.self.inside.store ((overwritten c.args.sector c.args.bytes.now) c.self.inside.store) c.if-add.true)),
    ))) before later

pub returns-clause-moments : goal.returns-clause-moments
returns-clause-moments c = λ map before later.
    one_call map c.args.self.now (record { stored = c.write.new.self; calls = c.add.new.self })
    (inr (inl (
      c.args.sector,
      c.args.bytes.now,
      (by_call (overwritten c.args.sector c.args.bytes.now) c.args.self.now c.self.inside.store c.write.new.self c.self.inside.calls c.add.new.self c.add.result c.self.view_is c.add.ensures.fails c.add.ensures.counted
          (c.write.ensures.written ∙ kept_if c.add.result false c.self.inside.store ((overwritten c.args.sector c.args.bytes.now) c.self.inside.store) c.if-add.false)),
    ))) before later

pub returns-clause-written : goal.returns-clause-written
returns-clause-written c =
    ap (λ (d : Stored). content_at d.bytes c.args.sector) c.write.ensures.written ∙ content_written c.args.sector c.args.bytes.now c.self.inside.store.bytes c.requires.one c.write.ensures.inside

pub returns-clause-either : goal.returns-clause-either
returns-clause-either c =
    inl (ap (λ (d : Stored). content_at d.bytes c.args.sector) c.write.ensures.written ∙ content_written c.args.sector c.args.bytes.now c.self.inside.store.bytes c.requires.one c.write.ensures.inside)

pub returns-clause-others : goal.returns-clause-others
returns-clause-others c = λ s apart.
    ap (λ (d : Stored). content_at d.bytes s) c.write.ensures.written ∙ content_other c.args.sector c.args.bytes.now c.self.inside.store.bytes c.requires.one c.write.ensures.inside s apart
    ∙ ap (λ (d : DiskState). content_at d.stored.bytes s) c.self.view_is

pub returns-clause-lists : goal.returns-clause-lists
returns-clause-lists c =
    subst (λ (d : DiskState). IsListedWrite c.args.sector c.args.bytes.now (list_at d.stored) (list_at c.write.new.self)) c.self.view_is
    (subst (λ (d : Stored). IsListedWrite c.args.sector c.args.bytes.now (list_at c.self.inside.store) (list_at d)) (sym c.write.ensures.written)
    (listed_write c.args.sector c.args.bytes.now c.self.inside.store c.requires.one c.write.ensures.inside))
