use Rattle.std.proofs.Common.{true, false, ◌∙◌, inr}
use Rattle.blk_memory_disk.specs.Stored.{settled}
use Rattle.blk_memory_disk.proofs.Moves.{one_call, by_call, kept_if}
use Rattle.blk_memory_disk.proofs.disk.MemDiskDisk.sync.Goals as goal

pub returns-then-add-clause-moments : goal.returns-then-add-clause-moments
returns-then-add-clause-moments c = λ map before later.
    one_call map c.args.self.now (record { stored = c.self.inside.store; calls = c.add.new.self })
    (inr (inr (by_call settled c.args.self.now c.self.inside.store c.self.inside.store c.self.inside.calls c.add.new.self c.add.result c.self.view_is c.add.ensures.fails c.add.ensures.counted
    (kept_if c.add.result true c.self.inside.store (settled c.self.inside.store) c.if-add.true)))) before later

pub returns-clause-moments : goal.returns-clause-moments
returns-clause-moments c = λ map before later.
    one_call map c.args.self.now (record { stored = c.settle.new.self; calls = c.add.new.self })
    (inr (inr (by_call settled c.args.self.now c.self.inside.store c.settle.new.self c.self.inside.calls c.add.new.self c.add.result c.self.view_is c.add.ensures.fails c.add.ensures.counted
    (c.settle.ensures ∙ kept_if c.add.result false c.self.inside.store (settled c.self.inside.store) c.if-add.false)))) before later
