use Rattle.std.proofs.Common.{◌≡◌, ℕ, ◌*◌, ◌/◌, length, take, drop, true, false, sym, ap, ◌∙◌, inl, arith}
use Rattle.blk_memory_disk.specs.Passing.{DiskState, unchanged}
use Rattle.blk_memory_disk.proofs.Writes.{joined_is}
use Rattle.blk_memory_disk.proofs.Moves.{one_call, by_call, kept_if}
use Rattle.blk_memory_disk.proofs.disk.MemDiskDisk.read.Goals as goal

pub returns-then-add-clause-moments : goal.returns-then-add-clause-moments
returns-then-add-clause-moments c = λ map before later.
    one_call map c.args.self.now (record { stored = c.self.inside.store; calls = c.add.new.self })
    (inl (by_call unchanged c.args.self.now c.self.inside.store c.self.inside.store c.self.inside.calls c.add.new.self c.add.result c.self.view_is c.add.ensures.fails c.add.ensures.counted
    (kept_if c.add.result true c.self.inside.store (unchanged c.self.inside.store) c.if-add.true))) before later

pub returns-clause-moments : goal.returns-clause-moments
returns-clause-moments c = λ map before later.
    one_call map c.args.self.now (record { stored = c.self.inside.store; calls = c.add.new.self })
    (inl (by_call unchanged c.args.self.now c.self.inside.store c.self.inside.store c.self.inside.calls c.add.new.self c.add.result c.self.view_is c.add.ensures.fails c.add.ensures.counted
    (kept_if c.add.result false c.self.inside.store (unchanged c.self.inside.store) c.if-add.false))) before later

pub returns-clause-read : goal.returns-clause-read
returns-clause-read c =
    let whole = c.requires.whole in
    let size : length c.args.into.now ≡ 512 * (length c.args.into.now / 512) = omega arith in
    c.read.ensures ∙ ap (λ (d : DiskState). take (length c.args.into.now) (drop (512 * c.args.sector) d.stored.bytes)) c.self.view_is
    ∙ ap (λ (n : ℕ). take n (drop (512 * c.args.sector) c.args.self.now.stored.bytes)) size
    ∙ sym (joined_is c.args.self.now.stored.bytes c.args.sector (length c.args.into.now / 512))
