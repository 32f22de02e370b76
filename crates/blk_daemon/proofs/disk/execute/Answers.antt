use Rattle.std.proofs.Common.{◌≡◌, ◌+◌, ◌-◌, length, take, drop, subst, sym, ◌∙◌, arith}
use Rattle.std.proofs.lemmas.Grind.{common_steps}
use Rattle.blk_proto.specs.Numbers.{status_number}
use Rattle.vd_model.specs.Block.{Block, block_of}
use Rattle.vd_model.specs.Queues.{Execution}
use Rattle.blk_daemon.specs.Executed.{Executes}
use Rattle.blk_daemon.proofs.DiskLemmas.{status_behind, same_block}
use Rattle.blk_daemon.proofs.disk.execute.Goals as goal

pub returns-clause-executed : goal.returns-clause-executed
returns-clause-executed g c =
    let device = c.args.device.now in
    let into = c.args.into.now in
    let front : length c.carry_out-outcome.new.into ≡ length c.args.into.now - 1 = grind (arith, common_steps, c.carry_out-outcome.auto.into) in
    let room : length (take (length c.args.into.now - 1) c.args.into.now) + 1 ≡ length c.args.into.now = grind (arith, common_steps) in
    let payload : take (length c.args.bytes.now - 16) (drop 16 c.args.bytes.now) ≡ drop 16 c.args.bytes.now = grind (arith, common_steps) in
    let block = same_block c.args.bytes.now (take (length c.args.bytes.now - 16) (drop 16 c.args.bytes.now)) c.header_of-header.result.kind c.header_of-header.result.sector (length (take (length into - 1) into)) (length into) c.header_of-header.ensures.kind c.header_of-header.ensures.sector payload room in
    subst (λ (e : Execution). Executes g.I.Image.content g.I.Image.faults g.I.Image.flushes device.window device.offered device.name.now (block_of c.args.bytes.now (length into)) c.carry_out-outcome.result.failed c.args.disk.now c.carry_out-outcome.new.disk e)
    (sym (status_behind c.carry_out-outcome.new.into into c.number-status.result front c.requires.has_status ∙ (λ i. record { status = c.number-status.ensures i; bytes = c.carry_out-outcome.new.into })))
    (subst (λ (b : Block). Executes g.I.Image.content g.I.Image.faults g.I.Image.flushes device.window device.offered device.name.now b c.carry_out-outcome.result.failed c.args.disk.now c.carry_out-outcome.new.disk (record { status = status_number c.carry_out-outcome.result.status; bytes = c.carry_out-outcome.new.into })) block c.carry_out-outcome.ensures.executed)
