use Rattle.std.proofs.Common.{◌*◌, ◌∙◌, ap, sym, subst, arith, length, true≢false}
use Rattle.blk_proto.specs.Numbers.{status_number}
use Rattle.blk_daemon.specs.declared.disk.Outcome.{Outcome}
use Rattle.blk_daemon.specs.Executed.{Executes, block_with}
use Rattle.blk_daemon.proofs.DiskLemmas.{read_ends}
use Rattle.blk_daemon.proofs.disk.read_sectors.Goals as goal

pub returns-in-Ok-clause-executed : goal.returns-in-Ok-clause-executed
returns-in-Ok-clause-executed g c = λ payload offered name.
    let window = c.args.window.now in
    subst (λ (o : Outcome). Executes g.I.Image.content g.I.Image.faults g.I.Image.flushes window offered name (block_with 0 c.args.sector payload (length c.args.into.now)) o.failed
    c.args.disk.now c.read_at.new.self (record { status = status_number o.status; bytes = c.read_at.new.into })) (sym c.of-in-Ok.ensures) (record {
      cause = λ e. absurd (true≢false (sym e));
      ends = read_ends (g.I.Image.content c.args.disk.now) (g.I.Image.content c.read_at.new.self) window offered name c.args.sector _ (g.I.Image.size c.args.disk.now) payload c.read_at.new.into
          c.read_at.auto.into (sym c.is_outside.ensures ∙ c.if-is_outside.false) c.requires.window
          (λ bytes told. c.sectors-sectors.ensures.told bytes told ∙ ap (λ n. 512 * n) c.sectors-sectors.ensures.size) c.in-Ok.ensures.read c.in-Ok.ensures.kept;
      flushed = λ e. absurd (cc);
      more_faults = c.in-Ok.ensures.cause.later;
      more_flushes = omega (arith, c.in-Ok.ensures.flushes);
    })
