use Rattle.std.proofs.Common.{◌≡◌, ℕ, List, Option, Some, ◌∙◌, length, sym, subst, arith, true≢false}
use Rattle.std.specs.Prelude.{IfSome}
use Rattle.blk_proto.specs.Numbers.{status_number, type_number}
use Rattle.blk_proto.specs.declared.number.BlkType.{BlkType}
use Rattle.blk_proto.specs.declared.number.BlkType.TheVariants as kind
use Rattle.blk_daemon.specs.declared.disk.Outcome.{Outcome}
use Rattle.blk_daemon.specs.Executed.{Executes, block_with}
use Rattle.blk_daemon.proofs.DiskLemmas.{unsupported_ends}
use Rattle.blk_daemon.proofs.disk.carry_out.Goals as goal

found_is : (r : Option BlkType) (n : ℕ) (t u : BlkType) → r ≡ Some t → t ≡ u → IfSome r (λ k. n ≡ type_number k) → n ≡ type_number u
found_is r n t u e f h = subst (λ k. n ≡ type_number k) f (subst (λ (o : Option BlkType). IfSome o (λ k. n ≡ type_number k)) e h)

pub returns-in-None-clause-executed : goal.returns-in-None-clause-executed
returns-in-None-clause-executed g c =
    let device = c.args.device.now in
    let header = c.args.header.now in
    subst (λ (o : Outcome). Executes g.I.Image.content g.I.Image.faults g.I.Image.flushes device.window device.offered device.name.now
    (block_with header.kind header.sector c.args.payload.now (length c.args.into.now)) o.failed c.args.disk.now c.args.disk.now
    (record { status = status_number o.status; bytes = c.args.into.now })) (sym c.of-in-None.ensures) (record {
      cause = λ e. absurd (true≢false (sym e));
      ends = λ disk is. unsupported_ends (g.I.Image.content c.args.disk.now) device.window header.kind header.sector (length c.args.into.now) c.args.payload.now c.args.into.now
          (λ e. let no = c.from_number.ensures.each kind.In e in cc)
          (λ e. let no = c.from_number.ensures.each kind.Out e in cc)
          (λ e. let no = c.from_number.ensures.each kind.Flush e in cc)
          (λ e. let no = c.from_number.ensures.each kind.GetId e in cc)
          c.requires.blank disk;
      flushed = λ e. let no = c.from_number.ensures.each kind.Flush e in absurd (cc);
      more_faults = omega arith;
      more_flushes = omega arith;
    })

pub returns-in-Some-In-clause-executed : goal.returns-in-Some-In-clause-executed
returns-in-Some-In-clause-executed g c =
    let device = c.args.device.now in
    let header = c.args.header.now in
    subst (λ k. Executes g.I.Image.content g.I.Image.faults g.I.Image.flushes device.window device.offered device.name.now
    (block_with k header.sector c.args.payload.now (length c.args.into.now)) c.read_sectors.result.failed c.args.disk.now c.read_sectors.new.disk
    (record { status = status_number c.read_sectors.result.status; bytes = c.read_sectors.new.into })) (sym (found_is c.from_number.result header.kind c.in-Some-In.field-0 kind.In c.in-Some-In.is c.in-Some-In.field-0-is c.from_number.ensures.found))
    (c.read_sectors.ensures.executed c.args.payload.now device.offered device.name.now)

pub returns-in-Some-Out-2-clause-executed : goal.returns-in-Some-Out-2-clause-executed
returns-in-Some-Out-2-clause-executed g c =
    let device = c.args.device.now in
    let header = c.args.header.now in
    subst (λ k. Executes g.I.Image.content g.I.Image.faults g.I.Image.flushes device.window device.offered device.name.now
    (block_with k header.sector c.args.payload.now (length c.args.into.now)) c.write_sectors.result.failed c.args.disk.now c.write_sectors.new.disk
    (record { status = status_number c.write_sectors.result.status; bytes = c.args.into.now })) (sym (found_is c.from_number.result header.kind c.in-Some-Out.field-0 kind.Out c.in-Some-Out.is c.in-Some-Out-2.field-0-is c.from_number.ensures.found))
    (subst (λ (bytes : List ℕ). Executes g.I.Image.content g.I.Image.faults g.I.Image.flushes device.window device.offered device.name.now
    (block_with 1 header.sector c.args.payload.now (length c.args.into.now)) c.write_sectors.result.failed c.args.disk.now c.write_sectors.new.disk
    (record { status = status_number c.write_sectors.result.status; bytes = bytes })) (sym c.requires.blank)
    (c.write_sectors.ensures.executed (length c.args.into.now) device.offered device.name.now (sym c.has_feature.ensures ∙ c.if-has_feature.false)))

pub returns-in-Some-Flush-clause-executed : goal.returns-in-Some-Flush-clause-executed
returns-in-Some-Flush-clause-executed g c =
    let device = c.args.device.now in
    let header = c.args.header.now in
    subst (λ k. Executes g.I.Image.content g.I.Image.faults g.I.Image.flushes device.window device.offered device.name.now
    (block_with k header.sector c.args.payload.now (length c.args.into.now)) c.flush.result.failed c.args.disk.now c.flush.new.disk
    (record { status = status_number c.flush.result.status; bytes = c.args.into.now })) (sym (found_is c.from_number.result header.kind c.in-Some-Flush.field-0 kind.Flush c.in-Some-Flush.is c.in-Some-Flush.field-0-is c.from_number.ensures.found))
    (subst (λ (bytes : List ℕ). Executes g.I.Image.content g.I.Image.faults g.I.Image.flushes device.window device.offered device.name.now
    (block_with 4 header.sector c.args.payload.now (length c.args.into.now)) c.flush.result.failed c.args.disk.now c.flush.new.disk
    (record { status = status_number c.flush.result.status; bytes = bytes })) (sym c.requires.blank)
    (c.flush.ensures.executed device.window header.sector (length c.args.into.now) device.offered c.args.payload.now device.name.now))
