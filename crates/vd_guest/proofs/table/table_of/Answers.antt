use Rattle.std.proofs.Common.{◌≡◌, ◌-◌, ◌↔◌, Bool, true, false, refl, ap, arith}
use Rattle.std.specs.Prelude.{Ok, Err}
use Rattle.vd_model.specs.declared.memory.Region.{Region}
use Rattle.vd_regions.specs.declared.regions.AddRegionError.TheVariants as AddRegionError
use Rattle.vd_guest.proofs.Tables.{loop_goes_on, loop_ends}
use Rattle.vd_guest.proofs.table.table_of.Goals as goal

none_meets : {X : Type 0} (value : X) (test : Bool) → ((Ok value ≡ Err AddRegionError.Overlap) ↔ (test ≡ true)) → test ≡ false
none_meets value false overlap = refl
none_meets value true overlap = absurd (let h : Ok value ≡ Err AddRegionError.Overlap = overlap.1 refl in cc)

nothing : Region
nothing = record { start = 0; last = 0; offset = 0; perm = 0 }

pub loop-left-preserved : goal.loop-left-preserved
unfolding nothing
loop-left-preserved c =
    let some = c.loop-left-test.true in
    let within = c.loop-left.invariant.within in
    record {
      within = omega arith;
      good = c.loop-left.invariant.good;
      table = loop_goes_on c.args.size c.args.spans.now _ c.add.new.self (c.loop-left.left - 1) c.loop-left.left nothing (omega arith) within c.loop-left.invariant.good c.loop-left.invariant.table
          (none_meets _ _ c.in-Ok.ensures.overlap) c.in-Ok.ensures.ok;
    }

pub returns-in-Err-Overlap : goal.returns-in-Err-Overlap
unfolding nothing
returns-in-Err-Overlap c =
    let some = c.loop-left-test.true in
    let within = c.loop-left.invariant.within in
    loop_ends c.args.size c.args.spans.now _ (c.loop-left.left - 1) c.loop-left.left nothing (omega arith) within c.loop-left.invariant.table (c.in-Err-Overlap.ensures.overlap.0 (ap (λ e. Err e) c.in-Err-Overlap.field-0-is))
