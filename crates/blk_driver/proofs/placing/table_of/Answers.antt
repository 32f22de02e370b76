use Rattle.std.proofs.Common.{◌≡◌, length, get_or, refl, ap, ◌∙◌, arith, false}
use Rattle.vd_model.specs.declared.parts.Part.{Part}
use Rattle.vd_model.specs.declared.descriptor.Descriptor.{Descriptor}
use Rattle.blk_driver.proofs.Tables.{next_row, next_of_more, next_of_last}
use Rattle.blk_driver.proofs.placing.table_of.Goals as goal
use Rattle.blk_driver.proofs.placing.table_of.Goals.{then-has_next, else-has_next}

none : Part
none = record { at = 0; len = 0; writable = false }

pub loop-k-preserved : goal.loop-k-preserved
unfolding none
loop-k-preserved c =
    let here = get_or c.args.parts.now c.loop-k.k none in
    let d : Descriptor = record { at = here.at; len = here.len; flags = c.flags.result; next = c.if-has_next.d } in
    let row = c.copy_from_slice.ensures.after ∙ c.encode.ensures in
    let size : length c.copy_from_slice.new.self ≡ 16 = ap length row in
    elim c.if-has_next.branch [
      | then-has_next w ↦ next_row c.loop-k.k _ c.args.parts.now c.loop-k.bytes c.copy_from_slice.new.self none d c.loop-k-test.true (omega arith) size
          row refl refl c.flags.ensures (w.d-is ∙ next_of_more c.loop-k.k (length c.args.parts.now) w.if-has_next.true) c.loop-k.invariant
      | else-has_next w ↦ next_row c.loop-k.k _ c.args.parts.now c.loop-k.bytes c.copy_from_slice.new.self none d c.loop-k-test.true (omega arith) size
          row refl refl c.flags.ensures (w.d-is ∙ next_of_last c.loop-k.k (length c.args.parts.now) w.if-has_next.false) c.loop-k.invariant
    ]
