use Rattle.std.proofs.Common.{◌≡◌, ◌+◌, ap, sym, ◌∙◌, false, Option, drop}
use Rattle.vd_model.specs.declared.memory.Region.{Region}
use Rattle.vd_model.specs.AreaTurns.{overlaps}
use Rattle.vd_domain.specs.Lookup.{lower_or}
use Rattle.vd_domain.proofs.LookedUp.{meets_both, ends_before, begins_after}
use Rattle.vd_domain.proofs.Passed.{first_of_regions, first_met, first_missed, first_past, lie_at}
use Rattle.vd_domain.proofs.domain.coherent.first_in.Goals as goal
use Rattle.vd_domain.proofs.domain.coherent.first_in.Goals.{then-region-range+then-range-region, else-region-range, else-region-range-via-then-region-range+else-range-region, else-region-range-via-else-region-range}

pub whole-region-requires : goal.whole-region-requires
whole-region-requires c = lie_at c.loop-entry.entry-index c.args.extents.now _ c.loop-entry-test.true c.requires

pub loop-entry-preserved : goal.loop-entry-preserved
loop-entry-preserved c = elim c.if-region-range.branch [
  | then-region-range+then-range-region w ↦
      first_met c.args.range.start c.args.range.last c.loop-entry.entry-index c.loop-entry.lowest _ c.args.extents.now _ c.whole-region.result
      c.loop-entry-test.true (c.whole-region.ensures 0)
      (meets_both c.args.range.start c.args.range.last c.whole-region.result w.if-region-range.true w.if-range-region.true)
      (w.lowest-is ∙ w.lower-lowest.ensures) ∙ c.loop-entry.invariant
  | else-region-range w ↦
      let miss : overlaps c.args.range.start c.args.range.last c.whole-region.result ≡ false = elim w.else-region-range.branch [
        | else-region-range-via-then-region-range+else-range-region v ↦ ends_before c.args.range.start c.args.range.last c.whole-region.result v.if-range-region.false
        | else-region-range-via-else-region-range v ↦ begins_after c.args.range.start c.args.range.last c.whole-region.result v.if-region-range.false
      ] in
      ap (λ (o : Option Region). lower_or o (first_of_regions c.args.range.start c.args.range.last (drop (c.loop-entry.entry-index + 1) c.args.extents.now))) w.lowest-is
      ∙ first_missed c.args.range.start c.args.range.last c.loop-entry.entry-index c.loop-entry.lowest c.args.extents.now _ c.whole-region.result
      c.loop-entry-test.true (c.whole-region.ensures 0) miss
      ∙ c.loop-entry.invariant
]

pub returns : goal.returns
returns c =
    sym (first_past c.args.range.start c.args.range.last c.loop-entry.entry-index c.loop-entry.lowest c.args.extents.now c.loop-entry-test.false) ∙ c.loop-entry.invariant
