use Rattle.std.proofs.Common.{◌≡◌, ◌-◌, ◌++◌, List, subst, ◌∙◌, arith}
use Rattle.vd_model.specs.Acts.{Act}
use Rattle.vd_model.specs.Live.{live_mappings}
use Rattle.vd_model.specs.RingTurns.{unmap_acts}
use Rattle.blk_driver.specs.Driver.{numbers_from}
use Rattle.blk_driver.proofs.Unmapping.{one_more}
use Rattle.blk_driver.proofs.pending.Pending.unmap.Goals as goal

pub loop-number-preserved : goal.loop-number-preserved
loop-number-preserved g c = record {
  unmapped = λ x acts stands. subst (λ (done : List Act). g.P.Dma.stands c.unmap.new.self x done)
      (one_more c.args.self.now.first_map c.loop-number.number acts c.loop-number.auto.number)
      (c.unmap.ensures.unmapped x _ (c.loop-number.invariant.unmapped x acts stands));
  memory = record {
    same_told = c.unmap.ensures.memory.same_told ∙ c.loop-number.invariant.memory.same_told;
    same_span = c.unmap.ensures.memory.same_span ∙ c.loop-number.invariant.memory.same_span;
    kept = g.met.P.Dma.rest_trans _ _ _ c.loop-number.invariant.memory.kept c.unmap.ensures.memory.kept;
  };
  low = omega (arith, c.loop-number-test.true, c.loop-number.auto.number);
}

pub returns-clause-unmapped : goal.returns-clause-unmapped
returns-clause-unmapped g c x acts stands =
    let all : c.loop-number.number - c.args.self.now.first_map ≡ c.args.self.now.end_map - c.args.self.now.first_map =
    omega (arith, c.loop-number-test.false, c.loop-number.invariant.low) in
    subst (λ k. g.P.Dma.stands c.loop-number.port x (unmap_acts (live_mappings acts) (numbers_from c.args.self.now.first_map k) ++ acts)) all
    (c.loop-number.invariant.unmapped x acts stands)
