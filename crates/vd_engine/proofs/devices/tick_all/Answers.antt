use Rattle.std.proofs.Common.{refl, arith, ◌<◌, length}
use Rattle.std.proofs.lemmas.Option.{slice_get_within}
use Rattle.vd_engine.proofs.AfterTick.{told_more, others_more, count_more}
use Rattle.vd_engine.proofs.devices.tick_all.Goals as goal

pub loop-named-preserved : goal.loop-named-preserved
loop-named-preserved c =
    let l = c.loop-named in
    let i = l.invariant in
    let under : c.loop-named.named-index < length c.loop-named.devices = omega arith in
    record {
      count = count_more c.args.devices.now l.devices l.named-index _ i.count;
      told = told_more c.args.now c.args.devices.now l.devices l.named-index c.named-item.result _ under i.told i.others
          (record { name = refl; stands = c.tick.ensures.stands; memory = c.tick.ensures.memory; named = c.tick.ensures.named; within = c.tick.ensures.within });
      others = others_more c.args.devices.now l.devices l.named-index _ i.others;
    }

pub returns : goal.returns
returns c = record {
  count = c.loop-named.invariant.count;
  each = λ i a d at here. c.loop-named.invariant.told i a d (let under = slice_get_within c.args.devices.now i a at in omega arith) at here;
}
