use Rattle.vd_model.specs.Text.{part_text}
use Rattle.vd_script.proofs.Lines.{words_step}
use Rattle.vd_script.proofs.put.put_parts.Goals as goal

pub loop-part-preserved : goal.loop-part-preserved
loop-part-preserved c = words_step part_text c.args.into.now c.loop-part.into c.put_part.new.into c.as_slice-part-items.result.now c.loop-part.part-index _ c.loop-part-test.true c.loop-part.invariant c.in_ok-put_part.ensures
