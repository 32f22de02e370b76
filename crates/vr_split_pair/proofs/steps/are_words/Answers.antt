use Rattle.vr_split_pair.proofs.Moves.{next_word}
use Rattle.vr_split_pair.proofs.steps.are_words.Goals as goal

pub loop-part-preserved : goal.loop-part-preserved
loop-part-preserved c = next_word c.args.parts.now c.loop-part.part-index _ c.loop-part-test.true c.is_word.ensures c.loop-part.invariant
