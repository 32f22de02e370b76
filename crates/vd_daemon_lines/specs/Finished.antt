-- What is told of a finish.
use Rattle.std.specs.Prelude.{◌∷◌, [], if◌then◌else◌, Result, Ok, Err}
use Rattle.vd_num.specs.declared.errno.Errno.TheVariants.{Noent}
use Rattle.vd_model.specs.declared.answer.Item.TheVariants.{Word, Number}
use Rattle.vd_model.specs.declared.answer.Tag.TheVariants as tag
use Rattle.vd_model.specs.declared.answer.Answer.{Answer}
use Rattle.vd_model.specs.declared.answer.Answer.TheVariants as answer
use Rattle.blk_daemon.specs.declared.error.FinishError.{FinishError}
use Rattle.blk_daemon.specs.declared.error.FinishError.TheVariants.{NoRequest, Bus}
use Rattle.blk_daemon.specs.declared.finish.Finished.{Finished}

-- how many bytes were written and whether the driver is interrupted, or why nothing is finished
abbrev pub finish_answer : Result Finished FinishError → Answer
finish_answer (Ok f) = answer.Done (Word tag.Len ∷ Number f.len ∷ Word tag.Irq ∷ Number (if f.irq then 1 else 0) ∷ [])
finish_answer (Err NoRequest) = answer.Err Noent
finish_answer (Err (Bus at)) = answer.Bus at
