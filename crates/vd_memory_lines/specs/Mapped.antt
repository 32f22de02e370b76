-- What is told where something was mapped.
use Rattle.std.specs.Prelude.{[], ◌∷◌, Result, Ok, Err, IsOk, IsErr}
use Rattle.vd_num.specs.declared.errno.Errno.TheVariants.{Inval, Nospc}
use Rattle.vd_model.specs.declared.memory.Mapping.{Mapping}
use Rattle.vd_model.specs.declared.memory.MapError.{MapError}
use Rattle.vd_model.specs.declared.memory.MapError.TheVariants.{Empty, NoSpace, Memory}
use Rattle.vd_model.specs.declared.answer.Answer.{Answer}
use Rattle.vd_model.specs.declared.answer.Answer.TheVariants as answer
use Rattle.vd_model.specs.declared.answer.Item.TheVariants.{Word, Number, Address}
use Rattle.vd_model.specs.declared.answer.Tag.TheVariants.{Iova}

-- its number and address, or the refusal; for want of memory nothing is told
abbrev pub TellsMapped : {E : Type 0} → (Answer → Type 0) → Result Mapping MapError → Result (Unit {0}) E → Type 0
TellsMapped heard (Ok m) r = IsOk r × heard (answer.Done (Number m.number ∷ Word Iova ∷ Address m.iova ∷ []))
TellsMapped heard (Err Empty) r = IsOk r × heard (answer.Err Inval)
TellsMapped heard (Err NoSpace) r = IsOk r × heard (answer.Err Nospc)
TellsMapped heard (Err Memory) r = IsErr r
