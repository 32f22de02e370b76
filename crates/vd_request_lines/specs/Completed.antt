-- What a poll is answered.
use Rattle.std.specs.Prelude.{ℕ, List, [], ◌∷◌, Option, Some, None, Result, Ok, Err, if◌then◌else◌}
use Rattle.vd_num.specs.declared.errno.Errno.TheVariants.{Again}
use Rattle.vd_model.specs.declared.answer.Answer.{Answer}
use Rattle.vd_model.specs.declared.answer.Answer.TheVariants as answer
use Rattle.vd_model.specs.declared.answer.Item.{Item}
use Rattle.vd_model.specs.declared.answer.Item.TheVariants.{Word, Number}
use Rattle.vd_model.specs.declared.answer.Tag.TheVariants as tag
use Rattle.vr_driver.specs.declared.completion.UsedError.{UsedError}
use Rattle.vr_driver.specs.declared.completion.UsedError.TheVariants.{BadId, TooFarAhead}
use Rattle.blk_driver.specs.declared.driver.Polled.{Polled}
use Rattle.blk_driver.specs.declared.driver.Made.{Made}

-- the status of a request, or a dash where fewer bytes were used than the device was to write
abbrev pub status_items : Option Made → Polled → ℕ → List Item
status_items None p status = []
status_items (Some made) p status = Word tag.Status ∷ (if p.complete then Number status else Word tag.Dash) ∷ []

abbrev pub used_answer : Polled → ℕ → Answer
used_answer p status = answer.Done (Word tag.Head ∷ Number p.head ∷ Word tag.Len ∷ Number p.len ∷ status_items p.made p status)

-- a used chain, none, an id that is no head of a published chain, or an index that is too far ahead
abbrev pub completion_answer : Result (Option Polled) UsedError → ℕ → Answer
completion_answer (Ok (Some p)) status = used_answer p status
completion_answer (Ok None) status = answer.Err Again
completion_answer (Err (BadId id)) status = answer.BadId id
completion_answer (Err (TooFarAhead used published)) status = answer.UsedAhead used published
