-- Which lines flush the image.
use Rattle.std.specs.Prelude.{ℕ, ◌==◌, List, [], ◌∷◌, Bool, false, ◌&&◌}
use Rattle.std.specs.Option.{option_map_or}
use Rattle.vd_model.specs.declared.answer.Answer.{Answer}
use Rattle.vd_model.specs.declared.answer.Answer.TheVariants.{Done}
use Rattle.vd_model.specs.declared.answer.Item.TheVariants.{Word, Number}
use Rattle.vd_model.specs.declared.answer.Tag.TheVariants as tag
use Rattle.vd_model.specs.declared.step.QueueStep.{QueueStep}
use Rattle.vd_model.specs.declared.step.QueueStep.TheVariants.{Execute}
use Rattle.vd_model.specs.Setting.{Setting}
use Rattle.vd_model.specs.Acts.{Act}
use Rattle.vd_model.specs.Block.{block_of}
use Rattle.vd_model.specs.Queues.{in_hand}
use Rattle.vd_model.specs.DaemonTurns.{hand}

-- the request in hand on a queue is a flush (type 4)
abbrev pub holds_flush : Setting → List Act → ℕ → Bool
holds_flush x acts q = option_map_or (λ earlier. (block_of (hand x earlier q).bytes (hand x earlier q).writable).kind == 4) (in_hand acts q) false

-- the answer tells status 0
abbrev pub is_fine : Answer → Bool
is_fine (Done (Word tag.Status ∷ Number status ∷ [])) = status == 0
is_fine _ = false

-- a line that is answered so after these acts executed a flush with status 0
abbrev pub is_flush : Setting → List Act → QueueStep → Answer → Bool
is_flush x acts (Execute queue) answer = holds_flush x acts queue && is_fine answer
is_flush x acts step answer = false
