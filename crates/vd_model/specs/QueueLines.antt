-- The lines on rings, chains and requests: first words, what stands behind them and the name, and how a step is written.
use Rattle.std.specs.Prelude.{ℕ, List, [], ◌∷◌, codes, decimal, map, Option, find}
use Rattle.std.specs.Str.{bytes_eq}
use Rattle.vd_model.specs.Fields.{u64_field, u32_field, u16_field}
use Rattle.vd_model.specs.Forms.{Form, ◌▹◌, form_as, one_field, two_fields, parts_form, submit_form}
use Rattle.vd_model.specs.Text.{part_text, submit_text}
use Rattle.vd_model.specs.declared.word.TheConstants.{ALL_QUEUE_WORDS}
use Rattle.vd_model.specs.declared.word.QueueWord.{QueueWord}
use Rattle.vd_model.specs.declared.word.QueueWord.TheVariants as words
use Rattle.vd_model.specs.declared.step.QueueStep.{QueueStep}
use Rattle.vd_model.specs.declared.step.QueueStep.TheVariants.{Walk, Fetch, Execute, Finish, Ring, Unring, Add, Publish, Submit, Poll}

-- the word as it is written
unfoldable pub queue_word_text : QueueWord → List ℕ
queue_word_text words.Walk = codes "walk"
queue_word_text words.Fetch = codes "fetch"
queue_word_text words.Execute = codes "execute"
queue_word_text words.Finish = codes "finish"
queue_word_text words.Ring = codes "ring"
queue_word_text words.Unring = codes "unring"
queue_word_text words.Add = codes "add"
queue_word_text words.Publish = codes "publish"
queue_word_text words.Submit = codes "submit"
queue_word_text words.Poll = codes "poll"

-- the first word that is written so
abbrev pub queue_word : List ℕ → Option QueueWord
queue_word w = find (λ k. bytes_eq w (queue_word_text k)) ALL_QUEUE_WORDS

-- what stands behind the word and the device's name
abbrev pub queue_form : QueueWord → Form QueueStep
queue_form words.Walk = two_fields u32_field u16_field Walk
queue_form words.Fetch = one_field u32_field Fetch
queue_form words.Execute = one_field u32_field Execute
queue_form words.Finish = one_field u32_field Finish
queue_form words.Ring = two_fields u32_field u64_field Ring
queue_form words.Unring = one_field u32_field Unring
queue_form words.Add = u32_field ▹ λ q. form_as (Add q) parts_form
queue_form words.Publish = one_field u32_field Publish
queue_form words.Submit = u32_field ▹ λ q. form_as (Submit q) submit_form
queue_form words.Poll = one_field u32_field Poll

-- the words of a step's line, without the device's name
abbrev pub queue_text : QueueStep → List (List ℕ)
queue_text (Walk queue head) = queue_word_text words.Walk ∷ decimal queue ∷ decimal head ∷ []
queue_text (Fetch queue) = queue_word_text words.Fetch ∷ decimal queue ∷ []
queue_text (Execute queue) = queue_word_text words.Execute ∷ decimal queue ∷ []
queue_text (Finish queue) = queue_word_text words.Finish ∷ decimal queue ∷ []
queue_text (Ring queue size) = queue_word_text words.Ring ∷ decimal queue ∷ decimal size ∷ []
queue_text (Unring queue) = queue_word_text words.Unring ∷ decimal queue ∷ []
queue_text (Add queue parts) = queue_word_text words.Add ∷ decimal queue ∷ map part_text parts
queue_text (Publish queue) = queue_word_text words.Publish ∷ decimal queue ∷ []
queue_text (Submit queue form) = queue_word_text words.Submit ∷ decimal queue ∷ submit_text form
queue_text (Poll queue) = queue_word_text words.Poll ∷ decimal queue ∷ []
