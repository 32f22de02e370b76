-- The control and clock lines: the first word of each, what stands behind it, and how the step's line is written.
use Rattle.std.specs.Prelude.{ℕ, List, [], ◌∷◌, codes, decimal, Option, find}
use Rattle.std.specs.Str.{bytes_eq}
use Rattle.vd_model.specs.Fields.{u64_field, u32_field, name_field, optional_hex_field}
use Rattle.vd_model.specs.Forms.{Form, no_more_words, one_field, two_fields, three_fields, seven_fields}
use Rattle.vd_model.specs.Text.{optional_hex_text}
use Rattle.vd_model.specs.declared.word.TheConstants.{ALL_CONTROL_WORDS}
use Rattle.vd_model.specs.declared.word.ControlWord.{ControlWord}
use Rattle.vd_model.specs.declared.word.ControlWord.TheVariants as words
use Rattle.vd_model.specs.declared.step.ControlStep.{ControlStep}
use Rattle.vd_model.specs.declared.step.ControlStep.TheVariants.{Version, SetVersion, Create, Destroy, Dev, Control, Tick, Image}

-- the word as it is written
unfoldable pub control_word_text : ControlWord → List ℕ
control_word_text words.Version = codes "version"
control_word_text words.SetVersion = codes "setversion"
control_word_text words.Create = codes "create"
control_word_text words.Destroy = codes "destroy"
control_word_text words.Dev = codes "dev"
control_word_text words.Control = codes "control"
control_word_text words.Tick = codes "tick"
control_word_text words.Image = codes "image"

-- the first word that is written so
abbrev pub control_word : List ℕ → Option ControlWord
control_word w = find (λ k. bytes_eq w (control_word_text k)) ALL_CONTROL_WORDS

-- what stands behind the word
abbrev pub control_form : ControlWord → Form ControlStep
control_form words.Version = no_more_words Version
control_form words.SetVersion = one_field u64_field SetVersion
control_form words.Create = seven_fields name_field u32_field u32_field u64_field u32_field u32_field optional_hex_field Create
control_form words.Destroy = one_field name_field Destroy
control_form words.Dev = one_field name_field Dev
control_form words.Control = two_fields u64_field optional_hex_field Control
control_form words.Tick = one_field u64_field Tick
control_form words.Image = three_fields name_field u64_field u64_field Image

-- the words of a step's line
abbrev pub control_text : ControlStep → List (List ℕ)
control_text Version = control_word_text words.Version ∷ []
control_text (SetVersion version) = control_word_text words.SetVersion ∷ decimal version ∷ []
control_text (Create name vendor device features queues align config) = control_word_text words.Create ∷ name ∷ decimal vendor ∷ decimal device ∷ decimal features ∷ decimal queues ∷ decimal align ∷ optional_hex_text config ∷ []
control_text (Destroy name) = control_word_text words.Destroy ∷ name ∷ []
control_text (Dev name) = control_word_text words.Dev ∷ name ∷ []
control_text (Control number bytes) = control_word_text words.Control ∷ decimal number ∷ optional_hex_text bytes ∷ []
control_text (Tick seconds) = control_word_text words.Tick ∷ decimal seconds ∷ []
control_text (Image name first count) = control_word_text words.Image ∷ name ∷ decimal first ∷ decimal count ∷ []
