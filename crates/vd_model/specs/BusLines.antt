-- The bus lines, with `timeout` and `take`: first words, what stands behind them and the name, and how a step is written.
use Rattle.std.specs.Prelude.{ℕ, List, [], ◌∷◌, codes, decimal, Option, find}
use Rattle.std.specs.Str.{bytes_eq}
use Rattle.vd_model.specs.Fields.{number_in, length_field, u64_field, u32_field, u16_field, flag_field, on_field}
use Rattle.vd_model.specs.Forms.{Form, no_more_words, one_field, two_fields, four_fields}
use Rattle.vd_model.specs.Text.{flag_text, on_text}
use Rattle.vd_model.specs.declared.word.TheConstants.{ALL_BUS_WORDS}
use Rattle.vd_model.specs.declared.word.BusWord.{BusWord}
use Rattle.vd_model.specs.declared.word.BusWord.TheVariants as words
use Rattle.vd_model.specs.declared.step.BusStep.{BusStep}
use Rattle.vd_model.specs.declared.step.BusStep.TheVariants.{Attach, Detach, Offered, SetFeatures, GetStatus, SetStatus, Reset, VqNum, VqAddr, VqReady, SetVqState, GetVqState, Kick, Callback, Irqs, GetConfig, Timeout, Take}

-- the word as it is written
unfoldable pub bus_word_text : BusWord → List ℕ
bus_word_text words.Attach = codes "attach"
bus_word_text words.Detach = codes "detach"
bus_word_text words.Offered = codes "offered"
bus_word_text words.SetFeatures = codes "setfeatures"
bus_word_text words.GetStatus = codes "getstatus"
bus_word_text words.SetStatus = codes "setstatus"
bus_word_text words.Reset = codes "reset"
bus_word_text words.VqNum = codes "vqnum"
bus_word_text words.VqAddr = codes "vqaddr"
bus_word_text words.VqReady = codes "vqready"
bus_word_text words.SetVqState = codes "setvqstate"
bus_word_text words.GetVqState = codes "getvqstate"
bus_word_text words.Kick = codes "kick"
bus_word_text words.Callback = codes "callback"
bus_word_text words.Irqs = codes "irqs"
bus_word_text words.GetConfig = codes "getconfig"
bus_word_text words.Timeout = codes "timeout"
bus_word_text words.Take = codes "take"

-- the first word that is written so
abbrev pub bus_word : List ℕ → Option BusWord
bus_word w = find (λ k. bytes_eq w (bus_word_text k)) ALL_BUS_WORDS

-- what stands behind the word and the device's name
abbrev pub bus_form : BusWord → Form BusStep
bus_form words.Attach = no_more_words Attach
bus_form words.Detach = no_more_words Detach
bus_form words.Offered = no_more_words Offered
bus_form words.SetFeatures = one_field u64_field SetFeatures
bus_form words.GetStatus = no_more_words GetStatus
bus_form words.SetStatus = one_field (number_in 1 255) SetStatus
bus_form words.Reset = no_more_words Reset
bus_form words.VqNum = two_fields u32_field u64_field VqNum
bus_form words.VqAddr = four_fields u32_field u64_field u64_field u64_field VqAddr
bus_form words.VqReady = two_fields u32_field flag_field VqReady
bus_form words.SetVqState = two_fields u32_field u16_field SetVqState
bus_form words.GetVqState = one_field u32_field GetVqState
bus_form words.Kick = one_field u32_field Kick
bus_form words.Callback = two_fields on_field flag_field Callback
bus_form words.Irqs = one_field on_field Irqs
bus_form words.GetConfig = two_fields u64_field length_field GetConfig
bus_form words.Timeout = one_field u32_field Timeout
bus_form words.Take = one_field u32_field Take

-- the words of a step's line, without the device's name
abbrev pub bus_text : BusStep → List (List ℕ)
bus_text Attach = bus_word_text words.Attach ∷ []
bus_text Detach = bus_word_text words.Detach ∷ []
bus_text Offered = bus_word_text words.Offered ∷ []
bus_text (SetFeatures features) = bus_word_text words.SetFeatures ∷ decimal features ∷ []
bus_text GetStatus = bus_word_text words.GetStatus ∷ []
bus_text (SetStatus status) = bus_word_text words.SetStatus ∷ decimal status ∷ []
bus_text Reset = bus_word_text words.Reset ∷ []
bus_text (VqNum queue num) = bus_word_text words.VqNum ∷ decimal queue ∷ decimal num ∷ []
bus_text (VqAddr queue desc driver device) = bus_word_text words.VqAddr ∷ decimal queue ∷ decimal desc ∷ decimal driver ∷ decimal device ∷ []
bus_text (VqReady queue flag) = bus_word_text words.VqReady ∷ decimal queue ∷ flag_text flag ∷ []
bus_text (SetVqState queue avail) = bus_word_text words.SetVqState ∷ decimal queue ∷ decimal avail ∷ []
bus_text (GetVqState queue) = bus_word_text words.GetVqState ∷ decimal queue ∷ []
bus_text (Kick queue) = bus_word_text words.Kick ∷ decimal queue ∷ []
bus_text (Callback on flag) = bus_word_text words.Callback ∷ on_text on ∷ flag_text flag ∷ []
bus_text (Irqs on) = bus_word_text words.Irqs ∷ on_text on ∷ []
bus_text (GetConfig offset len) = bus_word_text words.GetConfig ∷ decimal offset ∷ decimal len ∷ []
bus_text (Timeout seconds) = bus_word_text words.Timeout ∷ decimal seconds ∷ []
bus_text (Take id) = bus_word_text words.Take ∷ decimal id ∷ []
