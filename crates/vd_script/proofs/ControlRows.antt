-- The lines of the group control, row by row: the first word is known again, and what stands behind is read again.
use Rattle.std.proofs.Common.{refl}
use Rattle.vd_model.specs.declared.word.Keyword.TheVariants as first
use Rattle.vd_model.specs.declared.word.ControlWord.{ControlWord}
use Rattle.vd_model.specs.declared.word.ControlWord.TheVariants as words
use Rattle.vd_model.specs.declared.step.ControlStep.TheVariants.{Version, SetVersion, Create, Destroy, Dev, Control, Tick, Image}
use Rattle.vd_model.specs.ControlLines.{control_word_text}
use Rattle.vd_model.specs.NodeLines.{node_word_text}
use Rattle.vd_model.specs.AreaLines.{area_word_text}
use Rattle.vd_model.specs.BusLines.{bus_word_text}
use Rattle.vd_model.specs.DriverLines.{driver_word_text}
use Rattle.vd_model.specs.QueueLines.{queue_word_text}
use Rattle.vd_model.specs.ControlLines.{control_form, control_text}
use Rattle.vd_script.proofs.Kept.{u64_kept, u32_kept, name_kept, optional_hex_kept}
use Rattle.vd_script.proofs.FormsKept.{no_more_words_kept, one_field_kept, two_fields_kept, three_fields_kept, seven_fields_kept}
use Rattle.vd_script.proofs.RowKept.{RowKept, row}

pub control_row : (k : ControlWord) → RowKept (first.Control k) (control_word_text k) (control_form k) control_text
unfolding control_word_text node_word_text area_word_text bus_word_text driver_word_text queue_word_text
control_row words.Version = row refl refl (no_more_words_kept Version refl)
control_row words.SetVersion = row refl refl (one_field_kept u64_kept SetVersion (λ a. refl))
control_row words.Create = row refl refl (seven_fields_kept name_kept u32_kept u32_kept u64_kept u32_kept u32_kept optional_hex_kept Create (λ a b c d e f g. refl))
control_row words.Destroy = row refl refl (one_field_kept name_kept Destroy (λ a. refl))
control_row words.Dev = row refl refl (one_field_kept name_kept Dev (λ a. refl))
control_row words.Control = row refl refl (two_fields_kept u64_kept optional_hex_kept Control (λ a b. refl))
control_row words.Tick = row refl refl (one_field_kept u64_kept Tick (λ a. refl))
control_row words.Image = row refl refl (three_fields_kept name_kept u64_kept u64_kept Image (λ a b c. refl))
