-- The lines of the group bus, row by row: the first word is known again, and what stands behind is read again.
use Rattle.std.proofs.Common.{refl}
use Rattle.vd_model.specs.declared.word.Keyword.TheVariants as first
use Rattle.vd_model.specs.declared.word.BusWord.{BusWord}
use Rattle.vd_model.specs.declared.word.BusWord.TheVariants as words
use Rattle.vd_model.specs.declared.step.BusStep.TheVariants.{Attach, Detach, Offered, SetFeatures, GetStatus, SetStatus, Reset, VqNum, VqAddr, VqReady, SetVqState, GetVqState, Kick, Callback, Irqs, GetConfig, Timeout, Take}
use Rattle.vd_model.specs.ControlLines.{control_word_text}
use Rattle.vd_model.specs.NodeLines.{node_word_text}
use Rattle.vd_model.specs.AreaLines.{area_word_text}
use Rattle.vd_model.specs.BusLines.{bus_word_text}
use Rattle.vd_model.specs.DriverLines.{driver_word_text}
use Rattle.vd_model.specs.QueueLines.{queue_word_text}
use Rattle.vd_model.specs.BusLines.{bus_form, bus_text}
use Rattle.vd_script.proofs.Kept.{u64_kept, u32_kept, u16_kept, flag_kept, on_kept}
use Rattle.vd_script.proofs.FormsKept.{no_more_words_kept, one_field_kept, two_fields_kept, four_fields_kept}
use Rattle.vd_script.proofs.RowKept.{RowKept, row, bounded}

pub bus_row : (k : BusWord) → RowKept (first.Bus k) (bus_word_text k) (bus_form k) bus_text
unfolding control_word_text node_word_text area_word_text bus_word_text driver_word_text queue_word_text
bus_row words.Attach = row refl refl (no_more_words_kept Attach refl)
bus_row words.Detach = row refl refl (no_more_words_kept Detach refl)
bus_row words.Offered = row refl refl (no_more_words_kept Offered refl)
bus_row words.SetFeatures = row refl refl (one_field_kept u64_kept SetFeatures (λ a. refl))
bus_row words.GetStatus = row refl refl (no_more_words_kept GetStatus refl)
bus_row words.SetStatus = row refl refl (one_field_kept (bounded 1 255 refl) SetStatus (λ a. refl))
bus_row words.Reset = row refl refl (no_more_words_kept Reset refl)
bus_row words.VqNum = row refl refl (two_fields_kept u32_kept u64_kept VqNum (λ a b. refl))
bus_row words.VqAddr = row refl refl (four_fields_kept u32_kept u64_kept u64_kept u64_kept VqAddr (λ a b c d. refl))
bus_row words.VqReady = row refl refl (two_fields_kept u32_kept flag_kept VqReady (λ a b. refl))
bus_row words.SetVqState = row refl refl (two_fields_kept u32_kept u16_kept SetVqState (λ a b. refl))
bus_row words.GetVqState = row refl refl (one_field_kept u32_kept GetVqState (λ a. refl))
bus_row words.Kick = row refl refl (one_field_kept u32_kept Kick (λ a. refl))
bus_row words.Callback = row refl refl (two_fields_kept on_kept flag_kept Callback (λ a b. refl))
bus_row words.Irqs = row refl refl (one_field_kept on_kept Irqs (λ a. refl))
bus_row words.GetConfig = row refl refl (two_fields_kept u64_kept (bounded 1 32768 refl) GetConfig (λ a b. refl))
bus_row words.Timeout = row refl refl (one_field_kept u32_kept Timeout (λ a. refl))
bus_row words.Take = row refl refl (one_field_kept u32_kept Take (λ a. refl))
