-- The lines of the group driver, row by row: the first word is known again, and what stands behind is read again.
use Rattle.std.proofs.Common.{◌-◌, ◌^◌, refl}
use Rattle.vd_model.specs.declared.word.Keyword.TheVariants as first
use Rattle.vd_model.specs.declared.word.DriverWord.{DriverWord}
use Rattle.vd_model.specs.declared.word.DriverWord.TheVariants as words
use Rattle.vd_model.specs.declared.step.DriverStep.TheVariants.{Buf, Zeros, Free, Poke, Peek, Map, Unmap, SyncDev, SyncCpu, Coherent, FreeCoherent, Cput, Cget}
use Rattle.vd_model.specs.ControlLines.{control_word_text}
use Rattle.vd_model.specs.NodeLines.{node_word_text}
use Rattle.vd_model.specs.AreaLines.{area_word_text}
use Rattle.vd_model.specs.BusLines.{bus_word_text}
use Rattle.vd_model.specs.DriverLines.{driver_word_text}
use Rattle.vd_model.specs.QueueLines.{queue_word_text}
use Rattle.vd_model.specs.DriverLines.{driver_form, driver_text}
use Rattle.vd_script.proofs.Kept.{u64_kept, hex_kept, dir_kept}
use Rattle.vd_script.proofs.FormsKept.{one_field_kept, three_fields_kept, four_fields_kept}
use Rattle.vd_script.proofs.RowKept.{RowKept, row, bounded}

pub driver_row : (k : DriverWord) → RowKept (first.Driver k) (driver_word_text k) (driver_form k) driver_text
unfolding control_word_text node_word_text area_word_text bus_word_text driver_word_text queue_word_text
driver_row words.Buf = row refl refl (one_field_kept hex_kept Buf (λ a. refl))
driver_row words.Zeros = row refl refl (one_field_kept (bounded 1 (2 ^ 64 - 1) refl) Zeros (λ a. refl))
driver_row words.Free = row refl refl (one_field_kept u64_kept Free (λ a. refl))
driver_row words.Poke = row refl refl (three_fields_kept u64_kept u64_kept hex_kept Poke (λ a b c. refl))
driver_row words.Peek = row refl refl (three_fields_kept u64_kept u64_kept (bounded 1 32768 refl) Peek (λ a b c. refl))
driver_row words.Map = row refl refl (four_fields_kept u64_kept u64_kept u64_kept dir_kept Map (λ a b c d. refl))
driver_row words.Unmap = row refl refl (one_field_kept u64_kept Unmap (λ a. refl))
driver_row words.SyncDev = row refl refl (one_field_kept u64_kept SyncDev (λ a. refl))
driver_row words.SyncCpu = row refl refl (one_field_kept u64_kept SyncCpu (λ a. refl))
driver_row words.Coherent = row refl refl (one_field_kept u64_kept Coherent (λ a. refl))
driver_row words.FreeCoherent = row refl refl (one_field_kept u64_kept FreeCoherent (λ a. refl))
driver_row words.Cput = row refl refl (three_fields_kept u64_kept u64_kept hex_kept Cput (λ a b c. refl))
driver_row words.Cget = row refl refl (three_fields_kept u64_kept u64_kept (bounded 1 32768 refl) Cget (λ a b c. refl))
