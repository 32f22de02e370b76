-- The lines of the group area, row by row: the first word is known again, and what stands behind is read again.
use Rattle.std.proofs.Common.{refl}
use Rattle.vd_model.specs.declared.word.Keyword.TheVariants as first
use Rattle.vd_model.specs.declared.word.AreaWord.{AreaWord}
use Rattle.vd_model.specs.declared.word.AreaWord.TheVariants as words
use Rattle.vd_model.specs.declared.step.AreaStep.TheVariants.{Lookup, IovaInfo, Area, AreaPut, AreaGet, RegUmem, DeregUmem, Load, Store}
use Rattle.vd_model.specs.ControlLines.{control_word_text}
use Rattle.vd_model.specs.NodeLines.{node_word_text}
use Rattle.vd_model.specs.AreaLines.{area_word_text}
use Rattle.vd_model.specs.BusLines.{bus_word_text}
use Rattle.vd_model.specs.DriverLines.{driver_word_text}
use Rattle.vd_model.specs.QueueLines.{queue_word_text}
use Rattle.vd_model.specs.AreaLines.{area_form, area_text}
use Rattle.vd_script.proofs.Kept.{u64_kept, hex_kept}
use Rattle.vd_script.proofs.FormsKept.{one_field_kept, two_fields_kept, three_fields_kept}
use Rattle.vd_script.proofs.RowKept.{RowKept, row, bounded}

pub area_row : (k : AreaWord) → RowKept (first.Area k) (area_word_text k) (area_form k) area_text
unfolding control_word_text node_word_text area_word_text bus_word_text driver_word_text queue_word_text
area_row words.Lookup = row refl refl (two_fields_kept u64_kept u64_kept Lookup (λ a b. refl))
area_row words.IovaInfo = row refl refl (two_fields_kept u64_kept u64_kept IovaInfo (λ a b. refl))
area_row words.Area = row refl refl (one_field_kept u64_kept Area (λ a. refl))
area_row words.AreaPut = row refl refl (two_fields_kept u64_kept hex_kept AreaPut (λ a b. refl))
area_row words.AreaGet = row refl refl (two_fields_kept u64_kept (bounded 1 32768 refl) AreaGet (λ a b. refl))
area_row words.RegUmem = row refl refl (three_fields_kept u64_kept u64_kept u64_kept RegUmem (λ a b c. refl))
area_row words.DeregUmem = row refl refl (two_fields_kept u64_kept u64_kept DeregUmem (λ a b. refl))
area_row words.Load = row refl refl (two_fields_kept u64_kept (bounded 1 32768 refl) Load (λ a b. refl))
area_row words.Store = row refl refl (two_fields_kept u64_kept hex_kept Store (λ a b. refl))
