-- The lines of the group queue, row by row: the first word is known again, and what stands behind is read again.
use Rattle.std.proofs.Common.{refl}
use Rattle.vd_model.specs.declared.word.Keyword.TheVariants as first
use Rattle.vd_model.specs.declared.word.QueueWord.{QueueWord}
use Rattle.vd_model.specs.declared.word.QueueWord.TheVariants as words
use Rattle.vd_model.specs.declared.step.QueueStep.TheVariants.{Walk, Fetch, Execute, Finish, Ring, Unring, Add, Publish, Submit, Poll}
use Rattle.vd_model.specs.ControlLines.{control_word_text}
use Rattle.vd_model.specs.NodeLines.{node_word_text}
use Rattle.vd_model.specs.AreaLines.{area_word_text}
use Rattle.vd_model.specs.BusLines.{bus_word_text}
use Rattle.vd_model.specs.DriverLines.{driver_word_text}
use Rattle.vd_model.specs.QueueLines.{queue_word_text}
use Rattle.vd_model.specs.QueueLines.{queue_form, queue_text}
use Rattle.vd_script.proofs.Kept.{u64_kept, u32_kept, u16_kept}
use Rattle.vd_script.proofs.FormsKept.{field_kept, one_field_kept, two_fields_kept}
use Rattle.vd_script.proofs.PartsKept.{form_as_kept, parts_kept, submit_kept}
use Rattle.vd_script.proofs.RowKept.{RowKept, row}

pub queue_row : (k : QueueWord) → RowKept (first.Queue k) (queue_word_text k) (queue_form k) queue_text
unfolding control_word_text node_word_text area_word_text bus_word_text driver_word_text queue_word_text
queue_row words.Walk = row refl refl (two_fields_kept u32_kept u16_kept Walk (λ a b. refl))
queue_row words.Fetch = row refl refl (one_field_kept u32_kept Fetch (λ a. refl))
queue_row words.Execute = row refl refl (one_field_kept u32_kept Execute (λ a. refl))
queue_row words.Finish = row refl refl (one_field_kept u32_kept Finish (λ a. refl))
queue_row words.Ring = row refl refl (two_fields_kept u32_kept u64_kept Ring (λ a b. refl))
queue_row words.Unring = row refl refl (one_field_kept u32_kept Unring (λ a. refl))
queue_row words.Add = row refl refl (field_kept u32_kept (λ q. form_as_kept (Add q) (parts_kept (λ x. refl))))
queue_row words.Publish = row refl refl (one_field_kept u32_kept Publish (λ a. refl))
queue_row words.Submit = row refl refl (field_kept u32_kept (λ q. form_as_kept (Submit q) (submit_kept (λ x. refl))))
queue_row words.Poll = row refl refl (one_field_kept u32_kept Poll (λ a. refl))
