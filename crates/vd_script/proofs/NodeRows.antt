-- The lines of the group node, row by row: the first word is known again, and what stands behind is read again.
use Rattle.std.proofs.Common.{refl}
use Rattle.vd_model.specs.declared.word.Keyword.TheVariants as first
use Rattle.vd_model.specs.declared.word.NodeWord.{NodeWord}
use Rattle.vd_model.specs.declared.word.NodeWord.TheVariants as words
use Rattle.vd_model.specs.declared.step.NodeStep.TheVariants.{Open, Close, Features, SetConfig, ConfigIrq, VqSetup, VqInfo, KickFd, Kicks, Irq, Recv, Answer, Read, Write, Ioctl}
use Rattle.vd_model.specs.ControlLines.{control_word_text}
use Rattle.vd_model.specs.NodeLines.{node_word_text}
use Rattle.vd_model.specs.AreaLines.{area_word_text}
use Rattle.vd_model.specs.BusLines.{bus_word_text}
use Rattle.vd_model.specs.DriverLines.{driver_word_text}
use Rattle.vd_model.specs.QueueLines.{queue_word_text}
use Rattle.vd_model.specs.NodeLines.{node_form, node_text}
use Rattle.vd_script.proofs.Kept.{u64_kept, u32_kept, u16_kept, hex_kept, optional_hex_kept, flag_kept}
use Rattle.vd_script.proofs.FormsKept.{no_more_words_kept, one_field_kept, two_fields_kept, three_fields_kept}
use Rattle.vd_script.proofs.RowKept.{RowKept, row}

pub node_row : (k : NodeWord) → RowKept (first.Node k) (node_word_text k) (node_form k) node_text
unfolding control_word_text node_word_text area_word_text bus_word_text driver_word_text queue_word_text
node_row words.Open = row refl refl (no_more_words_kept Open refl)
node_row words.Close = row refl refl (no_more_words_kept Close refl)
node_row words.Features = row refl refl (no_more_words_kept Features refl)
node_row words.SetConfig = row refl refl (two_fields_kept u64_kept hex_kept SetConfig (λ a b. refl))
node_row words.ConfigIrq = row refl refl (no_more_words_kept ConfigIrq refl)
node_row words.VqSetup = row refl refl (two_fields_kept u32_kept u16_kept VqSetup (λ a b. refl))
node_row words.VqInfo = row refl refl (one_field_kept u32_kept VqInfo (λ a. refl))
node_row words.KickFd = row refl refl (two_fields_kept u32_kept flag_kept KickFd (λ a b. refl))
node_row words.Kicks = row refl refl (one_field_kept u32_kept Kicks (λ a. refl))
node_row words.Irq = row refl refl (one_field_kept u32_kept Irq (λ a. refl))
node_row words.Recv = row refl refl (no_more_words_kept Recv refl)
node_row words.Answer = row refl refl (three_fields_kept u32_kept u32_kept u16_kept Answer (λ a b c. refl))
node_row words.Read = row refl refl (one_field_kept u32_kept Read (λ a. refl))
node_row words.Write = row refl refl (one_field_kept hex_kept Write (λ a. refl))
node_row words.Ioctl = row refl refl (two_fields_kept u64_kept optional_hex_kept Ioctl (λ a b. refl))
