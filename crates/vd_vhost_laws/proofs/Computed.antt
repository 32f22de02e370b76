-- The small run computes.
use Rattle.std.proofs.Common.{refl}
use Rattle.vd_model.specs.Fields.{number_in, hex_field}
use Rattle.hex.specs.Hex.{decode_pairs}
use Rattle.vd_vhost_model.specs.VhostLines.{vhost_word_text, regions_form, vhost_step_form}
use Rattle.vd_vhost_laws.specs.TableLaw.{done_by_lines}
use Rattle.vd_vhost_laws.specs.TableInstances.{TableInstances}
use lib.Count.{ones, ones_in}

pub table_met : TableInstances
unfolding ones ones_in done_by_lines vhost_step_form vhost_word_text regions_form number_in hex_field decode_pairs
table_met = record { shown = refl; denied = refl; nowhere = refl; changed = refl; unchanged = refl }
