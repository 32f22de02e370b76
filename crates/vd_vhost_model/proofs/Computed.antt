-- Each session computes.
use Rattle.std.proofs.Common.{refl}
use Rattle.vd_vhost_model.specs.Worked.{TableWithPermissions, TimeoutBreaks}
use Rattle.vd_vhost_model.specs.VhostLines.{vhost_word_text, regions_form, vhost_step_form}
use Rattle.vd_vhost_model.specs.VhostOut.{vhost_output}
use Rattle.vd_model.specs.Fields.{number_in, hex_field}
use Rattle.vd_model.specs.Replies.{first_word, tag_text}
use Rattle.hex.specs.Hex.{decode_pairs, encode_with}
use lib.Count.{ones, ones_in}
use Rattle.std.specs.Fmt.{digits}

pub table_with_permissions : TableWithPermissions
unfolding ones ones_in vhost_output vhost_step_form vhost_word_text regions_form number_in hex_field decode_pairs first_word tag_text digits encode_with
table_with_permissions = refl

pub timeout_breaks : TimeoutBreaks
unfolding ones ones_in vhost_output vhost_step_form vhost_word_text regions_form number_in hex_field decode_pairs first_word tag_text digits encode_with
timeout_breaks = refl
