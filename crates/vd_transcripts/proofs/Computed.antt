-- Each transcript computes.
use Rattle.std.proofs.Common.{refl}
use Rattle.vd_model.specs.AreaLines.{area_word_text}
use Rattle.vd_model.specs.BusLines.{bus_word_text}
use Rattle.vd_model.specs.ControlLines.{control_word_text}
use Rattle.vd_model.specs.DriverLines.{driver_word_text}
use Rattle.vd_model.specs.Fields.{number_in, dir_field, hex_field, optional_hex_field, flag_field, on_field, writable_field}
use Rattle.vd_model.specs.Forms.{parts_form, submit_form}
use Rattle.vd_model.specs.History.{deeds_of}
use Rattle.vd_model.specs.NodeLines.{node_word_text}
use Rattle.vd_model.specs.Place.{greatest, place_of}
use Rattle.vd_model.specs.QueueLines.{queue_word_text}
use Rattle.vd_model.specs.Reading.{lines, step_form}
use Rattle.vd_model.specs.Replies.{first_word, tag_text, kind_text}
use Rattle.vd_num.specs.Number.{power_from, doubled_to}
use Rattle.hex.specs.Hex.{decode_pairs, encode_with}
use lib.Count.{ones, ones_in}
use Rattle.std.specs.Fmt.{digits}
use Rattle.vd_transcripts.specs.Origins.{is_plain, groups, origins_from}
use Rattle.vd_transcripts.specs.Transcripts.{pairs_of, check_from}
use Rattle.vd_transcripts.specs.Rows.{FirstFits, LastDoesNot}

pub first_fits : FirstFits
unfolding ones ones_in lines step_form control_word_text node_word_text area_word_text bus_word_text driver_word_text queue_word_text number_in dir_field hex_field optional_hex_field flag_field on_field parts_form submit_form writable_field decode_pairs deeds_of greatest place_of power_from doubled_to first_word tag_text kind_text digits encode_with is_plain groups origins_from pairs_of check_from
first_fits = refl

pub last_does_not : LastDoesNot
unfolding ones ones_in lines step_form control_word_text node_word_text area_word_text bus_word_text driver_word_text queue_word_text number_in dir_field hex_field optional_hex_field flag_field on_field parts_form submit_form writable_field decode_pairs deeds_of greatest place_of power_from doubled_to first_word tag_text kind_text digits encode_with is_plain groups origins_from pairs_of check_from
last_does_not = refl
