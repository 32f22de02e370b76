-- Each session computes.
use Rattle.std.proofs.Common.{refl}
use Rattle.vd_worked.specs.Sessions.{BouncedWrite, BusAndCoherent, ControlNode, DriverRing, EmptyInput, FirstLoadTwoDevices, FirstLoad, FramesBetweenDevices, FullBounce, HeldBySession, IoctlFeatures, IoctlRefusals, Kicks, LargePage, LookupAndReset, MapRefusals, OldBytesShow, PlacementLarge, Placement, RawMessages, AreaRegistration, Requeue, ShortTail, TimeoutNone, Timeout, WalkFaults, HostileAbsentPage, HostileAddressPastTheEnd, HostileIndexTooFar, HostileNoRequest, HostileRingNowhere, DaemonLoss, WholeSessionOwned, WholeSession, FailingImage}
use Rattle.vd_model.specs.AreaLines.{area_word_text}
use Rattle.vd_model.specs.BusLines.{bus_word_text}
use Rattle.vd_model.specs.ControlLines.{control_word_text}
use Rattle.vd_model.specs.DriverLines.{driver_word_text}
use Rattle.vd_model.specs.Fields.{number_in, dir_field, hex_field, optional_hex_field, flag_field, on_field, writable_field}
use Rattle.vd_model.specs.Forms.{parts_form, submit_form}
use Rattle.vd_model.specs.History.{deeds_of}
use Rattle.vd_model.specs.Memory.{read}
use Rattle.vd_model.specs.NodeLines.{node_word_text}
use Rattle.vd_model.specs.Place.{greatest, place_of}
use Rattle.vd_model.specs.QueueLines.{queue_word_text}
use Rattle.vd_model.specs.Reading.{step_form}
use Rattle.vd_model.specs.Replies.{first_word, tag_text, kind_text}
use Rattle.vd_model.specs.Trace.{ending_at, ending_within}
use Rattle.vd_num.specs.Number.{power_from, doubled_to}
use Rattle.hex.specs.Hex.{decode_pairs, encode_with}
use lib.Count.{ones, ones_in}
use Rattle.std.specs.Fmt.{digits}
use Rattle.vd_worked.specs.Replies.{replies_from}

pub bounced_write : BouncedWrite
unfolding ones ones_in replies_from step_form control_word_text node_word_text area_word_text bus_word_text driver_word_text queue_word_text number_in dir_field hex_field optional_hex_field flag_field on_field parts_form submit_form writable_field decode_pairs deeds_of greatest place_of power_from doubled_to first_word tag_text kind_text ending_within read ending_at digits encode_with
bounced_write = refl

pub bus_and_coherent : BusAndCoherent
unfolding ones ones_in replies_from step_form control_word_text node_word_text area_word_text bus_word_text driver_word_text queue_word_text number_in dir_field hex_field optional_hex_field flag_field on_field parts_form submit_form writable_field decode_pairs deeds_of greatest place_of power_from doubled_to first_word tag_text kind_text ending_within read ending_at digits encode_with
bus_and_coherent = refl

pub control_node : ControlNode
unfolding ones ones_in replies_from step_form control_word_text node_word_text area_word_text bus_word_text driver_word_text queue_word_text number_in dir_field hex_field optional_hex_field flag_field on_field parts_form submit_form writable_field decode_pairs deeds_of greatest place_of power_from doubled_to first_word tag_text kind_text ending_within read ending_at digits encode_with
control_node = refl

pub driver_ring : DriverRing
unfolding ones ones_in replies_from step_form control_word_text node_word_text area_word_text bus_word_text driver_word_text queue_word_text number_in dir_field hex_field optional_hex_field flag_field on_field parts_form submit_form writable_field decode_pairs deeds_of greatest place_of power_from doubled_to first_word tag_text kind_text ending_within read ending_at digits encode_with
driver_ring = refl

pub empty_input : EmptyInput
unfolding ones ones_in replies_from step_form control_word_text node_word_text area_word_text bus_word_text driver_word_text queue_word_text number_in dir_field hex_field optional_hex_field flag_field on_field parts_form submit_form writable_field decode_pairs deeds_of greatest place_of power_from doubled_to first_word tag_text kind_text ending_within read ending_at digits encode_with
empty_input = refl

pub first_load_two_devices : FirstLoadTwoDevices
unfolding ones ones_in replies_from step_form control_word_text node_word_text area_word_text bus_word_text driver_word_text queue_word_text number_in dir_field hex_field optional_hex_field flag_field on_field parts_form submit_form writable_field decode_pairs deeds_of greatest place_of power_from doubled_to first_word tag_text kind_text ending_within read ending_at digits encode_with
first_load_two_devices = refl

pub first_load : FirstLoad
unfolding ones ones_in replies_from step_form control_word_text node_word_text area_word_text bus_word_text driver_word_text queue_word_text number_in dir_field hex_field optional_hex_field flag_field on_field parts_form submit_form writable_field decode_pairs deeds_of greatest place_of power_from doubled_to first_word tag_text kind_text ending_within read ending_at digits encode_with
first_load = refl

pub frames_between_devices : FramesBetweenDevices
unfolding ones ones_in replies_from step_form control_word_text node_word_text area_word_text bus_word_text driver_word_text queue_word_text number_in dir_field hex_field optional_hex_field flag_field on_field parts_form submit_form writable_field decode_pairs deeds_of greatest place_of power_from doubled_to first_word tag_text kind_text ending_within read ending_at digits encode_with
frames_between_devices = refl

pub full_bounce : FullBounce
unfolding ones ones_in replies_from step_form control_word_text node_word_text area_word_text bus_word_text driver_word_text queue_word_text number_in dir_field hex_field optional_hex_field flag_field on_field parts_form submit_form writable_field decode_pairs deeds_of greatest place_of power_from doubled_to first_word tag_text kind_text ending_within read ending_at digits encode_with
full_bounce = refl

pub held_by_session : HeldBySession
unfolding ones ones_in replies_from step_form control_word_text node_word_text area_word_text bus_word_text driver_word_text queue_word_text number_in dir_field hex_field optional_hex_field flag_field on_field parts_form submit_form writable_field decode_pairs deeds_of greatest place_of power_from doubled_to first_word tag_text kind_text ending_within read ending_at digits encode_with
held_by_session = refl

pub ioctl_features : IoctlFeatures
unfolding ones ones_in replies_from step_form control_word_text node_word_text area_word_text bus_word_text driver_word_text queue_word_text number_in dir_field hex_field optional_hex_field flag_field on_field parts_form submit_form writable_field decode_pairs deeds_of greatest place_of power_from doubled_to first_word tag_text kind_text ending_within read ending_at digits encode_with
ioctl_features = refl

pub ioctl_refusals : IoctlRefusals
unfolding ones ones_in replies_from step_form control_word_text node_word_text area_word_text bus_word_text driver_word_text queue_word_text number_in dir_field hex_field optional_hex_field flag_field on_field parts_form submit_form writable_field decode_pairs deeds_of greatest place_of power_from doubled_to first_word tag_text kind_text ending_within read ending_at digits encode_with
ioctl_refusals = refl

pub kicks : Kicks
unfolding ones ones_in replies_from step_form control_word_text node_word_text area_word_text bus_word_text driver_word_text queue_word_text number_in dir_field hex_field optional_hex_field flag_field on_field parts_form submit_form writable_field decode_pairs deeds_of greatest place_of power_from doubled_to first_word tag_text kind_text ending_within read ending_at digits encode_with
kicks = refl

pub large_page : LargePage
unfolding ones ones_in replies_from step_form control_word_text node_word_text area_word_text bus_word_text driver_word_text queue_word_text number_in dir_field hex_field optional_hex_field flag_field on_field parts_form submit_form writable_field decode_pairs deeds_of greatest place_of power_from doubled_to first_word tag_text kind_text ending_within read ending_at digits encode_with
large_page = refl

pub lookup_and_reset : LookupAndReset
unfolding ones ones_in replies_from step_form control_word_text node_word_text area_word_text bus_word_text driver_word_text queue_word_text number_in dir_field hex_field optional_hex_field flag_field on_field parts_form submit_form writable_field decode_pairs deeds_of greatest place_of power_from doubled_to first_word tag_text kind_text ending_within read ending_at digits encode_with
lookup_and_reset = refl

pub map_refusals : MapRefusals
unfolding ones ones_in replies_from step_form control_word_text node_word_text area_word_text bus_word_text driver_word_text queue_word_text number_in dir_field hex_field optional_hex_field flag_field on_field parts_form submit_form writable_field decode_pairs deeds_of greatest place_of power_from doubled_to first_word tag_text kind_text ending_within read ending_at digits encode_with
map_refusals = refl

pub old_bytes_show : OldBytesShow
unfolding ones ones_in replies_from step_form control_word_text node_word_text area_word_text bus_word_text driver_word_text queue_word_text number_in dir_field hex_field optional_hex_field flag_field on_field parts_form submit_form writable_field decode_pairs deeds_of greatest place_of power_from doubled_to first_word tag_text kind_text ending_within read ending_at digits encode_with
old_bytes_show = refl

pub placement_large : PlacementLarge
unfolding ones ones_in replies_from step_form control_word_text node_word_text area_word_text bus_word_text driver_word_text queue_word_text number_in dir_field hex_field optional_hex_field flag_field on_field parts_form submit_form writable_field decode_pairs deeds_of greatest place_of power_from doubled_to first_word tag_text kind_text ending_within read ending_at digits encode_with
placement_large = refl

pub placement : Placement
unfolding ones ones_in replies_from step_form control_word_text node_word_text area_word_text bus_word_text driver_word_text queue_word_text number_in dir_field hex_field optional_hex_field flag_field on_field parts_form submit_form writable_field decode_pairs deeds_of greatest place_of power_from doubled_to first_word tag_text kind_text ending_within read ending_at digits encode_with
placement = refl

pub raw_messages : RawMessages
unfolding ones ones_in replies_from step_form control_word_text node_word_text area_word_text bus_word_text driver_word_text queue_word_text number_in dir_field hex_field optional_hex_field flag_field on_field parts_form submit_form writable_field decode_pairs deeds_of greatest place_of power_from doubled_to first_word tag_text kind_text ending_within read ending_at digits encode_with
raw_messages = refl

pub registration : AreaRegistration
unfolding ones ones_in replies_from step_form control_word_text node_word_text area_word_text bus_word_text driver_word_text queue_word_text number_in dir_field hex_field optional_hex_field flag_field on_field parts_form submit_form writable_field decode_pairs deeds_of greatest place_of power_from doubled_to first_word tag_text kind_text ending_within read ending_at digits encode_with
registration = refl

pub requeue : Requeue
unfolding ones ones_in replies_from step_form control_word_text node_word_text area_word_text bus_word_text driver_word_text queue_word_text number_in dir_field hex_field optional_hex_field flag_field on_field parts_form submit_form writable_field decode_pairs deeds_of greatest place_of power_from doubled_to first_word tag_text kind_text ending_within read ending_at digits encode_with
requeue = refl

pub short_tail : ShortTail
unfolding ones ones_in replies_from step_form control_word_text node_word_text area_word_text bus_word_text driver_word_text queue_word_text number_in dir_field hex_field optional_hex_field flag_field on_field parts_form submit_form writable_field decode_pairs deeds_of greatest place_of power_from doubled_to first_word tag_text kind_text ending_within read ending_at digits encode_with
short_tail = refl

pub timeout_none : TimeoutNone
unfolding ones ones_in replies_from step_form control_word_text node_word_text area_word_text bus_word_text driver_word_text queue_word_text number_in dir_field hex_field optional_hex_field flag_field on_field parts_form submit_form writable_field decode_pairs deeds_of greatest place_of power_from doubled_to first_word tag_text kind_text ending_within read ending_at digits encode_with
timeout_none = refl

pub timeout : Timeout
unfolding ones ones_in replies_from step_form control_word_text node_word_text area_word_text bus_word_text driver_word_text queue_word_text number_in dir_field hex_field optional_hex_field flag_field on_field parts_form submit_form writable_field decode_pairs deeds_of greatest place_of power_from doubled_to first_word tag_text kind_text ending_within read ending_at digits encode_with
timeout = refl

pub walk_faults : WalkFaults
unfolding ones ones_in replies_from step_form control_word_text node_word_text area_word_text bus_word_text driver_word_text queue_word_text number_in dir_field hex_field optional_hex_field flag_field on_field parts_form submit_form writable_field decode_pairs deeds_of greatest place_of power_from doubled_to first_word tag_text kind_text ending_within read ending_at digits encode_with
walk_faults = refl

pub hostile_absent_page : HostileAbsentPage
unfolding ones ones_in replies_from step_form control_word_text node_word_text area_word_text bus_word_text driver_word_text queue_word_text number_in dir_field hex_field optional_hex_field flag_field on_field parts_form submit_form writable_field decode_pairs deeds_of greatest place_of power_from doubled_to first_word tag_text kind_text ending_within read ending_at digits encode_with
hostile_absent_page = refl

pub hostile_address_past_the_end : HostileAddressPastTheEnd
unfolding ones ones_in replies_from step_form control_word_text node_word_text area_word_text bus_word_text driver_word_text queue_word_text number_in dir_field hex_field optional_hex_field flag_field on_field parts_form submit_form writable_field decode_pairs deeds_of greatest place_of power_from doubled_to first_word tag_text kind_text ending_within read ending_at digits encode_with
hostile_address_past_the_end = refl

pub hostile_index_too_far : HostileIndexTooFar
unfolding ones ones_in replies_from step_form control_word_text node_word_text area_word_text bus_word_text driver_word_text queue_word_text number_in dir_field hex_field optional_hex_field flag_field on_field parts_form submit_form writable_field decode_pairs deeds_of greatest place_of power_from doubled_to first_word tag_text kind_text ending_within read ending_at digits encode_with
hostile_index_too_far = refl

pub hostile_no_request : HostileNoRequest
unfolding ones ones_in replies_from step_form control_word_text node_word_text area_word_text bus_word_text driver_word_text queue_word_text number_in dir_field hex_field optional_hex_field flag_field on_field parts_form submit_form writable_field decode_pairs deeds_of greatest place_of power_from doubled_to first_word tag_text kind_text ending_within read ending_at digits encode_with
hostile_no_request = refl

pub hostile_ring_nowhere : HostileRingNowhere
unfolding ones ones_in replies_from step_form control_word_text node_word_text area_word_text bus_word_text driver_word_text queue_word_text number_in dir_field hex_field optional_hex_field flag_field on_field parts_form submit_form writable_field decode_pairs deeds_of greatest place_of power_from doubled_to first_word tag_text kind_text ending_within read ending_at digits encode_with
hostile_ring_nowhere = refl

pub daemon_loss : DaemonLoss
unfolding ones ones_in replies_from step_form control_word_text node_word_text area_word_text bus_word_text driver_word_text queue_word_text number_in dir_field hex_field optional_hex_field flag_field on_field parts_form submit_form writable_field decode_pairs deeds_of greatest place_of power_from doubled_to first_word tag_text kind_text ending_within read ending_at digits encode_with
daemon_loss = refl

pub whole_session_owned : WholeSessionOwned
unfolding ones ones_in replies_from step_form control_word_text node_word_text area_word_text bus_word_text driver_word_text queue_word_text number_in dir_field hex_field optional_hex_field flag_field on_field parts_form submit_form writable_field decode_pairs deeds_of greatest place_of power_from doubled_to first_word tag_text kind_text ending_within read ending_at digits encode_with
whole_session_owned = refl

pub whole_session : WholeSession
unfolding ones ones_in replies_from step_form control_word_text node_word_text area_word_text bus_word_text driver_word_text queue_word_text number_in dir_field hex_field optional_hex_field flag_field on_field parts_form submit_form writable_field decode_pairs deeds_of greatest place_of power_from doubled_to first_word tag_text kind_text ending_within read ending_at digits encode_with
whole_session = refl

pub failing_image : FailingImage
unfolding ones ones_in replies_from step_form control_word_text node_word_text area_word_text bus_word_text driver_word_text queue_word_text number_in dir_field hex_field optional_hex_field flag_field on_field parts_form submit_form writable_field decode_pairs deeds_of greatest place_of power_from doubled_to first_word tag_text kind_text ending_within read ending_at digits encode_with
failing_image = refl
