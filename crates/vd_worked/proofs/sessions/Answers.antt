use Rattle.vd_worked.proofs.Computed as worked
use Rattle.vd_worked.proofs.sessions.Goals as goal

pub returns-clause-bounced_write : goal.returns-clause-bounced_write
returns-clause-bounced_write c = worked.bounced_write

pub returns-clause-bus_and_coherent : goal.returns-clause-bus_and_coherent
returns-clause-bus_and_coherent c = worked.bus_and_coherent

pub returns-clause-control_node : goal.returns-clause-control_node
returns-clause-control_node c = worked.control_node

pub returns-clause-driver_ring : goal.returns-clause-driver_ring
returns-clause-driver_ring c = worked.driver_ring

pub returns-clause-empty_input : goal.returns-clause-empty_input
returns-clause-empty_input c = worked.empty_input

pub returns-clause-first_load_two_devices : goal.returns-clause-first_load_two_devices
returns-clause-first_load_two_devices c = worked.first_load_two_devices

pub returns-clause-first_load : goal.returns-clause-first_load
returns-clause-first_load c = worked.first_load

pub returns-clause-frames_between_devices : goal.returns-clause-frames_between_devices
returns-clause-frames_between_devices c = worked.frames_between_devices

pub returns-clause-full_bounce : goal.returns-clause-full_bounce
returns-clause-full_bounce c = worked.full_bounce

pub returns-clause-held_by_session : goal.returns-clause-held_by_session
returns-clause-held_by_session c = worked.held_by_session

pub returns-clause-ioctl_features : goal.returns-clause-ioctl_features
returns-clause-ioctl_features c = worked.ioctl_features

pub returns-clause-ioctl_refusals : goal.returns-clause-ioctl_refusals
returns-clause-ioctl_refusals c = worked.ioctl_refusals

pub returns-clause-kicks : goal.returns-clause-kicks
returns-clause-kicks c = worked.kicks

pub returns-clause-large_page : goal.returns-clause-large_page
returns-clause-large_page c = worked.large_page

pub returns-clause-lookup_and_reset : goal.returns-clause-lookup_and_reset
returns-clause-lookup_and_reset c = worked.lookup_and_reset

pub returns-clause-map_refusals : goal.returns-clause-map_refusals
returns-clause-map_refusals c = worked.map_refusals

pub returns-clause-old_bytes_show : goal.returns-clause-old_bytes_show
returns-clause-old_bytes_show c = worked.old_bytes_show

pub returns-clause-placement_large : goal.returns-clause-placement_large
returns-clause-placement_large c = worked.placement_large

pub returns-clause-placement : goal.returns-clause-placement
returns-clause-placement c = worked.placement

pub returns-clause-raw_messages : goal.returns-clause-raw_messages
returns-clause-raw_messages c = worked.raw_messages

pub returns-clause-registration : goal.returns-clause-registration
returns-clause-registration c = worked.registration

pub returns-clause-requeue : goal.returns-clause-requeue
returns-clause-requeue c = worked.requeue

pub returns-clause-short_tail : goal.returns-clause-short_tail
returns-clause-short_tail c = worked.short_tail

pub returns-clause-timeout_none : goal.returns-clause-timeout_none
returns-clause-timeout_none c = worked.timeout_none

pub returns-clause-timeout : goal.returns-clause-timeout
returns-clause-timeout c = worked.timeout

pub returns-clause-walk_faults : goal.returns-clause-walk_faults
returns-clause-walk_faults c = worked.walk_faults

pub returns-clause-hostile_absent_page : goal.returns-clause-hostile_absent_page
returns-clause-hostile_absent_page c = worked.hostile_absent_page

pub returns-clause-hostile_address_past_the_end : goal.returns-clause-hostile_address_past_the_end
returns-clause-hostile_address_past_the_end c = worked.hostile_address_past_the_end

pub returns-clause-hostile_index_too_far : goal.returns-clause-hostile_index_too_far
returns-clause-hostile_index_too_far c = worked.hostile_index_too_far

pub returns-clause-hostile_no_request : goal.returns-clause-hostile_no_request
returns-clause-hostile_no_request c = worked.hostile_no_request

pub returns-clause-hostile_ring_nowhere : goal.returns-clause-hostile_ring_nowhere
returns-clause-hostile_ring_nowhere c = worked.hostile_ring_nowhere

pub returns-clause-daemon_loss : goal.returns-clause-daemon_loss
returns-clause-daemon_loss c = worked.daemon_loss

pub returns-clause-whole_session_owned : goal.returns-clause-whole_session_owned
returns-clause-whole_session_owned c = worked.whole_session_owned

pub returns-clause-whole_session : goal.returns-clause-whole_session
returns-clause-whole_session c = worked.whole_session

pub returns-clause-failing_image : goal.returns-clause-failing_image
returns-clause-failing_image c = worked.failing_image
