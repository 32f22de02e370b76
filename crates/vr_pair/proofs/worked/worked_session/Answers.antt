use Rattle.std.proofs.Common.{refl}
use Rattle.std.specs.Fmt.{digits}
use Rattle.vd_model.specs.Fields.{number_in, writable_field}
use Rattle.vd_model.specs.Forms.{parts_form}
use Rattle.vr_pair.specs.QueueLines.{queue_form, queue_replies}
use Rattle.vr_pair.proofs.worked.worked_session.Goals as goal

pub returns : goal.returns
unfolding digits number_in writable_field parts_form queue_form queue_replies
returns c = refl
