use Rattle.vd_replies.proofs.Fields.{AreWritten}
use Rattle.vd_replies.proofs.printed.put_fields.Given as goal

abbrev pub invariant-loop-field : goal.invariant-loop-field
invariant-loop-field l = AreWritten l.into l.fn.into l.field-index l.fields
