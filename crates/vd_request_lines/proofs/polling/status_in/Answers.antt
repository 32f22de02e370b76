use Rattle.vd_request_lines.proofs.Statuses.{never_refused}
use Rattle.vd_request_lines.proofs.polling.status_in.Goals as goal

pub returns-in-Err : goal.returns-in-Err
returns-in-Err c = λ g acts s there. absurd (never_refused acts c.args.buffer c.in-Err.field-0 there (c.in-Err.ensures.bytes g acts s))
