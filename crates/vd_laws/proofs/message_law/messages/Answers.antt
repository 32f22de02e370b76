use Rattle.vd_laws.proofs.MessageLaw.{message_law}
use Rattle.vd_laws.proofs.message_law.messages.Goals as goal

pub returns : goal.returns
returns c = message_law
