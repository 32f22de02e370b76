use Rattle.vd_laws.proofs.Instances.{messages_met}
use Rattle.vd_laws.proofs.message_law.instances_of_messages.Goals as goal

pub returns : goal.returns
returns c = messages_met
