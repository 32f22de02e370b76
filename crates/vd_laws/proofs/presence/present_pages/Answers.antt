use Rattle.vd_laws.proofs.Mapped.{present_is}
use Rattle.vd_laws.proofs.presence.present_pages.Goals as goal

pub returns : goal.returns
returns c = λ g acts page. present_is g page acts
