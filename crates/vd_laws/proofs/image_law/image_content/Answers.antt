use Rattle.vd_laws.proofs.ImageLaw.{window_is}
use Rattle.vd_laws.proofs.image_law.image_content.Goals as goal

pub returns : goal.returns
returns c = window_is
