use Rattle.vd_laws.proofs.Instances.{image_met}
use Rattle.vd_laws.proofs.image_law.instances_of_image.Goals as goal

pub returns : goal.returns
returns c = image_met
