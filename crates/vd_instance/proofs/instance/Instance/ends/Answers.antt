use Rattle.std.proofs.Common.{refl}
use Rattle.vd_model.specs.Acts.{state_acts}
use Rattle.vd_model.specs.BusTurns.{shape_of}
use Rattle.vd_instance.proofs.Counting.{is_there_by, ends_sum}
use Rattle.vd_instance.proofs.instance.Instance.ends.Goals as goal

pub returns : goal.returns
returns c = λ x made acts m s there.
    let is = is_there_by made c.args.queue there in
    ends_sum s c.args.queue is c.requires.room (c.generation-generation.ensures.there (shape_of made) (state_acts acts) s.device.path.state is) refl
