use Rattle.std.proofs.Common.{arith, []}
use Rattle.vd_model.specs.BusTurns.{shape_of}
use Rattle.vd_state_lines.proofs.Lines.{counts_within_more}
use Rattle.vd_instance.proofs.Readied.{readied, max_set}
use Rattle.vd_instance.proofs.instance.make_ready.Goals as goal

pub returns-clause-stands : goal.returns-clause-stands
returns-clause-stands c = λ x made m some s. readied c.set_max-set.new.self s (max_set made c.set_max-set.result c.set_max-set.new.self some (c.set_max-set.ensures.does (shape_of made) [] s.path.state))

pub returns-clause-within : goal.returns-clause-within
returns-clause-within c = λ w. record {
  path = record { state = counts_within_more 0 1 _ (omega arith) (c.set_max-set.ensures.counts 0 w.path.state); sessions = omega arith; closings = (let h = w.path.closings in omega arith) };
  maps = (let h = w.maps in omega arith);
  regions = (let h = w.regions in omega arith);
}
