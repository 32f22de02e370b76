use Rattle.std.proofs.Common.{◌≡◌, drop}
use Rattle.vd_model.specs.RingTurns.{is_out_of_order}
use Rattle.vd_rings.proofs.Orders.{is_out_after}
use Rattle.vd_rings.proofs.order.is_out_of_order.Given as goal

-- it is decided by the parts that are left, and by whether one before them is written
abbrev pub invariant-loop-part : goal.invariant-loop-part
invariant-loop-part l = is_out_of_order l.parts ≡ is_out_after l.written (drop l.part-index l.parts)
