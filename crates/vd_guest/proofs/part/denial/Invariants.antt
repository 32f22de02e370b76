use Rattle.std.proofs.Common.{◌≡◌, ◌<◌, ◌^◌, List}
use Rattle.vd_model.specs.declared.memory.Region.{Region}
use Rattle.vd_vhost_model.specs.GuestTable.{first_denial}
use Rattle.vd_guest.specs.Kept.{StandsFor}
use Rattle.vd_guest.proofs.part.denial.Given as goal

-- what denies the rest denies the whole access
abbrev pub invariant-loop-left : goal.invariant-loop-left
invariant-loop-left l = record {
  next : l.next < 2 ^ 64;
  denies : (given : List Region) → StandsFor given l.regions → first_denial given l.access l.next l.left ≡ first_denial given l.access l.at l.len;
}

abbrev pub decreases-loop-left : goal.decreases-loop-left
decreases-loop-left l = l.left
