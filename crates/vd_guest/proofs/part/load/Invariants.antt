use Rattle.std.proofs.Common.{◌≡◌, ◌<◌, ◌^◌, ◌++◌, List}
use Rattle.std.specs.List.{slice_index}
use Rattle.vd_model.specs.declared.memory.Region.{Region}
use Rattle.vd_vhost_model.specs.declared.access.Access.TheVariants.{Read}
use Rattle.vd_vhost_model.specs.GuestTable.{first_denial, loaded}
use Rattle.vd_guest.specs.Kept.{StandsFor}
use Rattle.vd_guest.proofs.part.load.Given as goal

-- what was added and what is left to show are what the whole access shows
abbrev pub invariant-loop-left : goal.invariant-loop-left
invariant-loop-left l = record {
  next : l.next < 2 ^ 64;
  denies : (given : List Region) → StandsFor given l.regions → first_denial given Read l.next l.left ≡ first_denial given Read l.at l.len;
  shows : (given : List Region) → StandsFor given l.regions →
      l.into.items ++ loaded given (slice_index l.memory) l.next l.left ≡ l.fn.into.items ++ loaded given (slice_index l.memory) l.at l.len;
}

abbrev pub decreases-loop-left : goal.decreases-loop-left
decreases-loop-left l = l.left
