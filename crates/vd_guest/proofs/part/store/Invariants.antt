use Rattle.std.proofs.Common.{◌≡◌, ◌<◌, ◌^◌, ℕ, List, None, length}
use Rattle.std.specs.Prelude.{unwrap_or}
use Rattle.std.specs.List.{slice_index}
use Rattle.vd_model.specs.declared.memory.Region.{Region}
use Rattle.vd_vhost_model.specs.declared.access.Access.TheVariants.{Write}
use Rattle.vd_vhost_model.specs.GuestTable.{first_denial, stored_byte}
use Rattle.vd_guest.specs.Kept.{AreWithin, StandsFor}
use Rattle.vd_guest.proofs.part.store.Given as goal

-- with what is left to store, each byte becomes what the whole access makes of it
abbrev pub invariant-loop-rest : goal.invariant-loop-rest
invariant-loop-rest l = record {
  next : l.next < 2 ^ 64;
  within : AreWithin (length l.memory) l.regions;
  allowed : (given : List Region) → StandsFor given l.regions → first_denial given Write l.at (length l.bytes) ≡ None → first_denial given Write l.next (length l.rest) ≡ None;
  stores : (given : List Region) → StandsFor given l.regions → (o : ℕ) →
      unwrap_or (stored_byte given l.next l.rest o) (slice_index l.memory o) ≡ unwrap_or (stored_byte given l.at l.bytes o) (slice_index l.fn.memory o);
}

abbrev pub decreases-loop-rest : goal.decreases-loop-rest
decreases-loop-rest l = length l.rest
