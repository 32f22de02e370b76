-- What the device's side of a ring keeps.
use Rattle.std.specs.Prelude.{ℕ}
use Rattle.vd_model.specs.declared.queue.RingPlace.{RingPlace}

-- a ring, the available index of the chain that is taken next, and the used index of the one that is given back next
pub record Side : Type 0 where
  pub place : RingPlace
  pub position : ℕ
  pub used : ℕ
