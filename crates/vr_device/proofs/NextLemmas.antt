-- What is next at a position, once a walk has answered.
use Rattle.std.proofs.Common.{◌≡◌, ℕ, ◌==◌, Bool, false, nat_lt, Some, Ok, Err, ap}
use Rattle.vd_model.specs.Memory.{Memory}
use Rattle.vd_model.specs.Rings.{minus16, number16, available_index_at, available_slot_at}
use Rattle.vd_model.specs.Trace.{whole, trace_start, ending_of}
use Rattle.vd_model.specs.declared.parts.Chain.{Chain}
use Rattle.vr_chain.specs.Walk.{UnlessMemory}
use Rattle.vr_chain.specs.declared.error.WalkError.{WalkError}
use Rattle.vr_chain.specs.declared.error.WalkError.TheVariants.{Fault, Bus, Memory as OutOfMemory}
use Rattle.vr_device.specs.Side.{Side}
use Rattle.vr_device.specs.Device.{IsUnlessMemory, next_of, popped}
use Rattle.vr_device.specs.declared.error.PopError.TheVariants.{Walk}

-- a head is available at the position
pub record IsAvailable (m : Memory) (side : Side) (head : ℕ) : Type 0 where
  pub found : ℕ
  pub index : number16 m (available_index_at side.place) ≡ Ok found
  pub some : (found == side.position) ≡ false
  pub near : nat_lt side.place.size (minus16 found side.position) ≡ false
  pub slot : number16 m (available_slot_at side.place side.position) ≡ Ok head

-- a walk that gives no chain
pub next-fails : (m : Memory) (side : Side) (head : ℕ) (indirect : Bool) (e : WalkError) → IsAvailable m side head → UnlessMemory (Err e) (λ end. end ≡ ending_of (trace_start side.place head indirect) m) → IsUnlessMemory (Err (Walk e)) (next_of m side indirect)
next-fails m side head indirect OutOfMemory a h = tt
next-fails m side head indirect (Fault fault) a h = rw (a.index, a.some, a.near, a.slot) (ap popped h)
next-fails m side head indirect (Bus address) a h = rw (a.index, a.some, a.near, a.slot) (ap popped h)

-- a walk that gives one
pub next-gives : (m : Memory) (side : Side) (head : ℕ) (indirect : Bool) (chain : Chain) → IsAvailable m side head → whole chain ≡ ending_of (trace_start side.place head indirect) m → IsUnlessMemory (Ok (Some chain)) (next_of m side indirect)
next-gives m side head indirect chain a h = rw (a.index, a.some, a.near, a.slot) (ap popped h)
