-- A part of an access that one region answers, and what whole accesses do.
use Rattle.std.specs.Prelude.{ℕ, ◌+◌, ◌^◌, ◌<◌, ◌≤◌, ◌≡◌, ◌++◌, List, Option, Some, None, Result, Ok, Err, slice_index, length, unwrap_or}
use Rattle.vd_model.specs.declared.memory.Region.{Region}
use Rattle.vd_vhost_model.specs.declared.access.Access.{Access}
use Rattle.vd_vhost_model.specs.declared.access.Access.TheVariants.{Read, Write}
use Rattle.vd_vhost_model.specs.declared.access.Denied.{Denied}
use Rattle.vd_vhost_model.specs.GuestTable.{sees, denial_at, first_denial, loaded, stored_byte}
use Rattle.vd_guest.specs.declared.part.Part.{Part}

-- the addresses from this one on, so many, stand for as many bytes of the guest's memory, one behind the other
pub record Reaches (given : List Region) (access : Access) (at left : ℕ) (part : Part) : Type 0 where
  pub some : 0 < part.len
  pub few : part.len ≤ left
  pub short : at + part.len ≤ 2 ^ 64
  pub seen : (i : ℕ) → i < part.len → sees given access (at + i) ≡ Some (part.offset + i)
  pub free : (i : ℕ) → i < part.len → denial_at given access (at + i) ≡ None

-- the first part of an access to `left` addresses from this one on, or what denies it at once
abbrev pub IsFirstPart : List Region → Access → ℕ → ℕ → Result Part Denied → Type 0
IsFirstPart given access at left (Ok part) = Reaches given access at left part
IsFirstPart given access at left (Err why) = denial_at given access at ≡ Some why

-- a load tells what denies it, and else adds the bytes that the addresses show
pub record Loads (given : List Region) (memory : List ℕ) (at len : ℕ) (old new : List ℕ) (told : Option Denied) : Type 0 where
  pub told_is : told ≡ first_denial given Read at len
  pub shown : told ≡ None → new ≡ old ++ loaded given (slice_index memory) at len

-- a store that nothing denies changes exactly the bytes that its addresses stand for
abbrev pub Stores : List Region → ℕ → List ℕ → List ℕ → List ℕ → Type 0
Stores given at bytes old new =
    first_denial given Write at (length bytes) ≡ None
    → (o : ℕ) → slice_index new o ≡ unwrap_or (stored_byte given at bytes o) (slice_index old o)
