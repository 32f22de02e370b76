-- The guest's memory and the table of regions before it, told from what was done. A list of acts has the newest first.
use Rattle.std.specs.Prelude.{ℕ, zero, suc, ◌+◌, ◌-◌, ◌%◌, ◌^◌, List, [], ◌∷◌, Bool, true, false, ◌==◌, nat_lt, nat_le, ◌&&◌, not, if◌then◌else◌, Option, Some, None, unwrap_or, bit_and}
use Rattle.std.specs.List.{list_any}
use Rattle.std.specs.Option.{option_map_or, option_and_then}
use Rattle.vd_model.specs.declared.memory.Region.{Region}
use Rattle.vd_model.specs.Messages.{MessageAct}
use Rattle.vd_model.specs.AreaTurns.{overlaps, first_region}
use Rattle.vd_model.specs.Puts.{byte_in}
use Rattle.vd_model.specs.Reading.{or_else}
use Rattle.vd_vhost_model.specs.declared.access.Access.{Access}
use Rattle.vd_vhost_model.specs.declared.access.Access.TheVariants.{Read, Write}
use Rattle.vd_vhost_model.specs.declared.access.Denied.{Denied}
use Rattle.vd_vhost_model.specs.declared.access.Denied.TheVariants as denied

pub data VhostAct : Type 0 where
  -- bytes of the guest's memory, from this one on
  Poked : ℕ → List ℕ → VhostAct
  -- a table, of which the message of this id tells the daemon
  Table_set : ℕ → List Region → VhostAct
  -- bytes from this address on
  Stored : ℕ → List ℕ → VhostAct
  -- a take of this id told that the message had failed
  Failure_taken : ℕ → VhostAct
  Message : MessageAct → VhostAct

-- of some acts, those on messages
abbrev pub messages_of : List VhostAct → List MessageAct
messages_of [] = []
messages_of (Message act ∷ acts) = act ∷ messages_of acts
messages_of (_ ∷ acts) = messages_of acts

-- ---- the table

-- the message of this id told of the table that was set last
abbrev pub is_latest : List VhostAct → ℕ → Bool
is_latest [] id = false
is_latest (Table_set k regions ∷ acts) id = k == id
is_latest (_ ∷ acts) id = is_latest acts id

-- the regions of the table that was set last, or none where a failed take of its id came later
abbrev pub table : List VhostAct → List Region
table [] = []
table (Table_set id regions ∷ acts) = regions
table (Failure_taken id ∷ acts) = if is_latest acts id then [] else table acts
table (_ ∷ acts) = table acts

-- ---- what an address stands for

-- the address after this one; the last one is followed by 0
abbrev pub next_address : ℕ → ℕ
next_address at = (at + 1) % 2 ^ 64

-- the region that holds the address: no two of a table do
abbrev pub region_at : List Region → ℕ → Option Region
region_at regions at = first_region regions at at

-- the bit of a permission that allows the access
abbrev pub access_bit : Access → ℕ
access_bit Read = 1
access_bit Write = 2

abbrev pub permits : Access → Region → Bool
permits access r = not (bit_and r.perm (access_bit access) == 0)

-- the byte of the guest's memory that an address stands for, where its region permits the access
abbrev pub sees : List Region → Access → ℕ → Option ℕ
sees regions access at =
    option_and_then (λ r. if permits access r then Some (r.offset + (at - r.start)) else None) (region_at regions at)

-- what denies the access to one address
abbrev pub denial_at : List Region → Access → ℕ → Option Denied
denial_at regions access at =
    option_map_or (λ r. if permits access r then None else Some (denied.Perm at)) (region_at regions at) (Some (denied.Bus at))

-- what denies the access to len addresses from this one on, at the first of them that fails
abbrev pub first_denial : List Region → Access → ℕ → ℕ → Option Denied
first_denial regions access at zero = None
first_denial regions access at (suc len) =
    or_else (denial_at regions access at) (first_denial regions access (next_address at) len)

-- ---- the guest's memory

abbrev pub byte_if : Bool → ℕ → Option ℕ
byte_if true b = Some b
byte_if false b = None

-- what a store of these bytes from this address on gives to byte o: where several of its addresses stand for it, the last
abbrev pub stored_byte : List Region → ℕ → List ℕ → ℕ → Option ℕ
stored_byte regions at [] o = None
stored_byte regions at (b ∷ bytes) o =
    or_else (stored_byte regions (next_address at) bytes o)
    (byte_if (option_map_or (λ p. p == o) (sees regions Write at) false) b)

-- byte o: the last one that a poke or a store gave, else 0
abbrev pub guest : List VhostAct → ℕ → ℕ
guest [] o = 0
guest (Poked from bytes ∷ acts) o = unwrap_or (byte_in bytes from o) (guest acts o)
guest (Stored at bytes ∷ acts) o = unwrap_or (stored_byte (table acts) at bytes o) (guest acts o)
guest (_ ∷ acts) o = guest acts o

-- the bytes that a load of len addresses shows
abbrev pub loaded : List Region → (ℕ → ℕ) → ℕ → ℕ → List ℕ
loaded regions memory at zero = []
loaded regions memory at (suc len) =
    option_map_or memory (sees regions Read at) 0 ∷ loaded regions memory (next_address at) len

-- ---- which tables may be set

-- no two of the regions have an address in common
abbrev pub are_apart : List Region → Bool
are_apart [] = true
are_apart (r ∷ rs) = not (list_any (overlaps r.start r.last) rs) && are_apart rs

-- the region permits something, has an address, and all its bytes are of a memory of so many
abbrev pub is_region_of : ℕ → Region → Bool
is_region_of bytes r =
    nat_le 1 r.perm && nat_le r.perm 3 && nat_le r.start r.last && nat_lt (r.offset + (r.last - r.start)) bytes
