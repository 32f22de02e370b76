-- Each byte of memory: the last one that was put, and where it came from.
use Rattle.std.specs.Prelude.{ℕ, zero, suc, ◌+◌, ◌-◌, ◌*◌, ◌/◌, List, [], ◌∷◌, Bool, true, false, ◌==◌, nat_lt, nat_le, ◌&&◌, not, if◌then◌else◌, Option, Some, None, slice_get}
use Rattle.std.specs.Option.{option_map, option_and_then}
use Rattle.vd_num.specs.Number.{is_within}
use Rattle.vd_model.specs.declared.memory.Dir.{Dir}
use Rattle.vd_model.specs.declared.memory.Dir.TheVariants.{To, From, Both}
use Rattle.vd_model.specs.declared.memory.Origin.{Origin}
use Rattle.vd_model.specs.declared.memory.Origin.TheVariants.{Zero, Daemon, Handed}
use Rattle.vd_model.specs.Acts.{Act, Node, Driver, DriverAct, Streaming, Daemon_put, Area_made, Area_put, Registered, Deregistered, Buffer, Zeroed, Poked, Mapped, Unmapped, Synced_device, Synced_cpu, Region_made, Driver_put}
use Rattle.vd_model.specs.Live.{Registration, buffers, registration_of, iova_of, maps_address, region_covers, page_of, meets_page, is_in_use, is_present}

-- where a byte is kept: an address with a store of its own, byte o of the area, or byte i of buffer k
pub data Cell : Type 0 where
  Iova : ℕ → Cell
  Area : ℕ → Cell
  Ram : ℕ → ℕ → Cell

-- a byte that was put, and where it came from
pub record Put : Type 0 where
  pub byte : ℕ
  pub origin : Origin

-- the byte of a text that starts at `from`, at this place
abbrev pub byte_in : List ℕ → ℕ → ℕ → Option ℕ
byte_in bytes from at = if nat_le from at then slice_get bytes (at - from) else None

abbrev pub text_at : List ℕ → ℕ → ℕ → Origin → Option Put
text_at bytes from at origin = option_map (λ b. record { byte = b; origin = origin }) (byte_in bytes from at)

abbrev pub a_zero : Put
a_zero = record { byte = 0; origin = Zero }

-- a zero, where the test holds
abbrev pub zero_if : Bool → Option Put
zero_if true = Some a_zero
zero_if false = None

-- the mapping's bytes go to the device, and come from it
abbrev pub is_to_device : Dir → Bool
is_to_device From = false
is_to_device _ = true

abbrev pub is_from_device : Dir → Bool
is_from_device To = false
is_from_device _ = true

-- the cell of an address: while a registration stands, bounce memory is kept in the area
abbrev pub home_cell : Option Registration → ℕ → Cell
home_cell None a = Iova a
home_cell (Some r) a = if nat_lt a r.size then Area (r.base + a) else Iova a

abbrev pub is_moved : Option Registration → ℕ → Bool
is_moved None a = false
is_moved (Some r) a = nat_lt a r.size

-- the address whose cell is byte o of the area
abbrev pub area_address : Option Registration → ℕ → Option ℕ
area_address None o = None
area_address (Some r) o = if is_within r.base r.size o then Some (o - r.base) else None

-- what was last put in a cell, where the test holds
abbrev pub put_if : Bool → (Cell → Put) → Cell → Option Put
put_if true before cell = Some (before cell)
put_if false before cell = None

-- the buffer's byte that stands for an address of the mapping, as the mapping hands it
abbrev pub ram_cell : Streaming → ℕ → Cell
ram_cell m a = Ram m.want.buffer (m.want.offset + (a - iova_of m))

abbrev pub handed_put : (Cell → Put) → Streaming → ℕ → Put
handed_put before m a = record { byte = (before (ram_cell m a)).byte; origin = Handed (Some m.number) }

abbrev pub handed_put_if : Bool → (Cell → Put) → Streaming → ℕ → Option Put
handed_put_if true before m a = Some (handed_put before m a)
handed_put_if false before m a = None

-- the first put, if there is one, and else the second
abbrev pub or_put : Option Put → Option Put → Option Put
or_put (Some put) other = Some put
or_put None other = other

-- what a driver's act puts at an address, where `before` is the last put in each cell before the act
abbrev pub driver_put : ℕ → (Cell → Put) → List Act → DriverAct → ℕ → Option Put
driver_put g before acts (Mapped m) a =
    or_put (handed_put_if (is_to_device m.want.dir && maps_address m a) before m a)
    (zero_if (meets_page g (page_of g a) m && not (is_present g acts (page_of g a))))
driver_put g before acts (Synced_device m) a = handed_put_if (maps_address m a) before m a
driver_put g before acts (Region_made r) a = zero_if (region_covers r a)
driver_put g before acts (Driver_put at bytes) a = text_at bytes at a (Handed None)
driver_put g before acts _ a = None

-- what an act puts at an address
abbrev pub address_put : ℕ → (Cell → Put) → List Act → Act → ℕ → Option Put
address_put g before acts (Driver act) a = driver_put g before acts act a
address_put g before acts (Node (Daemon_put at bytes)) a = text_at bytes at a Daemon
address_put g before acts _ a = None

-- what a mapping brings back to byte i of buffer k
abbrev pub fetched_put : (Cell → Put) → List Act → Streaming → ℕ → ℕ → Option Put
fetched_put before acts m k i =
    put_if (is_from_device m.want.dir && (k == m.want.buffer) && is_within m.want.offset m.want.len i)
    before (home_cell (registration_of acts) (iova_of m + (i - m.want.offset)))

-- what an act puts into byte i of buffer k
abbrev pub ram_put : (Cell → Put) → List Act → Act → ℕ → ℕ → Option Put
ram_put before acts (Driver (Buffer bytes)) k i = if k == buffers acts then text_at bytes 0 i (Handed None) else None
ram_put before acts (Driver (Zeroed len)) k i = zero_if ((k == buffers acts) && nat_lt i len)
ram_put before acts (Driver (Poked buffer at bytes)) k i = if k == buffer then text_at bytes at i (Handed None) else None
ram_put before acts (Driver (Unmapped m)) k i = fetched_put before acts m k i
ram_put before acts (Driver (Synced_cpu m)) k i = fetched_put before acts m k i
ram_put before acts _ k i = None

-- what the end of a registration gives back to the store of an address
abbrev pub returned_put : ℕ → (Cell → Put) → List Act → Option Registration → ℕ → Option Put
returned_put g before acts None a = None
returned_put g before acts (Some r) a = put_if (nat_lt a r.size && is_in_use g acts (page_of g a)) before (Area (r.base + a))

-- the put at an address, unless its cell is in the area
abbrev pub address_put_if : Bool → ℕ → (Cell → Put) → List Act → Act → ℕ → Option Put
address_put_if true g before acts act a = None
address_put_if false g before acts act a = address_put g before acts act a

-- what an act puts into the store of an address
abbrev pub iova_put : ℕ → (Cell → Put) → List Act → Act → ℕ → Option Put
iova_put g before acts (Node Deregistered) a = returned_put g before acts (registration_of acts) a
iova_put g before acts act a = address_put_if (is_moved (registration_of acts) a) g before acts act a

-- what an act puts into byte o of the area
abbrev pub area_put : ℕ → (Cell → Put) → List Act → Act → ℕ → Option Put
area_put g before acts (Node (Area_made len)) o = zero_if (nat_lt o len)
area_put g before acts (Node (Area_put at bytes)) o = text_at bytes at o Daemon
area_put g before acts (Node (Registered base size)) o = put_if (is_within base size o && is_in_use g acts (page_of g (o - base))) before (Iova (o - base))
area_put g before acts act o = option_and_then (address_put g before acts act) (area_address (registration_of acts) o)

-- what an act puts into a cell
abbrev pub put_at : ℕ → (Cell → Put) → List Act → Act → Cell → Option Put
put_at g before acts act (Iova a) = iova_put g before acts act a
put_at g before acts act (Area o) = area_put g before acts act o
put_at g before acts act (Ram k i) = ram_put before acts act k i

-- a put, if there is one, and else the last one before it
abbrev pub put_or : Option Put → (Cell → Put) → Cell → Put
put_or (Some put) before cell = put
put_or None before cell = before cell

-- the last put into a cell, and a zero before the first
abbrev pub last_put : ℕ → List Act → Cell → Put
last_put g [] cell = a_zero
last_put g (act ∷ acts) cell = put_or (put_at g (last_put g acts) acts act cell) (last_put g acts) cell

-- byte i of buffer k
abbrev pub ram : ℕ → List Act → ℕ → ℕ → ℕ
ram g acts k i = (last_put g acts (Ram k i)).byte

-- the byte that a daemon sees at an address, with its origin
abbrev pub shown_put : ℕ → List Act → ℕ → Put
shown_put g acts a = last_put g acts (home_cell (registration_of acts) a)

-- what f gives at the len numbers from this one on
abbrev pub each_from : (ℕ → ℕ) → ℕ → ℕ → List ℕ
each_from f from zero = []
each_from f from (suc len) = f from ∷ each_from f (from + 1) len

-- the bytes at len addresses, of the area, and of a buffer
abbrev pub bus_bytes : ℕ → List Act → ℕ → ℕ → List ℕ
bus_bytes g acts at len = each_from (λ a. (shown_put g acts a).byte) at len

abbrev pub area_bytes : ℕ → List Act → ℕ → ℕ → List ℕ
area_bytes g acts at len = each_from (λ o. (last_put g acts (Area o)).byte) at len

abbrev pub ram_bytes : ℕ → List Act → ℕ → ℕ → ℕ → List ℕ
ram_bytes g acts k from len = each_from (λ i. ram g acts k i) from len
