-- What is there after some acts: buffers, mappings, regions, the session and its area.
use Rattle.std.specs.Prelude.{ℕ, ◌+◌, ◌-◌, ◌*◌, ◌/◌, List, [], ◌∷◌, ◌++◌, length, Bool, true, false, ◌==◌, nat_lt, nat_le, ◌&&◌, ◌||◌, not, if◌then◌else◌, filter, Option, Some, None, unwrap_or}
use Rattle.std.specs.List.{list_any}
use Rattle.vd_num.specs.Number.{pages_of, is_within}
use Rattle.vd_model.specs.Acts.{Act, Node, Driver, State, Bus, Attached, Detached, Streaming, Coherent, Opened, Closed, Area_made, Registered, Deregistered, Buffer, Zeroed, Freed, Mapped, Unmapped, Region_made, Region_freed}
use Rattle.vd_model.specs.State.{Cleared}

-- how many buffers were made
abbrev pub buffers : List Act → ℕ
buffers [] = 0
buffers (Driver (Buffer bytes) ∷ acts) = buffers acts + 1
buffers (Driver (Zeroed len) ∷ acts) = buffers acts + 1
buffers (_ ∷ acts) = buffers acts

-- how many mappings were made
abbrev pub maps : List Act → ℕ
maps [] = 0
maps (Driver (Mapped m) ∷ acts) = maps acts + 1
maps (_ ∷ acts) = maps acts

-- how many coherent regions were made
abbrev pub regions : List Act → ℕ
regions [] = 0
regions (Driver (Region_made r) ∷ acts) = regions acts + 1
regions (_ ∷ acts) = regions acts

-- how many sessions were opened
abbrev pub sessions : List Act → ℕ
sessions [] = 0
sessions (Node Opened ∷ acts) = sessions acts + 1
sessions (_ ∷ acts) = sessions acts

-- a session is open
abbrev pub is_open : List Act → Bool
is_open [] = false
is_open (Node Opened ∷ acts) = true
is_open (Node Closed ∷ acts) = false
is_open (_ ∷ acts) = is_open acts

-- the device is on the bus
abbrev pub is_attached : List Act → Bool
is_attached [] = false
is_attached (Bus Attached ∷ acts) = true
is_attached (Bus Detached ∷ acts) = false
is_attached (_ ∷ acts) = is_attached acts

-- the length of buffer k, if it is there
abbrev pub buffer_len : List Act → ℕ → Option ℕ
buffer_len [] k = None
buffer_len (Driver (Buffer bytes) ∷ acts) k = if k == buffers acts then Some (length bytes) else buffer_len acts k
buffer_len (Driver (Zeroed len) ∷ acts) k = if k == buffers acts then Some len else buffer_len acts k
buffer_len (Driver (Freed f) ∷ acts) k = if k == f then None else buffer_len acts k
buffer_len (_ ∷ acts) k = buffer_len acts k

-- the bytes of all buffers together
abbrev pub buffers_len : List Act → ℕ
buffers_len [] = 0
buffers_len (Driver (Buffer bytes) ∷ acts) = buffers_len acts + length bytes
buffers_len (Driver (Zeroed len) ∷ acts) = buffers_len acts + len
buffers_len (Driver (Freed f) ∷ acts) = buffers_len acts - unwrap_or (buffer_len acts f) 0
buffers_len (_ ∷ acts) = buffers_len acts

-- the mappings without a later unmap, the oldest first
abbrev pub live_mappings : List Act → List Streaming
live_mappings [] = []
live_mappings (Driver (Mapped m) ∷ acts) = live_mappings acts ++ m ∷ []
live_mappings (Driver (Unmapped m) ∷ acts) = filter (λ l. not (l.number == m.number)) (live_mappings acts)
live_mappings (_ ∷ acts) = live_mappings acts

-- the coherent regions that weren't freed later, the oldest first
abbrev pub live_regions : List Act → List Coherent
live_regions [] = []
live_regions (Driver (Region_made r) ∷ acts) = live_regions acts ++ r ∷ []
live_regions (Driver (Region_freed r) ∷ acts) = filter (λ l. not (l.number == r.number)) (live_regions acts)
live_regions (_ ∷ acts) = live_regions acts

-- the bounce region is live: something was mapped since the last reset
abbrev pub is_bounce_live : List Act → Bool
is_bounce_live [] = false
is_bounce_live (Driver (Mapped m) ∷ acts) = true
is_bounce_live (State Cleared ∷ acts) = false
is_bounce_live (_ ∷ acts) = is_bounce_live acts

-- the length of the session's area, if there is one
abbrev pub area_len : List Act → Option ℕ
area_len [] = None
area_len (Node (Area_made len) ∷ acts) = Some len
area_len (Node Closed ∷ acts) = None
area_len (_ ∷ acts) = area_len acts

-- where in the area the bounce memory lies, and how many bytes it has
pub record Registration : Type 0 where
  pub base : ℕ
  pub size : ℕ

-- the registration that stands
abbrev pub registration_of : List Act → Option Registration
registration_of [] = None
registration_of (Node (Registered base size) ∷ acts) = Some (record { base = base; size = size })
registration_of (Node Deregistered ∷ acts) = None
registration_of (_ ∷ acts) = registration_of acts

-- the first address of a mapping
abbrev pub iova_of : Streaming → ℕ
iova_of m = 4096 * m.slot

-- the address is one of the mapping's bytes
abbrev pub maps_address : Streaming → ℕ → Bool
maps_address m a = is_within (iova_of m) m.want.len a

-- the address lies in one of the region's slots
abbrev pub region_covers : Coherent → ℕ → Bool
region_covers r a = is_within r.slot (pages_of r.len) (a / 4096)

-- the page of an address, where a page has g slots
abbrev pub page_of : ℕ → ℕ → ℕ
page_of g a = a / (4096 * g)

-- one of the mapping's slots lies in the page
abbrev pub meets_page : ℕ → ℕ → Streaming → Bool
meets_page g page m = nat_lt (g * page) (m.slot + pages_of m.want.len) && nat_lt m.slot (g * page + g)

-- a page is in use where a live mapping's slots meet it
abbrev pub is_in_use : ℕ → List Act → ℕ → Bool
is_in_use g acts page = list_any (meets_page g page) (live_mappings acts)

-- a bounce page is present once a mapping met it; at a registration all are, and after it those that are in use
abbrev pub is_present : ℕ → List Act → ℕ → Bool
is_present g [] page = false
is_present g (Driver (Mapped m) ∷ acts) page = meets_page g page m || is_present g acts page
is_present g (Node (Registered base size) ∷ acts) page = true
is_present g (Node Deregistered ∷ acts) page = is_in_use g acts page
is_present g (_ ∷ acts) page = is_present g acts page
