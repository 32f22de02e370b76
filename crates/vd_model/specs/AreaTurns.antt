-- The daemon's lines on the memory that it sees: regions, its area, registration, load and store.
use Rattle.std.specs.Prelude.{ℕ, zero, suc, ◌+◌, ◌-◌, ◌*◌, ◌/◌, ◌%◌, List, [], ◌∷◌, ◌++◌, length, Bool, true, false, ◌==◌, nat_lt, nat_le, ◌&&◌, ◌||◌, not, if◌then◌else◌, Option, Some, None, is_some, unwrap_or, map, filter}
use Rattle.std.specs.List.{list_any}
use Rattle.std.specs.Option.{option_map_or}
use Rattle.vd_num.specs.Number.{pages_of}
use Rattle.vd_num.specs.declared.errno.Errno.{Errno}
use Rattle.vd_num.specs.declared.errno.Errno.TheVariants.{Noent, Busy, Exist, Inval}
use Rattle.vd_model.specs.declared.memory.Region.{Region}
use Rattle.vd_model.specs.declared.step.AreaStep.{AreaStep}
use Rattle.vd_model.specs.declared.step.AreaStep.TheVariants as area
use Rattle.vd_model.specs.declared.answer.Tag.TheVariants.{Base, Offset, Start, Last, Perm, Capability}
use Rattle.vd_model.specs.declared.answer.Item.TheVariants.{Word, Number, Address, Text}
use Rattle.vd_model.specs.declared.answer.Answer.TheVariants.{Bus}
use Rattle.vd_model.specs.Setting.{Setting, bounce_size}
use Rattle.vd_model.specs.Acts.{Act, NodeAct, Coherent, Daemon_put, Area_made, Area_put, Registered, Deregistered}
use Rattle.vd_model.specs.Live.{live_regions, is_bounce_live, area_len, registration_of, region_covers, page_of, is_present}
use Rattle.vd_model.specs.Puts.{bus_bytes, area_bytes}
use Rattle.vd_model.specs.Turn.{Turn, refusal_turn, done_with, refuse, refusal_if}

-- ---- access

-- an address can be accessed in a present page of bounce memory and in a live coherent region
abbrev pub is_accessible : Setting → List Act → ℕ → Bool
is_accessible x done at =
    (nat_lt at (bounce_size x) && is_present x.per_page done (page_of x.per_page at)) || list_any (λ r. region_covers r at) (live_regions done)

-- the first of the len numbers from this one on that doesn't pass
abbrev pub first_failing : (ℕ → Bool) → ℕ → ℕ → Option ℕ
first_failing passes from zero = None
first_failing passes from (suc len) = if passes from then first_failing passes (from + 1) len else Some from

-- the first of the len addresses from this one on that can't be accessed
abbrev pub first_bus : Setting → List Act → ℕ → ℕ → Option ℕ
first_bus x done at len = first_failing (is_accessible x done) at len

-- a bus fault, where there is one, and else this turn
abbrev pub bus_or : {A : Type 0} → Setting → List Act → ℕ → ℕ → Turn A → Turn A
bus_or x done at len turn = option_map_or (λ bad. record { answer = Bus bad; acts = [] }) (first_bus x done at len) turn

abbrev pub load_turn : Setting → List Act → ℕ → ℕ → Turn NodeAct
load_turn x done at len = bus_or x done at len (done_with (Text (bus_bytes x.per_page done at len) ∷ []) [])

abbrev pub store_turn : Setting → List Act → ℕ → List ℕ → Turn NodeAct
store_turn x done at bytes = bus_or x done at (length bytes) (done_with [] (Daemon_put at bytes ∷ []))

-- ---- regions

-- the permission to read and to write, VDUSE_ACCESS_RW
abbrev pub read_write : ℕ
read_write = 3

-- the bounce memory as a region that a daemon may read and write, where it is live
abbrev pub bounce_region : Setting → List Act → List Region
bounce_region x done = if is_bounce_live done then record { start = 0; last = bounce_size x - 1; offset = 0; perm = read_write } ∷ [] else []

-- a coherent region covers whole slots, and its offset is its start
abbrev pub region_of : Coherent → Region
region_of r = record { start = 4096 * r.slot; last = 4096 * (r.slot + pages_of r.len) - 1; offset = 4096 * r.slot; perm = read_write }

-- the regions that a daemon can find
abbrev pub daemon_regions : Setting → List Act → List Region
daemon_regions x done = bounce_region x done ++ map region_of (live_regions done)

-- the region and the addresses from start to last have one in common
abbrev pub overlaps : ℕ → ℕ → Region → Bool
overlaps start last r = nat_le r.start last && nat_le start r.last

-- the region of least start, the first of them in the list
abbrev pub lower : Region → Option Region → Region
lower r None = r
lower r (Some s) = if nat_le r.start s.start then r else s

abbrev pub lowest : List Region → Option Region
lowest [] = None
lowest (r ∷ rs) = Some (lower r (lowest rs))

-- of the regions that overlap the range from start to last, that of least start
abbrev pub first_region : List Region → ℕ → ℕ → Option Region
first_region regions start last = lowest (filter (overlaps start last) regions)

-- what is found of the range, which is refused where it is empty or nothing overlaps it
abbrev pub found_or : Setting → List Act → ℕ → ℕ → (Region → Turn NodeAct) → Turn NodeAct
found_or x done start last turn =
    refuse (refusal_if (nat_lt last start) Inval)
    (option_map_or turn (first_region (daemon_regions x done) start last) (refusal_turn Inval))

abbrev pub lookup_turn : Region → Turn NodeAct
lookup_turn r =
    done_with (Word Offset ∷ Address r.offset ∷ Word Start ∷ Address r.start ∷ Word Last ∷ Address r.last ∷ Word Perm ∷ Number r.perm ∷ []) []

-- the bounce memory alone can be registered
abbrev pub capability_of : Region → ℕ
capability_of r = if r.start == 0 then 1 else 0

abbrev pub iovainfo_turn : Region → Turn NodeAct
iovainfo_turn r =
    done_with (Word Start ∷ Address r.start ∷ Word Last ∷ Address r.last ∷ Word Capability ∷ Number (capability_of r) ∷ []) []

-- ---- the area

-- where the area begins for the daemon
abbrev pub area_start : ℕ
area_start = 0x10000000

-- an area has at most 128 MiB
abbrev pub area_limit : ℕ
area_limit = 134217728

abbrev pub new_area_turn : List Act → ℕ → Turn NodeAct
new_area_turn done len =
    refuse (refusal_if ((len == 0) || not ((len % 4096) == 0) || nat_lt area_limit len) Inval)
    (refuse (refusal_if (is_some (registration_of done)) Busy)
    (done_with (Word Base ∷ Address area_start ∷ []) (Area_made len ∷ [])))

-- bytes of the area are refused where there is none, or where they aren't within it
abbrev pub part_refusal : Option ℕ → ℕ → ℕ → Option Errno
part_refusal None at len = Some Noent
part_refusal (Some size) at len = refusal_if (nat_lt size (at + len)) Inval

abbrev pub areaput_turn : List Act → ℕ → List ℕ → Turn NodeAct
areaput_turn done at bytes =
    refuse (part_refusal (area_len done) at (length bytes))
    (done_with [] (Area_put at bytes ∷ []))

abbrev pub areaget_turn : Setting → List Act → ℕ → ℕ → Turn NodeAct
areaget_turn x done at len =
    refuse (part_refusal (area_len done) at len)
    (done_with (Text (area_bytes x.per_page done at len) ∷ []) [])

-- ---- registration

-- the bounce memory can be kept in the area from this address on: the numbers name it whole, the address is that
-- of a page, and the area has the bytes
abbrev pub may_register : Setting → List Act → ℕ → ℕ → ℕ → Bool
may_register x done address iova size =
    is_bounce_live done && (iova == 0) && (size == bounce_size x) && ((address % (4096 * x.per_page)) == 0)
    && nat_le area_start address && nat_le (address + size) (area_start + unwrap_or (area_len done) 0)

abbrev pub regumem_turn : Setting → List Act → ℕ → ℕ → ℕ → Turn NodeAct
regumem_turn x done address iova size =
    refuse (refusal_if (not (may_register x done address iova size)) Inval)
    (refuse (refusal_if (is_some (registration_of done)) Exist)
    (done_with [] (Registered (address - area_start) (bounce_size x) ∷ [])))

abbrev pub deregumem_turn : Setting → List Act → ℕ → ℕ → Turn NodeAct
deregumem_turn x done iova size =
    refuse (refusal_if (not (is_some (registration_of done))) Noent)
    (refuse (refusal_if (not ((iova == 0) && (size == bounce_size x))) Inval)
    (done_with [] (Deregistered ∷ [])))

abbrev pub area_turn : Setting → List Act → AreaStep → Turn NodeAct
area_turn x done (area.Lookup start last) = found_or x done start last lookup_turn
area_turn x done (area.IovaInfo start last) = found_or x done start last iovainfo_turn
area_turn x done (area.Area bytes) = new_area_turn done bytes
area_turn x done (area.AreaPut offset bytes) = areaput_turn done offset bytes
area_turn x done (area.AreaGet offset len) = areaget_turn x done offset len
area_turn x done (area.RegUmem uaddr iova size) = regumem_turn x done uaddr iova size
area_turn x done (area.DeregUmem iova size) = deregumem_turn x done iova size
area_turn x done (area.Load at len) = load_turn x done at len
area_turn x done (area.Store at bytes) = store_turn x done at bytes
