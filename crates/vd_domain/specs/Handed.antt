-- The bytes of a driver's buffer that a mapping hands.
use Rattle.std.specs.Prelude.{ℕ, List, [], ◌∷◌, ◌≡◌, ◌+◌, ◌-◌, ◌*◌, ◌/◌, Bool, nat_lt, if◌then◌else◌, Option, Some, None, Result, Ok, Err, take, drop}
use Rattle.std.specs.List.{list_any}
use Rattle.vd_num.specs.Number.{pages_of}
use Rattle.vd_num.specs.declared.number.Range.{Range}
use Rattle.vd_num.specs.declared.errno.Errno.{Errno}
use Rattle.vd_num.specs.declared.errno.Errno.TheVariants.{Noent, Inval}
use Rattle.vd_model.specs.declared.memory.Want.{Want}
use Rattle.vd_model.specs.declared.memory.Mapping.{Mapping}
use Rattle.vd_model.specs.declared.memory.MapInfo.{MapInfo}
use Rattle.vd_model.specs.Acts.{Act, Streaming, Coherent}
use Rattle.vd_model.specs.Live.{live_regions, region_covers}
use Rattle.vd_model.specs.Puts.{ram_bytes}

-- the text is the want's range of its buffer
abbrev pub IsOf : ℕ → List Act → Want → List ℕ → Type 0
IsOf g acts want text = text ≡ ram_bytes g acts want.buffer want.offset want.len

-- how many bytes some wants have together
abbrev pub bytes_of : List Want → ℕ
bytes_of [] = 0
bytes_of (want ∷ wants) = want.len + bytes_of wants

-- the text is the wants' ranges, one after another
abbrev pub AreOf : ℕ → List Act → List Want → List ℕ → Type 0
AreOf g acts [] text = text ≡ []
AreOf g acts (want ∷ wants) text = IsOf g acts want (take want.len text) × AreOf g acts wants (drop want.len text)

-- the mapping that was made of a want
abbrev pub streaming_of : Mapping → Want → Streaming
streaming_of m want = record { number = m.number; slot = m.iova / 4096; want = want }

-- the coherent region that was made, of so many bytes
abbrev pub coherent_made : Mapping → ℕ → Coherent
coherent_made m len = record { number = m.number; slot = m.iova / 4096; len = len }

-- what a mapping is told of as
abbrev pub map_info : Streaming → MapInfo
map_info m = record { iova = 4096 * m.slot; want = m.want }

-- the addresses of a region
abbrev pub range_of : Coherent → Range
range_of r = record { start = 4096 * r.slot; last = 4096 * (r.slot + pages_of r.len) - 1 }

-- the address of some bytes within the slots of a region, or why there is none
abbrev pub region_place : Option Coherent → ℕ → ℕ → Result ℕ Errno
region_place None offset len = Err Noent
region_place (Some r) offset len = if nat_lt (4096 * pages_of r.len) (offset + len) then Err Inval else Ok (4096 * r.slot + offset)

-- the address lies in a live coherent region
abbrev pub is_coherent : List Act → ℕ → Bool
is_coherent acts a = list_any (λ r. region_covers r a) (live_regions acts)
