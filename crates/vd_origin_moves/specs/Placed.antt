-- Mappings, regions, registrations and stretches of slots, as the acts have them.
use Rattle.std.specs.Prelude.{ℕ, ◌+◌, ◌-◌, ◌*◌, ◌/◌, Bool, false, ◌&&◌, nat_lt, nat_le, Option, Some, None, List, map}
use Rattle.std.specs.Option.{option_map}
use Rattle.vd_num.specs.Number.{pages_of, is_within}
use Rattle.vd_model.specs.Acts.{Streaming, Coherent}
use Rattle.vd_model.specs.Live.{Registration}
use Rattle.vd_origin_moves.specs.declared.placed.Stretch.{Stretch}
use Rattle.vd_origin_moves.specs.declared.placed.Placed.{Placed}
use Rattle.vd_origin_moves.specs.declared.placed.Shared.{Shared}
use Rattle.vd_origin_moves.specs.declared.placed.Kept.{Kept}

abbrev pub streaming : Placed → Streaming
streaming p = record { number = p.number; slot = p.iova / 4096; want = p.want }

abbrev pub coherent : Shared → Coherent
coherent r = record { number = r.number; slot = r.iova / 4096; len = r.len }

abbrev pub registration : Kept → Registration
registration k = record { base = k.base; size = k.size }

-- the slots of a mapping
abbrev pub stretch_of : Placed → Stretch
stretch_of p = record { slot = p.iova / 4096; count = pages_of p.want.len }

-- one of the slots lies in the page, where a page has g slots
abbrev pub stretch_meets : ℕ → ℕ → Stretch → Bool
stretch_meets g page s = nat_lt (g * page) (s.slot + s.count) && nat_lt s.slot (g * page + g)

-- the second stretch lies in the first
abbrev pub covers : Stretch → Stretch → Bool
covers s other = nat_le s.slot other.slot && nat_le (other.slot + other.count) (s.slot + s.count)

-- byte o of the area is that of one of the len addresses from `at` on
abbrev pub area_has : Option Kept → ℕ → ℕ → ℕ → Bool
area_has None at len o = false
area_has (Some k) at len o = is_within k.base k.size o && is_within at len (o - k.base)

-- the address is kept in the area
abbrev pub lies_in_area : Option Kept → ℕ → Bool
lies_in_area None a = false
lies_in_area (Some k) a = nat_lt a k.size

-- where in the area the bounce memory is kept
abbrev pub base_of : Option Kept → ℕ
base_of None = 0
base_of (Some k) = k.base
