-- Looking up coherent regions.
use Rattle.std.specs.Prelude.{◌+◌, ◌<◌, ◌≤◌, Option, Some, None}
use Rattle.vd_num.specs.Number.{pages_of}
use Rattle.vd_model.specs.declared.memory.Region.{Region}
use Rattle.vd_model.specs.AreaTurns.{lower}
use Rattle.vd_domain.specs.declared.streaming.Extent.{Extent}

-- it has a slot, and its slots end at 65536 or before
pub record Lies (e : Extent) : Type 0 where
  pub some : 0 < pages_of e.len
  pub «end» : e.slot + pages_of e.len ≤ 65536

-- the lower of the first, if there is one, and of another
abbrev pub lower_or : Option Region → Option Region → Option Region
lower_or None other = other
lower_or (Some first) other = Some (lower first other)
