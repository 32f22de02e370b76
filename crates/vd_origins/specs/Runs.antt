-- The origin of each byte, by runs.
use Rattle.std.specs.Prelude.{ℕ, ◌+◌, ◌-◌, List, [], ◌∷◌, Bool, ◌&&◌, nat_le, Option, Some, None, unwrap_or, if◌then◌else◌}
use Rattle.vd_num.specs.declared.number.Range.{Range}
use Rattle.vd_model.specs.declared.memory.Origin.{Origin}
use Rattle.vd_model.specs.declared.memory.Origin.TheVariants.{Zero}
use Rattle.vd_origins.specs.declared.run.Run.{Run}

-- the byte is one of the run's
abbrev pub has : Run → ℕ → Bool
has r a = nat_le r.first a && nat_le a r.last

-- its origin, where it is one of the run's
abbrev pub run_origin : Run → ℕ → Option Origin
run_origin r a = if has r a then Some r.origin else None

-- the first origin, if there is one, and else the second
abbrev pub or_origin : Option Origin → Option Origin → Option Origin
or_origin (Some origin) other = Some origin
or_origin None other = other

-- the origin by the first run that has the byte
abbrev pub origin_in : List Run → ℕ → Option Origin
origin_in [] a = None
origin_in (r ∷ runs) a = or_origin (run_origin r a) (origin_in runs a)

-- the origin of a byte; what no run has is a zero
abbrev pub origin_at : List Run → ℕ → Origin
origin_at runs a = unwrap_or (origin_in runs a) Zero

-- the origin by a run that may not be there
abbrev pub kept_origin : Option Run → ℕ → Option Origin
kept_origin None a = None
kept_origin (Some r) a = run_origin r a

-- a range that is moved to begin at `to` comes to lie on the address
abbrev pub is_moved_from : Range → ℕ → ℕ → Bool
is_moved_from range to a = nat_le to a && nat_le (a - to) (range.last - range.start) && nat_le range.start range.last

-- what some runs have in a range, as it lies where the range is moved to begin at `to`
abbrev pub moved_origin : List Run → Range → ℕ → ℕ → Option Origin
moved_origin runs range to a = if is_moved_from range to a then origin_in runs (range.start + (a - to)) else None
