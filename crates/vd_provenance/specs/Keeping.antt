-- What is kept of origins, and which acts of a device it stands for.
use Rattle.std.specs.Prelude.{ℕ, ◌+◌, ◌-◌, ◌*◌, ◌/◌, ◌<◌, ◌≤◌, ◌^◌, ◌≡◌, Bool, ◌||◌, ◌&&◌, not, nat_lt, if◌then◌else◌, List, Option, Some, is_some, map}
use Rattle.vd_num.specs.Number.{is_within}
use Rattle.vd_model.specs.declared.memory.Origin.{Origin}
use Rattle.std.specs.List.{list_any}
use Rattle.std.specs.Option.{option_map}
use Rattle.vd_origins.specs.declared.run.Run.{Run}
use Rattle.vd_origins.specs.Runs.{origin_at}
use Rattle.vd_model.specs.Acts.{Act}
use Rattle.vd_model.specs.Live.{registration_of, live_mappings, live_regions, is_present, page_of, region_covers}
use Rattle.vd_model.specs.declared.memory.Origin.TheVariants.{Zero, Handed}
use Rattle.vd_model.specs.Puts.{Iova, Area, last_put, is_to_device}
use Rattle.vd_origin_moves.specs.declared.placed.Stretch.{Stretch}
use Rattle.vd_origin_moves.specs.declared.placed.Placed.{Placed}
use Rattle.vd_origin_moves.specs.declared.placed.Shared.{Shared}
use Rattle.vd_origin_moves.specs.declared.placed.Kept.{Kept}
use Rattle.vd_origin_moves.specs.Placed.{streaming, coherent, registration, stretch_of, stretch_meets, area_has, lies_in_area, base_of}

pub record Traced : Type 0 where
  -- the origins of addresses, and of the area's bytes
  pub bus : List Run
  pub area : List Run
  pub kept : Option Kept
  -- live mappings and regions, the oldest first, and the slots of mappings that met pages
  pub live : List Placed
  pub shared : List Shared
  pub met : List Stretch

-- a page is present while a registration stands, and once a mapping met it
abbrev pub is_there : ℕ → Traced → ℕ → Bool
is_there g t page = is_some t.kept || list_any (stretch_meets g page) t.met

-- the area's bytes of a registration have numbers of 32 bits
abbrev pub IsInside : Option Kept → Type 0
IsInside kept = (k : Kept) → kept ≡ Some k → k.base + k.size ≤ 2 ^ 32

-- it has the origins of these acts, and what is live after them
pub record KeepsOrigins (g : ℕ) (acts : List Act) (t : Traced) : Type 0 where
  pub bus : (a : ℕ) → a < 2 ^ 64 → origin_at t.bus a ≡ (last_put g acts (Iova a)).origin
  pub area : (o : ℕ) → o < 2 ^ 64 → origin_at t.area o ≡ (last_put g acts (Area o)).origin
  pub kept : option_map registration t.kept ≡ registration_of acts
  pub live : map streaming t.live ≡ live_mappings acts
  pub shared : map coherent t.shared ≡ live_regions acts
  pub present : (page : ℕ) → is_there g t page ≡ is_present g acts page
  pub inside : IsInside t.kept

-- an address lies in a present page of bounce memory, which has so many slots, or in a live coherent region
abbrev pub is_seen : ℕ → ℕ → List Act → ℕ → Bool
is_seen bounce g acts a =
    (nat_lt a (4096 * bounce) && is_present g acts (page_of g a)) || list_any (λ r. region_covers r a) (live_regions acts)

-- len bytes from an address on got an origin, wherever they are kept
pub record PutAt (at len : ℕ) (origin : Origin) (old new : Traced) : Type 0 where
  pub bus : (a : ℕ) → a < 2 ^ 64 → origin_at new.bus a ≡ (if not (lies_in_area old.kept a) && is_within at len a then origin else origin_at old.bus a)
  pub area : (o : ℕ) → o < 2 ^ 64 → origin_at new.area o ≡ (if area_has old.kept at len o then origin else origin_at old.area o)
  pub rest : new ≡ record old { bus = new.bus; area = new.area }

-- the bytes of the pages that a stretch meets became zeros, where the pages weren't present
pub record PagesCleared (g : ℕ) (s : Stretch) (old new : Traced) : Type 0 where
  pub bus : (a : ℕ) → a < 2 ^ 64 → origin_at new.bus a
      ≡ (if stretch_meets g (page_of g a) s && not (is_there g old (page_of g a)) then Zero else origin_at old.bus a)
  pub rest : new ≡ record old { bus = new.bus }

-- a mapping handed its bytes, if it hands any
pub record HandedBy (p : Placed) (old new : Traced) : Type 0 where
  pub bus : (a : ℕ) → a < 2 ^ 64 → origin_at new.bus a
      ≡ (if not (lies_in_area old.kept a) && (is_to_device p.want.dir && is_within (4096 * (p.iova / 4096)) p.want.len a)
      then Handed (Some p.number) else origin_at old.bus a)
  pub area : (o : ℕ) → o < 2 ^ 64 → origin_at new.area o
      ≡ (if is_to_device p.want.dir && area_has old.kept (4096 * (p.iova / 4096)) p.want.len o
      then Handed (Some p.number) else origin_at old.area o)
  pub rest : new ≡ record old { bus = new.bus; area = new.area }

-- a stretch met its pages
pub record Met (s : Stretch) (old new : Traced) : Type 0 where
  pub met : (g page : ℕ) → list_any (stretch_meets g page) new.met ≡ (stretch_meets g page s || list_any (stretch_meets g page) old.met)
  pub rest : new ≡ record old { met = new.met }

-- bytes of the area got an origin
pub record AreaSet (at len : ℕ) (origin : Origin) (old new : Traced) : Type 0 where
  pub area : (o : ℕ) → o < 2 ^ 64 → origin_at new.area o ≡ (if is_within at len o then origin else origin_at old.area o)
  pub rest : new ≡ record old { area = new.area }

-- a registration began, and the area took the pages in use
pub record Adopted (g : ℕ) (k : Kept) (old new : Traced) : Type 0 where
  pub area : (o : ℕ) → o < 2 ^ 64 → origin_at new.area o
      ≡ (if is_within k.base k.size o && list_any (λ p. stretch_meets g (page_of g (o - k.base)) (stretch_of p)) old.live
      then origin_at old.bus (o - k.base) else origin_at old.area o)
  pub rest : new ≡ record old { area = new.area; kept = Some k }

-- the pages in use came back from the area, if a registration stood
pub record Returned (g : ℕ) (old new : Traced) : Type 0 where
  pub bus : (a : ℕ) → a < 2 ^ 64 → origin_at new.bus a
      ≡ (if lies_in_area old.kept a && list_any (λ p. stretch_meets g (page_of g a) (stretch_of p)) old.live
      then origin_at old.area (base_of old.kept + a) else origin_at old.bus a)
  pub rest : new ≡ record old { bus = new.bus }
