-- A domain, over the pool that its frames were taken from, stands for the acts of a device.
use Rattle.std.specs.Prelude.{ℕ, ◌+◌, ◌-◌, ◌<◌, ◌≤◌, ◌≡◌, List, [], length, true, None, unwrap_or}
use Rattle.std.specs.Option.{option_map}
use Rattle.std.specs.List.{list_any}
use Rattle.vd_pool.specs.Memory.{PoolMemory}
use Rattle.vd_bounce.specs.Bounce.{Iova, Area, value, is_page_present}
use Rattle.vd_model.specs.Setting.{Setting, bounce_size}
use Rattle.vd_model.specs.Acts.{Act}
use Rattle.vd_model.specs.Live as model
use Rattle.vd_model.specs.Puts as puts
use Rattle.vd_domain.specs.Held.{Held, bounce_slots}

-- the byte that was last put into a cell
abbrev pub last_byte : Setting → List Act → puts.Cell → ℕ
last_byte x acts cell = (puts.last_put x.per_page acts cell).byte

pub record Stands (x : Setting) (acts : List Act) (h : Held) (m : PoolMemory) : Type 0 where
  pub bounce : x.bounce ≡ bounce_slots h
  pub iova : x.iova ≡ bounce_slots h + length h.shared.frames
  pub per_page : x.per_page ≡ h.bounce.per_page
  pub live : h.live ≡ model.live_mappings acts
  pub maps : h.maps ≡ model.maps acts
  pub regions : h.regions ≡ model.live_regions acts
  pub made : h.made ≡ model.regions acts
  pub is_shown : h.is_shown ≡ model.is_bounce_live acts
  pub area : option_map length h.bounce.area ≡ model.area_len acts
  pub registered : model.registration_of acts ≡ option_map (λ u. record { base = u; size = bounce_size x }) h.bounce.user
  pub present : (p : ℕ) → p < length h.bounce.frames → is_page_present h.bounce p ≡ model.is_present x.per_page acts p
  -- the bytes of present pages where nothing is registered, those of the area, and those of coherent memory
  pub bytes : (a : ℕ) → h.bounce.user ≡ None → a < bounce_size x → model.is_present x.per_page acts (model.page_of x.per_page a) ≡ true
      → value h.bounce m (Iova a) ≡ last_byte x acts (puts.Iova a)
  pub area_bytes : (o : ℕ) → o < length (unwrap_or h.bounce.area []) → value h.bounce m (Area o) ≡ last_byte x acts (puts.Area o)
  pub shared : (a : ℕ) → bounce_size x ≤ a → list_any (λ r. model.region_covers r a) (model.live_regions acts) ≡ true
      → value h.shared h.store (Iova (a - bounce_size x)) ≡ last_byte x acts (puts.Iova a)
