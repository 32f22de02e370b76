-- What contracts see of a device's bounce memory, over the pool that its frames were taken from.
use Rattle.std.specs.Prelude.{ℕ, ◌+◌, ◌-◌, ◌*◌, ◌/◌, ◌^◌, ◌<◌, ◌≤◌, ◌≡◌, List, [], length, Bool, true, nat_lt, ◌&&◌, ◌||◌, if◌then◌else◌, slice_index, Option, Some, None, is_some, unwrap_or}
use Rattle.std.specs.Option.{option_map}
use Rattle.vd_num.specs.Number.{is_within}
use Rattle.vd_pool.specs.Memory.{PoolMemory}
use Rattle.vd_bounce.specs.Frames.{frame_of, frame_byte}

-- the pages, the daemon's area, where the registered range begins in it, and how many slots a page has
pub record Bounce : Type 0 where
  pub frames : List (Option ℕ)
  pub area : Option (List ℕ)
  pub user : Option ℕ
  pub per_page : ℕ

-- how many bytes a page has
abbrev pub page_size : Bounce → ℕ
page_size b = 4096 * b.per_page

-- how many bytes the pages have together
abbrev pub bounce_len : Bounce → ℕ
bounce_len b = page_size b * length b.frames

-- where a byte is kept: at a bounce address, or in the area
pub data Place : Type 0 where
  Iova : ℕ → Place
  Area : ℕ → Place

-- the byte at a place, and zero where there is none
abbrev pub value : Bounce → PoolMemory → Place → ℕ
value b m (Iova a) = frame_byte (page_size b) b.frames m a
value b m (Area o) = slice_index (unwrap_or b.area []) o

-- the place of an address, where this offset is registered or none
abbrev pub home_by : Option ℕ → ℕ → Place
home_by None a = Iova a
home_by (Some user) a = Area (user + a)

-- the place of an address
abbrev pub home_place : Bounce → ℕ → Place
home_place b a = home_by b.user a

-- the page has bytes
abbrev pub is_page_present : Bounce → ℕ → Bool
is_page_present b page = nat_lt page (length b.frames) && (is_some b.user || is_some (frame_of b.frames page))

-- the byte at a place after bytes were put from a place on, where it was `old` before
abbrev pub over : Place → List ℕ → Place → ℕ → ℕ
over (Iova at) bytes (Iova a) old = if is_within at (length bytes) a then slice_index bytes (a - at) else old
over (Area at) bytes (Area o) old = if is_within at (length bytes) o then slice_index bytes (o - at) else old
over _ bytes _ old = old

-- each address of the range lies in a present page
abbrev pub IsThere : Bounce → ℕ → ℕ → Type 0
IsThere b at len = (a : ℕ) → at ≤ a → a < at + len → is_page_present b (a / page_size b) ≡ true

-- the pages are as many and as long, the area is as long, and the same range is registered
pub record SameShape (old new : Bounce) : Type 0 where
  pub pages : length new.frames ≡ length old.frames
  pub size : new.per_page ≡ old.per_page
  pub area : option_map length new.area ≡ option_map length old.area
  pub user : new.user ≡ old.user

-- what is true of each
pub record IsFit (b : Bounce) : Type 0 where
  pub some : 0 < b.per_page
  pub many : length b.frames < 2 ^ 32
  pub small : bounce_len b ≤ 2 ^ 48
  pub there : (u : ℕ) → b.user ≡ Some u → is_some b.area ≡ true
  pub user : (u : ℕ) → b.user ≡ Some u → u + bounce_len b ≤ length (unwrap_or b.area [])
