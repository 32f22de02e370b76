-- What contracts see of a domain.
use Rattle.std.specs.Prelude.{ℕ, ◌+◌, ◌*◌, ◌<◌, ◌≤◌, ◌≡◌, ◌≢◌, ◌==◌, List, [], length, Bool, true, Option, Some, None, is_some, unwrap_or, All, map, find, ◌⊎◌, slice_index, filter}
use Rattle.std.specs.List.{list_any, AllPairs}
use Rattle.vd_num.specs.Number.{pages_of, is_within}
use Rattle.vd_pool.specs.Memory.{PoolMemory}
use Rattle.vd_bounce.specs.Frames.{frame_of, Holds}
use Rattle.vd_bounce.specs.Bounce.{Bounce, bounce_len, is_page_present}
use Rattle.vd_iova.specs.Space.{Space, taken_at}
use Rattle.vd_model.specs.Acts.{Streaming, Coherent}
use Rattle.vd_model.specs.Live.{meets_page}

pub record Held : Type 0 where
  -- the bounce pages and the daemon's area
  pub bounce : Bounce
  -- coherent memory from the end of bounce memory on, in pages of one slot, and the frames that it is kept in
  pub shared : Bounce
  pub store : PoolMemory
  -- the live mappings, the oldest first, and how many were made
  pub live : List Streaming
  pub maps : ℕ
  -- the live coherent regions, the oldest first, and how many were made
  pub regions : List Coherent
  pub made : ℕ
  -- the bounce region is live
  pub is_shown : Bool

-- how many slots of bounce memory there are; coherent memory begins behind them
abbrev pub bounce_slots : Held → ℕ
bounce_slots h = h.bounce.per_page * length h.bounce.frames

-- the live mapping of this number, and the live region
abbrev pub mapping_of : Held → ℕ → Option Streaming
mapping_of h number = find (λ m. m.number == number) h.live

abbrev pub coherent_of : Held → ℕ → Option Coherent
coherent_of h number = find (λ r. r.number == number) h.regions

-- a range of slots that is held under a number
pub record Holding : Type 0 where
  pub number : ℕ
  pub slot : ℕ
  pub count : ℕ

abbrev pub mapping_holds : Streaming → Holding
mapping_holds m = record { number = m.number; slot = m.slot; count = pages_of m.want.len }

abbrev pub region_holds : Coherent → Holding
region_holds r = record { number = r.number; slot = r.slot; count = pages_of r.len }

-- a range that was taken in a space, under a number of those that were given out
pub record IsTaken (space : Space) (made : ℕ) (h : Holding) : Type 0 where
  pub some : 0 < h.count
  pub low : space.first ≤ h.slot
  pub high : h.slot + h.count ≤ space.«end»
  pub taken : taken_at space h.slot ≡ h.count
  pub number : h.number < made

-- two ranges have no slot in common, and different numbers
pub record IsApart (h k : Holding) : Type 0 where
  pub slots : (h.slot + h.count ≤ k.slot) ⊎ (k.slot + k.count ≤ h.slot)
  pub numbers : k.number ≢ h.number

-- these are the ranges that are taken in a space
pub record AreTaken (space : Space) (made : ℕ) (holds : List Holding) : Type 0 where
  pub each : All (IsTaken space made) holds
  pub apart : AllPairs IsApart holds
  pub back : (q : ℕ) → 0 < taken_at space q → list_any (λ h. h.slot == q) holds ≡ true

-- the region has the slot
abbrev pub has_slot : ℕ → Coherent → Bool
has_slot slot r = is_within r.slot (pages_of r.len) slot

-- what is true of each: `uses` says how many live mappings meet each page
pub record IsFit (h : Held) (low high : Space) (uses : List ℕ) : Type 0 where
  pub some : 0 < h.bounce.per_page
  pub few : h.bounce.per_page ≤ 16
  pub pages : 0 < length h.bounce.frames
  pub room : (u : ℕ) → h.bounce.user ≡ Some u → u + bounce_len h.bounce ≤ length (unwrap_or h.bounce.area [])
  pub low_first : low.first ≡ h.bounce.per_page
  pub low_end : low.«end» ≡ bounce_slots h
  pub high_first : high.first ≡ bounce_slots h
  pub high_end : high.«end» ≡ bounce_slots h + length h.shared.frames
  pub small : bounce_slots h + length h.shared.frames ≤ 65536
  pub maps : AreTaken low h.maps (map mapping_holds h.live)
  pub regions : AreTaken high h.made (map region_holds h.regions)
  pub each : length uses ≡ length h.bounce.frames
  pub count : (p : ℕ) → p < length h.bounce.frames → slice_index uses p ≡ length (filter (meets_page h.bounce.per_page p) h.live)
  pub most : (p : ℕ) → slice_index uses p ≤ h.maps
  pub framed : (p : ℕ) → 0 < slice_index uses p → is_some (frame_of h.bounce.frames p) ≡ true
  pub slots : h.shared.per_page ≡ 1
  pub plain : h.shared.user ≡ None
  pub store : Holds h.shared.frames h.store
  pub size : h.store.per_page ≡ 1
  pub shown : (p : ℕ) → is_page_present h.shared p ≡ list_any (has_slot (bounce_slots h + p)) h.regions

-- as many mappings and regions were made, and the pages are as long
pub record SameCounts (old new : Held) : Type 0 where
  pub maps : new.maps ≡ old.maps
  pub made : new.made ≡ old.made
  pub page : new.bounce.per_page ≡ old.bounce.per_page
