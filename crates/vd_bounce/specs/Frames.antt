-- A row of pages, each with a frame of one pool or none, seen as bytes one after another.
use Rattle.std.specs.Prelude.{ℕ, ◌+◌, ◌/◌, ◌%◌, ◌<◌, ◌≤◌, ◌≡◌, ◌≢◌, List, true, slice_index_or, Option, Some, None, is_some, if◌then◌else◌}
use Rattle.std.specs.List.{sum_by}
use Rattle.std.specs.Option.{option_map_or}
use Rattle.vd_pool.specs.Memory.{PoolMemory, is_out, byte_of}

-- the frame of a page, if it has one
abbrev pub frame_of : List (Option ℕ) → ℕ → Option ℕ
frame_of frames page = slice_index_or frames page None

-- the byte at an address, where pages have `size` bytes, and zero where the page has no frame
abbrev pub frame_byte : ℕ → List (Option ℕ) → PoolMemory → ℕ → ℕ
frame_byte size frames m a = option_map_or (λ f. byte_of m f (a % size)) (frame_of frames (a / size)) 0

-- the frames of the row were taken from this pool and not given back, and no two pages have the same
pub record Holds (frames : List (Option ℕ)) (m : PoolMemory) : Type 0 where
  pub out : (page f : ℕ) → frame_of frames page ≡ Some f → is_out m f ≡ true
  pub apart : (p q f : ℕ) → frame_of frames p ≡ Some f → frame_of frames q ≡ Some f → p ≡ q

-- the frame is none of the row's
abbrev pub IsOther : List (Option ℕ) → ℕ → Type 0
IsOther frames g = (page : ℕ) → frame_of frames page ≢ Some g

-- what a call on the row leaves: the frames that others hold stay out, with their bytes, and none of them comes into the row
pub record Keeps (old new : List (Option ℕ)) (before after : PoolMemory) : Type 0 where
  pub holds : Holds new after
  pub size : after.per_page ≡ before.per_page
  pub others : (g : ℕ) → is_out before g ≡ true → IsOther old g → (is_out after g ≡ true) × IsOther new g × ((i : ℕ) → byte_of after g i ≡ byte_of before g i)

-- how many pages of the row have a frame
abbrev pub held_count : List (Option ℕ) → ℕ
held_count frames = sum_by (λ slot. if is_some slot then 1 else 0) frames

-- each address of the range lies in a page that has a frame
abbrev pub Reaches : ℕ → List (Option ℕ) → ℕ → ℕ → Type 0
Reaches size frames at len = (a : ℕ) → at ≤ a → a < at + len → is_some (frame_of frames (a / size)) ≡ true
