-- What contracts see of the buffers: a place for each that was made.
use Rattle.std.specs.Prelude.{ℕ, ◌+◌, ◌<◌, ◌≤◌, ◌≡◌, List, length, take, drop, sum_by, Option, Some, None, slice_index_or}
use Rattle.std.specs.Option.{option_map, option_map_or}
use Rattle.vd_model.specs.DriverTurns.{buffer_limit}

-- the bytes of each buffer, by its number, and none where it was freed or is lent out
abbrev pub Places : Type 0
Places = List (Option (List ℕ))

abbrev pub place_of : Places → ℕ → Option (List ℕ)
place_of places buffer = slice_index_or places buffer None

abbrev pub len_of : Places → ℕ → Option ℕ
len_of places buffer = option_map length (place_of places buffer)

-- how many bytes they have together
abbrev pub total_of : Places → ℕ
total_of places = sum_by (λ place. option_map_or length place 0) places

pub record IsFit (total : ℕ) (places : Places) : Type 0 where
  pub count : total ≡ total_of places
  pub limit : total ≤ buffer_limit

-- some bytes of a buffer that is there, and which
pub record IsRange (places : Places) (buffer offset len : ℕ) (text : List ℕ) : Type 0 where
  pub bytes : List ℕ
  pub there : place_of places buffer ≡ Some bytes
  pub within : offset + len ≤ length bytes
  pub nonzero : 0 < len
  pub is : text ≡ take len (drop offset bytes)
