-- The fields of a struct in memory: where each stands, which bytes it has, and how it is read.
use Rattle.std.specs.Prelude.{◌≡◌, ◌==◌, ℕ, ◌+◌, ◌-◌, ◌<◌, ◌^◌, ◌++◌, ⊤, not, IsTrue, List, length, take, drop, fold, replicate, slice_range}
use Rattle.std.specs.List.{AllByRecursion, list_all, before_first}
use Rattle.vd_num.specs.Field.{field_at, with_field}
use Rattle.vd_model.specs.Raw.{are_zero}

-- a field of a struct, at an offset
pub data StructField : Type 0 where
  -- a little-endian number of so many bytes
  number : (at bytes value : ℕ) → StructField
  -- a text in so much room, with at least one zero behind it
  text : (at room : ℕ) (chars : List ℕ) → StructField
  -- all bytes from there on
  rest : (at : ℕ) (bytes : List ℕ) → StructField
  -- so many bytes that have to be zero
  reserved : (at bytes : ℕ) → StructField

-- where the field begins
abbrev pub offset : StructField → ℕ
offset (number at n value) = at
offset (text at room chars) = at
offset (rest at bytes) = at
offset (reserved at n) = at

-- how many bytes it has
abbrev pub size : StructField → ℕ
size (number at n value) = n
size (text at room chars) = room
size (rest at bytes) = length bytes
size (reserved at n) = n

-- the list with the bytes of another in place of its own from `at` on
abbrev pub with_bytes : List ℕ → ℕ → List ℕ → List ℕ
with_bytes old at bytes = take at old ++ (bytes ++ drop (length bytes) (drop at old))

-- zeros with the field written into them
abbrev pub with_written : List ℕ → StructField → List ℕ
with_written zeros (number at n value) = with_field n zeros at value
with_written zeros (text at room chars) = with_bytes zeros at chars
with_written zeros (rest at bytes) = with_bytes zeros at bytes
with_written zeros (reserved at n) = zeros

-- a struct of len bytes: each field at its offset, and zeros everywhere else
unfoldable pub laid_out : ℕ → List StructField → List ℕ
laid_out len fields = fold with_written (replicate len 0) fields

-- the bytes before the first zero, or all
abbrev pub before_zero : List ℕ → List ℕ
before_zero bytes = before_first (λ byte. byte == 0) bytes

-- the field is what is read at its offset; the last byte of a text's room counts as zero
abbrev pub Shows : List ℕ → StructField → Type 0
Shows bytes (number at n value) = value ≡ field_at n bytes at
Shows bytes (text at room chars) = chars ≡ before_zero (slice_range bytes at (at + (room - 1)))
Shows bytes (rest at held) = held ≡ drop at bytes
Shows bytes (reserved at n) = IsTrue (are_zero (slice_range bytes at (at + n)))

-- each of the fields is what is read at its offset
abbrev pub ShowsEach : List ℕ → List StructField → Type 0
ShowsEach bytes fields = AllByRecursion (Shows bytes) fields

-- a text that has room for a zero behind it, and has none in it
pub record IsText (room : ℕ) (chars : List ℕ) : Type 0 where
  pub ends : length chars < room
  pub no_zero : IsTrue (list_all (λ byte. not (byte == 0)) chars)

-- the field has a value that its bytes can hold
abbrev pub Fits : StructField → Type 0
Fits (number at n value) = value < 256 ^ n
Fits (text at room chars) = IsText room chars
Fits (rest at bytes) = ⊤
Fits (reserved at n) = ⊤

-- each of the fields has a value that its bytes can hold
abbrev pub FitsEach : List StructField → Type 0
FitsEach fields = AllByRecursion Fits fields
