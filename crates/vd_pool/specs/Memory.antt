-- What contracts see of a pool: which frames are out, the bytes of each, and how many more can be taken.
use Rattle.std.specs.Prelude.{ℕ, ◌+◌, ◌-◌, ◌*◌, ◌<◌, ◌≤◌, ◌≡◌, List, [], length, Bool, false, ◌==◌, nat_lt, nat_le, ◌&&◌, ◌||◌, not, if◌then◌else◌, slice_index, slice_index_or}
use Rattle.vd_num.specs.Number.{is_within}

-- the bytes of each frame, where each stands in the pool's order, how many can be taken, and the slots of a frame
pub record PoolMemory : Type 0 where
  pub frames : List (List ℕ)
  pub place : List ℕ
  pub spare : ℕ
  pub per_page : ℕ

-- how many bytes a frame has
abbrev pub frame_size : PoolMemory → ℕ
frame_size m = 4096 * m.per_page

-- the frame was taken from this pool and not given back
unfoldable pub is_out : PoolMemory → ℕ → Bool
is_out m f = nat_lt f (length m.place) && nat_le m.spare (slice_index m.place f)

-- byte i of a frame
unfoldable pub byte_of : PoolMemory → ℕ → ℕ → ℕ
byte_of m f i = slice_index (slice_index_or m.frames f []) i

-- the frame was not out and is out now, full of zeros, and nothing else changed
pub record Takes (frame : ℕ) (old new : PoolMemory) : Type 0 where
  pub fresh : is_out old frame ≡ false
  pub spare : new.spare + 1 ≡ old.spare
  pub out : (f : ℕ) → is_out new f ≡ ((f == frame) || is_out old f)
  pub bytes : (f i : ℕ) → byte_of new f i ≡ (if f == frame then 0 else byte_of old f i)
  pub size : new.per_page ≡ old.per_page

-- the frame is not out any more, and nothing else changed
pub record Gives (frame : ℕ) (old new : PoolMemory) : Type 0 where
  pub spare : new.spare ≡ old.spare + 1
  pub out : (f : ℕ) → is_out new f ≡ (not (f == frame) && is_out old f)
  pub bytes : (f i : ℕ) → byte_of new f i ≡ byte_of old f i
  pub size : new.per_page ≡ old.per_page

-- the text stands in the frame from this index on, and nothing else changed
pub record Writes (frame at : ℕ) (text : List ℕ) (old new : PoolMemory) : Type 0 where
  pub spare : new.spare ≡ old.spare
  pub out : (f : ℕ) → is_out new f ≡ is_out old f
  pub bytes : (f i : ℕ) → byte_of new f i
      ≡ (if (f == frame) && is_within at (length text) i then slice_index text (i - at) else byte_of old f i)
  pub size : new.per_page ≡ old.per_page

-- every byte of the frame is zero, and nothing else changed
pub record Clears (frame : ℕ) (old new : PoolMemory) : Type 0 where
  pub spare : new.spare ≡ old.spare
  pub out : (f : ℕ) → is_out new f ≡ is_out old f
  pub bytes : (f i : ℕ) → byte_of new f i ≡ (if f == frame then 0 else byte_of old f i)
  pub size : new.per_page ≡ old.per_page

-- the frames that are out are as before, and no fewer can be taken
pub record Grows (old new : PoolMemory) : Type 0 where
  pub spare : old.spare ≤ new.spare
  pub out : (f : ℕ) → is_out new f ≡ is_out old f
  pub bytes : (f i : ℕ) → byte_of new f i ≡ byte_of old f i
  pub size : new.per_page ≡ old.per_page

-- a frame that is out was added to the pool
pub record Adds (frame : ℕ) (old new : PoolMemory) : Type 0 where
  pub spare : new.spare ≡ old.spare
  pub fresh : is_out old frame ≡ false
  pub out : (f : ℕ) → is_out new f ≡ ((f == frame) || is_out old f)
  pub bytes : (f i : ℕ) → byte_of new f i ≡ byte_of old f i
  pub size : new.per_page ≡ old.per_page

-- what is true of each pool: each frame has its bytes, and order and place are inverse to each other
pub record IsSound (m : PoolMemory) (order : List ℕ) : Type 0 where
  pub places : length m.place ≡ length m.frames
  pub orders : length order ≡ length m.frames
  pub spare : m.spare ≤ length m.frames
  pub sizes : (f : ℕ) → f < length m.frames → length (slice_index_or m.frames f []) ≡ 4096 * m.per_page
  pub back : (i : ℕ) → i < length m.frames → (slice_index order i < length m.frames) × (slice_index m.place (slice_index order i) ≡ i)
  pub forth : (f : ℕ) → f < length m.frames → (slice_index m.place f < length m.frames) × (slice_index order (slice_index m.place f) ≡ f)
