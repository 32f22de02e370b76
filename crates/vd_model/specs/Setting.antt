-- The numbers of a run that no step changes.
use Rattle.std.specs.Prelude.{ℕ, ◌*◌}

-- how much memory each device has, in slots of 4,096 bytes: `bounce` slots of bounce memory, then coherent
-- memory up to slot `iova`; how many slots a page has (1 or 16); and the image's sectors and first bytes
pub record Setting : Type 0 where
  pub bounce : ℕ
  pub iova : ℕ
  pub per_page : ℕ
  pub sectors : ℕ
  pub content : ℕ → ℕ

-- the bytes of bounce memory
abbrev pub bounce_size : Setting → ℕ
bounce_size x = 4096 * x.bounce
