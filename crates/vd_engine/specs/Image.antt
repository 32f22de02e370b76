-- What the image holds.
use Rattle.std.specs.Prelude.{ℕ, ◌+◌, ◌*◌, ◌<◌, ◌≤◌, ◌≡◌, List, length, slice_index, Option, Some}
use Rattle.vd_model.specs.declared.memory.Window.{Window}
use Rattle.vd_model.specs.Setting.{Setting}
use Rattle.vd_model.specs.Deeds.{Deed, acts_of_name, window_of, window_byte, image_byte}

-- the image has the run's sectors, tells its bytes, and holds in each what was stored there last
pub record IsImage (x : Setting) (done : List Deed) (sectors : ℕ) (content : Option (List ℕ)) : Type 0 where
  pub size : sectors ≡ x.sectors
  pub bytes : List ℕ
  pub told : content ≡ Some bytes
  pub long : 512 * x.sectors ≤ length bytes
  pub each : (i : ℕ) → i < 512 * x.sectors → slice_index bytes i ≡ image_byte x done i

-- the bytes of each name's sectors are those that the name's own acts left there
abbrev pub HoldsOwn : Setting → List Deed → Type 0
HoldsOwn x done = (name : List ℕ) (w : Window) → window_of name done ≡ Some w → (j : ℕ) → j < 512 * w.count
    → image_byte x done (512 * w.first + j) ≡ window_byte (λ i. x.content (512 * w.first + i)) (acts_of_name name done) j
