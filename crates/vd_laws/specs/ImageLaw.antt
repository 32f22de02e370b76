-- What the image holds in a name's window.
use Rattle.std.specs.Prelude.{ℕ, ◌+◌, ◌*◌, ◌<◌, List, Some, ◌≡◌}
use Rattle.vd_model.specs.declared.memory.Window.{Window}
use Rattle.vd_model.specs.Setting.{Setting}
use Rattle.vd_model.specs.Deeds.{acts_of_name, window_of, window_byte, image_byte}
use Rattle.vd_model.specs.History.{History, deeds_of}

-- byte j of a name's window of the image is what the name's own acts left there, over what the image held at first
abbrev pub ImageLaw : Setting → History → Type 0
ImageLaw x h = (d : List ℕ) (w : Window) → window_of d (deeds_of x h) ≡ Some w → (j : ℕ) → j < 512 * w.count
    → image_byte x (deeds_of x h) (512 * w.first + j) ≡ window_byte (λ i. x.content (512 * w.first + i)) (acts_of_name d (deeds_of x h)) j
