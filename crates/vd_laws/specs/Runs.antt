-- What a history did to one device.
use Rattle.std.specs.Prelude.{ℕ, ◌*◌, ◌^◌, ◌≤◌, List, ◌++◌, ◌≡◌}
use Rattle.vd_model.specs.Setting.{Setting}
use Rattle.vd_model.specs.Acts.{Act}
use Rattle.vd_model.specs.Deeds.{acts_of_device}
use Rattle.vd_model.specs.History.{History, deeds_of}

-- the acts on a device in a history since it was last made, the newest first
abbrev pub acts_of : Setting → History → List ℕ → List Act
acts_of x h d = acts_of_device d (deeds_of x h)

-- the device's acts up to some moment of a history
abbrev pub IsMoment : Setting → History → List ℕ → List Act → Type 0
IsMoment x h d acts = (later : List Act) × (acts_of x h d ≡ later ++ acts)

-- the addresses of a device's memory have 64 bits
abbrev pub IsAddressed : Setting → Type 0
IsAddressed x = 4096 * x.iova ≤ 2 ^ 64

-- bounce memory has whole pages
abbrev pub IsWhole : Setting → Type 0
IsWhole x = (n : ℕ) × (x.bounce ≡ n * x.per_page)
