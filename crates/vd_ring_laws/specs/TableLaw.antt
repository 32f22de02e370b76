-- What a driver's puts leave in a ring's table.
use Rattle.std.specs.Prelude.{ℕ, ◌<◌, ◌≤◌, List, ◌++◌, length, Some, ◌≡◌}
use Rattle.vd_model.specs.declared.parts.Part.{Part}
use Rattle.vd_model.specs.declared.queue.RingPlace.{RingPlace}
use Rattle.vd_model.specs.Setting.{Setting, bounce_size}
use Rattle.vd_model.specs.Acts.{Act}
use Rattle.vd_model.specs.Memory.{Memory}
use Rattle.vd_model.specs.Puts.{shown_put}
use Rattle.vd_model.specs.RingTurns.{descriptor_puts}
use Rattle.vd_model.specs.History.{History}
use Rattle.vd_laws.specs.Runs.{IsMoment, IsWhole}
use Rattle.vd_ring_laws.specs.ChainLaw.{AreDistinct}
use Rattle.vd_ring_laws.specs.TraceLaw.{IsLinked}

-- the byte that is shown at each address
abbrev pub shown_memory : Setting → List Act → Memory
shown_memory x acts a = Some ((shown_put x.per_page acts a).byte)

-- right after the puts of some parts at different descriptors of a table past bounce memory, the table has them
abbrev pub TableLaw : Setting → History → Type 0
TableLaw x h = IsWhole x → (d : List ℕ) (r : RingPlace) (parts : List Part) (ds : List ℕ) (earlier : List Act)
    → IsMoment x h d (descriptor_puts r parts ds ++ earlier) → bounce_size x ≤ r.desc
    → AreDistinct ds → length parts ≡ length ds → 0 < length ds
    → IsLinked (shown_memory x (descriptor_puts r parts ds ++ earlier)) r parts ds
