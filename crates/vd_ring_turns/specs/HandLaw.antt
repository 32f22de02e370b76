-- What the maps of a request hand to the device.
use Rattle.std.specs.Prelude.{ℕ, ◌+◌, ◌<◌, List, ◌++◌, ◌≡◌}
use Rattle.vd_model.specs.declared.memory.Dir.TheVariants.{To}
use Rattle.vd_model.specs.Setting.{Setting}
use Rattle.vd_model.specs.Acts.{Act, Streaming}
use Rattle.vd_model.specs.Live.{iova_of}
use Rattle.vd_model.specs.Puts.{ram, shown_put}
use Rattle.vd_model.specs.RingTurns.{map_acts}
use Rattle.vd_model.specs.History.{History}
use Rattle.vd_laws.specs.Among.{Among}
use Rattle.vd_laws.specs.Runs.{IsMoment, IsAddressed, IsWhole}

-- right after the maps of some mappings, the addresses of each that goes to the device show the bytes that its buffer had before them
abbrev pub HandLaw : Setting → History → Type 0
HandLaw x h = IsAddressed x → IsWhole x → (d : List ℕ) (ms : List Streaming) (acts : List Act) → IsMoment x h d (map_acts ms ++ acts)
    → (m : Streaming) → Among m ms → m.want.dir ≡ To
    → (i : ℕ) → i < m.want.len → (shown_put x.per_page (map_acts ms ++ acts) (iova_of m + i)).byte ≡ ram x.per_page acts m.want.buffer (m.want.offset + i)
