-- What an unmap and a sync give to a buffer.
use Rattle.std.specs.Prelude.{ℕ, ◌+◌, ◌-◌, ◌&&◌, if◌then◌else◌, List}
use Rattle.vd_num.specs.Number.{is_within}
use Rattle.vd_model.specs.Acts.{Act, Streaming}
use Rattle.vd_model.specs.Live.{iova_of}
use Rattle.vd_model.specs.Puts.{shown_put, is_from_device}

-- byte i of the mapping's buffer afterwards, where it was `old`
abbrev pub given : ℕ → List Act → Streaming → ℕ → ℕ → ℕ
given g acts m i old =
    if is_from_device m.want.dir && is_within m.want.offset m.want.len i then (shown_put g acts (iova_of m + (i - m.want.offset))).byte else old
