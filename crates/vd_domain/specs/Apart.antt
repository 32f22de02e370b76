-- Where live mappings and live coherent regions lie.
use Rattle.std.specs.Prelude.{ℕ, ◌+◌, ◌≤◌, List}
use Rattle.std.specs.List.{All}
use Rattle.vd_num.specs.Number.{pages_of}
use Rattle.vd_model.specs.Setting.{Setting}
use Rattle.vd_model.specs.Acts.{Act}
use Rattle.vd_model.specs.Live.{live_mappings, live_regions}

-- live mappings lie in bounce memory, and live coherent regions behind it
pub record AreApart (x : Setting) (acts : List Act) : Type 0 where
  pub low : All (λ m. m.slot + pages_of m.want.len ≤ x.bounce) (live_mappings acts)
  pub high : All (λ r. x.bounce ≤ r.slot) (live_regions acts)
