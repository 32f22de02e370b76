-- The words of a run over a cache.
use Rattle.std.specs.Prelude.{ℕ, ◌≡◌, ◌≤◌, ◌<◌, List, [], ◌∷◌, codes, map, string_bytes, if◌then◌else◌, Option, Some, None, is_some, true, IsSome}
use Rattle.std.specs.Option.{option_map, option_and_then}
use Rattle.std.specs.Str.{bytes_eq}
use Rattle.vd_options.specs.Words.{Sizes, asked_sizes, between, decimal_of}
use Rattle.vd_cached.specs.declared.words.CachedWords.{CachedWords}

-- how many sectors may stay dirty, and the words of the run itself
pub record CachedRun : Type 0 where
  pub lines : ℕ
  pub words : List (List ℕ)

-- `cached`, a number of lines, and pairs as those of a run
abbrev pub cached_run : List (List ℕ) → Option CachedRun
cached_run [] = None
cached_run (first ∷ []) = None
cached_run (first ∷ lines ∷ pairs) =
    if bytes_eq first (codes "cached") then option_map (λ n. record { lines = n; words = codes "run" ∷ pairs }) (between 1 65536 (decimal_of lines)) else None

-- the sizes that they ask for
abbrev pub cached_sizes : List (List ℕ) → Option Sizes
cached_sizes words = option_and_then (λ run. asked_sizes run.words) (cached_run words)

-- these words were read, and the run's own are those of a run
pub record IsCached (w : CachedWords) (asked : Option CachedRun) : Type 0 where
  pub words : asked ≡ Some (record { lines = w.lines; words = map string_bytes w.run.items })
  pub sizes : IsSome (asked_sizes (map string_bytes w.run.items))
  pub some : 0 < w.lines
  pub few : w.lines ≤ 65536
