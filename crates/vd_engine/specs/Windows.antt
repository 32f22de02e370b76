-- The sectors of the image that names have.
use Rattle.std.specs.Prelude.{ℕ, ◌+◌, ◌≤◌, ◌≡◌, List, Bool, ◌&&◌, nat_lt, All, find}
use Rattle.std.specs.List.{list_any}
use Rattle.std.specs.Option.{option_map}
use Rattle.std.specs.Str.{bytes_eq}
use Rattle.vd_model.specs.declared.memory.Window.{Window}
use Rattle.vd_model.specs.Deeds.{Deed, window_of, is_given}
use Rattle.vd_engine.specs.declared.windows.Given.{Given}

abbrev pub has_window : List ℕ → Given → Bool
has_window name g = bytes_eq name g.name

abbrev pub given_window : Given → Window
given_window g = g.window

-- so many sectors from the first on, and those that were given, share one
abbrev pub shares_sector : ℕ → ℕ → Given → Bool
shares_sector first count g = nat_lt first (g.window.first + g.window.count) && nat_lt g.window.first (first + count)

-- the sectors that names were given, all of them inside the image
pub record HasWindows (done : List Deed) (sectors : ℕ) (gs : List Given) : Type 0 where
  pub window : (name : List ℕ) → option_map given_window (find (has_window name) gs) ≡ window_of name done
  pub taken : (first count : ℕ) → list_any (shares_sector first count) gs ≡ is_given first count done
  pub inside : All (λ g. g.window.first + g.window.count ≤ sectors) gs
