-- What a request that is mapped stands for.
use Rattle.std.specs.Prelude.{ℕ, ◌≡◌, ◌++◌, List, [], ◌∷◌, true, is_some, Some, None, Result, Err, IfOk, OnOk, OnErr}
use Rattle.vd_model.specs.declared.memory.Want.{Want}
use Rattle.vd_model.specs.declared.memory.MapError.{MapError}
use Rattle.vd_model.specs.declared.memory.MapError.TheVariants.{NoSpace}
use Rattle.vd_model.specs.Setting.{Setting}
use Rattle.vd_model.specs.Acts.{Act, Streaming}
use Rattle.vd_model.specs.Live.{maps}
use Rattle.vd_model.specs.Place.{taken_slots}
use Rattle.vd_model.specs.RingTurns.{placed_mappings, map_acts}
use Rattle.blk_driver.specs.Buffers.{has_range}

-- each of the ranges is in a buffer that is there
abbrev pub AreThere : List Act → List Want → Type 0
AreThere acts [] = Unit {0}
AreThere acts (want ∷ wants) = (has_range acts want.buffer want.offset want.len ≡ true) × AreThere acts wants

-- all the ranges were mapped, each at its place, or none: no place exactly where one of them has none, unless memory is wanting
pub record Maps {S : Type 0} (stands : S → Setting → List Act → Type 0) (old : S) (wants : List Want) (result : Result ℕ MapError) (new : S) : Type 0 where
  pub mapped : (x : Setting) (acts : List Act) (ms : List Streaming) → stands old x acts → AreThere acts wants
      → placed_mappings x (taken_slots acts) (maps acts) wants ≡ Some ms → OnOk result (stands new x (map_acts ms ++ acts))
  pub placed : (x : Setting) (acts : List Act) → stands old x acts
      → IfOk result (λ number. (number ≡ maps acts) × (is_some (placed_mappings x (taken_slots acts) (maps acts) wants) ≡ true))
  pub full : (x : Setting) (acts : List Act) → stands old x acts → result ≡ Err NoSpace → placed_mappings x (taken_slots acts) (maps acts) wants ≡ None
  pub stays : (x : Setting) (acts : List Act) → stands old x acts → OnErr result (stands new x acts)
