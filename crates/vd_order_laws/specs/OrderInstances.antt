-- A small history that meets the conditions of the order law, and one in which a line that isn't calm breaks it.
use Rattle.std.specs.Prelude.{ℕ, List, [], ◌∷◌, ◌++◌, Some, ◌≡◌}
use Rattle.vd_model.specs.declared.step.Step.{Step}
use Rattle.vd_model.specs.declared.step.Step.TheVariants.{Device}
use Rattle.vd_model.specs.declared.step.DevStep.TheVariants as line
use Rattle.vd_model.specs.declared.step.AreaStep.TheVariants as area
use Rattle.vd_model.specs.Queues.{Ring, ring_of}
use Rattle.vd_model.specs.History.{History}
use Rattle.vd_laws.specs.Runs.{acts_of, IsAddressed, IsWhole}
use Rattle.vd_laws.specs.Small.{v, history_of, dev}
use Rattle.vd_ring_laws.specs.Calm.{IsCalm}
use Rattle.vd_ring_laws.specs.Heads.{placed_heads, pushed_heads}
use Rattle.vd_ring_laws.specs.CalmInstances.{small, ring, number, addresses, ready, submit, fetch, execute, finish, run}

-- a daemon writes the head of the second request over that of the first one in the ring
abbrev pub store : Step
store = Device v (line.Area (area.Store 0xf044 (2 ∷ 0 ∷ [])))

-- the calm history, with that line before the fetch
abbrev pub disturbed_run : History
disturbed_run = history_of (finish ∷ execute ∷ fetch ∷ store ∷ submit ∷ submit ∷ ready ∷ addresses ∷ number ∷ ring ∷ dev v ∷ [])

pub record OrderInstances : Type 0 where
  -- the conditions are met at once, by a ring on which a head was pushed
  pub addressed : IsAddressed small
  pub whole : IsWhole small
  pub calm : IsCalm small run v
  pub ring : Ring
  pub there : ring_of (acts_of small run v) 0 ≡ Some ring
  pub first : pushed_heads small (acts_of small run v) 0 ≡ 0 ∷ []
  -- with the store the second request finishes before the first one
  pub placed_two : placed_heads (acts_of small disturbed_run v) 0 ≡ 0 ∷ 2 ∷ []
  pub pushed_second : pushed_heads small (acts_of small disturbed_run v) 0 ≡ 2 ∷ []
  pub breaks : (rest : List ℕ) → placed_heads (acts_of small disturbed_run v) 0 ≡ pushed_heads small (acts_of small disturbed_run v) 0 ++ rest → ⊥
