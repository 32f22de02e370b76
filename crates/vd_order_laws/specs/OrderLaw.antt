-- The order law: requests finish in the order in which they were submitted.
use Rattle.std.specs.Prelude.{ℕ, List, ◌++◌, Some, ◌≡◌}
use Rattle.vd_model.specs.Setting.{Setting}
use Rattle.vd_model.specs.Queues.{Ring, ring_of}
use Rattle.vd_model.specs.History.{History}
use Rattle.vd_laws.specs.Runs.{acts_of, IsAddressed, IsWhole}
use Rattle.vd_ring_laws.specs.Calm.{IsCalm}
use Rattle.vd_ring_laws.specs.Heads.{placed_heads, pushed_heads}

-- on each ring of a calm history the heads that were pushed are the first ones of those that were placed, in their order
abbrev pub OrderLaw : Setting → History → Type 0
OrderLaw x h = IsAddressed x → IsWhole x → (d : List ℕ) → IsCalm x h d → (q : ℕ) (ring : Ring) → ring_of (acts_of x h d) q ≡ Some ring
    → (rest : List ℕ) × (placed_heads (acts_of x h d) q ≡ pushed_heads x (acts_of x h d) q ++ rest)
