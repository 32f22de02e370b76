-- The rings of a calm history.
use Rattle.std.specs.Prelude.{ℕ, List, length, Some, ◌≡◌}
use Rattle.vd_model.specs.Setting.{Setting}
use Rattle.vd_model.specs.Acts.{Act}
use Rattle.vd_model.specs.Queues.{Ring, ring_of, added_count}
use Rattle.vd_model.specs.History.{History}
use Rattle.vd_laws.specs.Runs.{acts_of}
use Rattle.vd_ring_laws.specs.Calm.{IsCalm}
use Rattle.vd_ring_laws.specs.Heads.{placed_heads}
use Rattle.vd_ring_laws.specs.ChainLaw.{AreApart}

-- a ring on which requests alone were placed
pub record HasRequests (acts : List Act) (q : ℕ) (ring : Ring) : Type 0 where
  -- those that are out are apart
  pub apart : AreApart acts q ring
  -- as many chains were added as requests were placed
  pub counted : added_count acts q ≡ length (placed_heads acts q)

-- on each ring of a calm history requests alone were placed
abbrev pub CalmLaw : Setting → History → Type 0
CalmLaw x h = (d : List ℕ) → IsCalm x h d → (q : ℕ) (ring : Ring) → ring_of (acts_of x h d) q ≡ Some ring → HasRequests (acts_of x h d) q ring
