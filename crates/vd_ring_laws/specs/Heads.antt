-- The heads of a ring's requests: those that were placed, and those that were pushed.
use Rattle.std.specs.Prelude.{ℕ, List, [], ◌∷◌, ◌++◌, ◌==◌, ◌&&◌, if◌then◌else◌, Option, Some, None, is_some}
use Rattle.std.specs.Option.{option_map}
use Rattle.vd_model.specs.Setting.{Setting}
use Rattle.vd_model.specs.Acts.{Act, Ring_made, Chain_added, Finished}
use Rattle.vd_model.specs.Acts as act
use Rattle.vd_model.specs.Queues.{in_hand}
use Rattle.vd_model.specs.DaemonTurns.{hand}

-- the heads of the requests that were placed since the ring was made, the oldest first
abbrev pub placed_heads : List Act → ℕ → List ℕ
placed_heads [] q = []
placed_heads (act.Queue (Chain_added k chain) ∷ acts) q = if (k == q) && is_some chain.request then placed_heads acts q ++ chain.head ∷ [] else placed_heads acts q
placed_heads (act.Queue (Ring_made k place region) ∷ acts) q = if k == q then [] else placed_heads acts q
placed_heads (_ ∷ acts) q = placed_heads acts q

-- the head of the request in hand
abbrev pub head_in_hand : Setting → List Act → ℕ → Option ℕ
head_in_hand x acts q = option_map (λ earlier. (hand x earlier q).head) (in_hand acts q)

abbrev pub with_head : List ℕ → Option ℕ → List ℕ
with_head heads None = heads
with_head heads (Some head) = heads ++ head ∷ []

-- the heads that finishes pushed since the ring was made, the oldest first
abbrev pub pushed_heads : Setting → List Act → ℕ → List ℕ
pushed_heads x [] q = []
pushed_heads x (act.Queue (Finished k) ∷ acts) q = if k == q then with_head (pushed_heads x acts q) (head_in_hand x acts q) else pushed_heads x acts q
pushed_heads x (act.Queue (Ring_made k place region) ∷ acts) q = if k == q then [] else pushed_heads x acts q
pushed_heads x (_ ∷ acts) q = pushed_heads x acts q
