-- A small history meets the conditions of the order law, and a store into the ring breaks it.
use Rattle.std.proofs.Common.{arith, ◌≡◌, ℕ, refl, sym, ◌∙◌, List, [], ◌∷◌, ◌++◌, ap}
use Rattle.std.specs.Int.Count.{ones}
use Rattle.vd_num.specs.Number.{power_from, doubled_to}
use Rattle.vd_model.specs.Memory.{read}
use Rattle.vd_model.specs.Place.{greatest, place_of}
use Rattle.vd_model.specs.Trace.{ending_at, ending_within}
use Rattle.vd_model.specs.History.{deeds_of}
use Rattle.vd_laws.specs.Runs.{acts_of}
use Rattle.vd_laws.specs.Small.{v}
use Rattle.vd_ring_laws.specs.Heads.{placed_heads, pushed_heads}
use Rattle.vd_ring_laws.specs.CalmInstances.{small}
use Rattle.vd_ring_laws.proofs.CalmRuns.{there}
use Rattle.vd_ring_laws.proofs.CalmInstances.{calm_met}
use Rattle.vd_order_laws.specs.OrderInstances.{disturbed_run, OrderInstances}

placed_is : placed_heads (acts_of small disturbed_run v) 0 ≡ 0 ∷ 2 ∷ []
unfolding deeds_of place_of greatest power_from doubled_to read ending_at ending_within ones
placed_is = refl

pushed_is : pushed_heads small (acts_of small disturbed_run v) 0 ≡ 2 ∷ []
unfolding deeds_of place_of greatest power_from doubled_to read ending_at ending_within ones
pushed_is = refl

broken_is : (rest : List ℕ) → placed_heads (acts_of small disturbed_run v) 0 ≡ pushed_heads small (acts_of small disturbed_run v) 0 ++ rest → ⊥
broken_is rest e = let f : 0 ∷ 2 ∷ [] ≡ 2 ∷ rest = sym placed_is ∙ (e ∙ ap (λ l. l ++ rest) pushed_is) in cc

pub order_met : OrderInstances
unfolding deeds_of place_of greatest power_from doubled_to read ending_at ending_within ones
order_met = record {
  addressed = omega arith;
  whole = (8, omega arith);
  calm = calm_met.calm;
  ring = there;
  there = refl;
  first = calm_met.pushed_one;
  placed_two = placed_is;
  pushed_second = pushed_is;
  breaks = broken_is;
}
