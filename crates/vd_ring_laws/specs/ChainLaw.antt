-- The chains that are out on a ring.
use Rattle.std.specs.Prelude.{ℕ, ◌+◌, ◌≤◌, ◌<◌, List, [], ◌∷◌, length, map, Bool, true, IsTrue, nat_lt, ◌&&◌, ◌==◌, if◌then◌else◌, Some, ◌≡◌}
use Rattle.vd_model.specs.Setting.{Setting}
use Rattle.vd_model.specs.Acts.{Act, Queue, AddedChain, Ring_made, Chain_added}
use Rattle.vd_model.specs.Queues.{Ring, ring_of, added_count, reclaimed_count, chains_out, published_chains_out}
use Rattle.vd_model.specs.History.{History}
use Rattle.vd_laws.specs.Among.{Among}
use Rattle.vd_laws.specs.Runs.{IsMoment}

-- each chain that was placed on the ring has a descriptor
abbrev pub have_descriptors : List Act → ℕ → Bool
have_descriptors [] q = true
have_descriptors (Queue (Chain_added k chain) ∷ acts) q =
    if k == q then nat_lt 0 (length chain.descriptors) && have_descriptors acts q else have_descriptors acts q
have_descriptors (Queue (Ring_made k place region) ∷ acts) q = if k == q then true else have_descriptors acts q
have_descriptors (_ ∷ acts) q = have_descriptors acts q

-- the heads of some chains
abbrev pub heads : List AddedChain → List ℕ
heads chains = map (λ chain. chain.head) chains

-- no number is twice in a list
abbrev pub AreDistinct : List ℕ → Type 0
AreDistinct [] = Unit {0}
AreDistinct (n ∷ ns) = (Among n ns → ⊥) × AreDistinct ns

-- the chains of a ring that are out at a moment
pub record AreApart (acts : List Act) (q : ℕ) (ring : Ring) : Type 0 where
  -- their heads differ
  pub distinct : AreDistinct (heads (chains_out acts q))
  -- and are descriptors of the ring
  pub low : (chain : AddedChain) → Among chain (chains_out acts q) → chain.head < ring.place.size
  -- so there are no more of them than the ring has descriptors
  pub fit : length (chains_out acts q) ≤ ring.place.size
  -- each chain that was placed is out until it is reclaimed
  pub counted : added_count acts q ≡ reclaimed_count acts q + length (chains_out acts q)
  -- and those that were published are among them
  pub published : (chain : AddedChain) → Among chain (published_chains_out acts q) → Among chain (chains_out acts q)

-- at each moment of a history, on a ring on which no chain without a descriptor was placed
abbrev pub ChainLaw : Setting → History → Type 0
ChainLaw x h = (d : List ℕ) (acts : List Act) → IsMoment x h d acts → (q : ℕ) → IsTrue (have_descriptors acts q)
    → (ring : Ring) → ring_of acts q ≡ Some ring → AreApart acts q ring
