-- The driver's side of a ring stands for the acts on its queue.
use Rattle.std.specs.Prelude.{ℕ, ◌≡◌, ◌%◌, ◌<◌, ◌==◌, List, [], ◌∷◌, length, Bool, true, false, Option, Some, None, find, slice_index_or, filter, ◌+◌, ◌≤◌}
use Rattle.std.specs.List.{list_any}
use Rattle.std.specs.Option.{option_map}
use Rattle.vd_model.specs.Acts.{Act, AddedChain, Request, Queue, Ring_made, Ring_dropped, Chain_added, Chains_published, Chain_reclaimed}
use Rattle.vd_model.specs.Queues as model
use Rattle.vd_model.specs.Queues.{Ring}
use Rattle.vr_driver.specs.Side.{DriverSide, next_chain, next_head}

-- all that the acts say of the driver's side of a queue
pub record Chains : Type 0 where
  pub ring : Option Ring
  pub added : ℕ
  pub published : ℕ
  pub reclaimed : ℕ
  pub out : List AddedChain
  pub seen : List AddedChain

abbrev pub chains_of : List Act → ℕ → Chains
chains_of acts q = record {
  ring = model.ring_of acts q;
  added = model.added_count acts q;
  published = model.published_count acts q;
  reclaimed = model.reclaimed_count acts q;
  out = model.chains_out acts q;
  seen = model.published_chains_out acts q;
}

-- an act on the driver's side of this queue; no other changes what the acts say of it
abbrev pub is_ring_act : ℕ → Act → Bool
is_ring_act q (Queue (Ring_made k place region)) = k == q
is_ring_act q (Queue (Ring_dropped k)) = k == q
is_ring_act q (Queue (Chain_added k chain)) = k == q
is_ring_act q (Queue (Chains_published k)) = k == q
is_ring_act q (Queue (Chain_reclaimed k head)) = k == q
is_ring_act q _ = false

-- the chain holds the descriptor
abbrev pub holds : ℕ → AddedChain → Bool
holds d chain = list_any (λ k. k == d) chain.descriptors

-- the head of the chain that holds a descriptor
abbrev pub owner_of : List AddedChain → ℕ → Option ℕ
owner_of chains d = option_map (λ chain. chain.head) (find (holds d) chains)

-- it is the head of one of these chains
abbrev pub is_head : List AddedChain → ℕ → Bool
is_head chains d = list_any (λ chain. chain.head == d) chains

-- those of a head
abbrev pub with_same_head : ℕ → List AddedChain → List AddedChain
with_same_head d chains = filter (λ chain. chain.head == d) chains

-- each chain of a list
abbrev pub EachChain : (AddedChain → Type 0) → List AddedChain → Type 0
EachChain P [] = Unit {0}
EachChain P (chain ∷ chains) = P chain × EachChain P chains

-- a ring's side is kept so: its indices are the counts modulo 65,536, each descriptor has its owner, and of the heads of
-- chains that are out those are marked that were published
pub record IsSide (c : Chains) (region : ℕ) (s : DriverSide) : Type 0 where
  pub ring : c.ring ≡ Some (record { place = s.place; region = region })
  pub added : s.added ≡ c.added % 65536
  pub published : s.published ≡ c.published % 65536
  pub reclaimed : s.reclaimed ≡ c.reclaimed % 65536
  pub owners_len : length s.owners ≡ s.place.size
  pub announced_len : length s.announced ≡ s.place.size
  pub owners : (d : ℕ) → d < s.place.size → slice_index_or s.owners d None ≡ owner_of c.out d
  pub announced : (d : ℕ) → is_head c.out d ≡ true → slice_index_or s.announced d false ≡ is_head c.seen d
  -- a count is what was reclaimed and what is there; no two chains have the same head
  pub added_count : c.added ≡ c.reclaimed + length c.out
  pub seen_count : c.published ≡ c.reclaimed + length c.seen
  pub lone : (d : ℕ) → length (with_same_head d c.out) ≤ 1
  pub lone_seen : (d : ℕ) → length (with_same_head d c.seen) ≤ 1
  -- each chain that is out holds its head, in the ring; what was published is out; chains that share a descriptor have
  -- the same head
  pub headed : EachChain (λ chain. holds chain.head chain ≡ true) c.out
  pub inside : (d : ℕ) → is_head c.out d ≡ true → d < s.place.size
  pub known : (d : ℕ) → is_head c.seen d ≡ true → is_head c.out d ≡ true
  pub apart : (d : ℕ) → EachChain (λ chain. holds d chain ≡ true → owner_of c.out d ≡ Some chain.head) c.out

-- the driver's side of each queue: a ring that it has is kept with its region, and a queue without one keeps none
abbrev pub RingStands : List Act → ℕ → Option (ℕ × DriverSide) → Type 0
RingStands acts q None = model.ring_of acts q ≡ None
RingStands acts q (Some kept) = IsSide (chains_of acts q) kept.0 kept.1

-- the chain that takes the n least free descriptors
abbrev pub next_added : DriverSide → ℕ → Option Request → AddedChain
next_added s n request = record { head = next_head s n; descriptors = next_chain s n; request = request }
