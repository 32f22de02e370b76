-- What became of the chains of each queue: the driver's side of its ring, and the block daemon's position.
use Rattle.std.specs.Prelude.{ℕ, zero, suc, ◌+◌, ◌-◌, ◌*◌, ◌%◌, List, [], ◌∷◌, ◌++◌, length, take, Bool, true, false, ◌==◌, nat_lt, nat_le, ◌&&◌, ◌||◌, not, if◌then◌else◌, filter, find, Option, Some, None, is_some}
use Rattle.std.specs.List.{list_any}
use Rattle.std.specs.Option.{option_map_or}
use Rattle.vd_model.specs.declared.queue.RingPlace.{RingPlace}
use Rattle.vd_model.specs.Acts.{Act, AddedChain, Request, Node, State, Queue, Closed, Ring_made, Ring_dropped, Chain_added, Chains_published, Chain_reclaimed, Fetched, Executed, Finished}
use Rattle.vd_model.specs.State.{Cleared, Ready_set, Num_set, Addr_set}

-- ---- the driver's ring

-- a ring and the number of its coherent region
pub record Ring : Type 0 where
  pub place : RingPlace
  pub region : ℕ

-- the ring of a queue, if it has one
abbrev pub ring_of : List Act → ℕ → Option Ring
ring_of [] q = None
ring_of (Queue (Ring_made k place region) ∷ acts) q = if k == q then Some (record { place = place; region = region }) else ring_of acts q
ring_of (Queue (Ring_dropped k) ∷ acts) q = if k == q then None else ring_of acts q
ring_of (_ ∷ acts) q = ring_of acts q

-- one of the first n queues has its ring in this region
abbrev pub is_ring_region : List Act → ℕ → ℕ → Bool
is_ring_region acts region zero = false
is_ring_region acts region (suc q) = option_map_or (λ r. r.region == region) (ring_of acts q) false || is_ring_region acts region q

-- how many chains were added to the ring, and reclaimed from it
abbrev pub added_count : List Act → ℕ → ℕ
added_count [] q = 0
added_count (Queue (Chain_added k chain) ∷ acts) q = if k == q then added_count acts q + 1 else added_count acts q
added_count (Queue (Ring_made k place region) ∷ acts) q = if k == q then 0 else added_count acts q
added_count (_ ∷ acts) q = added_count acts q

abbrev pub reclaimed_count : List Act → ℕ → ℕ
reclaimed_count [] q = 0
reclaimed_count (Queue (Chain_reclaimed k head) ∷ acts) q = if k == q then reclaimed_count acts q + 1 else reclaimed_count acts q
reclaimed_count (Queue (Ring_made k place region) ∷ acts) q = if k == q then 0 else reclaimed_count acts q
reclaimed_count (_ ∷ acts) q = reclaimed_count acts q

-- how many chains had been added when they were last published
abbrev pub published_count : List Act → ℕ → ℕ
published_count [] q = 0
published_count (Queue (Chains_published k) ∷ acts) q = if k == q then added_count acts q else published_count acts q
published_count (Queue (Ring_made k place region) ∷ acts) q = if k == q then 0 else published_count acts q
published_count (_ ∷ acts) q = published_count acts q

-- the chain has another head
abbrev pub is_other_chain : ℕ → AddedChain → Bool
is_other_chain head chain = not (chain.head == head)

-- the chains that are out, from their adding until they are reclaimed, the oldest first
abbrev pub chains_out : List Act → ℕ → List AddedChain
chains_out [] q = []
chains_out (Queue (Chain_added k chain) ∷ acts) q = if k == q then chains_out acts q ++ chain ∷ [] else chains_out acts q
chains_out (Queue (Chain_reclaimed k head) ∷ acts) q = if k == q then filter (is_other_chain head) (chains_out acts q) else chains_out acts q
chains_out (Queue (Ring_made k place region) ∷ acts) q = if k == q then [] else chains_out acts q
chains_out (Queue (Ring_dropped k) ∷ acts) q = if k == q then [] else chains_out acts q
chains_out (_ ∷ acts) q = chains_out acts q

-- of them, those that were published
abbrev pub published_chains_out : List Act → ℕ → List AddedChain
published_chains_out [] q = []
published_chains_out (Queue (Chains_published k) ∷ acts) q = if k == q then chains_out acts q else published_chains_out acts q
published_chains_out (Queue (Chain_reclaimed k head) ∷ acts) q = if k == q then filter (is_other_chain head) (published_chains_out acts q) else published_chains_out acts q
published_chains_out (Queue (Ring_made k place region) ∷ acts) q = if k == q then [] else published_chains_out acts q
published_chains_out (Queue (Ring_dropped k) ∷ acts) q = if k == q then [] else published_chains_out acts q
published_chains_out (_ ∷ acts) q = published_chains_out acts q

-- the numbers below n, ascending
abbrev pub numbers_below : ℕ → List ℕ
numbers_below zero = []
numbers_below (suc n) = numbers_below n ++ n ∷ []

-- the descriptor belongs to one of the chains
abbrev pub is_in_chains : List AddedChain → ℕ → Bool
is_in_chains chains d = list_any (λ chain. list_any (λ k. k == d) chain.descriptors) chains

-- the free descriptors of a ring of this size, ascending
abbrev pub free_descriptors : ℕ → List AddedChain → List ℕ
free_descriptors size chains = filter (λ d. not (is_in_chains chains d)) (numbers_below size)

-- ---- requests that are pending

-- the request of a chain has this mapping, or made this buffer
abbrev pub has_map : ℕ → Option Request → Bool
has_map number None = false
has_map number (Some r) = list_any (λ m. m == number) r.maps

abbrev pub made_buffer : ℕ → Option Request → Bool
made_buffer number None = false
made_buffer number (Some r) = nat_le r.buffer number && nat_lt number (r.buffer + r.buffers)

-- some pending request of one of the first n queues passes
abbrev pub some_pending : (Option Request → Bool) → List Act → ℕ → Bool
some_pending passes acts zero = false
some_pending passes acts (suc q) = list_any (λ chain. passes chain.request) (chains_out acts q) || some_pending passes acts q

-- ---- the block daemon

-- the act ends the block daemon's position on the queue and its request in hand
abbrev pub ends_position : ℕ → Act → Bool
ends_position q (Node Closed) = true
ends_position q (State Cleared) = true
ends_position q (State (Ready_set k flag)) = (k == q) && not flag
ends_position q (State (Num_set k num)) = k == q
ends_position q (State (Addr_set k desc driver device)) = k == q
ends_position q _ = false

-- the acts before the first fetch since the position last ended
abbrev pub before_first : List Act → ℕ → Option (List Act)
before_first [] q = None
before_first (Queue (Fetched k) ∷ acts) q =
    if k == q then (if is_some (before_first acts q) then before_first acts q else Some acts) else before_first acts q
before_first (act ∷ acts) q = if ends_position q act then None else before_first acts q

-- how many requests were fetched, and finished, since then
abbrev pub fetches : List Act → ℕ → ℕ
fetches [] q = 0
fetches (Queue (Fetched k) ∷ acts) q = if k == q then fetches acts q + 1 else fetches acts q
fetches (act ∷ acts) q = if ends_position q act then 0 else fetches acts q

abbrev pub finishes : List Act → ℕ → ℕ
finishes [] q = 0
finishes (Queue (Finished k) ∷ acts) q = if k == q then finishes acts q + 1 else finishes acts q
finishes (act ∷ acts) q = if ends_position q act then 0 else finishes acts q

-- the acts before the fetch of the request in hand, if one is in hand
abbrev pub in_hand : List Act → ℕ → Option (List Act)
in_hand [] q = None
in_hand (Queue (Fetched k) ∷ acts) q = if k == q then Some acts else in_hand acts q
in_hand (Queue (Finished k) ∷ acts) q = if k == q then None else in_hand acts q
in_hand (act ∷ acts) q = if ends_position q act then None else in_hand acts q

-- how a request ended: its status, and the bytes before it
pub record Execution : Type 0 where
  pub status : ℕ
  pub bytes : List ℕ

-- how the request in hand was executed, if it was
abbrev pub execution_of : List Act → ℕ → Option Execution
execution_of [] q = None
execution_of (Queue (Executed k status bytes) ∷ acts) q = if k == q then Some (record { status = status; bytes = bytes }) else execution_of acts q
execution_of (Queue (Fetched k) ∷ acts) q = if k == q then None else execution_of acts q
execution_of (act ∷ acts) q = if ends_position q act then None else execution_of acts q
