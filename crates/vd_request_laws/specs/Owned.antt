-- The buffers and the mappings of pending requests are their own.
use Rattle.std.specs.Prelude.{ℕ, zero, suc, ◌+◌, ◌<◌, ◌≤◌, List, [], ◌∷◌, ◌++◌, length, Bool, true, false, ◌==◌, filter, find, Some, ◌≡◌}
use Rattle.std.specs.List.{All, AllPairs, list_any}
use Rattle.std.specs.Option.{option_map_or}
use Rattle.vd_model.specs.Acts.{Act, Driver, Queue, Streaming, Request, AddedChain, Freed, Mapped, Unmapped, Ring_made, Ring_dropped, Chain_added, Chain_reclaimed}
use Rattle.vd_model.specs.Live.{buffers, maps, buffer_len, live_mappings}
use Rattle.vd_model.specs.Queues.{chains_out, published_chains_out, has_map, made_buffer}

-- the requests of some chains
abbrev pub requests_of : List AddedChain → List Request
requests_of [] = []
requests_of (chain ∷ chains) = option_map_or (λ r. r ∷ requests_of chains) chain.request (requests_of chains)

-- those of the first n queues that are pending
abbrev pub pending_requests : List Act → ℕ → List Request
pending_requests acts zero = []
pending_requests acts (suc q) = pending_requests acts q ++ requests_of (chains_out acts q)

-- its first buffer has its header and its status, its buffers and mappings are some that were made, a live mapping of one of
-- its buffers is one of its mappings, and its first buffer has a live mapping
pub record IsOwned (acts : List Act) (r : Request) : Type 0 where
  pub some : 0 < r.buffers
  pub front : buffer_len acts r.buffer ≡ Some 17
  pub made : r.buffer + r.buffers ≤ buffers acts
  pub numbered : All (λ n. n < maps acts) r.maps
  pub mapped : All (λ (m : Streaming). made_buffer m.want.buffer (Some r) ≡ true → has_map m.number (Some r) ≡ true) (live_mappings acts)
  pub held : list_any (λ (m : Streaming). m.want.buffer == r.buffer) (live_mappings acts) ≡ true

-- two requests have no buffer and no mapping in common
pub record AreOthers (r s : Request) : Type 0 where
  pub buffers : (k : ℕ) → made_buffer k (Some r) ≡ true → made_buffer k (Some s) ≡ false
  pub maps : (n : ℕ) → has_map n (Some r) ≡ true → has_map n (Some s) ≡ false

-- each of some requests is owned, no two of them have anything in common, and each live mapping is of a buffer that was made
pub record AreOwn (acts : List Act) (rs : List Request) : Type 0 where
  pub each : All (IsOwned acts) rs
  pub apart : AllPairs AreOthers rs
  pub there : All (λ (m : Streaming). m.want.buffer < buffers acts) (live_mappings acts)

-- of one queue, and of the first n
abbrev pub QueueOwned : List Act → ℕ → Type 0
QueueOwned acts q = AreOwn acts (requests_of (chains_out acts q))

abbrev pub AreOwned : List Act → ℕ → Type 0
AreOwned acts n = AreOwn acts (pending_requests acts n)

-- no two chains that are out have the same head, and a published one is that which is out
pub record HasOwnHeads (acts : List Act) (q : ℕ) : Type 0 where
  pub lone : (head : ℕ) → length (filter (λ (chain : AddedChain). chain.head == head) (chains_out acts q)) ≤ 1
  pub seen : (head : ℕ) → list_any (λ (chain : AddedChain). chain.head == head) (published_chains_out acts q) ≡ true
      → find (λ (chain : AddedChain). chain.head == head) (published_chains_out acts q) ≡ find (λ (chain : AddedChain). chain.head == head) (chains_out acts q)

-- the act frees no buffer, makes and ends no mapping, and changes no queue's chains
abbrev pub is_quiet : Act → Bool
is_quiet (Driver (Freed buffer)) = false
is_quiet (Driver (Mapped m)) = false
is_quiet (Driver (Unmapped m)) = false
is_quiet (Queue (Ring_made q place region)) = false
is_quiet (Queue (Ring_dropped q)) = false
is_quiet (Queue (Chain_added q chain)) = false
is_quiet (Queue (Chain_reclaimed q head)) = false
is_quiet _ = true
