-- A queue as three lists: the chains that wait for the device, those that it has taken, and those that it has used.
use Rattle.std.specs.Prelude.{ℕ, Bool, true, false, ◌≡◌, ◌==◌, ◌+◌, ◌-◌, ◌<◌, ◌≤◌, if◌then◌else◌, List, [], ◌∷◌, ◌++◌, length, find, Option, Some, None, Result, Ok, Err}
use Rattle.vd_model.specs.declared.parts.Part.{Part}
use Rattle.vr_pair.specs.declared.pair.PairError.{PairError}
use Rattle.vr_pair.specs.declared.pair.PairError.TheVariants.{Full, Memory}
use Rattle.vr_pair.specs.declared.pair.UsedChain.{UsedChain}

-- PARTS

-- no part that the device reads stands behind one that it writes
abbrev pub is_all_writable : List Part → Bool
is_all_writable [] = true
is_all_writable (p ∷ ps) = if p.writable then is_all_writable ps else false

abbrev pub is_readable_first : List Part → Bool
is_readable_first [] = true
is_readable_first (p ∷ ps) = if p.writable then is_all_writable ps else is_readable_first ps

-- how many bytes the parts have together, and how many one chain may have
abbrev pub bytes_in : List Part → ℕ
bytes_in [] = 0
bytes_in (p ∷ ps) = p.len + bytes_in ps

abbrev pub chain_limit : ℕ
chain_limit = 16777216

-- THE LISTS

-- a chain: the number of its addition, and its parts
pub record NumberedChain : Type 0 where
  pub number : ℕ
  pub parts : List Part

-- a chain that was used, and how many bytes the device wrote
pub record FinishedChain : Type 0 where
  pub chain : NumberedChain
  pub len : ℕ

-- The number of descriptors, the lists, each with its oldest entry first, how many chains were added, and how many parts
-- they have together.
pub record QueueLists : Type 0 where
  pub size : ℕ
  pub waiting : List NumberedChain
  pub taken : List NumberedChain
  pub used : List FinishedChain
  pub added : ℕ
  pub placed : ℕ

-- a queue to which nothing was added
abbrev pub empty_lists : ℕ → QueueLists
empty_lists size = record { size = size; waiting = []; taken = []; used = []; added = 0; placed = 0 }

-- how many parts chains have together
abbrev pub count_parts : List NumberedChain → ℕ
count_parts [] = 0
count_parts (chain ∷ chains) = length chain.parts + count_parts chains

abbrev pub finished_chains : List FinishedChain → List NumberedChain
finished_chains [] = []
finished_chains (f ∷ fs) = f.chain ∷ finished_chains fs

-- how many descriptors are free
abbrev pub free_count : QueueLists → ℕ
free_count q = q.size - (count_parts q.waiting + count_parts q.taken + count_parts (finished_chains q.used))

-- the chain of a number
abbrev pub numbered_chain : ℕ → List NumberedChain → Option NumberedChain
numbered_chain number chains = find (λ c. c.number == number) chains

-- without the first chain of a number
abbrev pub without_chain : ℕ → List NumberedChain → List NumberedChain
without_chain number [] = []
without_chain number (c ∷ cs) = if c.number == number then cs else c ∷ without_chain number cs

-- MOVES

-- a chain of these parts is added behind those that wait
abbrev pub with_added : QueueLists → List Part → QueueLists
with_added q parts = record q { waiting = q.waiting ++ record { number = q.added; parts = parts } ∷ []; added = q.added + 1; placed = q.placed + length parts }

-- the front of those that wait, of which these are the rest, is taken
abbrev pub with_taken : QueueLists → NumberedChain → List NumberedChain → QueueLists
with_taken q chain rest = record q { waiting = rest; taken = q.taken ++ chain ∷ [] }

-- a chain that is taken is used
abbrev pub with_used : QueueLists → NumberedChain → ℕ → QueueLists
with_used q chain len = record q { taken = without_chain chain.number q.taken; used = q.used ++ record { chain = chain; len = len } ∷ [] }

-- the front of those that were used, of which these are the rest, is reclaimed
abbrev pub with_reclaimed : QueueLists → List FinishedChain → QueueLists
with_reclaimed q rest = record q { used = rest }

-- ANSWERS of the four calls. `After` says for which lists the queue stands afterwards.

-- Full exactly where there are more parts than free descriptors; else the number of the addition
abbrev pub Adds : QueueLists → List Part → Result ℕ PairError → (QueueLists → Type 0) → Type 0
Adds q parts (Ok number) After = (number ≡ q.added) × (length parts ≤ free_count q) × After (with_added q parts)
Adds q parts (Err Full) After = (free_count q < length parts) × After q
Adds q parts (Err Memory) After = After q

-- None exactly where no chain waits; else the front, with its parts
abbrev pub Takes : {E : Type 0} → QueueLists → Result (Option ℕ) E → List Part → (QueueLists → Type 0) → Type 0
Takes q (Ok None) parts After = (q.waiting ≡ []) × After q
Takes q (Ok (Some number)) parts After =
    (chain : NumberedChain) × (rest : List NumberedChain) × (q.waiting ≡ chain ∷ rest)
    × (number ≡ chain.number) × (parts ≡ chain.parts) × After (with_taken q chain rest)
Takes q (Err e) parts After = After q

-- whether a chain of this number is taken; it is used then
abbrev pub Uses : QueueLists → ℕ → ℕ → Bool → (QueueLists → Type 0) → Type 0
Uses q number len true After = (chain : NumberedChain) × (numbered_chain number q.taken ≡ Some chain) × (chain.number ≡ number) × After (with_used q chain len)
Uses q number len false After = (numbered_chain number q.taken ≡ None) × After q

-- None exactly where no used chain waits; else the front of them
abbrev pub Reclaims : QueueLists → Option UsedChain → (QueueLists → Type 0) → Type 0
Reclaims q None After = (q.used ≡ []) × After q
Reclaims q (Some done) After =
    (front : FinishedChain) × (rest : List FinishedChain) × (q.used ≡ front ∷ rest)
    × (done.number ≡ front.chain.number) × (done.len ≡ front.len) × After (with_reclaimed q rest)
