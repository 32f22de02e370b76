-- What the driver's side of a ring keeps, and how its descriptors change hands.
use Rattle.std.specs.Prelude.{ℕ, Bool, true, false, ◌+◌, ◌==◌, ◌&&◌, if◌then◌else◌, List, [], ◌∷◌, take, map, replicate, slice_index, slice_index_or, slice_set, Option, Some, None}
use Rattle.vd_model.specs.Rings.{minus16, next16}
use Rattle.vd_model.specs.declared.queue.RingPlace.{RingPlace}

-- DESCRIPTORS, each by the head of the chain that holds it

-- those that no chain holds, from k on, ascending
abbrev pub free_from : ℕ → List (Option ℕ) → List ℕ
free_from k [] = []
free_from k (None ∷ owners) = k ∷ free_from (k + 1) owners
free_from k (Some head ∷ owners) = free_from (k + 1) owners

-- the first n of them
abbrev pub least_free : List (Option ℕ) → ℕ → List ℕ
least_free owners n = take n (free_from 0 owners)

-- after the chain of a head took these
abbrev pub with_owner : List (Option ℕ) → List ℕ → ℕ → List (Option ℕ)
with_owner owners [] head = owners
with_owner owners (i ∷ indices) head = with_owner (slice_set owners i (Some head)) indices head

-- the owner of a descriptor after the chain of a head gave its own back
abbrev pub other_owner : ℕ → Option ℕ → Option ℕ
other_owner head None = None
other_owner head (Some owner) = if owner == head then None else Some owner

abbrev pub without_owner : List (Option ℕ) → ℕ → List (Option ℕ)
without_owner owners head = map (other_owner head) owners

-- THE SIDE

-- For each descriptor the head of the chain that holds it, and whether the chain that has it as its head was published.
-- How many chains were added, how many of them had been added at the last publish, and how many were reclaimed, each
-- modulo 65,536.
pub record DriverSide : Type 0 where
  pub place : RingPlace
  pub owners : List (Option ℕ)
  pub announced : List Bool
  pub added : ℕ
  pub published : ℕ
  pub reclaimed : ℕ

-- a ring to which nothing was added
abbrev pub side_of : RingPlace → DriverSide
side_of place = record { place = place; owners = replicate place.size None; announced = replicate place.size false; added = 0; published = 0; reclaimed = 0 }

-- the free descriptors, ascending
abbrev pub unowned_descriptors : DriverSide → List ℕ
unowned_descriptors s = free_from 0 s.owners

-- the least free descriptors, which the next chain of n takes, and the first of them
abbrev pub next_chain : DriverSide → ℕ → List ℕ
next_chain s n = least_free s.owners n

abbrev pub next_head : DriverSide → ℕ → ℕ
next_head s n = slice_index (next_chain s n) 0

-- with n descriptors taken by a chain that isn't published yet
abbrev pub with_descriptors_taken : DriverSide → ℕ → DriverSide
with_descriptors_taken s n = record s {
  owners = with_owner s.owners (next_chain s n) (next_head s n);
  announced = slice_set s.announced (next_head s n) false;
}

-- and that chain added
abbrev pub with_chain : DriverSide → ℕ → DriverSide
with_chain s n = record (with_descriptors_taken s n) { added = next16 s.added }

-- with all chains published
abbrev pub all_published : DriverSide → DriverSide
all_published s = record s { announced = replicate s.place.size true; published = s.added }

-- how many published chains aren't reclaimed
abbrev pub waiting : DriverSide → ℕ
waiting s = minus16 s.published s.reclaimed

-- the number is the head of a chain
abbrev pub is_owner : ℕ → Option ℕ → Bool
is_owner id None = false
is_owner id (Some head) = head == id

-- the number is the head of a published chain that isn't reclaimed
abbrev pub is_waiting : DriverSide → ℕ → Bool
is_waiting s id = is_owner id (slice_index_or s.owners id None) && slice_index_or s.announced id false

-- with the chain of this head reclaimed
abbrev pub without_chain : DriverSide → ℕ → DriverSide
without_chain s head = record s { owners = without_owner s.owners head; reclaimed = next16 s.reclaimed }
