-- The words of the programs beside a run, and what they ask for.
use Rattle.std.specs.Prelude.{ℕ, List, [], ◌∷◌, codes, if◌then◌else◌, Option, Some, None}
use Rattle.std.specs.Int.{is_power_of_two}
use Rattle.std.specs.Option.{option_and_then}
use Rattle.std.specs.Str.{bytes_eq}
use Rattle.vd_options.specs.Words.{between, decimal_of}
use Rattle.vd_options.specs.declared.programs.RingKind.{RingKind}
use Rattle.vd_options.specs.declared.programs.RingKind.TheVariants.{Packed, Split}
use Rattle.vd_options.specs.declared.programs.QueueOptions.{QueueOptions}

-- the kind of a ring that a word names
abbrev pub ring_kind_of : List ℕ → Option RingKind
ring_kind_of word = if bytes_eq word (codes "packed") then Some Packed else (if bytes_eq word (codes "split") then Some Split else None)

-- the size of a ring that a word is: a power of two from 1 to 32,768
abbrev pub power_of : Option ℕ → Option ℕ
power_of None = None
power_of (Some n) = if is_power_of_two n then Some n else None

abbrev pub ring_size_of : List ℕ → Option ℕ
ring_size_of word = power_of (between 1 32768 (decimal_of word))

abbrev pub queue_of : Option RingKind → Option ℕ → Option QueueOptions
queue_of (Some kind) (Some size) = Some (record { kind = kind; size = size })
queue_of _ _ = None

-- the queue that words ask for: `queue`, the kind of its ring, and its size
abbrev pub asked_queue : List (List ℕ) → Option QueueOptions
asked_queue (first ∷ kind ∷ size ∷ []) = if bytes_eq first (codes "queue") then queue_of (ring_kind_of kind) (ring_size_of size) else None
asked_queue _ = None

-- the bytes of a guest's memory that words ask for: `vhost`, and a number from 1 to 67,108,864
abbrev pub asked_guest : List (List ℕ) → Option ℕ
asked_guest (first ∷ bytes ∷ []) = if bytes_eq first (codes "vhost") then between 1 67108864 (decimal_of bytes) else None
asked_guest _ = None
