-- The calls on a disk in memory, and what lies between two of its states.
use Rattle.std.specs.Prelude.{ℕ, ◌-◌, ◌^◌, ◌≡◌, ◌⊎◌, if◌then◌else◌, List, [], ◌∷◌, ◌++◌, refl}
use Rattle.std.proofs.Common.{sym, subst}
use Rattle.std.specs.Option.{option_map_or}
use Rattle.vd_io.specs.Faults.{Calls, is_to_fail, after_call}
use Rattle.blk_disk.specs.Moments.{Lie}
use Rattle.blk_memory_disk.specs.Stored.{Stored, list_at, overwritten, settled}

-- what it holds, and its calls
pub record DiskState : Type 0 where
  pub stored : Stored
  pub calls : Calls

-- what a crash may leave of each sector
abbrev pub lists_of : DiskState → ℕ → List (List ℕ)
lists_of d = list_at d.stored

-- after one call more, which does this to what it holds unless it is to fail
abbrev pub after : (Stored → Stored) → DiskState → DiskState
after act d = record { stored = (if is_to_fail d.calls then d.stored else act d.stored); calls = after_call (is_to_fail d.calls) d.calls }

-- a read changes nothing of it
abbrev pub unchanged : Stored → Stored
unchanged d = d

-- one call leads from the one state to the other
abbrev pub IsCall : DiskState → DiskState → Type 0
IsCall old new = (new ≡ after unchanged old) ⊎ (((sector : ℕ) × (bytes : List ℕ) × (new ≡ after (overwritten sector bytes) old)) ⊎ (new ≡ after settled old))

-- calls lead over these states to the last one, and in each state each sector's list lies in the map's
abbrev pub IsPath : (ℕ → List (List ℕ)) → DiskState → List DiskState → DiskState → Type 0
IsPath map first [] last = Lie map (lists_of first) × (first ≡ last)
IsPath map first (next ∷ rest) last = Lie map (lists_of first) × IsCall first next × IsPath map next rest last

-- some calls do
abbrev pub Passes : (ℕ → List (List ℕ)) → DiskState → DiskState → Type 0
Passes map first last = (states : List DiskState) × IsPath map first states last

pub stays : (map : ℕ → List (List ℕ)) (d : DiskState) → Lie map (lists_of d) → Passes map d d
stays map d lie = ([], (lie, refl))

joins : (map : ℕ → List (List ℕ)) (a b c : DiskState) (first second : List DiskState) → IsPath map a first b → IsPath map b second c → IsPath map a (first ++ second) c
joins map a b c [] second path next = subst (λ (d : DiskState). IsPath map d second c) (sym path.1) next
joins map a b c (mid ∷ first) second path next = (path.0, path.1, joins map mid b c first second path.2 next)

pub goes_on : (map : ℕ → List (List ℕ)) (a b c : DiskState) → Passes map a b → Passes map b c → Passes map a c
goes_on map a b c one two = (one.0 ++ two.0, joins map a b c one.0 two.0 one.1 two.1)

-- how many calls there were, up to the last number
abbrev pub clock_of : Calls → ℕ
clock_of calls = option_map_or (λ n. n) calls.next (2 ^ 64 - 1)
