-- Addresses at which a call of a memory can't fail.
use Rattle.std.specs.Prelude.{ℕ, ◌≡◌, ◌+◌, ◌*◌, ◌<◌, Option, Some, None, IsSome}
use Rattle.vd_num.specs.declared.number.Range.{Range}
use Rattle.vd_model.specs.Memory.{Memory}
use Rattle.vd_model.specs.declared.queue.RingPlace.{RingPlace}
use Rattle.vr_split.specs.Mem.{InSpan}

-- n addresses are in the map that is told
abbrev pub InMap : Option Memory → ℕ → ℕ → Type 0
InMap None at n = ⊥
InMap (Some m) at n = (i : ℕ) → i < n → IsSome (m (at + i))

-- in the map, or in the span
pub data Reaches (told : Option Memory) (span : Option Range) (at n : ℕ) : Type 0 where
  in_map : InMap told at n → Reaches told span at n
  in_span : InSpan span at n → Reaches told span at n

-- the descriptor table of a ring is in reach
abbrev pub TableInReach : Option Memory → Option Range → RingPlace → Type 0
TableInReach told span place = Reaches told span place.desc (16 * place.size)

-- each of the three parts of a ring is in reach
pub record RingInReach (told : Option Memory) (span : Option Range) (place : RingPlace) : Type 0 where
  pub desc : Reaches told span place.desc (16 * place.size)
  pub driver : Reaches told span place.driver (6 + 2 * place.size)
  pub device : Reaches told span place.device (6 + 8 * place.size)

-- after calls that store: whatever was in reach is in reach still, the span is the same, and what each call keeps is kept
pub record KeepsReach {S : Type 0} (told : S → Option Memory) (span : S → Option Range) (keeps : S → S → Type 0) (old new : S) : Type 0 where
  pub reach : (at n : ℕ) → Reaches (told old) (span old) at n → Reaches (told new) (span new) at n
  pub same_span : span new ≡ span old
  pub kept : keeps old new
