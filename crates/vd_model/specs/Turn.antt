-- A turn: what a line is answered, and which acts it makes.
use Rattle.std.specs.Prelude.{ℕ, ◌+◌, List, [], ◌∷◌, Bool, nat_lt, nat_le, ◌&&◌, not, if◌then◌else◌, Option, Some, None, map}
use Rattle.vd_num.specs.declared.errno.Errno.{Errno}
use Rattle.vd_num.specs.declared.errno.Errno.TheVariants.{Noent, Inval}
use Rattle.vd_model.specs.declared.answer.Item.{Item}
use Rattle.vd_model.specs.declared.answer.Answer.{Answer}
use Rattle.vd_model.specs.declared.answer.Answer.TheVariants.{Done, Err}
use Rattle.vd_model.specs.Acts.{Act}

-- an answer, and the acts that are made, the newest first
pub record Turn (A : Type 0) : Type 0 where
  pub answer : Answer
  pub acts : List A

-- a refusal makes no act
abbrev pub refusal_turn : {A : Type 0} → Errno → Turn A
refusal_turn errno = record { answer = Err errno; acts = [] }

-- a line that is done
abbrev pub done_with : {A : Type 0} → List Item → List A → Turn A
done_with items made = record { answer = Done items; acts = made }

-- a refusal, if there is one, and else this turn
abbrev pub refuse : {A : Type 0} → Option Errno → Turn A → Turn A
refuse None turn = turn
refuse (Some errno) turn = refusal_turn errno

-- the refusal that a test gives where it holds
abbrev pub refusal_if : Bool → Errno → Option Errno
refusal_if test errno = if test then Some errno else None

-- the same turn, its acts as those of a device
abbrev pub lift : {A : Type 0} → (A → Act) → Turn A → Turn Act
lift as_act turn = record { answer = turn.answer; acts = map as_act turn.acts }

-- a range is refused where there is nothing of that number, or where it is empty or not within the length
abbrev pub range_refusal : Option ℕ → ℕ → ℕ → Option Errno
range_refusal None offset len = Some Noent
range_refusal (Some size) offset len = refusal_if (not (nat_lt 0 len && nat_le (offset + len) size)) Inval
