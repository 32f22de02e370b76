-- What holds of the acts of a line's turn, where it holds of no acts and of those that the line makes when it isn't refused.
use Rattle.std.proofs.Common.{◌≡◌, Bool, true, false, refl, Option, None, Some, List, [], if◌then◌else◌}
use Rattle.std.specs.Option.{option_map_or}
use Rattle.vd_num.specs.declared.errno.Errno.{Errno}
use Rattle.vd_model.specs.Turn.{Turn, refuse, refusal_turn}

module _ {A : Type 0} (P : List A → Type 0) (none : P []) where
  pub refused : (o : Option Errno) (turn : Turn A) → (o ≡ None → P turn.acts) → P (refuse o turn).acts
  refused None turn h = h refl
  refused (Some errno) turn h = none

  pub missing : {X : Type 0} (turn : X → Turn A) (o : Option X) (errno : Errno) → ((y : X) → o ≡ Some y → P (turn y).acts) → P (option_map_or turn o (refusal_turn errno)).acts
  missing turn None errno h = none
  missing turn (Some y) errno h = h y refl

  pub either : (b : Bool) (turn other : Turn A) → P turn.acts → P other.acts → P (if b then turn else other).acts
  either true turn other h k = h
  either false turn other h k = k
