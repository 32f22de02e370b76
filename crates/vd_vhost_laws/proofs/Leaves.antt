-- What holds of the acts of a turn, where it holds of no acts and of those that are made when it isn't refused.
use Rattle.std.proofs.Common.{◌≡◌, refl, Option, None, Some, List, []}
use Rattle.std.specs.Option.{option_map_or}
use Rattle.vd_num.specs.declared.errno.Errno.{Errno}
use Rattle.vd_model.specs.Turn.{Turn, refuse, refusal_turn}
use Rattle.vd_vhost_model.specs.declared.access.Denied.{Denied}
use Rattle.vd_vhost_model.specs.GuestTable.{VhostAct}
use Rattle.vd_vhost_model.specs.VhostTurns.{denied_or}

module _ (P : List VhostAct → Type 0) (none : P []) where
  pub refused : (o : Option Errno) (turn : Turn VhostAct) → (o ≡ None → P turn.acts) → P (refuse o turn).acts
  refused None turn h = h refl
  refused (Some errno) turn h = none

  pub missing : {X : Type 0} (turn : X → Turn VhostAct) (o : Option X) (errno : Errno) → ((y : X) → P (turn y).acts) → P (option_map_or turn o (refusal_turn errno)).acts
  missing turn None errno h = none
  missing turn (Some y) errno h = h y

  pub denied : (o : Option Denied) (turn : Turn VhostAct) → (o ≡ None → P turn.acts) → P (denied_or o turn).acts
  denied None turn h = h refl
  denied (Some why) turn h = none
