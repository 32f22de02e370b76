-- A refusal makes no act, and a turn that isn't refused passed the test.
use Rattle.std.proofs.Common.{◌≡◌, Bool, true, false, refl, Option, None, Some, List, ◌++◌, not, map}
use Rattle.std.specs.Option.{option_map_or}
use Rattle.vd_num.specs.declared.errno.Errno.{Errno}
use Rattle.vd_model.specs.Setting.{Setting}
use Rattle.vd_model.specs.Acts.{Act}
use Rattle.vd_model.specs.Turn.{Turn, refuse, refusal_turn, refusal_if}
use Rattle.vd_laws.proofs.Legal.{Legal}

-- a turn whose acts are legal after these
abbrev pub IsLegal : {A : Type 0} → Setting → (A → Act) → List Act → Turn A → Type 0
IsLegal x as_act done turn = Legal x (map as_act turn.acts ++ done)

module _ {A : Type 0} (x : Setting) (as_act : A → Act) (done : List Act) (legal : Legal x done) where
  -- a refusal is
  pub refuse_legal : (o : Option Errno) (turn : Turn A) → (o ≡ None → IsLegal x as_act done turn) → IsLegal x as_act done (refuse o turn)
  refuse_legal None turn h = h refl
  refuse_legal (Some errno) turn h = legal

  pub or_refused : {B : Type 0} (f : B → Turn A) (o : Option B) (errno : Errno) → ((b : B) → o ≡ Some b → IsLegal x as_act done (f b)) → IsLegal x as_act done (option_map_or f o (refusal_turn errno))
  or_refused f None errno h = legal
  or_refused f (Some b) errno h = h b refl

-- a test that didn't refuse
pub not_given : (test : Bool) (errno : Errno) → refusal_if test errno ≡ None → test ≡ false
not_given true errno e = cc
not_given false errno e = refl

pub not_not : (b : Bool) → not b ≡ false → b ≡ true
not_not true e = refl
not_not false e = cc

-- the same of a turn on the device itself
abbrev pub IsLegalTurn : Setting → List Act → Turn Act → Type 0
IsLegalTurn x done turn = Legal x (turn.acts ++ done)

module _ (x : Setting) (done : List Act) (legal : Legal x done) where
  pub refuse_turn : (o : Option Errno) (turn : Turn Act) → (o ≡ None → IsLegalTurn x done turn) → IsLegalTurn x done (refuse o turn)
  refuse_turn None turn h = h refl
  refuse_turn (Some errno) turn h = legal

  pub there_turn : {B : Type 0} (f : B → Turn Act) (o : Option B) (errno : Errno) → ((b : B) → o ≡ Some b → IsLegalTurn x done (f b)) → IsLegalTurn x done (option_map_or f o (refusal_turn errno))
  there_turn f None errno h = legal
  there_turn f (Some b) errno h = h b refl
