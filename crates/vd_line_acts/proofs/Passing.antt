-- Turns all of whose acts pass a test.
use Rattle.std.proofs.Common.{◌≡◌, ℕ, Bool, true, refl, ◌∙◌, Option, None, Some, Result, Ok, Err, List, [], ◌∷◌, ◌++◌, map}
use Rattle.std.proofs.lemmas.Bool.{and_parts, and_from}
use Rattle.std.proofs.lemmas.List.Folds.{list_all-append}
use Rattle.std.specs.List.{list_all}
use Rattle.std.specs.Option.{option_map_or}
use Rattle.vd_num.specs.declared.errno.Errno.{Errno}
use Rattle.vd_model.specs.declared.parts.Chain.{Chain}
use Rattle.vd_model.specs.Acts.{Act}
use Rattle.vd_model.specs.Trace.{Ending, whole, faulty, missing}
use Rattle.vd_model.specs.Turn.{Turn, refuse, refusal_turn}
use Rattle.vd_model.specs.DaemonTurns.{chain_or, read_or}

abbrev pub Passes : (Act → Bool) → Turn Act → Type 0
Passes test turn = list_all test turn.acts ≡ true

-- ---- lists

-- what passes one test passes another that is no narrower
pub wider : (test other : Act → Bool) → ((act : Act) → test act ≡ true → other act ≡ true) → (acts : List Act) → list_all test acts ≡ true → list_all other acts ≡ true
wider test other h [] e = refl
wider test other h (act ∷ acts) e =
    let p = and_parts (test act) (list_all test acts) e in
    and_from (other act) (list_all other acts) (h act p.0) (wider test other h acts p.1)

pub append_passes : (test : Act → Bool) (first more : List Act) → list_all test first ≡ true → list_all test more ≡ true → list_all test (first ++ more) ≡ true
append_passes test first more e f = list_all-append test first more ∙ and_from (list_all test first) (list_all test more) e f

-- the acts of one place, as those of a device
pub lifted_pass : {A : Type 0} (test : Act → Bool) (as_act : A → Act) → ((act : A) → test (as_act act) ≡ true) → (acts : List A) → list_all test (map as_act acts) ≡ true
lifted_pass test as_act h [] = refl
lifted_pass test as_act h (act ∷ acts) = and_from (test (as_act act)) (list_all test (map as_act acts)) (h act) (lifted_pass test as_act h acts)

-- ---- turns

module _ (test : Act → Bool) where
  pub refuse_passes : (o : Option Errno) (turn : Turn Act) → Passes test turn → Passes test (refuse o turn)
  refuse_passes None turn e = e
  refuse_passes (Some errno) turn e = refl

  pub there_passes : {X : Type 0} (turn : X → Turn Act) (o : Option X) (errno : Errno) → ((y : X) → Passes test (turn y)) → Passes test (option_map_or turn o (refusal_turn errno))
  there_passes turn None errno e = refl
  there_passes turn (Some y) errno e = e y

  pub read_passes : {X : Type 0} (r : Result X ℕ) (turn : X → Turn Act) → ((bytes : X) → Passes test (turn bytes)) → Passes test (read_or r turn)
  read_passes (Ok bytes) turn e = e bytes
  read_passes (Err at) turn e = refl

  pub chain_passes : (ending : Ending) (turn : Chain → Turn Act) → ((chain : Chain) → Passes test (turn chain)) → Passes test (chain_or ending turn)
  chain_passes (whole chain) turn e = e chain
  chain_passes (faulty fault) turn e = refl
  chain_passes (missing at) turn e = refl
