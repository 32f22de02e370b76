-- What holds of the acts of a line's turn, where it holds of no acts and of those that the line makes when it isn't refused.
use Rattle.std.proofs.Common.{◌≡◌, ℕ, ◌+◌, ◌<◌, arith, Bool, true, false, refl, sym, ◌∙◌, Option, None, Some, List, [], ◌∷◌, ◌++◌, length, ◌==◌, if◌then◌else◌, true≢false}
use Rattle.std.specs.List.{list_all}
use Rattle.std.specs.Option.{option_map_or}
use Rattle.std.proofs.lemmas.Bool.{and_parts, and_from}
use Rattle.vd_num.specs.declared.errno.Errno.{Errno}
use Rattle.vd_model.specs.Acts.{Act, Driver, Buffer, Zeroed, Freed}
use Rattle.vd_model.specs.Live.{buffers, buffer_len}
use Rattle.vd_model.specs.Queues.{chains_out}
use Rattle.vd_model.specs.Turn.{Turn, refuse, refusal_turn, refusal_if}
use Rattle.vd_request_laws.proofs.Lists.{equal, no_some}

module _ {A : Type 0} (P : List A → Type 0) (none : P []) where
  pub refused : (o : Option Errno) (turn : Turn A) → (o ≡ None → P turn.acts) → P (refuse o turn).acts
  refused None turn h = h refl
  refused (Some errno) turn h = none

  pub missing : {X : Type 0} (turn : X → Turn A) (o : Option X) (errno : Errno) → ((y : X) → o ≡ Some y → P (turn y).acts) → P (option_map_or turn o (refusal_turn errno)).acts
  missing turn None errno h = none
  missing turn (Some y) errno h = h y refl

  pub either : (b : Bool) (turn other : Turn A) → P turn.acts → P other.acts → P (if b then turn else other).acts
  either true turn other h k = h
  either false turn other h k = k

-- a test that didn't refuse
pub not_given : (test : Bool) (errno : Errno) → refusal_if test errno ≡ None → test ≡ false
not_given true errno e = cc
not_given false errno e = refl

-- a buffer that is there was made
pub there_made : (acts : List Act) (k size : ℕ) → buffer_len acts k ≡ Some size → k < buffers acts
there_made [] k size e = absurd (no_some e)
there_made (Driver (Buffer bytes) ∷ acts) k size e = by (k == buffers acts) refl e (there_made acts k size) where
  by : (t : Bool) → (k == buffers acts) ≡ t → (if t then Some (length bytes) else buffer_len acts k) ≡ Some size → (buffer_len acts k ≡ Some size → k < buffers acts) → k < buffers acts + 1
  by true is f rest = let same = equal k (buffers acts) is in omega (arith, same)
  by false is f rest = let low = rest f in omega (arith, low)
there_made (Driver (Zeroed len) ∷ acts) k size e = by (k == buffers acts) refl e (there_made acts k size) where
  by : (t : Bool) → (k == buffers acts) ≡ t → (if t then Some len else buffer_len acts k) ≡ Some size → (buffer_len acts k ≡ Some size → k < buffers acts) → k < buffers acts + 1
  by true is f rest = let same = equal k (buffers acts) is in omega (arith, same)
  by false is f rest = let low = rest f in omega (arith, low)
there_made (Driver (Freed f) ∷ acts) k size e = by (k == f) e (there_made acts k size) where
  by : (t : Bool) → (if t then None else buffer_len acts k) ≡ Some size → (buffer_len acts k ≡ Some size → k < buffers acts) → k < buffers acts
  by true g rest = absurd (no_some g)
  by false g rest = rest g
there_made (_ ∷ acts) k size e = there_made acts k size e

-- ---- the driver's acts on memory change no queue's chains

abbrev pub is_memory : Act → Bool
is_memory (Driver act) = true
is_memory _ = false

act_chains : (act : Act) (acts : List Act) (q : ℕ) → is_memory act ≡ true → chains_out (act ∷ acts) q ≡ chains_out acts q
act_chains (Driver act) acts q e = refl
act_chains _ acts q e = absurd (true≢false (sym e))

pub memory_chains : (more acts : List Act) (q : ℕ) → list_all is_memory more ≡ true → chains_out (more ++ acts) q ≡ chains_out acts q
memory_chains [] acts q e = refl
memory_chains (act ∷ more) acts q e =
    let p = and_parts (is_memory act) (list_all is_memory more) e in
    act_chains act (more ++ acts) q p.0 ∙ memory_chains more acts q p.1

pub memory_append : (first more : List Act) → list_all is_memory first ≡ true → list_all is_memory more ≡ true → list_all is_memory (first ++ more) ≡ true
memory_append [] more e f = f
memory_append (act ∷ first) more e f =
    let p = and_parts (is_memory act) (list_all is_memory first) e in
    and_from (is_memory act) (list_all is_memory (first ++ more)) p.0 (memory_append first more p.1 f)
