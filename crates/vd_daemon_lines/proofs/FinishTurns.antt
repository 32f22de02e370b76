-- The turn of a finish, by what can't be accessed.
use Rattle.std.proofs.Common.{◌≡◌, ℕ, zero, suc, ◌%◌, ◌<◌, Bool, true, false, ◌==◌, if◌then◌else◌, refl, ap, sym, ◌∙◌, arith, List, [], ◌∷◌, Some, None, Option, Result, Ok, Err}
use Rattle.std.specs.Prelude.{not, bit_and}
use Rattle.std.proofs.lemmas.Nat.{and_mask}
use Rattle.vd_model.specs.declared.answer.Answer.TheVariants as answer
use Rattle.vd_model.specs.declared.parts.Part.{Part}
use Rattle.vd_model.specs.declared.queue.RingPlace.{RingPlace}
use Rattle.vd_model.specs.Setting.{Setting}
use Rattle.vd_model.specs.Acts.{Act}
use Rattle.vd_model.specs.Memory.{Memory, read}
use Rattle.vd_model.specs.Queues.{Execution}
use Rattle.vd_model.specs.Rings.{minus16, next16, needs_event, number16, available_flags_at, used_event_at, used_index_at, used_element_at}
use Rattle.vd_model.specs.Turn.{Turn}
use Rattle.vd_model.specs.DaemonTurns.{Hand, daemon_memory, has_event_idx, read_or, unwritable_or, deciding_field, finish_hand, finished_turn, finish_puts}
use Rattle.vr_device.specs.Side.{Side}
use Rattle.vr_device.specs.Device.{interrupt, by_event, by_flags}
use Rattle.blk_daemon.specs.Finished.{missing_at, either_of, first_unwritable, deciding_field_at, first_missing, used_next}

-- ---- what can't be accessed

abbrev pub by_missing : Option ℕ → Turn Act → Turn Act
by_missing None turn = turn
by_missing (Some at) turn = record { answer = answer.Bus at; acts = [] }

first_by : (o p : Option ℕ) (turn : Turn Act) → by_missing o (by_missing p turn) ≡ by_missing (either_of o p) turn
first_by None p turn = refl
first_by (Some at) p turn = refl

read_by : (r : Result (List ℕ) ℕ) (turn : Turn Act) → read_or r (λ bytes. turn) ≡ by_missing (missing_at r) turn
read_by (Ok bytes) turn = refl
read_by (Err at) turn = refl

unwritable_by : (m : Memory) (parts : List Part) (turn : Turn Act) → unwritable_or m parts turn ≡ by_missing (first_unwritable m parts) turn
unwritable_by m [] turn = refl
unwritable_by m (part ∷ parts) turn = by part.writable (read m part.at part.len) (unwritable_by m parts turn) where
  by : (t : Bool) (r : Result (List ℕ) ℕ) → unwritable_or m parts turn ≡ by_missing (first_unwritable m parts) turn
      → (if t then read_or r (λ bytes. unwritable_or m parts turn) else unwritable_or m parts turn)
      ≡ by_missing (if t then either_of (missing_at r) (first_unwritable m parts) else first_unwritable m parts) turn
  by true (Ok bytes) rest = rest
  by true (Err at) rest = refl
  by false r rest = rest

pub field_is : (acts : List Act) (place : RingPlace) → deciding_field acts place ≡ deciding_field_at (has_event_idx acts) place
field_is acts place = by (has_event_idx acts) where
  by : (t : Bool) → (if t then used_event_at place else available_flags_at place) ≡ deciding_field_at t place
  by true = refl
  by false = refl

-- all that is tested, in its order
pub tested : (x : Setting) (acts : List Act) (q : ℕ) (side : Side) (h : Hand) (end : Execution)
    → finish_hand x acts q side.place side.used h end
    ≡ by_missing (first_missing (daemon_memory x acts) side (has_event_idx acts) h.parts) (finished_turn x acts q side.place side.used h (finish_puts side.place side.used h end))
tested x acts q side h end =
    let m = daemon_memory x acts in
    let turn = finished_turn x acts q side.place side.used h (finish_puts side.place side.used h end) in
    let element = read m (used_element_at side.place side.used) 8 in
    let index = read m (used_index_at side.place) 2 in
    let field = read m (deciding_field acts side.place) 2 in
    unwritable_by m h.parts (read_or element (λ bytes. read_or index (λ bytes. read_or field (λ bytes. turn))))
    ∙ ap (by_missing (first_unwritable m h.parts)) (
    read_by element (read_or index (λ bytes. read_or field (λ bytes. turn)))
    ∙ ap (by_missing (missing_at element)) (
    read_by index (read_or field (λ bytes. turn))
    ∙ ap (by_missing (missing_at index)) (read_by field turn ∙ ap (λ at. by_missing (missing_at (read m at 2)) turn) (field_is acts side.place))
    ∙ first_by (missing_at index) (missing_at (read m (deciding_field_at (has_event_idx acts) side.place) 2)) turn)
    ∙ first_by (missing_at element) (either_of (missing_at index) (missing_at (read m (deciding_field_at (has_event_idx acts) side.place) 2))) turn)
    ∙ first_by (first_unwritable m h.parts) (either_of (missing_at element) (either_of (missing_at index) (missing_at (read m (deciding_field_at (has_event_idx acts) side.place) 2)))) turn

-- ---- whether the driver is interrupted

abbrev pub one_if : Bool → ℕ
one_if t = if t then 1 else 0

one_bit : (k : ℕ) → k < 2 → not (k == 1) ≡ (k == 0)
one_bit zero below = refl
one_bit (suc zero) below = refl
one_bit (suc (suc k)) below = absurd (omega arith)

no_notice : (n : ℕ) → not (bit_and n 1 == 1) ≡ (n % 2 == 0)
no_notice n = ap (λ k. not (k == 1)) (and_mask n 1) ∙ one_bit (n % 2) (omega arith)

back : (used : ℕ) → used < 65536 → minus16 (next16 used) 1 ≡ used
back used small = omega arith

same_ok : {T E : Type 0} (a b : T) (r : Result T E) → r ≡ Ok a → r ≡ Ok b → a ≡ b
same_ok a b r e f = cc

-- the field was read, and decides so
pub record Decides (m : Memory) (side : Side) (event_idx irq : Bool) : Type 0 where
  pub field : ℕ
  pub is : number16 m (deciding_field_at event_idx side.place) ≡ Ok field
  pub wants : (if event_idx then (if needs_event field (next16 side.used) side.used then 1 else 0) else (if field % 2 == 0 then 1 else 0)) ≡ one_if irq

event_decides : (m : Memory) (side : Side) (irq : Bool) → side.used < 65536 → (r : Result ℕ ℕ) → number16 m (used_event_at side.place) ≡ r → by_event (used_next side) r ≡ Ok irq → Decides m side true irq
event_decides m side irq small (Ok event) is e = record {
  field = event;
  is = is;
  wants = ap one_if (ap (λ n. needs_event event (next16 side.used) n) (sym (back side.used small)) ∙ same_ok (needs_event event (next16 side.used) (minus16 (next16 side.used) 1)) irq (by_event (used_next side) (Ok event)) refl e);
}
event_decides m side irq small (Err at) is e = absurd (cc)

flags_decide : (m : Memory) (side : Side) (irq : Bool) (r : Result ℕ ℕ) → number16 m (available_flags_at side.place) ≡ r → by_flags r ≡ Ok irq → Decides m side false irq
flags_decide m side irq (Ok flags) is e = record {
  field = flags;
  is = is;
  wants = ap one_if (sym (no_notice flags) ∙ same_ok (not (bit_and flags 1 == 1)) irq (by_flags (Ok flags)) refl e);
}
flags_decide m side irq (Err at) is e = absurd (cc)

pub decides : (m : Memory) (side : Side) (event_idx irq : Bool) → side.used < 65536 → interrupt m (used_next side) event_idx ≡ Ok irq → Decides m side event_idx irq
decides m side true irq small e = event_decides m side irq small (number16 m (used_event_at side.place)) refl e
decides m side false irq small e = flags_decide m side irq (number16 m (available_flags_at side.place)) refl e
