-- What a finish answers, by what its calls answer.
use Rattle.std.proofs.Common.{◌≡◌, ℕ, Bool, true, false, if◌then◌else◌, List, [], ◌∷◌, take, drop, Option, Some, None, Result, Ok, Err, refl, sym, ap, subst, ◌∙◌}
use Rattle.std.specs.Prelude.{IsOk}
use Rattle.std.specs.Result.{result_unwrap_or}
use Rattle.byteorder.specs.Endian.{little_bytes}
use Rattle.vd_num.specs.declared.number.Bus.{Bus as Unmapped}
use Rattle.vd_model.specs.Memory.{Memory, read, written}
use Rattle.vd_model.specs.Rings.{next16, number16, number16_of, used_index_at, used_element_at, used_event_at, available_flags_at}
use Rattle.vd_model.specs.declared.parts.Part.{Part}
use Rattle.vd_model.specs.Queues.{Execution}
use Rattle.vd_model.specs.DaemonTurns.{Hand}
use Rattle.vr_device.specs.Side.{Side}
use Rattle.vr_device.specs.Device.{both_read, used_fields, element_bytes, with_element, interrupt, by_event, by_flags}
use Rattle.blk_daemon.specs.Finished.{missing_at, either_of, first_unwritable, deciding_field_at, first_missing, spread_over, answer_bytes, finished_memory, used_next, Finishes}
use Rattle.blk_daemon.specs.declared.finish.Finished.{Finished}
use Rattle.blk_daemon.specs.declared.error.FinishError.{FinishError}
use Rattle.blk_daemon.specs.declared.error.FinishError.TheVariants.{Bus}
use Rattle.blk_daemon.proofs.SpreadLemmas.{read-stays, not_both}

none_then : (a b : Option ℕ) → a ≡ None → either_of a b ≡ b
none_then a b e = ap (λ x. either_of x b) e

-- the used element or the used index can't be accessed
fields_missing : (a b : Result (List ℕ) ℕ) (at : ℕ) (rest : Option ℕ) → both_read a b ≡ Err at → either_of (missing_at a) (either_of (missing_at b) rest) ≡ Some at
fields_missing (Ok bytes) b at rest e = ap (λ x. either_of (missing_at x) rest) e
fields_missing (Err missing) b at rest e = let same : missing ≡ at = cc in ap Some same

-- both can be
fields_there : (a b : Result (List ℕ) ℕ) (rest : Option ℕ) → IsOk (both_read a b) → either_of (missing_at a) (either_of (missing_at b) rest) ≡ rest
fields_there (Ok bytes) (Ok more) rest e = refl
fields_there (Ok bytes) (Err at) rest e = absurd (cc)
fields_there (Err at) b rest e = absurd (cc)

-- the field that decides the interrupt
number_missing : (r : Result (List ℕ) ℕ) (at : ℕ) → number16_of r ≡ Err at → missing_at r ≡ Some at
number_missing (Ok bytes) at e = absurd (cc)
number_missing (Err missing) at e = let same : missing ≡ at = cc in ap Some same

number_there : (r : Result (List ℕ) ℕ) (n : ℕ) → number16_of r ≡ Ok n → (missing_at r ≡ None) × (IsOk r)
number_there (Ok bytes) n e = (refl, refl)
number_there (Err missing) n e = absurd (cc)

event_err : (side : Side) (r : Result ℕ ℕ) (bus : Unmapped) → Err bus ≡ by_event side r → r ≡ Err bus.at
event_err side (Ok n) bus e = absurd (cc)
event_err side (Err at) bus e = let same : bus ≡ record { at = at } = cc in ap (λ (b : Unmapped). Err b.at) (sym same)

flags_err : (r : Result ℕ ℕ) (bus : Unmapped) → Err bus ≡ by_flags r → r ≡ Err bus.at
flags_err (Ok n) bus e = absurd (cc)
flags_err (Err at) bus e = let same : bus ≡ record { at = at } = cc in ap (λ (b : Unmapped). Err b.at) (sym same)

event_ok : (side : Side) (r : Result ℕ ℕ) (b : Bool) → Ok b ≡ by_event side r → IsOk r
event_ok side (Ok n) b e = refl
event_ok side (Err at) b e = absurd (cc)

flags_ok : (r : Result ℕ ℕ) (b : Bool) → Ok b ≡ by_flags r → IsOk r
flags_ok (Ok n) b e = refl
flags_ok (Err at) b e = absurd (cc)

number_ok : (r : Result (List ℕ) ℕ) → IsOk (number16_of r) → (missing_at r ≡ None) × (IsOk r)
number_ok (Ok bytes) e = (refl, refl)
number_ok (Err at) e = absurd (cc)

deciding_missing : (m : Memory) (side : Side) (event_idx : Bool) (bus : Unmapped) → Err bus ≡ interrupt m side event_idx → missing_at (read m (deciding_field_at event_idx side.place) 2) ≡ Some bus.at
deciding_missing m side true bus e = number_missing (read m (used_event_at side.place) 2) bus.at (event_err side (number16 m (used_event_at side.place)) bus e)
deciding_missing m side false bus e = number_missing (read m (available_flags_at side.place) 2) bus.at (flags_err (number16 m (available_flags_at side.place)) bus e)

deciding_there : (m : Memory) (side : Side) (event_idx b : Bool) → Ok b ≡ interrupt m side event_idx → (missing_at (read m (deciding_field_at event_idx side.place) 2) ≡ None) × (IsOk (read m (deciding_field_at event_idx side.place) 2))
deciding_there m side true b e = number_ok (read m (used_event_at side.place) 2) (event_ok side (number16 m (used_event_at side.place)) b e)
deciding_there m side false b e = number_ok (read m (available_flags_at side.place) 2) (flags_ok (number16 m (available_flags_at side.place)) b e)

-- what is tested is there after the bytes are spread, and after the element and the index
spread-stays : (m : Memory) (parts : List Part) (bytes : List ℕ) (a n : ℕ) → IsOk (read m a n) → IsOk (read (spread_over m parts bytes) a n)
spread-stays m [] bytes a n h = h
spread-stays m (p ∷ parts) bytes a n h =
    by p.writable (spread-stays (written m p.at (take p.len bytes)) parts (drop p.len bytes) a n (read-stays m p.at (take p.len bytes) a n h)) (spread-stays m parts bytes a n h) where
      by : (w : Bool) → IsOk (read (spread_over (written m p.at (take p.len bytes)) parts (drop p.len bytes)) a n) → IsOk (read (spread_over m parts bytes) a n)
          → IsOk (read (if w then spread_over (written m p.at (take p.len bytes)) parts (drop p.len bytes) else spread_over m parts bytes) a n)
      by true x y = x
      by false x y = y

both_ok : (a b : Result (List ℕ) ℕ) → IsOk (both_read a b) → (IsOk a) × (IsOk b)
both_ok (Ok bytes) b h = (refl, h)
both_ok (Err at) b h = absurd (cc)

ok_both : (a b : Result (List ℕ) ℕ) → IsOk a → IsOk b → IsOk (both_read a b)
ok_both (Ok bytes) b h g = g
ok_both (Err at) b h g = absurd (cc)

fields-stay : (m : Memory) (side : Side) (parts : List Part) (bytes : List ℕ) → IsOk (used_fields m side) → IsOk (used_fields (spread_over m parts bytes) side)
fields-stay m side parts bytes h =
    let both = both_ok (read m (used_element_at side.place side.used) 8) (read m (used_index_at side.place) 2) h in
    ok_both _ _ (spread-stays m parts bytes (used_element_at side.place side.used) 8 both.0) (spread-stays m parts bytes (used_index_at side.place) 2 both.1)

-- AN ANSWER of each step

module _ (m : Memory) (side : Side) (event_idx : Bool) (parts : List Part) where
  pub part_fails : (at : ℕ) → first_unwritable m parts ≡ Some at → first_missing m side event_idx parts ≡ Some at
  part_fails at e =
      ap (λ o. either_of o (either_of (missing_at (read m (used_element_at side.place side.used) 8)) (either_of (missing_at (read m (used_index_at side.place) 2)) (missing_at (read m (deciding_field_at event_idx side.place) 2))))) e

  pub fields_fail : (bus : Unmapped) → first_unwritable m parts ≡ None → used_fields m side ≡ Err bus.at → first_missing m side event_idx parts ≡ Some bus.at
  fields_fail bus none e = none_then (first_unwritable m parts) _ none ∙ fields_missing (read m (used_element_at side.place side.used) 8) (read m (used_index_at side.place) 2) bus.at _ e

  pub deciding_fails : (bus : Unmapped) → first_unwritable m parts ≡ None → IsOk (used_fields m side) → Err bus ≡ interrupt m side event_idx → first_missing m side event_idx parts ≡ Some bus.at
  deciding_fails bus none fields e =
      none_then (first_unwritable m parts) _ none
      ∙ fields_there (read m (used_element_at side.place side.used) 8) (read m (used_index_at side.place) 2) _ fields
      ∙ deciding_missing m side event_idx bus e

  pub all_there : (b : Bool) → first_unwritable m parts ≡ None → IsOk (used_fields m side) → Ok b ≡ interrupt m side event_idx → first_missing m side event_idx parts ≡ None
  all_there b none fields e =
      none_then (first_unwritable m parts) _ none
      ∙ fields_there (read m (used_element_at side.place side.used) 8) (read m (used_index_at side.place) 2) _ fields
      ∙ (deciding_there m side event_idx b e).0

-- the element and the index can be stored after the bytes
pub push_works : (m : Memory) (side : Side) (parts : List Part) (bytes : List ℕ) (at : ℕ) → IsOk (used_fields m side) → used_fields (spread_over m parts bytes) side ≡ Err at → ⊥
push_works m side parts bytes at fields e = not_both (used_fields (spread_over m parts bytes) side) at (fields-stay m side parts bytes fields) e

event_says : (side : Side) (r : Result ℕ ℕ) → IsOk r → IsOk (by_event side r)
event_says side (Ok n) h = refl
event_says side (Err at) h = absurd (cc)

flags_say : (r : Result ℕ ℕ) → IsOk r → IsOk (by_flags r)
flags_say (Ok n) h = refl
flags_say (Err at) h = absurd (cc)

number_says : (r : Result (List ℕ) ℕ) → IsOk r → IsOk (number16_of r)
number_says (Ok bytes) h = refl
number_says (Err at) h = absurd (cc)

decides : (m : Memory) (side : Side) (event_idx : Bool) → IsOk (read m (deciding_field_at event_idx side.place) 2) → IsOk (interrupt m side event_idx)
decides m side true h = event_says side _ (number_says _ h)
decides m side false h = flags_say _ (number_says _ h)

unwrapped : (r : Result Bool Unmapped) → IsOk r → r ≡ Ok (result_unwrap_or r true)
unwrapped (Ok b) h = refl
unwrapped (Err bus) h = absurd (cc)

-- the interrupt is decided by what stands after all is stored
pub decided : (m : Memory) (side : Side) (event_idx b : Bool) (h : Hand) (end : Execution) (r : Result Bool Unmapped) (irq : Bool) → Ok b ≡ interrupt m side event_idx
    → r ≡ interrupt (finished_memory m side h end) (used_next side) event_idx → irq ≡ result_unwrap_or r true
    → interrupt (finished_memory m side h end) (used_next side) event_idx ≡ Ok irq
decided m side event_idx b h end r irq first last given =
    let there = (deciding_there m side event_idx b first).1 in
    let spread = spread-stays m h.parts (answer_bytes end) (deciding_field_at event_idx side.place) 2 there in
    let element = read-stays (spread_over m h.parts (answer_bytes end)) (used_element_at side.place side.used) (element_bytes h.head h.writable) (deciding_field_at event_idx side.place) 2 spread in
    let index = read-stays (with_element (spread_over m h.parts (answer_bytes end)) side h.head h.writable) (used_index_at side.place) (little_bytes 2 (next16 side.used)) (deciding_field_at event_idx side.place) 2 element in
    let says = decides (finished_memory m side h end) (used_next side) event_idx index in
    sym last ∙ unwrapped r (subst (λ (x : Result Bool Unmapped). IsOk x) (sym last) says) ∙ ap Ok (sym given)

-- an address that can't be accessed, and nothing stored
pub faulted : (m : Memory) (side : Side) (event_idx : Bool) (h : Hand) (end : Execution) (r : Result Finished FinishError) (at : ℕ) (new : Option Memory) → r ≡ Err (Bus at) → first_missing m side event_idx h.parts ≡ Some at → new ≡ Some m
    → Finishes m side event_idx h end r new
faulted m side event_idx h end r at new is missing same = subst (λ (x : Result Finished FinishError). Finishes m side event_idx h end x new) (sym is) (missing, same)

-- the same finish by other names
pub finishes_by : (m : Memory) (a side : Side) (d event_idx : Bool) (b h : Hand) (end : Execution) (s r : Result Finished FinishError) (new : Option Memory) → a ≡ side → d ≡ event_idx → b ≡ h → s ≡ r
    → Finishes m a d b end s new → Finishes m side event_idx h end r new
finishes_by m a side d event_idx b h end s r new p q t e f =
    subst (λ (x : Result Finished FinishError). Finishes m side event_idx h end x new) e
    (subst (λ (x : Hand). Finishes m side event_idx x end s new) t
    (subst (λ (x : Bool). Finishes m side x b end s new) q
    (subst (λ (x : Side). Finishes m x d b end s new) p f)))
