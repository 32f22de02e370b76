-- What a form asks, and why it is refused, is what the model says.
use Rattle.std.proofs.Common.{arith, true≢false, ◌≡◌, ℕ, ◌+◌, ◌||◌, nat_lt, Bool, true, false, if◌then◌else◌, refl, ap, sym, ◌∙◌, Option, Some, None, List}
use Rattle.std.specs.Prelude.{nat_le, IfSome}
use Rattle.std.specs.Option.{option_map_or}
use Rattle.std.proofs.lemmas.Bool.Decides.{nat_tests}
use Rattle.vd_num.specs.declared.errno.Errno.TheVariants.{Inval, Busy, Noent}
use Rattle.vd_model.specs.declared.memory.Want.{Want}
use Rattle.vd_model.specs.declared.step.SubmitForm.{SubmitForm}
use Rattle.vd_model.specs.declared.step.SubmitForm.TheVariants as form
use Rattle.vd_model.specs.Creation.{Creation}
use Rattle.vd_model.specs.Acts.{Act}
use Rattle.vd_model.specs.Live.{buffer_len}
use Rattle.vd_model.specs.Queues.{some_pending, made_buffer}
use Rattle.vd_model.specs.RingTurns.{AskedRequest, asked_by, is_bad_len, want_refusal}
use Rattle.vd_model.specs.Turn.{refusal_if}
use Rattle.vd_buffers.specs.Places.{Places, len_of}
use Rattle.vd_buffers.specs.Stands as buffers
use Rattle.blk_driver.specs.Asked.{asked_in, IsAsked}
use Rattle.blk_driver.specs.Buffers.{has_range}
use Rattle.vd_request_lines.specs.Asking.{ask_by, range_refused, asked_refusal}

pub asked_is : (form : SubmitForm) → asked_in (ask_by form) ≡ asked_by form
asked_is (form.Read sector buffer offset len) = refl
asked_is (form.Write sector buffer offset len) = refl
asked_is form.Flush = refl
asked_is (form.Id buffer offset) = refl

-- the pending request that made the buffer, if there is a range
abbrev pub busy_by : Creation → List Act → AskedRequest → Bool
busy_by made acts a = option_map_or (λ (want : Want). some_pending (made_buffer want.buffer) acts made.queues) a.want false

refused_as : (made : Creation) (acts : List Act) (kind : ℕ) (want : Want) (size : Option ℕ)
    → range_refused kind want (some_pending (made_buffer want.buffer) acts made.queues) size
    ≡ option_map_or (λ size. if some_pending (made_buffer want.buffer) acts made.queues then Some Busy else refusal_if (is_bad_len kind want.len || nat_lt size (want.offset + want.len)) Inval) size (Some Noent)
refused_as made acts kind want None = refl
refused_as made acts kind want (Some size) = refl

pub refusal_is : (g : ℕ) (made : Creation) (acts : List Act) (places : Places) (a : AskedRequest) (busy : Bool) → buffers.Stands g acts places → busy ≡ busy_by made acts a
    → asked_refusal places busy a ≡ want_refusal made acts a.kind a.want
refusal_is g made acts places a busy s e = by a.want e where
  by : (want : Option Want) → busy ≡ option_map_or (λ (want : Want). some_pending (made_buffer want.buffer) acts made.queues) want false
      → option_map_or (λ want. range_refused a.kind want busy (len_of places want.buffer)) want None ≡ want_refusal made acts a.kind want
  by None e = refl
  by (Some want) e =
      ap (λ t. range_refused a.kind want t (len_of places want.buffer)) e
      ∙ ap (range_refused a.kind want (some_pending (made_buffer want.buffer) acts made.queues)) (s.lens want.buffer)
      ∙ refused_as made acts a.kind want (buffer_len acts want.buffer)

-- what isn't refused: the length is one that the form takes, and the range is in its buffer
pub record IsFine (acts : List Act) (kind : ℕ) (want : Want) : Type 0 where
  pub len : is_bad_len kind want.len ≡ false
  pub range : has_range acts want.buffer want.offset want.len ≡ true

some_none : {X : Type 0} {a : X} → Some a ≡ None → ⊥
some_none e = cc

neither : (a b : Bool) → (a || b) ≡ false → (a ≡ false) × (b ≡ false)
neither true b e = absurd (true≢false e)
neither false b e = (refl, e)

is_fine : (acts : List Act) (kind : ℕ) (want : Want) (busy : Bool) (size : Option ℕ) → buffer_len acts want.buffer ≡ size → range_refused kind want busy size ≡ None → IsFine acts kind want
is_fine acts kind want busy None there e = absurd (some_none e)
is_fine acts kind want true (Some size) there e = absurd (some_none e)
is_fine acts kind want false (Some size) there e = by (is_bad_len kind want.len || nat_lt size (want.offset + want.len)) refl e where
  by : (t : Bool) → (is_bad_len kind want.len || nat_lt size (want.offset + want.len)) ≡ t → refusal_if t Inval ≡ None → IsFine acts kind want
  by true f e = absurd (some_none e)
  by false f e =
      let both = neither (is_bad_len kind want.len) (nat_lt size (want.offset + want.len)) f in
      let off = both.1 in
      record {
        len = both.0;
        range = ap (λ o. option_map_or (λ size. nat_le (want.offset + want.len) size) o false) there ∙ (let within : nat_le (want.offset + want.len) size ≡ true = grind (arith, nat_tests, off) in within);
      }

pub fine : (g : ℕ) (acts : List Act) (places : Places) (a : AskedRequest) (busy : Bool) → buffers.Stands g acts places → asked_refusal places busy a ≡ None → IfSome a.want (IsFine acts a.kind)
fine g acts places a busy s e = by a.want e where
  by : (want : Option Want) → option_map_or (λ want. range_refused a.kind want busy (len_of places want.buffer)) want None ≡ None → IfSome want (IsFine acts a.kind)
  by None e = tt
  by (Some want) e = is_fine acts a.kind want busy (len_of places want.buffer) (sym (s.lens want.buffer)) e

-- so it may be submitted
pub is_asked : (g : ℕ) (acts : List Act) (places : Places) (form : SubmitForm) (busy : Bool) → buffers.Stands g acts places → asked_refusal places busy (asked_in (ask_by form)) ≡ None → IsAsked (ask_by form)
is_asked g acts places (form.Read sector buffer offset len) busy s e = ((fine g acts places (asked_in (ask_by (form.Read sector buffer offset len))) busy s e).len, refl)
is_asked g acts places (form.Write sector buffer offset len) busy s e = ((fine g acts places (asked_in (ask_by (form.Write sector buffer offset len))) busy s e).len, refl)
is_asked g acts places form.Flush busy s e = tt
is_asked g acts places (form.Id buffer offset) busy s e = (refl, refl)
