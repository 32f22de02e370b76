-- What each step changes of the guest's memory and of the table.
use Rattle.std.proofs.Common.{◌≡◌, ◌≢◌, ℕ, ◌+◌, ◌-◌, ◌^◌, ◌<◌, ◌≤◌, Bool, true, false, refl, ap, subst, sym, arith, ◌==◌, nat_lt, not, if◌then◌else◌, List, [], ◌++◌, length, Option, Some, None, inl, inr}
use Rattle.std.specs.Prelude.{unwrap_or}
use Rattle.std.specs.List.{slice_get, slice_index}
use Rattle.std.proofs.lemmas.Bool.Decides.{leb_tells}
use Rattle.std.proofs.lemmas.Option.{slice_get-get_or, slice_get_past}
use Rattle.vd_num.specs.declared.errno.Errno.TheVariants.{Noent, Io, Again, Inval, Nospc}
use Rattle.vd_model.specs.declared.memory.Region.{Region}
use Rattle.vd_model.specs.declared.message.TakeAnswer.{TakeAnswer}
use Rattle.vd_model.specs.declared.message.TakeAnswer.TheVariants as end
use Rattle.vd_model.specs.Messages.{is_broken, is_held, message_told, next_id, next_message, id_limit}
use Rattle.vd_model.specs.AreaTurns.{first_region}
use Rattle.vd_model.specs.Puts.{byte_in}
use Rattle.vd_model.specs.Turn.{refusal_if}
use Rattle.vd_laws.proofs.Refusals.{not_given, not_not}
use Rattle.vd_vhost_model.specs.declared.access.Access.TheVariants.{Read, Write}
use Rattle.vd_vhost_model.specs.declared.step.VhostStep.{VhostStep}
use Rattle.vd_vhost_model.specs.declared.step.VhostStep.TheVariants as step
use Rattle.vd_vhost_model.specs.GuestTable.{VhostAct, messages_of, table, is_latest, guest, first_denial, stored_byte}
use Rattle.vd_vhost_model.specs.VhostTurns.{vhost_turn, guest_take_turn, clock_of, bus_start, found_turn, is_table_of}
use Rattle.vd_vhost_laws.specs.Through.{address_after, IsThrough}
use Rattle.vd_vhost_laws.specs.TableLaw.{MayChange}
use Rattle.vd_vhost_laws.proofs.Accesses.{stored_at}
use Rattle.vd_vhost_laws.proofs.Leaves.{refused, missing, denied}

-- ---- bytes

-- what a poke of these bytes makes of a byte that it changes
poked : (bytes : List ℕ) (offset o old : ℕ) → unwrap_or (byte_in bytes offset o) old ≢ old
    → (offset ≤ o) × (o < offset + length bytes) × (unwrap_or (byte_in bytes offset o) old ≡ slice_index bytes (o - offset))
poked bytes offset o old = elim (leb_tells offset o) [
  | inl low ↦ subst (λ b. unwrap_or (if b then slice_get bytes (o - offset) else None) old ≢ old → (offset ≤ o) × (o < offset + length bytes) × (unwrap_or (if b then slice_get bytes (o - offset) else None) old ≡ slice_index bytes (o - offset))) (sym low.0) (there low.1)
  | inr high ↦ subst (λ b. unwrap_or (if b then slice_get bytes (o - offset) else None) old ≢ old → (offset ≤ o) × (o < offset + length bytes) × (unwrap_or (if b then slice_get bytes (o - offset) else None) old ≡ slice_index bytes (o - offset))) (sym high.0) (λ differ. absurd (differ refl))
] where
  there : offset ≤ o → unwrap_or (slice_get bytes (o - offset)) old ≢ old → (offset ≤ o) × (o < offset + length bytes) × (unwrap_or (slice_get bytes (o - offset)) old ≡ slice_index bytes (o - offset))
  there low = elim (leb_tells (length bytes) (o - offset)) [
    | inl past ↦ λ differ. absurd (differ (ap (λ x. unwrap_or x old) (slice_get_past bytes (o - offset) past.1)))
    | inr within ↦ λ differ. (let here = within.1 in (low, omega (arith, here, low), ap (λ x. unwrap_or x old) (slice_get-get_or bytes (o - offset) 0 here)))
  ]

-- and a store
stored : (regions : List Region) (at : ℕ) (bytes : List ℕ) (o old : ℕ) → unwrap_or (stored_byte regions at bytes o) old ≢ old → at < 2 ^ 64
    → (i : ℕ) × (i < length bytes) × IsThrough regions Write (address_after at i) o × (unwrap_or (stored_byte regions at bytes o) old ≡ slice_index bytes i)
stored regions at bytes o old = by (stored_byte regions at bytes o) refl where
  by : (s : Option ℕ) → stored_byte regions at bytes o ≡ s → unwrap_or s old ≢ old → at < 2 ^ 64
      → (i : ℕ) × (i < length bytes) × IsThrough regions Write (address_after at i) o × (unwrap_or s old ≡ slice_index bytes i)
  by None e differ small = absurd (differ refl)
  by (Some b) e differ small = stored_at regions o b bytes at small e

module _ (size : ℕ) (done : List VhostAct) (o : ℕ) where
  -- these acts leave the byte
  abbrev Same : List VhostAct → Type 0
  Same acts = guest (acts ++ done) o ≡ guest done o

  taken_same : (id : ℕ) (e : TakeAnswer) → Same (guest_take_turn id e).acts
  taken_same id end.Pending = refl
  taken_same id end.Unknown = refl
  taken_same id (end.Done body avail) = refl
  taken_same id (end.FailedByReply body code) = refl
  taken_same id (end.FailedByTimeout body deadline now) = refl

  pub changes : (s : VhostStep) → guest ((vhost_turn size done s).acts ++ done) o ≢ guest done o → MayChange done o (guest ((vhost_turn size done s).acts ++ done) o) s
  changes (step.Poke offset bytes) differ =
      refused (λ acts. guest (acts ++ done) o ≢ guest done o → (offset ≤ o) × (o < offset + length bytes) × (guest (acts ++ done) o ≡ slice_index bytes (o - offset))) (λ differ. absurd (differ refl))
      (refusal_if (nat_lt size (offset + length bytes)) Inval) _ (λ e. poked bytes offset o (guest done o)) differ
  changes (step.Store at bytes) differ =
      denied (λ acts. guest (acts ++ done) o ≢ guest done o → at < 2 ^ 64 → (i : ℕ) × (i < length bytes) × IsThrough (table done) Write (address_after at i) o × (guest (acts ++ done) o ≡ slice_index bytes i))
      (λ differ. absurd (differ refl)) (first_denial (table done) Write at (length bytes)) _ (λ e. stored (table done) at bytes o (guest done o)) differ
  changes (step.Peek offset len) differ = differ (refused Same refl (refusal_if (nat_lt size (offset + len)) Inval) _ (λ e. refl))
  changes (step.SetMap regions) differ =
      differ (refused Same refl (refusal_if (not (is_table_of size regions)) Inval) _ (λ e.
      refused Same refl (refusal_if (is_broken (messages_of done)) Io) _ (λ f.
      refused Same refl (refusal_if (next_id bus_start (messages_of done) == id_limit) Nospc) _ (λ g. refl))))
  changes (step.Load at len) differ = differ (denied Same refl (first_denial (table done) Read at len) _ (λ e. refl))
  changes (step.Lookup range) differ =
      differ (refused Same refl (refusal_if (nat_lt range.last range.start) Inval) _ (λ e. missing Same refl found_turn (first_region (table done) range.start range.last) Inval (λ r. refl)))
  changes step.Recv differ = differ (missing Same refl _ (next_message (messages_of done)) Again (λ m. refl))
  changes (step.Answer id code) differ = differ (refused Same refl (refusal_if (not (is_held (messages_of done) id)) Noent) _ (λ e. refl))
  changes step.Lost differ = differ refl
  changes (step.Tick seconds) differ = differ (refused Same refl (refusal_if (nat_lt (2 ^ 40) (clock_of (messages_of done) + seconds)) Inval) _ (λ e. refl))
  changes (step.Take id) differ = differ (taken_same id (message_told (messages_of done) id))

-- ---- the table

module _ (size : ℕ) (done : List VhostAct) (fits : is_table_of size (table done) ≡ true) where
  -- after these acts the table can be set over the memory
  abbrev Fits : List VhostAct → Type 0
  Fits acts = is_table_of size (table (acts ++ done)) ≡ true

  emptied : (b : Bool) → is_table_of size (if b then [] else table done) ≡ true
  emptied true = refl
  emptied false = fits

  taken_fits : (id : ℕ) (e : TakeAnswer) → Fits (guest_take_turn id e).acts
  taken_fits id end.Pending = fits
  taken_fits id end.Unknown = fits
  taken_fits id (end.Done body avail) = fits
  taken_fits id (end.FailedByReply body code) = emptied (is_latest done id)
  taken_fits id (end.FailedByTimeout body deadline now) = emptied (is_latest done id)

  pub step_fits : (s : VhostStep) → Fits (vhost_turn size done s).acts
  step_fits (step.Poke offset bytes) = refused Fits fits (refusal_if (nat_lt size (offset + length bytes)) Inval) _ (λ e. fits)
  step_fits (step.Store at bytes) = denied Fits fits (first_denial (table done) Write at (length bytes)) _ (λ e. fits)
  step_fits (step.Peek offset len) = refused Fits fits (refusal_if (nat_lt size (offset + len)) Inval) _ (λ e. fits)
  step_fits (step.SetMap regions) =
      refused Fits fits (refusal_if (not (is_table_of size regions)) Inval) _ (λ e.
      refused Fits fits (refusal_if (is_broken (messages_of done)) Io) _ (λ f.
      refused Fits fits (refusal_if (next_id bus_start (messages_of done) == id_limit) Nospc) _ (λ g. not_not (is_table_of size regions) (not_given (not (is_table_of size regions)) Inval e))))
  step_fits (step.Load at len) = denied Fits fits (first_denial (table done) Read at len) _ (λ e. fits)
  step_fits (step.Lookup range) =
      refused Fits fits (refusal_if (nat_lt range.last range.start) Inval) _ (λ e. missing Fits fits found_turn (first_region (table done) range.start range.last) Inval (λ r. fits))
  step_fits step.Recv = missing Fits fits _ (next_message (messages_of done)) Again (λ m. fits)
  step_fits (step.Answer id code) = refused Fits fits (refusal_if (not (is_held (messages_of done) id)) Noent) _ (λ e. fits)
  step_fits step.Lost = fits
  step_fits (step.Tick seconds) = refused Fits fits (refusal_if (nat_lt (2 ^ 40) (clock_of (messages_of done) + seconds)) Inval) _ (λ e. fits)
  step_fits (step.Take id) = taken_fits id (message_told (messages_of done) id)
