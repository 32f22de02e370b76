-- The turn of a fetch, by what is fetched.
use Rattle.std.proofs.Common.{◌≡◌, ℕ, Bool, true, false, ◌==◌, ◌||◌, nat_lt, if◌then◌else◌, refl, ap, sym, ◌∙◌, inl, inr, arith, List, [], ◌∷◌, ◌++◌, None, Result, Ok, Err, true≢false}
use Rattle.std.proofs.lemmas.Bool.Decides.{eqb_tells, nat_tests}
use Rattle.vd_num.specs.Field.{field_at}
use Rattle.vd_num.specs.declared.errno.Errno.TheVariants as errno
use Rattle.vd_model.specs.declared.answer.Answer.TheVariants as answer
use Rattle.vd_model.specs.declared.answer.Item.TheVariants.{Word, Number}
use Rattle.vd_model.specs.declared.answer.Tag.TheVariants as tag
use Rattle.vd_model.specs.declared.queue.RingPlace.{RingPlace}
use Rattle.vd_model.specs.declared.parts.Chain.{Chain}
use Rattle.vd_model.specs.Setting.{Setting}
use Rattle.vd_model.specs.Acts.{Act, Queue, Fetched}
use Rattle.vd_model.specs.Memory.{Memory, read}
use Rattle.vd_model.specs.Rings.{minus16, next16, number16, available_index_at, available_slot_at, available_event_at}
use Rattle.vd_model.specs.Trace.{Ending, whole, faulty, missing, trace_start, ending_of}
use Rattle.vd_model.specs.Turn.{Turn, refusal_turn, refuse, refusal_if, done_with}
use Rattle.vd_model.specs.DaemonTurns.{Hand, daemon_memory, has_indirect, has_event_idx, event_puts, event_or, read_or, chain_or, readable_bytes, fetched_turn, fetch_chain, fetch_at, fetch_from, ahead_or}
use Rattle.vr_device.specs.Side.{Side}
use Rattle.vr_device.specs.Device.{next_by, pop_of, popped}
use Rattle.vr_device.specs.declared.error.PopError.TheVariants as pop
use Rattle.blk_daemon.specs.declared.error.FetchError.{FetchError}
use Rattle.blk_daemon.specs.declared.error.FetchError.TheVariants as fetch
use Rattle.blk_daemon.specs.Held.{hand_with}
use Rattle.blk_daemon.specs.Fetched.{request_by, with_bytes, where_read, where_told, then_told, hand_at}

-- a refusal
abbrev pub failed_turn : FetchError → Turn Act
failed_turn fetch.Busy = refusal_turn errno.Busy
failed_turn fetch.Empty = refusal_turn errno.Again
failed_turn (fetch.Ahead found known) = record { answer = answer.Ahead found known; acts = [] }
failed_turn (fetch.Fault fault) = record { answer = answer.Chain fault; acts = [] }
failed_turn (fetch.Shape readable writable) = record { answer = answer.Shape readable writable; acts = [] }
failed_turn (fetch.Bus at) = record { answer = answer.Bus at; acts = [] }
failed_turn fetch.Memory = refusal_turn errno.Busy

-- the request that is fetched at a position
abbrev pub hand_turn : List Act → ℕ → RingPlace → ℕ → Hand → Turn Act
hand_turn acts q place position h =
    done_with (Word tag.Head ∷ Number h.head ∷ Word tag.Kind ∷ Number (field_at 4 h.bytes 0) ∷ Word tag.Sector ∷ Number (field_at 8 h.bytes 8) ∷ [])
    (event_puts acts place (next16 position) ++ Queue (Fetched q) ∷ [])

module _ (x : Setting) (acts : List Act) (q : ℕ) (side : Side) where
  abbrev pub seen : Memory
  seen = daemon_memory x acts

  abbrev pub turn_by : Result Hand FetchError → Turn Act
  turn_by (Ok h) = hand_turn acts q side.place side.position h
  turn_by (Err e) = failed_turn e

  where_is : (h : Hand) (r : Result (List ℕ) ℕ) → read_or r (λ bytes. hand_turn acts q side.place side.position h) ≡ turn_by (where_read r h)
  where_is h (Ok bytes) = refl
  where_is h (Err at) = refl

  told_by : (h : Hand) (t : Bool)
      → (if t then read_or (read seen (available_event_at side.place) 2) (λ bytes. hand_turn acts q side.place side.position h) else hand_turn acts q side.place side.position h)
      ≡ turn_by (where_told seen side.place t h)
  told_by h true = where_is h (read seen (available_event_at side.place) 2)
  told_by h false = refl

  abbrev then_told_here : Result Hand FetchError → Result Hand FetchError
  then_told_here r = then_told seen side.place (has_event_idx acts) r

  bytes_is : (chain : Chain) (r : Result (List ℕ) ℕ)
      → read_or r (λ bytes. event_or x acts side.place (fetched_turn acts q side.place side.position chain bytes)) ≡ turn_by (then_told_here (with_bytes chain r))
  bytes_is chain (Ok bytes) = told_by (hand_with chain bytes) (has_event_idx acts)
  bytes_is chain (Err at) = refl

  shape_is : (chain : Chain) (t : Bool)
      → (if t then failed_turn (fetch.Shape chain.readable chain.writable) else
      read_or (readable_bytes seen chain.parts) (λ bytes. event_or x acts side.place (fetched_turn acts q side.place side.position chain bytes)))
      ≡ turn_by (then_told_here (if t then Err (fetch.Shape chain.readable chain.writable) else with_bytes chain (readable_bytes seen chain.parts)))
  shape_is chain true = refl
  shape_is chain false = bytes_is chain (readable_bytes seen chain.parts)

  ending_is : (e : Ending) → chain_or e (fetch_chain x acts q side.place side.position) ≡ turn_by (then_told_here (request_by seen (popped e)))
  ending_is (whole chain) = shape_is chain (nat_lt chain.readable 16 || (chain.writable == 0))
  ending_is (faulty fault) = refl
  ending_is (missing at) = refl

  slot_is : (r : Result ℕ ℕ)
      → read_or r (λ head. chain_or (ending_of (trace_start side.place head (has_indirect acts)) seen) (fetch_chain x acts q side.place side.position))
      ≡ turn_by (then_told_here (request_by seen (pop_of seen side.place (has_indirect acts) r)))
  slot_is (Ok head) = ending_is (ending_of (trace_start side.place head (has_indirect acts)) seen)
  slot_is (Err at) = refl

  -- an index is not ahead of itself
  not_ahead : (size n : ℕ) → nat_lt size (minus16 n n) ≡ false
  not_ahead size n =
      let none : minus16 n n ≡ 0 = omega arith in
      let low : nat_lt size 0 ≡ false = grind (arith, nat_tests) in
      ap (nat_lt size) none ∙ low

  found_by : (found : ℕ) (t u : Bool) → (t ≡ true → u ≡ false)
      → (if u then failed_turn (fetch.Ahead found side.position) else refuse (refusal_if t errno.Again) (fetch_at x acts q side.place side.position))
      ≡ turn_by (then_told_here (request_by seen (if t then Ok None else if u then Err (pop.Ahead found side.position) else pop_of seen side.place (has_indirect acts) (number16 seen (available_slot_at side.place side.position)))))
  found_by found true true h = absurd (true≢false (h refl))
  found_by found true false h = refl
  found_by found false true h = refl
  found_by found false false h = slot_is (number16 seen (available_slot_at side.place side.position))

  same_not_ahead : (found : ℕ) → (found == side.position) ≡ true → nat_lt side.place.size (minus16 found side.position) ≡ false
  same_not_ahead found e = elim (eqb_tells found side.position) [
    | inl h ↦ ap (λ n. nat_lt side.place.size (minus16 n side.position)) h.1 ∙ not_ahead side.place.size side.position
    | inr h ↦ absurd (true≢false (sym e ∙ h.0))
  ]

  index_is : (r : Result ℕ ℕ)
      → read_or r (λ found. ahead_or side.place found side.position (fetch_at x acts q side.place side.position))
      ≡ turn_by (then_told_here (request_by seen (next_by seen side (has_indirect acts) r)))
  index_is (Ok found) = found_by found (found == side.position) (nat_lt side.place.size (minus16 found side.position)) (same_not_ahead found)
  index_is (Err at) = refl

  pub from_is : fetch_from x acts q side.place side.position ≡ turn_by (hand_at seen (has_indirect acts) (has_event_idx acts) side)
  from_is = index_is (number16 seen (available_index_at side.place))
