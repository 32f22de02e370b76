-- The block daemon's lines do acts of the block daemon alone.
use Rattle.std.proofs.Common.{◌≡◌, ℕ, Bool, true, false, refl, ap, sym, ◌∙◌, nat_lt, List, [], ◌∷◌, ◌++◌, take, drop, Option, Some, None, Result, Ok, Err, true≢false, ◌==◌, if◌then◌else◌, inl, inr, ◌+◌}
use Rattle.std.specs.Prelude.{◌&&◌, ◌||◌, is_some}
use Rattle.std.specs.List.{list_all}
use Rattle.std.specs.Option.{option_map_or}
use Rattle.std.proofs.lemmas.Bool.Decides.{eqb_tells}
use Rattle.vd_num.specs.declared.errno.Errno.{Errno}
use Rattle.vd_num.specs.declared.errno.Errno.TheVariants.{Noent, Again, Busy, Inval}
use Rattle.vd_model.specs.declared.answer.Answer.{Answer}
use Rattle.vd_model.specs.declared.answer.Answer.TheVariants as answer
use Rattle.vd_model.specs.declared.parts.Part.{Part}
use Rattle.vd_model.specs.declared.parts.Chain.{Chain}
use Rattle.vd_model.specs.declared.queue.RingPlace.{RingPlace}
use Rattle.vd_model.specs.Setting.{Setting}
use Rattle.vd_model.specs.Creation.{Creation}
use Rattle.vd_model.specs.Acts.{Act, Node, Queue, Daemon_put, Fetched}
use Rattle.vd_model.specs.Turn.{Turn, refuse, refusal_if, refusal_turn}
use Rattle.vd_model.specs.Memory.{Memory, read}
use Rattle.vd_model.specs.BusTurns.{is_missing}
use Rattle.vd_model.specs.Trace.{Ending, whole, faulty, missing, ending_of, trace_start}
use Rattle.vd_model.specs.Block as block
use Rattle.vd_model.specs.Queues.{Execution, in_hand, execution_of, fetches}
use Rattle.vd_buffers.specs.Stands as buffers
use Rattle.vd_domain.specs.Held as domains
use Rattle.vd_domain.specs.Stands as domain
use Rattle.vd_memory_lines.specs.Stands as memory
use Rattle.vd_model.specs.Raw.{little_bytes}
use Rattle.vd_model.specs.Rings.{minus16, next16, number16, available_index_at, available_slot_at, available_event_at, used_element_at, used_index_at}
use Rattle.vd_model.specs.DaemonTurns.{Hand, chain_or, read_or, event_or, event_puts, fetch_chain, fetch_at, fetch_from, fetched_turn, fetch_turn, is_idle, first_used, index_after, queue_place, daemon_memory, has_event_idx, has_indirect, readable_bytes, hand, unwritable_or, spread_acts, deciding_field, finish_puts, finish_hand, used_position, finish_turn}
use Rattle.vd_instance.proofs.Services.{is_service, are_services}

no : {X : Type 0} → false ≡ true → X
no e = absurd (true≢false (sym e))

pub itself : (q : ℕ) → (q == q) ≡ true
itself q = elim (eqb_tells q q) [ inl h ↦ h.0 | inr h ↦ absurd (h.1 refl) ]

pub all_front : (p : Act → Bool) (acts more : List Act) → list_all p acts ≡ true → list_all p more ≡ true → list_all p (acts ++ more) ≡ true
all_front p [] more e f = f
all_front p (act ∷ acts) more e f = by (p act) refl (λ h. all_front p acts more h f) where
  by : (t : Bool) → p act ≡ t → (list_all p acts ≡ true → list_all p (acts ++ more) ≡ true) → list_all p (act ∷ acts ++ more) ≡ true
  by true g rest = ap (λ t. t && list_all p (acts ++ more)) g ∙ rest (sym (ap (λ t. t && list_all p acts) g) ∙ e)
  by false g rest = no (sym (ap (λ t. t && list_all p acts) g) ∙ e)

module _ (q : ℕ) where
  refused : (e : Option Errno) (turn : Turn Act) → are_services q turn.acts ≡ true → are_services q (refuse e turn).acts ≡ true
  refused None turn h = h
  refused (Some errno) turn h = refl

  -- what is answered at once makes no act
  at_once : (t : Bool) (said : Answer) (turn : Turn Act) → are_services q turn.acts ≡ true
      → are_services q (if t then record { answer = said; acts = [] } else turn).acts ≡ true
  at_once true said turn h = refl
  at_once false said turn h = h

  read_out : {X : Type 0} (r : Result X ℕ) (turn : X → Turn Act) → ((v : X) → are_services q (turn v).acts ≡ true) → are_services q (read_or r turn).acts ≡ true
  read_out (Ok v) turn each = each v
  read_out (Err at) turn each = refl

  chain_out : (e : Ending) (turn : Chain → Turn Act) → ((chain : Chain) → are_services q (turn chain).acts ≡ true) → are_services q (chain_or e turn).acts ≡ true
  chain_out (whole chain) turn each = each chain
  chain_out (faulty fault) turn each = refl
  chain_out (missing at) turn each = refl

  option_out : {A : Type 0} (f : A → Turn Act) (o : Option A) (errno : Errno) → ((a : A) → are_services q (f a).acts ≡ true)
      → are_services q (option_map_or f o (refusal_turn errno)).acts ≡ true
  option_out f None errno each = refl
  option_out f (Some a) errno each = each a

  -- ---- fetch

  event_out : (x : Setting) (done : List Act) (place : RingPlace) (turn : Turn Act) → are_services q turn.acts ≡ true → are_services q (event_or x done place turn).acts ≡ true
  event_out x done place turn h = by (has_event_idx done) where
    by : (t : Bool) → are_services q (if t then read_or (read (daemon_memory x done) (available_event_at place) 2) (λ bytes. turn) else turn).acts ≡ true
    by true = read_out (read (daemon_memory x done) (available_event_at place) 2) (λ bytes. turn) (λ bytes. h)
    by false = h

  put_only : (at : ℕ) (bytes : List ℕ) (t : Bool) → are_services q (if t then Node (Daemon_put at bytes) ∷ [] else []) ≡ true
  put_only at bytes true = refl
  put_only at bytes false = refl

  fetched_acts : (done : List Act) (place : RingPlace) (position : ℕ) → are_services q (event_puts done place position ++ Queue (Fetched q) ∷ []) ≡ true
  fetched_acts done place position =
      all_front (is_service q) (event_puts done place position) (Queue (Fetched q) ∷ []) (put_only (available_event_at place) (little_bytes 2 position) (has_event_idx done)) (ap (λ t. t && true) (itself q))

  pub fetch_service : (x : Setting) (made : Creation) (done : List Act) → are_services q (fetch_turn x made done q).acts ≡ true
  fetch_service x made done =
      refused (refusal_if (is_idle made done q) Inval) _ (refused (refusal_if (is_some (in_hand done q)) Busy) _
      (read_out (first_used x done q) _ (λ used. from (index_after (fetches done q) used)))) where
        place : RingPlace
        place = queue_place done q

        chained : (position : ℕ) (chain : Chain) → are_services q (fetch_chain x done q (queue_place done q) position chain).acts ≡ true
        chained position chain = at_once (nat_lt chain.readable 16 || (chain.writable == 0)) (answer.Shape chain.readable chain.writable) _
            (read_out (readable_bytes (daemon_memory x done) chain.parts) _ (λ bytes.
            event_out x done (queue_place done q) (fetched_turn done q (queue_place done q) position chain bytes) (fetched_acts done (queue_place done q) (next16 position))))

        at : (position : ℕ) → are_services q (fetch_at x done q (queue_place done q) position).acts ≡ true
        at position = read_out (number16 (daemon_memory x done) (available_slot_at (queue_place done q) position)) _ (λ head.
            chain_out (ending_of (trace_start (queue_place done q) head (has_indirect done)) (daemon_memory x done)) _ (chained position))

        from : (position : ℕ) → are_services q (fetch_from x done q (queue_place done q) position).acts ≡ true
        from position = read_out (number16 (daemon_memory x done) (available_index_at (queue_place done q))) _ (λ found.
            at_once (nat_lt (queue_place done q).size (minus16 found position)) (answer.Ahead found position) _
            (refused (refusal_if (found == position) Again) _ (at position)))

  -- ---- finish

  unwritable_out : (m : Memory) (parts : List Part) (turn : Turn Act) → are_services q turn.acts ≡ true → are_services q (unwritable_or m parts turn).acts ≡ true
  unwritable_out m [] turn h = h
  unwritable_out m (part ∷ parts) turn h = by part.writable (unwritable_out m parts turn h) where
    by : (t : Bool) → are_services q (unwritable_or m parts turn).acts ≡ true
        → are_services q (if t then read_or (read m part.at part.len) (λ bytes. unwritable_or m parts turn) else unwritable_or m parts turn).acts ≡ true
    by true rest = read_out (read m part.at part.len) (λ bytes. unwritable_or m parts turn) (λ bytes. rest)
    by false rest = rest

  spread_service : (parts : List Part) (bytes : List ℕ) (acts : List Act) → are_services q acts ≡ true → are_services q (spread_acts parts bytes acts) ≡ true
  spread_service [] bytes acts h = h
  spread_service (part ∷ parts) bytes acts h = by part.writable (spread_service parts) where
    by : (t : Bool) → ((bytes : List ℕ) (acts : List Act) → are_services q acts ≡ true → are_services q (spread_acts parts bytes acts) ≡ true)
        → are_services q (if t then spread_acts parts (drop part.len bytes) (Node (Daemon_put part.at (take part.len bytes)) ∷ acts) else spread_acts parts bytes acts) ≡ true
    by true rest = rest (drop part.len bytes) (Node (Daemon_put part.at (take part.len bytes)) ∷ acts) h
    by false rest = rest bytes acts h

  pub finish_service : (x : Setting) (made : Creation) (done : List Act) → are_services q (finish_turn x made done q).acts ≡ true
  finish_service x made done =
      refused (refusal_if (is_missing made q) Inval) _
      (option_out _ (in_hand done q) Noent (λ earlier. option_out _ (execution_of done q) Noent (one (hand x earlier q)))) where
        puts : (h : Hand) (end : Execution) → are_services q (finish_puts (queue_place done q) (used_position x done q) h end) ≡ true
        puts h end = spread_service h.parts (end.bytes ++ end.status ∷ []) [] refl

        one : (h : Hand) (end : Execution) → are_services q (finish_hand x done q (queue_place done q) (used_position x done q) h end).acts ≡ true
        one h end =
            unwritable_out (daemon_memory x done) h.parts _
            (read_out (read (daemon_memory x done) (used_element_at (queue_place done q) (used_position x done q)) 8) _ (λ element.
            read_out (read (daemon_memory x done) (used_index_at (queue_place done q)) 2) _ (λ index.
            read_out (read (daemon_memory x done) (deciding_field done (queue_place done q)) 2) _ (λ field.
            read_out (number16 (daemon_memory x (finish_puts (queue_place done q) (used_position x done q) h end ++ done)) (deciding_field done (queue_place done q))) _ (λ value.
            ap (λ t. t && are_services q (finish_puts (queue_place done q) (used_position x done q) h end)) (itself q) ∙ puts h end)))))
