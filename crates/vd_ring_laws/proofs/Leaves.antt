-- What holds of a turn's acts, where it holds of those that it makes when it isn't refused.
use Rattle.vd_model.specs.declared.answer.Answer.TheVariants as answer
use Rattle.std.proofs.Common.{◌≡◌, ℕ, Bool, true, false, refl, Option, None, Some, Result, Ok, Err, List, [], ◌∷◌, ◌++◌, ◌==◌, ◌||◌, not, nat_lt, take, is_some, if◌then◌else◌, ◌+◌, ◌%◌, find, length}
use Rattle.std.specs.Option.{option_map_or}
use Rattle.vd_num.specs.declared.errno.Errno.{Errno}
use Rattle.vd_num.specs.declared.errno.Errno.TheVariants.{Noent, Again, Busy, Inval, Nospc, Exist}
use Rattle.vd_model.specs.declared.parts.Part.{Part}
use Rattle.vd_model.specs.declared.parts.Chain.{Chain}
use Rattle.vd_model.specs.declared.queue.RingPlace.{RingPlace}
use Rattle.vd_model.specs.Setting.{Setting}
use Rattle.vd_model.specs.Creation.{Creation}
use Rattle.vd_model.specs.Acts.{Act, AddedChain, Queue, Chain_reclaimed, Fetched, Finished, state_acts, Streaming}
use Rattle.vd_model.specs.State.{is_ready}
use Rattle.vd_model.specs.Memory.{Memory, read}
use Rattle.vd_model.specs.Trace.{Ending, whole, faulty, missing, trace_start, ending_of}
use Rattle.vd_model.specs.Queues.{Ring, ring_of, chains_out, published_chains_out, in_hand, fetches, execution_of, Execution, reclaimed_count, published_count, free_descriptors}
use Rattle.vd_model.specs.Rings.{number16, available_index_at, available_slot_at, available_event_at, used_element_at, used_index_at, minus16, next16}
use Rattle.vd_model.specs.Turn.{Turn, refuse, refusal_turn, refusal_if}
use Rattle.vd_model.specs.BusTurns.{is_missing}
use Rattle.vd_model.specs.DaemonTurns.{daemon_memory, queue_place, has_indirect, has_event_idx, chain_or, read_or, first_used, index_after, readable_bytes, event_puts, event_or, fetched_turn, fetch_chain, fetch_at, fetch_from, is_idle, fetch_turn, Hand, hand, used_position, unwritable_or, deciding_field, finish_puts, finish_hand, finish_turn}
use Rattle.vd_model.specs.RingTurns.{on_ring, is_full, asked_by, want_refusal, made_len, needed_descriptors, part_wants, table_wants, placed_mappings, submitted_turn, submit_turn, number_at, used_event_puts, completed_turn, reclaimed_turn, poll_turn, made_ring_turn, ring_turn, is_ring_size, ring_bytes}
use Rattle.vd_laws.specs.Among.{Among}
use Rattle.vd_laws.proofs.Refusals.{not_given}
use Rattle.vd_num.specs.Field.{field_at}
use Rattle.vd_model.specs.declared.step.SubmitForm.{SubmitForm}
use Rattle.vd_model.specs.Live.{buffers, buffers_len, maps}
use Rattle.vd_model.specs.Place.{taken_slots, place_of}
use Rattle.vd_model.specs.Puts.{bus_bytes}
use Rattle.vd_model.specs.DriverTurns.{buffer_limit}
use Rattle.vd_laws.proofs.Lists.{found}
use Rattle.vd_num.specs.Number.{pages_of}

no_hand : {X : Type 0} (o : Option X) → is_some o ≡ false → o ≡ None
no_hand None e = refl
no_hand (Some x) e = cc

is_busy_not : (a b c : Bool) → a || not b || c ≡ false → b ≡ true
is_busy_not true b c e = cc
is_busy_not false true c e = refl
is_busy_not false false c e = cc

-- what holds of no acts, and of those that a turn makes
module _ (P : List Act → Type 0) (none : P []) where
  abbrev Is : Turn Act → Type 0
  Is turn = P turn.acts

  pub refuse_is : (o : Option Errno) (turn : Turn Act) → (o ≡ None → Is turn) → Is (refuse o turn)
  refuse_is None turn h = h refl
  refuse_is (Some errno) turn h = none

  read_is : {X : Type 0} (r : Result X ℕ) (turn : X → Turn Act) → ((y : X) → Is (turn y)) → Is (read_or r turn)
  read_is (Ok y) turn h = h y
  read_is (Err at) turn h = none

  chain_is : (e : Ending) (turn : Chain → Turn Act) → ((chain : Chain) → Is (turn chain)) → Is (chain_or e turn)
  chain_is (whole chain) turn h = h chain
  chain_is (faulty fault) turn h = none
  chain_is (missing at) turn h = none

  pub option_is : {X : Type 0} (turn : X → Turn Act) (o : Option X) (errno : Errno) → ((y : X) → o ≡ Some y → Is (turn y)) → Is (option_map_or turn o (refusal_turn errno))
  option_is turn None errno h = none
  option_is turn (Some y) errno h = h y refl

  either_is : (b : Bool) (turn other : Turn Act) → Is turn → Is other → Is (if b then turn else other)
  either_is true turn other h k = h
  either_is false turn other h k = k

  -- ---- the block daemon

  module _ (x : Setting) (made : Creation) (done : List Act) (q : ℕ) where
    module _ (leaf : (place : RingPlace) (position : ℕ) (chain : Chain) (bytes : List ℕ) → P (event_puts done place (next16 position) ++ Queue (Fetched q) ∷ [])) where
      event_is : (place : RingPlace) (turn : Turn Act) → Is turn → Is (event_or x done place turn)
      event_is place turn h = either_is (has_event_idx done) (read_or (read (daemon_memory x done) (available_event_at place) 2) (λ bytes. turn)) turn (read_is (read (daemon_memory x done) (available_event_at place) 2) (λ bytes. turn) (λ bytes. h)) h

      fetch_chain_is : (place : RingPlace) (position : ℕ) (chain : Chain) → Is (fetch_chain x done q place position chain)
      fetch_chain_is place position chain =
          either_is (nat_lt chain.readable 16 || (chain.writable == 0)) _ _ none
          (read_is (readable_bytes (daemon_memory x done) chain.parts) _ (λ bytes.
          event_is place (fetched_turn done q place position chain bytes) (leaf place position chain bytes)))

      fetch_at_is : (place : RingPlace) (position : ℕ) → Is (fetch_at x done q place position)
      fetch_at_is place position =
          read_is (number16 (daemon_memory x done) (available_slot_at place position)) _ (λ head.
          chain_is (ending_of (trace_start place head (has_indirect done)) (daemon_memory x done)) _ (λ chain. fetch_chain_is place position chain))

      fetch_from_is : (place : RingPlace) (position : ℕ) → Is (fetch_from x done q place position)
      fetch_from_is place position =
          read_is (number16 (daemon_memory x done) (available_index_at place)) _ (λ found.
          either_is (nat_lt place.size (minus16 found position)) (record { answer = answer.Ahead found position; acts = [] }) (refuse (refusal_if (found == position) Again) (fetch_at x done q place position)) none
          (refuse_is (refusal_if (found == position) Again) (fetch_at x done q place position) (λ e. fetch_at_is place position)))

    pub fetch_is : (in_hand done q ≡ None → is_ready (state_acts done) q ≡ true → (place : RingPlace) (position : ℕ) (chain : Chain) (bytes : List ℕ) → P (event_puts done place (next16 position) ++ Queue (Fetched q) ∷ []))
        → P (fetch_turn x made done q).acts
    fetch_is leaf =
        refuse_is (refusal_if (is_idle made done q) Inval) _ (λ e.
        refuse_is (refusal_if (is_some (in_hand done q)) Busy) _ (λ f.
        read_is (first_used x done q) _ (λ used.
        fetch_from_is (leaf (no_hand (in_hand done q) (not_given _ Busy f)) (is_busy_not (is_missing made q) (is_ready (state_acts done) q) ((queue_place done q).size == 0) (not_given _ Inval e)))
        (queue_place done q) (index_after (fetches done q) used))))

    unwritable_is : (m : Memory) (parts : List Part) (turn : Turn Act) → Is turn → Is (unwritable_or m parts turn)
    unwritable_is m [] turn h = h
    unwritable_is m (part ∷ parts) turn h =
        let rest = unwritable_is m parts turn h in
        either_is part.writable (read_or (read m part.at part.len) (λ bytes. unwritable_or m parts turn)) (unwritable_or m parts turn)
        (read_is (read m part.at part.len) (λ bytes. unwritable_or m parts turn) (λ bytes. rest)) rest

    finish_hand_is : (place : RingPlace) (used : ℕ) (h : Hand) (end : Execution) → P (Queue (Finished q) ∷ finish_puts place used h end) → Is (finish_hand x done q place used h end)
    finish_hand_is place used h end last =
        unwritable_is (daemon_memory x done) h.parts _
        (read_is (read (daemon_memory x done) (used_element_at place used) 8) _ (λ element.
        read_is (read (daemon_memory x done) (used_index_at place) 2) _ (λ index.
        read_is (read (daemon_memory x done) (deciding_field done place) 2) _ (λ field.
        read_is (number16 (daemon_memory x (finish_puts place used h end ++ done)) (deciding_field done place)) _ (λ value. last)))))

    pub finish_is : ((earlier : List Act) → in_hand done q ≡ Some earlier → (end : Execution) → execution_of done q ≡ Some end
        → P (Queue (Finished q) ∷ finish_puts (queue_place done q) (used_position x done q) (hand x earlier q) end)) → P (finish_turn x made done q).acts
    finish_is leaf =
        refuse_is (refusal_if (is_missing made q) Inval) _ (λ e.
        option_is _ (in_hand done q) Noent (λ earlier f.
        option_is _ (execution_of done q) Noent (λ end g.
        finish_hand_is (queue_place done q) (used_position x done q) (hand x earlier q) end (leaf earlier f end g))))

    -- ---- the driver

    pub on_ring_is : (turn : Ring → Turn Act) → ((ring : Ring) → ring_of done q ≡ Some ring → Is (turn ring)) → Is (on_ring made done q turn)
    on_ring_is turn h = refuse_is (refusal_if (is_missing made q) Inval) _ (λ e. option_is turn (ring_of done q) Noent h)

    pub ring_is : (size : ℕ) → ((slot : ℕ) → P (made_ring_turn done q size slot).acts) → P (ring_turn x made done q size).acts
    ring_is size leaf =
        refuse_is (refusal_if (is_missing made q) Inval) _ (λ e.
        refuse_is (refusal_if (not (is_ring_size size)) Inval) _ (λ f.
        refuse_is (refusal_if (is_some (ring_of done q)) Exist) _ (λ g.
        option_is _ (place_of (taken_slots done) (pages_of (ring_bytes size)) x.bounce x.iova) Nospc (λ slot h. leaf slot))))

    pub submit_is : (asked : SubmitForm)
        → ((ring : Ring) → ring_of done q ≡ Some ring → is_full ring.place.size (chains_out done q) (needed_descriptors (has_indirect done) (asked_by asked)) ≡ false → (ms : List Streaming)
        → P (submitted_turn x done q ring (has_indirect done) (asked_by asked) ms (take (needed_descriptors (has_indirect done) (asked_by asked)) (free_descriptors ring.place.size (chains_out done q)))).acts)
        → P (submit_turn x made done q asked).acts
    submit_is asked leaf = on_ring_is _ (λ ring e.
        let indirect = has_indirect done in
        let a = asked_by asked in
        refuse_is (want_refusal made done a.kind a.want) _ (λ f.
        refuse_is (refusal_if (nat_lt buffer_limit (buffers_len done + made_len indirect a)) Nospc) _ (λ g.
        refuse_is (refusal_if (is_full ring.place.size (chains_out done q) (needed_descriptors indirect a)) Nospc) _ (λ h.
        option_is _ (placed_mappings x (taken_slots done) (maps done) (part_wants (buffers done) a ++ table_wants indirect (buffers done) a)) Nospc (λ ms i.
        leaf ring e (not_given _ Nospc h) ms)))))

    module _ (leaf : (r : RingPlace) (chain : AddedChain) → Among chain (published_chains_out done q) → (len : ℕ)
        → P (completed_turn x done (Queue (Chain_reclaimed q chain.head) ∷ used_event_puts done r (reclaimed_count done q + 1)) chain len).acts) where
      reclaimed_is : (r : RingPlace) (id len : ℕ) → Is (reclaimed_turn x done q r id len)
      reclaimed_is r id len = by (find (λ chain. chain.head == id) (published_chains_out done q)) refl where
        by : (o : Option AddedChain) → find (λ chain. chain.head == id) (published_chains_out done q) ≡ o
            → Is (option_map_or (λ chain. completed_turn x done (Queue (Chain_reclaimed q chain.head) ∷ used_event_puts done r (reclaimed_count done q + 1)) chain len) o (record { answer = answer.BadId id; acts = [] }))
        by None e = none
        by (Some chain) e = leaf r chain (found (λ chain. chain.head == id) chain (published_chains_out done q) e) len

      pub poll_is : P (poll_turn x made done q).acts
      poll_is = on_ring_is _ (λ ring e.
          let used = number_at x done (used_index_at ring.place) in
          refuse_is (refusal_if (used == reclaimed_count done q % 65536) Again) _ (λ f.
          either_is (nat_lt (length (published_chains_out done q)) (minus16 used (reclaimed_count done q % 65536))) (record { answer = answer.UsedAhead used (published_count done q % 65536); acts = [] })
          (reclaimed_turn x done q ring.place
          (field_at 4 (bus_bytes x.per_page done (used_element_at ring.place (reclaimed_count done q)) 8) 0)
          (field_at 4 (bus_bytes x.per_page done (used_element_at ring.place (reclaimed_count done q)) 8) 4)) none
          (reclaimed_is ring.place _ _)))
