-- The block daemon's side of a queue, an act at a time.
use Rattle.std.proofs.Common.{◌≡◌, ℕ, ◌+◌, ◌%◌, true, false, ◌==◌, if◌then◌else◌, inl, inr, refl, ap, sym, ◌∙◌, arith, List, ◌∷◌, Some, None, Option, Ok, true≢false}
use Rattle.std.specs.Prelude.{is_some}
use Rattle.std.specs.Option.{option_map, option_map_or}
use Rattle.std.proofs.lemmas.Bool.Decides.{eqb_tells}
use Rattle.vd_model.specs.declared.parts.Chain.{Chain}
use Rattle.vd_model.specs.Setting.{Setting}
use Rattle.vd_model.specs.Acts.{Act, Node, Driver, Bus, Message_act, State, Queue, Disk_act, Fetched, Executed, Finished, state_acts}
use Rattle.vd_model.specs.State.{StateAct, Max_set, Status_set, Features_set, Num_set, Addr_set, Ready_set, Avail_set, Kick_file_set, Kicked, Kicks_taken, Callback_set, Injected, Interrupts_taken, Cleared, num_of, addresses_of}
use Rattle.vd_model.specs.Queues as model
use Rattle.vd_model.specs.Queues.{Execution, ends_position}
use Rattle.vd_model.specs.Rings.{number16, next16, used_index_at, available_slot_at}
use Rattle.vd_model.specs.Trace.{whole, trace_start, ending_of}
use Rattle.vd_model.specs.DaemonTurns.{Hand, hand, hand_of, hand_head, hand_position, daemon_memory, queue_place, index_after, first_used, readable_bytes, has_indirect}
use Rattle.vr_device.specs.Side.{Side}
use Rattle.vd_queue_sides.specs.Daemon.{Steps, is_daemon_act, IsAt, PositionStands, HandStands, DaemonStands}
use Rattle.vd_queue_sides.proofs.Leaving.{steps_after, ended}

pub itself : (q : ℕ) → (q == q) ≡ true
itself q = elim (eqb_tells q q) [ inl h ↦ h.0 | inr h ↦ absurd (h.1 refl) ]

-- the queue's place, as the driver described it
pub place_after : (q : ℕ) (act : Act) (acts : List Act) → is_daemon_act q act ≡ false → queue_place (act ∷ acts) q ≡ queue_place acts q
place_after q (Node act) acts e = refl
place_after q (Driver act) acts e = refl
place_after q (Bus act) acts e = refl
place_after q (Message_act act) acts e = refl
place_after q (Queue act) acts e = refl
place_after q (Disk_act act) acts e = refl
place_after q (State act) acts e = of_state act e where
  of_state : (act : StateAct) → is_daemon_act q (State act) ≡ false → queue_place (State act ∷ acts) q ≡ queue_place acts q
  of_state Cleared e = absurd (true≢false e)
  of_state (Num_set k n) e = ap (λ t. record (queue_place acts q) { size = (if t then n else num_of (state_acts acts) q) }) e
  of_state (Addr_set k a b c) e = ap (λ t. record {
    size = num_of (state_acts acts) q;
    desc = (if t then record { desc = a; driver = b; device = c } else addresses_of (state_acts acts) q).desc;
    driver = (if t then record { desc = a; driver = b; device = c } else addresses_of (state_acts acts) q).driver;
    device = (if t then record { desc = a; driver = b; device = c } else addresses_of (state_acts acts) q).device;
  }) e
  of_state (Max_set k max) e = refl
  of_state (Status_set v) e = refl
  of_state (Features_set v) e = refl
  of_state (Ready_set k r) e = refl
  of_state (Avail_set k n) e = refl
  of_state (Kick_file_set k on) e = refl
  of_state (Kicked k) e = refl
  of_state (Kicks_taken k) e = refl
  of_state (Callback_set on set) e = refl
  of_state (Injected on) e = refl
  of_state (Interrupts_taken on) e = refl

-- ---- acts of other kinds and on other queues

pub position_after : (x : Setting) (q : ℕ) (act : Act) (acts : List Act) → is_daemon_act q act ≡ false → (p : Option Side) → PositionStands x acts q p → PositionStands x (act ∷ acts) q p
position_after x q act acts e None s =
    let t = steps_after q act acts e in
    (ap (λ (s : Steps). s.first) t ∙ s.0, ap (λ (s : Steps). s.fetches) t ∙ s.1, ap (λ (s : Steps). s.finishes) t ∙ s.2)
position_after x q act acts e (Some side) s =
    let t = steps_after q act acts e in
    record {
      earlier = s.earlier;
      from = s.from;
      first = ap (λ (s : Steps). s.first) t ∙ s.first;
      loaded = s.loaded;
      position = s.position ∙ ap (λ n. index_after n s.from) (sym (ap (λ (s : Steps). s.fetches) t));
      used = s.used ∙ ap (λ n. index_after n s.from) (sym (ap (λ (s : Steps). s.finishes) t));
      place = s.place ∙ sym (place_after q act acts e);
    }

pub hand_after : (x : Setting) (q : ℕ) (act : Act) (acts : List Act) → is_daemon_act q act ≡ false → (k : Option Hand) (o : Option Execution) → HandStands x acts q k o → HandStands x (act ∷ acts) q k o
hand_after x q act acts e k o s =
    let t = steps_after q act acts e in
    record {
      request = s.request ∙ ap (λ f. option_map (λ earlier. hand x earlier q) f) (sym (ap (λ (s : Steps). s.fetched) t));
      outcome = s.outcome ∙ sym (ap (λ (s : Steps). s.executed) t);
    }

pub daemon_after : (x : Setting) (q : ℕ) (act : Act) (acts : List Act) → is_daemon_act q act ≡ false → (p : Option Side) (k : Option Hand) (o : Option Execution)
    → DaemonStands x acts q p k o → DaemonStands x (act ∷ acts) q p k o
daemon_after x q act acts e p k o s = record { at = position_after x q act acts e p s.at; held = hand_after x q act acts e k o s.held }

-- ---- the ends

pub daemon_ends : (x : Setting) (q : ℕ) (act : Act) (acts : List Act) → ends_position q act ≡ true → DaemonStands x (act ∷ acts) q None None None
daemon_ends x q act acts e =
    let t = ended q act acts e in
    record {
      at = (ap (λ (s : Steps). s.first) t, ap (λ (s : Steps). s.fetches) t, ap (λ (s : Steps). s.finishes) t);
      held = record {
        request = ap (λ f. option_map (λ earlier. hand x earlier q) f) (sym (ap (λ (s : Steps). s.fetched) t));
        outcome = sym (ap (λ (s : Steps). s.executed) t);
      };
    }

-- ---- a fetch

-- where the position goes on, the turn's is the kept one
pub first_is : (x : Setting) (acts : List Act) (q : ℕ) (side : Side) (s : IsAt x acts q side) → first_used x acts q ≡ Ok s.from
first_is x acts q side s =
    ap (λ o. option_map_or (λ earlier. number16 (daemon_memory x earlier) (used_index_at (queue_place earlier q))) o (number16 (daemon_memory x acts) (used_index_at (queue_place acts q)))) s.first ∙ s.loaded

-- where none is kept, the turn loads the used index
pub first_loads : (x : Setting) (acts : List Act) (q : ℕ) → model.before_first acts q ≡ None → first_used x acts q ≡ number16 (daemon_memory x acts) (used_index_at (queue_place acts q))
first_loads x acts q none =
    ap (λ o. option_map_or (λ earlier. number16 (daemon_memory x earlier) (used_index_at (queue_place earlier q))) o (number16 (daemon_memory x acts) (used_index_at (queue_place acts q)))) none

next_moved : (n from : ℕ) → next16 (index_after n from) ≡ index_after (n + 1) from
next_moved n from = omega arith

first_after : (q : ℕ) (acts : List Act) (o : Option (List Act)) → model.before_first acts q ≡ o
    → model.before_first (Queue (Fetched q) ∷ acts) q ≡ (if is_some o then o else Some acts)
first_after q acts o e =
    ap (λ t. if t then (if is_some (model.before_first acts q) then model.before_first acts q else Some acts) else model.before_first acts q) (itself q)
    ∙ ap (λ o. if is_some o then o else Some acts) e

fetches_after : (q : ℕ) (acts : List Act) → model.fetches (Queue (Fetched q) ∷ acts) q ≡ model.fetches acts q + 1
fetches_after q acts = ap (λ t. if t then model.fetches acts q + 1 else model.fetches acts q) (itself q)

-- the first fetch: the ring is taken up at the used index that it loads
pub fetch_begins : (x : Setting) (acts : List Act) (q from : ℕ) → PositionStands x acts q None → number16 (daemon_memory x acts) (used_index_at (queue_place acts q)) ≡ Ok from → from ≡ from % 65536
    → PositionStands x (Queue (Fetched q) ∷ acts) q (Some (record { place = queue_place acts q; position = next16 from; used = from }))
fetch_begins x acts q from s loaded small = record {
  earlier = acts;
  from = from;
  first = first_after q acts None s.0;
  loaded = loaded;
  position = ap next16 small ∙ next_same from ∙ ap (λ n. index_after n from) (sym (fetches_after q acts ∙ ap (λ n. n + 1) s.1));
  used = small ∙ zero_moved from ∙ ap (λ n. index_after n from) (sym s.2);
  place = refl;
} where
  next_same : (from : ℕ) → next16 (from % 65536) ≡ index_after (0 + 1) from
  next_same from = omega arith

  zero_moved : (from : ℕ) → from % 65536 ≡ index_after 0 from
  zero_moved from = omega arith

-- each further fetch moves the position on by one
pub fetch_goes_on : (x : Setting) (acts : List Act) (q : ℕ) (side : Side) → PositionStands x acts q (Some side)
    → PositionStands x (Queue (Fetched q) ∷ acts) q (Some (record side { position = next16 side.position }))
fetch_goes_on x acts q side s = record {
  earlier = s.earlier;
  from = s.from;
  first = first_after q acts (Some s.earlier) s.first;
  loaded = s.loaded;
  position = ap next16 s.position ∙ next_moved (model.fetches acts q) s.from ∙ ap (λ n. index_after n s.from) (sym (fetches_after q acts));
  used = s.used;
  place = s.place;
}

-- what was read is the turn's request in hand
pub hand_is : (x : Setting) (acts : List Act) (q used head : ℕ) (chain : Chain) (bytes : List ℕ) → first_used x acts q ≡ Ok used
    → number16 (daemon_memory x acts) (available_slot_at (queue_place acts q) (index_after (model.fetches acts q) used)) ≡ Ok head
    → ending_of (trace_start (queue_place acts q) head (has_indirect acts)) (daemon_memory x acts) ≡ whole chain
    → readable_bytes (daemon_memory x acts) chain.parts ≡ Ok bytes
    → hand x acts q ≡ record { head = chain.head; parts = chain.parts; writable = chain.writable; bytes = bytes }
hand_is x acts q used head chain bytes first slot ending read =
    ap (λ n. hand_of x acts (ending_of (trace_start (queue_place acts q) n (has_indirect acts)) (daemon_memory x acts))) head_is
    ∙ ap (λ e. hand_of x acts e) ending
    ∙ rw read refl where
      position_is : hand_position x acts q ≡ index_after (model.fetches acts q) used
      position_is = rw first refl

      slot_is : number16 (daemon_memory x acts) (available_slot_at (queue_place acts q) (hand_position x acts q)) ≡ Ok head
      slot_is = ap (λ p. number16 (daemon_memory x acts) (available_slot_at (queue_place acts q) p)) position_is ∙ slot

      head_is : hand_head x acts q ≡ head
      head_is = rw slot_is refl

pub fetch_holds : (x : Setting) (acts : List Act) (q : ℕ) (h : Hand) → hand x acts q ≡ h → HandStands x (Queue (Fetched q) ∷ acts) q (Some h) None
fetch_holds x acts q h e = record {
  request = ap Some (sym e) ∙ ap (λ t. option_map (λ earlier. hand x earlier q) (if t then Some acts else model.in_hand acts q)) (sym (itself q));
  outcome = ap (λ t. if t then None else model.execution_of acts q) (sym (itself q));
}

-- ---- an execution, and a finish

pub execute_holds : (x : Setting) (acts : List Act) (q status : ℕ) (bytes : List ℕ) (h : Hand) (o : Option Execution) → HandStands x acts q (Some h) o
    → HandStands x (Queue (Executed q status bytes) ∷ acts) q (Some h) (Some (record { status = status; bytes = bytes }))
execute_holds x acts q status bytes h o s = record {
  request = s.request;
  outcome = ap (λ t. if t then Some (record { status = status; bytes = bytes }) else model.execution_of acts q) (sym (itself q));
}

pub finish_moves : (x : Setting) (acts : List Act) (q : ℕ) (side : Side) → PositionStands x acts q (Some side) → PositionStands x (Queue (Finished q) ∷ acts) q (Some (record side { used = next16 side.used }))
finish_moves x acts q side s = record {
  earlier = s.earlier;
  from = s.from;
  first = s.first;
  loaded = s.loaded;
  position = s.position;
  used = ap next16 s.used ∙ next_moved (model.finishes acts q) s.from ∙ ap (λ n. index_after n s.from) (sym (ap (λ t. if t then model.finishes acts q + 1 else model.finishes acts q) (itself q)));
  place = s.place;
}

pub finish_empties : (x : Setting) (acts : List Act) (q : ℕ) (k : Option Hand) (o : Option Execution) → HandStands x acts q k o → HandStands x (Queue (Finished q) ∷ acts) q None o
finish_empties x acts q k o s = record {
  request = ap (λ t. option_map (λ earlier. hand x earlier q) (if t then None else model.in_hand acts q)) (sym (itself q));
  outcome = s.outcome;
}
