-- The line of a fetch: what it takes, and what stands then.
use Rattle.std.proofs.Common.{◌≡◌, ℕ, ◌%◌, ◌<◌, Bool, true, false, ◌==◌, ◌||◌, nat_lt, if◌then◌else◌, refl, ap, sym, subst, ◌∙◌, arith, List, ◌∷◌, Some, None, Option, Result, Ok, Err}
use Rattle.std.specs.Prelude.{is_some, IfOk, IsOk}
use Rattle.std.specs.Option.{option_map}
use Rattle.vd_num.specs.declared.errno.Errno.TheVariants as errno
use Rattle.vd_model.specs.declared.queue.RingPlace.{RingPlace}
use Rattle.vd_model.specs.declared.parts.Chain.{Chain}
use Rattle.vd_model.specs.Setting.{Setting}
use Rattle.vd_model.specs.Creation.{Creation}
use Rattle.vd_model.specs.Acts.{Act, Queue, Fetched}
use Rattle.vd_model.specs.Memory.{Memory, read}
use Rattle.vd_model.specs.Queues.{fetches, in_hand}
use Rattle.vd_model.specs.Rings.{minus16, next16, number16, used_index_at, available_index_at, available_slot_at, available_event_at}
use Rattle.vd_model.specs.Trace.{Ending, whole, faulty, missing, trace_start, ending_of}
use Rattle.vd_model.specs.Turn.{Turn, refuse, refusal_if}
use Rattle.vd_model.specs.DaemonTurns.{Hand, hand, daemon_memory, queue_place, has_indirect, has_event_idx, read_or, readable_bytes, index_after, first_used, is_idle, fetch_from, fetch_turn}
use Rattle.vr_device.specs.Side.{Side}
use Rattle.vr_device.specs.Device.{next_by, pop_of, popped, resumed_at}
use Rattle.vr_device.specs.declared.error.PopError.TheVariants as pop
use Rattle.blk_daemon.specs.declared.error.FetchError.{FetchError}
use Rattle.blk_daemon.specs.declared.error.FetchError.TheVariants as fetch
use Rattle.blk_daemon.specs.Held.{Held, InHand, hand_with}
use Rattle.blk_daemon.specs.Fetched.{request_by, with_bytes, where_read, where_told, then_told, hand_at, with_hand, fetched_at, side_or, unless_busy, fetched_of}
use Rattle.vd_queue_sides.specs.Daemon.{PositionStands, IsAt}
use Rattle.vd_queue_sides.proofs.Daemons.{first_is, first_loads, fetch_begins, fetch_goes_on, fetch_holds, hand_is}
use Rattle.vd_daemon_lines.specs.Stands.{DaemonStands}
use Rattle.vd_daemon_lines.proofs.FetchTurns.{failed_turn, hand_turn, turn_by, from_is}

-- ---- what was read for a request that is fetched

record Read (m : Memory) (place : RingPlace) (event_idx : Bool) (chain : Chain) (h : Hand) : Type 0 where
  bytes : List ℕ
  parts : readable_bytes m chain.parts ≡ Ok bytes
  is : hand_with chain bytes ≡ h
  told : event_idx ≡ true → IsOk (read m (available_event_at place) 2)

record Walked (m : Memory) (place : RingPlace) (event_idx : Bool) (e : Ending) (h : Hand) : Type 0 where
  chain : Chain
  is : e ≡ whole chain
  read : Read m place event_idx chain h

record Found (m : Memory) (indirect event_idx : Bool) (side : Side) (h : Hand) : Type 0 where
  head : ℕ
  slot : number16 m (available_slot_at side.place side.position) ≡ Ok head
  walked : Walked m side.place event_idx (ending_of (trace_start side.place head indirect) m) h

same_ok : {T E : Type 0} (a b : T) (r : Result T E) → r ≡ Ok a → r ≡ Ok b → a ≡ b
same_ok a b r e f = cc

module _ (m : Memory) (indirect event_idx : Bool) (side : Side) (h : Hand) where
  abbrev then_told_here : Result Hand FetchError → Result Hand FetchError
  then_told_here r = then_told m side.place event_idx r

  where_was : (k : Hand) (r : Result (List ℕ) ℕ) → where_read r k ≡ Ok h → IsOk r × (k ≡ h)
  where_was k (Ok bytes) e = (refl, same_ok k h (Ok k) refl e)
  where_was k (Err at) e = absurd (cc)

  told_was : (k : Hand) (t : Bool) → where_told m side.place t k ≡ Ok h → (t ≡ true → IsOk (read m (available_event_at side.place) 2)) × (k ≡ h)
  told_was k true e = let w = where_was k (read m (available_event_at side.place) 2) e in (λ t. w.0, w.1)
  told_was k false e = (λ t. absurd (cc), same_ok k h (Ok k) refl e)

  bytes_were : (chain : Chain) (r : Result (List ℕ) ℕ) → readable_bytes m chain.parts ≡ r → then_told_here (with_bytes chain r) ≡ Ok h → Read m side.place event_idx chain h
  bytes_were chain (Ok bytes) is e = let w = told_was (hand_with chain bytes) event_idx e in record { bytes = bytes; parts = is; is = w.1; told = w.0 }
  bytes_were chain (Err at) is e = absurd (cc)

  shape_was : (chain : Chain) (t : Bool)
      → then_told_here (if t then Err (fetch.Shape chain.readable chain.writable) else with_bytes chain (readable_bytes m chain.parts)) ≡ Ok h → Read m side.place event_idx chain h
  shape_was chain true e = absurd (cc)
  shape_was chain false e = bytes_were chain (readable_bytes m chain.parts) refl e

  ending_was : (e : Ending) → then_told_here (request_by m (popped e)) ≡ Ok h → Walked m side.place event_idx e h
  ending_was (whole chain) e = record { chain = chain; is = refl; read = shape_was chain (nat_lt chain.readable 16 || (chain.writable == 0)) e }
  ending_was (faulty fault) e = absurd (cc)
  ending_was (missing at) e = absurd (cc)

  slot_was : (r : Result ℕ ℕ) → number16 m (available_slot_at side.place side.position) ≡ r → then_told_here (request_by m (pop_of m side.place indirect r)) ≡ Ok h
      → Found m indirect event_idx side h
  slot_was (Ok head) is e = record { head = head; slot = is; walked = ending_was (ending_of (trace_start side.place head indirect) m) e }
  slot_was (Err at) is e = absurd (cc)

  next_was : (found : ℕ) (t u : Bool)
      → then_told_here (request_by m (if t then Ok None else if u then Err (pop.Ahead found side.position) else pop_of m side.place indirect (number16 m (available_slot_at side.place side.position)))) ≡ Ok h
      → Found m indirect event_idx side h
  next_was found true u e = absurd (cc)
  next_was found false true e = absurd (cc)
  next_was found false false e = slot_was (number16 m (available_slot_at side.place side.position)) refl e

  index_was : (r : Result ℕ ℕ) → then_told_here (request_by m (next_by m side indirect r)) ≡ Ok h → Found m indirect event_idx side h
  index_was (Ok found) e = next_was found (found == side.position) (nat_lt side.place.size (minus16 found side.position)) e
  index_was (Err at) e = absurd (cc)

  found_for : hand_at m indirect event_idx side ≡ Ok h → Found m indirect event_idx side h
  found_for e = index_was (number16 m (available_index_at side.place)) e

-- ---- what is taken

-- the turn is that of this request at this position; it is in hand, and the position moved on by one
pub record Takes (x : Setting) (acts : List Act) (q : ℕ) (turn : Turn Act) (new : Held) : Type 0 where
  pub side : Side
  pub hand : Hand
  pub turn_is : turn ≡ hand_turn acts q side.place side.position hand
  pub moved : new.side ≡ Some (record side { position = next16 side.position })
  pub request : new.request ≡ Some (record { hand = hand; outcome = None })
  pub told : has_event_idx acts ≡ true → IsOk (read (daemon_memory x acts) (available_event_at side.place) 2)
  pub stands : DaemonStands x (Queue (Fetched q) ∷ acts) q new

abbrev pub Serves : Setting → List Act → ℕ → Turn Act → Result Held FetchError → Type 0
Serves x acts q turn (Ok new) = Takes x acts q turn new
Serves x acts q turn (Err e) = turn ≡ failed_turn e

module _ (x : Setting) (acts : List Act) (q : ℕ) (held : Held) where
  abbrev m : Memory
  m = daemon_memory x acts

  abbrev place : RingPlace
  place = queue_place acts q

  -- the request at a position
  at_side : (side : Side) (used : ℕ) → side.place ≡ place → side.position ≡ index_after (fetches acts q) used → first_used x acts q ≡ Ok used
      → PositionStands x (Queue (Fetched q) ∷ acts) q (Some (record side { position = next16 side.position }))
      → (r : Result Hand FetchError) → hand_at m (has_indirect acts) (has_event_idx acts) side ≡ r → Serves x acts q (turn_by x acts q side r) (with_hand held side r)
  at_side side used here position first stands (Err e) is = refl
  at_side side used here position first stands (Ok h) is =
      let f = found_for m (has_indirect acts) (has_event_idx acts) side h is in
      let chain = f.walked.chain in
      let slot : number16 m (available_slot_at place (index_after (fetches acts q) used)) ≡ Ok f.head =
      sym (λ i. number16 m (available_slot_at (here i) (position i))) ∙ f.slot in
      let ending : ending_of (trace_start place f.head (has_indirect acts)) m ≡ whole chain =
      ap (λ (p : RingPlace). ending_of (trace_start p f.head (has_indirect acts)) m) (sym here) ∙ f.walked.is in
      record {
        side = side;
        hand = h;
        turn_is = refl;
        moved = refl;
        request = refl;
        told = f.walked.read.told;
        stands = record {
          ended = None;
          sides = record {
            at = stands;
            held = fetch_holds x acts q h (hand_is x acts q used f.head chain f.walked.read.bytes first slot ending f.walked.read.parts ∙ f.walked.read.is);
          };
          outcome = refl;
        };
      }

  abbrev turn_from : Result ℕ ℕ → Turn Act
  turn_from first = read_or first (λ used. fetch_from x acts q place (index_after (fetches acts q) used))

  at_kept : (side : Side) → IsAt x acts q side → Serves x acts q (turn_from (first_used x acts q)) (with_hand held side (hand_at m (has_indirect acts) (has_event_idx acts) side))
  at_kept side s =
      let first = first_is x acts q side s in
      let turn : turn_from (first_used x acts q) ≡ turn_by x acts q side (hand_at m (has_indirect acts) (has_event_idx acts) side) =
      ap turn_from first ∙ (λ i. fetch_from x acts q (sym s.place i) (sym s.position i)) ∙ from_is x acts q side in
      subst (λ (t : Turn Act). Serves x acts q t (with_hand held side (hand_at m (has_indirect acts) (has_event_idx acts) side))) (sym turn)
      (at_side side s.from s.place s.position first (fetch_goes_on x acts q side s) (hand_at m (has_indirect acts) (has_event_idx acts) side) refl)

  -- the ring is taken up where its used index stands
  at_loaded : PositionStands x acts q None → (r : Result ℕ ℕ) → number16 m (used_index_at place) ≡ r → IfOk r (λ used. used < 65536)
      → Serves x acts q (turn_from r) (fetched_at m (has_indirect acts) (has_event_idx acts) held (resumed_at place r))
  at_loaded s (Err at) is small = refl
  at_loaded s (Ok from) is small =
      let side : Side = record { place = place; position = from; used = from } in
      let first : first_used x acts q ≡ Ok from = first_loads x acts q s.0 ∙ is in
      let low : from < 65536 = small in
      let same : from ≡ from % 65536 = omega arith in
      let start : from ≡ index_after 0 from = omega arith in
      let position : from ≡ index_after (fetches acts q) from = start ∙ ap (λ n. index_after n from) (sym s.1) in
      let turn : turn_from (Ok from) ≡ turn_by x acts q side (hand_at m (has_indirect acts) (has_event_idx acts) side) =
      ap (λ n. fetch_from x acts q place n) (sym position) ∙ from_is x acts q side in
      subst (λ (t : Turn Act). Serves x acts q t (with_hand held side (hand_at m (has_indirect acts) (has_event_idx acts) side))) (sym turn)
      (at_side side from refl position first (fetch_begins x acts q from s is same) (hand_at m (has_indirect acts) (has_event_idx acts) side) refl)

  by_side : (side : Option Side) → PositionStands x acts q side → (side ≡ None → IfOk (number16 m (used_index_at place)) (λ used. used < 65536))
      → Serves x acts q (turn_from (first_used x acts q)) (fetched_at m (has_indirect acts) (has_event_idx acts) held (side_or m place side))
  by_side (Some side) s small = at_kept side s
  by_side None s small =
      subst (λ r. Serves x acts q (turn_from r) (fetched_at m (has_indirect acts) (has_event_idx acts) held (resumed_at place (number16 m (used_index_at place))))) (sym (first_loads x acts q s.0))
      (at_loaded s (number16 m (used_index_at place)) refl (small refl))

  by_request : (request : Option InHand) (fetched : Option (List Act)) → option_map (λ r. r.hand) request ≡ option_map (λ earlier. hand x earlier q) fetched
      → (side : Option Side) → PositionStands x acts q side → (request ≡ None → side ≡ None → IfOk (number16 m (used_index_at place)) (λ used. used < 65536))
      → Serves x acts q (refuse (refusal_if (is_some fetched) errno.Busy) (turn_from (first_used x acts q))) (unless_busy request (fetched_at m (has_indirect acts) (has_event_idx acts) held (side_or m place side)))
  by_request None None h side s small = by_side side s (small refl)
  by_request None (Some earlier) h side s small = absurd (cc)
  by_request (Some r) None h side s small = absurd (cc)
  by_request (Some r) (Some earlier) h side s small = refl

  pub fetches_so : (made : Creation) → DaemonStands x acts q held → is_idle made acts q ≡ false
      → (held.request ≡ None → held.side ≡ None → IfOk (number16 (daemon_memory x acts) (used_index_at (queue_place acts q))) (λ used. used < 65536))
      → Serves x acts q (fetch_turn x made acts q) (fetched_of (daemon_memory x acts) (queue_place acts q) (has_indirect acts) (has_event_idx acts) held)
  fetches_so made s here small =
      subst (λ (t : Turn Act). Serves x acts q t (fetched_of (daemon_memory x acts) (queue_place acts q) (has_indirect acts) (has_event_idx acts) held))
      (ap (λ t. refuse (refusal_if t errno.Inval) (refuse (refusal_if (is_some (in_hand acts q)) errno.Busy) (turn_from (first_used x acts q)))) (sym here))
      (by_request held.request (in_hand acts q) s.sides.held.request held.side s.sides.at small)
