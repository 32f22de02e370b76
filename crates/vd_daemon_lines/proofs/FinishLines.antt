-- The line of a finish, by what the daemon answers.
use Rattle.std.proofs.Common.{◌≡◌, ℕ, ◌%◌, ◌<◌, Bool, true, false, ◌==◌, if◌then◌else◌, refl, ap, sym, subst, ◌∙◌, arith, List, [], ◌∷◌, ◌++◌, Some, None, Option, Result, Ok, Err, true≢false}
use Rattle.std.specs.Prelude.{IsSome, IfSome, IfOk}
use Rattle.std.specs.Result.{OnOk, OnErr}
use Rattle.std.specs.Option.{option_map, option_map_or}
use Rattle.vd_num.specs.declared.errno.Errno.TheVariants.{Inval, Noent}
use Rattle.vd_pool.specs.Memory.{PoolMemory as Pool}
use Rattle.vd_model.specs.declared.answer.Answer.{Answer}
use Rattle.vd_model.specs.declared.answer.Answer.TheVariants as answer
use Rattle.vd_model.specs.declared.answer.Item.TheVariants.{Word, Number}
use Rattle.vd_model.specs.declared.answer.Tag.TheVariants as tag
use Rattle.vd_model.specs.Setting.{Setting}
use Rattle.vd_model.specs.Creation.{Creation}
use Rattle.vd_model.specs.Acts.{Act, Queue, Finished}
use Rattle.vd_model.specs.BusTurns.{is_missing}
use Rattle.vd_model.specs.Memory.{Memory}
use Rattle.vd_model.specs.Queues.{Execution, execution_of, in_hand, finishes}
use Rattle.vd_model.specs.Rings.{next16, number16, needs_event}
use Rattle.vd_model.specs.Turn.{Turn, refusal_turn, refuse, refusal_if, done_with}
use Rattle.vd_model.specs.DaemonTurns.{Hand, hand, daemon_memory, queue_place, has_event_idx, read_or, wants_interrupt, used_position, first_used, index_after, finish_hand, finished_turn, finish_puts, finish_turn}
use Rattle.vd_domain.specs.Held.{Held as Domain}
use Rattle.vd_domain.specs.Seen.{daemon_map}
use Rattle.vd_domain.specs.Stands.{Stands}
use Rattle.vd_domain.proofs.Beside.{leaves_domain}
use Rattle.vd_answers.specs.Tells.{Tells}
use Rattle.vd_answers.proofs.Telling.{tells_as}
use Rattle.vr_device.specs.Side.{Side}
use Rattle.vd_ring_memory.specs.Puts.{IsAfterPuts}
use Rattle.vd_ring_memory.proofs.Standing.{stands_as_daemon}
use Rattle.vd_ring_memory.proofs.Walks.{stays}
use Rattle.vd_queue_sides.specs.Daemon.{IsAt, PositionStands}
use Rattle.vd_queue_sides.proofs.Daemons.{first_is, finish_moves, finish_empties}
use Rattle.blk_daemon.specs.declared.error.FinishError.{FinishError}
use Rattle.blk_daemon.specs.declared.error.FinishError.TheVariants.{NoRequest, Bus}
use Rattle.blk_daemon.specs.declared.finish.Finished as shown
use Rattle.blk_daemon.specs.Held.{Held, InHand}
use Rattle.blk_daemon.specs.Finished.{first_missing, finished_memory, used_next, IsDone, Finishes, executed_in, finished_held, OnRequest}
use Rattle.vd_daemon_lines.specs.Stands.{DaemonStands, hand_in}
use Rattle.vd_daemon_lines.specs.After.{After}
use Rattle.vd_daemon_lines.specs.Finished.{finish_answer}
use Rattle.vd_daemon_lines.proofs.Leaving.{daemon_stays}
use Rattle.vd_daemon_lines.proofs.FinishTurns.{by_missing, field_is, tested, Decides, decides, one_if}
use Rattle.vd_daemon_lines.proofs.FinishPuts.{Leaves, leaves}

some_of : {T : Type 0} (a b : T) → Some a ≡ Some b → a ≡ b
some_of a b e = cc

-- ---- the turn, by what is in hand

module _ (x : Setting) (acts : List Act) (q : ℕ) where
  abbrev hand_turn : Hand → Option Execution → Turn Act
  hand_turn h executed = option_map_or (λ end. finish_hand x acts q (queue_place acts q) (used_position x acts q) h end) executed (refusal_turn Noent)

  abbrev turn_by : Option (List Act) → Option Execution → Turn Act
  turn_by fetched executed = option_map_or (λ earlier. hand_turn (hand x earlier q) executed) fetched (refusal_turn Noent)

  -- nothing in hand that was executed
  idle_by : (request : Option InHand) (ended executed : Option Execution) (fetched : Option (List Act))
      → option_map (λ r. r.hand) request ≡ option_map (λ earlier. hand x earlier q) fetched → ended ≡ executed → IfSome request (λ r. r.outcome ≡ ended)
      → executed_in request ≡ None → turn_by fetched executed ≡ refusal_turn Noent
  idle_by None ended executed None h e o t = refl
  idle_by None ended executed (Some earlier) h e o t = absurd (cc)
  idle_by (Some r) ended executed None h e o t = absurd (cc)
  idle_by (Some r) ended executed (Some earlier) h e o t = ap (hand_turn (hand x earlier q)) (sym e ∙ sym o ∙ t)

  -- a request that was executed
  hand_by : (r : InHand) (end : Execution) (ended executed : Option Execution) (fetched : Option (List Act))
      → Some r.hand ≡ option_map (λ earlier. hand x earlier q) fetched → ended ≡ executed → r.outcome ≡ ended → r.outcome ≡ Some end
      → turn_by fetched executed ≡ finish_hand x acts q (queue_place acts q) (used_position x acts q) r.hand end
  hand_by r end ended executed None h e o t = absurd (cc)
  hand_by r end ended executed (Some earlier) h e o t =
      ap (hand_turn (hand x earlier q)) (sym e ∙ sym o ∙ t)
      ∙ ap (λ k. finish_hand x acts q (queue_place acts q) (used_position x acts q) k end) (sym (some_of r.hand (hand x earlier q) h))

  used_is : (side : Side) (s : IsAt x acts q side) → used_position x acts q ≡ side.used
  used_is side s = by (first_is x acts q side s) ∙ sym s.used where
    by : first_used x acts q ≡ Ok s.from → used_position x acts q ≡ index_after (finishes acts q) s.from
    by first = rw first refl

-- ---- the line

module _ (x : Setting) (made : Creation) (acts : List Act) (q : ℕ) (h k : Domain) (m n : Pool) (old new : Held) (s : Stands x acts h m) (d : DaemonStands x acts q old) (after : IsAfterPuts h m k n)
    (before : (x : Setting) (acts : List Act) → Stands x acts h m → daemon_map h m ≡ daemon_memory x acts)
    (later : (x : Setting) (acts : List Act) → Stands x acts k n → daemon_map k n ≡ daemon_memory x acts)
    (there : is_missing made q ≡ false) (heard : Answer → Type 0) where
  -- nothing is done
  unchanged : daemon_map k n ≡ daemon_map h m → new ≡ old → After x acts q k n new []
  unchanged told same = record { domain = stays x acts h k m n s after told before later; daemon = subst (DaemonStands x acts q) (sym same) d }

  turn_is : finish_turn x made acts q ≡ turn_by x acts q (in_hand acts q) (execution_of acts q)
  turn_is = ap (λ t. refuse (refusal_if t Inval) (turn_by x acts q (in_hand acts q) (execution_of acts q))) there

  idle : executed_in old.request ≡ None → daemon_map k n ≡ daemon_map h m → new ≡ old → heard (answer.Err Noent) → Tells heard (finish_turn x made acts q) (After x acts q k n new)
  idle none told same said =
      tells_as (turn_is ∙ idle_by x acts q old.request d.ended (execution_of acts q) (in_hand acts q) d.sides.held.request d.sides.held.outcome d.outcome none)
      (record { says = said; stands = unchanged told same })

  -- a request that was executed, at its position
  module _ (side : Side) (r : InHand) (end : Execution) (flag : Bool) (events : flag ≡ has_event_idx acts) (is : old.request ≡ Some r) (outcome : r.outcome ≡ Some end) (sided : old.side ≡ Some side) where
    at : IsAt x acts q side
    at = subst (PositionStands x acts q) sided d.sides.at

    abbrev puts : List Act
    puts = finish_puts side.place side.used r.hand end

    turn_at : finish_turn x made acts q ≡ finish_hand x acts q side.place side.used r.hand end
    turn_at =
        turn_is
        ∙ hand_by x acts q r end d.ended (execution_of acts q) (in_hand acts q)
        (ap (λ o. option_map (λ (r : InHand). r.hand) o) (sym is) ∙ d.sides.held.request) d.sides.held.outcome
        (subst (λ (o : Option InHand). IfSome o (λ r. r.outcome ≡ d.ended)) is d.outcome) outcome
        ∙ (λ i. finish_hand x acts q (sym at.place i) (used_is x acts q side at i) r.hand end)

    missing_is : (o : Option ℕ) → first_missing (daemon_map h m) side flag r.hand.parts ≡ o
        → finish_turn x made acts q ≡ by_missing o (finished_turn x acts q side.place side.used r.hand puts)
    missing_is o e =
        turn_at ∙ tested x acts q side r.hand end
        ∙ ap (λ o. by_missing o (finished_turn x acts q side.place side.used r.hand puts))
        ((λ i. first_missing (sym (before x acts s) i) side (sym events i) r.hand.parts) ∙ e)

    -- an address can't be accessed
    fails : (a : ℕ) → first_missing (daemon_map h m) side flag r.hand.parts ≡ Some a → daemon_map k n ≡ daemon_map h m → new ≡ old → heard (answer.Bus a) → Tells heard (finish_turn x made acts q) (After x acts q k n new)
    fails a e told same said = tells_as (missing_is (Some a) e) (record { says = said; stands = unchanged told same })

    -- it is done
    module _ (f : shown.Finished) (done : IsDone (daemon_map h m) side flag r.hand end f (Some (daemon_map k n))) where
      stored : Leaves x acts q puts (finished_memory (daemon_memory x acts) side r.hand end)
      stored = leaves x acts q side (has_event_idx acts) r.hand end ((λ i. first_missing (sym (before x acts s) i) side (sym events i) r.hand.parts) ∙ done.tested)

      seen_is : daemon_map k n ≡ daemon_memory x (puts ++ acts)
      seen_is =
          some_of (daemon_map k n) (finished_memory (daemon_map h m) side r.hand end) done.stored
          ∙ ap (λ (m : Memory). finished_memory m side r.hand end) (before x acts s) ∙ sym stored.same

      small : side.used < 65536
      small = subst (λ n. n < 65536) (sym at.used) (omega arith)

      decided : Decides (daemon_memory x (puts ++ acts)) side (has_event_idx acts) f.irq
      decided =
          subst (λ (map : Memory). Decides map side (has_event_idx acts) f.irq) (ap (λ (m : Memory). finished_memory m side r.hand end) (before x acts s) ∙ sym stored.same)
          (subst (λ t. Decides (finished_memory (daemon_map h m) side r.hand end) side t f.irq) events
          (decides (finished_memory (daemon_map h m) side r.hand end) side flag f.irq small done.irq))

      wants_by : (t : Bool) (field : ℕ) → has_event_idx acts ≡ t
          → (if t then (if needs_event field (next16 side.used) side.used then 1 else 0) else (if field % 2 == 0 then 1 else 0)) ≡ wants_interrupt acts side.used field
      wants_by t field e = ap (λ t. if t then (if needs_event field (next16 side.used) side.used then 1 else 0) else (if field % 2 == 0 then 1 else 0)) (sym e)

      irq_is : wants_interrupt acts side.used decided.field ≡ one_if f.irq
      irq_is = sym (wants_by (has_event_idx acts) decided.field refl) ∙ decided.wants

      turn_done : finish_turn x made acts q ≡ done_with (Word tag.Len ∷ Number r.hand.writable ∷ Word tag.Irq ∷ Number (one_if f.irq) ∷ []) (Queue (Finished q) ∷ puts)
      turn_done =
          missing_is None done.tested
          ∙ ap (λ (o : Result ℕ ℕ). read_or o (λ field. done_with (Word tag.Len ∷ Number r.hand.writable ∷ Word tag.Irq ∷ Number (wants_interrupt acts side.used field) ∷ []) (Queue (Finished q) ∷ puts)))
          (ap (number16 (daemon_memory x (puts ++ acts))) (field_is acts side.place) ∙ decided.is)
          ∙ ap (λ n. done_with (Word tag.Len ∷ Number r.hand.writable ∷ Word tag.Irq ∷ Number n ∷ []) (Queue (Finished q) ∷ puts)) irq_is

      domain_after : Stands x (Queue (Finished q) ∷ puts ++ acts) k n
      domain_after =
          let p = after.after x acts s in
          leaves_domain x (puts ++ acts) k n
          (stands_as_daemon x acts puts p.puts stored.only p.only (sym seen_is ∙ later x (p.puts ++ acts) p.stands) k n p.stands)
          (Queue (Finished q)) refl

      daemon_after : DaemonStands x (Queue (Finished q) ∷ puts ++ acts) q (finished_held old)
      daemon_after =
          let e = daemon_stays x q puts acts old stored.none d in
          record {
            ended = e.ended;
            sides = record {
              at = subst (λ (o : Option Side). PositionStands x (Queue (Finished q) ∷ puts ++ acts) q (option_map used_next o)) (sym sided)
                  (finish_moves x (puts ++ acts) q side (subst (PositionStands x (puts ++ acts) q) sided e.sides.at));
              held = finish_empties x (puts ++ acts) q (hand_in old) e.ended e.sides.held;
            };
            outcome = tt;
          }

      finishes_so : f.len ≡ r.hand.writable → new ≡ finished_held old → heard (finish_answer (Ok f)) → Tells heard (finish_turn x made acts q) (After x acts q k n new)
      finishes_so len same said =
          tells_as turn_done (record {
            says = subst (λ n. heard (answer.Done (Word tag.Len ∷ Number n ∷ Word tag.Irq ∷ Number (one_if f.irq) ∷ []))) len said;
            stands = record { domain = domain_after; daemon = subst (DaemonStands x (Queue (Finished q) ∷ puts ++ acts) q) (sym same) daemon_after };
          })

  -- what the daemon answers
  pub record Given (flag : Bool) (ended : Result shown.Finished FinishError) : Type 0 where
    pub refused : executed_in old.request ≡ None → ended ≡ Err NoRequest
    pub untouched : ended ≡ Err NoRequest → daemon_map k n ≡ daemon_map h m
    pub finished : (side : Side) (hand : Hand) (end : Execution) → old.side ≡ Some side → old.request ≡ Some (record { hand = hand; outcome = Some end })
        → Finishes (daemon_map h m) side flag hand end ended (Some (daemon_map k n))
    pub len : IfOk ended (λ f. OnRequest old.request (λ h. f.len ≡ h.writable))
    pub done : OnOk ended (new ≡ finished_held old)
    pub stays : OnErr ended (new ≡ old)
    pub placed : IsSome old.request → IsSome old.side

  not_placed : (o : Option InHand) (r : InHand) → o ≡ Some r → (p : Option Side) → p ≡ None → (IsSome o → IsSome p) → ⊥
  not_placed None r e p f g = cc
  not_placed (Some k) r e None f g = absurd (true≢false (sym (g refl)))
  not_placed (Some k) r e (Some side) f g = cc

  stayed : (ended : Result shown.Finished FinishError) (e : FinishError) → ended ≡ Err e → OnErr ended (new ≡ old) → new ≡ old
  stayed (Ok f) e is s = absurd (cc)
  stayed (Err other) e is s = s

  none_done : (flag : Bool) (ended : Result shown.Finished FinishError) → Given flag ended → heard (finish_answer ended) → executed_in old.request ≡ None → Tells heard (finish_turn x made acts q) (After x acts q k n new)
  none_done flag ended g said none =
      let is = g.refused none in
      idle none (g.untouched is) (stayed ended NoRequest is g.stays) (subst (λ (e : Result shown.Finished FinishError). heard (finish_answer e)) is said)

  len_of : (o : Option InHand) (r : InHand) (f : shown.Finished) → o ≡ Some r → OnRequest o (λ h. f.len ≡ h.writable) → f.len ≡ r.hand.writable
  len_of None r f e l = absurd (cc)
  len_of (Some k) r f e l = l ∙ ap (λ (r : InHand). r.hand.writable) (some_of k r e)

  by_answer : (flag : Bool) → flag ≡ has_event_idx acts → (side : Side) (hand : Hand) (end : Execution) → old.side ≡ Some side → old.request ≡ Some (record { hand = hand; outcome = Some end })
      → (ended : Result shown.Finished FinishError) → Given flag ended → heard (finish_answer ended) → Tells heard (finish_turn x made acts q) (After x acts q k n new)
  by_answer flag events side hand end sided is (Ok f) g said =
      finishes_so side (record { hand = hand; outcome = Some end }) end flag events is refl sided f (g.finished side hand end sided is)
      (len_of old.request (record { hand = hand; outcome = Some end }) f is g.len) g.done said
  by_answer flag events side hand end sided is (Err (Bus a)) g said =
      let e = g.finished side hand end sided is in
      fails side (record { hand = hand; outcome = Some end }) end flag events is refl sided a e.0 (some_of (daemon_map k n) (daemon_map h m) e.1) g.stays said
  by_answer flag events side hand end sided is (Err NoRequest) g said = absurd (g.finished side hand end sided is)

  by_side : (flag : Bool) → flag ≡ has_event_idx acts → (hand : Hand) (end : Execution) → old.request ≡ Some (record { hand = hand; outcome = Some end }) → (side : Option Side) → old.side ≡ side
      → (ended : Result shown.Finished FinishError) → Given flag ended → heard (finish_answer ended) → Tells heard (finish_turn x made acts q) (After x acts q k n new)
  by_side flag events hand end is None sided ended g said = absurd (not_placed old.request _ is old.side sided g.placed)
  by_side flag events hand end is (Some side) sided ended g said = by_answer flag events side hand end sided is ended g said

  by_outcome : (flag : Bool) → flag ≡ has_event_idx acts → (hand : Hand) (outcome : Option Execution) → old.request ≡ Some (record { hand = hand; outcome = outcome })
      → (ended : Result shown.Finished FinishError) → Given flag ended → heard (finish_answer ended) → Tells heard (finish_turn x made acts q) (After x acts q k n new)
  by_outcome flag events hand None is ended g said = none_done flag ended g said (ap executed_in is)
  by_outcome flag events hand (Some end) is ended g said = by_side flag events hand end is old.side refl ended g said

  by_request : (flag : Bool) → flag ≡ has_event_idx acts → (request : Option InHand) → old.request ≡ request
      → (ended : Result shown.Finished FinishError) → Given flag ended → heard (finish_answer ended) → Tells heard (finish_turn x made acts q) (After x acts q k n new)
  by_request flag events None is ended g said = none_done flag ended g said (ap executed_in is)
  by_request flag events (Some r) is ended g said = by_outcome flag events r.hand r.outcome is ended g said

  pub finishes_as : (flag : Bool) → flag ≡ has_event_idx acts → (ended : Result shown.Finished FinishError) → Given flag ended → heard (finish_answer ended) → Tells heard (finish_turn x made acts q) (After x acts q k n new)
  finishes_as flag events ended g said = by_request flag events old.request refl ended g said

-- no such queue
pub missing_turn : (x : Setting) (made : Creation) (acts : List Act) (q : ℕ) → is_missing made q ≡ true → finish_turn x made acts q ≡ refusal_turn Inval
missing_turn x made acts q e = ap (λ t. refuse (refusal_if t Inval) (turn_by x acts q (in_hand acts q) (execution_of acts q))) e
