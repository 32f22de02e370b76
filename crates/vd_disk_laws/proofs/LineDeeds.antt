-- Which lines of a calm span finish and execute a queue's requests.
use Rattle.std.proofs.Common.{◌≡◌, ℕ, ◌+◌, ◌==◌, Bool, true, false, refl, subst, sym, Option, None, Some, is_some, Ok, Err, Result, List, [], ◌∷◌, ◌++◌, map, take, not, if◌then◌else◌, ◌⊎◌, inl, inr}
use Rattle.std.specs.List.{list_all}
use Rattle.std.specs.Option.{option_map_or}
use Rattle.std.proofs.lemmas.Bool.{and_parts}
use Rattle.vd_num.specs.declared.errno.Errno.{Errno}
use Rattle.vd_num.specs.declared.errno.Errno.TheVariants.{Badf, Inval, Nodev, Noent}
use Rattle.vd_model.specs.declared.parts.Part.{Part}
use Rattle.vd_model.specs.declared.answer.Item.{Item}
use Rattle.vd_model.specs.declared.answer.Answer.TheVariants.{Done}
use Rattle.vd_model.specs.declared.step.QueueStep.{QueueStep}
use Rattle.vd_model.specs.declared.step.QueueStep.TheVariants as queue
use Rattle.vd_model.specs.Setting.{Setting}
use Rattle.vd_model.specs.Creation.{Creation}
use Rattle.vd_model.specs.Acts.{Act, AddedChain, Request, Streaming, Queue, Fetched, Finished, Executed, Chain_reclaimed}
use Rattle.vd_model.specs.Live.{live_mappings, is_open, is_attached}
use Rattle.vd_model.specs.Memory.{Memory, read}
use Rattle.vd_model.specs.Rings.{number16, next16, used_element_at, used_index_at}
use Rattle.vd_model.specs.Turn.{Turn, refuse, refusal_turn, refusal_if}
use Rattle.vd_model.specs.BusTurns.{is_missing}
use Rattle.vd_model.specs.Queues.{Ring, chains_out, reclaimed_count, added_count, free_descriptors, in_hand, execution_of, Execution}
use Rattle.vd_model.specs.Block as block
use Rattle.vd_model.specs.DaemonTurns.{daemon_memory, queue_place, has_indirect, event_puts, fetch_turn, read_or, unwritable_or, deciding_field, finish_puts, finish_turn, used_position, hand, store_acts, execute_turn, execute_hand}
use Rattle.vd_model.specs.RingTurns.{AskedRequest, asked_by, first_of, slot_put, used_event_puts, request_end_acts, request_puts, parts_count, mapping_part, map_acts, buffer_acts, submitted_turn, needed_descriptors, ring_turn, submit_turn, poll_turn, completed_turn}
use Rattle.vd_model.specs.Deeds.{Seen}
use Rattle.vd_model.specs.History.{needs_session, needs_bus, disk_of, queue_turn}
use Rattle.vd_ring_laws.specs.Calm.{is_calm_queue_line}
use Rattle.vd_ring_laws.proofs.Drivers.{is_driver, are_driver, append_driver, maps_driver, buffers_driver, request_puts_driver, used_event_driver, ended_driver}
use Rattle.vd_ring_laws.proofs.Leaves.{fetch_is, finish_is, submit_is, poll_is, ring_is}
use Rattle.vd_ring_laws.proofs.Fair.{is_put, event_put, finish_put}
use Rattle.vd_ring_turns.proofs.Fetches.{refuse_with}
use Rattle.vd_order_laws.proofs.OtherLines.{is_off}

-- ---- acts that neither finish nor execute

abbrev pub IsOther : ℕ → Act → Type 0
IsOther q (Queue (Finished k)) = (k == q) ≡ false
IsOther q (Queue (Executed k status bytes)) = (k == q) ≡ false
IsOther q _ = Unit {0}

abbrev pub AreOther : ℕ → List Act → Type 0
AreOther q [] = Unit {0}
AreOther q (act ∷ acts) = IsOther q act × AreOther q acts

other_append : (q : ℕ) (xs ys : List Act) → AreOther q xs → AreOther q ys → AreOther q (xs ++ ys)
other_append q [] ys h k = k
other_append q (act ∷ xs) ys h k = (h.0, other_append q xs ys h.1 k)

off_other : (q : ℕ) (act : Act) → is_off act ≡ true → IsOther q act
off_other q (Queue act) e = cc
off_other q _ e = tt

pub offs_other : (q : ℕ) (acts : List Act) → list_all is_off acts ≡ true → AreOther q acts
offs_other q [] e = tt
offs_other q (act ∷ acts) e = let p = and_parts (is_off act) (list_all is_off acts) e in (off_other q act p.0, offs_other q acts p.1)

driver_other : (q : ℕ) (act : Act) → is_driver act ≡ true → IsOther q act
driver_other q (Queue act) e = cc
driver_other q _ e = tt

drivers_other : (q : ℕ) (acts : List Act) → are_driver acts ≡ true → AreOther q acts
drivers_other q [] e = tt
drivers_other q (act ∷ acts) e = let p = and_parts (is_driver act) (are_driver acts) e in (driver_other q act p.0, drivers_other q acts p.1)

put_other : (q : ℕ) (act : Act) → is_put act ≡ true → IsOther q act
put_other q (Queue act) e = cc
put_other q _ e = tt

pub puts_other : (q : ℕ) (acts : List Act) → list_all is_put acts ≡ true → AreOther q acts
puts_other q [] e = tt
puts_other q (act ∷ acts) e = let p = and_parts (is_put act) (list_all is_put acts) e in (put_other q act p.0, puts_other q acts p.1)

-- ---- an execute and a finish

-- a finish is refused, or pushes the request in hand, which was executed
pub data Finishes (x : Setting) (done : List Act) (q : ℕ) (turn : Turn Act) : Type 0 where
  unfinished : turn.acts ≡ [] → ((items : List Item) → turn.answer ≡ Done items → ⊥) → Finishes x done q turn
  finished : (earlier : List Act) → in_hand done q ≡ Some earlier → (end : Execution) → execution_of done q ≡ Some end
      → (puts : List Act) → list_all is_put puts ≡ true → turn.acts ≡ Queue (Finished q) ∷ puts → (items : List Item) → turn.answer ≡ Done items → Finishes x done q turn

-- an execute is refused, or does the request in hand on the disk
pub data Executes_as (x : Setting) (disk : block.Disk) (failed : Bool) (done : List Act) (q : ℕ) (turn : Turn Act) : Type 0 where
  unexecuted : turn.acts ≡ [] → ((items : List Item) → turn.answer ≡ Done items → ⊥) → Executes_as x disk failed done q turn
  executes : (earlier : List Act) → in_hand done q ≡ Some earlier → execution_of done q ≡ None → turn ≡ execute_hand disk failed q (hand x earlier q) → Executes_as x disk failed done q turn

module _ (x : Setting) (done : List Act) (q : ℕ) where
  finish_refuse : (o : Option Errno) (turn : Turn Act) → Finishes x done q turn → Finishes x done q (refuse o turn)
  finish_refuse None turn h = h
  finish_refuse (Some errno) turn h = unfinished refl (λ items e. cc)

  finish_read : {X : Type 0} (r : Result X ℕ) (turn : X → Turn Act) → ((y : X) → Finishes x done q (turn y)) → Finishes x done q (read_or r turn)
  finish_read (Ok y) turn h = h y
  finish_read (Err at) turn h = unfinished refl (λ items e. cc)

  finish_unwritable : (m : Memory) (parts : List Part) (turn : Turn Act) → Finishes x done q turn → Finishes x done q (unwritable_or m parts turn)
  finish_unwritable m [] turn h = h
  finish_unwritable m (part ∷ parts) turn h = by part.writable (finish_unwritable m parts turn h) where
    by : (b : Bool) → Finishes x done q (unwritable_or m parts turn) → Finishes x done q (if b then read_or (read m part.at part.len) (λ bytes. unwritable_or m parts turn) else unwritable_or m parts turn)
    by true rest = finish_read (read m part.at part.len) (λ bytes. unwritable_or m parts turn) (λ bytes. rest)
    by false rest = rest

  finish_option : {X : Type 0} (turn : X → Turn Act) (o : Option X) → ((y : X) → o ≡ Some y → Finishes x done q (turn y)) → Finishes x done q (option_map_or turn o (refusal_turn Noent))
  finish_option turn None h = unfinished refl (λ items e. cc)
  finish_option turn (Some y) h = h y refl

  pub finish_does : (made : Creation) → Finishes x done q (finish_turn x made done q)
  finish_does made =
      finish_refuse (refusal_if (is_missing made q) Inval) _
      (finish_option _ (in_hand done q) (λ earlier f.
      finish_option _ (execution_of done q) (λ end g.
      let place = queue_place done q in
      let used = used_position x done q in
      let h = hand x earlier q in
      let puts = finish_puts place used h end in
      finish_unwritable (daemon_memory x done) h.parts _
      (finish_read (read (daemon_memory x done) (used_element_at place used) 8) _ (λ element.
      finish_read (read (daemon_memory x done) (used_index_at place) 2) _ (λ index.
      finish_read (read (daemon_memory x done) (deciding_field done place) 2) _ (λ field.
      finish_read (number16 (daemon_memory x (puts ++ done)) (deciding_field done place)) _ (λ value.
      finished earlier f end g puts (finish_put place used h end) refl _ refl))))))))

  execute_refuse : (disk : block.Disk) (failed : Bool) (o : Option Errno) (turn : Turn Act) → (o ≡ None → Executes_as x disk failed done q turn) → Executes_as x disk failed done q (refuse o turn)
  execute_refuse disk failed None turn h = h refl
  execute_refuse disk failed (Some errno) turn h = unexecuted refl (λ items e. cc)

  none_by : {X : Type 0} (o : Option X) → refusal_if (is_some o) Noent ≡ None → o ≡ None
  none_by None e = refl
  none_by (Some y) e = cc

  pub execute_does : (made : Creation) (disk : block.Disk) (failed : Bool) → Executes_as x disk failed done q (execute_turn x made disk failed done q)
  execute_does made disk failed =
      execute_refuse disk failed (refusal_if (is_missing made q) Inval) _ (λ e.
      execute_refuse disk failed (refusal_if (is_some (execution_of done q)) Noent) _ (λ f. by (in_hand done q) refl (none_by (execution_of done q) f))) where
        by : (o : Option (List Act)) → in_hand done q ≡ o → execution_of done q ≡ None → Executes_as x disk failed done q (option_map_or (λ earlier. execute_hand disk failed q (hand x earlier q)) o (refusal_turn Noent))
        by None e f = unexecuted refl (λ items e. cc)
        by (Some earlier) e f = executes earlier e f refl

-- ---- the other lines

module _ (x : Setting) (made : Creation) (name : List ℕ) (s : Seen) (failed : Bool) (q : ℕ) where
  session_other : (turn : Turn Act) → AreOther q turn.acts → AreOther q (needs_session s.acts turn).acts
  session_other turn h = refuse_with (AreOther q) tt (not (is_open s.acts)) Badf turn (λ e. h)

  bus_other : (turn : Turn Act) → AreOther q turn.acts → AreOther q (needs_bus s.acts turn).acts
  bus_other turn h = refuse_with (AreOther q) tt (not (is_attached s.acts)) Nodev turn (λ e. h)

  submitted_other : (k : ℕ) (r : Ring) (indirect : Bool) (a : AskedRequest) (ms : List Streaming) (ds : List ℕ) → AreOther q (submitted_turn x s.acts k r indirect a ms ds).acts
  submitted_other k r indirect a ms ds =
      let parts = map mapping_part (take (parts_count a) ms) in
      let puts = slot_put r.place (added_count s.acts k) (first_of ds) ∷ request_puts indirect r.place a ms parts ds ++ map_acts ms ++ buffer_acts indirect a parts in
      let are : are_driver puts ≡ true =
      append_driver (request_puts indirect r.place a ms parts ds ++ map_acts ms) (buffer_acts indirect a parts)
      (append_driver (request_puts indirect r.place a ms parts ds) (map_acts ms) (request_puts_driver indirect r.place a ms parts ds) (maps_driver ms))
      (buffers_driver indirect a parts) in
      (tt, (tt, (tt, drivers_other q puts are)))

  completed_other : (acts : List Act) (chain : AddedChain) (len : ℕ) → AreOther q acts → AreOther q (completed_turn x s.acts acts chain len).acts
  completed_other acts chain len h = by chain.request where
    by : (o : Option Request) → AreOther q (completed_turn x s.acts acts (record { head = chain.head; descriptors = chain.descriptors; request = o }) len).acts
    by None = h
    by (Some r) = other_append q (request_end_acts (live_mappings s.acts) r) acts (drivers_other q (request_end_acts (live_mappings s.acts) r) (ended_driver (live_mappings s.acts) r)) h

  stored_other : (b : block.Block) (result : block.RequestResult) → AreOther q (store_acts b result)
  stored_other b result = by result.stores where
    by : (c : Bool) → AreOther q (store_acts b (record { status = result.status; bytes = result.bytes; stores = c }))
    by true = (tt, tt)
    by false = tt

  execute_other : (k : ℕ) → (k == q) ≡ false → AreOther q (execute_turn x made (disk_of made name s) failed s.acts k).acts
  execute_other k e = by (execute_turn x made (disk_of made name s) failed s.acts k) (execute_does x s.acts k made (disk_of made name s) failed) where
    by : (turn : Turn Act) → Executes_as x (disk_of made name s) failed s.acts k turn → AreOther q turn.acts
    by turn (unexecuted f g) = subst (AreOther q) (sym f) tt
    by turn (executes earlier f g h) =
        let b = block.block_of (hand x earlier k).bytes (hand x earlier k).writable in
        let result = block.result_of (disk_of made name s) b failed in
        subst (λ (t : Turn Act). AreOther q t.acts) (sym h) (other_append q (store_acts b result) (Queue (Executed k result.status result.bytes) ∷ []) (stored_other b result) (e, tt))

  pub queue_other : (step : QueueStep) → is_calm_queue_line step ≡ true → ((k : ℕ) → (step ≡ queue.Finish k) ⊎ (step ≡ queue.Execute k) → (k == q) ≡ false) → AreOther q (queue_turn x made name s failed step).acts
  queue_other (queue.Fetch k) e h = session_other (fetch_turn x made s.acts k) (fetch_is (AreOther q) tt x made s.acts k (λ none ready place position chain bytes.
      other_append q (event_puts s.acts place (next16 position)) (Queue (Fetched k) ∷ []) (puts_other q (event_puts s.acts place (next16 position)) (event_put s.acts place (next16 position))) (tt, tt)))
  queue_other (queue.Execute k) e h = session_other (execute_turn x made (disk_of made name s) failed s.acts k) (execute_other k (h k (inr refl)))
  queue_other (queue.Finish k) e h = session_other (finish_turn x made s.acts k) (finish_is (AreOther q) tt x made s.acts k (λ earlier f end g.
      (h k (inl refl), puts_other q (finish_puts (queue_place s.acts k) (used_position x s.acts k) (hand x earlier k) end) (finish_put (queue_place s.acts k) (used_position x s.acts k) (hand x earlier k) end))))
  queue_other (queue.Ring k size) e h = bus_other (ring_turn x made s.acts k size) (ring_is (AreOther q) tt x made s.acts k size (λ slot. (tt, (tt, tt))))
  queue_other (queue.Submit k asked) e h = bus_other (submit_turn x made s.acts k asked) (submit_is (AreOther q) tt x made s.acts k asked (λ r f full ms.
      submitted_other k r (has_indirect s.acts) (asked_by asked) ms (take (needed_descriptors (has_indirect s.acts) (asked_by asked)) (free_descriptors r.place.size (chains_out s.acts k)))))
  queue_other (queue.Poll k) e h = bus_other (poll_turn x made s.acts k) (poll_is (AreOther q) tt x made s.acts k (λ r chain f len.
      completed_other (Queue (Chain_reclaimed k chain.head) ∷ used_event_puts s.acts r (reclaimed_count s.acts k + 1)) chain len
      (tt, drivers_other q (used_event_puts s.acts r (reclaimed_count s.acts k + 1)) (used_event_driver s.acts r (reclaimed_count s.acts k + 1)))))
  queue_other _ e h = cc
