-- The chain of a submit stays out until a poll reports it.
use Rattle.std.proofs.Common.{◌≡◌, ℕ, ◌+◌, Bool, true, false, refl, ap, subst, ◌∙◌, sym, Option, None, Some, List, [], ◌∷◌, ◌++◌, map, take, not, if◌then◌else◌}
use Rattle.std.specs.Str.{bytes_eq}
use Rattle.std.specs.List.{list_all}
use Rattle.std.specs.Option.{option_map_or}
use Rattle.std.proofs.lemmas.Bool.{and_parts}
use Rattle.vd_num.specs.declared.errno.Errno.{Errno}
use Rattle.vd_num.specs.declared.errno.Errno.TheVariants.{Nodev, Badf}
use Rattle.vd_model.specs.declared.step.Step.{Step}
use Rattle.vd_model.specs.declared.step.Step.TheVariants.{Control, Device}
use Rattle.vd_model.specs.declared.step.Step.TheVariants as step_of
use Rattle.vd_model.specs.declared.step.QueueStep.{QueueStep}
use Rattle.vd_model.specs.declared.step.QueueStep.TheVariants as queue
use Rattle.vd_model.specs.declared.answer.Item.{Item}
use Rattle.vd_model.specs.declared.answer.Item.TheVariants.{Word, Number}
use Rattle.vd_model.specs.declared.answer.Tag.TheVariants as tag
use Rattle.vd_model.specs.declared.answer.Answer.TheVariants.{Done}
use Rattle.vd_model.specs.Setting.{Setting}
use Rattle.vd_model.specs.Creation.{Creation}
use Rattle.vd_model.specs.Acts.{Act, AddedChain, Request, Streaming, Queue, Fetched, Chain_reclaimed}
use Rattle.vd_model.specs.Live.{live_mappings, is_open, is_attached}
use Rattle.vd_model.specs.Rings.{next16}
use Rattle.vd_model.specs.Turn.{Turn, refuse, refusal_turn, refusal_if}
use Rattle.vd_model.specs.Queues.{Ring, ring_of, chains_out, reclaimed_count, added_count, free_descriptors}
use Rattle.vd_model.specs.DaemonTurns.{queue_place, has_indirect, event_puts, fetch_turn, finish_puts, finish_turn, used_position, hand, execute_turn}
use Rattle.vd_model.specs.RingTurns.{AskedRequest, asked_by, first_of, slot_put, used_event_puts, request_end_acts, request_puts, parts_count, mapping_part, map_acts, buffer_acts, submitted_turn, needed_descriptors, ring_turn, submit_turn, poll_turn, completed_turn}
use Rattle.vd_model.specs.Deeds.{On, Seen, device_view, acts_of_device}
use Rattle.vd_model.specs.History.{Entry, History, deeds_of, reply, needs_session, needs_bus, disk_of, queue_turn, device_turn, device_queue_turn}
use Rattle.vd_model.specs.Agree.{concerns}
use Rattle.vd_line_acts.proofs.Passing.{wider}
use Rattle.vd_laws.specs.Among.{Among}
use Rattle.vd_laws.specs.Runs.{acts_of}
use Rattle.vd_ring_laws.specs.Calm.{is_calm, is_calm_queue_line}
use Rattle.vd_laws.proofs.IsolationLaw.{name_is}
use Rattle.vd_laws.proofs.Turns.{acts_of_device_on}
use Rattle.vd_ring_laws.proofs.Drivers.{is_driver, are_driver, append_driver, maps_driver, buffers_driver, request_puts_driver, used_event_driver, ended_driver}
use Rattle.vd_ring_laws.proofs.Leaves.{fetch_is, finish_is, submit_is, ring_is}
use Rattle.vd_ring_laws.proofs.Fair.{is_put, event_put, finish_put}
use Rattle.vd_ring_laws.proofs.Mild.{is_mild, are_mild, execute_mild}
use Rattle.vd_ring_turns.proofs.Fetches.{refuse_with}
use Rattle.vd_order_laws.proofs.FreeRings.{AreFree, mild_free, queue_free, free_ring}
use Rattle.vd_order_laws.proofs.OtherLines.{is_off, device_off}
use Rattle.vd_disk_laws.proofs.PollReports.{IsUnreclaimed, AreUnreclaimed, stays_out, Polls_as, silent, reports, poll_does}
use Rattle.vd_order_laws.proofs.OrderLaw.{control_acts}

-- ---- lines that reclaim nothing

unreclaimed_append : (q head : ℕ) (xs ys : List Act) → AreUnreclaimed q head xs → AreUnreclaimed q head ys → AreUnreclaimed q head (xs ++ ys)
unreclaimed_append q head [] ys h k = k
unreclaimed_append q head (act ∷ xs) ys h k = (h.0, unreclaimed_append q head xs ys h.1 k)

mild_unreclaimed : (q head : ℕ) (act : Act) → is_mild act ≡ true → IsUnreclaimed q head act
mild_unreclaimed q head (Queue (Chain_reclaimed k h)) e = cc
mild_unreclaimed q head _ e = tt

milds_unreclaimed : (q head : ℕ) (acts : List Act) → are_mild acts ≡ true → AreUnreclaimed q head acts
milds_unreclaimed q head [] e = tt
milds_unreclaimed q head (act ∷ acts) e = let p = and_parts (is_mild act) (are_mild acts) e in (mild_unreclaimed q head act p.0, milds_unreclaimed q head acts p.1)

off_mild : (act : Act) → is_off act ≡ true → is_mild act ≡ true
off_mild (Queue act) e = cc
off_mild _ e = refl

offs_mild : (acts : List Act) → list_all is_off acts ≡ true → are_mild acts ≡ true
offs_mild acts e = wider is_off is_mild off_mild acts e

driver_unreclaimed : (q head : ℕ) (act : Act) → is_driver act ≡ true → IsUnreclaimed q head act
driver_unreclaimed q head (Queue act) e = cc
driver_unreclaimed q head _ e = tt

drivers_unreclaimed : (q head : ℕ) (acts : List Act) → are_driver acts ≡ true → AreUnreclaimed q head acts
drivers_unreclaimed q head [] e = tt
drivers_unreclaimed q head (act ∷ acts) e = let p = and_parts (is_driver act) (are_driver acts) e in (driver_unreclaimed q head act p.0, drivers_unreclaimed q head acts p.1)

put_unreclaimed : (q head : ℕ) (act : Act) → is_put act ≡ true → IsUnreclaimed q head act
put_unreclaimed q head (Queue act) e = cc
put_unreclaimed q head _ e = tt

puts_unreclaimed : (q head : ℕ) (acts : List Act) → list_all is_put acts ≡ true → AreUnreclaimed q head acts
puts_unreclaimed q head [] e = tt
puts_unreclaimed q head (act ∷ acts) e = let p = and_parts (is_put act) (list_all is_put acts) e in (put_unreclaimed q head act p.0, puts_unreclaimed q head acts p.1)

-- the answer reports this head
abbrev Tells : Turn Act → ℕ → Type 0
Tells turn head = (told : List Item) × (turn.answer ≡ Done (Word tag.Head ∷ Number head ∷ told))

module _ (x : Setting) (made : Creation) (name : List ℕ) (s : Seen) (failed : Bool) (q head : ℕ) where
  session_leaves : (turn : Turn Act) → AreUnreclaimed q head turn.acts → AreUnreclaimed q head (needs_session s.acts turn).acts
  session_leaves turn h = refuse_with (AreUnreclaimed q head) tt (not (is_open s.acts)) Badf turn (λ e. h)

  bus_leaves : (turn : Turn Act) → AreUnreclaimed q head turn.acts → AreUnreclaimed q head (needs_bus s.acts turn).acts
  bus_leaves turn h = refuse_with (AreUnreclaimed q head) tt (not (is_attached s.acts)) Nodev turn (λ e. h)

  submitted_leaves : (k : ℕ) (r : Ring) (indirect : Bool) (a : AskedRequest) (ms : List Streaming) (ds : List ℕ) → AreUnreclaimed q head (submitted_turn x s.acts k r indirect a ms ds).acts
  submitted_leaves k r indirect a ms ds =
      let parts = map mapping_part (take (parts_count a) ms) in
      let puts = slot_put r.place (added_count s.acts k) (first_of ds) ∷ request_puts indirect r.place a ms parts ds ++ map_acts ms ++ buffer_acts indirect a parts in
      let are : are_driver puts ≡ true =
      append_driver (request_puts indirect r.place a ms parts ds ++ map_acts ms) (buffer_acts indirect a parts)
      (append_driver (request_puts indirect r.place a ms parts ds) (map_acts ms) (request_puts_driver indirect r.place a ms parts ds) (maps_driver ms))
      (buffers_driver indirect a parts) in
      (tt, (tt, (tt, drivers_unreclaimed q head puts are)))

  completed_leaves : (acts : List Act) (chain : AddedChain) (len : ℕ) → AreUnreclaimed q head acts → AreUnreclaimed q head (completed_turn x s.acts acts chain len).acts × Tells (completed_turn x s.acts acts chain len) chain.head
  completed_leaves acts chain len h = by chain.request where
    by : (o : Option Request) → AreUnreclaimed q head (completed_turn x s.acts acts (record { head = chain.head; descriptors = chain.descriptors; request = o }) len).acts × Tells (completed_turn x s.acts acts (record { head = chain.head; descriptors = chain.descriptors; request = o }) len) chain.head
    by None = (h, (_, refl))
    by (Some r) = (unreclaimed_append q head (request_end_acts (live_mappings s.acts) r) acts (drivers_unreclaimed q head (request_end_acts (live_mappings s.acts) r) (ended_driver (live_mappings s.acts) r)) h, (_, refl))

  abbrev Leaves : Turn Act → Type 0
  Leaves turn = (Tells turn head → ⊥) → AreUnreclaimed q head turn.acts

  completed_tells : (acts : List Act) (chain : AddedChain) (len : ℕ) → Tells (completed_turn x s.acts acts chain len) chain.head
  completed_tells acts chain len = by chain.request where
    by : (o : Option Request) → Tells (completed_turn x s.acts acts (record { head = chain.head; descriptors = chain.descriptors; request = o }) len) chain.head
    by None = (_, refl)
    by (Some r) = (_, refl)

  poll_leaves : (k : ℕ) → (k ≡ q → Tells (poll_turn x made s.acts k) head → ⊥) → AreUnreclaimed q head (poll_turn x made s.acts k).acts
  poll_leaves k quiet = by (poll_turn x made s.acts k) (poll_does x made s.acts k) quiet where
    by : (turn : Turn Act) → Polls_as x s.acts k turn → (k ≡ q → Tells turn head → ⊥) → AreUnreclaimed q head turn.acts
    by turn (silent none no_answer) quiet = subst (AreUnreclaimed q head) (sym none) tt
    by turn (reports ring there new chain found is) quiet =
        let events = used_event_puts s.acts ring.place (reclaimed_count s.acts k + 1) in
        let acts = Queue (Chain_reclaimed k chain.head) ∷ events in
        let differs : (k ≡ q) → (chain.head ≡ head) → ⊥ = λ e f. quiet e (subst (λ t. Tells t head) (sym is) (subst (Tells (completed_turn x s.acts acts chain _)) f (completed_tells acts chain _))) in
        subst (λ (t : Turn Act). AreUnreclaimed q head t.acts) (sym is) ((completed_leaves acts chain _ (differs, drivers_unreclaimed q head events (used_event_driver s.acts ring.place (reclaimed_count s.acts k + 1)))).0)

  pub queue_leaves : (step : QueueStep) → is_calm_queue_line step ≡ true → (step ≡ queue.Poll q → Tells (queue_turn x made name s failed step) head → ⊥) → AreUnreclaimed q head (queue_turn x made name s failed step).acts
  queue_leaves (queue.Fetch k) e h = session_leaves (fetch_turn x made s.acts k) (fetch_is (AreUnreclaimed q head) tt x made s.acts k (λ none ready place position chain bytes.
      unreclaimed_append q head (event_puts s.acts place (next16 position)) (Queue (Fetched k) ∷ []) (puts_unreclaimed q head (event_puts s.acts place (next16 position)) (event_put s.acts place (next16 position))) (tt, tt)))
  queue_leaves (queue.Execute k) e h = session_leaves (execute_turn x made (disk_of made name s) failed s.acts k) (milds_unreclaimed q head (execute_turn x made (disk_of made name s) failed s.acts k).acts (execute_mild x made (disk_of made name s) failed s.acts k))
  queue_leaves (queue.Finish k) e h = session_leaves (finish_turn x made s.acts k) (finish_is (AreUnreclaimed q head) tt x made s.acts k (λ earlier f end g.
      (tt, puts_unreclaimed q head (finish_puts (queue_place s.acts k) (used_position x s.acts k) (hand x earlier k) end) (finish_put (queue_place s.acts k) (used_position x s.acts k) (hand x earlier k) end))))
  queue_leaves (queue.Ring k size) e h = bus_leaves (ring_turn x made s.acts k size) (ring_is (AreUnreclaimed q head) tt x made s.acts k size (λ slot. (tt, (tt, tt))))
  queue_leaves (queue.Submit k asked) e h = bus_leaves (submit_turn x made s.acts k asked) (submit_is (AreUnreclaimed q head) tt x made s.acts k asked (λ r f full ms.
      submitted_leaves k r (has_indirect s.acts) (asked_by asked) ms (take (needed_descriptors (has_indirect s.acts) (asked_by asked)) (free_descriptors r.place.size (chains_out s.acts k)))))
  queue_leaves (queue.Poll k) e h = by (refusal_if (not (is_attached s.acts)) Nodev) h where
    by : (o : Option Errno) → (queue.Poll k ≡ queue.Poll q → Tells (refuse o (poll_turn x made s.acts k)) head → ⊥) → AreUnreclaimed q head (refuse o (poll_turn x made s.acts k)).acts
    by None h = poll_leaves k (λ f. h (ap (λ k. queue.Poll k) f))
    by (Some errno) h = tt
  queue_leaves _ e h = cc

-- ---- one entry

module _ (x : Setting) (d : List ℕ) (q : ℕ) (g : History) (ring : Ring) (there : ring_of (acts_of x g d) q ≡ Some ring) (c : AddedChain) (is_out : Among c (chains_out (acts_of x g d) q)) where
  abbrev seen_now : Seen
  seen_now = device_view x d (deeds_of x g)

  pub record Stays (entry : Entry) : Type 0 where
    pub ring_stays : ring_of (acts_of x (entry ∷ g) d) q ≡ Some ring
    pub out_stays : Among c (chains_out (acts_of x (entry ∷ g) d) q)
    pub turn : List Act
    pub same : acts_of x (entry ∷ g) d ≡ turn ++ acts_of x g d

  stays_by : (entry : Entry) (turn : List Act) → acts_of x (entry ∷ g) d ≡ turn ++ acts_of x g d → AreFree q turn → AreUnreclaimed q c.head turn → Stays entry
  stays_by entry turn e f u = record {
    ring_stays = ap (λ l. ring_of l q) e ∙ (free_ring q turn (acts_of x g d) f ∙ there);
    out_stays = subst (λ l. Among c (chains_out l q)) (sym e) (stays_out q c turn (acts_of x g d) f u is_out);
    turn = turn;
    same = e;
  }

  mild_stays : (entry : Entry) (turn : List Act) → acts_of x (entry ∷ g) d ≡ turn ++ acts_of x g d → list_all is_off turn ≡ true → Stays entry
  mild_stays entry turn e off = stays_by entry turn e (mild_free q turn (offs_mild turn off)) (milds_unreclaimed q c.head turn (offs_mild turn off))

  line_free : (failed : Bool) (step : QueueStep) → is_calm_queue_line step ≡ true → AreFree q (device_queue_turn x d seen_now failed step).acts
  line_free failed step k = by seen_now.made where
    by : (o : Option Creation) → AreFree q (option_map_or (λ made. queue_turn x made d seen_now failed step) o (refusal_turn Nodev)).acts
    by None = tt
    by (Some made) = queue_free x made d seen_now failed q ring there step k

  line_leaves : (failed : Bool) (step : QueueStep) → is_calm_queue_line step ≡ true → (step ≡ queue.Poll q → Tells (device_queue_turn x d seen_now failed step) c.head → ⊥) → AreUnreclaimed q c.head (device_queue_turn x d seen_now failed step).acts
  line_leaves failed step k quiet = by seen_now.made quiet where
    by : (o : Option Creation) → (step ≡ queue.Poll q → Tells (option_map_or (λ made. queue_turn x made d seen_now failed step) o (refusal_turn Nodev)) c.head → ⊥) → AreUnreclaimed q c.head (option_map_or (λ made. queue_turn x made d seen_now failed step) o (refusal_turn Nodev)).acts
    by None quiet = tt
    by (Some made) quiet = queue_leaves x made d seen_now failed q c.head step k quiet

  pub entry_stays : (step : Step) (failed : Bool) → (concerns d step ≡ true → is_calm step ≡ true)
      → (step ≡ step_of.Queue d (queue.Poll q) → (told : List Item) → reply x g (step_of.Queue d (queue.Poll q)) failed ≡ Done (Word tag.Head ∷ Number c.head ∷ told) → ⊥) → Stays (record { step = step; failed = failed })
  unfolding deeds_of
  entry_stays (Control step) failed k quiet = let t = control_acts x d g step failed k in mild_stays (record { step = Control step; failed = failed }) t.0 t.1 t.2
  entry_stays (Device name step) failed k quiet = by (bytes_eq d name) refl (acts_of_device_on d name (device_turn x (device_view x name (deeds_of x g)) step).acts (deeds_of x g)) where
    by : (b : Bool) → bytes_eq d name ≡ b → acts_of_device d (map (On name) (device_turn x (device_view x name (deeds_of x g)) step).acts ++ deeds_of x g) ≡ (if b then (device_turn x (device_view x name (deeds_of x g)) step).acts else []) ++ acts_of_device d (deeds_of x g)
        → Stays (record { step = Device name step; failed = failed })
    by true e f = mild_stays (record { step = Device name step; failed = failed }) (device_turn x seen_now step).acts (f ∙ ap (λ n. (device_turn x (device_view x n (deeds_of x g)) step).acts ++ acts_of_device d (deeds_of x g)) (sym (name_is d name e))) (device_off x seen_now step)
    by false e f = mild_stays (record { step = Device name step; failed = failed }) [] f refl
  entry_stays (step_of.Queue name step) failed k quiet = by (bytes_eq d name) refl (acts_of_device_on d name (device_queue_turn x name (device_view x name (deeds_of x g)) failed step).acts (deeds_of x g)) where
    its : is_calm_queue_line step ≡ true → (step_of.Queue d step ≡ step_of.Queue d (queue.Poll q) → (told : List Item) → reply x g (step_of.Queue d (queue.Poll q)) failed ≡ Done (Word tag.Head ∷ Number c.head ∷ told) → ⊥)
        → acts_of x (record { step = step_of.Queue d step; failed = failed } ∷ g) d ≡ (device_queue_turn x d seen_now failed step).acts ++ acts_of x g d → Stays (record { step = step_of.Queue d step; failed = failed })
    its k quiet f = stays_by (record { step = step_of.Queue d step; failed = failed }) (device_queue_turn x d seen_now failed step).acts f (line_free failed step k)
        (line_leaves failed step k (λ e t. quiet (ap (λ s. step_of.Queue d s) e) t.0 (subst (λ s. (device_queue_turn x d seen_now failed s).answer ≡ Done (Word tag.Head ∷ Number c.head ∷ t.0)) e t.1)))

    by : (b : Bool) → bytes_eq d name ≡ b
        → acts_of_device d (map (On name) (device_queue_turn x name (device_view x name (deeds_of x g)) failed step).acts ++ deeds_of x g) ≡ (if b then (device_queue_turn x name (device_view x name (deeds_of x g)) failed step).acts else []) ++ acts_of_device d (deeds_of x g)
        → Stays (record { step = step_of.Queue name step; failed = failed })
    by true e f = subst (λ n. (step_of.Queue n step ≡ step_of.Queue d (queue.Poll q) → (told : List Item) → reply x g (step_of.Queue d (queue.Poll q)) failed ≡ Done (Word tag.Head ∷ Number c.head ∷ told) → ⊥)
        → acts_of x (record { step = step_of.Queue n step; failed = failed } ∷ g) d ≡ (device_queue_turn x n (device_view x n (deeds_of x g)) failed step).acts ++ acts_of x g d → Stays (record { step = step_of.Queue n step; failed = failed }))
        (name_is d name e) (its (k e)) quiet f
    by false e f = mild_stays (record { step = step_of.Queue name step; failed = failed }) [] f refl
