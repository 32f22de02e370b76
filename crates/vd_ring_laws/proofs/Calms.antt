-- What the lines of a calm span add to the acts of a device.
use Rattle.std.proofs.Common.{◌≡◌, ℕ, zero, suc, ◌+◌, ◌<◌, Bool, true, false, refl, ap, subst, ◌∙◌, sym, arith, cond, Option, None, Some, is_some, List, [], ◌∷◌, ◌++◌, ◌==◌, ◌&&◌, not, nat_lt, map, take, length, append_assoc, if◌then◌else◌, true≢false, inl, inr}
use Rattle.std.specs.Bool.{IsTrue}
use Rattle.std.specs.Str.{bytes_eq}
use Rattle.std.specs.List.{list_all}
use Rattle.std.proofs.lemmas.Bool.{and_parts, and_from, lt-ltb}
use Rattle.std.proofs.lemmas.Bool.Decides.{nat_tests}
use Rattle.std.proofs.lemmas.List.{append_cancel_right, length-append}
use Rattle.vd_num.specs.declared.errno.Errno.TheVariants.{Badf, Nodev}
use Rattle.vd_model.specs.declared.step.Step.{Step}
use Rattle.vd_model.specs.declared.step.Step.TheVariants.{Control, Device, Queue}
use Rattle.vd_model.specs.declared.step.ControlStep.{ControlStep}
use Rattle.vd_model.specs.declared.step.ControlStep.TheVariants as control
use Rattle.vd_model.specs.declared.step.QueueStep.{QueueStep}
use Rattle.vd_model.specs.declared.step.QueueStep.TheVariants as queue
use Rattle.vd_model.specs.Setting.{Setting}
use Rattle.vd_model.specs.Creation.{Creation}
use Rattle.vd_model.specs.Acts.{Act, AddedChain, Request, Streaming, Bus, State, Node, Message_act, Attached, Opened, Ring_made, Ring_dropped, Chain_added, Chain_reclaimed, Fetched}
use Rattle.vd_model.specs.Acts as act
use Rattle.vd_model.specs.Messages.{Elapsed}
use Rattle.vd_model.specs.State.{Max_set}
use Rattle.vd_model.specs.Raw.{control_step}
use Rattle.vd_model.specs.Live.{is_open, is_attached, live_mappings}
use Rattle.vd_model.specs.Turn.{Turn, refusal_if}
use Rattle.vd_model.specs.Rings.{next16}
use Rattle.vd_model.specs.Queues.{Ring, ring_of, added_count, reclaimed_count, chains_out, free_descriptors}
use Rattle.vd_model.specs.DaemonTurns.{has_indirect, event_puts, hand, used_position, queue_place, finish_puts, fetch_turn, execute_turn, finish_turn}
use Rattle.vd_model.specs.RingTurns.{first_of, slot_put, request_puts, map_acts, buffer_acts, AskedRequest, asked_by, parts_count, needed_descriptors, mapping_part, submitted_turn, submit_turn, ring_turn, poll_turn, completed_turn, request_end_acts, used_event_puts}
use Rattle.vd_model.specs.Deeds.{Deed, Made, acts_of_device, clock, Seen, device_view}
use Rattle.vd_model.specs.ControlTurns.{plain_creation, control_outcome}
use Rattle.vd_model.specs.History.{Entry, History, deeds_of, disk_of, needs_session, needs_bus, dev_turn, queue_turn, device_turn, device_queue_turn}
use Rattle.vd_model.specs.Agree.{plain_concerns, raw_concerns, control_concerns, concerns}
use Rattle.vd_laws.specs.Among.{Among}
use Rattle.vd_laws.specs.Runs.{acts_of}
use Rattle.vd_ring_laws.specs.Calm.{is_calm, is_calm_queue_line}
use Rattle.vd_ring_laws.specs.Heads.{placed_heads}
use Rattle.vd_laws.proofs.IsolationLaw.{granted, raw_granted, control_granted, if_done_either, control_does}
use Rattle.vd_laws.proofs.Histories.{acts_of_device_other}
use Rattle.vd_laws.proofs.Turns.{acts_of_device_on}
use Rattle.vd_ring_laws.specs.ChainLaw.{have_descriptors}
use Rattle.vd_ring_laws.specs.CalmLaw.{CalmLaw}
use Rattle.vd_ring_laws.proofs.Mild.{is_mild, are_mild, drivers_are_mild, dev_mild, execute_mild}
use Rattle.vd_ring_laws.proofs.Drivers.{are_driver, append_driver, maps_driver, buffers_driver, request_puts_driver, used_event_driver, ended_driver}
use Rattle.vd_ring_laws.proofs.Leaves.{refuse_is, option_is, fetch_is, finish_is, ring_is, submit_is, poll_is}
use Rattle.vd_ring_laws.proofs.Fair.{is_put, put_mild, event_put, finish_put}
use Rattle.vd_ring_laws.proofs.Fairs.{fair_after}
use Rattle.vd_ring_laws.proofs.Outs.{apart_after}

-- no ring is dropped, and each chain is that of a request and has a descriptor
abbrev pub IsCalmAct : Act → Type 0
IsCalmAct (act.Queue (Ring_dropped q)) = ⊥
IsCalmAct (act.Queue (Chain_added q chain)) = (is_some chain.request ≡ true) × (0 < length chain.descriptors)
IsCalmAct _ = Unit {0}

abbrev pub AreCalm : List Act → Type 0
AreCalm [] = Unit {0}
AreCalm (act ∷ acts) = IsCalmAct act × AreCalm acts

calm_append : (xs ys : List Act) → AreCalm xs → AreCalm ys → AreCalm (xs ++ ys)
calm_append [] ys h k = k
calm_append (act ∷ xs) ys h k = (h.0, calm_append xs ys h.1 k)

one_calm : (act : Act) → is_mild act ≡ true → IsCalmAct act
one_calm (act.Queue (Ring_dropped q)) e = cc
one_calm (act.Queue (Chain_added q chain)) e = cc
one_calm _ e = tt

mild_calm : (acts : List Act) → are_mild acts ≡ true → AreCalm acts
mild_calm [] e = tt
mild_calm (act ∷ acts) e = let p = and_parts (is_mild act) (are_mild acts) e in (one_calm act p.0, mild_calm acts p.1)

driver_calm : (acts : List Act) → are_driver acts ≡ true → AreCalm acts
driver_calm acts e = mild_calm acts (drivers_are_mild acts e)

put_calm : (acts : List Act) → list_all is_put acts ≡ true → AreCalm acts
put_calm [] e = tt
put_calm (act ∷ acts) e = let p = and_parts (is_put act) (list_all is_put acts) e in (one_calm act (put_mild act p.0), put_calm acts p.1)

-- ---- a line on a queue

some_needed : (indirect : Bool) (a : AskedRequest) → 0 < needed_descriptors indirect a
some_needed true a = omega arith
some_needed false a = by (is_some a.want) where
  by : (b : Bool) → 0 < cond b 3 2
  by true = omega arith
  by false = omega arith

some_taken : (n : ℕ) (xs : List ℕ) → 0 < n → nat_lt (length xs) n ≡ false → 0 < length (take n xs)
some_taken zero xs h e = absurd (omega arith)
some_taken (suc n) [] h e = absurd (grind (arith, nat_tests))
some_taken (suc n) (x ∷ xs) h e = omega arith

submitted_turn_calm : (x : Setting) (done : List Act) (q : ℕ) (ring : Ring) (indirect : Bool) (a : AskedRequest) (ms : List Streaming) (ds : List ℕ) → 0 < length ds → AreCalm (submitted_turn x done q ring indirect a ms ds).acts
submitted_turn_calm x done q ring indirect a ms ds some =
    let parts = map mapping_part (take (parts_count a) ms) in
    let puts = slot_put ring.place (added_count done q) (first_of ds) ∷ request_puts indirect ring.place a ms parts ds ++ map_acts ms ++ buffer_acts indirect a parts in
    let are : are_driver puts ≡ true =
    append_driver (request_puts indirect ring.place a ms parts ds ++ map_acts ms) (buffer_acts indirect a parts)
    (append_driver (request_puts indirect ring.place a ms parts ds) (map_acts ms) (request_puts_driver indirect ring.place a ms parts ds) (maps_driver ms))
    (buffers_driver indirect a parts) in
    (tt, (tt, ((refl, some), driver_calm puts are)))

completed_turn_calm : (x : Setting) (done acts : List Act) (chain : AddedChain) (len : ℕ) → AreCalm acts → AreCalm (completed_turn x done acts chain len).acts
completed_turn_calm x done acts chain len h = by chain.request where
  by : (o : Option Request) → AreCalm (completed_turn x done acts (record { head = chain.head; descriptors = chain.descriptors; request = o }) len).acts
  by None = h
  by (Some r) = calm_append (request_end_acts (live_mappings done) r) acts (driver_calm (request_end_acts (live_mappings done) r) (ended_driver (live_mappings done) r)) h

module _ (x : Setting) (made : Creation) (name : List ℕ) (s : Seen) (failed : Bool) where
  session_calm : (turn : Turn Act) → AreCalm turn.acts → AreCalm (needs_session s.acts turn).acts
  session_calm turn h = refuse_is AreCalm tt (refusal_if (not (is_open s.acts)) Badf) turn (λ e. h)

  bus_calm : (turn : Turn Act) → AreCalm turn.acts → AreCalm (needs_bus s.acts turn).acts
  bus_calm turn h = refuse_is AreCalm tt (refusal_if (not (is_attached s.acts)) Nodev) turn (λ e. h)

  queue_calm : (step : QueueStep) → is_calm_queue_line step ≡ true → AreCalm (queue_turn x made name s failed step).acts
  queue_calm (queue.Fetch q) e = session_calm (fetch_turn x made s.acts q) (fetch_is AreCalm tt x made s.acts q (λ none ready place position chain bytes.
      calm_append (event_puts s.acts place (next16 position)) (act.Queue (Fetched q) ∷ []) (put_calm (event_puts s.acts place (next16 position)) (event_put s.acts place (next16 position))) (tt, tt)))
  queue_calm (queue.Execute q) e = session_calm (execute_turn x made (disk_of made name s) failed s.acts q) (mild_calm (execute_turn x made (disk_of made name s) failed s.acts q).acts (execute_mild x made (disk_of made name s) failed s.acts q))
  queue_calm (queue.Finish q) e = session_calm (finish_turn x made s.acts q) (finish_is AreCalm tt x made s.acts q (λ earlier f end g.
      (tt, put_calm (finish_puts (queue_place s.acts q) (used_position x s.acts q) (hand x earlier q) end) (finish_put (queue_place s.acts q) (used_position x s.acts q) (hand x earlier q) end))))
  queue_calm (queue.Ring q size) e = bus_calm (ring_turn x made s.acts q size) (ring_is AreCalm tt x made s.acts q size (λ slot. (tt, (tt, tt))))
  queue_calm (queue.Submit q asked) e = bus_calm (submit_turn x made s.acts q asked) (submit_is AreCalm tt x made s.acts q asked (λ ring f full ms.
      submitted_turn_calm x s.acts q ring (has_indirect s.acts) (asked_by asked) ms (take (needed_descriptors (has_indirect s.acts) (asked_by asked)) (free_descriptors ring.place.size (chains_out s.acts q)))
      (some_taken (needed_descriptors (has_indirect s.acts) (asked_by asked)) (free_descriptors ring.place.size (chains_out s.acts q)) (some_needed (has_indirect s.acts) (asked_by asked)) full)))
  queue_calm (queue.Poll q) e = bus_calm (poll_turn x made s.acts q) (poll_is AreCalm tt x made s.acts q (λ r chain there len.
      completed_turn_calm x s.acts (act.Queue (Chain_reclaimed q chain.head) ∷ used_event_puts s.acts r (reclaimed_count s.acts q + 1)) chain len
      (tt, driver_calm (used_event_puts s.acts r (reclaimed_count s.acts q + 1)) (used_event_driver s.acts r (reclaimed_count s.acts q + 1)))))
  queue_calm _ e = cc

-- ---- a control line

module _ (d : List ℕ) (t : ℕ) (done : List Deed) where
  made_same : (name : List ℕ) (creation : Creation) → bytes_eq d name ≡ false → acts_of_device d (Made name creation ∷ done) ≡ acts_of_device d done
  made_same name creation e = ap (λ b. cond b [] (acts_of_device d done)) e

  granted_same : (step : ControlStep) → plain_concerns d step ≡ false → acts_of_device d (granted t step ++ done) ≡ acts_of_device d done
  granted_same (control.Create name vendor device features queues align config) e = made_same name (record { features = features; queues = queues; config = config }) e
  granted_same (control.Dev name) e = acts_of_device_other d name (Bus Attached ∷ State (Max_set 0 256) ∷ Node Opened ∷ []) (Made name plain_creation ∷ done) e ∙ made_same name plain_creation e
  granted_same (control.Tick seconds) e = cc
  granted_same _ e = refl

  raw_same : (o : Option ControlStep) → raw_concerns d o ≡ false → acts_of_device d (raw_granted t o ++ done) ≡ acts_of_device d done
  raw_same None e = refl
  raw_same (Some step) e = granted_same step e

  control_same : (step : ControlStep) → control_concerns d step ≡ false → acts_of_device d (control_granted t step ++ done) ≡ acts_of_device d done
  control_same (control.Control number bytes) e = raw_same (control_step number bytes) e
  control_same control.Version e = refl
  control_same (control.SetVersion version) e = refl
  control_same (control.Create name vendor device features queues align config) e = granted_same (control.Create name vendor device features queues align config) e
  control_same (control.Destroy name) e = refl
  control_same (control.Dev name) e = granted_same (control.Dev name) e
  control_same (control.Tick seconds) e = cc
  control_same (control.Image name first count) e = refl

-- ---- a span

pub record Adds (x : Setting) (d : List ℕ) (later h : History) : Type 0 where
  pub acts : List Act
  pub calm : AreCalm acts
  pub same : acts_of x later d ≡ acts ++ acts_of x h d

not_true : (b : Bool) → (b ≡ true → false ≡ true) → b ≡ false
not_true true h = absurd (true≢false (sym (h refl)))
not_true false h = refl

module _ (x : Setting) (d : List ℕ) (h : History) where
  on_line : (name : List ℕ) (turn : Turn Act) (later : History) → (bytes_eq d name ≡ true → AreCalm turn.acts)
      → acts_of x later d ≡ (if bytes_eq d name then turn.acts else []) ++ acts_of x h d → Adds x d later h
  on_line name turn later calm e = by (bytes_eq d name) calm e where
    by : (b : Bool) → (b ≡ true → AreCalm turn.acts) → acts_of x later d ≡ (if b then turn.acts else []) ++ acts_of x h d → Adds x d later h
    by true calm e = record { acts = turn.acts; calm = calm refl; same = e }
    by false calm e = record { acts = []; calm = tt; same = e }

  other_control : (step : ControlStep) (failed : Bool) → control_concerns d step ≡ false → Adds x d (record { step = Control step; failed = failed } ∷ h) h
  unfolding deeds_of
  other_control step failed e = record {
    acts = [];
    calm = tt;
    same = ap (λ deeds. acts_of_device d (deeds ++ deeds_of x h)) (control_does x (deeds_of x h) step)
        ∙ elim (if_done_either (control_outcome x (deeds_of x h) step).answer (control_granted (clock (deeds_of x h)) step)) [
          | inl f ↦ ap (λ deeds. acts_of_device d (deeds ++ deeds_of x h)) f ∙ control_same d (clock (deeds_of x h)) (deeds_of x h) step e
          | inr f ↦ ap (λ deeds. acts_of_device d (deeds ++ deeds_of x h)) f
        ];
  }

  tick_adds : (seconds : ℕ) (failed : Bool) → Adds x d (record { step = Control (control.Tick seconds); failed = failed } ∷ h) h
  unfolding deeds_of
  tick_adds seconds failed = elim (if_done_either (control_outcome x (deeds_of x h) (control.Tick seconds)).answer (control_granted (clock (deeds_of x h)) (control.Tick seconds))) [
    | inl f ↦ record { acts = Message_act (Elapsed (clock (deeds_of x h) + seconds)) ∷ []; calm = (tt, tt); same = ap (λ deeds. acts_of_device d (deeds ++ deeds_of x h)) (control_does x (deeds_of x h) (control.Tick seconds) ∙ f) }
    | inr f ↦ record { acts = []; calm = tt; same = ap (λ deeds. acts_of_device d (deeds ++ deeds_of x h)) (control_does x (deeds_of x h) (control.Tick seconds) ∙ f) }
  ]

  control_adds : (step : ControlStep) (failed : Bool) → (control_concerns d step ≡ true → is_calm (Control step) ≡ true) → Adds x d (record { step = Control step; failed = failed } ∷ h) h
  control_adds (control.Tick seconds) failed c = tick_adds seconds failed
  control_adds control.Version failed c = other_control control.Version failed (not_true _ c)
  control_adds (control.SetVersion version) failed c = other_control (control.SetVersion version) failed (not_true _ c)
  control_adds (control.Create name vendor device features queues align config) failed c = other_control (control.Create name vendor device features queues align config) failed (not_true _ c)
  control_adds (control.Destroy name) failed c = other_control (control.Destroy name) failed (not_true _ c)
  control_adds (control.Dev name) failed c = other_control (control.Dev name) failed (not_true _ c)
  control_adds (control.Image name first count) failed c = other_control (control.Image name first count) failed (not_true _ c)
  control_adds (control.Control number bytes) failed c = other_control (control.Control number bytes) failed (not_true _ c)

  step_adds : (step : Step) (failed : Bool) → (concerns d step ≡ true → is_calm step ≡ true) → Adds x d (record { step = step; failed = failed } ∷ h) h
  unfolding deeds_of
  step_adds (Control step) failed c = control_adds step failed c
  step_adds (Device name step) failed c =
      on_line name (device_turn x (device_view x name (deeds_of x h)) step) (record { step = Device name step; failed = failed } ∷ h)
      (λ e. option_is AreCalm tt (λ made. dev_turn x made (device_view x name (deeds_of x h)) step) (device_view x name (deeds_of x h)).made Nodev (λ made f.
      mild_calm (dev_turn x made (device_view x name (deeds_of x h)) step).acts (dev_mild x made (device_view x name (deeds_of x h)) step)))
      (acts_of_device_on d name (device_turn x (device_view x name (deeds_of x h)) step).acts (deeds_of x h))
  step_adds (Queue name step) failed c =
      on_line name (device_queue_turn x name (device_view x name (deeds_of x h)) failed step) (record { step = Queue name step; failed = failed } ∷ h)
      (λ e. option_is AreCalm tt (λ made. queue_turn x made name (device_view x name (deeds_of x h)) failed step) (device_view x name (deeds_of x h)).made Nodev (λ made f.
      queue_calm x made name (device_view x name (deeds_of x h)) failed step (c e)))
      (acts_of_device_on d name (device_queue_turn x name (device_view x name (deeds_of x h)) failed step).acts (deeds_of x h))

pub span_adds : (x : Setting) (d : List ℕ) (start : History) (span : List Entry) → ((entry : Entry) → Among entry span → IsTrue (concerns d entry.step) → IsTrue (is_calm entry.step)) → Adds x d (span ++ start) start
span_adds x d start [] c = record { acts = []; calm = tt; same = refl }
span_adds x d start (entry ∷ span) c =
    let more = span_adds x d start span (λ other i. c other (inr i)) in
    let first = step_adds x d (span ++ start) entry.step entry.failed (c entry (inl refl)) in
    record {
      acts = first.acts ++ more.acts;
      calm = calm_append first.acts more.acts first.calm more.calm;
      same = first.same ∙ ap (λ l. first.acts ++ l) more.same ∙ sym (append_assoc first.acts more.acts (acts_of x start d));
    }

-- ---- a ring that was made in the span

module _ (before : List Act) (q : ℕ) (ring : Ring) where
  have_all : (acts : List Act) → AreCalm acts → ring_of acts q ≡ Some ring → have_descriptors (acts ++ before) q ≡ true
  have_all [] c e = cc
  have_all (act.Queue (Ring_made k place region) ∷ acts) c e = by (k == q) e (have_all acts c.1) where
    by : (b : Bool) → cond b (Some (record { place = place; region = region })) (ring_of acts q) ≡ Some ring → (ring_of acts q ≡ Some ring → have_descriptors (acts ++ before) q ≡ true)
        → cond b true (have_descriptors (acts ++ before) q) ≡ true
    by true f later = refl
    by false f later = later f
  have_all (act.Queue (Ring_dropped k) ∷ acts) c e = absurd c.0
  have_all (act.Queue (Chain_added k chain) ∷ acts) c e = by (k == q) (have_all acts c.1 e) where
    by : (b : Bool) → have_descriptors (acts ++ before) q ≡ true → cond b (nat_lt 0 (length chain.descriptors) && have_descriptors (acts ++ before) q) (have_descriptors (acts ++ before) q) ≡ true
    by true h = and_from (nat_lt 0 (length chain.descriptors)) (have_descriptors (acts ++ before) q) (lt-ltb 0 (length chain.descriptors) c.0.1) h
    by false h = h
  have_all (_ ∷ acts) c e = have_all acts c.1 e

  count_all : (acts : List Act) → AreCalm acts → ring_of acts q ≡ Some ring → added_count (acts ++ before) q ≡ length (placed_heads (acts ++ before) q)
  count_all [] c e = cc
  count_all (act.Queue (Ring_made k place region) ∷ acts) c e = by (k == q) e (count_all acts c.1) where
    by : (b : Bool) → cond b (Some (record { place = place; region = region })) (ring_of acts q) ≡ Some ring → (ring_of acts q ≡ Some ring → added_count (acts ++ before) q ≡ length (placed_heads (acts ++ before) q))
        → cond b 0 (added_count (acts ++ before) q) ≡ length (cond b [] (placed_heads (acts ++ before) q))
    by true f later = refl
    by false f later = later f
  count_all (act.Queue (Ring_dropped k) ∷ acts) c e = absurd c.0
  count_all (act.Queue (Chain_added k chain) ∷ acts) c e = by (k == q) (is_some chain.request) c.0.0 (count_all acts c.1 e) where
    by : (b some : Bool) → some ≡ true → added_count (acts ++ before) q ≡ length (placed_heads (acts ++ before) q)
        → cond b (added_count (acts ++ before) q + 1) (added_count (acts ++ before) q) ≡ length (cond (b && some) (placed_heads (acts ++ before) q ++ chain.head ∷ []) (placed_heads (acts ++ before) q))
    by true true i h = let l : length (placed_heads (acts ++ before) q ++ chain.head ∷ []) ≡ length (placed_heads (acts ++ before) q) + 1 = length-append (placed_heads (acts ++ before) q) (chain.head ∷ []) in omega arith
    by true false i h = cc
    by false some i h = h
  count_all (_ ∷ acts) c e = count_all acts c.1 e

pub calm_law : (x : Setting) (h : History) → CalmLaw x h
calm_law x h d c q ring e =
    let a = span_adds x d c.start c.span c.calm in
    let same : acts_of x h d ≡ a.acts ++ acts_of x c.start d = ap (λ g. acts_of x g d) c.split ∙ a.same in
    let acts : c.acts ≡ a.acts = append_cancel_right c.acts a.acts (acts_of x c.start d) (sym c.acted ∙ same) in
    let inside : ring_of a.acts q ≡ Some ring = subst (λ l. ring_of l q ≡ Some ring) acts (c.made q ring e) in
    let have : have_descriptors (acts_of x h d) q ≡ true = subst (λ l. have_descriptors l q ≡ true) (sym same) (have_all (acts_of x c.start d) q ring a.acts a.calm inside) in
    record {
      apart = apart_after (acts_of x h d) q ring (fair_after x h d) have e;
      counted = subst (λ l. added_count l q ≡ length (placed_heads l q)) (sym same) (count_all (acts_of x c.start d) q ring a.acts a.calm inside);
    }
