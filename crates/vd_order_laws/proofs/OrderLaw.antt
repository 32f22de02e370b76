-- The order law.
use Rattle.std.proofs.Common.{◌≡◌, ℕ, ◌+◌, ◌==◌, Bool, true, false, refl, ap, subst, ◌∙◌, sym, cond, Option, None, Some, List, [], ◌∷◌, ◌++◌, map, filter, append_assoc, eqb-true, true≢false, if◌then◌else◌, inl, inr}
use Rattle.std.specs.Bool.{IsTrue}
use Rattle.std.specs.Str.{bytes_eq}
use Rattle.std.specs.List.{list_all}
use Rattle.std.specs.Option.{option_map_or}
use Rattle.std.proofs.lemmas.List.{append_cancel_right}
use Rattle.vd_num.specs.declared.errno.Errno.TheVariants.{Nodev}
use Rattle.vd_model.specs.declared.step.Step.{Step}
use Rattle.vd_model.specs.declared.step.Step.TheVariants.{Control, Device, Queue}
use Rattle.vd_model.specs.declared.step.DevStep.{DevStep}
use Rattle.vd_model.specs.declared.step.QueueStep.{QueueStep}
use Rattle.vd_model.specs.declared.step.ControlStep.{ControlStep}
use Rattle.vd_model.specs.declared.step.ControlStep.TheVariants as control
use Rattle.vd_model.specs.Setting.{Setting}
use Rattle.vd_model.specs.Creation.{Creation}
use Rattle.vd_model.specs.Acts.{Act, AddedChain, Node, Bus, State, Message_act, Attached, Opened, Ring_made, Ring_dropped, Chain_added, Chain_reclaimed, state_acts}
use Rattle.vd_model.specs.Acts as act
use Rattle.vd_model.specs.Messages.{Elapsed}
use Rattle.vd_model.specs.State.{Max_set, is_ready}
use Rattle.vd_model.specs.Raw.{control_step}
use Rattle.vd_model.specs.Turn.{refusal_turn}
use Rattle.vd_model.specs.Queues.{Ring, ring_of, chains_out, is_other_chain}
use Rattle.vd_model.specs.Deeds.{Deed, Made, On, acts_of_device, made_with, clock, device_view}
use Rattle.vd_model.specs.ControlTurns.{plain_creation, control_outcome}
use Rattle.vd_model.specs.History.{Entry, History, deeds_of, dev_turn, queue_turn, device_turn, device_queue_turn}
use Rattle.vd_model.specs.Agree.{plain_concerns, raw_concerns, control_concerns, concerns}
use Rattle.vd_laws.specs.Among.{Among}
use Rattle.vd_laws.specs.Runs.{acts_of, IsAddressed, IsWhole}
use Rattle.vd_ring_laws.specs.Calm.{IsCalm, IsDescribed, is_calm, is_calm_line, is_calm_queue_line}
use Rattle.vd_order_laws.specs.OrderLaw.{OrderLaw}
use Rattle.vd_laws.proofs.IsolationLaw.{name_is, granted, raw_granted, control_granted, if_done_either, control_does}
use Rattle.vd_laws.proofs.Histories.{acts_of_device_other}
use Rattle.vd_laws.proofs.Turns.{acts_of_device_on, acts_of_device_legal}
use Rattle.vd_laws.proofs.Legal.{Legal}
use Rattle.vd_ring_laws.proofs.Fair.{Fair}
use Rattle.vd_ring_laws.proofs.Mild.{dev_mild}
use Rattle.vd_ring_laws.proofs.Fairs.{fair_after}
use Rattle.vd_ring_turns.proofs.CalmRings.{Calms}
use Rattle.vd_order_laws.proofs.PlainLines.{plain_calms}
use Rattle.vd_order_laws.proofs.OtherLines.{is_off}
use Rattle.vd_order_laws.proofs.CalmLines.{dev_keeps, queue_keeps}
use Rattle.vd_order_laws.proofs.FreeRings.{AreFree, free_append, mild_free, free_ring, free_none, queue_free}

-- ---- lines on other devices, and control lines

module _ (d : List ℕ) (t : ℕ) (done : List Deed) where
  made_same : (name : List ℕ) (creation : Creation) → bytes_eq d name ≡ false → acts_of_device d (Made name creation ∷ done) ≡ acts_of_device d done
  made_same name creation e = ap (λ b. cond b [] (acts_of_device d done)) e

  granted_same : (step : ControlStep) → plain_concerns d step ≡ false → acts_of_device d (granted t step ++ done) ≡ acts_of_device d done
  granted_same (control.Create name vendor device features queues align config) e = made_same name (record { features = features; queues = queues; config = config }) e
  granted_same (control.Dev name) e = acts_of_device_other d name (Bus Attached ∷ State (Max_set 0 256) ∷ Node Opened ∷ []) (Made name plain_creation ∷ done) e ∙ made_same name plain_creation e
  granted_same (control.Tick seconds) e = cc
  granted_same _ e = refl

  raw_same : (o : Option ControlStep) → raw_concerns d o ≡ false → acts_of_device d (raw_granted t o ++ done) ≡ acts_of_device d done
  raw_same None e = refl
  raw_same (Some step) e = granted_same step e

  control_same : (step : ControlStep) → control_concerns d step ≡ false → acts_of_device d (control_granted t step ++ done) ≡ acts_of_device d done
  control_same (control.Control number bytes) e = raw_same (control_step number bytes) e
  control_same control.Version e = refl
  control_same (control.SetVersion version) e = refl
  control_same (control.Create name vendor device features queues align config) e = granted_same (control.Create name vendor device features queues align config) e
  control_same (control.Destroy name) e = refl
  control_same (control.Dev name) e = granted_same (control.Dev name) e
  control_same (control.Tick seconds) e = cc
  control_same (control.Image name first count) e = refl

  granted_made : (step : ControlStep) → plain_concerns d step ≡ false → made_with d (granted t step ++ done) ≡ made_with d done
  granted_made (control.Create name vendor device features queues align config) e = ap (λ b. cond b (Some (record { features = features; queues = queues; config = config })) (made_with d done)) e
  granted_made (control.Destroy name) e = ap (λ b. cond b None (made_with d done)) e
  granted_made (control.Dev name) e = ap (λ b. cond b (Some plain_creation) (made_with d done)) e
  granted_made (control.Tick seconds) e = cc
  granted_made _ e = refl

  raw_made : (o : Option ControlStep) → raw_concerns d o ≡ false → made_with d (raw_granted t o ++ done) ≡ made_with d done
  raw_made None e = refl
  raw_made (Some step) e = granted_made step e

  control_made : (step : ControlStep) → control_concerns d step ≡ false → made_with d (control_granted t step ++ done) ≡ made_with d done
  control_made (control.Control number bytes) e = raw_made (control_step number bytes) e
  control_made control.Version e = refl
  control_made (control.SetVersion version) e = refl
  control_made (control.Create name vendor device features queues align config) e = granted_made (control.Create name vendor device features queues align config) e
  control_made (control.Destroy name) e = granted_made (control.Destroy name) e
  control_made (control.Dev name) e = granted_made (control.Dev name) e
  control_made (control.Tick seconds) e = cc
  control_made (control.Image name first count) e = refl

made_on : (d name : List ℕ) (acts : List Act) (done : List Deed) → made_with d (map (On name) acts ++ done) ≡ made_with d done
made_on d name [] done = refl
made_on d name (a ∷ acts) done = made_on d name acts done

not_true : (b : Bool) → (b ≡ true → false ≡ true) → b ≡ false
not_true true h = absurd (true≢false (sym (h refl)))
not_true false h = refl

-- what an entry does to a device: nothing, a tick, or the acts of a calm line
data Does (x : Setting) (d : List ℕ) (h : History) : History → Type 0 where
  nothing : {later : History} → acts_of x later d ≡ acts_of x h d → Does x d h later
  ticks : {later : History} → (t : ℕ) → acts_of x later d ≡ Message_act (Elapsed t) ∷ acts_of x h d → Does x d h later
  on_device : {later : History} → (step : DevStep) → is_calm_line step ≡ true → acts_of x later d ≡ (device_turn x (device_view x d (deeds_of x h)) step).acts ++ acts_of x h d → Does x d h later
  on_queue : {later : History} → (step : QueueStep) (failed : Bool) → is_calm_queue_line step ≡ true → acts_of x later d ≡ (device_queue_turn x d (device_view x d (deeds_of x h)) failed step).acts ++ acts_of x h d → Does x d h later

module _ (x : Setting) (d : List ℕ) (h : History) where
  other_control : (step : ControlStep) (failed : Bool) → control_concerns d step ≡ false → Does x d h (record { step = Control step; failed = failed } ∷ h)
  unfolding deeds_of
  other_control step failed e = nothing (ap (λ deeds. acts_of_device d (deeds ++ deeds_of x h)) (control_does x (deeds_of x h) step)
      ∙ elim (if_done_either (control_outcome x (deeds_of x h) step).answer (control_granted (clock (deeds_of x h)) step)) [
        | inl f ↦ ap (λ deeds. acts_of_device d (deeds ++ deeds_of x h)) f ∙ control_same d (clock (deeds_of x h)) (deeds_of x h) step e
        | inr f ↦ ap (λ deeds. acts_of_device d (deeds ++ deeds_of x h)) f
      ])

  tick_does : (seconds : ℕ) (failed : Bool) → Does x d h (record { step = Control (control.Tick seconds); failed = failed } ∷ h)
  unfolding deeds_of
  tick_does seconds failed = elim (if_done_either (control_outcome x (deeds_of x h) (control.Tick seconds)).answer (control_granted (clock (deeds_of x h)) (control.Tick seconds))) [
    | inl f ↦ ticks (clock (deeds_of x h) + seconds) (ap (λ deeds. acts_of_device d (deeds ++ deeds_of x h)) (control_does x (deeds_of x h) (control.Tick seconds) ∙ f))
    | inr f ↦ nothing (ap (λ deeds. acts_of_device d (deeds ++ deeds_of x h)) (control_does x (deeds_of x h) (control.Tick seconds) ∙ f))
  ]

  control_entry : (step : ControlStep) (failed : Bool) → (control_concerns d step ≡ true → is_calm (Control step) ≡ true) → Does x d h (record { step = Control step; failed = failed } ∷ h)
  control_entry (control.Tick seconds) failed c = tick_does seconds failed
  control_entry control.Version failed c = other_control control.Version failed (not_true _ c)
  control_entry (control.SetVersion version) failed c = other_control (control.SetVersion version) failed (not_true _ c)
  control_entry (control.Create name vendor device features queues align config) failed c = other_control (control.Create name vendor device features queues align config) failed (not_true _ c)
  control_entry (control.Destroy name) failed c = other_control (control.Destroy name) failed (not_true _ c)
  control_entry (control.Dev name) failed c = other_control (control.Dev name) failed (not_true _ c)
  control_entry (control.Image name first count) failed c = other_control (control.Image name first count) failed (not_true _ c)
  control_entry (control.Control number bytes) failed c = other_control (control.Control number bytes) failed (not_true _ c)

  other_acts : (step : ControlStep) (failed : Bool) → control_concerns d step ≡ false → acts_of x (record { step = Control step; failed = failed } ∷ h) d ≡ acts_of x h d
  unfolding deeds_of
  other_acts step failed e = ap (λ deeds. acts_of_device d (deeds ++ deeds_of x h)) (control_does x (deeds_of x h) step)
      ∙ elim (if_done_either (control_outcome x (deeds_of x h) step).answer (control_granted (clock (deeds_of x h)) step)) [
        | inl f ↦ ap (λ deeds. acts_of_device d (deeds ++ deeds_of x h)) f ∙ control_same d (clock (deeds_of x h)) (deeds_of x h) step e
        | inr f ↦ ap (λ deeds. acts_of_device d (deeds ++ deeds_of x h)) f
      ]

  abbrev Offs : Entry → Type 0
  Offs entry = (turn : List Act) × (acts_of x (entry ∷ h) d ≡ turn ++ acts_of x h d) × (list_all is_off turn ≡ true)

  tick_acts : (seconds : ℕ) (failed : Bool) → Offs (record { step = Control (control.Tick seconds); failed = failed })
  unfolding deeds_of
  tick_acts seconds failed = elim (if_done_either (control_outcome x (deeds_of x h) (control.Tick seconds)).answer (control_granted (clock (deeds_of x h)) (control.Tick seconds))) [
    | inl f ↦ (Message_act (Elapsed (clock (deeds_of x h) + seconds)) ∷ [], ap (λ deeds. acts_of_device d (deeds ++ deeds_of x h)) (control_does x (deeds_of x h) (control.Tick seconds) ∙ f), refl)
    | inr f ↦ ([], ap (λ deeds. acts_of_device d (deeds ++ deeds_of x h)) (control_does x (deeds_of x h) (control.Tick seconds) ∙ f), refl)
  ]

  -- a control line makes no act on a queue
  pub control_acts : (step : ControlStep) (failed : Bool) → (control_concerns d step ≡ true → is_calm (Control step) ≡ true) → Offs (record { step = Control step; failed = failed })
  control_acts (control.Tick seconds) failed c = tick_acts seconds failed
  control_acts control.Version failed c = ([], other_acts control.Version failed (not_true _ c), refl)
  control_acts (control.SetVersion version) failed c = ([], other_acts (control.SetVersion version) failed (not_true _ c), refl)
  control_acts (control.Create name vendor device features queues align config) failed c = ([], other_acts (control.Create name vendor device features queues align config) failed (not_true _ c), refl)
  control_acts (control.Destroy name) failed c = ([], other_acts (control.Destroy name) failed (not_true _ c), refl)
  control_acts (control.Dev name) failed c = ([], other_acts (control.Dev name) failed (not_true _ c), refl)
  control_acts (control.Image name first count) failed c = ([], other_acts (control.Image name first count) failed (not_true _ c), refl)
  control_acts (control.Control number bytes) failed c = ([], other_acts (control.Control number bytes) failed (not_true _ c), refl)

  entry_does : (step : Step) (failed : Bool) → (concerns d step ≡ true → is_calm step ≡ true) → Does x d h (record { step = step; failed = failed } ∷ h)
  unfolding deeds_of
  entry_does (Control step) failed c = control_entry step failed c
  entry_does (Device name step) failed c = by (bytes_eq d name) refl (acts_of_device_on d name (device_turn x (device_view x name (deeds_of x h)) step).acts (deeds_of x h)) where
    by : (b : Bool) → bytes_eq d name ≡ b → acts_of_device d (map (On name) (device_turn x (device_view x name (deeds_of x h)) step).acts ++ deeds_of x h) ≡ (if b then (device_turn x (device_view x name (deeds_of x h)) step).acts else []) ++ acts_of_device d (deeds_of x h)
        → Does x d h (record { step = Device name step; failed = failed } ∷ h)
    by true e f = on_device step (c e) (f ∙ ap (λ n. (device_turn x (device_view x n (deeds_of x h)) step).acts ++ acts_of_device d (deeds_of x h)) (sym (name_is d name e)))
    by false e f = nothing f
  entry_does (Queue name step) failed c = by (bytes_eq d name) refl (acts_of_device_on d name (device_queue_turn x name (device_view x name (deeds_of x h)) failed step).acts (deeds_of x h)) where
    by : (b : Bool) → bytes_eq d name ≡ b
        → acts_of_device d (map (On name) (device_queue_turn x name (device_view x name (deeds_of x h)) failed step).acts ++ deeds_of x h) ≡ (if b then (device_queue_turn x name (device_view x name (deeds_of x h)) failed step).acts else []) ++ acts_of_device d (deeds_of x h)
        → Does x d h (record { step = Queue name step; failed = failed } ∷ h)
    by true e f = on_queue step failed (c e) (f ∙ ap (λ n. (device_queue_turn x n (device_view x n (deeds_of x h)) failed step).acts ++ acts_of_device d (deeds_of x h)) (sym (name_is d name e)))
    by false e f = nothing f

  -- its making stays
  entry_made : (step : Step) (failed : Bool) → (concerns d step ≡ true → is_calm step ≡ true) → made_with d (deeds_of x (record { step = step; failed = failed } ∷ h)) ≡ made_with d (deeds_of x h)
  unfolding deeds_of
  entry_made (Control step) failed c =
      ap (λ deeds. made_with d (deeds ++ deeds_of x h)) (control_does x (deeds_of x h) step)
      ∙ elim (if_done_either (control_outcome x (deeds_of x h) step).answer (control_granted (clock (deeds_of x h)) step)) [
        | inl f ↦ ap (λ deeds. made_with d (deeds ++ deeds_of x h)) f ∙ by step c
        | inr f ↦ ap (λ deeds. made_with d (deeds ++ deeds_of x h)) f
      ] where
        by : (step : ControlStep) → (control_concerns d step ≡ true → is_calm (Control step) ≡ true) → made_with d (control_granted (clock (deeds_of x h)) step ++ deeds_of x h) ≡ made_with d (deeds_of x h)
        by (control.Tick seconds) c = refl
        by control.Version c = control_made d (clock (deeds_of x h)) (deeds_of x h) control.Version (not_true _ c)
        by (control.SetVersion version) c = control_made d (clock (deeds_of x h)) (deeds_of x h) (control.SetVersion version) (not_true _ c)
        by (control.Create name vendor device features queues align config) c = control_made d (clock (deeds_of x h)) (deeds_of x h) (control.Create name vendor device features queues align config) (not_true _ c)
        by (control.Destroy name) c = control_made d (clock (deeds_of x h)) (deeds_of x h) (control.Destroy name) (not_true _ c)
        by (control.Dev name) c = control_made d (clock (deeds_of x h)) (deeds_of x h) (control.Dev name) (not_true _ c)
        by (control.Image name first count) c = control_made d (clock (deeds_of x h)) (deeds_of x h) (control.Image name first count) (not_true _ c)
        by (control.Control number bytes) c = control_made d (clock (deeds_of x h)) (deeds_of x h) (control.Control number bytes) (not_true _ c)
  entry_made (Device name step) failed c = made_on d name (device_turn x (device_view x name (deeds_of x h)) step).acts (deeds_of x h)
  entry_made (Queue name step) failed c = made_on d name (device_queue_turn x name (device_view x name (deeds_of x h)) failed step).acts (deeds_of x h)

-- ---- one entry of the span

abbrev queues_of : Option Creation → ℕ
queues_of None = 0
queues_of (Some made) = made.queues

module _ (x : Setting) (small : IsAddressed x) (full : IsWhole x) (d : List ℕ) (n : ℕ) (h : History) (c : Calms x n (acts_of x h d)) (number : queues_of (made_with d (deeds_of x h)) ≡ n)
    (described : (q : ℕ) → is_ready (state_acts (acts_of x h d)) q ≡ true → IsDescribed (acts_of x h d) q) where
  by_does : (later : History) → Does x d h later → Calms x n (acts_of x later d)
  by_does later (nothing e) = subst (Calms x n) (sym e) c
  by_does later (ticks t e) = subst (Calms x n) (sym e) (plain_calms x small full n (Message_act (Elapsed t) ∷ []) (acts_of x h d) refl (subst (Legal x) e (acts_of_device_legal x later d)) c)
  by_does later (on_device step calm e) = subst (Calms x n) (sym e) (by (made_with d (deeds_of x h)) number (subst (Legal x) e (acts_of_device_legal x later d)) refl) where
    by : (o : Option Creation) → queues_of o ≡ n → Legal x ((device_turn x (device_view x d (deeds_of x h)) step).acts ++ acts_of x h d) → made_with d (deeds_of x h) ≡ o → Calms x n ((device_turn x (device_view x d (deeds_of x h)) step).acts ++ acts_of x h d)
    by None k l f = subst (λ o. Calms x n ((option_map_or (λ made. dev_turn x made (device_view x d (deeds_of x h)) step) o (refusal_turn Nodev)).acts ++ acts_of x h d)) (sym f) c
    by (Some made) k l f =
        subst (λ o. Calms x n ((option_map_or (λ made. dev_turn x made (device_view x d (deeds_of x h)) step) o (refusal_turn Nodev)).acts ++ acts_of x h d)) (sym f)
        (subst (λ m. Calms x m ((dev_turn x made (device_view x d (deeds_of x h)) step).acts ++ acts_of x h d)) k
        (dev_keeps x small full made (device_view x d (deeds_of x h)) (acts_of_device_legal x h d) (fair_after x h d) (subst (λ m. Calms x m (acts_of x h d)) (sym k) c) described step calm
        (subst (λ o. Legal x ((option_map_or (λ made. dev_turn x made (device_view x d (deeds_of x h)) step) o (refusal_turn Nodev)).acts ++ acts_of x h d)) f l)))
  by_does later (on_queue step failed calm e) = subst (Calms x n) (sym e) (by (made_with d (deeds_of x h)) number (subst (Legal x) e (acts_of_device_legal x later d)) refl) where
    by : (o : Option Creation) → queues_of o ≡ n → Legal x ((device_queue_turn x d (device_view x d (deeds_of x h)) failed step).acts ++ acts_of x h d) → made_with d (deeds_of x h) ≡ o
        → Calms x n ((device_queue_turn x d (device_view x d (deeds_of x h)) failed step).acts ++ acts_of x h d)
    by None k l f = subst (λ o. Calms x n ((option_map_or (λ made. queue_turn x made d (device_view x d (deeds_of x h)) failed step) o (refusal_turn Nodev)).acts ++ acts_of x h d)) (sym f) c
    by (Some made) k l f =
        subst (λ o. Calms x n ((option_map_or (λ made. queue_turn x made d (device_view x d (deeds_of x h)) failed step) o (refusal_turn Nodev)).acts ++ acts_of x h d)) (sym f)
        (subst (λ m. Calms x m ((queue_turn x made d (device_view x d (deeds_of x h)) failed step).acts ++ acts_of x h d)) k
        (queue_keeps x small full made (device_view x d (deeds_of x h)) (acts_of_device_legal x h d) (fair_after x h d) (subst (λ m. Calms x m (acts_of x h d)) (sym k) c) described d failed step calm
        (subst (λ o. Legal x ((option_map_or (λ made. queue_turn x made d (device_view x d (deeds_of x h)) failed step) o (refusal_turn Nodev)).acts ++ acts_of x h d)) f l)))

-- ---- no ring before the span

-- what the entry does makes and drops no ring where one is
record Frees (x : Setting) (d : List ℕ) (q : ℕ) (later h : History) : Type 0 where
  acts : List Act
  same : acts_of x later d ≡ acts ++ acts_of x h d
  free : AreFree q acts

module _ (x : Setting) (d : List ℕ) (h : History) (q : ℕ) (ring : Ring) (there : ring_of (acts_of x h d) q ≡ Some ring) where
  free_does : (later : History) → Does x d h later → Frees x d q later h
  free_does later (nothing e) = record { acts = []; same = e; free = tt }
  free_does later (ticks t e) = record { acts = Message_act (Elapsed t) ∷ []; same = e; free = (tt, tt) }
  free_does later (on_device step calm e) = record { acts = (device_turn x (device_view x d (deeds_of x h)) step).acts; same = e; free = by (made_with d (deeds_of x h)) } where
    by : (o : Option Creation) → AreFree q (option_map_or (λ made. dev_turn x made (device_view x d (deeds_of x h)) step) o (refusal_turn Nodev)).acts
    by None = tt
    by (Some made) = mild_free q (dev_turn x made (device_view x d (deeds_of x h)) step).acts (dev_mild x made (device_view x d (deeds_of x h)) step)
  free_does later (on_queue step failed calm e) = record { acts = (device_queue_turn x d (device_view x d (deeds_of x h)) failed step).acts; same = e; free = by (made_with d (deeds_of x h)) } where
    by : (o : Option Creation) → AreFree q (option_map_or (λ made. queue_turn x made d (device_view x d (deeds_of x h)) failed step) o (refusal_turn Nodev)).acts
    by None = tt
    by (Some made) = queue_free x made d (device_view x d (deeds_of x h)) failed q ring there step calm

span_free : (x : Setting) (d : List ℕ) (start : History) (q : ℕ) (ring : Ring) → ring_of (acts_of x start d) q ≡ Some ring
    → (span : List Entry) → ((entry : Entry) → Among entry span → IsTrue (concerns d entry.step) → IsTrue (is_calm entry.step)) → Frees x d q (span ++ start) start
span_free x d start q ring there [] calm = record { acts = []; same = refl; free = tt }
span_free x d start q ring there (entry ∷ span) calm =
    let before = span_free x d start q ring there span (λ other i. calm other (inr i)) in
    let there_now : ring_of (acts_of x (span ++ start) d) q ≡ Some ring = ap (λ l. ring_of l q) before.same ∙ (free_ring q before.acts (acts_of x start d) before.free ∙ there) in
    let last_free = free_does x d (span ++ start) q ring there_now (entry ∷ span ++ start) (entry_does x d (span ++ start) entry.step entry.failed (calm entry (inl refl))) in
    record {
      acts = last_free.acts ++ before.acts;
      same = last_free.same ∙ (ap (λ l. last_free.acts ++ l) before.same ∙ sym (append_assoc last_free.acts before.acts (acts_of x start d)));
      free = free_append q last_free.acts before.acts last_free.free before.free;
    }

pub no_ring : (x : Setting) (h : History) (d : List ℕ) (c : IsCalm x h d) (q : ℕ) → ring_of (acts_of x c.start d) q ≡ None
no_ring x h d c q = by (ring_of (acts_of x c.start d) q) refl where
  by : (o : Option Ring) → ring_of (acts_of x c.start d) q ≡ o → o ≡ None
  by None e = refl
  by (Some ring) e =
      let f = span_free x d c.start q ring e c.span c.calm in
      let same : acts_of x h d ≡ f.acts ++ acts_of x c.start d = ap (λ g. acts_of x g d) c.split ∙ f.same in
      let acts : c.acts ≡ f.acts = append_cancel_right c.acts f.acts (acts_of x c.start d) (sym c.acted ∙ same) in
      let at_end : ring_of (acts_of x h d) q ≡ Some ring = ap (λ l. ring_of l q) same ∙ (free_ring q f.acts (acts_of x c.start d) f.free ∙ e) in
      let inside : ring_of f.acts q ≡ Some ring = subst (λ l. ring_of l q ≡ Some ring) acts (c.made q ring at_end) in
      let both : None ≡ Some ring = sym (free_none q f.acts f.free) ∙ inside in
      cc

filter_none : (p : AddedChain → Bool) (chains : List AddedChain) → chains ≡ [] → filter p chains ≡ []
filter_none p [] e = refl
filter_none p (c ∷ chains) e = cc

-- without a ring no chain is out
none_out : (acts : List Act) (q : ℕ) → Fair acts → ring_of acts q ≡ None → chains_out acts q ≡ []
none_out [] q fair e = refl
none_out (act.Queue (Ring_made k place region) ∷ acts) q fair e = by (k == q) e (none_out acts q fair.1) where
  by : (b : Bool) → cond b (Some (record { place = place; region = region })) (ring_of acts q) ≡ None → (ring_of acts q ≡ None → chains_out acts q ≡ []) → cond b [] (chains_out acts q) ≡ []
  by true f later = refl
  by false f later = later f
none_out (act.Queue (Ring_dropped k) ∷ acts) q fair e = by (k == q) e (none_out acts q fair.1) where
  by : (b : Bool) → cond b None (ring_of acts q) ≡ None → (ring_of acts q ≡ None → chains_out acts q ≡ []) → cond b [] (chains_out acts q) ≡ []
  by true f later = refl
  by false f later = later f
none_out (act.Queue (Chain_added k chain) ∷ acts) q fair e = by (k == q) refl (none_out acts q fair.1 e) where
  by : (b : Bool) → (k == q) ≡ b → chains_out acts q ≡ [] → cond b (chains_out acts q ++ chain ∷ []) (chains_out acts q) ≡ []
  by true f later = let t = fair.0 in let no : None ≡ Some t.ring = sym e ∙ subst (λ j. ring_of acts j ≡ Some t.ring) (eqb-true k q f) t.there in cc
  by false f later = later
none_out (act.Queue (Chain_reclaimed k head) ∷ acts) q fair e = by (k == q) (none_out acts q fair.1 e) where
  by : (b : Bool) → chains_out acts q ≡ [] → cond b (filter (is_other_chain head) (chains_out acts q)) (chains_out acts q) ≡ []
  by true f = filter_none (is_other_chain head) (chains_out acts q) f
  by false f = f
none_out (_ ∷ acts) q fair e = none_out acts q fair.1 e

start_calms : (x : Setting) (n : ℕ) (acts : List Act) → Fair acts → ((q : ℕ) → ring_of acts q ≡ None) → Calms x n acts
start_calms x n acts fair none = record {
  rings = λ q ring e. absurd (let no : None ≡ Some ring = sym (none q) ∙ e in cc);
  low = λ q ring e. absurd (let no : None ≡ Some ring = sym (none q) ∙ e in cc);
  apart = λ q k ring other d e f. absurd (let no : None ≡ Some ring = sym (none q) ∙ e in cc);
  alone = λ q k d a b i j m ma mb. subst (Among a) (none_out acts q fair (none q)) i;
}

-- ---- the span

among_right : {X : Type 0} (m : X) (xs ys : List X) → Among m ys → Among m (xs ++ ys)
among_right m [] ys h = h
among_right m (x ∷ xs) ys h = inr (among_right m xs ys h)

module _ (x : Setting) (small : IsAddressed x) (full : IsWhole x) (h : History) (d : List ℕ) (c : IsCalm x h d) where
  abbrev pub number : ℕ
  number = queues_of (made_with d (deeds_of x c.start))

  span_made : (span later : List Entry) → c.span ≡ later ++ span → made_with d (deeds_of x (span ++ c.start)) ≡ made_with d (deeds_of x c.start)
  span_made [] later e = refl
  span_made (entry ∷ span) later e =
      entry_made x d (span ++ c.start) entry.step entry.failed (λ t. c.calm entry (subst (Among entry) (sym e) (among_right entry later (entry ∷ span) (inl refl))) t)
      ∙ span_made span (later ++ entry ∷ []) (e ∙ sym (append_assoc later (entry ∷ []) span))

  span_calms : (span later : List Entry) → c.span ≡ later ++ span → Calms x number (acts_of x (span ++ c.start) d)
  span_calms [] later e = start_calms x number (acts_of x c.start d) (fair_after x c.start d) (no_ring x h d c)
  span_calms (entry ∷ span) later e =
      let front : c.span ≡ (later ++ entry ∷ []) ++ span = e ∙ sym (append_assoc later (entry ∷ []) span) in
      by_does x small full d number (span ++ c.start) (span_calms span (later ++ entry ∷ []) front) (ap queues_of (span_made span (later ++ entry ∷ []) front))
      (λ q r. c.described (later ++ entry ∷ []) (span ++ c.start) (c.split ∙ (ap (λ l. l ++ c.start) front ∙ append_assoc (later ++ entry ∷ []) span c.start)) q r)
      (entry ∷ span ++ c.start) (entry_does x d (span ++ c.start) entry.step entry.failed (λ t. c.calm entry (subst (Among entry) (sym e) (among_right entry later (entry ∷ span) (inl refl))) t))

  pub calm_at_end : Calms x number (acts_of x h d)
  calm_at_end = subst (λ g. Calms x number (acts_of x g d)) (sym c.split) (span_calms c.span [] refl)

pub order_law : (x : Setting) (h : History) → OrderLaw x h
order_law x h small full d c q ring there = let has = (calm_at_end x small full h d c).rings q ring there in (has.holds.rest, has.holds.first)
