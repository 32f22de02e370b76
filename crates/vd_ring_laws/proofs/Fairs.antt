-- The acts of every history are fair.
use Rattle.std.proofs.Common.{◌≡◌, ℕ, Bool, true, false, refl, subst, sym, cond, List, [], ◌∷◌, ◌++◌, map, not, Option, Some, None, inl, inr}
use Rattle.std.specs.Str.{bytes_eq}
use Rattle.std.specs.Option.{option_map_or}
use Rattle.vd_num.specs.declared.errno.Errno.{Errno}
use Rattle.vd_num.specs.declared.errno.Errno.TheVariants.{Badf, Nodev}
use Rattle.vd_model.specs.declared.step.Step.{Step}
use Rattle.vd_model.specs.declared.step.Step.TheVariants.{Control, Device, Queue}
use Rattle.vd_model.specs.declared.step.DevStep.{DevStep}
use Rattle.vd_model.specs.declared.step.QueueStep.{QueueStep}
use Rattle.vd_model.specs.declared.step.QueueStep.TheVariants as queue
use Rattle.vd_model.specs.declared.step.ControlStep.{ControlStep}
use Rattle.vd_model.specs.declared.step.ControlStep.TheVariants as control
use Rattle.vd_model.specs.declared.answer.Answer.TheVariants.{Done}
use Rattle.vd_model.specs.Setting.{Setting}
use Rattle.vd_model.specs.Creation.{Creation}
use Rattle.vd_model.specs.Live.{is_open, is_attached}
use Rattle.vd_model.specs.Acts.{Act, Bus, State, Node, Attached, Opened}
use Rattle.vd_model.specs.State.{Max_set}
use Rattle.vd_model.specs.Raw.{control_step}
use Rattle.vd_model.specs.Turn.{Turn, refuse, refusal_turn, refusal_if}
use Rattle.vd_model.specs.DaemonTurns.{walk_turn, fetch_turn, execute_turn, finish_turn}
use Rattle.vd_model.specs.RingTurns.{ring_turn, unring_turn, add_turn, publish_turn, submit_turn, poll_turn}
use Rattle.vd_model.specs.Deeds.{Deed, Made, On, acts_of_device, clock, Seen, device_view}
use Rattle.vd_model.specs.ControlTurns.{plain_creation, control_outcome}
use Rattle.vd_model.specs.History.{History, deeds_of, outcome, needs_session, needs_bus, disk_of, dev_turn, queue_turn, device_turn, device_queue_turn}
use Rattle.vd_laws.specs.Runs.{acts_of, IsMoment}
use Rattle.vd_laws.proofs.IsolationLaw.{name_is, granted, raw_granted, control_granted, if_done_either, control_does}
use Rattle.vd_laws.proofs.Histories.{acts_of_device_same, acts_of_device_other}
use Rattle.vd_ring_laws.specs.ChainLaw.{ChainLaw}
use Rattle.vd_ring_laws.specs.PositionLaw.{PositionLaw}
use Rattle.vd_ring_laws.proofs.Mild.{Mild, dev_mild, walk_mild, execute_mild}
use Rattle.vd_ring_laws.proofs.Fair.{Fair, earlier_fair, mild_fair, fetch_fair, finish_fair}
use Rattle.vd_ring_laws.proofs.Takes.{ring_fair, unring_fair, publish_fair, add_fair, submit_fair, poll_fair}
use Rattle.vd_ring_laws.proofs.Outs.{apart_after}
use Rattle.vd_ring_laws.proofs.Hands.{position_after}

-- ---- a line

refusal_turn_fair : (done : List Act) (o : Option Errno) (turn : Turn Act) → Fair done → Fair (turn.acts ++ done) → Fair ((refuse o turn).acts ++ done)
refusal_turn_fair done None turn fair h = h
refusal_turn_fair done (Some errno) turn fair h = fair

there_fair : (done : List Act) (turn : Creation → Turn Act) (o : Option Creation) → Fair done → ((made : Creation) → Fair ((turn made).acts ++ done)) → Fair ((option_map_or turn o (refusal_turn Nodev)).acts ++ done)
there_fair done turn None fair h = fair
there_fair done turn (Some made) fair h = h made

module _ (x : Setting) (s : Seen) (fair : Fair s.acts) where
  mild : (turn : Turn Act) → Mild turn → Fair (turn.acts ++ s.acts)
  mild turn e = mild_fair turn.acts s.acts e fair

  session : (turn : Turn Act) → Fair (turn.acts ++ s.acts) → Fair ((needs_session s.acts turn).acts ++ s.acts)
  session turn h = refusal_turn_fair s.acts (refusal_if (not (is_open s.acts)) Badf) turn fair h

  placed : (turn : Turn Act) → Fair (turn.acts ++ s.acts) → Fair ((needs_bus s.acts turn).acts ++ s.acts)
  placed turn h = refusal_turn_fair s.acts (refusal_if (not (is_attached s.acts)) Nodev) turn fair h

  queue_fair : (made : Creation) (name : List ℕ) (failed : Bool) (step : QueueStep) → Fair ((queue_turn x made name s failed step).acts ++ s.acts)
  queue_fair made name failed (queue.Walk q head) = session (walk_turn x made s.acts q head) (mild (walk_turn x made s.acts q head) (walk_mild x made s.acts q head))
  queue_fair made name failed (queue.Fetch q) = session (fetch_turn x made s.acts q) (fetch_fair x made s.acts q fair)
  queue_fair made name failed (queue.Execute q) =
      session (execute_turn x made (disk_of made name s) failed s.acts q) (mild (execute_turn x made (disk_of made name s) failed s.acts q) (execute_mild x made (disk_of made name s) failed s.acts q))
  queue_fair made name failed (queue.Finish q) = session (finish_turn x made s.acts q) (finish_fair x made s.acts q fair)
  queue_fair made name failed (queue.Ring q size) = placed (ring_turn x made s.acts q size) (ring_fair x made s.acts fair q size)
  queue_fair made name failed (queue.Unring q) = placed (unring_turn made s.acts q) (unring_fair x made s.acts fair q)
  queue_fair made name failed (queue.Add q parts) = placed (add_turn made s.acts q parts) (add_fair x made s.acts fair q parts)
  queue_fair made name failed (queue.Publish q) = placed (publish_turn x made s.acts q) (publish_fair x made s.acts fair q)
  queue_fair made name failed (queue.Submit q asked) = placed (submit_turn x made s.acts q asked) (submit_fair x made s.acts fair q asked)
  queue_fair made name failed (queue.Poll q) = placed (poll_turn x made s.acts q) (poll_fair x made s.acts fair q)

  device_fair : (step : DevStep) → Fair ((device_turn x s step).acts ++ s.acts)
  device_fair step = there_fair s.acts (λ made. dev_turn x made s step) s.made fair (λ made. mild (dev_turn x made s step) (dev_mild x made s step))

  device_queue_fair : (name : List ℕ) (failed : Bool) (step : QueueStep) → Fair ((device_queue_turn x name s failed step).acts ++ s.acts)
  device_queue_fair name failed step = there_fair s.acts (λ made. queue_turn x made name s failed step) s.made fair (λ made. queue_fair made name failed step)

-- ---- a history

abbrev AllFair : List Deed → Type 0
AllFair done = (d : List ℕ) → Fair (acts_of_device d done)

turn_fair : (name : List ℕ) (turn : Turn Act) (done : List Deed) → Fair (turn.acts ++ acts_of_device name done) → AllFair done → AllFair (map (On name) turn.acts ++ done)
turn_fair name turn done h all d = by (bytes_eq d name) refl where
  by : (b : Bool) → bytes_eq d name ≡ b → Fair (acts_of_device d (map (On name) turn.acts ++ done))
  by true e = subst (λ n. Fair (acts_of_device n (map (On name) turn.acts ++ done))) (sym (name_is d name e)) (subst Fair (sym (acts_of_device_same name turn.acts done)) h)
  by false e = subst Fair (sym (acts_of_device_other d name turn.acts done e)) (all d)

made_fair : (d : List ℕ) (done : List Deed) (b : Bool) → Fair (acts_of_device d done) → Fair (cond b [] (acts_of_device d done))
made_fair d done true h = tt
made_fair d done false h = h

granted_fair : (now_time : ℕ) (step : ControlStep) (done : List Deed) → AllFair done → AllFair (granted now_time step ++ done)
granted_fair t (control.Create name vendor device features queues align config) done all = λ d. made_fair d done (bytes_eq d name) (all d)
granted_fair t (control.Dev name) done all =
    turn_fair name (record { answer = Done []; acts = Bus Attached ∷ State (Max_set 0 256) ∷ Node Opened ∷ [] }) (Made name plain_creation ∷ done)
    (tt, (tt, (tt, made_fair name done (bytes_eq name name) (all name))))
    (λ d. made_fair d done (bytes_eq d name) (all d))
granted_fair t (control.Tick seconds) done all = λ d. (tt, all d)
granted_fair t _ done all = all

control_fair : (x : Setting) (step : ControlStep) (done : List Deed) → AllFair done → AllFair ((control_outcome x done step).deeds ++ done)
control_fair x step done all =
    subst (λ deeds. AllFair (deeds ++ done)) (sym (control_does x done step))
    (elim (if_done_either (control_outcome x done step).answer (control_granted (clock done) step)) [
      | inl e ↦ subst (λ deeds. AllFair (deeds ++ done)) (sym e) (by step)
      | inr e ↦ subst (λ deeds. AllFair (deeds ++ done)) (sym e) all
    ]) where
      raw : (o : Option ControlStep) → AllFair (raw_granted (clock done) o ++ done)
      raw None = all
      raw (Some step) = granted_fair (clock done) step done all

      by : (step : ControlStep) → AllFair (control_granted (clock done) step ++ done)
      by (control.Control number bytes) = raw (control_step number bytes)
      by control.Version = all
      by (control.SetVersion version) = all
      by (control.Create name vendor device features queues align config) = granted_fair (clock done) (control.Create name vendor device features queues align config) done all
      by (control.Destroy name) = all
      by (control.Dev name) = granted_fair (clock done) (control.Dev name) done all
      by (control.Tick seconds) = granted_fair (clock done) (control.Tick seconds) done all
      by (control.Image name first count) = all

step_fair : (x : Setting) (done : List Deed) (step : Step) (failed : Bool) → AllFair done → AllFair ((outcome x done step failed).deeds ++ done)
step_fair x done (Control step) failed all = control_fair x step done all
step_fair x done (Device name step) failed all = turn_fair name (device_turn x (device_view x name done) step) done (device_fair x (device_view x name done) (all name) step) all
step_fair x done (Queue name step) failed all = turn_fair name (device_queue_turn x name (device_view x name done) failed step) done (device_queue_fair x (device_view x name done) (all name) name failed step) all

all_fair : (x : Setting) (h : History) → AllFair (deeds_of x h)
unfolding deeds_of
all_fair x [] = λ d. tt
all_fair x (entry ∷ before) = step_fair x (deeds_of x before) entry.step entry.failed (all_fair x before)

pub fair_after : (x : Setting) (h : History) (d : List ℕ) → Fair (acts_of x h d)
fair_after x h d = all_fair x h d

pub moment_fair : (x : Setting) (h : History) (d : List ℕ) (acts : List Act) → IsMoment x h d acts → Fair acts
moment_fair x h d acts m = earlier_fair m.0 acts (subst Fair m.1 (fair_after x h d))

pub position_law : (x : Setting) (h : History) → PositionLaw x h
position_law x h = record {
  ready = λ d acts m q. (position_after acts q (moment_fair x h d acts m)).ready;
  there = λ d acts m q. (position_after acts q (moment_fair x h d acts m)).there;
  counted = λ d acts m q. (position_after acts q (moment_fair x h d acts m)).counted;
  fetched = λ d acts m q. (position_after acts q (moment_fair x h d acts m)).fetched;
}

pub chain_law : (x : Setting) (h : History) → ChainLaw x h
chain_law x h = λ d acts m q e ring there. apart_after acts q ring (moment_fair x h d acts m) e there
