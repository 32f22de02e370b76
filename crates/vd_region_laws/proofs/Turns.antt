-- After every history each device's rings are in live regions, and what was tested of each region and put held.
use Rattle.std.proofs.Common.{◌≡◌, ℕ, Bool, true, false, refl, subst, sym, Option, None, Some, cond, List, [], ◌∷◌, ◌++◌, map, not, if◌then◌else◌, inl, inr}
use Rattle.std.specs.Option.{option_map_or}
use Rattle.std.specs.Str.{bytes_eq}
use Rattle.vd_num.specs.declared.errno.Errno.TheVariants.{Badf, Nodev, Busy}
use Rattle.vd_model.specs.declared.step.Step.{Step}
use Rattle.vd_model.specs.declared.step.Step.TheVariants.{Control, Device, Queue}
use Rattle.vd_model.specs.declared.step.ControlStep.{ControlStep}
use Rattle.vd_model.specs.declared.step.ControlStep.TheVariants as control
use Rattle.vd_model.specs.declared.step.DevStep.{DevStep}
use Rattle.vd_model.specs.declared.step.DevStep.TheVariants as line
use Rattle.vd_model.specs.declared.step.DriverStep.{DriverStep}
use Rattle.vd_model.specs.declared.step.QueueStep.{QueueStep}
use Rattle.vd_model.specs.declared.step.QueueStep.TheVariants as queue
use Rattle.vd_model.specs.Setting.{Setting}
use Rattle.vd_model.specs.Creation.{Creation}
use Rattle.vd_model.specs.Acts.{Act, Node, Driver, Bus, State, Message_act, Opened, Attached}
use Rattle.vd_model.specs.State.{Max_set}
use Rattle.vd_model.specs.Messages.{Elapsed}
use Rattle.vd_model.specs.Live.{is_open, is_attached, live_regions}
use Rattle.vd_model.specs.Turn.{Turn, refusal_turn, refusal_if, lift}
use Rattle.vd_model.specs.Raw.{control_step}
use Rattle.vd_model.specs.AreaTurns.{area_turn}
use Rattle.vd_model.specs.BusTurns.{bus_turn}
use Rattle.vd_model.specs.DriverTurns.{driver_turn}
use Rattle.vd_model.specs.DaemonTurns.{walk_turn, fetch_turn, execute_turn, finish_turn}
use Rattle.vd_model.specs.Deeds.{Deed, Made, On, acts_of_device, made_with, clock, Seen, device_view}
use Rattle.vd_model.specs.ControlTurns.{plain_creation, control_outcome}
use Rattle.vd_model.specs.History.{History, deeds_of, outcome, needs_session, needs_bus, is_kept, needs_unkept, disk_of, dev_turn, queue_turn, device_turn, device_queue_turn}
use Rattle.vd_laws.proofs.Legal.{Legal}
use Rattle.vd_laws.proofs.Refusals.{not_given}
use Rattle.vd_laws.proofs.Plain.{IsPlain, bus_plain}
use Rattle.vd_laws.proofs.PlainQueues.{walk_plain, fetch_plain, execute_plain, finish_plain}
use Rattle.vd_laws.proofs.Turns.{acts_of_device_on, acts_of_device_legal}
use Rattle.vd_laws.proofs.IsolationLaw.{name_is, granted, raw_granted, control_granted, if_done_either, control_does}
use Rattle.vd_region_laws.proofs.Leaves.{refused}
use Rattle.vd_region_laws.proofs.Standing.{Standing, AreQuiet, nothing_stands, nodes_quiet, plain_quiet, quiet_stands}
use Rattle.vd_region_laws.proofs.Lines.{node_quiet, driver_stands}
use Rattle.vd_region_laws.proofs.RingLines.{ring_turn_stands, unring_stands, add_stands, publish_stands, submit_stands, poll_stands}

-- ---- a line on a device

module _ (x : Setting) (made : Creation) (done : List Act) (s : Standing x (Some made) done) where
  abbrev Stands : List Act → Type 0
  Stands acts = Standing x (Some made) (acts ++ done)

  quiets : (acts : List Act) → AreQuiet x (live_regions done) acts → Stands acts
  quiets acts quiet = quiet_stands x (Some made) acts done quiet s

  plains : (turn : Turn Act) → IsPlain turn → Stands turn.acts
  plains turn e = quiets turn.acts (plain_quiet x (live_regions done) turn.acts e)

  session : (turn : Turn Act) → Stands turn.acts → Stands (needs_session done turn).acts
  session turn h = refused Stands s (refusal_if (not (is_open done)) Badf) turn (λ e. h)

  bus : (turn : Turn Act) → Stands turn.acts → Stands (needs_bus done turn).acts
  bus turn h = refused Stands s (refusal_if (not (is_attached done)) Nodev) turn (λ e. h)

  driver_line : (step : DriverStep) → Stands (needs_unkept made done step (lift Driver (driver_turn x done step))).acts
  driver_line step = refused Stands s (refusal_if (is_kept made done step) Busy) (lift Driver (driver_turn x done step)) (λ e.
      driver_stands x made done s step (λ region f. subst (λ step. is_kept made done step ≡ false) f (not_given (is_kept made done step) Busy e)))

dev_stands : (x : Setting) (made : Creation) (v : Seen) → Standing x (Some made) v.acts → (step : DevStep) → Standing x (Some made) ((dev_turn x made v step).acts ++ v.acts)
dev_stands x made v s (line.Node step) = quiets x made v.acts s _ (node_quiet x made v.acts step)
dev_stands x made v s (line.Area step) = session x made v.acts s (lift Node (area_turn x v.acts step)) (quiets x made v.acts s _ (nodes_quiet x (live_regions v.acts) (area_turn x v.acts step).acts))
dev_stands x made v s (line.Bus step) = plains x made v.acts s (bus_turn made v.now v.acts step) (bus_plain made v.now v.acts step)
dev_stands x made v s (line.Driver step) = bus x made v.acts s _ (driver_line x made v.acts s step)

queue_stands : (x : Setting) (made : Creation) (name : List ℕ) (v : Seen) (failed : Bool) → Legal x v.acts → Standing x (Some made) v.acts → (step : QueueStep)
    → Standing x (Some made) ((queue_turn x made name v failed step).acts ++ v.acts)
queue_stands x made name v failed legal s (queue.Walk q head) = session x made v.acts s _ (plains x made v.acts s (walk_turn x made v.acts q head) (walk_plain x made v.acts q head))
queue_stands x made name v failed legal s (queue.Fetch q) = session x made v.acts s _ (plains x made v.acts s (fetch_turn x made v.acts q) (fetch_plain x made v.acts q))
queue_stands x made name v failed legal s (queue.Execute q) =
    session x made v.acts s _ (plains x made v.acts s (execute_turn x made (disk_of made name v) failed v.acts q) (execute_plain x made (disk_of made name v) failed v.acts q))
queue_stands x made name v failed legal s (queue.Finish q) = session x made v.acts s _ (plains x made v.acts s (finish_turn x made v.acts q) (finish_plain x made v.acts q))
queue_stands x made name v failed legal s (queue.Ring q size) = bus x made v.acts s _ (ring_turn_stands x made v.acts legal s q size)
queue_stands x made name v failed legal s (queue.Unring q) = bus x made v.acts s _ (unring_stands x made v.acts legal s q)
queue_stands x made name v failed legal s (queue.Add q parts) = bus x made v.acts s _ (add_stands x made v.acts legal s q parts)
queue_stands x made name v failed legal s (queue.Publish q) = bus x made v.acts s _ (publish_stands x made v.acts legal s q)
queue_stands x made name v failed legal s (queue.Submit q asked) = bus x made v.acts s _ (submit_stands x made v.acts legal s q asked)
queue_stands x made name v failed legal s (queue.Poll q) = bus x made v.acts s _ (poll_stands x made v.acts legal s q)

module _ (x : Setting) (v : Seen) where
  -- a line on a device that is there
  there : (turn : Creation → Turn Act) → ((made : Creation) → Standing x (Some made) v.acts → Standing x (Some made) ((turn made).acts ++ v.acts)) → Standing x v.made v.acts
      → Standing x v.made ((option_map_or turn v.made (refusal_turn Nodev)).acts ++ v.acts)
  there turn h = by v.made where
    by : (o : Option Creation) → Standing x o v.acts → Standing x o ((option_map_or turn o (refusal_turn Nodev)).acts ++ v.acts)
    by None s = s
    by (Some made) s = h made s

  device_stands : Standing x v.made v.acts → (step : DevStep) → Standing x v.made ((device_turn x v step).acts ++ v.acts)
  device_stands s step = there (λ made. dev_turn x made v step) (λ made t. dev_stands x made v t step) s

  device_queue_stands : (name : List ℕ) (failed : Bool) → Legal x v.acts → Standing x v.made v.acts → (step : QueueStep) → Standing x v.made ((device_queue_turn x name v failed step).acts ++ v.acts)
  device_queue_stands name failed legal s step = there (λ made. queue_turn x made name v failed step) (λ made t. queue_stands x made name v failed legal t step) s

-- ---- a history

abbrev AllStand : Setting → List Deed → Type 0
AllStand x done = (d : List ℕ) → Standing x (made_with d done) (acts_of_device d done)

made_on : (d name : List ℕ) (acts : List Act) (done : List Deed) → made_with d (map (On name) acts ++ done) ≡ made_with d done
made_on d name [] done = refl
made_on d name (act ∷ acts) done = made_on d name acts done

turn_stands : (x : Setting) (name : List ℕ) (turn : Turn Act) (done : List Deed) → (Standing x (made_with name done) (acts_of_device name done) → Standing x (made_with name done) (turn.acts ++ acts_of_device name done))
    → AllStand x done → AllStand x (map (On name) turn.acts ++ done)
turn_stands x name turn done h all d =
    subst (λ o. Standing x o (acts_of_device d (map (On name) turn.acts ++ done))) (sym (made_on d name turn.acts done))
    (subst (Standing x (made_with d done)) (sym (acts_of_device_on d name turn.acts done)) (by (bytes_eq d name) refl)) where
      by : (b : Bool) → bytes_eq d name ≡ b → Standing x (made_with d done) ((if b then turn.acts else []) ++ acts_of_device d done)
      by true e = subst (λ n. Standing x (made_with n done) (turn.acts ++ acts_of_device n done)) (sym (name_is d name e)) (h (all name))
      by false e = all d

module _ (x : Setting) (done : List Deed) (all : AllStand x done) where
  made_stands : (name : List ℕ) (creation : Creation) → AllStand x (Made name creation ∷ done)
  made_stands name creation d = by (bytes_eq d name) where
    by : (b : Bool) → Standing x (cond b (Some creation) (made_with d done)) (cond b [] (acts_of_device d done))
    by true = nothing_stands x (Some creation)
    by false = all d

  gone_stands : (d name : List ℕ) → Standing x (if bytes_eq d name then None else made_with d done) (acts_of_device d done)
  gone_stands d name = by (bytes_eq d name) where
    by : (b : Bool) → Standing x (cond b None (made_with d done)) (acts_of_device d done)
    by true = (let s = all d in record { allowed = s.allowed; own = tt; housed = s.housed; apart = s.apart })
    by false = all d

  dev_made_stands : (d name : List ℕ) → Standing x (made_with d (granted 0 (control.Dev name) ++ done)) (acts_of_device d (granted 0 (control.Dev name) ++ done))
  dev_made_stands d name = by (bytes_eq d name) where
    by : (b : Bool) → Standing x (cond b (Some plain_creation) (made_with d done)) (cond b (Bus Attached ∷ cond b (State (Max_set 0 256) ∷ cond b (Node Opened ∷ cond b [] (acts_of_device d done)) (cond b [] (acts_of_device d done))) (cond b (Node Opened ∷ cond b [] (acts_of_device d done)) (cond b [] (acts_of_device d done))))
        (cond b (State (Max_set 0 256) ∷ cond b (Node Opened ∷ cond b [] (acts_of_device d done)) (cond b [] (acts_of_device d done))) (cond b (Node Opened ∷ cond b [] (acts_of_device d done)) (cond b [] (acts_of_device d done)))))
    by true = quiet_stands x (Some plain_creation) (Bus Attached ∷ State (Max_set 0 256) ∷ Node Opened ∷ []) [] (tt, (tt, (tt, tt))) (nothing_stands x (Some plain_creation))
    by false = all d

  granted_stands : (now : ℕ) (step : ControlStep) → AllStand x (granted now step ++ done)
  granted_stands now (control.Create name vendor device features queues align config) = made_stands name (record { features = features; queues = queues; config = config })
  granted_stands now (control.Destroy name) = λ d. gone_stands d name
  granted_stands now (control.Dev name) = λ d. dev_made_stands d name
  granted_stands now (control.Tick seconds) = λ d. quiet_stands x (made_with d done) (Message_act (Elapsed _) ∷ []) (acts_of_device d done) (tt, tt) (all d)
  granted_stands now (control.Image name first count) = λ d. all d
  granted_stands now _ = all

  control_granted_stands : (now : ℕ) (step : ControlStep) → AllStand x (control_granted now step ++ done)
  control_granted_stands now (control.Control number bytes) = by (control_step number bytes) where
    by : (o : Option ControlStep) → AllStand x (raw_granted now o ++ done)
    by None = all
    by (Some step) = granted_stands now step
  control_granted_stands now control.Version = all
  control_granted_stands now (control.SetVersion version) = all
  control_granted_stands now (control.Create name vendor device features queues align config) = granted_stands now (control.Create name vendor device features queues align config)
  control_granted_stands now (control.Destroy name) = granted_stands now (control.Destroy name)
  control_granted_stands now (control.Dev name) = granted_stands now (control.Dev name)
  control_granted_stands now (control.Tick seconds) = granted_stands now (control.Tick seconds)
  control_granted_stands now (control.Image name first count) = granted_stands now (control.Image name first count)

  control_stands : (step : ControlStep) → AllStand x ((control_outcome x done step).deeds ++ done)
  control_stands step =
      subst (λ deeds. AllStand x (deeds ++ done)) (sym (control_does x done step))
      (elim (if_done_either (control_outcome x done step).answer (control_granted (clock done) step)) [
        | inl e ↦ subst (λ deeds. AllStand x (deeds ++ done)) (sym e) (control_granted_stands (clock done) step)
        | inr e ↦ subst (λ deeds. AllStand x (deeds ++ done)) (sym e) all
      ])

  step_stands : ((d : List ℕ) → Legal x (acts_of_device d done)) → (step : Step) (failed : Bool) → AllStand x ((outcome x done step failed).deeds ++ done)
  step_stands legal (Control step) failed = control_stands step
  step_stands legal (Device name step) failed = turn_stands x name (device_turn x (device_view x name done) step) done (λ s. device_stands x (device_view x name done) s step) all
  step_stands legal (Queue name step) failed =
      turn_stands x name (device_queue_turn x name (device_view x name done) failed step) done (λ s. device_queue_stands x (device_view x name done) name failed (legal name) s step) all

pub all_stand : (x : Setting) (h : History) → AllStand x (deeds_of x h)
unfolding deeds_of
all_stand x [] = λ d. nothing_stands x None
all_stand x (entry ∷ before) = step_stands x (deeds_of x before) (all_stand x before) (acts_of_device_legal x before) entry.step entry.failed
