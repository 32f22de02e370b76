-- Every line's turn is legal, and so are the acts of a history.
use Rattle.std.proofs.Common.{◌≡◌, ℕ, Bool, true, false, refl, ap, subst, ◌∙◌, sym, Option, None, Some, cond, List, [], ◌∷◌, ◌++◌, ◌&&◌, map, not, if◌then◌else◌}
use Rattle.std.specs.Str.{bytes_eq}
use Rattle.std.proofs.lemmas.Slice.Eq.{bytes_eq-Decides}
use Rattle.vd_num.specs.declared.errno.Errno.{Errno}
use Rattle.vd_num.specs.declared.errno.Errno.TheVariants.{Badf, Nodev, Busy}
use Rattle.vd_model.specs.declared.step.Step.{Step}
use Rattle.vd_model.specs.declared.step.Step.TheVariants.{Control, Device, Queue}
use Rattle.vd_model.specs.declared.step.ControlStep.{ControlStep}
use Rattle.vd_model.specs.declared.step.ControlStep.TheVariants as control
use Rattle.vd_model.specs.declared.step.DevStep.{DevStep}
use Rattle.vd_model.specs.declared.step.DevStep.TheVariants as line
use Rattle.vd_model.specs.declared.step.NodeStep.{NodeStep}
use Rattle.vd_model.specs.declared.step.NodeStep.TheVariants as node
use Rattle.vd_model.specs.declared.step.QueueStep.{QueueStep}
use Rattle.vd_model.specs.declared.step.QueueStep.TheVariants as queue
use Rattle.vd_model.specs.Setting.{Setting}
use Rattle.vd_model.specs.Creation.{Creation}
use Rattle.vd_model.specs.Acts.{Act, Node, Driver, Bus, State, Opened, Attached}
use Rattle.vd_model.specs.State.{Max_set}
use Rattle.vd_model.specs.Turn.{Turn, refusal_if, lift}
use Rattle.vd_model.specs.Raw.{Ioctl, Plain_node, Plain_area, Find_entry, Find_info, Tell_features, ioctl_of, control_step}
use Rattle.vd_model.specs.NodeTurns.{opens, plain_turn, ioctl_turn, open_node_turn, node_turn}
use Rattle.vd_model.specs.Live.{is_open, is_attached}
use Rattle.vd_model.specs.AreaTurns.{area_turn}
use Rattle.vd_model.specs.BusTurns.{bus_turn}
use Rattle.vd_model.specs.DriverTurns.{driver_turn}
use Rattle.vd_model.specs.DaemonTurns.{walk_turn, fetch_turn, execute_turn, finish_turn}
use Rattle.vd_model.specs.RingTurns.{ring_turn, unring_turn, add_turn, publish_turn, submit_turn, poll_turn}
use Rattle.vd_model.specs.Deeds.{Deed, Made, On, acts_of_device, Seen, device_view}
use Rattle.vd_model.specs.ControlTurns.{Outcome, refuse_outcome, dev_made, plain_outcome, raw_outcome, control_outcome}
use Rattle.vd_model.specs.History.{History, deeds_of, outcome, device_outcome, needs_session, needs_bus, is_kept, needs_unkept, disk_of, dev_turn, queue_turn, device_turn, device_queue_turn}
use Rattle.vd_laws.specs.Runs.{acts_of}
use Rattle.vd_laws.proofs.Legal.{Legal}
use Rattle.vd_laws.proofs.Refusals.{IsLegalTurn, refuse_turn, there_turn}
use Rattle.vd_laws.proofs.Plain.{IsPlain, plain_legal, bus_plain, node_plain}
use Rattle.vd_laws.proofs.PlainQueues.{walk_plain, fetch_plain, execute_plain, finish_plain}
use Rattle.vd_laws.proofs.DriverTurns.{driver_legal}
use Rattle.vd_laws.proofs.AreaTurns.{area_legal, found_legal}
use Rattle.vd_laws.proofs.RingTurns.{ring_legal, unring_legal, add_legal, publish_legal, submit_turn_legal, poll_legal}

module _ (x : Setting) (made : Creation) (done : List Act) (legal : Legal x done) where
  plain_turns : (turn : Turn Act) → IsPlain turn → IsLegalTurn x done turn
  plain_turns turn e = plain_legal x turn.acts done e legal

  opened_legal : (step : NodeStep) → IsLegalTurn x done (open_node_turn x made done step)
  opened_legal (node.Ioctl number bytes) = by (ioctl_of number bytes) where
    by : (o : Option Ioctl) → IsLegalTurn x done (ioctl_turn x made done o)
    by None = legal
    by (Some (Plain_node step)) = plain_turns (plain_turn made done step) (node_plain made done step)
    by (Some (Plain_area step)) = area_legal x done legal step
    by (Some (Find_entry start last)) = found_legal x done legal start last _ (λ r. legal)
    by (Some (Find_info start last)) = found_legal x done legal start last _ (λ r. legal)
    by (Some Tell_features) = legal
  opened_legal step = plain_turns (plain_turn made done step) (node_plain made done step)

  node_legal : (step : NodeStep) → IsLegalTurn x done (node_turn x made done step)
  node_legal step = refuse_turn x done legal (refusal_if (not (opens step) && not (is_open done)) Badf) (open_node_turn x made done step) (λ e. opened_legal step)

  session_legal : (turn : Turn Act) → IsLegalTurn x done turn → IsLegalTurn x done (needs_session done turn)
  session_legal turn h = refuse_turn x done legal (refusal_if (not (is_open done)) Badf) turn (λ e. h)

  attached_legal : (turn : Turn Act) → IsLegalTurn x done turn → IsLegalTurn x done (needs_bus done turn)
  attached_legal turn h = refuse_turn x done legal (refusal_if (not (is_attached done)) Nodev) turn (λ e. h)

-- ---- a line on a device

dev_legal : (x : Setting) (made : Creation) (s : Seen) → Legal x s.acts → (step : DevStep) → IsLegalTurn x s.acts (dev_turn x made s step)
dev_legal x made s legal (line.Node step) = node_legal x made s.acts legal step
dev_legal x made s legal (line.Area step) = session_legal x made s.acts legal (lift Node (area_turn x s.acts step)) (area_legal x s.acts legal step)
dev_legal x made s legal (line.Bus step) = plain_turns x made s.acts legal (bus_turn made s.now s.acts step) (bus_plain made s.now s.acts step)
dev_legal x made s legal (line.Driver step) =
    attached_legal x made s.acts legal (needs_unkept made s.acts step (lift Driver (driver_turn x s.acts step)))
    (refuse_turn x s.acts legal (refusal_if (is_kept made s.acts step) Busy) (lift Driver (driver_turn x s.acts step)) (λ e. driver_legal x s.acts legal step))

queue_legal : (x : Setting) (made : Creation) (name : List ℕ) (s : Seen) (failed : Bool) → Legal x s.acts → (step : QueueStep) → IsLegalTurn x s.acts (queue_turn x made name s failed step)
queue_legal x made name s failed legal (queue.Walk q head) = session_legal x made s.acts legal (walk_turn x made s.acts q head) (plain_turns x made s.acts legal (walk_turn x made s.acts q head) (walk_plain x made s.acts q head))
queue_legal x made name s failed legal (queue.Fetch q) = session_legal x made s.acts legal (fetch_turn x made s.acts q) (plain_turns x made s.acts legal (fetch_turn x made s.acts q) (fetch_plain x made s.acts q))
queue_legal x made name s failed legal (queue.Execute q) =
    session_legal x made s.acts legal (execute_turn x made (disk_of made name s) failed s.acts q) (plain_turns x made s.acts legal (execute_turn x made (disk_of made name s) failed s.acts q) (execute_plain x made (disk_of made name s) failed s.acts q))
queue_legal x made name s failed legal (queue.Finish q) = session_legal x made s.acts legal (finish_turn x made s.acts q) (plain_turns x made s.acts legal (finish_turn x made s.acts q) (finish_plain x made s.acts q))
queue_legal x made name s failed legal (queue.Ring q size) = attached_legal x made s.acts legal (ring_turn x made s.acts q size) (ring_legal x made s.acts legal q size)
queue_legal x made name s failed legal (queue.Unring q) = attached_legal x made s.acts legal (unring_turn made s.acts q) (unring_legal x made s.acts legal q)
queue_legal x made name s failed legal (queue.Add q parts) = attached_legal x made s.acts legal (add_turn made s.acts q parts) (add_legal x made s.acts legal q parts)
queue_legal x made name s failed legal (queue.Publish q) = attached_legal x made s.acts legal (publish_turn x made s.acts q) (publish_legal x made s.acts legal q)
queue_legal x made name s failed legal (queue.Submit q asked) = attached_legal x made s.acts legal (submit_turn x made s.acts q asked) (submit_turn_legal x made s.acts legal q asked)
queue_legal x made name s failed legal (queue.Poll q) = attached_legal x made s.acts legal (poll_turn x made s.acts q) (poll_legal x made s.acts legal q)

device_legal : (x : Setting) (s : Seen) → Legal x s.acts → (step : DevStep) → IsLegalTurn x s.acts (device_turn x s step)
device_legal x s legal step = there_turn x s.acts legal (λ made. dev_turn x made s step) s.made Nodev (λ made e. dev_legal x made s legal step)

device_queue_legal : (x : Setting) (name : List ℕ) (s : Seen) (failed : Bool) → Legal x s.acts → (step : QueueStep) → IsLegalTurn x s.acts (device_queue_turn x name s failed step)
device_queue_legal x name s failed legal step = there_turn x s.acts legal (λ made. queue_turn x made name s failed step) s.made Nodev (λ made e. queue_legal x made name s failed legal step)

-- ---- a history

-- what a turn on some name adds to the acts of a device
pub acts_of_device_on : (d name : List ℕ) (acts : List Act) (done : List Deed) → acts_of_device d (map (On name) acts ++ done) ≡ (if bytes_eq d name then acts else []) ++ acts_of_device d done
acts_of_device_on d name acts done = by (bytes_eq d name) refl where
  by : (b : Bool) → bytes_eq d name ≡ b → acts_of_device d (map (On name) acts ++ done) ≡ (if b then acts else []) ++ acts_of_device d done
  by true e = mine acts where
    mine : (acts : List Act) → acts_of_device d (map (On name) acts ++ done) ≡ acts ++ acts_of_device d done
    mine [] = refl
    mine (act ∷ acts) = ap (λ b. cond b (act ∷ acts_of_device d (map (On name) acts ++ done)) (acts_of_device d (map (On name) acts ++ done))) e ∙ ap (λ l. act ∷ l) (mine acts)
  by false e = theirs acts where
    theirs : (acts : List Act) → acts_of_device d (map (On name) acts ++ done) ≡ acts_of_device d done
    theirs [] = refl
    theirs (act ∷ acts) = ap (λ b. cond b (act ∷ acts_of_device d (map (On name) acts ++ done)) (acts_of_device d (map (On name) acts ++ done))) e ∙ theirs acts

-- the turn of a name's line is legal on each device
device_outcome_legal : (x : Setting) (d name : List ℕ) (done : List Deed) (turn : Turn Act) → ((e : List ℕ) → Legal x (acts_of_device e done)) → IsLegalTurn x (acts_of_device name done) turn → Legal x (acts_of_device d ((device_outcome name turn).deeds ++ done))
device_outcome_legal x d name done turn each h = subst (Legal x) (sym (acts_of_device_on d name turn.acts done)) (by (bytes_eq d name) refl) where
  by : (b : Bool) → bytes_eq d name ≡ b → Legal x ((if b then turn.acts else []) ++ acts_of_device d done)
  by true e = subst (λ n. Legal x (turn.acts ++ acts_of_device n done)) (sym ((bytes_eq-Decides d name).0 e)) h
  by false e = each d

refuse_deeds : (x : Setting) (d : List ℕ) (done : List Deed) (o : Option Errno) (outcome : Outcome) → Legal x (acts_of_device d done) → Legal x (acts_of_device d (outcome.deeds ++ done)) → Legal x (acts_of_device d ((refuse_outcome o outcome).deeds ++ done))
refuse_deeds x d done None outcome legal h = h
refuse_deeds x d done (Some errno) outcome legal h = legal

module _ (x : Setting) (d : List ℕ) (done : List Deed) (legal : Legal x (acts_of_device d done)) where
  made_legal : (name : List ℕ) (creation : Creation) → Legal x (acts_of_device d (Made name creation ∷ done))
  made_legal name creation = by (bytes_eq d name) where
    by : (b : Bool) → Legal x (if b then [] else acts_of_device d done)
    by true = tt
    by false = legal

  dev_made_legal : (name : List ℕ) → Legal x (acts_of_device d ((dev_made name).deeds ++ done))
  dev_made_legal name = by (bytes_eq d name) where
    by : (b : Bool) → Legal x (cond b (Bus Attached ∷ cond b (State (Max_set 0 256) ∷ cond b (Node Opened ∷ cond b [] (acts_of_device d done)) (cond b [] (acts_of_device d done))) (cond b (Node Opened ∷ cond b [] (acts_of_device d done)) (cond b [] (acts_of_device d done))))
        (cond b (State (Max_set 0 256) ∷ cond b (Node Opened ∷ cond b [] (acts_of_device d done)) (cond b [] (acts_of_device d done))) (cond b (Node Opened ∷ cond b [] (acts_of_device d done)) (cond b [] (acts_of_device d done)))))
    by true = (tt, (tt, (tt, tt)))
    by false = legal

  plain_outcome_legal : (step : ControlStep) → Legal x (acts_of_device d ((plain_outcome x done step).deeds ++ done))
  plain_outcome_legal control.Version = legal
  plain_outcome_legal (control.SetVersion version) = search (refuse_deeds, legal)
  plain_outcome_legal (control.Create name vendor device features queues align config) = search (refuse_deeds, legal, made_legal)
  plain_outcome_legal (control.Destroy name) = search (refuse_deeds, legal)
  plain_outcome_legal (control.Dev name) = search (refuse_deeds, legal, dev_made_legal)
  plain_outcome_legal (control.Tick seconds) = search (refuse_deeds, legal)
  plain_outcome_legal (control.Image name first count) = search (refuse_deeds, legal)
  plain_outcome_legal (control.Control number bytes) = legal

  raw_legal : (o : Option ControlStep) → Legal x (acts_of_device d ((raw_outcome x done o).deeds ++ done))
  raw_legal None = legal
  raw_legal (Some control.Version) = legal
  raw_legal (Some step) = plain_outcome_legal step

  control_legal : (step : ControlStep) → Legal x (acts_of_device d ((control_outcome x done step).deeds ++ done))
  control_legal (control.Control number bytes) = raw_legal (control_step number bytes)
  control_legal step = plain_outcome_legal step

outcome_legal : (x : Setting) (d : List ℕ) (done : List Deed) → ((e : List ℕ) → Legal x (acts_of_device e done)) → (step : Step) (failed : Bool) → Legal x (acts_of_device d ((outcome x done step failed).deeds ++ done))
outcome_legal x d done each (Control step) failed = control_legal x d done (each d) step
outcome_legal x d done each (Device name step) failed = device_outcome_legal x d name done (device_turn x (device_view x name done) step) each (device_legal x (device_view x name done) (each name) step)
outcome_legal x d done each (Queue name step) failed = device_outcome_legal x d name done (device_queue_turn x name (device_view x name done) failed step) each (device_queue_legal x name (device_view x name done) failed (each name) step)

pub acts_of_device_legal : (x : Setting) (h : History) (d : List ℕ) → Legal x (acts_of x h d)
unfolding deeds_of
acts_of_device_legal x [] d = tt
acts_of_device_legal x (entry ∷ before) d = outcome_legal x d (deeds_of x before) (acts_of_device_legal x before) entry.step entry.failed
