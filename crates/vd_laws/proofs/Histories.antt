-- Every history is legal for messages.
use Rattle.std.proofs.Common.{◌≡◌, ℕ, Bool, true, false, refl, ap, subst, ◌∙◌, sym, cond, List, [], ◌∷◌, ◌++◌, map, Option, Some, None, inl, inr}
use Rattle.std.specs.Str.{bytes_eq}
use Rattle.vd_model.specs.declared.step.Step.{Step}
use Rattle.vd_model.specs.declared.step.Step.TheVariants.{Control, Device, Queue}
use Rattle.vd_model.specs.declared.step.DevStep.{DevStep}
use Rattle.vd_model.specs.declared.step.ControlStep.{ControlStep}
use Rattle.vd_model.specs.declared.step.ControlStep.TheVariants as control
use Rattle.vd_model.specs.declared.answer.Answer.TheVariants.{Done}
use Rattle.vd_model.specs.Setting.{Setting}
use Rattle.vd_model.specs.Acts.{Act, Bus, State, Node, Attached, Opened, message_acts}
use Rattle.vd_model.specs.State.{Max_set}
use Rattle.vd_model.specs.Raw.{control_step}
use Rattle.vd_model.specs.Turn.{Turn}
use Rattle.vd_model.specs.Deeds.{Deed, Made, On, acts_of_device, clock, device_view}
use Rattle.vd_model.specs.ControlTurns.{plain_creation, control_outcome}
use Rattle.vd_model.specs.History.{History, deeds_of, outcome, device_turn, device_queue_turn}
use Rattle.vd_laws.specs.MessageLaw.{message_acts_of, with_step}
use Rattle.vd_laws.proofs.IsolationLaw.{name_is, is_itself, granted, raw_granted, control_granted, if_done_either, control_does}
use Rattle.vd_laws.proofs.Heard.{Legal, device_fair, device_queue_fair}

pub acts_of_device_same : (d : List ℕ) (acts : List Act) (done : List Deed) → acts_of_device d (map (On d) acts ++ done) ≡ acts ++ acts_of_device d done
acts_of_device_same d [] done = refl
acts_of_device_same d (act ∷ acts) done =
    ap (λ b. cond b (act ∷ acts_of_device d (map (On d) acts ++ done)) (acts_of_device d (map (On d) acts ++ done))) (is_itself d) ∙ ap (λ l. act ∷ l) (acts_of_device_same d acts done)

pub acts_of_device_other : (d name : List ℕ) (acts : List Act) (done : List Deed) → bytes_eq d name ≡ false → acts_of_device d (map (On name) acts ++ done) ≡ acts_of_device d done
acts_of_device_other d name [] done h = refl
acts_of_device_other d name (act ∷ acts) done h =
    ap (λ b. cond b (act ∷ acts_of_device d (map (On name) acts ++ done)) (acts_of_device d (map (On name) acts ++ done))) h ∙ acts_of_device_other d name acts done h

-- the acts on each device's messages are legal
abbrev AllLegal : List Deed → Type 0
AllLegal done = (d : List ℕ) → Legal (message_acts (acts_of_device d done))

-- a line on one device
turn_legal : (name : List ℕ) (turn : Turn Act) (done : List Deed) → (Legal (message_acts (acts_of_device name done)) → Legal (message_acts (turn.acts ++ acts_of_device name done))) → AllLegal done → AllLegal (map (On name) turn.acts ++ done)
turn_legal name turn done fair l d = by (bytes_eq d name) refl where
  by : (b : Bool) → bytes_eq d name ≡ b → Legal (message_acts (acts_of_device d (map (On name) turn.acts ++ done)))
  by true e = subst (λ n. Legal (message_acts (acts_of_device n (map (On name) turn.acts ++ done)))) (sym (name_is d name e))
      (subst (λ a. Legal (message_acts a)) (sym (acts_of_device_same name turn.acts done)) (fair (l name)))
  by false e = subst (λ a. Legal (message_acts a)) (sym (acts_of_device_other d name turn.acts done e)) (l d)

-- a control line
made_legal : (d : List ℕ) (done : List Deed) (b : Bool) → Legal (message_acts (acts_of_device d done)) → Legal (message_acts (cond b [] (acts_of_device d done)))
made_legal d done true l = tt
made_legal d done false l = l

granted_legal : (now_time : ℕ) (step : ControlStep) (done : List Deed) → AllLegal done → AllLegal (granted now_time step ++ done)
granted_legal t control.Version done l = l
granted_legal t (control.SetVersion version) done l = l
granted_legal t (control.Create name vendor device features queues align config) done l = λ d. made_legal d done (bytes_eq d name) (l d)
granted_legal t (control.Destroy name) done l = l
granted_legal t (control.Dev name) done l =
    turn_legal name (record { answer = Done []; acts = Bus Attached ∷ State (Max_set 0 256) ∷ Node Opened ∷ [] }) (Made name plain_creation ∷ done) (λ l. l)
    (λ d. made_legal d done (bytes_eq d name) (l d))
granted_legal t (control.Tick seconds) done l = λ d. (tt, l d)
granted_legal t (control.Image name first count) done l = l
granted_legal t (control.Control number bytes) done l = l

control_legal : (x : Setting) (step : ControlStep) (done : List Deed) → AllLegal done → AllLegal ((control_outcome x done step).deeds ++ done)
control_legal x step done l =
    subst (λ deeds. AllLegal (deeds ++ done)) (sym (control_does x done step))
    (elim (if_done_either (control_outcome x done step).answer (control_granted (clock done) step)) [
      | inl e ↦ subst (λ deeds. AllLegal (deeds ++ done)) (sym e) (by step)
      | inr e ↦ subst (λ deeds. AllLegal (deeds ++ done)) (sym e) l
    ]) where
      raw : (o : Option ControlStep) → AllLegal (raw_granted (clock done) o ++ done)
      raw None = l
      raw (Some step) = granted_legal (clock done) step done l

      by : (step : ControlStep) → AllLegal (control_granted (clock done) step ++ done)
      by (control.Control number bytes) = raw (control_step number bytes)
      by control.Version = l
      by (control.SetVersion version) = l
      by (control.Create name vendor device features queues align config) = granted_legal (clock done) (control.Create name vendor device features queues align config) done l
      by (control.Destroy name) = l
      by (control.Dev name) = granted_legal (clock done) (control.Dev name) done l
      by (control.Tick seconds) = granted_legal (clock done) (control.Tick seconds) done l
      by (control.Image name first count) = l

pub step_legal : (x : Setting) (done : List Deed) (step : Step) (failed : Bool) → AllLegal done → AllLegal ((outcome x done step failed).deeds ++ done)
step_legal x done (Control step) failed l = control_legal x step done l
step_legal x done (Device name step) failed l = turn_legal name (device_turn x (device_view x name done) step) done (device_fair x (device_view x name done) step).legal l
step_legal x done (Queue name step) failed l = turn_legal name (device_queue_turn x name (device_view x name done) failed step) done (device_queue_fair x name (device_view x name done) failed step).legal l

all_legal : (x : Setting) (h : History) → AllLegal (deeds_of x h)
unfolding deeds_of
all_legal x [] = λ d. tt
all_legal x (entry ∷ before) = step_legal x (deeds_of x before) entry.step entry.failed (all_legal x before)

pub history_legal : (x : Setting) (h : History) (d : List ℕ) → Legal (message_acts_of x h d)
history_legal x h d = all_legal x h d

-- what a line on a device adds to what is heard
pub step_heard : (x : Setting) (h : History) (d : List ℕ) (step : DevStep) (failed : Bool)
    → message_acts_of x (with_step h (Device d step) failed) d ≡ message_acts ((device_turn x (device_view x d (deeds_of x h)) step).acts ++ acts_of_device d (deeds_of x h))
unfolding deeds_of
step_heard x h d step failed = ap message_acts (acts_of_device_same d (device_turn x (device_view x d (deeds_of x h)) step).acts (deeds_of x h))
