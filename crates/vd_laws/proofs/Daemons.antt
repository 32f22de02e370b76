-- A daemon's lines make no act of a driver.
use Rattle.std.proofs.Common.{◌≡◌, ℕ, Bool, true, false, refl, ap, ◌∙◌, Option, None, Some, List, [], ◌∷◌, ◌++◌, if◌then◌else◌}
use Rattle.std.specs.List.{list_all}
use Rattle.std.specs.Str.{bytes_eq}
use Rattle.std.specs.Option.{option_map_or}
use Rattle.std.proofs.lemmas.Bool.{and_parts}
use Rattle.vd_num.specs.declared.errno.Errno.{Errno}
use Rattle.vd_num.specs.declared.errno.Errno.TheVariants.{Nodev}
use Rattle.vd_model.specs.declared.step.Step.{Step}
use Rattle.vd_model.specs.declared.step.Step.TheVariants.{Device, Queue}
use Rattle.vd_model.specs.declared.step.DevStep.{DevStep}
use Rattle.vd_model.specs.declared.step.DevStep.TheVariants as line
use Rattle.vd_model.specs.declared.step.QueueStep.{QueueStep}
use Rattle.vd_model.specs.declared.step.QueueStep.TheVariants as queue
use Rattle.vd_model.specs.declared.step.NodeStep.{NodeStep}
use Rattle.vd_model.specs.Setting.{Setting}
use Rattle.vd_model.specs.Creation.{Creation}
use Rattle.vd_model.specs.Acts.{Act, Node, Driver}
use Rattle.vd_model.specs.Puts.{Ram, last_put, ram}
use Rattle.vd_model.specs.Turn.{Turn, refusal_turn, lift}
use Rattle.vd_model.specs.AreaTurns.{area_turn}
use Rattle.vd_model.specs.NodeTurns.{node_turn}
use Rattle.vd_model.specs.Deeds.{Deed, acts_of_device, Seen, device_view}
use Rattle.vd_model.specs.History.{History, deeds_of, disk_of, needs_session, dev_turn, queue_turn, device_turn, device_queue_turn, device_outcome, outcome}
use Rattle.vd_line_acts.specs.LineActs.{is_node_line_act}
use Rattle.vd_line_acts.proofs.Passing.{wider, lifted_pass, refuse_passes}
use Rattle.vd_line_acts.proofs.NodeLines.{node_line}
use Rattle.vd_laws.specs.Runs.{acts_of}
use Rattle.vd_laws.specs.MemoryLaw.{is_daemons}
use Rattle.vd_laws.proofs.Plain.{is_plain, IsPlain}
use Rattle.vd_laws.proofs.PlainQueues.{walk_plain, fetch_plain, execute_plain, finish_plain}
use Rattle.vd_laws.proofs.Turns.{acts_of_device_on}

-- the act isn't a driver's
abbrev is_other : Act → Bool
is_other (Driver act) = false
is_other _ = true

abbrev IsOthers : Turn Act → Type 0
IsOthers turn = list_all is_other turn.acts ≡ true

plain_other : (act : Act) → is_plain act ≡ true → is_other act ≡ true
plain_other (Driver act) e = e
plain_other _ e = refl

plain_others : (acts : List Act) → list_all is_plain acts ≡ true → list_all is_other acts ≡ true
plain_others acts e = wider is_plain is_other plain_other acts e

-- ---- the lines

area_others : (x : Setting) (made : Creation) (s : Seen) (step : _) → IsOthers (dev_turn x made s (line.Area step))
area_others x made s step = refuse_passes is_other _ (lift Node (area_turn x s.acts step)) (lifted_pass is_other Node (λ act. refl) (area_turn x s.acts step).acts)

node_other : (act : Act) → is_node_line_act act ≡ true → is_other act ≡ true
node_other (Driver act) e = cc
node_other _ e = refl

node_line_others : (x : Setting) (made : Creation) (s : Seen) (step : NodeStep) → IsOthers (dev_turn x made s (line.Node step))
node_line_others x made s step = wider is_node_line_act is_other node_other (node_turn x made s.acts step).acts (node_line x made s.acts step)

-- a turn on a device that is there, and else a refusal
made_others : (turn : Creation → Turn Act) (o : Option Creation) (errno : Errno) → ((made : Creation) → IsOthers (turn made)) → IsOthers (option_map_or turn o (refusal_turn errno))
made_others turn None errno e = refl
made_others turn (Some made) errno e = e made

-- ---- a buffer's bytes

next_ram : (g : ℕ) (act : Act) (acts : List Act) (k i : ℕ) → is_other act ≡ true → last_put g (act ∷ acts) (Ram k i) ≡ last_put g acts (Ram k i)
next_ram g (Driver act) acts k i e = cc
next_ram g _ acts k i e = refl

others_ram : (g : ℕ) (made acts : List Act) (k i : ℕ) → list_all is_other made ≡ true → last_put g (made ++ acts) (Ram k i) ≡ last_put g acts (Ram k i)
others_ram g [] acts k i e = refl
others_ram g (act ∷ made) acts k i e =
    let p = and_parts (is_other act) (list_all is_other made) e in
    next_ram g act (made ++ acts) k i p.0 ∙ others_ram g made acts k i p.1

turn_ram : (g : ℕ) (d name : List ℕ) (turn : Turn Act) (done : List Deed) (k i : ℕ) → IsOthers turn → last_put g (acts_of_device d ((device_outcome name turn).deeds ++ done)) (Ram k i) ≡ last_put g (acts_of_device d done) (Ram k i)
turn_ram g d name turn done k i e = ap (λ l. last_put g l (Ram k i)) (acts_of_device_on d name turn.acts done) ∙ by (bytes_eq d name) where
  by : (b : Bool) → last_put g ((if b then turn.acts else []) ++ acts_of_device d done) (Ram k i) ≡ last_put g (acts_of_device d done) (Ram k i)
  by true = others_ram g turn.acts (acts_of_device d done) k i e
  by false = refl

dev_ram : (g : ℕ) (x : Setting) (done : List Deed) (d name : List ℕ) (step : DevStep) (k i : ℕ) → ((made : Creation) → IsOthers (dev_turn x made (device_view x name done) step))
    → last_put g (acts_of_device d ((device_outcome name (device_turn x (device_view x name done) step)).deeds ++ done)) (Ram k i) ≡ last_put g (acts_of_device d done) (Ram k i)
dev_ram g x done d name step k i e =
    turn_ram g d name (device_turn x (device_view x name done) step) done k i (made_others (λ made. dev_turn x made (device_view x name done) step) (device_view x name done).made Nodev e)

queue_ram : (g : ℕ) (x : Setting) (done : List Deed) (d name : List ℕ) (failed : Bool) (step : QueueStep) (k i : ℕ) → ((made : Creation) → IsOthers (queue_turn x made name (device_view x name done) failed step))
    → last_put g (acts_of_device d ((device_outcome name (device_queue_turn x name (device_view x name done) failed step)).deeds ++ done)) (Ram k i) ≡ last_put g (acts_of_device d done) (Ram k i)
queue_ram g x done d name failed step k i e =
    turn_ram g d name (device_queue_turn x name (device_view x name done) failed step) done k i (made_others (λ made. queue_turn x made name (device_view x name done) failed step) (device_view x name done).made Nodev e)

-- the block daemon's turns
session_others : (s : Seen) (turn : Turn Act) → IsPlain turn → IsOthers (needs_session s.acts turn)
session_others s turn e = refuse_passes is_other _ turn (plain_others turn.acts e)

step_ram : (x : Setting) (done : List Deed) (d : List ℕ) (step : Step) (failed : Bool) → is_daemons step ≡ true
    → (k i : ℕ) → last_put x.per_page (acts_of_device d ((outcome x done step failed).deeds ++ done)) (Ram k i) ≡ last_put x.per_page (acts_of_device d done) (Ram k i)
step_ram x done d (Device name (line.Node step)) failed e k i = dev_ram x.per_page x done d name (line.Node step) k i (λ made. node_line_others x made (device_view x name done) step)
step_ram x done d (Device name (line.Area step)) failed e k i = dev_ram x.per_page x done d name (line.Area step) k i (λ made. area_others x made (device_view x name done) step)
step_ram x done d (Queue name (queue.Walk q head)) failed e k i = queue_ram x.per_page x done d name failed (queue.Walk q head) k i (λ made. session_others (device_view x name done) _ (walk_plain x made (acts_of_device name done) q head))
step_ram x done d (Queue name (queue.Fetch q)) failed e k i = queue_ram x.per_page x done d name failed (queue.Fetch q) k i (λ made. session_others (device_view x name done) _ (fetch_plain x made (acts_of_device name done) q))
step_ram x done d (Queue name (queue.Execute q)) failed e k i =
    queue_ram x.per_page x done d name failed (queue.Execute q) k i (λ made. session_others (device_view x name done) _ (execute_plain x made (disk_of made name (device_view x name done)) failed (acts_of_device name done) q))
step_ram x done d (Queue name (queue.Finish q)) failed e k i = queue_ram x.per_page x done d name failed (queue.Finish q) k i (λ made. session_others (device_view x name done) _ (finish_plain x made (acts_of_device name done) q))
step_ram x done d _ failed e k i = cc

pub daemons_ram : (x : Setting) (h : History) (d : List ℕ) (step : Step) (failed : Bool) → is_daemons step ≡ true
    → (k i : ℕ) → ram x.per_page (acts_of x (record { step = step; failed = failed } ∷ h) d) k i ≡ ram x.per_page (acts_of x h d) k i
unfolding deeds_of
daemons_ram x h d step failed e k i = ap (λ p. p.byte) (step_ram x (deeds_of x h) d step failed e k i)
