-- What a device's lines may look at is made by the entries of its part alone.
use Rattle.std.proofs.Common.{◌≡◌, ◌⊎◌, inl, inr, ℕ, ◌+◌, ◌*◌, ◌^◌, Bool, true, false, refl, ap, subst, ◌∙◌, sym, Option, None, Some, cond, nat_lt, nat_le, List, [], ◌∷◌, ◌++◌, ◌||◌, ◌&&◌, not, map, is_some, ◌==◌}
use Rattle.std.specs.Option.{option_map_or}
use Rattle.std.specs.Str.{bytes_eq}
use Rattle.std.proofs.lemmas.Slice.Eq.{bytes_eq-Decides}
use Rattle.vd_num.specs.declared.errno.Errno.{Errno}
use Rattle.vd_num.specs.declared.errno.Errno.TheVariants.{Busy, Exist, Nodev, Inval, Nospc}
use Rattle.vd_model.specs.declared.memory.Window.{Window}
use Rattle.vd_model.specs.declared.step.Step.{Step}
use Rattle.vd_model.specs.declared.step.Step.TheVariants.{Control, Device, Queue}
use Rattle.vd_model.specs.declared.step.ControlStep.{ControlStep}
use Rattle.vd_model.specs.declared.step.ControlStep.TheVariants as control
use Rattle.vd_model.specs.declared.answer.Answer.{Answer}
use Rattle.vd_model.specs.declared.answer.Answer.TheVariants.{Done, Err, Bus, Chain, Shape, Ahead, UsedAhead, BadId, Pending, FailedReply, FailedTimeout}
use Rattle.vd_model.specs.Setting.{Setting}
use Rattle.vd_model.specs.Acts.{Act, Message_act}
use Rattle.vd_model.specs.Messages.{Elapsed}
use Rattle.vd_model.specs.Live.{is_open, is_attached}
use Rattle.vd_model.specs.Turn.{refusal_if}
use Rattle.vd_model.specs.Raw.{control_step}
use Rattle.vd_model.specs.Creation.{Creation}
use Rattle.vd_model.specs.Deeds.{Deed, Made, Destroyed, On, Given, Passed, Seen, device_view, acts_of_device, made_with, clock, window_of, acts_of_name, window_byte, has_device, devices, is_given}
use Rattle.vd_model.specs.ControlTurns.{Outcome, done_outcome, refuse_outcome, dev_made, is_bad_name, is_bad_config, plain_outcome, raw_outcome, control_outcome}
use Rattle.vd_model.specs.History.{Entry, History, deeds_of, reply, outcome, device_outcome, device_turn, device_queue_turn}
use Rattle.vd_laws.specs.IsolationLaw.{IsolationLaw, ArePrivate}
use Rattle.vd_model.specs.Agree.{AnsweredEntry, plain_concerns, raw_concerns, control_concerns, concerns, device_entries, Agree, plain_shares, raw_shares, control_shares, is_private}

-- a name that is tested is that name
pub name_is : (name other : List ℕ) → bytes_eq name other ≡ true → name ≡ other
name_is name other h = (bytes_eq-Decides name other).0 h

pub is_itself : (name : List ℕ) → bytes_eq name name ≡ true
is_itself name = (bytes_eq-Decides name name).1 refl

-- ---- what is kept of a name

-- all that makes what a device's lines see
pub record Kept : Type 0 where
  pub made : Option Creation
  pub acts : List Act
  pub now : ℕ
  pub window : Option Window
  pub ever : List Act

abbrev pub kept : List ℕ → List Deed → Kept
kept d done = record { made = made_with d done; acts = acts_of_device d done; now = clock done; window = window_of d done; ever = acts_of_name d done }

abbrev pub seen_of : Setting → Kept → Seen
seen_of x k = record {
  made = k.made;
  acts = k.acts;
  now = k.now;
  window = k.window;
  disk = window_byte (λ i. x.content (option_map_or (λ w. 512 * w.first) k.window 0 + i)) k.ever;
}

-- what one deed changes of it
abbrev pub with_deed : List ℕ → Deed → Kept → Kept
with_deed d (Made name creation) k = record { made = cond (bytes_eq d name) (Some creation) k.made; acts = cond (bytes_eq d name) [] k.acts; now = k.now; window = k.window; ever = k.ever }
with_deed d (Destroyed name) k = record { made = cond (bytes_eq d name) None k.made; acts = k.acts; now = k.now; window = k.window; ever = k.ever }
with_deed d (On name act) k = record { made = k.made; acts = cond (bytes_eq d name) (act ∷ k.acts) k.acts; now = k.now; window = k.window; ever = cond (bytes_eq d name) (act ∷ k.ever) k.ever }
with_deed d (Given name window) k = record { made = k.made; acts = k.acts; now = k.now; window = cond (bytes_eq d name) (Some window) k.window; ever = k.ever }
with_deed d (Passed now) k = record { made = k.made; acts = Message_act (Elapsed now) ∷ k.acts; now = now; window = k.window; ever = k.ever }

abbrev pub with_deeds : List ℕ → List Deed → Kept → Kept
with_deeds d [] k = k
with_deeds d (deed ∷ deeds) k = with_deed d deed (with_deeds d deeds k)

one_kept : (d : List ℕ) (deed : Deed) (done : List Deed) → kept d (deed ∷ done) ≡ with_deed d deed (kept d done)
one_kept d (Made name creation) done = refl
one_kept d (Destroyed name) done = refl
one_kept d (On name act) done = refl
one_kept d (Given name window) done = refl
one_kept d (Passed now) done = refl

pub deeds_kept : (d : List ℕ) (deeds done : List Deed) → kept d (deeds ++ done) ≡ with_deeds d deeds (kept d done)
deeds_kept d [] done = refl
deeds_kept d (deed ∷ deeds) done = one_kept d deed (deeds ++ done) ∙ ap (with_deed d deed) (deeds_kept d deeds done)

-- deeds on another name change nothing
others_kept : (d name : List ℕ) (acts : List Act) (k : Kept) → bytes_eq d name ≡ false → with_deeds d (map (On name) acts) k ≡ k
others_kept d name [] k h = refl
others_kept d name (act ∷ acts) k h =
    ap (with_deed d (On name act)) (others_kept d name acts k h)
    ∙ ap (λ b. record { made = k.made; acts = cond b (act ∷ k.acts) k.acts; now = k.now; window = k.window; ever = cond b (act ∷ k.ever) k.ever }) h

-- ---- control lines: the answer tells whether what is asked was done

-- what a line does where it isn't refused
abbrev pub granted : ℕ → ControlStep → List Deed
granted now (control.Create name vendor device features queues align config) = Made name (record { features = features; queues = queues; config = config }) ∷ []
granted now (control.Destroy name) = Destroyed name ∷ []
granted now (control.Dev name) = (dev_made name).deeds
granted now (control.Tick seconds) = Passed (now + seconds) ∷ []
granted now (control.Image name first count) = Given name (record { first = first; count = count }) ∷ []
granted now _ = []

abbrev pub raw_granted : ℕ → Option ControlStep → List Deed
raw_granted now None = []
raw_granted now (Some step) = granted now step

abbrev pub control_granted : ℕ → ControlStep → List Deed
control_granted now (control.Control number bytes) = raw_granted now (control_step number bytes)
control_granted now step = granted now step

-- what was done of it, by the answer
abbrev pub if_done : Answer → List Deed → List Deed
if_done (Done items) deeds = deeds
if_done _ deeds = []

-- an outcome does what is asked, or nothing and doesn't say done
abbrev Does : Outcome → List Deed → Type 0
Does o deeds = o.deeds ≡ if_done o.answer deeds

refuse_does : (e : Option Errno) (o : Outcome) (deeds : List Deed) → Does o deeds → Does (refuse_outcome e o) deeds
refuse_does None o deeds h = h
refuse_does (Some errno) o deeds h = refl

new_does : (done : List Deed) (name : List ℕ) (o : Outcome) (deeds : List Deed) → Does o deeds
    → Does (refuse_outcome (refusal_if (has_device name done) Exist) (refuse_outcome (refusal_if (nat_le 8 (devices done)) Nospc) o)) deeds
new_does done name o deeds h =
    refuse_does (refusal_if (has_device name done) Exist) (refuse_outcome (refusal_if (nat_le 8 (devices done)) Nospc) o) deeds
    (refuse_does (refusal_if (nat_le 8 (devices done)) Nospc) o deeds h)

pub plain_does : (x : Setting) (done : List Deed) (step : ControlStep) → Does (plain_outcome x done step) (granted (clock done) step)
plain_does x done control.Version = refl
plain_does x done (control.SetVersion version) = refuse_does (refusal_if (nat_lt 0 version) Inval) (done_outcome [] []) [] refl
plain_does x done (control.Create name vendor device features queues align config) =
    let deeds : List Deed = Made name (record { features = features; queues = queues; config = config }) ∷ [] in
    refuse_does (refusal_if (is_bad_name name || is_bad_config device features queues align config) Inval) _ deeds
    (new_does done name (done_outcome [] deeds) deeds refl)
plain_does x done (control.Destroy name) =
    refuse_does (refusal_if (not (has_device name done)) Nodev) _ (Destroyed name ∷ [])
    (refuse_does (refusal_if (is_open (acts_of_device name done) || is_attached (acts_of_device name done)) Busy) (done_outcome [] (Destroyed name ∷ [])) (Destroyed name ∷ []) refl)
plain_does x done (control.Dev name) = new_does done name (dev_made name) (dev_made name).deeds refl
plain_does x done (control.Tick seconds) = refuse_does (refusal_if (nat_lt (2 ^ 40) (clock done + seconds)) Inval) _ (Passed (clock done + seconds) ∷ []) refl
plain_does x done (control.Image name first count) =
    let deeds : List Deed = Given name (record { first = first; count = count }) ∷ [] in
    refuse_does (refusal_if (not (has_device name done)) Nodev) _ deeds
    (refuse_does (refusal_if (is_some (window_of name done)) Exist) _ deeds
    (refuse_does (refusal_if (count == 0) Inval) _ deeds
    (refuse_does (refusal_if (nat_lt x.sectors (first + count)) Nospc) _ deeds
    (refuse_does (refusal_if (is_given first count done) Busy) (done_outcome [] deeds) deeds refl))))
plain_does x done (control.Control number bytes) = refl

raw_does : (x : Setting) (done : List Deed) (step : Option ControlStep) → Does (raw_outcome x done step) (raw_granted (clock done) step)
raw_does x done None = refl
raw_does x done (Some control.Version) = refl
raw_does x done (Some (control.SetVersion version)) = plain_does x done (control.SetVersion version)
raw_does x done (Some (control.Create name vendor device features queues align config)) = plain_does x done (control.Create name vendor device features queues align config)
raw_does x done (Some (control.Destroy name)) = plain_does x done (control.Destroy name)
raw_does x done (Some (control.Dev name)) = plain_does x done (control.Dev name)
raw_does x done (Some (control.Tick seconds)) = plain_does x done (control.Tick seconds)
raw_does x done (Some (control.Image name first count)) = plain_does x done (control.Image name first count)
raw_does x done (Some (control.Control number bytes)) = refl

pub control_does : (x : Setting) (done : List Deed) (step : ControlStep) → Does (control_outcome x done step) (control_granted (clock done) step)
control_does x done (control.Control number bytes) = raw_does x done (control_step number bytes)
control_does x done control.Version = refl
control_does x done (control.SetVersion version) = plain_does x done (control.SetVersion version)
control_does x done (control.Create name vendor device features queues align config) = plain_does x done (control.Create name vendor device features queues align config)
control_does x done (control.Destroy name) = plain_does x done (control.Destroy name)
control_does x done (control.Dev name) = plain_does x done (control.Dev name)
control_does x done (control.Tick seconds) = plain_does x done (control.Tick seconds)
control_does x done (control.Image name first count) = plain_does x done (control.Image name first count)

-- a line that names another device changes nothing that is kept of this one
granted_kept : (d : List ℕ) (now : ℕ) (step : ControlStep) (k : Kept) → plain_concerns d step ≡ false → with_deeds d (granted now step) k ≡ k
granted_kept d now control.Version k h = refl
granted_kept d now (control.SetVersion version) k h = refl
granted_kept d now (control.Create name vendor device features queues align config) k h =
    ap (λ b. record { made = cond b (Some (record { features = features; queues = queues; config = config })) k.made; acts = cond b [] k.acts; now = k.now; window = k.window; ever = k.ever }) h
granted_kept d now (control.Destroy name) k h = ap (λ b. record { made = cond b None k.made; acts = k.acts; now = k.now; window = k.window; ever = k.ever }) h
granted_kept d now (control.Dev name) k h = simp h
granted_kept d now (control.Tick seconds) k h = cc
granted_kept d now (control.Image name first count) k h =
    ap (λ b. record { made = k.made; acts = k.acts; now = k.now; window = cond b (Some (record { first = first; count = count })) k.window; ever = k.ever }) h
granted_kept d now (control.Control number bytes) k h = refl

raw_kept : (d : List ℕ) (now : ℕ) (step : Option ControlStep) (k : Kept) → raw_concerns d step ≡ false → with_deeds d (raw_granted now step) k ≡ k
raw_kept d now None k h = refl
raw_kept d now (Some step) k h = granted_kept d now step k h

control_kept : (d : List ℕ) (now : ℕ) (step : ControlStep) (k : Kept) → control_concerns d step ≡ false → with_deeds d (control_granted now step) k ≡ k
control_kept d now (control.Control number bytes) k h = raw_kept d now (control_step number bytes) k h
control_kept d now control.Version k h = refl
control_kept d now (control.SetVersion version) k h = refl
control_kept d now (control.Create name vendor device features queues align config) k h = granted_kept d now (control.Create name vendor device features queues align config) k h
control_kept d now (control.Destroy name) k h = granted_kept d now (control.Destroy name) k h
control_kept d now (control.Dev name) k h = granted_kept d now (control.Dev name) k h
control_kept d now (control.Tick seconds) k h = cc
control_kept d now (control.Image name first count) k h = granted_kept d now (control.Image name first count) k h

pub if_done_either : (answer : Answer) (deeds : List Deed) → (if_done answer deeds ≡ deeds) ⊎ (if_done answer deeds ≡ [])
if_done_either (Done items) deeds = inl refl
if_done_either (Err errno) deeds = inr refl
if_done_either (Bus at) deeds = inr refl
if_done_either (Chain fault) deeds = inr refl
if_done_either (Shape readable writable) deeds = inr refl
if_done_either (Ahead found known) deeds = inr refl
if_done_either (UsedAhead used published) deeds = inr refl
if_done_either (BadId id) deeds = inr refl
if_done_either Pending deeds = inr refl
if_done_either (FailedReply result) deeds = inr refl
if_done_either (FailedTimeout deadline now) deeds = inr refl

if_done_kept : (d : List ℕ) (answer : Answer) (deeds : List Deed) (k : Kept) → with_deeds d deeds k ≡ k → with_deeds d (if_done answer deeds) k ≡ k
if_done_kept d answer deeds k h = elim (if_done_either answer deeds) [ inl e ↦ ap (λ l. with_deeds d l k) e ∙ h | inr e ↦ ap (λ l. with_deeds d l k) e ]

-- ---- a step

-- what is kept after an entry of the part
unfoldable pub said_after : Setting → List ℕ → Step → Bool → Answer → Kept → Kept
said_after x d (Control step) failed answer k = with_deeds d (if_done answer (control_granted k.now step)) k
said_after x d (Device name step) failed answer k = with_deeds d (map (On d) (device_turn x (seen_of x k) step).acts) k
said_after x d (Queue name step) failed answer k = with_deeds d (map (On d) (device_queue_turn x d (seen_of x k) failed step).acts) k

unfoldable pub kept_after : Setting → List ℕ → List AnsweredEntry → Kept
kept_after x d [] = record { made = None; acts = []; now = 0; window = None; ever = [] }
kept_after x d (said ∷ before) = said_after x d said.step said.failed said.answer (kept_after x d before)

-- a step that concerns the device
step_kept : (x : Setting) (d : List ℕ) (done : List Deed) (step : Step) (failed : Bool) → concerns d step ≡ true
    → kept d ((outcome x done step failed).deeds ++ done) ≡ said_after x d step failed (outcome x done step failed).answer (kept d done)
unfolding said_after
step_kept x d done (Control step) failed h =
    deeds_kept d (control_outcome x done step).deeds done ∙ ap (λ deeds. with_deeds d deeds (kept d done)) (control_does x done step)
step_kept x d done (Device name step) failed h =
    subst (λ n. kept d ((device_outcome n (device_turn x (device_view x n done) step)).deeds ++ done) ≡ with_deeds d (map (On d) (device_turn x (device_view x d done) step).acts) (kept d done)) (name_is d name h)
    (deeds_kept d (map (On d) (device_turn x (device_view x d done) step).acts) done)
step_kept x d done (Queue name step) failed h =
    subst (λ n. kept d ((device_outcome n (device_queue_turn x n (device_view x n done) failed step)).deeds ++ done) ≡ with_deeds d (map (On d) (device_queue_turn x d (device_view x d done) failed step).acts) (kept d done)) (name_is d name h)
    (deeds_kept d (map (On d) (device_queue_turn x d (device_view x d done) failed step).acts) done)

-- a step that doesn't
step_unkept : (x : Setting) (d : List ℕ) (done : List Deed) (step : Step) (failed : Bool) → concerns d step ≡ false
    → kept d ((outcome x done step failed).deeds ++ done) ≡ kept d done
step_unkept x d done (Control step) failed h =
    deeds_kept d (control_outcome x done step).deeds done ∙ (ap (λ deeds. with_deeds d deeds (kept d done)) (control_does x done step)
    ∙ if_done_kept d (control_outcome x done step).answer (control_granted (clock done) step) (kept d done) (control_kept d (clock done) step (kept d done) h))
step_unkept x d done (Device name step) failed h =
    deeds_kept d (map (On name) (device_turn x (device_view x name done) step).acts) done ∙ others_kept d name (device_turn x (device_view x name done) step).acts (kept d done) h
step_unkept x d done (Queue name step) failed h =
    deeds_kept d (map (On name) (device_queue_turn x name (device_view x name done) failed step).acts) done
    ∙ others_kept d name (device_queue_turn x name (device_view x name done) failed step).acts (kept d done) h

-- ---- a history

pub kept_is : (x : Setting) (d : List ℕ) (h : History) → kept d (deeds_of x h) ≡ kept_after x d (device_entries x d h)
unfolding kept_after deeds_of device_entries
kept_is x d [] = refl
kept_is x d (entry ∷ before) = by (kept_is x d before) (concerns d entry.step) refl where
  by : kept d (deeds_of x before) ≡ kept_after x d (device_entries x d before) → (b : Bool) → concerns d entry.step ≡ b
      → kept d ((outcome x (deeds_of x before) entry.step entry.failed).deeds ++ deeds_of x before)
      ≡ kept_after x d (cond b (record { step = entry.step; failed = entry.failed; answer = reply x before entry.step entry.failed } ∷ device_entries x d before) (device_entries x d before))
  by was true e = step_kept x d (deeds_of x before) entry.step entry.failed e ∙ ap (said_after x d entry.step entry.failed (reply x before entry.step entry.failed)) was
  by was false e = step_unkept x d (deeds_of x before) entry.step entry.failed e ∙ was

pub same_kept : (x : Setting) (d : List ℕ) (h g : History) → Agree x d h g → kept d (deeds_of x h) ≡ kept d (deeds_of x g)
same_kept x d h g agree = kept_is x d h ∙ (ap (kept_after x d) agree ∙ sym (kept_is x d g))

-- ---- private lines

-- a line that shares a limit isn't private
never : (b : Bool) → (b && false) ≡ true → ⊥
never true e = cc
never false e = cc

-- what a control line on this device is answered, from what is kept
module _ (x : Setting) (d : List ℕ) (done more : List Deed) (same : kept d done ≡ kept d more) where
  destroy_alike : (name : List ℕ) → bytes_eq d name ≡ true → (plain_outcome x done (control.Destroy name)).answer ≡ (plain_outcome x more (control.Destroy name)).answer
  destroy_alike name h =
      subst (λ n. (plain_outcome x done (control.Destroy n)).answer ≡ (plain_outcome x more (control.Destroy n)).answer) (name_is d name h)
      (ap (λ k. (refuse_outcome (refusal_if (not (is_some k.made)) Nodev) (refuse_outcome (refusal_if (is_open k.acts || is_attached k.acts) Busy) (done_outcome [] (Destroyed d ∷ [])))).answer) same)

  plain_alike : (step : ControlStep) → (plain_concerns d step && not (plain_shares step)) ≡ true → (plain_outcome x done step).answer ≡ (plain_outcome x more step).answer
  plain_alike control.Version h = refl
  plain_alike (control.SetVersion version) h = refl
  plain_alike (control.Create name vendor device features queues align config) h = absurd (never (bytes_eq d name) h)
  plain_alike (control.Destroy name) h = destroy_alike name (left (bytes_eq d name) h) where
    left : (b : Bool) → (b && true) ≡ true → b ≡ true
    left true e = refl
    left false e = cc
  plain_alike (control.Dev name) h = absurd (never (bytes_eq d name) h)
  plain_alike (control.Tick seconds) h = ap (λ k. (plain_outcome x (Passed k.now ∷ []) (control.Tick seconds)).answer) same
  plain_alike (control.Image name first count) h = absurd (never (bytes_eq d name) h)
  plain_alike (control.Control number bytes) h = refl

  raw_alike : (step : Option ControlStep) → (raw_concerns d step && not (raw_shares step)) ≡ true → (raw_outcome x done step).answer ≡ (raw_outcome x more step).answer
  raw_alike None h = refl
  raw_alike (Some control.Version) h = refl
  raw_alike (Some (control.SetVersion version)) h = plain_alike (control.SetVersion version) h
  raw_alike (Some (control.Create name vendor device features queues align config)) h = plain_alike (control.Create name vendor device features queues align config) h
  raw_alike (Some (control.Destroy name)) h = plain_alike (control.Destroy name) h
  raw_alike (Some (control.Dev name)) h = plain_alike (control.Dev name) h
  raw_alike (Some (control.Tick seconds)) h = plain_alike (control.Tick seconds) h
  raw_alike (Some (control.Image name first count)) h = plain_alike (control.Image name first count) h
  raw_alike (Some (control.Control number bytes)) h = refl

  control_alike : (step : ControlStep) → (control_concerns d step && not (control_shares step)) ≡ true → (control_outcome x done step).answer ≡ (control_outcome x more step).answer
  control_alike (control.Control number bytes) h = raw_alike (control_step number bytes) h
  control_alike control.Version h = refl
  control_alike (control.SetVersion version) h = plain_alike (control.SetVersion version) h
  control_alike (control.Create name vendor device features queues align config) h = plain_alike (control.Create name vendor device features queues align config) h
  control_alike (control.Destroy name) h = plain_alike (control.Destroy name) h
  control_alike (control.Dev name) h = plain_alike (control.Dev name) h
  control_alike (control.Tick seconds) h = plain_alike (control.Tick seconds) h
  control_alike (control.Image name first count) h = plain_alike (control.Image name first count) h

pub isolated : (x : Setting) (h : History) (d : List ℕ) (g : History) → Agree x d h g → (step : Step) (failed : Bool) → is_private d step ≡ true → reply x h step failed ≡ reply x g step failed
isolated x h d g agree (Control step) failed private = control_alike x d (deeds_of x h) (deeds_of x g) (same_kept x d h g agree) step private
isolated x h d g agree (Device name step) failed private =
    subst (λ n. reply x h (Device n step) failed ≡ reply x g (Device n step) failed) (name_is d name private)
    (ap (λ k. (device_turn x (seen_of x k) step).answer) (same_kept x d h g agree))
isolated x h d g agree (Queue name step) failed private =
    subst (λ n. reply x h (Queue n step) failed ≡ reply x g (Queue n step) failed) (name_is d name private)
    (ap (λ k. (device_queue_turn x d (seen_of x k) failed step).answer) (same_kept x d h g agree))

-- ---- a step that is left out

-- after private lines the two histories agree, with and without a step of another device
left_out : (x : Setting) (d : List ℕ) (h : History) (other : Entry) → concerns d other.step ≡ false → (later : History) → ArePrivate d later → Agree x d (later ++ other ∷ h) (later ++ h)
unfolding device_entries
left_out x d h other unnamed [] private = ap (λ b. cond b (record { step = other.step; failed = other.failed; answer = reply x h other.step other.failed } ∷ device_entries x d h) (device_entries x d h)) unnamed
left_out x d h other unnamed (entry ∷ later) private = by (left_out x d h other unnamed later (λ e k. private e (inr k))) (concerns d entry.step) refl where
  by : Agree x d (later ++ other ∷ h) (later ++ h) → (b : Bool) → concerns d entry.step ≡ b
      → cond b (record { step = entry.step; failed = entry.failed; answer = reply x (later ++ other ∷ h) entry.step entry.failed } ∷ device_entries x d (later ++ other ∷ h)) (device_entries x d (later ++ other ∷ h))
      ≡ cond b (record { step = entry.step; failed = entry.failed; answer = reply x (later ++ h) entry.step entry.failed } ∷ device_entries x d (later ++ h)) (device_entries x d (later ++ h))
  by agree false e = agree
  by agree true e =
      let same : reply x (later ++ other ∷ h) entry.step entry.failed ≡ reply x (later ++ h) entry.step entry.failed
      = isolated x (later ++ other ∷ h) d (later ++ h) agree entry.step entry.failed (private entry (inl refl) e) in
      ap (λ a. record { step = entry.step; failed = entry.failed; answer = a } ∷ device_entries x d (later ++ other ∷ h)) same
      ∙ ap (λ before. record { step = entry.step; failed = entry.failed; answer = reply x (later ++ h) entry.step entry.failed } ∷ before) agree

pub isolation_law : (x : Setting) (h : History) → IsolationLaw x h
isolation_law x h = record {
  alike = isolated x h;
  unshown = λ d other unnamed later private step failed is_private. isolated x (later ++ other ∷ h) d (later ++ h) (left_out x d h other unnamed later private) step failed is_private;
}
