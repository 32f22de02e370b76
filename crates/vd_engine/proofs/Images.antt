-- What the image holds after a line.
use Rattle.std.proofs.Common.{◌≡◌, ℕ, zero, suc, ◌+◌, ◌-◌, ◌*◌, ◌<◌, ◌≤◌, Bool, true, false, refl, ap, subst, ◌∙◌, sym, arith, Option, None, Some, cond, nat_le, List, [], ◌∷◌, ◌++◌, length, take, drop, length-append, length-drop, map, inl, inr, true≢false, Result, Ok, Err}
use Rattle.std.specs.Prelude.{unwrap_or, slice_get, slice_index, IfOk}
use Rattle.std.specs.Option.{option_map, option_map_or}
use Rattle.std.proofs.lemmas.Bool.Decides.{leb_tells}
use Rattle.std.proofs.lemmas.Option.{slice_get_past, slice_get-get_or}
use Rattle.std.proofs.lemmas.List.{get_or_append_left, get_or-append_right, get_or-take, get_or-drop, length-take-le, take_all}
use Rattle.vd_num.specs.declared.errno.Errno.TheVariants.{Nodev}
use Rattle.vd_model.specs.declared.memory.Window.{Window}
use Rattle.vd_model.specs.declared.step.ControlStep.{ControlStep}
use Rattle.vd_model.specs.declared.step.ControlStep.TheVariants as control
use Rattle.vd_model.specs.declared.step.DevStep.{DevStep}
use Rattle.vd_model.specs.declared.step.DevStep.TheVariants as line
use Rattle.vd_model.specs.declared.step.QueueStep.{QueueStep}
use Rattle.vd_model.specs.declared.step.QueueStep.TheVariants as queue
use Rattle.vd_model.specs.Setting.{Setting}
use Rattle.vd_model.specs.Acts.{Act, Node, Driver, Bus, Message_act, State, Disk_act, Stored}
use Rattle.vd_model.specs.Acts as acted
use Rattle.vd_model.specs.Creation.{Creation}
use Rattle.vd_model.specs.Puts.{byte_in}
use Rattle.vd_model.specs.Raw.{control_step}
use Rattle.vd_model.specs.Turn.{Turn, refusal_turn}
use Rattle.vd_model.specs.Deeds.{Deed, On, Seen, device_view, clock, window_of, window_start, window_byte, acts_of_name, image_byte}
use Rattle.vd_model.specs.ControlTurns.{control_outcome}
use Rattle.vd_model.specs.History.{History, deeds_of, dev_turn, queue_turn, device_turn, device_queue_turn}
use Rattle.vd_laws.proofs.Heard.{Fits, device_fair, device_queue_fair}
use Rattle.vd_laws.proofs.IsolationLaw.{granted, raw_granted, control_granted, control_does, if_done_either}
use Rattle.vd_laws.proofs.ImageLaw.{window_is}
use Rattle.vd_daemon_lines.specs.Disk.{with_bytes, stored_over}
use Rattle.vd_instance.specs.Image.{IsWindow, is_execute, window_or_none}
use Rattle.vd_engine.specs.Image.{IsImage, HoldsOwn}
use Rattle.vd_engine.proofs.Sectors.{window_on}

-- each name's sectors hold what its own acts left there
pub holds_own : (x : Setting) (h : History) → HoldsOwn x (deeds_of x h)
holds_own x h = λ name w e j low. window_is x h name w e j low

-- ---- bytes put over others

in_front : (n i : ℕ) (xs : List ℕ) → i < n → i < length xs → i < length (take n xs)
in_front zero i xs less below = absurd (omega arith)
in_front (suc n) i [] less below = absurd (omega arith)
in_front (suc n) zero (x ∷ xs) less below = omega arith
in_front (suc n) (suc i) (x ∷ xs) less below = let rest = in_front n i xs (omega arith) (omega arith) in omega (arith, rest)

module _ (bytes content : List ℕ) (at i : ℕ) (below : i < length content) where
  early : i < at → slice_index (with_bytes at bytes content) i ≡ slice_index content i
  early less =
      let first : i < length (take at content) = in_front at i content less below in
      let both = length-append (take at content) bytes in
      get_or_append_left (take at content ++ bytes) (drop (at + length bytes) content) 0 i (omega (arith, first, both)) ∙ get_or_append_left (take at content) bytes 0 i first ∙ get_or-take at content i 0 less

  module _ (low : at ≤ i) where
    front : length (take at content) ≡ at
    front = length-take-le at content (omega arith)

    both : length (take at content ++ bytes) ≡ at + length bytes
    both = length-append (take at content) bytes ∙ ap (λ n. n + length bytes) front

    inside : i - at < length bytes → slice_index (with_bytes at bytes content) i ≡ slice_index bytes (i - at)
    inside less = get_or_append_left (take at content ++ bytes) (drop (at + length bytes) content) 0 i (omega (arith, less, both)) ∙ get_or-append_right (take at content) bytes at i 0 front low

    behind : length bytes ≤ i - at → slice_index (with_bytes at bytes content) i ≡ slice_index content i
    behind past =
        let there : at + length bytes ≤ i = omega (arith, past, low) in
        let same : at + length bytes + (i - (at + length bytes)) ≡ i = omega (arith, there) in
        get_or-append_right (take at content ++ bytes) (drop (at + length bytes) content) (at + length bytes) i 0 both there ∙ get_or-drop (at + length bytes) content (i - (at + length bytes)) 0 ∙ ap (slice_index content) same

  pub with_bytes_at : slice_index (with_bytes at bytes content) i ≡ unwrap_or (byte_in bytes at i) (slice_index content i)
  with_bytes_at = elim (leb_tells at i) [
    | inl late ↦ (elim (leb_tells (length bytes) (i - at)) [
      | inl past ↦ behind late.1 past.1 ∙ sym (ap (λ b. unwrap_or (cond b (slice_get bytes (i - at)) None) (slice_index content i)) late.0 ∙ ap (λ o. unwrap_or o (slice_index content i)) (slice_get_past bytes (i - at) past.1))
      | inr less ↦ inside late.1 less.1 ∙ sym (ap (λ b. unwrap_or (cond b (slice_get bytes (i - at)) None) (slice_index content i)) late.0 ∙ ap (λ o. unwrap_or o (slice_index content i)) (slice_get-get_or bytes (i - at) 0 less.1))
    ])
    | inr before ↦ early before.1 ∙ sym (ap (λ b. unwrap_or (cond b (slice_get bytes (i - at)) None) (slice_index content i)) before.0)
  ]

with_bytes_long : (bytes content : List ℕ) (at n : ℕ) → n ≤ length content → n ≤ length (with_bytes at bytes content)
with_bytes_long bytes content at n long =
    let all = length-append (take at content ++ bytes) (drop (at + length bytes) content) in
    let front = length-append (take at content) bytes in
    let rest = length-drop (at + length bytes) content in
    elim (leb_tells at (length content)) [
      | inl h ↦ (let size = length-take-le at content h.1 in omega (arith, all, front, rest, size, long))
      | inr h ↦ (let size = take_all at content (omega (arith, h.1)) in let same = ap length size in omega (arith, all, front, same, long))
    ]

-- ---- acts that store in the sectors of a name

module _ (x : Setting) (name : List ℕ) (done : List Deed) (w : Window) (start : window_start name done ≡ 512 * w.first) where
  start_on : (acts : List Act) → window_start name (map (On name) acts ++ done) ≡ 512 * w.first
  start_on acts = ap (λ o. option_map_or (λ w. 512 * w.first) o 0) (window_on name name acts done) ∙ start

  pub stored_long : (acts : List Act) (content : List ℕ) (n : ℕ) → n ≤ length content → n ≤ length (stored_over w acts content)
  stored_long [] content n long = long
  stored_long (Disk_act (Stored at bytes) ∷ acts) content n long = with_bytes_long bytes (stored_over w acts content) (512 * w.first + at) n (stored_long acts content n long)
  stored_long (Node act ∷ acts) content n long = stored_long acts content n long
  stored_long (Driver act ∷ acts) content n long = stored_long acts content n long
  stored_long (Bus act ∷ acts) content n long = stored_long acts content n long
  stored_long (Message_act act ∷ acts) content n long = stored_long acts content n long
  stored_long (State act ∷ acts) content n long = stored_long acts content n long
  stored_long (acted.Queue act ∷ acts) content n long = stored_long acts content n long

  module _ (content : List ℕ) (n : ℕ) (long : n ≤ length content) (each : (i : ℕ) → i < n → slice_index content i ≡ image_byte x done i) where
    pub stored_each : (acts : List Act) (i : ℕ) → i < n → slice_index (stored_over w acts content) i ≡ image_byte x (map (On name) acts ++ done) i
    stored_each [] i below = each i below
    stored_each (Disk_act (Stored at bytes) ∷ acts) i below =
        let there = stored_long acts content n long in
        with_bytes_at bytes (stored_over w acts content) (512 * w.first + at) i (omega (arith, there, below))
        ∙ ap (λ b. unwrap_or (byte_in bytes (512 * w.first + at) i) b) (stored_each acts i below)
        ∙ ap (λ s. unwrap_or (byte_in bytes (s + at) i) (image_byte x (map (On name) acts ++ done) i)) (sym (start_on acts))
    stored_each (Node act ∷ acts) i below = stored_each acts i below
    stored_each (Driver act ∷ acts) i below = stored_each acts i below
    stored_each (Bus act ∷ acts) i below = stored_each acts i below
    stored_each (Message_act act ∷ acts) i below = stored_each acts i below
    stored_each (State act ∷ acts) i below = stored_each acts i below
    stored_each (acted.Queue act ∷ acts) i below = stored_each acts i below

-- ---- acts that store nothing

no_byte : (bytes : List ℕ) (from i : ℕ) → length bytes ≤ 0 → byte_in bytes from i ≡ None
no_byte bytes from i none = by (nat_le from i) where
  by : (b : Bool) → cond b (slice_get bytes (i - from)) None ≡ None
  by true = slice_get_past bytes (i - from) (omega (arith, none))
  by false = refl

pub nothing_stored : (x : Setting) (name : List ℕ) (done : List Deed) (acts : List Act) → Fits 0 acts → (i : ℕ) → image_byte x (map (On name) acts ++ done) i ≡ image_byte x done i
nothing_stored x name done [] fits i = refl
nothing_stored x name done (Disk_act (Stored at bytes) ∷ acts) fits i =
    let none : length bytes ≤ 0 = (let h = fits.0 in omega (arith, h)) in
    ap (λ o. unwrap_or o (image_byte x (map (On name) acts ++ done) i)) (no_byte bytes (window_start name (map (On name) acts ++ done) + at) i none) ∙ nothing_stored x name done acts fits.1 i
nothing_stored x name done (Node act ∷ acts) fits i = nothing_stored x name done acts fits i
nothing_stored x name done (Driver act ∷ acts) fits i = nothing_stored x name done acts fits i
nothing_stored x name done (Bus act ∷ acts) fits i = nothing_stored x name done acts fits i
nothing_stored x name done (Message_act act ∷ acts) fits i = nothing_stored x name done acts fits i
nothing_stored x name done (State act ∷ acts) fits i = nothing_stored x name done acts fits i
nothing_stored x name done (acted.Queue act ∷ acts) fits i = nothing_stored x name done acts fits i

-- ---- lines that store nothing

-- only an execute looks at the sectors
dev_blind : (x : Setting) (made : Creation) (s : Seen) (step : DevStep) → dev_turn x made (record s { window = None }) step ≡ dev_turn x made s step
dev_blind x made s (line.Node step) = refl
dev_blind x made s (line.Area step) = refl
dev_blind x made s (line.Bus step) = refl
dev_blind x made s (line.Driver step) = refl

device_blind : (x : Setting) (s : Seen) (step : DevStep) → device_turn x (record s { window = None }) step ≡ device_turn x s step
device_blind x s step = by s.made where
  by : (o : Option Creation) → option_map_or (λ made. dev_turn x made (record s { window = None }) step) o (refusal_turn Nodev) ≡ option_map_or (λ made. dev_turn x made s step) o (refusal_turn Nodev)
  by None = refl
  by (Some made) = dev_blind x made s step

pub device_stores : (x : Setting) (name : List ℕ) (done : List Deed) (s : Seen) (step : DevStep) (i : ℕ) → image_byte x (map (On name) (device_turn x s step).acts ++ done) i ≡ image_byte x done i
device_stores x name done s step i =
    nothing_stored x name done (device_turn x s step).acts (subst (λ (t : Turn Act). Fits 0 t.acts) (device_blind x s step) (device_fair x (record s { window = None }) step).fits) i

queue_blind : (x : Setting) (made : Creation) (name : List ℕ) (s : Seen) (failed : Bool) (step : QueueStep) → is_execute step ≡ false
    → queue_turn x made name (record s { window = None }) failed step ≡ queue_turn x made name s failed step
queue_blind x made name s failed (queue.Execute q) e = absurd (true≢false e)
queue_blind x made name s failed (queue.Walk q head) e = refl
queue_blind x made name s failed (queue.Fetch q) e = refl
queue_blind x made name s failed (queue.Finish q) e = refl
queue_blind x made name s failed (queue.Ring q size) e = refl
queue_blind x made name s failed (queue.Unring q) e = refl
queue_blind x made name s failed (queue.Add q parts) e = refl
queue_blind x made name s failed (queue.Publish q) e = refl
queue_blind x made name s failed (queue.Submit q asked) e = refl
queue_blind x made name s failed (queue.Poll q) e = refl

device_queue_blind : (x : Setting) (name : List ℕ) (s : Seen) (failed : Bool) (step : QueueStep) → is_execute step ≡ false
    → device_queue_turn x name (record s { window = None }) failed step ≡ device_queue_turn x name s failed step
device_queue_blind x name s failed step e = by s.made where
  by : (o : Option Creation) → option_map_or (λ made. queue_turn x made name (record s { window = None }) failed step) o (refusal_turn Nodev) ≡ option_map_or (λ made. queue_turn x made name s failed step) o (refusal_turn Nodev)
  by None = refl
  by (Some made) = queue_blind x made name s failed step e

queue_stores : (x : Setting) (name : List ℕ) (done : List Deed) (s : Seen) (failed : Bool) (step : QueueStep) → is_execute step ≡ false
    → (i : ℕ) → image_byte x (map (On name) (device_queue_turn x name s failed step).acts ++ done) i ≡ image_byte x done i
queue_stores x name done s failed step e i =
    nothing_stored x name done (device_queue_turn x name s failed step).acts
    (subst (λ (t : Turn Act). Fits 0 t.acts) (device_queue_blind x name s failed step e) (device_queue_fair x name (record s { window = None }) failed step).fits) i

granted_stores : (x : Setting) (done : List Deed) (now : ℕ) (step : ControlStep) (i : ℕ) → image_byte x (granted now step ++ done) i ≡ image_byte x done i
granted_stores x done now control.Version i = refl
granted_stores x done now (control.SetVersion version) i = refl
granted_stores x done now (control.Create name vendor device features queues align config) i = refl
granted_stores x done now (control.Destroy name) i = refl
granted_stores x done now (control.Dev name) i = refl
granted_stores x done now (control.Tick seconds) i = refl
granted_stores x done now (control.Image name first count) i = refl
granted_stores x done now (control.Control number bytes) i = refl

control_grants : (x : Setting) (done : List Deed) (now : ℕ) (step : ControlStep) (i : ℕ) → image_byte x (control_granted now step ++ done) i ≡ image_byte x done i
control_grants x done now (control.Control number bytes) i = by (control_step number bytes) where
  by : (o : Option ControlStep) → image_byte x (raw_granted now o ++ done) i ≡ image_byte x done i
  by None = refl
  by (Some step) = granted_stores x done now step i
control_grants x done now control.Version i = refl
control_grants x done now (control.SetVersion version) i = refl
control_grants x done now (control.Create name vendor device features queues align config) i = refl
control_grants x done now (control.Destroy name) i = refl
control_grants x done now (control.Dev name) i = refl
control_grants x done now (control.Tick seconds) i = refl
control_grants x done now (control.Image name first count) i = refl

pub control_stores : (x : Setting) (done : List Deed) (step : ControlStep) (i : ℕ) → image_byte x ((control_outcome x done step).deeds ++ done) i ≡ image_byte x done i
control_stores x done step i = ap (λ deeds. image_byte x (deeds ++ done) i) (control_does x done step) ∙ (elim (if_done_either (control_outcome x done step).answer (control_granted (clock done) step)) [
  | inl e ↦ ap (λ deeds. image_byte x (deeds ++ done) i) e ∙ control_grants x done (clock done) step i
  | inr e ↦ ap (λ deeds. image_byte x (deeds ++ done) i) e
])

-- ---- the image after a line

pub image_kept : {x : Setting} {done : List Deed} (later : List Deed) {size : ℕ} {before after : Option (List ℕ)} → after ≡ before → ((i : ℕ) → image_byte x later i ≡ image_byte x done i) → IsImage x done size before → IsImage x later size after
image_kept later is same h = record { size = h.size; bytes = h.bytes; told = is ∙ h.told; long = h.long; each = λ i below. h.each i below ∙ sym (same i) }

module _ (x : Setting) (name : List ℕ) (done : List Deed) (size : ℕ) (before : Option (List ℕ)) (h : IsImage x done size before) where
  -- the sectors that a line sees
  module _ (own : HoldsOwn x done) (window : Window) (is : window ≡ window_or_none (window_of name done)) (inside : (w : Window) → window_of name done ≡ Some w → w.first + w.count ≤ size) where
    seen_at : (o : Option Window) → window_of name done ≡ o → (w : Window) → w ≡ window_or_none o → (i : ℕ) → i < 512 * w.count → (device_view x name done).disk i ≡ slice_index h.bytes (512 * w.first + i)
    seen_at None e w same i below = absurd (let none : w.count ≡ 0 = ap (λ (v : Window). v.count) same in omega (arith, none, below))
    seen_at (Some v) e w same i below =
        let low : i < 512 * v.count = subst (λ (u : Window). i < 512 * u.count) same below in
        let within = inside v e in let all = h.size in
        ap (λ s. window_byte (λ k. x.content (s + k)) (acts_of_name name done) i) (ap (λ o. option_map_or (λ w. 512 * w.first) o 0) e)
        ∙ sym (own name v e i low) ∙ sym (h.each (512 * v.first + i) (omega (arith, low, within, all))) ∙ ap (λ (u : Window). slice_index h.bytes (512 * u.first + i)) (sym same)

    pub window_seen : IsWindow before window (device_view x name done)
    window_seen = record { is = is; bytes = h.bytes; told = h.told; disk = seen_at (window_of name done) refl window is }

  start_is : window_start name done ≡ 512 * (window_or_none (window_of name done)).first
  start_is = by (window_of name done) where
    by : (o : Option Window) → option_map_or (λ w. 512 * w.first) o 0 ≡ 512 * (window_or_none o).first
    by None = refl
    by (Some w) = refl

  -- the image after acts that it took over
  pub image_stored : (acts : List Act) (after : Option (List ℕ)) → after ≡ option_map (stored_over (window_or_none (window_of name done)) acts) before → IsImage x (map (On name) acts ++ done) size after
  image_stored acts after is = record {
    size = h.size;
    bytes = stored_over (window_or_none (window_of name done)) acts h.bytes;
    told = is ∙ ap (option_map (stored_over (window_or_none (window_of name done)) acts)) h.told;
    long = stored_long x name done (window_or_none (window_of name done)) start_is acts h.bytes (512 * x.sectors) h.long;
    each = stored_each x name done (window_or_none (window_of name done)) start_is h.bytes (512 * x.sectors) h.long h.each acts;
  }

  -- the image after a line on a queue, which it took over, or left the image alone
  pub image_after : (s : Seen) (failed : Bool) (step : QueueStep) (after : Option (List ℕ))
      → (is_execute step ≡ true → after ≡ option_map (stored_over (window_or_none (window_of name done)) (device_queue_turn x name s failed step).acts) before)
      → (is_execute step ≡ false → after ≡ before) → IsImage x (map (On name) (device_queue_turn x name s failed step).acts ++ done) size after
  image_after s failed step after takes leaves = by (is_execute step) refl where
    by : (b : Bool) → is_execute step ≡ b → IsImage x (map (On name) (device_queue_turn x name s failed step).acts ++ done) size after
    by true e = image_stored (device_queue_turn x name s failed step).acts after (takes e)
    by false e = image_kept (map (On name) (device_queue_turn x name s failed step).acts ++ done) (leaves e) (queue_stores x name done s failed step e) h

  -- the same where the line may have found no memory
  pub image_served : {E : Type 0} (s : Seen) (turn : Bool → Turn Act) (step : QueueStep) (after : Option (List ℕ)) (r : Result Bool E) → ((failed : Bool) → device_queue_turn x name s failed step ≡ turn failed)
      → (is_execute step ≡ true → IfOk r (λ failed. after ≡ option_map (stored_over (window_or_none (window_of name done)) (turn failed).acts) before))
      → (is_execute step ≡ false → after ≡ before) → IfOk r (λ failed. IsImage x (map (On name) (device_queue_turn x name s failed step).acts ++ done) size after)
  image_served s turn step after (Ok failed) same takes leaves = image_after s failed step after
      (λ e. takes e ∙ ap (λ (t : Turn Act). option_map (stored_over (window_or_none (window_of name done)) t.acts) before) (sym (same failed))) leaves
  image_served s turn step after (Err error) same takes leaves = tt
