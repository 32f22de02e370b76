-- What the lines of a span add to the acts of a device.
use Rattle.std.proofs.Common.{◌≡◌, ℕ, Bool, true, false, refl, ap, ◌∙◌, sym, cond, None, Some, List, [], ◌∷◌, ◌++◌, append_assoc, if◌then◌else◌, ◌==◌}
use Rattle.std.specs.Str.{bytes_eq}
use Rattle.vd_model.specs.declared.step.Step.TheVariants.{Control, Device, Queue}
use Rattle.vd_model.specs.declared.step.Step.{Step}
use Rattle.vd_model.specs.Setting.{Setting}
use Rattle.vd_model.specs.Acts.{Act, Ring_made, Ring_dropped}
use Rattle.vd_model.specs.Acts as act
use Rattle.vd_model.specs.Queues.{Ring, ring_of}
use Rattle.vd_model.specs.Deeds.{device_view}
use Rattle.vd_model.specs.History.{Entry, History, deeds_of, device_turn, device_queue_turn}
use Rattle.vd_laws.specs.Runs.{acts_of}
use Rattle.vd_laws.proofs.Turns.{acts_of_device_on}

-- ---- lines on devices

abbrev pub IsLine : Step → Type 0
IsLine (Control step) = ⊥
IsLine _ = Unit {0}

abbrev pub AreLines : List Entry → Type 0
AreLines [] = Unit {0}
AreLines (entry ∷ entries) = IsLine entry.step × AreLines entries

-- the acts that an entry adds to a device
abbrev pub Adds : Setting → List ℕ → History → History → Type 0
Adds x d later h = (acts : List Act) × (acts_of x later d ≡ acts ++ acts_of x h d)

pub line_adds : (x : Setting) (d : List ℕ) (h : History) (entry : Entry) → IsLine entry.step → Adds x d (entry ∷ h) h
unfolding deeds_of
line_adds x d h entry is = by entry.step is where
  by : (step : Step) → IsLine step → Adds x d (record { step = step; failed = entry.failed } ∷ h) h
  by (Control step) i = absurd i
  by (Device name step) i = let turn = device_turn x (device_view x name (deeds_of x h)) step in ((if bytes_eq d name then turn.acts else []), acts_of_device_on d name turn.acts (deeds_of x h))
  by (Queue name step) i = let turn = device_queue_turn x name (device_view x name (deeds_of x h)) entry.failed step in ((if bytes_eq d name then turn.acts else []), acts_of_device_on d name turn.acts (deeds_of x h))

pub lines_add : (x : Setting) (d : List ℕ) (h : History) (entries : List Entry) → AreLines entries → Adds x d (entries ++ h) h
lines_add x d h [] are = ([], refl)
lines_add x d h (entry ∷ entries) are =
    let more = lines_add x d h entries are.1 in
    let first = line_adds x d (entries ++ h) entry are.0 in
    (first.0 ++ more.0, first.1 ∙ ap (λ l. first.0 ++ l) more.1 ∙ sym (append_assoc first.0 more.0 (acts_of x h d)))

-- ---- rings

pub ring_inside : (acts before : List Act) (q : ℕ) (ring : Ring) → ring_of before q ≡ None → ring_of (acts ++ before) q ≡ Some ring → ring_of acts q ≡ Some ring
ring_inside [] before q ring none e = absurd (let f : None ≡ Some ring = sym none ∙ e in cc)
ring_inside (act.Queue (Ring_made k place region) ∷ acts) before q ring none e = by (k == q) e (ring_inside acts before q ring none) where
  by : (b : Bool) → cond b (Some (record { place = place; region = region })) (ring_of (acts ++ before) q) ≡ Some ring → (ring_of (acts ++ before) q ≡ Some ring → ring_of acts q ≡ Some ring) → cond b (Some (record { place = place; region = region })) (ring_of acts q) ≡ Some ring
  by true f later = f
  by false f later = later f
ring_inside (act.Queue (Ring_dropped k) ∷ acts) before q ring none e = by (k == q) e (ring_inside acts before q ring none) where
  by : (b : Bool) → cond b None (ring_of (acts ++ before) q) ≡ Some ring → (ring_of (acts ++ before) q ≡ Some ring → ring_of acts q ≡ Some ring) → cond b None (ring_of acts q) ≡ Some ring
  by true f later = f
  by false f later = later f
ring_inside (_ ∷ acts) before q ring none e = ring_inside acts before q ring none e
