-- The lines of a calm span that executed and finished a request.
use Rattle.std.proofs.Common.{◌≡◌, ℕ, ◌==◌, Bool, true, false, refl, ap, subst, ◌∙◌, sym, Option, None, Some, List, [], ◌∷◌, ◌++◌, ◌&&◌, map, eqb-true, true≢false, if◌then◌else◌, ◌⊎◌, inl, inr}
use Rattle.std.specs.Str.{bytes_eq}
use Rattle.std.specs.List.{list_all}
use Rattle.std.specs.Option.{option_map_or}
use Rattle.vd_num.specs.declared.errno.Errno.TheVariants.{Nodev}
use Rattle.vd_model.specs.declared.answer.Item.{Item}
use Rattle.vd_model.specs.declared.answer.Answer.TheVariants.{Done}
use Rattle.vd_model.specs.declared.step.Step.{Step}
use Rattle.vd_model.specs.declared.step.Step.TheVariants.{Control, Device}
use Rattle.vd_model.specs.declared.step.Step.TheVariants as step_of
use Rattle.vd_model.specs.declared.step.QueueStep.{QueueStep}
use Rattle.vd_model.specs.declared.step.QueueStep.TheVariants as queue
use Rattle.vd_model.specs.Setting.{Setting}
use Rattle.vd_model.specs.Creation.{Creation}
use Rattle.vd_model.specs.Acts.{Act, Queue, Finished}
use Rattle.vd_model.specs.Turn.{Turn, refuse, refusal_turn}
use Rattle.vd_model.specs.Queues.{in_hand, execution_of, Execution}
use Rattle.vd_model.specs.DaemonTurns.{hand, execute_hand, execute_turn, finish_turn}
use Rattle.vd_model.specs.Deeds.{On, Seen, device_view, acts_of_device}
use Rattle.vd_model.specs.History.{Entry, History, deeds_of, reply, disk_of, queue_turn, device_turn, device_queue_turn}
use Rattle.vd_model.specs.Agree.{concerns}
use Rattle.vd_laws.specs.Runs.{acts_of}
use Rattle.vd_ring_laws.specs.Calm.{is_calm, is_calm_queue_line}
use Rattle.vd_laws.proofs.IsolationLaw.{name_is}
use Rattle.vd_laws.proofs.Turns.{acts_of_device_on}
use Rattle.vd_ring_laws.proofs.Fair.{is_put}
use Rattle.vd_ring_bytes.proofs.Numbers.{same_number}
use Rattle.vd_order_laws.proofs.OtherLines.{device_off}
use Rattle.vd_disk_laws.proofs.LineDeeds.{AreOther, offs_other, Finishes, unfinished, finished, Executes_as, unexecuted, executes, finish_does, execute_does, queue_other}
use Rattle.vd_order_laws.proofs.OrderLaw.{control_acts}

-- ---- what an entry makes

abbrev pub at_step : Step → Bool → Entry
at_step step failed = record { step = step; failed = failed }

pub data Makes (x : Setting) (d : List ℕ) (q : ℕ) (g : History) (entry : Entry) : Type 0 where
  other : (turn : List Act) → acts_of x (entry ∷ g) d ≡ turn ++ acts_of x g d → AreOther q turn
      → ((f : Bool) (items : List Item) → entry ≡ record { step = step_of.Queue d (queue.Finish q); failed = f } → reply x g (step_of.Queue d (queue.Finish q)) f ≡ Done items → ⊥)
      → ((f : Bool) (items : List Item) → entry ≡ record { step = step_of.Queue d (queue.Execute q); failed = f } → reply x g (step_of.Queue d (queue.Execute q)) f ≡ Done items → ⊥)
      → Makes x d q g entry
  finishes : (f : Bool) → entry ≡ record { step = step_of.Queue d (queue.Finish q); failed = f } → (earlier : List Act) → in_hand (acts_of x g d) q ≡ Some earlier → (end : Execution) → execution_of (acts_of x g d) q ≡ Some end
      → (puts : List Act) → list_all is_put puts ≡ true → acts_of x (entry ∷ g) d ≡ Queue (Finished q) ∷ puts ++ acts_of x g d → (items : List Item) → reply x g (step_of.Queue d (queue.Finish q)) f ≡ Done items
      → Makes x d q g entry
  does : (f : Bool) → entry ≡ record { step = step_of.Queue d (queue.Execute q); failed = f } → (made : Creation) → (device_view x d (deeds_of x g)).made ≡ Some made
      → (earlier : List Act) → in_hand (acts_of x g d) q ≡ Some earlier
      → acts_of x (entry ∷ g) d ≡ (execute_hand (disk_of made d (device_view x d (deeds_of x g))) f q (hand x earlier q)).acts ++ acts_of x g d
      → reply x g (step_of.Queue d (queue.Execute q)) f ≡ (execute_hand (disk_of made d (device_view x d (deeds_of x g))) f q (hand x earlier q)).answer
      → Makes x d q g entry

pub name_self : (d : List ℕ) → bytes_eq d d ≡ true
name_self [] = refl
name_self (b ∷ d) = ap (λ c. c && bytes_eq d d) (same_number b) ∙ name_self d

module _ (x : Setting) (d : List ℕ) (q : ℕ) (g : History) where
  abbrev s : Seen
  s = device_view x d (deeds_of x g)

  queue_others : (failed : Bool) (step : QueueStep) → is_calm_queue_line step ≡ true → ((k : ℕ) → (step ≡ queue.Finish k) ⊎ (step ≡ queue.Execute k) → (k == q) ≡ false) → AreOther q (device_queue_turn x d s failed step).acts
  queue_others failed step c h = by s.made where
    by : (o : Option Creation) → AreOther q (option_map_or (λ made. queue_turn x made d s failed step) o (refusal_turn Nodev)).acts
    by None = tt
    by (Some made) = queue_other x made d s failed q step c h

  finish_line : (failed : Bool) → Finishes x s.acts q (device_queue_turn x d s failed (queue.Finish q))
  finish_line failed = by s.made where
    session : (made : Creation) (o : _) → Finishes x s.acts q (refuse o (finish_turn x made s.acts q))
    session made None = finish_does x s.acts q made
    session made (Some errno) = unfinished refl (λ items e. cc)

    by : (o : Option Creation) → Finishes x s.acts q (option_map_or (λ made. queue_turn x made d s failed (queue.Finish q)) o (refusal_turn Nodev))
    by None = unfinished refl (λ items e. cc)
    by (Some made) = session made _

  abbrev Runs : Turn Act → Bool → Type 0
  Runs turn failed = ((turn.acts ≡ []) × ((items : List Item) → turn.answer ≡ Done items → ⊥)) ⊎ ((made : Creation) × (s.made ≡ Some made) × Executes_as x (disk_of made d s) failed s.acts q turn)

  execute_line : (failed : Bool) → Runs (device_queue_turn x d s failed (queue.Execute q)) failed
  execute_line failed = by s.made refl where
    session : (made : Creation) (o : _) → Executes_as x (disk_of made d s) failed s.acts q (refuse o (execute_turn x made (disk_of made d s) failed s.acts q))
    session made None = execute_does x s.acts q made (disk_of made d s) failed
    session made (Some errno) = unexecuted refl (λ items e. cc)

    by : (o : Option Creation) → s.made ≡ o → Runs (option_map_or (λ made. queue_turn x made d s failed (queue.Execute q)) o (refusal_turn Nodev)) failed
    by None e = inl (refl, λ items e. cc)
    by (Some made) e = inr (made, e, session made _)

  -- a step that isn't on a queue, or is on another's device or another line
  apart_step : (step : Step) (failed : Bool) (line : QueueStep) → (step ≡ step_of.Queue d line → ⊥) → (f : Bool) (items : List Item) → at_step step failed ≡ at_step (step_of.Queue d line) f → reply x g (step_of.Queue d line) f ≡ Done items → ⊥
  apart_step step failed line no_step f items e r = no_step (ap (λ (e : Entry). e.step) e)

  queue_makes : (step : QueueStep) (failed : Bool) → is_calm_queue_line step ≡ true → acts_of x (record { step = step_of.Queue d step; failed = failed } ∷ g) d ≡ (device_queue_turn x d s failed step).acts ++ acts_of x g d
      → Makes x d q g (record { step = step_of.Queue d step; failed = failed })
  queue_makes (queue.Finish k) failed c same = by (k == q) refl where
    by : (b : Bool) → (k == q) ≡ b → Makes x d q g (record { step = step_of.Queue d (queue.Finish k); failed = failed })
    by true e = subst (λ k. acts_of x (record { step = step_of.Queue d (queue.Finish k); failed = failed } ∷ g) d ≡ (device_queue_turn x d s failed (queue.Finish k)).acts ++ acts_of x g d → Makes x d q g (record { step = step_of.Queue d (queue.Finish k); failed = failed }))
        (sym (eqb-true k q e)) (mine (finish_line failed)) same where
          mine : Finishes x s.acts q (device_queue_turn x d s failed (queue.Finish q))
              → acts_of x (record { step = step_of.Queue d (queue.Finish q); failed = failed } ∷ g) d ≡ (device_queue_turn x d s failed (queue.Finish q)).acts ++ acts_of x g d → Makes x d q g (record { step = step_of.Queue d (queue.Finish q); failed = failed })
          mine (unfinished none quiet) same = other [] (same ∙ ap (λ l. l ++ acts_of x g d) none) tt
              (λ f items e r. quiet items (subst (λ (b : Bool). (device_queue_turn x d s b (queue.Finish q)).answer ≡ Done items) (sym (ap (λ (e : Entry). e.failed) e)) r))
              (apart_step (step_of.Queue d (queue.Finish q)) failed (queue.Execute q) (λ e. cc))
          mine (finished earlier h end i puts are is items done) same = finishes failed refl earlier h end i puts are (same ∙ ap (λ l. l ++ acts_of x g d) is) items done
    by false e = other (device_queue_turn x d s failed (queue.Finish k)).acts same (queue_others failed (queue.Finish k) c (λ j h. elim h [ inl i ↦ (let is : k ≡ j = cc in subst (λ j. (j == q) ≡ false) is e) | inr i ↦ cc ]))
        (apart_step (step_of.Queue d (queue.Finish k)) failed (queue.Finish q) (λ h. (let is : k ≡ q = cc in true≢false (sym (subst (λ j. (k == j) ≡ true) is (same_number k)) ∙ e))))
        (apart_step (step_of.Queue d (queue.Finish k)) failed (queue.Execute q) (λ h. cc))
  queue_makes (queue.Execute k) failed c same = by (k == q) refl where
    by : (b : Bool) → (k == q) ≡ b → Makes x d q g (record { step = step_of.Queue d (queue.Execute k); failed = failed })
    by true e = subst (λ k. acts_of x (record { step = step_of.Queue d (queue.Execute k); failed = failed } ∷ g) d ≡ (device_queue_turn x d s failed (queue.Execute k)).acts ++ acts_of x g d → Makes x d q g (record { step = step_of.Queue d (queue.Execute k); failed = failed }))
        (sym (eqb-true k q e)) (mine (execute_line failed)) same where
          none_made : (device_queue_turn x d s failed (queue.Execute q)).acts ≡ [] → ((items : List Item) → (device_queue_turn x d s failed (queue.Execute q)).answer ≡ Done items → ⊥)
              → acts_of x (record { step = step_of.Queue d (queue.Execute q); failed = failed } ∷ g) d ≡ (device_queue_turn x d s failed (queue.Execute q)).acts ++ acts_of x g d → Makes x d q g (record { step = step_of.Queue d (queue.Execute q); failed = failed })
          none_made none quiet same = other [] (same ∙ ap (λ l. l ++ acts_of x g d) none) tt
              (apart_step (step_of.Queue d (queue.Execute q)) failed (queue.Finish q) (λ e. cc))
              (λ f items e r. quiet items (subst (λ (b : Bool). (device_queue_turn x d s b (queue.Execute q)).answer ≡ Done items) (sym (ap (λ (e : Entry). e.failed) e)) r))

          mine : Runs (device_queue_turn x d s failed (queue.Execute q)) failed
              → acts_of x (record { step = step_of.Queue d (queue.Execute q); failed = failed } ∷ g) d ≡ (device_queue_turn x d s failed (queue.Execute q)).acts ++ acts_of x g d → Makes x d q g (record { step = step_of.Queue d (queue.Execute q); failed = failed })
          mine (inl n) same = none_made n.0 n.1 same
          mine (inr (made, is_made, unexecuted none quiet)) same = none_made none quiet same
          mine (inr (made, is_made, executes earlier h i is)) same = does failed refl made is_made earlier h (same ∙ ap (λ (t : Turn Act). t.acts ++ acts_of x g d) is) (ap (λ (t : Turn Act). t.answer) is)
    by false e = other (device_queue_turn x d s failed (queue.Execute k)).acts same (queue_others failed (queue.Execute k) c (λ j h. elim h [ inl i ↦ cc | inr i ↦ (let is : k ≡ j = cc in subst (λ j. (j == q) ≡ false) is e) ]))
        (apart_step (step_of.Queue d (queue.Execute k)) failed (queue.Finish q) (λ h. cc))
        (apart_step (step_of.Queue d (queue.Execute k)) failed (queue.Execute q) (λ h. (let is : k ≡ q = cc in true≢false (sym (subst (λ j. (k == j) ≡ true) is (same_number k)) ∙ e))))
  queue_makes (queue.Fetch k) failed c same = other _ same (queue_others failed (queue.Fetch k) c (λ j h. elim h [ inl i ↦ cc | inr i ↦ cc ])) (apart_step (step_of.Queue d (queue.Fetch k)) failed (queue.Finish q) (λ h. cc)) (apart_step (step_of.Queue d (queue.Fetch k)) failed (queue.Execute q) (λ h. cc))
  queue_makes (queue.Ring k size) failed c same = other _ same (queue_others failed (queue.Ring k size) c (λ j h. elim h [ inl i ↦ cc | inr i ↦ cc ])) (apart_step (step_of.Queue d (queue.Ring k size)) failed (queue.Finish q) (λ h. cc)) (apart_step (step_of.Queue d (queue.Ring k size)) failed (queue.Execute q) (λ h. cc))
  queue_makes (queue.Submit k form) failed c same = other _ same (queue_others failed (queue.Submit k form) c (λ j h. elim h [ inl i ↦ cc | inr i ↦ cc ])) (apart_step (step_of.Queue d (queue.Submit k form)) failed (queue.Finish q) (λ h. cc)) (apart_step (step_of.Queue d (queue.Submit k form)) failed (queue.Execute q) (λ h. cc))
  queue_makes (queue.Poll k) failed c same = other _ same (queue_others failed (queue.Poll k) c (λ j h. elim h [ inl i ↦ cc | inr i ↦ cc ])) (apart_step (step_of.Queue d (queue.Poll k)) failed (queue.Finish q) (λ h. cc)) (apart_step (step_of.Queue d (queue.Poll k)) failed (queue.Execute q) (λ h. cc))
  queue_makes _ failed c same = cc

  not_named : (name : List ℕ) (line other_line : QueueStep) → bytes_eq d name ≡ false → step_of.Queue name line ≡ step_of.Queue d other_line → ⊥
  not_named name line other_line e h = let is : name ≡ d = cc in true≢false (sym (name_self d) ∙ subst (λ n. bytes_eq d n ≡ false) is e)

  pub entry_makes : (step : Step) (failed : Bool) → (concerns d step ≡ true → is_calm step ≡ true) → Makes x d q g (record { step = step; failed = failed })
  unfolding deeds_of
  entry_makes (Control step) failed c =
      let t = control_acts x d g step failed c in
      other t.0 t.1 (offs_other q t.0 t.2) (apart_step (Control step) failed (queue.Finish q) (λ h. cc)) (apart_step (Control step) failed (queue.Execute q) (λ h. cc))
  entry_makes (Device name step) failed c = by (bytes_eq d name) refl (acts_of_device_on d name (device_turn x (device_view x name (deeds_of x g)) step).acts (deeds_of x g)) where
    by : (b : Bool) → bytes_eq d name ≡ b → acts_of_device d (map (On name) (device_turn x (device_view x name (deeds_of x g)) step).acts ++ deeds_of x g) ≡ (if b then (device_turn x (device_view x name (deeds_of x g)) step).acts else []) ++ acts_of_device d (deeds_of x g)
        → Makes x d q g (record { step = Device name step; failed = failed })
    by true e f = other (device_turn x s step).acts (f ∙ ap (λ n. (device_turn x (device_view x n (deeds_of x g)) step).acts ++ acts_of_device d (deeds_of x g)) (sym (name_is d name e))) (offs_other q (device_turn x s step).acts (device_off x s step))
        (apart_step (Device name step) failed (queue.Finish q) (λ h. cc)) (apart_step (Device name step) failed (queue.Execute q) (λ h. cc))
    by false e f = other [] f tt (apart_step (Device name step) failed (queue.Finish q) (λ h. cc)) (apart_step (Device name step) failed (queue.Execute q) (λ h. cc))
  entry_makes (step_of.Queue name step) failed c = by (bytes_eq d name) refl (acts_of_device_on d name (device_queue_turn x name (device_view x name (deeds_of x g)) failed step).acts (deeds_of x g)) where
    by : (b : Bool) → bytes_eq d name ≡ b
        → acts_of_device d (map (On name) (device_queue_turn x name (device_view x name (deeds_of x g)) failed step).acts ++ deeds_of x g) ≡ (if b then (device_queue_turn x name (device_view x name (deeds_of x g)) failed step).acts else []) ++ acts_of_device d (deeds_of x g)
        → Makes x d q g (record { step = step_of.Queue name step; failed = failed })
    by true e f = subst (λ n. acts_of x (record { step = step_of.Queue n step; failed = failed } ∷ g) d ≡ (device_queue_turn x n (device_view x n (deeds_of x g)) failed step).acts ++ acts_of x g d → Makes x d q g (record { step = step_of.Queue n step; failed = failed }))
        (name_is d name e) (queue_makes step failed (c e)) f
    by false e f = other [] f tt (apart_step (step_of.Queue name step) failed (queue.Finish q) (not_named name step (queue.Finish q) e)) (apart_step (step_of.Queue name step) failed (queue.Execute q) (not_named name step (queue.Execute q) e))
