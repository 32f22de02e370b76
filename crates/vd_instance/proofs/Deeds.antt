-- What the acts of a driver's line on a queue leave: the control path, the block daemons, and the rings of other queues.
use Rattle.std.proofs.Common.{◌≡◌, ℕ, Bool, true, false, refl, ap, sym, ◌∙◌, subst, not, List, [], ◌∷◌, ◌++◌, Option, Some, None, true≢false, ◌==◌, inl, inr}
use Rattle.std.specs.Prelude.{◌&&◌}
use Rattle.std.specs.List.{list_all}
use Rattle.std.proofs.lemmas.Bool.Decides.{eqb_tells}
use Rattle.vd_model.specs.Acts.{Act, DriverAct, QueueAct, Node, Driver, Bus, Message_act, State, Queue, Disk_act, Buffer, Zeroed, Freed, Poked, Mapped, Unmapped, Synced_device, Synced_cpu, Region_made, Region_freed, Driver_put, Ring_made, Ring_dropped, Chain_added, Chains_published, Chain_reclaimed, Fetched, Executed, Finished, state_acts}
use Rattle.vd_control_path.specs.Acts.{is_memory_act}
use Rattle.vd_control_path.proofs.Parts.{same_after, all_of}
use Rattle.vd_queue_sides.specs.Chains.{is_ring_act}
use Rattle.vd_rings.specs.declared.held.HeldRing.{HeldRing}
use Rattle.vd_rings.specs.Stands.{leaves_ring}
use Rattle.vd_instance.proofs.Holding.{leaves_daemon}

pub both_of : (a b : Bool) → (a && b) ≡ true → (a ≡ true) × (b ≡ true)
both_of true b e = (refl, e)
both_of false b e = absurd (true≢false (sym e))

no : {X : Type 0} → false ≡ true → X
no e = absurd (true≢false (sym e))

-- the act is on the ring of this queue
abbrev pub is_queue_deed : ℕ → QueueAct → Bool
is_queue_deed q (Ring_made k place region) = k == q
is_queue_deed q (Ring_dropped k) = k == q
is_queue_deed q (Chain_added k chain) = k == q
is_queue_deed q (Chains_published k) = k == q
is_queue_deed q (Chain_reclaimed k head) = k == q
is_queue_deed q _ = false

-- or it is of the driver, and frees no region but one of these
abbrev pub is_driver_deed : (ℕ → Bool) → DriverAct → Bool
is_driver_deed may (Region_freed r) = may r.number
is_driver_deed may _ = true

abbrev pub is_deed : (ℕ → Bool) → ℕ → Act → Bool
is_deed may q (Queue act) = is_queue_deed q act
is_deed may q (Driver act) = is_driver_deed may act
is_deed may q _ = false

-- ---- what a deed leaves

module _ (may : ℕ → Bool) (q : ℕ) where
  deed_path : (act : Act) → is_deed may q act ≡ true → is_memory_act act ≡ true
  deed_path (Queue act) e = refl
  deed_path (Driver act) e = refl
  deed_path (Node act) e = no e
  deed_path (Bus act) e = no e
  deed_path (Message_act act) e = no e
  deed_path (State act) e = no e
  deed_path (Disk_act act) e = no e

  pub deeds_path : (acts : List Act) → list_all (is_deed may q) acts ≡ true → list_all is_memory_act acts ≡ true
  deeds_path acts e = all_of (is_deed may q) is_memory_act deed_path acts e

  -- what no such act of the driver and no act on a queue changes, no deed changes
  of_deed : {X : Type 0} (f : List Act → X) → ((act : QueueAct) (acts : List Act) → f (Queue act ∷ acts) ≡ f acts)
      → ((act : DriverAct) (acts : List Act) → is_driver_deed may act ≡ true → f (Driver act ∷ acts) ≡ f acts)
      → (act : Act) (acts : List Act) → is_deed may q act ≡ true → f (act ∷ acts) ≡ f acts
  of_deed f one two (Queue act) acts e = one act acts
  of_deed f one two (Driver act) acts e = two act acts e
  of_deed f one two (Node act) acts e = no e
  of_deed f one two (Bus act) acts e = no e
  of_deed f one two (Message_act act) acts e = no e
  of_deed f one two (State act) acts e = no e
  of_deed f one two (Disk_act act) acts e = no e

  pub same_state : (acts done : List Act) → list_all (is_deed may q) acts ≡ true → state_acts (acts ++ done) ≡ state_acts done
  same_state acts done e = same_after state_acts (is_deed may q) (of_deed state_acts (λ act acts. refl) (λ act acts e. refl)) acts done e

-- ---- the block daemons

module _ (may : ℕ → Bool) (q k : ℕ) where
  queue_serves : (act : QueueAct) → is_queue_deed q act ≡ true → leaves_daemon k (Queue act) ≡ true
  queue_serves (Ring_made t place region) e = refl
  queue_serves (Ring_dropped t) e = refl
  queue_serves (Chain_added t chain) e = refl
  queue_serves (Chains_published t) e = refl
  queue_serves (Chain_reclaimed t head) e = refl
  queue_serves (Fetched t) e = no e
  queue_serves (Executed t status bytes) e = no e
  queue_serves (Finished t) e = no e

  deed_serves : (act : Act) → is_deed may q act ≡ true → leaves_daemon k act ≡ true
  deed_serves (Queue act) e = queue_serves act e
  deed_serves (Driver act) e = refl
  deed_serves (Node act) e = no e
  deed_serves (Bus act) e = no e
  deed_serves (Message_act act) e = no e
  deed_serves (State act) e = no e
  deed_serves (Disk_act act) e = no e

  pub deeds_serve : (acts : List Act) → list_all (is_deed may q) acts ≡ true → list_all (leaves_daemon k) acts ≡ true
  deeds_serve acts e = all_of (is_deed may q) (leaves_daemon k) deed_serves acts e

-- ---- the rings of other queues

-- no region of these is the ring's
abbrev pub IsSpared : (ℕ → Bool) → Option HeldRing → Type 0
IsSpared may None = Unit {0}
IsSpared may (Some held) = (n : ℕ) → may n ≡ true → (n == held.region) ≡ false

pub other : (q k : ℕ) → (k ≡ q → ⊥) → (q == k) ≡ false
other q k ne = elim (eqb_tells q k) [ inl h ↦ absurd (ne (sym h.1)) | inr h ↦ h.0 ]

module _ (may : ℕ → Bool) (q k : ℕ) (ne : k ≡ q → ⊥) where
  not_on : (t : ℕ) → (t == q) ≡ true → (t == k) ≡ false
  not_on t e = elim (eqb_tells t q) [ inl h ↦ ap (λ n. n == k) h.1 ∙ other q k ne | inr h ↦ absurd (true≢false (sym e ∙ h.0)) ]

  queue_leaves : (act : QueueAct) → is_queue_deed q act ≡ true → is_ring_act k (Queue act) ≡ false
  queue_leaves (Ring_made t place region) e = not_on t e
  queue_leaves (Ring_dropped t) e = not_on t e
  queue_leaves (Chain_added t chain) e = not_on t e
  queue_leaves (Chains_published t) e = not_on t e
  queue_leaves (Chain_reclaimed t head) e = not_on t e
  queue_leaves (Fetched t) e = no e
  queue_leaves (Executed t status bytes) e = no e
  queue_leaves (Finished t) e = no e

  deed_leaves : (kept : Option HeldRing) → IsSpared may kept → (act : Act) → is_deed may q act ≡ true → leaves_ring k kept act ≡ true
  deed_leaves None free (Queue act) e = ap (λ t. not t && true) (queue_leaves act e)
  deed_leaves (Some held) free (Queue act) e = ap (λ t. not t && true) (queue_leaves act e)
  deed_leaves None free (Driver act) e = refl
  deed_leaves (Some held) free (Driver act) e = by act e where
    by : (act : DriverAct) → is_driver_deed may act ≡ true → leaves_ring k (Some held) (Driver act) ≡ true
    by (Region_freed r) e = ap not (free r.number e)
    by (Driver_put at bytes) e = refl
    by (Region_made r) e = refl
    by (Buffer bytes) e = refl
    by (Zeroed len) e = refl
    by (Freed k) e = refl
    by (Poked k at bytes) e = refl
    by (Mapped m) e = refl
    by (Unmapped m) e = refl
    by (Synced_device m) e = refl
    by (Synced_cpu m) e = refl
  deed_leaves kept free (Node act) e = no e
  deed_leaves kept free (Bus act) e = no e
  deed_leaves kept free (Message_act act) e = no e
  deed_leaves kept free (State act) e = no e
  deed_leaves kept free (Disk_act act) e = no e

  pub deeds_leave : (kept : Option HeldRing) → IsSpared may kept → (acts : List Act) → list_all (is_deed may q) acts ≡ true → list_all (leaves_ring k kept) acts ≡ true
  deeds_leave kept free acts e = all_of (is_deed may q) (leaves_ring k kept) (deed_leaves kept free) acts e
