-- What a line leaves of the rings, and of the sizes that a driver may choose.
use Rattle.std.proofs.Common.{◌≡◌, ℕ, ◌≤◌, arith, Bool, true, false, refl, ap, sym, ◌∙◌, not, nat_le, List, [], ◌∷◌, ◌++◌, Option, Some, None, Result, Ok, Err, true≢false, ◌==◌, if◌then◌else◌}
use Rattle.std.proofs.lemmas.Bool.Decides.{nat_tests}
use Rattle.vd_pool.specs.Memory.{PoolMemory as Pool}
use Rattle.vd_model.specs.declared.answer.Answer.{Answer}
use Rattle.vd_model.specs.Setting.{Setting}
use Rattle.vd_model.specs.Creation.{Creation}
use Rattle.vd_model.specs.Acts.{Act, Node, Driver, Bus, Message_act, State, Queue, Disk_act, DriverAct, Buffer, Zeroed, Freed, Poked, Mapped, Unmapped, Synced_device, Synced_cpu, Region_made, Region_freed, Driver_put, state_acts}
use Rattle.vd_model.specs.State.{Num_set, Cleared, num_of}
use Rattle.vd_model.specs.Turn.{Turn}
use Rattle.vd_model.specs.Queues.{ring_of}
use Rattle.vd_answers.specs.Tells.{MayTell}
use Rattle.vd_control_path.proofs.Parts.{same_after, all_of}
use Rattle.vd_device.specs.declared.device.Device.{Device}
use Rattle.vd_device.specs.Stands as device
use Rattle.vd_rings.specs.declared.held.HeldRing.{HeldRing}
use Rattle.vd_rings.specs.Stands.{leaves_ring}
use Rattle.vd_request_laws.specs.Owned.{AreOwned}
use Rattle.vd_request_lines.proofs.Leaving.{requests_stay}
use Rattle.vd_instance.specs.declared.instance.Instance.{Instance}
use Rattle.vd_instance.specs.Stands.{Stands, After, HaveOwnRegions, kept_driver, kept_ring}
use Rattle.vd_instance.proofs.Calm.{is_calm, are_calm}
use Rattle.vd_instance.proofs.Deeds.{both_of, IsSpared}
use Rattle.vd_instance.proofs.Holding.{leaves_daemon, all_hold}

-- ---- sizes

chosen : (t : Bool) (num old : ℕ) → nat_le num 32768 ≡ true → old ≤ 32768 → (if t then num else old) ≤ 32768
chosen true num old e h = grind (arith, nat_tests, e)
chosen false num old e h = h

size_after : (may : ℕ → Bool) (act : Act) (acts : List Act) → is_calm may act ≡ true → ((q : ℕ) → num_of (state_acts acts) q ≤ 32768) → (q : ℕ) → num_of (state_acts (act ∷ acts)) q ≤ 32768
size_after may (State (Num_set k num)) acts e h q = chosen (k == q) num (num_of (state_acts acts) q) e (h q)
size_after may (State Cleared) acts e h q = omega arith
size_after may act acts e h q = h q

sizes_after : (may : ℕ → Bool) (acts done : List Act) → are_calm may acts ≡ true → ((q : ℕ) → num_of (state_acts done) q ≤ 32768) → (q : ℕ) → num_of (state_acts (acts ++ done)) q ≤ 32768
sizes_after may [] done e h q = h q
sizes_after may (act ∷ acts) done e h q =
    let parts = both_of (is_calm may act) (are_calm may acts) e in
    size_after may act (acts ++ done) parts.0 (sizes_after may acts done parts.1 h) q

-- ---- rings

no_rings : (may : ℕ → Bool) (q : ℕ) (act : Act) (acts : List Act) → is_calm may act ≡ true → ring_of (act ∷ acts) q ≡ ring_of acts q
no_rings may q (Queue act) acts e = absurd (true≢false (sym e))
no_rings may q (Node act) acts e = refl
no_rings may q (Driver act) acts e = refl
no_rings may q (Bus act) acts e = refl
no_rings may q (Message_act act) acts e = refl
no_rings may q (State act) acts e = refl
no_rings may q (Disk_act act) acts e = refl

-- rings that are the same lie in regions of their own
pub own_still : (old new : List Act) → ((q : ℕ) → ring_of new q ≡ ring_of old q) → HaveOwnRegions old → HaveOwnRegions new
own_still old new same h q k r s e f = h q k r s (sym (same q) ∙ e) (sym (same k) ∙ f)

module _ (may : ℕ → Bool) (k : ℕ) where
  calm_leaves : (kept : Option HeldRing) → IsSpared may kept → (act : Act) → is_calm may act ≡ true → leaves_ring k kept act ≡ true
  calm_leaves kept free (Queue act) e = absurd (true≢false (sym e))
  calm_leaves None free (Driver act) e = refl
  calm_leaves (Some held) free (Driver act) e = by act e where
    by : (act : DriverAct) → is_calm may (Driver act) ≡ true → leaves_ring k (Some held) (Driver act) ≡ true
    by (Region_freed r) e = ap not (free r.number e)
    by (Driver_put at bytes) e = refl
    by (Region_made r) e = refl
    by (Buffer bytes) e = refl
    by (Zeroed len) e = refl
    by (Freed k) e = refl
    by (Poked k at bytes) e = refl
    by (Mapped m) e = refl
    by (Unmapped m) e = refl
    by (Synced_device m) e = refl
    by (Synced_cpu m) e = refl
  calm_leaves None free (Node act) e = refl
  calm_leaves None free (Bus act) e = refl
  calm_leaves None free (Message_act act) e = refl
  calm_leaves None free (State act) e = refl
  calm_leaves None free (Disk_act act) e = refl
  calm_leaves (Some held) free (Node act) e = refl
  calm_leaves (Some held) free (Bus act) e = refl
  calm_leaves (Some held) free (Message_act act) e = refl
  calm_leaves (Some held) free (State act) e = refl
  calm_leaves (Some held) free (Disk_act act) e = refl

-- ---- the block daemons

calm_daemon : (may : ℕ → Bool) (q : ℕ) (act : Act) → is_calm may act ≡ true → leaves_daemon q act ≡ true
calm_daemon may q (Queue act) e = absurd (true≢false (sym e))
calm_daemon may q (Node act) e = refl
calm_daemon may q (Driver act) e = refl
calm_daemon may q (Bus act) e = refl
calm_daemon may q (Message_act act) e = refl
calm_daemon may q (State act) e = refl
calm_daemon may q (Disk_act act) e = refl

-- ---- a line on the device

pub device_line : {x : Setting} {made : Creation} {done : List Act} {i : Instance} {m n : Pool} (may : ℕ → Bool) (d : Device) (acts : List Act) → ((q : ℕ) → IsSpared may (kept_ring i q))
    → are_calm may acts ≡ true → AreOwned (acts ++ done) made.queues → Stands x made done i m → device.Stands x made (acts ++ done) d n → Stands x made (acts ++ done) (record i { device = d }) n
device_line {x} {made} {done} {i} may d acts free only owned s h = record {
  device = h;
  drivers = λ q. requests_stay q acts done (kept_driver i q) (all_of (is_calm may) (leaves_ring q (kept_ring i q)) (calm_leaves may q (kept_ring i q) (free q)) acts only) (s.drivers q);
  places = s.places;
  owned = owned;
  apart = own_still done (acts ++ done) (λ q. same_after (λ l. ring_of l q) (is_calm may) (no_rings may q) acts done only) s.apart;
  sizes = sizes_after may acts done only s.sizes;
  daemons = all_hold x acts done i.daemons.items (λ q. all_of (is_calm may) (leaves_daemon q) (calm_daemon may q) acts only) s.daemons;
  count = s.count;
}

pub device_tells : {E : Type 0} {heard : Answer → Type 0} {turn : Turn Act} {x : Setting} {made : Creation} {done : List Act} {i : Instance} {m n : Pool} (may : ℕ → Bool) (d : Device) (r : Result (Unit {0}) E)
    → ((q : ℕ) → IsSpared may (kept_ring i q)) → are_calm may turn.acts ≡ true → AreOwned (turn.acts ++ done) made.queues
    → Stands x made done i m → MayTell heard turn (device.After x made done d n) r → MayTell heard turn (After x made done (record i { device = d }) n) r
device_tells {E} {heard} {turn} may d (Ok u) free only owned s h = record { says = h.says; stands = device_line may d turn.acts free only owned s h.stands }
device_tells may d (Err e) free only owned s h = record { says = tt; stands = device_line may d [] free refl s.owned s h.stands }

-- an act of another kind than these, as of time, frees none
pub spares_all : (kept : Option HeldRing) → IsSpared (λ n. false) kept
spares_all None = tt
spares_all (Some held) = λ n e. absurd (true≢false (sym e))
