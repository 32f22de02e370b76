-- A device after a driver's line on a queue: what is kept of it is put into the queue's place.
use Rattle.std.proofs.Common.{◌≡◌, ℕ, ◌<◌, ◌≤◌, true, false, refl, ap, sym, subst, ◌∙◌, List, [], ◌++◌, length, set, not, nat_lt, vec_len, arith, Option, Some, None, Result, Ok, Err, true≢false, inl, inr}
use Rattle.std.specs.Prelude.{slice_index_or}
use Rattle.std.proofs.lemmas.Bool.{cases_lt}
use Rattle.std.proofs.lemmas.Bool.Decides.{nat_tests, eqb_tells}
use Rattle.std.proofs.lemmas.List.{get_or-set_same, get_or-set_other, length-set}
use Rattle.vd_pool.specs.Memory.{PoolMemory as Pool}
use Rattle.vd_model.specs.declared.answer.Answer.{Answer}
use Rattle.vd_model.specs.Setting.{Setting}
use Rattle.vd_model.specs.Creation.{Creation}
use Rattle.vd_model.specs.Acts.{Act}
use Rattle.vd_model.specs.State.{num_of}
use Rattle.vd_model.specs.Turn.{Turn}
use Rattle.vd_model.specs.BusTurns.{is_missing}
use Rattle.vd_answers.specs.Tells.{Tells, MayTell}
use Rattle.vd_device.specs.declared.device.Device.{Device}
use Rattle.vd_device.specs.Stands as device
use Rattle.vd_device.proofs.Parts.{memory_line}
use Rattle.vd_domain.specs.Held.{Held}
use Rattle.vd_memory_lines.specs.declared.memory.Memory.{Memory}
use Rattle.vd_request_laws.specs.Owned.{AreOwned}
use Rattle.vd_request_lines.specs.declared.held.HeldDriver.{HeldDriver}
use Rattle.vd_request_lines.specs.Stands.{RequestsStand, ring_in}
use Rattle.vd_request_lines.specs.After as request
use Rattle.vd_request_lines.proofs.Leaving.{requests_stay}
use Rattle.vd_instance.specs.declared.instance.Instance.{Instance}
use Rattle.vd_instance.specs.Stands.{Stands, After, kept_driver, kept_ring}
use Rattle.vd_instance.specs.declared.daemons.HeldDaemon.{HeldDaemon}
use Rattle.vd_instance.specs.Daemons.{DaemonsHold}
use Rattle.vd_instance.proofs.Holding.{all_hold}
use Rattle.vd_instance.proofs.Deeds.{IsSpared, deeds_leave, deeds_serve, deeds_path, same_state}
use Rattle.vd_instance.proofs.Own.{IsOwn, no_acts}

-- a device whose domain is this
abbrev pub with_domain : Device → Held → Device
with_domain d h = record d { memory = record d.memory { domain = h } }

-- and one whose memory is this
abbrev pub with_memory : Device → Memory → Device
with_memory d k = record d { memory = k }

-- a queue whose place is there, and one that has none
pub is_there : (i : Instance) (q : ℕ) → q < vec_len i.drivers → q < length i.drivers.items
is_there i q less = let same = i.drivers.ok.0 in omega (arith, less, same)

pub is_below : {x : Setting} {made : Creation} {acts : List Act} {i : Instance} {m : Pool} → Stands x made acts i m → (q : ℕ) → q < length i.drivers.items → q < made.queues
is_below s q less = subst (λ n. q < n) s.places less

pub is_gone : {x : Setting} {made : Creation} {acts : List Act} {i : Instance} {m : Pool} → Stands x made acts i m → (q : ℕ) → (q < vec_len i.drivers → false ≡ true) → is_missing made q ≡ true
is_gone {x} {made} {acts} {i} s q none = elim (cases_lt q made.queues) [ inl h ↦ absurd (true≢false (sym (none (there h)))) | inr h ↦ ap not (off h) ] where
  there : q < made.queues → q < vec_len i.drivers
  there less = let same = i.drivers.ok.0 in let places = s.places in omega (arith, less, same, places)

  off : made.queues ≤ q → nat_lt q made.queues ≡ false
  off le = grind (arith, nat_tests, le)

module _ {x : Setting} {made : Creation} {done : List Act} {i : Instance} {m : Pool} (q : ℕ) (k : Memory) (kept : Option HeldDriver) (j : Instance)
    (less : q < length i.drivers.items) (of : j.device ≡ with_memory i.device k) (placed : j.drivers.items ≡ set i.drivers.items q kept) (same : j.daemons ≡ i.daemons)
    (s : Stands x made done i m) where
  spared : (acts : List Act) (own : IsOwn done q acts) (t : ℕ) → (t ≡ q → ⊥) → IsSpared own.may (kept_ring i t)
  spared acts own t ne = by (kept_driver i t) refl where
    by : (o : Option HeldDriver) → kept_driver i t ≡ o → IsSpared own.may (ring_in o)
    by None e = tt
    by (Some held) e = λ n f. elim (eqb_tells n held.region) [ inl h ↦ absurd (clash n f h.1) | inr h ↦ h.0 ] where
      stands : RequestsStand done t (Some held)
      stands = subst (λ o. RequestsStand done t o) e (s.drivers t)

      clash : (n : ℕ) → own.may n ≡ true → n ≡ held.region → ⊥
      clash n f h =
          let r = own.freed n f in
          ne (sym (s.apart q t r.0 (record { place = held.driver.ring.place; region = held.region }) r.1 stands.side.ring (r.2 ∙ h)))

  drivers_still : (acts : List Act) → IsOwn done q acts → RequestsStand (acts ++ done) q kept → (t : ℕ) → RequestsStand (acts ++ done) t (slice_index_or (set i.drivers.items q kept) t None)
  drivers_still acts own a t = elim (eqb_tells t q) [ inl h ↦ here h.1 | inr h ↦ there h.1 ] where
    here : t ≡ q → RequestsStand (acts ++ done) t (slice_index_or (set i.drivers.items q kept) t None)
    here h = subst (λ n. RequestsStand (acts ++ done) n (slice_index_or (set i.drivers.items q kept) n None)) (sym h)
        (subst (λ o. RequestsStand (acts ++ done) q o) (sym (get_or-set_same i.drivers.items q kept None less)) a)

    there : (t ≡ q → ⊥) → RequestsStand (acts ++ done) t (slice_index_or (set i.drivers.items q kept) t None)
    there ne = subst (λ o. RequestsStand (acts ++ done) t o) (sym (get_or-set_other i.drivers.items q t kept None ne))
        (requests_stay t acts done (kept_driver i t) (deeds_leave own.may q t ne (kept_ring i t) (spared acts own t ne) acts own.only) (s.drivers t))

  driver_line : {n : Pool} (acts : List Act) → IsOwn done q acts → AreOwned (acts ++ done) made.queues → request.After x done q k n kept acts → Stands x made (acts ++ done) j n
  driver_line {n} acts own owned a = record {
    device = subst (λ (d : Device). device.Stands x made (acts ++ done) d n) (sym of) (memory_line k acts (deeds_path own.may q acts own.only) s.device a.memory);
    drivers = λ t. subst (λ l. RequestsStand (acts ++ done) t (slice_index_or l t None)) (sym placed) (drivers_still acts own a.requests t);
    places = ap length placed ∙ length-set i.drivers.items q kept ∙ s.places;
    owned = owned;
    apart = own.apart s.apart;
    sizes = λ t. subst (λ l. num_of l t ≤ 32768) (sym (same_state own.may q acts done own.only)) (s.sizes t);
    daemons = subst (λ (l : List HeldDaemon). DaemonsHold x (acts ++ done) l) (sym (ap (λ v. v.items) same))
        (all_hold x acts done i.daemons.items (λ t. deeds_serve own.may q t acts own.only) s.daemons);
    count = ap (λ v. length v.items) same ∙ s.count;
  }

  pub driver_tells : {n : Pool} {heard : Answer → Type 0} {turn : Turn Act} → IsOwn done q turn.acts → AreOwned (turn.acts ++ done) made.queues → Tells heard turn (request.After x done q k n kept)
      → Tells heard turn (After x made done j n)
  driver_tells {n} {heard} {turn} own owned t = record { says = t.says; stands = driver_line turn.acts own owned t.stands }

  pub driver_may_tell : {E : Type 0} {n : Pool} {heard : Answer → Type 0} {turn : Turn Act} (r : Result (Unit {0}) E) → IsOwn done q turn.acts → AreOwned (turn.acts ++ done) made.queues
      → MayTell heard turn (request.After x done q k n kept) r → MayTell heard turn (After x made done j n) r
  driver_may_tell {E} {n} {heard} {turn} (Ok u) own owned t = record { says = t.says; stands = driver_line turn.acts own owned t.stands }
  driver_may_tell (Err e) own owned t = record { says = tt; stands = driver_line [] (no_acts done q) s.owned t.stands }
