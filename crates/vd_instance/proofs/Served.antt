-- A device after a line of the block daemon on a queue.
use Rattle.std.proofs.Common.{◌≡◌, ℕ, ◌<◌, ◌≤◌, true, false, refl, ap, sym, subst, ◌∙◌, List, [], ◌++◌, length, set, not, nat_lt, vec_len, arith, Some, None, Result, Ok, Err, true≢false, inl, inr, Bool, if◌then◌else◌}
use Rattle.std.specs.Prelude.{slice_get, slice_index_or, ◌||◌, ◌==◌}
use Rattle.std.proofs.lemmas.Bool.{cases_lt}
use Rattle.std.proofs.lemmas.Bool.Decides.{nat_tests, eqb_tells}
use Rattle.std.proofs.lemmas.List.{get_or-set_same, get_or-set_other, length-set}
use Rattle.std.proofs.lemmas.Option.{slice_get_within, get_or_from_slice_get, slice_get-get_or}
use Rattle.vd_pool.specs.Memory.{PoolMemory as Pool}
use Rattle.vd_model.specs.declared.answer.Answer.{Answer}
use Rattle.vd_model.specs.Setting.{Setting}
use Rattle.vd_model.specs.Creation.{Creation}
use Rattle.vd_model.specs.Acts.{Act, state_acts}
use Rattle.vd_model.specs.State.{num_of, is_ready}
use Rattle.vd_model.specs.DaemonTurns.{is_idle, queue_place}
use Rattle.vd_model.specs.Turn.{Turn, refuse, refusal_if, refusal_turn}
use Rattle.vd_num.specs.declared.errno.Errno.TheVariants.{Inval}
use Rattle.vd_model.specs.BusTurns.{is_missing}
use Rattle.vd_answers.specs.Tells.{MayTell}
use Rattle.vd_control_path.specs.Ends.{ends_of}
use Rattle.vd_device.specs.declared.device.Device.{Device}
use Rattle.vd_device.specs.Stands as device
use Rattle.vd_device.proofs.Parts.{memory_line}
use Rattle.vd_domain.specs.Held as domains
use Rattle.vd_request_laws.proofs.Pending.{quiet_owned}
use Rattle.vd_request_lines.specs.Stands.{RequestsStand}
use Rattle.vd_request_lines.proofs.Leaving.{requests_stay}
use Rattle.blk_daemon.specs.Held.{Held}
use Rattle.vd_daemon_lines.specs.After as daemon
use Rattle.vd_daemon_lines.specs.Stands.{DaemonStands}
use Rattle.vd_instance.specs.declared.instance.Instance.{Instance}
use Rattle.vd_instance.specs.declared.daemons.HeldDaemon.{HeldDaemon}
use Rattle.vd_instance.specs.Daemons.{DaemonHolds, DaemonsHold, AreNamed, daemon_at}
use Rattle.vd_instance.specs.Lines.{daemon_line_turn}
use Rattle.vd_instance.specs.declared.service.DaemonLine.{DaemonLine}
use Rattle.vd_instance.specs.declared.service.DaemonLine.TheVariants.{Fetch, Finish}
use Rattle.vd_instance.specs.Stands.{Stands, After, kept_driver, kept_ring}
use Rattle.vd_instance.proofs.Holding.{holds_after, kept_now}
use Rattle.vd_instance.proofs.Kept.{own_still}
use Rattle.vd_instance.proofs.Placed.{with_domain}
use Rattle.vd_instance.proofs.Services.{are_services, services_path, service_state, service_ends, service_ring, services_leave, services_apart, services_quiet, memory_serves}

-- a queue whose daemon is there, and one that has none
pub is_served : (i : Instance) (q : ℕ) → q < vec_len i.daemons → q < length i.daemons.items
is_served i q less = let same = i.daemons.ok.0 in omega (arith, less, same)

pub is_known : {x : Setting} {made : Creation} {acts : List Act} {i : Instance} {m : Pool} → Stands x made acts i m → (q : ℕ) → q < vec_len i.daemons → is_missing made q ≡ false
is_known {x} {made} {acts} {i} s q less = ap not below where
  below : nat_lt q made.queues ≡ true
  below = let same = i.daemons.ok.0 in let count = s.count in let there : q < made.queues = omega (arith, less, same, count) in grind (arith, nat_tests, there)

pub is_unknown : {x : Setting} {made : Creation} {acts : List Act} {i : Instance} {m : Pool} → Stands x made acts i m → (q : ℕ) → (q < vec_len i.daemons → false ≡ true) → is_missing made q ≡ true
is_unknown {x} {made} {acts} {i} s q none = elim (cases_lt q made.queues) [ inl h ↦ absurd (true≢false (sym (none (there h)))) | inr h ↦ ap not (off h) ] where
  there : q < made.queues → q < vec_len i.daemons
  there less = let same = i.daemons.ok.0 in let count = s.count in omega (arith, less, same, count)

  off : made.queues ≤ q → nat_lt q made.queues ≡ false
  off le = grind (arith, nat_tests, le)

-- the daemon that is kept of a queue
pub held_there : {x : Setting} {made : Creation} {acts : List Act} {i : Instance} {m : Pool} → Stands x made acts i m → (q : ℕ) (kept : HeldDaemon) → q < length i.daemons.items
    → kept ≡ slice_index_or i.daemons.items q kept → DaemonHolds x acts q kept
held_there {x} {made} {acts} {i} s q kept less e = s.daemons q kept (slice_get-get_or i.daemons.items q kept less ∙ ap Some (sym e))

-- what is put into a place is read there, and elsewhere what was there
one_of : (kept : List HeldDaemon) (q t : ℕ) (new d : HeldDaemon) → slice_get (set kept q new) t ≡ Some d → (t ≡ q → ⊥) → slice_get kept t ≡ Some d
one_of kept q t new d there ne =
    let less = slice_get_within (set kept q new) t d there in
    let below : t < length kept = subst (λ n. t < n) (length-set kept q new) less in
    slice_get-get_or kept t d below ∙ ap Some (sym (get_or-set_other kept q t new d ne) ∙ get_or_from_slice_get (set kept q new) t d d there)

this_one : (kept : List HeldDaemon) (q : ℕ) (new d : HeldDaemon) → q < length kept → slice_get (set kept q new) q ≡ Some d → d ≡ new
this_one kept q new d less there = sym (get_or_from_slice_get (set kept q new) q d new there) ∙ get_or-set_same kept q new new less

-- a daemon in place of another of the same name leaves all named
pub named_still : (name : List ℕ) (kept : List HeldDaemon) (q : ℕ) (new : HeldDaemon) → new.daemon.name ≡ name → AreNamed name kept → AreNamed name (set kept q new)
named_still name kept q new e all = λ t d there. elim (eqb_tells t q) [ inl h ↦ here t d there h.1 | inr h ↦ all t d (one_of kept q t new d there h.1) ] where
  here : (t : ℕ) (d : HeldDaemon) → slice_get (set kept q new) t ≡ Some d → t ≡ q → d.daemon.name ≡ name
  here t d there same =
      let less = slice_get_within (set kept q new) t d there in
      let below : q < length kept = subst (λ n. n < length kept) same (subst (λ n. t < n) (length-set kept q new) less) in
      ap (λ k. k.daemon.name) (this_one kept q new d below (subst (λ n. slice_get (set kept q new) n ≡ Some d) same there)) ∙ e

module _ {x : Setting} {made : Creation} {done : List Act} {i : Instance} {m : Pool} (q : ℕ) (h : domains.Held) (k : Held) (ends : ℕ) (j : Instance)
    (less : q < length i.daemons.items) (of : j.device ≡ with_domain i.device h) (drivers : j.drivers ≡ i.drivers)
    (placed : j.daemons.items ≡ set i.daemons.items q (record { daemon = k; ends = ends })) (now : ends ≡ ends_of done q) (s : Stands x made done i m) where
  daemons_still : (acts : List Act) → are_services q acts ≡ true → DaemonStands x (acts ++ done) q k → DaemonsHold x (acts ++ done) (set i.daemons.items q (record { daemon = k; ends = ends }))
  daemons_still acts only a = λ t d there. elim (eqb_tells t q) [ inl e ↦ here t d there e.1 | inr e ↦ elsewhere t d there e.1 ] where
    here : (t : ℕ) (d : HeldDaemon) → slice_get (set i.daemons.items q (record { daemon = k; ends = ends })) t ≡ Some d → t ≡ q → DaemonHolds x (acts ++ done) t d
    here t d there same = subst (λ n. DaemonHolds x (acts ++ done) n d) (sym same)
        (subst (λ v. DaemonHolds x (acts ++ done) q v)
        (sym (this_one i.daemons.items q (record { daemon = k; ends = ends }) d less (subst (λ n. slice_get (set i.daemons.items q (record { daemon = k; ends = ends })) n ≡ Some d) same there)))
        (kept_now x (acts ++ done) q k ends (now ∙ sym (service_ends q acts done only)) a))

    elsewhere : (t : ℕ) (d : HeldDaemon) → slice_get (set i.daemons.items q (record { daemon = k; ends = ends })) t ≡ Some d → (t ≡ q → ⊥) → DaemonHolds x (acts ++ done) t d
    elsewhere t d there ne = holds_after x t d acts done (services_apart q t ne acts only) (s.daemons t d (one_of i.daemons.items q t (record { daemon = k; ends = ends }) d there ne))

  pub service_line : {n : Pool} (acts : List Act) → are_services q acts ≡ true → daemon.After x done q h n k acts → Stands x made (acts ++ done) j n
  service_line {n} acts only a = record {
    device = subst (λ (d : Device). device.Stands x made (acts ++ done) d n) (sym of)
        (memory_line (record i.device.memory { domain = h }) acts (services_path q acts only) s.device (memory_serves q x acts done i.device.memory m n h only s.device.memory a.domain));
    drivers = λ t. subst (λ r. RequestsStand (acts ++ done) t (slice_index_or r.items t None)) (sym drivers)
        (requests_stay t acts done (kept_driver i t) (services_leave q t (kept_ring i t) acts only) (s.drivers t));
    places = ap (λ r. length r.items) drivers ∙ s.places;
    owned = quiet_owned acts done made.queues (services_quiet q acts only) s.owned;
    apart = own_still done (acts ++ done) (service_ring q acts done only) s.apart;
    sizes = λ t. subst (λ l. num_of l t ≤ 32768) (sym (service_state q acts done only)) (s.sizes t);
    daemons = subst (λ (l : List HeldDaemon). DaemonsHold x (acts ++ done) l) (sym placed) (daemons_still acts only a.daemon);
    count = ap length placed ∙ length-set i.daemons.items q (record { daemon = k; ends = ends }) ∙ s.count;
  }

  pub service_may_tell : {E : Type 0} {n : Pool} {heard : Answer → Type 0} {turn : Turn Act} (r : Result (Unit {0}) E) → are_services q turn.acts ≡ true → MayTell heard turn (daemon.After x done q h n k) r
      → MayTell heard turn (After x made done j n) r
  service_may_tell {E} {n} {heard} {turn} (Ok u) only t = record { says = t.says; stands = service_line turn.acts only t.stands }
  service_may_tell (Err e) only t = record { says = tt; stands = service_line [] refl t.stands }

-- a daemon that was renewed stands as it is
pub renewed : {x : Setting} {acts : List Act} {q : ℕ} {kept new : HeldDaemon} {ends : ℕ} → DaemonHolds x acts q kept → ends ≡ ends_of acts q
    → new ≡ record { daemon = daemon_at ends kept; ends = ends } → DaemonStands x acts q new.daemon
renewed {x} {acts} {q} {kept} {new} {ends} h counted e =
    subst (λ (d : HeldDaemon). DaemonStands x acts q d.daemon) (sym e) (subst (λ n. DaemonStands x acts q (daemon_at n kept)) (sym counted) h.stands)

-- the name stays when a daemon has no position
pub same_name : (ends : ℕ) (d : HeldDaemon) → (daemon_at ends d).name ≡ d.daemon.name
same_name ends d = by (d.ends == ends) where
  by : (t : Bool) → (if t then d.daemon else record { name = d.daemon.name; side = None; request = None }).name ≡ d.daemon.name
  by true = refl
  by false = refl

-- and keeps its name
pub renewed_name : (name : List ℕ) (all : List HeldDaemon) (q : ℕ) (kept : HeldDaemon) {new : HeldDaemon} (ends : ℕ) → q < length all → kept ≡ slice_index_or all q kept
    → new ≡ record { daemon = daemon_at ends kept; ends = ends } → AreNamed name all → new.daemon.name ≡ name
renewed_name name all q kept {new} ends less at e named =
    ap (λ (d : HeldDaemon). d.daemon.name) e ∙ same_name ends kept ∙ named q kept (slice_get-get_or all q kept less ∙ ap Some (sym at))

refused_by : (t : Bool) (turn : Turn Act) → t ≡ true → refuse (refusal_if t Inval) turn ≡ refusal_turn Inval
refused_by t turn e = ap (λ b. refuse (refusal_if b Inval) turn) e

-- a line on a queue that isn't there is refused
pub missing_service : (x : Setting) (made : Creation) (acts : List Act) (q : ℕ) (line : DaemonLine) → is_missing made q ≡ true → daemon_line_turn x made acts q line ≡ refusal_turn Inval
missing_service x made acts q Fetch e = refused_by (is_idle made acts q) _ (ap (λ t. t || not (is_ready (state_acts acts) q) || ((queue_place acts q).size == 0)) e)
missing_service x made acts q Finish e = refused_by (is_missing made q) _ e
