-- What acts leave of the block daemons that are kept of queues.
use Rattle.std.proofs.Common.{◌≡◌, ℕ, suc, ◌≤◌, ◌<◌, arith, Bool, true, false, refl, ap, sym, subst, ◌∙◌, not, List, [], ◌∷◌, ◌++◌, Some, true≢false, ◌==◌, if◌then◌else◌, inl, inr, replicate}
use Rattle.std.specs.Prelude.{◌&&◌, slice_get}
use Rattle.std.specs.List.{list_all}
use Rattle.std.proofs.lemmas.Bool.Decides.{eqb_tells}
use Rattle.std.proofs.lemmas.List.{length-replicate, get_or-replicate}
use Rattle.std.proofs.lemmas.Option.{slice_get_within, get_or_from_slice_get}
use Rattle.vd_model.specs.Setting.{Setting}
use Rattle.vd_model.specs.Acts.{Act, QueueAct, Node, Driver, Bus, Message_act, State, Queue, Disk_act, Ring_made, Ring_dropped, Chain_added, Chains_published, Chain_reclaimed, Fetched, Executed, Finished}
use Rattle.vd_model.specs.Queues.{ends_position}
use Rattle.vd_queue_sides.specs.Daemon.{is_daemon_act}
use Rattle.vd_control_path.specs.Ends.{ends_of}
use Rattle.vd_control_path.proofs.EndLemmas.{counted_end, no_end}
use Rattle.blk_daemon.specs.Held.{Held, idle}
use Rattle.vd_daemon_lines.specs.Stands.{DaemonStands}
use Rattle.vd_daemon_lines.proofs.Leaving.{daemon_stays, daemon_ends, daemon_begins}
use Rattle.vd_instance.specs.declared.daemons.HeldDaemon.{HeldDaemon}
use Rattle.vd_instance.specs.Daemons.{new_daemon, daemon_at, DaemonHolds, DaemonsHold, AreNamed}

no : {X : Type 0} → false ≡ true → X
no e = absurd (true≢false (sym e))

-- the act is no step of a request on the queue
abbrev pub leaves_daemon : ℕ → Act → Bool
leaves_daemon q (Queue (Fetched k)) = not (k == q)
leaves_daemon q (Queue (Executed k status bytes)) = not (k == q)
leaves_daemon q (Queue (Finished k)) = not (k == q)
leaves_daemon q _ = true

flipped : (t : Bool) → not t ≡ true → t ≡ false
flipped true e = no e
flipped false e = refl

step_not : (q : ℕ) (act : QueueAct) → leaves_daemon q (Queue act) ≡ true → is_daemon_act q (Queue act) ≡ false
step_not q (Fetched k) e = flipped (k == q) e
step_not q (Executed k status bytes) e = flipped (k == q) e
step_not q (Finished k) e = flipped (k == q) e
step_not q (Ring_made k place region) e = refl
step_not q (Ring_dropped k) e = refl
step_not q (Chain_added k chain) e = refl
step_not q (Chains_published k) e = refl
step_not q (Chain_reclaimed k head) e = refl

-- no step of a request, and no end of a position, is no act of the daemon
act_not : (q : ℕ) (act : Act) → leaves_daemon q act ≡ true → ends_position q act ≡ false → is_daemon_act q act ≡ false
act_not q (Queue act) e f = step_not q act e
act_not q (Node act) e f = f
act_not q (Driver act) e f = f
act_not q (Bus act) e f = f
act_not q (Message_act act) e f = f
act_not q (State act) e f = f
act_not q (Disk_act act) e f = f

-- a daemon that was kept before an end has no position
past : (d : HeldDaemon) (n : ℕ) → d.ends ≤ n → daemon_at (suc n) d ≡ idle d.daemon.name
past d n le = elim (eqb_tells d.ends (suc n)) [ inl h ↦ absurd (beyond h.1) | inr h ↦ ap (λ t. if t then d.daemon else idle d.daemon.name) h.0 ] where
  beyond : d.ends ≡ suc n → ⊥
  beyond e = omega (arith, le, e)

module _ (x : Setting) (q : ℕ) (d : HeldDaemon) where
  one_holds : (act : Act) (done : List Act) → leaves_daemon q act ≡ true → DaemonHolds x done q d → DaemonHolds x (act ∷ done) q d
  one_holds act done e h = by (ends_position q act) refl where
    by : (t : Bool) → ends_position q act ≡ t → DaemonHolds x (act ∷ done) q d
    by true f = let more = counted_end q act done f in let le = h.counted in record {
      counted = omega (arith, more, le);
      stands = subst (λ k. DaemonStands x (act ∷ done) q k) (sym (ap (λ n. daemon_at n d) more ∙ past d (ends_of done q) h.counted)) (daemon_ends x q act done d.daemon.name f);
    }
    by false f = let parts = no_end q act done f in let a = parts.0 in let b = parts.1 in let le = h.counted in
        let same : ends_of (act ∷ done) q ≡ ends_of done q = omega (arith, a, b) in record {
          counted = omega (arith, same, le);
          stands = subst (λ n. DaemonStands x (act ∷ done) q (daemon_at n d)) (sym same)
              (daemon_stays x q (act ∷ []) done (daemon_at (ends_of done q) d) (ap (λ t. not t && true) (act_not q act e f)) h.stands);
        }

  pub holds_after : (acts done : List Act) → list_all (leaves_daemon q) acts ≡ true → DaemonHolds x done q d → DaemonHolds x (acts ++ done) q d
  holds_after [] done e h = h
  holds_after (act ∷ acts) done e h = by (leaves_daemon q act) refl (λ g. holds_after acts done g h) where
    by : (t : Bool) → leaves_daemon q act ≡ t → (list_all (leaves_daemon q) acts ≡ true → DaemonHolds x (acts ++ done) q d) → DaemonHolds x (act ∷ acts ++ done) q d
    by true f rest = one_holds act (acts ++ done) f (rest (sym (ap (λ t. t && list_all (leaves_daemon q) acts) f) ∙ e))
    by false f rest = no (sym (ap (λ t. t && list_all (leaves_daemon q) acts) f) ∙ e)

-- acts that are no steps of requests leave every daemon
pub all_hold : (x : Setting) (acts done : List Act) (kept : List HeldDaemon) → ((q : ℕ) → list_all (leaves_daemon q) acts ≡ true) → DaemonsHold x done kept → DaemonsHold x (acts ++ done) kept
all_hold x acts done kept none h = λ q d there. holds_after x q d acts done (none q) (h q d there)

-- a daemon that is kept now stands as it is
pub kept_now : (x : Setting) (acts : List Act) (q : ℕ) (k : Held) (n : ℕ) → n ≡ ends_of acts q → DaemonStands x acts q k → DaemonHolds x acts q (record { daemon = k; ends = n })
kept_now x acts q k n e s = record {
  counted = omega (arith, e);
  stands = subst (λ t. DaemonStands x acts q (if t then k else idle k.name)) (sym (elim (eqb_tells n (ends_of acts q)) [ inl h ↦ h.0 | inr h ↦ absurd (h.1 e) ])) s;
}

-- a new one stands before anything was done
pub new_holds : (x : Setting) (name : List ℕ) (q : ℕ) → DaemonHolds x [] q (new_daemon name)
new_holds x name q = record { counted = omega arith; stands = daemon_begins x q name }

replicated : {A : Type 0} (n : ℕ) (a d : A) (q : ℕ) → slice_get (replicate n a) q ≡ Some d → d ≡ a
replicated {A} n a d q there =
    let less = slice_get_within (replicate n a) q d there in
    let below : q < n = subst (λ k. q < k) (length-replicate n a) less in
    sym (get_or_from_slice_get (replicate n a) q d a there) ∙ get_or-replicate n q a a below

pub new_hold : (x : Setting) (name : List ℕ) (n : ℕ) (kept : List HeldDaemon) → kept ≡ replicate n (new_daemon name) → DaemonsHold x [] kept
new_hold x name n kept e = λ q d there. subst (λ k. DaemonHolds x [] q k)
    (sym (replicated n (new_daemon name) d q (subst (λ l. slice_get l q ≡ Some d) e there))) (new_holds x name q)

pub new_named : (name : List ℕ) (n : ℕ) (kept : List HeldDaemon) → kept ≡ replicate n (new_daemon name) → AreNamed name kept
new_named name n kept e = λ q d there. ap (λ k. k.daemon.name) (replicated n (new_daemon name) d q (subst (λ l. slice_get l q ≡ Some d) e there))
