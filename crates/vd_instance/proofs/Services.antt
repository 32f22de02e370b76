-- The acts of the block daemon's lines on a queue: its puts, the steps of a request, and bytes of the disk.
use Rattle.std.proofs.Common.{◌≡◌, ℕ, Bool, true, false, refl, ap, sym, subst, ◌∙◌, not, List, [], ◌∷◌, ◌++◌, Option, Some, None, true≢false, ◌==◌, inl, inr, ◌+◌}
use Rattle.std.specs.Prelude.{All}
use Rattle.std.specs.List.{list_all}
use Rattle.std.proofs.lemmas.Bool.Decides.{eqb_tells}
use Rattle.vd_model.specs.declared.answer.Answer.TheVariants as answer
use Rattle.vd_model.specs.Setting.{Setting}
use Rattle.vd_model.specs.Acts.{Act, NodeAct, QueueAct, DiskAct, Node, Driver, Bus, Message_act, State, Queue, Disk_act, Daemon_put, Opened, Closed, Area_made, Area_put, Config_put, Registered, Deregistered, Ring_made, Ring_dropped, Chain_added, Chains_published, Chain_reclaimed, Fetched, Executed, Finished, state_acts}
use Rattle.vd_model.specs.Block as block
use Rattle.vd_model.specs.Queues.{ring_of}
use Rattle.vd_model.specs.Live.{live_mappings}
use Rattle.vd_pool.specs.Memory.{PoolMemory as Pool}
use Rattle.vd_state.specs.Stands.{generation_of}
use Rattle.vd_control_path.specs.Acts.{is_memory_act}
use Rattle.vd_control_path.specs.Ends.{closings_of, ends_of}
use Rattle.vd_control_path.proofs.Parts.{same_after, all_of}
use Rattle.vd_buffers.specs.Places.{Places}
use Rattle.vd_buffers.specs.Stands.{is_buffer_act}
use Rattle.vd_buffers.specs.Stands as buffers
use Rattle.vd_buffers.proofs.Changed.{leaves_buffers}
use Rattle.vd_domain.specs.Held as domains
use Rattle.vd_domain.specs.Stands as domain
use Rattle.vd_memory_lines.specs.declared.memory.Memory.{Memory as Store}
use Rattle.vd_memory_lines.specs.Stands as memory
use Rattle.vd_memory_lines.specs.Stands.{IsInside}
use Rattle.vd_memory_lines.proofs.Parts.{stay_inside}
use Rattle.vd_request_laws.specs.Owned.{is_quiet}
use Rattle.vd_rings.specs.declared.held.HeldRing.{HeldRing}
use Rattle.vd_rings.specs.Stands.{leaves_ring}
use Rattle.vd_instance.proofs.Deeds.{both_of, other}
use Rattle.vd_instance.proofs.Holding.{leaves_daemon}

no : {X : Type 0} → false ≡ true → X
no e = absurd (true≢false (sym e))

-- the act is one of the block daemon on this queue
abbrev pub is_request_step : ℕ → QueueAct → Bool
is_request_step q (Fetched k) = k == q
is_request_step q (Executed k status bytes) = k == q
is_request_step q (Finished k) = k == q
is_request_step q _ = false

abbrev pub is_daemon_deed : NodeAct → Bool
is_daemon_deed (Daemon_put at bytes) = true
is_daemon_deed _ = false

abbrev pub is_service : ℕ → Act → Bool
is_service q (Node act) = is_daemon_deed act
is_service q (Queue act) = is_request_step q act
is_service q (Disk_act act) = true
is_service q _ = false

abbrev pub are_services : ℕ → List Act → Bool
are_services q acts = list_all (is_service q) acts

-- ---- what such acts leave

module _ (q : ℕ) where
  service_path : (act : Act) → is_service q act ≡ true → is_memory_act act ≡ true
  service_path (Node act) e = by act e where
    by : (act : NodeAct) → is_daemon_deed act ≡ true → is_memory_act (Node act) ≡ true
    by (Daemon_put at bytes) e = refl
    by Opened e = no e
    by Closed e = no e
    by (Area_made len) e = refl
    by (Area_put at bytes) e = refl
    by (Config_put at bytes) e = no e
    by (Registered base size) e = refl
    by Deregistered e = refl
  service_path (Queue act) e = refl
  service_path (Disk_act act) e = refl
  service_path (Driver act) e = no e
  service_path (Bus act) e = no e
  service_path (Message_act act) e = no e
  service_path (State act) e = no e

  pub services_path : (acts : List Act) → are_services q acts ≡ true → list_all is_memory_act acts ≡ true
  services_path acts e = all_of (is_service q) is_memory_act service_path acts e

  -- what the acts of a daemon leave, such acts leave
  of_service : {X : Type 0} (f : List Act → X) → ((act : NodeAct) (acts : List Act) → is_daemon_deed act ≡ true → f (Node act ∷ acts) ≡ f acts)
      → ((act : QueueAct) (acts : List Act) → is_request_step q act ≡ true → f (Queue act ∷ acts) ≡ f acts)
      → ((act : DiskAct) (acts : List Act) → f (Disk_act act ∷ acts) ≡ f acts)
      → (act : Act) (acts : List Act) → is_service q act ≡ true → f (act ∷ acts) ≡ f acts
  of_service f one two three (Node act) acts e = one act acts e
  of_service f one two three (Queue act) acts e = two act acts e
  of_service f one two three (Disk_act act) acts e = three act acts
  of_service f one two three (Driver act) acts e = no e
  of_service f one two three (Bus act) acts e = no e
  of_service f one two three (Message_act act) acts e = no e
  of_service f one two three (State act) acts e = no e

  put_same : {X : Type 0} (f : List Act → X) → ((at : ℕ) (bytes : List ℕ) (acts : List Act) → f (Node (Daemon_put at bytes) ∷ acts) ≡ f acts)
      → (act : NodeAct) (acts : List Act) → is_daemon_deed act ≡ true → f (Node act ∷ acts) ≡ f acts
  put_same f same (Daemon_put at bytes) acts e = same at bytes acts
  put_same f same Opened acts e = no e
  put_same f same Closed acts e = no e
  put_same f same (Area_made len) acts e = no e
  put_same f same (Area_put at bytes) acts e = no e
  put_same f same (Config_put at bytes) acts e = no e
  put_same f same (Registered base size) acts e = no e
  put_same f same Deregistered acts e = no e

  step_same : {X : Type 0} (f : List Act → X) → ((k : ℕ) (acts : List Act) → f (Queue (Fetched k) ∷ acts) ≡ f acts)
      → ((k status : ℕ) (bytes : List ℕ) (acts : List Act) → f (Queue (Executed k status bytes) ∷ acts) ≡ f acts)
      → ((k : ℕ) (acts : List Act) → f (Queue (Finished k) ∷ acts) ≡ f acts)
      → (act : QueueAct) (acts : List Act) → is_request_step q act ≡ true → f (Queue act ∷ acts) ≡ f acts
  step_same f fetched executed finished (Fetched k) acts e = fetched k acts
  step_same f fetched executed finished (Executed k status bytes) acts e = executed k status bytes acts
  step_same f fetched executed finished (Finished k) acts e = finished k acts
  step_same f fetched executed finished (Ring_made k place region) acts e = no e
  step_same f fetched executed finished (Ring_dropped k) acts e = no e
  step_same f fetched executed finished (Chain_added k chain) acts e = no e
  step_same f fetched executed finished (Chains_published k) acts e = no e
  step_same f fetched executed finished (Chain_reclaimed k head) acts e = no e

  one_state : (act : Act) (acts : List Act) → is_service q act ≡ true → state_acts (act ∷ acts) ≡ state_acts acts
  one_state = of_service state_acts (put_same state_acts (λ at bytes acts. refl)) (step_same state_acts (λ k acts. refl) (λ k status bytes acts. refl) (λ k acts. refl)) (λ act acts. refl)

  pub service_state : (acts done : List Act) → are_services q acts ≡ true → state_acts (acts ++ done) ≡ state_acts done
  service_state acts done e = same_after state_acts (is_service q) one_state acts done e

  one_closings : (act : Act) (acts : List Act) → is_service q act ≡ true → closings_of (act ∷ acts) ≡ closings_of acts
  one_closings = of_service closings_of (put_same closings_of (λ at bytes acts. refl)) (step_same closings_of (λ k acts. refl) (λ k status bytes acts. refl) (λ k acts. refl)) (λ act acts. refl)

  -- no position ends
  pub service_ends : (acts done : List Act) → are_services q acts ≡ true → ends_of (acts ++ done) q ≡ ends_of done q
  service_ends acts done e = ap (λ n. n + generation_of (state_acts (acts ++ done)) q) (same_after closings_of (is_service q) one_closings acts done e)
      ∙ ap (λ l. closings_of done + generation_of l q) (service_state acts done e)

  one_ring : (t : ℕ) (act : Act) (acts : List Act) → is_service q act ≡ true → ring_of (act ∷ acts) t ≡ ring_of acts t
  one_ring t = of_service (λ l. ring_of l t) (put_same (λ l. ring_of l t) (λ at bytes acts. refl)) (step_same (λ l. ring_of l t) (λ k acts. refl) (λ k status bytes acts. refl) (λ k acts. refl)) (λ act acts. refl)

  pub service_ring : (acts done : List Act) → are_services q acts ≡ true → (t : ℕ) → ring_of (acts ++ done) t ≡ ring_of done t
  service_ring acts done e t = same_after (λ l. ring_of l t) (is_service q) (one_ring t) acts done e

  one_map : (act : Act) (acts : List Act) → is_service q act ≡ true → live_mappings (act ∷ acts) ≡ live_mappings acts
  one_map = of_service live_mappings (put_same live_mappings (λ at bytes acts. refl)) (step_same live_mappings (λ k acts. refl) (λ k status bytes acts. refl) (λ k acts. refl)) (λ act acts. refl)

  -- the driver's side of every ring
  on_rings : (t : ℕ) (kept : Option HeldRing) (act : Act) → is_service q act ≡ true → leaves_ring t kept act ≡ true
  on_rings t None (Node act) e = refl
  on_rings t (Some held) (Node act) e = refl
  on_rings t None (Disk_act act) e = refl
  on_rings t (Some held) (Disk_act act) e = refl
  on_rings t kept (Queue act) e = by kept act e where
    by : (kept : Option HeldRing) (act : QueueAct) → is_request_step q act ≡ true → leaves_ring t kept (Queue act) ≡ true
    by None (Fetched k) e = refl
    by (Some held) (Fetched k) e = refl
    by None (Executed k status bytes) e = refl
    by (Some held) (Executed k status bytes) e = refl
    by None (Finished k) e = refl
    by (Some held) (Finished k) e = refl
    by kept (Ring_made k place region) e = no e
    by kept (Ring_dropped k) e = no e
    by kept (Chain_added k chain) e = no e
    by kept (Chains_published k) e = no e
    by kept (Chain_reclaimed k head) e = no e
  on_rings t kept (Driver act) e = no e
  on_rings t kept (Bus act) e = no e
  on_rings t kept (Message_act act) e = no e
  on_rings t kept (State act) e = no e

  pub services_leave : (t : ℕ) (kept : Option HeldRing) (acts : List Act) → are_services q acts ≡ true → list_all (leaves_ring t kept) acts ≡ true
  services_leave t kept acts e = all_of (is_service q) (leaves_ring t kept) (on_rings t kept) acts e

  -- and what pending requests have
  is_quiet_service : (act : Act) → is_service q act ≡ true → is_quiet act ≡ true
  is_quiet_service (Node act) e = refl
  is_quiet_service (Disk_act act) e = refl
  is_quiet_service (Queue act) e = by act e where
    by : (act : QueueAct) → is_request_step q act ≡ true → is_quiet (Queue act) ≡ true
    by (Fetched k) e = refl
    by (Executed k status bytes) e = refl
    by (Finished k) e = refl
    by (Ring_made k place region) e = no e
    by (Ring_dropped k) e = no e
    by (Chain_added k chain) e = no e
    by (Chains_published k) e = no e
    by (Chain_reclaimed k head) e = no e
  is_quiet_service (Driver act) e = no e
  is_quiet_service (Bus act) e = no e
  is_quiet_service (Message_act act) e = no e
  is_quiet_service (State act) e = no e

  pub services_quiet : (acts : List Act) → are_services q acts ≡ true → list_all is_quiet acts ≡ true
  services_quiet acts e = all_of (is_service q) is_quiet is_quiet_service acts e

  -- the daemons of other queues
  on_daemons : (t : ℕ) → (t ≡ q → ⊥) → (act : Act) → is_service q act ≡ true → leaves_daemon t act ≡ true
  on_daemons t ne (Node act) e = refl
  on_daemons t ne (Disk_act act) e = refl
  on_daemons t ne (Queue act) e = by act e where
    apart : (k : ℕ) → (k == q) ≡ true → not (k == t) ≡ true
    apart k e = elim (eqb_tells k q) [ inl h ↦ ap not (ap (λ n. n == t) h.1 ∙ other q t ne) | inr h ↦ no (sym h.0 ∙ e) ]

    by : (act : QueueAct) → is_request_step q act ≡ true → leaves_daemon t (Queue act) ≡ true
    by (Fetched k) e = apart k e
    by (Executed k status bytes) e = apart k e
    by (Finished k) e = apart k e
    by (Ring_made k place region) e = no e
    by (Ring_dropped k) e = no e
    by (Chain_added k chain) e = no e
    by (Chains_published k) e = no e
    by (Chain_reclaimed k head) e = no e
  on_daemons t ne (Driver act) e = no e
  on_daemons t ne (Bus act) e = no e
  on_daemons t ne (Message_act act) e = no e
  on_daemons t ne (State act) e = no e

  pub services_apart : (t : ℕ) → (t ≡ q → ⊥) → (acts : List Act) → are_services q acts ≡ true → list_all (leaves_daemon t) acts ≡ true
  services_apart t ne acts e = all_of (is_service q) (leaves_daemon t) (on_daemons t ne) acts e

  -- ---- the memory

  no_buffer : (act : Act) → is_service q act ≡ true → is_buffer_act act ≡ false
  no_buffer (Node act) e = refl
  no_buffer (Queue act) e = refl
  no_buffer (Disk_act act) e = refl
  no_buffer (Driver act) e = no e
  no_buffer (Bus act) e = no e
  no_buffer (Message_act act) e = no e
  no_buffer (State act) e = no e

  buffers_stay : (g : ℕ) (places : Places) (acts done : List Act) → are_services q acts ≡ true → buffers.Stands g done places → buffers.Stands g (acts ++ done) places
  buffers_stay g places [] done e s = s
  buffers_stay g places (act ∷ acts) done e s =
      let parts = both_of (is_service q act) (are_services q acts) e in
      leaves_buffers g (acts ++ done) places (buffers_stay g places acts done parts.1 s) act (no_buffer act parts.0)

  -- a memory whose domain stands for the acts stands for them
  pub memory_serves : (x : Setting) (acts done : List Act) (k : Store) (m n : Pool) (d : domains.Held) → are_services q acts ≡ true → memory.Stands x done k m
      → domain.Stands x (acts ++ done) d n → memory.Stands x (acts ++ done) (record k { domain = d }) n
  memory_serves x acts done k m n d e s stands =
      let kept = buffers_stay x.per_page k.buffers acts done e s.buffers in
      record {
        domain = stands;
        buffers = kept;
        inside = subst (λ ms. All (IsInside (acts ++ done)) ms) (sym (same_after live_mappings (is_service q) one_map acts done e))
            (stay_inside done (acts ++ done) (live_mappings done) (λ b size there. sym (kept.lens b) ∙ s.buffers.lens b ∙ there) s.inside);
      }
