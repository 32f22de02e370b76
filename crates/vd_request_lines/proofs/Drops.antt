-- The line that drops a ring.
use Rattle.std.proofs.Common.{◌≡◌, ℕ, zero, suc, ◌≤◌, arith, Bool, true, false, ◌==◌, ◌↔◌, if◌then◌else◌, refl, ap, sym, subst, ◌∙◌, List, [], ◌∷◌, ◌++◌, append_assoc, length, Some, None, Option, Result, Ok, Err}
use Rattle.std.specs.Prelude.{find, IsErr, OnErr}
use Rattle.std.specs.Option.{option_map_or}
use Rattle.vd_num.specs.declared.errno.Errno.TheVariants.{Inval, Noent, Busy}
use Rattle.vd_pool.specs.Memory.{PoolMemory as Pool}
use Rattle.vd_model.specs.declared.queue.QueueInfo.{QueueInfo}
use Rattle.vd_model.specs.Setting.{Setting}
use Rattle.vd_model.specs.Creation.{Creation}
use Rattle.vd_model.specs.Acts.{Act, AddedChain, Coherent, Streaming, Driver, Region_freed, Queue, Ring_dropped}
use Rattle.vd_model.specs.Live.{live_regions, live_mappings}
use Rattle.vd_model.specs.Queues.{ring_of, chains_out, published_chains_out}
use Rattle.vd_model.specs.RingTurns.{unring_turn, by_head, requests_end_acts, request_end_acts, region_end_acts}
use Rattle.vd_model.specs.Turn.{done_with, refuse, refusal_if, refusal_turn}
use Rattle.vd_domain.specs.Held.{Held, coherent_of}
use Rattle.vd_domain.specs.Stands as domain
use Rattle.vd_domain.proofs.Beside.{leaves_domain}
use Rattle.vd_memory_lines.specs.declared.memory.Memory.{Memory}
use Rattle.vd_memory_lines.specs.Stands.{Stands}
use Rattle.vd_memory_lines.proofs.Parts.{domain_act}
use Rattle.vd_queue_sides.specs.Chains.{is_head, with_same_head}
use Rattle.vd_queue_sides.proofs.Daemons.{itself}
use Rattle.vd_queue_sides.proofs.Drivers.{ring_dropped}
use Rattle.blk_driver.specs.Driver.{has_head}
use Rattle.blk_driver.specs.declared.pending.Pending.{Pending}
use Rattle.vd_request_lines.specs.declared.held.HeldDriver.{HeldDriver}
use Rattle.vd_request_lines.specs.declared.held.KnownDriver.{KnownDriver}
use Rattle.vd_request_lines.specs.Known.{IsKnown}
use Rattle.vd_request_laws.specs.Owned.{AreOwn, QueueOwned}
use Rattle.vd_request_lines.specs.Stands.{RequestsStand, chain_at, ArePending}
use Rattle.vd_request_lines.specs.Ending.{pending_end_acts, CanEnd}
use Rattle.vd_request_lines.specs.After.{After}
use Rattle.vd_request_lines.proofs.Pendings.{none_pending, request_found, pending_lone, requests_are}
use Rattle.vd_request_lines.proofs.Polls.{chain_there}
use Rattle.vd_request_lines.proofs.Leasts.{none_some}
use Rattle.vd_request_lines.proofs.Endings.{ends_next, ends_same}
use Rattle.vd_request_lines.proofs.Turning.{dropped_from, info_there}

-- ---- the requests of the chains, by their heads

nothing_more : {X : Type 0} (xs : List X) → xs ++ [] ≡ xs
nothing_more [] = refl
nothing_more (x ∷ xs) = ap (λ l. x ∷ l) (nothing_more xs)

-- one more chain ends last
ends_more : (mappings : List Streaming) (chains : List AddedChain) (c : AddedChain)
    → requests_end_acts mappings (chains ++ c ∷ []) ≡ option_map_or (request_end_acts mappings) c.request [] ++ requests_end_acts mappings chains
ends_more mappings [] c = sym (nothing_more (option_map_or (request_end_acts mappings) c.request []))
ends_more mappings (d ∷ ds) c =
    ap (λ l. l ++ option_map_or (request_end_acts mappings) d.request []) (ends_more mappings ds c)
    ∙ append_assoc (option_map_or (request_end_acts mappings) c.request []) (requests_end_acts mappings ds) (option_map_or (request_end_acts mappings) d.request [])

abbrev listed : Option AddedChain → List AddedChain
listed None = []
listed (Some chain) = chain ∷ []

head_next : (chains : List AddedChain) (n : ℕ) (o : Option AddedChain) → find (λ chain. chain.head == n) chains ≡ o → by_head chains (suc n) ≡ by_head chains n ++ listed o
head_next chains n None e = rw e refl
head_next chains n (Some c) e = rw e refl

no_head : (chains : List AddedChain) (id : ℕ) → chain_at chains id ≡ None → is_head chains id ≡ false
no_head chains id none = by (is_head chains id) refl where
  by : (t : Bool) → is_head chains id ≡ t → is_head chains id ≡ false
  by true e = absurd (none_some (sym none ∙ (chain_there chains id e).found))
  by false e = e

-- the pending requests end as those of the chains do
pub ends_are : (mappings : List Streaming) (chains : List AddedChain) (ps : List Pending) → ((id : ℕ) → length (with_same_head id chains) ≤ 1) → ArePending chains ps → (n : ℕ)
    → pending_end_acts mappings ps n ≡ requests_end_acts mappings (by_head chains n)
ends_are mappings chains ps lone all zero = refl
ends_are mappings chains ps lone all (suc n) = by (find (λ chain. chain.head == n) chains) refl (ends_are mappings chains ps lone all n) where
  by : (o : Option AddedChain) → find (λ chain. chain.head == n) chains ≡ o → pending_end_acts mappings ps n ≡ requests_end_acts mappings (by_head chains n)
      → pending_end_acts mappings ps (suc n) ≡ requests_end_acts mappings (by_head chains (suc n))
  by None e rest =
      ends_next mappings ps n None (none_pending chains ps n (no_head chains n e) all) ∙ rest
      ∙ sym (ap (requests_end_acts mappings) (head_next chains n None e ∙ nothing_more (by_head chains n)))
  by (Some c) e rest =
      ap (λ o. option_map_or (request_end_acts mappings) o [] ++ pending_end_acts mappings ps n) (request_found chains ps n c (lone n) all e)
      ∙ ap (λ l. option_map_or (request_end_acts mappings) c.request [] ++ l) rest
      ∙ sym (ends_more mappings (by_head chains n) c)
      ∙ sym (ap (requests_end_acts mappings) (head_next chains n (Some c) e))

module _ (acts : List Act) (q : ℕ) (held : HeldDriver) (r : RequestsStand acts q (Some held)) where
  pub can_end : QueueOwned acts q → CanEnd acts held.driver.pending
  can_end owned = record {
    own = subst (AreOwn acts) (requests_are (chains_out acts q) held.driver.pending r.pending) owned;
    lone = pending_lone (chains_out acts q) held.driver.pending r.side.lone r.pending;
  }

  -- heads lie in the ring
  pub past_ring : (id : ℕ) → held.driver.ring.place.size ≤ id → find (has_head id) held.driver.pending ≡ None
  past_ring id past = by (is_head (chains_out acts q) id) refl where
    by : (t : Bool) → is_head (chains_out acts q) id ≡ t → find (has_head id) held.driver.pending ≡ None
    by true e = absurd (let low = r.side.inside id e in omega (arith, past, low))
    by false e = none_pending (chains_out acts q) held.driver.pending id e r.pending

-- ---- the region

on_err : {E P : Type 0} (r : Result (Unit {0}) E) → IsErr r → OnErr r P → P
on_err (Ok u) e p = absurd (cc)
on_err (Err error) e p = p

region_freed : (x : Setting) (acts : List Act) (m : Pool) (h : Memory) (d : Held) (region : ℕ) → Stands x acts h m → {E : Type 0} (freed : Result (Unit {0}) E)
    → IsErr freed ↔ (coherent_of h.domain region ≡ None) → OnErr freed (d ≡ h.domain)
    → ((g : Coherent) → coherent_of h.domain region ≡ Some g → domain.Stands x (Driver (Region_freed g) ∷ acts) d m)
    → Stands x (region_end_acts (live_regions acts) region ++ acts) (record h { domain = d }) m
region_freed x acts m h d region s freed none err ok = by (find (λ g. g.number == region) (live_regions acts)) refl where
  by : (o : Option Coherent) → find (λ g. g.number == region) (live_regions acts) ≡ o
      → Stands x (option_map_or (λ g. Driver (Region_freed g) ∷ []) (find (λ g. g.number == region) (live_regions acts)) [] ++ acts) (record h { domain = d }) m
  by None e =
      subst (λ o. Stands x (option_map_or (λ g. Driver (Region_freed g) ∷ []) o [] ++ acts) (record h { domain = d }) m) (sym e)
      (record {
        domain = subst (λ (t : Held). domain.Stands x acts t m) (sym (on_err freed (none.1 (ap (λ l. find (λ g. g.number == region) l) s.domain.regions ∙ e)) err)) s.domain;
        buffers = s.buffers;
        inside = s.inside;
      })
  by (Some g) e =
      subst (λ o. Stands x (option_map_or (λ g. Driver (Region_freed g) ∷ []) o [] ++ acts) (record h { domain = d }) m) (sym e)
      (domain_act x acts h m s (Driver (Region_freed g)) d m refl refl (ok g (ap (λ l. find (λ g. g.number == region) l) s.domain.regions ∙ e)))

-- the requests of the chains, and then the region
abbrev pub drop_acts : List Act → ℕ → HeldDriver → List Act
drop_acts acts q held = region_end_acts (live_regions acts) held.region ++ requests_end_acts (live_mappings acts) (by_head (chains_out acts q) held.driver.ring.place.size)

pub region_after : (x : Setting) (acts : List Act) (m : Pool) (q : ℕ) (held : HeldDriver) (r : RequestsStand acts q (Some held)) (h k : Memory) → k ≡ record h { domain = k.domain }
    → Stands x (pending_end_acts (live_mappings acts) held.driver.pending held.driver.ring.place.size ++ acts) h m → {E : Type 0} (freed : Result (Unit {0}) E)
    → IsErr freed ↔ (coherent_of h.domain held.region ≡ None) → OnErr freed (k.domain ≡ h.domain)
    → ((g : Coherent) (acts : List Act) → coherent_of h.domain held.region ≡ Some g → domain.Stands x acts h.domain m → domain.Stands x (Driver (Region_freed g) ∷ acts) k.domain m)
    → Stands x (drop_acts acts q held ++ acts) k m
region_after x acts m q held r h k rest s freed none err ok =
    let ends : List Act = pending_end_acts (live_mappings acts) held.driver.pending held.driver.ring.place.size in
    let all = region_freed x (ends ++ acts) m h k.domain held.region s freed none err (λ g e. ok g (ends ++ acts) e s.domain) in
    let same = ends_same (live_mappings acts) held.driver.pending live_regions (λ m done. refl) (λ b done. refl) acts held.driver.ring.place.size in
    subst (λ l. Stands x ((region_end_acts (live_regions acts) held.region ++ l) ++ acts) k m)
    (ends_are (live_mappings acts) (chains_out acts q) held.driver.pending r.side.lone r.pending held.driver.ring.place.size)
    (subst (λ l. Stands x l k m) (sym (append_assoc (region_end_acts (live_regions acts) held.region) ends acts))
    (subst (λ rs. Stands x (region_end_acts rs held.region ++ (ends ++ acts)) k m) same
    (subst (λ (t : Memory). Stands x (region_end_acts (live_regions (ends ++ acts)) held.region ++ (ends ++ acts)) t m) (sym rest) all)))

-- ---- the line

pub dropped_after : (x : Setting) (acts : List Act) (m : Pool) (q : ℕ) (held : HeldDriver) (k : Memory) → Stands x (drop_acts acts q held ++ acts) k m → After x acts q k m None (Queue (Ring_dropped q) ∷ drop_acts acts q held)
dropped_after x acts m q held k s =
    let done : List Act = drop_acts acts q held ++ acts in
    record {
      memory = domain_act x done k m s (Queue (Ring_dropped q)) k.domain m refl refl (leaves_domain x done k.domain m s.domain (Queue (Ring_dropped q)) refl);
      requests = record {
        side = ring_dropped done q;
        lies = tt;
        pending = subst (λ t. ArePending (if t then [] else chains_out done q) []) (sym (itself q)) refl;
        seen = subst (λ t. (id : ℕ) → is_head (if t then [] else published_chains_out done q) id ≡ true → chain_at (if t then [] else published_chains_out done q) id ≡ chain_at (if t then [] else chains_out done q) id)
            (sym (itself q)) (λ id e. refl);
      };
    }

module _ (made : Creation) (acts : List Act) (q : ℕ) (queue : KnownDriver) (info : QueueInfo) (known : IsKnown made acts q queue) (some : queue.info ≡ Some info) (held : HeldDriver) (r : RequestsStand acts q (Some held)) where
  by_ready : (ready : Bool) → info.ready ≡ ready → unring_turn made acts q ≡ refuse (refusal_if ready Busy) (done_with [] (Queue (Ring_dropped q) ∷ drop_acts acts q held))
  by_ready ready e =
      let there = info_there made acts q queue known info some in
      ap (λ t. refuse (refusal_if t Inval) (option_map_or (dropped_from acts q) (ring_of acts q) (refusal_turn Noent))) there.0
      ∙ ap (λ o. option_map_or (dropped_from acts q) o (refusal_turn Noent)) r.side.ring
      ∙ ap (λ t. refuse (refusal_if t Busy) (done_with [] (Queue (Ring_dropped q) ∷ drop_acts acts q held))) (sym (ap (λ (i : QueueInfo). i.ready) there.1) ∙ e)

  pub busy : info.ready ≡ true → unring_turn made acts q ≡ refusal_turn Busy
  busy e = by_ready true e

  pub idle : info.ready ≡ false → unring_turn made acts q ≡ done_with [] (Queue (Ring_dropped q) ∷ drop_acts acts q held)
  idle e = by_ready false e
