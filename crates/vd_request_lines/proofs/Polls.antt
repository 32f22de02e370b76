-- The line that takes back a used chain.
use Rattle.std.proofs.Common.{◌≡◌, ℕ, ◌+◌, ◌*◌, ◌%◌, Bool, true, false, if◌then◌else◌, nat_lt, nat_le, ◌==◌, refl, ap, sym, subst, ◌∙◌, arith, List, [], ◌∷◌, ◌++◌, append_assoc, Some, None, Option, filter, All, true≢false, inl, inr, ◌||◌}
use Rattle.std.specs.Prelude.{IfSome}
use Rattle.std.specs.Option.{option_map, option_map_or}
use Rattle.std.proofs.lemmas.List.Elements.{All-head, All-tail}
use Rattle.std.proofs.lemmas.Bool.Decides.{nat_tests, eqb_tells}
use Rattle.byteorder.specs.Endian.{little_bytes}
use Rattle.vd_pool.specs.Memory.{PoolMemory as Pool}
use Rattle.vd_model.specs.Memory.{written}
use Rattle.vd_model.specs.Setting.{Setting}
use Rattle.vd_model.specs.Acts.{Act, AddedChain, Request, Driver, Driver_put, Queue, Chain_reclaimed}
use Rattle.vd_model.specs.Live.{live_mappings}
use Rattle.vd_model.specs.Puts.{ram}
use Rattle.vd_model.specs.Queues.{reclaimed_count, chains_out, published_chains_out, is_other_chain}
use Rattle.vd_model.specs.Rings.{next16, used_event_at}
use Rattle.vd_model.specs.RingTurns.{request_end_acts, unmap_acts, free_acts}
use Rattle.vd_domain.specs.Seen.{ring_map, ring_memory}
use Rattle.vd_buffers.specs.Stands as kept_buffers
use Rattle.vd_memory_lines.specs.declared.memory.Memory.{Memory}
use Rattle.vd_memory_lines.specs.Stands.{Stands}
use Rattle.vr_split.specs.Reach.{RingInReach}
use Rattle.vr_split.specs.ReachLemmas.{used_event-reached}
use Rattle.vr_driver.specs.Side.{is_waiting, without_chain}
use Rattle.vd_ring_memory.specs.RingPuts.{after_puts, AreRingPuts}
use Rattle.vd_ring_memory.specs.RingPutLemmas.{ring_puts_same}
use Rattle.vd_queue_sides.specs.Chains.{chains_of, is_head}
use Rattle.vd_queue_sides.proofs.Daemons.{itself}
use Rattle.vd_queue_sides.proofs.Chained.{index_bytes}
use Rattle.vd_queue_sides.proofs.Reclaiming.{ring_reclaimed}
use Rattle.vd_queue_sides.proofs.Waiting.{is_waiting_is}
use Rattle.vd_rings.proofs.Lying.{ring_reached, ends, no_span, coherent_reached, small_size}
use Rattle.vd_rings.proofs.Putting.{Shows}
use Rattle.vd_rings.proofs.Moving.{lies_as}
use Rattle.vd_rings.proofs.Leaving.{lies_after}
use Rattle.vd_domain.specs.Apart.{AreApart}
use Rattle.blk_driver.specs.Buffers.{has_range}
use Rattle.blk_driver.specs.Driver.{request_in, made_in, maps_in, pending_of, has_head, without_first}
use Rattle.blk_driver.specs.Driver as blk
use Rattle.blk_driver.specs.declared.driver.Polled.{Polled}
use Rattle.blk_driver.specs.declared.pending.Pending.{Pending}
use Rattle.vd_request_lines.specs.declared.held.HeldDriver.{HeldDriver}
use Rattle.vd_request_lines.specs.Stands.{RequestsStand, ring_held, chain_at, ArePending}
use Rattle.vd_request_laws.specs.Owned.{IsOwned, QueueOwned, requests_of}
use Rattle.vd_request_lines.specs.After.{After}
use Rattle.vd_request_lines.specs.Ended.{Ends, IsLeft}
use Rattle.vd_request_lines.proofs.Pendings.{request_found, pending_left, seen_left}
use Rattle.vd_request_lines.proofs.Leaving.{requests_stay, requests_after_puts, unmaps_leave, frees_leave}
use Rattle.vd_request_lines.proofs.Under.{AreLike, put_like, queue_like, like_self, ram_like, unmaps_same}
use Rattle.vd_request_lines.proofs.Left.{IsOne, left_after}
use Rattle.vd_request_lines.proofs.Between.{put_stands, chain_stands}

-- a count of sixteen bits, one more
next_is : (s n : ℕ) → s ≡ n % 65536 → next16 s ≡ (n + 1) % 65536
next_is s n e = ap next16 e ∙ (let f : (n % 65536 + 1) % 65536 ≡ (n + 1) % 65536 = omega arith in f)

-- ---- the chain of a head

pub record ChainOf (chains : List AddedChain) (id : ℕ) : Type 0 where
  pub chain : AddedChain
  pub found : chain_at chains id ≡ Some chain
  pub head : chain.head ≡ id

pub chain_there : (chains : List AddedChain) (id : ℕ) → is_head chains id ≡ true → ChainOf chains id
chain_there [] id e = absurd (true≢false (sym e))
chain_there (c ∷ cs) id e = elim (eqb_tells c.head id) [
  | inl h ↦ record { chain = c; found = ap (λ t. if t then Some c else chain_at cs id) h.0; head = h.1 }
  | inr h ↦
      (let rest = chain_there cs id (sym (ap (λ t. t || is_head cs id) h.0) ∙ e) in
      record { chain = rest.chain; found = ap (λ t. if t then Some c else chain_at cs id) h.0 ∙ rest.found; head = rest.head })
]

-- of a chain that is out, the request is its own
pub each_next : (P : Request → Type 0) (chains : List AddedChain) (o : Option Request) → All P (option_map_or (λ r. r ∷ requests_of chains) o (requests_of chains)) → IfSome o P × All P (requests_of chains)
each_next P chains None all = (tt, all)
each_next P chains (Some r) all = (All-head P r (requests_of chains) all, All-tail P r (requests_of chains) all)

owned_at : (acts : List Act) (chains : List AddedChain) (id : ℕ) (c : AddedChain) → All (IsOwned acts) (requests_of chains) → chain_at chains id ≡ Some c → IfSome c.request (IsOwned acts)
owned_at acts [] id c all e = absurd (no e) where
  no : None ≡ Some c → ⊥
  no e = cc
owned_at acts (d ∷ ds) id c all e = let next = each_next (IsOwned acts) ds d.request all in by next.0 (d.head == id) refl (owned_at acts ds id c next.1) where
  same : Some d ≡ Some c → d ≡ c
  same e = cc

  by : IfSome d.request (IsOwned acts) → (t : Bool) → (d.head == id) ≡ t → (chain_at ds id ≡ Some c → IfSome c.request (IsOwned acts)) → IfSome c.request (IsOwned acts)
  by own true f rest = subst (λ (c : AddedChain). IfSome c.request (IsOwned acts)) (same (sym (ap (λ t. if t then Some d else chain_at ds id) f) ∙ e)) own
  by own false f rest = rest (sym (ap (λ t. if t then Some d else chain_at ds id) f) ∙ e)

-- the status byte of a request that is its own is there
pub has_status : (acts : List Act) (r : Request) → IsOwned acts r → has_range acts r.buffer 16 1 ≡ true
has_status acts r own = ap (λ o. option_map_or (λ size. nat_le (16 + 1) size) o false) own.front

-- a test turned
pub swapped : {X : Type 0} (a b : ℕ) (p r : X) → (if nat_le a b then p else r) ≡ (if nat_lt b a then r else p)
swapped a b p r = by (nat_le a b) refl where
  by : (t : Bool) → nat_le a b ≡ t → (if nat_le a b then p else r) ≡ (if nat_lt b a then r else p)
  by true e =
      let off : nat_lt b a ≡ false = grind (arith, nat_tests, e) in
      ap (λ t. if t then p else r) e ∙ sym (ap (λ t. if t then r else p) off)
  by false e =
      let on : nat_lt b a ≡ true = grind (arith, nat_tests, e) in
      ap (λ t. if t then p else r) e ∙ sym (ap (λ t. if t then r else p) on)

module _ (acts : List Act) (q : ℕ) (held : HeldDriver) (r : RequestsStand acts q (Some held)) (p : Polled) (waits : is_waiting held.driver.ring p.head ≡ true) where
  head_seen : is_head (published_chains_out acts q) p.head ≡ true
  head_seen = sym (is_waiting_is (chains_of acts q) held.region held.driver.ring r.side (small_size held.driver.ring.place.size r.lies.size) p.head) ∙ waits

  pub its : ChainOf (published_chains_out acts q) p.head
  its = chain_there (published_chains_out acts q) p.head head_seen

  out_found : chain_at (chains_out acts q) p.head ≡ Some its.chain
  out_found = sym (r.seen p.head head_seen) ∙ its.found

  pub request : option_map request_in (pending_of held.driver p.head) ≡ its.chain.request
  request = request_found (chains_out acts q) held.driver.pending p.head its.chain (r.side.lone p.head) r.pending out_found

  pub own_request : QueueOwned acts q → (pd : Pending) → pending_of held.driver p.head ≡ Some pd → IsOwned acts (request_in pd)
  own_request owned pd e = subst (λ o. IfSome o (IsOwned acts)) (sym request ∙ ap (option_map request_in) e) (owned_at acts (chains_out acts q) p.head its.chain owned.each out_found)

module _ (x : Setting) (acts : List Act) (m n : Pool) (q : ℕ) (h k : Memory) (held : HeldDriver) (s : Stands x acts h m) (r : RequestsStand acts q (Some held))
    (before : Shows h.domain) (later : Shows k.domain) where
  seen : ring_map h.domain ≡ ring_memory x acts
  seen = before x acts m s.domain

  reach : RingInReach (Some (ring_map h.domain)) None held.driver.ring.place
  reach = ring_reached acts (ring_held held) r.lies x (ring_map h.domain) seen

  -- the put of the event index, where one is asked for
  abbrev puts : Bool → List Act
  puts flag = if flag then Driver (Driver_put (used_event_at held.driver.ring.place) (little_bytes 2 (reclaimed_count acts q + 1))) ∷ [] else []

  only : (flag : Bool) → AreRingPuts acts (puts flag)
  only true = (coherent_reached x acts (ring_map h.domain) seen (used_event_at held.driver.ring.place) 2 (used_event-reached (Some (ring_map h.domain)) None held.driver.ring.place (ends h.domain) (no_span _) reach.driver), tt)
  only false = tt

  event_put : (flag : Bool) → (if flag then written (ring_map h.domain) (used_event_at held.driver.ring.place) (little_bytes 2 (next16 held.driver.ring.reclaimed)) else ring_map h.domain) ≡ after_puts (ring_map h.domain) (puts flag)
  event_put true =
      ap (λ l. written (ring_map h.domain) (used_event_at held.driver.ring.place) l) (ap (little_bytes 2) (next_is held.driver.ring.reclaimed (reclaimed_count acts q) r.side.reclaimed) ∙ index_bytes (reclaimed_count acts q + 1))
  event_put false = refl

  -- the chain's act, after the put
  abbrev deeds : Bool → ℕ → List Act
  deeds flag head = Queue (Chain_reclaimed q head) ∷ puts flag

  -- a chain goes, and its request with it
  requests_left : (flag : Bool) (head : ℕ) → is_waiting held.driver.ring head ≡ true
      → RequestsStand (deeds flag head ++ acts) q (Some (record held { driver = record { ring = without_chain held.driver.ring head; pending = without_first (has_head head) held.driver.pending } }))
  requests_left flag head waits =
      let moved = requests_after_puts acts (puts flag) acts q held (only flag) r in
      record {
        side = ring_reclaimed (puts flag ++ acts) q held.region held.driver.ring head moved.side
            (sym (is_waiting_is (chains_of (puts flag ++ acts) q) held.region held.driver.ring moved.side (small_size held.driver.ring.place.size r.lies.size) head) ∙ waits);
        lies = lies_as (deeds flag head ++ acts) (ring_held held) (without_chain held.driver.ring head) refl (lies_after (puts flag ++ acts) (ring_held held) (Queue (Chain_reclaimed q head)) refl moved.lies);
        pending = subst (λ t. ArePending (if t then filter (is_other_chain head) (chains_out (puts flag ++ acts) q) else chains_out (puts flag ++ acts) q) (without_first (has_head head) held.driver.pending)) (sym (itself q))
            (pending_left (chains_out (puts flag ++ acts) q) held.driver.pending head (moved.side.lone head) moved.pending);
        seen = subst (λ t. (id : ℕ) → is_head (if t then filter (is_other_chain head) (published_chains_out (puts flag ++ acts) q) else published_chains_out (puts flag ++ acts) q) id ≡ true
            → chain_at (if t then filter (is_other_chain head) (published_chains_out (puts flag ++ acts) q) else published_chains_out (puts flag ++ acts) q) id
            ≡ chain_at (if t then filter (is_other_chain head) (chains_out (puts flag ++ acts) q) else chains_out (puts flag ++ acts) q) id) (sym (itself q))
            (seen_left (chains_out (puts flag ++ acts) q) (published_chains_out (puts flag ++ acts) q) head moved.seen);
      }

  -- what is brought back is the same as without the ring's acts
  like : AreApart x acts → (flag : Bool) (head : ℕ) → AreLike x.per_page (4096 * x.bounce) (deeds flag head ++ acts) acts
  like apart true head = queue_like x.per_page (4096 * x.bounce) (puts true ++ acts) acts (Chain_reclaimed q head)
      (put_like x acts apart (used_event_at held.driver.ring.place) (little_bytes 2 (reclaimed_count acts q + 1)) (only true).0)
  like apart false head = queue_like x.per_page (4096 * x.bounce) acts acts (Chain_reclaimed q head) (like_self x.per_page (4096 * x.bounce) acts)

  -- nothing is taken back
  pub quiet_after : (after : Memory) → after ≡ k → (d : blk.Driver) → d ≡ held.driver → ring_map k.domain ≡ ring_map h.domain → Ends h m k n [] → After x acts q after n (Some (record held { driver = d })) []
  quiet_after after e d f told ended = record {
    memory = subst (λ (t : Memory). Stands x acts t n) (sym e) (ended.unmapped x acts (put_stands x acts m n h k s before later [] ended [] tt told));
    requests = subst (λ (t : blk.Driver). RequestsStand acts q (Some (record held { driver = t }))) (sym f) r;
  }

  module _ (apart : AreApart x acts) (owned : QueueOwned acts q) (flag : Bool) (p : Polled) (waits : is_waiting held.driver.ring p.head ≡ true)
      (told : ring_map k.domain ≡ (if flag then written (ring_map h.domain) (used_event_at held.driver.ring.place) (little_bytes 2 (next16 held.driver.ring.reclaimed)) else ring_map h.domain)) where
    -- the acts of the driver's step
    abbrev done : List Act
    done = deeds flag p.head

    live_same : live_mappings (done ++ acts) ≡ live_mappings acts
    live_same = ring_puts_same (λ l. live_mappings l) (λ at bytes done. refl) acts (puts flag) acts (only flag)

    abbrev driver : HeldDriver
    driver = record held { driver = record { ring = without_chain held.driver.ring p.head; pending = without_first (has_head p.head) held.driver.pending } }

    unmapped : (numbers : List ℕ) → Ends h m k n numbers → Stands x (unmap_acts (live_mappings acts) numbers ++ (done ++ acts)) k n
    unmapped numbers ended = chain_stands x acts m n h k s before later numbers ended q p.head (puts flag) (only flag) (told ∙ event_put flag)

    pub plain_after : (after : Memory) → after ≡ k → Ends h m k n [] → After x acts q after n (Some driver) done
    plain_after after e ended = record {
      memory = subst (λ (t : Memory). Stands x (done ++ acts) t n) (sym e) (unmapped [] ended);
      requests = requests_left flag p.head waits;
    }

    module _ (pd : Pending) (is : pending_of held.driver p.head ≡ Some pd) (ended : Ends h m k n (maps_in pd)) where
      own : IsOwned acts (request_in pd)
      own = own_request acts q held r p waits owned pd is

      abbrev ends_acts : List Act
      ends_acts = unmap_acts (live_mappings acts) (maps_in pd)

      there : has_range (ends_acts ++ (done ++ acts)) pd.buffer 16 1 ≡ true
      there =
          unmaps_same (λ l. has_range l pd.buffer 16 1) (λ m done. refl) (live_mappings acts) (maps_in pd) (done ++ acts)
          ∙ ring_puts_same (λ l. has_range l pd.buffer 16 1) (λ at bytes done. refl) acts (puts flag) acts (only flag)
          ∙ has_status acts (request_in pd) own

      -- the status byte that is read is the turn's
      pub status_is : (status : ℕ) → ((g : ℕ) (acts : List Act) → kept_buffers.Stands g acts k.buffers → has_range acts pd.buffer 16 1 ≡ true → status ≡ ram g acts pd.buffer 16)
          → status ≡ ram x.per_page (unmap_acts (live_mappings acts) (maps_in pd) ++ acts) pd.buffer 16
      status_is status read =
          read x.per_page (ends_acts ++ (done ++ acts)) (unmapped (maps_in pd) ended).buffers there
          ∙ ram_like x (done ++ acts) acts apart (like apart flag p.head) (maps_in pd) pd.buffer 16

      none_of_them : IsLeft (ends_acts ++ (done ++ acts)) (made_in pd)
      none_of_them =
          subst (λ ms. IsLeft (unmap_acts ms (maps_in pd) ++ (done ++ acts)) (made_in pd)) live_same
          (left_after (made_in pd) (maps_in pd) (done ++ acts) (subst (λ ms. All (IsOne (made_in pd) (maps_in pd)) ms) (sym live_same) own.mapped))

      joined : (request_end_acts (live_mappings acts) (request_in pd) ++ done) ++ acts ≡ free_acts pd.buffer pd.buffers ++ (ends_acts ++ (done ++ acts))
      joined =
          append_assoc (free_acts pd.buffer pd.buffers ++ ends_acts) done acts
          ∙ append_assoc (free_acts pd.buffer pd.buffers) ends_acts (done ++ acts)

      pub request_after : (after : Memory)
          → ((x : Setting) (acts : List Act) (m : Pool) → Stands x acts k m → IsLeft acts (made_in pd) → Stands x (free_acts pd.buffer pd.buffers ++ acts) after m)
          → After x acts q after n (Some driver) (request_end_acts (live_mappings acts) (request_in pd) ++ done)
      request_after after free = record {
        memory = subst (λ l. Stands x l after n) (sym joined) (free x (ends_acts ++ (done ++ acts)) n (unmapped (maps_in pd) ended) none_of_them);
        requests = subst (λ l. RequestsStand l q (Some driver)) (sym joined)
            (requests_stay q (free_acts pd.buffer pd.buffers) (ends_acts ++ (done ++ acts)) (Some driver) (frees_leave q driver pd.buffer pd.buffers)
            (requests_stay q ends_acts (done ++ acts) (Some driver) (unmaps_leave q driver (live_mappings acts) (maps_in pd)) (requests_left flag p.head waits)));
      }
