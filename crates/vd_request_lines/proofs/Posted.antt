-- The chain of a request in the ring: what memory, the queue and the kick stand for.
use Rattle.std.proofs.Common.{◌≡◌, ℕ, zero, suc, ◌+◌, ◌*◌, ◌%◌, ◌<◌, ◌≤◌, ◌^◌, Bool, true, false, ◌==◌, if◌then◌else◌, refl, ap, sym, subst, ◌∙◌, arith, List, [], ◌∷◌, ◌++◌, length, take, Some, None, Option}
use Rattle.std.specs.Prelude.{is_some}
use Rattle.std.specs.List.{list_any}
use Rattle.byteorder.specs.Endian.{little_bytes}
use Rattle.vd_pool.specs.Memory.{PoolMemory as Pool}
use Rattle.vd_model.specs.declared.parts.Part.{Part}
use Rattle.vd_model.specs.declared.queue.RingPlace.{RingPlace}
use Rattle.vd_model.specs.Memory as model
use Rattle.vd_model.specs.Memory.{IsFinite}
use Rattle.vd_model.specs.Setting.{Setting}
use Rattle.vd_model.specs.Acts.{Act, AddedChain, Request, Streaming, Driver, Driver_put, Queue, Chain_added, Chains_published}
use Rattle.vd_model.specs.Live.{iova_of, region_covers}
use Rattle.vd_model.specs.Puts.{shown_put, home_cell, last_put}
use Rattle.vd_model.specs.Queues.{added_count, published_count, chains_out, published_chains_out}
use Rattle.vd_model.specs.Rings.{IsRingSize, available_slot_at, available_index_at}
use Rattle.vd_model.specs.RingTurns.{AskedRequest, parts_count, last_after, request_puts, table_puts, slot_put, first_of, needed_descriptors, wants_kick}
use Rattle.vd_model.specs.DaemonTurns.{has_event_idx}
use Rattle.vd_domain.specs.Seen.{ring_map, ring_memory}
use Rattle.vd_domain.specs.Handed.{is_coherent}
use Rattle.vd_domain.proofs.Beside.{leaves_domain}
use Rattle.vd_memory_lines.specs.declared.memory.Memory.{Memory}
use Rattle.vd_memory_lines.specs.Stands.{Stands}
use Rattle.vd_memory_lines.proofs.Parts.{domain_act}
use Rattle.vr_split.specs.Reach.{RingInReach}
use Rattle.vr_split.specs.ReachLemmas.{available_slot-reached, available_index-reached}
use Rattle.vr_driver.specs.Side.{DriverSide, unowned_descriptors, next_chain, with_chain, all_published}
use Rattle.vr_driver.specs.Driver.{with_index, is_kick_needed}
use Rattle.vd_ring_memory.specs.RingPuts.{after_puts, AreRingPuts}
use Rattle.vd_ring_memory.specs.RingPutLemmas.{ring_puts_same}
use Rattle.vd_ring_memory.proofs.RingTelling.{ring_after_puts}
use Rattle.vd_queue_sides.specs.Chains.{is_head}
use Rattle.vd_queue_sides.specs.Chains as sides
use Rattle.vd_queue_sides.proofs.Daemons.{itself}
use Rattle.vd_queue_sides.proofs.Lists.{or_left}
use Rattle.vd_queue_sides.proofs.Adding.{ring_added}
use Rattle.vd_queue_sides.proofs.Drivers.{ring_published}
use Rattle.vd_queue_sides.proofs.Chained.{index_put}
use Rattle.vd_rings.proofs.Leaving.{lies_after}
use Rattle.vd_rings.proofs.Lying.{laid, ring_reached, no_span, coherent_reached, some_size, small_size}
use Rattle.vd_rings.proofs.Putting.{Shows}
use Rattle.vd_rings.proofs.Moving.{lies_as}
use Rattle.vd_rings.proofs.Kicks.{one_if, has_end, kick_over}
use Rattle.vd_rings.proofs.Chains.{first_is, next_inside, in_descriptors, parts_put}
use Rattle.vd_driver_port.specs.Rest.{IsAfterPuts}
use Rattle.vd_request_acts.specs.Alike.{IsAlike}
use Rattle.vd_request_acts.proofs.Alike.{alike_self, alike_queue, alike_put, queue_alone, stands_alike}
use Rattle.blk_driver.specs.Driver.{request_in}
use Rattle.blk_driver.specs.Placed.{with_request}
use Rattle.blk_driver.specs.declared.pending.Pending.{Pending}
use Rattle.vd_request_lines.specs.declared.held.HeldDriver.{HeldDriver}
use Rattle.vd_request_lines.specs.Stands.{RequestsStand, ring_held, chain_at, IsNext, ArePending}
use Rattle.vd_request_lines.proofs.Adds.{found_before}
use Rattle.vd_request_lines.proofs.Between.{memory_puts}
use Rattle.vd_request_lines.proofs.Leaving.{requests_after_puts}
use Rattle.vd_request_lines.proofs.Requests.{puts_over, table_put}

-- ---- puts

-- the table of a request that has one
pub record HasTable (a : AskedRequest) (ms : List Streaming) (table n : ℕ) : Type 0 where
  pub last : Streaming
  pub found : last_after (parts_count a) ms ≡ Some last
  pub at : table ≡ iova_of last
  pub len : last.want.len ≡ 16 * n

-- the descriptors that a request takes, and their first one
abbrev pub taken : Bool → AskedRequest → DriverSide → List ℕ
taken i a s = next_chain s (needed_descriptors i a)

pub puts_told : (i : Bool) (m : model.Memory) (s : DriverSide) (a : AskedRequest) (ms : List Streaming) (parts : List Part) (table count : ℕ) → IsRingSize s.place.size → s.added ≡ count % 65536
    → needed_descriptors i a ≤ length (unowned_descriptors s) → length parts ≡ parts_count a → (i ≡ true → HasTable a ms table (length parts))
    → after_puts m (slot_put s.place count (first_of (taken i a s)) ∷ request_puts i s.place a ms parts (taken i a s)) ≡ with_request m s i table parts
puts_told false m s a ms parts table count size added fits len tabled =
    subst (λ n. after_puts m (slot_put s.place count (first_of (next_chain s n)) ∷ request_puts false s.place a ms parts (next_chain s n)) ≡ with_request m s false table parts) len
    (parts_put m s parts count size added (subst (λ n. n ≤ length (unowned_descriptors s)) (sym len) fits))
puts_told true m s a ms parts table count size added fits len tabled =
    let t = tabled refl in
    ap (λ o. after_puts m (slot_put s.place count (first_of (next_chain s 1)) ∷ table_puts s.place o (next_chain s 1))) t.found
    ∙ table_put m s t.last table (length parts) count size added t.at t.len

-- the first that is taken is taken
first_inside : (n : ℕ) (xs : List ℕ) → 0 < n → 0 < length xs → list_any (λ k. k == first_of (take n xs)) (take n xs) ≡ true
first_inside zero xs some more = absurd (omega arith)
first_inside (suc n) [] some more = absurd (omega arith)
first_inside (suc n) (x ∷ xs) some more = or_left (x == x) (list_any (λ k. k == x) (take n xs)) (itself x)

pub puts_only : (i : Bool) (base : List Act) (s : DriverSide) (a : AskedRequest) (ms : List Streaming) (parts : List Part) → length s.owners ≡ s.place.size
    → ((b : ℕ) → s.place.desc ≤ b → b < s.place.desc + 16 * s.place.size → is_coherent base b ≡ true) → needed_descriptors i a ≤ length (unowned_descriptors s) → AreRingPuts base (request_puts i s.place a ms parts (taken i a s))
puts_only false base s a ms parts owners table fits =
    in_descriptors base s.place table parts (taken false a s) (λ d e. subst (λ n. d < n) owners (next_inside s (needed_descriptors false a) d e))
puts_only true base s a ms parts owners table fits = by (last_after (parts_count a) ms) where
  below : first_of (next_chain s 1) < s.place.size
  below = subst (λ n. first_of (next_chain s 1) < n) owners (next_inside s 1 (first_of (next_chain s 1)) (first_inside 1 (unowned_descriptors s) (omega arith) (omega (arith, fits))))

  by : (o : Option Streaming) → AreRingPuts base (table_puts s.place o (next_chain s 1))
  by None = tt
  by (Some m) = (λ b low high. let inside = below in table b (omega arith) (omega arith), tt)

pub some_needed : (i : Bool) (a : AskedRequest) → 0 < needed_descriptors i a
some_needed true a = omega arith
some_needed false a = by (is_some a.want) where
  by : (t : Bool) → 0 < (if t then 3 else 2)
  by true = omega arith
  by false = omega arith

-- ---- the pending requests

-- a chain with a request, which is the last of the pending ones
pub pending_with : (chains : List AddedChain) (chain : AddedChain) (r : Request) → chain.request ≡ Some r → (ps : List Pending) (p : Pending) → p.head ≡ chain.head → request_in p ≡ r
    → ArePending chains ps → ArePending (chains ++ chain ∷ []) (ps ++ p ∷ [])
pending_with [] chain r e ps p head is all =
    subst (λ l. ArePending (chain ∷ []) (l ++ p ∷ [])) (sym all) (subst (λ o. IsNext o chain.head (p ∷ []) (ArePending [])) (sym e) (head, is, refl))
pending_with (c ∷ cs) chain r e ps p head is all = by c.request ps all (λ ps n. pending_with cs chain r e ps p head is n) where
  by : (o : Option Request) (ps : List Pending) → IsNext o c.head ps (ArePending cs) → ((ps : List Pending) → ArePending cs ps → ArePending (cs ++ chain ∷ []) (ps ++ p ∷ []))
      → IsNext o c.head (ps ++ p ∷ []) (ArePending (cs ++ chain ∷ []))
  by None ps n rest = rest ps n
  by (Some o) [] n rest = absurd n
  by (Some o) (l ∷ ps) n rest = (n.0, n.1, rest ps n.2)

-- what nothing that is kept tells from others shows the same of the rings
pub ring_alike : (x : Setting) (more acts : List Act) → IsAlike x.per_page more acts → ring_memory x more ≡ ring_memory x acts
ring_alike x more acts e = λ j a. (
    ap (λ rs. if list_any (λ r. region_covers r a) rs then Some (shown_put x.per_page more a).byte else None) e.coherent
    ∙ ap (λ v. if is_coherent acts a then Some v else None) (e.bytes (home_cell _ a) ∙ ap (λ r. (last_put x.per_page acts (home_cell r a)).byte) e.registered)) j

none_some : {X : Type 0} {a : X} → None ≡ Some a → ⊥
none_some e = cc

-- ---- a chain with a request is added over acts that a memory stands for, and published

module _ (x : Setting) (base : List Act) (q : ℕ) (held : HeldDriver) (r : RequestsStand base q (Some held)) (i : Bool) (a : AskedRequest) (ms : List Streaming) (parts : List Part)
    (fits : needed_descriptors i a ≤ length (unowned_descriptors held.driver.ring)) (request : Request) (p : Pending) (is : request_in p ≡ request)
    (head : p.head ≡ first_of (taken i a held.driver.ring)) where
  abbrev place : RingPlace
  place = held.driver.ring.place

  abbrev ds : List ℕ
  ds = taken i a held.driver.ring

  abbrev pub chain : AddedChain
  chain = record { head = first_of ds; descriptors = ds; request = Some request }

  abbrev pub puts : List Act
  puts = slot_put place (added_count base q) (first_of ds) ∷ request_puts i place a ms parts ds

  -- after the chain was added
  abbrev pub added_acts : List Act
  added_acts = Queue (Chain_added q chain) ∷ puts ++ base

  abbrev pub index : Act
  index = Driver (Driver_put (available_index_at place) (little_bytes 2 (added_count added_acts q)))

  abbrev side : DriverSide
  side = with_chain held.driver.ring (needed_descriptors i a)

  abbrev pub driver_added : HeldDriver
  driver_added = record held { driver = record { ring = side; pending = held.driver.pending ++ p ∷ [] } }

  module _ (w : model.Memory) (seen : w ≡ ring_memory x base) (finite : IsFinite w) where
    reach : RingInReach (Some w) None place
    reach = ring_reached base (ring_held held) r.lies x w seen

    pub only : AreRingPuts base puts
    only = (
      coherent_reached x base w seen (available_slot_at place (added_count base q)) 2
          (available_slot-reached (Some w) None place (has_end w finite) (no_span _) (some_size place.size r.lies.size) (added_count base q) reach.driver),
      puts_only i base held.driver.ring a ms parts r.side.owners_len (coherent_reached x base w seen place.desc (16 * place.size) reach.desc) fits,
    )

    index_only : AreRingPuts base (index ∷ [])
    index_only = (coherent_reached x base w seen (available_index_at place) 2 (available_index-reached (Some w) None place (has_end w finite) (no_span _) reach.driver), tt)

    requests_added : RequestsStand added_acts q (Some driver_added)
    requests_added =
        let moved = requests_after_puts base puts base q held only r in
        record {
          side = subst (λ d. sides.RingStands (Queue (Chain_added q (record { head = d; descriptors = ds; request = Some request })) ∷ puts ++ base) q (Some (held.region, side)))
              (first_is ds) (ring_added (puts ++ base) q held.region held.driver.ring moved.side (needed_descriptors i a) (some_needed i a) fits (Some request));
          lies = lies_as added_acts (ring_held held) side refl (lies_after (puts ++ base) (ring_held held) (Queue (Chain_added q chain)) refl moved.lies);
          pending = subst (λ t. ArePending (if t then chains_out (puts ++ base) q ++ chain ∷ [] else chains_out (puts ++ base) q) (held.driver.pending ++ p ∷ [])) (sym (itself q))
              (pending_with (chains_out (puts ++ base) q) chain request refl held.driver.pending p head is moved.pending);
          seen = λ id e. moved.seen id e ∙ subst (λ t. chain_at (chains_out (puts ++ base) q) id ≡ chain_at (if t then chains_out (puts ++ base) q ++ chain ∷ [] else chains_out (puts ++ base) q) id) (sym (itself q))
              (found_before (chains_out (puts ++ base) q) chain id (moved.side.known id e));
        }

    pub requests_published : RequestsStand (Queue (Chains_published q) ∷ index ∷ added_acts) q (Some (record driver_added { driver = record { ring = all_published side; pending = held.driver.pending ++ p ∷ [] } }))
    requests_published =
        let moved = requests_after_puts base (index ∷ []) added_acts q driver_added index_only requests_added in
        record {
          side = ring_published (index ∷ added_acts) q held.region side moved.side;
          lies = lies_as (Queue (Chains_published q) ∷ index ∷ added_acts) (ring_held driver_added) (all_published side) refl (lies_after (index ∷ added_acts) (ring_held driver_added) (Queue (Chains_published q)) refl moved.lies);
          pending = moved.pending;
          seen = subst (λ t. (id : ℕ) → is_head (if t then chains_out (index ∷ added_acts) q else published_chains_out (index ∷ added_acts) q) id ≡ true
              → chain_at (if t then chains_out (index ∷ added_acts) q else published_chains_out (index ∷ added_acts) q) id ≡ chain_at (chains_out (index ∷ added_acts) q) id) (sym (itself q)) (λ id e. refl);
        }

    pub index_told : (idx : ℕ) → idx ≡ side.added → idx ≡ added_count added_acts q % 65536
    index_told idx e = e ∙ requests_added.side.added

    module _ (table : ℕ) (len : length parts ≡ parts_count a) (tabled : i ≡ true → HasTable a ms table (length parts)) where
      put_first : after_puts w puts ≡ with_request w held.driver.ring i table parts
      put_first = puts_told i w held.driver.ring a ms parts table (added_count base q) r.lies.size r.side.added fits len tabled

      put_all : after_puts w (index ∷ puts) ≡ with_index (with_request w held.driver.ring i table parts) side
      put_all = index_put (after_puts w puts) side (added_count added_acts q) requests_added.side.added ∙ ap (λ (m : model.Memory). with_index m side) put_first

      seen_added : with_request w held.driver.ring i table parts ≡ ring_memory x added_acts
      seen_added =
          sym put_first ∙ ap (λ (m : model.Memory). after_puts m puts) seen ∙ sym (ring_after_puts x base puts only)
          ∙ sym (ring_alike x added_acts (puts ++ base) (queue_alone x.per_page (puts ++ base) (Chain_added q chain)))

      added_finite : IsFinite (with_request w held.driver.ring i table parts)
      added_finite b v e = by (is_coherent base b) refl where
        by : (t : Bool) → is_coherent base b ≡ t → b < 2 ^ 32
        by true f = finite b (shown_put x.per_page base b).byte ((λ j. seen j b) ∙ ap (λ t. if t then Some (shown_put x.per_page base b).byte else None) f)
        by false f =
            let off : is_coherent added_acts b ≡ false = ring_puts_same (λ l. is_coherent l b) (λ at bytes done. refl) base puts base only ∙ f in
            absurd (none_some (sym (ap (λ t. if t then Some (shown_put x.per_page added_acts b).byte else None) off) ∙ sym (λ j. seen_added j b) ∙ e))

      -- the kick is the turn's
      pub kick_told : (ev : Bool) → ev ≡ has_event_idx added_acts → (kick : Bool) (new : model.Memory) → new ≡ with_index (with_request w held.driver.ring i table parts) side
          → kick ≡ is_kick_needed new side ev → one_if kick ≡ wants_kick x added_acts place (added_count added_acts q) (published_count added_acts q)
      kick_told ev e kick new told k =
          ap one_if (k ∙ ap (λ (m : model.Memory). is_kick_needed m side ev) told)
          ∙ kick_over x added_acts q held.region (with_request w held.driver.ring i table parts) added_finite side ev seen_added (laid base (ring_held held) r.lies)
          (ring_reached added_acts (ring_held driver_added) requests_added.lies x (with_request w held.driver.ring i table parts) seen_added) requests_added.side (small_size place.size r.lies.size) e

      -- memory stands for all of it
      pub posted : (listed new : Memory) (lp n : Pool) → ring_map listed.domain ≡ w → Stands x base listed lp → IsAfterPuts listed new lp n → Shows new.domain
          → ring_map new.domain ≡ with_index (with_request w held.driver.ring i table parts) side → Stands x (Queue (Chains_published q) ∷ index ∷ added_acts) new n
      posted listed new lp n told s after later becomes =
          let put = puts_over x base (index ∷ puts) listed.domain new.domain lp s.domain after.puts (told ∙ seen) later (index_only.0, only)
          (becomes ∙ sym put_all ∙ sym (ap (λ (m : model.Memory). after_puts m (index ∷ puts)) told)) in
          let here = subst (λ (m : Pool). Stands x (index ∷ puts ++ base) new m) (sym after.pool)
          (subst (λ (t : Memory). Stands x (index ∷ puts ++ base) t lp) (sym after.rest) (memory_puts x base (index ∷ puts) listed lp new.domain s (index_only.0, only) put)) in
          let under = stands_alike x (index ∷ puts ++ base) (index ∷ added_acts) new n
          (alike_put x.per_page (puts ++ base) added_acts (available_index_at place) (little_bytes 2 (added_count added_acts q)) (alike_queue x.per_page (puts ++ base) (puts ++ base) (Chain_added q chain) (alike_self x.per_page (puts ++ base)))) here in
          domain_act x (index ∷ added_acts) new n under (Queue (Chains_published q)) new.domain n refl refl (leaves_domain x (index ∷ added_acts) new.domain n under.domain (Queue (Chains_published q)) refl)
