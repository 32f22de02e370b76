-- The line that adds a chain.
use Rattle.std.proofs.Common.{◌≡◌, ℕ, ◌*◌, ◌<◌, ◌≤◌, Bool, true, false, ◌==◌, ◌||◌, nat_lt, if◌then◌else◌, refl, ap, sym, subst, ◌∙◌, arith, List, [], ◌∷◌, ◌++◌, length, take, Some, None, Option, true≢false}
use Rattle.std.specs.Option.{option_map_or}
use Rattle.std.proofs.lemmas.Bool.Decides.{nat_tests}
use Rattle.vd_num.specs.declared.errno.Errno.TheVariants.{Inval, Noent, Nospc}
use Rattle.vd_pool.specs.Memory.{PoolMemory as Pool}
use Rattle.vd_model.specs.declared.parts.Part.{Part}
use Rattle.vd_model.specs.declared.answer.Answer.{Answer}
use Rattle.vd_model.specs.declared.answer.Answer.TheVariants.{Done}
use Rattle.vd_model.specs.declared.answer.Item.TheVariants.{Word, Number}
use Rattle.vd_model.specs.declared.answer.Tag.TheVariants as tag
use Rattle.vd_model.specs.Setting.{Setting}
use Rattle.vd_model.specs.Creation.{Creation}
use Rattle.vd_model.specs.Acts.{Act, AddedChain, Request, Queue, Chain_added}
use Rattle.vd_model.specs.Queues as model
use Rattle.vd_model.specs.Queues.{ring_of, added_count, chains_out}
use Rattle.vd_model.specs.Rings.{available_slot_at}
use Rattle.vd_model.specs.RingTurns.{add_turn, chain_acts, is_out_of_order, first_of, slot_put, descriptor_puts}
use Rattle.vd_model.specs.BusTurns.{is_missing}
use Rattle.vd_model.specs.Turn.{done_with, refuse, refusal_if, refusal_turn}
use Rattle.vd_answers.specs.Tells.{Tells}
use Rattle.vd_answers.proofs.Telling.{tells_by}
use Rattle.vd_domain.specs.Seen.{ring_map, ring_memory}
use Rattle.vd_domain.proofs.Beside.{leaves_domain}
use Rattle.vd_memory_lines.specs.declared.memory.Memory.{Memory}
use Rattle.vd_memory_lines.specs.Stands.{Stands}
use Rattle.vd_memory_lines.proofs.Parts.{domain_act}
use Rattle.vr_split.specs.Reach.{RingInReach}
use Rattle.vr_split.specs.ReachLemmas.{available_slot-reached}
use Rattle.vr_driver.specs.Side.{unowned_descriptors, next_chain, next_head, with_chain}
use Rattle.vr_driver.specs.Driver.{with_parts}
use Rattle.vd_ring_memory.specs.RingPuts.{AreRingPuts, IsAfterRingPuts}
use Rattle.vd_queue_sides.specs.Chains.{chains_of, is_head}
use Rattle.vd_queue_sides.specs.Chains as sides
use Rattle.vd_queue_sides.proofs.Daemons.{itself}
use Rattle.vd_queue_sides.proofs.Adding.{ring_added}
use Rattle.vd_queue_sides.proofs.FreeLemmas.{free_same}
use Rattle.vd_rings.proofs.Leaving.{lies_after}
use Rattle.vd_rings.proofs.Lying.{ring_reached, ends, no_span, coherent_reached, some_size}
use Rattle.vd_rings.proofs.Putting.{Shows, puts_stand}
use Rattle.vd_rings.proofs.Moving.{lies_as}
use Rattle.vd_rings.proofs.Chains.{first_is, first_taken, next_inside, in_descriptors, parts_put}
use Rattle.blk_driver.specs.Driver as blk
use Rattle.blk_driver.specs.declared.pending.Pending.{Pending}
use Rattle.vd_request_lines.specs.declared.held.HeldDriver.{HeldDriver}
use Rattle.vd_request_lines.specs.Stands.{RequestsStand, ring_held, chain_at, IsNext, ArePending}
use Rattle.vd_request_lines.specs.After.{After}
use Rattle.vd_request_lines.proofs.Leaving.{requests_after_puts}
use Rattle.vd_request_lines.proofs.Between.{memory_puts}
use Rattle.vd_request_lines.proofs.Turning.{added_to}

-- a chain without a request leaves the pending ones
pending_more : (chains : List AddedChain) (chain : AddedChain) → chain.request ≡ None → (ps : List Pending) → ArePending chains ps → ArePending (chains ++ chain ∷ []) ps
pending_more [] chain plain ps all = subst (λ r. IsNext r chain.head ps (ArePending [])) (sym plain) all
pending_more (c ∷ cs) chain plain ps all = by c.request ps all (pending_more cs chain plain) where
  by : (r : Option Request) (ps : List Pending) → IsNext r c.head ps (ArePending cs) → ((ps : List Pending) → ArePending cs ps → ArePending (cs ++ chain ∷ []) ps) → IsNext r c.head ps (ArePending (cs ++ chain ∷ []))
  by None ps n rest = rest ps n
  by (Some r) [] n rest = absurd n
  by (Some r) (p ∷ ps) n rest = (n.0, n.1, rest ps n.2)

-- a chain that is there is found before one more
pub found_before : (chains : List AddedChain) (chain : AddedChain) (id : ℕ) → is_head chains id ≡ true → chain_at chains id ≡ chain_at (chains ++ chain ∷ []) id
found_before [] chain id e = absurd (true≢false (sym e))
found_before (c ∷ cs) chain id e = by (c.head == id) refl (found_before cs chain id) where
  by : (t : Bool) → (c.head == id) ≡ t → (is_head cs id ≡ true → chain_at cs id ≡ chain_at (cs ++ chain ∷ []) id) → (if c.head == id then Some c else chain_at cs id) ≡ (if c.head == id then Some c else chain_at (cs ++ chain ∷ []) id)
  by true f rest = ap (λ t. if t then Some c else chain_at cs id) f ∙ sym (ap (λ t. if t then Some c else chain_at (cs ++ chain ∷ []) id) f)
  by false f rest =
      ap (λ t. if t then Some c else chain_at cs id) f ∙ rest (sym (ap (λ t. t || is_head cs id) f) ∙ e)
      ∙ sym (ap (λ t. if t then Some c else chain_at (cs ++ chain ∷ []) id) f)

module _ (made : Creation) (acts : List Act) (q : ℕ) (here : is_missing made q ≡ false) (held : HeldDriver) (r : RequestsStand acts q (Some held)) (parts : List Part) where
  free_is : unowned_descriptors held.driver.ring ≡ model.free_descriptors held.driver.ring.place.size (chains_out acts q)
  free_is = free_same (chains_of acts q) held.region held.driver.ring r.side

  on_it : add_turn made acts q parts ≡ added_to acts q parts (record { place = held.driver.ring.place; region = held.region })
  on_it =
      ap (λ t. refuse (refusal_if t Inval) (option_map_or (added_to acts q parts) (ring_of acts q) (refusal_turn Noent))) here
      ∙ ap (λ o. option_map_or (added_to acts q parts) o (refusal_turn Noent)) r.side.ring

  by_tests : (out full : Bool) → is_out_of_order parts ≡ out → nat_lt (length (unowned_descriptors held.driver.ring)) (length parts) ≡ full → add_turn made acts q parts
      ≡ refuse (refusal_if out Inval) (refuse (refusal_if full Nospc)
      (done_with (Word tag.Head ∷ Number (first_of (unowned_descriptors held.driver.ring)) ∷ []) (chain_acts acts q held.driver.ring.place parts (next_chain held.driver.ring (length parts)) None)))
  by_tests out full e f =
      on_it
      ∙ ap (λ ds. refuse (refusal_if (is_out_of_order parts) Inval) (refuse (refusal_if (nat_lt (length ds) (length parts)) Nospc)
      (done_with (Word tag.Head ∷ Number (first_of ds) ∷ []) (chain_acts acts q held.driver.ring.place parts (take (length parts) ds) None)))) (sym free_is)
      ∙ ap (λ t. refuse (refusal_if t Inval) (refuse (refusal_if (nat_lt (length (unowned_descriptors held.driver.ring)) (length parts)) Nospc)
      (done_with (Word tag.Head ∷ Number (first_of (unowned_descriptors held.driver.ring)) ∷ []) (chain_acts acts q held.driver.ring.place parts (next_chain held.driver.ring (length parts)) None)))) e
      ∙ ap (λ t. refuse (refusal_if out Inval) (refuse (refusal_if t Nospc)
      (done_with (Word tag.Head ∷ Number (first_of (unowned_descriptors held.driver.ring)) ∷ []) (chain_acts acts q held.driver.ring.place parts (next_chain held.driver.ring (length parts)) None)))) f

  pub disordered : is_out_of_order parts ≡ true → add_turn made acts q parts ≡ refusal_turn Inval
  disordered e = by_tests true (nat_lt (length (unowned_descriptors held.driver.ring)) (length parts)) e refl

  pub full_turn : is_out_of_order parts ≡ false → length (unowned_descriptors held.driver.ring) < length parts → add_turn made acts q parts ≡ refusal_turn Nospc
  full_turn e few = by_tests false true e (let test : nat_lt (length (unowned_descriptors held.driver.ring)) (length parts) ≡ true = grind (arith, nat_tests) in test)

  pub fit_turn : is_out_of_order parts ≡ false → length parts ≤ length (unowned_descriptors held.driver.ring)
      → add_turn made acts q parts ≡ done_with (Word tag.Head ∷ Number (first_of (unowned_descriptors held.driver.ring)) ∷ []) (chain_acts acts q held.driver.ring.place parts (next_chain held.driver.ring (length parts)) None)
  fit_turn e fits = by_tests false false e (let test : nat_lt (length (unowned_descriptors held.driver.ring)) (length parts) ≡ false = grind (arith, nat_tests) in test)

module _ (x : Setting) (acts : List Act) (m : Pool) (q : ℕ) (h k : Memory) (held : HeldDriver) (s : Stands x acts h m) (r : RequestsStand acts q (Some held))
    (before : Shows h.domain) (later : Shows k.domain) (after : IsAfterRingPuts h.domain k.domain) (rest : k ≡ record h { domain = k.domain }) (parts : List Part) where
  -- a refusal leaves both as they were
  pub refused_after : (d : blk.Driver) → d ≡ held.driver → ring_map k.domain ≡ ring_map h.domain → After x acts q k m (Some (record held { driver = d })) []
  refused_after d same told = record {
    memory = subst (λ (t : Memory). Stands x acts t m) (sym rest) (memory_puts x acts [] h m k.domain s tt (puts_stand x acts [] h.domain k.domain m s.domain after before later tt told));
    requests = subst (λ (t : blk.Driver). RequestsStand acts q (Some (record held { driver = t }))) (sym same) r;
  }

  module _ (n : 0 < length parts) (fits : length parts ≤ length (unowned_descriptors held.driver.ring)) (told : ring_map k.domain ≡ with_parts (ring_map h.domain) held.driver.ring parts) where
    seen : ring_map h.domain ≡ ring_memory x acts
    seen = before x acts m s.domain

    reach : RingInReach (Some (ring_map h.domain)) None held.driver.ring.place
    reach = ring_reached acts (ring_held held) r.lies x (ring_map h.domain) seen

    abbrev head : ℕ
    head = first_of (next_chain held.driver.ring (length parts))

    abbrev puts : List Act
    puts = slot_put held.driver.ring.place (added_count acts q) head ∷ descriptor_puts held.driver.ring.place parts (next_chain held.driver.ring (length parts))

    only : AreRingPuts acts puts
    only = (
      coherent_reached x acts (ring_map h.domain) seen (available_slot_at held.driver.ring.place (added_count acts q)) 2
          (available_slot-reached (Some (ring_map h.domain)) None held.driver.ring.place (ends h.domain) (no_span _) (some_size held.driver.ring.place.size r.lies.size) (added_count acts q) reach.driver),
      in_descriptors acts held.driver.ring.place (coherent_reached x acts (ring_map h.domain) seen held.driver.ring.place.desc (16 * held.driver.ring.place.size) reach.desc) parts (next_chain held.driver.ring (length parts))
          (λ d e. subst (λ n. d < n) r.side.owners_len (next_inside held.driver.ring (length parts) d e)),
    )

    abbrev chain : AddedChain
    chain = record { head = head; descriptors = next_chain held.driver.ring (length parts); request = None }

    stands : Stands x (puts ++ acts) k m
    stands =
        subst (λ (t : Memory). Stands x (puts ++ acts) t m) (sym rest)
        (memory_puts x acts puts h m k.domain s only
        (puts_stand x acts puts h.domain k.domain m s.domain after before later only (told ∙ sym (parts_put (ring_map h.domain) held.driver.ring parts (added_count acts q) r.lies.size r.side.added fits))))

    pub added_after : After x acts q k m (Some (record held { driver = record held.driver { ring = with_chain held.driver.ring (length parts) } })) (chain_acts acts q held.driver.ring.place parts (next_chain held.driver.ring (length parts)) None)
    added_after =
        let moved = requests_after_puts acts puts acts q held only r in
        record {
          memory = domain_act x (puts ++ acts) k m stands (Queue (Chain_added q chain)) k.domain m refl refl (leaves_domain x (puts ++ acts) k.domain m stands.domain (Queue (Chain_added q chain)) refl);
          requests = record {
            side = subst (λ d. sides.RingStands (Queue (Chain_added q (record { head = d; descriptors = next_chain held.driver.ring (length parts); request = None })) ∷ puts ++ acts) q (Some (held.region, with_chain held.driver.ring (length parts))))
                (first_is (next_chain held.driver.ring (length parts))) (ring_added (puts ++ acts) q held.region held.driver.ring moved.side (length parts) n fits None);
            lies = lies_as (Queue (Chain_added q chain) ∷ puts ++ acts) (ring_held held) (with_chain held.driver.ring (length parts)) refl (lies_after (puts ++ acts) (ring_held held) (Queue (Chain_added q chain)) refl moved.lies);
            pending = subst (λ t. ArePending (if t then chains_out (puts ++ acts) q ++ chain ∷ [] else chains_out (puts ++ acts) q) held.driver.pending) (sym (itself q))
                (pending_more (chains_out (puts ++ acts) q) chain refl held.driver.pending moved.pending);
            seen = λ id e. moved.seen id e ∙ subst (λ t. chain_at (chains_out (puts ++ acts) q) id ≡ chain_at (if t then chains_out (puts ++ acts) q ++ chain ∷ [] else chains_out (puts ++ acts) q) id) (sym (itself q))
                (found_before (chains_out (puts ++ acts) q) chain id (moved.side.known id e));
          };
        }

    -- the head that is told is the turn's
    head_is : next_head held.driver.ring (length parts) ≡ first_of (unowned_descriptors held.driver.ring)
    head_is = first_is (next_chain held.driver.ring (length parts)) ∙ first_taken (length parts) (unowned_descriptors held.driver.ring) n

    pub adds : (made : Creation) → is_missing made q ≡ false → is_out_of_order parts ≡ false → (heard : Answer → Type 0) (told_head : ℕ) (d : blk.Driver)
        → told_head ≡ next_head held.driver.ring (length parts) → d ≡ record held.driver { ring = with_chain held.driver.ring (length parts) } → heard (Done (Word tag.Head ∷ Number told_head ∷ []))
        → Tells heard (add_turn made acts q parts) (After x acts q k m (Some (record held { driver = d })))
    adds made here order heard told_head d e f said =
        tells_by (fit_turn made acts q here held r parts order fits)
        (ap (λ n. Done (Word tag.Head ∷ Number n ∷ [])) (e ∙ head_is)) said
        (subst (λ (t : blk.Driver). After x acts q k m (Some (record held { driver = t })) (chain_acts acts q held.driver.ring.place parts (next_chain held.driver.ring (length parts)) None)) (sym f) added_after)
