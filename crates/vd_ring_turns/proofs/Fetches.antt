-- A fetch takes the next request that was placed in hand.
use Rattle.std.proofs.Common.{◌≡◌, ℕ, ◌+◌, ◌*◌, ◌%◌, ◌==◌, ◌<◌, Bool, true, false, refl, ap, subst, ◌∙◌, sym, arith, cond, Option, None, Some, is_some, Result, Ok, Err, List, [], ◌∷◌, ◌++◌, length, get_or, not, nat_lt, append_assoc, ◌||◌, if◌then◌else◌, inl}
use Rattle.std.specs.Option.{option_map_or}
use Rattle.std.proofs.lemmas.Bool.{ne_eqb}
use Rattle.std.proofs.Math.Nat.{mod-eq_of_lt}
use Rattle.vd_num.specs.declared.errno.Errno.TheVariants.{Again, Busy, Inval}
use Rattle.vd_model.specs.declared.answer.Answer.TheVariants as answer
use Rattle.vd_model.specs.declared.parts.Chain.{Chain}
use Rattle.vd_model.specs.Setting.{Setting}
use Rattle.vd_model.specs.Creation.{Creation}
use Rattle.vd_model.specs.Acts.{Act, Queue, AddedChain, Fetched, state_acts}
use Rattle.vd_model.specs.State.{is_ready}
use Rattle.vd_model.specs.Memory.{read}
use Rattle.vd_model.specs.Trace.{Ending, whole, faulty, missing, trace_start, chain_of, ending_of}
use Rattle.vd_model.specs.Queues.{Ring, ring_of, chains_out, before_first, fetches, finishes, in_hand}
use Rattle.vd_model.specs.Rings.{number16, next16, minus16, available_index_at, available_slot_at, available_event_at, used_index_at}
use Rattle.vd_model.specs.Turn.{Turn, refuse, refusal_if}
use Rattle.vd_model.specs.BusTurns.{is_missing}
use Rattle.vd_model.specs.DaemonTurns.{daemon_memory, bytes_or, queue_place, has_indirect, has_event_idx, chain_or, read_or, first_used, index_after, readable_bytes, event_puts, fetched_turn, fetch_at, is_idle, fetch_turn, hand, hand_head, hand_position}
use Rattle.vd_laws.specs.Among.{Among}
use Rattle.vd_laws.specs.Runs.{IsAddressed, IsWhole}
use Rattle.vd_ring_laws.specs.Calm.{IsDescribed}
use Rattle.vd_ring_laws.specs.Heads.{placed_heads, pushed_heads}
use Rattle.vd_laws.proofs.Legal.{Legal}
use Rattle.vd_laws.proofs.Sound.{sound}
use Rattle.vd_ring_laws.proofs.Fair.{Fair}
use Rattle.vd_ring_bytes.proofs.Numbers.{same_number}
use Rattle.vd_ring_bytes.proofs.RingLayout.{available_event_plain}
use Rattle.vd_ring_bytes.proofs.RequestSource.{given_still}
use Rattle.vd_ring_bytes.proofs.RingMemory.{Spares, course_of, holds_still}
use Rattle.vd_ring_turns.proofs.CalmRings.{IsPlaced, IsNext, HasRing, Calms}
use Rattle.vd_ring_turns.proofs.RingSpares.{turn_calms}
use Rattle.vd_ring_turns.proofs.EventFields.{aside_calms, available_event_within, available_event_elsewhere, available_event_misses}
use Rattle.vd_ring_bytes.proofs.ChainTraces.{head_inside, traced}
use Rattle.vd_ring_bytes.proofs.HandReads.{given_by}
use Rattle.vd_ring_turns.proofs.Positions.{IsFirst, first_is, fetched_is, found_more, slot_now, next_chain}

-- ---- what a fetch has read when it is answered

none_is : {X : Type 0} (o : Option X) → is_some o ≡ false → o ≡ None
none_is None e = refl
none_is (Some y) e = cc

busy_not : (a b c : Bool) → a || not b || c ≡ false → b ≡ true
busy_not true b c e = cc
busy_not false true c e = refl
busy_not false false c e = cc

module _ (P : List Act → Type 0) (nothing : P []) where
  read_with : {X : Type 0} (r : Result X ℕ) (turn : X → Turn Act) → ((y : X) → r ≡ Ok y → P (turn y).acts) → P (read_or r turn).acts
  read_with (Ok y) turn h = h y refl
  read_with (Err at) turn h = nothing

  chain_with : (e : Ending) (turn : Chain → Turn Act) → ((chain : Chain) → e ≡ whole chain → P (turn chain).acts) → P (chain_or e turn).acts
  chain_with (whole chain) turn h = h chain refl
  chain_with (faulty fault) turn h = nothing
  chain_with (missing at) turn h = nothing

  pub refuse_with : (test : Bool) (errno : _) (turn : Turn Act) → (test ≡ false → P turn.acts) → P (refuse (refusal_if test errno) turn).acts
  refuse_with true errno turn h = nothing
  refuse_with false errno turn h = h refl

  pub either_with : (b : Bool) (turn other : Turn Act) → P turn.acts → P other.acts → P (if b then turn else other).acts
  either_with true turn other h k = h
  either_with false turn other h k = k

  module _ (x : Setting) (made : Creation) (done : List Act) (q : ℕ)
      (leaf : in_hand done q ≡ None → is_ready (state_acts done) q ≡ true → (used : ℕ) → first_used x done q ≡ Ok used
      → (found : ℕ) → number16 (daemon_memory x done) (available_index_at (queue_place done q)) ≡ Ok found → (found == index_after (fetches done q) used) ≡ false
      → (head : ℕ) → number16 (daemon_memory x done) (available_slot_at (queue_place done q) (index_after (fetches done q) used)) ≡ Ok head
      → (chain : Chain) → ending_of (trace_start (queue_place done q) head (has_indirect done)) (daemon_memory x done) ≡ whole chain
      → P (event_puts done (queue_place done q) (next16 (index_after (fetches done q) used)) ++ Queue (Fetched q) ∷ [])) where
    pub fetch_with : P (fetch_turn x made done q).acts
    fetch_with =
        refuse_with (is_idle made done q) Inval _ (λ e.
        refuse_with (is_some (in_hand done q)) Busy _ (λ f.
        read_with (first_used x done q) _ (λ used g.
        let place = queue_place done q in
        let position = index_after (fetches done q) used in
        read_with (number16 (daemon_memory x done) (available_index_at place)) _ (λ found i.
        either_with (nat_lt place.size (minus16 found position)) (record { answer = answer.Ahead found position; acts = [] }) (refuse (refusal_if (found == position) Again) (fetch_at x done q place position)) nothing
        (refuse_with (found == position) Again (fetch_at x done q place position) (λ j.
        read_with (number16 (daemon_memory x done) (available_slot_at place position)) _ (λ head k.
        chain_with (ending_of (trace_start place head (has_indirect done)) (daemon_memory x done)) _ (λ chain l.
        let last = leaf (none_is (in_hand done q) f) (busy_not (is_missing made q) (is_ready (state_acts done) q) (place.size == 0) e) used g found i j head k chain l in
        either_with (nat_lt chain.readable 16 || (chain.writable == 0)) _ _ nothing
        (read_with (readable_bytes (daemon_memory x done) chain.parts) _ (λ bytes m.
        either_with (has_event_idx done) (read_or (read (daemon_memory x done) (available_event_at place) 2) (λ more. fetched_turn done q place position chain bytes)) (fetched_turn done q place position chain bytes)
        (read_with (read (daemon_memory x done) (available_event_at place) 2) (λ more. fetched_turn done q place position chain bytes) (λ more n. last)) last))))))))))

-- ---- the request in hand

module _ (x : Setting) (done : List Act) (q : ℕ) where
  hand_is : (used head : ℕ) (chain : Chain) → first_used x done q ≡ Ok used → number16 (daemon_memory x done) (available_slot_at (queue_place done q) (index_after (fetches done q) used)) ≡ Ok head
      → ending_of (trace_start (queue_place done q) head (has_indirect done)) (daemon_memory x done) ≡ whole chain → ((hand x done q).head ≡ chain.head) × ((hand x done q).parts ≡ chain.parts) × ((hand x done q).writable ≡ chain.writable) × ((hand x done q).bytes ≡ bytes_or (readable_bytes (daemon_memory x done) chain.parts))
  hand_is used head chain e f g =
      let at : hand_position x done q ≡ index_after (fetches done q) used = rw e refl in
      let its : hand_head x done q ≡ head = rw (at, f) refl in
      (rw (its, g) refl, rw (its, g) refl, rw (its, g) refl, rw (its, g) refl)

-- ---- a fetch in a calm ring

module _ (x : Setting) (small : IsAddressed x) (full : IsWhole x) (n : ℕ) (done : List Act) (legal : Legal x done) (fair : Fair done) (c : Calms x n done) where
  module _ (q : ℕ) (ring : Ring) (there : ring_of done q ≡ Some ring) (same : queue_place done q ≡ ring.place) where
    has : HasRing x done q ring
    has = c.rings q ring there

    quiet_spares : (j : ℕ) (r : Ring) → Spares x (Queue (Fetched q) ∷ []) done r.place (chains_out done j)
    quiet_spares j r = record {
      table = λ a lo hi. (tt, tt);
      driver = λ a lo hi. (tt, tt);
      device = λ a lo hi. (tt, tt);
      alive = λ b i m l o. l;
      tables = λ b i m l o a here. (tt, tt);
      regions = λ r i. i;
    }

    module _ (none : in_hand done q ≡ None) (used found head : ℕ) (chain : Chain) (e : first_used x done q ≡ Ok used)
        (f : number16 (daemon_memory x done) (available_index_at (queue_place done q)) ≡ Ok found) (other : (found == index_after (fetches done q) used) ≡ false)
        (g : number16 (daemon_memory x done) (available_slot_at (queue_place done q) (index_after (fetches done q) used)) ≡ Ok head)
        (k : ending_of (trace_start (queue_place done q) head (has_indirect done)) (daemon_memory x done) ≡ whole chain) where
      first : IsFirst x done q
      first = first_is x small done fair q ring has same

      at_pushed : index_after (fetches done q) used ≡ length (pushed_heads x done q) % 65536
      at_pushed =
          let both : Ok used ≡ Ok first.from = sym e ∙ first.is in
          let is : used ≡ first.from = cc in
          ap (λ m. index_after m used) (fetched_is x small done fair q ring has same none) ∙ (ap (index_after (finishes done q)) is ∙ first.finished)

      more : length (pushed_heads x done q) < length (placed_heads done q)
      more = found_more x small done fair q ring has same found (index_after (fetches done q) used) f at_pushed other

      next : (a : AddedChain) × Among a (chains_out done q) × (get_or (placed_heads done q) (length (pushed_heads x done q)) 0 ≡ a.head)
      next = next_chain x small done fair q ring has same more

      its_chain : chain ≡ chain_of next.0.head (has.holds.chains next.0 next.1).parts
      its_chain =
          let h = has.holds.chains next.0 next.1 in
          let s = sound x done legal in
          let inside = head_inside x small full done s ring.place has.holds.laid has.holds.held next.0 h in
          let size = has.holds.laid.small in
          let low : next.0.head < 65536 = omega arith in
          let both : Ok head ≡ Ok (get_or (placed_heads done q) (length (pushed_heads x done q)) 0 % 65536) = sym g ∙ slot_now x small done fair q ring has same (index_after (fetches done q) used) at_pushed more in
          let found_head : head ≡ get_or (placed_heads done q) (length (pushed_heads x done q)) 0 % 65536 = cc in
          let is : head ≡ next.0.head = found_head ∙ (ap (λ m. m % 65536) next.2 ∙ mod-eq_of_lt low) in
          traced x small full done s ring.place has.holds.laid has.holds.held next.0 h (has_indirect done) chain
          (subst (λ r. ending_of (trace_start r next.0.head (has_indirect done)) (daemon_memory x done) ≡ whole chain) same
          (subst (λ m. ending_of (trace_start (queue_place done q) m (has_indirect done)) (daemon_memory x done) ≡ whole chain) is k))

      its_hand : (earlier : List Act) → in_hand (Queue (Fetched q) ∷ done) q ≡ Some earlier → IsNext x (Queue (Fetched q) ∷ done) q earlier
      its_hand earlier i =
          let now : Some done ≡ Some earlier = sym (ap (λ b. cond b (Some done) (in_hand done q)) (same_number q)) ∙ i in
          let is : done ≡ earlier = cc in
          let its_hand_is = hand_is x done q used head chain e g k in
          let h = has.holds.chains next.0 next.1 in
          subst (IsNext x (Queue (Fetched q) ∷ done) q) is (record {
            chain = next.0;
            there = next.1;
            head = its_hand_is.0 ∙ ap (λ c. c.head) its_chain;
            more = more;
            next = next.2;
            parts = λ p j w. (
                let in_chain : Among p h.parts = subst (Among p) (its_hand_is.1 ∙ ap (λ c. c.parts) its_chain) j in
                let m = h.mapped p in_chain in
                (m.0, h.alive m.0 m.1, h.in_request m.0 m.1, m.2));
            given = given_still x (Queue (Fetched q) ∷ []) done next.0 (hand x done q) (λ m i o. i)
                (given_by x full done (sound x done legal) ring.place next.0 h chain its_chain (hand x done q) its_hand_is.1 its_hand_is.2 its_hand_is.3);
          })

      its_position : (earlier : List Act) → before_first (Queue (Fetched q) ∷ done) q ≡ Some earlier → IsPlaced x (Queue (Fetched q) ∷ done) q earlier
      its_position earlier i = by (before_first done q) refl (sym (ap (λ b. cond b (cond (is_some (before_first done q)) (before_first done q) (Some done)) (before_first done q)) (same_number q)) ∙ i) where
        by : (o : Option (List Act)) → before_first done q ≡ o → cond (is_some o) o (Some done) ≡ Some earlier → IsPlaced x (Queue (Fetched q) ∷ done) q earlier
        by None j l =
            let is : done ≡ earlier = cc in
            let both : Ok used ≡ Ok first.from = sym e ∙ first.is in
            let same_used : used ≡ first.from = cc in
            subst (IsPlaced x (Queue (Fetched q) ∷ done) q) is (record {
              from = used;
              loaded = sym (ap (λ o. option_map_or (λ earlier. number16 (daemon_memory x earlier) (used_index_at (queue_place earlier q))) o (number16 (daemon_memory x done) (used_index_at (queue_place done q)))) j) ∙ e;
              moved = ap (λ k. k % 65536) (let z : finishes done q + used ≡ used + finishes done q = omega arith in z) ∙ (ap (λ u. index_after (finishes done q) u) same_used ∙ first.finished);
            })
        by (Some a) j l =
            let is : a ≡ earlier = cc in
            let p = has.position a j in
            subst (IsPlaced x (Queue (Fetched q) ∷ done) q) is (record { from = p.from; loaded = p.loaded; moved = p.moved })

      fetched_ring : (other : Ring) → ring_of done q ≡ Some other → HasRing x (Queue (Fetched q) ∷ done) q other
      fetched_ring other i =
          let both : Some ring ≡ Some other = sym there ∙ i in
          let is : ring ≡ other = cc in
          subst (HasRing x (Queue (Fetched q) ∷ done) q) is (record {
            holds = holds_still x small full (Queue (Fetched q) ∷ []) done (tt, legal) ring.place (course_of x done q) (quiet_spares q ring) has.holds;
            published = has.published;
            counted = has.counted;
            have = has.have;
            position = its_position;
            inhand = its_hand;
          })

      fetched_calms : Calms x n (Queue (Fetched q) ∷ done)
      fetched_calms = turn_calms x small full n (Queue (Fetched q) ∷ []) done (tt, legal) q (λ j other. (ne_eqb q j (λ z. other (sym z)), tt)) refl (λ j r other i. quiet_spares j r) fetched_ring (λ a i. inl i) c

      -- then the put of the event
      after_event : (position : ℕ) → Legal x (event_puts done (queue_place done q) position ++ Queue (Fetched q) ∷ done) → Calms x n (event_puts done (queue_place done q) position ++ Queue (Fetched q) ∷ done)
      after_event position l =
          let at : available_event_at (queue_place done q) ≡ ring.place.device + (4 + 8 * ring.place.size) = ap available_event_at same ∙ available_event_plain x small ring.place has.holds.laid in
          aside_calms x small full n (event_puts done (queue_place done q) position) (Queue (Fetched q) ∷ done) l q ring there
          (available_event_within x ring.place has.holds.laid position (has_event_idx done) (available_event_at (queue_place done q)) at)
          (available_event_elsewhere x ring.place has.holds.laid position (has_event_idx done) (available_event_at (queue_place done q)))
          (available_event_misses x ring.place has.holds.laid position (has_event_idx done) (available_event_at (queue_place done q)) at)
          fetched_calms

  -- a fetch on any queue, each ready one being described to the device as its ring is
  pub fetch_calms : (made : Creation) (q : ℕ) → (is_ready (state_acts done) q ≡ true → IsDescribed done q) → Legal x ((fetch_turn x made done q).acts ++ done) → Calms x n ((fetch_turn x made done q).acts ++ done)
  fetch_calms made q described = fetch_with (λ acts. Legal x (acts ++ done) → Calms x n (acts ++ done)) (λ l. c) x made done q
      (λ none ready used e found f other head g chain k l.
      let d = described ready in
      let position = next16 (index_after (fetches done q) used) in
      let front = append_assoc (event_puts done (queue_place done q) position) (Queue (Fetched q) ∷ []) done in
      subst (Calms x n) (sym front) (after_event q d.ring d.there d.same none used found head chain e f other g k position (subst (Legal x) front l)))
