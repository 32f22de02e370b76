-- A poll reclaims the first of the pushed heads that isn't reclaimed.
use Rattle.std.proofs.Common.{◌≡◌, ℕ, zero, suc, ◌+◌, ◌*◌, ◌%◌, ◌^◌, ◌==◌, ◌<◌, ◌≤◌, Bool, true, false, refl, ap, subst, ◌∙◌, sym, arith, cond, Option, None, Some, List, [], ◌∷◌, ◌++◌, length, get_or, drop, not, nat_lt, find, filter, append_assoc, eqb-true, true≢false, ◌⊎◌, inl, inr}
use Rattle.std.specs.Option.{option_map_or}
use Rattle.std.proofs.lemmas.Bool.{ne_eqb, ltb-true, ltb-false}
use Rattle.std.proofs.lemmas.List.{length-append}
use Rattle.byteorder.specs.Numbers.{little_number-reads_back}
use Rattle.vd_num.specs.Field.{field_at}
use Rattle.vd_num.specs.declared.errno.Errno.TheVariants.{Again, Inval, Noent}
use Rattle.vd_model.specs.declared.answer.Answer.TheVariants as answer
use Rattle.vd_model.specs.declared.queue.RingPlace.{RingPlace}
use Rattle.vd_model.specs.Setting.{Setting}
use Rattle.vd_model.specs.Creation.{Creation}
use Rattle.vd_model.specs.Acts.{Act, Driver, Queue, AddedChain, Request, Streaming, Freed, Unmapped, Chain_reclaimed}
use Rattle.vd_model.specs.Live.{live_mappings}
use Rattle.vd_model.specs.Queues.{Ring, ring_of, chains_out, published_chains_out, reclaimed_count, published_count, is_other_chain}
use Rattle.vd_model.specs.Rings.{minus16, used_index_at, used_element_at, used_event_at}
use Rattle.vd_model.specs.Raw.{little_bytes}
use Rattle.vd_model.specs.Puts.{shown_put, bus_bytes}
use Rattle.vd_model.specs.Turn.{refusal_turn}
use Rattle.vd_model.specs.BusTurns.{is_missing}
use Rattle.vd_model.specs.DaemonTurns.{has_event_idx, hand}
use Rattle.vd_model.specs.RingTurns.{unmap_act, unmap_acts, free_acts, request_end_acts, number_at, used_event_puts, completed_turn, reclaimed_turn, polled_turn, poll_turn}
use Rattle.vd_laws.specs.Among.{Among}
use Rattle.vd_laws.specs.Runs.{IsAddressed, IsWhole}
use Rattle.vd_ring_laws.specs.Heads.{placed_heads, pushed_heads}
use Rattle.vd_laws.proofs.Lists.{found, found_passes, filtered, filter_in}
use Rattle.vd_laws.proofs.Legal.{maps_of, Legal}
use Rattle.vd_laws.proofs.Sound.{earlier_legal}
use Rattle.vd_laws.proofs.Chains.{chained}
use Rattle.vd_ring_laws.specs.ChainLaw.{AreDistinct, heads}
use Rattle.vd_ring_laws.proofs.Fair.{Fair, mild_fair}
use Rattle.vd_ring_laws.proofs.Mild.{drivers_are_mild}
use Rattle.vd_ring_laws.proofs.Drivers.{used_event_driver}
use Rattle.vd_ring_laws.proofs.Outs.{apart_after}
use Rattle.vd_ring_laws.proofs.Distincts.{head_among, among_head}
use Rattle.vd_ring_bytes.proofs.Numbers.{same_number, same_or_not, among_drop}
use Rattle.vd_ring_bytes.proofs.StandingBytes.{driver_number, each_is}
use Rattle.vd_ring_bytes.proofs.RingLayout.{used_plain, element_plain, used_event_plain}
use Rattle.vd_ring_bytes.proofs.RequestSource.{given_still}
use Rattle.vd_ring_bytes.proofs.RingMemory.{Holds, course_of, element_at, holds_still}
use Rattle.vd_ring_bytes.proofs.SameRing.{AreElsewhere, Same, same_by, rings_made}
use Rattle.vd_ring_turns.proofs.CalmRings.{IsNext, HasRing, Calms, still_calms}
use Rattle.vd_ring_turns.proofs.RingSpares.{turn_calms}
use Rattle.vd_ring_turns.proofs.EventFields.{aside_calms, used_event_within, used_event_elsewhere, used_event_misses}
use Rattle.vd_ring_turns.proofs.Fetches.{refuse_with, either_with}

-- ---- lists of chains

-- two chains of one head are one
pub one_head : (chains : List AddedChain) (c d : AddedChain) → AreDistinct (heads chains) → Among c chains → Among d chains → c.head ≡ d.head → c ≡ d
one_head [] c d distinct i j e = absurd i
one_head (a ∷ chains) c d distinct (inl f) (inl g) e = f ∙ sym g
one_head (a ∷ chains) c d distinct (inl f) (inr j) e = absurd (distinct.0 (subst (λ k. Among k (heads chains)) (sym e ∙ ap (λ c. c.head) f) (head_among d chains j)))
one_head (a ∷ chains) c d distinct (inr i) (inl g) e = absurd (distinct.0 (subst (λ k. Among k (heads chains)) (e ∙ ap (λ c. c.head) g) (head_among c chains i)))
one_head (a ∷ chains) c d distinct (inr i) (inr j) e = one_head chains c d distinct.1 i j e

drop_first : (n : ℕ) (ns : List ℕ) → n < length ns → drop n ns ≡ get_or ns n 0 ∷ drop (n + 1) ns
drop_first zero [] h = absurd (omega arith)
drop_first zero (k ∷ ns) h = refl
drop_first (suc n) [] h = absurd (omega arith)
drop_first (suc n) (k ∷ ns) h = drop_first n ns (omega arith) ∙ ap (λ m. get_or ns n 0 ∷ drop m (k ∷ ns)) (let e : suc (n + 1) ≡ suc n + 1 = omega arith in e)

-- without the first head, the heads are the other ones
others : (n : ℕ) (chains : List AddedChain) → (Among n (heads chains) → ⊥) → filter (is_other_chain n) chains ≡ chains
others n [] h = refl
others n (c ∷ chains) h =
    ap (λ b. cond (not b) (c ∷ filter (is_other_chain n) chains) (filter (is_other_chain n) chains)) (ne_eqb c.head n (λ e. h (inl (sym e)))) ∙ ap (λ l. c ∷ l) (others n chains (λ i. h (inr i)))

tail_heads : (n : ℕ) (ns : List ℕ) (chains : List AddedChain) → AreDistinct (heads chains) → heads chains ≡ n ∷ ns → heads (filter (is_other_chain n) chains) ≡ ns
tail_heads n ns [] d e = cc
tail_heads n ns (c ∷ chains) d e =
    let at : c.head ≡ n = cc in
    let rest : heads chains ≡ ns = cc in
    ap (λ b. heads (cond (not b) (c ∷ filter (is_other_chain n) chains) (filter (is_other_chain n) chains))) (subst (λ k. (c.head == k) ≡ true) at (same_number c.head))
    ∙ (ap heads (others n chains (subst (λ k. Among k (heads chains) → ⊥) at d.0)) ∙ rest)

-- ---- what a poll has read when it reports a chain

abbrev pub element_id : Setting → List Act → ℕ → RingPlace → ℕ
element_id x done q r = field_at 4 (bus_bytes x.per_page done (used_element_at r (reclaimed_count done q)) 8) 0

abbrev pub element_len : Setting → List Act → ℕ → RingPlace → ℕ
element_len x done q r = field_at 4 (bus_bytes x.per_page done (used_element_at r (reclaimed_count done q)) 8) 4

module _ (P : List Act → Type 0) (nothing : P []) (x : Setting) (made : Creation) (done : List Act) (q : ℕ)
    (leaf : (ring : Ring) → ring_of done q ≡ Some ring → (number_at x done (used_index_at ring.place) == reclaimed_count done q % 65536) ≡ false
    → (chain : AddedChain) → find (λ c. c.head == element_id x done q ring.place) (published_chains_out done q) ≡ Some chain
    → P (completed_turn x done (Queue (Chain_reclaimed q chain.head) ∷ used_event_puts done ring.place (reclaimed_count done q + 1)) chain (element_len x done q ring.place)).acts) where
  ring_with : (o : Option Ring) → ring_of done q ≡ o → P (option_map_or (λ ring. polled_turn x done q ring.place (number_at x done (used_index_at ring.place))) o (refusal_turn Noent)).acts
  ring_with None e = nothing
  ring_with (Some ring) e =
      let used = number_at x done (used_index_at ring.place) in
      refuse_with P nothing (used == reclaimed_count done q % 65536) Again _ (λ f.
      either_with P nothing (nat_lt (length (published_chains_out done q)) (minus16 used (reclaimed_count done q % 65536))) (record { answer = answer.UsedAhead used (published_count done q % 65536); acts = [] })
      (reclaimed_turn x done q ring.place (element_id x done q ring.place) (element_len x done q ring.place)) nothing
      (by (find (λ c. c.head == element_id x done q ring.place) (published_chains_out done q)) refl f)) where
        by : (o : Option AddedChain) → find (λ c. c.head == element_id x done q ring.place) (published_chains_out done q) ≡ o → (number_at x done (used_index_at ring.place) == reclaimed_count done q % 65536) ≡ false
            → P (option_map_or (λ chain. completed_turn x done (Queue (Chain_reclaimed q chain.head) ∷ used_event_puts done ring.place (reclaimed_count done q + 1)) chain (element_len x done q ring.place)) o (record { answer = answer.BadId (element_id x done q ring.place); acts = [] })).acts
        by None g f = nothing
        by (Some chain) g f = leaf ring e f chain g

  pub poll_with : P (poll_turn x made done q).acts
  poll_with = refuse_with P nothing (is_missing made q) Inval _ (λ e. ring_with (ring_of done q) refl)

-- ---- the chain is reclaimed

module _ (x : Setting) (small : IsAddressed x) (full : IsWhole x) (n : ℕ) (acts : List Act) (legal : Legal x acts) (fair : Fair acts) (c : Calms x n acts) (q : ℕ) (ring : Ring) (there : ring_of acts q ≡ Some ring)
    (chain : AddedChain) (is_out : Among chain (chains_out acts q)) (more : reclaimed_count acts q < length (pushed_heads x acts q)) (first : chain.head ≡ get_or (placed_heads acts q) (reclaimed_count acts q) 0) where
  abbrev new : List Act
  new = Queue (Chain_reclaimed q chain.head) ∷ []

  has : HasRing x acts q ring
  has = c.rings q ring there

  placed_all : length (pushed_heads x acts q) ≤ length (placed_heads acts q)
  placed_all = let e = ap length has.holds.first in let l : length (pushed_heads x acts q ++ has.holds.rest) ≡ length (pushed_heads x acts q) + length has.holds.rest = length-append (pushed_heads x acts q) has.holds.rest in omega arith

  heads_are : heads (chains_out acts q) ≡ chain.head ∷ drop (reclaimed_count acts q + 1) (placed_heads acts q)
  heads_are = has.holds.outs ∙ (drop_first (reclaimed_count acts q) (placed_heads acts q) (let l = placed_all in omega arith) ∙ ap (λ h. h ∷ drop (reclaimed_count acts q + 1) (placed_heads acts q)) (sym first))

  distinct : AreDistinct (heads (chains_out acts q))
  distinct = (apart_after acts q ring fair has.have there).distinct

  others_distinct : Among chain.head (drop (reclaimed_count acts q + 1) (placed_heads acts q)) → ⊥
  others_distinct = (subst AreDistinct heads_are distinct).0

  out_now : chains_out (new ++ acts) q ≡ filter (is_other_chain chain.head) (chains_out acts q)
  out_now = ap (λ b. cond b (filter (is_other_chain chain.head) (chains_out acts q)) (chains_out acts q)) (same_number q)

  reclaimed_now : reclaimed_count (new ++ acts) q ≡ reclaimed_count acts q + 1
  reclaimed_now = ap (λ b. cond b (reclaimed_count acts q + 1) (reclaimed_count acts q)) (same_number q)

  published_now : published_chains_out (new ++ acts) q ≡ filter (is_other_chain chain.head) (chains_out acts q)
  published_now = ap (λ b. cond b (filter (is_other_chain chain.head) (published_chains_out acts q)) (published_chains_out acts q)) (same_number q) ∙ ap (filter (is_other_chain chain.head)) has.published

  was_out : (a : AddedChain) → Among a (chains_out (new ++ acts) q) → Among a (chains_out acts q)
  was_out a i = (filtered (is_other_chain chain.head) a (chains_out acts q) (subst (Among a) out_now i)).0

  holds_now : Holds x (new ++ acts) ring.place (record { queue = q; made = rings_made acts q; placed = placed_heads acts q; pushed = pushed_heads x acts q; out = filter (is_other_chain chain.head) (chains_out acts q); reclaimed = reclaimed_count acts q + 1 })
  holds_now =
      let h = holds_still x small full new acts (tt, legal) ring.place (course_of x acts q) (record {
        table = λ a lo hi. (tt, tt);
        driver = λ a lo hi. (tt, tt);
        device = λ a lo hi. (tt, tt);
        alive = λ b i m l o. l;
        tables = λ b i m l o a here. (tt, tt);
        regions = λ r i. i;
      }) has.holds in
      record {
        laid = h.laid;
        held = h.held;
        rest = h.rest;
        first = h.first;
        back = omega arith;
        outs = tail_heads chain.head (drop (reclaimed_count acts q + 1) (placed_heads acts q)) (chains_out acts q) distinct heads_are;
        index = h.index;
        used = h.used;
        slots = h.slots;
        elements = λ k from to. h.elements k (let l : reclaimed_count acts q + 1 ≤ k = from in let g : reclaimed_count acts q ≤ k = omega arith in g) to;
        chains = λ a i. h.chains a (filtered (is_other_chain chain.head) a (chains_out acts q) i).0;
        answers = λ k from to a i e. h.answers k (let l : reclaimed_count acts q + 1 ≤ k = from in let g : reclaimed_count acts q ≤ k = omega arith in g) to a (filtered (is_other_chain chain.head) a (chains_out acts q) i).0 e;
      }

  hand_now : (earlier : List Act) → IsNext x acts q earlier → IsNext x (new ++ acts) q earlier
  hand_now earlier p = record {
    chain = p.chain;
    there = subst (Among p.chain) (sym out_now) (filter_in (is_other_chain chain.head) p.chain (chains_out acts q) p.there (ap not (ne_eqb p.chain.head chain.head (λ e. others_distinct (subst (λ k. Among k (drop (reclaimed_count acts q + 1) (placed_heads acts q))) (p.next ∙ e) (among_drop (reclaimed_count acts q + 1) (length (pushed_heads x acts q)) (placed_heads acts q) (omega arith) p.more))))));
    head = p.head;
    more = p.more;
    next = p.next;
    parts = p.parts;
    given = given_still x new acts p.chain (hand x earlier q) (λ m i o. i) p.given;
  }

  ring_now : HasRing x (new ++ acts) q ring
  ring_now = record {
    holds = subst (λ o. Holds x (new ++ acts) ring.place (record { queue = q; made = rings_made acts q; placed = placed_heads acts q; pushed = pushed_heads x acts q; out = o; reclaimed = reclaimed_count (new ++ acts) q })) (sym out_now)
        (subst (λ k. Holds x (new ++ acts) ring.place (record { queue = q; made = rings_made acts q; placed = placed_heads acts q; pushed = pushed_heads x acts q; out = filter (is_other_chain chain.head) (chains_out acts q); reclaimed = k })) (sym reclaimed_now) holds_now);
    published = published_now ∙ sym out_now;
    counted = has.counted;
    have = has.have;
    position = λ a e. (let p = has.position a e in record { from = p.from; loaded = p.loaded; moved = p.moved });
    inhand = λ a e. hand_now a (has.inhand a e);
  }

  reclaimed_calms : Calms x n (new ++ acts)
  reclaimed_calms = turn_calms x small full n new acts (tt, legal) q (λ j other. (ne_eqb q j (λ z. other (sym z)), tt)) refl
      (λ j s other e. record {
        table = λ a lo hi. (tt, tt);
        driver = λ a lo hi. (tt, tt);
        device = λ a lo hi. (tt, tt);
        alive = λ b i m l o. l;
        tables = λ b i m l o a here. (tt, tt);
        regions = λ r i. i;
      })
      (λ s e. (let both : Some ring ≡ Some s = sym there ∙ e in let is : ring ≡ s = cc in subst (HasRing x (new ++ acts) q) is ring_now))
      (λ a i. inl (was_out a i)) c

  -- no chain that is still out has a mapping of the one that was reclaimed
  none_has : (k : ℕ) (a : AddedChain) → Among a (chains_out (new ++ acts) k) → (m : ℕ) → Among m (maps_of chain.request) → Among m (maps_of a.request) → ⊥
  none_has k a i m mc ma = by (same_or_not k q) where
    by : (k ≡ q) ⊎ (k ≡ q → ⊥) → ⊥
    by (inl is) =
        let f = filtered (is_other_chain chain.head) a (chains_out acts q) (subst (Among a) out_now (subst (λ j. Among a (chains_out (new ++ acts) j)) is i)) in
        let same_chain : a ≡ chain = ((chained x acts legal).own q).once a chain f.0 is_out m ma mc in
        let same : (a.head == chain.head) ≡ true = subst (λ h. (a.head == h) ≡ true) (ap (λ c. c.head) same_chain) (same_number a.head) in
        true≢false (sym f.1 ∙ ap not same)
    by (inr other) = c.alone k q other a chain (subst (Among a) (same_by x k new acts (ne_eqb q k (λ z. other (sym z)), tt)).out i) is_out m ma mc

-- ---- its mappings end

abbrev NoneHas : List Act → List ℕ → Type 0
NoneHas acts ms = (k : ℕ) (a : AddedChain) → Among a (chains_out acts k) → (m : ℕ) → Among m ms → Among m (maps_of a.request) → ⊥

module _ (x : Setting) (small : IsAddressed x) (full : IsWhole x) (n : ℕ) (mappings : List Streaming) where
  unmap_calms : (number : ℕ) (acts : List Act) → NoneHas acts (number ∷ []) → Legal x (unmap_act mappings number ++ acts) → Calms x n acts → Calms x n (unmap_act mappings number ++ acts) × ((k : ℕ) → chains_out (unmap_act mappings number ++ acts) k ≡ chains_out acts k)
  unmap_calms number acts none legal c = by (find (λ m. m.number == number) mappings) refl legal where
    by : (o : Option Streaming) → find (λ m. m.number == number) mappings ≡ o → Legal x (option_map_or (λ m. Driver (Unmapped m) ∷ []) o [] ++ acts)
        → Calms x n (option_map_or (λ m. Driver (Unmapped m) ∷ []) o [] ++ acts) × ((k : ℕ) → chains_out (option_map_or (λ m. Driver (Unmapped m) ∷ []) o [] ++ acts) k ≡ chains_out acts k)
    by None e l = (c, λ k. refl)
    by (Some m) e l =
        let at : m.number ≡ number = eqb-true m.number number (found_passes (λ m. m.number == number) m mappings e) in
        (still_calms x small full n (Driver (Unmapped m)) acts l (λ k r t a i j. none k a i m.number (inl at) j) c, λ k. refl)

  unmaps_calms : (numbers : List ℕ) (acts : List Act) → NoneHas acts numbers → Legal x (unmap_acts mappings numbers ++ acts) → Calms x n acts → Calms x n (unmap_acts mappings numbers ++ acts)
  unmaps_calms [] acts none legal c = c
  unmaps_calms (m ∷ ms) acts none legal c =
      let front = append_assoc (unmap_acts mappings ms) (unmap_act mappings m) acts in
      let moved = subst (Legal x) front legal in
      let last_calms = unmap_calms m acts (λ k a i j l. none k a i j (by j m ms l)) (earlier_legal x (unmap_acts mappings ms) (unmap_act mappings m ++ acts) moved) c in
      subst (Calms x n) (sym front) (unmaps_calms ms (unmap_act mappings m ++ acts) (λ k a i j l. none k a (subst (Among a) (last_calms.1 k) i) j (inr l)) moved last_calms.0) where
        by : (j m : ℕ) (ms : List ℕ) → Among j (m ∷ []) → Among j (m ∷ ms)
        by j m ms (inl e) = inl e
        by j m ms (inr e) = absurd e

frees_calms : (x : Setting) → IsAddressed x → IsWhole x → (n buffer count : ℕ) (acts : List Act) → Legal x (free_acts buffer count ++ acts) → Calms x n acts → Calms x n (free_acts buffer count ++ acts)
frees_calms x small full n buffer zero acts legal c = c
frees_calms x small full n buffer (suc count) acts legal c =
    still_calms x small full n (Driver (Freed (buffer + count))) (free_acts buffer count ++ acts) legal tt (frees_calms x small full n buffer count acts legal.1 c)

-- ---- the whole

id_back : (head len : ℕ) → head < 256 ^ 4 → field_at 4 (little_bytes 4 head ++ little_bytes 4 len) 0 ≡ head
id_back head len low = little_number-reads_back 4 head (little_bytes 4 len) low

module _ (x : Setting) (small : IsAddressed x) (full : IsWhole x) (n : ℕ) (done : List Act) (legal : Legal x done) (fair : Fair done) (c : Calms x n done) (q : ℕ) where
  module _ (ring : Ring) (there : ring_of done q ≡ Some ring) (new_used : (number_at x done (used_index_at ring.place) == reclaimed_count done q % 65536) ≡ false)
      (chain : AddedChain) (is_found : find (λ c. c.head == element_id x done q ring.place) (published_chains_out done q) ≡ Some chain) where
    its_ring : HasRing x done q ring
    its_ring = c.rings q ring there

    pub is_more : reclaimed_count done q < length (pushed_heads x done q)
    is_more =
        let used : number_at x done (used_index_at ring.place) ≡ length (pushed_heads x done q) % 65536 =
        ap (number_at x done) (used_plain x small ring.place its_ring.holds.laid) ∙ driver_number x done (ring.place.device + 2) (length (pushed_heads x done q)) its_ring.holds.used in
        let back = its_ring.holds.back in
        by used (nat_lt (reclaimed_count done q) (length (pushed_heads x done q))) refl where
          by : number_at x done (used_index_at ring.place) ≡ length (pushed_heads x done q) % 65536 → (b : Bool) → nat_lt (reclaimed_count done q) (length (pushed_heads x done q)) ≡ b → reclaimed_count done q < length (pushed_heads x done q)
          by used true e = ltb-true (reclaimed_count done q) (length (pushed_heads x done q)) e
          by used false e =
              let back = its_ring.holds.back in
              let l = ltb-false (reclaimed_count done q) (length (pushed_heads x done q)) e in
              let is : length (pushed_heads x done q) ≡ reclaimed_count done q = omega arith in
              let same : number_at x done (used_index_at ring.place) ≡ reclaimed_count done q % 65536 = used ∙ ap (λ k. k % 65536) is in
              absurd (true≢false (sym (subst (λ k. (number_at x done (used_index_at ring.place) == k) ≡ true) same (same_number (number_at x done (used_index_at ring.place)))) ∙ new_used))

    pub reclaims : Among chain (chains_out done q)
    reclaims = subst (Among chain) its_ring.published (found (λ c. c.head == element_id x done q ring.place) chain (published_chains_out done q) is_found)

    pub is_first : chain.head ≡ get_or (placed_heads done q) (reclaimed_count done q) 0
    is_first =
        let e = its_ring.holds.elements (reclaimed_count done q) (omega arith) is_more in
        let h = get_or (placed_heads done q) (reclaimed_count done q) 0 in
        let bytes : bus_bytes x.per_page done (used_element_at ring.place (reclaimed_count done q)) 8 ≡ little_bytes 4 h ++ little_bytes 4 e.0 =
        ap (λ a. bus_bytes x.per_page done a 8) (element_plain x small ring.place its_ring.holds.laid (reclaimed_count done q)) ∙ each_is (λ a. (shown_put x.per_page done a).byte) (little_bytes 4 h ++ little_bytes 4 e.0) (element_at ring.place (reclaimed_count done q)) e.1 in
        let low : h < ring.place.size = first_low in
        let size = its_ring.holds.laid.small in
        let id : element_id x done q ring.place ≡ h = ap (λ l. field_at 4 l 0) bytes ∙ id_back h e.0 (omega arith) in
        eqb-true chain.head (element_id x done q ring.place) (found_passes (λ c. c.head == element_id x done q ring.place) chain (published_chains_out done q) is_found) ∙ id where
          first_low : get_or (placed_heads done q) (reclaimed_count done q) 0 < ring.place.size
          first_low =
              let i : Among (get_or (placed_heads done q) (reclaimed_count done q) 0) (heads (chains_out done q)) =
              subst (Among (get_or (placed_heads done q) (reclaimed_count done q) 0)) (sym its_ring.holds.outs) (among_drop (reclaimed_count done q) (reclaimed_count done q) (placed_heads done q) (omega arith) (let e = ap length its_ring.holds.first in let l : length (pushed_heads x done q ++ its_ring.holds.rest) ≡ length (pushed_heads x done q) + length its_ring.holds.rest = length-append (pushed_heads x done q) its_ring.holds.rest in omega (arith, e, l, is_more))) in
              let a = among_head (get_or (placed_heads done q) (reclaimed_count done q) 0) (chains_out done q) i in
              subst (λ k. k < ring.place.size) (sym a.2) ((apart_after done q ring fair its_ring.have there).low a.0 a.1)

    -- the put of the event, the end of the chain, and the end of its mappings
    abbrev event : List Act
    event = used_event_puts done ring.place (reclaimed_count done q + 1)

    event_at : used_event_at ring.place ≡ ring.place.driver + (4 + 2 * ring.place.size)
    event_at = used_event_plain x small ring.place its_ring.holds.laid

    event_elsewhere : (k : ℕ) → AreElsewhere k event
    event_elsewhere = used_event_elsewhere x ring.place its_ring.holds.laid (reclaimed_count done q + 1) (has_event_idx done) (used_event_at ring.place)

    event_same : Same x (event ++ done) done q
    event_same = same_by x q event done (event_elsewhere q)

    event_calms : Legal x (event ++ done) → Calms x n (event ++ done)
    event_calms l = aside_calms x small full n event done l q ring there
        (used_event_within x ring.place its_ring.holds.laid (reclaimed_count done q + 1) (has_event_idx done) (used_event_at ring.place) event_at)
        event_elsewhere
        (used_event_misses x ring.place its_ring.holds.laid (reclaimed_count done q + 1) (has_event_idx done) (used_event_at ring.place) event_at) c

    event_fair : Fair (event ++ done)
    event_fair = mild_fair event done (drivers_are_mild event (used_event_driver done ring.place (reclaimed_count done q + 1))) fair

    ring_after : ring_of (event ++ done) q ≡ Some ring
    ring_after = event_same.ring ∙ there

    out_after : Among chain (chains_out (event ++ done) q)
    out_after = subst (Among chain) (sym event_same.out) reclaims

    more_after : reclaimed_count (event ++ done) q < length (pushed_heads x (event ++ done) q)
    more_after = subst (λ k. k < length (pushed_heads x (event ++ done) q)) (sym event_same.reclaimed) (subst (λ l. reclaimed_count done q < length l) (sym event_same.pushed) is_more)

    first_after : chain.head ≡ get_or (placed_heads (event ++ done) q) (reclaimed_count (event ++ done) q) 0
    first_after = is_first ∙ sym (ap (λ k. get_or (placed_heads (event ++ done) q) k 0) event_same.reclaimed ∙ ap (λ l. get_or l (reclaimed_count done q) 0) event_same.placed)

    reclaimed_after : Legal x (event ++ done) → Calms x n (Queue (Chain_reclaimed q chain.head) ∷ event ++ done)
    reclaimed_after l = reclaimed_calms x small full n (event ++ done) l event_fair (event_calms l) q ring ring_after chain out_after more_after first_after

    none_after : Legal x (event ++ done) → NoneHas (Queue (Chain_reclaimed q chain.head) ∷ event ++ done) (maps_of chain.request)
    none_after l = none_has x small full n (event ++ done) l event_fair (event_calms l) q ring ring_after chain out_after more_after first_after

    poll_by : (len : ℕ) (o : Option Request) → chain.request ≡ o → Legal x ((completed_turn x done (Queue (Chain_reclaimed q chain.head) ∷ event) (record { head = chain.head; descriptors = chain.descriptors; request = o }) len).acts ++ done)
        → Calms x n ((completed_turn x done (Queue (Chain_reclaimed q chain.head) ∷ event) (record { head = chain.head; descriptors = chain.descriptors; request = o }) len).acts ++ done)
    poll_by len None e l = reclaimed_after l.1
    poll_by len (Some r) e l =
        let base = Queue (Chain_reclaimed q chain.head) ∷ event ++ done in
        let first = append_assoc (request_end_acts (live_mappings done) r) (Queue (Chain_reclaimed q chain.head) ∷ event) done in
        let second = append_assoc (free_acts r.buffer r.buffers) (unmap_acts (live_mappings done) r.maps) base in
        let moved : Legal x (free_acts r.buffer r.buffers ++ (unmap_acts (live_mappings done) r.maps ++ base)) = subst (Legal x) (first ∙ second) l in
        let middle : Legal x (unmap_acts (live_mappings done) r.maps ++ base) = earlier_legal x (free_acts r.buffer r.buffers) (unmap_acts (live_mappings done) r.maps ++ base) moved in
        let last : Legal x base = earlier_legal x (unmap_acts (live_mappings done) r.maps) base middle in
        let no : NoneHas base r.maps = subst (λ o. NoneHas base (maps_of o)) e (none_after last.1) in
        subst (Calms x n) (sym (first ∙ second))
        (frees_calms x small full n r.buffer r.buffers (unmap_acts (live_mappings done) r.maps ++ base) moved (unmaps_calms x small full n (live_mappings done) r.maps base no middle (reclaimed_after last.1)))

    poll_calms_at : (len : ℕ) → Legal x ((completed_turn x done (Queue (Chain_reclaimed q chain.head) ∷ used_event_puts done ring.place (reclaimed_count done q + 1)) chain len).acts ++ done)
        → Calms x n ((completed_turn x done (Queue (Chain_reclaimed q chain.head) ∷ used_event_puts done ring.place (reclaimed_count done q + 1)) chain len).acts ++ done)
    poll_calms_at len l = poll_by len chain.request refl l

  pub poll_calms : (made : Creation) → Legal x ((poll_turn x made done q).acts ++ done) → Calms x n ((poll_turn x made done q).acts ++ done)
  poll_calms made = poll_with (λ acts. Legal x (acts ++ done) → Calms x n (acts ++ done)) (λ l. c) x made done q (λ ring there other chain is_found.
      poll_calms_at ring there other chain is_found (element_len x done q ring.place))
