-- A chain is placed on a ring, and published.
use Rattle.std.proofs.Common.{◌≡◌, ℕ, zero, suc, ◌+◌, ◌*◌, ◌%◌, ◌<◌, ◌≤◌, Bool, true, false, refl, ap, subst, ◌∙◌, sym, arith, cond, None, Some, is_some, List, [], ◌∷◌, ◌++◌, length, get_or, drop, nat_lt, ◌&&◌, append_assoc, ◌⊎◌, inl, inr}
use Rattle.std.proofs.lemmas.Bool.{ltb-true, ltb-false, ne_eqb, and_from, lt-ltb}
use Rattle.std.proofs.lemmas.List.{length-append}
use Rattle.vd_num.specs.Number.{is_within}
use Rattle.vd_model.specs.declared.queue.RingPlace.{RingPlace}
use Rattle.vd_model.specs.Setting.{Setting, bounce_size}
use Rattle.vd_model.specs.Acts.{Act, Driver, Queue, AddedChain, Driver_put, Chain_added, Chains_published}
use Rattle.vd_model.specs.Queues.{Ring, ring_of, chains_out, published_chains_out, added_count, reclaimed_count}
use Rattle.vd_model.specs.Raw.{little_bytes}
use Rattle.vd_laws.specs.Among.{Among}
use Rattle.vd_laws.specs.Runs.{IsAddressed, IsWhole}
use Rattle.vd_ring_laws.specs.Heads.{placed_heads, pushed_heads}
use Rattle.vd_laws.proofs.Lists.{pushed, push_left}
use Rattle.vd_laws.proofs.Legal.{Legal}
use Rattle.vd_laws.proofs.Sound.{sound, earlier_legal}
use Rattle.vd_laws.proofs.Ranges.{before_range, past_range}
use Rattle.vd_ring_laws.specs.ChainLaw.{heads, have_descriptors}
use Rattle.vd_ring_laws.proofs.Fair.{Fair, earlier_fair}
use Rattle.vd_ring_laws.proofs.Outs.{apart_after}
use Rattle.vd_ring_laws.proofs.Distincts.{heads_push}
use Rattle.vd_ring_bytes.specs.FirmLaw.{AllMiss}
use Rattle.vd_ring_bytes.proofs.FirmBytes.{miss_append}
use Rattle.vd_ring_bytes.proofs.StandingBytes.{Stands, stand_still, driver_stands}
use Rattle.vd_ring_bytes.proofs.RingLayout.{IsLaid, slot_low, slots_differ}
use Rattle.vd_model.specs.DaemonTurns.{hand}
use Rattle.vd_model.specs.RingTurns.{first_of}
use Rattle.vd_ring_laws.proofs.Distincts.{among_head}
use Rattle.vd_ring_bytes.proofs.Numbers.{among_drop, same_number}
use Rattle.vd_ring_bytes.proofs.RequestSource.{given_still}
use Rattle.vd_ring_bytes.proofs.RingMemory.{HasChain, Answered, Holds, slot_at, element_at, high_still, chain_still, answered_still}
use Rattle.vd_ring_bytes.proofs.SameRing.{AreElsewhere, elsewhere_append, Same, same_by, rings_made}
use Rattle.vd_ring_turns.proofs.CalmRings.{IsNext, HasRing, Calms}
use Rattle.vd_ring_turns.proofs.RingSpares.{IsOwn, turn_calms, AreWithin, within_append, within_all, within_live, within_spares, map_below}

-- ---- lists

get_left : (xs ys : List ℕ) (i : ℕ) → i < length xs → get_or (xs ++ ys) i 0 ≡ get_or xs i 0
get_left [] ys i h = absurd (omega arith)
get_left (x ∷ xs) ys zero h = refl
get_left (x ∷ xs) ys (suc i) h = get_left xs ys i (omega arith)

get_last : (xs : List ℕ) (y : ℕ) → get_or (xs ++ y ∷ []) (length xs) 0 ≡ y
get_last [] y = refl
get_last (x ∷ xs) y = get_last xs y

drop_push : (n : ℕ) (xs : List ℕ) (y : ℕ) → n ≤ length xs → drop n (xs ++ y ∷ []) ≡ drop n xs ++ y ∷ []
drop_push zero xs y h = refl
drop_push (suc n) [] y h = absurd (omega arith)
drop_push (suc n) (x ∷ xs) y h = drop_push n xs y (omega arith)

heads_count : (chains : List AddedChain) → length (heads chains) ≡ length chains
heads_count [] = refl
heads_count (c ∷ chains) = ap (λ k. suc k) (heads_count chains)

pub order : (a b : ℕ) → (a ≡ b → ⊥) → (a < b) ⊎ (b < a)
order a b other = by (nat_lt a b) (nat_lt b a) refl refl where
  by : (c d : Bool) → nat_lt a b ≡ c → nat_lt b a ≡ d → (a < b) ⊎ (b < a)
  by true d e f = inl (ltb-true a b e)
  by false true e f = inr (ltb-true b a f)
  by false false e f = let l = ltb-false a b e in let g = ltb-false b a f in absurd (other (omega arith))

-- the puts of a chain's descriptors
pub record IsTabled (r : RingPlace) (ds : List ℕ) (puts : List Act) : Type 0 where
  pub within : AreWithin r puts
  pub elsewhere : (k : ℕ) → AreElsewhere k puts
  -- they miss other descriptors, and all that is behind the table
  pub misses : (d : ℕ) → (Among d ds → ⊥) → (i : ℕ) → i < 16 → AllMiss puts (r.desc + 16 * d + i)
  pub above : (a : ℕ) → r.desc + 16 * r.size ≤ a → AllMiss puts a

abbrev pub slot_act : RingPlace → ℕ → ℕ → Act
slot_act r count head = Driver (Driver_put (slot_at r count) (little_bytes 2 head))

abbrev pub index_act : RingPlace → ℕ → Act
index_act r count = Driver (Driver_put (r.driver + 2) (little_bytes 2 (count + 1)))

abbrev pub top_acts : RingPlace → ℕ → ℕ → AddedChain → List Act
top_acts r q count chain = Queue (Chains_published q) ∷ index_act r count ∷ Queue (Chain_added q chain) ∷ slot_act r count chain.head ∷ []

module _ (x : Setting) (small : IsAddressed x) (full : IsWhole x) (n : ℕ) (acts : List Act) (c : Calms x n acts) (q : ℕ) (ring : Ring) (there : ring_of acts q ≡ Some ring)
    (chain : AddedChain) (asked : is_some chain.request ≡ true) (puts : List Act) (tabled : IsTabled ring.place chain.descriptors puts)
    (taken : (a : AddedChain) → Among a (chains_out acts q) → (d : ℕ) → Among d a.descriptors → Among d chain.descriptors → ⊥)
    (alone : IsOwn acts q chain) (its : HasChain x (puts ++ acts) ring.place chain) where
  abbrev r : RingPlace
  r = ring.place

  has : HasRing x acts q ring
  has = c.rings q ring there

  laid : IsLaid x r
  laid = has.holds.laid

  abbrev count : ℕ
  count = length (placed_heads acts q)

  abbrev later : List Act
  later = puts ++ acts

  abbrev top : List Act
  top = top_acts r q count chain

  same : Same x later acts q
  same = same_by x q puts acts (tabled.elsewhere q)

  top_within : AreWithin r top
  top_within = let z = slot_low count r.size laid.some in let d = laid.driver in let v = laid.device in (tt, ((omega arith, omega arith), (tt, ((omega arith, omega arith), tt))))

  below_driver : (a : ℕ) → a < r.driver → AllMiss top a
  below_driver a lo = (tt, (before_range (r.driver + 2) 2 a (omega arith), (tt, (before_range (slot_at r count) 2 a (omega arith), tt))))

  from_device : (a : ℕ) → r.device ≤ a → AllMiss (top ++ puts) a
  from_device a lo =
      let z = slot_low count r.size laid.some in
      let v = laid.device in
      (tt, (past_range (r.driver + 2) 2 a (omega arith), (tt, (past_range (slot_at r count) 2 a (omega arith), tabled.above a (let d = laid.driver in omega arith)))))

  other_slot : (k i : ℕ) → (k % r.size ≡ count % r.size → ⊥) → i < 2 → AllMiss (top ++ puts) (slot_at r k + i)
  other_slot k i other lo = (tt, (past_range (r.driver + 2) 2 (slot_at r k + i) (omega arith), (tt, (by (order (k % r.size) (count % r.size) other), tabled.above (slot_at r k + i) (let d = laid.driver in omega arith))))) where
    by : (k % r.size < count % r.size) ⊎ (count % r.size < k % r.size) → is_within (slot_at r count) 2 (slot_at r k + i) ≡ false
    by (inl l) = before_range (slot_at r count) 2 (slot_at r k + i) (omega arith)
    by (inr l) = past_range (slot_at r count) 2 (slot_at r k + i) (omega arith)

  high : (a : ℕ) → r.desc ≤ a → bounce_size x ≤ a
  high a lo = let l = laid.low in omega arith

  in_driver : (a : ℕ) → r.driver ≤ a → bounce_size x ≤ a
  in_driver a lo = high a (let d = laid.driver in omega arith)

  module _ (legal : Legal x (top ++ later)) (fair : Fair (top ++ later)) where
    whole_legal : Legal x ((top ++ puts) ++ acts)
    whole_legal = legal

    before : Legal x acts
    before = earlier_legal x (top ++ puts) acts legal

    placed_now : placed_heads (top ++ later) q ≡ placed_heads acts q ++ chain.head ∷ []
    placed_now = ap (λ b. cond (b && is_some chain.request) (placed_heads later q ++ chain.head ∷ []) (placed_heads later q)) (same_number q)
        ∙ (ap (λ b. cond b (placed_heads later q ++ chain.head ∷ []) (placed_heads later q)) asked ∙ ap (λ l. l ++ chain.head ∷ []) same.placed)

    out_now : chains_out (top ++ later) q ≡ chains_out acts q ++ chain ∷ []
    out_now = ap (λ b. cond b (chains_out later q ++ chain ∷ []) (chains_out later q)) (same_number q) ∙ ap (λ l. l ++ chain ∷ []) same.out

    published_now : published_chains_out (top ++ later) q ≡ chains_out acts q ++ chain ∷ []
    published_now = ap (λ b. cond b (chains_out (index_act r count ∷ Queue (Chain_added q chain) ∷ slot_act r count chain.head ∷ later) q) (published_chains_out later q)) (same_number q) ∙ out_now

    added_now : added_count (top ++ later) q ≡ added_count acts q + 1
    added_now = ap (λ b. cond b (added_count later q + 1) (added_count later q)) (same_number q) ∙ ap (λ k. k + 1) same.added

    have_now : have_descriptors (top ++ later) q ≡ true
    have_now = ap (λ b. cond b (nat_lt 0 (length chain.descriptors) && have_descriptors later q) (have_descriptors later q)) (same_number q)
        ∙ and_from (nat_lt 0 (length chain.descriptors)) (have_descriptors later q) (lt-ltb 0 (length chain.descriptors) its.some) (same.have ∙ has.have)

    count_now : length (placed_heads acts q ++ chain.head ∷ []) ≡ count + 1
    count_now = length-append (placed_heads acts q) (chain.head ∷ [])

    -- there was room
    room : count < reclaimed_count acts q + r.size
    room =
        let a = apart_after (top ++ later) q ring fair have_now (same.ring ∙ there) in
        let b = apart_after acts q ring (earlier_fair (top ++ puts) acts fair) has.have there in
        let l : length (chains_out acts q ++ chain ∷ []) ≡ length (chains_out acts q) + 1 = length-append (chains_out acts q) (chain ∷ []) in
        let m : length (chains_out (top ++ later) q) ≡ length (chains_out acts q ++ chain ∷ []) = ap length out_now in
        let f = a.fit in
        let g = b.counted in
        let h = has.counted in
        omega arith

    pushed_few : length (pushed_heads x acts q) ≤ count
    pushed_few = let e = ap length has.holds.first in let l : length (pushed_heads x acts q ++ has.holds.rest) ≡ length (pushed_heads x acts q) + length has.holds.rest = length-append (pushed_heads x acts q) has.holds.rest in omega arith

    index_stands : Stands x (top ++ later) (r.driver + 2) (little_bytes 2 (count + 1))
    index_stands = stand_still x small full (Queue (Chains_published q) ∷ []) (index_act r count ∷ Queue (Chain_added q chain) ∷ slot_act r count chain.head ∷ later) (r.driver + 2) (little_bytes 2 (count + 1)) legal
        (λ i lo. (tt, tt)) (λ i lo. inl (in_driver (r.driver + 2 + i) (omega arith)))
        (driver_stands x full (Queue (Chain_added q chain) ∷ slot_act r count chain.head ∷ later) (r.driver + 2) (little_bytes 2 (count + 1)) (in_driver (r.driver + 2) (omega arith)) legal.1)

    slot_stands : Stands x (top ++ later) (slot_at r count) (little_bytes 2 chain.head)
    slot_stands = stand_still x small full (Queue (Chains_published q) ∷ index_act r count ∷ Queue (Chain_added q chain) ∷ []) (slot_act r count chain.head ∷ later) (slot_at r count) (little_bytes 2 chain.head) legal
        (λ i lo. (tt, (past_range (r.driver + 2) 2 (slot_at r count + i) (omega arith), (tt, tt)))) (λ i lo. inl (in_driver (slot_at r count + i) (omega arith)))
        (driver_stands x full later (slot_at r count) (little_bytes 2 chain.head) (in_driver (slot_at r count) (omega arith)) legal.1.1.1)

    old_slot : (k : ℕ) → length (pushed_heads x acts q) ≤ k → k < count → Stands x (top ++ later) (slot_at r k) (little_bytes 2 (get_or (placed_heads acts q) k 0))
    old_slot k from to =
        let b = has.holds.back in
        let room_is = room in
        let other : k % r.size ≡ count % r.size → ⊥ = slots_differ r.size k count to (let b : reclaimed_count acts q ≤ length (pushed_heads x acts q) = has.holds.back in omega arith) in
        high_still x small full (top ++ puts) acts legal (slot_at r k) (little_bytes 2 (get_or (placed_heads acts q) k 0)) (in_driver (slot_at r k) (omega arith)) (λ i lo. other_slot k i other lo) (has.holds.slots k from to)

    slots_now : (k : ℕ) → length (pushed_heads x acts q) ≤ k → k < count + 1 → Stands x (top ++ later) (slot_at r k) (little_bytes 2 (get_or (placed_heads acts q ++ chain.head ∷ []) k 0))
    slots_now k from to = by (nat_lt k count) refl where
      by : (b : Bool) → nat_lt k count ≡ b → Stands x (top ++ later) (slot_at r k) (little_bytes 2 (get_or (placed_heads acts q ++ chain.head ∷ []) k 0))
      by true e = let l = ltb-true k count e in subst (λ h. Stands x (top ++ later) (slot_at r k) (little_bytes 2 h)) (sym (get_left (placed_heads acts q) (chain.head ∷ []) k l)) (old_slot k from l)
      by false e =
          let is : count ≡ k = (let l = ltb-false k count e in omega arith) in
          subst (λ k. Stands x (top ++ later) (slot_at r k) (little_bytes 2 (get_or (placed_heads acts q ++ chain.head ∷ []) k 0))) is
          (subst (λ h. Stands x (top ++ later) (slot_at r count) (little_bytes 2 h)) (sym (get_last (placed_heads acts q) chain.head)) slot_stands)

    all_within : AreWithin r (top ++ puts)
    all_within = within_append r top puts top_within tabled.within

    old_chain : (a : AddedChain) → Among a (chains_out acts q) → HasChain x (top ++ later) r a
    old_chain a i = chain_still x small full (top ++ puts) acts legal r a laid.low
        (λ d j k lo. (let l = (has.holds.chains a i).low d j in let dr = laid.driver in miss_append top puts (r.desc + 16 * d + k) (below_driver (r.desc + 16 * d + k) (omega arith)) (tabled.misses d (taken a i d j) k lo)))
        (λ m j k. subst (Among m) (sym (within_live r (top ++ puts) acts all_within).0) j)
        (λ m j k goes b here. within_all r (top ++ puts) b all_within (inl (let d = map_below x acts m b (sound x acts before) j here in let l = laid.low in omega arith)))
        (has.holds.chains a i)

    new_chain : HasChain x (top ++ later) r chain
    new_chain =
        let later_legal = earlier_legal x top later legal in
        chain_still x small full top later legal r chain laid.low
        (λ d j k lo. (let l = its.low d j in let dr = laid.driver in below_driver (r.desc + 16 * d + k) (omega arith)))
        (λ m j k. j)
        (λ m j k goes b here. within_all r top b top_within (inl (let d = map_below x later m b (sound x later later_legal) j here in let l = laid.low in omega arith)))
        its

    first_among : (ds : List ℕ) → 0 < length ds → Among (first_of ds) ds
    first_among [] h = absurd (omega arith)
    first_among (d ∷ ds) h = inl refl

    head_own : (a : AddedChain) → HasChain x (top ++ later) r a → Among a.head a.descriptors
    head_own a h = subst (λ d. Among d a.descriptors) (sym h.head) (first_among a.descriptors h.some)

    answers_now : (k : ℕ) → reclaimed_count acts q ≤ k → k < length (pushed_heads x acts q) → (a : AddedChain) → Among a (chains_out acts q) ⊎ (a ≡ chain) → a.head ≡ get_or (placed_heads acts q ++ chain.head ∷ []) k 0 → Answered x (top ++ later) r q (rings_made (top ++ later) q) k a
    answers_now k from to a (inl j) e =
        let few = pushed_few in
        subst (λ m. Answered x (top ++ later) r q m k a) (sym same.made)
        (answered_still x small full (top ++ puts) acts legal r q (rings_made acts q) k a (in_driver (element_at r k) (let v = laid.device in omega arith)) (λ i lo. from_device (element_at r k + i) (omega arith))
        (λ m i o. subst (Among m) (sym (within_live r (top ++ puts) acts all_within).0) i)
        (λ m i o b here. within_all r (top ++ puts) b all_within (inl (let d = map_below x acts m b (sound x acts before) i here in let l = laid.low in omega arith)))
        (has.holds.answers k from to a j (e ∙ get_left (placed_heads acts q) (chain.head ∷ []) k (omega arith))))
    answers_now k from to a (inr is) e =
        let few = pushed_few in
        let low : k < count = omega arith in
        let same_head : chain.head ≡ get_or (placed_heads acts q) k 0 = sym (ap (λ c. c.head) is) ∙ (e ∙ get_left (placed_heads acts q) (chain.head ∷ []) k low) in
        let b = among_head (get_or (placed_heads acts q) k 0) (chains_out acts q) (subst (Among (get_or (placed_heads acts q) k 0)) (sym has.holds.outs) (among_drop (reclaimed_count acts q) k (placed_heads acts q) from low)) in
        let of_old : Among chain.head b.0.descriptors = subst (λ d. Among d b.0.descriptors) (sym (same_head ∙ b.2)) (head_own b.0 (old_chain b.0 b.1)) in
        absurd (taken b.0 b.1 chain.head of_old (head_own chain new_chain))

    holds_now : Holds x (top ++ later) r (record { queue = q; made = rings_made (top ++ later) q; placed = placed_heads acts q ++ chain.head ∷ []; pushed = pushed_heads x acts q; out = chains_out acts q ++ chain ∷ []; reclaimed = reclaimed_count acts q })
    holds_now = record {
      laid = laid;
      held = record { region = has.holds.held.region; there = subst (Among has.holds.held.region) (sym (within_live r (top ++ puts) acts all_within).1) has.holds.held.there; covers = has.holds.held.covers };
      rest = has.holds.rest ++ chain.head ∷ [];
      first = ap (λ l. l ++ chain.head ∷ []) has.holds.first ∙ append_assoc (pushed_heads x acts q) has.holds.rest (chain.head ∷ []);
      back = has.holds.back;
      outs = heads_push (chains_out acts q) chain ∙ (ap (λ l. l ++ chain.head ∷ []) has.holds.outs ∙ sym (drop_push (reclaimed_count acts q) (placed_heads acts q) chain.head (let b : reclaimed_count acts q ≤ length (pushed_heads x acts q) = has.holds.back in let f = pushed_few in omega arith)));
      index = subst (λ k. Stands x (top ++ later) (r.driver + 2) (little_bytes 2 k)) (sym count_now) index_stands;
      used = high_still x small full (top ++ puts) acts legal (r.device + 2) (little_bytes 2 (length (pushed_heads x acts q))) (in_driver (r.device + 2) (let v = laid.device in omega arith)) (λ i lo. from_device (r.device + 2 + i) (omega arith)) has.holds.used;
      slots = λ k from to. slots_now k from (let g = count_now in omega arith);
      elements = λ k from to. (let e = has.holds.elements k from to in
          let g : get_or (placed_heads acts q ++ chain.head ∷ []) k 0 ≡ get_or (placed_heads acts q) k 0 = get_left (placed_heads acts q) (chain.head ∷ []) k (let f = pushed_few in omega arith) in (
            e.0,
            subst (λ h. Stands x (top ++ later) (element_at r k) (little_bytes 4 h ++ little_bytes 4 e.0)) (sym g)
                (high_still x small full (top ++ puts) acts legal (element_at r k) (little_bytes 4 (get_or (placed_heads acts q) k 0) ++ little_bytes 4 e.0) (in_driver (element_at r k) (let v = laid.device in omega arith)) (λ i lo. from_device (element_at r k + i) (omega arith)) e.1),
          ));
      answers = λ k from to a i e. answers_now k from to a (pushed a chain (chains_out acts q) i) e;
      chains = λ a i. elim (pushed a chain (chains_out acts q) i) [ inl j ↦ old_chain a j | inr is ↦ subst (HasChain x (top ++ later) r) (sym is) new_chain ];
    }

    hand_now : (earlier : List Act) → IsNext x acts q earlier → IsNext x (top ++ later) q earlier
    hand_now earlier p = record {
      chain = p.chain;
      there = subst (Among p.chain) (sym out_now) (push_left p.chain chain (chains_out acts q) p.there);
      head = p.head;
      more = subst (λ l. length l < length (placed_heads (top ++ later) q)) (sym same.pushed) (subst (λ l. length (pushed_heads x acts q) < length l) (sym placed_now) (let m : length (pushed_heads x acts q) < count = p.more in let k = count_now in omega arith));
      next = ap (λ l. get_or (placed_heads (top ++ later) q) (length l) 0) same.pushed ∙ (ap (λ l. get_or l (length (pushed_heads x acts q)) 0) placed_now ∙ (get_left (placed_heads acts q) (chain.head ∷ []) (length (pushed_heads x acts q)) p.more ∙ p.next));
      parts = λ part i w. (let k = p.parts part i w in (k.0, subst (Among k.0) (sym (within_live r (top ++ puts) acts all_within).0) k.1, k.2, k.3));
      given = given_still x (top ++ puts) acts p.chain (hand x earlier q) (λ m j k. subst (Among m) (sym (within_live r (top ++ puts) acts all_within).0) j) p.given;
    }

    ring_now : HasRing x (top ++ later) q ring
    ring_now = record {
      holds = subst (λ l. Holds x (top ++ later) r (record { queue = q; made = rings_made (top ++ later) q; placed = l; pushed = pushed_heads x (top ++ later) q; out = chains_out (top ++ later) q; reclaimed = reclaimed_count (top ++ later) q })) (sym placed_now)
          (subst (λ l. Holds x (top ++ later) r (record { queue = q; made = rings_made (top ++ later) q; placed = placed_heads acts q ++ chain.head ∷ []; pushed = l; out = chains_out (top ++ later) q; reclaimed = reclaimed_count (top ++ later) q })) (sym same.pushed)
          (subst (λ l. Holds x (top ++ later) r (record { queue = q; made = rings_made (top ++ later) q; placed = placed_heads acts q ++ chain.head ∷ []; pushed = pushed_heads x acts q; out = l; reclaimed = reclaimed_count (top ++ later) q })) (sym out_now)
          (subst (λ k. Holds x (top ++ later) r (record { queue = q; made = rings_made (top ++ later) q; placed = placed_heads acts q ++ chain.head ∷ []; pushed = pushed_heads x acts q; out = chains_out acts q ++ chain ∷ []; reclaimed = k })) (sym same.reclaimed) holds_now)));
      published = published_now ∙ sym out_now;
      counted = added_now ∙ (ap (λ k. k + 1) has.counted ∙ sym (ap length placed_now ∙ count_now));
      have = have_now;
      position = λ a e. elim same.position [
        | inl f ↦ absurd (let g : None ≡ Some a = sym f ∙ e in cc)
        | inr f ↦ (let p = has.position a (sym f.0 ∙ e) in record { from = p.from; loaded = p.loaded; moved = ap (λ k. (k + p.from) % 65536) f.1 ∙ (p.moved ∙ sym (ap (λ l. length l % 65536) same.pushed)) })
      ];
      inhand = λ a e. elim same.hand [
        | inl f ↦ absurd (let g : None ≡ Some a = sym f ∙ e in cc)
        | inr f ↦ hand_now a (has.inhand a (sym f ∙ e))
      ];
    }

    pub added_calms : Calms x n (top ++ later)
    added_calms = turn_calms x small full n (top ++ puts) acts legal q
        (λ j other. elsewhere_append j top puts (ne_eqb q j (λ z. other (sym z)), (tt, (ne_eqb q j (λ z. other (sym z)), (tt, tt)))) (tabled.elsewhere j)) same.ring
        (λ j s other e. within_spares x (top ++ puts) acts before r s.place laid (c.rings j s e).holds.laid all_within (c.apart q j ring s (λ f. other (sym f)) there e) (chains_out acts j))
        (λ s e. (let both : Some ring ≡ Some s = sym there ∙ e in let is : ring ≡ s = cc in subst (HasRing x (top ++ later) q) is ring_now))
        (λ a i. elim (pushed a chain (chains_out acts q) (subst (Among a) out_now i)) [ inl j ↦ inl j | inr is ↦ inr (subst (IsOwn acts q) (sym is) alone) ]) c
