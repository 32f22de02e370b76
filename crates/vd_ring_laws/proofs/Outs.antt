-- The chains that are out after fair acts.
use Rattle.std.proofs.Common.{◌≡◌, ℕ, suc, ◌+◌, ◌<◌, Bool, true, false, refl, ap, subst, ◌∙◌, sym, arith, cond, Option, None, Some, List, [], ◌∷◌, ◌++◌, ◌==◌, ◌&&◌, nat_lt, length, eqb-true, ◌⊎◌, inl, inr, true≢false}
use Rattle.std.specs.List.{list_any, filter}
use Rattle.std.proofs.lemmas.Bool.Decides.{nat_tests}
use Rattle.std.proofs.lemmas.Bool.{and_parts, ltb-true}
use Rattle.std.proofs.lemmas.List.{length-append}
use Rattle.vd_model.specs.declared.queue.RingPlace.{RingPlace}
use Rattle.vd_model.specs.Acts.{Act, Queue, AddedChain, Ring_made, Ring_dropped, Chain_added, Chains_published, Chain_reclaimed}
use Rattle.vd_model.specs.Queues.{Ring, ring_of, added_count, reclaimed_count, is_other_chain, chains_out, published_chains_out, is_in_chains}
use Rattle.vd_model.specs.RingTurns.{first_of}
use Rattle.vd_laws.specs.Among.{Among}
use Rattle.vd_laws.proofs.Lists.{pushed, push_left, filtered, filter_in, any_true}
use Rattle.vd_ring_laws.specs.ChainLaw.{have_descriptors, heads, AreDistinct, AreApart}
use Rattle.vd_ring_laws.proofs.Distincts.{distinct_push, few_below, heads_push, head_among, among_head, distinct_filter, one_less}
use Rattle.vd_ring_laws.proofs.Fair.{Fair, IsTaken}

-- ---- lists of chains

-- chains that can be out together on a ring
pub record Apart (ring : Option Ring) (chains : List AddedChain) : Type 0 where
  pub distinct : AreDistinct (heads chains)
  pub own : (c : AddedChain) → Among c chains → Among c.head c.descriptors
  pub low : (r : Ring) → ring ≡ Some r → (c : AddedChain) → Among c chains → c.head < r.place.size

none_apart : (ring : Option Ring) → Apart ring []
none_apart ring = record { distinct = tt; own = λ c h. absurd h; low = λ r e c h. absurd h }

filter_apart : (ring : Option Ring) (p : AddedChain → Bool) (chains : List AddedChain) → Apart ring chains → Apart ring (filter p chains)
filter_apart ring p chains a = record {
  distinct = distinct_filter p chains a.distinct;
  own = λ c h. a.own c (filtered p c chains h).0;
  low = λ r e c h. a.low r e c (filtered p c chains h).0;
}

first_among : (ds : List ℕ) → 0 < length ds → Among (first_of ds) ds
first_among [] h = absurd (omega arith)
first_among (d ∷ ds) h = inl refl

push_apart : (acts : List Act) (q : ℕ) (chain : AddedChain) → IsTaken acts q chain → 0 < length chain.descriptors → Apart (ring_of acts q) (chains_out acts q) → Apart (ring_of acts q) (chains_out acts q ++ chain ∷ [])
push_apart acts q chain t some a = record {
  distinct = subst AreDistinct (sym (heads_push (chains_out acts q) chain)) (distinct_push (heads (chains_out acts q)) chain.head a.distinct other);
  own = λ c h. own_by c (pushed c chain (chains_out acts q) h);
  low = λ r e c h. low_by r e c (pushed c chain (chains_out acts q) h);
} where
  mine : Among chain.head chain.descriptors
  mine = subst (λ n. Among n chain.descriptors) (sym t.first) (first_among chain.descriptors some)

  other : Among chain.head (heads (chains_out acts q)) → ⊥
  other h =
      let r = among_head chain.head (chains_out acts q) h in
      let used : list_any (λ k. k == chain.head) r.0.descriptors ≡ true = any_true (λ k. k == chain.head) chain.head r.0.descriptors (subst (λ n. Among n r.0.descriptors) (sym r.2) (a.own r.0 r.1)) (let e : (chain.head == chain.head) ≡ true = grind (arith, nat_tests) in e) in
      let all : is_in_chains (chains_out acts q) chain.head ≡ true = any_true (λ c. list_any (λ k. k == chain.head) c.descriptors) r.0 (chains_out acts q) r.1 used in
      true≢false (sym all ∙ (t.free chain.head mine).1)

  own_by : (c : AddedChain) → Among c (chains_out acts q) ⊎ (c ≡ chain) → Among c.head c.descriptors
  own_by c (inl h) = a.own c h
  own_by c (inr e) = subst (λ c. Among c.head c.descriptors) (sym e) mine

  low_by : (r : Ring) → ring_of acts q ≡ Some r → (c : AddedChain) → Among c (chains_out acts q) ⊎ (c ≡ chain) → c.head < r.place.size
  low_by r e c (inl h) = a.low r e c h
  low_by r e c (inr i) =
      let ring : Some t.ring ≡ Some r = sym t.there ∙ e in
      let is : t.ring ≡ r = cc in
      subst (λ c. c.head < r.place.size) (sym i) (subst (λ r. chain.head < r.place.size) is (t.free chain.head mine).0)

-- ---- after some acts

pub record Outs (acts : List Act) (q : ℕ) : Type 0 where
  pub apart : Apart (ring_of acts q) (chains_out acts q)
  pub counted : (r : Ring) → ring_of acts q ≡ Some r → added_count acts q ≡ reclaimed_count acts q + length (chains_out acts q)
  pub published : (c : AddedChain) → Among c (published_chains_out acts q) → Among c (chains_out acts q)

module _ (acts : List Act) (q : ℕ) (o : Outs acts q) where
  added_count_outs : (k : ℕ) (chain : AddedChain) → IsTaken acts k chain → ((k == q) ≡ true → 0 < length chain.descriptors) → Outs (Queue (Chain_added k chain) ∷ acts) q
  added_count_outs k chain t some = record { apart = apart_by (k == q) refl; counted = counted_by (k == q); published = published_by (k == q) } where
    apart_by : (b : Bool) → (k == q) ≡ b → Apart (ring_of acts q) (cond b (chains_out acts q ++ chain ∷ []) (chains_out acts q))
    apart_by true e = push_apart acts q chain (subst (λ k. IsTaken acts k chain) (eqb-true k q e) t) (some e) o.apart
    apart_by false e = o.apart

    counted_by : (b : Bool) (r : Ring) → ring_of acts q ≡ Some r → cond b (added_count acts q + 1) (added_count acts q) ≡ reclaimed_count acts q + length (cond b (chains_out acts q ++ chain ∷ []) (chains_out acts q))
    counted_by true r e = let c = o.counted r e in let l : length (chains_out acts q ++ chain ∷ []) ≡ length (chains_out acts q) + 1 = length-append (chains_out acts q) (chain ∷ []) in omega arith
    counted_by false r e = o.counted r e

    published_by : (b : Bool) (c : AddedChain) → Among c (published_chains_out acts q) → Among c (cond b (chains_out acts q ++ chain ∷ []) (chains_out acts q))
    published_by true c h = push_left c chain (chains_out acts q) (o.published c h)
    published_by false c h = o.published c h

  reclaimed_count_outs : (k head : ℕ) (chain : AddedChain) → Among chain (published_chains_out acts k) → chain.head ≡ head → Outs (Queue (Chain_reclaimed k head) ∷ acts) q
  reclaimed_count_outs k head chain there is = record { apart = apart_by (k == q); counted = counted_by (k == q) refl; published = published_by (k == q) } where
    apart_by : (b : Bool) → Apart (ring_of acts q) (cond b (filter (is_other_chain head) (chains_out acts q)) (chains_out acts q))
    apart_by true = filter_apart (ring_of acts q) (is_other_chain head) (chains_out acts q) o.apart
    apart_by false = o.apart

    counted_by : (b : Bool) → (k == q) ≡ b → (r : Ring) → ring_of acts q ≡ Some r
        → added_count acts q ≡ cond b (reclaimed_count acts q + 1) (reclaimed_count acts q) + length (cond b (filter (is_other_chain head) (chains_out acts q)) (chains_out acts q))
    counted_by true e r f =
        let c = o.counted r f in
        let here : Among head (heads (chains_out acts q)) = subst (λ n. Among n (heads (chains_out acts q))) is (head_among chain (chains_out acts q) (o.published chain (subst (λ k. Among chain (published_chains_out acts k)) (eqb-true k q e) there))) in
        let l = one_less head (chains_out acts q) o.apart.distinct here in omega arith
    counted_by false e r f = o.counted r f

    published_by : (b : Bool) (c : AddedChain) → Among c (cond b (filter (is_other_chain head) (published_chains_out acts q)) (published_chains_out acts q)) → Among c (cond b (filter (is_other_chain head) (chains_out acts q)) (chains_out acts q))
    published_by true c h = let f = filtered (is_other_chain head) c (published_chains_out acts q) h in filter_in (is_other_chain head) c (chains_out acts q) (o.published c f.0) f.1
    published_by false c h = o.published c h

  published_outs : (k : ℕ) → Outs (Queue (Chains_published k) ∷ acts) q
  published_outs k = record { apart = o.apart; counted = o.counted; published = by (k == q) } where
    by : (b : Bool) (c : AddedChain) → Among c (cond b (chains_out acts q) (published_chains_out acts q)) → Among c (chains_out acts q)
    by true c h = h
    by false c h = o.published c h

  made_outs : (k : ℕ) (place : RingPlace) (region : ℕ) → Outs (Queue (Ring_made k place region) ∷ acts) q
  made_outs k place region = record { apart = apart_by (k == q); counted = counted_by (k == q); published = published_by (k == q) } where
    apart_by : (b : Bool) → Apart (cond b (Some (record { place = place; region = region })) (ring_of acts q)) (cond b [] (chains_out acts q))
    apart_by true = none_apart _
    apart_by false = o.apart

    counted_by : (b : Bool) (r : Ring) → cond b (Some (record { place = place; region = region })) (ring_of acts q) ≡ Some r → cond b 0 (added_count acts q) ≡ cond b 0 (reclaimed_count acts q) + length (cond b [] (chains_out acts q))
    counted_by true r e = refl
    counted_by false r e = o.counted r e

    published_by : (b : Bool) (c : AddedChain) → Among c (cond b [] (published_chains_out acts q)) → Among c (cond b [] (chains_out acts q))
    published_by true c h = h
    published_by false c h = o.published c h

  dropped_outs : (k : ℕ) → Outs (Queue (Ring_dropped k) ∷ acts) q
  dropped_outs k = record { apart = apart_by (k == q); counted = counted_by (k == q); published = published_by (k == q) } where
    apart_by : (b : Bool) → Apart (cond b None (ring_of acts q)) (cond b [] (chains_out acts q))
    apart_by true = none_apart None
    apart_by false = o.apart

    counted_by : (b : Bool) (r : Ring) → cond b None (ring_of acts q) ≡ Some r → added_count acts q ≡ reclaimed_count acts q + length (cond b [] (chains_out acts q))
    counted_by true r e = cc
    counted_by false r e = o.counted r e

    published_by : (b : Bool) (c : AddedChain) → Among c (cond b [] (published_chains_out acts q)) → Among c (cond b [] (chains_out acts q))
    published_by true c h = h
    published_by false c h = o.published c h

made_first : (acts : List Act) (q : ℕ) (place : RingPlace) (region : ℕ) (b : Bool) → (k : ℕ) → (k == q) ≡ b → (cond b true (have_descriptors acts q) ≡ true) → (have_descriptors acts q ≡ true → Outs acts q) → Outs (Queue (Ring_made k place region) ∷ acts) q
made_first acts q place region true k e h later = record {
  apart = subst (λ b. Apart (cond b (Some (record { place = place; region = region })) (ring_of acts q)) (cond b [] (chains_out acts q))) (sym e) (none_apart _);
  counted = subst (λ b. (r : Ring) → cond b (Some (record { place = place; region = region })) (ring_of acts q) ≡ Some r → cond b 0 (added_count acts q) ≡ cond b 0 (reclaimed_count acts q) + length (cond b [] (chains_out acts q))) (sym e) (λ r i. refl);
  published = subst (λ b. (c : AddedChain) → Among c (cond b [] (published_chains_out acts q)) → Among c (cond b [] (chains_out acts q))) (sym e) (λ c i. i);
}
made_first acts q place region false k e h later = made_outs acts q (later h) k place region

added_count_first : (acts : List Act) (q k : ℕ) (chain : AddedChain) → IsTaken acts k chain → (b : Bool) → (k == q) ≡ b → cond b (nat_lt 0 (length chain.descriptors) && have_descriptors acts q) (have_descriptors acts q) ≡ true
    → (have_descriptors acts q ≡ true → Outs acts q) → Outs (Queue (Chain_added k chain) ∷ acts) q
added_count_first acts q k chain t true e h later =
    let p = and_parts (nat_lt 0 (length chain.descriptors)) (have_descriptors acts q) h in
    added_count_outs acts q (later p.1) k chain t (λ f. ltb-true 0 (length chain.descriptors) p.0)
added_count_first acts q k chain t false e h later = added_count_outs acts q (later h) k chain t (λ f. absurd (true≢false (sym f ∙ e)))

next_outs : (act : Act) (acts : List Act) (q : ℕ) → Fair (act ∷ acts) → have_descriptors (act ∷ acts) q ≡ true → (have_descriptors acts q ≡ true → Outs acts q) → Outs (act ∷ acts) q
next_outs (Queue (Chain_added k chain)) acts q h e later = added_count_first acts q k chain h.0 (k == q) refl e later
next_outs (Queue (Chain_reclaimed k head)) acts q h e later = reclaimed_count_outs acts q (later e) k head h.0.0 h.0.1 h.0.2
next_outs (Queue (Chains_published k)) acts q h e later = published_outs acts q (later e) k
next_outs (Queue (Ring_made k place region)) acts q h e later = made_first acts q place region (k == q) k refl e later
next_outs (Queue (Ring_dropped k)) acts q h e later = dropped_outs acts q (later e) k
next_outs _ acts q h e later = let o = later e in record { apart = o.apart; counted = o.counted; published = o.published }

pub outs_after : (acts : List Act) (q : ℕ) → Fair acts → have_descriptors acts q ≡ true → Outs acts q
outs_after [] q h e = record { apart = none_apart None; counted = λ r e. refl; published = λ c h. h }
outs_after (act ∷ acts) q h e = next_outs act acts q h e (outs_after acts q h.1)

heads_length : (chains : List AddedChain) → length (heads chains) ≡ length chains
heads_length [] = refl
heads_length (c ∷ chains) = ap (λ n. suc n) (heads_length chains)

pub apart_after : (acts : List Act) (q : ℕ) (ring : Ring) → Fair acts → have_descriptors acts q ≡ true → ring_of acts q ≡ Some ring → AreApart acts q ring
apart_after acts q ring h e there =
    let o = outs_after acts q h e in
    record {
      distinct = o.apart.distinct;
      low = o.apart.low ring there;
      fit = (let l = few_below ring.place.size (heads (chains_out acts q)) o.apart.distinct (λ k i. (let r = among_head k (chains_out acts q) i in subst (λ n. n < ring.place.size) (sym r.2) (o.apart.low ring there r.0 r.1))) in let s = heads_length (chains_out acts q) in omega arith);
      counted = o.counted ring there;
      published = o.published;
    }
