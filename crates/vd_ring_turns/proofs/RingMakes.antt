-- A ring that is made is apart from the others, and has nothing yet.
use Rattle.std.proofs.Common.{◌≡◌, ℕ, zero, suc, ◌+◌, ◌-◌, ◌*◌, ◌/◌, ◌<◌, ◌≤◌, Bool, true, false, refl, ap, subst, ◌∙◌, sym, arith, cond, Option, None, Some, is_some, List, [], ◌∷◌, ◌++◌, length, get_or, map, not, nat_lt, ◌&&◌, unwrap_or, ◌⊎◌, inl, inr}
use Rattle.std.specs.Option.{option_map_or}
use Rattle.std.proofs.lemmas.Bool.{ltb-true, ltb-false, ne_eqb}
use Rattle.vd_num.specs.Number.{pages_of}
use Rattle.vd_num.specs.declared.errno.Errno.TheVariants.{Inval, Exist, Nospc}
use Rattle.vd_model.specs.declared.queue.RingPlace.{RingPlace}
use Rattle.vd_model.specs.Setting.{Setting}
use Rattle.vd_model.specs.Creation.{Creation}
use Rattle.vd_model.specs.Acts.{Act, Driver, Queue, AddedChain, Coherent, Region_made, Ring_made, state_acts}
use Rattle.vd_model.specs.State.{is_ready}
use Rattle.vd_model.specs.Live.{live_mappings, live_regions, regions, region_covers}
use Rattle.vd_model.specs.Place.{Slots, meets, place_of, taken_slots, region_slots, mapping_slots}
use Rattle.vd_model.specs.Queues.{Ring, ring_of, chains_out, published_chains_out, added_count, reclaimed_count, before_first, in_hand}
use Rattle.vd_model.specs.Raw.{little_bytes}
use Rattle.vd_model.specs.Puts.{zero_if, shown_put}
use Rattle.vd_model.specs.Turn.{refusal_turn}
use Rattle.vd_model.specs.BusTurns.{is_missing}
use Rattle.vd_model.specs.RingTurns.{ring_bytes, ring_at, made_ring_turn, is_ring_size, ring_turn}
use Rattle.vd_laws.specs.Among.{Among}
use Rattle.vd_laws.specs.Runs.{IsAddressed, IsWhole}
use Rattle.vd_ring_laws.specs.Calm.{IsDescribed}
use Rattle.vd_ring_laws.specs.Heads.{placed_heads, pushed_heads}
use Rattle.vd_laws.proofs.Lists.{any_false, among_map, push_left, push_right}
use Rattle.vd_laws.proofs.Legal.{maps_of, Legal}
use Rattle.vd_laws.proofs.Sound.{sound}
use Rattle.vd_laws.proofs.Ranges.{is_in, in_range, before_range, past_range}
use Rattle.vd_laws.proofs.Places.{IsFree, place_free}
use Rattle.vd_laws.proofs.Coherence.{high_shown}
use Rattle.vd_ring_laws.specs.ChainLaw.{have_descriptors}
use Rattle.vd_ring_laws.proofs.Fair.{Fair}
use Rattle.vd_ring_laws.proofs.Hands.{position_after}
use Rattle.vd_ring_bytes.specs.FirmLaw.{AllMiss}
use Rattle.vd_ring_bytes.proofs.Numbers.{same_number, same_or_not}
use Rattle.vd_ring_bytes.proofs.StandingBytes.{Stands, stand_still}
use Rattle.vd_ring_bytes.proofs.RingLayout.{IsLaid, end_of}
use Rattle.vd_ring_bytes.proofs.RingMemory.{IsHeld, Holds, Spares, course_of}
use Rattle.vd_ring_bytes.proofs.SameRing.{Same, same_by, rings_made}
use Rattle.vd_ring_turns.proofs.CalmRings.{HasRing, Calms, ring_same}
use Rattle.vd_ring_turns.proofs.RingSpares.{map_below}
use Rattle.vd_ring_bytes.proofs.RingSizes.{IsSize, ring_size}
use Rattle.vd_ring_turns.proofs.Fetches.{refuse_with}

-- ---- the place

enough_pages : (len : ℕ) → len ≤ 4096 * pages_of len
enough_pages len = omega arith

laid_at : (x : Setting) (size slot : ℕ) → IsSize size → x.bounce ≤ slot → slot + pages_of (ring_bytes size) ≤ x.iova → IsLaid x (ring_at size slot)
laid_at x size slot s low high =
    let e = enough_pages (ring_bytes size) in
    record {
      some = s.some;
      small = s.small;
      cyclic = s.cyclic;
      low = omega arith;
      driver = omega arith;
      device = omega arith;
      ends = omega arith;
    }

-- slots of which none is common lie one behind the other
apart_slots : (slot n : ℕ) (r : Slots) → meets slot n r ≡ false → (r.start + r.count ≤ slot) ⊎ (slot + n ≤ r.start)
apart_slots slot n r e = by (nat_lt slot (r.start + r.count)) (nat_lt r.start (slot + n)) refl refl e where
  by : (b c : Bool) → nat_lt slot (r.start + r.count) ≡ b → nat_lt r.start (slot + n) ≡ c → (b && c) ≡ false → (r.start + r.count ≤ slot) ⊎ (slot + n ≤ r.start)
  by true true f g h = cc
  by true false f g h = inr (ltb-false r.start (slot + n) g)
  by false c f g h = inl (ltb-false slot (r.start + r.count) f)

zero_pair : (i : ℕ) → get_or (little_bytes 2 0) i 0 ≡ 0
zero_pair zero = refl
zero_pair (suc zero) = refl
zero_pair (suc (suc i)) = refl

right_among : {X : Type 0} (m : X) (xs ys : List X) → Among m ys → Among m (xs ++ ys)
right_among m [] ys h = h
right_among m (x ∷ xs) ys h = inr (right_among m xs ys h)

module _ (x : Setting) (small : IsAddressed x) (full : IsWhole x) (n : ℕ) (done : List Act) (legal : Legal x done) (fair : Fair done) (c : Calms x n done) (q size slot : ℕ) (low : q < n)
    (is_size : is_ring_size size ≡ true) (none : ring_of done q ≡ None) (idle : is_ready (state_acts done) q ≡ true → ⊥) (e : place_of (taken_slots done) (pages_of (ring_bytes size)) x.bounce x.iova ≡ Some slot) where
  abbrev region : Coherent
  region = record { number = regions done; slot = slot; len = ring_bytes size }

  abbrev place : RingPlace
  place = ring_at size slot

  abbrev ring : Ring
  ring = record { place = place; region = regions done }

  abbrev new : List Act
  new = Queue (Ring_made q place (regions done)) ∷ Driver (Region_made region) ∷ []

  free : IsFree (taken_slots done) (pages_of (ring_bytes size)) x.bounce x.iova slot
  free = place_free (taken_slots done) (pages_of (ring_bytes size)) x.bounce x.iova slot e

  laid : IsLaid x place
  laid = laid_at x size slot (ring_size size is_size) free.low free.high

  inside : (a : ℕ) → place.desc ≤ a → a < end_of place → region_covers region a ≡ true
  inside a lo hi = let p = enough_pages (ring_bytes size) in in_range slot (pages_of (ring_bytes size)) (a / 4096) (omega arith) (omega arith)

  -- a live region has its slots before or behind
  region_apart : (r : Coherent) → Among r (live_regions done) → (r.slot + pages_of r.len ≤ slot) ⊎ (slot + pages_of (ring_bytes size) ≤ r.slot)
  region_apart r there = apart_slots slot (pages_of (ring_bytes size)) (region_slots r)
      (any_false (meets slot (pages_of (ring_bytes size))) (region_slots r) (taken_slots done) free.free (right_among (region_slots r) (map mapping_slots (live_mappings done)) (map region_slots (live_regions done)) (among_map region_slots r (live_regions done) there)))

  ring_apart : (other : RingPlace) → IsLaid x other → IsHeld done other → (end_of place ≤ other.desc) ⊎ (end_of other ≤ place.desc)
  ring_apart other lo h =
      let p = enough_pages (ring_bytes size) in
      let d = lo.driver in
      let v = lo.device in
      let first = is_in h.region.slot (pages_of h.region.len) (other.desc / 4096) (h.covers other.desc (omega arith) (omega arith)) in
      let last = is_in h.region.slot (pages_of h.region.len) ((end_of other - 1) / 4096) (h.covers (end_of other - 1) (omega arith) (omega arith)) in
      let f : h.region.slot ≤ other.desc / 4096 = first.0 in
      let l : (end_of other - 1) / 4096 < h.region.slot + pages_of h.region.len = last.1 in
      elim (region_apart h.region h.there) [ inl a ↦ inr (omega arith) | inr a ↦ inl (omega arith) ]

  out_of_region : (a : ℕ) → (a < place.desc) ⊎ (4096 * (slot + pages_of (ring_bytes size)) ≤ a) → region_covers region a ≡ false
  out_of_region a (inl lo) = before_range slot (pages_of (ring_bytes size)) (a / 4096) (omega arith)
  out_of_region a (inr hi) = past_range slot (pages_of (ring_bytes size)) (a / 4096) (omega arith)

  region_misses : (other : RingPlace) → IsHeld done other → (a : ℕ) → other.desc ≤ a → a < end_of other → AllMiss new a
  region_misses other h a lo hi =
      let in_other = is_in h.region.slot (pages_of h.region.len) (a / 4096) (h.covers a lo hi) in
      let f : h.region.slot ≤ a / 4096 = in_other.0 in
      let l : a / 4096 < h.region.slot + pages_of h.region.len = in_other.1 in
      (tt, (out_of_region a (elim (region_apart h.region h.there) [ inl b ↦ inl (omega arith) | inr b ↦ inr (omega arith) ]), tt))

  spares : (r : RingPlace) → IsLaid x r → IsHeld done r → (chains : List AddedChain) → Spares x new done r chains
  spares r lo h chains = record {
    table = λ a l i. region_misses r h a l (let d = lo.driver in let v = lo.device in omega arith);
    driver = λ a l i. region_misses r h a (let d = lo.driver in omega arith) (let v = lo.device in omega arith);
    device = λ a l i. region_misses r h a (let d = lo.driver in let v = lo.device in omega arith) (omega arith);
    alive = λ b i m j k. j;
    tables = λ b i m j k a here. (tt, (out_of_region a (inl (let d = map_below x done m a (sound x done legal) j here in let l = laid.low in omega arith)), tt));
    regions = λ b i. push_left b region (live_regions done) i;
  }

  no_position : before_first done q ≡ None
  no_position = by (before_first done q) refl where
    by : (o : Option (List Act)) → before_first done q ≡ o → before_first done q ≡ None
    by None f = f
    by (Some a) f = absurd (idle ((position_after done q fair).ready (ap is_some f)))

  no_hand : in_hand done q ≡ None
  no_hand = by (in_hand done q) refl where
    by : (o : Option (List Act)) → in_hand done q ≡ o → in_hand done q ≡ None
    by None f = f
    by (Some a) f = absurd (idle (let p = position_after done q fair in p.ready (p.there (ap is_some f))))

  course_now : course_of x (new ++ done) q ≡ record { queue = q; made = rings_made (new ++ done) q; placed = []; pushed = []; out = []; reclaimed = 0 }
  course_now =
      let b = same_number q in
      ap (λ b. record { queue = q; made = rings_made (new ++ done) q; placed = cond b [] (placed_heads done q); pushed = cond b [] (pushed_heads x done q); out = cond b [] (chains_out done q); reclaimed = cond b 0 (reclaimed_count done q) }) b

  module _ (whole_legal : Legal x (new ++ done)) where
    zero_stands : (at : ℕ) → place.desc ≤ at → at + 2 ≤ end_of place → Stands x (new ++ done) at (little_bytes 2 0)
    zero_stands at lo hi = stand_still x small full (Queue (Ring_made q place (regions done)) ∷ []) (Driver (Region_made region) ∷ done) at (little_bytes 2 0) whole_legal (λ i l. (tt, tt)) (λ i l. inl (let f = laid.low in omega arith))
        (λ i l. ap (λ p. p.byte) (high_shown x full done (at + i) (let f = laid.low in omega arith) (Driver (Region_made region)) whole_legal.1)
        ∙ (ap (λ b. (unwrap_or (zero_if b) (shown_put x.per_page done (at + i))).byte) (inside (at + i) (omega arith) (omega arith)) ∙ sym (zero_pair i)))

    holds_new : Holds x (new ++ done) place (record { queue = q; made = rings_made (new ++ done) q; placed = []; pushed = []; out = []; reclaimed = 0 })
    holds_new = record {
      laid = laid;
      held = record { region = region; there = push_right region (live_regions done); covers = inside };
      rest = [];
      first = refl;
      back = omega arith;
      outs = refl;
      index = zero_stands (place.driver + 2) (let d = laid.driver in omega arith) (let v = laid.device in omega arith);
      used = zero_stands (place.device + 2) (let d = laid.driver in let v = laid.device in omega arith) (omega arith);
      slots = λ k from to. absurd (omega arith);
      elements = λ k from to. absurd (omega arith);
      chains = λ a i. absurd i;
      answers = λ k from to. absurd (omega arith);
    }

    ring_new : HasRing x (new ++ done) q ring
    ring_new = record {
      holds = subst (Holds x (new ++ done) place) (sym course_now) holds_new;
      published = ap (λ b. cond b [] (published_chains_out done q)) (same_number q) ∙ sym (ap (λ b. cond b [] (chains_out done q)) (same_number q));
      counted = ap (λ b. cond b 0 (added_count done q)) (same_number q) ∙ sym (ap (λ b. length (cond b [] (placed_heads done q))) (same_number q));
      have = ap (λ b. cond b true (have_descriptors done q)) (same_number q);
      position = λ a f. absurd (let g : None ≡ Some a = sym no_position ∙ f in cc);
      inhand = λ a f. absurd (let g : None ≡ Some a = sym no_hand ∙ f in cc);
    }

    was : (k : ℕ) → (k ≡ q → ⊥) → Same x (new ++ done) done k
    was k other = same_by x k new done (ne_eqb q k (λ z. other (sym z)), (tt, tt))

    own_ring : (r : Ring) → ring_of (new ++ done) q ≡ Some r → ring ≡ r
    own_ring r f = let both : Some ring ≡ Some r = sym (ap (λ b. cond b (Some ring) (ring_of done q)) (same_number q)) ∙ f in cc

    no_out : (a : AddedChain) → Among a (chains_out (new ++ done) q) → ⊥
    no_out a i = subst (Among a) (ap (λ b. cond b [] (chains_out done q)) (same_number q)) i

    pub made_calms : Calms x n (new ++ done)
    made_calms = record {
      rings = λ k r f. rings k r f (same_or_not k q);
      low = λ k r f. lows k r f (same_or_not k q);
      apart = λ k j r s d f g. aparts k j r s d f g (same_or_not k q) (same_or_not j q);
      alone = λ k j d a b i l m ma mb. alones k j d a b i l m ma mb (same_or_not k q) (same_or_not j q);
    } where
      rings : (k : ℕ) (r : Ring) → ring_of (new ++ done) k ≡ Some r → (k ≡ q) ⊎ (k ≡ q → ⊥) → HasRing x (new ++ done) k r
      rings k r f (inl is) = subst (λ j. HasRing x (new ++ done) j r) (sym is) (subst (HasRing x (new ++ done) q) (own_ring r (subst (λ j. ring_of (new ++ done) j ≡ Some r) is f)) ring_new)
      rings k r f (inr other) =
          let there = sym (was k other).ring ∙ f in
          let had = c.rings k r there in
          ring_same x small full new done whole_legal k (was k other) r (spares r.place had.holds.laid had.holds.held (chains_out done k)) had

      lows : (k : ℕ) (r : Ring) → ring_of (new ++ done) k ≡ Some r → (k ≡ q) ⊎ (k ≡ q → ⊥) → k < n
      lows k r f (inl is) = subst (λ j. j < n) (sym is) low
      lows k r f (inr other) = c.low k r (sym (was k other).ring ∙ f)

      swap : (k : ℕ) (r s : Ring) → ring_of (new ++ done) q ≡ Some r → (k ≡ q → ⊥) → ring_of (new ++ done) k ≡ Some s → (end_of r.place ≤ s.place.desc) ⊎ (end_of s.place ≤ r.place.desc)
      swap k r s f other g =
          let had = c.rings k s (sym (was k other).ring ∙ g) in
          subst (λ r. (end_of r.place ≤ s.place.desc) ⊎ (end_of s.place ≤ r.place.desc)) (own_ring r f) (ring_apart s.place had.holds.laid had.holds.held)

      aparts : (k j : ℕ) (r s : Ring) → (k ≡ j → ⊥) → ring_of (new ++ done) k ≡ Some r → ring_of (new ++ done) j ≡ Some s → (k ≡ q) ⊎ (k ≡ q → ⊥) → (j ≡ q) ⊎ (j ≡ q → ⊥) → (end_of r.place ≤ s.place.desc) ⊎ (end_of s.place ≤ r.place.desc)
      aparts k j r s d f g (inl is) (inl it) = absurd (d (is ∙ sym it))
      aparts k j r s d f g (inl is) (inr other) = swap j r s (subst (λ i. ring_of (new ++ done) i ≡ Some r) is f) other g
      aparts k j r s d f g (inr other) (inl it) = elim (swap k s r (subst (λ i. ring_of (new ++ done) i ≡ Some s) it g) other f) [ inl h ↦ inr h | inr h ↦ inl h ]
      aparts k j r s d f g (inr other) (inr another) = c.apart k j r s d (sym (was k other).ring ∙ f) (sym (was j another).ring ∙ g)

      alones : (k j : ℕ) → (k ≡ j → ⊥) → (a b : AddedChain) → Among a (chains_out (new ++ done) k) → Among b (chains_out (new ++ done) j) → (m : ℕ) → Among m (maps_of a.request) → Among m (maps_of b.request) → (k ≡ q) ⊎ (k ≡ q → ⊥) → (j ≡ q) ⊎ (j ≡ q → ⊥) → ⊥
      alones k j d a b i l m ma mb (inl is) y = no_out a (subst (λ t. Among a (chains_out (new ++ done) t)) is i)
      alones k j d a b i l m ma mb (inr other) (inl it) = no_out b (subst (λ t. Among b (chains_out (new ++ done) t)) it l)
      alones k j d a b i l m ma mb (inr other) (inr another) = c.alone k j d a b (subst (Among a) (was k other).out i) (subst (Among b) (was j another).out l) m ma mb

-- ---- the line

not_is : (b : Bool) → not b ≡ false → b ≡ true
not_is true e = refl
not_is false e = cc

not_some : {X : Type 0} (o : Option X) → is_some o ≡ false → o ≡ None
not_some None e = refl
not_some (Some y) e = cc

pub ring_calms : (x : Setting) → IsAddressed x → IsWhole x → (made : Creation) (done : List Act) → Legal x done → Fair done → Calms x made.queues done → (q size : ℕ) → (is_ready (state_acts done) q ≡ true → IsDescribed done q)
    → Legal x ((ring_turn x made done q size).acts ++ done) → Calms x made.queues ((ring_turn x made done q size).acts ++ done)
ring_calms x small full made done legal fair c q size described =
    let P : List Act → Type 0 = λ acts. Legal x (acts ++ done) → Calms x made.queues (acts ++ done) in
    refuse_with P (λ l. c) (is_missing made q) Inval _ (λ e.
    refuse_with P (λ l. c) (not (is_ring_size size)) Inval _ (λ f.
    refuse_with P (λ l. c) (is_some (ring_of done q)) Exist _ (λ g.
    by (ltb-true q made.queues (not_is (nat_lt q made.queues) e)) (not_is (is_ring_size size) f) (not_some (ring_of done q) g) (place_of (taken_slots done) (pages_of (ring_bytes size)) x.bounce x.iova) refl))) where
      by : q < made.queues → is_ring_size size ≡ true → ring_of done q ≡ None → (o : Option ℕ) → place_of (taken_slots done) (pages_of (ring_bytes size)) x.bounce x.iova ≡ o
          → Legal x ((option_map_or (made_ring_turn done q size) o (refusal_turn Nospc)).acts ++ done) → Calms x made.queues ((option_map_or (made_ring_turn done q size) o (refusal_turn Nospc)).acts ++ done)
      by low is none None h l = c
      by low is none (Some slot) h l = made_calms x small full made.queues done legal fair c q size slot low is none
          (λ r. (let d = described r in let no : None ≡ Some d.ring = sym none ∙ d.there in cc)) h l
