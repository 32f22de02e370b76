-- A finish pushes the head of the request in hand, and writes within that request's own mappings.
use Rattle.std.proofs.Common.{◌≡◌, ℕ, zero, suc, ◌+◌, ◌*◌, ◌%◌, ◌/◌, ◌<◌, ◌≤◌, Bool, true, false, refl, ap, subst, ◌∙◌, sym, arith, cond, None, Some, is_some, List, [], ◌∷◌, ◌++◌, length, get_or, take, drop, map, nat_lt, append_assoc, if◌then◌else◌, ◌⊎◌, inl, inr}
use Rattle.std.specs.Option.{option_map}
use Rattle.std.specs.List.{list_all}
use Rattle.std.proofs.lemmas.Bool.{ltb-true, ltb-false, ne_eqb}
use Rattle.std.proofs.lemmas.List.{length-append}
use Rattle.vd_num.specs.Number.{is_within}
use Rattle.vd_model.specs.declared.memory.Dir.{Dir}
use Rattle.vd_model.specs.declared.memory.Dir.TheVariants.{To}
use Rattle.vd_model.specs.declared.parts.Part.{Part}
use Rattle.vd_model.specs.declared.queue.RingPlace.{RingPlace}
use Rattle.vd_model.specs.Setting.{Setting, bounce_size}
use Rattle.vd_model.specs.Creation.{Creation}
use Rattle.vd_model.specs.Acts.{Act, Node, Queue, AddedChain, Streaming, Daemon_put, Finished, state_acts}
use Rattle.vd_model.specs.State.{is_ready}
use Rattle.vd_model.specs.Live.{live_mappings, live_regions, iova_of, maps_address}
use Rattle.vd_model.specs.Queues.{Ring, ring_of, chains_out, reclaimed_count, finishes, in_hand, execution_of, Execution}
use Rattle.vd_model.specs.Rings.{next16, used_index_at, used_element_at}
use Rattle.vd_model.specs.Raw.{little_bytes}
use Rattle.vd_model.specs.DaemonTurns.{queue_place, index_after, hand, spread_acts, used_position, finish_puts, finish_turn}
use Rattle.vd_model.specs.RingTurns.{mapping_part, parts_count}
use Rattle.vd_model.specs.Puts.{is_from_device}
use Rattle.vd_laws.specs.Among.{Among}
use Rattle.vd_laws.specs.Runs.{IsAddressed, IsWhole}
use Rattle.vd_ring_laws.specs.Calm.{IsDescribed}
use Rattle.vd_ring_laws.specs.Heads.{placed_heads, pushed_heads, head_in_hand, with_head}
use Rattle.vd_laws.proofs.Legal.{maps_of, Distinct, Legal}
use Rattle.vd_laws.proofs.Chains.{chained}
use Rattle.vd_laws.proofs.Sound.{Sound, sound, earlier_legal}
use Rattle.vd_laws.proofs.Ranges.{is_in, in_range, before_range, past_range}
use Rattle.vd_laws.proofs.Pages.{on_slot}
use Rattle.vd_ring_laws.specs.ChainLaw.{AreDistinct}
use Rattle.vd_ring_laws.proofs.Fair.{Fair, is_put, puts_kept, puts_fair, spread_acts_put}
use Rattle.vd_ring_laws.proofs.Leaves.{finish_is}
use Rattle.vd_ring_laws.proofs.Hands.{position_after}
use Rattle.vd_ring_laws.proofs.Outs.{apart_after}
use Rattle.vd_ring_bytes.specs.FirmLaw.{AllMiss}
use Rattle.vd_ring_bytes.proofs.Mappings.{one_map}
use Rattle.vd_ring_bytes.proofs.Numbers.{same_number}
use Rattle.vd_ring_bytes.proofs.StandingBytes.{Stands, daemon_stands, low_bytes, stand_still}
use Rattle.vd_ring_bytes.proofs.RingLayout.{IsLaid, slot_low, slots_differ, used_plain, element_plain}
use Rattle.vd_ring_bytes.proofs.RequestSource.{comes_own, Given, given_still}
use Rattle.vd_ring_bytes.proofs.RingMemory.{Holds, Answered, course_of, slot_at, element_at, high_still, map_still, chain_still, answered_still, holds_by, spread_over, spread_among, among_take}
use Rattle.vd_ring_bytes.proofs.Spreads.{spread_misses, spread_stands, own_distinct, distinct_at, puts_executed}
use Rattle.vd_ring_turns.proofs.PollTurns.{one_head}
use Rattle.vd_ring_bytes.proofs.SameRing.{AreElsewhere, Same, same_by, rings_made}
use Rattle.vd_ring_turns.proofs.CalmRings.{IsNext, HasRing, Calms, ring_from}
use Rattle.vd_ring_turns.proofs.RingSpares.{turn_calms, AreWithin, within_all, within_spares, map_below}
use Rattle.vd_ring_turns.proofs.Positions.{IsFirst, first_is}

-- ---- the answer's bytes

-- a put of the daemon within a live mapping that the device may write
abbrev pub IsPart : List Act → Act → Type 0
IsPart acts (Node (Daemon_put at bytes)) = (m : Streaming) × Among m (live_mappings acts) × ((m.want.dir ≡ To) → ⊥) × (iova_of m ≤ at) × (at + length bytes ≤ iova_of m + m.want.len)
IsPart acts _ = ⊥

abbrev pub AreParts : List Act → List Act → Type 0
AreParts acts [] = Unit {0}
AreParts acts (act ∷ new) = IsPart acts act × AreParts acts new

part_elsewhere : (acts new : List Act) (q : ℕ) → AreParts acts new → AreElsewhere q new
part_elsewhere acts [] q h = tt
part_elsewhere acts (Node (Daemon_put at bytes) ∷ new) q h = (tt, part_elsewhere acts new q h.1)
part_elsewhere acts (_ ∷ new) q h = absurd h.0

parts_live : (acts new : List Act) → AreParts acts new → (live_mappings (new ++ acts) ≡ live_mappings acts) × (live_regions (new ++ acts) ≡ live_regions acts)
parts_live acts [] h = (refl, refl)
parts_live acts (Node (Daemon_put at bytes) ∷ new) h = parts_live acts new h.1
parts_live acts (_ ∷ new) h = absurd h.0

module _ (x : Setting) (acts : List Act) (s : Sound x acts) where
  parts_high : (new : List Act) (a : ℕ) → AreParts acts new → bounce_size x ≤ a → AllMiss new a
  parts_high [] a h high = tt
  parts_high (Node (Daemon_put at bytes) ∷ new) a h high =
      let fits = s.fits h.0.0 h.0.1 in
      let hi : at + length bytes ≤ iova_of h.0.0 + h.0.0.want.len = h.0.4 in
      (past_range at (length bytes) a (omega arith), parts_high new a h.1 high)
  parts_high (_ ∷ new) a h high = absurd h.0

  parts_low : (new : List Act) (l : Streaming) (a : ℕ) → AreParts acts new → Among l (live_mappings acts) → l.want.dir ≡ To → maps_address l a ≡ true → AllMiss new a
  parts_low [] l a h there goes here = tt
  parts_low (Node (Daemon_put at bytes) ∷ new) l a h there goes here = (by (is_within at (length bytes) a) refl, parts_low new l a h.1 there goes here) where
    by : (b : Bool) → is_within at (length bytes) a ≡ b → b ≡ false
    by false e = refl
    by true e =
        let r = is_in at (length bytes) a e in
        let lo : at ≤ a = r.0 in
        let hi : a < at + length bytes = r.1 in
        let from : iova_of h.0.0 ≤ at = h.0.3 in
        let to : at + length bytes ≤ iova_of h.0.0 + h.0.0.want.len = h.0.4 in
        let inside = in_range (iova_of h.0.0) h.0.0.want.len a (omega arith) (omega arith) in
        let same_map : h.0.0 ≡ l = s.one h.0.0 l h.0.1 there (a / 4096) (on_slot h.0.0 a inside) (on_slot l a here) in
        absurd (h.0.2 (ap (λ m. m.want.dir) same_map ∙ goes))
  parts_low (_ ∷ new) l a h there goes here = absurd h.0

short_take : (n : ℕ) (bytes : List ℕ) → length (take n bytes) ≤ n
short_take zero bytes = omega arith
short_take (suc n) [] = omega arith
short_take (suc n) (b ∷ bytes) = let l = short_take n bytes in omega arith

writes_not_to : (d : Dir) → is_from_device d ≡ true → d ≡ To → ⊥
writes_not_to d w e = let f : is_from_device To ≡ true = subst (λ d. is_from_device d ≡ true) e w in cc

-- the spread of an answer is such puts
spread_parts : (acts : List Act) (parts : List Part) (bytes : List ℕ) (more : List Act) → ((p : Part) → Among p parts → p.writable ≡ true → (m : Streaming) × Among m (live_mappings acts) × (p ≡ mapping_part m))
    → AreParts acts more → AreParts acts (spread_acts parts bytes more)
spread_parts acts [] bytes more h k = k
spread_parts acts (part ∷ parts) bytes more h k = by part.writable refl (λ bytes more k. spread_parts acts parts bytes more (λ p i. h p (inr i)) k) where
  by : (b : Bool) → part.writable ≡ b → ((bytes : List ℕ) (more : List Act) → AreParts acts more → AreParts acts (spread_acts parts bytes more))
      → AreParts acts (if b then spread_acts parts (drop part.len bytes) (Node (Daemon_put part.at (take part.len bytes)) ∷ more) else spread_acts parts bytes more)
  by true e later =
      let m = h part (inl refl) e in
      let at : part.at ≡ iova_of m.0 = ap (λ p. p.at) m.2 in
      let len : part.len ≡ m.0.want.len = ap (λ p. p.len) m.2 in
      let t = short_take part.len bytes in
      later (drop part.len bytes) (Node (Daemon_put part.at (take part.len bytes)) ∷ more) ((m.0, m.1, writes_not_to m.0.want.dir (ap (λ p. p.writable) (sym m.2) ∙ e), omega arith, omega arith), k)
  by false e later = later bytes more k

-- ---- the used element and the used index

get_middle : (xs : List ℕ) (y : ℕ) (ys : List ℕ) → get_or (xs ++ y ∷ ys) (length xs) 0 ≡ y
get_middle [] y ys = refl
get_middle (x ∷ xs) y ys = get_middle xs y ys

order : (a b : ℕ) → (a ≡ b → ⊥) → (a < b) ⊎ (b < a)
order a b other = by (nat_lt a b) (nat_lt b a) refl refl where
  by : (c d : Bool) → nat_lt a b ≡ c → nat_lt b a ≡ d → (a < b) ⊎ (b < a)
  by true d e f = inl (ltb-true a b e)
  by false true e f = inr (ltb-true b a f)
  by false false e f = let l = ltb-false a b e in let g = ltb-false b a f in absurd (other (omega arith))

next_count : (n used : ℕ) → used ≡ n % 65536 → little_bytes 2 (next16 used) ≡ little_bytes 2 (n + 1)
next_count n used e = ap (little_bytes 2) (let z : (used + 1) % 65536 ≡ (n + 1) % 65536 = omega arith in z) ∙ low_bytes (n + 1)

next_moved : (a b n : ℕ) → (a + b) % 65536 ≡ n % 65536 → (a + 1 + b) % 65536 ≡ (n + 1) % 65536
next_moved a b n e = omega arith

-- the acts on a ring after the answer's bytes: the used element, the used index, and the end of the request in hand
abbrev element_put : RingPlace → ℕ → ℕ → ℕ → Act
element_put r count head len = Node (Daemon_put (element_at r count) (little_bytes 4 head ++ little_bytes 4 len))

abbrev index_put : RingPlace → ℕ → Act
index_put r used = Node (Daemon_put (r.device + 2) (little_bytes 2 (next16 used)))

abbrev end_acts : RingPlace → ℕ → ℕ → ℕ → ℕ → ℕ → List Act
end_acts r q count used head len = Queue (Finished q) ∷ index_put r used ∷ element_put r count head len ∷ []

module _ (x : Setting) (r : RingPlace) (laid : IsLaid x r) (q count used head len : ℕ) where
  end_within : AreWithin r (end_acts r q count used head len)
  end_within = let z = slot_low count r.size laid.some in let d = laid.driver in let v = laid.device in (tt, ((omega arith, omega arith), ((omega arith, omega arith), tt)))

  -- they miss all but their own places
  below_device : (a : ℕ) → a < r.device → AllMiss (end_acts r q count used head len) a
  below_device a lo = (tt, (before_range (r.device + 2) 2 a (omega arith), (before_range (element_at r count) 8 a (omega arith), tt)))

  other_element : (k i : ℕ) → (k % r.size ≡ count % r.size → ⊥) → i < 8 → AllMiss (end_acts r q count used head len) (element_at r k + i)
  other_element k i other lo = (tt, (past_range (r.device + 2) 2 (element_at r k + i) (omega arith), (by (order (k % r.size) (count % r.size) other), tt))) where
    by : (k % r.size < count % r.size) ⊎ (count % r.size < k % r.size) → is_within (element_at r count) 8 (element_at r k + i) ≡ false
    by (inl l) = before_range (element_at r count) 8 (element_at r k + i) (omega arith)
    by (inr l) = past_range (element_at r count) 8 (element_at r k + i) (omega arith)

module _ (x : Setting) (small : IsAddressed x) (full : IsWhole x) (n : ℕ) (acts : List Act) (fair : Fair acts) (c : Calms x n acts) (q : ℕ) (ring : Ring) (there : ring_of acts q ≡ Some ring)
    (earlier : List Act) (taken : in_hand acts q ≡ Some earlier) (used len : ℕ) (at_pushed : used ≡ length (pushed_heads x acts q) % 65536) where
  abbrev r : RingPlace
  r = ring.place

  abbrev count : ℕ
  count = length (pushed_heads x acts q)

  abbrev head : ℕ
  head = (hand x earlier q).head

  abbrev new : List Act
  new = end_acts r q count used head len

  has : HasRing x acts q ring
  has = c.rings q ring there

  next : IsNext x acts q earlier
  next = has.inhand earlier taken

  laid : IsLaid x r
  laid = has.holds.laid

  hand_head : head ≡ get_or (placed_heads acts q) count 0
  hand_head = next.head ∙ sym next.next

  pushed_now : pushed_heads x (new ++ acts) q ≡ pushed_heads x acts q ++ head ∷ []
  pushed_now = ap (λ b. cond b (with_head (pushed_heads x acts q) (head_in_hand x acts q)) (pushed_heads x acts q)) (same_number q)
      ∙ ap (λ o. with_head (pushed_heads x acts q) (option_map (λ earlier. (hand x earlier q).head) o)) taken

  count_now : length (pushed_heads x acts q ++ head ∷ []) ≡ count + 1
  count_now = length-append (pushed_heads x acts q) (head ∷ [])

  outs_few : length (placed_heads acts q) ≤ reclaimed_count acts q + r.size
  outs_few = let a = apart_after acts q ring fair has.have there in let f = a.fit in let g = a.counted in let h = has.counted in omega arith

  rest_now : (rest : List ℕ) × (placed_heads acts q ≡ (pushed_heads x acts q ++ head ∷ []) ++ rest)
  rest_now = by has.holds.rest has.holds.first where
    by : (rest : List ℕ) → placed_heads acts q ≡ pushed_heads x acts q ++ rest → (rest : List ℕ) × (placed_heads acts q ≡ (pushed_heads x acts q ++ head ∷ []) ++ rest)
    by [] e =
        let l : length (placed_heads acts q) ≡ length (pushed_heads x acts q ++ []) = ap length e in
        let m : length (pushed_heads x acts q ++ []) ≡ count + 0 = length-append (pushed_heads x acts q) [] in
        let more = next.more in
        absurd (omega arith)
    by (y ∷ ys) e =
        let is : get_or (placed_heads acts q) count 0 ≡ y = ap (λ l. get_or l count 0) e ∙ get_middle (pushed_heads x acts q) y ys in
        (ys, e ∙ (ap (λ h. pushed_heads x acts q ++ h ∷ ys) (sym (hand_head ∙ is)) ∙ sym (append_assoc (pushed_heads x acts q) (head ∷ []) ys)))

  -- the answer that stands over the mappings of the request in hand
  module _ (legal : Legal x (new ++ acts)) (b : AddedChain) (b_out : Among b (chains_out acts q)) (b_head : head ≡ b.head) (end : Execution) (ended : execution_of acts q ≡ Some end) (g : Given x acts b (hand x earlier q)) (is_len : len ≡ (hand x earlier q).writable)
      (shows : (p : Streaming × List ℕ) → Among p (spread_over (take (parts_count g.asked) g.ms) (end.bytes ++ end.status ∷ [])) → Stands x acts (iova_of p.0) p.1) where
    high : (a : ℕ) → r.desc ≤ a → bounce_size x ≤ a
    high a lo = let l = laid.low in omega arith

    in_device : (a : ℕ) → r.device ≤ a → bounce_size x ≤ a
    in_device a lo = high a (let d = laid.driver in let v = laid.device in omega arith)

    index_stands : Stands x (new ++ acts) (r.device + 2) (little_bytes 2 (count + 1))
    index_stands = subst (Stands x (new ++ acts) (r.device + 2)) (next_count count used at_pushed)
        (stand_still x small full (Queue (Finished q) ∷ []) (index_put r used ∷ element_put r count head len ∷ acts) (r.device + 2) (little_bytes 2 (next16 used)) legal (λ i lo. (tt, tt)) (λ i lo. inl (in_device (r.device + 2 + i) (omega arith)))
        (daemon_stands x full (element_put r count head len ∷ acts) (r.device + 2) (little_bytes 2 (next16 used)) (in_device (r.device + 2) (omega arith)) legal.1))

    element_stands : Stands x (new ++ acts) (element_at r count) (little_bytes 4 head ++ little_bytes 4 len)
    element_stands =
        stand_still x small full (Queue (Finished q) ∷ index_put r used ∷ []) (element_put r count head len ∷ acts) (element_at r count) (little_bytes 4 head ++ little_bytes 4 len) legal
        (λ i lo. (tt, (past_range (r.device + 2) 2 (element_at r count + i) (omega arith), tt))) (λ i lo. inl (in_device (element_at r count + i) (omega arith)))
        (daemon_stands x full acts (element_at r count) (little_bytes 4 head ++ little_bytes 4 len) (in_device (element_at r count) (omega arith)) legal.1.1)

    old_element : (k : ℕ) → reclaimed_count acts q ≤ k → k < count → (l : ℕ) × Stands x (new ++ acts) (element_at r k) (little_bytes 4 (get_or (placed_heads acts q) k 0) ++ little_bytes 4 l)
    old_element k from to =
        let e = has.holds.elements k from to in
        let few = outs_few in
        let more = next.more in
        let other : k % r.size ≡ count % r.size → ⊥ = slots_differ r.size k count to (omega arith) in
        (e.0, high_still x small full new acts legal (element_at r k) (little_bytes 4 (get_or (placed_heads acts q) k 0) ++ little_bytes 4 e.0) (in_device (element_at r k) (omega arith)) (λ i lo. other_element x r laid q count used head len k i other lo) e.1)

    elements_now : (k : ℕ) → reclaimed_count acts q ≤ k → k < count + 1 → (l : ℕ) × Stands x (new ++ acts) (element_at r k) (little_bytes 4 (get_or (placed_heads acts q) k 0) ++ little_bytes 4 l)
    elements_now k from to = by (nat_lt k count) refl where
      by : (b : Bool) → nat_lt k count ≡ b → (l : ℕ) × Stands x (new ++ acts) (element_at r k) (little_bytes 4 (get_or (placed_heads acts q) k 0) ++ little_bytes 4 l)
      by true e = old_element k from (ltb-true k count e)
      by false e =
          let is : count ≡ k = (let l = ltb-false k count e in omega arith) in
          subst (λ k. (l : ℕ) × Stands x (new ++ acts) (element_at r k) (little_bytes 4 (get_or (placed_heads acts q) k 0) ++ little_bytes 4 l)) is
          (len, subst (λ h. Stands x (new ++ acts) (element_at r count) (little_bytes 4 h ++ little_bytes 4 len)) hand_head element_stands)

    misses_maps : (m : Streaming) → Among m (live_mappings acts) → (a : ℕ) → maps_address m a ≡ true → AllMiss new a
    misses_maps m j a here = within_all r new a (end_within x r laid q count used head len) (inl (let b = map_below x acts m a (sound x acts (earlier_legal x new acts legal)) j here in let o = laid.low in omega arith))

    fresh : Answered x (new ++ acts) r q (rings_made acts q) count b
    fresh = record {
      since = [];
      older = index_put r used ∷ element_put r count head len ∷ acts;
      split = refl;
      place = refl;
      same_ring = refl;
      earlier = earlier;
      taken = taken;
      end = end;
      ended = ended;
      head = b_head;
      given = given_still x (index_put r used ∷ element_put r count head len ∷ []) acts b (hand x earlier q) (λ m i o. i) g;
      alive = g.alive;
      len = subst (λ h. Stands x (new ++ acts) (element_at r count) (little_bytes 4 h ++ little_bytes 4 (hand x earlier q).writable)) b_head
          (subst (λ n. Stands x (new ++ acts) (element_at r count) (little_bytes 4 head ++ little_bytes 4 n)) is_len element_stands);
      shows = λ p i. (
          let j = spread_among (take (parts_count g.asked) g.ms) (end.bytes ++ end.status ∷ []) p i in
          let short : length p.1 ≤ p.0.want.len = j.1 in
          let there = g.alive p.0 (among_take (parts_count g.asked) p.0 g.ms j.0) in
          let here : (i : ℕ) → i < length p.1 → maps_address p.0 (iova_of p.0 + i) ≡ true = λ i lo. in_range (iova_of p.0) p.0.want.len (iova_of p.0 + i) (omega arith) (omega arith) in
          map_still x small full new acts legal p.0 there (iova_of p.0) p.1 here (λ i lo. misses_maps p.0 there (iova_of p.0 + i) (here i lo)) (shows p i));
    }

    answers_now : (k : ℕ) → reclaimed_count acts q ≤ k → k < count + 1 → (a : AddedChain) → Among a (chains_out acts q) → a.head ≡ get_or (placed_heads acts q) k 0 → Answered x (new ++ acts) r q (rings_made acts q) k a
    answers_now k from to a i e = by (nat_lt k count) refl where
      by : (b : Bool) → nat_lt k count ≡ b → Answered x (new ++ acts) r q (rings_made acts q) k a
      by true f =
          let low = ltb-true k count f in
          let few = outs_few in
          let more = next.more in
          let other : k % r.size ≡ count % r.size → ⊥ = slots_differ r.size k count low (omega arith) in
          answered_still x small full new acts legal r q (rings_made acts q) k a (in_device (element_at r k) (omega arith)) (λ j lo. other_element x r laid q count used head len k j other lo) (λ m j o. j) (λ m j o a here. misses_maps m j a here)
          (has.holds.answers k from low a i e)
      by false f =
          let is : count ≡ k = (let l = ltb-false k count f in omega arith) in
          let same : b.head ≡ a.head = sym b_head ∙ (hand_head ∙ (ap (λ k. get_or (placed_heads acts q) k 0) is ∙ sym e)) in
          let same_chain : b ≡ a = one_head (chains_out acts q) b a (apart_after acts q ring fair has.have there).distinct b_out i same in
          subst (λ k. Answered x (new ++ acts) r q (rings_made acts q) k a) is (subst (Answered x (new ++ acts) r q (rings_made acts q) count) same_chain fresh)

    holds_now : Holds x (new ++ acts) r (record { queue = q; made = rings_made acts q; placed = placed_heads acts q; pushed = pushed_heads x acts q ++ head ∷ []; out = chains_out acts q; reclaimed = reclaimed_count acts q })
    holds_now = record {
      laid = laid;
      held = record { region = has.holds.held.region; there = has.holds.held.there; covers = has.holds.held.covers };
      rest = rest_now.0;
      first = rest_now.1;
      back = (let b = has.holds.back in let k = count_now in omega arith);
      outs = has.holds.outs;
      index = high_still x small full new acts legal (r.driver + 2) (little_bytes 2 (length (placed_heads acts q))) (high (r.driver + 2) (let d = laid.driver in omega arith))
          (λ i lo. below_device x r laid q count used head len (r.driver + 2 + i) (let v = laid.device in omega arith)) has.holds.index;
      used = subst (λ k. Stands x (new ++ acts) (r.device + 2) (little_bytes 2 k)) (sym count_now) index_stands;
      slots = λ k from to. high_still x small full new acts legal (slot_at r k) (little_bytes 2 (get_or (placed_heads acts q) k 0)) (high (slot_at r k) (let d = laid.driver in omega arith))
          (λ i lo. below_device x r laid q count used head len (slot_at r k + i) (let z = slot_low k r.size laid.some in let v = laid.device in omega arith)) (has.holds.slots k (let g = count_now in omega arith) to);
      elements = λ k from to. elements_now k from (let g = count_now in omega arith);
      answers = λ k from to a i e. answers_now k from (let g = count_now in omega arith) a i e;
      chains = λ a i. chain_still x small full new acts legal r a laid.low
          (λ d j k lo. below_device x r laid q count used head len (r.desc + 16 * d + k) (let l = (has.holds.chains a i).low d j in let dr = laid.driver in let v = laid.device in omega arith))
          (λ m j k. j)
          (λ m j k goes a here. within_all r new a (end_within x r laid q count used head len) (inl (let b = map_below x acts m a (sound x acts (earlier_legal x new acts legal)) j here in let o = laid.low in omega arith)))
          (has.holds.chains a i);
    }

    ring_now : HasRing x (new ++ acts) q ring
    ring_now = record {
      holds = subst (λ l. Holds x (new ++ acts) r (record { queue = q; made = rings_made acts q; placed = placed_heads acts q; pushed = l; out = chains_out acts q; reclaimed = reclaimed_count acts q })) (sym pushed_now) holds_now;
      published = has.published;
      counted = has.counted;
      have = has.have;
      position = λ a e. (let p = has.position a e in record {
        from = p.from;
        loaded = p.loaded;
        moved = ap (λ b. (cond b (finishes acts q + 1) (finishes acts q) + p.from) % 65536) (same_number q)
            ∙ (next_moved (finishes acts q) p.from count p.moved ∙ sym (ap (λ l. length l % 65536) pushed_now ∙ ap (λ k. k % 65536) count_now));
      });
      inhand = λ a e. absurd (let f : None ≡ Some a = sym (ap (λ b. cond b None (in_hand acts q)) (same_number q)) ∙ e in cc);
    }

    pub end_calms : Calms x n (new ++ acts)
    end_calms = turn_calms x small full n new acts legal q (λ j other. (ne_eqb q j (λ z. other (sym z)), (tt, (tt, tt)))) refl
        (λ j s other e. within_spares x new acts (earlier_legal x new acts legal) r s.place laid (c.rings j s e).holds.laid (end_within x r laid q count used head len) (c.apart q j ring s (λ f. other (sym f)) there e) (chains_out acts j))
        (λ s e. (let both : Some ring ≡ Some s = sym there ∙ e in let is : ring ≡ s = cc in subst (HasRing x (new ++ acts) q) is ring_now)) (λ a i. inl i) c

-- ---- the whole

module _ (x : Setting) (small : IsAddressed x) (full : IsWhole x) (n : ℕ) (done : List Act) (legal : Legal x done) (fair : Fair done) (c : Calms x n done) (q : ℕ) where
  module _ (ring : Ring) (there : ring_of done q ≡ Some ring) (same : queue_place done q ≡ ring.place) (earlier : List Act) (taken : in_hand done q ≡ Some earlier) (end : Execution) where
    abbrev bytes_put : List Act
    bytes_put = spread_acts (hand x earlier q).parts (end.bytes ++ end.status ∷ []) []

    abbrev last : ℕ
    last = used_position x done q

    first : IsFirst x done q
    first = first_is x small done fair q ring (c.rings q ring there) same

    last_is : last ≡ length (pushed_heads x done q) % 65536
    last_is = let e : last ≡ index_after (finishes done q) first.from = rw first.is refl in e ∙ first.finished

    are_parts : AreParts done bytes_put
    are_parts = spread_parts done (hand x earlier q).parts (end.bytes ++ end.status ∷ []) []
        (λ p i w. (let m = ((c.rings q ring there).inhand earlier taken).parts p i w in (m.0, m.1, m.3))) tt

    are_puts : list_all is_put bytes_put ≡ true
    are_puts = spread_acts_put (hand x earlier q).parts (end.bytes ++ end.status ∷ []) [] refl

    its_same : Same x (bytes_put ++ done) done q
    its_same = same_by x q bytes_put done (part_elsewhere done bytes_put q are_parts)

    s : Sound x done
    s = sound x done legal

    coming : IsNext x done q earlier
    coming = (c.rings q ring there).inhand earlier taken

    its : Given x done coming.chain (hand x earlier q)
    its = coming.given

    abbrev part_maps : List Streaming
    part_maps = take (parts_count its.asked) its.ms

    bytes_is : bytes_put ≡ spread_acts (map mapping_part part_maps) (end.bytes ++ end.status ∷ []) []
    bytes_is = ap (λ ps. spread_acts ps (end.bytes ++ end.status ∷ []) []) its.parts

    own_number : (m : Streaming) → Among m part_maps → Among m.number (maps_of coming.chain.request)
    own_number m i = comes_own done coming.chain its.ms its.asked its.done its.comes m (among_take (parts_count its.asked) m its.ms i)

    -- they miss the other mappings
    miss_map : (l : Streaming) → Among l (live_mappings done) → (Among l.number (maps_of coming.chain.request) → ⊥) → (a : ℕ) → maps_address l a ≡ true → AllMiss bytes_put a
    miss_map l there none a here = subst (λ acts. AllMiss acts a) (sym bytes_is) (spread_misses part_maps (end.bytes ++ end.status ∷ []) [] a
        (λ n i. one_map x done l n a s there (its.alive n (among_take (parts_count its.asked) n its.ms i)) here (λ e. none (subst (λ k. Among k.number (maps_of coming.chain.request)) (sym e) (own_number n i)))) tt)

    live_is : (m : Streaming) → Among m (live_mappings done) → Among m (live_mappings (bytes_put ++ done))
    live_is m i = subst (Among m) (sym (parts_live done bytes_put are_parts).0) i

    -- two heads that are out, at two places
    places_differ : (k : ℕ) → reclaimed_count done q ≤ k → k < length (pushed_heads x done q) → get_or (placed_heads done q) k 0 ≡ get_or (placed_heads done q) (length (pushed_heads x done q)) 0 → ⊥
    places_differ k from to e =
        let h = c.rings q ring there in
        distinct_at (reclaimed_count done q) k (length (pushed_heads x done q)) (placed_heads done q) (subst AreDistinct h.holds.outs (apart_after done q ring fair h.have there).distinct) from to coming.more e

    put_calms : Legal x (bytes_put ++ done) → Calms x n (bytes_put ++ done)
    put_calms l = turn_calms x small full n bytes_put done l q (λ u other. part_elsewhere done bytes_put u are_parts) its_same.ring
        (λ u r other e. (let laid = (c.rings u r e).holds.laid in record {
          table = λ a lo hi. parts_high x done s bytes_put a are_parts (let l = laid.low in omega arith);
          driver = λ a lo hi. parts_high x done s bytes_put a are_parts (let l = laid.low in let d = laid.driver in omega arith);
          device = λ a lo hi. parts_high x done s bytes_put a are_parts (let l = laid.low in let d = laid.driver in let e = laid.device in omega arith);
          alive = λ b i m j k. live_is m j;
          tables = λ b i m j k a here. miss_map m j (λ o. c.alone q u (λ f. other (sym f)) coming.chain b coming.there i m.number o k) a here;
          regions = λ b i. subst (Among b) (sym (parts_live done bytes_put are_parts).1) i;
        }))
        own_ring (λ a i. inl (subst (Among a) its_same.out i)) c where
          own_ring : (r : Ring) → ring_of done q ≡ Some r → HasRing x (bytes_put ++ done) q r
          own_ring r e =
              let h = c.rings q r e in
              let laid = h.holds.laid in
              ring_from x small full bytes_put done l q its_same r (λ b i m j k. live_is m j) (holds_by x small full bytes_put done l r.place (course_of x done q) (record {
                table = λ a lo hi. parts_high x done s bytes_put a are_parts (let l = laid.low in omega arith);
                driver = λ a lo hi. parts_high x done s bytes_put a are_parts (let l = laid.low in let d = laid.driver in omega arith);
                device = λ a lo hi. parts_high x done s bytes_put a are_parts (let l = laid.low in let d = laid.driver in let e = laid.device in omega arith);
                alive = λ b i m j k. live_is m j;
                tables = λ b i m j k goes a here. parts_low x done s bytes_put m a are_parts j goes here;
                regions = λ b i. subst (Among b) (sym (parts_live done bytes_put are_parts).1) i;
              }) (λ k from to a i f.
              let high : bounce_size x ≤ element_at r.place k = (let l = laid.low in let d = laid.driver in let v = laid.device in omega arith) in
              answered_still x small full bytes_put done l r.place q (rings_made done q) k a high (λ j lo. parts_high x done s bytes_put (element_at r.place k + j) are_parts (omega arith)) (λ m j o. live_is m j)
              (λ m j o b here. miss_map m j (λ p.
              let same_chain : a ≡ coming.chain = ((chained x done legal).own q).once a coming.chain i coming.there m.number o p in
              places_differ k from to (sym f ∙ (ap (λ c. c.head) same_chain ∙ sym coming.next))) b here) (h.holds.answers k from to a i f)) h.holds) h

    put_shows : Legal x (bytes_put ++ done) → (p : Streaming × List ℕ) → Among p (spread_over part_maps (end.bytes ++ end.status ∷ [])) → Stands x (bytes_put ++ done) (iova_of p.0) p.1
    put_shows l p i = subst (λ acts. Stands x (acts ++ done) (iova_of p.0) p.1) (sym bytes_is)
        (spread_stands x small full part_maps (end.bytes ++ end.status ∷ []) done (λ m j. its.alive m (among_take (parts_count its.asked) m its.ms j))
        (own_distinct (parts_count its.asked) its.ms (subst (λ o. Distinct (maps_of o)) its.comes.is (((chained x done legal).own q).distinct coming.chain coming.there)))
        (subst (λ acts. Legal x (acts ++ done)) bytes_is l) p i)

    finished_calms : execution_of done q ≡ Some end → Legal x (Queue (Finished q) ∷ finish_puts (queue_place done q) last (hand x earlier q) end ++ done)
        → Calms x n (Queue (Finished q) ∷ finish_puts (queue_place done q) last (hand x earlier q) end ++ done)
    finished_calms ended l =
        let h = c.rings q ring there in
        let r = ring.place in
        let count = length (pushed_heads x (bytes_put ++ done) q) in
        let writable = (hand x earlier q).writable in
        let head = (hand x earlier q).head in
        let at_pushed : last ≡ count % 65536 = last_is ∙ sym (ap (λ l. length l % 65536) its_same.pushed) in
        let index_at : used_index_at (queue_place done q) ≡ r.device + 2 = ap used_index_at same ∙ used_plain x small r h.holds.laid in
        let element_here : used_element_at (queue_place done q) last ≡ element_at r count =
        ap (λ p. used_element_at p last) same ∙ (element_plain x small r h.holds.laid last ∙ ap (λ k. r.device + (4 + 8 * k)) (ap (λ k. k % r.size) at_pushed ∙ h.holds.laid.cyclic count)) in
        let is : Queue (Finished q) ∷ finish_puts (queue_place done q) last (hand x earlier q) end ++ done ≡ end_acts r q count last head writable ++ (bytes_put ++ done) =
        ap (λ a. Queue (Finished q) ∷ Node (Daemon_put a (little_bytes 2 (next16 last))) ∷ Node (Daemon_put (used_element_at (queue_place done q) last) (little_bytes 4 head ++ little_bytes 4 writable)) ∷ bytes_put ++ done) index_at
        ∙ ap (λ a. Queue (Finished q) ∷ index_put r last ∷ Node (Daemon_put a (little_bytes 4 head ++ little_bytes 4 writable)) ∷ bytes_put ++ done) element_here in
        let moved_legal = subst (Legal x) is l in
        subst (Calms x n) (sym is)
        (end_calms x small full n (bytes_put ++ done) (puts_fair bytes_put done are_puts fair) (put_calms moved_legal.1.1.1) q ring (its_same.ring ∙ there) earlier (puts_kept bytes_put done q are_puts ∙ taken) last writable at_pushed moved_legal
        coming.chain (subst (Among coming.chain) (sym its_same.out) coming.there) coming.head end (puts_executed bytes_put done q are_puts ∙ ended)
        (given_still x bytes_put done coming.chain (hand x earlier q) (λ m i o. live_is m i) its) refl (put_shows moved_legal.1.1.1))

  -- a finish on the queue, which is described to the device where it is ready
  pub finish_calms : (made : Creation) → (is_ready (state_acts done) q ≡ true → IsDescribed done q) → Legal x ((finish_turn x made done q).acts ++ done) → Calms x n ((finish_turn x made done q).acts ++ done)
  finish_calms made described = finish_is (λ acts. Legal x (acts ++ done) → Calms x n (acts ++ done)) (λ l. c) x made done q (λ earlier f end g.
      let p = position_after done q fair in
      let d = described (p.ready (p.there (ap is_some f))) in
      finished_calms d.ring d.there d.same earlier f end g)
