-- A submitted request is legal: its buffers, then its mappings, then the writes of its ring.
use Rattle.std.proofs.Common.{◌≡◌, ℕ, ◌+◌, ◌<◌, ◌≤◌, Bool, true, false, refl, ap, subst, ◌∙◌, sym, arith, Option, None, Some, List, [], ◌∷◌, ◌++◌, map, take, nat_lt, append_assoc, if◌then◌else◌, ◌⊎◌, inl, inr}
use Rattle.std.specs.Option.{option_map, option_map_or}
use Rattle.vd_num.specs.Number.{pages_of}
use Rattle.vd_num.specs.declared.errno.Errno.TheVariants.{Noent, Nospc}
use Rattle.vd_model.specs.declared.memory.Dir.TheVariants.{From}
use Rattle.vd_model.specs.declared.memory.Want.{Want}
use Rattle.vd_model.specs.declared.parts.Part.{Part}
use Rattle.vd_model.specs.Setting.{Setting}
use Rattle.vd_model.specs.Creation.{Creation}
use Rattle.vd_model.specs.Acts.{Act, Driver, Queue, Streaming, AddedChain, Mapped, Chain_added}
use Rattle.vd_model.specs.Live.{buffers, buffers_len, maps, buffer_len, live_mappings}
use Rattle.vd_model.specs.Place.{Slots, place_of, taken_slots, mapping_slots}
use Rattle.vd_model.specs.Queues.{Ring, chains_out, added_count, free_descriptors}
use Rattle.vd_model.specs.Turn.{Turn, refuse, refusal_turn, refusal_if}
use Rattle.vd_model.specs.DriverTurns.{buffer_limit}
use Rattle.vd_model.specs.RingTurns.{AskedRequest, want_refusal, made_len, needed_descriptors, is_full, part_wants, table_wants, given_want, placed_mapping, placed_mappings, mapping_part, parts_count, buffer_acts, map_acts, writable_of, slot_put, first_of, request_puts, request_acts, submitted_turn, submit_asked}
use Rattle.vd_laws.specs.Among.{Among}
use Rattle.vd_laws.proofs.Lists.{pushed, among_left, push_right}
use Rattle.vd_laws.proofs.Legal.{IsHigh, IsNewChain, maps_of, Distinct, Legal}
use Rattle.vd_laws.proofs.Chains.{chained}
use Rattle.vd_laws.proofs.Places.{there_made, taken_slots_held, fresh}
use Rattle.vd_laws.proofs.RingPuts.{ArePuts, puts_legal, puts_maps, puts_out, request_put, slot_high, index_high}
use Rattle.vd_laws.proofs.Refusals.{refuse_turn, there_turn}

-- ---- the mappings

-- some mappings made in this order after these acts, numbered from n on
pub record AreMade (x : Setting) (acts : List Act) (n : ℕ) (ms : List Streaming) : Type 0 where
  pub legal : Legal x (map_acts ms ++ acts)
  pub low : (k : ℕ) → Among k (map (λ m. m.number) ms) → n ≤ k
  pub high : (k : ℕ) → Among k (map (λ m. m.number) ms) → k < maps (map_acts ms ++ acts)
  pub more : maps acts ≤ maps (map_acts ms ++ acts)
  pub distinct : Distinct (map (λ m. m.number) ms)
  pub same : (q : ℕ) → chains_out (map_acts ms ++ acts) q ≡ chains_out acts q

no_maps : (x : Setting) (acts : List Act) (n : ℕ) → Legal x acts → AreMade x acts n []
no_maps x acts n h = record { legal = h; low = λ k j. absurd j; high = λ k j. absurd j; more = omega arith; distinct = tt; same = λ q. refl }

one_more : (x : Setting) (acts : List Act) (n : ℕ) (m : Streaming) (ms : List Streaming) → m.number ≡ n → n ≡ maps acts → AreMade x (Driver (Mapped m) ∷ acts) (n + 1) ms → AreMade x acts n (m ∷ ms)
one_more x acts n m ms is at a =
    let front = sym (append_assoc (map_acts ms) (Driver (Mapped m) ∷ []) acts) in
    let up : maps acts + 1 ≤ maps (map_acts ms ++ Driver (Mapped m) ∷ acts) = a.more in
    record {
      legal = subst (Legal x) front a.legal;
      low = λ k j. elim j [ inl e ↦ (let f : k ≡ m.number = e in omega arith) | inr i ↦ (let l = a.low k i in omega arith) ];
      high = λ k j. subst (λ l. k < maps l) front (elim j [ inl e ↦ (let f : k ≡ m.number = e in omega arith) | inr i ↦ a.high k i ]);
      more = subst (λ l. maps acts ≤ maps l) front (omega arith);
      distinct = ((λ i. (let l = a.low m.number i in omega arith)), a.distinct);
      same = λ q. ap (λ l. chains_out l q) (sym front) ∙ a.same q;
    }

-- what the wants from here on make
abbrev Makes : Setting → List Want → List Slots → ℕ → Type 0
Makes x wants held number = (acts : List Act) (ms : List Streaming) → placed_mappings x held number wants ≡ Some ms
    → ((l : Streaming) → Among l (live_mappings acts) → Among (mapping_slots l) held) → number ≡ maps acts → ((w : Want) → Among w wants → w.buffer < buffers acts)
    → Legal x acts → AreMade x acts number ms

next_made : (x : Setting) (want : Want) (wants : List Want) (held : List Slots) (number slot : ℕ) → place_of held (pages_of want.len) x.per_page x.bounce ≡ Some slot
    → Makes x wants (held ++ record { start = slot; count = pages_of want.len } ∷ []) (number + 1)
    → (acts : List Act) (ms : List Streaming) → (o : Option (List Streaming)) → placed_mappings x (held ++ record { start = slot; count = pages_of want.len } ∷ []) (number + 1) wants ≡ o
    → option_map (λ ms. record { number = number; slot = slot; want = want } ∷ ms) o ≡ Some ms
    → ((l : Streaming) → Among l (live_mappings acts) → Among (mapping_slots l) held) → number ≡ maps acts → ((w : Want) → Among w (want ∷ wants) → w.buffer < buffers acts)
    → Legal x acts → AreMade x acts number ms
next_made x want wants held number slot f later acts ms None i j all is made h = cc
next_made x want wants held number slot f later acts ms (Some rest) i j all is made h =
    let m : Streaming = record { number = number; slot = slot; want = want } in
    let same : m ∷ rest ≡ ms = cc in
    let more = later (Driver (Mapped m) ∷ acts) rest i
    (λ l k. elim (pushed l m (live_mappings acts) k) [ inl g ↦ among_left (mapping_slots l) held (mapping_slots m ∷ []) (all l g) | inr e ↦ subst (λ l. Among (mapping_slots l) (held ++ mapping_slots m ∷ [])) (sym e) (push_right (mapping_slots m) held) ])
    (let e : number + 1 ≡ maps acts + 1 = omega arith in e)
    (λ w k. made w (inr k))
    (fresh x acts held all number is want (made want (inl refl)) slot f, h) in
    subst (AreMade x acts number) same (one_more x acts number m rest refl is more)

pub placed_mappings_made : (x : Setting) (wants : List Want) (held : List Slots) (number : ℕ) → Makes x wants held number
placed_mappings_made x [] held number acts ms e all is made h = let none : [] ≡ ms = cc in subst (AreMade x acts number) none (no_maps x acts number h)
placed_mappings_made x (want ∷ wants) held number acts ms e all is made h =
    by (place_of held (pages_of want.len) x.per_page x.bounce) refl e (λ slot. placed_mappings_made x wants (held ++ record { start = slot; count = pages_of want.len } ∷ []) (number + 1)) where
      by : (o : Option ℕ) → place_of held (pages_of want.len) x.per_page x.bounce ≡ o
          → placed_mapping want number o (λ slot. placed_mappings x (held ++ record { start = slot; count = pages_of want.len } ∷ []) (number + 1) wants) ≡ Some ms
          → ((slot : ℕ) → Makes x wants (held ++ record { start = slot; count = pages_of want.len } ∷ []) (number + 1)) → AreMade x acts number ms
      by None f g later = cc
      by (Some slot) f g later =
          next_made x want wants held number slot f (later slot) acts ms (placed_mappings x (held ++ record { start = slot; count = pages_of want.len } ∷ []) (number + 1) wants) refl g all is made h

-- ---- the buffers

-- the buffers of a request are there before its mappings
pub record AreReady (x : Setting) (done acts : List Act) (a : AskedRequest) (indirect : Bool) : Type 0 where
  pub legal : Legal x acts
  pub same_live : live_mappings acts ≡ live_mappings done
  pub same_maps : maps acts ≡ maps done
  pub same_out : (q : ℕ) → chains_out acts q ≡ chains_out done q
  pub wants : (w : Want) → Among w (part_wants (buffers done) a ++ table_wants indirect (buffers done) a) → w.buffer < buffers acts

refusal_if_there : (o : Option Want) (w : Want) → Among w (given_want o) → o ≡ Some w
refusal_if_there None w h = absurd h
refusal_if_there (Some want) w (inl e) = ap Some (sym e)
refusal_if_there (Some want) w (inr h) = absurd h

split_among : {X : Type 0} (m : X) (xs ys : List X) → Among m (xs ++ ys) → Among m xs ⊎ Among m ys
split_among m [] ys h = inr h
split_among m (x ∷ xs) ys (inl e) = inl (inl e)
split_among m (x ∷ xs) ys (inr h) = elim (split_among m xs ys h) [ inl k ↦ inl (inr k) | inr k ↦ inr k ]

part_made : (n bound : ℕ) (a : AskedRequest) → n < bound → ((w : Want) → a.want ≡ Some w → w.buffer < bound) → (w : Want) → Among w (part_wants n a) → w.buffer < bound
part_made n bound a low there w (inl e) = let f : w.buffer ≡ n = ap (λ w. w.buffer) e in omega arith
part_made n bound a low there w (inr h) = by (split_among w (given_want a.want) _ h) where
  by : Among w (given_want a.want) ⊎ Among w (record { buffer = n; offset = 16; len = 1; dir = From } ∷ []) → w.buffer < bound
  by (inl k) = there w (refusal_if_there a.want w k)
  by (inr (inl e)) = let f : w.buffer ≡ n = ap (λ w. w.buffer) e in omega arith
  by (inr (inr k)) = absurd k

ready : (x : Setting) (done : List Act) (a : AskedRequest) (indirect : Bool) (parts : List Part) → Legal x done → ((w : Want) → a.want ≡ Some w → w.buffer < buffers done)
    → AreReady x done (buffer_acts indirect a parts ++ done) a indirect
ready x done a true parts h there = record {
  legal = (tt, (tt, h));
  same_live = refl;
  same_maps = refl;
  same_out = λ q. refl;
  wants = λ w k. by w (split_among w (part_wants (buffers done) a) _ k);
} where
  by : (w : Want) → Among w (part_wants (buffers done) a) ⊎ Among w (table_wants true (buffers done) a) → w.buffer < buffers done + 1 + 1
  by w (inl k) = part_made (buffers done) (buffers done + 1 + 1) a (omega arith) (λ w e. (let g = there w e in omega arith)) w k
  by w (inr (inl e)) = let f : w.buffer ≡ buffers done + 1 = ap (λ w. w.buffer) e in omega arith
  by w (inr (inr k)) = absurd k
ready x done a false parts h there = record {
  legal = (tt, h);
  same_live = refl;
  same_maps = refl;
  same_out = λ q. refl;
  wants = λ w k. by w (split_among w (part_wants (buffers done) a) _ k);
} where
  by : (w : Want) → Among w (part_wants (buffers done) a) ⊎ Among w (table_wants false (buffers done) a) → w.buffer < buffers done + 1
  by w (inl k) = part_made (buffers done) (buffers done + 1) a (omega arith) (λ w e. (let g = there w e in omega arith)) w k
  by w (inr k) = absurd k

-- ---- the whole

module _ (x : Setting) (made : Creation) (done : List Act) (legal : Legal x done) (q : ℕ) (ring : Ring) (high : IsHigh x ring.place) where
  -- a chain that the ring takes after some mappings
  chain_new : (n : ℕ) (ms : List Streaming) (first : List Act) → live_mappings first ≡ live_mappings done → chains_out first q ≡ chains_out done q → n ≡ maps done → AreMade x first n ms
      → (puts : List Act) → ArePuts x puts → (chain : AddedChain) → maps_of chain.request ≡ map (λ m. m.number) ms → IsNewChain (puts ++ (map_acts ms ++ first)) q chain
  chain_new n ms first e f g a puts p chain same = record {
    distinct = subst Distinct (sym same) a.distinct;
    made = λ k j. subst (λ b. k < b) (sym (puts_maps x puts (map_acts ms ++ first) p)) (a.high k (subst (Among k) same j));
    apart = λ c h k i j. (
        let there : Among c (chains_out done q) = subst (Among c) (puts_out x puts (map_acts ms ++ first) q p ∙ (a.same q ∙ f)) h in
        let below = ((chained x done legal).own q).below c there k i in
        let above = a.low k (subst (Among k) same j) in
        absurd (omega arith));
  }

  request_legal : (indirect : Bool) (a : AskedRequest) (ms : List Streaming) (parts : List Part) (ds : List ℕ) → ((w : Want) → a.want ≡ Some w → w.buffer < buffers done)
      → placed_mappings x (taken_slots done) (maps done) (part_wants (buffers done) a ++ table_wants indirect (buffers done) a) ≡ Some ms
      → Legal x (request_acts done q ring indirect a ms parts ds ++ done)
  request_legal indirect a ms parts ds there e =
      let first = buffer_acts indirect a parts ++ done in
      let r = ready x done a indirect parts legal there in
      let m = placed_mappings_made x (part_wants (buffers done) a ++ table_wants indirect (buffers done) a) (taken_slots done) (maps done) first ms e
      (λ l h. taken_slots_held done l (subst (Among l) r.same_live h)) (sym r.same_maps) r.wants r.legal in
      let puts = slot_put ring.place (added_count done q) (first_of ds) ∷ request_puts indirect ring.place a ms parts ds in
      let p : ArePuts x puts = (slot_high x ring.place high (added_count done q), request_put x ring.place high indirect a ms parts ds) in
      let chain : AddedChain = record {
        head = first_of ds;
        descriptors = ds;
        request = Some (record { buffer = buffers done; buffers = (if indirect then 2 else 1); maps = map (λ m. m.number) ms; writable = writable_of parts });
      } in
      let rest = request_puts indirect ring.place a ms parts ds in
      let is : rest ++ (map_acts ms ++ first) ≡ rest ++ map_acts ms ++ buffer_acts indirect a parts ++ done =
      sym (append_assoc rest (map_acts ms) first) ∙ sym (append_assoc (rest ++ map_acts ms) (buffer_acts indirect a parts) done) in
      subst (λ l. Legal x (Queue (Chain_added q chain) ∷ slot_put ring.place (added_count done q) (first_of ds) ∷ l)) is
      (chain_new (maps done) ms first r.same_live (r.same_out q) refl m puts p chain refl, puts_legal x puts (map_acts ms ++ first) p m.legal)

  submitted_turn_legal : (indirect : Bool) (a : AskedRequest) (ms : List Streaming) (ds : List ℕ) → ((w : Want) → a.want ≡ Some w → w.buffer < buffers done)
      → placed_mappings x (taken_slots done) (maps done) (part_wants (buffers done) a ++ table_wants indirect (buffers done) a) ≡ Some ms
      → Legal x ((submitted_turn x done q ring indirect a ms ds).acts ++ done)
  submitted_turn_legal indirect a ms ds there e =
      (tt, (index_high x ring.place high, request_legal indirect a ms (map mapping_part (take (parts_count a) ms)) ds there e))

  wanted : (kind : ℕ) (o : Option Want) → want_refusal made done kind o ≡ None → (w : Want) → o ≡ Some w → w.buffer < buffers done
  wanted kind None e w f = cc
  wanted kind (Some want) e w f = by (buffer_len done want.buffer) refl where
    by : (o : Option ℕ) → buffer_len done want.buffer ≡ o → w.buffer < buffers done
    by None g = let h : Some Noent ≡ None = rw g at e in cc
    by (Some size) g = let same : want ≡ w = cc in subst (λ w. w.buffer < buffers done) same (there_made done want.buffer size g)

  pub submit_legal : (indirect : Bool) (a : AskedRequest) → Legal x ((submit_asked x made done q ring indirect a).acts ++ done)
  submit_legal indirect a =
      let wants = part_wants (buffers done) a ++ table_wants indirect (buffers done) a in
      let ds = take (needed_descriptors indirect a) (free_descriptors ring.place.size (chains_out done q)) in
      let third : Turn Act = option_map_or (λ ms. submitted_turn x done q ring indirect a ms ds) (placed_mappings x (taken_slots done) (maps done) wants) (refusal_turn Nospc) in
      let second : Turn Act = refuse (refusal_if (is_full ring.place.size (chains_out done q) (needed_descriptors indirect a)) Nospc) third in
      let first : Turn Act = refuse (refusal_if (nat_lt buffer_limit (buffers_len done + made_len indirect a)) Nospc) second in
      refuse_turn x done legal (want_refusal made done a.kind a.want) first (λ e.
      refuse_turn x done legal (refusal_if (nat_lt buffer_limit (buffers_len done + made_len indirect a)) Nospc) second (λ f.
      refuse_turn x done legal (refusal_if (is_full ring.place.size (chains_out done q) (needed_descriptors indirect a)) Nospc) third (λ g.
      there_turn x done legal (λ ms. submitted_turn x done q ring indirect a ms ds) (placed_mappings x (taken_slots done) (maps done) wants) Nospc (λ ms h.
      submitted_turn_legal indirect a ms ds (wanted a.kind a.want e) h))))
