-- A submit places a request that shares nothing with those that are out.
use Rattle.std.proofs.Common.{◌≡◌, ℕ, zero, suc, ◌+◌, ◌*◌, ◌^◌, ◌==◌, ◌<◌, ◌≤◌, Bool, true, false, refl, ap, subst, ◌∙◌, sym, arith, cond, Option, None, Some, is_some, List, [], ◌∷◌, ◌++◌, length, take, drop, map, nat_lt, ◌&&◌, append_assoc, if◌then◌else◌, true≢false, ◌⊎◌, inl, inr}
use Rattle.std.specs.Option.{option_map, option_map_or}
use Rattle.std.specs.List.{list_all, list_any}
use Rattle.std.proofs.lemmas.Bool.{and_parts, ltb-false}
use Rattle.std.proofs.lemmas.List.{length-map, length-append, append_cancel_left, map-append}
use Rattle.vd_num.specs.Number.{pages_of}
use Rattle.vd_num.specs.declared.errno.Errno.{Errno}
use Rattle.vd_num.specs.declared.errno.Errno.TheVariants.{Inval, Noent, Nospc}
use Rattle.vd_model.specs.declared.memory.Dir.TheVariants.{To}
use Rattle.vd_model.specs.declared.memory.Want.{Want}
use Rattle.vd_model.specs.declared.parts.Part.{Part}
use Rattle.vd_model.specs.declared.queue.RingPlace.{RingPlace}
use Rattle.vd_model.specs.declared.step.SubmitForm.{SubmitForm}
use Rattle.vd_model.specs.Setting.{Setting}
use Rattle.vd_model.specs.Creation.{Creation}
use Rattle.vd_model.specs.Acts.{Act, Driver, Queue, AddedChain, Request, Streaming, Buffer, Mapped, Driver_put, Chain_added, Chains_published}
use Rattle.vd_model.specs.Live.{buffers, buffers_len, maps, live_mappings, iova_of, maps_address}
use Rattle.vd_model.specs.Place.{Slots, place_of, taken_slots}
use Rattle.vd_model.specs.Queues.{Ring, ring_of, chains_out, added_count, free_descriptors}
use Rattle.vd_model.specs.Rings.{available_slot_at}
use Rattle.vd_model.specs.Raw.{little_bytes}
use Rattle.vd_model.specs.Puts.{ram, ram_bytes}
use Rattle.vd_model.specs.Turn.{Turn, refuse, refusal_turn}
use Rattle.vd_model.specs.BusTurns.{is_missing}
use Rattle.vd_model.specs.DriverTurns.{buffer_limit}
use Rattle.vd_model.specs.DaemonTurns.{has_indirect}
use Rattle.vd_model.specs.RingTurns.{descriptor_bytes, first_of, slot_put, is_full, AskedRequest, asked_by, want_refusal, parts_count, table_len, made_len, header_and_status, part_wants, table_wants, placed_mapping, placed_mappings, mapping_part, table_bytes, buffer_acts, map_acts, writable_of, table_puts, last_after, request_puts, submitted_turn, needed_descriptors, submit_turn}
use Rattle.vd_laws.specs.Among.{Among}
use Rattle.vd_laws.specs.Runs.{IsAddressed, IsWhole}
use Rattle.vd_ring_laws.specs.Heads.{placed_heads}
use Rattle.vd_laws.proofs.Lists.{any_true, among_map, push_left, push_right}
use Rattle.vd_laws.proofs.Legal.{Legal}
use Rattle.vd_laws.proofs.Sound.{sound, earlier_legal}
use Rattle.vd_laws.proofs.Ranges.{in_range}
use Rattle.vd_laws.proofs.Chains.{chained}
use Rattle.vd_ring_laws.proofs.Fair.{Fair}
use Rattle.vd_ring_laws.proofs.Takes.{free_descriptors_is, submit_fair}
use Rattle.vd_ring_laws.proofs.Drivers.{are_driver, is_driver, append_driver, maps_driver, buffers_driver, request_puts_driver}
use Rattle.vd_ring_bytes.proofs.Numbers.{same_number}
use Rattle.vd_ring_bytes.proofs.StandingBytes.{Stands, stand_still, driver_stands}
use Rattle.vd_ring_bytes.proofs.RingLayout.{IsLaid, index_plain, slot_plain}
use Rattle.vd_ring_bytes.proofs.RequestSource.{one_way, told_bytes}
use Rattle.vd_ring_bytes.proofs.RingMemory.{Linked, IsNamed, HasChain, slot_at}
use Rattle.vd_ring_bytes.proofs.SameRing.{IsElsewhere, AreElsewhere, Same, same_by, same_after}
use Rattle.vd_ring_turns.proofs.CalmRings.{Calms}
use Rattle.vd_ring_turns.proofs.RingSpares.{IsOwn, within_live, within_all, map_below}
use Rattle.vd_order_laws.proofs.PlainLines.{is_plain, plain_calms}
use Rattle.vd_ring_bytes.proofs.Wants.{wants_are, wanted, parts_want, in_order, not_long, count_is, short_want, asked_short, free_distinct, length_take}
use Rattle.vd_ring_turns.proofs.ChainAdds.{IsTabled, top_acts, index_act, slot_act, added_calms}
use Rattle.vd_ring_turns.proofs.RequestTables.{each_count, maps_handed, put_at, one_tabled, chain_tabled, chain_linked, table_linked, table_len_is, handed_stands, map_push, split_last, last_is}
use Rattle.vd_ring_turns.proofs.Fetches.{refuse_with}

-- ---- what a submit has tested

module _ (P : List Act → Type 0) (nothing : P []) where
  refuse_by : (o : Option Errno) (turn : Turn Act) → (o ≡ None → P turn.acts) → P (refuse o turn).acts
  refuse_by None turn h = h refl
  refuse_by (Some errno) turn h = nothing

  there_by : {X : Type 0} (turn : X → Turn Act) (o : Option X) (errno : Errno) → ((y : X) → o ≡ Some y → P (turn y).acts) → P (option_map_or turn o (refusal_turn errno)).acts
  there_by turn None errno h = nothing
  there_by turn (Some y) errno h = h y refl

  pub submit_with : (x : Setting) (made : Creation) (done : List Act) (q : ℕ) (asked : SubmitForm)
      → ((ring : Ring) → ring_of done q ≡ Some ring → want_refusal made done (asked_by asked).kind (asked_by asked).want ≡ None
      → is_full ring.place.size (chains_out done q) (needed_descriptors (has_indirect done) (asked_by asked)) ≡ false
      → (ms : List Streaming) → placed_mappings x (taken_slots done) (maps done) (part_wants (buffers done) (asked_by asked) ++ table_wants (has_indirect done) (buffers done) (asked_by asked)) ≡ Some ms
      → P (submitted_turn x done q ring (has_indirect done) (asked_by asked) ms (take (needed_descriptors (has_indirect done) (asked_by asked)) (free_descriptors ring.place.size (chains_out done q)))).acts)
      → P (submit_turn x made done q asked).acts
  submit_with x made done q asked leaf =
      let indirect = has_indirect done in
      let a = asked_by asked in
      refuse_with P nothing (is_missing made q) Inval _ (λ e.
      there_by _ (ring_of done q) Noent (λ ring f.
      refuse_by (want_refusal made done a.kind a.want) _ (λ g.
      refuse_with P nothing (nat_lt buffer_limit (buffers_len done + made_len indirect a)) Nospc _ (λ h.
      refuse_with P nothing (is_full ring.place.size (chains_out done q) (needed_descriptors indirect a)) Nospc _ (λ i.
      there_by _ (placed_mappings x (taken_slots done) (maps done) (part_wants (buffers done) a ++ table_wants indirect (buffers done) a)) Nospc (λ ms j.
      leaf ring f g i ms j))))))

-- ---- lists

driver_elsewhere : (q : ℕ) (act : Act) → is_driver act ≡ true → IsElsewhere q act
driver_elsewhere q (Driver act) e = tt
driver_elsewhere q _ e = cc

drivers_elsewhere : (q : ℕ) (acts : List Act) → are_driver acts ≡ true → AreElsewhere q acts
drivers_elsewhere q [] e = tt
drivers_elsewhere q (act ∷ acts) e = let p = and_parts (is_driver act) (are_driver acts) e in (driver_elsewhere q act p.0, drivers_elsewhere q acts p.1)

plain_push : (acts : List Act) (act : Act) → list_all is_plain acts ≡ true → is_plain act ≡ true → list_all is_plain (acts ++ act ∷ []) ≡ true
plain_push [] act e f = ap (λ b. b && true) f
plain_push (a ∷ acts) act e f = let p = and_parts (is_plain a) (list_all is_plain acts) e in ap (λ b. b && list_all is_plain (acts ++ act ∷ [])) p.0 ∙ plain_push acts act p.1 f

maps_plain : (ms : List Streaming) → list_all is_plain (map_acts ms) ≡ true
maps_plain [] = refl
maps_plain (m ∷ ms) = plain_push (map_acts ms) (Driver (Mapped m)) (maps_plain ms) refl

buffers_plain : (indirect : Bool) (a : AskedRequest) (parts : List Part) → list_all is_plain (buffer_acts indirect a parts) ≡ true
buffers_plain true a parts = refl
buffers_plain false a parts = refl

maps_keep : (ms : List Streaming) (acts : List Act) (m : Streaming) → Among m (live_mappings acts) → Among m (live_mappings (map_acts ms ++ acts))
maps_keep [] acts m h = h
maps_keep (n ∷ ms) acts m h = subst (λ l. Among m (live_mappings l)) (sym (append_assoc (map_acts ms) (Driver (Mapped n) ∷ []) acts)) (maps_keep ms (Driver (Mapped n) ∷ acts) m (push_left m n (live_mappings acts) h))

maps_live : (ms : List Streaming) (acts : List Act) (m : Streaming) → Among m ms → Among m (live_mappings (map_acts ms ++ acts))
maps_live [] acts m h = absurd h
maps_live (n ∷ ms) acts m (inl e) = subst (λ l. Among m (live_mappings l)) (sym (append_assoc (map_acts ms) (Driver (Mapped n) ∷ []) acts)) (maps_keep ms (Driver (Mapped n) ∷ acts) m (subst (λ k. Among m (live_mappings acts ++ k ∷ [])) e (push_right m (live_mappings acts))))
maps_live (n ∷ ms) acts m (inr h) = subst (λ l. Among m (live_mappings l)) (sym (append_assoc (map_acts ms) (Driver (Mapped n) ∷ []) acts)) (maps_live ms (Driver (Mapped n) ∷ acts) m h)

taken_among : {X : Type 0} (n : ℕ) (m : X) (xs : List X) → Among m (take n xs) → Among m xs
taken_among zero m xs h = absurd h
taken_among (suc n) m [] h = absurd h
taken_among (suc n) m (x ∷ xs) (inl e) = inl e
taken_among (suc n) m (x ∷ xs) (inr h) = inr (taken_among n m xs h)

mapped_from : (ms : List Streaming) (p : Part) → Among p (map mapping_part ms) → (m : Streaming) × Among m ms × (p ≡ mapping_part m)
mapped_from [] p h = absurd h
mapped_from (m ∷ ms) p (inl e) = (m, inl refl, e)
mapped_from (m ∷ ms) p (inr h) = let r = mapped_from ms p h in (r.0, inr r.1, r.2)

-- the mappings are numbered from this one on
next_numbers : (number slot : ℕ) (want : Want) (ms : List Streaming) (o : Option (List Streaming)) → ((rest : List Streaming) → o ≡ Some rest → (k : ℕ) → Among k (map (λ m. m.number) rest) → number + 1 ≤ k)
    → option_map (λ ms. record { number = number; slot = slot; want = want } ∷ ms) o ≡ Some ms → (k : ℕ) → Among k (map (λ m. m.number) ms) → number ≤ k
next_numbers number slot want ms None later e k h = cc
next_numbers number slot want ms (Some rest) later e k h =
    let m : Streaming = record { number = number; slot = slot; want = want } in
    let is : m ∷ rest ≡ ms = cc in
    by (subst (λ l. Among k (map (λ m. m.number) l)) (sym is) h) where
      by : (k ≡ number) ⊎ Among k (map (λ m. m.number) rest) → number ≤ k
      by (inl f) = omega arith
      by (inr i) = let l = later rest refl k i in omega arith

numbers_from : (x : Setting) (held : List Slots) (number : ℕ) (wants : List Want) (ms : List Streaming) → placed_mappings x held number wants ≡ Some ms → (k : ℕ) → Among k (map (λ m. m.number) ms) → number ≤ k
numbers_from x held number [] ms e k h = let none : [] ≡ ms = cc in absurd (subst (λ l. Among k (map (λ m. m.number) l)) (sym none) h)
numbers_from x held number (want ∷ wants) ms e k h = by (place_of held (pages_of want.len) x.per_page x.bounce) e (λ slot. numbers_from x (held ++ record { start = slot; count = pages_of want.len } ∷ []) (number + 1) wants) where
  by : (o : Option ℕ) → placed_mapping want number o (λ slot. placed_mappings x (held ++ record { start = slot; count = pages_of want.len } ∷ []) (number + 1) wants) ≡ Some ms
      → ((slot : ℕ) (rest : List Streaming) → placed_mappings x (held ++ record { start = slot; count = pages_of want.len } ∷ []) (number + 1) wants ≡ Some rest → (k : ℕ) → Among k (map (λ m. m.number) rest) → number + 1 ≤ k) → number ≤ k
  by None f later = cc
  by (Some slot) f later = next_numbers number slot want ms (placed_mappings x (held ++ record { start = slot; count = pages_of want.len } ∷ []) (number + 1) wants) (later slot) f k h

-- ---- a request

module _ (x : Setting) (small : IsAddressed x) (full : IsWhole x) (n : ℕ) (made : Creation) (done : List Act) (legal : Legal x done) (fair : Fair done) (c : Calms x n done) (q : ℕ) (ring : Ring) (there : ring_of done q ≡ Some ring)
    (asked : SubmitForm) (indirect : Bool) (granted : want_refusal made done (asked_by asked).kind (asked_by asked).want ≡ None) (roomy : is_full ring.place.size (chains_out done q) (needed_descriptors indirect (asked_by asked)) ≡ false)
    (ms : List Streaming) (are : placed_mappings x (taken_slots done) (maps done) (part_wants (buffers done) (asked_by asked) ++ table_wants indirect (buffers done) (asked_by asked)) ≡ Some ms) where
  abbrev a : AskedRequest
  a = asked_by asked

  abbrev r : RingPlace
  r = ring.place

  abbrev ds : List ℕ
  ds = take (needed_descriptors indirect a) (free_descriptors r.size (chains_out done q))

  abbrev part_maps : List Streaming
  part_maps = take (parts_count a) ms

  abbrev parts : List Part
  parts = map mapping_part part_maps

  abbrev first : List Act
  first = buffer_acts indirect a parts ++ done

  abbrev mapped : List Act
  mapped = map_acts ms ++ first

  abbrev puts : List Act
  puts = request_puts indirect r a ms parts ds

  abbrev request : Request
  request = record { buffer = buffers done; buffers = (if indirect then 2 else 1); maps = map (λ m. m.number) ms; writable = writable_of parts }

  abbrev chain : AddedChain
  chain = record { head = first_of ds; descriptors = ds; request = Some request }

  laid : IsLaid x r
  laid = (c.rings q ring there).holds.laid

  ds_count : length ds ≡ needed_descriptors indirect a
  ds_count = length_take (needed_descriptors indirect a) (free_descriptors r.size (chains_out done q)) (ltb-false (length (free_descriptors r.size (chains_out done q))) (needed_descriptors indirect a) roomy)

  some_needed : 0 < needed_descriptors indirect a
  some_needed = by indirect (is_some a.want) where
    by : (b d : Bool) → 0 < cond b 1 (cond d 3 2)
    by true d = omega arith
    by false true = omega arith
    by false false = omega arith

  ds_low : (d : ℕ) → Among d ds → d < r.size
  ds_low d i = (free_descriptors_is r.size (chains_out done q) (needed_descriptors indirect a) d i).0

  own_wants : map (λ m. m.want) part_maps ≡ part_wants (buffers done) a
  own_wants = parts_want x (taken_slots done) (maps done) (buffers done) indirect a ms are

  parts_number : length parts ≡ parts_count a
  parts_number = length-map part_maps mapping_part ∙ count_is (buffers done) a part_maps own_wants

  short : (w : Want) → a.want ≡ Some w → w.len ≤ 1048576
  short = asked_short made done asked granted

  -- ---- after the mappings

  same_first : (k : ℕ) → Same x first done k
  same_first k = same_by x k (buffer_acts indirect a parts) done (drivers_elsewhere k (buffer_acts indirect a parts) (buffers_driver indirect a parts))

  same_mapped : (k : ℕ) → Same x mapped done k
  same_mapped k = same_after x mapped first done k (same_by x k (map_acts ms) first (drivers_elsewhere k (map_acts ms) (maps_driver ms))) (same_first k)

  mapped_calms : Legal x mapped → Calms x n mapped
  mapped_calms l = plain_calms x small full n (map_acts ms) first (maps_plain ms) l (plain_calms x small full n (buffer_acts indirect a parts) done (buffers_plain indirect a parts) (earlier_legal x (map_acts ms) first l) c)

  taken_free : (b : AddedChain) → Among b (chains_out mapped q) → (d : ℕ) → Among d b.descriptors → Among d ds → ⊥
  taken_free b i d j k =
      let unused = (free_descriptors_is r.size (chains_out done q) (needed_descriptors indirect a) d k).1 in
      let used = any_true (λ chain. list_any (λ k. k == d) chain.descriptors) b (chains_out done q) (subst (Among b) (same_mapped q).out i) (any_true (λ k. k == d) d b.descriptors j (same_number d)) in
      true≢false (sym used ∙ unused)

  alone : IsOwn mapped q chain
  alone k b other i m mc mb =
      let below = ((chained x done legal).own k).below b (subst (Among b) (same_mapped k).out i) m mb in
      let above = numbers_from x (taken_slots done) (maps done) (part_wants (buffers done) a ++ table_wants indirect (buffers done) a) ms are m mc in
      omega arith

  -- ---- the chain

  module _ (tabled : IsTabled r ds puts) (l : Legal x (puts ++ mapped)) (form : Linked x (puts ++ mapped) r.desc parts ds ⊎ IsNamed x (puts ++ mapped) r chain ms parts) where
    alive : (m : Streaming) → Among m ms → Among m (live_mappings (puts ++ mapped))
    alive m i = subst (Among m) (sym (within_live r puts mapped tabled.within).0) (maps_live ms first m i)

    its : HasChain x (puts ++ mapped) r chain
    its = record {
      ms = ms;
      alive = alive;
      in_request = λ m i. among_map (λ m. m.number) m ms i;
      parts = parts;
      mapped = λ p i. (let m = mapped_from part_maps p i in (m.0, taken_among (parts_count a) m.0 ms m.1, m.2));
      asked = a;
      done = done;
      comes = record {
        indirect = indirect;
        since = puts;
        split = refl;
        is = refl;
        wants = wants_are x (taken_slots done) (maps done) (part_wants (buffers done) a ++ table_wants indirect (buffers done) a) ms are;
        ways = one_way asked;
        low = wanted made done a.kind a.want granted;
      };
      are = refl;
      told = told_bytes x.per_page a parts done indirect x refl (wanted made done a.kind a.want granted) part_maps own_wants;
      ordered = in_order (buffers done) a part_maps own_wants;
      short = not_long (buffers done) a part_maps own_wants short;
      words = λ p i. (let m = mapped_from part_maps p i in
          let fits = (sound x (puts ++ mapped) l).fits m.0 (alive m.0 (taken_among (parts_count a) m.0 ms m.1)) in
          let len = short_want (buffers done) a part_maps own_wants short m.0 m.1 in
          let at : p.at ≡ 4096 * m.0.slot = ap (λ p. p.at) m.2 in
          let its_len : p.len ≡ m.0.want.len = ap (λ p. p.len) m.2 in
          let lo = laid.low in
          let d = laid.driver in
          let v = laid.device in
          let e = laid.ends in
          let z = laid.some in
          let s : 4096 * x.iova ≤ 2 ^ 64 = small in
          (omega arith, omega arith));
      head = refl;
      some = (let s = some_needed in let d = ds_count in omega arith);
      distinct = free_distinct r.size (chains_out done q) (needed_descriptors indirect a);
      low = ds_low;
      form = form;
      read = λ m. ram_bytes x.per_page first m.want.buffer m.want.offset m.want.len;
      full = λ m i goes. (let count = each_count (λ i. ram x.per_page first m.want.buffer i) m.want.offset m.want.len in
          let lives = maps_live ms first m i in
          let s = sound x mapped (earlier_legal x puts mapped l) in
          let inside : (j : ℕ) → j < length (ram_bytes x.per_page first m.want.buffer m.want.offset m.want.len) → maps_address m (iova_of m + j) ≡ true = λ j lo. in_range (iova_of m) m.want.len (iova_of m + j) (omega arith) (omega arith) in (
            count,
            stand_still x small full puts mapped (iova_of m) (ram_bytes x.per_page first m.want.buffer m.want.offset m.want.len) l
                (λ j lo. within_all r puts (iova_of m + j) tabled.within (inl (let d = map_below x mapped m (iova_of m + j) s lives (inside j lo) in let f = laid.low in omega arith)))
                (λ j lo. inr (m, lives, inside j lo)) (maps_handed x small full ms first m (earlier_legal x puts mapped l) i goes),
          ));
    }

    abbrev count : ℕ
    count = length (placed_heads mapped q)

    request_calms : Legal x (top_acts r q count chain ++ (puts ++ mapped)) → Fair (top_acts r q count chain ++ (puts ++ mapped)) → Calms x n (top_acts r q count chain ++ (puts ++ mapped))
    request_calms whole fair_now = added_calms x small full n mapped (mapped_calms (earlier_legal x puts mapped l)) q ring ((same_mapped q).ring ∙ there) chain refl puts tabled taken_free alone its whole fair_now

  -- ---- the whole turn

  abbrev rest : List Act
  rest = puts ++ map_acts ms ++ buffer_acts indirect a parts

  rest_driver : are_driver rest ≡ true
  rest_driver = append_driver (puts ++ map_acts ms) (buffer_acts indirect a parts)
      (append_driver puts (map_acts ms) (request_puts_driver indirect r a ms parts ds) (maps_driver ms)) (buffers_driver indirect a parts)

  rest_is : rest ++ done ≡ puts ++ mapped
  rest_is = append_assoc (puts ++ map_acts ms) (buffer_acts indirect a parts) done ∙ append_assoc puts (map_acts ms) first

  counted : added_count done q ≡ length (placed_heads mapped q)
  counted = (c.rings q ring there).counted ∙ sym (ap length (same_mapped q).placed)

  turn_is : (submitted_turn x done q ring indirect a ms ds).acts ++ done ≡ top_acts r q (length (placed_heads mapped q)) chain ++ (puts ++ mapped)
  turn_is =
      let count = length (placed_heads mapped q) in
      let now = added_count (Queue (Chain_added q chain) ∷ slot_put r (added_count done q) (first_of ds) ∷ rest ++ done) q in
      let added_is : now ≡ count + 1 = ap (λ b. cond b (added_count (rest ++ done) q + 1) (added_count (rest ++ done) q)) (same_number q) ∙ ap (λ k. k + 1) ((same_by x q rest done (drivers_elsewhere q rest rest_driver)).added ∙ counted) in
      let slot_is : available_slot_at r (added_count done q) ≡ slot_at r count = slot_plain x small r laid (added_count done q) ∙ ap (slot_at r) counted in
      ap (λ at. Queue (Chains_published q) ∷ Driver (Driver_put at (little_bytes 2 now)) ∷ Queue (Chain_added q chain) ∷ slot_put r (added_count done q) (first_of ds) ∷ rest ++ done) (index_plain x small r laid)
      ∙ (ap (λ k. Queue (Chains_published q) ∷ Driver (Driver_put (r.driver + 2) (little_bytes 2 k)) ∷ Queue (Chain_added q chain) ∷ slot_put r (added_count done q) (first_of ds) ∷ rest ++ done) added_is
      ∙ (ap (λ at. Queue (Chains_published q) ∷ index_act r count ∷ Queue (Chain_added q chain) ∷ Driver (Driver_put at (little_bytes 2 (first_of ds))) ∷ rest ++ done) slot_is
      ∙ ap (λ l. Queue (Chains_published q) ∷ index_act r count ∷ Queue (Chain_added q chain) ∷ slot_act r count (first_of ds) ∷ l) rest_is))

  submitted_by : IsTabled r ds puts → (Legal x (puts ++ mapped) → Linked x (puts ++ mapped) r.desc parts ds ⊎ IsNamed x (puts ++ mapped) r chain ms parts)
      → Legal x ((submitted_turn x done q ring indirect a ms ds).acts ++ done) → Fair ((submitted_turn x done q ring indirect a ms ds).acts ++ done) → Calms x n ((submitted_turn x done q ring indirect a ms ds).acts ++ done)
  submitted_by tabled form l f =
      let whole = subst (Legal x) turn_is l in
      let last = whole.1.1.1.1 in
      subst (Calms x n) (sym turn_is) (request_calms tabled last (form last) whole (subst Fair turn_is f))

-- ---- in the ring's own table, and in a table of the request

module _ (x : Setting) (small : IsAddressed x) (full : IsWhole x) (n : ℕ) (made : Creation) (done : List Act) (legal : Legal x done) (fair : Fair done) (c : Calms x n done) (q : ℕ) (ring : Ring) (there : ring_of done q ≡ Some ring)
    (asked : SubmitForm) (granted : want_refusal made done (asked_by asked).kind (asked_by asked).want ≡ None) where
  abbrev Turned : Bool → Type 0
  Turned indirect = is_full ring.place.size (chains_out done q) (needed_descriptors indirect (asked_by asked)) ≡ false
      → (ms : List Streaming) → placed_mappings x (taken_slots done) (maps done) (part_wants (buffers done) (asked_by asked) ++ table_wants indirect (buffers done) (asked_by asked)) ≡ Some ms
      → Legal x ((submitted_turn x done q ring indirect (asked_by asked) ms (take (needed_descriptors indirect (asked_by asked)) (free_descriptors ring.place.size (chains_out done q)))).acts ++ done)
      → Fair ((submitted_turn x done q ring indirect (asked_by asked) ms (take (needed_descriptors indirect (asked_by asked)) (free_descriptors ring.place.size (chains_out done q)))).acts ++ done)
      → Calms x n ((submitted_turn x done q ring indirect (asked_by asked) ms (take (needed_descriptors indirect (asked_by asked)) (free_descriptors ring.place.size (chains_out done q)))).acts ++ done)

  direct_calms : Turned false
  direct_calms roomy ms are =
      let its_parts = parts x small full n made done legal fair c q ring there asked false granted roomy ms are in
      let its_ds = ds x small full n made done legal fair c q ring there asked false granted roomy ms are in
      let low = ds_low x small full n made done legal fair c q ring there asked false granted roomy ms are in
      let its_laid = laid x small full n made done legal fair c q ring there asked false granted roomy ms are in
      let number = parts_number x small full n made done legal fair c q ring there asked false granted roomy ms are in
      let count = ds_count x small full n made done legal fair c q ring there asked false granted roomy ms are in
      let some = some_needed x small full n made done legal fair c q ring there asked false granted roomy ms are in
      submitted_by x small full n made done legal fair c q ring there asked false granted roomy ms are
      (chain_tabled x ring.place its_laid its_parts its_ds low)
      (λ l. inl (chain_linked x ring.place its_laid small full its_parts its_ds (mapped x small full n made done legal fair c q ring there asked false granted roomy ms are) l
      (free_distinct ring.place.size (chains_out done q) (needed_descriptors false (asked_by asked))) low (number ∙ sym count) (omega arith)))

  -- one descriptor that is free
  first_tabled : (ds : List ℕ) → length ds ≡ 1 → IsLaid x ring.place → ((d : ℕ) → Among d ds → d < ring.place.size) → (bytes : List ℕ) → length bytes ≡ 16 → IsTabled ring.place ds (put_at ring.place (first_of ds) bytes ∷ [])
  first_tabled [] e laid low bytes f = absurd (omega arith)
  first_tabled (d ∷ []) e laid low bytes f = one_tabled x ring.place laid d bytes f (low d (inl refl))
  first_tabled (d ∷ k ∷ ds) e laid low bytes f = absurd (omega arith)

  module _ (roomy : is_full ring.place.size (chains_out done q) 1 ≡ false) (ms : List Streaming) (are : placed_mappings x (taken_slots done) (maps done) (part_wants (buffers done) (asked_by asked) ++ table_wants true (buffers done) (asked_by asked)) ≡ Some ms) where
    abbrev b : AskedRequest
    b = asked_by asked

    abbrev t_want : Want
    t_want = record { buffer = buffers done + 1; offset = 0; len = table_len b; dir = To }

    abbrev t_parts : List Part
    t_parts = map mapping_part (take (parts_count b) ms)

    abbrev t_ds : List ℕ
    t_ds = take 1 (free_descriptors ring.place.size (chains_out done q))

    all_wants : map (λ m. m.want) ms ≡ part_wants (buffers done) b ++ t_want ∷ []
    all_wants = wants_are x (taken_slots done) (maps done) (part_wants (buffers done) b ++ table_wants true (buffers done) b) ms are

    front_wants : map (λ m. m.want) (take (parts_count b) ms) ≡ part_wants (buffers done) b
    front_wants = parts_want x (taken_slots done) (maps done) (buffers done) true b ms are

    front_count : length (take (parts_count b) ms) ≡ parts_count b
    front_count = count_is (buffers done) b (take (parts_count b) ms) front_wants

    all_count : length ms ≡ parts_count b + 1
    all_count = sym (length-map ms (λ m. m.want)) ∙ (ap length all_wants ∙ (length-append (part_wants (buffers done) b) (t_want ∷ [])
        ∙ ap (λ k. k + 1) (sym (ap length front_wants) ∙ (length-map (take (parts_count b) ms) (λ m. m.want) ∙ front_count))))

    last : (m : Streaming) × (drop (parts_count b) ms ≡ m ∷ []) × (ms ≡ take (parts_count b) ms ++ m ∷ [])
    last = split_last (parts_count b) ms all_count

    abbrev t : Streaming
    t = last.0

    t_is : t.want ≡ t_want
    t_is =
        let whole : map (λ m. m.want) (take (parts_count b) ms) ++ t.want ∷ [] ≡ part_wants (buffers done) b ++ t_want ∷ [] = sym (ap (map (λ m. m.want)) last.2 ∙ map-append (λ m. m.want) (take (parts_count b) ms) (t ∷ [])) ∙ all_wants in
        let moved : part_wants (buffers done) b ++ t.want ∷ [] ≡ part_wants (buffers done) b ++ t_want ∷ [] = ap (λ l. l ++ t.want ∷ []) (sym front_wants) ∙ whole in
        let same_wants : t.want ∷ [] ≡ t_want ∷ [] = append_cancel_left (part_wants (buffers done) b) (t.want ∷ []) (t_want ∷ []) moved in
        cc

    t_among : Among t ms
    t_among = subst (Among t) (sym last.2) (push_right t (take (parts_count b) ms))

    t_number : length t_parts ≡ parts_count b
    t_number = length-map (take (parts_count b) ms) mapping_part ∙ front_count

    t_few : (0 < parts_count b) × (parts_count b ≤ 3)
    t_few = by (is_some b.want) where
      by : (d : Bool) → (0 < cond d 3 2) × (cond d 3 2 ≤ 3)
      by true = (omega arith, omega arith)
      by false = (omega arith, omega arith)

    t_bytes : length (table_bytes 0 t_parts) ≡ t.want.len
    t_bytes = table_len_is 0 t_parts ∙ (ap (λ k. 16 * k) t_number ∙ sym (ap (λ w. w.len) t_is))

    abbrev t_mapped : List Act
    t_mapped = map_acts ms ++ (Driver (Buffer (table_bytes 0 t_parts)) ∷ Driver (Buffer (header_and_status b)) ∷ done)

    abbrev name_put : List ℕ
    name_put = descriptor_bytes (iova_of t) t.want.len 4 0

    t_puts : table_puts ring.place (last_after (parts_count b) ms) t_ds ≡ put_at ring.place (first_of t_ds) name_put ∷ []
    t_puts = ap (λ o. table_puts ring.place o t_ds) (last_is (parts_count b) ms t last.1)

    t_handed : Stands x t_mapped (iova_of t) (table_bytes 0 t_parts)
    t_handed = subst (λ l. Stands x (l ++ (Driver (Buffer (table_bytes 0 t_parts)) ∷ Driver (Buffer (header_and_status b)) ∷ done)) (iova_of t) (table_bytes 0 t_parts)) (sym (ap map_acts last.2 ∙ map_push (take (parts_count b) ms) t))
        (handed_stands x (take (parts_count b) ms) (table_bytes 0 t_parts) (Driver (Buffer (header_and_status b)) ∷ done) t (ap (λ w. w.buffer) t_is) (ap (λ w. w.offset) t_is) (sym t_bytes) (ap (λ w. w.dir) t_is))

    t_tabled : IsTabled ring.place t_ds (put_at ring.place (first_of t_ds) name_put ∷ [])
    t_tabled =
        let its_laid = laid x small full n made done legal fair c q ring there asked true granted roomy ms are in
        let low = ds_low x small full n made done legal fair c q ring there asked true granted roomy ms are in
        let count = ds_count x small full n made done legal fair c q ring there asked true granted roomy ms are in
        first_tabled t_ds count its_laid low name_put refl

    t_form : Legal x (put_at ring.place (first_of t_ds) name_put ∷ t_mapped) → IsNamed x (put_at ring.place (first_of t_ds) name_put ∷ t_mapped) ring.place (chain x small full n made done legal fair c q ring there asked true granted roomy ms are) ms t_parts
    t_form l =
        let its_laid = laid x small full n made done legal fair c q ring there asked true granted roomy ms are in
        let s = sound x t_mapped l.1 in
        let alive = maps_live ms (Driver (Buffer (table_bytes 0 t_parts)) ∷ Driver (Buffer (header_and_status b)) ∷ done) t t_among in
        let inside : (i : ℕ) → i < length (table_bytes 0 t_parts) → maps_address t (iova_of t + i) ≡ true = λ i lo. in_range (iova_of t) t.want.len (iova_of t + i) (omega arith) (let e = t_bytes in omega arith) in
        let stands : Stands x (put_at ring.place (first_of t_ds) name_put ∷ t_mapped) (iova_of t) (table_bytes 0 t_parts) =
        stand_still x small full (put_at ring.place (first_of t_ds) name_put ∷ []) t_mapped (iova_of t) (table_bytes 0 t_parts) l
        (λ i lo. within_all ring.place (put_at ring.place (first_of t_ds) name_put ∷ []) (iova_of t + i) t_tabled.within (inl (let d = map_below x t_mapped t (iova_of t + i) s alive (inside i lo) in let f = its_laid.low in omega arith)))
        (λ i lo. inr (t, alive, inside i lo)) t_handed in
        record {
          table = t;
          there = t_among;
          goes = ap (λ w. w.dir) t_is;
          len = ap (λ w. w.len) t_is ∙ ap (λ k. 16 * k) (sym t_number);
          some = (let e = t_number in let f = t_few.0 in omega arith);
          few = (let e = t_number in let f = t_few.1 in omega arith);
          names = driver_stands x full t_mapped (ring.place.desc + 16 * first_of t_ds) name_put (let f = its_laid.low in omega arith) l;
          linked = table_linked x (put_at ring.place (first_of t_ds) name_put ∷ t_mapped) (iova_of t) 0 t_parts (let e = t_number in let f = t_few.0 in omega arith)
              (subst (λ k. Stands x (put_at ring.place (first_of t_ds) name_put ∷ t_mapped) k (table_bytes 0 t_parts)) (let e : iova_of t ≡ iova_of t + 16 * 0 = omega arith in e) stands);
        }

  indirect_calms : Turned true
  indirect_calms roomy ms are =
      let its_chain = chain x small full n made done legal fair c q ring there asked true granted roomy ms are in
      let its_puts : table_puts ring.place (last_after (parts_count (asked_by asked)) ms) (take 1 (free_descriptors ring.place.size (chains_out done q))) ≡ _ = t_puts roomy ms are in
      submitted_by x small full n made done legal fair c q ring there asked true granted roomy ms are
      (subst (IsTabled ring.place (take 1 (free_descriptors ring.place.size (chains_out done q)))) (sym its_puts) (t_tabled roomy ms are))
      (λ l. inr (subst (λ puts. IsNamed x (puts ++ t_mapped roomy ms are) ring.place its_chain ms (t_parts roomy ms are)) (sym its_puts)
      (t_form roomy ms are (subst (λ puts. Legal x (puts ++ t_mapped roomy ms are)) its_puts l))))

  turned_calms : (indirect : Bool) → Turned indirect
  turned_calms false = direct_calms
  turned_calms true = indirect_calms

pub submit_calms : (x : Setting) → IsAddressed x → IsWhole x → (n : ℕ) (made : Creation) (done : List Act) → Legal x done → Fair done → Calms x n done → (q : ℕ) (asked : SubmitForm)
    → Legal x ((submit_turn x made done q asked).acts ++ done) → Calms x n ((submit_turn x made done q asked).acts ++ done)
submit_calms x small full n made done legal fair c q asked l =
    submit_with (λ acts. Legal x (acts ++ done) → Fair (acts ++ done) → Calms x n (acts ++ done)) (λ l f. c) x made done q asked
    (λ ring there granted roomy ms are. turned_calms x small full n made done legal fair c q ring there asked granted (has_indirect done) roomy ms are)
    l (submit_fair x made done fair q asked)
