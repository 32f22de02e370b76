-- The acts of the driver's lines on a queue are on its ring alone.
use Rattle.std.proofs.Common.{◌≡◌, ℕ, zero, suc, ◌%◌, ◌+◌, Bool, true, false, refl, ap, sym, ◌∙◌, nat_lt, List, [], ◌∷◌, ◌++◌, append_assoc, length, take, map, Option, Some, None, true≢false, ◌==◌, if◌then◌else◌, inl, inr}
use Rattle.std.specs.Prelude.{◌&&◌, find}
use Rattle.std.specs.List.{list_all}
use Rattle.std.specs.Option.{option_map_or}
use Rattle.std.proofs.lemmas.Bool.Decides.{eqb_tells}
use Rattle.vd_num.specs.declared.errno.Errno.{Errno}
use Rattle.vd_num.specs.declared.errno.Errno.TheVariants.{Inval, Noent, Again, Busy, Nospc}
use Rattle.vd_num.specs.Field.{field_at}
use Rattle.vd_model.specs.declared.answer.Answer.TheVariants as answer
use Rattle.vd_model.specs.declared.parts.Part.{Part}
use Rattle.vd_model.specs.declared.queue.RingPlace.{RingPlace}
use Rattle.vd_model.specs.declared.step.SubmitForm.{SubmitForm}
use Rattle.vd_model.specs.Setting.{Setting}
use Rattle.vd_model.specs.Creation.{Creation}
use Rattle.vd_model.specs.Acts.{Act, DriverAct, QueueAct, AddedChain, Request, Streaming, Coherent, Node, Driver, Bus, Message_act, State, Queue, Disk_act, Buffer, Zeroed, Freed, Poked, Mapped, Unmapped, Synced_device, Synced_cpu, Region_made, Region_freed, Driver_put, Ring_made, Ring_dropped, Chain_added, Chains_published, Chain_reclaimed, Fetched, Executed, Finished, state_acts}
use Rattle.vd_model.specs.State.{is_ready}
use Rattle.vd_model.specs.Live.{buffers, buffers_len, maps, live_mappings, live_regions}
use Rattle.vd_model.specs.Place.{taken_slots}
use Rattle.vd_model.specs.DriverTurns.{buffer_limit}
use Rattle.vd_model.specs.Turn.{Turn, refuse, refusal_if, refusal_turn, done_with}
use Rattle.vd_model.specs.BusTurns.{is_missing}
use Rattle.vd_model.specs.DaemonTurns.{has_event_idx, has_indirect}
use Rattle.vd_model.specs.Puts.{bus_bytes}
use Rattle.vd_model.specs.Rings.{minus16, used_index_at, used_element_at}
use Rattle.vd_model.specs.Queues.{Ring, ring_of, chains_out, published_chains_out, reclaimed_count, published_count, free_descriptors}
use Rattle.vd_model.specs.RingTurns.{AskedRequest, on_ring, add_turn, publish_turn, poll_turn, unring_turn, submit_turn, submit_asked, submitted_turn, asked_by, publish_acts, publish_items, chain_acts, is_full, is_out_of_order, descriptor_puts, request_puts, table_puts, last_after, buffer_acts, map_acts, mapping_part, parts_count, part_wants, table_wants, placed_mappings, needed_descriptors, made_len, want_refusal, used_event_puts, completed_turn, polled_turn, number_at, region_end_acts, unmap_act, unmap_acts, free_acts, request_end_acts, requests_end_acts, by_head}
use Rattle.vd_control_path.proofs.Parts.{same_after, all_of}
use Rattle.vd_queue_sides.proofs.Daemons.{itself}
use Rattle.vd_request_lines.proofs.Turning.{added_to}
use Rattle.vd_instance.specs.declared.line.RingLine.{RingLine}
use Rattle.vd_instance.specs.declared.line.RingLine.TheVariants.{Unring, Add, Publish, Poll}
use Rattle.vd_instance.specs.Lines.{ring_line_turn}
use Rattle.vd_instance.specs.Stands.{HaveOwnRegions}
use Rattle.vd_instance.proofs.Deeds.{is_deed, is_queue_deed, is_driver_deed}
use Rattle.vd_instance.proofs.Kept.{own_still}

-- they are on the ring of this queue, free no region but its own, and leave each ring a region of its own
pub record IsOwn (done : List Act) (q : ℕ) (acts : List Act) : Type 0 where
  pub may : ℕ → Bool
  pub only : list_all (is_deed may q) acts ≡ true
  pub freed : (n : ℕ) → may n ≡ true → (r : Ring) × (ring_of done q ≡ Some r) × (r.region ≡ n)
  pub apart : HaveOwnRegions done → HaveOwnRegions (acts ++ done)

pub no_acts : (done : List Act) (q : ℕ) → IsOwn done q []
no_acts done q = record { may = λ n. false; only = refl; freed = λ n e. absurd (true≢false (sym e)); apart = λ h. h }

-- ---- acts on chains

is_chain_act : ℕ → QueueAct → Bool
is_chain_act q (Chain_added k chain) = k == q
is_chain_act q (Chains_published k) = k == q
is_chain_act q (Chain_reclaimed k head) = k == q
is_chain_act q _ = false

frees_none : DriverAct → Bool
frees_none (Region_freed r) = false
frees_none _ = true

is_chain_deed : ℕ → Act → Bool
is_chain_deed q (Queue act) = is_chain_act q act
is_chain_deed q (Driver act) = frees_none act
is_chain_deed q _ = false

no : {X : Type 0} → false ≡ true → X
no e = absurd (true≢false (sym e))

module _ (q : ℕ) where
  queue_as : (act : QueueAct) → is_chain_act q act ≡ true → is_queue_deed q act ≡ true
  unfolding is_chain_act
  queue_as (Chain_added k chain) e = e
  queue_as (Chains_published k) e = e
  queue_as (Chain_reclaimed k head) e = e
  queue_as (Ring_made k place region) e = no e
  queue_as (Ring_dropped k) e = no e
  queue_as (Fetched k) e = no e
  queue_as (Executed k status bytes) e = no e
  queue_as (Finished k) e = no e

  -- whichever regions may be freed
  driver_within : (may : ℕ → Bool) (act : DriverAct) → frees_none act ≡ true → is_driver_deed may act ≡ true
  unfolding frees_none
  driver_within may (Region_freed r) e = no e
  driver_within may (Driver_put at bytes) e = refl
  driver_within may (Region_made r) e = refl
  driver_within may (Buffer bytes) e = refl
  driver_within may (Zeroed len) e = refl
  driver_within may (Freed k) e = refl
  driver_within may (Poked k at bytes) e = refl
  driver_within may (Mapped m) e = refl
  driver_within may (Unmapped m) e = refl
  driver_within may (Synced_device m) e = refl
  driver_within may (Synced_cpu m) e = refl

  deed_within : (may : ℕ → Bool) (act : Act) → is_chain_deed q act ≡ true → is_deed may q act ≡ true
  unfolding is_chain_deed
  deed_within may (Queue act) e = queue_as act e
  deed_within may (Driver act) e = driver_within may act e
  deed_within may (Node act) e = no e
  deed_within may (Bus act) e = no e
  deed_within may (Message_act act) e = no e
  deed_within may (State act) e = no e
  deed_within may (Disk_act act) e = no e

  queue_same : (k : ℕ) (act : QueueAct) (acts : List Act) → is_chain_act q act ≡ true → ring_of (Queue act ∷ acts) k ≡ ring_of acts k
  unfolding is_chain_act
  queue_same k (Chain_added t chain) acts e = refl
  queue_same k (Chains_published t) acts e = refl
  queue_same k (Chain_reclaimed t head) acts e = refl
  queue_same k (Ring_made t place region) acts e = no e
  queue_same k (Ring_dropped t) acts e = no e
  queue_same k (Fetched t) acts e = no e
  queue_same k (Executed t status bytes) acts e = no e
  queue_same k (Finished t) acts e = no e

  ring_same : (k : ℕ) (act : Act) (acts : List Act) → is_chain_deed q act ≡ true → ring_of (act ∷ acts) k ≡ ring_of acts k
  unfolding is_chain_deed
  ring_same k (Queue act) acts e = queue_same k act acts e
  ring_same k (Driver act) acts e = refl
  ring_same k (Node act) acts e = no e
  ring_same k (Bus act) acts e = no e
  ring_same k (Message_act act) acts e = no e
  ring_same k (State act) acts e = no e
  ring_same k (Disk_act act) acts e = no e

  chained : (done acts : List Act) → list_all (is_chain_deed q) acts ≡ true → IsOwn done q acts
  chained done acts e = record {
    may = λ n. false;
    only = all_of (is_chain_deed q) (is_deed (λ n. false) q) (deed_within (λ n. false)) acts e;
    freed = λ n f. absurd (true≢false (sym f));
    apart = own_still done (acts ++ done) (λ k. same_after (λ l. ring_of l k) (is_chain_deed q) (ring_same k) acts done e);
  }

-- ---- turns

pub refused_own : (done : List Act) (q : ℕ) (e : Option Errno) (turn : Turn Act) → IsOwn done q turn.acts → IsOwn done q (refuse e turn).acts
refused_own done q None turn h = h
refused_own done q (Some errno) turn h = no_acts done q

on_ring_own : (made : Creation) (done : List Act) (q : ℕ) (turn : Ring → Turn Act) → ((r : Ring) → ring_of done q ≡ Some r → IsOwn done q (turn r).acts) → IsOwn done q (on_ring made done q turn).acts
on_ring_own made done q turn each = refused_own done q (refusal_if (is_missing made q) Inval) (option_map_or turn (ring_of done q) (refusal_turn Noent)) (by (ring_of done q) refl) where
  by : (o : Option Ring) → ring_of done q ≡ o → IsOwn done q (option_map_or turn o (refusal_turn Noent)).acts
  by None e = no_acts done q
  by (Some r) e = each r e

all_join : (p : Act → Bool) (acts more : List Act) → list_all p acts ≡ true → list_all p more ≡ true → list_all p (acts ++ more) ≡ true
all_join p [] more e f = f
all_join p (act ∷ acts) more e f = by (p act) refl (λ h. all_join p acts more h f) where
  by : (t : Bool) → p act ≡ t → (list_all p acts ≡ true → list_all p (acts ++ more) ≡ true) → list_all p ((act ∷ acts) ++ more) ≡ true
  by true g rest = ap (λ t. t && list_all p (acts ++ more)) g ∙ rest (sym (ap (λ t. t && list_all p acts) g) ∙ e)
  by false g rest = absurd (true≢false (sym (sym (ap (λ t. t && list_all p acts) g) ∙ e)))

puts_chain : (q : ℕ) (r : RingPlace) (parts : List Part) (ds : List ℕ) → list_all (is_chain_deed q) (descriptor_puts r parts ds) ≡ true
unfolding is_chain_deed frees_none
puts_chain q r [] ds = refl
puts_chain q r (part ∷ parts) [] = refl
puts_chain q r (part ∷ parts) (d ∷ []) = refl
puts_chain q r (part ∷ parts) (d ∷ e ∷ ds) = all_join (is_chain_deed q) (descriptor_puts r parts (e ∷ ds)) _ (puts_chain q r parts (e ∷ ds)) refl

unmapped_chain : (q : ℕ) (mappings : List Streaming) (numbers : List ℕ) → list_all (is_chain_deed q) (unmap_acts mappings numbers) ≡ true
unfolding is_chain_deed frees_none
unmapped_chain q mappings [] = refl
unmapped_chain q mappings (number ∷ numbers) =
    all_join (is_chain_deed q) (unmap_acts mappings numbers) (unmap_act mappings number) (unmapped_chain q mappings numbers) (by (find (λ m. m.number == number) mappings)) where
      by : (o : Option Streaming) → list_all (is_chain_deed q) (option_map_or (λ m. Driver (Unmapped m) ∷ []) o []) ≡ true
      by None = refl
      by (Some m) = refl

freed_chain : (q buffer n : ℕ) → list_all (is_chain_deed q) (free_acts buffer n) ≡ true
unfolding is_chain_deed frees_none
freed_chain q buffer zero = refl
freed_chain q buffer (suc n) = freed_chain q buffer n

ended_chain : (q : ℕ) (mappings : List Streaming) (r : Request) → list_all (is_chain_deed q) (request_end_acts mappings r) ≡ true
ended_chain q mappings r = all_join (is_chain_deed q) (free_acts r.buffer r.buffers) (unmap_acts mappings r.maps) (freed_chain q r.buffer r.buffers) (unmapped_chain q mappings r.maps)

all_ended_chain : (q : ℕ) (mappings : List Streaming) (chains : List AddedChain) → list_all (is_chain_deed q) (requests_end_acts mappings chains) ≡ true
all_ended_chain q mappings [] = refl
all_ended_chain q mappings (chain ∷ chains) =
    all_join (is_chain_deed q) (requests_end_acts mappings chains) (option_map_or (request_end_acts mappings) chain.request []) (all_ended_chain q mappings chains) (by chain.request) where
      by : (o : Option Request) → list_all (is_chain_deed q) (option_map_or (request_end_acts mappings) o []) ≡ true
      by None = refl
      by (Some r) = ended_chain q mappings r

mapped_chain : (q : ℕ) (ms : List Streaming) → list_all (is_chain_deed q) (map_acts ms) ≡ true
unfolding is_chain_deed frees_none
mapped_chain q [] = refl
mapped_chain q (m ∷ ms) = all_join (is_chain_deed q) (map_acts ms) (Driver (Mapped m) ∷ []) (mapped_chain q ms) refl

buffered_chain : (q : ℕ) (indirect : Bool) (a : AskedRequest) (parts : List Part) → list_all (is_chain_deed q) (buffer_acts indirect a parts) ≡ true
unfolding is_chain_deed frees_none
buffered_chain q true a parts = refl
buffered_chain q false a parts = refl

request_chain : (q : ℕ) (indirect : Bool) (r : RingPlace) (a : AskedRequest) (ms : List Streaming) (parts : List Part) (ds : List ℕ) → list_all (is_chain_deed q) (request_puts indirect r a ms parts ds) ≡ true
unfolding is_chain_deed frees_none
request_chain q false r a ms parts ds = puts_chain q r parts ds
request_chain q true r a ms parts ds = by (last_after (parts_count a) ms) where
  by : (o : Option Streaming) → list_all (is_chain_deed q) (table_puts r o ds) ≡ true
  by None = refl
  by (Some m) = refl

module _ (x : Setting) (made : Creation) (done : List Act) (q : ℕ) where
  pub add_own : (parts : List Part) → IsOwn done q (add_turn made done q parts).acts
  unfolding is_chain_deed is_chain_act frees_none
  add_own parts = on_ring_own made done q (added_to done q parts) (λ ring there.
      refused_own done q (refusal_if (is_out_of_order parts) Inval) _
      (refused_own done q (refusal_if (is_full ring.place.size (chains_out done q) (length parts)) Nospc) _
      (chained q done (chain_acts done q ring.place parts (take (length parts) (free_descriptors ring.place.size (chains_out done q))) None)
      (ap (λ t. t && list_all (is_chain_deed q) (descriptor_puts ring.place parts (take (length parts) (free_descriptors ring.place.size (chains_out done q))))) (itself q)
      ∙ puts_chain q ring.place parts (take (length parts) (free_descriptors ring.place.size (chains_out done q)))))))

  pub publish_own : IsOwn done q (publish_turn x made done q).acts
  unfolding is_chain_deed is_chain_act frees_none
  publish_own = on_ring_own made done q (λ ring. done_with (publish_items x done q ring.place) (publish_acts done q ring.place)) (λ ring there.
      chained q done (publish_acts done q ring.place) (ap (λ t. t && true) (itself q)))

  event_chain : (r : RingPlace) (n head : ℕ) → list_all (is_chain_deed q) (Queue (Chain_reclaimed q head) ∷ used_event_puts done r n) ≡ true
  unfolding is_chain_deed is_chain_act frees_none
  event_chain r n head = by (has_event_idx done) refl where
    by : (t : Bool) → has_event_idx done ≡ t → list_all (is_chain_deed q) (Queue (Chain_reclaimed q head) ∷ used_event_puts done r n) ≡ true
    by true e = rw e (ap (λ t. t && true) (itself q))
    by false e = rw e (ap (λ t. t && true) (itself q))

  completed_own : (r : RingPlace) (n len : ℕ) (chain : AddedChain) → IsOwn done q (completed_turn x done (Queue (Chain_reclaimed q chain.head) ∷ used_event_puts done r n) chain len).acts
  completed_own r n len chain = by chain.request where
    by : (o : Option Request) → IsOwn done q (completed_turn x done (Queue (Chain_reclaimed q chain.head) ∷ used_event_puts done r n) (record chain { request = o }) len).acts
    by None = chained q done (Queue (Chain_reclaimed q chain.head) ∷ used_event_puts done r n) (event_chain r n chain.head)
    by (Some t) =
        chained q done (request_end_acts (live_mappings done) t ++ (Queue (Chain_reclaimed q chain.head) ∷ used_event_puts done r n))
        (all_join (is_chain_deed q) (request_end_acts (live_mappings done) t) (Queue (Chain_reclaimed q chain.head) ∷ used_event_puts done r n) (ended_chain q (live_mappings done) t) (event_chain r n chain.head))

  found_own : (r : RingPlace) (n len : ℕ) (id : ℕ) (o : Option AddedChain)
      → IsOwn done q (option_map_or (λ chain. completed_turn x done (Queue (Chain_reclaimed q chain.head) ∷ used_event_puts done r n) chain len) o (record { answer = answer.BadId id; acts = [] })).acts
  found_own r n len id None = no_acts done q
  found_own r n len id (Some chain) = completed_own r n len chain

  ahead_own : (t : Bool) (used : ℕ) (turn : Turn Act) → IsOwn done q turn.acts → IsOwn done q (if t then record { answer = answer.UsedAhead used (published_count done q % 65536); acts = [] } else turn).acts
  ahead_own true used turn h = no_acts done q
  ahead_own false used turn h = h

  pub poll_own : IsOwn done q (poll_turn x made done q).acts
  poll_own = on_ring_own made done q (λ ring. polled_turn x done q ring.place (number_at x done (used_index_at ring.place))) (λ ring there.
      let used : ℕ = number_at x done (used_index_at ring.place) in
      refused_own done q (refusal_if (number_at x done (used_index_at ring.place) == reclaimed_count done q % 65536) Again) _
      (ahead_own (nat_lt (length (published_chains_out done q)) (minus16 (number_at x done (used_index_at ring.place)) (reclaimed_count done q % 65536))) (number_at x done (used_index_at ring.place)) _
      (found_own ring.place (reclaimed_count done q + 1)
      (field_at 4 (bus_bytes x.per_page done (used_element_at ring.place (reclaimed_count done q)) 8) 4)
      (field_at 4 (bus_bytes x.per_page done (used_element_at ring.place (reclaimed_count done q)) 8) 0)
      (find (λ chain. chain.head == field_at 4 (bus_bytes x.per_page done (used_element_at ring.place (reclaimed_count done q)) 8) 0) (published_chains_out done q)))))

  -- ---- a request is placed

  submitted_own : (ring : Ring) (indirect : Bool) (a : AskedRequest) (ds : List ℕ) (o : Option (List Streaming))
      → IsOwn done q (option_map_or (λ ms. submitted_turn x done q ring indirect a ms ds) o (refusal_turn Nospc)).acts
  unfolding is_chain_deed is_chain_act frees_none
  submitted_own ring indirect a ds None = no_acts done q
  submitted_own ring indirect a ds (Some ms) =
      let parts : List Part = map mapping_part (take (parts_count a) ms) in
      let puts = request_puts indirect ring.place a ms parts ds in
      let rest = all_join (is_chain_deed q) (puts ++ map_acts ms) (buffer_acts indirect a parts)
      (all_join (is_chain_deed q) puts (map_acts ms) (request_chain q indirect ring.place a ms parts ds) (mapped_chain q ms)) (buffered_chain q indirect a parts) in
      chained q done (submitted_turn x done q ring indirect a ms ds).acts
      (ap (λ t. t && (t && list_all (is_chain_deed q) (puts ++ map_acts ms ++ buffer_acts indirect a parts))) (itself q) ∙ rest)

  pub submit_own : (form : SubmitForm) → IsOwn done q (submit_turn x made done q form).acts
  submit_own form = on_ring_own made done q (λ ring. submit_asked x made done q ring (has_indirect done) (asked_by form)) (λ ring there.
      refused_own done q (want_refusal made done (asked_by form).kind (asked_by form).want) _
      (refused_own done q (refusal_if (nat_lt buffer_limit (buffers_len done + made_len (has_indirect done) (asked_by form))) Nospc) _
      (refused_own done q (refusal_if (is_full ring.place.size (chains_out done q) (needed_descriptors (has_indirect done) (asked_by form))) Nospc) _
      (submitted_own ring (has_indirect done) (asked_by form) (take (needed_descriptors (has_indirect done) (asked_by form)) (free_descriptors ring.place.size (chains_out done q)))
      (placed_mappings x (taken_slots done) (maps done) (part_wants (buffers done) (asked_by form) ++ table_wants (has_indirect done) (buffers done) (asked_by form)))))))

-- ---- a ring is dropped

region_deeds : (region q : ℕ) (rs : List Coherent) → list_all (is_deed (λ n. n == region) q) (region_end_acts rs region) ≡ true
region_deeds region q [] = refl
region_deeds region q (r ∷ rs) = by (r.number == region) refl (region_deeds region q rs) where
  by : (t : Bool) → (r.number == region) ≡ t → list_all (is_deed (λ n. n == region) q) (region_end_acts rs region) ≡ true
      → list_all (is_deed (λ n. n == region) q) (option_map_or (λ g. Driver (Region_freed g) ∷ []) (if t then Some r else find (λ g. g.number == region) rs) []) ≡ true
  by true e rest = ap (λ t. t && true) e
  by false e rest = rest

region_same : (region k : ℕ) (rs : List Coherent) (done : List Act) → ring_of (region_end_acts rs region ++ done) k ≡ ring_of done k
region_same region k rs done = by (find (λ g. g.number == region) rs) where
  by : (o : Option Coherent) → ring_of (option_map_or (λ g. Driver (Region_freed g) ∷ []) o [] ++ done) k ≡ ring_of done k
  by None = refl
  by (Some g) = refl

dropped_apart : (q : ℕ) (acts : List Act) → HaveOwnRegions acts → HaveOwnRegions (Queue (Ring_dropped q) ∷ acts)
dropped_apart q acts h a b r s e f = h a b r s (still a r e) (still b s f) where
  still : (k : ℕ) (t : Ring) → (if q == k then None else ring_of acts k) ≡ Some t → ring_of acts k ≡ Some t
  still k t g = by (q == k) g where
    by : (b : Bool) → (if b then None else ring_of acts k) ≡ Some t → ring_of acts k ≡ Some t
    by true g = absurd (none g) where
      none : None ≡ Some t → ⊥
      none g = cc
    by false g = g

module _ (done : List Act) (q : ℕ) where
  dropped_own : (ring : Ring) → ring_of done q ≡ Some ring
      → IsOwn done q (Queue (Ring_dropped q) ∷ region_end_acts (live_regions done) ring.region ++ requests_end_acts (live_mappings done) (by_head (chains_out done q) ring.place.size))
  dropped_own ring there =
      let freed = region_end_acts (live_regions done) ring.region in
      let ended = requests_end_acts (live_mappings done) (by_head (chains_out done q) ring.place.size) in
      let all = all_ended_chain q (live_mappings done) (by_head (chains_out done q) ring.place.size) in
      record {
        may = λ n. n == ring.region;
        only = ap (λ t. t && list_all (is_deed (λ n. n == ring.region) q) (freed ++ ended)) (itself q)
            ∙ all_join (is_deed (λ n. n == ring.region) q) freed ended (region_deeds ring.region q (live_regions done))
            (all_of (is_chain_deed q) (is_deed (λ n. n == ring.region) q) (deed_within q (λ n. n == ring.region)) ended all);
        freed = λ n e. (ring, there, elim (eqb_tells n ring.region) [ inl h ↦ sym h.1 | inr h ↦ absurd (true≢false (sym e ∙ h.0)) ]);
        apart = λ h. dropped_apart q (freed ++ ended ++ done)
            (own_still done (freed ++ ended ++ done)
            (λ k. ap (λ l. ring_of l k) (append_assoc freed ended done) ∙ region_same ring.region k (live_regions done) (ended ++ done) ∙ same_after (λ l. ring_of l k) (is_chain_deed q) (ring_same q k) ended done all) h);
      }

  pub unring_own : (made : Creation) → IsOwn done q (unring_turn made done q).acts
  unring_own made = on_ring_own made done q
      (λ ring. refuse (refusal_if (is_ready (state_acts done) q) Busy)
      (done_with [] (Queue (Ring_dropped q) ∷ region_end_acts (live_regions done) ring.region ++ requests_end_acts (live_mappings done) (by_head (chains_out done q) ring.place.size))))
      (λ ring there. refused_own done q (refusal_if (is_ready (state_acts done) q) Busy) _ (dropped_own ring there))

  -- a line on a queue that isn't there
  missing : (made : Creation) (turn : Turn Act) → is_missing made q ≡ true → refuse (refusal_if (is_missing made q) Inval) turn ≡ refusal_turn Inval
  missing made turn e = ap (λ t. refuse (refusal_if t Inval) turn) e

  pub missing_line : (x : Setting) (made : Creation) (line : RingLine) → is_missing made q ≡ true → ring_line_turn x made done q line ≡ refusal_turn Inval
  missing_line x made Unring e = missing made _ e
  missing_line x made (Add parts) e = missing made _ e
  missing_line x made Publish e = missing made _ e
  missing_line x made Poll e = missing made _ e

  pub missing_submit : (x : Setting) (made : Creation) (form : SubmitForm) → is_missing made q ≡ true → submit_turn x made done q form ≡ refusal_turn Inval
  missing_submit x made form e = missing made _ e

  pub line_own : (x : Setting) (made : Creation) (line : RingLine) → IsOwn done q (ring_line_turn x made done q line).acts
  line_own x made Unring = unring_own made
  line_own x made (Add parts) = add_own x made done q parts.now
  line_own x made Publish = publish_own x made done q
  line_own x made Poll = poll_own x made done q
