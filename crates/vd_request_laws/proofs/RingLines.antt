-- The driver's lines that make and drop a queue's ring, add a chain to it and publish, leave what pending requests have their own.
use Rattle.std.proofs.Common.{◌≡◌, ℕ, zero, suc, ◌<◌, true, false, refl, ap, sym, ◌∙◌, subst, arith, List, [], ◌∷◌, ◌++◌, append_assoc, length, take, ◌==◌, not, if◌then◌else◌, Option, Some, None, is_some, find}
use Rattle.std.specs.List.{All, list_all}
use Rattle.std.specs.Option.{option_map_or}
use Rattle.std.proofs.lemmas.Bool.Decides.{nat_tests}
use Rattle.vd_num.specs.Number.{pages_of}
use Rattle.vd_num.specs.declared.errno.Errno.TheVariants.{Noent, Busy, Exist, Inval, Nospc}
use Rattle.vd_model.specs.declared.parts.Part.{Part}
use Rattle.vd_model.specs.declared.queue.RingPlace.{RingPlace}
use Rattle.vd_model.specs.Setting.{Setting}
use Rattle.vd_model.specs.Creation.{Creation}
use Rattle.vd_model.specs.Acts.{Act, Driver, Queue, Streaming, Coherent, Request, AddedChain, Unmapped, Region_made, Region_freed, Ring_made, Ring_dropped, state_acts}
use Rattle.vd_model.specs.State.{is_ready}
use Rattle.vd_model.specs.Live.{live_mappings, live_regions, regions}
use Rattle.vd_model.specs.Place.{place_of, taken_slots}
use Rattle.vd_model.specs.Queues.{Ring, ring_of, added_count, chains_out, free_descriptors}
use Rattle.vd_model.specs.Turn.{Turn, refusal_if}
use Rattle.vd_model.specs.BusTurns.{is_missing}
use Rattle.vd_model.specs.RingTurns.{ring_bytes, ring_at, made_ring_turn, is_ring_size, ring_turn, on_ring, unmap_act, unmap_acts, free_acts, request_end_acts, by_head, requests_end_acts, region_end_acts, unring_turn, descriptor_puts, slot_put, first_of, chain_acts, is_out_of_order, is_full, add_turn, publish_acts, publish_turn}
use Rattle.vd_line_acts.proofs.Passing.{append_passes}
use Rattle.vd_request_laws.specs.Owned.{AreOthers, AreOwn, AreOwned, pending_requests, is_quiet}
use Rattle.vd_request_laws.proofs.Lists.{itself}
use Rattle.vd_request_laws.proofs.Standing.{queue_act, quiet_own}
use Rattle.vd_request_laws.proofs.Requests.{IsOf, each_chain}
use Rattle.vd_request_laws.proofs.Pending.{quiet_owned}
use Rattle.vd_request_laws.proofs.Chains.{added_none, emptied}
use Rattle.vd_request_laws.proofs.Ends.{ends_own, by_head_all}
use Rattle.vd_request_laws.proofs.Leaves.{refused, missing, not_given, is_memory, memory_append, memory_chains}
use Rattle.vd_request_laws.proofs.Lines.{Owns}

-- ---- acts on memory alone

unmap_memory : (mappings : List Streaming) (number : ℕ) → list_all is_memory (unmap_act mappings number) ≡ true
unmap_memory mappings number = by (find (λ m. m.number == number) mappings) where
  by : (o : Option Streaming) → list_all is_memory (option_map_or (λ m. Driver (Unmapped m) ∷ []) o []) ≡ true
  by None = refl
  by (Some m) = refl

unmaps_memory : (mappings : List Streaming) (numbers : List ℕ) → list_all is_memory (unmap_acts mappings numbers) ≡ true
unmaps_memory mappings [] = refl
unmaps_memory mappings (number ∷ numbers) = memory_append (unmap_acts mappings numbers) (unmap_act mappings number) (unmaps_memory mappings numbers) (unmap_memory mappings number)

frees_memory : (buffer n : ℕ) → list_all is_memory (free_acts buffer n) ≡ true
frees_memory buffer zero = refl
frees_memory buffer (suc n) = frees_memory buffer n

pub end_memory : (mappings : List Streaming) (r : Request) → list_all is_memory (request_end_acts mappings r) ≡ true
end_memory mappings r = memory_append (free_acts r.buffer r.buffers) (unmap_acts mappings r.maps) (frees_memory r.buffer r.buffers) (unmaps_memory mappings r.maps)

ends_memory : (mappings : List Streaming) (chains : List AddedChain) → list_all is_memory (requests_end_acts mappings chains) ≡ true
ends_memory mappings [] = refl
ends_memory mappings (chain ∷ chains) = memory_append (requests_end_acts mappings chains) (option_map_or (request_end_acts mappings) chain.request []) (ends_memory mappings chains) (by chain.request) where
  by : (o : Option Request) → list_all is_memory (option_map_or (request_end_acts mappings) o []) ≡ true
  by None = refl
  by (Some r) = end_memory mappings r

region_memory : (held : List Coherent) (region : ℕ) → list_all is_memory (region_end_acts held region) ≡ true
region_memory held region = by (find (λ r. r.number == region) held) where
  by : (o : Option Coherent) → list_all is_memory (option_map_or (λ r. Driver (Region_freed r) ∷ []) o []) ≡ true
  by None = refl
  by (Some r) = refl

region_quiet : (held : List Coherent) (region : ℕ) → list_all is_quiet (region_end_acts held region) ≡ true
region_quiet held region = by (find (λ r. r.number == region) held) where
  by : (o : Option Coherent) → list_all is_quiet (option_map_or (λ r. Driver (Region_freed r) ∷ []) o []) ≡ true
  by None = refl
  by (Some r) = refl

pub descriptors_quiet : (r : RingPlace) (parts : List Part) (ds : List ℕ) → list_all is_quiet (descriptor_puts r parts ds) ≡ true
descriptors_quiet r [] ds = refl
descriptors_quiet r (part ∷ parts) [] = refl
descriptors_quiet r (part ∷ parts) (d ∷ []) = refl
descriptors_quiet r (part ∷ parts) (d ∷ e ∷ ds) = append_passes is_quiet (descriptor_puts r parts (e ∷ ds)) _ (descriptors_quiet r parts (e ∷ ds)) refl

-- ---- the lines

module _ (made : Creation) (done : List Act) (h : AreOwned done made.queues) (q : ℕ) where
  abbrev Keeps : List Act → Type 0
  Keeps acts = Owns made done h acts

  is_there : is_missing made q ≡ false → q < made.queues
  is_there e = grind (arith, nat_tests, e)

  pub on_ring_owns : (turn : Ring → Turn Act) → (q < made.queues → (ring : Ring) → Keeps (turn ring).acts) → Keeps (on_ring made done q turn).acts
  on_ring_owns turn k =
      refused Keeps h (refusal_if (is_missing made q) Inval) _ (λ e.
      missing Keeps h turn (ring_of done q) Noent (λ ring f. k (is_there (not_given (is_missing made q) Inval e)) ring))

  -- a ring is made: its queue has no chains then
  made_ring : (low : q < made.queues) (size slot : ℕ) → Keeps (made_ring_turn done q size slot).acts
  made_ring low size slot =
      let region : Act = Driver (Region_made (record { number = regions done; slot = slot; len = ring_bytes size })) in
      let base = region ∷ done in
      let act = Ring_made q (ring_at size slot) (regions done) in
      let e = emptied base q made.queues low (Queue act ∷ base) (λ k off. ap (λ t. if t then [] else chains_out done k) off)
      (ap (λ t. if t then [] else chains_out done q) (itself q)) (quiet_owned (region ∷ []) done made.queues refl h) in
      queue_act act base (pending_requests (Queue act ∷ base) made.queues) e.left

  pub ring_owns : (x : Setting) (size : ℕ) → Keeps (ring_turn x made done q size).acts
  ring_owns x size =
      refused Keeps h (refusal_if (is_missing made q) Inval) _ (λ e.
      refused Keeps h (refusal_if (not (is_ring_size size)) Inval) _ (λ f.
      refused Keeps h (refusal_if (is_some (ring_of done q)) Exist) _ (λ g.
      missing Keeps h (made_ring_turn done q size) (place_of (taken_slots done) (pages_of (ring_bytes size)) x.bounce x.iova) Nospc (λ slot i.
      made_ring (is_there (not_given (is_missing made q) Inval e)) size slot))))

  -- a ring is dropped: all requests of its queue end
  dropped : (low : q < made.queues) (ring : Ring) → Keeps (Queue (Ring_dropped q) ∷ region_end_acts (live_regions done) ring.region ++ requests_end_acts (live_mappings done) (by_head (chains_out done q) ring.place.size))
  dropped low ring =
      let region = region_end_acts (live_regions done) ring.region in
      let chains = by_head (chains_out done q) ring.place.size in
      let ends = requests_end_acts (live_mappings done) chains in
      let base = (region ++ ends) ++ done in
      let other = Queue (Ring_dropped q) ∷ base in
      let same : (k : ℕ) → chains_out base k ≡ chains_out done k =
      λ k. memory_chains (region ++ ends) done k (memory_append region ends (region_memory (live_regions done) ring.region) (ends_memory (live_mappings done) chains)) in
      let rs = pending_requests other made.queues in
      let e = emptied done q made.queues low other (λ k off. ap (λ t. if t then [] else chains_out base k) off ∙ same k) (ap (λ t. if t then [] else chains_out base q) (itself q)) h in
      queue_act (Ring_dropped q) base rs
      (subst (λ l. AreOwn l rs) (sym (append_assoc region ends done))
      (quiet_own region (ends ++ done) rs (region_quiet (live_regions done) ring.region)
      (ends_own (live_mappings done) rs chains done
      (by_head_all (IsOf (λ r. All (AreOthers r) rs)) (chains_out done q) (each_chain (λ r. All (AreOthers r) rs) (chains_out done q) e.gone) ring.place.size)
      e.left)))

  pub unring_owns : Keeps (unring_turn made done q).acts
  unring_owns = on_ring_owns _ (λ low ring. refused Keeps h (refusal_if (is_ready (state_acts done) q) Busy) _ (λ e. dropped low ring))

  -- a chain is added by hand
  added : (low : q < made.queues) (place : RingPlace) (parts : List Part) (ds : List ℕ) → Keeps (chain_acts done q place parts ds None)
  added low place parts ds =
      let puts = slot_put place (added_count done q) (first_of ds) ∷ descriptor_puts place parts ds in
      added_none (puts ++ done) q made.queues low (record { head = first_of ds; descriptors = ds; request = None }) refl
      (quiet_owned puts done made.queues (descriptors_quiet place parts ds) h)

  pub add_owns : (parts : List Part) → Keeps (add_turn made done q parts).acts
  add_owns parts = on_ring_owns _ (λ low ring.
      refused Keeps h (refusal_if (is_out_of_order parts) Inval) _ (λ e.
      refused Keeps h (refusal_if (is_full ring.place.size (chains_out done q) (length parts)) Nospc) _ (λ f.
      added low ring.place parts (take (length parts) (free_descriptors ring.place.size (chains_out done q))))))

  pub publish_owns : (x : Setting) → Keeps (publish_turn x made done q).acts
  publish_owns x = on_ring_owns _ (λ low ring. quiet_owned (publish_acts done q ring.place) done made.queues refl h)
