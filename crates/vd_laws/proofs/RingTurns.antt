-- The driver's turns on rings are legal.
use Rattle.std.proofs.Common.{◌≡◌, ℕ, ◌+◌, ◌%◌, Bool, true, false, refl, subst, sym, Option, None, Some, List, [], ◌∷◌, ◌++◌, ◌==◌, not, nat_lt, take, find, length, is_some, append_assoc, if◌then◌else◌}
use Rattle.std.specs.Option.{option_map_or}
use Rattle.vd_num.specs.Number.{pages_of}
use Rattle.vd_num.specs.Field.{field_at}
use Rattle.vd_num.specs.declared.errno.Errno.TheVariants.{Noent, Again, Busy, Exist, Inval, Nospc}
use Rattle.vd_model.specs.declared.answer.Answer.TheVariants as answer
use Rattle.vd_model.specs.declared.parts.Part.{Part}
use Rattle.vd_model.specs.declared.step.SubmitForm.{SubmitForm}
use Rattle.vd_model.specs.Setting.{Setting}
use Rattle.vd_model.specs.Creation.{Creation}
use Rattle.vd_model.specs.Acts.{Act, Queue, AddedChain, Request, Chain_reclaimed, state_acts}
use Rattle.vd_model.specs.State.{is_ready}
use Rattle.vd_model.specs.Live.{live_mappings, live_regions}
use Rattle.vd_model.specs.Place.{place_of, taken_slots}
use Rattle.vd_model.specs.Puts.{bus_bytes}
use Rattle.vd_model.specs.Rings.{minus16, used_index_at, used_element_at}
use Rattle.vd_model.specs.Queues.{Ring, ring_of, reclaimed_count, published_count, chains_out, published_chains_out, free_descriptors}
use Rattle.vd_model.specs.Turn.{Turn, refuse, refusal_turn, refusal_if}
use Rattle.vd_model.specs.BusTurns.{is_missing}
use Rattle.vd_model.specs.DaemonTurns.{has_indirect}
use Rattle.vd_model.specs.RingTurns.{ring_bytes, made_ring_turn, is_ring_size, ring_turn, on_ring, request_end_acts, by_head, requests_end_acts, region_end_acts, unring_turn, descriptor_puts, is_out_of_order, is_full, add_turn, publish_turn, asked_by, submit_turn, number_at, used_event_puts, completed_turn, reclaimed_turn, polled_turn, poll_turn}
use Rattle.vd_laws.specs.Among.{Among}
use Rattle.vd_laws.proofs.Lists.{found}
use Rattle.vd_laws.proofs.Legal.{IsHigh, Legal}
use Rattle.vd_laws.proofs.Sound.{sound}
use Rattle.vd_laws.proofs.Chains.{chained}
use Rattle.vd_laws.proofs.Places.{place_free}
use Rattle.vd_laws.proofs.RingPuts.{puts_legal, puts_live, place_high, slot_high, index_high, descriptors_put, event_put}
use Rattle.vd_laws.proofs.Requests.{ended_legal, requests_legal, by_heads, freed_legal}
use Rattle.vd_laws.proofs.Submits.{submit_legal}
use Rattle.vd_laws.proofs.Refusals.{IsLegalTurn, refuse_turn, there_turn, not_given, not_not}

-- what the end of a chain makes beside the end of its request
completed_turn_acts : (x : Setting) (done acts : List Act) (head : ℕ) (ds : List ℕ) (o : Option Request) (len : ℕ)
    → (completed_turn x done acts (record { head = head; descriptors = ds; request = o }) len).acts ≡ option_map_or (request_end_acts (live_mappings done)) o [] ++ acts
completed_turn_acts x done acts head ds None len = refl
completed_turn_acts x done acts head ds (Some r) len = refl

module _ (x : Setting) (made : Creation) (done : List Act) (legal : Legal x done) (q : ℕ) where
  -- ---- making a ring

  pub ring_legal : (size : ℕ) → IsLegalTurn x done (ring_turn x made done q size)
  ring_legal size =
      let place = place_of (taken_slots done) (pages_of (ring_bytes size)) x.bounce x.iova in
      let third : Turn Act = option_map_or (made_ring_turn done q size) place (refusal_turn Nospc) in
      let second : Turn Act = refuse (refusal_if (is_some (ring_of done q)) Exist) third in
      let first : Turn Act = refuse (refusal_if (not (is_ring_size size)) Inval) second in
      refuse_turn x done legal (refusal_if (is_missing made q) Inval) first (λ e.
      refuse_turn x done legal (refusal_if (not (is_ring_size size)) Inval) second (λ f.
      refuse_turn x done legal (refusal_if (is_some (ring_of done q)) Exist) third (λ g.
      there_turn x done legal (made_ring_turn done q size) place Nospc (λ slot h.
      let p = place_free (taken_slots done) (pages_of (ring_bytes size)) x.bounce x.iova slot h in
      (place_high x size slot (not_not _ (not_given _ Inval f)) p.low p.high, (p.low, legal))))))

  -- ---- a ring that is there

  on_ring_legal : (turn : Ring → Turn Act) → ((ring : Ring) → IsHigh x ring.place → IsLegalTurn x done (turn ring)) → IsLegalTurn x done (on_ring made done q turn)
  on_ring_legal turn h =
      refuse_turn x done legal (refusal_if (is_missing made q) Inval) (option_map_or turn (ring_of done q) (refusal_turn Noent)) (λ e.
      there_turn x done legal turn (ring_of done q) Noent (λ ring f. h ring ((sound x done legal).rings_high q ring f)))

  dropped_legal : (ring : Ring) → Legal x (region_end_acts (live_regions done) ring.region ++ requests_end_acts (live_mappings done) (by_head (chains_out done q) ring.place.size) ++ done)
  dropped_legal ring =
      let chains = by_head (chains_out done q) ring.place.size in
      let heads = by_heads _ (chains_out done q) ((chained x done legal).own q) ring.place.size in
      subst (Legal x) (sym (append_assoc (region_end_acts (live_regions done) ring.region) (requests_end_acts (live_mappings done) chains) done))
      (freed_legal x (live_regions done) ring.region (requests_end_acts (live_mappings done) chains ++ done)
      (requests_legal x (live_mappings done) chains done heads.apart (λ m h c k i. h) legal))

  pub unring_legal : IsLegalTurn x done (unring_turn made done q)
  unring_legal = on_ring_legal _ (λ ring high.
      refuse_turn x done legal (refusal_if (is_ready (state_acts done) q) Busy) _ (λ e. (tt, dropped_legal ring)))

  pub add_legal : (parts : List Part) → IsLegalTurn x done (add_turn made done q parts)
  add_legal parts = on_ring_legal _ (λ ring high.
      refuse_turn x done legal (refusal_if (is_out_of_order parts) Inval) _ (λ e.
      refuse_turn x done legal (refusal_if (is_full ring.place.size (chains_out done q) (length parts)) Nospc) _ (λ f.
      let ds = take (length parts) (free_descriptors ring.place.size (chains_out done q)) in (
        record { distinct = tt; made = λ n i. absurd i; apart = λ c h n i j. absurd j },
        (slot_high x ring.place high _, puts_legal x (descriptor_puts ring.place parts ds) done (descriptors_put x ring.place high parts ds) legal),
      ))))

  pub publish_legal : IsLegalTurn x done (publish_turn x made done q)
  publish_legal = on_ring_legal _ (λ ring high. (tt, (index_high x ring.place high, legal)))

  pub submit_turn_legal : (asked : SubmitForm) → IsLegalTurn x done (submit_turn x made done q asked)
  submit_turn_legal asked = on_ring_legal _ (λ ring high. submit_legal x made done legal q ring high (has_indirect done) (asked_by asked))

  -- ---- completions

  completed_turn_legal : (ring : Ring) → IsHigh x ring.place → (len : ℕ) (chain : AddedChain) → Among chain (published_chains_out done q)
      → IsLegalTurn x done (completed_turn x done (Queue (Chain_reclaimed q chain.head) ∷ used_event_puts done ring.place (reclaimed_count done q + 1)) chain len)
  completed_turn_legal ring high len chain there =
      let puts = used_event_puts done ring.place (reclaimed_count done q + 1) in
      let are = event_put x ring.place high done (reclaimed_count done q + 1) in
      let acts : List Act = Queue (Chain_reclaimed q chain.head) ∷ puts in
      let same = puts_live x puts done are in
      subst (λ l. Legal x (l ++ done)) (sym (completed_turn_acts x done acts chain.head chain.descriptors chain.request len))
      (subst (Legal x) (sym (append_assoc (option_map_or (request_end_acts (live_mappings done)) chain.request []) acts done))
      (ended_legal (live_mappings done) chain.request (acts ++ done) x ((chained x done legal).published q chain there) (λ m h i. subst (Among m) (sym same) h) (tt, puts_legal x puts done are legal)))

  reclaimed_legal : (ring : Ring) → IsHigh x ring.place → (id len : ℕ) → IsLegalTurn x done (reclaimed_turn x done q ring.place id len)
  reclaimed_legal ring high id len = by (find (λ chain. chain.head == id) (published_chains_out done q)) refl where
    by : (o : Option AddedChain) → find (λ chain. chain.head == id) (published_chains_out done q) ≡ o
        → IsLegalTurn x done (option_map_or (λ chain. completed_turn x done (Queue (Chain_reclaimed q chain.head) ∷ used_event_puts done ring.place (reclaimed_count done q + 1)) chain len) o (record { answer = answer.BadId id; acts = [] }))
    by None e = legal
    by (Some chain) e = completed_turn_legal ring high len chain (found (λ chain. chain.head == id) chain (published_chains_out done q) e)

  polled_turn_legal : (ring : Ring) → IsHigh x ring.place → (used : ℕ) → IsLegalTurn x done (polled_turn x done q ring.place used)
  polled_turn_legal ring high used = refuse_turn x done legal (refusal_if (used == reclaimed_count done q % 65536) Again) _ (λ e. by (nat_lt (length (published_chains_out done q)) (minus16 used (reclaimed_count done q % 65536)))) where
    by : (b : Bool) → IsLegalTurn x done (if b then record { answer = answer.UsedAhead used (published_count done q % 65536); acts = [] }
        else reclaimed_turn x done q ring.place
        (field_at 4 (bus_bytes x.per_page done (used_element_at ring.place (reclaimed_count done q)) 8) 0)
        (field_at 4 (bus_bytes x.per_page done (used_element_at ring.place (reclaimed_count done q)) 8) 4))
    by true = legal
    by false = reclaimed_legal ring high _ _

  pub poll_legal : IsLegalTurn x done (poll_turn x made done q)
  poll_legal = on_ring_legal _ (λ ring high. polled_turn_legal ring high (number_at x done (used_index_at ring.place)))
