-- The driver's lines on rings leave the rings in live regions.
use Rattle.std.proofs.Common.{◌≡◌, ℕ, ◌+◌, ◌%◌, Bool, refl, subst, ◌∙◌, sym, arith, Option, None, Some, List, [], ◌∷◌, ◌++◌, ◌==◌, not, nat_lt, take, map, find, length, is_some, append_assoc, eqb-true}
use Rattle.std.specs.Option.{option_map_or}
use Rattle.std.proofs.lemmas.Bool.{ltb-true}
use Rattle.vd_num.specs.Number.{pages_of}
use Rattle.vd_num.specs.Field.{field_at}
use Rattle.vd_num.specs.declared.errno.Errno.TheVariants.{Noent, Again, Busy, Exist, Inval, Nospc}
use Rattle.vd_model.specs.declared.answer.Answer.TheVariants as answer
use Rattle.vd_model.specs.declared.parts.Part.{Part}
use Rattle.vd_model.specs.declared.step.SubmitForm.{SubmitForm}
use Rattle.vd_model.specs.Setting.{Setting}
use Rattle.vd_model.specs.Creation.{Creation}
use Rattle.vd_model.specs.Acts.{Act, AddedChain, Coherent, Request, Streaming, Driver, Queue, Region_freed, Ring_dropped, Chain_reclaimed, state_acts}
use Rattle.vd_model.specs.State.{is_ready}
use Rattle.vd_model.specs.Live.{buffers, buffers_len, maps, live_mappings, live_regions}
use Rattle.vd_model.specs.Place.{place_of, taken_slots}
use Rattle.vd_model.specs.Puts.{bus_bytes}
use Rattle.vd_model.specs.Queues.{Ring, ring_of, reclaimed_count, added_count, published_count, chains_out, published_chains_out, free_descriptors}
use Rattle.vd_model.specs.Rings.{minus16, used_index_at, used_element_at}
use Rattle.vd_model.specs.Turn.{Turn, refusal_if}
use Rattle.vd_model.specs.BusTurns.{is_missing}
use Rattle.vd_model.specs.DriverTurns.{buffer_limit}
use Rattle.vd_model.specs.DaemonTurns.{has_indirect}
use Rattle.vd_model.specs.RingTurns.{AskedRequest, ring_bytes, made_ring_turn, is_ring_size, ring_turn, on_ring, request_end_acts, by_head, requests_end_acts, region_end_acts, unring_turn, first_of, is_out_of_order, is_full, add_turn, publish_turn, asked_by, want_refusal, made_len, needed_descriptors, part_wants, table_wants, placed_mappings, mapping_part, parts_count, request_puts, map_acts, buffer_acts, submitted_turn, submit_turn, number_at, used_event_puts, completed_turn, reclaimed_turn, poll_turn}
use Rattle.vd_laws.proofs.Lists.{found_passes}
use Rattle.vd_laws.proofs.Legal.{IsHigh, Legal}
use Rattle.vd_laws.proofs.Sound.{sound}
use Rattle.vd_laws.proofs.Refusals.{not_given, not_not}
use Rattle.vd_region_laws.proofs.Spread.{new_region}
use Rattle.vd_region_laws.proofs.Leaves.{refused, missing, either}
use Rattle.vd_region_laws.proofs.Standing.{Standing, AreQuiet, append_quiet, quiet_ring, quiet_stands, dropped_stands, ring_stands}
use Rattle.vd_region_laws.proofs.RingPuts.{free_below, end_quiet, requests_quiet, maps_quiet, buffers_quiet, descriptors_quiet, request_puts_quiet, slot_inside, index_inside, event_quiet}

module _ (x : Setting) (made : Creation) (done : List Act) (legal : Legal x done) (s : Standing x (Some made) done) (q : ℕ) where
  abbrev Stands : List Act → Type 0
  Stands acts = Standing x (Some made) (acts ++ done)

  abbrev Quiets : List Act → Type 0
  Quiets acts = AreQuiet x (live_regions done) acts

  quiets : (turn : Turn Act) → Quiets turn.acts → Stands turn.acts
  quiets turn quiet = quiet_stands x (Some made) turn.acts done quiet s

  -- ---- making a ring

  pub ring_turn_stands : (size : ℕ) → Stands (ring_turn x made done q size).acts
  ring_turn_stands size =
      refused Stands s (refusal_if (is_missing made q) Inval) _ (λ e.
      refused Stands s (refusal_if (not (is_ring_size size)) Inval) _ (λ f.
      refused Stands s (refusal_if (is_some (ring_of done q)) Exist) _ (λ g.
      missing Stands s (made_ring_turn done q size) (place_of (taken_slots done) (pages_of (ring_bytes size)) x.bounce x.iova) Nospc (λ slot h.
      ring_stands x made done q size slot (ltb-true q made.queues (not_not (nat_lt q made.queues) (not_given (is_missing made q) Inval e))) s
      (new_region x done (ring_bytes size) slot (omega arith) h)))))

  -- ---- a ring that is there

  ring_is : (P : List Act → Type 0) → P [] → (turn : Ring → Turn Act) → ((ring : Ring) → ring_of done q ≡ Some ring → IsHigh x ring.place → P (turn ring).acts) → P (on_ring made done q turn).acts
  ring_is P none turn h =
      refused P none (refusal_if (is_missing made q) Inval) _ (λ e.
      missing P none turn (ring_of done q) Noent (λ ring f. h ring f ((sound x done legal).rings_high q ring f)))

  -- the ring's region is freed, and then the ring dropped
  ring_dropped_stands : (ring : Ring) → ring_of done q ≡ Some ring → (more : List Act) → Quiets more
      → Standing x (Some made) (Queue (Ring_dropped q) ∷ region_end_acts (live_regions done) ring.region ++ (more ++ done))
  ring_dropped_stands ring there more quiet = by (find (λ r. r.number == ring.region) (live_regions done)) refl where
    before : Standing x (Some made) (more ++ done)
    before = quiet_stands x (Some made) more done quiet s

    by : (o : Option Coherent) → find (λ r. r.number == ring.region) (live_regions done) ≡ o
        → Standing x (Some made) (Queue (Ring_dropped q) ∷ option_map_or (λ r. Driver (Region_freed r) ∷ []) o [] ++ (more ++ done))
    by None e = quiet_stands x (Some made) (Queue (Ring_dropped q) ∷ []) (more ++ done) (tt, tt) before
    by (Some r) e = dropped_stands x (Some made) (more ++ done) r q (λ k other f g.
        s.apart k q other ring (quiet_ring x (live_regions done) more done quiet k other f) there (g ∙ eqb-true r.number ring.region (found_passes (λ r. r.number == ring.region) r (live_regions done) e))) before

  pub unring_stands : Stands (unring_turn made done q).acts
  unring_stands = ring_is Stands s _ (λ ring there high.
      refused Stands s (refusal_if (is_ready (state_acts done) q) Busy) _ (λ e.
      let ends = requests_end_acts (live_mappings done) (by_head (chains_out done q) ring.place.size) in
      subst (λ l. Standing x (Some made) (Queue (Ring_dropped q) ∷ l)) (sym (append_assoc (region_end_acts (live_regions done) ring.region) ends done))
      (ring_dropped_stands ring there ends (requests_quiet x (live_regions done) (live_mappings done) (by_head (chains_out done q) ring.place.size)))))

  -- ---- chains and requests

  pub add_stands : (parts : List Part) → Stands (add_turn made done q parts).acts
  add_stands parts = quiets (add_turn made done q parts) (ring_is Quiets tt _ (λ ring there high.
      refused Quiets tt (refusal_if (is_out_of_order parts) Inval) _ (λ e.
      refused Quiets tt (refusal_if (is_full ring.place.size (chains_out done q) (length parts)) Nospc) _ (λ f.
      let house = s.housed q ring there in
      let ds = take (length parts) (free_descriptors ring.place.size (chains_out done q)) in (
        tt,
        (
          slot_inside x (live_regions done) ring high house (added_count done q) (first_of ds),
          descriptors_quiet x (live_regions done) ring high house parts ds (free_below ring.place.size (chains_out done q) (length parts)),
        ),
      )))))

  pub publish_stands : Stands (publish_turn x made done q).acts
  publish_stands = quiets (publish_turn x made done q) (ring_is Quiets tt _ (λ ring there high. (tt, (index_inside x (live_regions done) ring high (s.housed q ring there) (added_count done q), tt))))

  submitted_quiet : (ring : Ring) → ring_of done q ≡ Some ring → IsHigh x ring.place → (indirect : Bool) (a : AskedRequest) (ms : List Streaming)
      → Quiets (submitted_turn x done q ring indirect a ms (take (needed_descriptors indirect a) (free_descriptors ring.place.size (chains_out done q)))).acts
  submitted_quiet ring there high indirect a ms =
      let held = live_regions done in
      let house = s.housed q ring there in
      let ds = take (needed_descriptors indirect a) (free_descriptors ring.place.size (chains_out done q)) in
      let parts = map mapping_part (take (parts_count a) ms) in
      let puts = request_puts indirect ring.place a ms parts ds in (
        tt,
        (
          index_inside x held ring high house _,
          (
            tt,
            (
              slot_inside x held ring high house (added_count done q) (first_of ds),
              append_quiet x held (puts ++ map_acts ms) (buffer_acts indirect a parts)
                  (append_quiet x held puts (map_acts ms) (request_puts_quiet x held ring high house indirect a ms parts ds (free_below ring.place.size (chains_out done q) (needed_descriptors indirect a))) (maps_quiet x held ms))
                  (buffers_quiet x held indirect a parts),
            ),
          ),
        ),
      )

  pub submit_stands : (asked : SubmitForm) → Stands (submit_turn x made done q asked).acts
  submit_stands asked = quiets (submit_turn x made done q asked) (ring_is Quiets tt _ (λ ring there high.
      let indirect = has_indirect done in
      let a = asked_by asked in
      refused Quiets tt (want_refusal made done a.kind a.want) _ (λ e.
      refused Quiets tt (refusal_if (nat_lt buffer_limit (buffers_len done + made_len indirect a)) Nospc) _ (λ f.
      refused Quiets tt (refusal_if (is_full ring.place.size (chains_out done q) (needed_descriptors indirect a)) Nospc) _ (λ g.
      missing Quiets tt _ (placed_mappings x (taken_slots done) (maps done) (part_wants (buffers done) a ++ table_wants indirect (buffers done) a)) Nospc (λ ms h.
      submitted_quiet ring there high indirect a ms))))))

  -- ---- completions

  completed_quiet : (acts : List Act) (chain : AddedChain) (len : ℕ) → Quiets acts → Quiets (completed_turn x done acts chain len).acts
  completed_quiet acts chain len h = by chain.request where
    by : (o : Option Request) → Quiets (completed_turn x done acts (record { head = chain.head; descriptors = chain.descriptors; request = o }) len).acts
    by None = h
    by (Some r) = append_quiet x (live_regions done) (request_end_acts (live_mappings done) r) acts (end_quiet x (live_regions done) (live_mappings done) r) h

  reclaimed_quiet : (ring : Ring) → ring_of done q ≡ Some ring → IsHigh x ring.place → (id len : ℕ) → Quiets (reclaimed_turn x done q ring.place id len).acts
  reclaimed_quiet ring there high id len = by (find (λ chain. chain.head == id) (published_chains_out done q)) where
    puts : List Act
    puts = used_event_puts done ring.place (reclaimed_count done q + 1)

    by : (o : Option AddedChain) → Quiets (option_map_or (λ chain. completed_turn x done (Queue (Chain_reclaimed q chain.head) ∷ used_event_puts done ring.place (reclaimed_count done q + 1)) chain len) o (record { answer = answer.BadId id; acts = [] })).acts
    by None = tt
    by (Some chain) = completed_quiet (Queue (Chain_reclaimed q chain.head) ∷ used_event_puts done ring.place (reclaimed_count done q + 1)) chain len
        (tt, event_quiet x (live_regions done) ring high (s.housed q ring there) done (reclaimed_count done q + 1))

  pub poll_stands : Stands (poll_turn x made done q).acts
  poll_stands = quiets (poll_turn x made done q) (ring_is Quiets tt _ (λ ring there high.
      let used = number_at x done (used_index_at ring.place) in
      refused Quiets tt (refusal_if (used == reclaimed_count done q % 65536) Again) _ (λ e.
      either Quiets tt (nat_lt (length (published_chains_out done q)) (minus16 used (reclaimed_count done q % 65536))) (record { answer = answer.UsedAhead used (published_count done q % 65536); acts = [] })
      (reclaimed_turn x done q ring.place
      (field_at 4 (bus_bytes x.per_page done (used_element_at ring.place (reclaimed_count done q)) 8) 0)
      (field_at 4 (bus_bytes x.per_page done (used_element_at ring.place (reclaimed_count done q)) 8) 4)) tt
      (reclaimed_quiet ring there high _ _))))
