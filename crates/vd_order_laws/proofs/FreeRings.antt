-- In a calm span a ring that is there is neither made again nor dropped.
use Rattle.std.proofs.Common.{◌≡◌, ℕ, ◌+◌, ◌==◌, Bool, true, false, refl, ap, subst, ◌∙◌, sym, cond, Option, None, Some, is_some, List, [], ◌∷◌, ◌++◌, not, take, map, true≢false, eqb-true}
use Rattle.std.specs.Option.{option_map_or}
use Rattle.std.specs.List.{list_all}
use Rattle.std.proofs.lemmas.Bool.{and_parts}
use Rattle.vd_num.specs.Number.{pages_of}
use Rattle.vd_num.specs.declared.errno.Errno.TheVariants.{Badf, Nodev, Inval, Exist, Nospc}
use Rattle.vd_model.specs.declared.step.QueueStep.{QueueStep}
use Rattle.vd_model.specs.declared.step.QueueStep.TheVariants as queue
use Rattle.vd_model.specs.Setting.{Setting}
use Rattle.vd_model.specs.Creation.{Creation}
use Rattle.vd_model.specs.Acts.{Act, Queue, AddedChain, Request, Streaming, Ring_made, Ring_dropped, Chain_reclaimed, Fetched}
use Rattle.vd_model.specs.Live.{is_open, is_attached, live_mappings}
use Rattle.vd_model.specs.Place.{place_of, taken_slots}
use Rattle.vd_model.specs.Queues.{Ring, ring_of, chains_out, reclaimed_count, added_count, free_descriptors}
use Rattle.vd_model.specs.Rings.{next16}
use Rattle.vd_model.specs.Turn.{Turn, refusal_turn}
use Rattle.vd_model.specs.BusTurns.{is_missing}
use Rattle.vd_model.specs.DaemonTurns.{has_indirect, event_puts, hand, used_position, queue_place, finish_puts, fetch_turn, execute_turn, finish_turn}
use Rattle.vd_model.specs.RingTurns.{first_of, slot_put, request_puts, map_acts, buffer_acts, AskedRequest, asked_by, parts_count, needed_descriptors, mapping_part, submitted_turn, submit_turn, is_ring_size, ring_bytes, made_ring_turn, ring_turn, poll_turn, completed_turn, request_end_acts, used_event_puts}
use Rattle.vd_model.specs.Deeds.{Seen}
use Rattle.vd_model.specs.History.{disk_of, needs_session, needs_bus, queue_turn}
use Rattle.vd_ring_laws.specs.Calm.{is_calm_queue_line}
use Rattle.vd_ring_laws.proofs.Mild.{is_mild, are_mild, drivers_are_mild, execute_mild}
use Rattle.vd_ring_laws.proofs.Drivers.{are_driver, append_driver, maps_driver, buffers_driver, request_puts_driver, used_event_driver, ended_driver}
use Rattle.vd_ring_laws.proofs.Leaves.{fetch_is, finish_is, submit_is, poll_is}
use Rattle.vd_ring_laws.proofs.Fair.{is_put, put_mild, event_put, finish_put}
use Rattle.vd_ring_turns.proofs.Fetches.{refuse_with}

-- the act neither makes nor drops the queue's ring
abbrev pub IsFree : ℕ → Act → Type 0
IsFree q (Queue (Ring_made k place region)) = (k == q) ≡ false
IsFree q (Queue (Ring_dropped k)) = (k == q) ≡ false
IsFree q _ = Unit {0}

abbrev pub AreFree : ℕ → List Act → Type 0
AreFree q [] = Unit {0}
AreFree q (act ∷ acts) = IsFree q act × AreFree q acts

pub free_append : (q : ℕ) (xs ys : List Act) → AreFree q xs → AreFree q ys → AreFree q (xs ++ ys)
free_append q [] ys h k = k
free_append q (act ∷ xs) ys h k = (h.0, free_append q xs ys h.1 k)

one_free : (q : ℕ) (act : Act) → is_mild act ≡ true → IsFree q act
one_free q (Queue (Ring_made k place region)) e = cc
one_free q (Queue (Ring_dropped k)) e = cc
one_free q _ e = tt

pub mild_free : (q : ℕ) (acts : List Act) → are_mild acts ≡ true → AreFree q acts
mild_free q [] e = tt
mild_free q (act ∷ acts) e = let p = and_parts (is_mild act) (are_mild acts) e in (one_free q act p.0, mild_free q acts p.1)

driver_free : (q : ℕ) (acts : List Act) → are_driver acts ≡ true → AreFree q acts
driver_free q acts e = mild_free q acts (drivers_are_mild acts e)

put_free : (q : ℕ) (acts : List Act) → list_all is_put acts ≡ true → AreFree q acts
put_free q [] e = tt
put_free q (act ∷ acts) e = let p = and_parts (is_put act) (list_all is_put acts) e in (one_free q act (put_mild act p.0), put_free q acts p.1)

next_ring : (q : ℕ) (act : Act) (acts : List Act) → IsFree q act → ring_of (act ∷ acts) q ≡ ring_of acts q
next_ring q (Queue (Ring_made k place region)) acts h = ap (λ b. cond b (Some (record { place = place; region = region })) (ring_of acts q)) h
next_ring q (Queue (Ring_dropped k)) acts h = ap (λ b. cond b None (ring_of acts q)) h
next_ring q _ acts h = refl

pub free_ring : (q : ℕ) (new acts : List Act) → AreFree q new → ring_of (new ++ acts) q ≡ ring_of acts q
free_ring q [] acts h = refl
free_ring q (act ∷ new) acts h = next_ring q act (new ++ acts) h.0 ∙ free_ring q new acts h.1

pub free_none : (q : ℕ) (new : List Act) → AreFree q new → ring_of new q ≡ None
free_none q [] h = refl
free_none q (act ∷ new) h = next_ring q act new h.0 ∙ free_none q new h.1

-- ---- where the queue has a ring

module _ (x : Setting) (made : Creation) (name : List ℕ) (s : Seen) (failed : Bool) (q : ℕ) (ring : Ring) (there : ring_of s.acts q ≡ Some ring) where
  session_free : (turn : Turn Act) → AreFree q turn.acts → AreFree q (needs_session s.acts turn).acts
  session_free turn h = refuse_with (AreFree q) tt (not (is_open s.acts)) Badf turn (λ e. h)

  bus_free : (turn : Turn Act) → AreFree q turn.acts → AreFree q (needs_bus s.acts turn).acts
  bus_free turn h = refuse_with (AreFree q) tt (not (is_attached s.acts)) Nodev turn (λ e. h)

  ring_free : (k size : ℕ) → AreFree q (ring_turn x made s.acts k size).acts
  ring_free k size =
      refuse_with (AreFree q) tt (is_missing made k) Inval _ (λ e.
      refuse_with (AreFree q) tt (not (is_ring_size size)) Inval _ (λ f.
      refuse_with (AreFree q) tt (is_some (ring_of s.acts k)) Exist _ (λ g.
      by (place_of (taken_slots s.acts) (pages_of (ring_bytes size)) x.bounce x.iova) (other g (k == q) refl)))) where
        other : is_some (ring_of s.acts k) ≡ false → (b : Bool) → (k == q) ≡ b → (k == q) ≡ false
        other g true e = absurd (true≢false (sym (ap is_some there) ∙ subst (λ j. is_some (ring_of s.acts j) ≡ false) (eqb-true k q e) g))
        other g false e = e

        by : (o : Option ℕ) → (k == q) ≡ false → AreFree q (option_map_or (made_ring_turn s.acts k size) o (refusal_turn Nospc)).acts
        by None e = tt
        by (Some slot) e = (e, (tt, tt))

  submitted_free : (k : ℕ) (r : Ring) (indirect : Bool) (a : AskedRequest) (ms : List Streaming) (ds : List ℕ) → AreFree q (submitted_turn x s.acts k r indirect a ms ds).acts
  submitted_free k r indirect a ms ds =
      let parts = map mapping_part (take (parts_count a) ms) in
      let puts = slot_put r.place (added_count s.acts k) (first_of ds) ∷ request_puts indirect r.place a ms parts ds ++ map_acts ms ++ buffer_acts indirect a parts in
      let are : are_driver puts ≡ true =
      append_driver (request_puts indirect r.place a ms parts ds ++ map_acts ms) (buffer_acts indirect a parts)
      (append_driver (request_puts indirect r.place a ms parts ds) (map_acts ms) (request_puts_driver indirect r.place a ms parts ds) (maps_driver ms))
      (buffers_driver indirect a parts) in
      (tt, (tt, (tt, driver_free q puts are)))

  completed_free : (acts : List Act) (chain : AddedChain) (len : ℕ) → AreFree q acts → AreFree q (completed_turn x s.acts acts chain len).acts
  completed_free acts chain len h = by chain.request where
    by : (o : Option Request) → AreFree q (completed_turn x s.acts acts (record { head = chain.head; descriptors = chain.descriptors; request = o }) len).acts
    by None = h
    by (Some r) = free_append q (request_end_acts (live_mappings s.acts) r) acts (driver_free q (request_end_acts (live_mappings s.acts) r) (ended_driver (live_mappings s.acts) r)) h

  pub queue_free : (step : QueueStep) → is_calm_queue_line step ≡ true → AreFree q (queue_turn x made name s failed step).acts
  queue_free (queue.Fetch k) e = session_free (fetch_turn x made s.acts k) (fetch_is (AreFree q) tt x made s.acts k (λ none ready place position chain bytes.
      free_append q (event_puts s.acts place (next16 position)) (Queue (Fetched k) ∷ []) (put_free q (event_puts s.acts place (next16 position)) (event_put s.acts place (next16 position))) (tt, tt)))
  queue_free (queue.Execute k) e = session_free (execute_turn x made (disk_of made name s) failed s.acts k) (mild_free q (execute_turn x made (disk_of made name s) failed s.acts k).acts (execute_mild x made (disk_of made name s) failed s.acts k))
  queue_free (queue.Finish k) e = session_free (finish_turn x made s.acts k) (finish_is (AreFree q) tt x made s.acts k (λ earlier f end g.
      (tt, put_free q (finish_puts (queue_place s.acts k) (used_position x s.acts k) (hand x earlier k) end) (finish_put (queue_place s.acts k) (used_position x s.acts k) (hand x earlier k) end))))
  queue_free (queue.Ring k size) e = bus_free (ring_turn x made s.acts k size) (ring_free k size)
  queue_free (queue.Submit k asked) e = bus_free (submit_turn x made s.acts k asked) (submit_is (AreFree q) tt x made s.acts k asked (λ r f full ms.
      submitted_free k r (has_indirect s.acts) (asked_by asked) ms (take (needed_descriptors (has_indirect s.acts) (asked_by asked)) (free_descriptors r.place.size (chains_out s.acts k)))))
  queue_free (queue.Poll k) e = bus_free (poll_turn x made s.acts k) (poll_is (AreFree q) tt x made s.acts k (λ r chain f len.
      completed_free (Queue (Chain_reclaimed k chain.head) ∷ used_event_puts s.acts r (reclaimed_count s.acts k + 1)) chain len
      (tt, driver_free q (used_event_puts s.acts r (reclaimed_count s.acts k + 1)) (used_event_driver s.acts r (reclaimed_count s.acts k + 1)))))
  queue_free _ e = cc
