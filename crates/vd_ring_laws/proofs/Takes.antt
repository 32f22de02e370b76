-- The driver's lines place chains of free descriptors, and reclaim chains that were published.
use Rattle.std.proofs.Common.{◌≡◌, ℕ, zero, suc, ◌+◌, ◌<◌, Bool, true, false, refl, ap, subst, ◌∙◌, sym, arith, Option, None, Some, List, [], ◌∷◌, ◌++◌, map, take, length, inl, inr, not, if◌then◌else◌, append_assoc}
use Rattle.std.proofs.lemmas.Bool.{not-true}
use Rattle.vd_num.specs.declared.errno.Errno.TheVariants.{Inval, Nospc, Busy}
use Rattle.vd_model.specs.declared.parts.Part.{Part}
use Rattle.vd_model.specs.declared.step.SubmitForm.{SubmitForm}
use Rattle.vd_model.specs.Setting.{Setting}
use Rattle.vd_model.specs.Creation.{Creation}
use Rattle.vd_model.specs.Acts.{Act, AddedChain, Request, Queue, Streaming, Chain_reclaimed, state_acts}
use Rattle.vd_model.specs.Live.{buffers, live_mappings, live_regions}
use Rattle.vd_model.specs.State.{is_ready}
use Rattle.vd_model.specs.Queues.{Ring, ring_of, added_count, reclaimed_count, chains_out, numbers_below, is_in_chains, free_descriptors}
use Rattle.vd_model.specs.Turn.{refusal_if}
use Rattle.vd_model.specs.DaemonTurns.{has_indirect}
use Rattle.vd_model.specs.RingTurns.{first_of, slot_put, descriptor_puts, is_out_of_order, is_full, add_turn, ring_turn, unring_turn, publish_turn, region_end_acts, requests_end_acts, by_head, AskedRequest, asked_by, needed_descriptors, mapping_part, parts_count, request_puts, map_acts, buffer_acts, writable_of, submitted_turn, submit_turn, used_event_puts, request_end_acts, completed_turn, poll_turn}
use Rattle.vd_laws.specs.Among.{Among}
use Rattle.vd_laws.proofs.Lists.{pushed, filtered}
use Rattle.vd_ring_laws.proofs.Drivers.{are_driver, append_driver, ring_kept, chains_out_kept, published_kept, descriptors_driver, maps_driver, buffers_driver, request_puts_driver, used_event_driver, ended_driver, unring_acts_driver}
use Rattle.vd_ring_laws.proofs.Mild.{drivers_are_mild}
use Rattle.vd_ring_laws.proofs.Leaves.{refuse_is, on_ring_is, ring_is, submit_is, poll_is}
use Rattle.vd_ring_laws.proofs.Fair.{IsTaken, Fair, mild_fair}

-- ---- free descriptors

among_take : (n k : ℕ) (xs : List ℕ) → Among k (take n xs) → Among k xs
among_take zero k xs h = absurd h
among_take (suc n) k [] h = absurd h
among_take (suc n) k (x ∷ xs) (inl e) = inl e
among_take (suc n) k (x ∷ xs) (inr h) = inr (among_take n k xs h)

among_below : (n k : ℕ) → Among k (numbers_below n) → k < n
among_below zero k h = absurd h
among_below (suc n) k h = elim (pushed k n (numbers_below n) h) [ inl j ↦ (let l = among_below n k j in omega arith) | inr e ↦ omega arith ]

pub free_descriptors_is : (size : ℕ) (chains : List AddedChain) (n k : ℕ) → Among k (take n (free_descriptors size chains)) → (k < size) × (is_in_chains chains k ≡ false)
free_descriptors_is size chains n k h =
    let f = filtered (λ d. not (is_in_chains chains d)) k (numbers_below size) (among_take n k (free_descriptors size chains) h) in
    (among_below size k f.0, not-true (is_in_chains chains k) f.1)

module _ (done : List Act) (fair : Fair done) (q : ℕ) where
  drivers_fair : (acts : List Act) → are_driver acts ≡ true → Fair (acts ++ done)
  drivers_fair acts e = mild_fair acts done (drivers_are_mild acts e) fair

  -- a chain that is placed after some acts of the driver
  taken_over : (ring : Ring) → ring_of done q ≡ Some ring → (puts : List Act) → are_driver puts ≡ true → (n : ℕ) (o : Option Request)
      → IsTaken (puts ++ done) q (record { head = first_of (take n (free_descriptors ring.place.size (chains_out done q))); descriptors = take n (free_descriptors ring.place.size (chains_out done q)); request = o })
  taken_over ring e puts are n o = record {
    ring = ring;
    there = ring_kept puts done q are ∙ e;
    free = λ k h. (let f = free_descriptors_is ring.place.size (chains_out done q) n k h in (f.0, ap (λ l. is_in_chains l k) (chains_out_kept puts done q are) ∙ f.1));
    first = refl;
  }

pub ring_fair : (x : Setting) (made : Creation) (done : List Act) → Fair done → (q size : ℕ) → Fair ((ring_turn x made done q size).acts ++ done)
ring_fair x made done fair q size = ring_is (λ acts. Fair (acts ++ done)) fair x made done q size (λ slot. (tt, (tt, fair)))

pub unring_fair : (x : Setting) (made : Creation) (done : List Act) → Fair done → (q : ℕ) → Fair ((unring_turn made done q).acts ++ done)
unring_fair x made done fair q = on_ring_is (λ acts. Fair (acts ++ done)) fair x made done q _ (λ ring e.
    refuse_is (λ acts. Fair (acts ++ done)) fair (refusal_if (is_ready (state_acts done) q) Busy) _ (λ f.
    (tt, drivers_fair done fair q (region_end_acts (live_regions done) ring.region ++ requests_end_acts (live_mappings done) (by_head (chains_out done q) ring.place.size)) (unring_acts_driver done q ring))))

pub publish_fair : (x : Setting) (made : Creation) (done : List Act) → Fair done → (q : ℕ) → Fair ((publish_turn x made done q).acts ++ done)
publish_fair x made done fair q = on_ring_is (λ acts. Fair (acts ++ done)) fair x made done q _ (λ ring e. (tt, (tt, fair)))

pub add_fair : (x : Setting) (made : Creation) (done : List Act) → Fair done → (q : ℕ) (parts : List Part) → Fair ((add_turn made done q parts).acts ++ done)
add_fair x made done fair q parts = on_ring_is (λ acts. Fair (acts ++ done)) fair x made done q _ (λ ring e.
    refuse_is (λ acts. Fair (acts ++ done)) fair (refusal_if (is_out_of_order parts) Inval) _ (λ f.
    refuse_is (λ acts. Fair (acts ++ done)) fair (refusal_if (is_full ring.place.size (chains_out done q) (length parts)) Nospc) _ (λ g.
    let ds = take (length parts) (free_descriptors ring.place.size (chains_out done q)) in
    let puts = slot_put ring.place (added_count done q) (first_of ds) ∷ descriptor_puts ring.place parts ds in
    let are : are_driver puts ≡ true = descriptors_driver ring.place parts ds in
    (taken_over done fair q ring e puts are (length parts) None, drivers_fair done fair q puts are))))

submitted_turn_fair : (x : Setting) (done : List Act) → Fair done → (q : ℕ) (ring : Ring) → ring_of done q ≡ Some ring → (indirect : Bool) (a : AskedRequest) (ms : List Streaming)
    → Fair ((submitted_turn x done q ring indirect a ms (take (needed_descriptors indirect a) (free_descriptors ring.place.size (chains_out done q)))).acts ++ done)
submitted_turn_fair x done fair q ring e indirect a ms =
    let ds = take (needed_descriptors indirect a) (free_descriptors ring.place.size (chains_out done q)) in
    let parts = map mapping_part (take (parts_count a) ms) in
    let puts = slot_put ring.place (added_count done q) (first_of ds) ∷ request_puts indirect ring.place a ms parts ds ++ map_acts ms ++ buffer_acts indirect a parts in
    let are : are_driver puts ≡ true =
    append_driver (request_puts indirect ring.place a ms parts ds ++ map_acts ms) (buffer_acts indirect a parts)
    (append_driver (request_puts indirect ring.place a ms parts ds) (map_acts ms) (request_puts_driver indirect ring.place a ms parts ds) (maps_driver ms))
    (buffers_driver indirect a parts) in
    let request : Request = record { buffer = buffers done; buffers = (if indirect then 2 else 1); maps = map (λ m. m.number) ms; writable = writable_of parts } in
    (tt, (tt, (taken_over done fair q ring e puts are (needed_descriptors indirect a) (Some request), drivers_fair done fair q puts are)))

pub submit_fair : (x : Setting) (made : Creation) (done : List Act) → Fair done → (q : ℕ) (asked : SubmitForm) → Fair ((submit_turn x made done q asked).acts ++ done)
submit_fair x made done fair q asked = submit_is (λ acts. Fair (acts ++ done)) fair x made done q asked (λ ring e f ms. submitted_turn_fair x done fair q ring e (has_indirect done) (asked_by asked) ms)

-- ---- completions

completed_turn_fair : (x : Setting) (done : List Act) (acts : List Act) (chain : AddedChain) (len : ℕ) → Fair (acts ++ done) → Fair ((completed_turn x done acts chain len).acts ++ done)
completed_turn_fair x done acts chain len h = by chain.request where
  by : (o : Option Request) → Fair ((completed_turn x done acts (record { head = chain.head; descriptors = chain.descriptors; request = o }) len).acts ++ done)
  by None = h
  by (Some r) =
      subst Fair (sym (append_assoc (request_end_acts (live_mappings done) r) acts done))
      (mild_fair (request_end_acts (live_mappings done) r) (acts ++ done) (drivers_are_mild (request_end_acts (live_mappings done) r) (ended_driver (live_mappings done) r)) h)

pub poll_fair : (x : Setting) (made : Creation) (done : List Act) → Fair done → (q : ℕ) → Fair ((poll_turn x made done q).acts ++ done)
poll_fair x made done fair q = poll_is (λ acts. Fair (acts ++ done)) fair x made done q (λ r chain there len.
    let puts = used_event_puts done r (reclaimed_count done q + 1) in
    let are = used_event_driver done r (reclaimed_count done q + 1) in
    completed_turn_fair x done (Queue (Chain_reclaimed q chain.head) ∷ puts) chain len
    ((chain, subst (Among chain) (sym (published_kept puts done q are)) there, refl), drivers_fair done fair q puts are))
