-- A request that is submitted leaves what pending requests have their own.
use Rattle.std.proofs.Common.{◌≡◌, ℕ, ◌+◌, ◌<◌, ◌≤◌, Bool, true, false, refl, ap, sym, ◌∙◌, subst, arith, List, [], ◌∷◌, ◌++◌, append_assoc, map, take, nat_lt, Option, Some, None}
use Rattle.std.specs.List.{All, list_all}
use Rattle.std.proofs.lemmas.Bool.Decides.{nat_tests}
use Rattle.std.proofs.lemmas.List.Elements.{All-nil, All-cons, All-head, All-append, All-weaker}
use Rattle.vd_num.specs.declared.errno.Errno.TheVariants.{Noent, Busy, Nospc}
use Rattle.vd_model.specs.declared.memory.Want.{Want}
use Rattle.vd_model.specs.declared.parts.Part.{Part}
use Rattle.vd_model.specs.declared.queue.RingPlace.{RingPlace}
use Rattle.vd_model.specs.declared.step.SubmitForm.{SubmitForm}
use Rattle.vd_model.specs.Setting.{Setting}
use Rattle.vd_model.specs.Creation.{Creation}
use Rattle.vd_model.specs.Acts.{Act, Driver, Queue, Streaming, Request, Mapped, Chain_added}
use Rattle.vd_model.specs.Live.{buffers, maps, buffers_len, buffer_len}
use Rattle.vd_model.specs.Place.{taken_slots}
use Rattle.vd_model.specs.Queues.{Ring, added_count, chains_out, free_descriptors, made_buffer, some_pending}
use Rattle.vd_model.specs.Turn.{refusal_if}
use Rattle.vd_model.specs.DriverTurns.{buffer_limit}
use Rattle.vd_model.specs.DaemonTurns.{has_indirect}
use Rattle.vd_model.specs.RingTurns.{AskedRequest, asked_by, is_full, want_refusal, parts_count, made_len, given_want, part_wants, table_wants, placed_mappings, mapping_part, buffer_acts, map_acts, writable_of, table_puts, last_after, request_puts, request_acts, slot_put, first_of, publish_acts, submitted_turn, needed_descriptors, submit_asked, submit_turn}
use Rattle.vd_request_laws.specs.Owned.{IsOwned, AreOthers, AreOwn, AreOwned, pending_requests, is_quiet}
use Rattle.vd_request_laws.proofs.Lists.{not_so, none_passes}
use Rattle.vd_request_laws.proofs.Standing.{quiet_own, alone}
use Rattle.vd_request_laws.proofs.Pending.{quiet_chains, same_pending, quiet_owned, pending_any}
use Rattle.vd_request_laws.proofs.Chains.{added_some}
use Rattle.vd_request_laws.proofs.Placed.{ArePlaced, placed, all_placed, MayMap, maps_own}
use Rattle.vd_request_laws.proofs.Submits.{count_of, new_request, WithBuffers, buffers_quiet, buffers_made, After, new_owned, new_others}
use Rattle.vd_request_laws.proofs.Leaves.{refused, missing, there_made, is_memory, memory_append, memory_chains}
use Rattle.vd_request_laws.proofs.Lines.{Owns}
use Rattle.vd_request_laws.proofs.RingLines.{descriptors_quiet, on_ring_owns}

maps_memory : (ms : List Streaming) → list_all is_memory (map_acts ms) ≡ true
maps_memory [] = refl
maps_memory (m ∷ ms) = memory_append (map_acts ms) (Driver (Mapped m) ∷ []) (maps_memory ms) refl

table_quiet : (place : RingPlace) (o : Option Streaming) (ds : List ℕ) → list_all is_quiet (table_puts place o ds) ≡ true
table_quiet place None ds = refl
table_quiet place (Some m) ds = refl

request_quiet : (indirect : Bool) (place : RingPlace) (a : AskedRequest) (ms : List Streaming) (parts : List Part) (ds : List ℕ) → list_all is_quiet (request_puts indirect place a ms parts ds) ≡ true
request_quiet true place a ms parts ds = table_quiet place (last_after (parts_count a) ms) ds
request_quiet false place a ms parts ds = descriptors_quiet place parts ds

module _ (made : Creation) (done : List Act) (h : AreOwned done made.queues) where
  abbrev Keeps : List Act → Type 0
  Keeps acts = Owns made done h acts

  abbrev Pending : List Request
  Pending = pending_requests done made.queues

  -- ---- what is mapped for a request

  -- a buffer that isn't there yet is of no pending request
  new_free : (k : ℕ) → buffers done ≤ k → All (λ r. made_buffer k (Some r) ≡ false) Pending
  new_free k high = All-weaker (IsOwned done) (λ r. made_buffer k (Some r) ≡ false) off Pending h.each where
    off : (r : Request) → IsOwned done r → made_buffer k (Some r) ≡ false
    off r owned = not_so (made_buffer k (Some r)) (λ e. (let within = owned.made in grind (arith, nat_tests, e, within, high)))

  in_range : (kind : ℕ) (want : Want) → want_refusal made done kind (Some want) ≡ None → (o : Option ℕ) → buffer_len done want.buffer ≡ o → want.buffer < buffers done
  in_range kind want e None g = (let f : Some Noent ≡ None = rw g at e in cc)
  in_range kind want e (Some size) g = there_made done want.buffer size g

  unpending : (kind : ℕ) (want : Want) → want_refusal made done kind (Some want) ≡ None → (o : Option ℕ) → buffer_len done want.buffer ≡ o
      → (t : Bool) → some_pending (made_buffer want.buffer) done made.queues ≡ t → some_pending (made_buffer want.buffer) done made.queues ≡ false
  unpending kind want e None g t is = (let f : Some Noent ≡ None = rw g at e in cc)
  unpending kind want e (Some size) g true is = (let f : Some Busy ≡ None = rw is at (rw g at e) in cc)
  unpending kind want e (Some size) g false is = is

  module _ (indirect : Bool) (a : AskedRequest) (parts : List Part) (granted : want_refusal made done a.kind a.want ≡ None) where
    abbrev Base : List Act
    Base = WithBuffers done indirect a parts

    abbrev May : Want → Type 0
    May want = MayMap Base Pending want

    more : buffers done < buffers Base
    more = (let e = buffers_made done indirect a parts in by indirect e) where
      by : (t : Bool) → buffers Base ≡ buffers done + count_of t → buffers done < buffers Base
      by true e = omega (arith, e)
      by false e = omega (arith, e)

    may_given : (o : Option Want) → want_refusal made done a.kind o ≡ None → All May (given_want o)
    may_given None e = All-nil May
    may_given (Some want) e =
        All-cons May want []
        (record {
          made = (let low = in_range a.kind want e (buffer_len done want.buffer) refl in omega (arith, low, more));
          free = none_passes (λ r. made_buffer want.buffer (Some r)) Pending
              (sym (pending_any (made_buffer want.buffer) refl done made.queues)
              ∙ unpending a.kind want e (buffer_len done want.buffer) refl (some_pending (made_buffer want.buffer) done made.queues) refl);
        }) (All-nil May)

    may_first : (want : Want) → want.buffer ≡ buffers done → May want
    may_first want same = record { made = omega (arith, same, more); free = new_free want.buffer (omega (arith, same)) }

    may_parts : All May (part_wants (buffers done) a)
    may_parts =
        All-cons May _ _ (may_first _ refl)
        (All-append May (given_want a.want) _ (may_given a.want granted) (All-cons May _ [] (may_first _ refl) (All-nil May)))

    may_table : (t : Bool) → indirect ≡ t → All May (table_wants t (buffers done) a)
    may_table true is = All-cons May _ [] (record {
      made = (let e = buffers_made done indirect a parts ∙ ap (λ t. buffers done + count_of t) is in omega (arith, e));
      free = new_free (buffers done + 1) (omega arith);
    }) (All-nil May)
    may_table false is = All-nil May

    may_all : All May (part_wants (buffers done) a ++ table_wants indirect (buffers done) a)
    may_all = All-append May (part_wants (buffers done) a) (table_wants indirect (buffers done) a) may_parts (may_table indirect refl)

  -- ---- the line

  module _ (q : ℕ) (low : q < made.queues) (ring : Ring) (indirect : Bool) (a : AskedRequest) (ms : List Streaming) (parts : List Part) (ds : List ℕ)
      (granted : want_refusal made done a.kind a.want ≡ None) (p : ArePlaced (maps done) (part_wants (buffers done) a ++ table_wants indirect (buffers done) a) ms) where
    abbrev New : Request
    New = new_request done indirect ms (writable_of parts)

    abbrev Then : List Act
    Then = After done indirect a parts ms (writable_of parts) p Pending h

    abbrev Puts : List Act
    Puts = slot_put ring.place (added_count done q) (first_of ds) ∷ request_puts indirect ring.place a ms parts ds

    puts_quiet : list_all is_quiet Puts ≡ true
    puts_quiet = request_quiet indirect ring.place a ms parts ds

    mapped : AreOwn Then Pending
    mapped =
        maps_own ms (WithBuffers done indirect a parts) Pending
        (all_placed (MayMap (WithBuffers done indirect a parts) Pending) (maps done) (part_wants (buffers done) a ++ table_wants indirect (buffers done) a) ms p (may_all indirect a parts granted))
        (quiet_own (buffer_acts indirect a parts) done Pending (buffers_quiet done indirect a parts) h)

    same : pending_requests (Puts ++ Then) made.queues ≡ Pending
    same = same_pending done (Puts ++ Then) made.queues (λ k.
        quiet_chains Puts Then k puts_quiet
        ∙ memory_chains (map_acts ms) (WithBuffers done indirect a parts) k (maps_memory ms)
        ∙ quiet_chains (buffer_acts indirect a parts) done k (buffers_quiet done indirect a parts))

    owned : IsOwned (Puts ++ Then) New
    owned = (
        let one = quiet_own Puts Then (New ∷ []) puts_quiet (alone Then New (new_owned done indirect a parts ms (writable_of parts) p Pending h) mapped.there) in
        All-head (IsOwned (Puts ++ Then)) New [] one.each)

    pub request_owns : Keeps (request_acts done q ring indirect a ms parts ds)
    request_owns =
        subst (λ l. AreOwned (Queue (Chain_added q (record { head = first_of ds; descriptors = ds; request = Some New })) ∷ slot_put ring.place (added_count done q) (first_of ds) ∷ l) made.queues)
        (sym (append_assoc (puts ++ map_acts ms) (buffer_acts indirect a parts) done ∙ append_assoc puts (map_acts ms) (WithBuffers done indirect a parts)))
        (added_some (Puts ++ Then) q made.queues low (record { head = first_of ds; descriptors = ds; request = Some New }) New refl owned
        (subst (All (AreOthers New)) (sym same) (new_others done indirect a parts ms (writable_of parts) p Pending h))
        (subst (AreOwn (Puts ++ Then)) (sym same) (quiet_own Puts Then Pending puts_quiet mapped))) where
          puts : List Act
          puts = request_puts indirect ring.place a ms parts ds

  pub submit_owns : (x : Setting) (q : ℕ) (asked : SubmitForm) → Keeps (submit_turn x made done q asked).acts
  submit_owns x q asked = on_ring_owns made done h q _ (λ low ring. by low ring (has_indirect done) (asked_by asked)) where
    by : q < made.queues → (ring : Ring) (indirect : Bool) (a : AskedRequest) → Keeps (submit_asked x made done q ring indirect a).acts
    by low ring indirect a =
        let wants = part_wants (buffers done) a ++ table_wants indirect (buffers done) a in
        let ds = take (needed_descriptors indirect a) (free_descriptors ring.place.size (chains_out done q)) in
        refused Keeps h (want_refusal made done a.kind a.want) _ (λ e.
        refused Keeps h (refusal_if (nat_lt buffer_limit (buffers_len done + made_len indirect a)) Nospc) _ (λ f.
        refused Keeps h (refusal_if (is_full ring.place.size (chains_out done q) (needed_descriptors indirect a)) Nospc) _ (λ g.
        missing Keeps h (λ ms. submitted_turn x done q ring indirect a ms ds) (placed_mappings x (taken_slots done) (maps done) wants) Nospc (λ ms i.
        let parts = map mapping_part (take (parts_count a) ms) in
        let acts = request_acts done q ring indirect a ms parts ds in
        quiet_owned (publish_acts (acts ++ done) q ring.place) (acts ++ done) made.queues refl
        (request_owns q low ring indirect a ms parts ds e (placed x (taken_slots done) (maps done) wants ms i))))))
