-- A completion ends one request, and leaves what the other pending ones have their own.
use Rattle.std.proofs.Common.{◌≡◌, ℕ, ◌+◌, ◌%◌, ◌<◌, ◌≤◌, Bool, true, false, refl, ap, sym, ◌∙◌, subst, List, [], ◌∷◌, ◌++◌, append_assoc, length, ◌==◌, nat_lt, if◌then◌else◌, Option, Some, None, find, filter}
use Rattle.std.specs.List.{list_all}
use Rattle.std.specs.Option.{option_map_or}
use Rattle.vd_num.specs.Field.{field_at}
use Rattle.vd_num.specs.declared.errno.Errno.{Errno}
use Rattle.vd_num.specs.declared.errno.Errno.TheVariants.{Noent, Again, Inval}
use Rattle.vd_model.specs.declared.answer.Answer.TheVariants as answer
use Rattle.vd_model.specs.declared.queue.RingPlace.{RingPlace}
use Rattle.vd_model.specs.Setting.{Setting}
use Rattle.vd_model.specs.Creation.{Creation}
use Rattle.vd_model.specs.Acts.{Act, Driver, Queue, Request, AddedChain, Driver_put, Chain_reclaimed}
use Rattle.vd_model.specs.Live.{live_mappings}
use Rattle.vd_model.specs.Puts.{bus_bytes}
use Rattle.vd_model.specs.Rings.{minus16, used_event_at, used_index_at, used_element_at}
use Rattle.vd_model.specs.BusTurns.{is_missing}
use Rattle.vd_model.specs.Queues.{Ring, ring_of, reclaimed_count, chains_out, published_chains_out}
use Rattle.vd_model.specs.Raw.{little_bytes}
use Rattle.vd_model.specs.Turn.{refuse, refusal_if, refusal_turn}
use Rattle.vd_model.specs.DaemonTurns.{has_event_idx}
use Rattle.vd_model.specs.RingTurns.{number_at, request_end_acts, used_event_puts, completed_turn, reclaimed_turn, polled_turn, poll_turn}
use Rattle.vd_request_laws.specs.Owned.{AreOwn, AreOwned, HasOwnHeads, pending_requests, is_quiet}
use Rattle.vd_request_laws.proofs.Lists.{equal, found_passes, found_any}
use Rattle.vd_request_laws.proofs.Chains.{Taken, taken}
use Rattle.vd_request_laws.proofs.Pending.{quiet_owned, quiet_chains, same_pending}
use Rattle.vd_request_laws.proofs.Ends.{end_own}
use Rattle.vd_request_laws.proofs.Leaves.{refused, either, memory_chains}
use Rattle.vd_request_laws.proofs.Lines.{Owns}
use Rattle.vd_request_laws.proofs.RingLines.{end_memory, on_ring_owns}

event_quiet : (done : List Act) (place : RingPlace) (position : ℕ) → list_all is_quiet (used_event_puts done place position) ≡ true
event_quiet done place position = by (has_event_idx done) where
  by : (t : Bool) → list_all is_quiet (if t then Driver (Driver_put (used_event_at place) (little_bytes 2 position)) ∷ [] else []) ≡ true
  by true = refl
  by false = refl

module _ (made : Creation) (done : List Act) (h : AreOwned done made.queues) (q : ℕ) (heads : HasOwnHeads done q) where
  abbrev Keeps : List Act → Type 0
  Keeps acts = Owns made done h acts

  module _ (low : q < made.queues) (puts : List Act) (quiet : list_all is_quiet puts ≡ true) where
    -- the chain that is taken back is the only one of its head that is out
    reclaimed : (chain : AddedChain) (id : ℕ) → find (λ (c : AddedChain). c.head == id) (published_chains_out done q) ≡ Some chain → Taken (puts ++ done) q made.queues low chain
    reclaimed chain id e =
        taken (puts ++ done) q made.queues low chain
        (ap (find (λ (c : AddedChain). c.head == chain.head)) same ∙ ap (λ n. find (λ (c : AddedChain). c.head == n) (chains_out done q)) head
        ∙ sym (heads.seen id (found_any (λ (c : AddedChain). c.head == id) (published_chains_out done q) chain e)) ∙ e)
        (subst (λ cs. length (filter (λ (c : AddedChain). c.head == chain.head) cs) ≤ 1) (sym same) (heads.lone chain.head))
        (quiet_owned puts done made.queues quiet h) where
          same : chains_out (puts ++ done) q ≡ chains_out done q
          same = quiet_chains puts done q quiet

          head : chain.head ≡ id
          head = equal chain.head id (found_passes (λ (c : AddedChain). c.head == id) (published_chains_out done q) chain e)

    completed : (x : Setting) (chain : AddedChain) (len : ℕ) → Taken (puts ++ done) q made.queues low chain → Keeps (completed_turn x done (Queue (Chain_reclaimed q chain.head) ∷ puts) chain len).acts
    completed x chain len t = by chain.request refl where
      ended : (r : Request) → chain.request ≡ Some r → Keeps (request_end_acts (live_mappings done) r ++ Queue (Chain_reclaimed q chain.head) ∷ puts)
      ended r e =
          let after = Queue (Chain_reclaimed q chain.head) ∷ (puts ++ done) in
          subst (λ l. AreOwned l made.queues) (sym (append_assoc (request_end_acts (live_mappings done) r) (Queue (Chain_reclaimed q chain.head) ∷ puts) done))
          (subst (AreOwn (request_end_acts (live_mappings done) r ++ after))
          (sym (same_pending after (request_end_acts (live_mappings done) r ++ after) made.queues (λ k. memory_chains (request_end_acts (live_mappings done) r) after k (end_memory (live_mappings done) r))))
          (end_own (live_mappings done) (pending_requests after made.queues) r after (t.gone r e) t.left))

      by : (o : Option Request) → chain.request ≡ o → Keeps (completed_turn x done (Queue (Chain_reclaimed q chain.head) ∷ puts) chain len).acts
      by None e = rw e t.left
      by (Some r) e = rw e (ended r e)

  reclaimed_owns : (x : Setting) → q < made.queues → (place : RingPlace) (id len : ℕ) → Keeps (reclaimed_turn x done q place id len).acts
  reclaimed_owns x low place id len = by (find (λ (c : AddedChain). c.head == id) (published_chains_out done q)) refl where
    by : (o : Option AddedChain) → find (λ (c : AddedChain). c.head == id) (published_chains_out done q) ≡ o
        → Keeps (option_map_or (λ chain. completed_turn x done (Queue (Chain_reclaimed q chain.head) ∷ used_event_puts done place (reclaimed_count done q + 1)) chain len) o (record { answer = answer.BadId id; acts = [] })).acts
    by None e = h
    by (Some chain) e =
        let quiet = event_quiet done place (reclaimed_count done q + 1) in
        completed low (used_event_puts done place (reclaimed_count done q + 1)) quiet x chain len (reclaimed low (used_event_puts done place (reclaimed_count done q + 1)) quiet chain id e)

  polled_owns : (x : Setting) → q < made.queues → (place : RingPlace) (used : ℕ) → Keeps (polled_turn x done q place used).acts
  polled_owns x low place used =
      refused Keeps h (refusal_if (used == reclaimed_count done q % 65536) Again) _ (λ e.
      either Keeps h (nat_lt (length (published_chains_out done q)) (minus16 used (reclaimed_count done q % 65536))) _ _ h
      (reclaimed_owns x low place
      (field_at 4 (bus_bytes x.per_page done (used_element_at place (reclaimed_count done q)) 8) 0)
      (field_at 4 (bus_bytes x.per_page done (used_element_at place (reclaimed_count done q)) 8) 4)))

  poll_owns : (x : Setting) → Keeps (poll_turn x made done q).acts
  poll_owns x = on_ring_owns made done h q _ (λ low ring. polled_owns x low ring.place (number_at x done (used_index_at ring.place)))

-- where the queue has no ring, nothing is done
pub ring_poll_owns : (made : Creation) (done : List Act) → AreOwned done made.queues → (q : ℕ) → ((r : Ring) → ring_of done q ≡ Some r → HasOwnHeads done q) → (x : Setting)
    → AreOwned ((poll_turn x made done q).acts ++ done) made.queues
ring_poll_owns made done h q heads x = by (ring_of done q) refl where
  none : (o : Option Errno) → AreOwned ((refuse o (refusal_turn Noent)).acts ++ done) made.queues
  none None = h
  none (Some e) = h

  by : (o : Option Ring) → ring_of done q ≡ o → AreOwned ((poll_turn x made done q).acts ++ done) made.queues
  by None e =
      subst (λ (o : Option Ring). AreOwned ((refuse (refusal_if (is_missing made q) Inval) (option_map_or (λ ring. polled_turn x done q ring.place (number_at x done (used_index_at ring.place))) o (refusal_turn Noent))).acts ++ done) made.queues)
      (sym e) (none (refusal_if (is_missing made q) Inval))
  by (Some r) e = poll_owns made done h q (heads r e) x
