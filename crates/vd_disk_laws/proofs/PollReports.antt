-- A chain that is out stays out until a poll reports its head.
use Rattle.std.proofs.Common.{◌≡◌, ℕ, ◌+◌, ◌%◌, ◌==◌, Bool, true, false, refl, ap, subst, sym, cond, Option, None, Some, List, [], ◌∷◌, ◌++◌, length, filter, find, not, nat_lt, eqb-true, if◌then◌else◌}
use Rattle.std.specs.Option.{option_map_or}
use Rattle.std.proofs.lemmas.Bool.{ne_eqb}
use Rattle.vd_num.specs.declared.errno.Errno.{Errno}
use Rattle.vd_num.specs.declared.errno.Errno.TheVariants.{Again, Inval, Noent}
use Rattle.vd_model.specs.declared.answer.Item.{Item}
use Rattle.vd_model.specs.declared.answer.Item.TheVariants.{Word, Number}
use Rattle.vd_model.specs.declared.answer.Tag.TheVariants as tag
use Rattle.vd_model.specs.declared.answer.Answer.TheVariants.{Done}
use Rattle.vd_model.specs.declared.answer.Answer.TheVariants as answer
use Rattle.vd_model.specs.Setting.{Setting}
use Rattle.vd_model.specs.Creation.{Creation}
use Rattle.vd_model.specs.Acts.{Act, AddedChain, Request, Queue, Ring_made, Ring_dropped, Chain_added, Chain_reclaimed}
use Rattle.vd_model.specs.Live.{live_mappings}
use Rattle.vd_model.specs.Rings.{minus16, used_index_at}
use Rattle.vd_model.specs.Turn.{Turn, refuse, refusal_turn, refusal_if}
use Rattle.vd_model.specs.BusTurns.{is_missing}
use Rattle.vd_model.specs.Puts.{ram}
use Rattle.vd_model.specs.Queues.{Ring, ring_of, chains_out, reclaimed_count, published_count, published_chains_out, is_other_chain}
use Rattle.vd_model.specs.RingTurns.{number_at, used_event_puts, unmap_acts, request_end_acts, completed_turn, reclaimed_turn, polled_turn, poll_turn}
use Rattle.vd_laws.specs.Among.{Among}
use Rattle.vd_laws.proofs.Lists.{push_left, filter_in}
use Rattle.vd_order_laws.proofs.FreeRings.{IsFree, AreFree}
use Rattle.vd_ring_turns.proofs.PollTurns.{element_id, element_len}

-- ---- acts that don't reclaim the head

abbrev pub IsUnreclaimed : ℕ → ℕ → Act → Type 0
IsUnreclaimed q head (Queue (Chain_reclaimed k h)) = (k ≡ q) → (h ≡ head) → ⊥
IsUnreclaimed q head _ = Unit {0}

abbrev pub AreUnreclaimed : ℕ → ℕ → List Act → Type 0
AreUnreclaimed q head [] = Unit {0}
AreUnreclaimed q head (act ∷ acts) = IsUnreclaimed q head act × AreUnreclaimed q head acts

one_out : (q : ℕ) (c : AddedChain) (act : Act) (acts : List Act) → IsFree q act → IsUnreclaimed q c.head act → Among c (chains_out acts q) → Among c (chains_out (act ∷ acts) q)
one_out q c (Queue (Ring_made k place region)) acts f u h = subst (λ b. Among c (cond b [] (chains_out acts q))) (sym f) h
one_out q c (Queue (Ring_dropped k)) acts f u h = subst (λ b. Among c (cond b [] (chains_out acts q))) (sym f) h
one_out q c (Queue (Chain_added k chain)) acts f u h = by (k == q) where
  by : (b : Bool) → Among c (cond b (chains_out acts q ++ chain ∷ []) (chains_out acts q))
  by true = push_left c chain (chains_out acts q) h
  by false = h
one_out q c (Queue (Chain_reclaimed k head)) acts f u h = by (k == q) refl where
  by : (b : Bool) → (k == q) ≡ b → Among c (cond b (filter (is_other_chain head) (chains_out acts q)) (chains_out acts q))
  by true e = filter_in (is_other_chain head) c (chains_out acts q) h (ap not (ne_eqb c.head head (λ is. u (eqb-true k q e) (sym is))))
  by false e = h
one_out q c _ acts f u h = h

pub stays_out : (q : ℕ) (c : AddedChain) (new acts : List Act) → AreFree q new → AreUnreclaimed q c.head new → Among c (chains_out acts q) → Among c (chains_out (new ++ acts) q)
stays_out q c [] acts f u h = h
stays_out q c (act ∷ new) acts f u h = one_out q c act (new ++ acts) f.0 u.0 (stays_out q c new acts f.1 u.1 h)

-- ---- a poll

-- a poll that isn't answered with a report makes no act; else it reports the chain that it found
pub data Polls_as (x : Setting) (done : List Act) (q : ℕ) (turn : Turn Act) : Type 0 where
  silent : turn.acts ≡ [] → ((items : List Item) → turn.answer ≡ Done items → ⊥) → Polls_as x done q turn
  reports : (ring : Ring) → ring_of done q ≡ Some ring → (number_at x done (used_index_at ring.place) == reclaimed_count done q % 65536) ≡ false
      → (chain : AddedChain) → find (λ c. c.head == element_id x done q ring.place) (published_chains_out done q) ≡ Some chain
      → turn ≡ completed_turn x done (Queue (Chain_reclaimed q chain.head) ∷ used_event_puts done ring.place (reclaimed_count done q + 1)) chain (element_len x done q ring.place) → Polls_as x done q turn

module _ (x : Setting) (made : Creation) (done : List Act) (q : ℕ) where
  poll_refuse : (b : Bool) (errno : Errno) (turn : Turn Act) → (b ≡ false → Polls_as x done q turn) → Polls_as x done q (refuse (refusal_if b errno) turn)
  poll_refuse true errno turn h = silent refl (λ items e. cc)
  poll_refuse false errno turn h = h refl

  pub poll_does : Polls_as x done q (poll_turn x made done q)
  poll_does = poll_refuse (is_missing made q) Inval _ (λ e. ring_with (ring_of done q) refl) where
    ring_with : (o : Option Ring) → ring_of done q ≡ o → Polls_as x done q (option_map_or (λ ring. polled_turn x done q ring.place (number_at x done (used_index_at ring.place))) o (refusal_turn Noent))
    ring_with None e = silent refl (λ items e. cc)
    ring_with (Some ring) e =
        let used = number_at x done (used_index_at ring.place) in
        poll_refuse (used == reclaimed_count done q % 65536) Again _ (λ f. ahead (nat_lt (length (published_chains_out done q)) (minus16 used (reclaimed_count done q % 65536))) (by (find (λ c. c.head == element_id x done q ring.place) (published_chains_out done q)) refl f)) where
          ahead : (b : Bool) → Polls_as x done q (reclaimed_turn x done q ring.place (element_id x done q ring.place) (element_len x done q ring.place))
              → Polls_as x done q (if b then record { answer = answer.UsedAhead (number_at x done (used_index_at ring.place)) (published_count done q % 65536); acts = [] } else reclaimed_turn x done q ring.place (element_id x done q ring.place) (element_len x done q ring.place))
          ahead true h = silent refl (λ items e. cc)
          ahead false h = h

          by : (o : Option AddedChain) → find (λ c. c.head == element_id x done q ring.place) (published_chains_out done q) ≡ o → (number_at x done (used_index_at ring.place) == reclaimed_count done q % 65536) ≡ false
              → Polls_as x done q (option_map_or (λ chain. completed_turn x done (Queue (Chain_reclaimed q chain.head) ∷ used_event_puts done ring.place (reclaimed_count done q + 1)) chain (element_len x done q ring.place)) o (record { answer = answer.BadId (element_id x done q ring.place); acts = [] }))
          by None g f = silent refl (λ items e. cc)
          by (Some chain) g f = reports ring e f chain g refl

-- the report of a request
pub completed_is : (x : Setting) (done acts : List Act) (chain : AddedChain) (len : ℕ) (r : Request) → chain.request ≡ Some r
    → completed_turn x done acts chain len ≡ record {
      answer = Done (Word tag.Head ∷ Number chain.head ∷ Word tag.Len ∷ Number len ∷ Word tag.Status ∷ (if nat_lt len r.writable then Word tag.Dash else Number (ram x.per_page (unmap_acts (live_mappings done) r.maps ++ done) r.buffer 16)) ∷ []);
      acts = request_end_acts (live_mappings done) r ++ acts;
    }
completed_is x done acts chain len r e = ap (λ o. completed_turn x done acts (record { head = chain.head; descriptors = chain.descriptors; request = o }) len) e
