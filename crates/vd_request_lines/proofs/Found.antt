-- The turn of a poll, by what the ring's code finds.
use Rattle.std.proofs.Common.{◌≡◌, ℕ, ◌+◌, ◌-◌, ◌%◌, ◌^◌, ◌<◌, ◌≤◌, Bool, true, false, ◌==◌, ◌||◌, nat_lt, if◌then◌else◌, refl, ap, sym, ◌∙◌, List, [], ◌∷◌, length, Some, None, Option, Result, Ok, Err, true≢false}
use Rattle.std.specs.Option.{option_map_or}
use Rattle.vd_num.specs.Field.{field_at}
use Rattle.vd_num.specs.declared.errno.Errno.TheVariants.{Again}
use Rattle.vd_model.specs.declared.queue.RingPlace.{RingPlace}
use Rattle.vd_model.specs.declared.answer.Answer.TheVariants as answer
use Rattle.vd_model.specs.Memory.{Memory, read}
use Rattle.vd_model.specs.Setting.{Setting}
use Rattle.vd_model.specs.Acts.{Act, AddedChain, Queue, Chain_reclaimed}
use Rattle.vd_model.specs.Puts.{bus_bytes}
use Rattle.vd_model.specs.Queues.{reclaimed_count, published_count, published_chains_out}
use Rattle.vd_model.specs.Rings.{minus16, used_index_at, used_element_at, IsRingSize}
use Rattle.vd_model.specs.RingTurns.{number_at, used_event_puts, completed_turn, reclaimed_turn, polled_turn}
use Rattle.vd_model.specs.Turn.{Turn, refuse, refusal_if}
use Rattle.vd_domain.specs.Handed.{is_coherent}
use Rattle.vd_domain.specs.Seen.{ring_memory}
use Rattle.vd_domain.proofs.Failing.{first_failing_all}
use Rattle.vr_driver.specs.Side.{DriverSide, waiting, is_waiting}
use Rattle.vr_driver.specs.Driver.{by_element, by_index, next_completion}
use Rattle.vr_driver.specs.declared.completion.Completion.{Completion}
use Rattle.vr_driver.specs.declared.completion.UsedError.{UsedError}
use Rattle.vr_driver.specs.declared.completion.UsedError.TheVariants.{BadId, TooFarAhead}
use Rattle.vd_ring_memory.proofs.RingTelling.{ring_reads}
use Rattle.vd_queue_sides.specs.Chains.{chains_of, is_head, IsSide}
use Rattle.vd_queue_sides.proofs.Chained.{element_same}
use Rattle.vd_queue_sides.proofs.Waiting.{waiting_is, is_waiting_is}
use Rattle.vd_rings.proofs.Kicks.{number_is}
use Rattle.vd_rings.proofs.Chains.{whole_turns}
use Rattle.vd_request_lines.specs.Stands.{chain_at}

found_none : (chains : List AddedChain) (id : ℕ) → is_head chains id ≡ false → chain_at chains id ≡ None
found_none [] id e = refl
found_none (c ∷ cs) id e = by (c.head == id) refl (found_none cs id) where
  by : (t : Bool) → (c.head == id) ≡ t → (is_head cs id ≡ false → chain_at cs id ≡ None) → chain_at (c ∷ cs) id ≡ None
  by true h rest = absurd (true≢false (sym (ap (λ t. t || is_head cs id) h) ∙ e))
  by false h rest = ap (λ t. if t then Some c else chain_at cs id) h ∙ rest (sym (ap (λ t. t || is_head cs id) h) ∙ e)

-- the turn of a used chain, by its head
abbrev pub chain_turn : Setting → List Act → ℕ → RingPlace → ℕ → AddedChain → Turn Act
chain_turn x acts q place len chain = completed_turn x acts (Queue (Chain_reclaimed q chain.head) ∷ used_event_puts acts place (reclaimed_count acts q + 1)) chain len

abbrev pub found_turn : Setting → List Act → ℕ → RingPlace → Result (Option Completion) UsedError → Turn Act
found_turn x acts q place (Ok (Some done)) =
    option_map_or (λ chain. chain_turn x acts q place done.len chain) (chain_at (published_chains_out acts q) done.head) (record { answer = answer.BadId done.head; acts = [] })
found_turn x acts q place (Ok None) = record { answer = answer.Err Again; acts = [] }
found_turn x acts q place (Err (BadId id)) = record { answer = answer.BadId id; acts = [] }
found_turn x acts q place (Err (TooFarAhead used published)) = record { answer = answer.UsedAhead used published; acts = [] }

module _ (x : Setting) (acts : List Act) (q region : ℕ) (s : DriverSide) (k : IsSide (chains_of acts q) region s) (small : s.place.size ≤ 32768) where
  abbrev element : List ℕ
  element = bus_bytes x.per_page acts (used_element_at s.place (reclaimed_count acts q)) 8

  abbrev id : ℕ
  id = field_at 4 element 0

  abbrev len : ℕ
  len = field_at 4 element 4

  element_turn : reclaimed_turn x acts q s.place id len ≡ found_turn x acts q s.place (by_element s (Ok element))
  element_turn = by (is_waiting s id) refl where
    by : (t : Bool) → is_waiting s id ≡ t → reclaimed_turn x acts q s.place id len ≡ found_turn x acts q s.place (by_element s (Ok element))
    by true e = sym (ap (λ t. found_turn x acts q s.place (if t then Ok (Some (record { head = id; len = len })) else Err (BadId id))) e)
    by false e =
        ap (λ o. option_map_or (λ chain. chain_turn x acts q s.place len chain) o (record { answer = answer.BadId id; acts = [] }))
        (found_none (published_chains_out acts q) id (sym (is_waiting_is (chains_of acts q) region s k small id) ∙ e))
        ∙ sym (ap (λ t. found_turn x acts q s.place (if t then Ok (Some (record { head = id; len = len })) else Err (BadId id))) e)

  module _ (used : ℕ) where
    by_tests : (t u : Bool) → refuse (refusal_if t Again) (if u then record { answer = answer.UsedAhead used (published_count acts q % 65536); acts = [] } else reclaimed_turn x acts q s.place id len)
        ≡ found_turn x acts q s.place (if t then Ok None else if u then Err (TooFarAhead used s.published) else by_element s (Ok element))
    by_tests true u = refl
    by_tests false true = ap (λ p. record { answer = answer.UsedAhead used p; acts = [] }) (sym k.published)
    by_tests false false = element_turn

    polled_is : polled_turn x acts q s.place used ≡ found_turn x acts q s.place (by_index s used (Ok element))
    polled_is =
        ap (λ r. refuse (refusal_if (used == r) Again)
        (if nat_lt (length (published_chains_out acts q)) (minus16 used r) then record { answer = answer.UsedAhead used (published_count acts q % 65536); acts = [] } else reclaimed_turn x acts q s.place id len)) (sym k.reclaimed)
        ∙ ap (λ n. refuse (refusal_if (used == s.reclaimed) Again)
        (if nat_lt n (minus16 used s.reclaimed) then record { answer = answer.UsedAhead used (published_count acts q % 65536); acts = [] } else reclaimed_turn x acts q s.place id len)) (sym (waiting_is (chains_of acts q) region s k small))
        ∙ by_tests (used == s.reclaimed) (nat_lt (waiting s) (minus16 used s.reclaimed))

  -- what the ring's code finds in memory is what the acts say
  completion_is : (m : Memory) → m ≡ ring_memory x acts → IsRingSize s.place.size
      → ((a : ℕ) → used_index_at s.place ≤ a → a < used_index_at s.place + 2 → is_coherent acts a ≡ true)
      → ((a : ℕ) → used_element_at s.place (reclaimed_count acts q) ≤ a → a < used_element_at s.place (reclaimed_count acts q) + 8 → is_coherent acts a ≡ true)
      → next_completion m s ≡ by_index s (number_at x acts (used_index_at s.place)) (Ok element)
  completion_is m seen size index_there element_there =
      ap (λ n. by_index s n (read m (used_element_at s.place s.reclaimed) 8)) (number_is x acts m seen (used_index_at s.place) index_there)
      ∙ ap (λ at. by_index s (number_at x acts (used_index_at s.place)) (read m at 8))
      (ap (used_element_at s.place) k.reclaimed ∙ element_same s.place (2 ^ (16 - size.0)) (reclaimed_count acts q) (whole_turns s.place.size size))
      ∙ ap (λ r. by_index s (number_at x acts (used_index_at s.place)) r)
      (ring_reads x acts m seen (used_element_at s.place (reclaimed_count acts q)) 8 None (first_failing_all (is_coherent acts) (used_element_at s.place (reclaimed_count acts q)) 8 element_there))

  -- so the turn is that of what it finds
  pub found_is : (m : Memory) → m ≡ ring_memory x acts → IsRingSize s.place.size
      → ((a : ℕ) → used_index_at s.place ≤ a → a < used_index_at s.place + 2 → is_coherent acts a ≡ true)
      → ((a : ℕ) → used_element_at s.place (reclaimed_count acts q) ≤ a → a < used_element_at s.place (reclaimed_count acts q) + 8 → is_coherent acts a ≡ true)
      → polled_turn x acts q s.place (number_at x acts (used_index_at s.place)) ≡ found_turn x acts q s.place (next_completion m s)
  found_is m seen size index_there element_there =
      polled_is (number_at x acts (used_index_at s.place)) ∙ ap (found_turn x acts q s.place) (sym (completion_is m seen size index_there element_there))
