-- What a poll tells of the next used element.
use Rattle.std.proofs.Common.{◌≡◌, ℕ, ◌+◌, ◌%◌, Bool, true, false, refl, ◌∙◌, Option, None, Some, List, [], ◌∷◌, ◌==◌, not, nat_lt, find, length, eqb-true, if◌then◌else◌}
use Rattle.std.specs.Option.{option_map_or}
use Rattle.vd_num.specs.Field.{field_at}
use Rattle.vd_num.specs.declared.errno.Errno.{Errno}
use Rattle.vd_num.specs.declared.errno.Errno.TheVariants.{Noent, Nodev, Inval, Again}
use Rattle.vd_model.specs.declared.step.QueueStep.TheVariants as queue
use Rattle.vd_model.specs.declared.queue.RingPlace.{RingPlace}
use Rattle.vd_model.specs.declared.answer.Tag.TheVariants.{Head, Len}
use Rattle.vd_model.specs.declared.answer.Item.{Item}
use Rattle.vd_model.specs.declared.answer.Item.TheVariants.{Word, Number}
use Rattle.vd_model.specs.declared.answer.Answer.TheVariants.{Done, BadId, UsedAhead}
use Rattle.vd_model.specs.Setting.{Setting}
use Rattle.vd_model.specs.Creation.{Creation}
use Rattle.vd_model.specs.Acts.{Act, AddedChain, Request, Queue, Chain_reclaimed}
use Rattle.vd_model.specs.Live.{is_attached}
use Rattle.vd_model.specs.Puts.{bus_bytes}
use Rattle.vd_model.specs.Queues.{Ring, ring_of, reclaimed_count, published_count, published_chains_out}
use Rattle.vd_model.specs.Rings.{minus16, used_index_at, used_element_at}
use Rattle.vd_model.specs.Turn.{refuse, refusal_turn, refusal_if}
use Rattle.vd_model.specs.BusTurns.{is_missing}
use Rattle.vd_model.specs.RingTurns.{number_at, used_event_puts, completed_turn, reclaimed_turn, polled_turn}
use Rattle.vd_model.specs.Deeds.{Seen}
use Rattle.vd_model.specs.History.{queue_turn, device_queue_turn}
use Rattle.vd_laws.specs.UsedBytesLaw.{IsNextUsed}
use Rattle.vd_laws.proofs.Lists.{found_passes}

record Tells (head len h l : ℕ) : Type 0 where
  heads : h ≡ head
  lengths : l ≡ len

completed_turn_tells : (x : Setting) (done acts : List Act) (head : ℕ) (ds : List ℕ) (o : Option Request) (len h l : ℕ) (more : List Item)
    → (completed_turn x done acts (record { head = head; descriptors = ds; request = o }) len).answer ≡ Done (Word Head ∷ Number h ∷ Word Len ∷ Number l ∷ more) → Tells head len h l
completed_turn_tells x done acts head ds None len h l more e = record { heads = cc; lengths = cc }
completed_turn_tells x done acts head ds (Some r) len h l more e = record { heads = cc; lengths = cc }

module _ (x : Setting) (done : List Act) (q h l : ℕ) (more : List Item) (place : RingPlace) where
  reclaimed_tells : (id len : ℕ) → (reclaimed_turn x done q place id len).answer ≡ Done (Word Head ∷ Number h ∷ Word Len ∷ Number l ∷ more) → Tells id len h l
  reclaimed_tells id len e = by (find (λ chain. chain.head == id) (published_chains_out done q)) refl e where
    by : (o : Option AddedChain) → find (λ chain. chain.head == id) (published_chains_out done q) ≡ o
        → (option_map_or (λ chain. completed_turn x done (Queue (Chain_reclaimed q chain.head) ∷ used_event_puts done place (reclaimed_count done q + 1)) chain len) o (record { answer = BadId id; acts = [] })).answer ≡ Done (Word Head ∷ Number h ∷ Word Len ∷ Number l ∷ more)
        → Tells id len h l
    by None f g = cc
    by (Some chain) f g =
        let t = completed_turn_tells x done (Queue (Chain_reclaimed q chain.head) ∷ used_event_puts done place (reclaimed_count done q + 1)) chain.head chain.descriptors chain.request len h l more g in
        record { heads = t.heads ∙ eqb-true chain.head id (found_passes (λ chain. chain.head == id) chain (published_chains_out done q) f); lengths = t.lengths }

  polled_turn_tells : (used : ℕ) → (polled_turn x done q place used).answer ≡ Done (Word Head ∷ Number h ∷ Word Len ∷ Number l ∷ more)
      → Tells (field_at 4 (bus_bytes x.per_page done (used_element_at place (reclaimed_count done q)) 8) 0) (field_at 4 (bus_bytes x.per_page done (used_element_at place (reclaimed_count done q)) 8) 4) h l
  polled_turn_tells used e = by (refusal_if (used == reclaimed_count done q % 65536) Again) (nat_lt (length (published_chains_out done q)) (minus16 used (reclaimed_count done q % 65536))) e where
    by : (o : Option Errno) (b : Bool)
        → (refuse o (if b then record { answer = UsedAhead used (published_count done q % 65536); acts = [] }
        else reclaimed_turn x done q place
        (field_at 4 (bus_bytes x.per_page done (used_element_at place (reclaimed_count done q)) 8) 0)
        (field_at 4 (bus_bytes x.per_page done (used_element_at place (reclaimed_count done q)) 8) 4))).answer ≡ Done (Word Head ∷ Number h ∷ Word Len ∷ Number l ∷ more)
        → Tells (field_at 4 (bus_bytes x.per_page done (used_element_at place (reclaimed_count done q)) 8) 0) (field_at 4 (bus_bytes x.per_page done (used_element_at place (reclaimed_count done q)) 8) 4) h l
    by (Some errno) b f = cc
    by None true f = cc
    by None false f = reclaimed_tells _ _ f

pub tells : (x : Setting) (s : Seen) (d : List ℕ) (q : ℕ) (failed : Bool) (h l : ℕ) (more : List Item)
    → (device_queue_turn x d s failed (queue.Poll q)).answer ≡ Done (Word Head ∷ Number h ∷ Word Len ∷ Number l ∷ more) → IsNextUsed x s.acts q h l
tells x s d q failed h l more e = by s.made e where
  on : (made : Creation) (o p : Option Errno) (r : Option Ring) → ring_of s.acts q ≡ r
      → (refuse o (refuse p (option_map_or (λ ring. polled_turn x s.acts q ring.place (number_at x s.acts (used_index_at ring.place))) r (refusal_turn Noent)))).answer ≡ Done (Word Head ∷ Number h ∷ Word Len ∷ Number l ∷ more)
      → IsNextUsed x s.acts q h l
  on made (Some errno) p r f g = cc
  on made None (Some errno) r f g = cc
  on made None None None f g = cc
  on made None None (Some ring) f g =
      let t = polled_turn_tells x s.acts q h l more ring.place (number_at x s.acts (used_index_at ring.place)) g in
      record { ring = ring; there = f; heads = t.heads; lengths = t.lengths }

  by : (o : Option Creation) → (option_map_or (λ made. queue_turn x made d s failed (queue.Poll q)) o (refusal_turn Nodev)).answer ≡ Done (Word Head ∷ Number h ∷ Word Len ∷ Number l ∷ more) → IsNextUsed x s.acts q h l
  by None f = cc
  by (Some made) f = on made (refusal_if (not (is_attached s.acts)) Nodev) (refusal_if (is_missing made q) Inval) (ring_of s.acts q) refl f
