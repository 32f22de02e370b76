-- The turns of lines on a queue's ring, by what is known of the queue and what is kept.
use Rattle.std.proofs.Common.{◌≡◌, ℕ, Bool, true, false, if◌then◌else◌, refl, ap, sym, ◌∙◌, List, [], ◌∷◌, ◌++◌, length, take, Some, None, Option, true≢false}
use Rattle.std.specs.Prelude.{is_some}
use Rattle.vd_num.specs.declared.errno.Errno.TheVariants.{Inval, Nospc, Busy}
use Rattle.vd_model.specs.Creation.{Creation, has_feature}
use Rattle.vd_model.specs.Acts.{Act, Queue, Ring_dropped, state_acts}
use Rattle.vd_model.specs.State.{queue_info, is_ready}
use Rattle.vd_model.specs.Live.{live_regions, live_mappings}
use Rattle.vd_model.specs.Queues.{Ring, free_descriptors, chains_out}
use Rattle.vd_model.specs.declared.answer.Item.TheVariants.{Word, Number}
use Rattle.vd_model.specs.declared.answer.Tag.TheVariants as tag
use Rattle.vd_model.specs.declared.parts.Part.{Part}
use Rattle.vd_model.specs.declared.queue.QueueInfo.{QueueInfo}
use Rattle.vd_model.specs.BusTurns.{is_missing}
use Rattle.vd_model.specs.DaemonTurns.{has_event_idx}
use Rattle.vd_model.specs.RingTurns.{chain_acts, is_full, is_out_of_order, first_of, by_head, requests_end_acts, region_end_acts}
use Rattle.vd_model.specs.Turn.{Turn, done_with, refuse, refusal_if}
use Rattle.vd_request_lines.specs.declared.held.KnownDriver.{KnownDriver}
use Rattle.vd_request_lines.specs.Known.{IsKnown}

-- the turn of an add, on a ring
abbrev pub added_to : List Act → ℕ → List Part → Ring → Turn Act
added_to acts q parts ring =
    refuse (refusal_if (is_out_of_order parts) Inval)
    (refuse (refusal_if (is_full ring.place.size (chains_out acts q) (length parts)) Nospc)
    (done_with (Word tag.Head ∷ Number (first_of (free_descriptors ring.place.size (chains_out acts q))) ∷ [])
    (chain_acts acts q ring.place parts (take (length parts) (free_descriptors ring.place.size (chains_out acts q))) None)))

-- the turn of an unring, on a ring
abbrev pub dropped_from : List Act → ℕ → Ring → Turn Act
dropped_from acts q ring =
    refuse (refusal_if (is_ready (state_acts acts) q) Busy)
    (done_with []
    (Queue (Ring_dropped q) ∷ region_end_acts (live_regions acts) ring.region
    ++ requests_end_acts (live_mappings acts) (by_head (chains_out acts q) ring.place.size)))

there : {X : Type 0} (t : Bool) (i k : X) → Some i ≡ (if t then None else Some k) → (t ≡ false) × (i ≡ k)
there true i k e = absurd (cc)
there false i k e = (refl, cc)

module _ (made : Creation) (acts : List Act) (q : ℕ) (queue : KnownDriver) (known : IsKnown made acts q queue) where
  pub info_there : (info : QueueInfo) → queue.info ≡ Some info → (is_missing made q ≡ false) × (info ≡ queue_info (state_acts acts) q)
  info_there info some = there (is_missing made q) info (queue_info (state_acts acts) q) (sym some ∙ known.info)

  pub not_missing : is_some queue.info ≡ true → is_missing made q ≡ false
  not_missing e = by queue.info refl where
    by : (o : Option QueueInfo) → queue.info ≡ o → is_missing made q ≡ false
    by (Some info) f = (info_there info f).0
    by None f = absurd (true≢false (sym e ∙ ap is_some f))

  pub events_are : has_feature queue.features 29 ≡ has_event_idx acts
  events_are = ap (λ f. has_feature f 29) known.features
