-- The line that publishes.
use Rattle.std.proofs.Common.{◌≡◌, ℕ, ◌%◌, Bool, true, false, if◌then◌else◌, refl, ap, sym, subst, ◌∙◌, List, [], ◌∷◌, ◌++◌, Some, None}
use Rattle.std.specs.Option.{option_map_or}
use Rattle.vd_num.specs.declared.errno.Errno.TheVariants.{Inval, Noent}
use Rattle.vd_pool.specs.Memory.{PoolMemory as Pool}
use Rattle.vd_model.specs.declared.answer.Answer.{Answer}
use Rattle.vd_model.specs.declared.answer.Answer.TheVariants.{Done}
use Rattle.vd_model.specs.declared.answer.Item.TheVariants.{Word, Number}
use Rattle.vd_model.specs.declared.answer.Tag.TheVariants as tag
use Rattle.vd_model.specs.Setting.{Setting}
use Rattle.vd_model.specs.Creation.{Creation}
use Rattle.vd_model.specs.Acts.{Act, Driver, Driver_put, Queue, Chains_published}
use Rattle.vd_model.specs.Queues.{Ring, ring_of, added_count, published_count, chains_out, published_chains_out}
use Rattle.vd_model.specs.Raw.{little_bytes}
use Rattle.vd_model.specs.Rings.{available_index_at}
use Rattle.vd_model.specs.RingTurns.{publish_turn, publish_items, publish_acts, wants_kick}
use Rattle.vd_model.specs.BusTurns.{is_missing}
use Rattle.vd_model.specs.DaemonTurns.{has_event_idx}
use Rattle.vd_model.specs.Turn.{done_with, refuse, refusal_if, refusal_turn}
use Rattle.vd_answers.specs.Tells.{Tells}
use Rattle.vd_answers.proofs.Telling.{tells_by}
use Rattle.vd_domain.specs.Seen.{ring_map, ring_memory}
use Rattle.vd_domain.proofs.Beside.{leaves_domain}
use Rattle.vd_memory_lines.specs.declared.memory.Memory.{Memory}
use Rattle.vd_memory_lines.specs.Stands.{Stands}
use Rattle.vd_memory_lines.proofs.Parts.{domain_act}
use Rattle.vr_split.specs.Reach.{RingInReach}
use Rattle.vr_split.specs.ReachLemmas.{available_index-reached}
use Rattle.vr_driver.specs.Side.{all_published}
use Rattle.vr_driver.specs.Driver.{with_index, is_kick_needed}
use Rattle.vd_ring_memory.specs.RingPuts.{AreRingPuts, IsAfterRingPuts}
use Rattle.vd_queue_sides.specs.Chains.{is_head}
use Rattle.vd_queue_sides.proofs.Daemons.{itself}
use Rattle.vd_queue_sides.proofs.Drivers.{ring_published}
use Rattle.vd_queue_sides.proofs.Chained.{index_put}
use Rattle.vd_rings.proofs.Leaving.{lies_after}
use Rattle.vd_rings.proofs.Lying.{laid, ring_reached, ends, no_span, coherent_reached, small_size}
use Rattle.vd_rings.proofs.Putting.{Shows, puts_stand}
use Rattle.vd_rings.proofs.Moving.{lies_as}
use Rattle.vd_rings.proofs.Kicks.{one_if, kick_is}
use Rattle.blk_driver.specs.Driver as blk
use Rattle.vd_request_lines.specs.declared.held.HeldDriver.{HeldDriver}
use Rattle.vd_request_lines.specs.Stands.{RequestsStand, ring_held, chain_at}
use Rattle.vd_request_lines.specs.After.{After}
use Rattle.vd_request_lines.proofs.Leaving.{requests_after_puts}
use Rattle.vd_request_lines.proofs.Between.{memory_puts}

module _ (x : Setting) (acts : List Act) (m : Pool) (q : ℕ) (h k : Memory) (held : HeldDriver) (s : Stands x acts h m) (r : RequestsStand acts q (Some held))
    (before : Shows h.domain) (later : Shows k.domain) (after : IsAfterRingPuts h.domain k.domain) (rest : k ≡ record h { domain = k.domain })
    (told : ring_map k.domain ≡ with_index (ring_map h.domain) held.driver.ring) where
  seen : ring_map h.domain ≡ ring_memory x acts
  seen = before x acts m s.domain

  reach : RingInReach (Some (ring_map h.domain)) None held.driver.ring.place
  reach = ring_reached acts (ring_held held) r.lies x (ring_map h.domain) seen

  abbrev puts : List Act
  puts = Driver (Driver_put (available_index_at held.driver.ring.place) (little_bytes 2 (added_count acts q))) ∷ []

  only : AreRingPuts acts puts
  only = (coherent_reached x acts (ring_map h.domain) seen (available_index_at held.driver.ring.place) 2 (available_index-reached (Some (ring_map h.domain)) None held.driver.ring.place (ends h.domain) (no_span _) reach.driver), tt)

  put : Stands x (puts ++ acts) k m
  put =
      subst (λ (t : Memory). Stands x (puts ++ acts) t m) (sym rest)
      (memory_puts x acts puts h m k.domain s only
      (puts_stand x acts puts h.domain k.domain m s.domain after before later only (told ∙ sym (index_put (ring_map h.domain) held.driver.ring (added_count acts q) r.side.added))))

  pub published_after : After x acts q k m (Some (record held { driver = record held.driver { ring = all_published held.driver.ring } })) (publish_acts acts q held.driver.ring.place)
  published_after =
      let moved = requests_after_puts acts puts acts q held only r in
      record {
        memory = domain_act x (puts ++ acts) k m put (Queue (Chains_published q)) k.domain m refl refl (leaves_domain x (puts ++ acts) k.domain m put.domain (Queue (Chains_published q)) refl);
        requests = record {
          side = ring_published (puts ++ acts) q held.region held.driver.ring moved.side;
          lies = lies_as (Queue (Chains_published q) ∷ puts ++ acts) (ring_held held) (all_published held.driver.ring) refl (lies_after (puts ++ acts) (ring_held held) (Queue (Chains_published q)) refl moved.lies);
          pending = moved.pending;
          seen = subst (λ t. (id : ℕ) → is_head (if t then chains_out (puts ++ acts) q else published_chains_out (puts ++ acts) q) id ≡ true
              → chain_at (if t then chains_out (puts ++ acts) q else published_chains_out (puts ++ acts) q) id ≡ chain_at (chains_out (puts ++ acts) q) id) (sym (itself q)) (λ id e. refl);
        };
      }

  pub publishes : (made : Creation) → is_missing made q ≡ false → (flag : Bool) → flag ≡ has_event_idx acts → (heard : Answer → Type 0) (idx number : ℕ) (kick : Bool) (d : blk.Driver) → idx ≡ held.driver.ring.added
      → kick ≡ is_kick_needed (ring_map k.domain) held.driver.ring flag → number ≡ one_if kick → d ≡ record held.driver { ring = all_published held.driver.ring } → heard (Done (Word tag.Idx ∷ Number idx ∷ Word tag.Kick ∷ Number number ∷ []))
      → Tells heard (publish_turn x made acts q) (After x acts q k m (Some (record held { driver = d })))
  publishes made here flag is heard idx number kick d i f n e said =
      tells_by on_it
      (ap (λ j. Done (Word tag.Idx ∷ Number j ∷ Word tag.Kick ∷ Number number ∷ [])) (i ∙ r.side.added)
      ∙ ap (λ j. Done (Word tag.Idx ∷ Number (added_count acts q % 65536) ∷ Word tag.Kick ∷ Number j ∷ [])) (n ∙ kicks))
      said (subst (λ (t : blk.Driver). After x acts q k m (Some (record held { driver = t })) (publish_acts acts q held.driver.ring.place)) (sym e) published_after) where
        on_it : publish_turn x made acts q ≡ done_with (publish_items x acts q held.driver.ring.place) (publish_acts acts q held.driver.ring.place)
        on_it =
            ap (λ t. refuse (refusal_if t Inval) (option_map_or (λ (ring : Ring). done_with (publish_items x acts q ring.place) (publish_acts acts q ring.place)) (ring_of acts q) (refusal_turn Noent))) here
            ∙ ap (λ o. option_map_or (λ (ring : Ring). done_with (publish_items x acts q ring.place) (publish_acts acts q ring.place)) o (refusal_turn Noent)) r.side.ring

        kicks : one_if kick ≡ wants_kick x acts held.driver.ring.place (added_count acts q) (published_count acts q)
        kicks =
            ap one_if (f ∙ ap (λ w. is_kick_needed w held.driver.ring flag) told)
            ∙ kick_is x acts q held.region h.domain held.driver.ring flag seen (laid acts (ring_held held) r.lies) reach r.side (small_size held.driver.ring.place.size r.lies.size) is
