-- The turn of a line that places a request, by what is known of it.
use Rattle.std.proofs.Common.{◌≡◌, ℕ, ◌+◌, ◌≤◌, Bool, true, false, nat_lt, refl, ap, sym, ◌∙◌, arith, List, ◌++◌, length, take, Some, None, Option}
use Rattle.std.specs.Option.{option_map_or}
use Rattle.std.proofs.lemmas.Bool.Decides.{nat_tests}
use Rattle.vd_num.specs.declared.errno.Errno.{Errno}
use Rattle.vd_num.specs.declared.errno.Errno.TheVariants.{Inval, Noent, Nospc}
use Rattle.vd_model.specs.declared.step.SubmitForm.{SubmitForm}
use Rattle.vd_model.specs.Setting.{Setting}
use Rattle.vd_model.specs.Creation.{Creation}
use Rattle.vd_model.specs.Acts.{Act, Streaming}
use Rattle.vd_model.specs.Live.{buffers, buffers_len, maps}
use Rattle.vd_model.specs.Place.{taken_slots}
use Rattle.vd_model.specs.Queues as model
use Rattle.vd_model.specs.Queues.{Ring, ring_of, chains_out}
use Rattle.vd_model.specs.RingTurns.{AskedRequest, asked_by, submit_turn, submit_asked, submitted_turn, want_refusal, made_len, is_full, needed_descriptors, placed_mappings, part_wants, table_wants}
use Rattle.vd_model.specs.BusTurns.{is_missing}
use Rattle.vd_model.specs.DaemonTurns.{has_indirect}
use Rattle.vd_model.specs.DriverTurns.{buffer_limit}
use Rattle.vd_model.specs.Turn.{Turn, refuse, refusal_if, refusal_turn}
use Rattle.vr_driver.specs.Side.{unowned_descriptors, next_chain}
use Rattle.vd_queue_sides.specs.Chains.{chains_of}
use Rattle.vd_queue_sides.proofs.FreeLemmas.{free_same}
use Rattle.blk_driver.specs.Asked.{asked_in}
use Rattle.vd_request_lines.specs.declared.held.HeldDriver.{HeldDriver}
use Rattle.vd_request_lines.specs.Stands.{RequestsStand}
use Rattle.vd_request_lines.specs.Asking.{ask_by}
use Rattle.vd_request_lines.specs.Submitting.{HasNoPlace, no_bytes, too_few, no_slots}
use Rattle.vd_request_lines.proofs.Asks.{asked_is}

refused_if : (t : Bool) → refuse {A = Act} (refusal_if t Nospc) (refusal_turn Nospc) ≡ refusal_turn Nospc
refused_if true = refl
refused_if false = refl

module _ (x : Setting) (acts : List Act) (q : ℕ) (held : HeldDriver) (r : RequestsStand acts q (Some held)) where
  free_is : unowned_descriptors held.driver.ring ≡ model.free_descriptors held.driver.ring.place.size (chains_out acts q)
  free_is = free_same (chains_of acts q) held.region held.driver.ring r.side

  abbrev ring : Ring
  ring = record { place = held.driver.ring.place; region = held.region }

  abbrev pub by_slots : Bool → AskedRequest → Option (List Streaming) → Turn Act
  by_slots i a o = option_map_or (λ ms. submitted_turn x acts q ring i a ms (take (needed_descriptors i a) (model.free_descriptors held.driver.ring.place.size (chains_out acts q)))) o (refusal_turn Nospc)

  abbrev wanted_slots : Bool → AskedRequest → Option (List Streaming)
  wanted_slots i a = placed_mappings x (taken_slots acts) (maps acts) (part_wants (buffers acts) a ++ table_wants i (buffers acts) a)

  -- the turn of what isn't refused for its range
  abbrev pub asked_turn : Bool → AskedRequest → Turn Act
  asked_turn i a =
      refuse (refusal_if (nat_lt buffer_limit (buffers_len acts + made_len i a)) Nospc)
      (refuse (refusal_if (is_full held.driver.ring.place.size (chains_out acts q) (needed_descriptors i a)) Nospc) (by_slots i a (wanted_slots i a)))

  module _ (made : Creation) (here : is_missing made q ≡ false) (form : SubmitForm) (i : Bool) (is : i ≡ has_indirect acts) where
    abbrev a : AskedRequest
    a = asked_in (ask_by form)

    on_it : submit_turn x made acts q form ≡ refuse (want_refusal made acts a.kind a.want) (asked_turn i a)
    on_it =
        ap (λ t. refuse (refusal_if t Inval) (option_map_or (λ ring. submit_asked x made acts q ring (has_indirect acts) (asked_by form)) (ring_of acts q) (refusal_turn Noent))) here
        ∙ ap (λ o. option_map_or (λ ring. submit_asked x made acts q ring (has_indirect acts) (asked_by form)) o (refusal_turn Noent)) r.side.ring
        ∙ sym (λ j. refuse (want_refusal made acts (asked_is form j).kind (asked_is form j).want) (asked_turn (is j) (asked_is form j)))

    pub refused_turn : (errno : Errno) → want_refusal made acts a.kind a.want ≡ Some errno → submit_turn x made acts q form ≡ refusal_turn errno
    refused_turn errno e = on_it ∙ ap (λ o. refuse o (asked_turn i a)) e

    -- there is no place
    pub no_place : want_refusal made acts a.kind a.want ≡ None → (ev : Bool)
        → HasNoPlace x acts (record { ask = ask_by form; buffer = buffers acts; indirect = i; event_idx = ev }) (length (unowned_descriptors held.driver.ring)) → submit_turn x made acts q form ≡ refusal_turn Nospc
    no_place e ev (no_bytes more) =
        let over : nat_lt buffer_limit (buffers_len acts + made_len i a) ≡ true = grind (arith, nat_tests, more) in
        on_it ∙ ap (λ o. refuse o (asked_turn i a)) e
        ∙ ap (λ t. refuse (refusal_if t Nospc) (refuse (refusal_if (is_full held.driver.ring.place.size (chains_out acts q) (needed_descriptors i a)) Nospc) (by_slots i a (wanted_slots i a)))) over
    no_place e ev (too_few few) =
        let full : nat_lt (length (unowned_descriptors held.driver.ring)) (needed_descriptors i a) ≡ true = grind (arith, nat_tests, few) in
        on_it ∙ ap (λ o. refuse o (asked_turn i a)) e
        ∙ ap (λ t. refuse (refusal_if (nat_lt buffer_limit (buffers_len acts + made_len i a)) Nospc) (refuse (refusal_if t Nospc) (by_slots i a (wanted_slots i a))))
        (ap (λ ds. nat_lt (length ds) (needed_descriptors i a)) (sym free_is) ∙ full)
        ∙ refused_if (nat_lt buffer_limit (buffers_len acts + made_len i a))
    no_place e ev (no_slots none) =
        on_it ∙ ap (λ o. refuse o (asked_turn i a)) e
        ∙ ap (λ o. refuse (refusal_if (nat_lt buffer_limit (buffers_len acts + made_len i a)) Nospc)
        (refuse (refusal_if (is_full held.driver.ring.place.size (chains_out acts q) (needed_descriptors i a)) Nospc) (by_slots i a o))) none
        ∙ ap (λ t. refuse (refusal_if (nat_lt buffer_limit (buffers_len acts + made_len i a)) Nospc) t) (refused_if (is_full held.driver.ring.place.size (chains_out acts q) (needed_descriptors i a)))
        ∙ refused_if (nat_lt buffer_limit (buffers_len acts + made_len i a))

    -- there is one
    pub placed_turn : want_refusal made acts a.kind a.want ≡ None → buffers_len acts + made_len i a ≤ buffer_limit → needed_descriptors i a ≤ length (unowned_descriptors held.driver.ring)
        → (ms : List Streaming) → placed_mappings x (taken_slots acts) (maps acts) (part_wants (buffers acts) a ++ table_wants i (buffers acts) a) ≡ Some ms
        → submit_turn x made acts q form ≡ submitted_turn x acts q ring i a ms (next_chain held.driver.ring (needed_descriptors i a))
    placed_turn e room fits ms f =
        let under : nat_lt buffer_limit (buffers_len acts + made_len i a) ≡ false = grind (arith, nat_tests, room) in
        let enough : nat_lt (length (unowned_descriptors held.driver.ring)) (needed_descriptors i a) ≡ false = grind (arith, nat_tests, fits) in
        on_it ∙ ap (λ o. refuse o (asked_turn i a)) e
        ∙ ap (λ t. refuse (refusal_if t Nospc) (refuse (refusal_if (is_full held.driver.ring.place.size (chains_out acts q) (needed_descriptors i a)) Nospc) (by_slots i a (wanted_slots i a)))) under
        ∙ ap (λ t. refuse (refusal_if t Nospc) (by_slots i a (wanted_slots i a))) (ap (λ ds. nat_lt (length ds) (needed_descriptors i a)) (sym free_is) ∙ enough)
        ∙ ap (by_slots i a) f
        ∙ ap (λ ds. submitted_turn x acts q ring i a ms (take (needed_descriptors i a) ds)) (sym free_is)
