-- The line that places a request tells the turn.
use Rattle.std.proofs.Common.{if◌then◌else◌, ◌≡◌, ℕ, ◌+◌, ◌<◌, ◌≤◌, Bool, true, false, refl, ap, sym, subst, ◌∙◌, List, [], ◌∷◌, ◌++◌, length, Some, None, Option, true≢false}
use Rattle.std.specs.Prelude.{IfSome, is_some}
use Rattle.std.specs.List.{All}
use Rattle.vd_num.specs.declared.errno.Errno.{Errno}
use Rattle.vd_num.specs.declared.errno.Errno.TheVariants.{Nospc}
use Rattle.vd_pool.specs.Memory.{PoolMemory as Pool}
use Rattle.vd_model.specs.declared.step.SubmitForm.{SubmitForm}
use Rattle.vd_model.specs.declared.answer.Answer.{Answer}
use Rattle.vd_model.specs.declared.answer.Answer.TheVariants as answer
use Rattle.vd_model.specs.declared.answer.Item.TheVariants.{Word, Number}
use Rattle.vd_model.specs.declared.answer.Tag.TheVariants as tag
use Rattle.vd_model.specs.Setting.{Setting}
use Rattle.vd_model.specs.Creation.{Creation, has_feature}
use Rattle.vd_model.specs.Acts.{Act, Streaming, state_acts}
use Rattle.vd_model.specs.State.{features_of}
use Rattle.vd_model.specs.Live.{buffers, buffers_len, maps, live_mappings}
use Rattle.vd_model.specs.Place.{taken_slots}
use Rattle.vd_model.specs.BusTurns.{is_missing}
use Rattle.vd_model.specs.DaemonTurns.{has_indirect, has_event_idx}
use Rattle.vd_model.specs.DriverTurns.{buffer_limit}
use Rattle.vd_model.specs.RingTurns.{AskedRequest, submit_turn, want_refusal, made_len, placed_mappings, part_wants, table_wants}
use Rattle.vd_answers.specs.Tells.{Tells}
use Rattle.vd_answers.proofs.Telling.{tells_by, tells_as}
use Rattle.vd_domain.specs.Seen.{ring_map, ring_memory}
use Rattle.vd_domain.specs.Apart.{AreApart}
use Rattle.vd_memory_lines.specs.declared.memory.Memory.{Memory}
use Rattle.vd_memory_lines.specs.Stands.{Stands}
use Rattle.vr_driver.specs.Side.{unowned_descriptors}
use Rattle.vd_rings.proofs.Putting.{Shows}
use Rattle.blk_driver.specs.Asked.{asked_in, draft_of}
use Rattle.blk_driver.specs.Buffers.{has_range}
use Rattle.blk_driver.specs.Driver as blk
use Rattle.blk_driver.specs.declared.ask.Ask.{Ask}
use Rattle.blk_driver.specs.declared.driver.Submitted.{Submitted}
use Rattle.vd_request_lines.specs.declared.held.HeldDriver.{HeldDriver}
use Rattle.vd_request_lines.specs.Stands.{RequestsStand}
use Rattle.vd_request_lines.specs.After.{After}
use Rattle.vd_request_lines.specs.Asking.{ask_by, wants_made_buffer, asked_refusal}
use Rattle.vd_request_lines.specs.Submitting.{HasNoPlace, IsSubmitted, IsPlaced}
use Rattle.vd_request_lines.proofs.Asks.{asked_is, busy_by, refusal_is, fine}
use Rattle.vd_request_lines.proofs.Filings.{refused_turn, no_place, placed_turn}
use Rattle.vd_request_lines.proofs.Results.{if_some}
use Rattle.vd_request_lines.proofs.Submits.{are_placed, submits}

module _ (x : Setting) (made : Creation) (acts : List Act) (q : ℕ) (held : HeldDriver) (r : RequestsStand acts q (Some held)) (here : is_missing made q ≡ false) (form : SubmitForm)
    (features : ℕ) (known : features ≡ features_of (state_acts acts)) (busy : Bool) (busy_is : busy ≡ wants_made_buffer made acts form) (h : Memory) (m : Pool) (s : Stands x acts h m) (ask : Ask) (asks : ask ≡ ask_by form)
    (heard : Answer → Type 0) where
  abbrev i : Bool
  i = has_feature features 28

  is : i ≡ has_indirect acts
  is = ap (λ f. has_feature f 28) known

  abbrev a : AskedRequest
  a = asked_in (ask_by form)

  refusal : asked_refusal h.buffers busy (asked_in ask) ≡ want_refusal made acts a.kind a.want
  refusal = ap (λ (k : Ask). asked_refusal h.buffers busy (asked_in k)) asks ∙ refusal_is x.per_page made acts h.buffers a busy s.buffers (busy_is ∙ ap (busy_by made acts) (sym (asked_is form)))

  pub refused_told : (errno : Errno) → Some errno ≡ asked_refusal h.buffers busy (asked_in ask) → heard (answer.Err errno) → Tells heard (submit_turn x made acts q form) (After x acts q h m (Some held))
  refused_told errno e said = tells_by (refused_turn x acts q held r made here form i is errno (sym (e ∙ refusal))) refl said (record { memory = s; requests = r })

  module _ (fine_is : None ≡ asked_refusal h.buffers busy (asked_in ask)) (k : Memory) (n : Pool) (d : blk.Driver) where
    pub none_told : d ≡ held.driver → HasNoPlace x acts (draft_of ask (buffers acts) features) (length (unowned_descriptors held.driver.ring)) → Stands x acts k n → heard (answer.Err Nospc)
        → Tells heard (submit_turn x made acts q form) (After x acts q k n (Some (record held { driver = d })))
    none_told same none stands said =
        tells_by (no_place x acts q held r made here form i is (sym (fine_is ∙ refusal)) (has_feature features 29)
        (subst (λ (k : Ask). HasNoPlace x acts (draft_of k (buffers acts) features) (length (unowned_descriptors held.driver.ring))) asks none)) refl said
        (record { memory = stands; requests = subst (λ (t : blk.Driver). RequestsStand acts q (Some (record held { driver = t }))) (sym same) r })

    given : IfSome a.want (λ w. has_range acts w.buffer w.offset w.len ≡ true)
    given = if_some a.want (fine x.per_page acts h.buffers a busy s.buffers (sym (fine_is ∙ ap (λ (k : Ask). asked_refusal h.buffers busy (asked_in k)) asks))) (λ w f. f.range)

    pub placed_told : ring_map h.domain ≡ ring_memory x acts → Shows k.domain → AreApart x acts → All (λ (l : Streaming). l.number < maps acts) (live_mappings acts)
        → (res : Submitted) → IsPlaced h m ask features held.driver d res k n → (buffer : ℕ) → buffer ≡ length h.buffers
        → heard (answer.Done (Word tag.Head ∷ Number res.head ∷ Word tag.Idx ∷ Number res.idx ∷ Word tag.Kick ∷ Number (if res.kick then 1 else 0) ∷ Word tag.Buf ∷ Number buffer ∷ Word tag.Map ∷ Number res.first_map ∷ []))
        → Tells heard (submit_turn x made acts q form) (After x acts q k n (Some (record held { driver = d })))
    placed_told before later apart low res placed buffer first said = by (placed_mappings x (taken_slots acts) (maps acts) (part_wants (buffers acts) a ++ table_wants i (buffers acts) a)) refl some where
      p : IsPlaced h m (ask_by form) features held.driver d res k n
      p = subst (λ (t : Ask). IsPlaced h m t features held.driver d res k n) asks placed

      sub : IsSubmitted p.made m (draft_of (ask_by form) (buffers acts) features) held.driver d res k n
      sub = subst (λ b. IsSubmitted p.made m (draft_of (ask_by form) b features) held.driver d res k n) s.buffers.count p.submits

      events : has_feature features 29 ≡ has_event_idx acts
      events = ap (λ f. has_feature f 29) known

      some : is_some (placed_mappings x (taken_slots acts) (maps acts) (part_wants (buffers acts) a ++ table_wants i (buffers acts) a)) ≡ true
      some = are_placed x acts m n q h k held s r before later apart low i (has_feature features 29) events (ask_by form) given p.made (p.makes x acts s) p.same_told d res sub

      room : buffers_len acts + made_len i a ≤ buffer_limit
      room = subst (λ t. t + made_len i a ≤ buffer_limit) s.buffers.total p.room

      by : (o : Option (List Streaming)) → placed_mappings x (taken_slots acts) (maps acts) (part_wants (buffers acts) a ++ table_wants i (buffers acts) a) ≡ o → is_some o ≡ true
          → Tells heard (submit_turn x made acts q form) (After x acts q k n (Some (record held { driver = d })))
      by None e f = absurd (true≢false (sym f))
      by (Some ms) e f =
          tells_as (placed_turn x acts q held r made here form i is (sym (fine_is ∙ refusal)) room sub.fits ms e)
          (submits x acts m n q h k held s r before later apart low i (has_feature features 29) events (ask_by form) given p.made (p.makes x acts s) p.same_told d res sub ms e heard buffer (first ∙ s.buffers.count) said)
