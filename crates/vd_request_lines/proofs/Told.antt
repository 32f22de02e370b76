-- What a poll tells is the answer of its turn.
use Rattle.std.proofs.Common.{◌≡◌, ℕ, ◌+◌, ◌<◌, ◌^◌, arith, Bool, true, false, if◌then◌else◌, nat_le, refl, ap, sym, subst, ◌∙◌, List, [], ◌∷◌, ◌++◌, Some, None, Option, Result, Ok, Err}
use Rattle.std.specs.Prelude.{IfOk, IfSome}
use Rattle.std.specs.Option.{option_map, option_map_or}
use Rattle.byteorder.specs.Endian.{little_bytes}
use Rattle.vd_num.specs.declared.errno.Errno.TheVariants.{Inval, Noent}
use Rattle.vd_pool.specs.Memory.{PoolMemory as Pool}
use Rattle.vd_model.specs.declared.answer.Answer.{Answer}
use Rattle.vd_model.specs.declared.answer.Answer.TheVariants as answer
use Rattle.vd_model.specs.declared.answer.Item.{Item}
use Rattle.vd_model.specs.declared.answer.Item.TheVariants.{Word, Number}
use Rattle.vd_model.specs.declared.answer.Tag.TheVariants as tag
use Rattle.vd_model.specs.Memory.{written}
use Rattle.vd_model.specs.Setting.{Setting}
use Rattle.vd_model.specs.Creation.{Creation}
use Rattle.vd_model.specs.Acts.{Act, AddedChain, Queue, Chain_reclaimed}
use Rattle.vd_model.specs.Live.{buffers, live_mappings}
use Rattle.vd_model.specs.Puts.{ram}
use Rattle.vd_model.specs.Queues.{Ring, ring_of, reclaimed_count}
use Rattle.vd_model.specs.Rings.{next16, used_index_at, used_element_at, used_event_at}
use Rattle.vd_model.specs.RingTurns.{number_at, polled_turn, poll_turn, completed_turn, used_event_puts, unmap_acts, free_acts}
use Rattle.vd_model.specs.BusTurns.{is_missing}
use Rattle.vd_model.specs.DaemonTurns.{has_event_idx}
use Rattle.vd_model.specs.Turn.{Turn, refuse, refusal_if, refusal_turn}
use Rattle.vd_answers.specs.Tells.{Tells}
use Rattle.vd_answers.proofs.Telling.{tells_by, tells_as}
use Rattle.vd_domain.specs.Seen.{ring_map}
use Rattle.vd_buffers.specs.Stands as kept_buffers
use Rattle.vd_memory_lines.specs.declared.memory.Memory.{Memory}
use Rattle.vd_memory_lines.specs.Stands.{Stands}
use Rattle.vr_split.specs.ReachLemmas.{used_index-reached, used_element-reached}
use Rattle.vr_driver.specs.Side.{is_waiting}
use Rattle.vr_driver.specs.Driver.{next_completion, with_answer}
use Rattle.vr_driver.specs.declared.completion.UsedError.{UsedError}
use Rattle.vr_driver.specs.declared.completion.UsedError.TheVariants.{BadId, TooFarAhead}
use Rattle.vd_rings.proofs.Lying.{ring_reached, ends, no_span, coherent_reached, small_size, some_size}
use Rattle.vd_rings.proofs.Putting.{Shows}
use Rattle.vd_domain.specs.Apart.{AreApart}
use Rattle.blk_driver.specs.Buffers.{has_range}
use Rattle.blk_driver.specs.Driver.{request_in, made_in, maps_in, pending_of}
use Rattle.blk_driver.specs.Driver as blk
use Rattle.blk_driver.specs.Polled.{IsOutcome, completion_in, driver_after, maps_of}
use Rattle.blk_driver.specs.declared.driver.Polled.{Polled}
use Rattle.blk_driver.specs.declared.driver.Made.{Made}
use Rattle.blk_driver.specs.declared.pending.Pending.{Pending}
use Rattle.vd_request_lines.specs.declared.held.HeldDriver.{HeldDriver}
use Rattle.vd_request_lines.specs.Stands.{RequestsStand, ring_held}
use Rattle.vd_request_laws.specs.Owned.{QueueOwned}
use Rattle.vd_request_lines.specs.After.{After}
use Rattle.vd_request_lines.specs.Ended.{Ends, made_by, IsLeft}
use Rattle.vd_request_lines.specs.Completed.{completion_answer, used_answer, status_items}
use Rattle.vd_request_lines.proofs.Polls.{quiet_after, its, request, own_request, plain_after, status_is, request_after, swapped}
use Rattle.vd_request_lines.proofs.Found.{chain_turn, found_turn, found_is}

-- the buffers of a request that ends have numbers
pub made_small : (acts : List Act) (q : ℕ) (held : HeldDriver) → RequestsStand acts q (Some held) → QueueOwned acts q → buffers acts < 2 ^ 62 → (result : Result (Option Polled) UsedError)
    → IfOk result (λ found. IfSome found (λ p. is_waiting held.driver.ring p.head ≡ true))
    → IfOk result (λ found. IfSome found (λ p. IsOutcome (pending_of held.driver p.head) p)) → IfSome (made_by result) (λ d. d.buffer + d.count < 2 ^ 64)
made_small acts q held r owned few (Ok None) waits outcome = tt
made_small acts q held r owned few (Err error) waits outcome = tt
made_small acts q held r owned few (Ok (Some p)) waits outcome = by (pending_of held.driver p.head) refl where
  by : (o : Option Pending) → pending_of held.driver p.head ≡ o → IfSome p.made (λ d. d.buffer + d.count < 2 ^ 64)
  by None e = subst (λ (o : Option Made). IfSome o (λ d. d.buffer + d.count < 2 ^ 64)) (sym (outcome.made ∙ ap (option_map made_in) e)) tt
  by (Some pd) e = subst (λ (o : Option Made). IfSome o (λ d. d.buffer + d.count < 2 ^ 64)) (sym (outcome.made ∙ ap (option_map made_in) e)) (let made = (own_request acts q held r p waits owned pd e).made in omega (arith, few, made))

-- what is answered of a request
abbrev status_of : Bool → ℕ → List Item
status_of complete status = Word tag.Status ∷ (if complete then Number status else Word tag.Dash) ∷ []

module _ (x : Setting) (acts : List Act) (m n : Pool) (q : ℕ) (h k : Memory) (held : HeldDriver) (s : Stands x acts h m) (r : RequestsStand acts q (Some held))
    (before : Shows h.domain) (later : Shows k.domain) (apart : AreApart x acts) (owned : QueueOwned acts q) (heard : Answer → Type 0) (after : Memory) (status : ℕ) where
  -- the turn, by what the driver found
  abbrev turn : Result (Option Polled) UsedError → Turn Act
  turn result = found_turn x acts q held.driver.ring.place (completion_in result)

  abbrev flag : Bool
  flag = has_event_idx acts

  abbrev AfterAll : blk.Driver → List Act → Type 0
  AfterAll d more = After x acts q after n (Some (record held { driver = d })) more

  -- what is known of the buffers that were made
  abbrev Reads : Made → Type 0
  Reads d = (g : ℕ) (acts : List Act) → kept_buffers.Stands g acts k.buffers → has_range acts d.buffer 16 1 ≡ true → status ≡ ram g acts d.buffer 16

  abbrev Frees : Made → Type 0
  Frees d = (x : Setting) (acts : List Act) (m : Pool) → Stands x acts k m → IsLeft acts d → Stands x (free_acts d.buffer d.count ++ acts) after m

  module _ (p : Polled) (waits : is_waiting held.driver.ring p.head ≡ true) (outcome : IsOutcome (pending_of held.driver p.head) p)
      (told : ring_map k.domain ≡ (if flag then written (ring_map h.domain) (used_event_at held.driver.ring.place) (little_bytes 2 (next16 held.driver.ring.reclaimed)) else ring_map h.domain))
      (ended : Ends h m k n (option_map_or maps_in (pending_of held.driver p.head) [])) (none : p.made ≡ None → after ≡ k) (reads : IfSome p.made Reads) (frees : IfSome p.made Frees)
      (said : heard (used_answer p status)) where
    abbrev chain : AddedChain
    chain = (its acts q held r p waits).chain

    turn_is : (o : Option Pending) → pending_of held.driver p.head ≡ o
        → turn (Ok (Some p)) ≡ completed_turn x acts (Queue (Chain_reclaimed q p.head) ∷ used_event_puts acts held.driver.ring.place (reclaimed_count acts q + 1))
        (record { head = p.head; descriptors = chain.descriptors; request = option_map request_in o }) p.len
    turn_is o e =
        let it = its acts q held r p waits in
        ap (λ o. option_map_or (λ chain. chain_turn x acts q held.driver.ring.place p.len chain) o (record { answer = answer.BadId p.head; acts = [] })) it.found
        ∙ ap (λ q'. chain_turn x acts q held.driver.ring.place p.len (record { head = it.chain.head; descriptors = it.chain.descriptors; request = q' }))
        (sym (request acts q held r p waits) ∙ ap (option_map request_in) e)
        ∙ ap (λ hd. chain_turn x acts q held.driver.ring.place p.len (record { head = hd; descriptors = it.chain.descriptors; request = option_map request_in o })) it.head

    pub used_tells : Tells heard (turn (Ok (Some p))) (AfterAll (driver_after held.driver (Ok (Some p))))
    used_tells = by (pending_of held.driver p.head) refl where
      by : (o : Option Pending) → pending_of held.driver p.head ≡ o → Tells heard (turn (Ok (Some p))) (AfterAll (driver_after held.driver (Ok (Some p))))
      by None e =
          let made : p.made ≡ None = outcome.made ∙ ap (option_map made_in) e in
          tells_by (turn_is None e)
          (ap (λ o. answer.Done (Word tag.Head ∷ Number p.head ∷ Word tag.Len ∷ Number p.len ∷ status_items o p status)) made) said
          (plain_after x acts m n q h k held s r before later apart owned flag p waits told after (none made)
          (subst (λ (o : Option Pending). Ends h m k n (option_map_or maps_in o [])) e ended))
      by (Some pd) e =
          let made : p.made ≡ Some (made_in pd) = outcome.made ∙ ap (option_map made_in) e in
          let complete : p.complete ≡ nat_le pd.writable p.len = outcome.complete ∙ ap (λ o. option_map_or (λ r. nat_le r.writable p.len) o true) e in
          let over : Ends h m k n (maps_in pd) = subst (λ (o : Option Pending). Ends h m k n (option_map_or maps_in o [])) e ended in
          let read : Reads (made_in pd) = subst (λ (o : Option Made). IfSome o Reads) made reads in
          let free : Frees (made_in pd) = subst (λ (o : Option Made). IfSome o Frees) made frees in
          tells_by (turn_is (Some pd) e)
          (ap (λ o. answer.Done (Word tag.Head ∷ Number p.head ∷ Word tag.Len ∷ Number p.len ∷ status_items o p status)) made
          ∙ ap (λ t. answer.Done (Word tag.Head ∷ Number p.head ∷ Word tag.Len ∷ Number p.len ∷ status_of t status)) complete
          ∙ ap (λ v. answer.Done (Word tag.Head ∷ Number p.head ∷ Word tag.Len ∷ Number p.len ∷ status_of (nat_le pd.writable p.len) v))
          (status_is x acts m n q h k held s r before later apart owned flag p waits told pd e over status read)
          ∙ ap (λ i. answer.Done (Word tag.Head ∷ Number p.head ∷ Word tag.Len ∷ Number p.len ∷ Word tag.Status ∷ i ∷ []))
          (swapped pd.writable p.len (Number (ram x.per_page (unmap_acts (live_mappings acts) (maps_in pd) ++ acts) pd.buffer 16)) (Word tag.Dash))) said
          (request_after x acts m n q h k held s r before later apart owned flag p waits told pd e over after free)

  pub tells : (result : Result (Option Polled) UsedError)
      → IfOk result (λ found. IfSome found (λ p. is_waiting held.driver.ring p.head ≡ true))
      → IfOk result (λ found. IfSome found (λ p. IsOutcome (pending_of held.driver p.head) p))
      → ring_map k.domain ≡ with_answer (ring_map h.domain) held.driver.ring flag (completion_in result)
      → Ends h m k n (maps_of held.driver result) → (made_by result ≡ None → after ≡ k) → IfSome (made_by result) Reads → IfSome (made_by result) Frees
      → heard (completion_answer result status) → Tells heard (turn result) (AfterAll (driver_after held.driver result))
  tells (Ok (Some p)) waits outcome told ended none reads frees said = used_tells p waits outcome told ended none reads frees said
  tells (Ok None) waits outcome told ended none reads frees said =
      tells_by refl refl said (quiet_after x acts m n q h k held s r before later after (none refl) held.driver refl told ended)
  tells (Err (BadId id)) waits outcome told ended none reads frees said =
      tells_by refl refl said (quiet_after x acts m n q h k held s r before later after (none refl) held.driver refl told ended)
  tells (Err (TooFarAhead used published)) waits outcome told ended none reads frees said =
      tells_by refl refl said (quiet_after x acts m n q h k held s r before later after (none refl) held.driver refl told ended)

  -- the turn of the line is that of what the driver found
  pub line_is : (made : Creation) → is_missing made q ≡ false → (result : Result (Option Polled) UsedError) → completion_in result ≡ next_completion (ring_map h.domain) held.driver.ring
      → poll_turn x made acts q ≡ turn result
  line_is made here result found =
      let seen = before x acts m s.domain in
      let reach = ring_reached acts (ring_held held) r.lies x (ring_map h.domain) seen in
      ap (λ t. refuse (refusal_if t Inval) (option_map_or (λ (ring : Ring). polled_turn x acts q ring.place (number_at x acts (used_index_at ring.place))) (ring_of acts q) (refusal_turn Noent))) here
      ∙ ap (λ o. option_map_or (λ (ring : Ring). polled_turn x acts q ring.place (number_at x acts (used_index_at ring.place))) o (refusal_turn Noent)) r.side.ring
      ∙ found_is x acts q held.region held.driver.ring r.side (small_size held.driver.ring.place.size r.lies.size) (ring_map h.domain) seen r.lies.size
      (coherent_reached x acts (ring_map h.domain) seen (used_index_at held.driver.ring.place) 2 (used_index-reached (Some (ring_map h.domain)) None held.driver.ring.place (ends h.domain) (no_span _) reach.device))
      (coherent_reached x acts (ring_map h.domain) seen (used_element_at held.driver.ring.place (reclaimed_count acts q)) 8
      (used_element-reached (Some (ring_map h.domain)) None held.driver.ring.place (ends h.domain) (no_span _) (some_size held.driver.ring.place.size r.lies.size) (reclaimed_count acts q) reach.device))
      ∙ ap (found_turn x acts q held.driver.ring.place) (sym found)

  -- the line, by what its calls ensure
  pub line_told : (made : Creation) → is_missing made q ≡ false → (asked : Bool) → asked ≡ has_event_idx acts → (result : Result (Option Polled) UsedError) (d : blk.Driver) (own : Option Made)
      → completion_in result ≡ next_completion (ring_map h.domain) held.driver.ring
      → IfOk result (λ found. IfSome found (λ p. is_waiting held.driver.ring p.head ≡ true))
      → IfOk result (λ found. IfSome found (λ p. IsOutcome (pending_of held.driver p.head) p))
      → d ≡ driver_after held.driver result
      → ring_map k.domain ≡ with_answer (ring_map h.domain) held.driver.ring asked (completion_in result)
      → Ends h m k n (maps_of held.driver result) → own ≡ made_by result → (own ≡ None → after ≡ k) → IfSome own Reads → IfSome own Frees
      → heard (completion_answer result status) → Tells heard (poll_turn x made acts q) (AfterAll d)
  line_told made here asked is result d own found waits outcome state told ended same none reads frees said =
      tells_as (line_is made here result found)
      (subst (λ (d : blk.Driver). Tells heard (turn result) (AfterAll d)) (sym state)
      (tells result waits outcome (subst (λ f. ring_map k.domain ≡ with_answer (ring_map h.domain) held.driver.ring f (completion_in result)) is told) ended
      (λ e. none (same ∙ e)) (subst (λ (o : Option Made). IfSome o Reads) same reads) (subst (λ (o : Option Made). IfSome o Frees) same frees) said))
