-- The line of an execution.
use Rattle.std.proofs.Common.{◌≡◌, ℕ, ◌+◌, ◌*◌, Bool, true, false, if◌then◌else◌, ◌&&◌, refl, ap, sym, subst, ◌∙◌, arith, List, [], ◌∷◌, ◌++◌, length, take, drop, Some, None, Option}
use Rattle.std.specs.Prelude.{is_some, IfSome}
use Rattle.std.specs.Option.{option_map, option_map_or}
use Rattle.vd_num.specs.declared.errno.Errno.TheVariants.{Inval, Noent}
use Rattle.vd_io.specs.Sectors.{with_sectors}
use Rattle.vd_model.specs.declared.answer.Answer.{Answer}
use Rattle.vd_model.specs.declared.answer.Answer.TheVariants as answer
use Rattle.vd_model.specs.declared.answer.Item.TheVariants.{Word, Number}
use Rattle.vd_model.specs.declared.answer.Tag.TheVariants as tag
use Rattle.vd_model.specs.declared.memory.Window.{Window}
use Rattle.vd_model.specs.Setting.{Setting}
use Rattle.vd_model.specs.Creation.{Creation}
use Rattle.vd_model.specs.Acts.{Act, Queue, Executed, Disk_act, Stored}
use Rattle.vd_model.specs.BusTurns.{is_missing}
use Rattle.vd_model.specs.Queues.{Execution, execution_of, in_hand}
use Rattle.vd_model.specs.Block.{Block, Disk, RequestResult, block_of, result_of}
use Rattle.vd_model.specs.Turn.{Turn, refusal_turn, refuse, refusal_if}
use Rattle.vd_model.specs.DaemonTurns.{Hand, hand, execute_hand, execute_turn, store_acts}
use Rattle.vd_answers.specs.Tells.{Tells}
use Rattle.vd_answers.proofs.Telling.{tells_as}
use Rattle.vr_device.specs.Side.{Side}
use Rattle.vd_queue_sides.specs.Daemon.{PositionStands, HandStands}
use Rattle.vd_queue_sides.proofs.Daemons.{daemon_after, execute_holds, itself}
use Rattle.blk_daemon.specs.Held.{Held, InHand, to_execute, unless_executed}
use Rattle.blk_daemon.specs.Executed.{Ends}
use Rattle.vd_daemon_lines.specs.Stands.{DaemonStands, hand_in}
use Rattle.vd_daemon_lines.specs.Disk.{AfterDisk, GoesOn, stored_over}

-- ---- the turn

some_of : {T : Type 0} (a b : T) → Some a ≡ Some b → a ≡ b
some_of a b e = cc

-- an outcome that is kept isn't executed again
not_again : (h k : Hand) (o : Option Execution) (end : Execution) → o ≡ Some end → unless_executed h o ≡ Some k → ⊥
not_again h k None end e f = cc
not_again h k (Some other) end e f = cc

not_yet : (h : Hand) (o : Option Execution) → o ≡ None → unless_executed h o ≡ None → ⊥
not_yet h None e f = cc
not_yet h (Some end) e f = cc

is_hand : (h k : Hand) (o : Option Execution) → o ≡ None → unless_executed h o ≡ Some k → h ≡ k
is_hand h k None e f = some_of h k f
is_hand h k (Some end) e f = absurd (cc)

module _ (x : Setting) (q : ℕ) (b : Disk) (failed : Bool) where
  abbrev turn_by : Option Execution → Option (List Act) → Turn Act
  turn_by executed fetched =
      refuse (refusal_if (is_some executed) Noent)
      (option_map_or (λ earlier. execute_hand b failed q (hand x earlier q)) fetched (refusal_turn Noent))

  none_by : (request : Option InHand) (ended executed : Option Execution) (fetched : Option (List Act))
      → option_map (λ r. r.hand) request ≡ option_map (λ earlier. hand x earlier q) fetched → ended ≡ executed → IfSome request (λ r. r.outcome ≡ ended)
      → to_execute request ≡ None → turn_by executed fetched ≡ refusal_turn Noent
  none_by None ended None None h e o t = refl
  none_by None ended None (Some earlier) h e o t = absurd (cc)
  none_by None ended (Some end) fetched h e o t = refl
  none_by (Some r) ended (Some end) fetched h e o t = refl
  none_by (Some r) ended None fetched h e o t = absurd (not_yet r.hand r.outcome (o ∙ e) t)

  hand_by : (request : Option InHand) (ended executed : Option Execution) (fetched : Option (List Act)) (k : Hand)
      → option_map (λ r. r.hand) request ≡ option_map (λ earlier. hand x earlier q) fetched → ended ≡ executed → IfSome request (λ r. r.outcome ≡ ended)
      → to_execute request ≡ Some k → turn_by executed fetched ≡ execute_hand b failed q k
  hand_by None ended executed fetched k h e o t = absurd (cc)
  hand_by (Some r) ended (Some end) fetched k h e o t = absurd (not_again r.hand k r.outcome end (o ∙ e) t)
  hand_by (Some r) ended None None k h e o t = absurd (cc)
  hand_by (Some r) ended None (Some earlier) k h e o t =
      ap (execute_hand b failed q) (sym (some_of r.hand (hand x earlier q) h) ∙ is_hand r.hand k r.outcome (o ∙ e) t)

kept_hand : (request : Option InHand) (k : Hand) → to_execute request ≡ Some k → option_map (λ r. r.hand) request ≡ Some k
kept_hand None k t = absurd (cc)
kept_hand (Some r) k t = by r.outcome t where
  by : (o : Option Execution) → unless_executed r.hand o ≡ Some k → Some r.hand ≡ Some k
  by None f = f
  by (Some end) f = absurd (cc)

-- ---- what stands

-- the position stays
position_stays : (x : Setting) (acts : List Act) (q status : ℕ) (bytes : List ℕ) (p : Option Side) → PositionStands x acts q p → PositionStands x (Queue (Executed q status bytes) ∷ acts) q p
position_stays x acts q status bytes None s = s
position_stays x acts q status bytes (Some side) s = record {
  earlier = s.earlier;
  from = s.from;
  first = s.first;
  loaded = s.loaded;
  position = s.position;
  used = s.used;
  place = s.place;
}

-- the request in hand is kept with how it ended
executed_stands : (x : Setting) (acts : List Act) (q : ℕ) (daemon : Held) (h : Hand) (end : Execution) → DaemonStands x acts q daemon → to_execute daemon.request ≡ Some h
    → DaemonStands x (Queue (Executed q end.status end.bytes) ∷ acts) q (record daemon { request = Some (record { hand = h; outcome = Some end }) })
executed_stands x acts q daemon h end s t = record {
  ended = Some end;
  sides = record {
    at = position_stays x acts q end.status end.bytes daemon.side s.sides.at;
    held = execute_holds x acts q end.status end.bytes h s.ended (subst (λ k. HandStands x acts q k s.ended) (kept_hand daemon.request h t) s.sides.held);
  };
  outcome = refl;
}

-- a store on the disk leaves it standing
stored_stands : (x : Setting) (acts : List Act) (q at : ℕ) (bytes : List ℕ) (daemon : Held) (t : Bool) (last : Act) → DaemonStands x (last ∷ acts) q daemon
    → DaemonStands x (((if t then Disk_act (Stored at bytes) ∷ [] else []) ++ last ∷ []) ++ acts) q daemon
stored_stands x acts q at bytes daemon true last s = record {
  ended = s.ended;
  sides = daemon_after x q (Disk_act (Stored at bytes)) (last ∷ acts) refl daemon.side (hand_in daemon) s.ended s.sides;
  outcome = s.outcome;
}
stored_stands x acts q at bytes daemon false last s = s

-- whatever the image tells: nothing was executed, or the request in hand was
pub stays_put : (x : Setting) (acts : List Act) (q : ℕ) (daemon after : Held) → after ≡ daemon → DaemonStands x acts q daemon → GoesOn x acts q after
stays_put x acts q daemon after same s = record { more = []; only = refl; stands = subst (DaemonStands x acts q) (sym same) s }

pub was_executed : (x : Setting) (acts : List Act) (q : ℕ) (daemon after : Held) (h : Hand) (end : Execution) → DaemonStands x acts q daemon → to_execute daemon.request ≡ Some h
    → after ≡ record daemon { request = Some (record { hand = h; outcome = Some end }) } → GoesOn x acts q after
was_executed x acts q daemon after h end s t kept = record {
  more = Queue (Executed q end.status end.bytes) ∷ [];
  only = ap (λ b. b && true) (itself q);
  stands = subst (DaemonStands x (Queue (Executed q end.status end.bytes) ∷ acts) q) (sym kept) (executed_stands x acts q daemon h end s t);
}

-- the content has what was stored
content_is : (w : Window) (q sector status : ℕ) (payload bytes : List ℕ) (t : Bool) (old : Option (List ℕ))
    → option_map (λ c. if t then with_sectors (w.first + sector) payload c else c) old
    ≡ option_map (stored_over w ((if t then Disk_act (Stored (512 * sector) payload) ∷ [] else []) ++ Queue (Executed q status bytes) ∷ [])) old
content_is w q sector status payload bytes t None = refl
content_is w q sector status payload bytes true (Some c) =
    let start : 512 * (w.first + sector) ≡ 512 * w.first + 512 * sector = omega arith in
    ap (λ n. Some (take n c ++ payload ++ drop (n + length payload) c)) start
content_is w q sector status payload bytes false (Some c) = refl

same_content : (w : Window) (old : Option (List ℕ)) → old ≡ option_map (stored_over w []) old
same_content w None = refl
same_content w (Some c) = refl

-- ---- the line

module _ (x : Setting) (made : Creation) (acts : List Act) (q : ℕ) (b : Disk) (failed : Bool) (w : Window) (daemon : Held) (s : DaemonStands x acts q daemon) (heard : Answer → Type 0) (old new : Option (List ℕ)) where
  -- nothing was done
  pub nothing_done : new ≡ old → (after : Held) → after ≡ daemon → AfterDisk x acts q w old new after []
  nothing_done same after stays = record {
    daemon = λ told. subst (DaemonStands x acts q) (sym stays) s;
    content = same ∙ same_content w old;
  }

  pub refused_missing : is_missing made q ≡ true → new ≡ old → (after : Held) → after ≡ daemon → heard (answer.Err Inval) → Tells heard (execute_turn x made b failed acts q) (AfterDisk x acts q w old new after)
  refused_missing none same after stays h =
      tells_as (ap (λ t. refuse (refusal_if t Inval) (turn_by x q b failed (execution_of acts q) (in_hand acts q))) none)
      (record { says = h; stands = nothing_done same after stays })

  pub refused_idle : is_missing made q ≡ false → to_execute daemon.request ≡ None → new ≡ old → (after : Held) → after ≡ daemon → heard (answer.Err Noent) → Tells heard (execute_turn x made b failed acts q) (AfterDisk x acts q w old new after)
  refused_idle there idle same after stays h =
      tells_as (ap (λ t. refuse (refusal_if t Inval) (turn_by x q b failed (execution_of acts q) (in_hand acts q))) there
      ∙ none_by x q b failed daemon.request s.ended (execution_of acts q) (in_hand acts q) s.sides.held.request s.sides.held.outcome s.outcome idle)
      (record { says = h; stands = nothing_done same after stays })

  module _ (h : Hand) (end : Execution) (fresh : to_execute daemon.request ≡ Some h) where
    abbrev blk : Block
    blk = block_of h.bytes h.writable

    abbrev ended : RequestResult
    ended = result_of b blk failed

    abbrev made_acts : List Act
    made_acts = store_acts blk ended ++ Queue (Executed q ended.status ended.bytes) ∷ []

    pub done : is_missing made q ≡ false → Ends old new w (block_of h.bytes h.writable) (result_of b (block_of h.bytes h.writable) failed) end → (after : Held) → after ≡ record daemon { request = Some (record { hand = h; outcome = Some end }) }
        → (status : ℕ) → status ≡ end.status → heard (answer.Done (Word tag.Status ∷ Number status ∷ [])) → Tells heard (execute_turn x made b failed acts q) (AfterDisk x acts q w old new after)
    done there ends after kept status is told =
        tells_as (ap (λ t. refuse (refusal_if t Inval) (turn_by x q b failed (execution_of acts q) (in_hand acts q))) there
        ∙ hand_by x q b failed daemon.request s.ended (execution_of acts q) (in_hand acts q) h s.sides.held.request s.sides.held.outcome s.outcome fresh)
        (record {
          says = subst (λ n. heard (answer.Done (Word tag.Status ∷ Number n ∷ []))) (is ∙ ends.status) told;
          stands = record {
            daemon = λ some.
                let same : end ≡ record { status = (result_of b (block_of h.bytes h.writable) failed).status; bytes = (result_of b (block_of h.bytes h.writable) failed).bytes } =
                (λ i. record { status = ends.status i; bytes = ends.bytes some i }) in
                subst (DaemonStands x (made_acts ++ acts) q) (sym kept)
                (stored_stands x acts q (512 * blk.sector) blk.payload _ ended.stores (Queue (Executed q ended.status ended.bytes))
                (subst (λ (e : Execution). DaemonStands x (Queue (Executed q e.status e.bytes) ∷ acts) q (record daemon { request = Some (record { hand = h; outcome = Some end }) })) same
                (executed_stands x acts q daemon h end s fresh)));
            content = ends.after ∙ content_is w q blk.sector ended.status blk.payload ended.bytes ended.stores old;
          };
        })
