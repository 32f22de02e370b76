-- The line of a fetch, by what the daemon answers.
use Rattle.std.proofs.Common.{◌≡◌, ℕ, ◌<◌, Bool, true, false, if◌then◌else◌, refl, ap, sym, subst, ◌∙◌, List, [], ◌∷◌, ◌++◌, length, Some, None, Option, Result, Ok, Err}
use Rattle.std.specs.Prelude.{is_some, IfOk, IsOk}
use Rattle.byteorder.specs.Endian.{little_bytes}
use Rattle.byteorder.specs.Numbers.{length-bytes_low_first}
use Rattle.vd_num.specs.Field.{field_at}
use Rattle.vd_num.specs.declared.errno.Errno.TheVariants as errno
use Rattle.vd_pool.specs.Memory.{PoolMemory as Pool}
use Rattle.vd_model.specs.declared.answer.Answer.{Answer}
use Rattle.vd_model.specs.declared.answer.Answer.TheVariants as answer
use Rattle.vd_model.specs.declared.answer.Item.TheVariants.{Word, Number}
use Rattle.vd_model.specs.declared.answer.Tag.TheVariants as tag
use Rattle.vd_model.specs.declared.queue.RingPlace.{RingPlace}
use Rattle.vd_model.specs.Setting.{Setting}
use Rattle.vd_model.specs.Creation.{Creation, has_feature}
use Rattle.vd_model.specs.Acts.{Act, Node, Daemon_put, Queue, Fetched}
use Rattle.vd_model.specs.Memory.{Memory, read}
use Rattle.vd_model.specs.Queues.{in_hand, fetches}
use Rattle.vd_model.specs.Rings.{next16, number16, used_index_at, available_event_at}
use Rattle.vd_model.specs.Turn.{refuse, refusal_if, refusal_turn}
use Rattle.vd_model.specs.DaemonTurns.{Hand, daemon_memory, queue_place, has_indirect, has_event_idx, read_or, index_after, first_used, is_idle, fetch_from, fetch_turn}
use Rattle.vd_domain.specs.Held.{Held as Domain}
use Rattle.vd_domain.specs.Seen.{daemon_map}
use Rattle.vd_domain.specs.Stands.{Stands}
use Rattle.vd_domain.proofs.Beside.{leaves_domain}
use Rattle.vd_answers.specs.Tells.{MayTell}
use Rattle.vd_answers.proofs.Telling.{may_tell, may_tell_as}
use Rattle.vd_ring_memory.specs.Puts.{IsAfterPuts}
use Rattle.vd_ring_memory.proofs.Walks.{stays}
use Rattle.vd_ring_memory.proofs.Accepting.{put_seen, kept}
use Rattle.vd_queue_sides.proofs.Daemons.{daemon_after}
use Rattle.blk_daemon.specs.declared.error.FetchError.{FetchError}
use Rattle.blk_daemon.specs.declared.error.FetchError.TheVariants.{Busy, Empty, Ahead, Fault, Shape, Bus, Memory as NoMemory}
use Rattle.blk_daemon.specs.declared.request.Fetched as shown
use Rattle.blk_daemon.specs.Errors.{IsUnlessMemory}
use Rattle.blk_daemon.specs.Held.{Held, InHand}
use Rattle.blk_daemon.specs.Fetched.{fetched_of, with_event_of, TakesUp}
use Rattle.vd_daemon_lines.specs.declared.known.KnownQueue.{KnownQueue}
use Rattle.vd_daemon_lines.specs.Known.{IsKnown}
use Rattle.vd_daemon_lines.specs.Stands.{DaemonStands, hand_in}
use Rattle.vd_daemon_lines.specs.After.{After}
use Rattle.vd_daemon_lines.specs.Fetched.{fetched_items, FailsAs}
use Rattle.vd_daemon_lines.proofs.FetchTurns.{failed_turn}
use Rattle.vd_daemon_lines.proofs.Fetches.{Takes, Serves, fetches_so}

-- ---- the place of a queue

pub idle_by : (t : Bool) (p : RingPlace) → None ≡ (if t then None else Some p) → t ≡ true
idle_by true p e = refl
idle_by false p e = absurd (cc)

pub ready_by : (t : Bool) (o p : RingPlace) → Some o ≡ (if t then None else Some p) → (t ≡ false) × (o ≡ p)
ready_by true o p e = absurd (cc)
ready_by false o p e = (refl, cc)

-- an idle queue
pub idle_turn : (x : Setting) (made : Creation) (acts : List Act) (q : ℕ) → is_idle made acts q ≡ true → fetch_turn x made acts q ≡ refusal_turn errno.Inval
idle_turn x made acts q e =
    ap (λ t. refuse (refusal_if t errno.Inval) (refuse (refusal_if (is_some (in_hand acts q)) errno.Busy)
    (read_or (first_used x acts q) (λ used. fetch_from x acts q (queue_place acts q) (index_after (fetches acts q) used))))) e

-- ---- the daemon's answer, by the acts

two_bytes : (n : ℕ) → length (little_bytes 2 n) ≡ 2
two_bytes n = length-bytes_low_first 0 2 n

same_some : {T : Type 0} (a b : T) (o : Option T) → o ≡ Some a → o ≡ Some b → a ≡ b
same_some a b o e f = cc

same_hand : (h k : Hand) (o : Option InHand) → o ≡ Some (record { hand = h; outcome = None }) → o ≡ Some (record { hand = k; outcome = None }) → h ≡ k
same_hand h k o e f = ap (λ (r : InHand). r.hand) (same_some (record { hand = h; outcome = None }) (record { hand = k; outcome = None }) o e f)

module _ (x : Setting) (made : Creation) (acts : List Act) (q : ℕ) (h k : Domain) (m n : Pool) (old new : Held) (s : Stands x acts h m) (d : DaemonStands x acts q old) (after : IsAfterPuts h m k n)
    (before : (x : Setting) (acts : List Act) → Stands x acts h m → daemon_map h m ≡ daemon_memory x acts)
    (later : (x : Setting) (acts : List Act) → Stands x acts k n → daemon_map k n ≡ daemon_memory x acts)
    (place : RingPlace) (queue : KnownQueue) (known : IsKnown made acts q queue) (here : Some place ≡ (if is_idle made acts q then None else Some (queue_place acts q))) where
  abbrev pub given : Result Held FetchError
  given = fetched_of (daemon_map h m) place (has_feature queue.features 28) (has_feature queue.features 29) old

  abbrev pub wanted : Result Held FetchError
  wanted = fetched_of (daemon_memory x acts) (queue_place acts q) (has_indirect acts) (has_event_idx acts) old

  given_is : given ≡ wanted
  given_is = λ i. fetched_of (before x acts s i) ((ready_by (is_idle made acts q) place (queue_place acts q) here).1 i) (has_feature (known.features i) 28) (has_feature (known.features i) 29) old

  module _ (small : old.request ≡ None → old.side ≡ None → IfOk (number16 (daemon_map h m) (used_index_at place)) (λ used. used < 65536)) where
    served : Serves x acts q (fetch_turn x made acts q) wanted
    served =
        let p = ready_by (is_idle made acts q) place (queue_place acts q) here in
        fetches_so x acts q old made d p.0
        (λ r t. subst (λ (o : Result ℕ ℕ). IfOk o (λ used. used < 65536)) (λ i. number16 (before x acts s i) (used_index_at (p.1 i))) (small r t))

    -- nothing is fetched
    module _ (heard : Answer → Type 0) (told : daemon_map k n ≡ daemon_map h m) (same : new ≡ old) where
      unchanged : After x acts q k n new []
      unchanged = record { domain = stays x acts h k m n s after told before later; daemon = subst (DaemonStands x acts q) (sym same) d }

      failed : (e : FetchError) → Err e ≡ given → fetch_turn x made acts q ≡ failed_turn e
      failed e is = subst (Serves x acts q (fetch_turn x made acts q)) (sym (is ∙ given_is)) served

      pub fails : {E : Type 0} (error : FetchError) (r : Result (Unit {0}) E) → IsUnlessMemory (Err error) given → FailsAs heard error r → MayTell heard (fetch_turn x made acts q) (After x acts q k n new) r
      fails Busy (Ok u) is h = may_tell (Ok u) (failed Busy is) refl h.1 unchanged
      fails Busy (Err e) is h = absurd (let no = h.0 in cc)
      fails Empty (Ok u) is h = may_tell (Ok u) (failed Empty is) refl h.1 unchanged
      fails Empty (Err e) is h = absurd (let no = h.0 in cc)
      fails (Ahead found position) (Ok u) is h = may_tell (Ok u) (failed (Ahead found position) is) refl h.1 unchanged
      fails (Ahead found position) (Err e) is h = absurd (let no = h.0 in cc)
      fails (Fault fault) (Ok u) is h = may_tell (Ok u) (failed (Fault fault) is) refl h.1 unchanged
      fails (Fault fault) (Err e) is h = absurd (let no = h.0 in cc)
      fails (Shape readable writable) (Ok u) is h = may_tell (Ok u) (failed (Shape readable writable) is) refl h.1 unchanged
      fails (Shape readable writable) (Err e) is h = absurd (let no = h.0 in cc)
      fails (Bus at) (Ok u) is h = may_tell (Ok u) (failed (Bus at) is) refl h.1 unchanged
      fails (Bus at) (Err e) is h = absurd (let no = h.0 in cc)
      fails NoMemory (Ok u) is h = absurd (cc)
      fails NoMemory (Err e) is h = record { says = tt; stands = unchanged }

    -- a request is fetched
    module _ (takes : Takes x acts q (fetch_turn x made acts q) new) where
      side_told : (t : Bool) → daemon_map k n ≡ with_event_of t new.side (daemon_map h m) → daemon_map k n ≡ with_event_of t (Some (record takes.side { position = next16 takes.side.position })) (daemon_map h m)
      side_told t e = e ∙ ap (λ o. with_event_of t o (daemon_map h m)) takes.moved

      domain_by : (t : Bool) → has_event_idx acts ≡ t → daemon_map k n ≡ with_event_of t new.side (daemon_map h m)
          → Stands x (((if t then Node (Daemon_put (available_event_at takes.side.place) (little_bytes 2 (next16 takes.side.position))) ∷ [] else []) ++ Queue (Fetched q) ∷ []) ++ acts) k n
      domain_by true is told =
          let begun = leaves_domain x acts h m s (Queue (Fetched q)) refl in
          let at = available_event_at takes.side.place in
          let there : IsOk (read (daemon_map h m) at (length (little_bytes 2 (next16 takes.side.position)))) =
          subst (λ len. IsOk (read (daemon_map h m) at len)) (sym (two_bytes (next16 takes.side.position)))
          (subst (λ (map : Memory). IsOk (read map at 2)) (sym (before x acts s)) (takes.told is)) in
          put_seen x (Queue (Fetched q) ∷ acts) h k m n begun after (before x (Queue (Fetched q) ∷ acts) begun) (later x) at (little_bytes 2 (next16 takes.side.position)) there (side_told true told)
      domain_by false is told =
          let begun = leaves_domain x acts h m s (Queue (Fetched q)) refl in
          kept x (Queue (Fetched q) ∷ acts) h k m n begun after (before x (Queue (Fetched q) ∷ acts) begun) (later x) (side_told false told)

      daemon_by : (t : Bool) → DaemonStands x (((if t then Node (Daemon_put (available_event_at takes.side.place) (little_bytes 2 (next16 takes.side.position))) ∷ [] else []) ++ Queue (Fetched q) ∷ []) ++ acts) q new
      daemon_by true = record {
        ended = takes.stands.ended;
        sides = daemon_after x q (Node (Daemon_put (available_event_at takes.side.place) (little_bytes 2 (next16 takes.side.position)))) (Queue (Fetched q) ∷ acts) refl new.side (hand_in new) takes.stands.ended takes.stands.sides;
        outcome = takes.stands.outcome;
      }
      daemon_by false = takes.stands

      pub taken : {E : Type 0} (heard : Answer → Type 0) → daemon_map k n ≡ with_event_of (has_feature queue.features 29) new.side (daemon_map h m) → (f : shown.Fetched) → TakesUp old new f → heard (answer.Done (fetched_items f))
          → MayTell {E = E} heard (fetch_turn x made acts q) (After x acts q k n new) (Ok tt)
      taken heard told f up said =
          let same : up.hand ≡ takes.hand = same_hand up.hand takes.hand new.request up.in_hand takes.request in
          let head = up.shows.head ∙ ap (λ (g : Hand). g.head) same in
          let kind = up.shows.header.kind ∙ ap (λ (g : Hand). field_at 4 g.bytes 0) same in
          let sector = up.shows.header.sector ∙ ap (λ (g : Hand). field_at 8 g.bytes 8) same in
          may_tell_as takes.turn_is (record {
            says = subst heard (λ i. answer.Done (Word tag.Head ∷ Number (head i) ∷ Word tag.Kind ∷ Number (kind i) ∷ Word tag.Sector ∷ Number (sector i) ∷ [])) said;
            stands = record {
              domain = domain_by (has_event_idx acts) refl (told ∙ ap (λ n. with_event_of (has_feature n 29) new.side (daemon_map h m)) known.features);
              daemon = daemon_by (has_event_idx acts);
            };
          })

    pub takes_so : Ok new ≡ given → Takes x acts q (fetch_turn x made acts q) new
    takes_so is = subst (Serves x acts q (fetch_turn x made acts q)) (sym (is ∙ given_is)) served
