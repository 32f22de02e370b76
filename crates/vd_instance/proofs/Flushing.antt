-- A flush that was executed with status 0.
use Rattle.std.proofs.Common.{◌≡◌, ℕ, ◌*◌, Bool, true, false, refl, ap, sym, subst, ◌∙◌, List, [], ◌∷◌, ◌++◌, Option, None, Some, true≢false, ◌==◌, ◌&&◌, if◌then◌else◌, is_some, inl, inr, ◌≢◌}
use Rattle.std.specs.Prelude.{IfSome}
use Rattle.std.specs.Option.{option_map, option_map_or}
use Rattle.std.proofs.lemmas.Bool.Decides.{eqb_tells}
use Rattle.vd_num.specs.declared.errno.Errno.TheVariants.{Noent, Inval}
use Rattle.vd_model.specs.declared.step.QueueStep.{QueueStep}
use Rattle.vd_model.specs.declared.step.QueueStep.TheVariants as queue
use Rattle.vd_model.specs.declared.answer.Answer.{Answer}
use Rattle.vd_model.specs.Setting.{Setting}
use Rattle.vd_model.specs.Creation.{Creation}
use Rattle.vd_model.specs.Acts.{Act, Queue, Executed, Disk_act, Stored}
use Rattle.vd_model.specs.Turn.{Turn, refuse, refusal_if, refusal_turn}
use Rattle.vd_model.specs.BusTurns.{is_missing}
use Rattle.vd_model.specs.Block as block
use Rattle.vd_model.specs.Queues.{Execution, in_hand, execution_of}
use Rattle.vd_model.specs.DaemonTurns.{Hand, hand, execute_hand, execute_turn}
use Rattle.blk_daemon.specs.Held.{Held, InHand, to_execute, unless_executed}
use Rattle.vd_daemon_lines.specs.Stands.{DaemonStands}
use Rattle.vd_instance.specs.Flushes.{holds_flush, is_fine, is_flush}
use Rattle.vd_instance.proofs.ServiceTurns.{itself}

no : {X : Type 0} → false ≡ true → X
no e = absurd (true≢false (sym e))

some_is : {T : Type 0} (a b : T) → Some a ≡ Some b → a ≡ b
some_is a b e = cc

both : (a b : Bool) → (a && b) ≡ true → (a ≡ true) × (b ≡ true)
both true b e = (refl, e)
both false b e = no e

pub never_both : (a : Bool) → (a && false) ≡ false
never_both true = refl
never_both false = refl

number_of : (n m : ℕ) → (n == m) ≡ true → n ≡ m
number_of n m e = elim (eqb_tells n m) [ inl h ↦ h.1 | inr h ↦ absurd (true≢false (sym e ∙ h.0)) ]

-- a turn that ends well isn't refused
fine_turn : (missing : Bool) (executed : Option Execution) (fetched : Option (List Act)) (turn : List Act → Turn Act)
    → is_fine (refuse (refusal_if missing Inval) (refuse (refusal_if (is_some executed) Noent) (option_map_or turn fetched (refusal_turn Noent)))).answer ≡ true
    → (missing ≡ false) × (executed ≡ None) × (earlier : List Act) × (fetched ≡ Some earlier)
fine_turn true executed fetched turn e = no e
fine_turn false (Some end) fetched turn e = no e
fine_turn false None None turn e = no e
fine_turn false None (Some earlier) turn e = (refl, refl, earlier, refl)

turn_is : (missing : Bool) (executed : Option Execution) (fetched : Option (List Act)) (turn : List Act → Turn Act) (earlier : List Act) → missing ≡ false → executed ≡ None → fetched ≡ Some earlier
    → refuse (refusal_if missing Inval) (refuse (refusal_if (is_some executed) Noent) (option_map_or turn fetched (refusal_turn Noent))) ≡ turn earlier
turn_is true executed fetched turn earlier m o p = absurd (true≢false m)
turn_is false (Some end) fetched turn earlier m o p = absurd (cc)
turn_is false None None turn earlier m o p = absurd (cc)
turn_is false None (Some k) turn earlier m o p = ap turn (some_is k earlier p)

-- the request that is to be executed, and how it ended
old_request : (request : Option InHand) (ended : Option Execution) (h : Hand) → option_map (λ r. r.hand) request ≡ Some h → ended ≡ None → IfSome request (λ r. r.outcome ≡ ended) → to_execute request ≡ Some h
old_request None ended h kept none outcome = absurd (cc)
old_request (Some r) ended h kept none outcome = ap (unless_executed r.hand) (outcome ∙ none) ∙ kept

new_request : (request : Option InHand) (ended : Option Execution) (h : Hand) (end : Execution) → option_map (λ r. r.hand) request ≡ Some h → ended ≡ Some end → IfSome request (λ r. r.outcome ≡ ended)
    → request ≡ Some (record { hand = h; outcome = Some end })
new_request None ended h end kept is outcome = absurd (cc)
new_request (Some r) ended h end kept is outcome =
    ap (λ k. Some (record { hand = k; outcome = r.outcome })) (some_is r.hand h kept) ∙ ap (λ o. Some (record { hand = h; outcome = o })) (outcome ∙ is)

-- a request that was executed is in hand still
hand_stays : (acts : List Act) (q at status : ℕ) (payload bytes : List ℕ) (stores : Bool)
    → in_hand (((if stores then Disk_act (Stored at payload) ∷ [] else []) ++ Queue (Executed q status bytes) ∷ []) ++ acts) q ≡ in_hand acts q
hand_stays acts q at status payload bytes true = refl
hand_stays acts q at status payload bytes false = refl

executed_is : (acts : List Act) (q at status : ℕ) (payload bytes : List ℕ) (stores : Bool)
    → execution_of (((if stores then Disk_act (Stored at payload) ∷ [] else []) ++ Queue (Executed q status bytes) ∷ []) ++ acts) q ≡ Some (record { status = status; bytes = bytes })
executed_is acts q at status payload bytes true = ap (λ t. if t then Some (record { status = status; bytes = bytes }) else execution_of acts q) (itself q)
executed_is acts q at status payload bytes false = ap (λ t. if t then Some (record { status = status; bytes = bytes }) else execution_of acts q) (itself q)

-- a flush in hand ended with status 0
pub record Flushed (old new : Held) : Type 0 where
  pub request : Hand
  pub end : Execution
  pub before : to_execute old.request ≡ Some request
  pub after : new.request ≡ Some (record { hand = request; outcome = Some end })
  pub kind : (block.block_of request.bytes request.writable).kind ≡ 4
  pub fine : end.status ≡ 0

pub flush_told : (x : Setting) (acts : List Act) (q : ℕ) (made : Creation) (b : block.Disk) (failed : Bool) (old new : Held) → DaemonStands x acts q old
    → DaemonStands x ((execute_turn x made b failed acts q).acts ++ acts) q new → (holds_flush x acts q && is_fine (execute_turn x made b failed acts q).answer) ≡ true → Flushed old new
flush_told x acts q made b failed old new s t e =
    let split = both (holds_flush x acts q) (is_fine (execute_turn x made b failed acts q).answer) e in
    let f = fine_turn (is_missing made q) (execution_of acts q) (in_hand acts q) (λ earlier. execute_hand b failed q (hand x earlier q)) split.1 in
    let h : Hand = hand x f.2 q in
    let asked : block.Block = block.block_of h.bytes h.writable in
    let result : block.RequestResult = block.result_of b asked failed in
    let end : Execution = record { status = result.status; bytes = result.bytes } in
    let turn : execute_turn x made b failed acts q ≡ execute_hand b failed q h =
    turn_is (is_missing made q) (execution_of acts q) (in_hand acts q) (λ earlier. execute_hand b failed q (hand x earlier q)) f.2 f.0 f.1 f.3 in
    let stands = subst (λ (r : Turn Act). DaemonStands x (r.acts ++ acts) q new) turn t in
    record {
      request = h;
      end = end;
      before = old_request old.request s.ended h (s.sides.held.request ∙ ap (option_map (λ earlier. hand x earlier q)) f.3) (s.sides.held.outcome ∙ f.1) s.outcome;
      after = new_request new.request stands.ended h end
          (stands.sides.held.request ∙ ap (option_map (λ earlier. hand x earlier q)) (hand_stays acts q (512 * asked.sector) result.status asked.payload result.bytes result.stores ∙ f.3))
          (stands.sides.held.outcome ∙ executed_is acts q (512 * asked.sector) result.status asked.payload result.bytes result.stores) stands.outcome;
      kind = number_of asked.kind 4
          (sym (ap (λ o. option_map_or (λ earlier. (block.block_of (hand x earlier q).bytes (hand x earlier q).writable).kind == 4) o false) f.3) ∙ split.0);
      fine = number_of result.status 0 (sym (ap (λ (r : Turn Act). is_fine r.answer) turn) ∙ split.1);
    }

-- no line but an execute flushes
pub no_flush : (x : Setting) (acts : List Act) (step : QueueStep) (answer : Answer) → ((q : ℕ) → step ≡ queue.Execute q → ⊥) → is_flush x acts step answer ≡ false
no_flush x acts (queue.Execute q) answer none = absurd (none q refl)
no_flush x acts (queue.Walk q head) answer none = refl
no_flush x acts (queue.Fetch q) answer none = refl
no_flush x acts (queue.Finish q) answer none = refl
no_flush x acts (queue.Ring q size) answer none = refl
no_flush x acts (queue.Unring q) answer none = refl
no_flush x acts (queue.Add q parts) answer none = refl
no_flush x acts (queue.Publish q) answer none = refl
no_flush x acts (queue.Submit q asked) answer none = refl
no_flush x acts (queue.Poll q) answer none = refl
