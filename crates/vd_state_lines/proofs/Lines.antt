-- Calls on the state as lines.
use Rattle.std.proofs.Common.{◌≡◌, ℕ, ◌+◌, ◌≤◌, Bool, true, false, refl, ap, ◌∙◌, sym, arith, Option, List, [], ◌∷◌, Result, Ok, Err, not, ◌&&◌}
use Rattle.std.specs.Option.{option_map_or, unwrap_or}
use Rattle.std.proofs.lemmas.List.Elements.{All-weaker}
use Rattle.vd_num.specs.declared.errno.Errno.{Errno}
use Rattle.vd_num.specs.declared.errno.Errno.TheVariants.{Inval, Noent}
use Rattle.vd_model.specs.declared.answer.Answer.{Answer}
use Rattle.vd_model.specs.declared.answer.Answer.TheVariants as answer
use Rattle.vd_model.specs.declared.answer.Item.TheVariants.{Number}
use Rattle.vd_model.specs.declared.step.QueueOrConfig.{QueueOrConfig}
use Rattle.vd_model.specs.declared.step.QueueOrConfig.TheVariants as interrupt
use Rattle.vd_model.specs.declared.queue.QueueInfo.{QueueInfo}
use Rattle.vd_model.specs.Creation.{Creation}
use Rattle.vd_model.specs.Acts.{Act, State, state_acts}
use Rattle.vd_model.specs.State.{StateAct, Interrupts_taken, Kicks_taken, Addr_set, Injected, are_aligned, is_driver_ok, is_queue, queue_info, interrupts_of, kick_file_of}
use Rattle.vd_model.specs.Turn.{Turn, refuse, refusal_if, done_with}
use Rattle.vd_model.specs.BusTurns.{shape_of, irqs_turn, vqaddr_turn}
use Rattle.vd_model.specs.NodeTurns.{vqinfo_turn, kicks_turn, info_items, irq_turn}
use Rattle.vd_state.specs.Kept.{Kept, CountsWithin}
use Rattle.vd_state.specs.declared.queue.Queue.{Queue}
use Rattle.vd_state.specs.Stands.{Stands, Does, Tells, TakesKicks, TakesInterrupts}
use Rattle.vd_answers.specs.Tells.{Tells as TellsTurn, answer_of}
use Rattle.vd_answers.proofs.Telling.{tells_by}
use Rattle.vd_state_lines.specs.After.{StateAfter, is_state_act}

-- two tests, one after the other, are one of both
pub both_tests : {A : Type 0} (a b : Bool) (errno : Errno) (turn : Turn A) → refuse (refusal_if (not a) errno) (refuse (refusal_if (not b) errno) turn) ≡ refuse (refusal_if (not (a && b)) errno) turn
both_tests false b errno turn = refl
both_tests true b errno turn = refl

pub vqaddr_tests : (made : Creation) (q desc driver device : ℕ) → vqaddr_turn made q desc driver device
    ≡ refuse (refusal_if (not (is_queue (shape_of made) q && are_aligned desc driver device)) Inval) (done_with [] (State (Addr_set q desc driver device) ∷ []))
vqaddr_tests made q desc driver device = both_tests (is_queue (shape_of made) q) (are_aligned desc driver device) Inval (done_with [] (State (Addr_set q desc driver device) ∷ []))

pub irq_tests : (made : Creation) (state : List StateAct) (q : ℕ) → irq_turn made state q
    ≡ refuse (refusal_if (not (is_queue (shape_of made) q && is_driver_ok state)) Inval) (done_with [] (State (Injected (interrupt.Queue q)) ∷ []))
irq_tests made state q = both_tests (is_queue (shape_of made) q) (is_driver_ok state) Inval (done_with [] (State (Injected (interrupt.Queue q)) ∷ []))

-- a state that stood for these acts stands for them still
pub stays : (made : Creation) (acts : List Act) (s : Kept) → Stands (shape_of made) (state_acts acts) s → StateAfter made acts s []
stays made acts s h = record { only = refl; stands = h }

-- a call that makes an act, or refuses
pub does_line : {heard : Answer → Type 0} (made : Creation) (acts : List Act) (test : Bool) (act : StateAct) (r : Result (Unit {0}) Errno) (s : Kept) {turn : Turn Act}
    → turn ≡ refuse (refusal_if (not test) Inval) (done_with [] (State act ∷ [])) → heard (answer_of r) → is_state_act (State act) ≡ true → Does (shape_of made) (state_acts acts) test act r s
    → TellsTurn heard turn (StateAfter made acts s)
does_line made acts test act (Ok u) s e h only d =
    tells_by (e ∙ ap (λ b. refuse (refusal_if (not b) Inval) (done_with [] (State act ∷ []))) d.0) refl h (record { only = ap (λ b. b && true) only; stands = d.1 })
does_line made acts test act (Err errno) s e h only d =
    tells_by (e ∙ ap (λ b. refuse (refusal_if (not b) Inval) (done_with [] (State act ∷ []))) d.0) (ap answer.Err d.1) h (stays made acts s d.2)

-- what is known of a queue
pub told_of_queue : (made : Creation) (acts : List Act) (q : ℕ) (info : QueueInfo) (s : Kept) → Tells (shape_of made) (state_acts acts) q (Ok info) s → vqinfo_turn made (state_acts acts) q ≡ done_with (info_items info) []
told_of_queue made acts q info s h = ap (λ b. refuse (refusal_if (not b) Inval) (done_with (info_items (queue_info (state_acts acts) q)) [])) h.0 ∙ ap (λ i. done_with (info_items i) []) (sym h.1)

pub missing_queue : (made : Creation) (acts : List Act) (q : ℕ) (errno : Errno) (s : Kept) → Tells (shape_of made) (state_acts acts) q (Err errno) s → vqinfo_turn made (state_acts acts) q ≡ record { answer = answer.Err errno; acts = [] }
missing_queue made acts q errno s h = ap (λ b. refuse (refusal_if (not b) Inval) (done_with (info_items (queue_info (state_acts acts) q)) [])) h.0 ∙ ap (λ e. record { answer = answer.Err e; acts = [] }) (sym h.1)

-- the count of interrupts
pub took_irqs : (made : Creation) (acts : List Act) (on : QueueOrConfig) (count : ℕ) (s : Kept) → TakesInterrupts (shape_of made) (state_acts acts) on (Ok count) s
    → irqs_turn made (state_acts acts) on ≡ done_with (Number count ∷ []) (State (Interrupts_taken on) ∷ [])
took_irqs made acts on count s h =
    ap (λ b. refuse (refusal_if (not b) Inval) (done_with (Number (interrupts_of (state_acts acts) on) ∷ []) (State (Interrupts_taken on) ∷ []))) h.0
    ∙ ap (λ n. done_with (Number n ∷ []) (State (Interrupts_taken on) ∷ [])) (sym h.1)

pub no_irqs : (made : Creation) (acts : List Act) (on : QueueOrConfig) (errno : Errno) (s : Kept) → TakesInterrupts (shape_of made) (state_acts acts) on (Err errno) s
    → irqs_turn made (state_acts acts) on ≡ record { answer = answer.Err errno; acts = [] }
no_irqs made acts on errno s h =
    ap (λ b. refuse (refusal_if (not b) Inval) (done_with (Number (interrupts_of (state_acts acts) on) ∷ []) (State (Interrupts_taken on) ∷ []))) h.0
    ∙ ap (λ e. record { answer = answer.Err e; acts = [] }) (sym h.1)

-- the count of kicks
abbrev pub told_kicks : (q : ℕ) → Option ℕ → Turn Act
told_kicks q file = option_map_or (λ count. done_with (Number count ∷ []) (State (Kicks_taken q) ∷ [])) file (record { answer = answer.Err Noent; acts = [] })

pub took_kicks : (made : Creation) (acts : List Act) (q : ℕ) (kicks : Option ℕ) (s : Kept) → TakesKicks (shape_of made) (state_acts acts) q (Ok kicks) s → kicks_turn made (state_acts acts) q ≡ told_kicks q kicks
took_kicks made acts q kicks s h =
    ap (λ b. refuse (refusal_if (not b) Inval) (told_kicks q (kick_file_of (state_acts acts) q))) h.0 ∙ ap (told_kicks q) (sym h.1)

pub no_kicks : (made : Creation) (acts : List Act) (q : ℕ) (errno : Errno) (s : Kept) → TakesKicks (shape_of made) (state_acts acts) q (Err errno) s → kicks_turn made (state_acts acts) q ≡ record { answer = answer.Err errno; acts = [] }
no_kicks made acts q errno s h =
    ap (λ b. refuse (refusal_if (not b) Inval) (option_map_or (λ count. done_with (Number count ∷ []) (State (Kicks_taken q) ∷ [])) (kick_file_of (state_acts acts) q) (record { answer = answer.Err Noent; acts = [] }))) h.0
    ∙ ap (λ e. record { answer = answer.Err e; acts = [] }) (sym h.1)

-- counts within a number are within a greater one
pub counts_within_more : (least most : ℕ) (s : Kept) → least ≤ most → CountsWithin least s → CountsWithin most s
counts_within_more least most s le w = record {
  kicks = All-weaker (λ (q : Queue). unwrap_or q.kicks 0 ≤ least) (λ (q : Queue). unwrap_or q.kicks 0 ≤ most) (λ q h. omega arith) s.queues w.kicks;
  queues = All-weaker (λ (q : Queue). q.interrupts ≤ least) (λ (q : Queue). q.interrupts ≤ most) (λ q h. omega arith) s.queues w.queues;
  generations = All-weaker (λ (q : Queue). q.generation ≤ least) (λ (q : Queue). q.generation ≤ most) (λ q h. omega arith) s.queues w.generations;
  config = (let h = w.config in omega arith);
}

pub counted_more : (most : ℕ) (s : Kept) → CountsWithin most s → CountsWithin (most + 1) s
counted_more most s w = counts_within_more most (most + 1) s (omega arith) w
