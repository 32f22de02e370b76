-- The line of a walk, by how the chain ends.
use Rattle.std.proofs.Common.{◌≡◌, ℕ, Bool, true, false, ◌||◌, ◌==◌, if◌then◌else◌, refl, ap, sym, ◌∙◌, List, [], ◌++◌, Some, None, Option, inl, inr, Result, Ok, Err}
use Rattle.std.proofs.lemmas.Bool.Decides.{eqb_tells}
use Rattle.vd_model.specs.Trace.{faulty, missing}
use Rattle.vr_chain.specs.Walk.{UnlessMemory}
use Rattle.vr_chain.specs.declared.error.WalkError.{WalkError}
use Rattle.vr_chain.specs.declared.error.WalkError.TheVariants.{Fault, Bus, Memory as OutOfMemory}
use Rattle.vd_model.specs.declared.answer.Answer.{Answer}
use Rattle.vd_answers.specs.Tells.{MayTell}
use Rattle.vd_answers.proofs.Telling.{may_tell}
use Rattle.vd_pool.specs.Memory.{PoolMemory as Pool}
use Rattle.vd_num.specs.declared.errno.Errno.TheVariants.{Inval}
use Rattle.vd_model.specs.declared.queue.QueueInfo.{QueueInfo}
use Rattle.vd_model.specs.declared.parts.Chain.{Chain}
use Rattle.vd_model.specs.Memory.{Memory}
use Rattle.vd_model.specs.Setting.{Setting}
use Rattle.vd_model.specs.Creation.{Creation}
use Rattle.vd_model.specs.Acts.{Act, state_acts}
use Rattle.vd_model.specs.State.{queue_info}
use Rattle.vd_model.specs.BusTurns.{is_missing}
use Rattle.vd_model.specs.Turn.{Turn, refuse, refusal_if, done_with}
use Rattle.vd_model.specs.Trace.{Ending, trace_start, ending_of}
use Rattle.vd_model.specs.DaemonTurns.{daemon_memory, ring_place_of, queue_place, has_indirect, chain_or, walk_turn}
use Rattle.vd_domain.specs.Held.{Held}
use Rattle.vd_domain.specs.Seen.{daemon_map}
use Rattle.vd_domain.specs.Stands.{Stands}
use Rattle.vd_ring_memory.specs.Puts.{IsAfterPuts}
use Rattle.vd_ring_memory.specs.Known.{IsKnown, FailsAs, chain_items}
use Rattle.vd_ring_memory.proofs.Standing.{stands_as_daemon}

-- a domain that shows what it showed stands for what it stood for
pub stays : (x : Setting) (acts : List Act) (h k : Held) (m n : Pool) → Stands x acts h m → IsAfterPuts h m k n → daemon_map k n ≡ daemon_map h m
    → ((x : Setting) (acts : List Act) → Stands x acts h m → daemon_map h m ≡ daemon_memory x acts) → ((x : Setting) (acts : List Act) → Stands x acts k n → daemon_map k n ≡ daemon_memory x acts)
    → Stands x acts k n
stays x acts h k m n s after told before later =
    let p = after.after x acts s in
    stands_as_daemon x acts [] p.puts tt p.only (sym (before x acts s) ∙ sym told ∙ later x (p.puts ++ acts) p.stands) k n p.stands

abbrev pub whole_turn : Chain → Turn Act
whole_turn chain = done_with (chain_items chain) []

found_by : (t : Bool) (i k : QueueInfo) → Some i ≡ (if t then None else Some k) → (t ≡ false) × (i ≡ k)
found_by true i k e = absurd (cc)
found_by false i k e = (refl, cc)

pub turn_is : (x : Setting) (made : Creation) (acts : List Act) (q head : ℕ) (queue : Option QueueInfo) (indirect : Bool) (info : QueueInfo) (m : Memory) (e : Ending)
    → IsKnown made acts q queue indirect → queue ≡ Some info → (info.num ≡ 0 → ⊥) → m ≡ daemon_memory x acts
    → e ≡ ending_of (trace_start (ring_place_of info) head indirect) m → walk_turn x made acts q head ≡ chain_or e whole_turn
turn_is x made acts q head queue indirect info m e known some none seen is =
    let size : (info.num == 0) ≡ false = elim (eqb_tells info.num 0) [ inl h ↦ absurd (none h.1) | inr h ↦ h.0 ] in
    let f = found_by (is_missing made q) info (queue_info (state_acts acts) q) (sym some ∙ known.info) in
    let test : (is_missing made q || ((queue_place acts q).size == 0)) ≡ false =
    ap (λ t. t || ((queue_place acts q).size == 0)) f.0 ∙ ap (λ (i : QueueInfo). i.num == 0) (sym f.1) ∙ size in
    ap (λ t. refuse (refusal_if t Inval) (chain_or (ending_of (trace_start (queue_place acts q) head (has_indirect acts)) (daemon_memory x acts)) whole_turn)) test
    ∙ ap (λ (i : QueueInfo). chain_or (ending_of (trace_start (ring_place_of i) head (has_indirect acts)) (daemon_memory x acts)) whole_turn) (sym f.1)
    ∙ ap (λ t. chain_or (ending_of (trace_start (ring_place_of info) head t) (daemon_memory x acts)) whole_turn) (sym known.tables)
    ∙ ap (λ (t : Memory). chain_or (ending_of (trace_start (ring_place_of info) head indirect) t) whole_turn) (sym seen)
    ∙ ap (λ e. chain_or e whole_turn) (sym is)

-- a walk that gives no chain
module _ (x : Setting) (made : Creation) (acts : List Act) (q head : ℕ) (queue : Option QueueInfo) (indirect : Bool) (info : QueueInfo) (m : Memory) (After : List Act → Type 0) (heard : Answer → Type 0)
    (known : IsKnown made acts q queue indirect) (some : queue ≡ Some info) (none : info.num ≡ 0 → ⊥) (seen : m ≡ daemon_memory x acts) (stays : After []) where
  pub fails : {E : Type 0} (error : WalkError) (r : Result (Unit {0}) E) → UnlessMemory (Err error) (λ e. e ≡ ending_of (trace_start (ring_place_of info) head indirect) m) → FailsAs heard error r
      → MayTell heard (walk_turn x made acts q head) After r
  fails (Fault fault) (Ok u) is h = may_tell (Ok u) (turn_is x made acts q head queue indirect info m (faulty fault) known some none seen is) refl h.1 stays
  fails (Fault fault) (Err e) is h = absurd (let no = h.0 in cc)
  fails (Bus at) (Ok u) is h = may_tell (Ok u) (turn_is x made acts q head queue indirect info m (missing at) known some none seen is) refl h.1 stays
  fails (Bus at) (Err e) is h = absurd (let no = h.0 in cc)
  fails OutOfMemory (Err error) is h = record { says = tt; stands = stays }
  fails OutOfMemory (Ok u) is h = absurd (cc)
