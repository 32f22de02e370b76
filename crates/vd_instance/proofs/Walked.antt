-- A walk changes no part of a device but how its domain is kept.
use Rattle.std.proofs.Common.{◌≡◌, ℕ, ◌≤◌, Bool, true, false, refl, subst, sym, List, [], ◌++◌, Option, Some, None, Result, Ok, Err, if◌then◌else◌}
use Rattle.std.specs.Prelude.{IfSome, ◌==◌, ◌||◌}
use Rattle.vd_num.specs.declared.errno.Errno.TheVariants.{Inval}
use Rattle.vd_pool.specs.Memory.{PoolMemory as Pool}
use Rattle.vd_model.specs.declared.answer.Answer.{Answer}
use Rattle.vd_model.specs.declared.parts.Chain.{Chain}
use Rattle.vd_model.specs.declared.queue.QueueInfo.{QueueInfo}
use Rattle.vd_model.specs.Setting.{Setting}
use Rattle.vd_model.specs.Creation.{Creation}
use Rattle.vd_model.specs.Acts.{Act}
use Rattle.vd_model.specs.Turn.{Turn, refuse, refusal_if, done_with}
use Rattle.vd_model.specs.BusTurns.{is_missing}
use Rattle.vd_model.specs.DaemonTurns.{walk_turn, queue_place, has_indirect, daemon_memory, chain_or}
use Rattle.vd_model.specs.Trace.{Ending, whole, faulty, missing, trace_start, ending_of}
use Rattle.vd_domain.specs.Held.{Held}
use Rattle.vd_domain.specs.Stands as domain
use Rattle.vd_answers.specs.Tells.{MayTell}
use Rattle.vd_ring_memory.specs.Known as ring
use Rattle.vd_instance.specs.declared.instance.Instance.{Instance}
use Rattle.vd_instance.specs.Stands.{Stands, After}

-- a size that is known fits
pub small_by : (missing : Bool) (info : QueueInfo) (o : Option QueueInfo) → o ≡ (if missing then None else Some info) → info.num ≤ 32768 → IfSome o (λ i. i.num ≤ 32768)
small_by true info o e le = subst (λ (k : Option QueueInfo). IfSome k (λ i. i.num ≤ 32768)) (sym e) tt
small_by false info o e le = subst (λ (k : Option QueueInfo). IfSome k (λ i. i.num ≤ 32768)) (sym e) le

with_domain : {x : Setting} {made : Creation} {done : List Act} {i : Instance} {m n : Pool} (h : Held) → Stands x made done i m → domain.Stands x done h n
    → Stands x made done (record i { device = record i.device { memory = record i.device.memory { domain = h } } }) n
with_domain h s stands = record {
  device = record { path = s.device.path; memory = record { domain = stands; buffers = s.device.memory.buffers; inside = s.device.memory.inside } };
  drivers = s.drivers;
  places = s.places;
  owned = s.owned;
  apart = s.apart;
  sizes = s.sizes;
  daemons = s.daemons;
  count = s.count;
}

pub walk_tells : {E : Type 0} {heard : Answer → Type 0} {turn : Turn Act} {x : Setting} {made : Creation} {done : List Act} {i : Instance} {m n : Pool} (h : Held) (r : Result (Unit {0}) E) → turn.acts ≡ []
    → Stands x made done i m → MayTell heard turn (ring.After x done h n) r
    → MayTell heard turn (After x made done (record i { device = record i.device { memory = record i.device.memory { domain = h } } }) n) r
walk_tells {E} {heard} {turn} {x} {made} {done} {i} {m} {n} h (Ok u) none s t = record {
  says = t.says;
  stands = subst (λ l. Stands x made (l ++ done) (record i { device = record i.device { memory = record i.device.memory { domain = h } } }) n) (sym none)
      (with_domain h s (subst (λ l. domain.Stands x (l ++ done) h n) none t.stands));
}
walk_tells {E} {heard} {turn} {x} {made} {done} {i} {m} {n} h (Err e) none s t = record { says = tt; stands = with_domain h s t.stands }

-- ---- a walk does nothing

refused_none : (test : Bool) (turn : Turn Act) → turn.acts ≡ [] → (refuse (refusal_if test Inval) turn).acts ≡ []
refused_none true turn h = refl
refused_none false turn h = h

chained_none : (e : Ending) (turn : Chain → Turn Act) → ((chain : Chain) → (turn chain).acts ≡ []) → (chain_or e turn).acts ≡ []
chained_none (whole chain) turn h = h chain
chained_none (faulty fault) turn h = refl
chained_none (missing at) turn h = refl

-- what is answered for a chain
told : Chain → Turn Act
told chain = done_with (ring.chain_items chain) []

pub walk_none : (x : Setting) (made : Creation) (done : List Act) (q head : ℕ) → (walk_turn x made done q head).acts ≡ []
unfolding told
walk_none x made done q head =
    refused_none (is_missing made q || ((queue_place done q).size == 0)) (chain_or (ending_of (trace_start (queue_place done q) head (has_indirect done)) (daemon_memory x done)) told)
    (chained_none (ending_of (trace_start (queue_place done q) head (has_indirect done)) (daemon_memory x done)) told (λ chain. refl))
