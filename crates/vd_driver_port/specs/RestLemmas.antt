-- What is left alone stays so after more calls.
use Rattle.std.proofs.Common.{◌≡◌, ℕ, ◌+◌, ◌≤◌, refl, ap, sym, ◌∙◌, subst, arith}
use Rattle.vd_pool.specs.Memory.{PoolMemory as Pool}
use Rattle.vd_bounce.specs.Bounce.{Bounce}
use Rattle.vd_bounce.specs.Frames.{Holds, Keeps}
use Rattle.vd_bounce.proofs.Kept.{keeps_none, keeps_more}
use Rattle.vd_memory_lines.specs.declared.memory.Memory.{Memory}
use Rattle.vd_ring_memory.specs.RingPutLemmas.{ring_after_none, ring_after_more}
use Rattle.vd_driver_port.specs.Rest.{KeepsMemory, IsAfterPuts}

pub after_none : (k : Memory) (m : Pool) → IsAfterPuts k k m m
after_none k m = record { puts = ring_after_none k.domain; rest = refl; pool = refl }

pub after_more : {h k l : Memory} {m n o : Pool} → IsAfterPuts h k m n → IsAfterPuts k l n o → IsAfterPuts h l m o
after_more {h} {k} {l} first next = record {
  puts = ring_after_more first.puts next.puts;
  rest = next.rest ∙ ap (λ (t : Memory). record t { domain = l.domain }) first.rest;
  pool = next.pool ∙ first.pool;
}

pub memory_same : (k : Memory) (m : Pool) → Holds k.domain.bounce.frames m → KeepsMemory k k m m
memory_same k m holds = record { kept = keeps_none holds; page = refl; made = refl }

pub memory_more : {h k l : Memory} {m n o : Pool} → KeepsMemory h k m n → KeepsMemory k l n o → KeepsMemory h l m o
memory_more first next = record { kept = keeps_more first.kept next.kept; page = next.page ∙ first.page; made = next.made ∙ first.made }

pub after_memory : {h k : Memory} {m n : Pool} → Holds h.domain.bounce.frames m → IsAfterPuts h k m n → KeepsMemory h k m n
after_memory {h} {k} {m} {n} holds after = record {
  kept = subst (λ (q : Pool). Keeps h.domain.bounce.frames k.domain.bounce.frames m q) (sym after.pool)
      (subst (λ (b : Bounce). Keeps h.domain.bounce.frames b.frames m m) (sym after.puts.bounce) (keeps_none holds));
  page = ap (λ (b : Bounce). b.per_page) after.puts.bounce;
  made = after.puts.counts.made;
}

pub same_sum : (n : ℕ) → n ≤ n
same_sum n = omega arith

pub sum_more : {a b c : ℕ} → c ≤ b → b ≤ a → c ≤ a
sum_more h g = omega arith

pub after_sum : {h k : Memory} {m n : Pool} {a b : ℕ} → IsAfterPuts h k m n → b ≡ a → k.domain.maps + b ≤ h.domain.maps + a
after_sum {h} {k} after same = let maps = after.puts.counts.maps in omega arith
