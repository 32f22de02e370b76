-- Puts that write what was written are those that a domain stands for.
use Rattle.std.proofs.Common.{◌≡◌, ap, sym, ◌∙◌, List, ◌++◌}
use Rattle.vd_pool.specs.Memory.{PoolMemory as Pool}
use Rattle.vd_model.specs.Memory.{Memory}
use Rattle.vd_model.specs.Setting.{Setting}
use Rattle.vd_model.specs.Acts.{Act}
use Rattle.vd_domain.specs.Held.{Held}
use Rattle.vd_domain.specs.Seen.{ring_map, ring_memory}
use Rattle.vd_domain.specs.Stands.{Stands}
use Rattle.vd_ring_memory.specs.RingPuts.{after_puts, AreRingPuts, IsAfterRingPuts}
use Rattle.vd_ring_memory.proofs.RingTelling.{ring_after_puts}
use Rattle.vd_ring_memory.proofs.Standing.{stands_as_rings}

-- what a domain shows of its rings is what the acts say
abbrev pub Shows : Held → Type 0
Shows h = (x : Setting) (acts : List Act) (m : Pool) → Stands x acts h m → ring_map h ≡ ring_memory x acts

pub puts_stand : (x : Setting) (acts puts : List Act) (h k : Held) (m : Pool) → Stands x acts h m → IsAfterRingPuts h k → Shows h → Shows k → AreRingPuts acts puts
    → ring_map k ≡ after_puts (ring_map h) puts → Stands x (puts ++ acts) k m
puts_stand x acts puts h k m s after before later only told =
    let p = after.after x acts m s in
    stands_as_rings x acts puts p.puts only p.only
    (ring_after_puts x acts puts only ∙ ap (λ (w : Memory). after_puts w puts) (sym (before x acts m s)) ∙ sym told ∙ later x (p.puts ++ acts) m p.stands) k m p.stands
