-- Where a walk of a ring's own descriptors reads.
use Rattle.std.proofs.Common.{◌≡◌, ℕ, ◌+◌, ◌*◌, ◌<◌, ◌%◌, ◌^◌, Option, ap, arith}
use Rattle.std.specs.Option.{ForSome}
use Rattle.vd_num.specs.declared.number.Range.{Range}
use Rattle.vd_model.specs.Memory.{Memory, IsFinite}
use Rattle.vd_model.specs.Trace.{descriptor_address}
use Rattle.vd_model.specs.declared.queue.RingPlace.{RingPlace}
use Rattle.vd_model.specs.declared.descriptor.Position.{Position}
use Rattle.vd_model.specs.declared.descriptor.Table.{Table}
use Rattle.vr_split.specs.Reach.{Reaches, TableInReach}
use Rattle.vr_split.specs.ReachLemmas.{field_reached}

-- the descriptor at a position of the ring's own table is in reach
pub position-reached : (told : Option Memory) (span : Option Range) (told' : Option Memory) (span' : Option Range) (ring : RingPlace) (p : Position) → ForSome told IsFinite → ForSome span (λ r. r.last < 2 ^ 64)
    → told' ≡ told → span' ≡ span → p.table ≡ record { number = 0; at = ring.desc; entries = ring.size } → p.index < p.table.entries → TableInReach told span ring → Reaches told' span' (descriptor_address p) 16
position-reached told span told' span' ring p f s st ss table inside reach =
    let at = ap (λ (t : Table). t.at) table in
    let entries = ap (λ (t : Table). t.entries) table in
    rw (st, ss) (field_reached told span ring.desc (16 * ring.size) (16 * p.index) 16 (descriptor_address p) f s (omega arith) (omega arith) (ap (λ (a : ℕ). (a + 16 * p.index) % 2 ^ 64) at) reach)
