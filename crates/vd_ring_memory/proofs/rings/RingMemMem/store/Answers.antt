use Rattle.std.proofs.Common.{refl}
use Rattle.vr_split.specs.MemLemmas.{tells}
use Rattle.vd_ring_memory.proofs.RingTelling.{ring_stores, ring_reaches, ring_puts_after}
use Rattle.vd_ring_memory.proofs.rings.RingMemMem.store.Goals as goal

pub invariant_of-self : goal.invariant_of-self
invariant_of-self c =
    let e = c.ring_store-stored.ensures in
    record { reached = ring_reaches _ _ c.args.at c.args.bytes.now c.ring_store-stored.result c.args.self.now.reached e.ok e.err }

pub returns-clause-stores : goal.returns-clause-stores
returns-clause-stores c =
    let e = c.ring_store-stored.ensures in
    tells _ _ (ring_stores _ _ c.args.at c.args.bytes.now c.ring_store-stored.result c.args.self.now.reached c.sees_rings.ensures c.sees_rings-2.ensures e.ok e.err)

pub returns-clause-keeps : goal.returns-clause-keeps
returns-clause-keeps c =
    let e = c.ring_store-stored.ensures in
    (refl, record { after = ring_puts_after _ _ c.args.at c.args.bytes.now c.ring_store-stored.result e.ok e.err; bounce = e.bounce; counts = e.counts })
