use Rattle.std.proofs.Common.{◌≡◌, ℕ, Some, refl, subst, sym}
use Rattle.vd_bounce.specs.Frames.{frame_of}
use Rattle.vd_bounce.specs.Bounce.{Bounce}
use Rattle.vr_split.specs.MemLemmas.{tells}
use Rattle.vd_ring_memory.proofs.RingTelling.{ring_stores, ring_puts_after}
use Rattle.vd_driver_port.proofs.Mapping.{ring_reached, store_reached}
use Rattle.vd_driver_port.proofs.port.DriverPortMem.store.Goals as goal

pub invariant_of-self-clause-apart : goal.invariant_of-self-clause-apart
invariant_of-self-clause-apart c =
    subst (λ (b : Bounce). (p q f : ℕ) → frame_of b.frames p ≡ Some f → frame_of b.frames q ≡ Some f → p ≡ q) (sym c.ring_store-stored.ensures.bounce) c.args.self.now.apart

pub invariant_of-self-clause-reached : goal.invariant_of-self-clause-reached
invariant_of-self-clause-reached c =
    let e = c.ring_store-stored.ensures in
    store_reached c.args.self.now.memory.now c.args.self.now.pool.now _ c.args.at c.args.bytes.now c.ring_store-stored.result e.ok e.err c.args.self.now.reached

pub returns-clause-stores : goal.returns-clause-stores
returns-clause-stores c =
    let e = c.ring_store-stored.ensures in
    tells _ _ (ring_stores _ _ c.args.at c.args.bytes.now c.ring_store-stored.result (ring_reached c.args.self.now.reached) c.sees_rings.ensures c.sees_rings-2.ensures e.ok e.err)

pub returns-clause-keeps : goal.returns-clause-keeps
returns-clause-keeps c =
    let e = c.ring_store-stored.ensures in (
      refl,
      refl,
      refl,
      record {
        puts = record { after = ring_puts_after _ _ c.args.at c.args.bytes.now c.ring_store-stored.result e.ok e.err; bounce = e.bounce; counts = e.counts };
        rest = refl;
        pool = refl;
      },
    )
