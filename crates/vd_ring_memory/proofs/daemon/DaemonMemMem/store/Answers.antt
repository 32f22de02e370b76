use Rattle.std.proofs.Common.{refl, ◌∙◌, sym}
use Rattle.vr_split.specs.MemLemmas.{tells}
use Rattle.vd_ring_memory.proofs.Telling.{stores, reaches, puts_after}
use Rattle.vd_ring_memory.proofs.daemon.DaemonMemMem.store.Goals as goal

pub invariant_of-self : goal.invariant_of-self
invariant_of-self c =
    let e = c.store-stored.ensures in
    record {
      out = e.kept.holds.out;
      apart = e.kept.holds.apart;
      size = e.kept.size ∙ c.args.self.now.size ∙ sym e.counts.page;
      reached = reaches _ _ _ _ c.args.at c.args.bytes.now c.store-stored.result c.args.self.now.reached e.ok e.err;
    }

pub returns-clause-stores : goal.returns-clause-stores
returns-clause-stores c =
    let e = c.store-stored.ensures in
    tells _ _ (stores _ _ _ _ c.args.at c.args.bytes.now c.store-stored.result c.args.self.now.reached c.sees.ensures c.sees-2.ensures e.ok e.err)

pub returns-clause-keeps : goal.returns-clause-keeps
returns-clause-keeps c =
    let e = c.store-stored.ensures in
    (refl, refl, record { after = puts_after _ _ _ _ c.args.at c.args.bytes.now c.store-stored.result e.ok e.err; kept = e.kept; counts = e.counts })
