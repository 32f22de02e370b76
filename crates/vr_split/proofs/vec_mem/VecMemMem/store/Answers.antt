use Rattle.std.proofs.Common.{◌≡◌, ◌+◌, ◌++◌, length, take, drop, List, ℕ, Some, ap, sym, ◌∙◌, refl, arith, rules}
use Rattle.std.proofs.lemmas.Grind.{common_steps}
use Rattle.vd_model.specs.Memory.{bytes_from}
use Rattle.vr_split.specs.MemLemmas.{tells, Stores-into, read-none, written-none}
use Rattle.vr_split.proofs.vec_mem.VecMemMem.store.Goals as goal

-- a vector after its elements were written over
whole : (len : ℕ) (new old : List ℕ) → length new ≡ length old → length old ≡ len → take len (new ++ drop (length new) old) ≡ new
whole len new old e h = grind (arith, common_steps)

pub returns-then-is_empty-clause-stores : goal.returns-then-is_empty-clause-stores
returns-then-is_empty-clause-stores c =
    let none : length c.args.bytes.now ≡ 0 = search rules in
    let read_none = read-none (bytes_from c.args.self.now.base c.args.self.now.bytes.items) c.args.at c.args.bytes.now none in
    tells _ _ (rw read_none refl, ap Some (sym (written-none _ c.args.at c.args.bytes.now none)))

pub returns-clause-stores : goal.returns-clause-stores
returns-clause-stores c =
    let old : List ℕ = c.args.self.now.bytes.items in
    let len : length old ≡ c.args.self.now.bytes.len = sym (ap length c.deref_mut.ensures.value) ∙ c.deref_mut.ensures.len in
    let same : length c.put.new.into ≡ length old = c.put.auto.into ∙ ap length c.deref_mut.ensures.value in
    let new = whole c.args.self.now.bytes.len c.put.new.into old same len ∙ c.put.ensures ∙ ap (λ (l : List ℕ). take c.in_ok-i.i l ++ (c.args.bytes.now ++ drop (c.in_ok-i.i + length c.args.bytes.now) l)) c.deref_mut.ensures.value in
    tells _ _ (rw c.in_ok-i.ensures.at (Stores-into c.args.self.now.base old c.in_ok-i.i c.args.bytes.now _ c.in_ok-i.ensures.within new tt))
