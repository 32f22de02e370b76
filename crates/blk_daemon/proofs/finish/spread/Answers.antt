use Rattle.std.proofs.Common.{◌≡◌, ℕ, ◌+◌, ◌-◌, ◌∷◌, List, true, false, length, get_or, take, drop, Option, Some, Ok, Err, sym, ap, subst, ◌∙◌, arith}
use Rattle.std.proofs.lemmas.List.{drop-drop}
use Rattle.vd_num.specs.declared.number.Bus.{Bus}
use Rattle.vd_model.specs.Memory.{Memory, read, written}
use Rattle.vd_model.specs.declared.parts.Part.{Part}
use Rattle.vr_split.specs.Reach.{KeepsReach}
use Rattle.vr_split.specs.ReachLemmas.{KeepsReach-more, KeepsReach-store}
use Rattle.blk_daemon.proofs.PartLemmas.{writable_count, writable_within, part_room}
use Rattle.blk_daemon.proofs.SpreadLemmas.{IsSpread, drop_next, next_there, spread_more, spread_skip, not_both}
use Rattle.blk_daemon.proofs.finish.spread.Goals as goal
use Rattle.blk_daemon.proofs.finish.spread.Goals.{then-part+in_ok-store, else-part}

none : Part
none = record { at = 0; len = 0; writable = false }

-- a part that is there takes its bytes
stored : (m : Memory) (parts : List Part) (bytes : List ℕ) (p : Part) (rest : List Part) (left slice : List ℕ) (old : Option Memory) (bus : Bus) → p.writable ≡ true → length slice ≡ p.len
    → (s : IsSpread m parts bytes (p ∷ rest) left old) → read s.now p.at (length slice) ≡ Err bus.at → ⊥
stored m parts bytes p rest left slice old bus writes size s fails =
    not_both (read s.now p.at p.len) bus.at (next_there s.now p rest writes s.there).0 (sym (ap (read s.now p.at) size) ∙ fails)

pub returns-in_err-store-clause-works : goal.returns-in_err-store-clause-works
unfolding none
returns-in_err-store-clause-works g c m told there =
    let here = get_or c.args.parts.now c.loop-part.part-index none in
    let count = writable_count c.args.parts.now c.loop-part.part-index none true c.loop-part-test.true c.if-part.true in
    let within = writable_within c.args.parts.now (c.loop-part.part-index + 1) in
    let room = part_room c.args.bytes.now c.loop-part.at here.len (omega (arith, c.loop-part.invariant.at, c.requires, count, within)) in
    let s = subst (λ (ps : List Part). IsSpread m c.args.parts.now c.args.bytes.now ps (drop c.loop-part.at c.args.bytes.now) (g.M.Mem.told c.loop-part.mem))
    (drop_next c.args.parts.now c.loop-part.part-index none c.loop-part-test.true) (c.loop-part.invariant.spread m told there) in
    absurd (stored m c.args.parts.now c.args.bytes.now here _ _ _ _ c.in_err-store.field-0.0 c.if-part.true room s (c.in_err-store.ensures.stores s.now s.told).0)

pub returns-in_err-store-clause-spread : goal.returns-in_err-store-clause-spread
unfolding none
returns-in_err-store-clause-spread g c m told there =
    let here = get_or c.args.parts.now c.loop-part.part-index none in
    let count = writable_count c.args.parts.now c.loop-part.part-index none true c.loop-part-test.true c.if-part.true in
    let within = writable_within c.args.parts.now (c.loop-part.part-index + 1) in
    let room = part_room c.args.bytes.now c.loop-part.at here.len (omega (arith, c.loop-part.invariant.at, c.requires, count, within)) in
    let s = subst (λ (ps : List Part). IsSpread m c.args.parts.now c.args.bytes.now ps (drop c.loop-part.at c.args.bytes.now) (g.M.Mem.told c.loop-part.mem))
    (drop_next c.args.parts.now c.loop-part.part-index none c.loop-part-test.true) (c.loop-part.invariant.spread m told there) in
    absurd (stored m c.args.parts.now c.args.bytes.now here _ _ _ _ c.in_err-store.field-0.0 c.if-part.true room s (c.in_err-store.ensures.stores s.now s.told).0)

pub returns-in_err-store-clause-memory : goal.returns-in_err-store-clause-memory
returns-in_err-store-clause-memory g c =
    KeepsReach-more g.met.M.Mem.keeps_trans c.loop-part.invariant.memory (KeepsReach-store _ _ (Err c.in_err-store.field-0.0) c.in_err-store.ensures.stores c.in_err-store.ensures.span c.in_err-store.ensures.keeps)

pub loop-part-preserved : goal.loop-part-preserved
unfolding none
loop-part-preserved g c = elim c.if-part.branch [
  | then-part+in_ok-store w ↦
      (let here = get_or c.args.parts.now c.loop-part.part-index none in
      let count = writable_count c.args.parts.now c.loop-part.part-index none true c.loop-part-test.true w.if-part.true in
      let same : c.loop-part.at + here.len - c.loop-part.at ≡ here.len = omega arith in
      record {
        memory = subst (λ s. KeepsReach g.M.Mem.told g.M.Mem.span g.M.Mem.keeps c.args.mem.now s) (sym w.mem-is)
            (KeepsReach-more g.met.M.Mem.keeps_trans c.loop-part.invariant.memory (KeepsReach-store _ _ (Ok w.in_ok-store.field-0) w.in_ok-store.ensures.stores w.in_ok-store.ensures.span w.in_ok-store.ensures.keeps));
        at = omega (arith, w.at-is, c.loop-part.invariant.at, count);
        spread = λ m told there.
            let s = subst (λ (ps : List Part). IsSpread m c.args.parts.now c.args.bytes.now ps (drop c.loop-part.at c.args.bytes.now) (g.M.Mem.told c.loop-part.mem))
            (drop_next c.args.parts.now c.loop-part.part-index none c.loop-part-test.true) (c.loop-part.invariant.spread m told there) in
            let now = ap g.M.Mem.told w.mem-is ∙ (w.in_ok-store.ensures.stores s.now s.told).1 ∙ ap (λ (n : ℕ). Some (written s.now here.at (take n (drop c.loop-part.at c.args.bytes.now)))) same in
            let left : drop here.len (drop c.loop-part.at c.args.bytes.now) ≡ drop c.if-part.at c.args.bytes.now =
            drop-drop here.len c.loop-part.at c.args.bytes.now ∙ ap (λ (n : ℕ). drop n c.args.bytes.now) (sym w.at-is) in
            subst (λ (bs : List ℕ). IsSpread m c.args.parts.now c.args.bytes.now (drop (c.loop-part.part-index + 1) c.args.parts.now) bs (g.M.Mem.told c.if-part.mem)) left
            (spread_more m c.args.parts.now c.args.bytes.now here (drop (c.loop-part.part-index + 1) c.args.parts.now) (drop c.loop-part.at c.args.bytes.now) (g.M.Mem.told c.loop-part.mem) (g.M.Mem.told c.if-part.mem) w.if-part.true s now);
      })
  | else-part w ↦
      (let here = get_or c.args.parts.now c.loop-part.part-index none in
      let count = writable_count c.args.parts.now c.loop-part.part-index none false c.loop-part-test.true w.if-part.false in
      record {
        memory = subst (λ s. KeepsReach g.M.Mem.told g.M.Mem.span g.M.Mem.keeps c.args.mem.now s) (sym w.mem-is) c.loop-part.invariant.memory;
        at = omega (arith, w.at-is, c.loop-part.invariant.at, count);
        spread = λ m told there.
            let s = subst (λ (ps : List Part). IsSpread m c.args.parts.now c.args.bytes.now ps (drop c.loop-part.at c.args.bytes.now) (g.M.Mem.told c.loop-part.mem))
            (drop_next c.args.parts.now c.loop-part.part-index none c.loop-part-test.true) (c.loop-part.invariant.spread m told there) in
            let skip = spread_skip m c.args.parts.now c.args.bytes.now here (drop (c.loop-part.part-index + 1) c.args.parts.now) (drop c.loop-part.at c.args.bytes.now) (g.M.Mem.told c.loop-part.mem) w.if-part.false s in
            subst (λ (o : Option Memory). IsSpread m c.args.parts.now c.args.bytes.now (drop (c.loop-part.part-index + 1) c.args.parts.now) (drop c.if-part.at c.args.bytes.now) o) (sym (ap g.M.Mem.told w.mem-is))
            (subst (λ (n : ℕ). IsSpread m c.args.parts.now c.args.bytes.now (drop (c.loop-part.part-index + 1) c.args.parts.now) (drop n c.args.bytes.now) (g.M.Mem.told c.loop-part.mem)) (sym w.at-is) skip);
      })
]
