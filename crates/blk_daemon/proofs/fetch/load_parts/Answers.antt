use Rattle.std.proofs.Common.{◌≡◌, ◌+◌, ◌++◌, ◌≤◌, true, false, length, take, get_or, Ok, Err, sym, ap, subst, ◌∙◌, arith}
use Rattle.std.proofs.lemmas.Result.{err_from_is_err_and}
use Rattle.std.proofs.lemmas.Slice.{take-put_mid}
use Rattle.vd_model.specs.Memory.{read}
use Rattle.vd_model.specs.declared.parts.Part.{Part}
use Rattle.vr_split.specs.Mem.{IsUnchanged}
use Rattle.blk_daemon.proofs.PartLemmas.{readable_more, readable_skip, readable_fails, readable_count, readable_within, part_room, reads_fail}
use Rattle.blk_daemon.proofs.fetch.load_parts.Goals as goal
use Rattle.blk_daemon.proofs.fetch.load_parts.Goals.{then-not-part+in_ok-load, else-not-part}

none : Part
none = record { at = 0; len = 0; writable = false }

pub returns-in_err-load-clause-reads : goal.returns-in_err-load-clause-reads
unfolding none
returns-in_err-load-clause-reads g c m told =
    let p = err_from_is_err_and c.from_residual.result c.from_residual.ensures.1 in
    let here = get_or c.args.parts.now c.loop-part.part-index none in
    let count = readable_count c.args.parts.now c.loop-part.part-index none false c.loop-part-test.true c.if-not-part.true in
    let within = readable_within c.args.parts.now (c.loop-part.part-index + 1) in
    let room = part_room c.loop-part.bytes c.loop-part.at here.len (omega (arith, c.loop-part.invariant.at, c.loop-part.invariant.len, count, within)) in
    let now : read m here.at here.len ≡ Err c.in_err-load.field-0.0.at = sym (ap (read m here.at) room) ∙ c.in_err-load.ensures.loads m (c.loop-part.invariant.memory.same_told ∙ told) in
    reads_fail m c.args.parts.now _ c.in_err-load.field-0.0 _ (p.1 ∙ ap Err p.2)
    (readable_fails m c.args.parts.now c.loop-part.part-index none (take c.loop-part.at c.loop-part.bytes) _ c.loop-part-test.true c.if-not-part.true (c.loop-part.invariant.reads m told) now)

pub loop-part-preserved : goal.loop-part-preserved
unfolding none
loop-part-preserved g c = elim c.if-not-part.branch [
  | then-not-part+in_ok-load w ↦
      (let here = get_or c.args.parts.now c.loop-part.part-index none in
      let count = readable_count c.args.parts.now c.loop-part.part-index none false c.loop-part-test.true w.if-not-part.true in
      let within = readable_within c.args.parts.now (c.loop-part.part-index + 1) in
      let inside : c.loop-part.at ≤ length c.loop-part.bytes = omega (arith, c.loop-part.invariant.at, c.loop-part.invariant.len, count, within) in
      let room = part_room c.loop-part.bytes c.loop-part.at here.len (omega (arith, c.loop-part.invariant.at, c.loop-part.invariant.len, count, within)) in
      let len : length w.load.new.out ≡ here.len = w.load.auto.out ∙ room in
      let same : take c.if-not-part.at c.if-not-part.bytes ≡ take c.loop-part.at c.loop-part.bytes ++ w.load.new.out =
      (λ i. take (w.at-is i) (w.bytes-is i)) ∙ take-put_mid c.loop-part.at _ c.loop-part.bytes w.load.new.out _ (ap (λ n. c.loop-part.at + n) (sym len)) inside in
      record {
        memory = record {
          same_told = ap g.M.Mem.told w.mem-is ∙ w.in_ok-load.ensures.memory.same_told ∙ c.loop-part.invariant.memory.same_told;
          same_span = ap g.M.Mem.span w.mem-is ∙ w.in_ok-load.ensures.memory.same_span ∙ c.loop-part.invariant.memory.same_span;
          kept = subst (g.M.Mem.keeps c.args.mem.now) (sym w.mem-is) (g.met.M.Mem.keeps_trans _ _ _ c.loop-part.invariant.memory.kept w.in_ok-load.ensures.memory.kept);
        };
        at = omega (arith, w.at-is, c.loop-part.invariant.at, count);
        len = c.if-not-part.auto.bytes ∙ c.loop-part.invariant.len;
        reads = λ m told.
            let now = w.in_ok-load.ensures.loads m (c.loop-part.invariant.memory.same_told ∙ told) in
            readable_more m c.args.parts.now c.loop-part.part-index none (take c.loop-part.at c.loop-part.bytes) w.load.new.out c.loop-part-test.true w.if-not-part.true (c.loop-part.invariant.reads m told) (sym (ap (read m here.at) room) ∙ now) ∙ ap Ok (sym same);
      })
  | else-not-part w ↦
      (let count = readable_count c.args.parts.now c.loop-part.part-index none true c.loop-part-test.true w.if-not-part.false in
      record {
        memory = subst (λ s. IsUnchanged g.M.Mem.told g.M.Mem.span g.M.Mem.keeps c.args.mem.now s) (sym w.mem-is) c.loop-part.invariant.memory;
        at = omega (arith, w.at-is, c.loop-part.invariant.at, count);
        len = ap length w.bytes-is ∙ c.loop-part.invariant.len;
        reads = λ m told. readable_skip m c.args.parts.now c.loop-part.part-index none (take c.loop-part.at c.loop-part.bytes) c.loop-part-test.true w.if-not-part.false (c.loop-part.invariant.reads m told) ∙ ap Ok (sym (λ i. take (w.at-is i) (w.bytes-is i)));
      })
]
