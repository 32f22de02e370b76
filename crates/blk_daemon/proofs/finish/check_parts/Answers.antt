use Rattle.std.proofs.Common.{◌+◌, false, get_or, drop, Result, Err, sym, ap, subst, ◌∙◌}
use Rattle.std.proofs.lemmas.Result.{err_from_is_err_and}
use Rattle.vd_num.specs.declared.number.Bus.{Bus}
use Rattle.vd_model.specs.declared.parts.Part.{Part}
use Rattle.vr_split.specs.Mem.{IsUnchanged}
use Rattle.blk_daemon.specs.Finished.{first_unwritable}
use Rattle.blk_daemon.specs.Parts.{AreThere}
use Rattle.blk_daemon.proofs.SpreadLemmas.{drop_next, part_there, part_missing, part_read}
use Rattle.blk_daemon.proofs.finish.check_parts.Goals as goal
use Rattle.blk_daemon.proofs.finish.check_parts.Goals.{then-part+in_ok-check_part, else-part}

none : Part
none = record { at = 0; len = 0; writable = false }

pub returns-in_err-check_part-clause-there : goal.returns-in_err-check_part-clause-there
unfolding none
returns-in_err-check_part-clause-there g c m told =
    let p = err_from_is_err_and c.from_residual.result c.from_residual.ensures.1 in
    let here = get_or c.args.parts.now c.loop-part.part-index none in
    let next = c.loop-part.invariant.rest m told ∙ ap (first_unwritable m) (drop_next c.args.parts.now c.loop-part.part-index none c.loop-part-test.true) in
    let fails = c.in_err-check_part.ensures.there m (c.loop-part.invariant.memory.same_told ∙ told) in
    subst (λ (r : Result (Unit {0}) Bus). AreThere m c.args.parts.now r) (sym (p.1 ∙ ap Err p.2))
    (next ∙ part_missing m here (drop (c.loop-part.part-index + 1) c.args.parts.now) c.in_err-check_part.field-0.0.at c.if-part.true fails)

pub loop-part-preserved : goal.loop-part-preserved
unfolding none
loop-part-preserved g c = elim c.if-part.branch [
  | then-part+in_ok-check_part w ↦ record {
    memory = record {
      same_told = ap g.M.Mem.told w.mem-is ∙ w.in_ok-check_part.ensures.memory.same_told ∙ c.loop-part.invariant.memory.same_told;
      same_span = ap g.M.Mem.span w.mem-is ∙ w.in_ok-check_part.ensures.memory.same_span ∙ c.loop-part.invariant.memory.same_span;
      kept = subst (g.M.Mem.keeps c.args.mem.now) (sym w.mem-is) (g.met.M.Mem.keeps_trans _ _ _ c.loop-part.invariant.memory.kept w.in_ok-check_part.ensures.memory.kept);
    };
    rest = λ m told.
        let here = get_or c.args.parts.now c.loop-part.part-index none in
        c.loop-part.invariant.rest m told ∙ ap (first_unwritable m) (drop_next c.args.parts.now c.loop-part.part-index none c.loop-part-test.true)
        ∙ part_there m here (drop (c.loop-part.part-index + 1) c.args.parts.now) w.if-part.true (w.in_ok-check_part.ensures.there m (c.loop-part.invariant.memory.same_told ∙ told));
  }
  | else-part w ↦ record {
    memory = subst (λ s. IsUnchanged g.M.Mem.told g.M.Mem.span g.M.Mem.keeps c.args.mem.now s) (sym w.mem-is) c.loop-part.invariant.memory;
    rest = λ m told.
        let here = get_or c.args.parts.now c.loop-part.part-index none in
        c.loop-part.invariant.rest m told ∙ ap (first_unwritable m) (drop_next c.args.parts.now c.loop-part.part-index none c.loop-part-test.true)
        ∙ part_read m here (drop (c.loop-part.part-index + 1) c.args.parts.now) w.if-part.false;
  }
]
