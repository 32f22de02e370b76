use Rattle.std.proofs.Common.{◌≡◌, ◌+◌, ◌-◌, ◌/◌, ◌%◌, inl, inr, Some, arith, ap, sym, ◌∙◌, if◌then◌else◌}
use Rattle.std.proofs.lemmas.Bool.Decides.{leb_tells}
use Rattle.std.specs.List.{slice_index}
use Rattle.std.proofs.lemmas.Grind.{common_steps}
use Rattle.vd_num.specs.Number.{is_within}
use Rattle.vd_pool.specs.Memory.{byte_of}
use Rattle.vd_bounce.specs.Frames.{frame_of}
use Rattle.vd_bounce.proofs.Pages.{split, index_small, within_true, within_false}
use Rattle.vd_bounce.proofs.Wrote.{byte_in}
use Rattle.vd_bounce.proofs.rows.get.Goals as goal

pub loop-done-preserved : goal.loop-done-preserved
loop-done-preserved c =
    let size = c.args.size in
    let at = c.args.at + c.loop-done.done in
    let page = at / size in
    let n = c.min-n.result in
    let here : frame_of c.args.frames.now (at / size) ≡ Some c.in-Some.frame = grind (arith, common_steps) in
    let whole = split size at c.requires.some in
    let small = index_small size at c.requires.some in
    let test = c.loop-done-test.true in (
      omega arith,
      λ i below. c.read_part.ensures i
          ∙ ap (λ f. if is_within c.loop-done.done n i then byte_of c.args.pool.now c.in-Some.frame (f + (i - c.loop-done.done)) else slice_index c.loop-done.out i) c.offset_in-from.ensures
          ∙ elim (leb_tells c.loop-done.done i) [
            | inl now ↦
                (let low = now.1 in
                ap (λ b. if b then byte_of c.args.pool.now c.in-Some.frame (at % size + (i - c.loop-done.done)) else slice_index c.loop-done.out i) (within_true c.loop-done.done n i low below)
                ∙ sym (byte_in size c.args.frames.now c.args.pool.now (at / size) c.in-Some.frame (c.args.at + i) (at % size + (i - c.loop-done.done)) c.requires.some (omega arith) (omega arith) here (omega arith)))
            | inr before ↦
                ap (λ b. if b then byte_of c.args.pool.now c.in-Some.frame (at % size + (i - c.loop-done.done)) else slice_index c.loop-done.out i) (within_false c.loop-done.done n i (inl before.1))
                ∙ c.loop-done.invariant.1 i before.1
          ],
    )
