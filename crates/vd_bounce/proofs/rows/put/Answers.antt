use Rattle.std.proofs.Common.{◌≡◌, ◌+◌, ◌-◌, ◌/◌, ◌%◌, ◌≤◌, length, take, drop, Some, arith, ap, subst, ◌∙◌, if◌then◌else◌}
use Rattle.std.specs.List.{slice_index}
use Rattle.std.proofs.lemmas.Grind.{common_steps}
use Rattle.std.proofs.lemmas.List.{length-take, length-drop}
use Rattle.vd_num.specs.Number.{is_within}
use Rattle.vd_pool.specs.Memory.{Writes}
use Rattle.vd_bounce.specs.Frames.{frame_of}
use Rattle.vd_bounce.proofs.Kept.{keeps_more, wrote_kept}
use Rattle.vd_bounce.proofs.Pages.{one_more, index_small}
use Rattle.vd_bounce.proofs.Wrote.{wrote_bytes}
use Rattle.vd_bounce.proofs.rows.put.Goals as goal

pub loop-done-preserved : goal.loop-done-preserved
loop-done-preserved c =
    let frames = c.args.frames.now in
    let size = c.args.size in
    let at = c.args.at + c.loop-done.done in
    let n = c.min-n.result in
    let text = take n (drop c.loop-done.done c.args.bytes.now) in
    let holds = c.loop-done.invariant.kept.holds in
    let rest : c.loop-done.done + n - c.loop-done.done ≡ n = omega arith in
    let wrote : Writes c.in-Some.frame (at % size) text c.loop-done.pool c.write.new.self =
    subst (λ f. Writes c.in-Some.frame f text c.loop-done.pool c.write.new.self) c.offset_in-from.ensures
    (subst (λ k. Writes c.in-Some.frame c.offset_in-from.result (take k (drop c.loop-done.done c.args.bytes.now)) c.loop-done.pool c.write.new.self) rest c.write.ensures) in
    let here : frame_of frames (at / size) ≡ Some c.in-Some.frame = grind (arith, common_steps) in
    let small = index_small size at c.requires.some in
    let fits : at % size + length text ≤ size = simp (length-take, length-drop) (omega arith) in
    let within : c.loop-done.done + n ≤ length c.args.bytes.now = omega arith in
    record {
      within = omega arith;
      spare = wrote.spare ∙ c.loop-done.invariant.spare;
      kept = keeps_more c.loop-done.invariant.kept (wrote_kept (at / size) c.in-Some.frame (at % size) text holds here wrote);
      bytes = λ a.
          wrote_bytes size frames c.loop-done.pool c.write.new.self at c.in-Some.frame text c.requires.some holds here fits wrote a
          ∙ ap (λ old. if is_within at (length text) a then slice_index text (a - at) else old) (c.loop-done.invariant.bytes a)
          ∙ one_more c.args.at c.loop-done.done n c.args.bytes.now _ a within;
    }
