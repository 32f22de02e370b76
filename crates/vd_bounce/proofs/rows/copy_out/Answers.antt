use Rattle.std.proofs.Common.{◌≡◌, ◌+◌, ◌-◌, ◌*◌, Some, true, arith, sym, ◌∙◌}
use Rattle.std.proofs.lemmas.Grind.{common_steps}
use Rattle.vd_num.specs.Number.{is_within}
use Rattle.vd_pool.specs.Memory.{byte_of}
use Rattle.vd_bounce.specs.Frames.{frame_of, frame_byte}
use Rattle.vd_bounce.proofs.Pages.{within_low, within_high, by_test}
use Rattle.vd_bounce.proofs.Wrote.{byte_in}
use Rattle.vd_bounce.proofs.rows.copy_out.Goals as goal

pub returns : goal.returns
returns c = λ o.
    let start = c.args.from + c.args.size * c.args.page in
    let here : frame_of c.args.frames.now c.args.page ≡ Some c.in-Some.frame = grind (arith, common_steps) in
    let same : is_within start c.args.size o ≡ true → byte_of c.args.pool.now c.in-Some.frame (0 + (o - start)) ≡ frame_byte c.args.size c.args.frames.now c.args.pool.now (o - c.args.from) =
    λ e. (let low = within_low start c.args.size o e in
    let high = within_high start c.args.size o e in
    sym (byte_in c.args.size c.args.frames.now c.args.pool.now c.args.page c.in-Some.frame (o - c.args.from) (0 + (o - start)) c.requires.some (omega arith) (omega arith) here (omega arith))) in
    c.read_part.ensures o ∙ by_test (is_within start c.args.size o) _ _ _ same
