use Rattle.std.proofs.Common.{◌≡◌, ◌+◌, ◌-◌, ◌*◌, ◌<◌, length, length-set, arith, ap, sym, ◌∙◌, if◌then◌else◌}
use Rattle.vd_num.specs.Number.{is_within}
use Rattle.vd_iova.specs.Bits.{bit}
use Rattle.vd_iova.proofs.Runs.{filled_one}
use Rattle.vd_iova.proofs.Pieces.{one_more}
use Rattle.vd_iova.proofs.row.fill.Goals as goal

pub loop-i-preserved : goal.loop-i-preserved
loop-i-preserved c =
    let i = c.loop-i.i in
    let len = c.loop-i.invariant.len in
    let inside : c.loop-i.i < length c.loop-i.words = omega arith in
    let start : 64 * c.args.at + 64 * (c.loop-i.i - c.args.at) ≡ 64 * c.loop-i.i = omega arith in
    let ends : 64 * (c.loop-i.i - c.args.at) + 64 ≡ 64 * (c.loop-i.i + 1 - c.args.at) = omega arith in
    record {
      len = ap length c.put.ensures ∙ length-set c.loop-i.words i 18446744073709551615 ∙ len;
      bits = λ p. ap (λ l. bit l p) c.put.ensures
          ∙ filled_one c.loop-i.words i inside p
          ∙ ap (λ x. if is_within (64 * i) 64 p then 1 else x) (c.loop-i.invariant.bits p)
          ∙ ap (λ s. if is_within s 64 p then 1 else (if is_within (64 * c.args.at) (64 * (c.loop-i.i - c.args.at)) p then 1 else bit c.args.words.now p)) (sym start)
          ∙ one_more (64 * c.args.at) (64 * (c.loop-i.i - c.args.at)) 64 1 _ p
          ∙ ap (λ n. if is_within (64 * c.args.at) n p then 1 else bit c.args.words.now p) ends;
    }
