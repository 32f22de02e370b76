use Rattle.std.proofs.Common.{◌+◌, ◌/◌, ◌%◌, ◌<◌, ◌≤◌, length, length-set, arith, ap, ◌∙◌, if◌then◌else◌}
use Rattle.std.specs.Int.{bit_at}
use Rattle.vd_num.specs.Number.{is_within}
use Rattle.vd_iova.specs.Bits.{bit}
use Rattle.vd_iova.proofs.Pieces.{written, one_more}
use Rattle.vd_iova.proofs.row.unmark.Goals as goal

pub loop-done-preserved : goal.loop-done-preserved
loop-done-preserved g c =
    let at = c.args.start + c.loop-done.done in
    let count = c.min-count.result in
    let len = c.loop-done.invariant.len in
    let inside : at / 64 < length c.loop-done.words = omega arith in
    let fits : at % 64 + count ≤ 64 = omega arith in
    let read = c.look-word.ensures.word in
    let steps = c.look-word.ensures.cost in
    record {
      within = omega arith;
      len = ap length c.put.ensures ∙ length-set c.loop-done.words (at / 64) c.without_bits.result ∙ len;
      bits = λ p. ap (λ l. bit l p) c.put.ensures
          ∙ written c.loop-done.words at count c.without_bits.result 0 inside fits
          (λ i h. c.without_bits.ensures i h ∙ ap (λ word. if is_within (at % 64) count i then 0 else bit_at word i) read) p
          ∙ ap (λ x. if is_within at count p then 0 else x) (c.loop-done.invariant.bits p)
          ∙ one_more c.args.start c.loop-done.done count 0 _ p;
    }
