use Rattle.std.proofs.Common.{◌*◌, ◌<◌, ◌≤◌, ◌^◌, ap, subst, sym, ◌∙◌}
use Rattle.std.specs.Prelude.{bit_and}
use Rattle.std.specs.Int.{bit_not, w64}
use Rattle.vd_iova.proofs.Tops.{none_clear, top_clear_is}
use Rattle.vd_iova.proofs.word.top_clear.Goals as goal

pub returns-then-clear-eq0 : goal.returns-then-clear-eq0
returns-then-clear-eq0 c =
    none_clear c.args.word c.args.«end» c.ranges.word.fits c.requires (ap (λ k. bit_and (bit_not w64 c.args.word) k) (sym c.mask.ensures) ∙ c.if-clear-eq0.true)

pub returns : goal.returns
returns c =
    top_clear_is c.args.word c.args.«end» c.ilog2.result c.ranges.word.fits c.requires
    (subst (λ k. 2 ^ c.ilog2.result ≤ bit_and (bit_not w64 c.args.word) k) c.mask.ensures c.ilog2.ensures.power_le)
    (subst (λ k. bit_and (bit_not w64 c.args.word) k < 2 * 2 ^ c.ilog2.result) c.mask.ensures c.ilog2.ensures.next_power_gt)
