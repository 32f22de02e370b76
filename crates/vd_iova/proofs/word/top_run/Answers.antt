use Rattle.std.proofs.Common.{arith, sym, ◌∙◌, true≢false}
use Rattle.vd_iova.proofs.Tops.{none_at_all, none_from, step_fits, top_in_word}
use Rattle.vd_iova.proofs.word.top_run.Goals as goal

pub are_clear-requires-clause-fits : goal.are_clear-requires-clause-fits
are_clear-requires-clause-fits c =
    step_fits c.args.word c.args.step c.args.n c.loop-top.«end» c.requires.some c.requires.fits c.loop-top.invariant.above c.in-Some.top c.in-Some.ensures c.requires.whole.0 c.requires.whole.1 c.loop-top.invariant.most

pub returns-then-are_clear : goal.returns-then-are_clear
returns-then-are_clear c =
    top_in_word c.args.word c.args.step c.args.n c.loop-top.«end» c.requires.some c.requires.fits c.loop-top.invariant.above c.in-Some.top c.in-Some.ensures c.requires.whole.0 c.requires.whole.1 c.loop-top.invariant.most
    (c.are_clear.ensures.0 c.if-are_clear.true)

pub loop-top-preserved : goal.loop-top-preserved
loop-top-preserved c =
    let below = c.in-Some.ensures.below in
    let most = c.loop-top.invariant.most in
    record {
      most = omega arith;
      above = none_from c.args.word c.args.step c.args.n c.loop-top.«end» c.requires.some c.requires.fits c.loop-top.invariant.above c.in-Some.top c.in-Some.ensures
          (λ clear. true≢false (sym (c.are_clear.ensures.1 clear) ∙ c.if-are_clear.false));
    }

pub returns : goal.returns
returns c = none_at_all c.args.word c.args.step c.args.n c.loop-top.«end» c.requires.some c.requires.fits c.loop-top.invariant.above c.in_default.ensures
