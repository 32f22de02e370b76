use Rattle.std.proofs.Common.{◌/◌, sym, subst}
use Rattle.vd_iova.specs.Bits.{IsClear, Takes}
use Rattle.vd_iova.proofs.Powers.{word_start, quotient}
use Rattle.vd_iova.proofs.large.take.Goals as goal

pub take_found-requires-clause-clear : goal.take_found-requires-clause-clear
take_found-requires-clause-clear g c =
    let top = c.in_ok-start.ensures.run.0 in
    let start = c.in_ok-start.start in
    let same = word_start c.args.step c.requires.whole.0 (start / c.args.step) start c.requires.whole.1 (quotient c.args.step start top.multiple) in
    subst (λ s. IsClear c.args.words.now s c.args.n) (sym same) top.clear

pub returns-clause-run : goal.returns-clause-run
returns-clause-run g c =
    let top = c.in_ok-start.ensures.run.0 in
    let start = c.in_ok-start.start in
    let same = word_start c.args.step c.requires.whole.0 (start / c.args.step) start c.requires.whole.1 (quotient c.args.step start top.multiple) in
    (top, subst (λ s. Takes s c.args.n c.args.words.now c.args.full.now c.take_found.new.words c.take_found.new.full) same c.take_found.ensures.takes)
