use Rattle.std.proofs.Common.{◌*◌, length, arith, subst}
use Rattle.vd_iova.specs.Bits.{IsTopInWord}
use Rattle.vd_iova.proofs.Runs.{top_of_word}
use Rattle.vd_iova.proofs.small.take.Goals as goal

pub returns-clause-run : goal.returns-clause-run
returns-clause-run g c =
    let found = c.in_ok-found.ensures.run in
    let inside = found.inside in (
      top_of_word c.args.words.now c.args.step c.args.n c.requires.whole.0 c.in_ok-found.found.at c.requires.search.fits c.requires.whole.1 c.in_ok-found.found.lo (64 * length c.args.words.now) inside (omega arith)
          (subst (λ w. IsTopInWord w c.args.step c.args.n c.in_ok-found.found.lo) found.word_is found.run) c.requires.search.some found.top,
      c.take_found.ensures,
    )
