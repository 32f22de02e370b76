use Rattle.std.proofs.Common.{◌/◌, ap, ◌∙◌, if◌then◌else◌}
use Rattle.vd_num.specs.Number.{is_within}
use Rattle.vd_iova.specs.Bits.{bit}
use Rattle.vd_iova.proofs.Summaries.{gives_run}
use Rattle.vd_iova.proofs.iova.unmark_run.Goals as goal

pub returns-clause-summary : goal.returns-clause-summary
returns-clause-summary g c =
    gives_run c.args.words.now c.args.full.now c.unmark.new.words c.unmark-2.new.words c.args.start c.args.n c.requires.summary c.requires.some
    c.unmark.ensures.bits c.unmark.ensures.len c.unmark-2.ensures.len
    (λ w. c.unmark-2.ensures.bits w ∙ ap (λ k. if is_within (c.args.start / 64) k w then 0 else bit c.args.full.now w) c.words_for.ensures)
