use Rattle.std.proofs.Common.{◌+◌, ◌*◌, ◌/◌, ◌%◌, ap, ◌∙◌, if◌then◌else◌}
use Rattle.vd_num.specs.Number.{is_within}
use Rattle.vd_iova.proofs.Summaries.{takes_whole}
use Rattle.vd_iova.proofs.large.take_found.Goals as goal

pub returns-clause-takes : goal.returns-clause-takes
returns-clause-takes g c =
    takes_whole c.args.words.now c.args.full.now c.take_rest-more.new.words c.mark.new.words c.args.at c.args.n c.take_rest-more.result c.requires.summary c.requires.some c.requires.inside c.requires.clear
    (λ p. c.take_rest-more.ensures.bits p ∙ ap (λ x. if is_within (64 * (c.args.at + c.args.n / 64)) (c.args.n % 64) p then 1 else x) (c.fill.ensures.bits p))
    (c.take_rest-more.ensures.len ∙ c.fill.ensures.len) c.mark.ensures.len c.mark.ensures.bits
    c.take_rest-more.ensures.most c.take_rest-more.ensures.some c.take_rest-more.ensures.full c.take_rest-more.ensures.open
