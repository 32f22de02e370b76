use Rattle.std.proofs.Common.{◌+◌, ◌*◌, ◌/◌, ◌%◌, ap, sym, subst, refl, ◌∙◌, if◌then◌else◌}
use Rattle.std.specs.Int.{bit_at}
use Rattle.std.specs.List.{slice_set}
use Rattle.vd_num.specs.Number.{is_within}
use Rattle.vd_iova.specs.Bits.{Takes}
use Rattle.vd_iova.proofs.Runs.{bit_in}
use Rattle.vd_iova.proofs.Summaries.{takes_full, takes_open}
use Rattle.vd_iova.proofs.small.take_found.Goals as goal

pub returns-then-word : goal.returns-then-word
returns-then-word c =
    let start = 64 * c.args.found.at + c.args.found.lo in
    subst (λ l. Takes start c.args.n c.args.words.now c.args.full.now c.put.new.self l) (sym c.put-then-word.ensures)
    (subst (λ l. Takes start c.args.n c.args.words.now c.args.full.now l (slice_set c.args.full.now (c.args.found.at / 64) c.with_bits.result)) (sym c.put.ensures)
    (takes_full c.args.words.now c.args.full.now c.args.found.at c.args.found.lo c.args.n c.with_bits-word.result c.requires.summary c.requires.inside c.requires.fits c.requires.some
    (λ i. c.with_bits-word.ensures i ∙ ap (λ w. if is_within c.args.found.lo c.args.n i then 1 else bit_at w i) c.requires.word)
    c.with_bits.result c.if-word.true
    (λ i. c.with_bits.ensures i ∙ ap (λ w. if is_within (c.args.found.at % 64) 1 i then 1 else bit_at w i) c.requires.sum)))

pub returns-else-word : goal.returns-else-word
returns-else-word c =
    subst (λ l. Takes (64 * c.args.found.at + c.args.found.lo) c.args.n c.args.words.now c.args.full.now l c.args.full.now) (sym c.put.ensures)
    (takes_open c.args.words.now c.args.full.now c.args.found.at c.args.found.lo c.args.n c.with_bits-word.result c.requires.summary c.requires.inside c.requires.fits c.requires.some
    (λ i. c.with_bits-word.ensures i ∙ ap (λ w. if is_within c.args.found.lo c.args.n i then 1 else bit_at w i) c.requires.word)
    c.with_bits-word.type_inv c.if-word.false
    (bit_in c.args.full.now c.args.found.at (c.args.found.at / 64) refl ∙ ap (λ w. bit_at w (c.args.found.at % 64)) (sym c.requires.sum) ∙ c.requires.clear))
