use Rattle.std.proofs.Common.{◌≡◌, ◌+◌, ◌*◌, ◌<◌, ap, sym, ◌∙◌, arith, length, if◌then◌else◌, subst}
use Rattle.std.specs.Int.{bit_at}
use Rattle.vd_num.specs.Number.{is_within}
use Rattle.vd_iova.specs.Bits.{bit, IsFullWord}
use Rattle.vd_iova.proofs.Summaries.{put_bits, full_word, open_word}
use Rattle.vd_iova.proofs.large.take_rest.Goals as goal

pub returns-then-word-clause-bits : goal.returns-then-word-clause-bits
returns-then-word-clause-bits g c = λ p.
    let inside : c.args.at < length c.args.words.now = omega arith in
    let start : 64 * c.args.at + 0 ≡ 64 * c.args.at = omega arith in
    ap (λ l. bit l p) c.put.ensures
    ∙ put_bits c.args.words.now c.args.at 0 c.args.rest c.with_bits-word.result inside (omega arith) (omega arith)
    (λ i. c.with_bits-word.ensures i ∙ ap (λ w. if is_within 0 c.args.rest i then 1 else bit_at w i) c.look-old.ensures.word) p
    ∙ ap (λ s. if is_within s c.args.rest p then 1 else bit c.args.words.now p) start

pub returns-then-word-clause-full : goal.returns-then-word-clause-full
returns-then-word-clause-full g c = λ one.
    let inside : c.args.at < length c.args.words.now = omega arith in
    subst (λ l. IsFullWord l c.args.at) (sym c.put.ensures) (full_word c.args.words.now c.args.at c.with_bits-word.result inside c.if-word.true)

pub returns-else-word-clause-bits : goal.returns-else-word-clause-bits
returns-else-word-clause-bits g c = λ p.
    let inside : c.args.at < length c.args.words.now = omega arith in
    let start : 64 * c.args.at + 0 ≡ 64 * c.args.at = omega arith in
    ap (λ l. bit l p) c.put.ensures
    ∙ put_bits c.args.words.now c.args.at 0 c.args.rest c.with_bits-word.result inside (omega arith) (omega arith)
    (λ i. c.with_bits-word.ensures i ∙ ap (λ w. if is_within 0 c.args.rest i then 1 else bit_at w i) c.look-old.ensures.word) p
    ∙ ap (λ s. if is_within s c.args.rest p then 1 else bit c.args.words.now p) start

pub returns-else-word-clause-open : goal.returns-else-word-clause-open
returns-else-word-clause-open g c = λ none some ones.
    let inside : c.args.at < length c.args.words.now = omega arith in
    open_word c.args.words.now c.args.at c.with_bits-word.result inside c.with_bits-word.type_inv c.if-word.false (subst (λ l. IsFullWord l c.args.at) c.put.ensures ones)
