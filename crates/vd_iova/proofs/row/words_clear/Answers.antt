use Rattle.std.proofs.Common.{◌+◌, ◌*◌, ◌^◌, ◌<◌, inl, inr, arith, subst, sym, ◌∙◌, true≢false}
use Rattle.std.proofs.lemmas.Bool.Decides.{leb_tells}
use Rattle.vd_iova.proofs.Runs.{word_clear, clear_word}
use Rattle.vd_iova.proofs.row.words_clear.Goals as goal

pub returns-then-word-ne0-clause-clear : goal.returns-then-word-ne0-clause-clear
returns-then-word-ne0-clause-clear g c = (
  (λ f. absurd (true≢false (sym f))),
  λ clear. absurd (c.if-word-ne0.true (c.look-word.ensures.word ∙ clear_word c.args.words.now c.loop-i.i (subst (λ w. w < 2 ^ 64) c.look-word.ensures.word c.look-word.ensures.fits) (λ k h. clear (64 * c.loop-i.i + k) (omega arith) (omega arith)))),
)

pub loop-i-preserved : goal.loop-i-preserved
loop-i-preserved g c =
    let steps = c.look-word.ensures.cost in
    let paid = c.loop-i.invariant.cost in
    record {
      clear = λ p low high. elim (leb_tells (64 * c.loop-i.i) p) [
        | inl here ↦ (let x = here.1 in word_clear c.args.words.now c.loop-i.i p (sym c.look-word.ensures.word ∙ c.if-word-ne0.false) (omega arith))
        | inr below ↦ (let x = below.1 in c.loop-i.invariant.clear p low (omega arith))
      ];
      cost = omega arith;
    }
