use Rattle.std.proofs.Common.{◌+◌, ◌*◌, ◌/◌, ◌%◌, inl, inr, arith, ap, sym, ◌∙◌}
use Rattle.std.proofs.lemmas.Bool.Decides.{leb_tells}
use Rattle.std.specs.Int.{bit_at}
use Rattle.vd_iova.proofs.Runs.{bit_in, bit_of}
use Rattle.vd_iova.proofs.row.run_clear.Goals as goal

pub returns-clause-clear : goal.returns-clause-clear
returns-clause-clear g c =
    let words = c.args.words.now in
    let last = c.args.at + c.args.n / 64 in
    let read = c.look-word.ensures.word in (
      (λ t p low high. elim (leb_tells (64 * (c.args.at + c.args.n / 64)) p) [
        | inl here ↦
            (let x = here.1 in
            bit_in words p (c.args.at + c.args.n / 64) (omega arith) ∙ ap (λ w. bit_at w (p % 64)) (sym read) ∙ c.are_clear.ensures.0 t (p % 64) (omega arith) (omega arith))
        | inr below ↦ (let x = below.1 in c.words_clear.ensures.clear.0 c.if-not-words_clear.false p low (omega arith))
      ]),
      λ clear. c.are_clear.ensures.1 (λ i low high.
          ap (λ w. bit_at w i) read ∙ sym (bit_of words (c.args.at + c.args.n / 64) i (omega arith)) ∙ clear (64 * (c.args.at + c.args.n / 64) + i) (omega arith) (omega arith)),
    )
