use Rattle.std.proofs.Common.{◌∙◌, arith}
use Rattle.vd_model.specs.Fields.{digits_from}
use Rattle.vd_digits.proofs.ReadDigits.{passes_end, is_read}
use Rattle.vd_digits.proofs.numbers.number_of_digits.Goals as goal

pub returns-in_err-shifted : goal.returns-in_err-shifted
returns-in_err-shifted c =
    c.from_residual.ensures
    ∙ passes_end c.args.radix c.loop-byte.number c.loop-byte.byte-index c.from-digit.result c.args.digits.now (digits_from c.args.radix 0 c.args.digits.now)
    c.loop-byte-test.true (omega arith) (c.from-digit.ensures ∙ c.digit_of.ensures) (omega arith) (λ h. c.in_err-shifted.ensures (omega arith)) c.loop-byte.invariant.1

pub returns-in_err-number : goal.returns-in_err-number
returns-in_err-number c =
    c.from_residual-in_err-number.ensures
    ∙ passes_end c.args.radix c.loop-byte.number c.loop-byte.byte-index c.from-digit.result c.args.digits.now (digits_from c.args.radix 0 c.args.digits.now)
    c.loop-byte-test.true (omega arith) (c.from-digit.ensures ∙ c.digit_of.ensures) (omega arith) (λ h. c.in_err-number.ensures (omega arith)) c.loop-byte.invariant.1

pub returns : goal.returns
returns c = is_read c.args.radix c.loop-byte.number c.loop-byte.byte-index c.args.digits.now (digits_from c.args.radix 0 c.args.digits.now) c.loop-byte-test.false c.loop-byte.invariant.0 c.loop-byte.invariant.1
