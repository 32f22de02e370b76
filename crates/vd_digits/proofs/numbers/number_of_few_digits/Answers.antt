use Rattle.std.proofs.Common.{◌∙◌, length, arith}
use Rattle.vd_model.specs.Fields.{digits_from}
use Rattle.vd_digits.proofs.FewDigits.{one_more_below, fits}
use Rattle.vd_digits.proofs.ReadDigits.{goes_on, is_read}
use Rattle.vd_digits.proofs.numbers.number_of_few_digits.Goals as goal

pub overflow_mul-shifted : goal.overflow_mul-shifted
overflow_mul-shifted c =
    let h = fits c.args.radix c.loop-byte.number c.loop-byte.byte-index c.from-digit.result (length c.args.digits.now)
    (omega arith) (omega arith) (omega arith) c.loop-byte-test.true c.loop-byte.invariant.0 (omega arith) in
    omega (arith, h)

pub overflow_add-number : goal.overflow_add-number
overflow_add-number c =
    let h = fits c.args.radix c.loop-byte.number c.loop-byte.byte-index c.from-digit.result (length c.args.digits.now)
    (omega arith) (omega arith) (omega arith) c.loop-byte-test.true c.loop-byte.invariant.0 (omega arith) in
    omega (arith, h)

pub loop-byte-preserved : goal.loop-byte-preserved
loop-byte-preserved c = (
  one_more_below c.args.radix c.loop-byte.number c.loop-byte.byte-index c.from-digit.result c.loop-byte.invariant.0 (omega arith),
  fits c.args.radix c.loop-byte.number c.loop-byte.byte-index c.from-digit.result (length c.args.digits.now)
      (omega arith) (omega arith) (omega arith) c.loop-byte-test.true c.loop-byte.invariant.0 (omega arith),
  goes_on c.args.radix c.loop-byte.number c.loop-byte.byte-index c.from-digit.result c.args.digits.now (digits_from c.args.radix 0 c.args.digits.now)
      c.loop-byte-test.true (c.from-digit.ensures ∙ c.digit_of.ensures) (omega arith) c.loop-byte.invariant.2,
)

pub returns : goal.returns
returns c = is_read c.args.radix c.loop-byte.number c.loop-byte.byte-index c.args.digits.now (digits_from c.args.radix 0 c.args.digits.now) c.loop-byte-test.false c.loop-byte.invariant.1 c.loop-byte.invariant.2
