use Rattle.std.proofs.Common.{◌≡◌, ◌<◌, ◌^◌, drop}
use Rattle.vd_model.specs.Fields.{digits_from}
use Rattle.vd_digits.proofs.numbers.number_of_digits.Given as goal

abbrev pub invariant-loop-byte : goal.invariant-loop-byte
invariant-loop-byte l = (l.number < 2 ^ 64) × (digits_from l.radix l.number (drop l.byte-index l.digits) ≡ digits_from l.radix 0 l.digits)
