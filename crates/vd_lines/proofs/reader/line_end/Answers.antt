use Rattle.std.proofs.Common.{◌≡◌, ◌≢◌, ℕ, ◌<◌, List, Option, None, Some, length, arith, eq-eqb, eqb-true}
use Rattle.std.specs.Prelude.{MatchOption, slice_index}
use Rattle.memchr.specs.Find.{IsFirstByte, is_byte}
use Rattle.vd_lines.specs.Ahead.{IsOneLine}
use Rattle.vd_lines.proofs.reader.line_end.Goals as goal

first_lf : (bytes : List ℕ) (r : Option ℕ) → IsFirstByte (is_byte 10) bytes r
    → MatchOption r (IsOneLine bytes) (λ i. (i < length bytes) × (slice_index bytes i ≡ 10) × ((k : ℕ) → k < i → slice_index bytes k ≢ 10))
first_lf bytes None h = λ k below is. h k (omega arith) below (eq-eqb (slice_index bytes k) 10 is)
first_lf bytes (Some i) h = (h.0.high, eqb-true (slice_index bytes i) 10 h.1, λ k below is. h.0.before k (omega arith) below (eq-eqb (slice_index bytes k) 10 is))

pub returns : goal.returns
returns c = first_lf c.args.bytes.now c.memchr.result c.memchr.ensures
