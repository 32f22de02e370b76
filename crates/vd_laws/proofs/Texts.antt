-- The bytes of a text.
use Rattle.std.proofs.Common.{◌≡◌, ℕ, ◌+◌, ◌-◌, ◌<◌, ◌≤◌, Bool, true, false, refl, ap, ◌∙◌, sym, arith, None, cond, List, ◌&&◌, nat_le, nat_lt, length}
use Rattle.std.specs.List.{slice_get}
use Rattle.std.proofs.lemmas.Bool.{and_parts, ltb-false, leb-true}
use Rattle.std.proofs.lemmas.Option.{slice_get-get_or, slice_get_past}
use Rattle.vd_num.specs.Number.{is_within}
use Rattle.vd_model.specs.Puts.{byte_in}
use Rattle.vd_laws.proofs.Ranges.{is_in}

pub text_there : (bytes : List ℕ) (at i : ℕ) → byte_in bytes at i ≡ None → is_within at (length bytes) i ≡ false
text_there bytes at i e = by (is_within at (length bytes) i) refl where
  by : (b : Bool) → is_within at (length bytes) i ≡ b → is_within at (length bytes) i ≡ false
  by false f = f
  by true f =
      let r = is_in at (length bytes) i f in
      let low : at ≤ i = r.0 in
      let high : i < at + length bytes = r.1 in
      let inside : i - at < length bytes = omega arith in
      let got = slice_get-get_or bytes (i - at) 0 inside in
      let first : nat_le at i ≡ true = (and_parts (nat_le at i) (nat_lt i (at + length bytes)) f).0 in
      let all : cond (nat_le at i) (slice_get bytes (i - at)) None ≡ slice_get bytes (i - at) = ap (λ b. cond b (slice_get bytes (i - at)) None) first in
      cc

pub text_absent : (bytes : List ℕ) (at i : ℕ) → is_within at (length bytes) i ≡ false → byte_in bytes at i ≡ None
text_absent bytes at i e = by (nat_le at i) refl where
  by : (b : Bool) → nat_le at i ≡ b → cond b (slice_get bytes (i - at)) None ≡ None
  by false f = refl
  by true f = slice_get_past bytes (i - at) (let high : nat_lt i (at + length bytes) ≡ false = sym (ap (λ b. b && nat_lt i (at + length bytes)) f) ∙ e in let far = ltb-false i (at + length bytes) high in let low = leb-true at i f in omega arith)
