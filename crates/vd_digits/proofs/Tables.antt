-- The tables of digits, held against the definitions at each of the 256 bytes, by computing.
use Rattle.std.proofs.Common.{◌≡◌, ℕ, ◌+◌, ◌*◌, ◌/◌, ◌%◌, ◌<◌, ◌≤◌, Bool, true, false, ◌&&◌, eqb, leb, get_or, Option, Some, None, Result, Ok, Err, refl, sym, arith}
use Rattle.std.specs.Prelude.{MatchOption}
use Rattle.std.specs.Result.{result_ok}
use Rattle.std.proofs.lemmas.Bool.{agree_below_at, and_parts, eqb-true, leb-true}
use Rattle.hex.specs.Hex.{hex_digit_value, digit_or_error, pair_value, lower_digits, ◌>>=◌}
use Rattle.hex.specs.declared.error.FromHexError.{FromHexError}
use Rattle.vd_model.specs.Fields.{digit}
use Rattle.std.specs.Fmt.{digit_glyph}
use Rattle.vd_digits.specs.declared.encoding.TheConstants.{DIGIT_PAIRS}
use Rattle.vd_digits.specs.declared.numbers.TheConstants.{DIGIT_VALUES}
use Rattle.vd_digits.specs.declared.decoding.TheConstants.{HEX_DIGIT_VALUES}

pub digit_at : (b : ℕ) → b < 256 → get_or DIGIT_VALUES b 0 ≡ digit b
digit_at b lt = eqb-true _ _ (agree_below_at (λ c. eqb (get_or DIGIT_VALUES c 0) (digit c)) (λ c. true) 256 b refl lt)

-- t is the digit's value, or 99 where there is none
abbrev pub Says : Option ℕ → ℕ → Type 0
Says o t = MatchOption o (t ≡ 99) (λ v. (t ≡ v) × (v ≤ 15))

abbrev says : Option ℕ → ℕ → Bool
says None t = eqb t 99
says (Some v) t = eqb t v && leb v 15

says-true : (o : Option ℕ) (t : ℕ) → says o t ≡ true → Says o t
says-true None t e = eqb-true t 99 e
says-true (Some v) t e =
    let parts = and_parts (eqb t v) (leb v 15) e in
    (eqb-true t v parts.0, leb-true v 15 parts.1)

pub hex_digit_at : (b : ℕ) → b < 256 → Says (hex_digit_value b) (get_or HEX_DIGIT_VALUES b 0)
hex_digit_at b lt = says-true _ _ (agree_below_at (λ c. says (hex_digit_value c) (get_or HEX_DIGIT_VALUES c 0)) (λ c. true) 256 b refl lt)

pub at_most_99 : (o : Option ℕ) (t : ℕ) → Says o t → t ≤ 99
at_most_99 None t h = omega arith
at_most_99 (Some v) t h = let e = h.0 in let small = h.1 in omega arith

-- one of two that are digits
pub is_digit : (o : Option ℕ) (t other : ℕ) → Says o t → t + other ≤ 30 → t ≤ 15
is_digit None t other h small = absurd (omega arith)
is_digit (Some v) t other h small = let e = h.0 in let below = h.1 in omega arith

-- the byte of two digits, by their values
abbrev pub pair_with : ℕ → ℕ → ℕ → Option ℕ → Option ℕ → Result ℕ FromHexError
pair_with high low i h l = digit_or_error high i h >>= (λ x. digit_or_error low (i + 1) l >>= (λ y. Ok (x * 16 + y)))

both : (high low i s t : ℕ) (h l : Option ℕ) → Says h s → Says l t → s + t ≤ 30 → result_ok (pair_with high low i h l) ≡ Some (s * 16 + t)
both high low i s t None l a b small = absurd (omega arith)
both high low i s t (Some v) None a b small = absurd (omega arith)
both high low i s t (Some v) (Some w) a b small = rw (a.0, b.0) refl

not_both : (high low i s t : ℕ) (h l : Option ℕ) → Says h s → Says l t → 30 < s + t → result_ok (pair_with high low i h l) ≡ None
not_both high low i s t None l a b large = refl
not_both high low i s t (Some v) None a b large = refl
not_both high low i s t (Some v) (Some w) a b large =
    let e = a.0 in let f = b.0 in let v_small = a.1 in let w_small = b.1 in
    absurd (omega arith)

pub pair_is : (high low i s t : ℕ) → Says (hex_digit_value high) s → Says (hex_digit_value low) t → s + t ≤ 30 → Some (s * 16 + t) ≡ result_ok (pair_value high low i)
pair_is high low i s t a b small = sym (both high low i s t (hex_digit_value high) (hex_digit_value low) a b small)

pub no_pair : (high low i s t : ℕ) → Says (hex_digit_value high) s → Says (hex_digit_value low) t → 30 < s + t → None ≡ result_ok (pair_value high low i)
no_pair high low i s t a b large = sym (not_both high low i s t (hex_digit_value high) (hex_digit_value low) a b large)

-- a result by its value
pub ok_is : {A : Type 0} (r : Result A FromHexError) (v : A) → Some v ≡ result_ok r → r ≡ Ok v
ok_is (Ok x) v e = cc
ok_is (Err x) v e = absurd cc

pub err_is : {A : Type 0} (r : Result A FromHexError) → None ≡ result_ok r → (e : FromHexError) × (r ≡ Err e)
err_is (Ok x) e = absurd cc
err_is (Err x) e = (x, refl)

-- the two digits of a byte, and of a digit alone
pub high_at : (b : ℕ) → b < 256 → get_or DIGIT_PAIRS.now (2 * b) 0 ≡ get_or lower_digits (b / 16) 0
high_at b lt = eqb-true _ _ (agree_below_at (λ c. eqb (get_or DIGIT_PAIRS.now (2 * c) 0) (get_or lower_digits (c / 16) 0)) (λ c. true) 256 b refl lt)

pub low_at : (b : ℕ) → b < 256 → get_or DIGIT_PAIRS.now (2 * b + 1) 0 ≡ get_or lower_digits (b % 16) 0
low_at b lt = eqb-true _ _ (agree_below_at (λ c. eqb (get_or DIGIT_PAIRS.now (2 * c + 1) 0) (get_or lower_digits (c % 16) 0)) (λ c. true) 256 b refl lt)

pub glyph_at : (d : ℕ) → d < 16 → get_or DIGIT_PAIRS.now (2 * d + 1) 0 ≡ digit_glyph false d
glyph_at d lt = eqb-true _ _ (agree_below_at (λ c. eqb (get_or DIGIT_PAIRS.now (2 * c + 1) 0) (digit_glyph false c)) (λ c. true) 16 d refl lt)
