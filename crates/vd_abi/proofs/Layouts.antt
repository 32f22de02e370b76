-- What stands in a struct that was laid out: each of its fields, if they stand in ascending order.
use Rattle.std.proofs.Common.{◌≡◌, ◌==◌, ℕ, zero, suc, ◌+◌, ◌-◌, ◌≤◌, ◌&&◌, Bool, true, false, cond, List, [], ◌∷◌, ◌++◌, length, take, drop, get_or, refl, sym, ap, subst, ◌∙◌, arith}
use Rattle.std.specs.Prelude.{⊤, not, fold, replicate, slice_range}
use Rattle.std.specs.List.{list_all, before_first}
use Rattle.std.proofs.lemmas.List.{take-append-drop, drop-drop, drop_at, take-take, drop-take, drop_all, take_all, append-nil, length-append, length-replicate, length-take, length-drop, length-take-le, get_or-drop}
use Rattle.std.proofs.lemmas.Bool.{false≢true}
use Rattle.std.proofs.lemmas.List.Sums.{take_while-cons}
use Rattle.std.proofs.lemmas.Slice.{take-put_mid_below, drop-put_mid}
use Rattle.byteorder.specs.Numbers.{little_number-reads_back, little_from-take, length-bytes_low_first}
use Rattle.byteorder.specs.Endian.{little_number, little_bytes}
use Rattle.vd_model.specs.Raw.{are_zero}
use Rattle.vd_abi.specs.Layout.{StructField, number, text, rest, reserved, offset, size, with_bytes, with_written, laid_out, before_zero, Shows, ShowsEach, Fits, FitsEach}

-- a field that has all bytes from its offset on has those up to this place
abbrev pub Reaches : ℕ → StructField → Type 0
Reaches to (number at n value) = ⊤
Reaches to (text at room chars) = ⊤
Reaches to (rest at bytes) = at + length bytes ≡ to
Reaches to (reserved at n) = ⊤

-- the fields stand in ascending order, none over another, from a place on and up to a place
abbrev pub InOrder : ℕ → ℕ → List StructField → Type 0
InOrder from to [] = from ≤ to
InOrder from to (f ∷ fs) = (from ≤ offset f) × Reaches to f × InOrder (offset f + size f) to fs

in_order_le : (fs : List StructField) (from to : ℕ) → InOrder from to fs → from ≤ to
in_order_le [] from to order = order
in_order_le (f ∷ fs) from to order =
    let later = in_order_le fs (offset f + size f) to order.2 in omega (arith, order.0)

-- each of the bytes is zero
abbrev AreZeros : List ℕ → Type 0
AreZeros xs = (i : ℕ) → get_or xs i 0 ≡ 0

zeros : (n : ℕ) → AreZeros (replicate n 0)
zeros zero i = refl
zeros (suc n) zero = refl
zeros (suc n) (suc i) = zeros n i

zeros-drop : (n : ℕ) (xs : List ℕ) → AreZeros xs → AreZeros (drop n xs)
zeros-drop n xs z i = get_or-drop n xs i 0 ∙ z (n + i)

zeros-take : (n : ℕ) (xs : List ℕ) → AreZeros xs → AreZeros (take n xs)
zeros-take zero xs z i = refl
zeros-take (suc n) [] z i = refl
zeros-take (suc n) (x ∷ xs) z zero = z 0
zeros-take (suc n) (x ∷ xs) z (suc i) = zeros-take n xs (λ k. z (suc k)) i

zeros-pass : (xs : List ℕ) → AreZeros xs → are_zero xs ≡ true
zeros-pass [] z = refl
zeros-pass (x ∷ xs) z =
    ap (λ (y : ℕ). (y == 0) && are_zero xs) (z 0) ∙ zeros-pass xs (λ k. z (suc k))

-- zeros from a place on are zeros from a later one on
zeros-later : (m n : ℕ) (xs : List ℕ) → m ≤ n → AreZeros (drop m xs) → AreZeros (drop n xs)
zeros-later m n xs le z =
    let e : m + (n - m) ≡ n = omega arith in
    subst (λ (k : ℕ). AreZeros (drop k xs)) e (subst AreZeros (drop-drop (n - m) m xs) (zeros-drop (n - m) (drop m xs) z))

both_true : (a b : Bool) → (a && b) ≡ true → (a ≡ true) × (b ≡ true)
both_true true b h = (refl, h)
both_true false b h = (h, absurd (cc))

-- a text with zeros behind it is read as the text
text-read : (chars behind : List ℕ) (m : ℕ) → list_all (λ c. not (c == 0)) chars ≡ true → AreZeros behind → length chars ≤ m → before_first (λ c. c == 0) (take m (chars ++ behind)) ≡ chars
text-read [] behind zero all z le = refl
text-read [] [] (suc m) all z le = refl
text-read [] (x ∷ behind) (suc m) all z le =
    ap (λ (y : ℕ). before_first (λ c. c == 0) (y ∷ take m behind)) (z 0)
text-read (c ∷ chars) behind zero all z le = absurd (omega arith)
text-read (c ∷ chars) behind (suc m) all z le =
    let parts = both_true (not (c == 0)) (list_all (λ d. not (d == 0)) chars) all in
    let others = text-read chars behind m parts.1 z (omega arith) in
    take_while-cons (λ d. not (d == 0)) c (take m (chars ++ behind))
    ∙ ap (λ (b : Bool). cond b (c ∷ before_first (λ d. d == 0) (take m (chars ++ behind))) []) parts.0
    ∙ ap (λ (t : List ℕ). c ∷ t) others

-- the bytes of a field that aren't zeros
written : StructField → List ℕ
written (number at n value) = little_bytes n value
written (text at room chars) = chars
written (rest at bytes) = bytes
written (reserved at n) = []

written-is : (f : StructField) (xs : List ℕ) → with_written xs f ≡ with_bytes xs (offset f) (written f)
unfolding written
written-is (number at n value) xs =
    ap (λ (k : ℕ). take at xs ++ (little_bytes n value ++ drop k (drop at xs))) (sym (length-bytes_low_first 0 n value))
written-is (text at room chars) xs = refl
written-is (rest at bytes) xs = refl
written-is (reserved at n) xs = sym (take-append-drop at xs)

written-le : (f : StructField) → Fits f → length (written f) ≤ size f
unfolding written
written-le (number at n value) fits = let e = length-bytes_low_first 0 n value in omega (arith, e)
written-le (text at room chars) fits = let e = fits.ends in omega arith
written-le (rest at bytes) fits = omega arith
written-le (reserved at n) fits = omega arith

-- the rest of the list from the place on where bytes were put
drop-with_bytes : (xs : List ℕ) (at : ℕ) (bytes : List ℕ) → at ≤ length xs → drop at (with_bytes xs at bytes) ≡ bytes ++ drop (length bytes) (drop at xs)
drop-with_bytes xs at bytes le = drop_at (take at xs) _ at (length-take-le at xs le)

length-with_bytes : (xs : List ℕ) (at : ℕ) (bytes : List ℕ) → at + length bytes ≤ length xs → length (with_bytes xs at bytes) ≡ length xs
length-with_bytes xs at bytes le =
    omega (arith, length-append (take at xs) (bytes ++ drop (length bytes) (drop at xs)), length-append bytes (drop (length bytes) (drop at xs)), length-take at xs, length-drop (length bytes) (drop at xs), length-drop at xs)

-- a part of a list by its length
slice-is : (xs : List ℕ) (at n : ℕ) → slice_range xs at (at + n) ≡ take n (drop at xs)
slice-is xs at n =
    let e : at + n - at ≡ n = omega arith in ap (λ (k : ℕ). take k (drop at xs)) e

-- a field that was written into zeros is read again
shows-written : (f : StructField) (xs : List ℕ) → Fits f → offset f + size f ≤ length xs → Reaches (length xs) f → AreZeros (drop (offset f) xs) → Shows (with_bytes xs (offset f) (written f)) f
unfolding written
shows-written (number at n value) xs fits le reaches z =
    sym
    (ap (little_number n) (drop-with_bytes xs at (little_bytes n value) (omega arith))
    ∙ little_number-reads_back n value _ fits)
shows-written (text at room chars) xs fits le reaches z =
    let behind = drop (length chars) (drop at xs) in
    let W = with_bytes xs at chars in
    let ends = fits.ends in
    sym
    (ap before_zero (slice-is W at (room - 1) ∙ ap (take (room - 1)) (drop-with_bytes xs at chars (omega arith)))
    ∙ text-read chars behind (room - 1) fits.no_zero (zeros-drop (length chars) (drop at xs) z) (omega arith))
shows-written (rest at bytes) xs fits le reaches z =
    let none : drop (length bytes) (drop at xs) ≡ [] = drop_all (length bytes) (drop at xs) (omega (arith, length-drop at xs, reaches)) in
    sym
    (drop-with_bytes xs at bytes (omega arith) ∙ ap (λ (end : List ℕ). bytes ++ end) none ∙ append-nil bytes)
shows-written (reserved at n) xs fits le reaches z =
    let same : drop at (with_bytes xs at []) ≡ drop at xs = drop-with_bytes xs at [] (omega arith) in
    ap are_zero (slice-is (with_bytes xs at []) at n ∙ ap (take n) same)
    ∙ zeros-pass (take n (drop at xs)) (zeros-take n (drop at xs) z)

-- lists with the same front have the same part in it
same_part : (at n : ℕ) (xs ys : List ℕ) → take (at + n) xs ≡ take (at + n) ys → take n (drop at xs) ≡ take n (drop at ys)
same_part at n xs ys e = sym (drop-take at n xs) ∙ ap (drop at) e ∙ drop-take at n ys

same_slice : (at n : ℕ) (xs ys : List ℕ) → take (at + n) xs ≡ take (at + n) ys → slice_range xs at (at + n) ≡ slice_range ys at (at + n)
same_slice at n xs ys e = slice-is xs at n ∙ same_part at n xs ys e ∙ sym (slice-is ys at n)

-- a front of a list is the same in each list that has it
same_front : (m n : ℕ) (xs ys : List ℕ) → m ≤ n → take n xs ≡ take n ys → take m xs ≡ take m ys
same_front m n xs ys le e = sym (take-take m n xs le) ∙ ap (take m) e ∙ take-take m n ys le

-- a field is read the same where nothing changed up to its end
shows-same : (f : StructField) (xs ys : List ℕ) → Fits f → Reaches (length xs) f → length ys ≡ length xs → take (offset f + size f) xs ≡ take (offset f + size f) ys → Shows xs f → Shows ys f
shows-same (number at n value) xs ys fits reaches len e shows =
    shows
    ∙ sym (little_from-take 0 n n (drop at xs) (omega arith))
    ∙ ap (little_number n) (same_part at n xs ys e)
    ∙ little_from-take 0 n n (drop at ys) (omega arith)
shows-same (text at room chars) xs ys fits reaches len e shows =
    shows ∙ ap before_zero (same_slice at (room - 1) xs ys (same_front (at + (room - 1)) (at + room) xs ys (omega arith) e))
shows-same (rest at bytes) xs ys fits reaches len e shows =
    let whole : take (at + length bytes) xs ≡ xs = take_all (at + length bytes) xs (omega (arith, reaches)) in
    let whole' : take (at + length bytes) ys ≡ ys = take_all (at + length bytes) ys (omega (arith, reaches, len)) in
    shows ∙ ap (drop at) (sym whole ∙ e ∙ whole')
shows-same (reserved at n) xs ys fits reaches len e shows = sym (ap are_zero (same_slice at n xs ys e)) ∙ shows

-- after all fields were written: the front before them is as it was, each is read, and the length is
-- the same
record Laid (fs : List StructField) (from : ℕ) (xs ys : List ℕ) : Type 0 where
  front : take from ys ≡ take from xs
  each : ShowsEach ys fs
  len : length ys ≡ length xs

laid : (fs : List StructField) (from : ℕ) (xs : List ℕ) → InOrder from (length xs) fs → FitsEach fs → AreZeros (drop from xs) → Laid fs from xs (fold with_written xs fs)
laid [] from xs order fits z = record { front = refl; each = tt; len = refl }
laid (f ∷ fs) from xs order fits z =
    let at = offset f in
    let bytes = written f in
    let end = offset f + size f in
    let W = with_bytes xs at bytes in
    let before : from ≤ at = order.0 in
    let within : end ≤ length xs = in_order_le fs end (length xs) order.2 in
    let small : length bytes ≤ size f = written-le f fits.0 in
    let whole : length W ≡ length xs = length-with_bytes xs at bytes (omega arith) in
    let behind : drop end W ≡ drop end xs = drop-put_mid at (length bytes) xs bytes end (omega arith) (omega arith) refl in
    let still = subst AreZeros (sym behind) (zeros-later from end xs (omega arith) z) in
    let later = laid fs end W (subst (λ (n : ℕ). InOrder end n fs) (sym whole) order.2) fits.1 still in
    let here = shows-written f xs fits.0 within order.1 (zeros-later from at xs before z) in
    let F = fold with_written W fs in
    let front : take from F ≡ take from xs =
    sym (take-take from end F (omega arith))
    ∙ ap (take from) later.front
    ∙ take-take from end W (omega arith)
    ∙ take-put_mid_below at (length bytes) xs bytes from before (omega arith) in
    let done : Laid (f ∷ fs) from xs F = record {
      front = front;
      each = (shows-same f W F fits.0 (subst (λ (n : ℕ). Reaches n f) (sym whole) order.1) later.len (sym later.front) here, later.each);
      len = later.len ∙ whole;
    } in
    subst (λ (V : List ℕ). Laid (f ∷ fs) from xs (fold with_written V fs)) (sym (written-is f xs)) done

from_zeros : (len : ℕ) (fs : List StructField) → InOrder 0 len fs → FitsEach fs → Laid fs 0 (replicate len 0) (laid_out len fs)
unfolding laid_out
from_zeros len fs order fits =
    laid fs 0 (replicate len 0) (subst (λ (n : ℕ). InOrder 0 n fs) (sym (length-replicate len 0)) order) fits (zeros len)

-- each field of a struct that was laid out is read again
pub shows-laid_out : (bytes : List ℕ) (len : ℕ) (fs : List StructField) → InOrder 0 len fs → FitsEach fs → bytes ≡ laid_out len fs → ShowsEach bytes fs
shows-laid_out bytes len fs order fits is =
    subst (λ (xs : List ℕ). ShowsEach xs fs) (sym is) (from_zeros len fs order fits).each

-- a struct that was laid out has its length
pub length-laid_out : (bytes : List ℕ) (len : ℕ) (fs : List StructField) → InOrder 0 len fs → FitsEach fs → bytes ≡ laid_out len fs → length bytes ≡ len
length-laid_out bytes len fs order fits is =
    ap length is ∙ (from_zeros len fs order fits).len ∙ length-replicate len 0

-- bytes from a place on aren't zero, and yet a reserved field there shows
pub not_zero_behind : (xs : List ℕ) (found : Bool) (at n : ℕ) → found ≡ false → found ≡ are_zero (take (length xs - at) (drop at xs)) → length xs ≡ at + n → Shows xs (reserved at n) → ⊥
not_zero_behind xs found at n missed is len shows =
    let e : length xs - at ≡ n = omega (arith, len) in
    false≢true (sym missed ∙ is ∙ ap (λ (k : ℕ). are_zero (take k (drop at xs))) e ∙ sym (ap are_zero (slice-is xs at n)) ∙ shows)
