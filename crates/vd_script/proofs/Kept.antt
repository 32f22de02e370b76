-- What is written of a field's value is read again as that value, and has no separator in it.
use Rattle.std.proofs.Common.{◌≡◌, ℕ, zero, suc, ◌+◌, ◌-◌, ◌*◌, ◌/◌, ◌%◌, ◌^◌, ◌<◌, ◌≤◌, Bool, true, false, ◌&&◌, cond, eqb, ltb, leb, List, [], ◌∷◌, length, get_or, Option, Some, None, Result, Ok, Err, refl, ap, subst, ◌∙◌, arith, rules}
use Rattle.std.specs.Prelude.{not, decimal, codes, option_map}
use Rattle.std.specs.List.{list_all}
use Rattle.std.specs.Str.{all_ascii_digits, bytes_eq}
use Rattle.std.specs.Char.{is_ascii_digit}
use Rattle.std.specs.Result.{result_ok}
use Rattle.std.proofs.lemmas.Bool.{and_parts, and_from, and_left, and_right, leb-true, lt-ltb, ne_eqb, not_from_false}
use Rattle.std.proofs.lemmas.Option.{cond_some}
use Rattle.std.proofs.lemmas.Str.Parse.{IsNumeralModel, numerals_by_fold}
use Rattle.std.proofs.lemmas.Fmt.{decimal_digit, digits_decimal, digits_value-decimal, decimal_nonempty, first_decimal}
use Rattle.hex.specs.Hex.{IsBytes, decode_of, encode_lower, encode_with, lower_digits}
use Rattle.hex.proofs.HexLemmas.{decode_of-ok, decode_of-encode_lower, length-encode_with}
use Rattle.vd_model.specs.declared.memory.Dir.{Dir}
use Rattle.vd_model.specs.declared.memory.Dir.TheVariants.{To, From, Both}
use Rattle.vd_model.specs.declared.step.QueueOrConfig.{QueueOrConfig}
use Rattle.vd_model.specs.declared.step.QueueOrConfig.TheVariants as on
use Rattle.vd_model.specs.Fields.{Field, digit, digits_from, numeral, number_within, number_in, u64_field, u32_field, u16_field, is_name_byte, is_name, name_field, hex_field, optional_hex_field, flag_field, dir_field, on_field, writable_field}
use Rattle.vd_model.specs.Text.{flag_text, dir_text, on_text, optional_hex_text, writable_text}

-- no byte of the word is s
abbrev pub has_no : ℕ → List ℕ → Bool
has_no s w = list_all (λ b. not (eqb b s)) w

pub record Kept (s : ℕ) {X : Type 0} (f : Field X) (p : X → List ℕ) : Type 0 where
  pub back : (w : List ℕ) (x : X) → f w ≡ Some x → f (p x) ≡ Some x
  pub whole : (w : List ℕ) (x : X) → f w ≡ Some x → has_no s (p x) ≡ true

-- ---- lists of bytes

list_all-weaker : (p q : ℕ → Bool) → ((c : ℕ) → p c ≡ true → q c ≡ true) → (w : List ℕ) → list_all p w ≡ true → list_all q w ≡ true
list_all-weaker p q h [] e = refl
list_all-weaker p q h (c ∷ w) e =
    let parts = and_parts (p c) (list_all p w) e in
    and_from (q c) (list_all q w) (h c parts.0) (list_all-weaker p q h w parts.1)

not_at : (p : ℕ → Bool) (s : ℕ) → p s ≡ false → (c : ℕ) → p c ≡ true → not (eqb c s) ≡ true
not_at p s fails c passes = not_from_false (eqb c s) (ne_eqb c s (λ e. let h : p s ≡ true = subst (λ (x : ℕ). p x ≡ true) e passes in cc))

-- ---- numbers

abbrev read_on : ℕ → List ℕ → ℕ
read_on n [] = n
read_on n (c ∷ cs) = read_on (n * 10 + (c - 48)) cs

own : IsNumeralModel (λ ds. all_ascii_digits ds ≡ true) (read_on 0)
own = numerals_by_fold _ (search rules) read_on (search rules)

-- a decimal digit reads as itself
digit_reads : (c : ℕ) → is_ascii_digit c ≡ true → (ltb (digit c) 10 ≡ true) × (digit c ≡ c - 48)
digit_reads c h =
    let parts = and_parts (leb 48 c) (leb c 57) h in
    let d : digit c ≡ c - 48 = rw (parts.0, parts.1) refl in
    let high = leb-true c 57 parts.1 in
    (rw d (lt-ltb (c - 48) 10 (omega arith)), d)

digits_read : (n : ℕ) (ds : List ℕ) → all_ascii_digits ds ≡ true → digits_from 10 n ds ≡ Some (read_on n ds)
digits_read n [] h = refl
digits_read n (c ∷ cs) h =
    let parts = and_parts (is_ascii_digit c) (all_ascii_digits cs) h in
    let one = digit_reads c parts.0 in
    rw (one.0, one.1) (digits_read (n * 10 + (c - 48)) cs parts.1)

-- one digit or more, no leading zero, and no 0x in front
plain_reads : (ds : List ℕ) → all_ascii_digits ds ≡ true → 0 < length ds → (get_or ds 0 0 ≡ 48 → length ds ≡ 1) → numeral ds ≡ Some (read_on 0 ds)
plain_reads [] h some first = absurd (omega arith)
plain_reads (c ∷ []) h some first =
    let test : (eqb c 48 && ltb 0 0) ≡ false = and_right (eqb c 48) (ltb 0 0) refl in
    rw test (digits_read 0 (c ∷ []) h)
plain_reads (c ∷ d ∷ cs) h some first =
    let not_zero : eqb c 48 ≡ false = ne_eqb c 48 (λ e. let k = first e in absurd (omega arith)) in
    rw not_zero (digits_read 0 (c ∷ d ∷ cs) h)

pub numeral-decimal : (n : ℕ) → n < 2 ^ 64 → numeral (decimal n) ≡ Some n
numeral-decimal n lt =
    let digits = digits_decimal own n lt in
    let value = digits_value-decimal own n lt in
    let alone : get_or (decimal n) 0 0 ≡ 48 → length (decimal n) ≡ 1 = λ e. lone n lt e in
    plain_reads (decimal n) digits (decimal_nonempty n lt) alone ∙ ap Some value
  where
    lone : (n : ℕ) → n < 2 ^ 64 → get_or (decimal n) 0 0 ≡ 48 → length (decimal n) ≡ 1
    lone zero lt e = ap length (decimal_digit 0 (omega arith))
    lone (suc n) lt e = let f = first_decimal (suc n) (omega arith) lt in absurd (omega arith)

digits_whole : (s : ℕ) → is_ascii_digit s ≡ false → (ds : List ℕ) → all_ascii_digits ds ≡ true → has_no s ds ≡ true
digits_whole s fails [] h = refl
digits_whole s fails (c ∷ cs) h =
    let parts = and_parts (is_ascii_digit c) (all_ascii_digits cs) h in
    and_from (not (eqb c s)) (has_no s cs) (not_at is_ascii_digit s fails c parts.0) (digits_whole s fails cs parts.1)

pub decimal_whole : (s : ℕ) → is_ascii_digit s ≡ false → (n : ℕ) → n < 2 ^ 64 → has_no s (decimal n) ≡ true
decimal_whole s fails n lt = digits_whole s fails (decimal n) (digits_decimal own n lt)

-- what a number between two bounds says
number_within_is : (low high n : ℕ) (o : Option ℕ) → number_within low high o ≡ Some n → (o ≡ Some n) × (n ≤ high) × (number_within low high (Some n) ≡ Some n)
number_within_is low high n None e = absurd cc
number_within_is low high n (Some m) e =
    let h = cond_some (leb low m && leb m high) m n e in
    let parts = and_parts (leb low m) (leb m high) h.0 in
    let below = leb-true m high parts.1 in
    (ap Some h.1, omega (arith, h.1), subst (λ (k : ℕ). number_within low high (Some k) ≡ Some k) h.1 (rw h.0 refl))

pub number_kept : (s : ℕ) → is_ascii_digit s ≡ false → (low high : ℕ) → high < 2 ^ 64 → Kept s (number_in low high) decimal
unfolding number_in
number_kept s fails low high lt = record {
  back = λ w n e. let h = number_within_is low high n (numeral w) e in rw (numeral-decimal n (omega (arith, h.1))) h.2;
  whole = λ w n e. let h = number_within_is low high n (numeral w) e in decimal_whole s fails n (omega (arith, h.1));
}

-- ---- names

name_whole : (s : ℕ) → is_name_byte s ≡ false → (w : List ℕ) → is_name w ≡ true → has_no s w ≡ true
name_whole s fails w h =
    let parts = and_parts (ltb 0 (length w) && leb (length w) 255) (list_all is_name_byte w) h in
    list_all-weaker is_name_byte (λ b. not (eqb b s)) (not_at is_name_byte s fails) w parts.1

abbrev pub itself : List ℕ → List ℕ
itself w = w

pub name_kept : Kept 32 name_field itself
name_kept = record {
  back = λ w x e. let h = cond_some (is_name w) w x e in rw (← h.1) (rw h.0 refl);
  whole = λ w x e. let h = cond_some (is_name w) w x e in rw (← h.1) (name_whole 32 refl w h.0);
}

-- ---- flags and words

pub flag_kept : Kept 32 flag_field flag_text
unfolding flag_field
flag_kept = record { back = λ w x e. back x; whole = λ w x e. whole x }
  where
    back : (x : Bool) → flag_field (flag_text x) ≡ Some x
    back false = refl
    back true = refl

    whole : (x : Bool) → has_no 32 (flag_text x) ≡ true
    whole false = refl
    whole true = refl

pub dir_kept : Kept 32 dir_field dir_text
unfolding dir_field
dir_kept = record { back = λ w x e. back x; whole = λ w x e. whole x }
  where
    back : (x : Dir) → dir_field (dir_text x) ≡ Some x
    back To = refl
    back From = refl
    back Both = refl

    whole : (x : Dir) → has_no 32 (dir_text x) ≡ true
    whole To = refl
    whole From = refl
    whole Both = refl

pub writable_kept : (s : ℕ) → eqb 114 s ≡ false → eqb 119 s ≡ false → Kept s writable_field writable_text
unfolding writable_field
writable_kept s r w = record { back = λ w x e. back x; whole = λ w x e. whole x }
  where
    back : (x : Bool) → writable_field (writable_text x) ≡ Some x
    back false = refl
    back true = refl

    whole : (x : Bool) → has_no s (writable_text x) ≡ true
    whole false = rw r refl
    whole true = rw w refl

-- ---- hexadecimal digits

ok_from : {A E : Type 0} (r : Result A E) (x : A) → result_ok r ≡ Some x → r ≡ Ok x
ok_from (Ok y) x e = cc
ok_from (Err d) x e = absurd cc

hex_is : (t x : List ℕ) → 0 < length t → decode_of t ≡ Ok x → hex_field t ≡ Some x
unfolding hex_field
hex_is [] x some e = absurd (omega arith)
hex_is (c ∷ cs) x some e = ap result_ok e

-- what hexadecimal digits say is some bytes
hex_says : (w x : List ℕ) → hex_field w ≡ Some x → (0 < length x) × IsBytes x
unfolding hex_field
hex_says [] x e = absurd cc
hex_says (c ∷ cs) x e = let h = decode_of-ok (c ∷ cs) x (ok_from (decode_of (c ∷ cs)) x e) in (omega (arith, h.2), h.3)

index_whole : (s : ℕ) → eqb 0 s ≡ false → (t : List ℕ) (k : ℕ) → has_no s t ≡ true → not (eqb (get_or t k 0) s) ≡ true
index_whole s zeroless [] k h = not_from_false (eqb 0 s) zeroless
index_whole s zeroless (c ∷ cs) zero h = (and_parts (not (eqb c s)) (has_no s cs) h).0
index_whole s zeroless (c ∷ cs) (suc k) h = index_whole s zeroless cs k (and_parts (not (eqb c s)) (has_no s cs) h).1

encode_whole : (s : ℕ) → eqb 0 s ≡ false → (t xs : List ℕ) → has_no s t ≡ true → has_no s (encode_with t xs) ≡ true
unfolding encode_with
encode_whole s zeroless t [] h = refl
encode_whole s zeroless t (b ∷ bs) h =
    and_from (not (eqb (get_or t (b / 16) 0) s)) _ (index_whole s zeroless t (b / 16) h)
    (and_from (not (eqb (get_or t (b % 16) 0) s)) _ (index_whole s zeroless t (b % 16) h) (encode_whole s zeroless t bs h))

pub hex_kept : Kept 32 hex_field encode_lower
hex_kept = record {
  back = λ w x e. let h = hex_says w x e in hex_is (encode_lower x) x (omega (arith, h.0, length-encode_with lower_digits x)) (decode_of-encode_lower x h.1);
  whole = λ w x e. encode_whole 32 refl lower_digits x refl;
}

-- the choice that a test made
other : {A : Type 0} (b : Bool) (x y z : A) → cond b x y ≡ z → (x ≡ z → ⊥) → y ≡ z
other true x y z e ne = absurd (ne e)
other false x y z e ne = e

not_dash : (b : ℕ) (bs : List ℕ) → bytes_eq (encode_lower (b ∷ bs)) (codes "-") ≡ false
unfolding encode_with
not_dash b bs = and_right (eqb (get_or lower_digits (b / 16) 0) 45) false refl

pub optional_hex_kept : Kept 32 optional_hex_field optional_hex_text
unfolding optional_hex_field
optional_hex_kept = record { back = back; whole = λ w x e. whole x }
  where
    back : (w x : List ℕ) → optional_hex_field w ≡ Some x → optional_hex_field (optional_hex_text x) ≡ Some x
    back w [] e = refl
    back w (b ∷ bs) e =
        let digits : hex_field w ≡ Some (b ∷ bs) = other (bytes_eq w (codes "-")) (Some []) (hex_field w) (Some (b ∷ bs)) e (λ ne. cc) in
        rw (not_dash b bs) (hex_kept.back w (b ∷ bs) digits)

    whole : (x : List ℕ) → has_no 32 (optional_hex_text x) ≡ true
    whole [] = refl
    whole (b ∷ bs) = encode_whole 32 refl lower_digits (b ∷ bs) refl

-- ---- a queue or config

not_word : (ds : List ℕ) (c : ℕ) (cs : List ℕ) → is_ascii_digit c ≡ false → all_ascii_digits ds ≡ true → bytes_eq ds (c ∷ cs) ≡ false
not_word [] c cs fails h = refl
not_word (d ∷ ds) c cs fails h =
    let parts = and_parts (is_ascii_digit d) (all_ascii_digits ds) h in
    and_left (eqb d c) (bytes_eq ds cs) (ne_eqb d c (λ e. let k : is_ascii_digit c ≡ true = subst (λ (x : ℕ). is_ascii_digit x ≡ true) e parts.0 in cc))

pub u64_kept : Kept 32 u64_field decimal
u64_kept = number_kept 32 refl 0 (2 ^ 64 - 1) (omega arith)

pub u32_kept : Kept 32 u32_field decimal
u32_kept = number_kept 32 refl 0 (2 ^ 32 - 1) (omega arith)

pub u16_kept : Kept 32 u16_field decimal
u16_kept = number_kept 32 refl 0 (2 ^ 16 - 1) (omega arith)

u32_below : (w : List ℕ) (n : ℕ) → u32_field w ≡ Some n → n < 2 ^ 64
unfolding number_in
u32_below w n e = let h = number_within_is 0 (2 ^ 32 - 1) n (numeral w) e in omega (arith, h.1)

pub map_is : {A B : Type 0} (C : A → B) (o : Option A) (y : B) → option_map C o ≡ Some y → (x : A) × (o ≡ Some x) × (C x ≡ y)
map_is C None y e = absurd cc
map_is C (Some x) y e = (x, refl, cc)

pub on_kept : Kept 32 on_field on_text
unfolding on_field
on_kept = record { back = back; whole = whole }
  where
    number : (w : List ℕ) (q : ℕ) → on_field w ≡ Some (on.Queue q) → u32_field w ≡ Some q
    number w q e =
        let m = map_is on.Queue (u32_field w) (on.Queue q) (other (bytes_eq w (codes "config")) (Some on.Config) (option_map on.Queue (u32_field w)) (Some (on.Queue q)) e (λ ne. cc)) in
        let same : m.0 ≡ q = let h = m.2 in cc in
        m.1 ∙ ap Some same

    back : (w : List ℕ) (x : QueueOrConfig) → on_field w ≡ Some x → on_field (on_text x) ≡ Some x
    back w on.Config e = refl
    back w (on.Queue q) e =
        let n = number w q e in
        rw (not_word (decimal q) 99 (codes "onfig") refl (digits_decimal own q (u32_below w q n)), u32_kept.back w q n) refl

    whole : (w : List ℕ) (x : QueueOrConfig) → on_field w ≡ Some x → has_no 32 (on_text x) ≡ true
    whole w on.Config e = refl
    whole w (on.Queue q) e = u32_kept.whole w q (number w q e)
