-- What reads and writes of sectors are in the bytes of the whole image.
use Rattle.std.proofs.Common.{◌≡◌, ℕ, zero, suc, ◌+◌, ◌-◌, ◌*◌, ◌/◌, ◌%◌, ◌<◌, ◌≤◌, Bool, true, false, if◌then◌else◌, List, [], ◌∷◌, ◌++◌, length, take, drop, Option, Some, None, refl, sym, ap, subst, ◌∙◌, arith, append_assoc, nat_le, nat_lt}
use Rattle.std.specs.Option.{unwrap_or}
use Rattle.std.specs.Prelude.{Result, Ok, Err, OnErr}
use Rattle.std.proofs.Math.Seq.{take-add}
use Rattle.std.proofs.lemmas.List.{append-nil, take_all, take_at, drop_at}
use Rattle.std.proofs.lemmas.Bool.Decides.{nat_tests}
use Rattle.vd_num.specs.Number.{is_within}
use Rattle.vd_io.specs.Sectors.{IsRead, IsWritten, with_sectors}
use Rattle.blk_disk.specs.Contents.{joined, AreWhole}
use Rattle.blk_disk.proofs.Joined.{joined_more, joined_same, length-joined, joined_parts, front_is, mid_is, behind_is}
use Rattle.blk_dirty.specs.Dirty.{AreLines, over, piece}
use Rattle.blk_dirty.proofs.Copies.{length-over}
use Rattle.blk_cache.specs.Cached.{content_of, given}

pub whole_over : (f : ℕ → Option (List ℕ)) (p : ℕ → List ℕ) (sectors : ℕ) → AreLines f → AreWhole sectors p → AreWhole sectors (over f p)
whole_over f p sectors lines whole s inside = length-over f p s lines (whole s inside)

pub content_same : (tells : Bool) (f g : ℕ → List ℕ) (n m : ℕ) → n ≡ m → (tells ≡ true → (s : ℕ) → f s ≡ g s) → content_of tells f n ≡ content_of tells g m
content_same false f g n m size same = refl
content_same true f g n m size same = ap Some (ap (λ (k : ℕ). joined f 0 k) size ∙ joined_same f g 0 m (λ t low high. same refl t))

pub content_len : (tells : Bool) (f : ℕ → List ℕ) (n : ℕ) → (tells ≡ true → AreWhole n f) → (bytes : List ℕ) → content_of tells f n ≡ Some bytes → length bytes ≡ 512 * n
content_len false f n whole bytes is = let no : None ≡ Some bytes = is in absurd (cc)
content_len true f n whole bytes is =
    let same : joined f 0 n ≡ bytes = cc in
    ap length (sym same) ∙ length-joined f 0 n (λ t low high. whole refl t (omega arith))

pub content_read : (tells : Bool) (f : ℕ → List ℕ) (n sector k : ℕ) (bytes : List ℕ) → (tells ≡ true → AreWhole n f) → sector + k ≤ n → length bytes ≡ 512 * k → (tells ≡ true → bytes ≡ joined f sector k) →
    IsRead sector bytes (content_of tells f n)
content_read false f n sector k bytes whole inside size is = tt
content_read true f n sector k bytes whole inside size is =
    is refl ∙ sym (mid_is f n sector k (whole refl) inside) ∙ ap (λ (m : ℕ). take m (drop (512 * sector) (joined f 0 n))) (sym size)

-- bytes are their pieces
pieces : (first : ℕ) (bytes : List ℕ) (i : ℕ) → joined (piece first bytes) first i ≡ take (512 * i) bytes
pieces first bytes zero = refl
pieces first bytes (suc i) =
    let place : 512 * (first + i - first) ≡ 512 * i = omega arith in
    let sum : 512 * i + 512 ≡ 512 * suc i = omega arith in
    joined_more (piece first bytes) first i ∙ ap (λ (xs : List ℕ). xs ++ piece first bytes (first + i)) (pieces first bytes i)
    ∙ ap (λ (k : ℕ). take (512 * i) bytes ++ take 512 (drop k bytes)) place ∙ sym (take-add (512 * i) 512 bytes) ∙ ap (λ (k : ℕ). take k bytes) sum

given_in : (first : ℕ) (bytes : List ℕ) (f : ℕ → List ℕ) (s k : ℕ) → length bytes / 512 ≡ k → first ≤ s → s < first + k → given first bytes f s ≡ piece first bytes s
given_in first bytes f s k size low high =
    let inside : is_within first (length bytes / 512) s ≡ true = ap (λ (n : ℕ). is_within first n s) size ∙ (grind (arith, nat_tests)) in
    ap (λ (b : Bool). if b then piece first bytes s else f s) inside

given_out : (first : ℕ) (bytes : List ℕ) (f : ℕ → List ℕ) (s k : ℕ) → length bytes / 512 ≡ k → is_within first k s ≡ false → given first bytes f s ≡ f s
given_out first bytes f s k size out = ap (λ (b : Bool). if b then piece first bytes s else f s) (ap (λ (n : ℕ). is_within first n s) size ∙ out)

out_below : (first k s : ℕ) → s < first → is_within first k s ≡ false
out_below first k s low = grind (arith, nat_tests)

out_above : (first k s : ℕ) → first + k ≤ s → is_within first k s ≡ false
out_above first k s high = grind (arith, nat_tests)

in_three : (f : ℕ → List ℕ) (all s n : ℕ) → s + n ≤ all → joined f 0 all ≡ joined f 0 s ++ (joined f s n ++ joined f (s + n) (all - (s + n)))
in_three f all s n inside =
    let sum : all ≡ s + (n + (all - (s + n))) = omega arith in
    let start : 0 + s ≡ s = omega arith in
    ap (λ (k : ℕ). joined f 0 k) sum ∙ joined_parts f 0 s (n + (all - (s + n))) ∙ ap (λ (t : ℕ). joined f 0 s ++ joined f t (n + (all - (s + n)))) start
    ∙ ap (λ (xs : List ℕ). joined f 0 s ++ xs) (joined_parts f s n (all - (s + n)))

whole_given : (first : ℕ) (bytes : List ℕ) (f : ℕ → List ℕ) (n k : ℕ) → AreWhole n f → first + k ≤ n → length bytes ≡ 512 * k → joined (given first bytes f) 0 n ≡ with_sectors first bytes (joined f 0 n)
whole_given first bytes f n k whole inside size =
    let count : length bytes / 512 ≡ k = omega arith in
    let g : ℕ → List ℕ = given first bytes f in
    let front : joined (given first bytes f) 0 first ≡ take (512 * first) (joined f 0 n) =
    joined_same (given first bytes f) f 0 first (λ t low high. given_out first bytes f t k count (out_below first k t (omega arith))) ∙ sym (front_is f n first k whole inside) in
    let all : 512 * k ≡ length bytes = sym size in
    let mid : joined (given first bytes f) first k ≡ bytes =
    joined_same (given first bytes f) (piece first bytes) first k (λ t low high. given_in first bytes f t k count low high) ∙ pieces first bytes k ∙ take_all (512 * k) bytes (omega arith) in
    let behind : joined (given first bytes f) (first + k) (n - (first + k)) ≡ drop (512 * first + length bytes) (joined f 0 n) =
    joined_same (given first bytes f) f (first + k) (n - (first + k)) (λ t low high. given_out first bytes f t k count (out_above first k t low)) ∙ sym (behind_is f n first k whole inside)
    ∙ ap (λ (m : ℕ). drop (512 * first + m) (joined f 0 n)) all in
    in_three (given first bytes f) n first k inside ∙ ap (λ (xs : List ℕ). xs ++ (joined (given first bytes f) first k ++ joined (given first bytes f) (first + k) (n - (first + k)))) front
    ∙ ap (λ (xs : List ℕ). take (512 * first) (joined f 0 n) ++ (xs ++ joined (given first bytes f) (first + k) (n - (first + k)))) mid
    ∙ ap (λ (xs : List ℕ). take (512 * first) (joined f 0 n) ++ (bytes ++ xs)) behind
    ∙ sym (append_assoc (take (512 * first) (joined f 0 n)) bytes (drop (512 * first + length bytes) (joined f 0 n)))

pub content_written : (tells : Bool) (f g : ℕ → List ℕ) (n m first k : ℕ) (bytes : List ℕ) → m ≡ n → (tells ≡ true → AreWhole n f) → first + k ≤ n → length bytes ≡ 512 * k →
    (tells ≡ true → (s : ℕ) → g s ≡ given first bytes f s) → IsWritten first bytes (content_of tells f n) (content_of tells g m)
content_written false f g n m first k bytes size whole inside len is = refl
content_written true f g n m first k bytes size whole inside len is =
    ap Some (ap (λ (j : ℕ). joined g 0 j) size ∙ joined_same g (given first bytes f) 0 n (λ t low high. is refl t) ∙ whole_given first bytes f n k (whole refl) inside len)

read_at : (o : Option (List ℕ)) (x y : List ℕ) → (o ≡ None → x ≡ y) → unwrap_or o x ≡ unwrap_or o y
read_at None x y same = same refl
read_at (Some bytes) x y same = refl

-- the bytes below, where they were read as far as nothing is dirty
pub over_read : (f : ℕ → Option (List ℕ)) (p q : ℕ → List ℕ) (sector k : ℕ) → ((s : ℕ) → sector ≤ s → s < sector + k → f s ≡ None → q s ≡ p s) → joined (over f q) sector k ≡ joined (over f p) sector k
over_read f p q sector k same = joined_same (over f q) (over f p) sector k (λ t low high. read_at (f t) (q t) (p t) (same t low high))

-- a stretch of the contents, read as one piece, has each of them
pub piece_read : (p : ℕ → List ℕ) (sector k : ℕ) → ((t : ℕ) → sector ≤ t → t < sector + k → length (p t) ≡ 512) → (s : ℕ) → sector ≤ s → s < sector + k → piece sector (joined p sector k) s ≡ p s
piece_read p sector k whole s low high =
    let i : ℕ = s - sector in
    let sum : k ≡ (s - sector) + (1 + (k - (s - sector + 1))) = omega arith in
    let here : sector + (s - sector) ≡ s = omega arith in
    let len : length (joined p sector (s - sector)) ≡ 512 * (s - sector) = length-joined p sector (s - sector) (λ t lo hi. whole t lo (omega arith)) in
    let one : length (p s) ≡ 512 = whole s low high in
    ap (λ (n : ℕ). take 512 (drop (512 * (s - sector)) (joined p sector n))) sum
    ∙ ap (λ (xs : List ℕ). take 512 (drop (512 * (s - sector)) xs)) (joined_parts p sector (s - sector) (1 + (k - (s - sector + 1))))
    ∙ ap (λ (xs : List ℕ). take 512 xs) (drop_at (joined p sector (s - sector)) (joined p (sector + (s - sector)) (1 + (k - (s - sector + 1)))) (512 * (s - sector)) len)
    ∙ ap (λ (t : ℕ). take 512 (joined p t (1 + (k - (s - sector + 1))))) here
    ∙ ap (λ (xs : List ℕ). take 512 xs) (joined_parts p s 1 (k - (s - sector + 1)))
    ∙ ap (λ (xs : List ℕ). take 512 (xs ++ joined p (s + 1) (k - (s - sector + 1)))) (append-nil (p s))
    ∙ take_at (p s) (joined p (s + 1) (k - (s - sector + 1))) 512 one

-- what holds anyway holds of a failed call
pub on_err : {T E Q : Type 0} (r : Result T E) → Q → OnErr r Q
on_err (Ok x) q = tt
on_err (Err e) q = q
