-- Pieces of bytes, one after another.
use Rattle.std.proofs.Common.{Bool, true, if◌then◌else◌, inl, inr, ◌/◌, ◌≡◌, ℕ, suc, ◌+◌, ◌-◌, ◌*◌, ◌<◌, ◌≤◌, List, ◌++◌, length, take, drop, Option, Some, None, refl, sym, ap, subst, ◌∙◌, arith, append_assoc, length-drop}
use Rattle.std.proofs.lemmas.List.{take_at, drop_at, drop-drop, length-take-le}
use Rattle.std.specs.Option.{unwrap_or}
use borrow.Rule.Slice.PartMut.{put_mid}
use Rattle.blk_disk.specs.Contents.{joined}
use Rattle.blk_disk.proofs.Joined.{joined_more, length-joined}
use Rattle.blk_dirty.specs.Dirty.{DirtyLines, bytes_at, AreLines, piece, over, with_bytes, with_pieces}
use Rattle.vd_num.specs.Number.{is_within}
use Rattle.std.proofs.lemmas.Bool.{cases_eq}
use Rattle.std.proofs.lemmas.Bool.Decides.{nat_tests}
use Rattle.blk_dirty.proofs.Marks.{with_same, with_other}

-- the next piece is put behind those that are there
pub copied : (f : ℕ → List ℕ) (first i : ℕ) (old into : List ℕ) → into ≡ joined f first i ++ drop (512 * i) old → length (joined f first i) ≡ 512 * i →
    put_mid (i * 512) 512 into (f (first + i)) ≡ joined f first (i + 1) ++ drop (512 * (i + 1)) old
copied f first i old into is len =
    let at : i * 512 ≡ 512 * i = omega arith in
    let front : take (i * 512) into ≡ joined f first i =
    ap (λ (k : ℕ). take k into) at ∙ ap (λ (xs : List ℕ). take (512 * i) xs) is ∙ take_at (joined f first i) (drop (512 * i) old) (512 * i) len in
    let back : drop (i * 512) into ≡ drop (512 * i) old =
    ap (λ (k : ℕ). drop k into) at ∙ ap (λ (xs : List ℕ). drop (512 * i) xs) is ∙ drop_at (joined f first i) (drop (512 * i) old) (512 * i) len in
    let sum : 512 * i + 512 ≡ 512 * (i + 1) = omega arith in
    let rest : drop 512 (drop (i * 512) into) ≡ drop (512 * (i + 1)) old =
    ap (λ (xs : List ℕ). drop 512 xs) back ∙ drop-drop 512 (512 * i) old ∙ ap (λ (k : ℕ). drop k old) sum in
    let one : i + 1 ≡ suc i = omega arith in
    ap (λ (xs : List ℕ). xs ++ (f (first + i) ++ drop 512 (drop (i * 512) into))) front ∙ ap (λ (xs : List ℕ). joined f first i ++ (f (first + i) ++ xs)) rest
    ∙ sym (append_assoc (joined f first i) (f (first + i)) (drop (512 * (i + 1)) old))
    ∙ ap (λ (xs : List ℕ). xs ++ drop (512 * (i + 1)) old) (sym (ap (λ (k : ℕ). joined f first k) one ∙ joined_more f first i))

-- what stands at the place of the next piece is still the old one
pub still : (f : ℕ → List ℕ) (first i : ℕ) (old into : List ℕ) → into ≡ joined f first i ++ drop (512 * i) old → length (joined f first i) ≡ 512 * i →
    take 512 (drop (i * 512) into) ≡ piece first old (first + i)
still f first i old into is len =
    let at : i * 512 ≡ 512 * i = omega arith in
    let place : 512 * i ≡ 512 * (first + i - first) = omega arith in
    ap (λ (k : ℕ). take 512 (drop k into)) at ∙ ap (λ (xs : List ℕ). take 512 (drop (512 * i) xs)) is ∙ ap (λ (xs : List ℕ). take 512 xs) (drop_at (joined f first i) (drop (512 * i) old) (512 * i) len)
    ∙ ap (λ (k : ℕ). take 512 (drop k old)) place

-- a piece within the bytes has 512 of them
pub length-piece : (first : ℕ) (bytes : List ℕ) (s n : ℕ) → length bytes ≡ 512 * n → first ≤ s → s < first + n → length (piece first bytes s) ≡ 512
length-piece first bytes s n size low high =
    length-take-le 512 (drop (512 * (s - first)) bytes) (let rest = length-drop (512 * (s - first)) bytes in omega arith)

over_cases : (o : Option (List ℕ)) (below : List ℕ) → ((bytes : List ℕ) → o ≡ Some bytes → length bytes ≡ 512) → length below ≡ 512 → length (unwrap_or o below) ≡ 512
over_cases None below own size = size
over_cases (Some bytes) below own size = own bytes refl

pub length-over : (dirty : ℕ → Option (List ℕ)) (contents : ℕ → List ℕ) (s : ℕ) → AreLines dirty → length (contents s) ≡ 512 → length (over dirty contents s) ≡ 512
length-over dirty contents s whole size = over_cases (dirty s) (contents s) (λ bytes there. whole s bytes there) size

-- what a copy shows: the dirty bytes over those that stand there
abbrev pub shown : DirtyLines → ℕ → List ℕ → ℕ → List ℕ
shown d first old = over (bytes_at d) (piece first old)

-- one piece more
pub pieces_more : (first i : ℕ) (bytes slice : List ℕ) (f g h : ℕ → Option (List ℕ)) → slice ≡ piece first bytes (first + i) → ((s : ℕ) → g s ≡ with_pieces first i bytes f s) →
    ((s : ℕ) → h s ≡ with_bytes (first + i) (Some slice) g s) → (s : ℕ) → h s ≡ with_pieces first (i + 1) bytes f s
pieces_more first i bytes slice f g h is before after s = elim (cases_eq s (first + i)) [
  | inl here ↦
      (let inside : is_within first (i + 1) s ≡ true = grind (arith, nat_tests) in
      let now : h s ≡ Some slice = ap (λ (t : ℕ). h t) here ∙ after (first + i) ∙ with_same (first + i) (Some slice) g in
      now ∙ ap Some (is ∙ ap (λ (t : ℕ). piece first bytes t) (sym here)) ∙ sym (ap (λ (b : Bool). if b then Some (piece first bytes s) else f s) inside))
  | inr apart ↦
      (let same : is_within first i s ≡ is_within first (i + 1) s = grind (arith, nat_tests) in
      after s ∙ with_other (first + i) (Some slice) g s apart ∙ before s ∙ ap (λ (b : Bool). if b then Some (piece first bytes s) else f s) same)
]
