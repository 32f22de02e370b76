-- The rows of a table of descriptors.
use Rattle.std.proofs.Common.{◌≡◌, ℕ, suc, ◌+◌, ◌-◌, ◌*◌, ◌<◌, ◌≤◌, Bool, true, false, List, [], ◌∷◌, ◌++◌, length, take, drop, get_or, nat_lt, if◌then◌else◌, sym, ap, ◌∙◌, arith, append_assoc}
use Rattle.std.proofs.Math.Seq.{drop-cons}
use Rattle.std.proofs.lemmas.Bool.Decides.{nat_tests}
use Rattle.std.proofs.lemmas.List.{append-nil, length-drop}
use Rattle.std.proofs.lemmas.Slice.{take-put_mid}
use borrow.Rule.Slice.PartMut.{put_mid}
use Rattle.vd_model.specs.declared.parts.Part.{Part}
use Rattle.vd_model.specs.declared.descriptor.Descriptor.{Descriptor}
use Rattle.vd_model.specs.RingTurns.{descriptor_bytes, flags_of, table_bytes}

-- the bytes of a row
row_bytes : ℕ → Part → Bool → List ℕ
row_bytes k part has_next = descriptor_bytes part.at part.len (flags_of has_next part.writable) (if has_next then k + 1 else 0)

-- a row stands in front of those behind it
row_first : (k : ℕ) (part : Part) (rest : List Part) (n : ℕ) → n ≡ k + 1 + length rest → table_bytes k (part ∷ rest) ≡ row_bytes k part (nat_lt (k + 1) n) ++ table_bytes (k + 1) rest
unfolding row_bytes
row_first k part [] n size =
    let last : nat_lt (k + 1) n ≡ false = grind (arith, nat_tests) in
    sym (ap (λ b. descriptor_bytes part.at part.len (flags_of b part.writable) (if b then k + 1 else 0) ++ []) last ∙ append-nil (descriptor_bytes part.at part.len (flags_of false part.writable) 0))
row_first k part (next ∷ rest) n size =
    let more : nat_lt (k + 1) n ≡ true = grind (arith, nat_tests) in
    sym (ap (λ b. descriptor_bytes part.at part.len (flags_of b part.writable) (if b then k + 1 else 0) ++ table_bytes (k + 1) (next ∷ rest)) more)

-- one more row is written
pub next_row : (k e : ℕ) (parts : List Part) (bytes new : List ℕ) (none : Part) (d : Descriptor) → k < length parts → 16 * k ≤ length bytes → length new ≡ 16
    → new ≡ descriptor_bytes d.at d.len d.flags d.next → d.at ≡ (get_or parts k none).at → d.len ≡ (get_or parts k none).len
    → d.flags ≡ flags_of (nat_lt (k + 1) (length parts)) (get_or parts k none).writable → d.next ≡ (if nat_lt (k + 1) (length parts) then k + 1 else 0)
    → take (16 * k) bytes ++ table_bytes k (drop k parts) ≡ table_bytes 0 parts
    → take (16 * (k + 1)) (put_mid (16 * k) e bytes new) ++ table_bytes (k + 1) (drop (k + 1) parts) ≡ table_bytes 0 parts
unfolding row_bytes
next_row k e parts bytes new none d inside room size is at len flags next before =
    let one : suc k ≡ k + 1 = omega arith in
    let left : length (drop (k + 1) parts) ≡ length parts - (k + 1) = length-drop (k + 1) parts in
    let front : drop k parts ≡ get_or parts k none ∷ drop (k + 1) parts = drop-cons parts k none inside ∙ ap (λ j. get_or parts k none ∷ drop j parts) one in
    let rows = ap (table_bytes k) front ∙ row_first k (get_or parts k none) (drop (k + 1) parts) (length parts) (omega (arith, left, inside)) in
    let row : new ≡ descriptor_bytes (get_or parts k none).at (get_or parts k none).len (flags_of (nat_lt (k + 1) (length parts)) (get_or parts k none).writable) (if nat_lt (k + 1) (length parts) then k + 1 else 0) =
    is ∙ (λ i. descriptor_bytes (at i) (len i) (flags i) (next i)) in
    ap (λ bs. bs ++ table_bytes (k + 1) (drop (k + 1) parts)) (take-put_mid (16 * k) e bytes new (16 * (k + 1)) (omega (arith, size)) room)
    ∙ append_assoc (take (16 * k) bytes) new (table_bytes (k + 1) (drop (k + 1) parts))
    ∙ ap (λ bs. take (16 * k) bytes ++ (bs ++ table_bytes (k + 1) (drop (k + 1) parts))) row
    ∙ ap (λ bs. take (16 * k) bytes ++ bs) (sym rows)
    ∙ before

-- the index behind a row's, which the last has not
pub next_of_more : (k n : ℕ) → k + 1 < n → k + 1 ≡ (if nat_lt (k + 1) n then k + 1 else 0)
next_of_more k n lt = let more : nat_lt (k + 1) n ≡ true = grind (arith, nat_tests) in sym (ap (λ b. if b then k + 1 else 0) more)

pub next_of_last : (k n : ℕ) → n ≤ k + 1 → 0 ≡ (if nat_lt (k + 1) n then k + 1 else 0)
next_of_last k n le = let last : nat_lt (k + 1) n ≡ false = grind (arith, nat_tests) in sym (ap (λ b. if b then k + 1 else 0) last)
