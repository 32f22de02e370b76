-- A descriptor and its bytes, and the bytes of a ring.
use Rattle.std.proofs.Common.{◌≡◌, ℕ, zero, suc, ◌+◌, ◌^◌, ◌<◌, List, [], ◌∷◌, ◌++◌, length, take, drop, map, replicate, get_or, refl, ap, ◌∙◌, arith}
use Rattle.std.specs.List.{flat_map}
use Rattle.std.proofs.lemmas.Grind.{common_steps}
use Rattle.byteorder.specs.Numbers.{little_number-reads_back}
use Rattle.byteorder.specs.Endian.{little_bytes}
use Rattle.vd_num.specs.Field.{field_at}
use Rattle.vr_slots.specs.declared.slot.Slot.{Slot}
use Rattle.vr_slots.specs.Slots.{slot_bytes, slot_of, empty_slot, slots_in}

abbrev entry : ℕ → ℕ → ℕ → ℕ → Slot
entry at len id flags = record { at = at; len = len; id = id; flags = flags }

pub bytes_back : (s : Slot) → s.at < 2 ^ 64 → s.len < 2 ^ 32 → s.id < 2 ^ 16 → s.flags < 2 ^ 16 → slot_of (slot_bytes s) ≡ s
bytes_back s a l i f =
    let bytes = slot_bytes s in
    let first : field_at 8 bytes 0 ≡ s.at = little_number-reads_back 8 s.at (little_bytes 4 s.len ++ (little_bytes 2 s.id ++ little_bytes 2 s.flags)) a in
    let second : field_at 4 bytes 8 ≡ s.len = little_number-reads_back 4 s.len (little_bytes 2 s.id ++ little_bytes 2 s.flags) l in
    let third : field_at 2 bytes 12 ≡ s.id = little_number-reads_back 2 s.id (little_bytes 2 s.flags) i in
    let fourth : field_at 2 bytes 14 ≡ s.flags = little_number-reads_back 2 s.flags [] f in
    ap (λ (k : ℕ). entry k (field_at 4 bytes 8) (field_at 2 bytes 12) (field_at 2 bytes 14)) first
    ∙ (ap (λ (k : ℕ). entry s.at k (field_at 2 bytes 12) (field_at 2 bytes 14)) second
    ∙ (ap (λ (k : ℕ). entry s.at s.len k (field_at 2 bytes 14)) third ∙ ap (λ (k : ℕ). entry s.at s.len s.id k) fourth))

-- one more descriptor of zeros
pub zeros-more : (xs : List (List ℕ)) (bytes : List ℕ) (n : ℕ) → slot_of bytes ≡ empty_slot → map slot_of xs ≡ replicate n empty_slot → map slot_of (xs ++ bytes ∷ []) ≡ replicate (n + 1) empty_slot
zeros-more [] bytes zero zeros h = ap (λ (s : Slot). s ∷ []) zeros
zeros-more [] bytes (suc n) zeros h = absurd (cc h)
zeros-more (x ∷ xs) bytes zero zeros h = absurd (cc h)
zeros-more (x ∷ xs) bytes (suc n) zeros h =
    let first : slot_of x ≡ empty_slot = cc h in
    let rest : map slot_of xs ≡ replicate n empty_slot = cc h in
    let more : map slot_of (xs ++ bytes ∷ []) ≡ replicate (n + 1) empty_slot = zeros-more xs bytes n zeros rest in
    let on : suc (n + 1) ≡ suc n + 1 = omega arith in
    ap (λ (s : Slot). s ∷ map slot_of (xs ++ bytes ∷ [])) first ∙ ap (λ (l : List Slot). empty_slot ∷ l) more ∙ ap (λ (k : ℕ). replicate k empty_slot) on

-- the front of a text behind a piece, and its rest
take-piece : (n : ℕ) (xs ys : List ℕ) → length xs ≡ n → take n (xs ++ ys) ≡ xs
take-piece n xs ys h = grind (arith, common_steps)

drop-piece : (n : ℕ) (xs ys : List ℕ) → length xs ≡ n → drop n (xs ++ ys) ≡ ys
drop-piece n xs ys h = grind (arith, common_steps)

pub slots_in-flat : (xs : List (List ℕ)) → ((i : ℕ) → i < length xs → length (get_or xs i []) ≡ 16) → slots_in (length xs) (flat_map (λ x. x) xs) ≡ map slot_of xs
slots_in-flat [] h = refl
slots_in-flat (x ∷ xs) h =
    let len : length x ≡ 16 = h 0 (omega arith) in
    let front = take-piece 16 x (flat_map (λ y. y) xs) len in
    let rest = drop-piece 16 x (flat_map (λ y. y) xs) len in
    let more = slots_in-flat xs (λ i l. h (suc i) (omega arith)) in
    ap (λ (l : List ℕ). slot_of l ∷ slots_in (length xs) (drop 16 (x ++ flat_map (λ y. y) xs))) front
    ∙ (ap (λ (l : List ℕ). slot_of x ∷ slots_in (length xs) l) rest ∙ ap (λ (l : List Slot). slot_of x ∷ l) more)
