-- What a map made of a list tells.
use Rattle.std.proofs.Common.{◌≡◌, ℕ, zero, suc, ◌+◌, ◌-◌, ◌<◌, ◌≤◌, ◌^◌, true, false, nat_lt, nat_le, List, [], ◌∷◌, ◌++◌, length, take, drop, get_or, Option, Some, None, Ok, Err, refl, sym, ap, subst, ◌∙◌, ◌⊎◌, inl, inr, arith}
use Rattle.std.specs.List.{slice_get}
use Rattle.std.specs.Option.{ForSome}
use Rattle.std.proofs.lemmas.Grind.{common_steps}
use Rattle.std.proofs.lemmas.Bool.Decides.{nat_tests}
use Rattle.std.proofs.lemmas.Bool.{cases_lt}
use Rattle.std.proofs.lemmas.Option.{slice_get_past, slice_get-get_or}
use Rattle.std.proofs.Math.Seq.{drop-cons}
use Rattle.vd_model.specs.Memory.{Memory, IsFinite, read, byte_then, bytes_from, written}
use Rattle.vr_split.specs.Mem.{Stores}

-- the byte at a place of the list
pub bytes_from-at : (base : ℕ) (bytes : List ℕ) (i : ℕ) → bytes_from base bytes (base + i) ≡ slice_get bytes i
bytes_from-at base bytes i =
    let above : nat_le base (base + i) ≡ true = grind (arith, nat_tests) in
    let place : base + i - base ≡ i = omega arith in
    rw (above, place) refl

-- none below the base
pub bytes_from-below : (base : ℕ) (bytes : List ℕ) (a : ℕ) → a < base → bytes_from base bytes a ≡ None
bytes_from-below base bytes a h =
    let below : nat_le base a ≡ false = grind (arith, nat_tests) in
    rw below refl

-- the bytes at places of the list
pub read-bytes_from : (base : ℕ) (bytes : List ℕ) (i n : ℕ) → i + n ≤ length bytes → read (bytes_from base bytes) (base + i) n ≡ Ok (take n (drop i bytes))
unfolding read
read-bytes_from base bytes i zero h = refl
read-bytes_from base bytes i (suc n) h =
    let within : i < length bytes = omega arith in
    let here : bytes_from base bytes (base + i) ≡ Some (get_or bytes i 0) = bytes_from-at base bytes i ∙ slice_get-get_or bytes i 0 within in
    let next : base + i + 1 ≡ base + suc i = omega arith in
    let rest = read-bytes_from base bytes (suc i) n (omega arith) in
    let front = drop-cons bytes i 0 within in
    rw (here, next, rest, front) refl

-- an address that has none is the first such
pub read-absent : (m : Memory) (a n : ℕ) → 0 < n → m a ≡ None → read m a n ≡ Err a
unfolding read
read-absent m a zero h e = absurd (omega arith)
read-absent m a (suc n) h e = rw e refl

-- the first address past the list has none
pub read-past : (base : ℕ) (bytes : List ℕ) (i n : ℕ) → i ≤ length bytes → length bytes < i + n → read (bytes_from base bytes) (base + i) n ≡ Err (base + length bytes)
unfolding read
read-past base bytes i zero h g = absurd (omega arith)
read-past base bytes i (suc n) h g = elim (cases_lt i (length bytes)) [
  | inl within ↦
      (let here : bytes_from base bytes (base + i) ≡ Some (get_or bytes i 0) = bytes_from-at base bytes i ∙ slice_get-get_or bytes i 0 within in
      let next : base + i + 1 ≡ base + suc i = omega arith in
      let rest = read-past base bytes (suc i) n (omega arith) (omega arith) in
      rw (here, next, rest) refl)
  | inr past ↦
      (let here : bytes_from base bytes (base + i) ≡ None = bytes_from-at base bytes i ∙ slice_get_past bytes i past in
      let place : base + i ≡ base + length bytes = omega arith in
      rw here (ap Err place))
]

-- no byte outside the list
pub bytes_from-outside : (base : ℕ) (bytes : List ℕ) (a : ℕ) → (a < base) ⊎ (base + length bytes ≤ a) → bytes_from base bytes a ≡ None
bytes_from-outside base bytes a (inl h) = bytes_from-below base bytes a h
bytes_from-outside base bytes a (inr h) =
    let place : base + (a - base) ≡ a = omega arith in
    ap (bytes_from base bytes) (sym place) ∙ bytes_from-at base bytes (a - base) ∙ slice_get_past bytes (a - base) (omega arith)

-- an element of the first of two lists
get-front : (xs ys : List ℕ) (k : ℕ) → k < length xs → slice_get (xs ++ ys) k ≡ slice_get xs k
get-front [] ys k h = absurd (omega arith)
get-front (x ∷ xs) ys zero h = refl
get-front (x ∷ xs) ys (suc k) h = get-front xs ys k (omega arith)

-- an element of the second
get-back : (xs ys : List ℕ) (k n : ℕ) → n ≡ length xs + k → slice_get (xs ++ ys) n ≡ slice_get ys k
get-back [] ys k n e = ap (slice_get ys) (omega arith)
get-back (x ∷ xs) ys k zero e = absurd (omega arith)
get-back (x ∷ xs) ys k (suc n) e = get-back xs ys k n (omega arith)

get-take : (m : ℕ) (xs : List ℕ) (k : ℕ) → k < m → slice_get (take m xs) k ≡ slice_get xs k
get-take zero xs k h = absurd (omega arith)
get-take (suc m) [] k h = refl
get-take (suc m) (x ∷ xs) zero h = refl
get-take (suc m) (x ∷ xs) (suc k) h = get-take m xs k (omega arith)

get-drop : (m : ℕ) (xs : List ℕ) (k n : ℕ) → n ≡ m + k → slice_get (drop m xs) k ≡ slice_get xs n
get-drop zero xs k n e = ap (slice_get xs) (omega arith)
get-drop (suc m) [] k n e = refl
get-drop (suc m) (x ∷ xs) k zero e = absurd (omega arith)
get-drop (suc m) (x ∷ xs) k (suc n) e = get-drop m xs k n (omega arith)

-- a written byte
pub written-in : (m : Memory) (at : ℕ) (bytes : List ℕ) (a : ℕ) → at ≤ a → a < at + length bytes → written m at bytes a ≡ slice_get bytes (a - at)
written-in m at bytes a low high =
    let from : nat_le at a ≡ true = grind (arith, nat_tests) in
    let to : nat_lt a (at + length bytes) ≡ true = grind (arith, nat_tests) in
    rw (from, to) refl

-- a byte that isn't written
pub written-out : (m : Memory) (at : ℕ) (bytes : List ℕ) (a : ℕ) → (a < at) ⊎ (at + length bytes ≤ a) → written m at bytes a ≡ m a
written-out m at bytes a (inl h) =
    let from : nat_le at a ≡ false = grind (arith, nat_tests) in
    rw from refl
written-out m at bytes a (inr h) =
    let from : nat_le at a ≡ true = grind (arith, nat_tests) in
    let to : nat_lt a (at + length bytes) ≡ false = grind (arith, nat_tests) in
    rw (from, to) refl

-- the byte at one place after a store into the list
written_at : (base : ℕ) (old : List ℕ) (i : ℕ) (bytes : List ℕ) → i + length bytes ≤ length old → (k : ℕ) → bytes_from base (take i old ++ (bytes ++ drop (i + length bytes) old)) (base + k) ≡ written (bytes_from base old) (base + i) bytes (base + k)
written_at base old i bytes h k =
    let front : length (take i old) ≡ i = grind (arith, common_steps) in
    bytes_from-at base _ k ∙ elim (cases_lt k i) [
      | inl below ↦ get-front (take i old) _ k (omega arith) ∙ get-take i old k below ∙ sym (bytes_from-at base old k) ∙ sym (written-out (bytes_from base old) (base + i) bytes (base + k) (inl (omega arith)))
      | inr above ↦ get-back (take i old) _ (k - i) k (omega arith) ∙ elim (cases_lt (k - i) (length bytes)) [
        | inl within ↦ get-front bytes _ (k - i) within ∙ (let e : k - i ≡ base + k - (base + i) = omega arith in ap (slice_get bytes) e) ∙ sym (written-in (bytes_from base old) (base + i) bytes (base + k) (omega arith) (omega arith))
        | inr past ↦ get-back bytes _ (k - i - length bytes) (k - i) (omega arith) ∙ get-drop (i + length bytes) old _ k (omega arith) ∙ sym (bytes_from-at base old k) ∙ sym (written-out (bytes_from base old) (base + i) bytes (base + k) (inr (omega arith)))
      ]
    ]

-- the byte at one address after it
written_anywhere : (base : ℕ) (old : List ℕ) (i : ℕ) (bytes : List ℕ) → i + length bytes ≤ length old → (a : ℕ) → bytes_from base (take i old ++ (bytes ++ drop (i + length bytes) old)) a ≡ written (bytes_from base old) (base + i) bytes a
written_anywhere base old i bytes h a = elim (cases_lt a base) [
  | inl below ↦ bytes_from-below base _ a below ∙ sym (bytes_from-below base old a below) ∙ sym (written-out (bytes_from base old) (base + i) bytes a (inl (omega arith)))
  | inr above ↦
      (let place : base + (a - base) ≡ a = omega arith in
      let P : ℕ → Type 0 = λ b. bytes_from base (take i old ++ (bytes ++ drop (i + length bytes) old)) b ≡ written (bytes_from base old) (base + i) bytes b in
      subst P place (written_at base old i bytes h (a - base)))
]

-- a store into the list
pub bytes_from-written : (base : ℕ) (old : List ℕ) (i : ℕ) (bytes : List ℕ) → i + length bytes ≤ length old → bytes_from base (take i old ++ (bytes ++ drop (i + length bytes) old)) ≡ written (bytes_from base old) (base + i) bytes
bytes_from-written base old i bytes h = λ j a. written_anywhere base old i bytes h a j

-- a fact of the one map, or of the one span, that is told
pub tells : {T : Type 0} (P : T → Type 0) (m : T) → P m → ForSome (Some m) P
tells P m p x e = let same : m ≡ x = cc in subst P same p

-- no byte from 2 ^ 32 on
pub IsFinite-bytes_from : (base : ℕ) (bytes : List ℕ) → base + length bytes ≤ 2 ^ 32 → IsFinite (bytes_from base bytes)
IsFinite-bytes_from base bytes h a b e = elim (cases_lt a (base + length bytes)) [
  | inl within ↦ omega arith
  | inr past ↦ (let none = bytes_from-outside base bytes a (inr past) in absurd (cc))
]

-- nothing is read
pub read-none : (m : Memory) (at : ℕ) (bytes : List ℕ) → length bytes ≡ 0 → read m at (length bytes) ≡ Ok bytes
unfolding read
read-none m at [] h = refl
read-none m at (b ∷ bytes) h = absurd (omega arith)

-- nothing is written
pub written-none : (m : Memory) (at : ℕ) (bytes : List ℕ) → length bytes ≡ 0 → written m at bytes ≡ m
written-none m at bytes h = λ j a. written-out m at bytes a (elim (cases_lt a at) [ inl below ↦ inl below | inr above ↦ inr (omega arith) ]) j

-- what a store into the list says
pub Stores-into : (base : ℕ) (old : List ℕ) (i : ℕ) (bytes new : List ℕ) → i + length bytes ≤ length old → new ≡ take i old ++ (bytes ++ drop (i + length bytes) old) → (done : Unit {0}) → Stores (bytes_from base old) (base + i) bytes (Ok done) (Some (bytes_from base new))
Stores-into base old i bytes new h e done =
    let there = read-bytes_from base old i (length bytes) h in
    (rw there refl, ap Some (ap (bytes_from base) e ∙ bytes_from-written base old i bytes h))

-- what holds of a map, or of a span, that isn't told
pub tells_nothing : {T : Type 0} (P : T → Type 0) → ForSome None P
tells_nothing P x e = absurd (cc)

-- a read sees only the addresses that it reads
pub read-alike : (m m' : Memory) (a n : ℕ) → ((i : ℕ) → i < n → m (a + i) ≡ m' (a + i)) → read m a n ≡ read m' a n
unfolding read
read-alike m m' a zero h = refl
read-alike m m' a (suc n) h =
    let start : a + 0 ≡ a = omega arith in
    let P : ℕ → Type 0 = λ x. m x ≡ m' x in
    let first = subst P start (h 0 (omega arith)) in
    let rest = read-alike m m' (a + 1) n (λ i l. let e : a + suc i ≡ a + 1 + i = omega arith in subst P e (h (suc i) (omega arith))) in
    ap (λ (o : Option ℕ). byte_then a o (read m (a + 1) n)) first ∙ ap (byte_then a (m' a)) rest

-- bytes that stand there are read
pub read-bytes : (m : Memory) (a : ℕ) (bytes : List ℕ) → ((i : ℕ) → i < length bytes → m (a + i) ≡ slice_get bytes i) → read m a (length bytes) ≡ Ok bytes
unfolding read
read-bytes m a [] h = refl
read-bytes m a (b ∷ bytes) h =
    let start : a + 0 ≡ a = omega arith in
    let P : ℕ → Type 0 = λ x. m x ≡ Some b in
    let first = subst P start (h 0 (omega arith)) in
    let rest = read-bytes m (a + 1) bytes (λ i l. let e : a + suc i ≡ a + 1 + i = omega arith in let Q : ℕ → Type 0 = λ x. m x ≡ slice_get bytes i in subst Q e (h (suc i) (omega arith))) in
    ap (λ (o : Option ℕ). byte_then a o (read m (a + 1) (length bytes))) first ∙ ap (byte_then a (Some b)) rest

-- What was stored is loaded again.
pub read-written : (m : Memory) (at : ℕ) (bytes : List ℕ) → read (written m at bytes) at (length bytes) ≡ Ok bytes
read-written m at bytes = read-bytes (written m at bytes) at bytes (λ i l.
    let e : at + i - at ≡ i = omega arith in
    written-in m at bytes (at + i) (omega arith) (omega arith) ∙ ap (slice_get bytes) e)

-- A store elsewhere changes no load.
pub read-written_apart : (m : Memory) (at : ℕ) (bytes : List ℕ) (a n : ℕ) → (a + n ≤ at) ⊎ (at + length bytes ≤ a) → read (written m at bytes) a n ≡ read m a n
read-written_apart m at bytes a n (inl h) = read-alike (written m at bytes) m a n (λ i l. written-out m at bytes (a + i) (inl (omega arith)))
read-written_apart m at bytes a n (inr h) = read-alike (written m at bytes) m a n (λ i l. written-out m at bytes (a + i) (inr (omega arith)))
