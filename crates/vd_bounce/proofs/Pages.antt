-- Pages of some size, and ranges of bytes within one.
use Rattle.std.proofs.Common.{◌≡◌, ◌≢◌, ℕ, suc, ◌+◌, ◌-◌, ◌*◌, ◌/◌, ◌%◌, ◌<◌, ◌≤◌, ◌⊎◌, inl, inr, refl, ap, sym, ◌∙◌, arith, true, false, Bool, ◌&&◌, if◌then◌else◌, List, length, take, drop, length-take, length-drop, get_or-take, get_or-drop, true≢false}
use Rattle.std.proofs.lemmas.Bool.Decides.{nat_tests, leb_tells}
use Rattle.std.proofs.Math.Nat.{mul-le-mul_left, mul_comm}
use Rattle.std.specs.List.{slice_index}
use Rattle.vd_num.specs.Number.{is_within}

-- ---- a test of a range as a fact

pub within_true : (from n a : ℕ) → from ≤ a → a < from + n → is_within from n a ≡ true
within_true from n a low high = grind (arith, nat_tests)

pub within_low : (from n a : ℕ) → is_within from n a ≡ true → from ≤ a
within_low from n a h = grind (arith, nat_tests)

pub within_high : (from n a : ℕ) → is_within from n a ≡ true → a < from + n
within_high from n a h = grind (arith, nat_tests)

pub within_false : (from n a : ℕ) → (a < from) ⊎ (from + n ≤ a) → is_within from n a ≡ false
within_false from n a out = grind (arith, nat_tests)

-- two tests agree where each follows from the other
pub within_same : (from n a from' n' a' : ℕ) → (from ≤ a → a < from + n → (from' ≤ a') × (a' < from' + n')) → (from' ≤ a' → a' < from' + n' → (from ≤ a) × (a < from + n))
    → is_within from n a ≡ is_within from' n' a'
within_same from n a from' n' a' there back = by (is_within from n a) refl (is_within from' n' a') refl where
  by : (b : Bool) → is_within from n a ≡ b → (b' : Bool) → is_within from' n' a' ≡ b' → b ≡ b'
  by true e true e' = refl
  by false e false e' = refl
  by true e false e' = let at = there (within_low from n a e) (within_high from n a e) in absurd (true≢false (sym (within_true from' n' a' at.0 at.1) ∙ e'))
  by false e true e' = let at = back (within_low from' n' a' e') (within_high from' n' a' e') in absurd (true≢false (sym (within_true from n a at.0 at.1) ∙ e))

-- ---- the page of an address and the index in it

pub split : (size a : ℕ) → 0 < size → size * (a / size) + a % size ≡ a
split size a some = omega arith

pub index_small : (size a : ℕ) → 0 < size → a % size < size
index_small size a some = omega arith

-- an address in the bytes of a page lies in that page
pub page_is : (size page a : ℕ) → 0 < size → size * page ≤ a → a < size * page + size → a / size ≡ page
page_is size page a some low high = elim (leb_tells (a / size) page) [
  | inr above ↦
      (let up = above.1 in
      let next : suc page ≤ a / size = omega arith in
      let more : size * suc page ≤ size * (a / size) = mul-le-mul_left size next in
      let at = split size a some in
      absurd (omega arith))
  | inl upto ↦ elim (leb_tells page (a / size)) [
    | inl same ↦ (let u = upto.1 in let s = same.1 in omega arith)
    | inr below ↦
        (let down = below.1 in
        let next : suc (a / size) ≤ page = omega arith in
        let more : size * suc (a / size) ≤ size * page = mul-le-mul_left size next in
        let at = split size a some in
        let small = index_small size a some in
        absurd (omega arith))
  ]
]

pub index_is : (size page a : ℕ) → 0 < size → size * page ≤ a → a < size * page + size → a % size ≡ a - size * page
index_is size page a some low high =
    let at = split size a some in
    let page_at : size * (a / size) ≡ size * page = ap (λ p. size * p) (page_is size page a some low high) in
    omega arith

-- a page of a row ends within the row
pub page_room : (size page n : ℕ) → page < n → size * page + size ≤ size * n
page_room size page n below = let next : suc page ≤ n = omega arith in let more : size * suc page ≤ size * n = mul-le-mul_left size next in omega arith

-- ---- a piece within one page

module _ (size at n a : ℕ) (some : 0 < size) (fits : at % size + n ≤ size) where
  -- in that page, an address is in the piece where its index is
  pub in_page : a / size ≡ at / size → is_within at n a ≡ is_within (at % size) n (a % size)
  in_page same =
      let here = split size a some in
      let there = split size at some in
      let page : size * (a / size) ≡ size * (at / size) = ap (λ p. size * p) same in
      within_same at n a (at % size) n (a % size) (λ low high. (omega arith, omega arith)) (λ low high. (omega arith, omega arith))

  pub off_page : a / size ≢ at / size → is_within at n a ≡ false
  off_page other = by (is_within at n a) refl where
    by : (b : Bool) → is_within at n a ≡ b → b ≡ false
    by false e = refl
    by true e =
        let low = within_low at n a e in
        let high = within_high at n a e in
        let there = split size at some in
        absurd (other (page_is size (at / size) a some (omega arith) (omega arith)))

  pub same_far : a / size ≡ at / size → a % size - at % size ≡ a - at
  same_far same =
      let here = split size a some in
      let there = split size at some in
      let page : size * (a / size) ≡ size * (at / size) = ap (λ p. size * p) same in
      omega arith

-- ---- a piece after those before it

pub one_more : (at done n : ℕ) (bytes : List ℕ) (old : ℕ) (a : ℕ) → done + n ≤ length bytes
    → (if is_within (at + done) (length (take n (drop done bytes))) a then slice_index (take n (drop done bytes)) (a - (at + done)) else (if is_within at done a then slice_index bytes (a - at) else old))
    ≡ (if is_within at (done + n) a then slice_index bytes (a - at) else old)
one_more at done n bytes old a fits = rw size (by (is_within (at + done) n a) refl) where
  size : length (take n (drop done bytes)) ≡ n
  size = simp (length-take, length-drop) (omega arith)

  by : (b : Bool) → is_within (at + done) n a ≡ b
      → (if b then slice_index (take n (drop done bytes)) (a - (at + done)) else (if is_within at done a then slice_index bytes (a - at) else old))
      ≡ (if is_within at (done + n) a then slice_index bytes (a - at) else old)
  by true e =
      let low : at + done ≤ a = grind (arith, nat_tests) in
      let high : a < at + done + n = grind (arith, nat_tests) in
      let whole : is_within at (done + n) a ≡ true = grind (arith, nat_tests) in
      let near : a - (at + done) < n = omega arith in
      let far : done + (a - (at + done)) ≡ a - at = omega arith in
      get_or-take n (drop done bytes) (a - (at + done)) 0 near ∙ get_or-drop done bytes (a - (at + done)) 0 ∙ ap (λ k. slice_index bytes k) far
      ∙ sym (ap (λ b. if b then slice_index bytes (a - at) else old) whole)
  by false e =
      let same : is_within at done a ≡ is_within at (done + n) a = grind (arith, nat_tests) in
      ap (λ b. if b then slice_index bytes (a - at) else old) same

-- ---- one page more of a range of the area

module _ (size from p o : ℕ) (some : 0 < size) where
  page_in : is_within (from + size * p) size o ≡ true → ((o - from) / size ≡ p) × (is_within from (size * (p + 1)) o ≡ true)
  page_in h =
      let low = within_low (from + size * p) size o h in
      let high = within_high (from + size * p) size o h in
      (page_is size p (o - from) some (omega arith) (omega arith), within_true from (size * (p + 1)) o (omega arith) (omega arith))

  page_before : is_within (from + size * p) size o ≡ true → is_within from (size * p) o ≡ false
  page_before h = let low = within_low (from + size * p) size o h in within_false from (size * p) o (inr low)

  out_of : is_within (from + size * p) size o ≡ false → (o < from + size * p) ⊎ (from + size * p + size ≤ o)
  out_of h = elim (leb_tells (from + size * p) o) [
    | inr below ↦ inl below.1
    | inl above ↦ elim (leb_tells (from + size * p + size) o) [
      | inl past ↦ inr past.1
      | inr inside ↦ absurd (true≢false (sym (within_true (from + size * p) size o above.1 inside.1) ∙ h))
    ]
  ]

  page_out : is_within (from + size * p) size o ≡ false → is_within from (size * p) o ≡ is_within from (size * (p + 1)) o
  page_out h = by (out_of h) where
    by : (o < from + size * p) ⊎ (from + size * p + size ≤ o) → is_within from (size * p) o ≡ is_within from (size * (p + 1)) o
    by (inl below) = within_same from (size * p) o from (size * (p + 1)) o (λ low high. (low, omega arith)) (λ low high. (low, below))
    by (inr past) = within_same from (size * p) o from (size * (p + 1)) o (λ low high. (low, omega arith)) (λ low high. absurd (omega arith))

  pub area_then : (x y z : ℕ) (used : ℕ → Bool) → used p ≡ true → ((o - from) / size ≡ p → x ≡ y)
      → (if is_within (from + size * p) size o then x else (if is_within from (size * p) o && used ((o - from) / size) then y else z))
      ≡ (if is_within from (size * (p + 1)) o && used ((o - from) / size) then y else z)
  area_then x y z used uses same = by (is_within (from + size * p) size o) refl where
    by : (b : Bool) → is_within (from + size * p) size o ≡ b
        → (if b then x else (if is_within from (size * p) o && used ((o - from) / size) then y else z))
        ≡ (if is_within from (size * (p + 1)) o && used ((o - from) / size) then y else z)
    by true e =
        let i = page_in e in
        let whole : (is_within from (size * (p + 1)) o && used ((o - from) / size)) ≡ true = ap (λ b. b && used ((o - from) / size)) i.1 ∙ ap used i.0 ∙ uses in
        same i.0 ∙ sym (ap (λ b. if b then y else z) whole)
    by false e = ap (λ b. if b && used ((o - from) / size) then y else z) (page_out e)

  pub area_else : (y z : ℕ) (used : ℕ → Bool) → used p ≡ false
      → (if is_within from (size * p) o && used ((o - from) / size) then y else z) ≡ (if is_within from (size * (p + 1)) o && used ((o - from) / size) then y else z)
  area_else y z used spares = by (is_within (from + size * p) size o) refl where
    by : (b : Bool) → is_within (from + size * p) size o ≡ b
        → (if is_within from (size * p) o && used ((o - from) / size) then y else z) ≡ (if is_within from (size * (p + 1)) o && used ((o - from) / size) then y else z)
    by true e =
        let i = page_in e in
        let none : (is_within from (size * (p + 1)) o && used ((o - from) / size)) ≡ false = ap (λ b. b && used ((o - from) / size)) i.1 ∙ ap used i.0 ∙ spares in
        ap (λ b. if b && used ((o - from) / size) then y else z) (page_before e) ∙ sym (ap (λ b. if b then y else z) none)
    by false e = ap (λ b. if b && used ((o - from) / size) then y else z) (page_out e)

-- a choice by a test whose first side is equal where the test holds
pub by_test : (b : Bool) (x y z : ℕ) → (b ≡ true → x ≡ y) → (if b then x else z) ≡ (if b then y else z)
by_test true x y z same = same refl
by_test false x y z same = refl

-- up to 2 to the 32nd pages of up to 16 slots
pub pages_small : (g n : ℕ) → g ≤ 16 → n < 4294967296 → 4096 * g * n ≤ 281474976710656
pages_small g n few many =
    let more : g * n ≤ 16 * n = (let turned : n * g ≤ n * 16 = mul-le-mul_left n few in omega (arith, mul_comm n g, mul_comm n 16)) in
    omega arith
