-- Which pages are present, after some got frames.
use Rattle.std.proofs.Common.{◌≡◌, ℕ, suc, ◌+◌, ◌*◌, ◌/◌, ◌%◌, ◌<◌, ◌≤◌, inl, inr, refl, ap, sym, ◌∙◌, arith, Bool, true, false, ◌&&◌, ◌||◌, nat_lt, length, Option, Some, None, true≢false}
use Rattle.std.specs.Prelude.{is_some}
use Rattle.std.specs.Option.{option_map_or}
use Rattle.std.proofs.lemmas.Bool.Decides.{nat_tests, leb_tells}
use Rattle.std.proofs.lemmas.List.{get_or_past}
use Rattle.vd_num.specs.Number.{is_within, pages_of}
use Rattle.vd_pool.specs.Memory.{PoolMemory, byte_of}
use Rattle.vd_bounce.specs.Frames.{frame_of}
use Rattle.vd_bounce.specs.Bounce.{Bounce, Iova, value, page_size, is_page_present, SameShape}
use Rattle.std.proofs.Math.Nat.{mul-le-mul_left}
use Rattle.vd_bounce.proofs.Pages.{split, index_small}
use Rattle.vd_domain.specs.Slots.{meets_slots}

turned : (t u w f : Bool) → t ≡ true → (t && (u || (w || f))) ≡ (w || (t && (u || f)))
turned t u w f e = ap (λ t. t && (u || (w || f))) e ∙ by u w f ∙ sym (ap (λ t. w || (t && (u || f))) e) where
  by : (u w f : Bool) → (u || (w || f)) ≡ (w || (u || f))
  by true true f = refl
  by true false f = refl
  by false w f = refl

pub held_present : (b b' : Bounce) (first count : ℕ) → SameShape b b' → ((p : ℕ) → p < length b.frames → is_some (frame_of b'.frames p) ≡ (is_within first count p || is_some (frame_of b.frames p)))
    → (p : ℕ) → p < length b.frames → is_page_present b' p ≡ (is_within first count p || is_page_present b p)
held_present b b' first count same frames p below =
    let inside : nat_lt p (length b.frames) ≡ true = grind (arith, nat_tests) in
    ap (λ n. nat_lt p n && (is_some b'.user || is_some (frame_of b'.frames p))) same.pages
    ∙ ap (λ u. nat_lt p (length b.frames) && (is_some u || is_some (frame_of b'.frames p))) same.user
    ∙ ap (λ f. nat_lt p (length b.frames) && (is_some b.user || f)) (frames p below)
    ∙ turned (nat_lt p (length b.frames)) (is_some b.user) (is_within first count p) (is_some (frame_of b.frames p)) inside

pub framed_present : (b : Bounce) (p : ℕ) → p < length b.frames → is_some (frame_of b.frames p) ≡ true → is_page_present b p ≡ true
framed_present b p below framed =
    let inside : nat_lt p (length b.frames) ≡ true = grind (arith, nat_tests) in
    ap (λ t. t && (is_some b.user || is_some (frame_of b.frames p))) inside ∙ ap (λ f. is_some b.user || f) framed ∙ or_true (is_some b.user) where
      or_true : (u : Bool) → (u || true) ≡ true
      or_true true = refl
      or_true false = refl

-- an address of a range lies in a page that the range's slots meet
pub address_meets : (g slot len a : ℕ) → 0 < g → 4096 * slot ≤ a → a < 4096 * slot + len → meets_slots g (a / (4096 * g)) slot (pages_of len) ≡ true
address_meets g slot len a some low high =
    let size : 0 < 4096 * g = omega arith in
    let whole : 4096 * g * (a / (4096 * g)) + a % (4096 * g) ≡ a = split (4096 * g) a size in
    let small : a % (4096 * g) < 4096 * g = index_small (4096 * g) a size in
    by (a / (4096 * g)) (a % (4096 * g)) whole small where
      by : (p r : ℕ) → 4096 * g * p + r ≡ a → r < 4096 * g → meets_slots g p slot (pages_of len) ≡ true
      by p r whole small =
          let enough : len ≤ 4096 * pages_of len = omega arith in
          let first : g * p < slot + pages_of len = omega arith in
          let second : slot < g * p + g = omega arith in
          tests (g * p) (slot + pages_of len) slot (g * p + g) first second where
            tests : (i j k l : ℕ) → i < j → k < l → (nat_lt i j && nat_lt k l) ≡ true
            tests i j k l p q = grind (arith, nat_tests)

-- an address of a page below the end lies below the end
pub page_below : (size n a : ℕ) → 0 < size → a < size * n → a / size < n
page_below size n a some below = elim (leb_tells n (a / size)) [
  | inr low ↦ low.1
  | inl past ↦
      (let p : n ≤ a / size = past.1 in
      let more : size * n ≤ size * (a / size) = mul-le-mul_left size p in
      let whole : size * (a / size) + a % size ≡ a = split size a some in
      absurd (omega arith))
]

pub page_past : (size n a : ℕ) → 0 < size → size * n ≤ a → n ≤ a / size
page_past size n a some above = elim (leb_tells n (a / size)) [
  | inl past ↦ past.1
  | inr low ↦
      (let p : suc (a / size) ≤ n = (let l = low.1 in omega arith) in
      let more : size * suc (a / size) ≤ size * n = mul-le-mul_left size p in
      let whole : size * (a / size) + a % size ≡ a = split size a some in
      let small : a % size < size = index_small size a some in
      absurd (omega arith))
]

-- an address in a page that has no frame, where nothing is registered, holds zero
pub absent_zero : (b : Bounce) (m : PoolMemory) (a : ℕ) → b.user ≡ None → is_page_present b (a / page_size b) ≡ false → value b m (Iova a) ≡ 0
absent_zero b m a none absent = by (frame_of b.frames (a / page_size b)) refl where
  by : (o : Option ℕ) → frame_of b.frames (a / page_size b) ≡ o → option_map_or (λ f. byte_of m f (a % page_size b)) o 0 ≡ 0
  by None e = refl
  by (Some f) e = elim (leb_tells (length b.frames) (a / page_size b)) [
    | inl past ↦ absurd (let nothing : frame_of b.frames (a / page_size b) ≡ None = get_or_past b.frames (a / page_size b) None past.1 in some_is_not_none (sym e ∙ nothing))
    | inr inside ↦ absurd (true≢false (sym (framed_present b (a / page_size b) inside.1 (ap is_some e)) ∙ absent))
  ] where
    some_is_not_none : {n : ℕ} → Some n ≡ None → ⊥
    some_is_not_none h = cc
