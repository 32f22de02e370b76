-- Pages of slots, and bytes in pages.
use Rattle.std.proofs.Common.{◌≡◌, ℕ, suc, ◌+◌, ◌-◌, ◌*◌, ◌/◌, ◌<◌, ◌≤◌, inl, inr, refl, ap, sym, ◌∙◌, arith, Bool, true, false, ◌==◌, ◌&&◌, if◌then◌else◌, nat_le, nat_lt}
use Rattle.std.proofs.lemmas.Bool.Decides.{nat_tests, leb_tells}
use Rattle.std.proofs.Math.Nat.{mul-le-mul_left}
use Rattle.vd_num.specs.Number.{is_within}
use Rattle.vd_model.specs.declared.memory.Origin.{Origin}
use Rattle.vd_origin_moves.specs.declared.placed.Stretch.{Stretch}
use Rattle.vd_origin_moves.specs.Placed.{stretch_meets}

-- a number lies before the end of a page where its own page isn't a later one
before_end : (g a page : ℕ) → 0 < g → nat_lt a (g * page + g) ≡ nat_le (a / g) page
before_end g a page some = elim (leb_tells (a / g) page) [
  | inl upto ↦
      (let u = upto.1 in
      let more : g * (a / g) ≤ g * page = mul-le-mul_left g u in
      let low : a < g * page + g = omega arith in
      let yes : nat_lt a (g * page + g) ≡ true = grind (arith, nat_tests, low) in
      yes ∙ sym upto.0)
  | inr past ↦
      (let p : suc page ≤ a / g = (let q = past.1 in omega arith) in
      let more : g * suc page ≤ g * (a / g) = mul-le-mul_left g p in
      let high : g * page + g ≤ a = omega arith in
      let no : nat_lt a (g * page + g) ≡ false = grind (arith, nat_tests, high) in
      no ∙ sym past.0)
]

-- a page begins at a number or before it where the number's page isn't an earlier one
from_start : (g a page : ℕ) → 0 < g → nat_le (g * page) a ≡ nat_le page (a / g)
from_start g a page some = elim (leb_tells page (a / g)) [
  | inl upto ↦
      (let u = upto.1 in
      let more : g * page ≤ g * (a / g) = mul-le-mul_left g u in
      let low : g * page ≤ a = omega arith in
      let yes : nat_le (g * page) a ≡ true = grind (arith, nat_tests, low) in
      yes ∙ sym upto.0)
  | inr past ↦
      (let p : suc (a / g) ≤ page = (let q = past.1 in omega arith) in
      let more : g * suc (a / g) ≤ g * page = mul-le-mul_left g p in
      let high : a < g * page = omega arith in
      let no : nat_le (g * page) a ≡ false = grind (arith, nat_tests, high) in
      no ∙ sym past.0)
]

-- the bytes of a page are those whose page it is
pub of_page : (g page a : ℕ) → 0 < g → is_within (page * g) g a ≡ (a / g == page)
of_page g page a some = ap (λ n. is_within n g a) turn ∙ ap (λ b. b && nat_lt a (g * page + g)) (from_start g a page some) ∙ ap (λ b. nat_le page (a / g) && b) (before_end g a page some) ∙ same (a / g) page where
  turn : page * g ≡ g * page
  turn = omega arith

  same : (n m : ℕ) → (nat_le m n && nat_le n m) ≡ (n == m)
  same n m = grind (arith, nat_tests)

-- a stretch meets no page before that of its first slot, and none past that of its end
pub no_earlier : (g page : ℕ) (s : Stretch) → 0 < g → page < s.slot / g → stretch_meets g page s ≡ false
no_earlier g page s some less = ap (λ b. nat_lt (g * page) (s.slot + s.count) && b) (before_end g s.slot page some ∙ no (s.slot / g) less) ∙ both (nat_lt (g * page) (s.slot + s.count)) where
  no : (n : ℕ) → page < n → nat_le n page ≡ false
  no n less = grind (arith, nat_tests)

  both : (b : Bool) → (b && false) ≡ false
  both true = refl
  both false = refl

pub no_later : (g page : ℕ) (s : Stretch) → 0 < g → (s.slot + s.count) / g < page → stretch_meets g page s ≡ false
no_later g page s some less = ap (λ b. b && nat_lt s.slot (g * page + g)) past where
  at_end : nat_le (g * page) (s.slot + s.count) ≡ false
  at_end = from_start g (s.slot + s.count) page some ∙ no ((s.slot + s.count) / g) less where
    no : (n : ℕ) → n < page → nat_le page n ≡ false
    no n less = grind (arith, nat_tests)

  past : nat_lt (g * page) (s.slot + s.count) ≡ false
  past = grind (arith, nat_tests, at_end)

-- ---- a page more

-- each page before this one that passes got something, and this one passes and gets it
pub taken_step : (test : ℕ → Bool) (pg page : ℕ) (new now old base : Origin) → test page ≡ true → now ≡ (if pg == page then new else old)
    → old ≡ (if nat_lt pg page && test pg then new else base) → now ≡ (if nat_lt pg (page + 1) && test pg then new else base)
taken_step test pg page new now old base passes now_is old_is = elim (leb_tells pg page) [
  | inr past ↦
      (let p = past.1 in
      let other : (pg == page) ≡ false = grind (arith, nat_tests) in
      let before : nat_lt pg page ≡ false = grind (arith, nat_tests) in
      let here : nat_lt pg (page + 1) ≡ false = grind (arith, nat_tests) in
      now_is ∙ ap (λ b. if b then new else old) other ∙ old_is ∙ ap (λ b. if b && test pg then new else base) (before ∙ sym here))
  | inl upto ↦ elim (leb_tells page pg) [
    | inl both ↦
        (let u = upto.1 in
        let d = both.1 in
        let e : pg ≡ page = omega arith in
        let same : (pg == page) ≡ true = grind (arith, nat_tests) in
        let here : nat_lt pg (page + 1) ≡ true = grind (arith, nat_tests) in
        now_is ∙ ap (λ b. if b then new else old) same
        ∙ sym (ap (λ b. if b && test pg then new else base) here ∙ ap (λ b. if b then new else base) (ap test e ∙ passes)))
    | inr less ↦
        (let l = less.1 in
        let other : (pg == page) ≡ false = grind (arith, nat_tests) in
        let before : nat_lt pg page ≡ true = grind (arith, nat_tests) in
        let here : nat_lt pg (page + 1) ≡ true = grind (arith, nat_tests) in
        now_is ∙ ap (λ b. if b then new else old) other ∙ old_is ∙ ap (λ b. if b && test pg then new else base) (before ∙ sym here))
  ]
]

-- the same where it doesn't pass
pub passed_step : (test : ℕ → Bool) (pg page : ℕ) (new now old base : Origin) → test page ≡ false → now ≡ old
    → old ≡ (if nat_lt pg page && test pg then new else base) → now ≡ (if nat_lt pg (page + 1) && test pg then new else base)
passed_step test pg page new now old base fails now_is old_is = elim (leb_tells pg page) [
  | inr past ↦
      (let p = past.1 in
      let before : nat_lt pg page ≡ false = grind (arith, nat_tests) in
      let here : nat_lt pg (page + 1) ≡ false = grind (arith, nat_tests) in
      now_is ∙ old_is ∙ ap (λ b. if b && test pg then new else base) (before ∙ sym here))
  | inl upto ↦ elim (leb_tells page pg) [
    | inl both ↦
        (let u = upto.1 in
        let d = both.1 in
        let e : pg ≡ page = omega arith in
        let before : nat_lt pg page ≡ false = grind (arith, nat_tests) in
        let here : nat_lt pg (page + 1) ≡ true = grind (arith, nat_tests) in
        now_is ∙ old_is ∙ ap (λ b. if b && test pg then new else base) before
        ∙ sym (ap (λ b. if b && test pg then new else base) here ∙ ap (λ b. if b then new else base) (ap test e ∙ fails)))
    | inr less ↦
        (let l = less.1 in
        let before : nat_lt pg page ≡ true = grind (arith, nat_tests) in
        let here : nat_lt pg (page + 1) ≡ true = grind (arith, nat_tests) in
        now_is ∙ old_is ∙ ap (λ b. if b && test pg then new else base) (before ∙ sym here))
  ]
]

-- a page more, of which some bytes got something if it passes
pub step_more : (test : ℕ → Bool) (pg page : ℕ) (within : Bool) (new now old base : Origin) → within ≡ (test page && (pg == page)) → now ≡ (if within then new else old)
    → old ≡ (if nat_lt pg page && test pg then new else base) → now ≡ (if nat_lt pg (page + 1) && test pg then new else base)
step_more test pg page within new now old base w n o = by (test page) refl where
  by : (b : Bool) → test page ≡ b → now ≡ (if nat_lt pg (page + 1) && test pg then new else base)
  by true h = taken_step test pg page new now old base h (n ∙ ap (λ x. if x then new else old) (w ∙ ap (λ x. x && (pg == page)) h)) o
  by false h = passed_step test pg page new now old base h (n ∙ ap (λ x. if x then new else old) (w ∙ ap (λ x. x && (pg == page)) h)) o

-- the same within a guard that doesn't look at pages
pub guarded_more : (guard : Bool) (test : ℕ → Bool) (pg page : ℕ) (within : Bool) (new now old base : Origin) → within ≡ (test page && ((pg == page) && guard)) → now ≡ (if within then new else old)
    → old ≡ (if guard && (nat_lt pg page && test pg) then new else base) → now ≡ (if guard && (nat_lt pg (page + 1) && test pg) then new else base)
guarded_more true test pg page within new now old base w n o = step_more test pg page within new now old base (w ∙ ap (λ x. test page && x) (and_true (pg == page))) n o where
  and_true : (b : Bool) → (b && true) ≡ b
  and_true true = refl
  and_true false = refl
guarded_more false test pg page within new now old base w n o = n ∙ ap (λ x. if x then new else old) (w ∙ never (test page) (pg == page)) ∙ o where
  never : (b c : Bool) → (b && (c && false)) ≡ false
  never true true = refl
  never true false = refl
  never false c = refl

-- a part below an end, moved behind a base
pub moved_part : (base at len size o : ℕ) (t e : Bool) → is_within at len (o - base) ≡ (t && (e && nat_lt (o - base) size))
    → is_within (base + at) len o ≡ (t && (e && is_within base size o))
moved_part base at len size o t e part = elim (leb_tells base o) [
  | inl upto ↦
      (let u = upto.1 in
      let here : is_within (base + at) len o ≡ is_within at len (o - base) = grind (arith, nat_tests) in
      let whole : is_within base size o ≡ nat_lt (o - base) size = grind (arith, nat_tests) in
      here ∙ part ∙ ap (λ b. t && (e && b)) (sym whole))
  | inr past ↦
      (let p = past.1 in
      let here : is_within (base + at) len o ≡ false = grind (arith, nat_tests) in
      let whole : is_within base size o ≡ false = grind (arith, nat_tests) in
      here ∙ sym (ap (λ b. t && (e && b)) whole ∙ never t e))
] where
  never : (b c : Bool) → (b && (c && false)) ≡ false
  never true true = refl
  never true false = refl
  never false c = refl

-- what is read of the source of a copy
pub from_source : (f : ℕ → Origin) (base at len o : ℕ) (old : Origin)
    → (if is_within (base + at) len o then f (at + (o - (base + at))) else old) ≡ (if is_within (base + at) len o then f (o - base) else old)
from_source f base at len o old = elim (leb_tells (base + at) o) [
  | inl upto ↦
      (let u = upto.1 in
      let same : at + (o - (base + at)) ≡ o - base = omega arith in
      ap (λ n. if is_within (base + at) len o then f n else old) same)
  | inr past ↦
      (let p = past.1 in
      let here : is_within (base + at) len o ≡ false = grind (arith, nat_tests) in
      ap (λ b. if b then f (at + (o - (base + at))) else old) here ∙ sym (ap (λ b. if b then f (o - base) else old) here))
]

pub to_target : (f : ℕ → Origin) (base at len a : ℕ) (old : Origin)
    → (if is_within at len a then f (base + at + (a - at)) else old) ≡ (if is_within at len a then f (base + a) else old)
to_target f base at len a old = elim (leb_tells at a) [
  | inl upto ↦
      (let u = upto.1 in
      let same : base + at + (a - at) ≡ base + a = omega arith in
      ap (λ n. if is_within at len a then f n else old) same)
  | inr past ↦
      (let p = past.1 in
      let here : is_within at len a ≡ false = grind (arith, nat_tests) in
      ap (λ b. if b then f (base + at + (a - at)) else old) here ∙ sym (ap (λ b. if b then f (base + a) else old) here))
]

-- before the first page, nothing is done
pub none_yet : (pg page : ℕ) (m n : Bool) (new old : Origin) → (pg < page → m ≡ false) → old ≡ (if nat_lt pg page && (m && n) then new else old)
none_yet pg page m n new old quiet = elim (leb_tells page pg) [
  | inl upto ↦
      (let u = upto.1 in
      let no : nat_lt pg page ≡ false = grind (arith, nat_tests) in
      sym (ap (λ b. if b && (m && n) then new else old) no))
  | inr less ↦ sym (ap (λ b. if nat_lt pg page && (b && n) then new else old) (quiet less.1) ∙ never (nat_lt pg page))
] where
  never : (b : Bool) → (if b && (false && n) then new else old) ≡ old
  never true = refl
  never false = refl

-- behind the last page, everything is
pub all_done : (pg last page : ℕ) (m n : Bool) (new base : Origin) → last + 1 ≤ page → (last < pg → m ≡ false)
    → (if nat_lt pg page && (m && n) then new else base) ≡ (if m && n then new else base)
all_done pg last page m n new base ends quiet = elim (leb_tells pg last) [
  | inl upto ↦
      (let u = upto.1 in
      let yes : nat_lt pg page ≡ true = grind (arith, nat_tests) in
      ap (λ b. if b && (m && n) then new else base) yes)
  | inr past ↦ ap (λ b. if nat_lt pg page && (b && n) then new else base) (quiet past.1) ∙ never (nat_lt pg page) ∙ sym (ap (λ b. if b && n then new else base) (quiet past.1))
] where
  never : (b : Bool) → (if b && (false && n) then new else base) ≡ base
  never true = refl
  never false = refl

pub order_pages : (g a b : ℕ) → 0 < g → a ≤ b → a / g ≤ b / g
order_pages g a b some le = elim (leb_tells (a / g) (b / g)) [
  | inl upto ↦ upto.1
  | inr past ↦
      (let p : suc (b / g) ≤ a / g = (let q = past.1 in omega arith) in
      let more : g * suc (b / g) ≤ g * (a / g) = mul-le-mul_left g p in
      absurd (omega arith))
]

-- every page of what lies below a size was passed
pub all_passed : (g a size page : ℕ) (u : Bool) (new base : Origin) → 0 < g → size / g + 1 ≤ page → (if nat_lt a size && (nat_lt (a / g) page && u) then new else base) ≡ (if nat_lt a size && u then new else base)
all_passed g a size page u new base some ends = elim (leb_tells size a) [
  | inl upto ↦
      (let q = upto.1 in
      let no : nat_lt a size ≡ false = grind (arith, nat_tests) in
      ap (λ b. if b && (nat_lt (a / g) page && u) then new else base) no ∙ sym (ap (λ b. if b && u then new else base) no))
  | inr less ↦
      (let q = less.1 in
      let order : a / g ≤ size / g = order_pages g a size some (omega arith) in
      ap (λ b. if nat_lt a size && (b && u) then new else base) (passed (a / g) (size / g) order ends))
] where
  passed : (n m : ℕ) → n ≤ m → m + 1 ≤ page → nat_lt n page ≡ true
  passed n m order ends = grind (arith, nat_tests)

pub all_moved : (g base size o page : ℕ) (u : Bool) (new old : Origin) → 0 < g → size / g + 1 ≤ page
    → (if is_within base size o && (nat_lt ((o - base) / g) page && u) then new else old) ≡ (if is_within base size o && u then new else old)
all_moved g base size o page u new old some ends = elim (leb_tells base o) [
  | inl upto ↦
      (let q = upto.1 in
      let whole : is_within base size o ≡ nat_lt (o - base) size = grind (arith, nat_tests) in
      ap (λ b. if b && (nat_lt ((o - base) / g) page && u) then new else old) whole
      ∙ all_passed g (o - base) size page u new old some ends
      ∙ ap (λ b. if b && u then new else old) (sym whole))
  | inr past ↦
      (let q = past.1 in
      let no : is_within base size o ≡ false = grind (arith, nat_tests) in
      ap (λ b. if b && (nat_lt ((o - base) / g) page && u) then new else old) no ∙ sym (ap (λ b. if b && u then new else old) no))
]
