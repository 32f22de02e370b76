-- The pages that mappings meet.
use Rattle.std.proofs.Common.{◌≡◌, ℕ, ◌+◌, ◌*◌, ◌/◌, ◌<◌, ◌≤◌, Bool, true, false, refl, ap, subst, ◌∙◌, sym, arith, List, [], ◌∷◌, ◌==◌, ◌||◌, not, nat_lt, ◌⊎◌, inl, inr}
use Rattle.std.proofs.lemmas.Bool.{lt-ltb, le-ltb, ltb-true, ltb-false, and_from, and_left, and_right}
use Rattle.std.proofs.lemmas.Nat.{le-div}
use Rattle.std.proofs.Math.Nat.{mul-div-le, lt-div-mul-add, mul_assoc, mul_comm, mul_left_comm, mul-le-mul_left}
use Rattle.vd_num.specs.Number.{pages_of}
use Rattle.vd_model.specs.Acts.{Act, Node, Driver, Streaming, Mapped, Unmapped, Registered, Deregistered}
use Rattle.vd_model.specs.Live.{live_mappings, iova_of, maps_address, page_of, meets_page, is_present}
use Rattle.vd_laws.specs.Among.{Among}
use Rattle.vd_laws.proofs.Lists.{pushed, filtered, any_true}
use Rattle.vd_laws.proofs.Legal.{covers}
use Rattle.vd_laws.proofs.Ranges.{is_in, in_range}

-- an address of a mapping lies in one of its slots
pub on_slot : (m : Streaming) (a : ℕ) → maps_address m a ≡ true → covers m (a / 4096) ≡ true
on_slot m a h =
    let r = is_in (iova_of m) m.want.len a h in
    let low : 4096 * m.slot ≤ a = r.0 in
    let high : a < 4096 * m.slot + m.want.len = r.1 in
    in_range m.slot (pages_of m.want.len) (a / 4096) (omega arith) (omega arith)

-- where an address's page begins and ends, in slots
page_low : (g a : ℕ) → 4096 * (g * page_of g a) ≤ a
page_low g a = let e : 4096 * g * (a / (4096 * g)) ≡ 4096 * (g * (a / (4096 * g))) = mul_assoc 4096 g (a / (4096 * g)) in let l = mul-div-le a (4096 * g) in omega arith

page_high : (g a : ℕ) → 0 < g → a < 4096 * (g * page_of g a) + 4096 * g
page_high g a low =
    let e : 4096 * g * (a / (4096 * g)) ≡ 4096 * (g * (a / (4096 * g))) = mul_assoc 4096 g (a / (4096 * g)) in
    let c : a / (4096 * g) * (4096 * g) ≡ 4096 * g * (a / (4096 * g)) = mul_comm (a / (4096 * g)) (4096 * g) in
    let some : 0 < 4096 * g = omega arith in
    let h = lt-div-mul-add {a = a} {b = 4096 * g} some in
    omega arith

-- an address of a mapping lies on a page that it meets
pub on_page : (g : ℕ) (m : Streaming) (a : ℕ) → 0 < g → maps_address m a ≡ true → meets_page g (page_of g a) m ≡ true
on_page g m a some h =
    let r = is_in (iova_of m) m.want.len a h in
    let low : 4096 * m.slot ≤ a = r.0 in
    let high : a < 4096 * m.slot + m.want.len = r.1 in
    let p = page_low g a in
    let q = page_high g a some in
    and_from (nat_lt (g * page_of g a) (m.slot + pages_of m.want.len)) (nat_lt m.slot (g * page_of g a + g))
    (lt-ltb (g * page_of g a) (m.slot + pages_of m.want.len) (before (g * page_of g a) p))
    (lt-ltb m.slot (g * page_of g a + g) (after (g * page_of g a) q)) where
      before : (n : ℕ) → 4096 * n ≤ a → n < m.slot + pages_of m.want.len
      before n p = let r = is_in (iova_of m) m.want.len a h in let high : a < 4096 * m.slot + m.want.len = r.1 in omega arith

      after : (n : ℕ) → a < 4096 * n + 4096 * g → m.slot < n + g
      after n q = let r = is_in (iova_of m) m.want.len a h in let low : 4096 * m.slot ≤ a = r.0 in omega arith

-- a page of no slots is met by nothing
pub no_slots : (page : ℕ) (m : Streaming) → meets_page 0 page m ≡ false
no_slots page m = and_right (nat_lt (0 * page) (m.slot + pages_of m.want.len)) (nat_lt m.slot (0 * page + 0)) (le-ltb m.slot (0 * page + 0) (omega arith))

over : (i j k : ℕ) → i ≤ j → k ≤ i → k ≤ j
over i j k le ge = omega arith

-- past whole pages of bounce memory no mapping within it meets the page
pub past_pages : (g n a : ℕ) (m : Streaming) → m.slot + pages_of m.want.len ≤ n * g → 4096 * (n * g) ≤ a → meets_page g (page_of g a) m ≡ false
past_pages g n a m fits high = by (nat_lt 0 g) refl where
  by : (b : Bool) → nat_lt 0 g ≡ b → meets_page g (page_of g a) m ≡ false
  by true e =
      let some : 0 < g = ltb-true 0 g e in
      let first : n * (4096 * g) ≡ 4096 * (n * g) = mul_left_comm n 4096 g in
      let whole : n ≤ a / (4096 * g) = le-div n a (4096 * g) (omega arith) (omega arith) in
      let more : g * n ≤ g * page_of g a = mul-le-mul_left g whole in
      let same : n * g ≡ g * n = mul_comm n g in
      and_left (nat_lt (g * page_of g a) (m.slot + pages_of m.want.len)) (nat_lt m.slot (g * page_of g a + g))
      (le-ltb (g * page_of g a) (m.slot + pages_of m.want.len) (over (g * n) (g * page_of g a) (m.slot + pages_of m.want.len) more (subst (λ k. m.slot + pages_of m.want.len ≤ k) same fits)))
  by false e =
      let none : g ≡ 0 = (let f = ltb-false 0 g e in omega arith) in
      subst (λ g. meets_page g (page_of g a) m ≡ false) (sym none) (no_slots (page_of 0 a) m)

pub or_true : (b : Bool) → (b || true) ≡ true
or_true true = refl
or_true false = refl

-- the pages of a live mapping are present
pub live_mappings_present : (g : ℕ) (acts : List Act) (m : Streaming) (page : ℕ) → Among m (live_mappings acts) → meets_page g page m ≡ true → is_present g acts page ≡ true
live_mappings_present g [] m page there c = absurd there
live_mappings_present g (Driver (Mapped n) ∷ acts) m page there c = by (pushed m n (live_mappings acts) there) (λ k. live_mappings_present g acts m page k c) where
  by : Among m (live_mappings acts) ⊎ (m ≡ n) → (Among m (live_mappings acts) → is_present g acts page ≡ true) → (meets_page g page n || is_present g acts page) ≡ true
  by (inl k) later = ap (λ b. meets_page g page n || b) (later k) ∙ or_true (meets_page g page n)
  by (inr e) later = ap (λ l. meets_page g page l || is_present g acts page) (sym e) ∙ ap (λ b. b || is_present g acts page) c
live_mappings_present g (Driver (Unmapped n) ∷ acts) m page there c = live_mappings_present g acts m page (filtered (λ l. not (l.number == n.number)) m (live_mappings acts) there).0 c
live_mappings_present g (Node (Registered base size) ∷ acts) m page there c = refl
live_mappings_present g (Node Deregistered ∷ acts) m page there c = any_true (meets_page g page) m (live_mappings acts) there c
live_mappings_present g (_ ∷ acts) m page there c = live_mappings_present g acts m page there c
