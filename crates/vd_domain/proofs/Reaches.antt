-- A range of addresses over the end of bounce memory.
use Rattle.std.proofs.Common.{◌≡◌, ℕ, zero, suc, ◌+◌, ◌-◌, ◌/◌, ◌<◌, ◌≤◌, inl, inr, refl, ap, ◌∙◌, sym, arith, Bool, true, false, Option, None, min, nat_lt, List, length, take, drop, ◌++◌, if◌then◌else◌, get_or-take, get_or-drop, length-take, length-drop}
use Rattle.std.proofs.lemmas.Bool.Decides.{nat_tests, leb_tells}
use Rattle.std.proofs.lemmas.List.{get_or_append_left, get_or-append_right}
use Rattle.std.specs.List.{slice_index}
use Rattle.vd_num.specs.Number.{is_within}
use Rattle.vd_pool.specs.Memory.{PoolMemory}
use Rattle.vd_bounce.specs.Bounce.{Bounce, bounce_len, page_size, value, home_place, is_page_present, IsThere}
use Rattle.vd_model.specs.AreaTurns.{first_failing}
use Rattle.vd_domain.specs.Reached.{is_reached, byte_at}
use Rattle.vd_domain.proofs.Failing.{up, first_failing_past, first_failing_shifted}

pub low_same : (b s : Bounce) (a : ℕ) → a < bounce_len b → is_reached b s a ≡ is_page_present b (a / page_size b)
low_same b s a below =
    let test : nat_lt a (bounce_len b) ≡ true = grind (arith, nat_tests) in
    ap (λ t. if t then is_page_present b (a / page_size b) else is_page_present s ((a - bounce_len b) / page_size s)) test

pub high_same : (b s : Bounce) (a : ℕ) → bounce_len b ≤ a → is_reached b s a ≡ is_page_present s ((a - bounce_len b) / page_size s)
high_same b s a above =
    let test : nat_lt a (bounce_len b) ≡ false = grind (arith, nat_tests) in
    ap (λ t. if t then is_page_present b (a / page_size b) else is_page_present s ((a - bounce_len b) / page_size s)) test

pub low_byte : (b : Bounce) (m : PoolMemory) (s : Bounce) (n : PoolMemory) (a : ℕ) → a < bounce_len b → byte_at b m s n a ≡ value b m (home_place b a)
low_byte b m s n a below =
    let test : nat_lt a (bounce_len b) ≡ true = grind (arith, nat_tests) in
    ap (λ t. if t then value b m (home_place b a) else value s n (home_place s (a - bounce_len b))) test

pub high_byte : (b : Bounce) (m : PoolMemory) (s : Bounce) (n : PoolMemory) (a : ℕ) → bounce_len b ≤ a → byte_at b m s n a ≡ value s n (home_place s (a - bounce_len b))
high_byte b m s n a above =
    let test : nat_lt a (bounce_len b) ≡ false = grind (arith, nat_tests) in
    ap (λ t. if t then value b m (home_place b a) else value s n (home_place s (a - bounce_len b))) test

-- the part behind the end, where bounce memory ends at `top`
module _ (at len near top : ℕ) (is : near ≡ min len (top - at)) where
  pub behind : (k : ℕ) → at - top ≤ k → k < (at - top) + (len - near) → (at ≤ k + top) × (k + top < at + len)
  behind k low high = (omega arith, omega arith)

  pub before : (k : ℕ) → k < near → at + k < top
  before k below = omega arith

  pub past : (k : ℕ) → near ≤ k → k < len → (top ≤ at + k) × (at + k - top ≡ (at - top) + (k - near))
  past k low high = (omega arith, omega arith)

pub high_open : (b s : Bounce) (at len near : ℕ) → near ≡ min len (bounce_len b - at) → ((a : ℕ) → at ≤ a → a < at + len → is_reached b s a ≡ true)
    → (a : ℕ) → at - bounce_len b ≤ a → a < (at - bounce_len b) + (len - near) → is_page_present s (a / page_size s) ≡ true
high_open b s at len near is reach a low high =
    let top = bounce_len b in
    let k = behind at len near top is a low high in
    let back : a + top - top ≡ a = omega arith in
    ap (λ i. is_page_present s (i / page_size s)) (sym back) ∙ sym (high_same b s (a + top) (omega arith)) ∙ reach (a + top) k.0 k.1

pub read_is : (b : Bounce) (m : PoolMemory) (s : Bounce) (n : PoolMemory) (at len near : ℕ) (low high : List ℕ) → near ≡ min len (bounce_len b - at) → length low ≡ near
    → ((i : ℕ) → i < near → slice_index low i ≡ value b m (home_place b (at + i)))
    → ((i : ℕ) → i < len - near → slice_index high i ≡ value s n (home_place s ((at - bounce_len b) + i)))
    → (i : ℕ) → i < len → slice_index (low ++ high) i ≡ byte_at b m s n (at + i)
read_is b m s n at len near low high is long lows highs i below = elim (leb_tells near i) [
  | inr first ↦
      (let f : i < near = first.1 in
      get_or_append_left low high 0 i (omega arith) ∙ lows i f ∙ sym (low_byte b m s n (at + i) (before at len near (bounce_len b) is i f)))
  | inl second ↦
      (let f : near ≤ i = second.1 in
      let p = past at len near (bounce_len b) is i f below in
      get_or-append_right low high near i 0 long f ∙ highs (i - near) (omega arith)
      ∙ ap (λ k. value s n (home_place s k)) (sym p.1) ∙ sym (high_byte b m s n (at + i) p.0))
]

-- a fault behind the end, and none before it
pub joined : (b s : Bounce) (at len near : ℕ) → near ≡ min len (bounce_len b - at) → ((a : ℕ) → at ≤ a → a < at + near → is_page_present b (a / page_size b) ≡ true)
    → (o : Option ℕ) → first_failing (λ a. is_page_present s (a / page_size s)) (at - bounce_len b) (len - near) ≡ o → first_failing (is_reached b s) at len ≡ up (bounce_len b) o
joined b s at len near is there o e =
    first_failing_past (is_reached b s) at near len (omega arith) (λ a low high. low_same b s a (let k = before at len near (bounce_len b) is (a - at) (omega arith) in omega arith) ∙ there a low high)
    ∙ by (len - near) refl where
      top : ℕ
      top = bounce_len b

      by : (k : ℕ) → len - near ≡ k → first_failing (is_reached b s) (at + near) (len - near) ≡ up (bounce_len b) o
      by zero z =
          let none : None ≡ o = sym (ap (λ k. first_failing (λ a. is_page_present s (a / page_size s)) (at - bounce_len b) k) z) ∙ e in
          ap (λ k. first_failing (is_reached b s) (at + near) k) z ∙ ap (λ o. up (bounce_len b) o) none
      by (suc k) z =
          let start : at + near ≡ (at - bounce_len b) + bounce_len b = omega arith in
          ap (λ a. first_failing (is_reached b s) a (len - near)) start
          ∙ first_failing_shifted (is_reached b s) (λ a. is_page_present s (a / page_size s)) (at - bounce_len b) (bounce_len b) (len - near)
          (λ a low high. high_same b s (a + bounce_len b) (omega arith) ∙ ap (λ i. is_page_present s (i / page_size s)) (let back : a + bounce_len b - bounce_len b ≡ a = omega arith in back)) o e

-- what stands behind the end after the second part of a text was written there
pub written_behind : (at len near top : ℕ) (text : List ℕ) (b old : ℕ) → length text ≡ len → near ≡ min len (top - at)
    → (if is_within (at - top) (length (take (len - near) (drop near text))) b then slice_index (take (len - near) (drop near text)) (b - (at - top)) else old)
    ≡ (if is_within at len (top + b) then slice_index text (top + b - at) else old)
written_behind at len near top text b old long is = rw size (by (is_within at len (top + b)) refl) where
  size : length (take (len - near) (drop near text)) ≡ len - near
  size = simp (length-take, length-drop) (omega arith)

  test : is_within (at - top) (len - near) b ≡ is_within at len (top + b)
  test = grind (arith, nat_tests)

  by : (t : Bool) → is_within at len (top + b) ≡ t
      → (if is_within (at - top) (len - near) b then slice_index (take (len - near) (drop near text)) (b - (at - top)) else old)
      ≡ (if t then slice_index text (top + b - at) else old)
  by true e =
      let low : at ≤ top + b = grind (arith, nat_tests) in
      let high : top + b < at + len = grind (arith, nat_tests) in
      let inside : b - (at - top) < len - near = omega arith in
      let same : near + (b - (at - top)) ≡ top + b - at = omega arith in
      ap (λ t. if t then slice_index (take (len - near) (drop near text)) (b - (at - top)) else old) (test ∙ e)
      ∙ get_or-take (len - near) (drop near text) (b - (at - top)) 0 inside ∙ get_or-drop near text (b - (at - top)) 0 ∙ ap (λ k. slice_index text k) same
  by false e = ap (λ t. if t then slice_index (take (len - near) (drop near text)) (b - (at - top)) else old) (test ∙ e)

-- what lies in one page of either can be accessed
pub low_page : (b s : Bounce) (at len : ℕ) → IsThere b at len → at + len ≤ bounce_len b → (a : ℕ) → at ≤ a → a < at + len → is_reached b s a ≡ true
low_page b s at len there ends a low high = low_same b s a (omega arith) ∙ there a low high

pub high_page : (b s : Bounce) (at len : ℕ) → bounce_len b ≤ at → IsThere s (at - bounce_len b) len → (a : ℕ) → at ≤ a → a < at + len → is_reached b s a ≡ true
high_page b s at len above there a low high = high_same b s a (omega arith) ∙ there (a - bounce_len b) (omega arith) (omega arith)
