-- A frame that is out changes places with the first of those that are out.
use Rattle.std.proofs.Common.{◌≡◌, ℕ, ◌+◌, ◌<◌, ◌≢◌, ◌⊎◌, inl, inr, refl, subst, ap, sym, ◌∙◌, arith, List, length, get_or, set, length-set, get_or-set_same, get_or-set_other}
use Rattle.std.proofs.lemmas.Bool.Decides.{eqb_tells}
use Rattle.vd_pool.specs.Memory.{PoolMemory, IsSound}
use Rattle.std.specs.List.{slice_index, slice_set}

pub nat_tells : (a b : ℕ) → (a ≡ b) ⊎ (a ≢ b)
nat_tells a b = elim (eqb_tells a b) [ inl h ↦ inl h.1 | inr h ↦ inr h.1 ]

-- two writes, and what they leave
two_second : (xs : List ℕ) (a x b y i : ℕ) → i ≡ b → b < length xs → get_or (set (set xs a x) b y) i 0 ≡ y
two_second xs a x b y i e h =
    let inside : b < length (set xs a x) = omega (arith, length-set xs a x) in
    ap (λ k. get_or (set (set xs a x) b y) k 0) e ∙ get_or-set_same (set xs a x) b y 0 inside

two_first : (xs : List ℕ) (a x b y i : ℕ) → i ≢ b → i ≡ a → a < length xs → get_or (set (set xs a x) b y) i 0 ≡ x
two_first xs a x b y i ne e h = get_or-set_other (set xs a x) b i y 0 ne ∙ ap (λ k. get_or (set xs a x) k 0) e ∙ get_or-set_same xs a x 0 h

two_other : (xs : List ℕ) (a x b y i : ℕ) → i ≢ b → i ≢ a → get_or (set (set xs a x) b y) i 0 ≡ get_or xs i 0
two_other xs a x b y i nb na = get_or-set_other (set xs a x) b i y 0 nb ∙ get_or-set_other xs a i x 0 na

-- o and p are inverse to each other below n
record Inverse (n : ℕ) (o p : List ℕ) : Type 0 where
  at : (i : ℕ) → i < n → (get_or o i 0 < n) × (get_or p (get_or o i 0) 0 ≡ i)

half : (n : ℕ) (o p : List ℕ) (k g f q : ℕ) → length o ≡ n → length p ≡ n → Inverse n o p → Inverse n p o → k < n → f < n → get_or o k 0 ≡ g → get_or p f 0 ≡ q
    → Inverse n (set (set o q g) k f) (set (set p g q) f k)
half n o p k g f q lo lp there back kn fn og pq = record { at = at } where
  O : List ℕ
  O = set (set o q g) k f

  P : List ℕ
  P = set (set p g q) f k

  goes : (i j : ℕ) → get_or O i 0 ≡ j → j < n → get_or P j 0 ≡ i → (get_or O i 0 < n) × (get_or P (get_or O i 0) 0 ≡ i)
  goes i j e small e' = (subst (λ t. t < n) (sym e) small, ap (λ t. get_or P t 0) e ∙ e')

  gn : g < n
  gn = subst (λ t. t < n) og (there.at k kn).0

  qn : q < n
  qn = subst (λ t. t < n) pq (back.at f fn).0

  pg : get_or p g 0 ≡ k
  pg = ap (λ t. get_or p t 0) (sym og) ∙ (there.at k kn).1

  oq : get_or o q 0 ≡ f
  oq = ap (λ t. get_or o t 0) (sym pq) ∙ (back.at f fn).1

  at : (i : ℕ) → i < n → (get_or O i 0 < n) × (get_or P (get_or O i 0) 0 ≡ i)
  at i h = elim (nat_tells i k) [
    | inl e ↦ goes i f (two_second o q g k f i e (omega arith)) fn (two_second p g q f k f refl (omega arith) ∙ sym e)
    | inr ne ↦ elim (nat_tells i q) [
      | inl e ↦ goes i g (two_first o q g k f i ne e (omega arith)) gn
          (two_first p g q f k g (λ same. ne (e ∙ sym pq ∙ ap (λ t. get_or p t 0) (sym same) ∙ pg)) refl (omega arith) ∙ sym e)
      | inr na ↦ goes i (get_or o i 0) (two_other o q g k f i ne na) (there.at i h).0
          (two_other p g q f k (get_or o i 0)
          (λ same. na (sym (there.at i h).1 ∙ ap (λ t. get_or p t 0) same ∙ pq))
          (λ same. ne (sym (there.at i h).1 ∙ ap (λ t. get_or p t 0) same ∙ pg)) ∙ (there.at i h).1)
    ]
  ]

pub given_sound : (m : PoolMemory) (order : List ℕ) (f q g : ℕ) → IsSound m order → f < length m.frames → m.spare < length m.frames
    → slice_index order m.spare ≡ g → slice_index m.place f ≡ q
    → IsSound (record { frames = m.frames; place = slice_set (slice_set m.place g q) f m.spare; spare = m.spare + 1; per_page = m.per_page }) (slice_set (slice_set order q g) m.spare f)
given_sound m order f q g s fn kn og pq = record {
  places = length-set (set m.place g q) f m.spare ∙ length-set m.place g q ∙ s.places;
  orders = length-set (set order q g) m.spare f ∙ length-set order q g ∙ s.orders;
  spare = omega arith;
  sizes = s.sizes;
  back = (half (length m.frames) order m.place m.spare g f q s.orders s.places (record { at = s.back }) (record { at = s.forth }) kn fn og pq).at;
  forth = (half (length m.frames) m.place order f q m.spare g s.places s.orders (record { at = s.forth }) (record { at = s.back }) fn kn pq og).at;
}
