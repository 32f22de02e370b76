-- A pool after a frame was taken, after one was made, and after one was written.
use Rattle.std.proofs.Common.{◌≡◌, ℕ, zero, suc, ◌-◌, ◌*◌, ◌<◌, ◌≤◌, ◌≢◌, refl, subst, ap, sym, ◌∙◌, arith, List, [], ◌∷◌, ◌++◌, length, replicate, length-set, false, ◌==◌, ◌||◌, nat_lt, nat_le, ◌&&◌, inl, inr, get_or-set_same, get_or-set_other}
use Rattle.std.proofs.lemmas.Grind.{common_steps}
use Rattle.std.proofs.lemmas.Bool.Decides.{nat_tests, eqb_tells, leb_tells}
use Rattle.std.specs.List.{slice_index, slice_index_or, slice_set}
use Rattle.vd_pool.specs.Memory.{PoolMemory, IsSound, is_out, byte_of, Adds}
use Rattle.vd_pool.proofs.Exchange.{nat_tells}

-- a place that isn't the last of the spare ones is spare as before
apart_at : (g n a k : ℕ) → 0 < k → (g < n → a ≢ k - 1) → (nat_lt g n && nat_le (k - 1) a) ≡ (nat_lt g n && nat_le k a)
apart_at g n a k pos h = elim (eqb_tells a (k - 1)) [
  | inl e ↦ (let out : n ≤ g = elim (leb_tells n g) [ inl above ↦ above.1 | inr below ↦ absurd (h below.1 e.1) ] in grind (arith, nat_tests))
  | inr e ↦ (let ne = e.1 in grind (arith, nat_tests))
]

module _ (m : PoolMemory) (order : List ℕ) (f : ℕ) (s : IsSound m order) (pos : 0 < m.spare) (e : slice_index order (m.spare - 1) ≡ f) where
  there : slice_index m.place f ≡ m.spare - 1
  there = ap (λ k. slice_index m.place k) (sym e) ∙ (s.back (m.spare - 1) (let most = s.spare in omega arith)).1

  -- the last of the spare frames isn't out
  pub last_fresh : is_out m f ≡ false
  unfolding is_out
  last_fresh = let at = there in grind (arith, nat_tests)

  -- with one spare frame fewer, it is
  pub last_out : (g : ℕ) → is_out (record { frames = m.frames; place = m.place; spare = m.spare - 1; per_page = m.per_page }) g ≡ ((g == f) || is_out m g)
  unfolding is_out
  last_out g =
      let last = s.back (m.spare - 1) (let most = s.spare in omega arith) in
      let inside : f < length m.frames = subst (λ k. k < length m.frames) e last.0 in
      let at = there in
      let places = s.places in
      elim (nat_tells g f) [
        | inl same ↦ subst (λ k. is_out (record { frames = m.frames; place = m.place; spare = m.spare - 1; per_page = m.per_page }) k ≡ ((k == f) || is_out m k)) (sym same) (grind (arith, nat_tests))
        | inr other ↦
            (let no : (g == f) ≡ false = grind (arith, nat_tests) in
            apart_at g (length m.place) (slice_index m.place g) m.spare pos
            (λ below at. other (sym (s.forth g (subst (λ n. g < n) places below)).1 ∙ ap (λ k. slice_index order k) at ∙ e))
            ∙ sym (ap (λ b. b || is_out m g) no))
      ]

-- one more list of zeros past the end changes nothing
zeros_more : (xs : List (List ℕ)) (page : List ℕ) (g i : ℕ) → ((i : ℕ) → slice_index page i ≡ 0) → slice_index (slice_index_or (xs ++ page ∷ []) g []) i ≡ slice_index (slice_index_or xs g []) i
zeros_more [] page zero i zeros = zeros i
zeros_more [] page (suc g) i zeros = refl
zeros_more (x ∷ xs) page zero i zeros = refl
zeros_more (x ∷ xs) page (suc g) i zeros = zeros_more xs page g i zeros

pub made : (m : PoolMemory) (order : List ℕ) (number : ℕ) (page : List ℕ) (frames : List (List ℕ)) (place : List ℕ) → IsSound m order
    → ((i : ℕ) → slice_index page i ≡ 0) → number ≡ length m.frames → frames ≡ m.frames ++ page ∷ [] → place ≡ m.place ++ number ∷ []
    → Adds number m (record { frames = frames; place = place; spare = m.spare; per_page = m.per_page })
unfolding is_out byte_of
made m order number page frames place s zeros e pages places = record {
  spare = refl;
  fresh = grind (arith, common_steps);
  out = λ g. grind (arith, common_steps, nat_tests);
  bytes = λ g i. ap (λ l. slice_index (slice_index_or l g []) i) pages ∙ zeros_more m.frames page g i zeros;
  size = refl;
}

-- every list has this length
abbrev AllSized : ℕ → List (List ℕ) → Type 0
AllSized n xs = (g : ℕ) → g < length xs → length (slice_index_or xs g []) ≡ n

sized_more : (n : ℕ) (xs : List (List ℕ)) (page : List ℕ) → AllSized n xs → length page ≡ n → AllSized n (xs ++ page ∷ [])
sized_more n [] page all size zero h = size
sized_more n [] page all size (suc g) h = absurd (omega arith)
sized_more n (x ∷ xs) page all size zero h = all zero (omega arith)
sized_more n (x ∷ xs) page all size (suc g) h = sized_more n xs page (λ k below. all (suc k) (omega arith)) size g (omega arith)

pub made_sound : (m : PoolMemory) (order : List ℕ) (number : ℕ) (page : List ℕ) → IsSound m order → number ≡ length m.frames → length page ≡ 4096 * m.per_page
    → IsSound (record { frames = m.frames ++ page ∷ []; place = m.place ++ number ∷ []; spare = m.spare; per_page = m.per_page }) (order ++ number ∷ [])
made_sound m order number page s e size = record {
  places = grind (arith, common_steps);
  orders = grind (arith, common_steps);
  spare = grind (arith, common_steps);
  sizes = sized_more (4096 * m.per_page) m.frames page s.sizes size;
  back = λ i h. grind (arith, common_steps, s.back i);
  forth = λ f h. grind (arith, common_steps, s.forth f);
}

pub written_sound : (m : PoolMemory) (order : List ℕ) (f : ℕ) (page : List ℕ) → IsSound m order → length page ≡ 4096 * m.per_page
    → IsSound (record { frames = slice_set m.frames f page; place = m.place; spare = m.spare; per_page = m.per_page }) order
written_sound m order f page s size = record {
  places = s.places ∙ sym same;
  orders = s.orders ∙ sym same;
  spare = subst (λ n. m.spare ≤ n) (sym same) s.spare;
  sizes = λ g h. elim (nat_tells g f) [
    | inl here ↦ (let inside : f < length m.frames = subst (λ n. n < length m.frames) here (subst (λ n. g < n) same h) in
        ap (λ k. length (slice_index_or (slice_set m.frames f page) k [])) here ∙ ap length (get_or-set_same m.frames f page [] inside) ∙ size)
    | inr other ↦ ap length (get_or-set_other m.frames f g page [] other) ∙ s.sizes g (subst (λ n. g < n) same h)
  ];
  back = λ i h. let at = s.back i (subst (λ n. i < n) same h) in (subst (λ n. slice_index order i < n) (sym same) at.0, at.1);
  forth = λ g h. let at = s.forth g (subst (λ n. g < n) same h) in (subst (λ n. slice_index m.place g < n) (sym same) at.0, at.1);
} where
  same : length (slice_set m.frames f page) ≡ length m.frames
  same = length-set m.frames f page

pub zeros_from : (n : ℕ) (xs : List ℕ) → xs ≡ replicate n 0 → (i : ℕ) → slice_index xs i ≡ 0
zeros_from n xs e i = ap (λ l. slice_index l i) e ∙ zero_at n i where
  zero_at : (n i : ℕ) → slice_index (replicate n 0) i ≡ 0
  zero_at zero i = refl
  zero_at (suc n) zero = refl
  zero_at (suc n) (suc i) = zero_at n i
