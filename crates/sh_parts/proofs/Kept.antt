-- Lists of what is live: one more, one fewer, and what an address space has taken.
use Rattle.std.proofs.Common.{◌≡◌, ◌≢◌, ℕ, ◌+◌, ◌<◌, ◌≤◌, refl, subst, ap, sym, ◌∙◌, arith, Bool, true, false, cond, ◌==◌, not, if◌then◌else◌, List, [], ◌∷◌, ◌++◌, Some, filter, find, true≢false}
use Rattle.std.proofs.lemmas.Bool.Decides.{nat_tests}
use Rattle.sh_parts.specs.declared.memory.Live.{Live}
use Rattle.sh_parts.specs.Memory.{IsNew, AreApart, count_at}

-- ---- tests

same : (n : ℕ) → (n == n) ≡ true
same n = grind (arith, nat_tests)

pub is_same : (m n : ℕ) → (m == n) ≡ true → m ≡ n
is_same m n e = grind (arith, nat_tests)

pub isnt_same : (m n : ℕ) → (m == n) ≡ false → m ≢ n
isnt_same m n e is = true≢false (sym (ap (λ k. k == n) is ∙ same n) ∙ e)

pub differs : (m n : ℕ) → m ≢ n → (m == n) ≡ false
differs m n ne = grind (arith, nat_tests)

abbrev pub has : ℕ → Live → Bool
has n k = k.number == n

abbrev pub lacks : ℕ → Live → Bool
lacks n k = not (k.number == n)

pub some_is : {A : Type 0} (x y : A) → Some x ≡ Some y → x ≡ y
some_is x y e = cc e

-- ---- one more

pub apart_later : (n m lo hi : ℕ) (ks : List Live) → n ≤ m → AreApart n lo hi ks → AreApart m lo hi ks
apart_later n m lo hi [] le a = tt
apart_later n m lo hi (k ∷ ks) le a = (let lt = a.0 in omega arith, a.1, a.2, a.3, a.4, apart_later n m lo hi ks le a.5)

head_free : (j : Live) (ks : List Live) (q : ℕ) → 0 < j.count → count_at (j ∷ ks) q ≡ 0 → (j.page ≢ q) × (count_at ks q ≡ 0)
head_free j ks q some free = by (j.page == q) refl where
  by : (b : Bool) → (j.page == q) ≡ b → (j.page ≢ q) × (count_at ks q ≡ 0)
  by true e = absurd (let none : j.count ≡ 0 = sym (ap (λ b. if b then j.count else count_at ks q) e) ∙ free in omega arith)
  by false e = (isnt_same j.page q e, sym (ap (λ b. if b then j.count else count_at ks q) e) ∙ free)

new_push : (j k : Live) (ks : List Live) → IsNew j ks → k.number ≢ j.number → k.page ≢ j.page → IsNew j (ks ++ k ∷ [])
new_push j k [] new ne page = (ne, page, tt)
new_push j k (i ∷ ks) new ne page = (new.0, new.1, new_push j k ks new.2 ne page)

pub apart_push : (n lo hi : ℕ) (k : Live) (ks : List Live) → AreApart n lo hi ks → k.number ≡ n → 0 < k.count → lo ≤ k.page → k.page + k.count ≤ hi → count_at ks k.page ≡ 0 → AreApart (n + 1) lo hi (ks ++ k ∷ [])
apart_push n lo hi k [] a is some low high free = (omega arith, some, low, high, tt, tt)
apart_push n lo hi k (j ∷ ks) a is some low high free =
    let lt = a.0 in
    let h = head_free j ks k.page a.1 free in
    (omega arith, a.1, a.2, a.3, new_push j k ks a.4 (λ e. omega (arith, e, is, lt)) (λ e. h.0 (sym e)), apart_push n lo hi k ks a.5 is some low high h.1)

pub count_push : (n lo hi : ℕ) (k : Live) (ks : List Live) → AreApart n lo hi ks → count_at ks k.page ≡ 0 → (q : ℕ) → count_at (ks ++ k ∷ []) q ≡ (if q == k.page then k.count else count_at ks q)
count_push n lo hi k [] a free q = by (k.page == q) refl where
  by : (b : Bool) → (k.page == q) ≡ b → (if k.page == q then k.count else 0) ≡ (if q == k.page then k.count else 0)
  by true e = ap (λ b. if b then k.count else 0) (e ∙ sym (same q) ∙ ap (λ m. q == m) (sym (is_same k.page q e)))
  by false e = ap (λ b. if b then k.count else 0) (e ∙ sym (differs q k.page (λ is. isnt_same k.page q e (sym is))))
count_push n lo hi k (j ∷ ks) a free q = by (j.page == q) refl (head_free j ks k.page a.1 free).0 (count_push n lo hi k ks a.5 (head_free j ks k.page a.1 free).1 q) where
  by : (b : Bool) → (j.page == q) ≡ b → j.page ≢ k.page → count_at (ks ++ k ∷ []) q ≡ (if q == k.page then k.count else count_at ks q)
      → count_at (j ∷ ks ++ k ∷ []) q ≡ (if q == k.page then k.count else count_at (j ∷ ks) q)
  by true e ne rest =
      let other : (q == k.page) ≡ false = differs q k.page (λ is. ne (is_same j.page q e ∙ is)) in
      ap (λ b. if b then j.count else count_at (ks ++ k ∷ []) q) e
      ∙ sym (ap (λ b. if b then j.count else count_at ks q) e)
      ∙ sym (ap (λ b. if b then k.count else count_at (j ∷ ks) q) other)
  by false e ne rest =
      ap (λ b. if b then j.count else count_at (ks ++ k ∷ []) q) e
      ∙ rest
      ∙ ap (λ c. if q == k.page then k.count else c) (sym (ap (λ b. if b then j.count else count_at ks q) e))

-- ---- one fewer

count_new : (k : Live) (ks : List Live) → IsNew k ks → count_at ks k.page ≡ 0
count_new k [] new = refl
count_new k (j ∷ ks) new = ap (λ b. if b then j.count else count_at ks k.page) (differs j.page k.page new.1) ∙ count_new k ks new.2

pub filter_new : (k : Live) (ks : List Live) → IsNew k ks → filter (lacks k.number) ks ≡ ks
filter_new k [] new = refl
filter_new k (j ∷ ks) new =
    ap (λ b. cond (not b) (j ∷ filter (lacks k.number) ks) (filter (lacks k.number) ks)) (differs j.number k.number new.0)
    ∙ ap (λ l. j ∷ l) (filter_new k ks new.2)

-- what is found of a number
pub record Found (n lo hi sought : ℕ) (ks : List Live) (k : Live) : Type 0 where
  pub number : k.number ≡ sought
  pub some : 0 < k.count
  pub low : lo ≤ k.page
  pub high : k.page + k.count ≤ hi
  pub count : count_at ks k.page ≡ k.count
  pub rest : AreApart n lo hi (filter (lacks sought) ks)
  pub counts : (q : ℕ) → count_at (filter (lacks sought) ks) q ≡ (if q == k.page then 0 else count_at ks q)
  -- whatever is new to the list differs from it
  pub differs : (j : Live) → IsNew j ks → (j.page ≢ k.page) × IsNew j (filter (lacks sought) ks)

new_filter : (j : Live) (number : ℕ) (ks : List Live) → IsNew j ks → IsNew j (filter (lacks number) ks)
new_filter j number [] new = tt
new_filter j number (i ∷ ks) new = by (i.number == number) refl (new_filter j number ks new.2) where
  by : (b : Bool) → (i.number == number) ≡ b → IsNew j (filter (lacks number) ks) → IsNew j (filter (lacks number) (i ∷ ks))
  by true e rest = subst (λ b. IsNew j (cond (not b) (i ∷ filter (lacks number) ks) (filter (lacks number) ks))) (sym e) rest
  by false e rest = subst (λ b. IsNew j (cond (not b) (i ∷ filter (lacks number) ks) (filter (lacks number) ks))) (sym e) (new.0, new.1, rest)

pub finds : (n lo hi number : ℕ) (ks : List Live) (k : Live) → AreApart n lo hi ks → find (has number) ks ≡ Some k → Found n lo hi number ks k
finds n lo hi number [] k a e = absurd (cc e)
finds n lo hi number (j ∷ ks) k a e = by (j.number == number) refl (finds n lo hi number ks k a.5) where
  by : (b : Bool) → (j.number == number) ≡ b → (find (has number) ks ≡ Some k → Found n lo hi number ks k) → Found n lo hi number (j ∷ ks) k
  by true h later =
      let is : j ≡ k = some_is j k (sym (ap (λ b. cond b (Some j) (find (has number) ks)) h) ∙ e) in
      let num : j.number ≡ number = is_same j.number number h in
      let whole : filter (lacks number) (j ∷ ks) ≡ ks =
      ap (λ b. cond (not b) (j ∷ filter (lacks number) ks) (filter (lacks number) ks)) h
      ∙ ap (λ m. filter (lacks m) ks) (sym num) ∙ filter_new j ks a.4 in
      subst (Found n lo hi number (j ∷ ks)) is (record {
        number = num;
        some = a.1;
        low = a.2;
        high = a.3;
        count = ap (λ b. if b then j.count else count_at ks j.page) (same j.page);
        rest = subst (AreApart n lo hi) (sym whole) a.5;
        counts = λ q. ap (λ l. count_at l q) whole ∙ here q (q == j.page) refl;
        differs = λ i new. ((λ is. new.1 (sym is)), subst (IsNew i) (sym whole) new.2);
      }) where
        here : (q : ℕ) (b : Bool) → (q == j.page) ≡ b → count_at ks q ≡ (if q == j.page then 0 else count_at (j ∷ ks) q)
        here q true e = ap (count_at ks) (is_same q j.page e) ∙ count_new j ks a.4 ∙ sym (ap (λ b. if b then 0 else count_at (j ∷ ks) q) e)
        here q false e =
            sym (ap (λ b. if b then j.count else count_at ks q) (differs j.page q (λ is. isnt_same q j.page e (sym is))))
            ∙ sym (ap (λ b. if b then 0 else count_at (j ∷ ks) q) e)
  by false h later =
      let f = later (sym (ap (λ b. cond b (Some j) (find (has number) ks)) h) ∙ e) in
      let whole : filter (lacks number) (j ∷ ks) ≡ j ∷ filter (lacks number) ks = ap (λ b. cond (not b) (j ∷ filter (lacks number) ks) (filter (lacks number) ks)) h in
      let d = f.differs j a.4 in
      record {
        number = f.number;
        some = f.some;
        low = f.low;
        high = f.high;
        count = ap (λ b. if b then j.count else count_at ks k.page) (differs j.page k.page d.0) ∙ f.count;
        rest = subst (AreApart n lo hi) (sym whole) (a.0, a.1, a.2, a.3, d.1, f.rest);
        counts = λ q. ap (λ l. count_at l q) whole ∙ there f d.0 q (j.page == q) refl;
        differs = λ i new. ((f.differs i new.2).0, subst (IsNew i) (sym whole) (new.0, new.1, (f.differs i new.2).1));
      } where
        there : Found n lo hi number ks k → j.page ≢ k.page → (q : ℕ) (b : Bool) → (j.page == q) ≡ b
            → count_at (j ∷ filter (lacks number) ks) q ≡ (if q == k.page then 0 else count_at (j ∷ ks) q)
        there f ne q true e =
            ap (λ b. if b then j.count else count_at (filter (lacks number) ks) q) e
            ∙ sym (ap (λ b. if b then j.count else count_at ks q) e)
            ∙ sym (ap (λ b. if b then 0 else count_at (j ∷ ks) q) (differs q k.page (λ is. ne (is_same j.page q e ∙ is))))
        there f ne q false e =
            ap (λ b. if b then j.count else count_at (filter (lacks number) ks) q) e
            ∙ f.counts q
            ∙ ap (λ c. if q == k.page then 0 else c) (sym (ap (λ b. if b then j.count else count_at ks q) e))
