-- Values by numbers that ascend: one more at the end, one fewer, and the one of a number.
use Rattle.std.proofs.Common.{◌≡◌, ℕ, zero, suc, ◌+◌, ◌<◌, ◌≤◌, refl, subst, ap, sym, ◌∙◌, arith, Bool, true, false, cond, ◌==◌, not, List, [], ◌∷◌, ◌++◌, Some, None, filter, find, length, get_or}
use Rattle.std.specs.Prelude.{nat_lt}
use Rattle.std.specs.List.{remove}
use Rattle.std.proofs.lemmas.Bool.Decides.{nat_tests}
use Rattle.vd_domain.specs.Numbered.{IsRising}

pub rising_last : {T : Type 0} (low high : ℕ) (es : List (ℕ × T)) (v : T) → IsRising low high es → IsRising low (high + 1) (es ++ (high, v) ∷ [])
rising_last low high [] v f = (f, omega arith, omega arith)
rising_last low high (e ∷ es) v f = (f.0, (let below : e.0 < high = f.1 in omega arith), rising_last (e.0 + 1) high es v f.2)

rising_less : {T : Type 0} (low low' high : ℕ) (es : List (ℕ × T)) → low ≤ low' → IsRising low' high es → IsRising low high es
rising_less low low' high [] h f = (let le : low' ≤ high = f in omega arith)
rising_less low low' high (e ∷ es) h f = ((let le : low' ≤ e.0 = f.0 in omega arith), f.1, f.2)

-- entries that are all above the number stay
kept_all : {T : Type 0} (low high a : ℕ) (es : List (ℕ × T)) → a < low → IsRising low high es → filter (λ (e : ℕ × T). not (e.0 == a)) es ≡ es
kept_all low high a [] below f = refl
kept_all {T} low high a (e ∷ es) below f =
    let at : low ≤ e.0 = f.0 in
    let no : (e.0 == a) ≡ false = grind (arith, nat_tests) in
    ap (λ b. cond (not b) (e ∷ filter (λ (e : ℕ × T). not (e.0 == a)) es) (filter (λ (e : ℕ × T). not (e.0 == a)) es)) no
    ∙ ap (λ xs. e ∷ xs) (kept_all (e.0 + 1) high a es (omega arith) f.2)

pub rising_fewer : {T : Type 0} (low high a : ℕ) (es : List (ℕ × T)) → IsRising low high es → IsRising low high (filter (λ (e : ℕ × T). not (e.0 == a)) es)
rising_fewer low high a [] f = f
rising_fewer {T} low high a (e ∷ es) f = by (e.0 == a) refl (rising_fewer (e.0 + 1) high a es f.2) where
  by : (b : Bool) → (e.0 == a) ≡ b → IsRising (e.0 + 1) high (filter (λ (e : ℕ × T). not (e.0 == a)) es) → IsRising low high (filter (λ (e : ℕ × T). not (e.0 == a)) (e ∷ es))
  by true h rest =
      let at : low ≤ e.0 = f.0 in
      subst (λ xs. IsRising low high xs) (sym (ap (λ b. cond (not b) (e ∷ filter (λ (e : ℕ × T). not (e.0 == a)) es) (filter (λ (e : ℕ × T). not (e.0 == a)) es)) h))
      (rising_less low (e.0 + 1) high (filter (λ (e : ℕ × T). not (e.0 == a)) es) (omega arith) rest)
  by false h rest =
      subst (λ xs. IsRising low high xs) (sym (ap (λ b. cond (not b) (e ∷ filter (λ (e : ℕ × T). not (e.0 == a)) es) (filter (λ (e : ℕ × T). not (e.0 == a)) es)) h))
      (f.0, f.1, rest)

-- how many of the numbers are below `a`
abbrev pub count_below : {T : Type 0} → ℕ → List (ℕ × T) → ℕ
count_below {T} a es = length (filter (λ (e : ℕ × T). nat_lt e.0 a) es)

-- none is below where they begin
none_below : {T : Type 0} (low high a : ℕ) (es : List (ℕ × T)) → a ≤ low → IsRising low high es → count_below a es ≡ 0
none_below low high a [] le f = refl
none_below {T} low high a (e ∷ es) le f =
    let at : low ≤ e.0 = f.0 in
    let no : nat_lt e.0 a ≡ false = grind (arith, nat_tests) in
    ap (λ b. length (cond b (e ∷ filter (λ (e : ℕ × T). nat_lt e.0 a) es) (filter (λ (e : ℕ × T). nat_lt e.0 a) es))) no
    ∙ none_below (e.0 + 1) high a es (omega arith) f.2

-- the first one is counted where it is below
one_below : {T : Type 0} (a : ℕ) (e : ℕ × T) (es : List (ℕ × T)) → e.0 < a → count_below a (e ∷ es) ≡ suc (count_below a es)
one_below {T} a e es below =
    let yes : nat_lt e.0 a ≡ true = grind (arith, nat_tests) in
    ap (λ b. length (cond b (e ∷ filter (λ (e : ℕ × T). nat_lt e.0 a) es) (filter (λ (e : ℕ × T). nat_lt e.0 a) es))) yes

first_not_below : {T : Type 0} (low high a : ℕ) (e : ℕ × T) (es : List (ℕ × T)) → a ≤ e.0 → IsRising low high (e ∷ es) → count_below a (e ∷ es) ≡ 0
first_not_below low high a e es le f = none_below e.0 high a (e ∷ es) le (omega arith, f.1, f.2)

least : {T : Type 0} (low high k : ℕ) (es : List (ℕ × T)) (d : ℕ × T) → IsRising low high es → k < length es → low ≤ (get_or es k d).0
least low high k [] d f within = absurd (omega (arith, within))
least low high zero (e ∷ es) d f within = f.0
least low high (suc k) (e ∷ es) d f within =
    let at : low ≤ e.0 = f.0 in
    let rest : e.0 + 1 ≤ (get_or es k d).0 = least (e.0 + 1) high k es d f.2 (omega (arith, within)) in
    omega arith

-- one that is below has only such before it
pub counts_below : {T : Type 0} (low high a k : ℕ) (es : List (ℕ × T)) (d : ℕ × T) → IsRising low high es → k < length es → (get_or es k d).0 < a → k + 1 ≤ count_below a es
counts_below low high a k [] d f within below = absurd (omega (arith, within))
counts_below low high a zero (e ∷ es) d f within below = let one : count_below a (e ∷ es) ≡ suc (count_below a es) = one_below a e es below in omega (arith, one)
counts_below low high a (suc k) (e ∷ es) d f within below =
    let rest : e.0 + 1 ≤ (get_or es k d).0 = least (e.0 + 1) high k es d f.2 (omega (arith, within)) in
    let one : count_below a (e ∷ es) ≡ suc (count_below a es) = one_below a e es (omega (arith, rest, below)) in
    let more : k + 1 ≤ count_below a es = counts_below (e.0 + 1) high a k es d f.2 (omega (arith, within)) below in
    omega (arith, one, more)

-- one that isn't below has none after it that is
pub counts_before : {T : Type 0} (low high a k : ℕ) (es : List (ℕ × T)) (d : ℕ × T) → IsRising low high es → k < length es → a ≤ (get_or es k d).0 → count_below a es ≤ k
counts_before low high a k [] d f within above = absurd (omega (arith, within))
counts_before low high a zero (e ∷ es) d f within above = let none : count_below a (e ∷ es) ≡ 0 = first_not_below low high a e es above f in omega (arith, none)
counts_before {T} low high a (suc k) (e ∷ es) d f within above = by (nat_lt e.0 a) refl (counts_before (e.0 + 1) high a k es d f.2 (omega (arith, within)) above) where
  by : (b : Bool) → nat_lt e.0 a ≡ b → count_below a es ≤ k → count_below a (e ∷ es) ≤ suc k
  by true h rest =
      let one : count_below a (e ∷ es) ≡ suc (count_below a es) = one_below a e es (grind (arith, nat_tests, h)) in
      omega (arith, one, rest)
  by false h rest =
      let none : count_below a (e ∷ es) ≡ 0 = first_not_below low high a e es (grind (arith, nat_tests, h)) f in
      omega (arith, none)

pub counts_at_most : {T : Type 0} (a : ℕ) (es : List (ℕ × T)) → count_below a es ≤ length es
counts_at_most a [] = omega arith
counts_at_most {T} a (e ∷ es) = by (nat_lt e.0 a) refl (counts_at_most a es) where
  by : (b : Bool) → nat_lt e.0 a ≡ b → count_below a es ≤ length es
      → length (cond b (e ∷ filter (λ (e : ℕ × T). nat_lt e.0 a) es) (filter (λ (e : ℕ × T). nat_lt e.0 a) es)) ≤ suc (length es)
  by true h rest = omega (arith, rest)
  by false h rest = omega (arith, rest)

-- the entry of a number, where it stands
pub found_at : {T : Type 0} (low high a k : ℕ) (es : List (ℕ × T)) (d : ℕ × T) → IsRising low high es → k < length es → (get_or es k d).0 ≡ a
    → find (λ (e : ℕ × T). e.0 == a) es ≡ Some (get_or es k d)
found_at low high a k [] d f within same = absurd (omega (arith, within))
found_at {T} low high a zero (e ∷ es) d f within same =
    let yes : (e.0 == a) ≡ true = grind (arith, nat_tests, same) in
    ap (λ b. cond b (Some e) (find (λ (e : ℕ × T). e.0 == a) es)) yes
found_at {T} low high a (suc k) (e ∷ es) d f within same =
    let rest : e.0 + 1 ≤ (get_or es k d).0 = least (e.0 + 1) high k es d f.2 (omega (arith, within)) in
    let no : (e.0 == a) ≡ false = grind (arith, nat_tests, rest, same) in
    ap (λ b. cond b (Some e) (find (λ (e : ℕ × T). e.0 == a) es)) no ∙ found_at (e.0 + 1) high a k es d f.2 (omega (arith, within)) same

-- the others are those with other numbers
pub removed_at : {T : Type 0} (low high a k : ℕ) (es : List (ℕ × T)) (d : ℕ × T) → IsRising low high es → k < length es → (get_or es k d).0 ≡ a
    → remove es k ≡ filter (λ (e : ℕ × T). not (e.0 == a)) es
removed_at low high a k [] d f within same = absurd (omega (arith, within))
removed_at {T} low high a zero (e ∷ es) d f within same =
    let yes : (e.0 == a) ≡ true = grind (arith, nat_tests, same) in
    sym (ap (λ b. cond (not b) (e ∷ filter (λ (e : ℕ × T). not (e.0 == a)) es) (filter (λ (e : ℕ × T). not (e.0 == a)) es)) yes
    ∙ kept_all (e.0 + 1) high a es (omega (arith, same)) f.2)
removed_at {T} low high a (suc k) (e ∷ es) d f within same =
    let rest : e.0 + 1 ≤ (get_or es k d).0 = least (e.0 + 1) high k es d f.2 (omega (arith, within)) in
    let no : (e.0 == a) ≡ false = grind (arith, nat_tests, rest, same) in
    ap (λ xs. e ∷ xs) (removed_at (e.0 + 1) high a k es d f.2 (omega (arith, within)) same)
    ∙ sym (ap (λ b. cond (not b) (e ∷ filter (λ (e : ℕ × T). not (e.0 == a)) es) (filter (λ (e : ℕ × T). not (e.0 == a)) es)) no)

none_found : {T : Type 0} (low high a : ℕ) (es : List (ℕ × T)) → a < low → IsRising low high es → find (λ (e : ℕ × T). e.0 == a) es ≡ None
none_found low high a [] below f = refl
none_found {T} low high a (e ∷ es) below f =
    let at : low ≤ e.0 = f.0 in
    let no : (e.0 == a) ≡ false = grind (arith, nat_tests) in
    ap (λ b. cond b (Some e) (find (λ (e : ℕ × T). e.0 == a) es)) no ∙ none_found (e.0 + 1) high a es (omega arith) f.2

-- a number that doesn't stand behind those below it stands nowhere
pub absent : {T : Type 0} (low high a k : ℕ) (es : List (ℕ × T)) → IsRising low high es → count_below a es ≡ k → ((d : ℕ × T) → k < length es → (get_or es k d).0 ≡ a → ⊥)
    → (find (λ (e : ℕ × T). e.0 == a) es ≡ None) × (filter (λ (e : ℕ × T). not (e.0 == a)) es ≡ es)
absent low high a k [] f is differs = (refl, refl)
absent {T} low high a k (e ∷ es) f is differs = by (nat_lt e.0 a) refl (λ other. absent (e.0 + 1) high a (count_below a es) es f.2 refl other) where
  by : (b : Bool) → nat_lt e.0 a ≡ b
      → (((d : ℕ × T) → count_below a es < length es → (get_or es (count_below a es) d).0 ≡ a → ⊥)
      → (find (λ (e : ℕ × T). e.0 == a) es ≡ None) × (filter (λ (e : ℕ × T). not (e.0 == a)) es ≡ es))
      → (find (λ (e : ℕ × T). e.0 == a) (e ∷ es) ≡ None) × (filter (λ (e : ℕ × T). not (e.0 == a)) (e ∷ es) ≡ e ∷ es)
  by true h later =
      let below : e.0 < a = grind (arith, nat_tests, h) in
      let at : k ≡ suc (count_below a es) = sym is ∙ one_below a e es below in
      let other : (e.0 == a) ≡ false = grind (arith, nat_tests, below) in
      let rest : (find (λ (e : ℕ × T). e.0 == a) es ≡ None) × (filter (λ (e : ℕ × T). not (e.0 == a)) es ≡ es)
      = later (λ d within same. differs d (omega (arith, at, within)) (ap (λ (n : ℕ). (get_or (e ∷ es) n d).0) at ∙ same)) in (
        ap (λ b. cond b (Some e) (find (λ (e : ℕ × T). e.0 == a) es)) other ∙ rest.0,
        ap (λ b. cond (not b) (e ∷ filter (λ (e : ℕ × T). not (e.0 == a)) es) (filter (λ (e : ℕ × T). not (e.0 == a)) es)) other ∙ ap (λ xs. e ∷ xs) rest.1,
      )
  by false h later =
      let above : a ≤ e.0 = grind (arith, nat_tests, h) in
      let at : k ≡ 0 = sym is ∙ first_not_below low high a e es above f in
      let other : e.0 ≡ a → ⊥ = λ same. differs e (omega (arith, at)) (ap (λ (n : ℕ). (get_or (e ∷ es) n e).0) at ∙ same) in
      let past : a < e.0 = grind (arith, above, other) in (
        none_found e.0 high a (e ∷ es) past (omega arith, f.1, f.2),
        kept_all e.0 high a (e ∷ es) past (omega arith, f.1, f.2),
      )

same_at : {T : Type 0} (k : ℕ) (es : List (ℕ × T)) (d d' : ℕ × T) → k < length es → get_or es k d ≡ get_or es k d'
same_at k [] d d' within = absurd (omega (arith, within))
same_at zero (e ∷ es) d d' within = refl
same_at (suc k) (e ∷ es) d d' within = same_at k es d d' (omega (arith, within))

-- the same by what was read there, once and again
pub found : {T : Type 0} (high a k : ℕ) (es : List (ℕ × T)) (x y : ℕ × T) → IsRising 0 high es → k < length es → x ≡ get_or es k x → x.0 ≡ a → y ≡ get_or es k y
    → find (λ (e : ℕ × T). e.0 == a) es ≡ Some y
found high a k es x y f within is same again =
    found_at 0 high a k es x f within (ap (λ e. e.0) (sym is) ∙ same) ∙ ap Some (same_at k es x y within ∙ sym again)

pub others : {T : Type 0} (high a k : ℕ) (es : List (ℕ × T)) (x : ℕ × T) → IsRising 0 high es → k < length es → x ≡ get_or es k x → x.0 ≡ a
    → remove es k ≡ filter (λ (e : ℕ × T). not (e.0 == a)) es
others high a k es x f within is same = removed_at 0 high a k es x f within (ap (λ e. e.0) (sym is) ∙ same)

-- a number is nowhere where another one was read
pub another : {T : Type 0} (high a k : ℕ) (es : List (ℕ × T)) (x : ℕ × T) → IsRising 0 high es → count_below a es ≡ k → k < length es → x ≡ get_or es k x → (x.0 ≡ a → ⊥)
    → (find (λ (e : ℕ × T). e.0 == a) es ≡ None) × (filter (λ (e : ℕ × T). not (e.0 == a)) es ≡ es)
another high a k es x f count within is differs =
    absent 0 high a k es f count (λ d inside same. differs (ap (λ e. e.0) (is ∙ same_at k es x d within) ∙ same))

-- nor where it would stand at the end
pub past_all : {T : Type 0} (high a k : ℕ) (es : List (ℕ × T)) → IsRising 0 high es → count_below a es ≡ k → length es ≤ k
    → (find (λ (e : ℕ × T). e.0 == a) es ≡ None) × (filter (λ (e : ℕ × T). not (e.0 == a)) es ≡ es)
past_all high a k es f count past = absent 0 high a k es f count (λ d inside same. absurd (omega (arith, inside, past)))
