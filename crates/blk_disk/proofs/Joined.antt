-- Contents of sectors, one after another.
use Rattle.std.proofs.Common.{◌≡◌, ℕ, zero, suc, ◌+◌, ◌-◌, ◌*◌, ◌<◌, ◌≤◌, List, [], ◌∷◌, ◌++◌, length, take, drop, refl, sym, ap, subst, ◌∙◌, arith, append_assoc, length-append}
use Rattle.std.proofs.lemmas.List.{append-nil, take_at, drop_at, drop-drop, take-append-drop}
use Rattle.blk_disk.specs.Contents.{joined, AreWhole}

-- with one sector more at the end
pub joined_more : (f : ℕ → List ℕ) (s n : ℕ) → joined f s (suc n) ≡ joined f s n ++ f (s + n)
joined_more f s zero =
    let here : s ≡ s + 0 = omega arith in
    append-nil (f s) ∙ ap (λ (t : ℕ). f t) here
joined_more f s (suc n) =
    let next : suc s + n ≡ s + suc n = omega arith in
    ap (λ (xs : List ℕ). f s ++ xs) (joined_more f (suc s) n) ∙ sym (append_assoc (f s) (joined f (suc s) n) (f (suc s + n)))
    ∙ ap (λ (t : ℕ). joined f s (suc n) ++ f t) next

-- contents that are the same in those sectors
pub joined_same : (f g : ℕ → List ℕ) (s n : ℕ) → ((t : ℕ) → s ≤ t → t < s + n → f t ≡ g t) → joined f s n ≡ joined g s n
joined_same f g s zero same = refl
joined_same f g s (suc n) same =
    let here : f s ≡ g s = same s (omega arith) (omega arith) in
    let rest : joined f (suc s) n ≡ joined g (suc s) n = joined_same f g (suc s) n (λ t low high. same t (omega arith) (omega arith)) in
    ap (λ (xs : List ℕ). xs ++ joined f (suc s) n) here ∙ ap (λ (xs : List ℕ). g s ++ xs) rest

-- each has 512 bytes
pub length-joined : (f : ℕ → List ℕ) (s n : ℕ) → ((t : ℕ) → s ≤ t → t < s + n → length (f t) ≡ 512) → length (joined f s n) ≡ 512 * n
length-joined f s zero whole = refl
length-joined f s (suc n) whole =
    let here : length (f s) ≡ 512 = whole s (omega arith) (omega arith) in
    let rest : length (joined f (suc s) n) ≡ 512 * n = length-joined f (suc s) n (λ t low high. whole t (omega arith) (omega arith)) in
    length-append (f s) (joined f (suc s) n) ∙ (omega arith)

-- in two parts
pub joined_parts : (f : ℕ → List ℕ) (s m n : ℕ) → joined f s (m + n) ≡ joined f s m ++ joined f (s + m) n
joined_parts f s zero n =
    let all : 0 + n ≡ n = omega arith in
    let here : s ≡ s + 0 = omega arith in
    ap (λ (k : ℕ). joined f s k) all ∙ ap (λ (t : ℕ). joined f t n) here
joined_parts f s (suc m) n =
    let all : suc m + n ≡ suc (m + n) = omega arith in
    let next : suc s + m ≡ s + suc m = omega arith in
    ap (λ (k : ℕ). joined f s k) all ∙ ap (λ (xs : List ℕ). f s ++ xs) (joined_parts f (suc s) m n)
    ∙ sym (append_assoc (f s) (joined f (suc s) m) (joined f (suc s + m) n)) ∙ ap (λ (t : ℕ). joined f s (suc m) ++ joined f t n) next

module _ (f : ℕ → List ℕ) (all s n : ℕ) (whole : AreWhole all f) (inside : s + n ≤ all) where
  rest : ℕ
  rest = all - (s + n)

  -- what stands before, in and behind a stretch of sectors
  pub three : joined f 0 all ≡ joined f 0 s ++ (joined f s n ++ joined f (s + n) (all - (s + n)))
  three =
      let sum : all ≡ s + (n + (all - (s + n))) = omega arith in
      let start : 0 + s ≡ s = omega arith in
      ap (λ (k : ℕ). joined f 0 k) sum ∙ joined_parts f 0 s (n + (all - (s + n)))
      ∙ ap (λ (t : ℕ). joined f 0 s ++ joined f t (n + (all - (s + n)))) start
      ∙ ap (λ (xs : List ℕ). joined f 0 s ++ xs) (joined_parts f s n (all - (s + n)))

  pub front_len : length (joined f 0 s) ≡ 512 * s
  front_len = length-joined f 0 s (λ t low high. whole t (omega arith))

  pub mid_len : length (joined f s n) ≡ 512 * n
  mid_len = length-joined f s n (λ t low high. whole t (omega arith))

  pub front_is : take (512 * s) (joined f 0 all) ≡ joined f 0 s
  front_is = ap (λ (xs : List ℕ). take (512 * s) xs) three ∙ take_at (joined f 0 s) _ (512 * s) front_len

  from_is : drop (512 * s) (joined f 0 all) ≡ joined f s n ++ joined f (s + n) (all - (s + n))
  from_is = ap (λ (xs : List ℕ). drop (512 * s) xs) three ∙ drop_at (joined f 0 s) _ (512 * s) front_len

  pub mid_is : take (512 * n) (drop (512 * s) (joined f 0 all)) ≡ joined f s n
  mid_is = ap (λ (xs : List ℕ). take (512 * n) xs) from_is ∙ take_at (joined f s n) _ (512 * n) mid_len

  pub behind_is : drop (512 * s + 512 * n) (joined f 0 all) ≡ joined f (s + n) (all - (s + n))
  behind_is = sym (drop-drop (512 * n) (512 * s) (joined f 0 all)) ∙ ap (λ (xs : List ℕ). drop (512 * n) xs) from_is ∙ drop_at (joined f s n) _ (512 * n) mid_len
