-- The contents and the lists of a disk in memory after a write.
use Rattle.std.proofs.Common.{◌≡◌, ◌≢◌, ℕ, zero, suc, ◌+◌, ◌-◌, ◌*◌, ◌<◌, ◌≤◌, ◌⊎◌, inl, inr, ◌==◌, Bool, true, false, not, if◌then◌else◌, nat_lt, List, [], ◌∷◌, ◌++◌, length, get_or, take, drop, filter, refl, sym, ap, subst, ◌∙◌, arith, append_assoc, length-append}
use Rattle.std.proofs.lemmas.List.{take_at, drop_at, drop-drop, drop-take, take-take, take-append-le, drop-append-le, length-take-le, length-drop}
use Rattle.std.proofs.lemmas.Bool.{cases_lt}
use Rattle.std.proofs.lemmas.Bool.Decides.{nat_tests, eqb_tells}
use Rattle.vd_io.specs.Sectors.{with_sectors}
use Rattle.std.proofs.Math.Seq.{take-add}
use Rattle.blk_disk.specs.Contents.{Has, joined}
use Rattle.blk_disk.proofs.Joined.{joined_more}
use Rattle.blk_disk.specs.Moments.{IsListedWrite}
use Rattle.blk_memory_disk.specs.declared.store.Older.{Older}
use Rattle.blk_memory_disk.specs.Stored.{Stored, content_at, older_at, list_at, kept_older, overwritten}

module _ (sector : ℕ) (bytes content : List ℕ) (size : length bytes ≡ 512) (inside : 512 * sector + 512 ≤ length content) where
  front : length (take (512 * sector) content) ≡ 512 * sector
  front = length-take-le (512 * sector) content (omega arith)

  -- the sector has the new bytes
  pub content_written : content_at (with_sectors sector bytes content) sector ≡ bytes
  content_written =
      let all = append_assoc (take (512 * sector) content) bytes (drop (512 * sector + length bytes) content) in
      ap (λ (xs : List ℕ). take 512 (drop (512 * sector) xs)) all
      ∙ ap (λ (xs : List ℕ). take 512 xs) (drop_at (take (512 * sector) content) (bytes ++ drop (512 * sector + length bytes) content) (512 * sector) front)
      ∙ take_at bytes (drop (512 * sector + length bytes) content) 512 size

  below : (s : ℕ) → s < sector → content_at (with_sectors sector bytes content) s ≡ content_at content s
  below s low =
      let rest : List ℕ = bytes ++ drop (512 * sector + length bytes) content in
      let all = append_assoc (take (512 * sector) content) bytes (drop (512 * sector + length bytes) content) in
      let here : 512 * s ≤ length (take (512 * sector) content) = omega (arith, front) in
      let room : 512 ≤ length (drop (512 * s) (take (512 * sector) content)) = omega (arith, front, length-drop (512 * s) (take (512 * sector) content)) in
      let sum : 512 * sector ≡ 512 * s + (512 * sector - 512 * s) = omega arith in
      ap (λ (xs : List ℕ). take 512 (drop (512 * s) xs)) all
      ∙ ap (λ (xs : List ℕ). take 512 xs) (drop-append-le (512 * s) (take (512 * sector) content) (bytes ++ drop (512 * sector + length bytes) content) here)
      ∙ take-append-le 512 (drop (512 * s) (take (512 * sector) content)) (bytes ++ drop (512 * sector + length bytes) content) room
      ∙ ap (λ (n : ℕ). take 512 (drop (512 * s) (take n content))) sum
      ∙ ap (λ (xs : List ℕ). take 512 xs) (drop-take (512 * s) (512 * sector - 512 * s) content)
      ∙ take-take 512 (512 * sector - 512 * s) (drop (512 * s) content) (omega arith)

  above : (s : ℕ) → sector < s → content_at (with_sectors sector bytes content) s ≡ content_at content s
  above s high =
      let len : length (take (512 * sector) content ++ bytes) ≡ 512 * sector + length bytes = length-append (take (512 * sector) content) bytes ∙ ap (λ (n : ℕ). n + length bytes) front in
      let sum : 512 * s ≡ 512 * sector + length bytes + (512 * s - (512 * sector + length bytes)) = omega arith in
      let more : ℕ = 512 * s - (512 * sector + length bytes) in
      ap (λ (n : ℕ). take 512 (drop n (with_sectors sector bytes content))) sum
      ∙ ap (λ (xs : List ℕ). take 512 xs) (sym (drop-drop (512 * s - (512 * sector + length bytes)) (512 * sector + length bytes) (with_sectors sector bytes content))
      ∙ ap (λ (xs : List ℕ). drop (512 * s - (512 * sector + length bytes)) xs) (drop_at (take (512 * sector) content ++ bytes) (drop (512 * sector + length bytes) content) (512 * sector + length bytes) len)
      ∙ drop-drop (512 * s - (512 * sector + length bytes)) (512 * sector + length bytes) content)
      ∙ ap (λ (n : ℕ). take 512 (drop n content)) (sym sum)

  -- no other sector changes
  pub content_other : (s : ℕ) → s ≢ sector → content_at (with_sectors sector bytes content) s ≡ content_at content s
  content_other s apart = elim (cases_lt s sector) [
    | inl low ↦ below s low
    | inr high ↦ above s (let other : s ≡ sector → ⊥ = apart in first_of (omega arith, grind arith))
  ]

step : (b : Bool) (x o c : List ℕ) (xs ys : List (List ℕ)) → (Has c xs → (c ≡ o) ⊎ Has c ys) → Has c (if b then x ∷ xs else xs) → (c ≡ o) ⊎ Has c (if b then x ∷ ys else ys)
step true x o c xs ys f (inl e) = inr (inl e)
step true x o c xs ys f (inr h) = elim (f h) [ inl e ↦ inl e | inr k ↦ inr (inr k) ]
step false x o c xs ys f h = f h

last : (b : Bool) (x c : List ℕ) → Has c (if b then x ∷ [] else []) → (c ≡ x) ⊎ ⊥
last true x c (inl e) = inl e
last true x c (inr none) = absurd none
last false x c none = absurd none

has_push : (l : List Older) (o : Older) (s : ℕ) (c : List ℕ) → Has c (older_at (l ++ o ∷ []) s) → (c ≡ o.bytes) ⊎ Has c (older_at l s)
has_push [] o s c h = last (o.sector == s) o.bytes c h
has_push (p ∷ l) o s c h = step (p.sector == s) p.bytes o.bytes c (older_at (l ++ o ∷ []) s) (older_at l s) (has_push l o s c) h

drop_one : (k b : Bool) (x c : List ℕ) (xs ys : List (List ℕ)) → (Has c xs → Has c ys) → Has c (if k then (if b then x ∷ xs else xs) else xs) → Has c (if b then x ∷ ys else ys)
drop_one true true x c xs ys f (inl e) = inl e
drop_one true true x c xs ys f (inr h) = inr (f h)
drop_one true false x c xs ys f h = f h
drop_one false true x c xs ys f h = inr (f h)
drop_one false false x c xs ys f h = f h

older_if : (k : Bool) (p : Older) (l : List Older) (s : ℕ) → older_at (if k then p ∷ l else l) s ≡ (if k then older_at (p ∷ l) s else older_at l s)
older_if true p l s = refl
older_if false p l s = refl

has_filter : (t : Older → Bool) (l : List Older) (s : ℕ) (c : List ℕ) → Has c (older_at (filter t l) s) → Has c (older_at l s)
has_filter t [] s c h = h
has_filter t (p ∷ l) s c h =
    drop_one (t p) (p.sector == s) p.bytes c (older_at (filter t l) s) (older_at l s) (has_filter t l s c)
    (subst (λ (xs : List (List ℕ)). Has c xs) (older_if (t p) p (filter t l) s) h)

kept_if : (b : Bool) (xs ys : List Older) (s : ℕ) (c : List ℕ) (P : Type 0) → (Has c (older_at xs s) → P) → (Has c (older_at ys s) → P) → Has c (older_at (if b then xs else ys) s) → P
kept_if true xs ys s c P f g h = f h
kept_if false xs ys s c P f g h = g h

-- what a sector's list has after one content more
pub kept_own : (room : ℕ) (o : Older) (l : List Older) (s : ℕ) (c : List ℕ) → Has c (older_at (kept_older room o l) s) → (c ≡ o.bytes) ⊎ Has c (older_at l s)
kept_own room o l s c h = kept_if (nat_lt (length l) room) (l ++ o ∷ []) (filter (λ p. not (p.sector == o.sector)) l) s c ((c ≡ o.bytes) ⊎ Has c (older_at l s)) (has_push l o s c)
    (λ g. inr (has_filter (λ p. not (p.sector == o.sector)) l s c g)) h

push_other : (l : List Older) (o : Older) (s : ℕ) → (o.sector == s) ≡ false → older_at (l ++ o ∷ []) s ≡ older_at l s
push_other [] o s apart = ap (λ (b : Bool). if b then o.bytes ∷ [] else []) apart
push_other (p ∷ l) o s apart = ap (λ (xs : List (List ℕ)). if p.sector == s then p.bytes ∷ xs else xs) (push_other l o s apart)

drop_other : (p o : ℕ) (s : ℕ) (x : List ℕ) (xs ys : List (List ℕ)) → (o ≡ s → ⊥) → xs ≡ ys → (if not (p == o) then (if p == s then x ∷ xs else xs) else xs) ≡ (if p == s then x ∷ ys else ys)
drop_other p o s x xs ys apart same = elim (eqb_tells p o) [
  | inl e ↦
      (let one : (p == o) ≡ true = grind (arith, nat_tests) in
      let two : (p == s) ≡ false = grind (arith, nat_tests) in
      ap (λ (b : Bool). if not b then (if p == s then x ∷ xs else xs) else xs) one ∙ same ∙ sym (ap (λ (b : Bool). if b then x ∷ ys else ys) two))
  | inr e ↦
      (let one : (p == o) ≡ false = e.0 in
      ap (λ (b : Bool). if not b then (if p == s then x ∷ xs else xs) else xs) one ∙ ap (λ (zs : List (List ℕ)). if p == s then x ∷ zs else zs) same)
]

filter_other : (l : List Older) (o s : ℕ) → (o ≡ s → ⊥) → older_at (filter (λ p. not (p.sector == o)) l) s ≡ older_at l s
filter_other [] o s apart = refl
filter_other (p ∷ l) o s apart =
    older_if (not (p.sector == o)) p (filter (λ p. not (p.sector == o)) l) s
    ∙ drop_other p.sector o s p.bytes (older_at (filter (λ p. not (p.sector == o)) l) s) (older_at l s) apart (filter_other l o s apart)

same_if : (b : Bool) (xs ys : List Older) (s : ℕ) (zs : List (List ℕ)) → older_at xs s ≡ zs → older_at ys s ≡ zs → older_at (if b then xs else ys) s ≡ zs
same_if true xs ys s zs f g = f
same_if false xs ys s zs f g = g

-- no other list changes
pub kept_other : (room : ℕ) (o : Older) (l : List Older) (s : ℕ) → (o.sector ≡ s → ⊥) → older_at (kept_older room o l) s ≡ older_at l s
kept_other room o l s apart =
    same_if (nat_lt (length l) room) (l ++ o ∷ []) (filter (λ p. not (p.sector == o.sector)) l) s (older_at l s)
    (push_other l o s (grind (arith, nat_tests))) (filter_other l o.sector s apart)

-- a stretch of the bytes is the contents of its sectors, one after another
pub joined_is : (bytes : List ℕ) (s n : ℕ) → joined (content_at bytes) s n ≡ take (512 * n) (drop (512 * s) bytes)
joined_is bytes s zero = refl
joined_is bytes s (suc n) =
    let place : 512 * s + 512 * n ≡ 512 * (s + n) = omega arith in
    let sum : 512 * n + 512 ≡ 512 * suc n = omega arith in
    joined_more (content_at bytes) s n ∙ ap (λ (xs : List ℕ). xs ++ content_at bytes (s + n)) (joined_is bytes s n)
    ∙ ap (λ (k : ℕ). take (512 * n) (drop (512 * s) bytes) ++ take 512 (drop k bytes)) (sym place)
    ∙ ap (λ (xs : List ℕ). take (512 * n) (drop (512 * s) bytes) ++ take 512 xs) (sym (drop-drop (512 * n) (512 * s) bytes))
    ∙ sym (take-add (512 * n) 512 (drop (512 * s) bytes)) ∙ ap (λ (k : ℕ). take k (drop (512 * s) bytes)) sum

has_more : (b : Bool) (x c : List ℕ) (xs : List (List ℕ)) → Has c xs → Has c (if b then x ∷ xs else xs)
has_more true x c xs h = inr h
has_more false x c xs h = h

-- an older content is in the list of its sector
pub has_at : (l : List Older) (i s : ℕ) (d : Older) → i < length l → (get_or l i d).sector ≡ s → Has (get_or l i d).bytes (older_at l s)
has_at [] i s d inside is = absurd (omega (arith, inside))
has_at (o ∷ l) zero s d inside is =
    let here : (o.sector == s) ≡ true = grind (arith, nat_tests) in
    subst (λ (b : Bool). Has o.bytes (if b then o.bytes ∷ older_at l s else older_at l s)) (sym here) (inl refl)
has_at (o ∷ l) (suc i) s d inside is = has_more (o.sector == s) o.bytes (get_or l i d).bytes (older_at l s) (has_at l i s d (omega (arith, inside)) is)

-- one sector more has a content of its list
pub brought_more : (f g h : ℕ → List ℕ) (l : List Older) (n : ℕ) → ((s : ℕ) → s < n → Has (g s) (f s ∷ older_at l s)) → ((s : ℕ) → n ≤ s → g s ≡ f s) → Has (h n) (g n ∷ older_at l n) →
    ((s : ℕ) → s ≢ n → h s ≡ g s) → (s : ℕ) → s < n + 1 → Has (h s) (f s ∷ older_at l s)
brought_more f g h l n done rest own others s low = elim (cases_lt s n) [
  | inl below ↦
      (let apart : s ≡ n → ⊥ = λ (e : s ≡ n). omega (arith, e, below) in
      subst (λ (x : List ℕ). Has x (f s ∷ older_at l s)) (sym (others s apart)) (done s below))
  | inr at ↦
      (let here : n ≡ s = omega (arith, at, low) in
      subst (λ (t : ℕ). Has (h t) (f t ∷ older_at l t)) here (subst (λ (x : List ℕ). Has (h n) (x ∷ older_at l n)) (rest n (omega arith)) own))
]

-- each sector has 512 bytes
pub length-content : (bytes : List ℕ) (n s : ℕ) → length bytes ≡ 512 * n → s < n → length (content_at bytes s) ≡ 512
length-content bytes n s size low = length-take-le 512 (drop (512 * s) bytes) (omega (arith, size, low, length-drop (512 * s) bytes))

-- what a write does to the lists
pub listed_write : (sector : ℕ) (bytes : List ℕ) (d : Stored) → length bytes ≡ 512 → 512 * sector + 512 ≤ length d.bytes → IsListedWrite sector bytes (list_at d) (list_at (overwritten sector bytes d))
listed_write sector bytes d size inside =
    record {
      own = λ content h. elim h [
        | inl e ↦ inl (e ∙ content_written sector bytes d.bytes size inside)
        | inr old ↦ elim (kept_own d.room (record { sector = sector; bytes = content_at d.bytes sector }) d.older sector content old) [ inl e ↦ inr (inl e) | inr k ↦ inr (inr k) ]
      ];
      others = λ s apart.
          ap (λ (x : List ℕ). x ∷ older_at (kept_older d.room (record { sector = sector; bytes = content_at d.bytes sector }) d.older) s) (content_other sector bytes d.bytes size inside s apart)
          ∙ ap (λ (xs : List (List ℕ)). content_at d.bytes s ∷ xs) (kept_other d.room (record { sector = sector; bytes = content_at d.bytes sector }) d.older s (λ (e : sector ≡ s). apart (sym e)));
    }
