-- No live mapping is left of the buffers that were made for a request that ended.
use Rattle.std.proofs.Common.{◌≡◌, ℕ, zero, suc, ◌+◌, ◌<◌, Bool, true, false, if◌then◌else◌, ◌==◌, ◌||◌, refl, ap, sym, ◌∙◌, subst, arith, List, [], ◌∷◌, ◌++◌, append_assoc, Some, None, Option, filter, inl, inr, true≢false}
use Rattle.std.specs.Prelude.{find, not}
use Rattle.std.specs.List.{All, list_any}
use Rattle.std.specs.Option.{option_map_or}
use Rattle.std.proofs.lemmas.Bool.Decides.{nat_tests, eqb_tells}
use Rattle.std.proofs.lemmas.List.Elements.{All-head, All-tail, All-cons, All-nil, All-weaker, All-filter}
use Rattle.vd_model.specs.Acts.{Act, Driver, Streaming, Unmapped}
use Rattle.vd_model.specs.Live.{live_mappings}
use Rattle.vd_model.specs.RingTurns.{unmap_act, unmap_acts, free_acts}
use Rattle.blk_driver.specs.declared.driver.Made.{Made}
use Rattle.vd_request_lines.specs.Ended.{is_of, IsLeft}

-- a mapping of such a buffer has one of these numbers
abbrev pub IsOne : Made → List ℕ → Streaming → Type 0
IsOne made numbers m = is_of made m.want.buffer ≡ true → list_any (λ n. n == m.number) numbers ≡ true

-- a mapping has a number of some mapping
abbrev IsIn : List Streaming → Streaming → Type 0
IsIn mappings m = list_any (λ (k : Streaming). k.number == m.number) mappings ≡ true

itself : (n : ℕ) → (n == n) ≡ true
itself n = elim (eqb_tells n n) [ inl h ↦ h.0 | inr h ↦ absurd (h.1 refl) ]

not_one : (t : Bool) → (t ≡ true → false ≡ true) → t ≡ false
not_one false e = refl
not_one true e = absurd (true≢false (sym (e refl)))

-- one that has another number than the first has one of the rest
other_one : (made : Made) (number : ℕ) (numbers : List ℕ) (m : Streaming) → (number == m.number) ≡ false → IsOne made (number ∷ numbers) m → IsOne made numbers m
other_one made number numbers m off one e = sym (ap (λ t. t || list_any (λ n. n == m.number) numbers) off) ∙ one e

turned : (a b : ℕ) → (a == b) ≡ false → (b == a) ≡ false
turned a b off = by (b == a) refl where
  by : (t : Bool) → (b == a) ≡ t → (b == a) ≡ false
  by false e = e
  by true e = elim (eqb_tells b a) [ inl h ↦ absurd (true≢false (sym (ap (λ k. k == b) (sym h.1) ∙ itself b) ∙ off)) | inr h ↦ h.0 ]

filtered : (made : Made) (number : ℕ) (numbers : List ℕ) (m : Streaming) → m.number ≡ number → (ms : List Streaming) → All (IsOne made (number ∷ numbers)) ms
    → All (IsOne made numbers) (filter (λ l. not (l.number == m.number)) ms)
filtered made number numbers m is [] all = All-nil (IsOne made numbers)
filtered made number numbers m is (l ∷ ls) all = by (l.number == m.number) refl (filtered made number numbers m is ls (All-tail (IsOne made (number ∷ numbers)) l ls all)) where
  by : (t : Bool) → (l.number == m.number) ≡ t → All (IsOne made numbers) (filter (λ l. not (l.number == m.number)) ls)
      → All (IsOne made numbers) (if not (l.number == m.number) then l ∷ filter (λ l. not (l.number == m.number)) ls else filter (λ l. not (l.number == m.number)) ls)
  by true e rest = subst (λ t. All (IsOne made numbers) (if not t then l ∷ filter (λ l. not (l.number == m.number)) ls else filter (λ l. not (l.number == m.number)) ls)) (sym e) rest
  by false e rest =
      subst (λ t. All (IsOne made numbers) (if not t then l ∷ filter (λ l. not (l.number == m.number)) ls else filter (λ l. not (l.number == m.number)) ls)) (sym e)
      (All-cons (IsOne made numbers) l (filter (λ l. not (l.number == m.number)) ls)
      (other_one made number numbers l (turned l.number number (sym (ap (λ k. l.number == k) is) ∙ e)) (All-head (IsOne made (number ∷ numbers)) l ls all)) rest)

-- a number of no mapping is none of those that are in
none_of : (mappings : List Streaming) (number : ℕ) → find (λ m. m.number == number) mappings ≡ None → (m : Streaming) → IsIn mappings m → (number == m.number) ≡ false
none_of mappings number none m there = by (number == m.number) refl where
  no_one : (ms : List Streaming) → find (λ m. m.number == number) ms ≡ None → list_any (λ k. k.number == number) ms ≡ false
  no_one [] e = refl
  no_one (k ∷ ks) e = on (k.number == number) refl (no_one ks) where
    some_none : {X : Type 0} {a : X} → Some a ≡ None → ⊥
    some_none e = cc

    on : (t : Bool) → (k.number == number) ≡ t → (find (λ m. m.number == number) ks ≡ None → list_any (λ k. k.number == number) ks ≡ false) → ((k.number == number) || list_any (λ k. k.number == number) ks) ≡ false
    on true f rest = absurd (some_none (sym (ap (λ t. if t then Some k else find (λ m. m.number == number) ks) f) ∙ e))
    on false f rest = ap (λ t. t || list_any (λ k. k.number == number) ks) f ∙ rest (sym (ap (λ t. if t then Some k else find (λ m. m.number == number) ks) f) ∙ e)

  by : (t : Bool) → (number == m.number) ≡ t → (number == m.number) ≡ false
  by false e = e
  by true e = elim (eqb_tells number m.number) [
    | inl h ↦ absurd (true≢false (sym (subst (λ n. list_any (λ (k : Streaming). k.number == n) mappings ≡ true) (sym h.1) there) ∙ no_one mappings none))
    | inr h ↦ h.0
  ]

pub found_number : (number : ℕ) (ms : List Streaming) (m : Streaming) → find (λ m. m.number == number) ms ≡ Some m → m.number ≡ number
found_number number [] m e = absurd (no e) where
  no : None ≡ Some m → ⊥
  no e = cc
found_number number (k ∷ ks) m e = by (k.number == number) refl (found_number number ks m) where
  same : Some k ≡ Some m → k ≡ m
  same e = cc

  by : (t : Bool) → (k.number == number) ≡ t → (find (λ m. m.number == number) ks ≡ Some m → m.number ≡ number) → m.number ≡ number
  by true f rest = elim (eqb_tells k.number number) [
    | inl h ↦ sym (ap (λ (k : Streaming). k.number) (same (sym (ap (λ t. if t then Some k else find (λ m. m.number == number) ks) f) ∙ e))) ∙ h.1
    | inr h ↦ absurd (true≢false (sym f ∙ h.0))
  ]
  by false f rest = rest (sym (ap (λ t. if t then Some k else find (λ m. m.number == number) ks) f) ∙ e)

left_by : (made : Made) (mappings : List Streaming) (numbers : List ℕ) (done : List Act) → All (IsIn mappings) (live_mappings done) → All (IsOne made numbers) (live_mappings done)
    → IsLeft (unmap_acts mappings numbers ++ done) made
left_by made mappings [] done there all = All-weaker (IsOne made []) (λ (m : Streaming). is_of made m.want.buffer ≡ false) (λ m h. not_one (is_of made m.want.buffer) h) (live_mappings done) all
left_by made mappings (number ∷ numbers) done there all =
    subst (λ l. IsLeft l made) (sym (append_assoc (unmap_acts mappings numbers) (unmap_act mappings number) done))
    (by (find (λ m. m.number == number) mappings) refl (λ more. left_by made mappings numbers (more ++ done))) where
      by : (o : Option Streaming) → find (λ m. m.number == number) mappings ≡ o
          → ((more : List Act) → All (IsIn mappings) (live_mappings (more ++ done)) → All (IsOne made numbers) (live_mappings (more ++ done)) → IsLeft (unmap_acts mappings numbers ++ (more ++ done)) made)
          → IsLeft (unmap_acts mappings numbers ++ (option_map_or (λ m. Driver (Unmapped m) ∷ []) (find (λ m. m.number == number) mappings) [] ++ done)) made
      by None e rest =
          subst (λ o. IsLeft (unmap_acts mappings numbers ++ (option_map_or (λ m. Driver (Unmapped m) ∷ []) o [] ++ done)) made) (sym e)
          (rest [] there (both (live_mappings done) there all)) where
            both : (ms : List Streaming) → All (IsIn mappings) ms → All (IsOne made (number ∷ numbers)) ms → All (IsOne made numbers) ms
            both [] t a = All-nil (IsOne made numbers)
            both (m ∷ ms) t a =
                All-cons (IsOne made numbers) m ms
                (other_one made number numbers m (none_of mappings number e m (All-head (IsIn mappings) m ms t)) (All-head (IsOne made (number ∷ numbers)) m ms a))
                (both ms (All-tail (IsIn mappings) m ms t) (All-tail (IsOne made (number ∷ numbers)) m ms a))
      by (Some m) e rest =
          subst (λ o. IsLeft (unmap_acts mappings numbers ++ (option_map_or (λ m. Driver (Unmapped m) ∷ []) o [] ++ done)) made) (sym e)
          (rest (Driver (Unmapped m) ∷ [])
          (All-filter (λ (l : Streaming). not (l.number == m.number)) (IsIn mappings) (live_mappings done) there)
          (filtered made number numbers m (found_number number mappings m e) (live_mappings done) all))

-- where each live mapping of the buffers is one of those that are unmapped, none is left
pub left_after : (made : Made) (numbers : List ℕ) (done : List Act) → All (IsOne made numbers) (live_mappings done) → IsLeft (unmap_acts (live_mappings done) numbers ++ done) made
left_after made numbers done all = left_by made (live_mappings done) numbers done (in_all [] (live_mappings done)) all where
  in_all : (before ms : List Streaming) → All (IsIn (before ++ ms)) ms
  in_all before [] = All-nil (IsIn (before ++ []))
  in_all before (m ∷ ms) =
      All-cons (IsIn (before ++ m ∷ ms)) m ms (here before)
      (subst (λ l. All (IsIn l) ms) (append_assoc before (m ∷ []) ms) (in_all (before ++ m ∷ []) ms)) where
        or_second : (a : Bool) {b : Bool} → b ≡ true → (a || b) ≡ true
        or_second true e = refl
        or_second false e = e

        here : (before : List Streaming) → IsIn (before ++ m ∷ ms) m
        here [] = ap (λ t. t || list_any (λ (k : Streaming). k.number == m.number) ms) (itself m.number)
        here (k ∷ ks) = or_second (k.number == m.number) (here ks)

-- ---- freeing

pub free_live : (buffer n : ℕ) (done : List Act) → live_mappings (free_acts buffer n ++ done) ≡ live_mappings done
free_live buffer zero done = refl
free_live buffer (suc n) done = free_live buffer n done

-- a buffer that was made is of no live mapping
pub none_left : (acts : List Act) (made : Made) (k : ℕ) → k < made.count → IsLeft acts made → list_any (λ (m : Streaming). m.want.buffer == made.buffer + k) (live_mappings acts) ≡ false
none_left acts made k below left = by (live_mappings acts) left where
  by : (ms : List Streaming) → All (λ (m : Streaming). is_of made m.want.buffer ≡ false) ms → list_any (λ (m : Streaming). m.want.buffer == made.buffer + k) ms ≡ false
  by [] all = refl
  by (m ∷ ms) all =
      ap (λ t. t || list_any (λ (m : Streaming). m.want.buffer == made.buffer + k) ms) (off (m.want.buffer == made.buffer + k) refl)
      ∙ by ms (All-tail (λ (m : Streaming). is_of made m.want.buffer ≡ false) m ms all) where
        inside : is_of made (made.buffer + k) ≡ true
        inside = grind (arith, nat_tests, below)

        off : (t : Bool) → (m.want.buffer == made.buffer + k) ≡ t → (m.want.buffer == made.buffer + k) ≡ false
        off false e = e
        off true e = elim (eqb_tells m.want.buffer (made.buffer + k)) [
          | inl h ↦ absurd (true≢false (sym inside ∙ ap (is_of made) (sym h.1) ∙ All-head (λ (m : Streaming). is_of made m.want.buffer ≡ false) m ms all))
          | inr h ↦ h.0
        ]
