-- Unmapping in order: each of the mappings is the one that was live under its number at the beginning.
use Rattle.std.proofs.Common.{◌≡◌, ◌≢◌, ℕ, zero, suc, ◌+◌, ◌-◌, ◌≤◌, ◌==◌, not, Bool, true, false, Option, Some, None, refl, ap, sym, subst, ◌∙◌, arith, cond, List, [], ◌∷◌, ◌++◌, find, filter, append_assoc}
use Rattle.std.proofs.lemmas.Bool.Decides.{nat_tests}
use Rattle.std.proofs.lemmas.List.{append-nil}
use Rattle.std.specs.Option.{option_map_or}
use Rattle.vd_model.specs.Acts.{Act, Streaming, Driver, Unmapped}
use Rattle.vd_model.specs.Live.{live_mappings}
use Rattle.vd_model.specs.RingTurns.{unmap_act, unmap_acts}
use Rattle.blk_driver.specs.Driver.{numbers_from}

-- what is found under a number has it
found_has : (k : ℕ) (ms : List Streaming) (m : Streaming) → find (λ l. l.number == k) ms ≡ Some m → m.number ≡ k
found_has k [] m e = cc
found_has k (l ∷ ms) m e = by (l.number == k) refl (found_has k ms m) e where
  by : (b : Bool) → (l.number == k) ≡ b → (find (λ n. n.number == k) ms ≡ Some m → m.number ≡ k)
      → cond b (Some l) (find (λ n. n.number == k) ms) ≡ Some m → m.number ≡ k
  by true t later f = let is : l.number ≡ k = grind (arith, nat_tests) in let same : l ≡ m = cc in subst (λ (n : Streaming). n.number ≡ k) same is
  by false t later f = later f

-- another is found still where one was taken away
found_without : (k j : ℕ) (ms : List Streaming) → k ≢ j → find (λ m. m.number == k) (filter (λ l. not (l.number == j)) ms) ≡ find (λ m. m.number == k) ms
found_without k j [] ne = refl
found_without k j (l ∷ ms) ne = by (l.number == j) refl (found_without k j ms ne) where
  by : (b : Bool) → (l.number == j) ≡ b → find (λ m. m.number == k) (filter (λ n. not (n.number == j)) ms) ≡ find (λ m. m.number == k) ms
      → find (λ m. m.number == k) (cond (not b) (l ∷ filter (λ n. not (n.number == j)) ms) (filter (λ n. not (n.number == j)) ms)) ≡ find (λ m. m.number == k) (l ∷ ms)
  by true t rest = let other : (l.number == k) ≡ false = grind (arith, nat_tests) in
      rest ∙ sym (ap (λ c. cond c (Some l) (find (λ m. m.number == k) ms)) other)
  by false t rest = ap (cond (l.number == k) (Some l)) rest

-- an unmap of another number leaves it
pub after_one : (k j : ℕ) (live : List Streaming) (acts : List Act) → k ≢ j
    → find (λ m. m.number == k) (live_mappings (unmap_act live j ++ acts)) ≡ find (λ m. m.number == k) (live_mappings acts)
after_one k j live acts ne = by (find (λ m. m.number == j) live) refl where
  by : (o : Option Streaming) → find (λ m. m.number == j) live ≡ o → find (λ m. m.number == k) (live_mappings (unmap_act live j ++ acts)) ≡ find (λ m. m.number == k) (live_mappings acts)
  by None e = rw e refl
  by (Some m) e = let has = found_has j live m e in
      rw (e, has) (found_without k j (live_mappings acts) ne)

-- and so do unmaps of lesser numbers
pub after_lesser : (k first n : ℕ) (live : List Streaming) (acts : List Act) → first + n ≤ k
    → find (λ m. m.number == k) (live_mappings (unmap_acts live (numbers_from first n) ++ acts)) ≡ find (λ m. m.number == k) (live_mappings acts)
after_lesser k first zero live acts le = refl
after_lesser k first (suc n) live acts le =
    ap (λ done. find (λ m. m.number == k) (live_mappings done)) (append_assoc (unmap_acts live (numbers_from (first + 1) n)) (unmap_act live first) acts)
    ∙ after_lesser k (first + 1) n live (unmap_act live first ++ acts) (omega arith)
    ∙ after_one k first live acts (omega arith)

-- the last of some numbers is unmapped last
pub unmap_last : (first n : ℕ) (live : List Streaming) → unmap_acts live (numbers_from first (suc n)) ≡ unmap_act live (first + n) ++ unmap_acts live (numbers_from first n)
unmap_last first zero live = let e : first + 0 ≡ first = omega arith in sym (append-nil (unmap_act live (first + 0)) ∙ ap (unmap_act live) e)
unmap_last first (suc n) live =
    let e : first + 1 + n ≡ first + suc n = omega arith in
    ap (λ done. done ++ unmap_act live first) (unmap_last (first + 1) n live)
    ∙ append_assoc (unmap_act live (first + 1 + n)) (unmap_acts live (numbers_from (first + 1) n)) (unmap_act live first)
    ∙ ap (λ k. unmap_act live k ++ unmap_acts live (numbers_from first (suc n))) e

-- one more unmap
pub one_more : (first k : ℕ) (acts : List Act) → first ≤ k
    → unmap_act (live_mappings (unmap_acts (live_mappings acts) (numbers_from first (k - first)) ++ acts)) k ++ (unmap_acts (live_mappings acts) (numbers_from first (k - first)) ++ acts)
    ≡ unmap_acts (live_mappings acts) (numbers_from first (k + 1 - first)) ++ acts
one_more first k acts le =
    let live = live_mappings acts in
    let n = k - first in
    let here : first + n ≡ k = omega arith in
    let more : suc n ≡ k + 1 - first = omega arith in
    let same = after_lesser k first n live acts (omega arith) in
    ap (λ (o : Option Streaming). option_map_or (λ m. Driver (Unmapped m) ∷ []) o [] ++ (unmap_acts live (numbers_from first n) ++ acts)) same
    ∙ ap (λ j. unmap_act live j ++ (unmap_acts live (numbers_from first n) ++ acts)) (sym here)
    ∙ sym (append_assoc (unmap_act live (first + n)) (unmap_acts live (numbers_from first n)) acts)
    ∙ ap (λ done. done ++ acts) (sym (unmap_last first n live))
    ∙ ap (λ j. unmap_acts live (numbers_from first j) ++ acts) more
