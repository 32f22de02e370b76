-- Lists of distinct numbers.
use Rattle.std.proofs.Common.{◌≡◌, ℕ, zero, suc, ◌+◌, ◌<◌, ◌≤◌, Bool, true, false, refl, ap, subst, ◌∙◌, sym, arith, cond, List, [], ◌∷◌, ◌++◌, ◌==◌, not, length, eqb-true, ◌⊎◌, inl, inr}
use Rattle.std.specs.List.{filter}
use Rattle.std.proofs.lemmas.Bool.{ne_eqb}
use Rattle.std.proofs.lemmas.Bool.Decides.{nat_tests}
use Rattle.vd_model.specs.Acts.{AddedChain}
use Rattle.vd_model.specs.Queues.{is_other_chain}
use Rattle.vd_laws.specs.Among.{Among}
use Rattle.vd_laws.proofs.Lists.{pushed, filtered}
use Rattle.vd_ring_laws.specs.ChainLaw.{heads, AreDistinct}

pub distinct_push : (ns : List ℕ) (n : ℕ) → AreDistinct ns → (Among n ns → ⊥) → AreDistinct (ns ++ n ∷ [])
distinct_push [] n d other = ((λ h. absurd h), tt)
distinct_push (m ∷ ns) n d other = ((λ h. elim (pushed m n ns h) [ inl k ↦ d.0 k | inr e ↦ other (inl (sym e)) ]), distinct_push ns n d.1 (λ h. other (inr h)))

-- ---- numbers below a bound

keeps : (p : ℕ → Bool) (ns : List ℕ) → AreDistinct ns → AreDistinct (filter p ns)
keeps p [] d = tt
keeps p (n ∷ ns) d = by (p n) (keeps p ns d.1) where
  by : (b : Bool) → AreDistinct (filter p ns) → AreDistinct (cond b (n ∷ filter p ns) (filter p ns))
  by true later = ((λ h. d.0 (filtered p n ns h).0), later)
  by false later = later

none_gone : (m : ℕ) (ns : List ℕ) → (Among m ns → ⊥) → filter (λ k. not (k == m)) ns ≡ ns
none_gone m [] h = refl
none_gone m (n ∷ ns) h = ap (λ b. cond (not b) (n ∷ filter (λ k. not (k == m)) ns) (filter (λ k. not (k == m)) ns)) (ne_eqb n m (λ e. h (inl (sym e)))) ∙ ap (λ l. n ∷ l) (none_gone m ns (λ j. h (inr j)))

one_gone : (m : ℕ) (ns : List ℕ) → AreDistinct ns → length ns ≤ length (filter (λ k. not (k == m)) ns) + 1
one_gone m [] d = omega arith
one_gone m (n ∷ ns) d = by (n == m) refl (one_gone m ns d.1) where
  by : (b : Bool) → (n == m) ≡ b → length ns ≤ length (filter (λ k. not (k == m)) ns) + 1
      → suc (length ns) ≤ length (cond (not b) (n ∷ filter (λ k. not (k == m)) ns) (filter (λ k. not (k == m)) ns)) + 1
  by true e later =
      let same : filter (λ k. not (k == m)) ns ≡ ns = none_gone m ns (subst (λ k. Among k ns → ⊥) (eqb-true n m e) d.0) in
      let l : length (filter (λ k. not (k == m)) ns) ≡ length ns = ap length same in omega arith
  by false e later = omega arith

pub few_below : (n : ℕ) (ns : List ℕ) → AreDistinct ns → ((k : ℕ) → Among k ns → k < n) → length ns ≤ n
few_below zero [] d low = omega arith
few_below zero (k ∷ ns) d low = let l = low k (inl refl) in absurd (omega arith)
few_below (suc n) ns d low =
    let rest = filter (λ k. not (k == n)) ns in
    let less : length rest ≤ n = few_below n rest (keeps (λ k. not (k == n)) ns d) (λ k h. below k (filtered (λ k. not (k == n)) k ns h)) in
    let most = one_gone n ns d in
    omega arith where
      below : (k : ℕ) → Among k ns × (not (k == n) ≡ true) → k < n
      below k h = let l = low k h.0 in let e = h.1 in grind (arith, nat_tests)

-- ---- heads

pub heads_push : (chains : List AddedChain) (chain : AddedChain) → heads (chains ++ chain ∷ []) ≡ heads chains ++ chain.head ∷ []
heads_push [] chain = refl
heads_push (c ∷ chains) chain = ap (λ l. c.head ∷ l) (heads_push chains chain)

pub head_among : (chain : AddedChain) (chains : List AddedChain) → Among chain chains → Among chain.head (heads chains)
head_among c [] h = absurd h
head_among c (d ∷ chains) (inl e) = inl (ap (λ c. c.head) e)
head_among c (d ∷ chains) (inr h) = inr (head_among c chains h)

pub among_head : (n : ℕ) (chains : List AddedChain) → Among n (heads chains) → (chain : AddedChain) × Among chain chains × (n ≡ chain.head)
among_head n [] h = absurd h
among_head n (c ∷ chains) (inl e) = (c, inl refl, e)
among_head n (c ∷ chains) (inr h) = let r = among_head n chains h in (r.0, inr r.1, r.2)

pub distinct_filter : (p : AddedChain → Bool) (chains : List AddedChain) → AreDistinct (heads chains) → AreDistinct (heads (filter p chains))
distinct_filter p [] d = tt
distinct_filter p (c ∷ chains) d = by (p c) (distinct_filter p chains d.1) where
  less : Among c.head (heads (filter p chains)) → Among c.head (heads chains)
  less h = let r = among_head c.head (filter p chains) h in subst (λ n. Among n (heads chains)) (sym r.2) (head_among r.0 chains (filtered p r.0 chains r.1).0)

  by : (b : Bool) → AreDistinct (heads (filter p chains)) → AreDistinct (heads (cond b (c ∷ filter p chains) (filter p chains)))
  by true later = ((λ h. d.0 (less h)), later)
  by false later = later

all_other : (n : ℕ) (chains : List AddedChain) → (Among n (heads chains) → ⊥) → filter (is_other_chain n) chains ≡ chains
all_other n [] h = refl
all_other n (c ∷ chains) h = ap (λ b. cond (not b) (c ∷ filter (is_other_chain n) chains) (filter (is_other_chain n) chains)) (ne_eqb c.head n (λ e. h (inl (sym e)))) ∙ ap (λ l. c ∷ l) (all_other n chains (λ j. h (inr j)))

-- where a head is taken out, one chain goes
pub one_less : (n : ℕ) (chains : List AddedChain) → AreDistinct (heads chains) → Among n (heads chains) → length chains ≡ length (filter (is_other_chain n) chains) + 1
one_less n [] d h = absurd h
one_less n (c ∷ chains) d h = by (c.head == n) refl h (one_less n chains d.1) where
  by : (b : Bool) → (c.head == n) ≡ b → (n ≡ c.head) ⊎ Among n (heads chains) → (Among n (heads chains) → length chains ≡ length (filter (is_other_chain n) chains) + 1)
      → suc (length chains) ≡ length (cond (not b) (c ∷ filter (is_other_chain n) chains) (filter (is_other_chain n) chains)) + 1
  by true e i later = (let l : length (filter (is_other_chain n) chains) ≡ length chains = ap length (all_other n chains (subst (λ k. Among k (heads chains) → ⊥) (eqb-true c.head n e) d.0)) in omega arith)
  by false e (inl same) later = absurd (grind (arith, nat_tests))
  by false e (inr k) later = let l = later k in omega arith
