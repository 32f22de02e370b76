-- The requests of the chains that are out have mappings of their own.
use Rattle.std.proofs.Common.{◌≡◌, ℕ, ◌+◌, ◌<◌, ◌≤◌, Bool, true, false, refl, subst, ◌∙◌, sym, arith, cond, List, [], ◌∷◌, ◌++◌, ◌==◌, eqb-true, ◌⊎◌, inl, inr}
use Rattle.std.specs.List.{filter}
use Rattle.vd_model.specs.Setting.{Setting}
use Rattle.vd_model.specs.Acts.{Act, Driver, Queue, Mapped, AddedChain, Ring_made, Ring_dropped, Chain_added, Chains_published, Chain_reclaimed}
use Rattle.vd_model.specs.Live.{maps}
use Rattle.vd_model.specs.Queues.{is_other_chain, chains_out, published_chains_out}
use Rattle.vd_laws.specs.Among.{Among}
use Rattle.vd_laws.proofs.Lists.{pushed, filtered}
use Rattle.vd_laws.proofs.Legal.{maps_of, Distinct, IsNewChain, Legal}

-- the requests of these chains have mappings below n, each in one of them once
pub record AreOwn (n : ℕ) (chains : List AddedChain) : Type 0 where
  pub distinct : (c : AddedChain) → Among c chains → Distinct (maps_of c.request)
  pub below : (c : AddedChain) → Among c chains → (k : ℕ) → Among k (maps_of c.request) → k < n
  pub once : (c d : AddedChain) → Among c chains → Among d chains → (k : ℕ) → Among k (maps_of c.request) → Among k (maps_of d.request) → c ≡ d

abbrev AreDistinct : List AddedChain → Type 0
AreDistinct chains = (c : AddedChain) → Among c chains → Distinct (maps_of c.request)

pub record Chained (acts : List Act) : Type 0 where
  pub own : (q : ℕ) → AreOwn (maps acts) (chains_out acts q)
  pub published : (q : ℕ) → AreDistinct (published_chains_out acts q)

none_own : (n : ℕ) → AreOwn n []
none_own n = record { distinct = λ c h. absurd h; below = λ c h k j. absurd h; once = λ c d h g k i j. absurd h }

filtered_own : (n : ℕ) (p : AddedChain → Bool) (chains : List AddedChain) → AreOwn n chains → AreOwn n (filter p chains)
filtered_own n p chains o = record {
  distinct = λ c h. o.distinct c (less c h);
  below = λ c h k j. o.below c (less c h) k j;
  once = λ c d h g k i j. o.once c d (less c h) (less d g) k i j;
} where
  less : (c : AddedChain) → Among c (filter p chains) → Among c chains
  less c h = (filtered p c chains h).0

more_own : (n m : ℕ) (chains : List AddedChain) → n ≤ m → AreOwn n chains → AreOwn m chains
more_own n m chains le o = record { distinct = o.distinct; below = λ c h k j. (let b = o.below c h k j in omega arith); once = o.once }

pushed_own : (acts : List Act) (q : ℕ) (chain : AddedChain) → IsNewChain acts q chain → AreOwn (maps acts) (chains_out acts q) → AreOwn (maps acts) (chains_out acts q ++ chain ∷ [])
pushed_own acts q chain f o = record {
  distinct = λ c h. distinct c (pushed c chain (chains_out acts q) h);
  below = λ c h. below c (pushed c chain (chains_out acts q) h);
  once = λ c d h g. once c d (pushed c chain (chains_out acts q) h) (pushed d chain (chains_out acts q) g);
} where
  distinct : (c : AddedChain) → Among c (chains_out acts q) ⊎ (c ≡ chain) → Distinct (maps_of c.request)
  distinct c (inl h) = o.distinct c h
  distinct c (inr e) = subst (λ c. Distinct (maps_of c.request)) (sym e) f.distinct

  below : (c : AddedChain) → Among c (chains_out acts q) ⊎ (c ≡ chain) → (k : ℕ) → Among k (maps_of c.request) → k < maps acts
  below c (inl h) k j = o.below c h k j
  below c (inr e) k j = f.made k (subst (λ c. Among k (maps_of c.request)) e j)

  once : (c d : AddedChain) → Among c (chains_out acts q) ⊎ (c ≡ chain) → Among d (chains_out acts q) ⊎ (d ≡ chain) → (k : ℕ) → Among k (maps_of c.request) → Among k (maps_of d.request) → c ≡ d
  once c d (inl h) (inl g) k i j = o.once c d h g k i j
  once c d (inl h) (inr e) k i j = absurd (f.apart c h k i (subst (λ c. Among k (maps_of c.request)) e j))
  once c d (inr e) (inl g) k i j = absurd (f.apart d g k j (subst (λ c. Among k (maps_of c.request)) e i))
  once c d (inr e) (inr s) k i j = e ∙ sym s

either : (P : List AddedChain → Type 0) (xs ys : List AddedChain) (b : Bool) → (b ≡ true → P xs) → P ys → P (cond b xs ys)
either P xs ys true f g = f refl
either P xs ys false f g = g

next_chained : (x : Setting) (act : Act) (acts : List Act) → Legal x (act ∷ acts) → Chained acts → Chained (act ∷ acts)
next_chained x (Driver (Mapped m)) acts h s = record { own = λ q. more_own (maps acts) (maps acts + 1) (chains_out acts q) (omega arith) (s.own q); published = s.published }
next_chained x (Queue (Chain_added k chain)) acts h s = record {
  own = λ q. either (AreOwn (maps acts)) (chains_out acts q ++ chain ∷ []) (chains_out acts q) (k == q) (λ e. pushed_own acts q chain (subst (λ k. IsNewChain acts k chain) (eqb-true k q e) h.0) (s.own q)) (s.own q);
  published = s.published;
}
next_chained x (Queue (Chains_published k)) acts h s = record {
  own = s.own;
  published = λ q. either AreDistinct (chains_out acts q) (published_chains_out acts q) (k == q) (λ e. (s.own q).distinct) (s.published q);
}
next_chained x (Queue (Chain_reclaimed k head)) acts h s = record {
  own = λ q. either (AreOwn (maps acts)) (filter (is_other_chain head) (chains_out acts q)) (chains_out acts q) (k == q) (λ e. filtered_own (maps acts) (is_other_chain head) (chains_out acts q) (s.own q)) (s.own q);
  published = λ q. either AreDistinct (filter (is_other_chain head) (published_chains_out acts q)) (published_chains_out acts q) (k == q) (λ e c h. s.published q c (filtered (is_other_chain head) c (published_chains_out acts q) h).0) (s.published q);
}
next_chained x (Queue (Ring_made k place region)) acts h s = record {
  own = λ q. either (AreOwn (maps acts)) [] (chains_out acts q) (k == q) (λ e. none_own (maps acts)) (s.own q);
  published = λ q. either AreDistinct [] (published_chains_out acts q) (k == q) (λ e c h. absurd h) (s.published q);
}
next_chained x (Queue (Ring_dropped k)) acts h s = record {
  own = λ q. either (AreOwn (maps acts)) [] (chains_out acts q) (k == q) (λ e. none_own (maps acts)) (s.own q);
  published = λ q. either AreDistinct [] (published_chains_out acts q) (k == q) (λ e c h. absurd h) (s.published q);
}
next_chained x _ acts h s = record { own = s.own; published = s.published }

pub chained : (x : Setting) (acts : List Act) → Legal x acts → Chained acts
chained x [] h = record { own = λ q. none_own 0; published = λ q c h. absurd h }
chained x (act ∷ acts) h = next_chained x act acts h (chained x acts h.1)
