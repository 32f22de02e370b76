-- The ends of requests are legal: each of their mappings is unmapped once.
use Rattle.std.proofs.Common.{◌≡◌, ℕ, suc, zero, ◌<◌, refl, ap, subst, ◌∙◌, sym, arith, Option, None, Some, List, [], ◌∷◌, ◌++◌, ◌==◌, not, find, append_assoc, append-nil, eqb-true, ◌⊎◌, inl, inr}
use Rattle.std.specs.Option.{option_map_or}
use Rattle.std.proofs.lemmas.Bool.{ne_eqb}
use Rattle.vd_model.specs.Setting.{Setting}
use Rattle.vd_model.specs.Acts.{Act, Driver, Streaming, Coherent, AddedChain, Request, Unmapped, Region_freed}
use Rattle.vd_model.specs.Live.{live_mappings}
use Rattle.vd_model.specs.RingTurns.{unmap_act, unmap_acts, free_acts, request_end_acts, by_head, requests_end_acts, region_end_acts}
use Rattle.vd_laws.specs.Among.{Among}
use Rattle.vd_laws.proofs.Lists.{pushed, filter_in, found, found_passes}
use Rattle.vd_laws.proofs.Legal.{maps_of, Distinct, Legal}
use Rattle.vd_laws.proofs.Chains.{AreOwn}

-- ---- freed buffers

free_acts_legal : (x : Setting) (buffer n : ℕ) (acts : List Act) → Legal x acts → Legal x (free_acts buffer n ++ acts)
free_acts_legal x buffer zero acts h = h
free_acts_legal x buffer (suc n) acts h = (tt, free_acts_legal x buffer n acts h)

free_acts_live : (buffer n : ℕ) (acts : List Act) → live_mappings (free_acts buffer n ++ acts) ≡ live_mappings acts
free_acts_live buffer zero acts = refl
free_acts_live buffer (suc n) acts = free_acts_live buffer n acts

-- ---- unmapped mappings

-- a mapping of another number stays
one_stays : (mappings : List Streaming) (number : ℕ) (acts : List Act) (m : Streaming) → Among m (live_mappings acts) → (m.number ≡ number → ⊥) → Among m (live_mappings (unmap_act mappings number ++ acts))
one_stays mappings number acts m h other = by (find (λ l. l.number == number) mappings) refl where
  by : (o : Option Streaming) → find (λ l. l.number == number) mappings ≡ o → Among m (live_mappings (option_map_or (λ l. Driver (Unmapped l) ∷ []) o [] ++ acts))
  by None e = h
  by (Some n) e =
      let is : n.number ≡ number = eqb-true n.number number (found_passes (λ l. l.number == number) n mappings e) in
      filter_in (λ l. not (l.number == n.number)) m (live_mappings acts) h (ap not (ne_eqb m.number n.number (λ f. other (f ∙ is))))

one_legal : (x : Setting) (mappings : List Streaming) (number : ℕ) (acts : List Act) → ((m : Streaming) → Among m mappings → m.number ≡ number → Among m (live_mappings acts)) → Legal x acts → Legal x (unmap_act mappings number ++ acts)
one_legal x mappings number acts there h = by (find (λ l. l.number == number) mappings) refl where
  by : (o : Option Streaming) → find (λ l. l.number == number) mappings ≡ o → Legal x (option_map_or (λ l. Driver (Unmapped l) ∷ []) o [] ++ acts)
  by None e = h
  by (Some n) e = (there n (found (λ l. l.number == number) n mappings e) (eqb-true n.number number (found_passes (λ l. l.number == number) n mappings e)), h)

unmap_acts_stay : (mappings : List Streaming) (numbers : List ℕ) (acts : List Act) (m : Streaming) → Among m (live_mappings acts) → (Among m.number numbers → ⊥) → Among m (live_mappings (unmap_acts mappings numbers ++ acts))
unmap_acts_stay mappings [] acts m h other = h
unmap_acts_stay mappings (n ∷ ns) acts m h other =
    subst (λ l. Among m (live_mappings l)) (sym (append_assoc (unmap_acts mappings ns) (unmap_act mappings n) acts))
    (unmap_acts_stay mappings ns (unmap_act mappings n ++ acts) m (one_stays mappings n acts m h (λ e. other (inl e))) (λ k. other (inr k)))

unmap_acts_legal : (x : Setting) (mappings : List Streaming) (numbers : List ℕ) (acts : List Act) → Distinct numbers
    → ((m : Streaming) → Among m mappings → Among m.number numbers → Among m (live_mappings acts)) → Legal x acts → Legal x (unmap_acts mappings numbers ++ acts)
unmap_acts_legal x mappings [] acts d there h = h
unmap_acts_legal x mappings (n ∷ ns) acts d there h =
    subst (Legal x) (sym (append_assoc (unmap_acts mappings ns) (unmap_act mappings n) acts))
    (unmap_acts_legal x mappings ns (unmap_act mappings n ++ acts) d.1
    (λ m k j. one_stays mappings n acts m (there m k (inr j)) (λ e. d.0 (subst (λ i. Among i ns) e j)))
    (one_legal x mappings n acts (λ m k e. there m k (inl e)) h))

-- ---- requests

module _ (mappings : List Streaming) (o : Option Request) (acts : List Act) where
  ended_stays : (m : Streaming) → Among m (live_mappings acts) → (Among m.number (maps_of o) → ⊥) → Among m (live_mappings (option_map_or (request_end_acts mappings) o [] ++ acts))
  ended_stays m h other = by o other where
    by : (o : Option Request) → (Among m.number (maps_of o) → ⊥) → Among m (live_mappings (option_map_or (request_end_acts mappings) o [] ++ acts))
    by None f = h
    by (Some r) f =
        subst (λ l. Among m (live_mappings l)) (sym (append_assoc (free_acts r.buffer r.buffers) (unmap_acts mappings r.maps) acts))
        (subst (Among m) (sym (free_acts_live r.buffer r.buffers (unmap_acts mappings r.maps ++ acts))) (unmap_acts_stay mappings r.maps acts m h f))

  pub ended_legal : (x : Setting) → Distinct (maps_of o) → ((m : Streaming) → Among m mappings → Among m.number (maps_of o) → Among m (live_mappings acts)) → Legal x acts
      → Legal x (option_map_or (request_end_acts mappings) o [] ++ acts)
  ended_legal x d there h = by o d there where
    by : (o : Option Request) → Distinct (maps_of o) → ((m : Streaming) → Among m mappings → Among m.number (maps_of o) → Among m (live_mappings acts))
        → Legal x (option_map_or (request_end_acts mappings) o [] ++ acts)
    by None d f = h
    by (Some r) d f =
        subst (Legal x) (sym (append_assoc (free_acts r.buffer r.buffers) (unmap_acts mappings r.maps) acts))
        (free_acts_legal x r.buffer r.buffers (unmap_acts mappings r.maps ++ acts) (unmap_acts_legal x mappings r.maps acts d f h))

-- chains of which no two have a mapping in common
abbrev pub Apart : List AddedChain → Type 0
Apart [] = Unit {0}
Apart (c ∷ cs) = Distinct (maps_of c.request) × ((d : AddedChain) → Among d cs → (k : ℕ) → Among k (maps_of c.request) → Among k (maps_of d.request) → ⊥) × Apart cs

pub requests_legal : (x : Setting) (mappings : List Streaming) (chains : List AddedChain) (acts : List Act) → Apart chains
    → ((m : Streaming) → Among m mappings → (c : AddedChain) → Among c chains → Among m.number (maps_of c.request) → Among m (live_mappings acts)) → Legal x acts
    → Legal x (requests_end_acts mappings chains ++ acts)
requests_legal x mappings [] acts a there h = h
requests_legal x mappings (c ∷ cs) acts a there h =
    subst (Legal x) (sym (append_assoc (requests_end_acts mappings cs) (option_map_or (request_end_acts mappings) c.request []) acts))
    (requests_legal x mappings cs (option_map_or (request_end_acts mappings) c.request [] ++ acts) a.2
    (λ m k d i j. ended_stays mappings c.request acts m (there m k d (inr i) j) (λ g. a.1 d i m.number g j))
    (ended_legal mappings c.request acts x a.0 (λ m k j. there m k c (inl refl) j) h))

-- ---- by head

apart_push : (cs : List AddedChain) (c : AddedChain) → Apart cs → Distinct (maps_of c.request) → ((d : AddedChain) → Among d cs → (k : ℕ) → Among k (maps_of d.request) → Among k (maps_of c.request) → ⊥) → Apart (cs ++ c ∷ [])
apart_push [] c a d other = (d, (λ e h. absurd h), tt)
apart_push (b ∷ cs) c a d other = (a.0, (λ e h k i j. by e (pushed e c cs h) k i j), apart_push cs c a.2 d (λ e h. other e (inr h))) where
  by : (e : AddedChain) → Among e cs ⊎ (e ≡ c) → (k : ℕ) → Among k (maps_of b.request) → Among k (maps_of e.request) → ⊥
  by e (inl h) k i j = a.1 e h k i j
  by e (inr is) k i j = other b (inl refl) k i (subst (λ e. Among k (maps_of e.request)) is j)

pub record IsByHead (chains : List AddedChain) (n : ℕ) (cs : List AddedChain) : Type 0 where
  pub from : (c : AddedChain) → Among c cs → Among c chains
  pub low : (c : AddedChain) → Among c cs → c.head < n
  pub apart : Apart cs

module _ (bound : ℕ) (chains : List AddedChain) (o : AreOwn bound chains) where
  next_head : (n : ℕ) (cs : List AddedChain) → IsByHead chains n cs → (f : Option AddedChain) → find (λ chain. chain.head == n) chains ≡ f → IsByHead chains (suc n) (cs ++ option_map_or (λ c. c ∷ []) f [])
  next_head n cs b None e = subst (IsByHead chains (suc n)) (sym (append-nil cs)) (record { from = b.from; low = λ c h. (let l = b.low c h in omega arith); apart = b.apart })
  next_head n cs b (Some c) e =
      let there : Among c chains = found (λ chain. chain.head == n) c chains e in
      let at : c.head ≡ n = eqb-true c.head n (found_passes (λ chain. chain.head == n) c chains e) in
      record {
        from = λ d h. elim (pushed d c cs h) [ inl k ↦ b.from d k | inr is ↦ subst (λ d. Among d chains) (sym is) there ];
        low = λ d h. elim (pushed d c cs h) [ inl k ↦ (let l = b.low d k in omega arith) | inr is ↦ (let l : d.head ≡ n = ap (λ d. d.head) is ∙ at in omega arith) ];
        apart = apart_push cs c b.apart (o.distinct c there) (λ d h k i j. (let same : d ≡ c = o.once d c (b.from d h) there k i j in let l = b.low d h in let m : d.head ≡ n = ap (λ d. d.head) same ∙ at in absurd (omega arith)));
      }

  head_is : (n : ℕ) (f : Option AddedChain) → find (λ chain. chain.head == n) chains ≡ f → by_head chains (suc n) ≡ by_head chains n ++ option_map_or (λ c. c ∷ []) f []
  head_is n None e = rw e refl
  head_is n (Some c) e = rw e refl

  pub by_heads : (n : ℕ) → IsByHead chains n (by_head chains n)
  by_heads zero = record { from = λ c h. absurd h; low = λ c h. absurd h; apart = tt }
  by_heads (suc n) = by (find (λ chain. chain.head == n) chains) refl (by_heads n) where
    by : (f : Option AddedChain) → find (λ chain. chain.head == n) chains ≡ f → IsByHead chains n (by_head chains n) → IsByHead chains (suc n) (by_head chains (suc n))
    by f e before = subst (IsByHead chains (suc n)) (sym (head_is n f e)) (next_head n (by_head chains n) before f e)

-- ---- a freed region

pub freed_legal : (x : Setting) (held : List Coherent) (region : ℕ) (acts : List Act) → Legal x acts → Legal x (region_end_acts held region ++ acts)
freed_legal x held region acts h = by (find (λ r. r.number == region) held) where
  by : (o : Option Coherent) → Legal x (option_map_or (λ r. Driver (Region_freed r) ∷ []) o [] ++ acts)
  by None = h
  by (Some r) = (tt, h)
