-- The requests of chains, and one queue's among those of all queues.
use Rattle.std.proofs.Common.{◌≡◌, ℕ, zero, suc, ◌<◌, ◌≤◌, Bool, true, false, refl, ap, sym, ◌∙◌, subst, arith, List, [], ◌∷◌, ◌++◌, append_assoc, ◌==◌, Option, Some, None, inl, inr, true≢false}
use Rattle.std.specs.List.{All}
use Rattle.std.specs.Option.{option_map_or}
use Rattle.std.proofs.lemmas.Bool.Decides.{eqb_tells}
use Rattle.std.proofs.lemmas.List.{append-nil}
use Rattle.std.proofs.lemmas.List.Elements.{All-nil, All-cons, All-head, All-tail}
use Rattle.vd_model.specs.Acts.{Act, Request, AddedChain}
use Rattle.vd_model.specs.Queues.{chains_out}
use Rattle.vd_request_laws.specs.Owned.{IsOwned, AreOthers, AreOwn, requests_of, pending_requests}
use Rattle.vd_request_laws.proofs.Lists.{no_some, same_some, equal, not_so, all_front, all_back, all_with, all_without, pairs_with, pairs_front, pairs_back, pairs_without}
use Rattle.vd_request_laws.proofs.Standing.{turned}

-- ---- the requests of chains

pub requests_append : (chains more : List AddedChain) → requests_of (chains ++ more) ≡ requests_of chains ++ requests_of more
requests_append [] more = refl
requests_append (chain ∷ chains) more = by chain.request (requests_append chains more) where
  by : (o : Option Request) → requests_of (chains ++ more) ≡ requests_of chains ++ requests_of more
      → option_map_or (λ r. r ∷ requests_of (chains ++ more)) o (requests_of (chains ++ more)) ≡ option_map_or (λ r. r ∷ requests_of chains) o (requests_of chains) ++ requests_of more
  by None e = e
  by (Some r) e = ap (λ l. r ∷ l) e

-- what holds of the requests of some chains holds of each chain's
abbrev pub IsOf : (Request → Type 0) → AddedChain → Type 0
IsOf P chain = (r : Request) → chain.request ≡ Some r → P r

pub each_chain : (P : Request → Type 0) (chains : List AddedChain) → All P (requests_of chains) → All (IsOf P) chains
each_chain P [] h = All-nil (IsOf P)
each_chain P (chain ∷ chains) h = by chain.request refl h (each_chain P chains) where
  by : (o : Option Request) → chain.request ≡ o → All P (option_map_or (λ r. r ∷ requests_of chains) o (requests_of chains)) → (All P (requests_of chains) → All (IsOf P) chains)
      → All (IsOf P) (chain ∷ chains)
  by None e g rest = All-cons (IsOf P) chain chains (λ r f. absurd (no_some (sym e ∙ f))) (rest g)
  by (Some s) e g rest = All-cons (IsOf P) chain chains (λ r f. subst P (same_some (sym e ∙ f)) (All-head P s (requests_of chains) g)) (rest (All-tail P s (requests_of chains) g))

-- ---- one queue among the others

-- the chains of each other queue are the same
abbrev pub AgreeBeside : ℕ → List Act → List Act → Type 0
AgreeBeside q other acts = (k : ℕ) → (q == k) ≡ false → chains_out other k ≡ chains_out acts k

-- the pending requests before and behind a queue's
pub record Focus (acts : List Act) (q n : ℕ) : Type 0 where
  pub front : List Request
  pub back : List Request
  pub is : (other : List Act) → AgreeBeside q other acts → pending_requests other n ≡ front ++ (requests_of (chains_out other q) ++ back)

below_same : (acts other : List Act) (q n : ℕ) → AgreeBeside q other acts → n ≤ q → pending_requests other n ≡ pending_requests acts n
below_same acts other q zero agree low = refl
below_same acts other q (suc n) agree low =
    ap (λ l. l ++ requests_of (chains_out other n)) (below_same acts other q n agree (omega (arith, low)))
    ∙ ap (λ cs. pending_requests acts n ++ requests_of cs) (agree n (not_so (q == n) (λ e. let same = equal q n e in absurd (omega (arith, low, same)))))

pub focus : (acts : List Act) (q n : ℕ) → q < n → Focus acts q n
focus acts q zero low = absurd (omega (arith, low))
focus acts q (suc n) low = by (q == n) refl (focus acts q n) where
  by : (t : Bool) → (q == n) ≡ t → (q < n → Focus acts q n) → Focus acts q (suc n)
  by true e rest = let same = equal q n e in record {
    front = pending_requests acts n;
    back = [];
    is = λ other agree.
        ap (λ l. l ++ requests_of (chains_out other n)) (below_same acts other q n agree (omega (arith, same)))
        ∙ ap (λ k. pending_requests acts n ++ requests_of (chains_out other k)) (sym same)
        ∙ ap (λ l. pending_requests acts n ++ l) (sym (append-nil (requests_of (chains_out other q))));
  }
  by false e rest = let f = rest (let off = differ e in omega (arith, low, off)) in record {
    front = f.front;
    back = f.back ++ requests_of (chains_out acts n);
    is = λ other agree.
        ap (λ l. l ++ requests_of (chains_out other n)) (f.is other agree)
        ∙ ap (λ cs. (f.front ++ (requests_of (chains_out other q) ++ f.back)) ++ requests_of cs) (agree n e)
        ∙ append_assoc f.front (requests_of (chains_out other q) ++ f.back) (requests_of (chains_out acts n))
        ∙ ap (λ l. f.front ++ l) (append_assoc (requests_of (chains_out other q)) f.back (requests_of (chains_out acts n)));
  } where
    differ : (q == n) ≡ false → (q ≡ n → ⊥)
    differ e = elim (eqb_tells q n) [ inl h ↦ absurd (true≢false (sym h.0 ∙ e)) | inr h ↦ h.1 ]

pub still : (acts : List Act) (q : ℕ) → AgreeBeside q acts acts
still acts q = λ k off. refl

-- ---- fewer and more requests

pub own_without : (acts : List Act) (front some back : List Request) → AreOwn acts (front ++ (some ++ back)) → AreOwn acts (front ++ back)
own_without acts front some back h = record {
  each = all_without (IsOwned acts) front some back h.each;
  apart = pairs_without AreOthers front some back h.apart;
  there = h.there;
}

pub own_middle : (acts : List Act) (front some back : List Request) → AreOwn acts (front ++ (some ++ back)) → AreOwn acts some
own_middle acts front some back h = record {
  each = all_front (IsOwned acts) some back (all_back (IsOwned acts) front (some ++ back) h.each);
  apart = pairs_front AreOthers some back (pairs_back AreOthers front (some ++ back) h.apart);
  there = h.there;
}

pub own_with : (acts : List Act) (front : List Request) (r : Request) (back : List Request) → IsOwned acts r → All (AreOthers r) (front ++ back) → AreOwn acts (front ++ back) → AreOwn acts (front ++ r ∷ back)
own_with acts front r back owned others h = record {
  each = all_with (IsOwned acts) front r back owned h.each;
  apart = pairs_with AreOthers turned front r back others h.apart;
  there = h.there;
}
