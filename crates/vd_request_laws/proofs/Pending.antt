-- The pending requests of some queues: at the start, one queue's, after quiet acts, and where some passes.
use Rattle.std.proofs.Common.{◌≡◌, ℕ, zero, suc, ◌<◌, Bool, true, false, refl, ap, sym, ◌∙◌, subst, List, [], ◌∷◌, ◌++◌, ◌||◌, Option, Some, None, true≢false}
use Rattle.std.specs.List.{list_any, list_all}
use Rattle.std.specs.Option.{option_map_or}
use Rattle.std.proofs.lemmas.Bool.{and_parts}
use Rattle.std.proofs.lemmas.List.Elements.{All-nil}
use Rattle.vd_model.specs.Acts.{Act, Queue, Streaming, Request, AddedChain, Ring_made, Ring_dropped, Chain_added, Chain_reclaimed}
use Rattle.vd_model.specs.Queues.{chains_out, some_pending}
use Rattle.vd_request_laws.specs.Owned.{IsOwned, AreOthers, AreOwn, AreOwned, QueueOwned, requests_of, pending_requests, is_quiet}
use Rattle.vd_request_laws.proofs.Lists.{pairs_nil}
use Rattle.vd_request_laws.proofs.Standing.{quiet_own}
use Rattle.vd_request_laws.proofs.Requests.{focus, still, own_middle}

pub each_queue : (acts : List Act) (n q : ℕ) → AreOwned acts n → q < n → QueueOwned acts q
each_queue acts n q h low =
    let f = focus acts q n low in
    own_middle acts f.front (requests_of (chains_out acts q)) f.back (subst (AreOwn acts) (f.is acts (still acts q)) h)

-- ---- quiet acts

act_chains : (act : Act) (acts : List Act) (q : ℕ) → is_quiet act ≡ true → chains_out (act ∷ acts) q ≡ chains_out acts q
act_chains (Queue (Ring_made k place region)) acts q e = absurd (true≢false (sym e))
act_chains (Queue (Ring_dropped k)) acts q e = absurd (true≢false (sym e))
act_chains (Queue (Chain_added k chain)) acts q e = absurd (true≢false (sym e))
act_chains (Queue (Chain_reclaimed k head)) acts q e = absurd (true≢false (sym e))
act_chains (Queue act) acts q e = refl
act_chains _ acts q e = refl

pub quiet_chains : (more acts : List Act) (q : ℕ) → list_all is_quiet more ≡ true → chains_out (more ++ acts) q ≡ chains_out acts q
quiet_chains [] acts q e = refl
quiet_chains (act ∷ more) acts q e =
    let p = and_parts (is_quiet act) (list_all is_quiet more) e in
    act_chains act (more ++ acts) q p.0 ∙ quiet_chains more acts q p.1

pub same_pending : (acts other : List Act) (n : ℕ) → ((q : ℕ) → chains_out other q ≡ chains_out acts q) → pending_requests other n ≡ pending_requests acts n
same_pending acts other zero same = refl
same_pending acts other (suc n) same =
    ap (λ l. l ++ requests_of (chains_out other n)) (same_pending acts other n same) ∙ ap (λ cs. pending_requests acts n ++ requests_of cs) (same n)

pub quiet_owned : (more acts : List Act) (n : ℕ) → list_all is_quiet more ≡ true → AreOwned acts n → AreOwned (more ++ acts) n
quiet_owned more acts n e h =
    subst (AreOwn (more ++ acts)) (sym (same_pending acts (more ++ acts) n (λ q. quiet_chains more acts q e))) (quiet_own more acts (pending_requests acts n) e h)

-- ---- the start, and which requests are pending

none_pending : (n : ℕ) → pending_requests [] n ≡ []
none_pending zero = refl
none_pending (suc n) = ap (λ l. l ++ []) (none_pending n)

pub nothing_owned : (n : ℕ) → AreOwned [] n
nothing_owned n = subst (AreOwn []) (sym (none_pending n)) (record {
  each = All-nil (IsOwned []);
  apart = pairs_nil AreOthers;
  there = All-nil (λ (m : Streaming). m.want.buffer < 0);
})

any_append : {X : Type 0} (p : X → Bool) (xs ys : List X) → list_any p (xs ++ ys) ≡ (list_any p ys || list_any p xs)
any_append p [] ys = by (list_any p ys) where
  by : (t : Bool) → t ≡ (t || false)
  by true = refl
  by false = refl
any_append p (x ∷ xs) ys = ap (λ t. p x || t) (any_append p xs ys) ∙ by (p x) (list_any p ys) (list_any p xs) where
  by : (a b c : Bool) → (a || (b || c)) ≡ (b || (a || c))
  by true true c = refl
  by true false c = refl
  by false b c = refl

any_request : (passes : Option Request → Bool) → passes None ≡ false → (chains : List AddedChain)
    → list_any (λ (chain : AddedChain). passes chain.request) chains ≡ list_any (λ r. passes (Some r)) (requests_of chains)
any_request passes off [] = refl
any_request passes off (chain ∷ chains) = by chain.request (any_request passes off chains) where
  by : (o : Option Request) → list_any (λ (chain : AddedChain). passes chain.request) chains ≡ list_any (λ r. passes (Some r)) (requests_of chains)
      → (passes o || list_any (λ (chain : AddedChain). passes chain.request) chains) ≡ list_any (λ r. passes (Some r)) (option_map_or (λ r. r ∷ requests_of chains) o (requests_of chains))
  by None e = ap (λ t. t || list_any (λ (chain : AddedChain). passes chain.request) chains) off ∙ e
  by (Some r) e = ap (λ t. passes (Some r) || t) e

pub pending_any : (passes : Option Request → Bool) → passes None ≡ false → (acts : List Act) (n : ℕ) → some_pending passes acts n ≡ list_any (λ r. passes (Some r)) (pending_requests acts n)
pending_any passes off acts zero = refl
pending_any passes off acts (suc n) =
    ap (λ t. t || some_pending passes acts n) (any_request passes off (chains_out acts n))
    ∙ ap (λ t. list_any (λ r. passes (Some r)) (requests_of (chains_out acts n)) || t) (pending_any passes off acts n)
    ∙ sym (any_append (λ r. passes (Some r)) (pending_requests acts n) (requests_of (chains_out acts n)))
