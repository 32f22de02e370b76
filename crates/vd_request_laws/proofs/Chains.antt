-- What pending requests have is their own when a chain is added or taken back, or all of a queue's are dropped.
use Rattle.std.proofs.Common.{◌≡◌, ℕ, ◌<◌, ◌≤◌, ap, sym, ◌∙◌, subst, List, [], ◌∷◌, ◌++◌, append_assoc, length, ◌==◌, if◌then◌else◌, Some, None, find, filter}
use Rattle.std.specs.List.{All}
use Rattle.std.specs.Option.{option_map_or}
use Rattle.std.proofs.lemmas.List.{append-nil}
use Rattle.std.proofs.lemmas.List.Elements.{All-head}
use Rattle.vd_model.specs.Acts.{Act, Queue, Request, AddedChain, Chain_added, Chain_reclaimed}
use Rattle.vd_model.specs.Queues.{chains_out, is_other_chain}
use Rattle.vd_request_laws.specs.Owned.{IsOwned, AreOthers, AreOwn, AreOwned, requests_of, pending_requests}
use Rattle.vd_request_laws.proofs.Lists.{lone_split, itself, pairs_middle}
use Rattle.vd_request_laws.proofs.Standing.{turned, queue_act}
use Rattle.vd_request_laws.proofs.Requests.{IsOf, AgreeBeside, requests_append, each_chain, focus, still, own_without, own_with}

module _ (acts : List Act) (q n : ℕ) (low : q < n) where
  -- a chain that is no request's
  pub added_none : (chain : AddedChain) → chain.request ≡ None → AreOwned acts n → AreOwned (Queue (Chain_added q chain) ∷ acts) n
  added_none chain none h =
      let f = focus acts q n low in
      let same : requests_of (chains_out (Queue (Chain_added q chain) ∷ acts) q) ≡ requests_of (chains_out acts q) =
      ap (λ t. requests_of (if t then chains_out acts q ++ chain ∷ [] else chains_out acts q)) (itself q)
      ∙ requests_append (chains_out acts q) (chain ∷ [])
      ∙ ap (λ o. requests_of (chains_out acts q) ++ option_map_or (λ r. r ∷ []) o []) none
      ∙ append-nil (requests_of (chains_out acts q)) in
      subst (AreOwn (Queue (Chain_added q chain) ∷ acts))
      (f.is acts (still acts q) ∙ ap (λ l. f.front ++ (l ++ f.back)) (sym same) ∙ sym (f.is (Queue (Chain_added q chain) ∷ acts) (beside chain)))
      (queue_act (Chain_added q chain) acts (pending_requests acts n) h) where
        beside : (chain : AddedChain) → AgreeBeside q (Queue (Chain_added q chain) ∷ acts) acts
        beside chain k off = ap (λ t. if t then chains_out acts k ++ chain ∷ [] else chains_out acts k) off

  -- one of a request that shares nothing with those that are pending
  pub added_some : (chain : AddedChain) (r : Request) → chain.request ≡ Some r → IsOwned acts r → All (AreOthers r) (pending_requests acts n) → AreOwned acts n
      → AreOwned (Queue (Chain_added q chain) ∷ acts) n
  added_some chain r some owned others h =
      let f = focus acts q n low in
      let mine = requests_of (chains_out acts q) in
      let was : pending_requests acts n ≡ (f.front ++ mine) ++ f.back = f.is acts (still acts q) ∙ sym (append_assoc f.front mine f.back) in
      let now : requests_of (chains_out (Queue (Chain_added q chain) ∷ acts) q) ≡ mine ++ r ∷ [] =
      ap (λ t. requests_of (if t then chains_out acts q ++ chain ∷ [] else chains_out acts q)) (itself q)
      ∙ requests_append (chains_out acts q) (chain ∷ [])
      ∙ ap (λ o. mine ++ option_map_or (λ r. r ∷ []) o []) some in
      let whole : (f.front ++ mine) ++ r ∷ f.back ≡ pending_requests (Queue (Chain_added q chain) ∷ acts) n =
      append_assoc f.front mine (r ∷ f.back)
      ∙ ap (λ l. f.front ++ l) (sym (append_assoc mine (r ∷ []) f.back))
      ∙ ap (λ l. f.front ++ (l ++ f.back)) (sym now)
      ∙ sym (f.is (Queue (Chain_added q chain) ∷ acts) (beside chain)) in
      queue_act (Chain_added q chain) acts (pending_requests (Queue (Chain_added q chain) ∷ acts) n)
      (subst (AreOwn acts) whole
      (own_with acts (f.front ++ mine) r f.back owned (subst (All (AreOthers r)) was others) (subst (AreOwn acts) was h))) where
        beside : (chain : AddedChain) → AgreeBeside q (Queue (Chain_added q chain) ∷ acts) acts
        beside chain k off = ap (λ t. if t then chains_out acts k ++ chain ∷ [] else chains_out acts k) off

  -- a queue whose chains are gone: what is left, and what that shares nothing with
  pub record Emptied (other : List Act) : Type 0 where
    pub left : AreOwn acts (pending_requests other n)
    pub gone : All (λ r. All (AreOthers r) (pending_requests other n)) (requests_of (chains_out acts q))

  pub emptied : (other : List Act) → AgreeBeside q other acts → chains_out other q ≡ [] → AreOwned acts n → Emptied other
  emptied other agree none h =
      let f = focus acts q n low in
      let was : AreOwn acts (f.front ++ (requests_of (chains_out acts q) ++ f.back)) = subst (AreOwn acts) (f.is acts (still acts q)) h in
      let now : f.front ++ f.back ≡ pending_requests other n = ap (λ cs. f.front ++ (requests_of cs ++ f.back)) (sym none) ∙ sym (f.is other agree) in
      record {
        left = subst (AreOwn acts) now (own_without acts f.front (requests_of (chains_out acts q)) f.back was);
        gone = subst (λ l. All (λ r. All (AreOthers r) l) (requests_of (chains_out acts q))) now
            (pairs_middle AreOthers turned f.front (requests_of (chains_out acts q)) f.back was.apart);
      }

  -- one chain is taken back, the only one of its head: what is left, and that its request shares nothing with that
  pub record Taken (chain : AddedChain) : Type 0 where
    pub left : AreOwned (Queue (Chain_reclaimed q chain.head) ∷ acts) n
    pub gone : IsOf (λ r. All (AreOthers r) (pending_requests (Queue (Chain_reclaimed q chain.head) ∷ acts) n)) chain

  pub taken : (chain : AddedChain) → find (λ (c : AddedChain). c.head == chain.head) (chains_out acts q) ≡ Some chain
      → length (filter (λ (c : AddedChain). c.head == chain.head) (chains_out acts q)) ≤ 1 → AreOwned acts n → Taken chain
  taken chain found few h =
      let f = focus acts q n low in
      let s = lone_split (λ (c : AddedChain). c.head == chain.head) (chains_out acts q) chain found few in
      let other = Queue (Chain_reclaimed q chain.head) ∷ acts in
      let front = f.front ++ requests_of s.before in
      let back = requests_of s.behind ++ f.back in
      let some = requests_of (chain ∷ []) in
      let was : pending_requests acts n ≡ front ++ (some ++ back) =
      f.is acts (still acts q)
      ∙ ap (λ cs. f.front ++ (requests_of cs ++ f.back)) s.whole
      ∙ ap (λ l. f.front ++ (l ++ f.back)) (requests_append s.before (chain ∷ s.behind) ∙ ap (λ l. requests_of s.before ++ l) (requests_append (chain ∷ []) s.behind))
      ∙ ap (λ l. f.front ++ l) (append_assoc (requests_of s.before) (some ++ requests_of s.behind) f.back)
      ∙ sym (append_assoc f.front (requests_of s.before) ((some ++ requests_of s.behind) ++ f.back))
      ∙ ap (λ l. front ++ l) (append_assoc some (requests_of s.behind) f.back) in
      let now : front ++ back ≡ pending_requests other n =
      append_assoc f.front (requests_of s.before) back
      ∙ ap (λ l. f.front ++ l) (sym (append_assoc (requests_of s.before) (requests_of s.behind) f.back))
      ∙ ap (λ l. f.front ++ (l ++ f.back)) (sym (requests_append s.before s.behind))
      ∙ ap (λ cs. f.front ++ (requests_of cs ++ f.back)) (sym (ap (λ t. if t then filter (is_other_chain chain.head) (chains_out acts q) else chains_out acts q) (itself q) ∙ s.others))
      ∙ sym (f.is other beside) in
      let held = subst (AreOwn acts) was h in
      record {
        left = queue_act (Chain_reclaimed q chain.head) acts (pending_requests other n) (subst (AreOwn acts) now (own_without acts front some back held));
        gone = All-head (IsOf (λ r. All (AreOthers r) (pending_requests other n))) chain []
            (each_chain (λ r. All (AreOthers r) (pending_requests other n)) (chain ∷ [])
            (subst (λ l. All (λ r. All (AreOthers r) l) some) now (pairs_middle AreOthers turned front some back held.apart)));
      } where
        beside : AgreeBeside q (Queue (Chain_reclaimed q chain.head) ∷ acts) acts
        beside k off = ap (λ t. if t then filter (is_other_chain chain.head) (chains_out acts k) else chains_out acts k) off
