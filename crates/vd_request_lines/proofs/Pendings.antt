-- The pending requests are found by the heads of their chains, and go with them.
use Rattle.std.proofs.Common.{◌≡◌, ℕ, suc, ◌≤◌, Bool, true, false, ◌==◌, ◌||◌, if◌then◌else◌, refl, ap, sym, subst, ◌∙◌, arith, inl, inr, List, [], ◌∷◌, length, Some, None, Option, filter, true≢false}
use Rattle.std.specs.Prelude.{find, map, not}
use Rattle.std.specs.List.{list_any}
use Rattle.std.specs.Option.{option_map, option_map_or}
use Rattle.std.proofs.lemmas.Bool.Decides.{eqb_tells}
use Rattle.vd_model.specs.Acts.{AddedChain, Request}
use Rattle.vd_model.specs.Queues.{is_other_chain}
use Rattle.vd_queue_sides.specs.Chains.{is_head, with_same_head}
use Rattle.vd_queue_sides.proofs.Counting.{some_head}
use Rattle.vd_queue_sides.proofs.Daemons.{itself}
use Rattle.blk_driver.specs.Driver.{request_in, has_head, without_first}
use Rattle.blk_driver.specs.declared.pending.Pending.{Pending}
use Rattle.vd_request_lines.specs.Stands.{chain_at, IsNext, ArePending}
use Rattle.vd_request_laws.specs.Owned.{requests_of}
use Rattle.vd_request_lines.specs.Ending.{AreLone}

some_same : {X : Type 0} {a b : X} → Some a ≡ Some b → a ≡ b
some_same e = cc

none_some : {X : Type 0} {a : X} → None ≡ Some a → ⊥
none_some e = cc

neither : (a b : Bool) → (a || b) ≡ false → (a ≡ false) × (b ≡ false)
neither true b e = absurd (true≢false e)
neither false b e = (refl, e)

-- ---- chains without a head

-- a chain of a head is the only one
lone_rest : (c : AddedChain) (cs : List AddedChain) (id : ℕ) → length (with_same_head id (c ∷ cs)) ≤ 1 → (c.head == id) ≡ true → is_head cs id ≡ false
lone_rest c cs id lone here = by (is_head cs id) refl where
  two : length (c ∷ with_same_head id cs) ≤ 1
  two = subst (λ t. length (if t then c ∷ with_same_head id cs else with_same_head id cs) ≤ 1) here lone

  by : (t : Bool) → is_head cs id ≡ t → is_head cs id ≡ false
  by false e = e
  by true e =
      let some = some_head cs id e in
      let both : suc (length (with_same_head id cs)) ≤ 1 = two in
      absurd (omega arith)

lone_later : (c : AddedChain) (cs : List AddedChain) (id : ℕ) → length (with_same_head id (c ∷ cs)) ≤ 1 → length (with_same_head id cs) ≤ 1
lone_later c cs id lone = by (c.head == id) lone where
  by : (t : Bool) → length (if t then c ∷ with_same_head id cs else with_same_head id cs) ≤ 1 → length (with_same_head id cs) ≤ 1
  by true e = let both : suc (length (with_same_head id cs)) ≤ 1 = e in omega arith
  by false e = e

others_all : (chains : List AddedChain) (id : ℕ) → is_head chains id ≡ false → filter (is_other_chain id) chains ≡ chains
others_all [] id off = refl
others_all (c ∷ cs) id off =
    let both = neither (c.head == id) (is_head cs id) off in
    ap (λ t. if not t then c ∷ filter (is_other_chain id) cs else filter (is_other_chain id) cs) both.0 ∙ ap (λ l. c ∷ l) (others_all cs id both.1)

-- no pending request has a head that no chain has
pub none_pending : (chains : List AddedChain) (ps : List Pending) (id : ℕ) → is_head chains id ≡ false → ArePending chains ps → find (has_head id) ps ≡ None
none_pending [] ps id off all = ap (λ l. find (has_head id) l) all
none_pending (c ∷ cs) ps id off all = by c.request ps all (λ ps. none_pending cs ps id (neither (c.head == id) (is_head cs id) off).1) where
  by : (r : Option Request) (ps : List Pending) → IsNext r c.head ps (ArePending cs) → ((ps : List Pending) → ArePending cs ps → find (has_head id) ps ≡ None) → find (has_head id) ps ≡ None
  by None ps n rest = rest ps n
  by (Some r) [] n rest = absurd n
  by (Some r) (p ∷ ps) n rest =
      ap (λ t. if t then Some p else find (has_head id) ps) (ap (λ k. k == id) n.0 ∙ (neither (c.head == id) (is_head cs id) off).0) ∙ rest ps n.2

none_left : (ps : List Pending) (id : ℕ) → find (has_head id) ps ≡ None → without_first (has_head id) ps ≡ ps
none_left [] id none = refl
none_left (p ∷ ps) id none = by (p.head == id) refl (none_left ps id) where
  by : (t : Bool) → (p.head == id) ≡ t → (find (has_head id) ps ≡ None → without_first (has_head id) ps ≡ ps) → without_first (has_head id) (p ∷ ps) ≡ p ∷ ps
  by true e rest = absurd (none_some (sym none ∙ ap (λ t. if t then Some p else find (has_head id) ps) e))
  by false e rest =
      ap (λ t. if t then ps else p ∷ without_first (has_head id) ps) e
      ∙ ap (λ l. p ∷ l) (rest (sym (ap (λ t. if t then Some p else find (has_head id) ps) e) ∙ none))

-- ---- the request of a chain

pub request_found : (chains : List AddedChain) (ps : List Pending) (id : ℕ) (c : AddedChain) → length (with_same_head id chains) ≤ 1 → ArePending chains ps → chain_at chains id ≡ Some c
    → option_map request_in (find (has_head id) ps) ≡ c.request
request_found [] ps id c lone all e = absurd (none_some e)
request_found (d ∷ ds) ps id c lone all e = by (d.head == id) refl d.request refl ps all (λ ps n f. request_found ds ps id c (lone_later d ds id lone) n f) where
  here : (d.head == id) ≡ true → d.request ≡ c.request
  here h = ap (λ (c : AddedChain). c.request) (some_same (sym (ap (λ t. if t then Some d else chain_at ds id) h) ∙ e))

  later : (d.head == id) ≡ false → chain_at ds id ≡ Some c
  later h = sym (ap (λ t. if t then Some d else chain_at ds id) h) ∙ e

  by : (t : Bool) → (d.head == id) ≡ t → (r : Option Request) → d.request ≡ r → (ps : List Pending) → IsNext r d.head ps (ArePending ds)
      → ((ps : List Pending) → ArePending ds ps → chain_at ds id ≡ Some c → option_map request_in (find (has_head id) ps) ≡ c.request) → option_map request_in (find (has_head id) ps) ≡ c.request
  by true h None g ps n rest = ap (option_map request_in) (none_pending ds ps id (lone_rest d ds id lone h) n) ∙ sym g ∙ here h
  by false h None g ps n rest = rest ps n (later h)
  by t h (Some r) g [] n rest = absurd n
  by true h (Some r) g (p ∷ ps) n rest =
      ap (λ t. option_map request_in (if t then Some p else find (has_head id) ps)) (ap (λ k. k == id) n.0 ∙ h) ∙ ap Some n.1 ∙ sym g ∙ here h
  by false h (Some r) g (p ∷ ps) n rest =
      ap (λ t. option_map request_in (if t then Some p else find (has_head id) ps)) (ap (λ k. k == id) n.0 ∙ h) ∙ rest ps n.2 (later h)

-- ---- a chain goes, and its request with it

pub pending_left : (chains : List AddedChain) (ps : List Pending) (head : ℕ) → length (with_same_head head chains) ≤ 1 → ArePending chains ps
    → ArePending (filter (is_other_chain head) chains) (without_first (has_head head) ps)
pending_left [] ps head lone all = ap (without_first (has_head head)) all
pending_left (c ∷ cs) ps head lone all = by (c.head == head) refl c.request refl ps all (λ ps n. pending_left cs ps head (lone_later c cs head lone) n) where
  gone : (c.head == head) ≡ true → (ps : List Pending) → ArePending cs ps → ArePending (filter (is_other_chain head) cs) ps
  gone h ps n = subst (λ l. ArePending l ps) (sym (others_all cs head (lone_rest c cs head lone h))) n

  by : (t : Bool) → (c.head == head) ≡ t → (r : Option Request) → c.request ≡ r → (ps : List Pending) → IsNext r c.head ps (ArePending cs)
      → ((ps : List Pending) → ArePending cs ps → ArePending (filter (is_other_chain head) cs) (without_first (has_head head) ps))
      → ArePending (if not (c.head == head) then c ∷ filter (is_other_chain head) cs else filter (is_other_chain head) cs) (without_first (has_head head) ps)
  by true h None g ps n rest =
      subst (λ t. ArePending (if not t then c ∷ filter (is_other_chain head) cs else filter (is_other_chain head) cs) (without_first (has_head head) ps)) (sym h)
      (subst (λ l. ArePending (filter (is_other_chain head) cs) l) (sym (none_left ps head (none_pending cs ps head (lone_rest c cs head lone h) n))) (gone h ps n))
  by t h (Some r) g [] n rest = absurd n
  by true h (Some r) g (p ∷ ps) n rest =
      subst (λ t. ArePending (if not t then c ∷ filter (is_other_chain head) cs else filter (is_other_chain head) cs) (without_first (has_head head) (p ∷ ps))) (sym h)
      (subst (λ t. ArePending (filter (is_other_chain head) cs) (if t then ps else p ∷ without_first (has_head head) ps)) (sym (ap (λ k. k == head) n.0 ∙ h)) (gone h ps n.2))
  by false h None g ps n rest =
      subst (λ t. ArePending (if not t then c ∷ filter (is_other_chain head) cs else filter (is_other_chain head) cs) (without_first (has_head head) ps)) (sym h)
      (subst (λ r. IsNext r c.head (without_first (has_head head) ps) (ArePending (filter (is_other_chain head) cs))) (sym g) (rest ps n))
  by false h (Some r) g (p ∷ ps) n rest =
      subst (λ t. ArePending (if not t then c ∷ filter (is_other_chain head) cs else filter (is_other_chain head) cs) (without_first (has_head head) (p ∷ ps))) (sym h)
      (subst (λ r. IsNext r c.head (without_first (has_head head) (p ∷ ps)) (ArePending (filter (is_other_chain head) cs))) (sym g)
      (subst (λ t. IsNext (Some r) c.head (if t then ps else p ∷ without_first (has_head head) ps) (ArePending (filter (is_other_chain head) cs))) (sym (ap (λ k. k == head) n.0 ∙ h))
      (n.0, n.1, rest ps n.2)))

-- ---- chains of other heads stay

head_gone : (head : ℕ) (chains : List AddedChain) → is_head (filter (is_other_chain head) chains) head ≡ false
head_gone head [] = refl
head_gone head (c ∷ cs) = by (c.head == head) refl (head_gone head cs) where
  by : (t : Bool) → (c.head == head) ≡ t → is_head (filter (is_other_chain head) cs) head ≡ false → is_head (if is_other_chain head c then c ∷ filter (is_other_chain head) cs else filter (is_other_chain head) cs) head ≡ false
  by true f rest = ap (λ t. is_head (if not t then c ∷ filter (is_other_chain head) cs else filter (is_other_chain head) cs) head) f ∙ rest
  by false f rest =
      ap (λ t. is_head (if not t then c ∷ filter (is_other_chain head) cs else filter (is_other_chain head) cs) head) f
      ∙ ap (λ t. t || is_head (filter (is_other_chain head) cs) head) f ∙ rest

head_other : (head : ℕ) (chains : List AddedChain) (d : ℕ) → is_head (filter (is_other_chain head) chains) d ≡ true → (d == head) ≡ false
head_other head chains d e = elim (eqb_tells d head) [
  | inl h ↦ absurd (true≢false (sym e ∙ ap (is_head (filter (is_other_chain head) chains)) h.1 ∙ head_gone head chains))
  | inr h ↦ h.0
]

head_before : (head : ℕ) (chains : List AddedChain) (d : ℕ) → is_head (filter (is_other_chain head) chains) d ≡ true → is_head chains d ≡ true
head_before head [] d e = e
head_before head (c ∷ cs) d e = by (c.head == head) (c.head == d) refl e (head_before head cs d) where
  by : (t u : Bool) → (c.head == d) ≡ u → is_head (if not t then c ∷ filter (is_other_chain head) cs else filter (is_other_chain head) cs) d ≡ true
      → (is_head (filter (is_other_chain head) cs) d ≡ true → is_head cs d ≡ true) → ((c.head == d) || is_head cs d) ≡ true
  by t true f e rest = ap (λ u. u || is_head cs d) f
  by true false f e rest = ap (λ u. u || is_head cs d) f ∙ rest e
  by false false f e rest = ap (λ u. u || is_head cs d) f ∙ rest (sym (ap (λ u. u || is_head (filter (is_other_chain head) cs) d) f) ∙ e)

chain_left : (head id : ℕ) (chains : List AddedChain) → (id == head) ≡ false → chain_at (filter (is_other_chain head) chains) id ≡ chain_at chains id
chain_left head id [] off = refl
chain_left head id (c ∷ cs) off = by (c.head == head) refl (chain_left head id cs off) where
  other : (c.head == head) ≡ true → (t : Bool) → (c.head == id) ≡ t → (c.head == id) ≡ false
  other f false g = g
  other f true g = absurd (true≢false (sym (ap (λ k. k == head) (sym (elim (eqb_tells c.head id) [ inl h ↦ h.1 | inr h ↦ absurd (true≢false (sym g ∙ h.0)) ])) ∙ f) ∙ off))

  by : (t : Bool) → (c.head == head) ≡ t → chain_at (filter (is_other_chain head) cs) id ≡ chain_at cs id
      → chain_at (if is_other_chain head c then c ∷ filter (is_other_chain head) cs else filter (is_other_chain head) cs) id ≡ (if c.head == id then Some c else chain_at cs id)
  by true f rest =
      ap (λ t. chain_at (if not t then c ∷ filter (is_other_chain head) cs else filter (is_other_chain head) cs) id) f ∙ rest
      ∙ sym (ap (λ t. if t then Some c else chain_at cs id) (other f (c.head == id) refl))
  by false f rest =
      ap (λ t. chain_at (if not t then c ∷ filter (is_other_chain head) cs else filter (is_other_chain head) cs) id) f
      ∙ ap (λ o. if c.head == id then Some c else o) rest

-- what is published and left is out still
pub seen_left : (out seen : List AddedChain) (head : ℕ) → ((id : ℕ) → is_head seen id ≡ true → chain_at seen id ≡ chain_at out id)
    → (id : ℕ) → is_head (filter (is_other_chain head) seen) id ≡ true → chain_at (filter (is_other_chain head) seen) id ≡ chain_at (filter (is_other_chain head) out) id
seen_left out seen head same id e =
    let off = head_other head seen id e in
    chain_left head id seen off ∙ same id (head_before head seen id e) ∙ sym (chain_left head id out off)

-- some chain has a request of a kind where a pending one is of it
pub pending_any : (passes : Option Request → Bool) → passes None ≡ false → (chains : List AddedChain) (ps : List Pending) → ArePending chains ps
    → list_any (λ (chain : AddedChain). passes chain.request) chains ≡ list_any (λ p. passes (Some (request_in p))) ps
pending_any passes off [] ps all = sym (ap (list_any (λ p. passes (Some (request_in p)))) all)
pending_any passes off (c ∷ cs) ps all = by c.request refl ps all (pending_any passes off cs) where
  by : (r : Option Request) → c.request ≡ r → (ps : List Pending) → IsNext r c.head ps (ArePending cs)
      → ((ps : List Pending) → ArePending cs ps → list_any (λ (chain : AddedChain). passes chain.request) cs ≡ list_any (λ p. passes (Some (request_in p))) ps)
      → (passes c.request || list_any (λ (chain : AddedChain). passes chain.request) cs) ≡ list_any (λ p. passes (Some (request_in p))) ps
  by None g ps n rest = ap (λ r. passes r || list_any (λ (chain : AddedChain). passes chain.request) cs) g ∙ ap (λ t. t || list_any (λ (chain : AddedChain). passes chain.request) cs) off ∙ rest ps n
  by (Some r) g [] n rest = absurd n
  by (Some r) g (p ∷ ps) n rest =
      ap (λ r. passes r || list_any (λ (chain : AddedChain). passes chain.request) cs) (g ∙ ap Some (sym n.1))
      ∙ ap (λ t. passes (Some (request_in p)) || t) (rest ps n.2)

-- ---- all of them

-- no two pending requests have the same head, since no two chains have
pub pending_lone : (chains : List AddedChain) (ps : List Pending) → ((id : ℕ) → length (with_same_head id chains) ≤ 1) → ArePending chains ps → AreLone ps
pending_lone [] ps lone all = subst AreLone (sym all) tt
pending_lone (c ∷ cs) ps lone all = by c.request ps all (λ ps. pending_lone cs ps (λ id. lone_later c cs id (lone id))) where
  by : (r : Option Request) (ps : List Pending) → IsNext r c.head ps (ArePending cs) → ((ps : List Pending) → ArePending cs ps → AreLone ps) → AreLone ps
  by None ps n rest = rest ps n
  by (Some r) [] n rest = absurd n
  by (Some r) (p ∷ ps) n rest = (none_pending cs ps p.head (lone_rest c cs p.head (lone p.head) (ap (λ k. c.head == k) n.0 ∙ itself c.head)) n.2, rest ps n.2)

-- they are the requests of the chains
pub requests_are : (chains : List AddedChain) (ps : List Pending) → ArePending chains ps → requests_of chains ≡ map request_in ps
requests_are [] ps all = sym (ap (map request_in) all)
requests_are (c ∷ cs) ps all = by c.request ps all (requests_are cs) where
  by : (r : Option Request) (ps : List Pending) → IsNext r c.head ps (ArePending cs) → ((ps : List Pending) → ArePending cs ps → requests_of cs ≡ map request_in ps)
      → option_map_or (λ r. r ∷ requests_of cs) r (requests_of cs) ≡ map request_in ps
  by None ps n rest = rest ps n
  by (Some r) [] n rest = absurd n
  by (Some r) (p ∷ ps) n rest = ap (λ l. r ∷ l) (rest ps n.2) ∙ ap (λ r. r ∷ map request_in ps) (sym n.1)
