-- Where the block daemon is on a queue after fair acts.
use Rattle.std.proofs.Common.{◌≡◌, ℕ, ◌+◌, Bool, true, false, refl, ap, subst, ◌∙◌, sym, arith, cond, Option, None, Some, is_some, List, [], ◌∷◌, ◌==◌, ◌&&◌, not, eqb-true}
use Rattle.vd_model.specs.Acts.{Act, Node, State, Queue, Closed, Fetched, Finished, state_acts}
use Rattle.vd_model.specs.State.{Cleared, Ready_set, Num_set, Addr_set, is_ready}
use Rattle.vd_model.specs.Queues.{before_first, fetches, finishes, in_hand}
use Rattle.vd_ring_laws.specs.PositionLaw.{requests_in_hand}
use Rattle.vd_ring_laws.proofs.Fair.{Fair}

pub record Position (acts : List Act) (q : ℕ) : Type 0 where
  pub ready : is_some (before_first acts q) ≡ true → is_ready (state_acts acts) q ≡ true
  pub there : is_some (in_hand acts q) ≡ true → is_some (before_first acts q) ≡ true
  pub counted : fetches acts q ≡ finishes acts q + requests_in_hand acts q
  pub fetched : (earlier : List Act) → in_hand acts q ≡ Some earlier → is_ready (state_acts earlier) q ≡ true

some_first : (o : Option (List Act)) (acts : List Act) → is_some (cond (is_some o) o (Some acts)) ≡ true
some_first None acts = refl
some_first (Some first) acts = refl

module _ (acts : List Act) (q : ℕ) (p : Position acts q) where
  fetched_position : (k : ℕ) → in_hand acts k ≡ None → is_ready (state_acts acts) k ≡ true → Position (Queue (Fetched k) ∷ acts) q
  fetched_position k none ready = record { ready = ready_by (k == q) refl; there = there_by (k == q); counted = counted_by (k == q) refl; fetched = fetched_by (k == q) refl } where
    ready_by : (b : Bool) → (k == q) ≡ b → is_some (cond b (cond (is_some (before_first acts q)) (before_first acts q) (Some acts)) (before_first acts q)) ≡ true → is_ready (state_acts acts) q ≡ true
    ready_by true e h = subst (λ k. is_ready (state_acts acts) k ≡ true) (eqb-true k q e) ready
    ready_by false e h = p.ready h

    there_by : (b : Bool) → is_some (cond b (Some acts) (in_hand acts q)) ≡ true → is_some (cond b (cond (is_some (before_first acts q)) (before_first acts q) (Some acts)) (before_first acts q)) ≡ true
    there_by true h = some_first (before_first acts q) acts
    there_by false h = p.there h

    counted_by : (b : Bool) → (k == q) ≡ b → cond b (fetches acts q + 1) (fetches acts q) ≡ finishes acts q + cond (is_some (cond b (Some acts) (in_hand acts q))) 1 0
    counted_by true e =
        let c : fetches acts q ≡ finishes acts q + 0 = p.counted ∙ ap (λ o. finishes acts q + cond (is_some o) 1 0) (subst (λ k. in_hand acts k ≡ None) (eqb-true k q e) none) in
        omega arith
    counted_by false e = p.counted

    fetched_by : (b : Bool) → (k == q) ≡ b → (earlier : List Act) → cond b (Some acts) (in_hand acts q) ≡ Some earlier → is_ready (state_acts earlier) q ≡ true
    fetched_by true e earlier f = let same : acts ≡ earlier = cc in subst (λ l. is_ready (state_acts l) q ≡ true) same (subst (λ k. is_ready (state_acts acts) k ≡ true) (eqb-true k q e) ready)
    fetched_by false e earlier f = p.fetched earlier f

  finished_position : (k : ℕ) → is_some (in_hand acts k) ≡ true → Position (Queue (Finished k) ∷ acts) q
  finished_position k there = record { ready = p.ready; there = there_by (k == q); counted = counted_by (k == q) refl; fetched = fetched_by (k == q) } where
    there_by : (b : Bool) → is_some (cond b None (in_hand acts q)) ≡ true → is_some (before_first acts q) ≡ true
    there_by true h = cc
    there_by false h = p.there h

    counted_by : (b : Bool) → (k == q) ≡ b → fetches acts q ≡ cond b (finishes acts q + 1) (finishes acts q) + cond (is_some (cond b None (in_hand acts q))) 1 0
    counted_by true e =
        let c : fetches acts q ≡ finishes acts q + 1 = p.counted ∙ ap (λ b. finishes acts q + cond b 1 0) (subst (λ k. is_some (in_hand acts k) ≡ true) (eqb-true k q e) there) in
        omega arith
    counted_by false e = p.counted

    fetched_by : (b : Bool) (earlier : List Act) → cond b None (in_hand acts q) ≡ Some earlier → is_ready (state_acts earlier) q ≡ true
    fetched_by true earlier f = cc
    fetched_by false earlier f = p.fetched earlier f

  -- an act that may end the position
  ended_position : (act : Act) (b : Bool)
      → (b ≡ false → is_ready (state_acts acts) q ≡ true → is_ready (state_acts (act ∷ acts)) q ≡ true)
      → before_first (act ∷ acts) q ≡ cond b None (before_first acts q) → in_hand (act ∷ acts) q ≡ cond b None (in_hand acts q)
      → fetches (act ∷ acts) q ≡ cond b 0 (fetches acts q) → finishes (act ∷ acts) q ≡ cond b 0 (finishes acts q) → Position (act ∷ acts) q
  ended_position act true keeps e f g h = record {
    ready = λ i. (let j : false ≡ true = subst (λ o. is_some o ≡ true) e i in cc);
    there = λ i. (let j : false ≡ true = subst (λ o. is_some o ≡ true) f i in cc);
    counted = g ∙ sym (ap (λ n. n + requests_in_hand (act ∷ acts) q) h ∙ ap (λ o. 0 + cond (is_some o) 1 0) f);
    fetched = λ earlier i. cc;
  }
  ended_position act false keeps e f g h = record {
    ready = λ i. keeps refl (p.ready (subst (λ o. is_some o ≡ true) e i));
    there = λ i. subst (λ o. is_some o ≡ true) (sym e) (p.there (subst (λ o. is_some o ≡ true) f i));
    counted = g ∙ p.counted ∙ sym (ap (λ n. n + requests_in_hand (act ∷ acts) q) h ∙ ap (λ o. finishes acts q + cond (is_some o) 1 0) f);
    fetched = λ earlier i. p.fetched earlier (sym f ∙ i);
  }

  set_ready : (k : ℕ) (flag : Bool) → (k == q) && not flag ≡ false → is_ready (state_acts acts) q ≡ true → cond (k == q) flag (is_ready (state_acts acts) q) ≡ true
  set_ready k flag e h = by (k == q) flag e where
    by : (b c : Bool) → b && not c ≡ false → cond b c (is_ready (state_acts acts) q) ≡ true
    by true true f = refl
    by true false f = cc
    by false c f = h

next_position : (act : Act) (acts : List Act) (q : ℕ) → Fair (act ∷ acts) → Position acts q → Position (act ∷ acts) q
next_position (Queue (Fetched k)) acts q h p = fetched_position acts q p k h.0.0 h.0.1
next_position (Queue (Finished k)) acts q h p = finished_position acts q p k h.0
next_position (Node Closed) acts q h p = ended_position acts q p (Node Closed) true (λ e. cc) refl refl refl refl
next_position (State Cleared) acts q h p = ended_position acts q p (State Cleared) true (λ e. cc) refl refl refl refl
next_position (State (Ready_set k flag)) acts q h p = ended_position acts q p (State (Ready_set k flag)) ((k == q) && not flag) (set_ready acts q p k flag) refl refl refl refl
next_position (State (Num_set k num)) acts q h p = ended_position acts q p (State (Num_set k num)) (k == q) (λ e r. r) refl refl refl refl
next_position (State (Addr_set k desc driver device)) acts q h p = ended_position acts q p (State (Addr_set k desc driver device)) (k == q) (λ e r. r) refl refl refl refl
next_position _ acts q h p = record { ready = p.ready; there = p.there; counted = p.counted; fetched = p.fetched }

pub position_after : (acts : List Act) (q : ℕ) → Fair acts → Position acts q
position_after [] q h = record { ready = λ e. cc; there = λ e. cc; counted = refl; fetched = λ earlier e. cc }
position_after (act ∷ acts) q h = next_position act acts q h (position_after acts q h.1)
