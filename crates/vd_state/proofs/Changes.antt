-- What the state is after each act.
use mir.Val.{bool_byte}
use Rattle.std.proofs.Common.{◌≡◌, ℕ, zero, suc, ◌+◌, ◌<◌, ◌≤◌, Bool, true, false, ◌&&◌, ◌||◌, not, Some, None, refl, ap, subst, ◌∙◌, sym, arith, cond, List, [], ◌∷◌, length, nat_lt, ◌==◌, set, map, eqb-true, eq-eqb, length-set, take, get_or, add-one, replicate}
use Rattle.std.specs.List.{slice_get, list_all}
use Rattle.std.specs.Option.{option_map}
use Rattle.std.proofs.lemmas.Bool.Decides.{nat_tests}
use Rattle.vd_model.specs.declared.step.QueueOrConfig.TheVariants as interrupt
use Rattle.vd_model.specs.State.{StateAct, Max_set, Num_set, Addr_set, Ready_set, Avail_set, Kick_file_set, Kicked, Kicks_taken, Callback_set, Injected, Interrupts_taken, Cleared, DeviceShape, Addresses, is_queue, device_status, features_of, max_of, num_of, addresses_of, avail_of, is_ready, has_kick_file, kicks_of, is_remembered, has_callback, counts, interrupts_of, are_set_up}
use Rattle.vd_state.specs.declared.queue.Queue.{Queue}
use Rattle.vd_state.specs.Kept.{Kept, new_queue, queue_after_reset, queue_after_kick, with_kick_file, queue_after_interrupt}
use Rattle.vd_state.specs.Stands.{Stands, queue_of, generation_of}
use Rattle.std.proofs.lemmas.Option.{get_or_from_slice_get}
use Rattle.std.proofs.lemmas.List.Folds.{list_all_more}
use Rattle.std.proofs.lemmas.List.{length-map, length-replicate, take_all}
use Rattle.vd_state.proofs.Places.{written, elsewhere, mapped, replicated, inside_from}

false_is_not : {b : Bool} → b ≡ false → b ≡ true → ⊥
false_is_not e f = cc

module _ (made : DeviceShape) (acts : List StateAct) (s : Kept) (st : Stands made acts s) where
  -- a queue that is found is the one of its index
  pub found_queue : (k : ℕ) (v : Queue) → slice_get s.queues k ≡ Some v → v ≡ queue_of acts k
  found_queue k v e = let inside = inside_from s.queues k v e in let count = st.count in let same : Some v ≡ Some (queue_of acts k) = sym e ∙ st.queues k (omega arith) in cc

  pub is_found : (k : ℕ) (v : Queue) → slice_get s.queues k ≡ Some v → is_queue made k ≡ true
  is_found k v e = let inside = inside_from s.queues k v e in let count = st.count in grind (arith, nat_tests, inside, count)

  pub is_missing : (k n : ℕ) → n ≡ length s.queues → n ≤ k → is_queue made k ≡ false
  is_missing k n len past = let count = st.count in grind (arith, nat_tests, len, past, count)

  -- an act on one queue, given by what it changes there
  changed : (act : StateAct) (k : ℕ) (v old : Queue) → slice_get s.queues k ≡ Some old → (change : ℕ → Bool → Queue)
      → ((q : ℕ) → queue_of (act ∷ acts) q ≡ change q (k == q)) → ((q : ℕ) → change q false ≡ queue_of acts q) → v ≡ change k true
      → (device_status (act ∷ acts) ≡ device_status acts) × (features_of (act ∷ acts) ≡ features_of acts)
      × (has_callback (act ∷ acts) interrupt.Config ≡ has_callback acts interrupt.Config) × (interrupts_of (act ∷ acts) interrupt.Config ≡ interrupts_of acts interrupt.Config)
      → Stands made (act ∷ acts) (record s { queues = set s.queues k v })
  changed act k v old there change each same is rest = record {
    offered = st.offered;
    status = st.status ∙ sym rest.0;
    features = st.features ∙ sym rest.1;
    count = length-set s.queues k v ∙ st.count;
    queues = λ q inside. by q (k == q) refl inside;
    callback = st.callback ∙ sym rest.2;
    interrupts = st.interrupts ∙ sym rest.3;
  } where
    here : slice_get (set s.queues k v) k ≡ Some (queue_of (act ∷ acts) k)
    here = written s.queues k v (inside_from s.queues k old there) ∙ ap (λ w. Some w) (is ∙ sym (each k ∙ ap (change k) (eq-eqb k k refl)))

    by : (q : ℕ) (b : Bool) → (k == q) ≡ b → q < made.queues → slice_get (set s.queues k v) q ≡ Some (queue_of (act ∷ acts) q)
    by q true e inside = subst (λ j. slice_get (set s.queues k v) j ≡ Some (queue_of (act ∷ acts) j)) (eqb-true k q e) here
    by q false e inside = elsewhere s.queues k q v (λ i. false_is_not e (eq-eqb k q i)) ∙ (st.queues q inside ∙ ap (λ w. Some w) (sym (each q ∙ (ap (change q) e ∙ same q))))

  module _ (k : ℕ) (old : Queue) (there : slice_get s.queues k ≡ Some old) where
    is_old : old ≡ queue_of acts k
    is_old = found_queue k old there

    -- a generation more, where one begins
    abbrev counted : ℕ → Bool → ℕ
    counted q b = cond b (generation_of acts q + 1) (generation_of acts q)

    pub max_stands : (max : ℕ) → Stands made (Max_set k max ∷ acts) (record s { queues = set s.queues k (record old { max = max }) })
    max_stands max = changed (Max_set k max) k (record old { max = max }) old there (λ q b. record (queue_of acts q) { max = cond b max (max_of acts q) })
        (λ q. refl) (λ q. refl) (ap (λ (w : Queue). record w { max = max }) is_old) (refl, refl, refl, refl)

    pub num_stands : (num : ℕ) → Stands made (Num_set k num ∷ acts) (record s { queues = set s.queues k (record old { num = num; generation = old.generation + 1 }) })
    num_stands num = changed (Num_set k num) k (record old { num = num; generation = old.generation + 1 }) old there
        (λ q b. record (queue_of acts q) { num = cond b num (num_of acts q); generation = counted q b })
        (λ q. refl) (λ q. refl) (ap (λ (w : Queue). record w { num = num; generation = w.generation + 1 }) is_old) (refl, refl, refl, refl)

    pub addr_stands : (desc driver device : ℕ) → Stands made (Addr_set k desc driver device ∷ acts) (record s { queues = set s.queues k (record old { desc = desc; driver = driver; device = device; generation = old.generation + 1 }) })
    addr_stands desc driver device = changed (Addr_set k desc driver device) k (record old { desc = desc; driver = driver; device = device; generation = old.generation + 1 }) old there
        (λ q b. record (queue_of acts q) { desc = (chosen q b).desc; driver = (chosen q b).driver; device = (chosen q b).device; generation = counted q b })
        (λ q. refl) (λ q. refl) (ap (λ (w : Queue). record w { desc = desc; driver = driver; device = device; generation = w.generation + 1 }) is_old) (refl, refl, refl, refl) where
          chosen : ℕ → Bool → Addresses
          chosen q b = cond b (record { desc = desc; driver = driver; device = device }) (addresses_of acts q)

    pub ready_stands : (ready : Bool) (n : ℕ) → n ≡ old.generation + bool_byte (not ready) → Stands made (Ready_set k ready ∷ acts) (record s { queues = set s.queues k (record old { ready = ready; generation = n }) })
    ready_stands ready n is = changed (Ready_set k ready) k (record old { ready = ready; generation = n }) old there
        (λ q b. record (queue_of acts q) { ready = cond b ready (is_ready acts q); generation = counted q (b && not ready) })
        (λ q. refl) (λ q. refl)
        (ap (λ m. record old { ready = ready; generation = m }) (is ∙ by (not ready) old.generation)
        ∙ ap (λ (w : Queue). record w { ready = ready; generation = cond (not ready) (w.generation + 1) w.generation }) is_old) (refl, refl, refl, refl) where
          by : (b : Bool) (m : ℕ) → m + bool_byte b ≡ cond b (m + 1) m
          by true m = refl
          by false m = omega arith

    pub avail_stands : (avail : ℕ) → Stands made (Avail_set k avail ∷ acts) (record s { queues = set s.queues k (record old { avail = avail }) })
    avail_stands avail = changed (Avail_set k avail) k (record old { avail = avail }) old there (λ q b. record (queue_of acts q) { avail = cond b avail (avail_of acts q) })
        (λ q. refl) (λ q. refl) (ap (λ (w : Queue). record w { avail = avail }) is_old) (refl, refl, refl, refl)

    -- what a kick makes of a queue
    kick_change : ℕ → Bool → Queue
    kick_change q b = record (queue_of acts q) {
      kicks = cond (has_kick_file acts q) (Some (cond (b && is_ready acts q) (kicks_of acts q + 1) (kicks_of acts q))) None;
      remembered = (b && is_ready acts q && not (has_kick_file acts q)) || is_remembered acts q;
    }

    kick_is : (ready file : Bool) → is_ready acts k ≡ ready → has_kick_file acts k ≡ file → queue_after_kick (queue_of acts k) ≡ kick_change k true
    unfolding kick_change
    kick_is ready file e f = ap (λ (r : Bool). one r (has_kick_file acts k)) refl ∙ cases (is_ready acts k) (has_kick_file acts k) where
      one : Bool → Bool → Queue
      one r f = (let w : Queue = record (queue_of acts k) { ready = r; kicks = cond f (Some (kicks_of acts k)) None } in queue_after_kick w)

      other : Bool → Bool → Queue
      other r f = record (queue_of acts k) { ready = r; kicks = cond f (Some (cond r (kicks_of acts k + 1) (kicks_of acts k))) None; remembered = (r && not f) || is_remembered acts k }

      cases : (r f : Bool) → one r f ≡ other r f
      cases true true = refl
      cases true false = refl
      cases false true = refl
      cases false false = refl

    pub kick_stands : Stands made (Kicked k ∷ acts) (record s { queues = set s.queues k (queue_after_kick old) })
    unfolding kick_change
    kick_stands = changed (Kicked k) k (queue_after_kick old) old there kick_change
        (λ q. refl) (λ q. refl) (ap queue_after_kick is_old ∙ kick_is (is_ready acts k) (has_kick_file acts k) refl refl) (refl, refl, refl, refl)

    -- what a new kick file makes of a queue
    pub file_stands : Stands made (Kick_file_set k true ∷ acts) (record s { queues = set s.queues k (with_kick_file true old) })
    file_stands = changed (Kick_file_set k true) k (with_kick_file true old) old there
        (λ q b. record (queue_of acts q) {
          kicks = cond (cond b true (has_kick_file acts q)) (Some (cond b (cond (is_ready acts q && is_remembered acts q) 1 0) (kicks_of acts q))) None;
          remembered = not (b && true && is_ready acts q) && is_remembered acts q;
        })
        (λ q. refl) (λ q. refl) (ap (with_kick_file true) is_old ∙ cases (is_ready acts k) (is_remembered acts k)) (refl, refl, refl, refl) where
          one : Bool → Bool → Queue
          one r m = (let w : Queue = record (queue_of acts k) { ready = r; remembered = m } in with_kick_file true w)

          other : Bool → Bool → Queue
          other r m = record (queue_of acts k) { ready = r; kicks = Some (cond (r && m) 1 0); remembered = not (true && true && r) && m }

          cases : (r m : Bool) → one r m ≡ other r m
          cases true m = refl
          cases false m = refl

    pub no_file_stands : Stands made (Kick_file_set k false ∷ acts) (record s { queues = set s.queues k (with_kick_file false old) })
    no_file_stands = changed (Kick_file_set k false) k (with_kick_file false old) old there
        (λ q b. record (queue_of acts q) {
          kicks = cond (cond b false (has_kick_file acts q)) (Some (kicks_of acts q)) None;
          remembered = not (b && false && is_ready acts q) && is_remembered acts q;
        })
        (λ q. refl) (λ q. refl) (ap (with_kick_file false) is_old) (refl, refl, refl, refl)

    pub kick_file_stands : (on : Bool) → Stands made (Kick_file_set k on ∷ acts) (record s { queues = set s.queues k (with_kick_file on old) })
    kick_file_stands true = file_stands
    kick_file_stands false = no_file_stands

    -- a count that is told is that of a file
    has_file : (count : ℕ) → old.kicks ≡ Some count → has_kick_file acts k ≡ true
    has_file count e = by (has_kick_file acts k) refl (sym (ap (λ (w : Queue). w.kicks) is_old) ∙ e) where
      by : (b : Bool) → has_kick_file acts k ≡ b → cond b (Some (kicks_of acts k)) None ≡ Some count → has_kick_file acts k ≡ true
      by true e f = e
      by false e f = cc

    pub kicks_stand : (count : ℕ) → old.kicks ≡ Some count → Stands made (Kicks_taken k ∷ acts) (record s { queues = set s.queues k (record old { kicks = Some 0 }) })
    kicks_stand count e = changed (Kicks_taken k) k (record old { kicks = Some 0 }) old there
        (λ q b. record (queue_of acts q) { kicks = cond (has_kick_file acts q) (Some (cond b 0 (kicks_of acts q))) None })
        (λ q. refl) (λ q. refl) (ap (λ (w : Queue). record w { kicks = Some 0 }) is_old ∙ ap (λ b. record (queue_of acts k) { kicks = cond b (Some 0) None }) (sym (has_file count e))) (refl, refl, refl, refl)

    pub callback_stands : (on : Bool) → Stands made (Callback_set (interrupt.Queue k) on ∷ acts) (record s { queues = set s.queues k (record old { callback = on; interrupts = 0 }) })
    callback_stands on = changed (Callback_set (interrupt.Queue k) on) k (record old { callback = on; interrupts = 0 }) old there
        (λ q b. record (queue_of acts q) { callback = cond b on (has_callback acts (interrupt.Queue q)); interrupts = cond b 0 (interrupts_of acts (interrupt.Queue q)) })
        (λ q. refl) (λ q. refl) (ap (λ (w : Queue). record w { callback = on; interrupts = 0 }) is_old) (refl, refl, refl, refl)

    pub injected_stands : Stands made (Injected (interrupt.Queue k) ∷ acts) (record s { queues = set s.queues k (queue_after_interrupt old) })
    injected_stands = changed (Injected (interrupt.Queue k)) k (queue_after_interrupt old) old there
        (λ q b. record (queue_of acts q) { interrupts = cond (b && counts acts (interrupt.Queue q)) (interrupts_of acts (interrupt.Queue q) + 1) (interrupts_of acts (interrupt.Queue q)) })
        (λ q. refl) (λ q. refl) (ap queue_after_interrupt is_old ∙ cases (is_ready acts k) (has_callback acts (interrupt.Queue k))) (refl, refl, refl, refl) where
          one : Bool → Bool → Queue
          one r c = (let w : Queue = record (queue_of acts k) { ready = r; callback = c } in queue_after_interrupt w)

          other : Bool → Bool → Queue
          other r c = record (queue_of acts k) { ready = r; callback = c; interrupts = cond (c && r) (interrupts_of acts (interrupt.Queue k) + 1) (interrupts_of acts (interrupt.Queue k)) }

          cases : (r c : Bool) → one r c ≡ other r c
          cases true true = refl
          cases true false = refl
          cases false true = refl
          cases false false = refl

    pub taken_stands : Stands made (Interrupts_taken (interrupt.Queue k) ∷ acts) (record s { queues = set s.queues k (record old { interrupts = 0 }) })
    taken_stands = changed (Interrupts_taken (interrupt.Queue k)) k (record old { interrupts = 0 }) old there
        (λ q b. record (queue_of acts q) { interrupts = cond b 0 (interrupts_of acts (interrupt.Queue q)) })
        (λ q. refl) (λ q. refl) (ap (λ (w : Queue). record w { interrupts = 0 }) is_old) (refl, refl, refl, refl)

  -- ---- the config space's interrupt, and resets

  pub config_callback_stands : (on : Bool) → Stands made (Callback_set interrupt.Config on ∷ acts) (record s { callback = on; interrupts = 0 })
  config_callback_stands on = record { offered = st.offered; status = st.status; features = st.features; count = st.count; queues = st.queues; callback = refl; interrupts = refl }

  pub config_injected_stands : (n : ℕ) → n ≡ s.interrupts + cond s.callback 1 0 → Stands made (Injected interrupt.Config ∷ acts) (record s { interrupts = n })
  config_injected_stands n is = record {
    offered = st.offered;
    status = st.status;
    features = st.features;
    count = st.count;
    queues = st.queues;
    callback = st.callback;
    interrupts = is ∙ (ap (λ b. s.interrupts + cond b 1 0) st.callback ∙ (ap (λ m. m + cond (has_callback acts interrupt.Config) 1 0) st.interrupts ∙ by (has_callback acts interrupt.Config)));
  } where
    by : (b : Bool) → interrupts_of acts interrupt.Config + cond b 1 0 ≡ cond b (interrupts_of acts interrupt.Config + 1) (interrupts_of acts interrupt.Config)
    by true = refl
    by false = omega arith

  pub config_taken_stands : Stands made (Interrupts_taken interrupt.Config ∷ acts) (record s { interrupts = 0 })
  config_taken_stands = record { offered = st.offered; status = st.status; features = st.features; count = st.count; queues = st.queues; callback = st.callback; interrupts = refl }

  pub queue_after_reset_stands : Stands made (Cleared ∷ acts) (record s { status = 0; features = 0; queues = map queue_after_reset s.queues; callback = false; interrupts = 0 })
  queue_after_reset_stands = record {
    offered = st.offered;
    status = refl;
    features = refl;
    count = length-map s.queues queue_after_reset ∙ st.count;
    queues = λ q inside. mapped queue_after_reset s.queues q ∙ ap (option_map queue_after_reset) (st.queues q inside);
    callback = refl;
    interrupts = refl;
  }

  -- each queue is set up exactly where the acts say so of the first ones
  set_up_upto : (n : ℕ) → n ≤ length s.queues → are_set_up acts n ≡ list_all (λ (q : Queue). nat_lt 0 q.max) (take n s.queues)
  set_up_upto zero fits = refl
  set_up_upto (suc n) fits = by (set_up_upto n (omega arith)) where
    inside : n < length s.queues
    inside = omega arith

    queue_is : get_or s.queues n (queue_of acts n) ≡ queue_of acts n
    queue_is = get_or_from_slice_get s.queues n (queue_of acts n) (queue_of acts n) (st.queues n (let c = st.count in let i = inside in omega arith))

    swapped : (a b : Bool) → (a && b) ≡ (b && a)
    swapped true true = refl
    swapped true false = refl
    swapped false true = refl
    swapped false false = refl

    by : are_set_up acts n ≡ list_all (λ (q : Queue). nat_lt 0 q.max) (take n s.queues) → (nat_lt 0 (max_of acts n) && are_set_up acts n) ≡ list_all (λ (q : Queue). nat_lt 0 q.max) (take (suc n) s.queues)
    by rest = swapped (nat_lt 0 (max_of acts n)) (are_set_up acts n) ∙ (ap (λ b. b && nat_lt 0 (max_of acts n)) rest
        ∙ (ap (λ (w : Queue). list_all (λ (q : Queue). nat_lt 0 q.max) (take n s.queues) && nat_lt 0 w.max) (sym queue_is)
        ∙ (sym (list_all_more (λ (q : Queue). nat_lt 0 q.max) s.queues n (queue_of acts n) inside) ∙ ap (λ m. list_all (λ (q : Queue). nat_lt 0 q.max) (take m s.queues)) (add-one n))))

  pub set_up_is : are_set_up acts made.queues ≡ list_all (λ (q : Queue). nat_lt 0 q.max) s.queues
  set_up_is = set_up_upto made.queues (let c = st.count in omega arith) ∙ ap (list_all (λ (q : Queue). nat_lt 0 q.max)) (take_all made.queues s.queues (let c = st.count in omega arith))

-- a state with other queues that are equal
pub stands_with : {made : DeviceShape} {acts : List StateAct} (s : Kept) {qs rs : List Queue} → rs ≡ qs → Stands made acts (record s { queues = qs }) → Stands made acts (record s { queues = rs })
stands_with {made} {acts} s e st = subst (λ l. Stands made acts (record s { queues = l })) (sym e) st

pub stands_inside : {made : DeviceShape} {acts : List StateAct} {h k : Kept} → h ≡ k → Stands made acts k → Stands made acts h
stands_inside {made} {acts} e s = subst (λ h. Stands made acts h) (sym e) s

-- a new state
pub new_stands : (n offered : ℕ) (qs : List Queue) → qs ≡ replicate n (new_queue 0)
    → Stands (record { queues = n; offered = offered }) [] (record { status = 0; offered = offered; features = 0; queues = qs; callback = false; interrupts = 0 })
new_stands n offered qs is = subst (λ l. Stands (record { queues = n; offered = offered }) [] (record { status = 0; offered = offered; features = 0; queues = l; callback = false; interrupts = 0 })) (sym is) (record {
  offered = refl;
  status = refl;
  features = refl;
  count = length-replicate n (new_queue 0);
  queues = λ q inside. replicated n q (new_queue 0) inside;
  callback = refl;
  interrupts = refl;
})
