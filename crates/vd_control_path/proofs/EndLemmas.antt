-- The ends of a block daemon's position are counted.
use Rattle.std.proofs.Common.{◌≡◌, ◌≢◌, ℕ, zero, suc, ◌+◌, ◌<◌, ◌≤◌, ◌==◌, arith, Bool, true, false, cond, not, ◌&&◌, refl, ap, sym, ◌∙◌, List, [], ◌∷◌, ◌++◌, true≢false}
use Rattle.std.specs.List.{list_all}
use Rattle.vd_model.specs.Acts.{Act, NodeAct, Message_act, State, Bus, Queue, Disk_act, Node, Driver, Opened, Closed, Daemon_put, Area_made, Area_put, Config_put, Registered, Deregistered, state_acts}
use Rattle.vd_model.specs.State.{StateAct, Max_set, Status_set, Features_set, Num_set, Addr_set, Ready_set, Avail_set, Kick_file_set, Kicked, Kicks_taken, Callback_set, Injected, Interrupts_taken, Cleared}
use Rattle.vd_model.specs.Queues.{ends_position}
use Rattle.vd_state.specs.Stands.{generation_of}
use Rattle.vd_control_path.specs.Ends.{closings_of, ends_of}

-- an act that ends the position adds one, and no other does
abbrev Counted : ℕ → Act → List Act → Type 0
Counted q act done = ends_of (act ∷ done) q ≡ cond (ends_position q act) (suc (ends_of done q)) (ends_of done q)

-- ---- numbers

one_closing : (c g : ℕ) → c + 1 + g ≡ suc (c + g)
one_closing c g = omega arith

-- a generation more, or not
one_more : (t : Bool) (c g : ℕ) → c + cond t (g + 1) g ≡ cond t (suc (c + g)) (c + g)
one_more true c g = omega arith
one_more false c g = refl

no_less : (t : Bool) (g : ℕ) → g ≤ cond t (g + 1) g
no_less true g = omega arith
no_less false g = omega arith

closing_more : (c : ℕ) → c ≤ c + 1
closing_more c = omega arith

-- where neither of two falls and their sum stays, both stay
both_stay : (a b c g : ℕ) → a + b ≡ c + g → c ≤ a → g ≤ b → (a ≡ c) × (b ≡ g)
both_stay a b c g e f h = (omega arith, omega arith)

both_grow : (a b c g n : ℕ) → n ≤ c + g → c ≤ a → g ≤ b → n ≤ a + b
both_grow a b c g n le f h = omega arith

never_back : (m n k : ℕ) → m ≡ suc n → k ≤ n → m ≡ k → ⊥
never_back m n k e le same = omega arith

less_from : (a b : ℕ) → a ≤ b → b ≢ a → a < b
less_from zero zero le apart = absurd (apart refl)
less_from zero (suc b) le apart = omega arith
less_from (suc a) zero le apart = absurd (omega arith)
less_from (suc a) (suc b) le apart = let rest = less_from a b (omega arith) (λ e. apart (ap (λ n. suc n) e)) in omega arith

-- ---- one act

node_counted : (q : ℕ) (act : NodeAct) (done : List Act) → Counted q (Node act) done
node_counted q Closed done = one_closing (closings_of done) (generation_of (state_acts done) q)
node_counted q Opened done = refl
node_counted q (Daemon_put at bytes) done = refl
node_counted q (Area_made len) done = refl
node_counted q (Area_put at bytes) done = refl
node_counted q (Config_put at bytes) done = refl
node_counted q (Registered base size) done = refl
node_counted q Deregistered done = refl

state_counted : (q : ℕ) (act : StateAct) (done : List Act) → Counted q (State act) done
state_counted q Cleared done = one_more true (closings_of done) (generation_of (state_acts done) q)
state_counted q (Num_set k num) done = one_more (k == q) (closings_of done) (generation_of (state_acts done) q)
state_counted q (Addr_set k desc driver device) done = one_more (k == q) (closings_of done) (generation_of (state_acts done) q)
state_counted q (Ready_set k ready) done = one_more ((k == q) && not ready) (closings_of done) (generation_of (state_acts done) q)
state_counted q (Max_set k max) done = refl
state_counted q (Status_set value) done = refl
state_counted q (Features_set value) done = refl
state_counted q (Avail_set k avail) done = refl
state_counted q (Kick_file_set k on) done = refl
state_counted q (Kicked k) done = refl
state_counted q (Kicks_taken k) done = refl
state_counted q (Callback_set on set) done = refl
state_counted q (Injected on) done = refl
state_counted q (Interrupts_taken on) done = refl

counted : (q : ℕ) (act : Act) (done : List Act) → Counted q act done
counted q (Node act) done = node_counted q act done
counted q (State act) done = state_counted q act done
counted q (Driver act) done = refl
counted q (Bus act) done = refl
counted q (Message_act act) done = refl
counted q (Queue act) done = refl
counted q (Disk_act act) done = refl

pub counted_end : (q : ℕ) (act : Act) (done : List Act) → ends_position q act ≡ true → ends_of (act ∷ done) q ≡ suc (ends_of done q)
counted_end q act done e = counted q act done ∙ ap (λ t. cond t (suc (ends_of done q)) (ends_of done q)) e

pub kept_end : (q : ℕ) (act : Act) (done : List Act) → ends_position q act ≡ false → ends_of (act ∷ done) q ≡ ends_of done q
kept_end q act done e = counted q act done ∙ ap (λ t. cond t (suc (ends_of done q)) (ends_of done q)) e

-- neither count falls
abbrev NoneFalls : ℕ → Act → List Act → Type 0
NoneFalls q act done = (closings_of done ≤ closings_of (act ∷ done)) × (generation_of (state_acts done) q ≤ generation_of (state_acts (act ∷ done)) q)

unchanged : (q : ℕ) (done : List Act) → (closings_of done ≤ closings_of done) × (generation_of (state_acts done) q ≤ generation_of (state_acts done) q)
unchanged q done = (no_less false (closings_of done), no_less false (generation_of (state_acts done) q))

generation_more : (t : Bool) (q : ℕ) (done : List Act) → (closings_of done ≤ closings_of done)
    × (generation_of (state_acts done) q ≤ cond t (generation_of (state_acts done) q + 1) (generation_of (state_acts done) q))
generation_more t q done = (no_less false (closings_of done), no_less t (generation_of (state_acts done) q))

node_falls : (q : ℕ) (act : NodeAct) (done : List Act) → NoneFalls q (Node act) done
node_falls q Closed done = (closing_more (closings_of done), no_less false (generation_of (state_acts done) q))
node_falls q Opened done = unchanged q done
node_falls q (Daemon_put at bytes) done = unchanged q done
node_falls q (Area_made len) done = unchanged q done
node_falls q (Area_put at bytes) done = unchanged q done
node_falls q (Config_put at bytes) done = unchanged q done
node_falls q (Registered base size) done = unchanged q done
node_falls q Deregistered done = unchanged q done

state_falls : (q : ℕ) (act : StateAct) (done : List Act) → NoneFalls q (State act) done
state_falls q Cleared done = generation_more true q done
state_falls q (Num_set k num) done = generation_more (k == q) q done
state_falls q (Addr_set k desc driver device) done = generation_more (k == q) q done
state_falls q (Ready_set k ready) done = generation_more ((k == q) && not ready) q done
state_falls q (Max_set k max) done = unchanged q done
state_falls q (Status_set value) done = unchanged q done
state_falls q (Features_set value) done = unchanged q done
state_falls q (Avail_set k avail) done = unchanged q done
state_falls q (Kick_file_set k on) done = unchanged q done
state_falls q (Kicked k) done = unchanged q done
state_falls q (Kicks_taken k) done = unchanged q done
state_falls q (Callback_set on set) done = unchanged q done
state_falls q (Injected on) done = unchanged q done
state_falls q (Interrupts_taken on) done = unchanged q done

none_falls : (q : ℕ) (act : Act) (done : List Act) → NoneFalls q act done
none_falls q (Node act) done = node_falls q act done
none_falls q (State act) done = state_falls q act done
none_falls q (Driver act) done = unchanged q done
none_falls q (Bus act) done = unchanged q done
none_falls q (Message_act act) done = unchanged q done
none_falls q (Queue act) done = unchanged q done
none_falls q (Disk_act act) done = unchanged q done

pub no_end : (q : ℕ) (act : Act) (done : List Act) → ends_position q act ≡ false
    → (closings_of (act ∷ done) ≡ closings_of done) × (generation_of (state_acts (act ∷ done)) q ≡ generation_of (state_acts done) q)
no_end q act done e =
    let falls = none_falls q act done in
    both_stay (closings_of (act ∷ done)) (generation_of (state_acts (act ∷ done)) q) (closings_of done) (generation_of (state_acts done) q) (kept_end q act done e) falls.0 falls.1

-- ---- acts after some others

pub same_ends : (q : ℕ) (acts done : List Act) → list_all (λ act. not (ends_position q act)) acts ≡ true
    → (closings_of (acts ++ done) ≡ closings_of done) × (generation_of (state_acts (acts ++ done)) q ≡ generation_of (state_acts done) q)
same_ends q [] done e = (refl, refl)
same_ends q (act ∷ acts) done e = by (ends_position q act) refl e (same_ends q acts done) where
  by : (t : Bool) → ends_position q act ≡ t → (not t && list_all (λ act. not (ends_position q act)) acts) ≡ true
      → (list_all (λ act. not (ends_position q act)) acts ≡ true → (closings_of (acts ++ done) ≡ closings_of done) × (generation_of (state_acts (acts ++ done)) q ≡ generation_of (state_acts done) q))
      → (closings_of (act ∷ acts ++ done) ≡ closings_of done) × (generation_of (state_acts (act ∷ acts ++ done)) q ≡ generation_of (state_acts done) q)
  by true i e more = absurd (true≢false (sym e))
  by false i e more =
      let one = no_end q act (acts ++ done) i in
      let rest = more e in
      (one.0 ∙ rest.0, one.1 ∙ rest.1)

-- the count of ends never falls
pub no_fewer : (q : ℕ) (acts done : List Act) → ends_of done q ≤ ends_of (acts ++ done) q
no_fewer q [] done = no_less false (ends_of done q)
no_fewer q (act ∷ acts) done =
    let falls = none_falls q act (acts ++ done) in
    both_grow (closings_of (act ∷ acts ++ done)) (generation_of (state_acts (act ∷ acts ++ done)) q) (closings_of (acts ++ done)) (generation_of (state_acts (acts ++ done)) q) (ends_of done q)
    (no_fewer q acts done) falls.0 falls.1

pub goes_on : (q : ℕ) (acts done : List Act) → ends_of (acts ++ done) q ≡ ends_of done q → list_all (λ act. not (ends_position q act)) acts ≡ true
goes_on q [] done e = refl
goes_on q (act ∷ acts) done e = by (ends_position q act) refl (goes_on q acts done) where
  by : (t : Bool) → ends_position q act ≡ t → (ends_of (acts ++ done) q ≡ ends_of done q → list_all (λ act. not (ends_position q act)) acts ≡ true)
      → (not t && list_all (λ act. not (ends_position q act)) acts) ≡ true
  by true i more =
      let one = counted_end q act (acts ++ done) i in
      let rest = no_fewer q acts done in
      absurd (omega arith)
  by false i more =
      let one = no_end q act (acts ++ done) i in
      let closings = one.0 in
      let generation = one.1 in
      more (omega arith)

pub more_ends : (q : ℕ) (acts done : List Act) → ends_of (acts ++ done) q ≢ ends_of done q → ends_of done q < ends_of (acts ++ done) q
more_ends q acts done apart = less_from (ends_of done q) (ends_of (acts ++ done) q) (no_fewer q acts done) apart
