-- Acts that leave a queue's two sides alone, and those that end the daemon's.
use Rattle.std.proofs.Common.{◌≡◌, ℕ, ◌+◌, Bool, true, false, ◌&&◌, if◌then◌else◌, refl, ap, sym, ◌∙◌, List, [], ◌∷◌, ◌++◌, Some, None, filter, true≢false}
use Rattle.std.specs.List.{list_all}
use Rattle.std.specs.Prelude.{is_some}
use Rattle.vd_model.specs.Acts.{Act, QueueAct, Node, Driver, Bus, Message_act, State, Queue, Disk_act, Ring_made, Ring_dropped, Chain_added, Chains_published, Chain_reclaimed, Fetched, Executed, Finished}
use Rattle.vd_model.specs.Queues as model
use Rattle.vd_model.specs.Queues.{ends_position, is_other_chain}
use Rattle.vd_queue_sides.specs.Chains.{chains_of, is_ring_act}
use Rattle.vd_queue_sides.specs.Daemon.{Steps, steps_of, is_daemon_act, nothing}

pub chains_after : (q : ℕ) (act : Act) (acts : List Act) → is_ring_act q act ≡ false → chains_of (act ∷ acts) q ≡ chains_of acts q
chains_after q (Node act) acts e = refl
chains_after q (Driver act) acts e = refl
chains_after q (Bus act) acts e = refl
chains_after q (Message_act act) acts e = refl
chains_after q (State act) acts e = refl
chains_after q (Disk_act act) acts e = refl
chains_after q (Queue act) acts e = of_queue act e where
  of_queue : (act : QueueAct) → is_ring_act q (Queue act) ≡ false → chains_of (Queue act ∷ acts) q ≡ chains_of acts q
  of_queue (Fetched k) e = refl
  of_queue (Executed k status bytes) e = refl
  of_queue (Finished k) e = refl
  of_queue (Ring_made k place region) e = ap (λ t. record {
    ring = (if t then Some (record { place = place; region = region }) else model.ring_of acts q);
    added = (if t then 0 else model.added_count acts q);
    published = (if t then 0 else model.published_count acts q);
    reclaimed = (if t then 0 else model.reclaimed_count acts q);
    out = (if t then [] else model.chains_out acts q);
    seen = (if t then [] else model.published_chains_out acts q);
  }) e
  of_queue (Ring_dropped k) e = ap (λ t. record (chains_of acts q) {
    ring = (if t then None else model.ring_of acts q);
    out = (if t then [] else model.chains_out acts q);
    seen = (if t then [] else model.published_chains_out acts q);
  }) e
  of_queue (Chain_added k chain) e = ap (λ t. record (chains_of acts q) {
    added = (if t then model.added_count acts q + 1 else model.added_count acts q);
    out = (if t then model.chains_out acts q ++ chain ∷ [] else model.chains_out acts q);
  }) e
  of_queue (Chains_published k) e = ap (λ t. record (chains_of acts q) {
    published = (if t then model.added_count acts q else model.published_count acts q);
    seen = (if t then model.chains_out acts q else model.published_chains_out acts q);
  }) e
  of_queue (Chain_reclaimed k head) e = ap (λ t. record (chains_of acts q) {
    reclaimed = (if t then model.reclaimed_count acts q + 1 else model.reclaimed_count acts q);
    out = (if t then filter (is_other_chain head) (model.chains_out acts q) else model.chains_out acts q);
    seen = (if t then filter (is_other_chain head) (model.published_chains_out acts q) else model.published_chains_out acts q);
  }) e

-- where an act is none of a queue, what the acts say is decided by whether it ends the position
abbrev pub steps_if : Bool → List Act → ℕ → Steps
steps_if t acts q = record {
  first = (if t then None else model.before_first acts q);
  fetches = (if t then 0 else model.fetches acts q);
  finishes = (if t then 0 else model.finishes acts q);
  fetched = (if t then None else model.in_hand acts q);
  executed = (if t then None else model.execution_of acts q);
}

pub steps_after : (q : ℕ) (act : Act) (acts : List Act) → is_daemon_act q act ≡ false → steps_of (act ∷ acts) q ≡ steps_of acts q
steps_after q (Node act) acts e = ap (λ t. steps_if t acts q) e
steps_after q (Driver act) acts e = refl
steps_after q (Bus act) acts e = refl
steps_after q (Message_act act) acts e = refl
steps_after q (State act) acts e = ap (λ t. steps_if t acts q) e
steps_after q (Disk_act act) acts e = refl
steps_after q (Queue act) acts e = of_queue act e where
  of_queue : (act : QueueAct) → is_daemon_act q (Queue act) ≡ false → steps_of (Queue act ∷ acts) q ≡ steps_of acts q
  of_queue (Fetched k) e = ap (λ t. record (steps_of acts q) {
    first = (if t then (if is_some (model.before_first acts q) then model.before_first acts q else Some acts) else model.before_first acts q);
    fetches = (if t then model.fetches acts q + 1 else model.fetches acts q);
    fetched = (if t then Some acts else model.in_hand acts q);
    executed = (if t then None else model.execution_of acts q);
  }) e
  of_queue (Executed k status bytes) e = ap (λ t. record (steps_of acts q) {
    executed = (if t then Some (record { status = status; bytes = bytes }) else model.execution_of acts q);
  }) e
  of_queue (Finished k) e = ap (λ t. record (steps_of acts q) {
    finishes = (if t then model.finishes acts q + 1 else model.finishes acts q);
    fetched = (if t then None else model.in_hand acts q);
  }) e
  of_queue (Ring_made k place region) e = refl
  of_queue (Ring_dropped k) e = refl
  of_queue (Chain_added k chain) e = refl
  of_queue (Chains_published k) e = refl
  of_queue (Chain_reclaimed k head) e = refl

-- an end leaves nothing
pub ended : (q : ℕ) (act : Act) (acts : List Act) → ends_position q act ≡ true → steps_of (act ∷ acts) q ≡ nothing
ended q (Node act) acts e = ap (λ t. steps_if t acts q) e
ended q (State act) acts e = ap (λ t. steps_if t acts q) e
ended q (Driver act) acts e = absurd (true≢false (sym e))
ended q (Bus act) acts e = absurd (true≢false (sym e))
ended q (Message_act act) acts e = absurd (true≢false (sym e))
ended q (Queue act) acts e = absurd (true≢false (sym e))
ended q (Disk_act act) acts e = absurd (true≢false (sym e))

first_of : (a b : Bool) → (a && b) ≡ true → a ≡ true
first_of true b e = refl
first_of false b e = e

rest_of : (a b : Bool) → (a && b) ≡ true → b ≡ true
rest_of true b e = e
rest_of false b e = absurd (true≢false (sym e))

-- what no act of some kind changes, some of them don't change
pub same_after : {X : Type 0} (f : List Act → X) (kind : Act → Bool) → ((act : Act) (acts : List Act) → kind act ≡ true → f (act ∷ acts) ≡ f acts)
    → (acts done : List Act) → list_all kind acts ≡ true → f (acts ++ done) ≡ f done
same_after f kind one [] done e = refl
same_after f kind one (act ∷ acts) done e = one act (acts ++ done) (first_of (kind act) (list_all kind acts) e) ∙ same_after f kind one acts done (rest_of (kind act) (list_all kind acts) e)
