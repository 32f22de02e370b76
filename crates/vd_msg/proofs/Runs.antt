-- What holds of every run: an id that has an accepted answer isn't outstanding any more.
use Rattle.std.proofs.Common.{◌≡◌, ℕ, ◌+◌, ◌<◌, ◌≤◌, Bool, true, false, ◌||◌, ◌&&◌, ◌==◌, Option, Some, None, refl, ap, subst, ◌∙◌, sym, arith, cond, not, List, [], ◌∷◌, ◌++◌, nat_lt, filter, eqb-true, eq-eqb}
use Rattle.std.specs.Option.{is_some, option_map_or}
use Rattle.std.proofs.lemmas.Bool.Decides.{nat_tests}
use Rattle.vd_model.specs.declared.message.Message.{Message}
use Rattle.vd_model.specs.declared.message.TakeAnswer.{TakeAnswer}
use Rattle.vd_model.specs.declared.message.TakeAnswer.TheVariants.{Pending, Done, FailedByReply, FailedByTimeout, Unknown}
use Rattle.vd_model.specs.Messages.{MessageAct, Sent, Received, Answered, Elapsed, MessageCall, Timing, Sending, Receiving, Answering, Losing, Ticking, Taking, MessageStart, outstanding, outstanding_as, is_other_message, is_broken, is_received, is_held, breaks, next_message, next_id, id_limit, message_of, message_told, take_acts, call_acts, message_run, answers_to}
use Rattle.vd_msg.specs.Lists.{has_id, count_of}
use Rattle.vd_msg.proofs.Ids.{one_if, find_is_any, counted_some, count_of-append}

-- each id below the next one is outstanding or answered once at most, and no other id is
record IsOrderly (start : MessageStart) (acts : List MessageAct) : Type 0 where
  once : (id : ℕ) → count_of (has_id id) (outstanding acts) + answers_to id acts ≤ one_if (nat_lt id (next_id start acts))

-- nothing with the id is left once the others are kept
none_other : (id : ℕ) (ms : List Message) → count_of (has_id id) (filter (is_other_message id) ms) ≡ 0
none_other id [] = refl
none_other id (m ∷ ms) = by (m.id == id) refl (none_other id ms) where
  by : (b : Bool) → (m.id == id) ≡ b → count_of (has_id id) (filter (is_other_message id) ms) ≡ 0 → count_of (has_id id) (cond (not b) (m ∷ filter (is_other_message id) ms) (filter (is_other_message id) ms)) ≡ 0
  by true e rest = rest
  by false e rest = let n : one_if (m.id == id) ≡ 0 = ap one_if e in omega arith

same_other : (id k : ℕ) → (id == k) ≡ false → (ms : List Message) → count_of (has_id k) (filter (is_other_message id) ms) ≡ count_of (has_id k) ms
same_other id k apart [] = refl
same_other id k apart (m ∷ ms) = by (m.id == id) refl (same_other id k apart ms) where
  by : (b : Bool) → (m.id == id) ≡ b → count_of (has_id k) (filter (is_other_message id) ms) ≡ count_of (has_id k) ms
      → count_of (has_id k) (cond (not b) (m ∷ filter (is_other_message id) ms) (filter (is_other_message id) ms)) ≡ one_if (m.id == k) + count_of (has_id k) ms
  by true e rest = let n : one_if (m.id == k) ≡ 0 = ap one_if (ap (λ j. j == k) (eqb-true m.id id e) ∙ apart) in omega arith
  by false e rest = ap (λ n. one_if (m.id == k) + n) rest

module _ (start : MessageStart) (acts : List MessageAct) (o : IsOrderly start acts) where
  sent_orderly : (m : Message) → m.id ≡ next_id start acts → IsOrderly start (Sent m ∷ acts)
  sent_orderly m is = record {
    once = λ id. let one = o.once id in let c = count_of-append (has_id id) (outstanding acts) (m ∷ []) in
        let n : one_if (m.id == id) ≡ one_if (next_id start acts == id) = ap (λ k. one_if (k == id)) is in by id (next_id start acts == id) refl one c n;
  } where
    by : (id : ℕ) (b : Bool) → (next_id start acts == id) ≡ b → count_of (has_id id) (outstanding acts) + answers_to id acts ≤ one_if (nat_lt id (next_id start acts))
        → count_of (has_id id) (outstanding acts ++ m ∷ []) ≡ count_of (has_id id) (outstanding acts) + (one_if (m.id == id) + 0) → one_if (m.id == id) ≡ one_if (next_id start acts == id)
        → count_of (has_id id) (outstanding acts ++ m ∷ []) + answers_to id acts ≤ one_if (nat_lt id (next_id start (Sent m ∷ acts)))
    by id true e one c n = let k : one_if (next_id start acts == id) ≡ 1 = ap one_if e in grind (arith, nat_tests, one, c, n, k, eqb-true (next_id start acts) id e)
    by id false e one c n = let k : one_if (next_id start acts == id) ≡ 0 = ap one_if e in grind (arith, nat_tests, one, c, n, k)

  answered_orderly : (id result avail : ℕ) → is_held acts id ≡ true → IsOrderly start (Answered id result avail ∷ acts)
  answered_orderly id result avail held = record { once = λ k. by k (id == k) refl } where
    is_there : (b : Bool) → (b && is_received acts id) ≡ true → b ≡ true
    is_there true e = refl
    is_there false e = cc

    there : 0 < count_of (has_id id) (outstanding acts)
    there = counted_some (has_id id) (outstanding acts) (sym (find_is_any (has_id id) (outstanding acts)) ∙ is_there (is_some (outstanding_as acts id)) held)

    this : count_of (has_id id) (filter (is_other_message id) (outstanding acts)) + (one_if (id == id) + answers_to id acts) ≤ one_if (nat_lt id (next_id start acts))
    this = let none = none_other id (outstanding acts) in let one = o.once id in let some = there in let n : one_if (id == id) ≡ 1 = ap one_if (eq-eqb id id refl) in omega arith

    by : (k : ℕ) (b : Bool) → (id == k) ≡ b → count_of (has_id k) (filter (is_other_message id) (outstanding acts)) + (one_if (id == k) + answers_to k acts) ≤ one_if (nat_lt k (next_id start acts))
    by k true e = subst (λ j. count_of (has_id j) (filter (is_other_message id) (outstanding acts)) + (one_if (id == j) + answers_to j acts) ≤ one_if (nat_lt j (next_id start acts))) (eqb-true id k e) this
    by k false e = let same = same_other id k e (outstanding acts) in let one = o.once k in let n : one_if (id == k) ≡ 0 = ap one_if e in omega arith

  ticked_orderly : (now : ℕ) → IsOrderly start (Elapsed now ∷ acts)
  ticked_orderly now = record { once = λ k. by k (breaks now (outstanding acts)) } where
    by : (k : ℕ) (b : Bool) → count_of (has_id k) (cond b [] (outstanding acts)) + answers_to k acts ≤ one_if (nat_lt k (next_id start acts))
    by k true = let one = o.once k in omega arith
    by k false = o.once k

  call_orderly : (call : MessageCall) → IsOrderly start (call_acts start acts call ++ acts)
  call_orderly (Timing seconds) = record { once = o.once }
  call_orderly (Sending body now) = by (is_broken acts || (next_id start acts == id_limit)) where
    by : (b : Bool) → IsOrderly start (cond b [] (Sent (message_of start acts body now) ∷ []) ++ acts)
    by true = o
    by false = sent_orderly (message_of start acts body now) refl
  call_orderly Receiving = by (next_message acts) where
    by : (m : Option Message) → IsOrderly start (option_map_or (λ m. Received m.id ∷ []) m [] ++ acts)
    by None = o
    by (Some m) = record { once = o.once }
  call_orderly (Answering id result avail) = by (is_held acts id) refl where
    by : (b : Bool) → is_held acts id ≡ b → IsOrderly start (cond b (Answered id result avail ∷ []) [] ++ acts)
    by true e = answered_orderly id result avail e
    by false e = o
  call_orderly Losing = record { once = o.once }
  call_orderly (Ticking now) = ticked_orderly now
  call_orderly (Taking id) = by (message_told acts id) where
    by : (t : TakeAnswer) → IsOrderly start (take_acts t id ++ acts)
    by Pending = o
    by Unknown = o
    by (Done body avail) = record { once = o.once }
    by (FailedByReply body result) = record { once = o.once }
    by (FailedByTimeout body deadline now) = record { once = o.once }

orderly : (start : MessageStart) (calls : List MessageCall) → IsOrderly start (message_run start calls)
orderly start [] = record { once = λ id. omega arith }
orderly start (call ∷ calls) = call_orderly start (message_run start calls) (orderly start calls) call

at_most_one : (b : Bool) → one_if b ≤ 1
at_most_one true = omega arith
at_most_one false = omega arith

pub answered_once : (start : MessageStart) (calls : List MessageCall) (id : ℕ) → answers_to id (message_run start calls) ≤ 1
answered_once start calls id = let one = (orderly start calls).once id in let few = at_most_one (nat_lt id (next_id start (message_run start calls))) in omega arith
