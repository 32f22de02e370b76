-- What the lists are after each act.
use Rattle.std.proofs.Common.{◌≡◌, ℕ, ◌+◌, ◌<◌, ◌≤◌, Bool, true, false, ◌||◌, ◌==◌, Some, None, refl, ap, subst, ◌∙◌, sym, arith, cond, not, List, [], ◌∷◌, ◌++◌, length, nat_lt, find, if◌then◌else◌, append_assoc, length-append, eqb-true, eq-eqb}
use Rattle.std.specs.List.{list_any}
use Rattle.std.specs.Option.{option_map_or}
use Rattle.std.proofs.lemmas.Bool.Decides.{nat_tests}
use Rattle.std.proofs.lemmas.List.Folds.{list_any-append}
use Rattle.vd_model.specs.declared.message.Body.{Body}
use Rattle.vd_model.specs.declared.message.Message.{Message}
use Rattle.vd_model.specs.declared.message.TakeAnswer.{TakeAnswer}
use Rattle.vd_model.specs.declared.message.TakeAnswer.TheVariants.{Pending}
use Rattle.vd_model.specs.Messages.{MessageAct, Sent, Received, Lost, Sending, Receiving, MessageStart, message_of, next_id, timeout_of, id_limit, is_received, is_broken, next_message}
use Rattle.vd_msg.specs.Lists.{Lists, has_id, has_ended_id, count_of}
use Rattle.vd_msg.specs.Stands.{Stands, Makes}
use Rattle.vd_msg.proofs.Seen.{with_lists}
use Rattle.vd_msg.proofs.Ids.{one_if, any_counted, find_second, count_of-append}

-- the lists after a send
abbrev pub with_sent : Lists → Body → ℕ → Lists
with_sent h body now = record h { next = h.next + 1; waiting = h.waiting ++ record { id = h.next; body = body; moment = now; timeout = h.timeout } ∷ [] }

-- one more pending message
pending_pushed : (x y b : Bool) (t e : TakeAnswer) → t ≡ cond (x || y) Pending e → cond b Pending t ≡ cond (x || (y || (b || false))) Pending e
pending_pushed true y true t e is = refl
pending_pushed true y false t e is = is
pending_pushed false true true t e is = refl
pending_pushed false true false t e is = is
pending_pushed false false true t e is = refl
pending_pushed false false false t e is = is

pub nil_from_length : {X : Type 0} (xs : List X) (n : ℕ) → n ≡ length xs → n ≡ 0 → xs ≡ []
nil_from_length [] n e z = refl
nil_from_length (x ∷ xs) n e z = absurd (omega arith)

-- no message is unreceived where all are received
all_received : (r : ℕ → Bool) (ms : List Message) → ((id : ℕ) → list_any (has_id id) ms ≡ true → r id ≡ true) → list_any (λ m. not (r m.id)) ms ≡ false
all_received r [] each = refl
all_received r (m ∷ ms) each =
    ap (λ b. not b || list_any (λ m. not (r m.id)) ms) (each m.id (ap (λ b. b || list_any (has_id m.id) ms) (eq-eqb m.id m.id refl)))
    ∙ all_received r ms (λ id e. each id (more (m.id == id) e)) where
      more : (b : Bool) {c : Bool} → c ≡ true → (b || c) ≡ true
      more true e = refl
      more false e = e

module _ (start : MessageStart) (acts : List MessageAct) (h : Lists) (s : Stands start acts h) where
  not_received : (id : ℕ) → h.next ≤ id → is_received acts id ≡ false
  not_received id past = by (is_received acts id) refl where
    by : (b : Bool) → is_received acts id ≡ b → b ≡ false
    by true e = let low = s.received id e in absurd (omega arith)
    by false e = refl

  pub sent_stands : (m : Message) → m.id ≡ h.next → Stands start (Sent m ∷ acts) (record h { next = h.next + 1; waiting = h.waiting ++ m ∷ [] })
  sent_stands m is = record {
    timeout = s.timeout;
    next = let n = s.next in omega arith;
    broken = s.broken;
    lists = ap (λ l. l ++ m ∷ []) s.lists ∙ append_assoc h.held h.waiting (m ∷ []);
    held = s.held;
    waiting = λ id e. waits id (list_any (has_id id) h.waiting) refl (m.id == id) refl (sym (list_any-append (has_id id) h.waiting (m ∷ [])) ∙ e);
    received = λ id e. let low = s.received id e in omega arith;
    once = λ id. rw (count_of-append (has_id id) h.waiting (m ∷ [])) (let few = s.once id in subst (λ n. count_of (has_id id) h.held + (count_of (has_id id) h.waiting + (cond (n == id) 1 0 + 0)) + count_of (has_ended_id id) h.ended ≤ cond (nat_lt id (h.next + 1)) 1 0) (sym is) (grind (arith, nat_tests, few)));
    told = λ id. rw (list_any-append (has_id id) h.waiting (m ∷ [])) (pending_pushed (list_any (has_id id) h.held) (list_any (has_id id) h.waiting) (m.id == id) _ _ (s.told id));
    ends = s.ends;
    untaken = let n = s.untaken in let l = length-append h.waiting (m ∷ []) in omega arith;
  } where
    waits : (id : ℕ) (a : Bool) → list_any (has_id id) h.waiting ≡ a → (b : Bool) → (m.id == id) ≡ b → (a || (b || false)) ≡ true → is_received acts id ≡ false
    waits id true ea b eb f = s.waiting id ea
    waits id false ea true eb f = let same = eqb-true m.id id eb in not_received id (omega arith)
    waits id false ea false eb f = cc

  pub received_stands : (m : Message) (rest : List Message) → h.waiting ≡ m ∷ rest → Stands start (Received m.id ∷ acts) (with_lists h rest (h.held ++ m ∷ []) h.ended)
  received_stands m rest is = record {
    timeout = s.timeout;
    next = s.next;
    broken = s.broken;
    lists = s.lists ∙ (ap (λ l. h.held ++ l) is ∙ sym (append_assoc h.held (m ∷ []) rest));
    held = λ id e. holds id (list_any (has_id id) h.held) refl (m.id == id) (sym (list_any-append (has_id id) h.held (m ∷ [])) ∙ e);
    waiting = λ id e. waits id (m.id == id) refl e;
    received = λ id e. was id (m.id == id) refl e;
    once = λ id. rw (count_of-append (has_id id) h.held (m ∷ [])) (let few = s.once id in let c = counted id in omega arith);
    told = λ id. s.told id ∙ rw (list_any-append (has_id id) h.held (m ∷ []), is) (moved (list_any (has_id id) h.held) (m.id == id) (list_any (has_id id) rest) _);
    ends = s.ends;
    untaken = let n = s.untaken in let l = length-append h.held (m ∷ []) in let k = ap length is in omega arith;
  } where
    counted : (id : ℕ) → count_of (has_id id) h.waiting ≡ cond (m.id == id) 1 0 + count_of (has_id id) rest
    counted id = ap (count_of (has_id id)) is

    was : (id : ℕ) (b : Bool) → (m.id == id) ≡ b → (b || is_received acts id) ≡ true → id < h.next
    was id true e f = let few = s.once id in let c = counted id in let n : one_if (m.id == id) ≡ 1 = ap one_if e in grind (arith, nat_tests, few, c, n)
    was id false e f = s.received id f

    holds : (id : ℕ) (a : Bool) → list_any (has_id id) h.held ≡ a → (b : Bool) → (a || (b || false)) ≡ true → (b || is_received acts id) ≡ true
    holds id a ea true f = refl
    holds id true ea false f = s.held id ea
    holds id false ea false f = cc

    waits : (id : ℕ) (b : Bool) → (m.id == id) ≡ b → list_any (has_id id) rest ≡ true → (b || is_received acts id) ≡ false
    waits id true e f = let few = s.once id in let c = counted id in let n : one_if (m.id == id) ≡ 1 = ap one_if e in
        let some : nat_lt 0 (count_of (has_id id) rest) ≡ true = sym (any_counted (has_id id) rest) ∙ f in absurd (grind (arith, nat_tests, few, c, n, some))
    waits id false e f = s.waiting id (ap (list_any (has_id id)) is ∙ (ap (λ b. b || list_any (has_id id) rest) e ∙ f))

    moved : (a b c : Bool) (e : TakeAnswer) → cond (a || (b || c)) Pending e ≡ cond ((a || (b || false)) || c) Pending e
    moved true b c e = refl
    moved false true c e = refl
    moved false false c e = refl

  pub lost_stands : Stands start (Lost ∷ acts) (with_lists h (h.held ++ h.waiting) [] h.ended)
  lost_stands = record {
    timeout = s.timeout;
    next = s.next;
    broken = s.broken;
    lists = s.lists;
    held = λ id e. cc;
    waiting = λ id e. refl;
    received = λ id e. cc;
    once = λ id. let few = s.once id in let c = count_of-append (has_id id) h.held h.waiting in omega arith;
    told = λ id. s.told id ∙ rw (list_any-append (has_id id) h.held h.waiting) refl;
    ends = s.ends;
    untaken = let n = s.untaken in let l = length-append h.held h.waiting in omega arith;
  }

  -- ---- what the calls make

  -- the message that a send makes is the one with the next id and the timeout of the time
  same_message : (body : Body) (now : ℕ) → message_of start acts body now ≡ record { id = h.next; body = body; moment = now; timeout = h.timeout }
  same_message body now =
      let make : ℕ → ℕ → Message = λ n t. record { id = n; body = body; moment = now; timeout = t } in
      ap (λ n. make n (timeout_of start acts)) (sym s.next) ∙ ap (make h.next) (sym s.timeout)

  pub send_makes : (body : Body) (now : ℕ) → h.broken ≡ false → h.next < id_limit → Makes start acts (Sending body now) (with_sent h body now)
  send_makes body now fine low =
      subst (λ b. Stands start ((if b then [] else Sent (message_of start acts body now) ∷ []) ++ acts) (with_sent h body now)) (sym allowed)
      (subst (λ m. Stands start (Sent m ∷ acts) (with_sent h body now)) (sym (same_message body now)) (sent_stands (record { id = h.next; body = body; moment = now; timeout = h.timeout }) refl)) where
        below : (next_id start acts == id_limit) ≡ false
        below = let n = s.next in grind (arith, nat_tests, low, n)

        allowed : (is_broken acts || (next_id start acts == id_limit)) ≡ false
        allowed = ap (λ b. b || (next_id start acts == id_limit)) (sym s.broken ∙ fine) ∙ below

  -- what is held was received, so the search for the next message begins with those that wait
  next_message_is : next_message acts ≡ find (λ m. not (is_received acts m.id)) h.waiting
  next_message_is = ap (find (λ m. not (is_received acts m.id))) s.lists ∙ find_second (λ m. not (is_received acts m.id)) h.held h.waiting (all_received (is_received acts) h.held s.held)

  pub next_message_none : h.waiting ≡ [] → next_message acts ≡ None
  next_message_none none = next_message_is ∙ ap (find (λ m. not (is_received acts m.id))) none

  pub next_message_some : (m : Message) (rest : List Message) → h.waiting ≡ m ∷ rest → next_message acts ≡ Some m
  next_message_some m rest is = next_message_is ∙ (ap (find (λ m. not (is_received acts m.id))) is ∙ ap (λ b. cond (not b) (Some m) (find (λ m. not (is_received acts m.id)) rest)) (s.waiting m.id here)) where
    here : list_any (has_id m.id) h.waiting ≡ true
    here = ap (list_any (has_id m.id)) is ∙ ap (λ b. b || list_any (has_id m.id) rest) (eq-eqb m.id m.id refl)

  pub recv_makes : (m : Message) (rest : List Message) → h.waiting ≡ m ∷ rest → Makes start acts Receiving (with_lists h rest (h.held ++ m ∷ []) h.ended)
  recv_makes m rest is = subst (λ o. Stands start (option_map_or (λ m. Received m.id ∷ []) o [] ++ acts) (with_lists h rest (h.held ++ m ∷ []) h.ended)) (sym (next_message_some m rest is)) (received_stands m rest is)

  pub recv_nothing : h.waiting ≡ [] → Makes start acts Receiving h
  recv_nothing none = subst (λ o. Stands start (option_map_or (λ m. Received m.id ∷ []) o [] ++ acts) h) (sym (next_message_none none)) s
