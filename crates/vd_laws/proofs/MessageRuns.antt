-- What becomes of messages, from what each act was tested for.
use Rattle.std.proofs.Common.{◌≡◌, ◌≢◌, ℕ, ◌+◌, ◌<◌, ◌≤◌, Bool, true, false, refl, ap, subst, ◌∙◌, sym, arith, Option, None, Some, cond, min, nat_le, List, [], ◌∷◌, ◌++◌, ◌==◌, ◌||◌, ◌&&◌, not, map, find, filter, is_some, true≢false, eqb-true, eq-eqb, if◌then◌else◌, ◌⊎◌, inl, inr}
use Rattle.std.specs.Option.{option_map_or}
use Rattle.std.proofs.lemmas.Bool.{eqb-false, not-true}
use Rattle.std.proofs.lemmas.Bool.Decides.{nat_tests}
use Rattle.vd_model.specs.declared.message.Message.{Message}
use Rattle.vd_model.specs.declared.message.TakeAnswer.{TakeAnswer}
use Rattle.vd_model.specs.declared.message.TakeAnswer.TheVariants as end
use Rattle.vd_model.specs.Messages.{MessageAct, Sent, Received, Answered, Lost, Timed, Took, Elapsed, next_id, outstanding, outstanding_as, is_other_message, is_held, is_received, is_due, deadline_of, least, least_due, breaks, next_message, message_told, reply_answer, timeout_answer, answers_to}
use Rattle.vd_model.specs.BusTurns.{device_start}
use Rattle.vd_laws.specs.Among.{Among}
use Rattle.vd_laws.specs.MessageLaw.{AreAscending, IsNext, IsAccepted, IsBroken}
use Rattle.vd_laws.proofs.Lists.{pushed, filtered}
use Rattle.vd_laws.proofs.Searches.{missed, finds, found_there}
use Rattle.vd_laws.proofs.Heard.{Legal}

-- ---- ascending ids

push_ascends : (ms : List Message) (m : Message) → AreAscending ms → ((k : Message) → Among k ms → k.id < m.id) → AreAscending (ms ++ m ∷ [])
push_ascends [] m a below = (λ k h. absurd h, tt)
push_ascends (n ∷ ms) m a below =
    (λ k h. elim (pushed k m ms h) [ inl j ↦ a.0 k j | inr e ↦ subst (λ l. n.id < l.id) (sym e) (below n (inl refl)) ], push_ascends ms m a.1 (λ k h. below k (inr h)))

filter_ascends : (p : Message → Bool) (ms : List Message) → AreAscending ms → AreAscending (filter p ms)
filter_ascends p [] a = tt
filter_ascends p (m ∷ ms) a = by (p m) (filter_ascends p ms a.1) where
  by : (b : Bool) → AreAscending (filter p ms) → AreAscending (cond b (m ∷ filter p ms) (filter p ms))
  by true rest = (λ k h. a.0 k (filtered p k ms h).0, rest)
  by false rest = rest

-- the first that passes is the least
first_least : (p : Message → Bool) (ms : List Message) (n : Message) → AreAscending ms → find p ms ≡ Some n → (m : Message) → Among m ms → p m ≡ true → n.id ≤ m.id
first_least p [] n a e m h passes = absurd h
first_least p (k ∷ ms) n a e m h passes = by (p k) refl e h (first_least p ms n a.1) where
  by : (b : Bool) → p k ≡ b → cond b (Some k) (find p ms) ≡ Some n → (m ≡ k) ⊎ Among m ms → (find p ms ≡ Some n → (m : Message) → Among m ms → p m ≡ true → n.id ≤ m.id) → n.id ≤ m.id
  by true here f (inl same) later = let is : k ≡ n = cc in let e : m.id ≡ n.id = ap (λ l. l.id) same ∙ ap (λ l. l.id) is in omega arith
  by true here f (inr j) later = let is : k ≡ n = cc in let low : k.id < m.id = a.0 m j in let e : k.id ≡ n.id = ap (λ l. l.id) is in omega arith
  by false here f (inl same) later = absurd (true≢false (sym passes ∙ (ap p same ∙ here)))
  by false here f (inr j) later = later f m j passes

-- ---- what holds of legal acts

-- 1 for a test that holds
abbrev one_if : Bool → ℕ
one_if b = cond b 1 0

record IsHeard (acts : List MessageAct) : Type 0 where
  ascends : AreAscending (outstanding acts)
  below : (m : Message) → Among m (outstanding acts) → m.id < next_id device_start acts
  unsent : (id : ℕ) → next_id device_start acts ≤ id → answers_to id acts ≡ 0
  open_yet : (m : Message) → Among m (outstanding acts) → answers_to m.id acts ≡ 0
  once : (id : ℕ) → answers_to id acts ≤ 1

sent_heard : (m : Message) (acts : List MessageAct) → m.id ≡ next_id device_start acts → IsHeard acts → IsHeard (Sent m ∷ acts)
sent_heard m acts number h = record {
  ascends = push_ascends (outstanding acts) m h.ascends (λ k j. let low = h.below k j in omega arith);
  below = λ k j. elim (pushed k m (outstanding acts) j) [ inl i ↦ (let low = h.below k i in omega arith) | inr e ↦ (let is : k.id ≡ m.id = ap (λ l. l.id) e in omega arith) ];
  unsent = λ id past. h.unsent id (omega arith);
  open_yet = λ k j. elim (pushed k m (outstanding acts) j) [ inl i ↦ h.open_yet k i | inr e ↦ h.unsent k.id (let is : k.id ≡ m.id = ap (λ l. l.id) e in omega arith) ];
  once = h.once;
}

-- the id of an answer is that of an outstanding message
held_message : (acts : List MessageAct) (id : ℕ) → is_held acts id ≡ true → (m : Message) × Among m (outstanding acts) × (m.id ≡ id)
held_message acts id held = by (outstanding_as acts id) refl held where
  by : (o : Option Message) → find (λ m. m.id == id) (outstanding acts) ≡ o → (is_some o && is_received acts id) ≡ true → (m : Message) × Among m (outstanding acts) × (m.id ≡ id)
  by None e h = cc
  by (Some m) e h = let f = found_there (λ m. m.id == id) m (outstanding acts) e in (m, f.0, eqb-true m.id id f.1)

answered_heard : (id result avail : ℕ) (acts : List MessageAct) → is_held acts id ≡ true → IsHeard acts → IsHeard (Answered id result avail ∷ acts)
answered_heard id result avail acts held h = record {
  ascends = filter_ascends (is_other_message id) (outstanding acts) h.ascends;
  below = λ m k. h.below m (filtered (is_other_message id) m (outstanding acts) k).0;
  unsent = λ i past. ap (λ n. n + answers_to i acts) (other i past) ∙ (let none = h.unsent i past in omega arith);
  open_yet = λ m k. let p = filtered (is_other_message id) m (outstanding acts) k in let none = h.open_yet m p.0 in
      ap (λ n. n + answers_to m.id acts) (apart id m.id (λ e. true≢false (sym (eq-eqb m.id id (sym e)) ∙ not-true (m.id == id) p.1))) ∙ (omega arith);
  once = λ i. few i (id == i) refl;
} where
  was : (m : Message) × Among m (outstanding acts) × (m.id ≡ id)
  was = held_message acts id held

  apart : (i j : ℕ) → (i ≡ j → ⊥) → one_if (i == j) ≡ 0
  apart i j differ = by (i == j) refl where
    by : (b : Bool) → (i == j) ≡ b → one_if b ≡ 0
    by true e = absurd (differ (eqb-true i j e))
    by false e = refl

  other : (i : ℕ) → next_id device_start acts ≤ i → one_if (id == i) ≡ 0
  other i past = apart id i (λ e. let low = h.below was.0 was.1 in let is = was.2 in omega arith)

  few : (i : ℕ) (b : Bool) → (id == i) ≡ b → one_if b + answers_to i acts ≤ 1
  few i true e = let none : answers_to was.0.id acts ≡ 0 = h.open_yet was.0 was.1 in let is : answers_to i acts ≡ answers_to was.0.id acts = ap (λ k. answers_to k acts) (sym (was.2 ∙ eqb-true id i e)) in omega arith
  few i false e = let one = h.once i in omega arith

ticked_heard : (now : ℕ) (acts : List MessageAct) → IsHeard acts → IsHeard (Elapsed now ∷ acts)
ticked_heard now acts h = record {
  ascends = ascends (breaks now (outstanding acts));
  below = λ m k. h.below m (fewer m (breaks now (outstanding acts)) k);
  unsent = h.unsent;
  open_yet = λ m k. h.open_yet m (fewer m (breaks now (outstanding acts)) k);
  once = h.once;
} where
  ascends : (b : Bool) → AreAscending (if b then [] else outstanding acts)
  ascends true = tt
  ascends false = h.ascends

  fewer : (m : Message) (b : Bool) → Among m (if b then [] else outstanding acts) → Among m (outstanding acts)
  fewer m true k = absurd k
  fewer m false k = k

heard_is : (acts : List MessageAct) → Legal acts → IsHeard acts
heard_is [] legal = record { ascends = tt; below = λ m k. absurd k; unsent = λ id past. refl; open_yet = λ m k. absurd k; once = λ id. omega arith }
heard_is (Sent m ∷ acts) legal = sent_heard m acts legal.0 (heard_is acts legal.1)
heard_is (Answered id result avail ∷ acts) legal = answered_heard id result avail acts legal.0 (heard_is acts legal.1)
heard_is (Elapsed now ∷ acts) legal = ticked_heard now acts (heard_is acts legal.1)
heard_is (Timed seconds ∷ acts) legal = let h = heard_is acts legal.1 in record { ascends = h.ascends; below = h.below; unsent = h.unsent; open_yet = h.open_yet; once = h.once }
heard_is (Took id ∷ acts) legal = let h = heard_is acts legal.1 in record { ascends = h.ascends; below = h.below; unsent = h.unsent; open_yet = h.open_yet; once = h.once }
heard_is (Received id ∷ acts) legal = let h = heard_is acts legal.1 in record { ascends = h.ascends; below = h.below; unsent = h.unsent; open_yet = h.open_yet; once = h.once }
heard_is (Lost ∷ acts) legal = let h = heard_is acts legal.1 in record { ascends = h.ascends; below = h.below; unsent = h.unsent; open_yet = h.open_yet; once = h.once }

pub legal_once : (acts : List MessageAct) → Legal acts → (id : ℕ) → answers_to id acts ≤ 1
legal_once acts legal id = (heard_is acts legal).once id

pub legal_ascends : (acts : List MessageAct) → Legal acts → AreAscending (outstanding acts)
legal_ascends acts legal = (heard_is acts legal).ascends

-- the end of legal acts is legal
pub suffix_legal : (later acts : List MessageAct) → Legal (later ++ acts) → Legal acts
suffix_legal [] acts legal = legal
suffix_legal (act ∷ later) acts legal = suffix_legal later acts legal.1

-- ---- the next message

-- an outstanding message is held exactly where it was received
pub held_is : (acts : List MessageAct) (m : Message) → Among m (outstanding acts) → is_held acts m.id ≡ is_received acts m.id
held_is acts m there = ap (λ b. b && is_received acts m.id) (finds (λ k. k.id == m.id) m (outstanding acts) there (eq-eqb m.id m.id refl))

pub next_message_is : (acts : List MessageAct) (m : Message) → Legal acts → next_message acts ≡ Some m → IsNext acts m
next_message_is acts m legal e =
    let f = found_there (λ k. not (is_received acts k.id)) m (outstanding acts) e in
    record {
      waits = f.0;
      unheld = held_is acts m f.0 ∙ not-true (is_received acts m.id) f.1;
      least = λ k there unheld. first_least (λ k. not (is_received acts k.id)) (outstanding acts) m (legal_ascends acts legal) e k there (ap not (sym (held_is acts k there) ∙ unheld));
    }

pub none_next : (acts : List MessageAct) → next_message acts ≡ None → (k : Message) → Among k (outstanding acts) → is_held acts k.id ≡ true
none_next acts e k there = held_is acts k there ∙ by (is_received acts k.id) (missed (λ k. not (is_received acts k.id)) k (outstanding acts) e there) where
  by : (b : Bool) → not b ≡ false → b ≡ true
  by true h = refl
  by false h = cc

-- the next message is held once it is received
pub next_message_held : (acts : List MessageAct) (m : Message) → next_message acts ≡ Some m → is_held (Received m.id ∷ acts) m.id ≡ true
next_message_held acts m e =
    let f = found_there (λ k. not (is_received acts k.id)) m (outstanding acts) e in
    held_is (Received m.id ∷ acts) m f.0 ∙ ap (λ b. b || is_received acts m.id) (eq-eqb m.id m.id refl)

pub each_next : (acts later earlier : List MessageAct) (id : ℕ) → Legal acts → acts ≡ later ++ Received id ∷ earlier → (m : Message) × IsNext earlier m × (m.id ≡ id)
each_next acts later earlier id legal split =
    let l : Legal (Received id ∷ earlier) = suffix_legal later (Received id ∷ earlier) (subst Legal split legal) in
    (l.0.0, next_message_is earlier l.0.0 l.1 l.0.1, l.0.2)

pub each_held : (acts later earlier : List MessageAct) (id result avail : ℕ) → Legal acts → acts ≡ later ++ Answered id result avail ∷ earlier → is_held earlier id ≡ true
each_held acts later earlier id result avail legal split =
    let l : Legal (Answered id result avail ∷ earlier) = suffix_legal later (Answered id result avail ∷ earlier) (subst Legal split legal) in l.0

-- what was received since a loss was received
since_received : (since before : List MessageAct) (id : ℕ) → is_received (since ++ Lost ∷ before) id ≡ is_received since id
since_received [] before id = refl
since_received (Received k ∷ since) before id = ap (λ b. (k == id) || b) (since_received since before id)
since_received (Lost ∷ since) before id = refl
since_received (Sent m ∷ since) before id = since_received since before id
since_received (Timed seconds ∷ since) before id = since_received since before id
since_received (Took k ∷ since) before id = since_received since before id
since_received (Answered k result avail ∷ since) before id = since_received since before id
since_received (Elapsed now ∷ since) before id = since_received since before id

pub comes_again : (acts later since before : List MessageAct) (id : ℕ) → Legal acts → acts ≡ later ++ Received id ∷ (since ++ Lost ∷ before)
    → (k : Message) → Among k (outstanding (since ++ Lost ∷ before)) → is_received since k.id ≡ false → id ≤ k.id
comes_again acts later since before id legal split k there unreceived =
    let n = each_next acts later (since ++ Lost ∷ before) id legal split in
    subst (λ i. i ≤ k.id) n.2 (n.1.least k there (held_is (since ++ Lost ∷ before) k there ∙ (since_received since before k.id ∙ unreceived)))

-- ---- the ends of messages

-- an outstanding message was sent
record WasSent (m : Message) (acts : List MessageAct) : Type 0 where
  later : List MessageAct
  earlier : List MessageAct
  split : acts ≡ later ++ Sent m ∷ earlier

sent_earlier : (m : Message) (act : MessageAct) (acts : List MessageAct) → WasSent m acts → WasSent m (act ∷ acts)
sent_earlier m act acts w = record { later = act ∷ w.later; earlier = w.earlier; split = ap (λ l. act ∷ l) w.split }

was_sent : (acts : List MessageAct) (m : Message) → Among m (outstanding acts) → WasSent m acts
was_sent [] m h = absurd h
was_sent (Sent k ∷ acts) m h = elim (pushed m k (outstanding acts) h) [
  | inl j ↦ sent_earlier m (Sent k) acts (was_sent acts m j)
  | inr e ↦ (record { later = []; earlier = acts; split = ap (λ l. Sent l ∷ acts) (sym e) })
]
was_sent (Answered id result avail ∷ acts) m h = sent_earlier m (Answered id result avail) acts (was_sent acts m (filtered (is_other_message id) m (outstanding acts) h).0)
was_sent (Elapsed now ∷ acts) m h = sent_earlier m (Elapsed now) acts (was_sent acts m (by (breaks now (outstanding acts)) h)) where
  by : (b : Bool) → Among m (if b then [] else outstanding acts) → Among m (outstanding acts)
  by true k = absurd k
  by false k = k
was_sent (Timed seconds ∷ acts) m h = sent_earlier m (Timed seconds) acts (was_sent acts m h)
was_sent (Took id ∷ acts) m h = sent_earlier m (Took id) acts (was_sent acts m h)
was_sent (Received id ∷ acts) m h = sent_earlier m (Received id) acts (was_sent acts m h)
was_sent (Lost ∷ acts) m h = sent_earlier m Lost acts (was_sent acts m h)

-- the least deadline that is due is one of them, and none is less
record IsLeastDue (now : ℕ) (ms : List Message) (deadline : ℕ) : Type 0 where
  which : Message
  there : Among which ms
  due : is_due now which ≡ true
  is : deadline_of which ≡ deadline
  least : (k : Message) → Among k ms → is_due now k ≡ true → deadline ≤ deadline_of k

none_due : (now : ℕ) (ms : List Message) → least_due now ms ≡ None → (k : Message) → Among k ms → is_due now k ≡ true → ⊥
none_due now [] e k h due = h
none_due now (m ∷ ms) e k h due = by (is_due now m) refl e h (none_due now ms) where
  by : (b : Bool) → is_due now m ≡ b → least (map deadline_of (cond b (m ∷ filter (is_due now) ms) (filter (is_due now) ms))) ≡ None → (k ≡ m) ⊎ Among k ms
      → (least_due now ms ≡ None → (k : Message) → Among k ms → is_due now k ≡ true → ⊥) → ⊥
  by true f g j rest = cc
  by false f g (inl same) rest = true≢false (sym due ∙ (ap (is_due now) same ∙ f))
  by false f g (inr j) rest = rest g k j due

least_due_is : (now : ℕ) (ms : List Message) (deadline : ℕ) → least_due now ms ≡ Some deadline → IsLeastDue now ms deadline
least_due_is now [] deadline e = cc
least_due_is now (m ∷ ms) deadline e = by (is_due now m) refl (least_due now ms) refl e (least_due_is now ms) where
  more : (d : ℕ) → IsLeastDue now ms d → is_due now m ≡ false → IsLeastDue now (m ∷ ms) d
  more d r f = record { which = r.which; there = inr r.there; due = r.due; is = r.is; least = λ k j due. elim j [ inl same ↦ absurd (true≢false (sym due ∙ (ap (is_due now) same ∙ f))) | inr i ↦ r.least k i due ] }

  by : (b : Bool) → is_due now m ≡ b → (o : Option ℕ) → least_due now ms ≡ o
      → least (map deadline_of (cond b (m ∷ filter (is_due now) ms) (filter (is_due now) ms))) ≡ Some deadline
      → ((d : ℕ) → least_due now ms ≡ Some d → IsLeastDue now ms d) → IsLeastDue now (m ∷ ms) deadline
  by false f o g h rest = more deadline (rest deadline h) f
  by true f None g h rest =
      let is : Some (deadline_of m) ≡ Some deadline = subst (λ o. Some (option_map_or (min (deadline_of m)) o (deadline_of m)) ≡ Some deadline) g h in
      let same : deadline_of m ≡ deadline = cc in
      record {
        which = m;
        there = inl refl;
        due = f;
        is = same;
        least = λ k j due. elim j [ inl e ↦ (let d : deadline_of k ≡ deadline_of m = ap deadline_of e in omega arith) | inr i ↦ absurd (none_due now ms g k i due) ];
      }
  by true f (Some d) g h rest =
      let is : Some (min (deadline_of m) d) ≡ Some deadline = subst (λ o. Some (option_map_or (min (deadline_of m)) o (deadline_of m)) ≡ Some deadline) g h in
      let same : min (deadline_of m) d ≡ deadline = cc in
      let r = rest d g in
      pick r same (nat_le (deadline_of m) d) refl where
        pick : IsLeastDue now ms d → min (deadline_of m) d ≡ deadline → (b : Bool) → nat_le (deadline_of m) d ≡ b → IsLeastDue now (m ∷ ms) deadline
        pick r same true t =
            let low : deadline_of m ≤ d = grind (arith, nat_tests, t) in
            let is : deadline_of m ≡ deadline = omega arith in
            record {
              which = m;
              there = inl refl;
              due = f;
              is = is;
              least = λ k j due. elim j [ inl e ↦ (let eq : deadline_of k ≡ deadline_of m = ap deadline_of e in omega arith) | inr i ↦ (let l = r.least k i due in omega arith) ];
            }
        pick r same false t =
            let low : d < deadline_of m = grind (arith, nat_tests, t) in
            let is : d ≡ deadline = omega arith in
            record {
              which = r.which;
              there = inr r.there;
              due = r.due;
              is = r.is ∙ is;
              least = λ k j due. elim j [ inl e ↦ (let eq : deadline_of k ≡ deadline_of m = ap deadline_of e in omega arith) | inr i ↦ (let l = r.least k i due in omega arith) ];
            }

this_tick : (acts : List MessageAct) (id deadline now : ℕ) (m : Message) → outstanding_as acts id ≡ Some m → least_due now (outstanding acts) ≡ Some deadline → IsBroken (Elapsed now ∷ acts) id deadline now
this_tick acts id deadline now m e f =
    let g = found_there (λ k. k.id == id) m (outstanding acts) e in
    let l = least_due_is now (outstanding acts) deadline f in
    let w = was_sent acts m g.0 in
    record {
      which = m;
      same = eqb-true m.id id g.1;
      later = [];
      between = w.later;
      earlier = w.earlier;
      split = ap (λ l. Elapsed now ∷ l) w.split;
      waits = subst (λ a. Among m (outstanding a)) w.split g.0;
      due = (l.which, subst (λ a. Among l.which (outstanding a)) w.split l.there, l.due, l.is);
      least = subst (λ a. (k : Message) → Among k (outstanding a) → is_due now k ≡ true → deadline ≤ deadline_of k) w.split l.least;
    }

-- what a take tells of an id is so
abbrev pub Says : List MessageAct → ℕ → TakeAnswer → Type 0
Says acts id (end.Done says avail) = IsAccepted acts id 0
Says acts id (end.FailedByReply says result) = (result ≢ 0) × IsAccepted acts id result
Says acts id (end.FailedByTimeout says deadline now) = IsBroken acts id deadline now
Says acts id _ = Unit {0}

-- one more act behind
accepted_later : (act : MessageAct) (acts : List MessageAct) (id result : ℕ) → IsAccepted acts id result → IsAccepted (act ∷ acts) id result
accepted_later act acts id result a = record { later = act ∷ a.later; avail = a.avail; earlier = a.earlier; split = ap (λ l. act ∷ l) a.split }

says_later : (act : MessageAct) (acts : List MessageAct) (id : ℕ) (t : TakeAnswer) → Says acts id t → Says (act ∷ acts) id t
says_later act acts id end.Pending h = tt
says_later act acts id end.Unknown h = tt
says_later act acts id (end.Done says avail) h = accepted_later act acts id 0 h
says_later act acts id (end.FailedByReply says result) h = (h.0, accepted_later act acts id result h.1)
says_later act acts id (end.FailedByTimeout says deadline now) h = record {
  which = h.which;
  same = h.same;
  later = act ∷ h.later;
  between = h.between;
  earlier = h.earlier;
  split = ap (λ l. act ∷ l) h.split;
  waits = h.waits;
  due = h.due;
  least = h.least;
}

-- an accepted answer ends its message
answer_says : (id result avail : ℕ) (acts : List MessageAct) (m : Message) → Says (Answered id result avail ∷ acts) id (reply_answer m result avail)
answer_says id result avail acts m = by (result == 0) refl where
  here : IsAccepted (Answered id result avail ∷ acts) id result
  here = record { later = []; avail = avail; earlier = acts; split = refl }

  by : (b : Bool) → (result == 0) ≡ b → Says (Answered id result avail ∷ acts) id (if b then end.Done m.body avail else end.FailedByReply m.body result)
  by true e = subst (λ r. IsAccepted (Answered id result avail ∷ acts) id r) (eqb-true result 0 e) here
  by false e = (eqb-false result 0 e, here)

pub message_told_says : (acts : List MessageAct) (id : ℕ) → Says acts id (message_told acts id)
message_told_says [] id = tt
message_told_says (Sent m ∷ acts) id = by (m.id == id) (says_later (Sent m) acts id (message_told acts id) (message_told_says acts id)) where
  by : (b : Bool) → Says (Sent m ∷ acts) id (message_told acts id) → Says (Sent m ∷ acts) id (if b then end.Pending else message_told acts id)
  by true h = tt
  by false h = h
message_told_says (Answered k result avail ∷ acts) id = by (k == id) refl (outstanding_as acts id) (says_later (Answered k result avail) acts id (message_told acts id) (message_told_says acts id)) where
  by : (b : Bool) → (k == id) ≡ b → (o : Option Message) → Says (Answered k result avail ∷ acts) id (message_told acts id)
      → Says (Answered k result avail ∷ acts) id (if b then option_map_or (λ m. reply_answer m result avail) o (message_told acts id) else message_told acts id)
  by true e None h = h
  by true e (Some m) h = subst (λ i. Says (Answered k result avail ∷ acts) i (reply_answer m result avail)) (eqb-true k id e) (answer_says k result avail acts m)
  by false e o h = h
message_told_says (Elapsed now ∷ acts) id = by (least_due now (outstanding acts)) refl (outstanding_as acts id) refl (says_later (Elapsed now) acts id (message_told acts id) (message_told_says acts id)) where
  by : (o : Option ℕ) → least_due now (outstanding acts) ≡ o → (m : Option Message) → outstanding_as acts id ≡ m → Says (Elapsed now ∷ acts) id (message_told acts id) → Says (Elapsed now ∷ acts) id (timeout_answer o m now (message_told acts id))
  by (Some deadline) e (Some m) f h = this_tick acts id deadline now m f e
  by (Some deadline) e None f h = h
  by None e m f h = h
message_told_says (Took k ∷ acts) id = by (k == id) (says_later (Took k) acts id (message_told acts id) (message_told_says acts id)) where
  by : (b : Bool) → Says (Took k ∷ acts) id (message_told acts id) → Says (Took k ∷ acts) id (if b then end.Unknown else message_told acts id)
  by true h = tt
  by false h = h
message_told_says (Timed seconds ∷ acts) id = says_later (Timed seconds) acts id (message_told acts id) (message_told_says acts id)
message_told_says (Received k ∷ acts) id = says_later (Received k) acts id (message_told acts id) (message_told_says acts id)
message_told_says (Lost ∷ acts) id = says_later Lost acts id (message_told acts id) (message_told_says acts id)
