-- What the lists are after messages end, and after their ends are taken.
use Rattle.std.proofs.Common.{◌≡◌, ℕ, suc, ◌+◌, ◌≤◌, Bool, true, false, ◌||◌, ◌&&◌, ◌==◌, Option, Some, None, refl, ap, subst, ◌∙◌, sym, arith, cond, List, [], ◌∷◌, ◌++◌, length, nat_lt, find, filter, map, append_assoc, length-append, eqb-true, eq-eqb}
use Rattle.std.specs.List.{list_any, list_all}
use Rattle.std.specs.Option.{is_some, option_map, option_map_or}
use Rattle.std.proofs.lemmas.List.{map-append}
use Rattle.std.proofs.lemmas.List.Folds.{list_any-append, list_all-append}
use Rattle.std.proofs.lemmas.List.Elements.{filter-append}
use Rattle.vd_model.specs.declared.message.Message.{Message}
use Rattle.vd_model.specs.declared.message.TakeAnswer.{TakeAnswer}
use Rattle.vd_model.specs.declared.message.TakeAnswer.TheVariants.{Pending, Done, FailedByReply, FailedByTimeout, Unknown}
use Rattle.vd_model.specs.Messages.{MessageAct, Took, Answered, Elapsed, Answering, Taking, MessageStart, outstanding, outstanding_as, is_received, is_broken, is_held, is_other_message, message_told, reply_answer, least_due, breaks, timeout_answer, take_acts}
use Rattle.vd_msg.specs.declared.lists.Ended.{Ended}
use Rattle.vd_msg.specs.Lists.{Lists, has_id, has_ended_id, without_first, count_of, timeout_end, is_final, told_by, places_of}
use Rattle.vd_msg.specs.Stands.{Stands, Makes}
use Rattle.vd_msg.proofs.Due.{breaks_is}
use Rattle.vd_msg.proofs.Seen.{with_lists}
use Rattle.vd_msg.proofs.Ids.{one_if, some_counted, none_counted, counted_some, any_counted, find_is_any, find_none, find_first, find_second, find-append, find-without, found_passes, count-without, length-without, filter_all, filter_one, count_of-append, all_found, all_without}

-- an answer's end is final
reply_answer_final : (m : Message) (result avail : ℕ) → is_final (reply_answer m result avail) ≡ true
reply_answer_final m result avail = by (result == 0) where
  by : (b : Bool) → is_final (cond b (Done m.body avail) (FailedByReply m.body result)) ≡ true
  by true = refl
  by false = refl

at_most_one : (a b : ℕ) → cond {A = ℕ} (nat_lt a b) 1 0 ≤ 1
at_most_one a b = by (nat_lt a b) where
  by : (t : Bool) → cond {A = ℕ} t 1 0 ≤ 1
  by true = omega arith
  by false = omega arith

module _ (start : MessageStart) (acts : List MessageAct) (h : Lists) (s : Stands start acts h) where
  few : (id : ℕ) → places_of h id ≤ 1
  few id = let f = s.once id in let k = at_most_one id h.next in omega arith

  -- what stands in one list stands in no other
  module _ (id result avail : ℕ) (m : Message) (found : find (has_id id) h.held ≡ Some m) where
    is_id : m.id ≡ id
    is_id = eqb-true m.id id (found_passes (has_id id) h.held m found)

    counts : (k : ℕ) → count_of (has_id k) h.held ≡ one_if (m.id == k) + count_of (has_id k) (without_first (has_id id) h.held)
    counts k = count-without (has_id id) (has_id k) h.held m found

    here : count_of (has_id id) h.held ≡ 1 + count_of (has_id id) (without_first (has_id id) h.held)
    here = let c = counts id in let n : one_if (m.id == id) ≡ 1 = ap one_if (eq-eqb m.id id is_id) in omega arith

    not_waiting : list_any (has_id id) h.waiting ≡ false
    not_waiting = let f = few id in let c = here in none_counted (has_id id) h.waiting (omega arith)

    not_ended : list_any (has_ended_id id) h.ended ≡ false
    not_ended = let f = few id in let c = here in none_counted (has_ended_id id) h.ended (omega arith)

    not_held : list_any (has_id id) (without_first (has_id id) h.held) ≡ false
    not_held = let f = few id in let c = here in none_counted (has_id id) (without_first (has_id id) h.held) (omega arith)

    pub holds_id : is_held acts id ≡ true
    holds_id = ap (λ o. is_some o && is_received acts id) (ap (find (has_id id)) s.lists ∙ find_first (has_id id) h.held h.waiting m found) ∙ s.held id (sym (find_is_any (has_id id) h.held) ∙ ap is_some found)

    abbrev reply : Ended
    reply = record { id = id; told = reply_answer m result avail }

    pub answered_stands : Stands start (Answered id result avail ∷ acts) (with_lists h h.waiting (without_first (has_id id) h.held) (h.ended ++ record { id = id; told = reply_answer m result avail } ∷ []))
    answered_stands = record {
      timeout = s.timeout;
      next = s.next;
      broken = s.broken;
      lists = ap (filter (is_other_message id)) s.lists ∙ (filter-append (is_other_message id) h.held h.waiting ∙ (ap (λ l. l ++ filter (is_other_message id) h.waiting) (filter_one (has_id id) h.held (let f = few id in omega arith)) ∙ ap (λ l. without_first (has_id id) h.held ++ l) (filter_all (has_id id) h.waiting not_waiting)));
      held = λ k e. s.held k (some_counted (has_id k) h.held (let c = counts k in let n = counted_some (has_id k) (without_first (has_id id) h.held) e in omega arith));
      waiting = s.waiting;
      received = s.received;
      once = λ k. let f = s.once k in let c = counts k in let a = count_of-append (has_ended_id k) h.ended (reply ∷ []) in let n : one_if (m.id == k) ≡ one_if (id == k) = ap (λ j. one_if (j == k)) is_id in omega arith;
      told = λ k. tells k (id == k) refl;
      ends = list_all-append (λ e. is_final e.told) h.ended (reply ∷ []) ∙ (ap (λ b. b && (is_final (reply_answer m result avail) && true)) s.ends ∙ ap (λ b. b && true) (reply_answer_final m result avail));
      untaken = let n = s.untaken in let l = length-without (has_id id) h.held m found in let k = length-append h.ended (reply ∷ []) in omega arith;
    } where
      found_reply : find (has_ended_id id) (h.ended ++ reply ∷ []) ≡ Some reply
      found_reply = find_second (has_ended_id id) h.ended (reply ∷ []) not_ended ∙ ap (λ b. cond b (Some reply) None) (eq-eqb id id refl)

      this : message_told (Answered id result avail ∷ acts) id ≡ told_by (with_lists h h.waiting (without_first (has_id id) h.held) (h.ended ++ reply ∷ [])) id
      this = ap (λ b. cond b (option_map_or (λ m. reply_answer m result avail) (outstanding_as acts id) (message_told acts id)) (message_told acts id)) (eq-eqb id id refl)
          ∙ (ap (λ o. option_map_or (λ m. reply_answer m result avail) o (message_told acts id)) (ap (find (has_id id)) s.lists ∙ find_first (has_id id) h.held h.waiting m found)
          ∙ sym (ap (λ b. cond (b || list_any (has_id id) h.waiting) Pending (option_map_or (λ e. e.told) (find (has_ended_id id) (h.ended ++ reply ∷ [])) Unknown)) not_held
          ∙ (ap (λ b. cond b Pending (option_map_or (λ e. e.told) (find (has_ended_id id) (h.ended ++ reply ∷ [])) Unknown)) not_waiting
          ∙ ap (λ o. option_map_or (λ e. e.told) o Unknown) found_reply)))

      still_held : (k : ℕ) → (m.id == k) ≡ false → list_any (has_id k) (without_first (has_id id) h.held) ≡ list_any (has_id k) h.held
      still_held k other = any_counted (has_id k) (without_first (has_id id) h.held) ∙ (ap (λ n. nat_lt 0 n) (let c = counts k in let n : one_if (m.id == k) ≡ 0 = ap one_if other in omega arith) ∙ sym (any_counted (has_id k) h.held))

      still_ended : (k : ℕ) → (id == k) ≡ false → find (has_ended_id k) (h.ended ++ reply ∷ []) ≡ find (has_ended_id k) h.ended
      still_ended k other = find-append (has_ended_id k) h.ended (reply ∷ []) ∙ last (list_any (has_ended_id k) h.ended) refl where
        last : (b : Bool) → list_any (has_ended_id k) h.ended ≡ b → cond b (find (has_ended_id k) h.ended) (cond (id == k) (Some reply) None) ≡ find (has_ended_id k) h.ended
        last true e = refl
        last false e = ap (λ b. cond b (Some reply) None) other ∙ sym (find_none (has_ended_id k) h.ended e)

      tells : (k : ℕ) (b : Bool) → (id == k) ≡ b → message_told (Answered id result avail ∷ acts) k ≡ told_by (with_lists h h.waiting (without_first (has_id id) h.held) (h.ended ++ reply ∷ [])) k
      tells k true e = subst (λ j. message_told (Answered id result avail ∷ acts) j ≡ told_by (with_lists h h.waiting (without_first (has_id id) h.held) (h.ended ++ reply ∷ [])) j) (eqb-true id k e) this
      tells k false e =
          ap (λ b. cond b (option_map_or (λ m. reply_answer m result avail) (outstanding_as acts k) (message_told acts k)) (message_told acts k)) e
          ∙ (s.told k ∙ sym (ap (λ b. cond (b || list_any (has_id k) h.waiting) Pending (option_map_or (λ e. e.told) (find (has_ended_id k) (h.ended ++ reply ∷ [])) Unknown)) (still_held k (ap (λ j. j == k) is_id ∙ e))
          ∙ ap (λ o. cond (list_any (has_id k) h.held || list_any (has_id k) h.waiting) Pending (option_map_or (λ e. e.told) o Unknown)) (still_ended k e)))

    pub answer_makes : Makes start acts (Answering id result avail) (with_lists h h.waiting (without_first (has_id id) h.held) (h.ended ++ record { id = id; told = reply_answer m result avail } ∷ []))
    answer_makes = subst (λ b. Stands start (cond b (Answered id result avail ∷ []) [] ++ acts) (with_lists h h.waiting (without_first (has_id id) h.held) (h.ended ++ reply ∷ []))) (sym holds_id) answered_stands

  -- nothing is held under the id
  pub refused_answer : (id : ℕ) → find (has_id id) h.held ≡ None → is_held acts id ≡ false
  refused_answer id none = by (list_any (has_id id) h.waiting) refl where
    not_here : list_any (has_id id) h.held ≡ false
    not_here = sym (find_is_any (has_id id) h.held) ∙ ap is_some none

    where_is : outstanding_as acts id ≡ find (has_id id) h.waiting
    where_is = ap (find (has_id id)) s.lists ∙ find_second (has_id id) h.held h.waiting not_here

    by : (b : Bool) → list_any (has_id id) h.waiting ≡ b → is_held acts id ≡ false
    by true e = ap (λ o. is_some o && is_received acts id) where_is ∙ (ap (λ b. b && is_received acts id) (find_is_any (has_id id) h.waiting ∙ e) ∙ s.waiting id e)
    by false e = ap (λ o. is_some o && is_received acts id) where_is ∙ ap (λ b. b && is_received acts id) (find_is_any (has_id id) h.waiting ∙ e)

  pub refused_makes : (id result avail : ℕ) → find (has_id id) h.held ≡ None → Makes start acts (Answering id result avail) h
  refused_makes id result avail none = subst (λ b. Stands start (cond b (Answered id result avail ∷ []) [] ++ acts) h) (sym (refused_answer id none)) s

  -- a take
  pub taken_is : (id : ℕ) (o : Option Ended) → list_any (has_id id) h.held ≡ false → list_any (has_id id) h.waiting ≡ false → o ≡ find (has_ended_id id) h.ended
      → message_told acts id ≡ option_map_or (λ e. e.told) o Unknown
  taken_is id o a b is = s.told id ∙ (ap (λ c. cond (c || list_any (has_id id) h.waiting) Pending (option_map_or (λ e. e.told) (find (has_ended_id id) h.ended) Unknown)) a
      ∙ (ap (λ c. cond c Pending (option_map_or (λ e. e.told) (find (has_ended_id id) h.ended) Unknown)) b ∙ ap (λ o. option_map_or (λ e. e.told) o Unknown) (sym is)))

  pub took_stands : (id : ℕ) (e : Ended) → list_any (has_id id) h.held ≡ false → list_any (has_id id) h.waiting ≡ false → find (has_ended_id id) h.ended ≡ Some e
      → Stands start (Took id ∷ acts) (with_lists h h.waiting h.held (without_first (has_ended_id id) h.ended))
  took_stands id e a b found = record {
    timeout = s.timeout;
    next = s.next;
    broken = s.broken;
    lists = s.lists;
    held = s.held;
    waiting = s.waiting;
    received = s.received;
    once = λ k. let f = s.once k in let c = counts k in omega arith;
    told = λ k. tells k (id == k) refl;
    ends = all_without (λ e. is_final e.told) (has_ended_id id) h.ended s.ends;
    untaken = let n = s.untaken in let l = length-without (has_ended_id id) h.ended e found in omega arith;
  } where
    counts : (k : ℕ) → count_of (has_ended_id k) h.ended ≡ one_if (e.id == k) + count_of (has_ended_id k) (without_first (has_ended_id id) h.ended)
    counts k = count-without (has_ended_id id) (has_ended_id k) h.ended e found

    is_id : e.id ≡ id
    is_id = eqb-true e.id id (found_passes (has_ended_id id) h.ended e found)

    gone : find (has_ended_id id) (without_first (has_ended_id id) h.ended) ≡ None
    gone = find_none (has_ended_id id) (without_first (has_ended_id id) h.ended) (none_counted (has_ended_id id) (without_first (has_ended_id id) h.ended)
        (let f = few id in let c = counts id in let n : one_if (e.id == id) ≡ 1 = ap one_if (eq-eqb e.id id is_id) in omega arith))

    this : message_told (Took id ∷ acts) id ≡ told_by (with_lists h h.waiting h.held (without_first (has_ended_id id) h.ended)) id
    this = ap (λ b. cond b Unknown (message_told acts id)) (eq-eqb id id refl)
        ∙ sym (ap (λ c. cond (c || list_any (has_id id) h.waiting) Pending (option_map_or (λ e. e.told) (find (has_ended_id id) (without_first (has_ended_id id) h.ended)) Unknown)) a
        ∙ (ap (λ c. cond c Pending (option_map_or (λ e. e.told) (find (has_ended_id id) (without_first (has_ended_id id) h.ended)) Unknown)) b ∙ ap (λ o. option_map_or (λ e. e.told) o Unknown) gone))

    tells : (k : ℕ) (t : Bool) → (id == k) ≡ t → message_told (Took id ∷ acts) k ≡ told_by (with_lists h h.waiting h.held (without_first (has_ended_id id) h.ended)) k
    tells k true is = subst (λ j. message_told (Took id ∷ acts) j ≡ told_by (with_lists h h.waiting h.held (without_first (has_ended_id id) h.ended)) j) (eqb-true id k is) this
    tells k false is = ap (λ b. cond b Unknown (message_told acts k)) is ∙ (s.told k ∙ ap (λ o. cond (list_any (has_id k) h.held || list_any (has_id k) h.waiting) Pending (option_map_or (λ e. e.told) o Unknown))
        (sym (find-without (has_ended_id id) (has_ended_id k) h.ended (λ x p. ap (λ j. j == k) (eqb-true x.id id p) ∙ is))))

  pub final_acts : (id : ℕ) (e : Ended) → find (has_ended_id id) h.ended ≡ Some e → take_acts e.told id ≡ Took id ∷ []
  final_acts id e found = by e.told (all_found (λ e. is_final e.told) (has_ended_id id) h.ended e s.ends found) where
    by : (t : TakeAnswer) → is_final t ≡ true → take_acts t id ≡ Took id ∷ []
    by Pending f = cc
    by Unknown f = cc
    by (Done body avail) f = refl
    by (FailedByReply body result) f = refl
    by (FailedByTimeout body deadline now) f = refl

  pub take_makes : (id : ℕ) (e : Ended) → list_any (has_id id) h.held ≡ false → list_any (has_id id) h.waiting ≡ false → find (has_ended_id id) h.ended ≡ Some e
      → Makes start acts (Taking id) (with_lists h h.waiting h.held (without_first (has_ended_id id) h.ended))
  take_makes id e a b found = subst (λ l. Stands start (l ++ acts) (with_lists h h.waiting h.held (without_first (has_ended_id id) h.ended))) (sym (ap (λ t. take_acts t id) (taken_is id (Some e) a b (sym found)) ∙ final_acts id e found)) (took_stands id e a b found)

  pub unknown_makes : (id : ℕ) → list_any (has_id id) h.held ≡ false → list_any (has_id id) h.waiting ≡ false → find (has_ended_id id) h.ended ≡ None → Makes start acts (Taking id) h
  unknown_makes id a b none = subst (λ l. Stands start (l ++ acts) h) (sym (ap (λ t. take_acts t id) (taken_is id None a b (sym none)))) s

  -- a tick at which nothing is due
  pub quiet_stands : (now : ℕ) → least_due now (h.held ++ h.waiting) ≡ None → Stands start (Elapsed now ∷ acts) h
  quiet_stands now none = record {
    timeout = s.timeout;
    next = s.next;
    broken = s.broken ∙ ap (λ b. b || is_broken acts) (sym calm);
    lists = ap (λ b. cond b [] (outstanding acts)) calm ∙ s.lists;
    held = s.held;
    waiting = s.waiting;
    received = s.received;
    once = s.once;
    told = λ k. ap (λ o. timeout_answer o (outstanding_as acts k) now (message_told acts k)) least_none ∙ s.told k;
    ends = s.ends;
    untaken = s.untaken;
  } where
    least_none : least_due now (outstanding acts) ≡ None
    least_none = ap (least_due now) s.lists ∙ none

    calm : breaks now (outstanding acts) ≡ false
    calm = breaks_is now (outstanding acts) ∙ ap is_some least_none

-- messages that failed together
count_failed : (k d now : ℕ) (ms : List Message) → count_of (has_ended_id k) (map (timeout_end d now) ms) ≡ count_of (has_id k) ms
count_failed k d now [] = refl
count_failed k d now (m ∷ ms) = ap (λ n. one_if (m.id == k) + n) (count_failed k d now ms)

find_failed : (k d now : ℕ) (ms : List Message) → find (has_ended_id k) (map (timeout_end d now) ms) ≡ option_map (timeout_end d now) (find (has_id k) ms)
find_failed k d now [] = refl
find_failed k d now (m ∷ ms) = by (m.id == k) (find_failed k d now ms) where
  by : (b : Bool) → find (has_ended_id k) (map (timeout_end d now) ms) ≡ option_map (timeout_end d now) (find (has_id k) ms)
      → cond b (Some (timeout_end d now m)) (find (has_ended_id k) (map (timeout_end d now) ms)) ≡ option_map (timeout_end d now) (cond b (Some m) (find (has_id k) ms))
  by true e = refl
  by false e = e

all_failed : (d now : ℕ) (ms : List Message) → list_all (λ e. is_final e.told) (map (timeout_end d now) ms) ≡ true
all_failed d now [] = refl
all_failed d now (m ∷ ms) = all_failed d now ms

length_failed : (d now : ℕ) (ms : List Message) → length (map (timeout_end d now) ms) ≡ length ms
length_failed d now [] = refl
length_failed d now (m ∷ ms) = ap (λ n. suc n) (length_failed d now ms)

module _ (start : MessageStart) (acts : List MessageAct) (h : Lists) (s : Stands start acts h) (now d : ℕ) (due : least_due now (h.held ++ h.waiting) ≡ Some d) where
  abbrev all_ended : List Ended
  all_ended = (h.ended ++ map (timeout_end d now) h.held) ++ map (timeout_end d now) h.waiting

  ended_is : all_ended ≡ h.ended ++ map (timeout_end d now) (h.held ++ h.waiting)
  ended_is = append_assoc h.ended (map (timeout_end d now) h.held) (map (timeout_end d now) h.waiting) ∙ ap (λ l. h.ended ++ l) (sym (map-append (timeout_end d now) h.held h.waiting))

  all_counted : (k : ℕ) → count_of (has_ended_id k) all_ended ≡ count_of (has_ended_id k) h.ended + (count_of (has_id k) h.held + count_of (has_id k) h.waiting)
  all_counted k = ap (count_of (has_ended_id k)) ended_is ∙ (count_of-append (has_ended_id k) h.ended (map (timeout_end d now) (h.held ++ h.waiting))
      ∙ ap (λ n. count_of (has_ended_id k) h.ended + n) (count_failed k d now (h.held ++ h.waiting) ∙ count_of-append (has_id k) h.held h.waiting))

  found_ended : (k : ℕ) → find (has_ended_id k) all_ended ≡ cond (list_any (has_ended_id k) h.ended) (find (has_ended_id k) h.ended) (option_map (timeout_end d now) (find (has_id k) (h.held ++ h.waiting)))
  found_ended k = ap (find (has_ended_id k)) ended_is ∙ (find-append (has_ended_id k) h.ended (map (timeout_end d now) (h.held ++ h.waiting))
      ∙ ap (λ o. cond (list_any (has_ended_id k) h.ended) (find (has_ended_id k) h.ended) o) (find_failed k d now (h.held ++ h.waiting)))

  broke : breaks now (outstanding acts) ≡ true
  broke = breaks_is now (outstanding acts) ∙ ap is_some (ap (least_due now) s.lists ∙ due)

  tells : (k : ℕ) (o : Option Message) → find (has_id k) (h.held ++ h.waiting) ≡ o → timeout_answer (Some d) o now (message_told acts k) ≡ option_map_or (λ e. e.told) (find (has_ended_id k) all_ended) Unknown
  tells k (Some m) is = sym (ap (λ o. option_map_or (λ e. e.told) o Unknown) (found_ended k
      ∙ (ap (λ b. cond b (find (has_ended_id k) h.ended) (option_map (timeout_end d now) (find (has_id k) (h.held ++ h.waiting)))) not_ended_before ∙ ap (option_map (timeout_end d now)) is))) where
        not_ended_before : list_any (has_ended_id k) h.ended ≡ false
        not_ended_before = none_counted (has_ended_id k) h.ended
            (let f = few start acts h s k in let c = count_of-append (has_id k) h.held h.waiting in
            let n = counted_some (has_id k) (h.held ++ h.waiting) (sym (find_is_any (has_id k) (h.held ++ h.waiting)) ∙ ap is_some is) in omega arith)
  tells k None is = before ∙ sym (ap (λ o. option_map_or (λ e. e.told) o Unknown) (found_ended k
      ∙ (ap (λ o. cond (list_any (has_ended_id k) h.ended) (find (has_ended_id k) h.ended) (option_map (timeout_end d now) o)) is ∙ same (list_any (has_ended_id k) h.ended) refl))) where
        same : (b : Bool) → list_any (has_ended_id k) h.ended ≡ b → cond b (find (has_ended_id k) h.ended) None ≡ find (has_ended_id k) h.ended
        same true e = refl
        same false e = sym (find_none (has_ended_id k) h.ended e)

        nowhere : (list_any (has_id k) h.held || list_any (has_id k) h.waiting) ≡ false
        nowhere = sym (list_any-append (has_id k) h.held h.waiting) ∙ (sym (find_is_any (has_id k) (h.held ++ h.waiting)) ∙ ap is_some is)

        before : message_told acts k ≡ option_map_or (λ e. e.told) (find (has_ended_id k) h.ended) Unknown
        before = s.told k ∙ ap (λ b. cond b Pending (option_map_or (λ e. e.told) (find (has_ended_id k) h.ended) Unknown)) nowhere

  -- a tick that breaks the device
  pub broken_stands : Stands start (Elapsed now ∷ acts) (with_lists (record h { broken = true }) [] [] ((h.ended ++ map (timeout_end d now) h.held) ++ map (timeout_end d now) h.waiting))
  broken_stands = record {
    timeout = s.timeout;
    next = s.next;
    broken = ap (λ b. b || is_broken acts) (sym broke);
    lists = ap (λ b. cond b [] (outstanding acts)) broke;
    held = λ id e. cc;
    waiting = λ id e. cc;
    received = s.received;
    once = λ k. let f = s.once k in let c = all_counted k in omega arith;
    told = λ k. ap (λ o. timeout_answer o (outstanding_as acts k) now (message_told acts k)) (ap (least_due now) s.lists ∙ due)
        ∙ (ap (λ l. timeout_answer (Some d) (find (has_id k) l) now (message_told acts k)) s.lists ∙ tells k (find (has_id k) (h.held ++ h.waiting)) refl);
    ends = ap (list_all (λ e. is_final e.told)) ended_is ∙ (list_all-append (λ e. is_final e.told) h.ended (map (timeout_end d now) (h.held ++ h.waiting))
        ∙ (ap (λ b. b && list_all (λ e. is_final e.told) (map (timeout_end d now) (h.held ++ h.waiting))) s.ends ∙ all_failed d now (h.held ++ h.waiting)));
    untaken = let n = s.untaken in let a = ap length ended_is in let b = length-append h.ended (map (timeout_end d now) (h.held ++ h.waiting)) in
        let c = length_failed d now (h.held ++ h.waiting) in let e = length-append h.held h.waiting in omega arith;
  }
