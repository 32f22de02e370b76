-- The block law.
use Rattle.std.proofs.Common.{◌≡◌, ℕ, zero, suc, ◌+◌, ◌-◌, ◌*◌, ◌^◌, ◌==◌, ◌<◌, ◌≤◌, Bool, true, false, refl, ap, subst, ◌∙◌, sym, arith, cond, Option, None, Some, is_some, List, [], ◌∷◌, ◌++◌, length, get_or, take, map, nat_lt, append_assoc, if◌then◌else◌, ◌⊎◌, inl, inr}
use Rattle.std.specs.Bool.{IsTrue}
use Rattle.std.specs.List.{list_all}
use Rattle.std.specs.Option.{option_map}
use Rattle.std.proofs.lemmas.Bool.{and_parts, ltb-true}
use Rattle.std.proofs.lemmas.List.{length-append, append_cancel_right}
use Rattle.vd_model.specs.declared.memory.Dir.TheVariants.{To, From}
use Rattle.vd_model.specs.declared.memory.Want.{Want}
use Rattle.vd_model.specs.declared.step.Step.TheVariants as step_of
use Rattle.vd_model.specs.declared.step.QueueStep.TheVariants as queue
use Rattle.vd_model.specs.declared.step.SubmitForm.{SubmitForm}
use Rattle.vd_model.specs.declared.step.SubmitForm.TheVariants as form_of
use Rattle.vd_model.specs.declared.answer.Item.{Item}
use Rattle.vd_model.specs.declared.answer.Item.TheVariants.{Word, Number}
use Rattle.vd_model.specs.declared.answer.Tag.TheVariants as tag
use Rattle.vd_model.specs.declared.answer.Answer.TheVariants.{Done}
use Rattle.vd_model.specs.Setting.{Setting}
use Rattle.vd_model.specs.Acts.{Act, Node, Daemon_put, AddedChain, Request, Queue, Finished, Ring_made, Ring_dropped, Chain_reclaimed, Disk_act, Stored, Executed}
use Rattle.vd_model.specs.Live.{live_mappings, buffers}
use Rattle.vd_model.specs.Puts.{ram, ram_bytes}
use Rattle.vd_model.specs.Turn.{Turn}
use Rattle.vd_model.specs.Queues.{Ring, ring_of, chains_out, reclaimed_count, in_hand, execution_of}
use Rattle.vd_model.specs.Block as block
use Rattle.vd_model.specs.DaemonTurns.{Hand, hand, store_acts}
use Rattle.vd_model.specs.RingTurns.{parts_count, mapping_part, writable_of, asked_by, used_event_puts, unmap_acts, request_end_acts}
use Rattle.vd_model.specs.Deeds.{device_view}
use Rattle.vd_model.specs.History.{Entry, History, deeds_of, reply, disk_of}
use Rattle.vd_model.specs.Agree.{concerns}
use Rattle.vd_laws.specs.Among.{Among}
use Rattle.vd_laws.specs.Runs.{acts_of, IsAddressed, IsWhole}
use Rattle.vd_ring_laws.specs.Calm.{IsCalm, is_calm}
use Rattle.vd_ring_laws.specs.Heads.{placed_heads, pushed_heads, head_in_hand, with_head}
use Rattle.vd_ring_laws.specs.DiskRequest.{given_bytes, answer_len, request_of}
use Rattle.vd_disk_laws.specs.BlockLaw.{IsLast, IsSubmitted, Pushes, IsCompleted}
use Rattle.vd_laws.proofs.Legal.{Legal}
use Rattle.vd_laws.proofs.Turns.{acts_of_device_legal}
use Rattle.vd_ring_laws.proofs.Fair.{Fair, is_put, puts_kept}
use Rattle.vd_ring_laws.proofs.Fairs.{fair_after}
use Rattle.vd_ring_laws.proofs.Hands.{position_after}
use Rattle.vd_ring_laws.proofs.Outs.{apart_after}
use Rattle.vd_ring_laws.specs.ChainLaw.{AreDistinct}
use Rattle.vd_ring_bytes.proofs.Numbers.{same_number}
use Rattle.vd_disk_laws.specs.BlockLaw.{BlockLaw}
use Rattle.vd_ring_bytes.proofs.SameRing.{rings_made}
use Rattle.vd_ring_bytes.proofs.RequestSource.{Comes, comes_still, header_of}
use Rattle.vd_ring_bytes.proofs.BlockAnswers.{result_fits, header_back}
use Rattle.vd_ring_bytes.proofs.RingMemory.{Answered}
use Rattle.vd_ring_turns.proofs.CalmRings.{HasRing, Calms}
use Rattle.vd_ring_turns.proofs.PollTurns.{element_len, one_head}
use Rattle.vd_ring_bytes.proofs.Spreads.{distinct_at, puts_executed}
use Rattle.vd_order_laws.proofs.OrderLaw.{number, no_ring, calm_at_end}
use Rattle.vd_disk_laws.proofs.EntryDeeds.{at_step, Makes, other, finishes, does, entry_makes}
use Rattle.vd_disk_laws.proofs.LastDeeds.{done_as, FoundExecute, find_execute, FoundFinish, find_finish, span_acts, made_le, pushed_grows}
use Rattle.vd_disk_laws.proofs.PollReports.{completed_is}
use Rattle.vd_disk_laws.proofs.RequestOnce.{SameRequest, same_request}
use Rattle.vd_disk_laws.proofs.FollowedChain.{Placed, submit_placed, Tracked, tracked, Reported, poll_reported}
use Rattle.vd_disk_laws.proofs.PollAnswers as back

-- ---- small facts

kind_low : (form : SubmitForm) → (asked_by form).kind < 2 ^ 32
kind_low (form_of.Read sector buffer offset len) = omega arith
kind_low (form_of.Write sector buffer offset len) = omega arith
kind_low form_of.Flush = omega arith
kind_low (form_of.Id buffer offset) = omega arith

answer_low : (o : Option Want) → ((w : Want) → o ≡ Some w → (w.dir ≡ To) ⊎ (w.dir ≡ From)) → ((w : Want) → o ≡ Some w → w.len ≤ 1048576) → answer_len o < 256 ^ 4
answer_low None ways short = omega arith
answer_low (Some w) ways short = elim (ways w refl) [ inl to ↦ rw to (omega arith) | inr from ↦ (let l = short w refl in rw from (omega arith)) ]

made_more : (new acts : List Act) (q : ℕ) (ring : Ring) → ring_of new q ≡ Some ring → rings_made acts q < rings_made (new ++ acts) q
made_more [] acts q ring e = cc
made_more (Queue (Ring_made k place region) ∷ new) acts q ring e = by (k == q) e (made_le new acts q) (made_more new acts q ring) where
  by : (b : Bool) → cond b (Some (record { place = place; region = region })) (ring_of new q) ≡ Some ring → rings_made acts q ≤ rings_made (new ++ acts) q → (ring_of new q ≡ Some ring → rings_made acts q < rings_made (new ++ acts) q)
      → rings_made acts q < cond b (rings_made (new ++ acts) q + 1) (rings_made (new ++ acts) q)
  by true f l later = omega arith
  by false f l later = later f
made_more (Queue (Ring_dropped k) ∷ new) acts q ring e = by (k == q) e (made_more new acts q ring) where
  by : (b : Bool) → cond b None (ring_of new q) ≡ Some ring → (ring_of new q ≡ Some ring → rings_made acts q < rings_made (new ++ acts) q) → rings_made acts q < rings_made (new ++ acts) q
  by true f later = cc
  by false f later = later f
made_more (_ ∷ new) acts q ring e = made_more new acts q ring e

get_front : (xs ys : List ℕ) (i : ℕ) → i < length xs → get_or (xs ++ ys) i 0 ≡ get_or xs i 0
get_front [] ys i h = absurd (omega arith)
get_front (x ∷ xs) ys i h = by i h (λ j k. get_front xs ys j k) where
  by : (i : ℕ) → i < length (x ∷ xs) → ((j : ℕ) → j < length xs → get_or (xs ++ ys) j 0 ≡ get_or xs j 0) → get_or ((x ∷ xs) ++ ys) i 0 ≡ get_or (x ∷ xs) i 0
  by zero h later = refl
  by (suc i) h later = later i (omega arith)

get_end : (xs : List ℕ) (y : ℕ) → get_or (xs ++ y ∷ []) (length xs) 0 ≡ y
get_end [] y = refl
get_end (x ∷ xs) y = get_end xs y

among_front : {X : Type 0} (m : X) (xs ys : List X) → Among m xs → Among m (xs ++ ys)
among_front m [] ys h = absurd h
among_front m (x ∷ xs) ys (inl e) = inl e
among_front m (x ∷ xs) ys (inr h) = inr (among_front m xs ys h)

among_end : {X : Type 0} (m : X) (xs ys : List X) → Among m ys → Among m (xs ++ ys)
among_end m [] ys h = h
among_end m (x ∷ xs) ys h = inr (among_end m xs ys h)

stored_is : (b : block.Block) (result : block.RequestResult) (more : List Act) → result.stores ≡ true → store_acts b result ++ more ≡ Disk_act (Stored (512 * b.sector) b.payload) ∷ more
stored_is b result more e = ap (λ c. (if c then Disk_act (Stored (512 * b.sector) b.payload) ∷ [] else []) ++ more) e

no_mix : (d : List ℕ) (q : ℕ) (f g : Bool) → at_step (step_of.Queue d (queue.Finish q)) f ≡ at_step (step_of.Queue d (queue.Execute q)) g → ⊥
no_mix d q f g e = let s : step_of.Queue d (queue.Finish q) ≡ step_of.Queue d (queue.Execute q) = ap (λ (e : Entry). e.step) e in cc

-- ---- the law

module _ (x : Setting) (small : IsAddressed x) (full : IsWhole x) (h : History) (d : List ℕ) (calm : IsCalm x h d) (q : ℕ) (ring : Ring) (there : ring_of (acts_of x h d) q ≡ Some ring) where
  abbrev acts : List Act
  acts = acts_of x h d

  cal : Calms x (number x small full h d calm) acts
  cal = calm_at_end x small full h d calm

  has : HasRing x acts q ring
  has = cal.rings q ring there

  -- at the start no request is in hand
  idle : in_hand (acts_of x calm.start d) q ≡ None
  idle = by (in_hand (acts_of x calm.start d) q) refl where
    by : (o : Option (List Act)) → in_hand (acts_of x calm.start d) q ≡ o → o ≡ None
    by None e = refl
    by (Some a) e =
        let p = position_after (acts_of x calm.start d) q (fair_after x calm.start d) in
        let r = calm.described calm.span calm.start calm.split q (p.ready (p.there (ap is_some e))) in
        let no : None ≡ Some r.ring = sym (no_ring x h d calm q) ∙ r.there in
        cc

  newer : rings_made (acts_of x calm.start d) q < rings_made acts q
  newer = subst (λ l. rings_made (acts_of x calm.start d) q < rings_made l q) (sym calm.acted) (made_more calm.acts (acts_of x calm.start d) q ring (calm.made q ring there))

  module _ (chain : AddedChain) (is_out : Among chain (chains_out acts q)) (k : ℕ) (from : reclaimed_count acts q ≤ k) (to : k < length (pushed_heads x acts q)) (is_head : chain.head ≡ get_or (placed_heads acts q) k 0) (a : Answered x acts ring.place q (rings_made acts q) k chain) where
    pub found : FoundFinish x d q calm.start calm.span a.older
    found = find_finish x d q calm.start a.older (subst (λ n. rings_made (acts_of x calm.start d) q < n) (sym a.same_ring) newer) calm.span calm.calm a.since (sym (ap (λ g. acts_of x g d) calm.split) ∙ a.split)

    abbrev g : History
    g = found.inner ++ calm.start

    taken_then : in_hand (acts_of x g d) q ≡ Some a.earlier
    taken_then = sym (puts_kept found.puts (acts_of x g d) q found.are) ∙ (sym (ap (λ l. in_hand l q) found.back) ∙ a.taken)

    ended_then : execution_of (acts_of x g d) q ≡ Some a.end
    ended_then = sym (puts_executed found.puts (acts_of x g d) q found.are) ∙ (sym (ap (λ l. execution_of l q) found.back) ∙ a.ended)

    inner_calm : (entry : Entry) → Among entry found.inner → IsTrue (concerns d entry.step) → IsTrue (is_calm entry.step)
    inner_calm entry i = calm.calm entry (subst (Among entry) (sym found.split) (among_end entry found.later (at_step (step_of.Queue d (queue.Finish q)) found.failed ∷ found.inner) (inr i)))

    pub run : FoundExecute x d q g a.earlier a.end
    run = find_execute x d q calm.start idle a.earlier a.end found.inner inner_calm taken_then ended_then

    later_calm : (entry : Entry) → Among entry found.later → IsTrue (concerns d entry.step) → IsTrue (is_calm entry.step)
    later_calm entry i = calm.calm entry (subst (Among entry) (sym found.split) (among_front entry found.later (at_step (step_of.Queue d (queue.Finish q)) found.failed ∷ found.inner) i))

    abbrev line : Entry
    line = at_step (step_of.Queue d (queue.Finish q)) found.failed

    pub whole : h ≡ found.later ++ (line ∷ g)
    whole = calm.split ∙ (ap (λ l. l ++ calm.start) found.split ∙ append_assoc found.later (line ∷ found.inner) calm.start)

    pub head_then : head_in_hand x (acts_of x g d) q ≡ Some chain.head
    head_then = ap (option_map (λ earlier. (hand x earlier q).head)) taken_then ∙ ap (λ n. Some n) a.head

    pushed_puts : (puts more : List Act) → list_all is_put puts ≡ true → pushed_heads x (puts ++ more) q ≡ pushed_heads x more q
    pushed_puts [] more e = refl
    pushed_puts (act ∷ puts) more e = let p = and_parts (is_put act) (list_all is_put puts) e in put_pushes act (puts ++ more) p.0 ∙ pushed_puts puts more p.1 where
      put_pushes : (act : Act) (more : List Act) → is_put act ≡ true → pushed_heads x (act ∷ more) q ≡ pushed_heads x more q
      put_pushes (Node (Daemon_put at bytes)) more e = refl
      put_pushes (Node act) more e = cc
      put_pushes _ more e = cc

    -- a later finish pushes another head
    clash : (new puts second mid : List Act) → list_all is_put puts ≡ true → acts ≡ new ++ (Queue (Finished q) ∷ (puts ++ second)) → second ≡ mid ++ Queue (Finished q) ∷ a.older → head_in_hand x second q ≡ Some chain.head → ⊥
    clash new puts second mid are acts_are second_is its_head =
        let first : List Act = Queue (Finished q) ∷ a.older in
        let third : List Act = Queue (Finished q) ∷ (puts ++ second) in
        let m0 : rings_made a.older q ≡ rings_made acts q = a.same_ring in
        let l1 : rings_made first q ≤ rings_made (mid ++ first) q = made_le mid first q in
        let m1 : rings_made second q ≡ rings_made (mid ++ first) q = ap (λ l. rings_made l q) second_is in
        let l2 : rings_made second q ≤ rings_made (puts ++ second) q = made_le puts second q in
        let l3 : rings_made third q ≤ rings_made (new ++ third) q = made_le new third q in
        let m3 : rings_made acts q ≡ rings_made (new ++ third) q = ap (λ l. rings_made l q) acts_are in
        let f1 : rings_made first q ≡ rings_made a.older q = refl in
        let f3 : rings_made third q ≡ rings_made (puts ++ second) q = refl in
        let low = pushed_grows x q mid first (let z : rings_made (mid ++ first) q ≡ rings_made first q = omega arith in z) in
        let top = pushed_grows x q new third (let z : rings_made (new ++ third) q ≡ rings_made third q = omega arith in z) in
        let first_pushed : pushed_heads x first q ≡ pushed_heads x a.older q ++ (hand x a.earlier q).head ∷ [] =
        ap (λ b. cond b (with_head (pushed_heads x a.older q) (head_in_hand x a.older q)) (pushed_heads x a.older q)) (same_number q) ∙ ap (λ o. with_head (pushed_heads x a.older q) (option_map (λ earlier. (hand x earlier q).head) o)) a.taken in
        let n1 : length (pushed_heads x first q) ≡ length (pushed_heads x a.older q) + 1 = ap length first_pushed ∙ length-append (pushed_heads x a.older q) ((hand x a.earlier q).head ∷ []) in
        let second_pushed : pushed_heads x second q ≡ pushed_heads x first q ++ low.0 = ap (λ l. pushed_heads x l q) second_is ∙ low.1 in
        let n2 : length (pushed_heads x second q) ≡ length (pushed_heads x first q) + length low.0 = ap length second_pushed ∙ length-append (pushed_heads x first q) low.0 in
        let kept_head : head_in_hand x (puts ++ second) q ≡ Some chain.head = ap (option_map (λ earlier. (hand x earlier q).head)) (puts_kept puts second q are) ∙ its_head in
        let third_pushed : pushed_heads x third q ≡ pushed_heads x second q ++ chain.head ∷ [] =
        ap (λ b. cond b (with_head (pushed_heads x (puts ++ second) q) (head_in_hand x (puts ++ second) q)) (pushed_heads x (puts ++ second) q)) (same_number q)
        ∙ (ap (with_head (pushed_heads x (puts ++ second) q)) kept_head ∙ ap (λ l. l ++ chain.head ∷ []) (pushed_puts puts second are)) in
        let all_pushed : pushed_heads x acts q ≡ (pushed_heads x second q ++ chain.head ∷ []) ++ top.0 = ap (λ l. pushed_heads x l q) acts_are ∙ (top.1 ∙ ap (λ l. l ++ top.0) third_pushed) in
        let k2 : ℕ = length (pushed_heads x second q) in
        let n3 : length (pushed_heads x second q ++ chain.head ∷ []) ≡ k2 + 1 = length-append (pushed_heads x second q) (chain.head ∷ []) in
        let n4 : length ((pushed_heads x second q ++ chain.head ∷ []) ++ top.0) ≡ length (pushed_heads x second q ++ chain.head ∷ []) + length top.0 = length-append (pushed_heads x second q ++ chain.head ∷ []) top.0 in
        let n5 : length (pushed_heads x acts q) ≡ length ((pushed_heads x second q ++ chain.head ∷ []) ++ top.0) = ap length all_pushed in
        let at : get_or (pushed_heads x acts q) k2 0 ≡ chain.head = ap (λ l. get_or l k2 0) all_pushed ∙ (get_front (pushed_heads x second q ++ chain.head ∷ []) top.0 k2 (omega arith) ∙ get_end (pushed_heads x second q) chain.head) in
        let placed_at : get_or (placed_heads acts q) k2 0 ≡ chain.head = ap (λ l. get_or l k2 0) has.holds.first ∙ (get_front (pushed_heads x acts q) has.holds.rest k2 (omega arith) ∙ at) in
        let n6 : length (placed_heads acts q) ≡ length (pushed_heads x acts q) + length has.holds.rest = ap length has.holds.first ∙ length-append (pushed_heads x acts q) has.holds.rest in
        let place : length (pushed_heads x a.older q) ≡ k = a.place in
        distinct_at (reclaimed_count acts q) k k2 (placed_heads acts q) (subst AreDistinct has.holds.outs (apart_after acts q ring (fair_after x h d) has.have there).distinct) from (omega arith) (omega arith) (sym is_head ∙ sym placed_at)

    pub no_later : (later more : History) (f : Bool) → found.later ≡ later ++ at_step (step_of.Queue d (queue.Finish q)) f ∷ more → Pushes x d q chain.head (more ++ line ∷ g) f → ⊥
    no_later later more f e p =
        let entry : Entry = at_step (step_of.Queue d (queue.Finish q)) f in
        let inner : List Entry = more ++ line ∷ found.inner in
        let second : History = more ++ line ∷ g in
        let inner_is : inner ++ calm.start ≡ second = append_assoc more (line ∷ found.inner) calm.start in
        let more_calm : (o : Entry) → Among o more → IsTrue (concerns d o.step) → IsTrue (is_calm o.step) = λ o i. later_calm o (subst (Among o) (sym e) (among_end o later (entry ∷ more) (inr i))) in
        let top_calm : (o : Entry) → Among o later → IsTrue (concerns d o.step) → IsTrue (is_calm o.step) = λ o i. later_calm o (subst (Among o) (sym e) (among_front o later (entry ∷ more) i)) in
        let top = span_acts x d q calm.start later (entry ∷ inner) top_calm in
        let low = span_acts x d q calm.start more (line ∷ found.inner) more_calm in
        let h_is : h ≡ (later ++ entry ∷ inner) ++ calm.start = whole ∙ (ap (λ l. l ++ line ∷ g) e ∙ (append_assoc later (entry ∷ more) (line ∷ g) ∙ (ap (λ l. later ++ (entry ∷ l)) (sym inner_is) ∙ sym (append_assoc later (entry ∷ inner) calm.start)))) in
        let acts_are : acts ≡ top.new ++ acts_of x (entry ∷ second) d = ap (λ g. acts_of x g d) h_is ∙ (top.same ∙ ap (λ l. top.new ++ acts_of x (entry ∷ l) d) inner_is) in
        let second_is : acts_of x second d ≡ low.new ++ Queue (Finished q) ∷ a.older = ap (λ g. acts_of x g d) (sym inner_is) ∙ low.same ∙ ap (λ l. low.new ++ l) (found.turn ∙ ap (λ l. Queue (Finished q) ∷ l) (sym found.back)) in
        by top.new low.new acts_are second_is (entry_makes x d q second (step_of.Queue d (queue.Finish q)) f (λ t. later_calm entry (subst (Among entry) (sym e) (among_end entry later (entry ∷ more) (inl refl))) t)) where
          by : (new mid : List Act) → acts ≡ new ++ acts_of x (at_step (step_of.Queue d (queue.Finish q)) f ∷ more ++ line ∷ g) d → acts_of x (more ++ line ∷ g) d ≡ mid ++ Queue (Finished q) ∷ a.older
              → Makes x d q (more ++ line ∷ g) (at_step (step_of.Queue d (queue.Finish q)) f) → ⊥
          by new mid acts_are second_is (other turn same are no_finish no_execute) = no_finish f p.0 refl p.1
          by new mid acts_are second_is (does f2 is made is_made old t same told) = absurd (no_mix d q f f2 is)
          by new mid acts_are second_is (finishes f2 is old t last i puts are same items done) =
              clash new puts (acts_of x (more ++ line ∷ g) d) mid are (acts_are ∙ ap (λ l. new ++ l) same) second_is p.2

    abbrev pub finish_last : IsLast h (step_of.Queue d (queue.Finish q)) (Pushes x d q chain.head)
    finish_last = record {
      since = found.later;
      failed = found.failed;
      earlier = g;
      split = whole;
      passes = (found.items, found.answered, head_then);
      none_since = no_later;
    }

-- ---- the whole

module _ (x : Setting) (small : IsAddressed x) (full : IsWhole x) (h : History) (d : List ℕ) (calm : IsCalm x h d) (q : ℕ) (form : SubmitForm) (head : ℕ) (submit : IsSubmitted x h d q form head) (low : (asked_by form).sector < 2 ^ 64)
    (inside : History) (e : submit.earlier ≡ inside ++ calm.start) (items : List Item) (failed : Bool)
    (answered : reply x h (step_of.Queue d (queue.Poll q)) failed ≡ Done (Word tag.Head ∷ Number head ∷ items)) where
  abbrev now : List Act
  now = acts_of x h d

  abbrev entry : Entry
  entry = at_step (step_of.Queue d (queue.Submit q form)) submit.failed

  abbrev base : History
  base = entry ∷ submit.earlier

  span_is : calm.span ≡ submit.since ++ entry ∷ inside
  span_is = append_cancel_right calm.span (submit.since ++ entry ∷ inside) calm.start
      (sym calm.split ∙ (submit.split ∙ (ap (λ l. submit.since ++ entry ∷ l) e ∙ sym (append_assoc submit.since (entry ∷ inside) calm.start))))

  p : Placed x (acts_of x base d) (acts_of x submit.earlier d) q head form
  p = submit_placed x d submit.earlier submit.failed q form head submit.items submit.answered

  t : Tracked x (submit.since ++ base) d q p.ring p.chain (acts_of x base d)
  t = tracked x d q base p.ring p.there p.chain p.is_out submit.since
      (λ o i. calm.calm o (subst (Among o) (sym span_is) (among_front o submit.since (entry ∷ inside) i)))
      (λ later more f told s r. submit.unreported later more f told s (subst (λ n. reply x (more ++ base) (step_of.Queue d (queue.Poll q)) f ≡ Done (Word tag.Head ∷ Number n ∷ told)) p.head_is r)) submit.since [] refl

  r : Reported x d h failed q (Word tag.Head ∷ Number head ∷ items)
  r = poll_reported x d h failed q _ answered

  legal : Legal x now
  legal = acts_of_device_legal x h d

  fair : Fair now
  fair = fair_after x h d

  c : Calms x (number x small full h d calm) now
  c = calm_at_end x small full h d calm

  its_out : Among r.chain (chains_out now q)
  its_out = back.chain_out x small full (number x small full h d calm) now legal fair c q r.ring r.there r.new_used r.chain r.is_found

  its_more : reclaimed_count now q < length (pushed_heads x now q)
  its_more = back.more x small full (number x small full h d calm) now legal fair c q r.ring r.there r.new_used r.chain r.is_found

  its_first : r.chain.head ≡ get_or (placed_heads now q) (reclaimed_count now q) 0
  its_first = back.first x small full (number x small full h d calm) now legal fair c q r.ring r.there r.new_used r.chain r.is_found

  a : Answered x now r.ring.place q (rings_made now q) (reclaimed_count now q) r.chain
  a = back.answer x small full (number x small full h d calm) now legal fair c q r.ring r.there r.new_used r.chain r.is_found

  abbrev its_len : ℕ
  its_len = element_len x now q r.ring.place

  its_came : Comes now r.chain a.given.ms a.given.asked a.given.done
  its_came = back.came x small full (number x small full h d calm) now legal fair c q r.ring r.there r.new_used r.chain r.is_found a

  abbrev request : Request
  request = record { buffer = buffers a.given.done; buffers = (if a.given.comes.indirect then 2 else 1); maps = map (λ m. m.number) a.given.ms; writable = writable_of (map mapping_part (take (parts_count a.given.asked) a.given.ms)) }

  its_request : r.chain.request ≡ Some request
  its_request = a.given.comes.is

  abbrev last : List Act
  last = Queue (Chain_reclaimed q r.chain.head) ∷ used_event_puts now r.ring.place (reclaimed_count now q + 1)

  abbrev item : Item
  item = if nat_lt its_len request.writable then Word tag.Dash else Number (ram x.per_page (unmap_acts (live_mappings now) request.maps ++ now) request.buffer 16)

  turn_is : r.turn ≡ record { answer = Done (Word tag.Head ∷ Number r.chain.head ∷ Word tag.Len ∷ Number its_len ∷ Word tag.Status ∷ item ∷ []); acts = request_end_acts (live_mappings now) request ++ last }
  turn_is = r.is ∙ completed_is x now last r.chain its_len request its_request

  said : Done (Word tag.Head ∷ Number r.chain.head ∷ Word tag.Len ∷ Number its_len ∷ Word tag.Status ∷ item ∷ []) ≡ Done (Word tag.Head ∷ Number head ∷ items)
  said = sym (ap (λ (t : Turn Act). t.answer) turn_is) ∙ r.answer

  head_is : r.chain.head ≡ head
  head_is = let s = said in cc

  items_are : items ≡ Word tag.Len ∷ Number its_len ∷ Word tag.Status ∷ item ∷ []
  items_are = let s = said in cc

  chain_is : r.chain ≡ p.chain
  chain_is = one_head (chains_out now q) r.chain p.chain (apart_after now q r.ring fair (c.rings q r.ring r.there).have r.there).distinct its_out
      (subst (λ g. Among p.chain (chains_out (acts_of x g d) q)) (sym submit.split) t.is_out) (head_is ∙ sym p.head_is)

  comes_then : Comes now r.chain p.ms (asked_by form) (acts_of x submit.earlier d)
  comes_then = subst (λ l. Comes l r.chain p.ms (asked_by form) (acts_of x submit.earlier d)) (sym (ap (λ g. acts_of x g d) submit.split ∙ t.same))
      (comes_still t.new (acts_of x base d) r.chain p.ms (asked_by form) (acts_of x submit.earlier d)
      (subst (λ c. Comes (acts_of x base d) c p.ms (asked_by form) (acts_of x submit.earlier d)) (sym chain_is) p.comes))

  same_asked : SameRequest a.given.ms p.ms a.given.asked (asked_by form) a.given.done (acts_of x submit.earlier d)
  same_asked = same_request now r.chain a.given.ms p.ms a.given.asked (asked_by form) a.given.done (acts_of x submit.earlier d) its_came comes_then

  abbrev block_is : block.Block
  block_is = request_of x (acts_of x submit.earlier d) form

  abbrev its_hand : Hand
  its_hand = hand x a.earlier q

  hand_writable : its_hand.writable ≡ block_is.writable
  hand_writable = a.given.writable ∙ ap answer_len same_asked.want

  hand_block : block.block_of its_hand.bytes its_hand.writable ≡ block_is
  hand_block =
      let headers : header_of a.given.asked ≡ header_of (asked_by form) = ap (take 16) same_asked.header in
      let payloads : given_bytes x a.given.done a.given.asked.want ≡ given_bytes x (acts_of x submit.earlier d) (asked_by form).want = ap (λ g. given_bytes x g a.given.asked.want) same_asked.older ∙ ap (given_bytes x (acts_of x submit.earlier d)) same_asked.want in
      ap (λ l. block.block_of l its_hand.writable) (a.given.bytes ∙ (ap (λ l. l ++ given_bytes x a.given.done a.given.asked.want) headers ∙ ap (λ l. header_of (asked_by form) ++ l) payloads))
      ∙ (ap (block.block_of (header_of (asked_by form) ++ given_bytes x (acts_of x submit.earlier d) (asked_by form).want)) hand_writable
      ∙ header_back (asked_by form).kind (asked_by form).sector block_is.writable block_is.payload (kind_low form) low)

  writable_low : its_hand.writable < 256 ^ 4
  writable_low = subst (λ n. n < 256 ^ 4) (sym hand_writable) (answer_low (asked_by form).want p.comes.ways p.short)

  used_is : its_len ≡ its_hand.writable
  used_is = back.told_len x small full (number x small full h d calm) now legal fair c q r.ring r.there r.new_used r.chain r.is_found a writable_low

  abbrev its_found : FoundFinish x d q calm.start calm.span a.older
  its_found = found x small full h d calm q r.ring r.there r.chain its_out (reclaimed_count now q) (omega arith) its_more its_first a

  its_run : FoundExecute x d q (its_found.inner ++ calm.start) a.earlier a.end
  its_run = run x small full h d calm q r.ring r.there r.chain its_out (reclaimed_count now q) (omega arith) its_more its_first a

  abbrev its_finish : IsLast h (step_of.Queue d (queue.Finish q)) (Pushes x d q r.chain.head)
  its_finish = finish_last x small full h d calm q r.ring r.there r.chain its_out (reclaimed_count now q) (omega arith) its_more its_first a

  abbrev result : block.RequestResult
  result = block.result_of (disk_of its_run.made d (device_view x d (deeds_of x its_run.execute.earlier))) block_is its_run.execute.failed

  result_is : done_as x its_run.made d its_run.execute.earlier its_run.execute.failed its_hand ≡ result
  result_is = ap (λ b. block.result_of (disk_of its_run.made d (device_view x d (deeds_of x its_run.execute.earlier))) b its_run.execute.failed) hand_block

  end_bytes : a.end.bytes ≡ result.bytes
  end_bytes = its_run.bytes ∙ ap (λ (r : block.RequestResult). r.bytes) result_is

  end_len : length a.end.bytes ≡ answer_len a.given.asked.want - 1
  end_len = ap length end_bytes ∙ (result_fits (disk_of its_run.made d (device_view x d (deeds_of x its_run.execute.earlier))) block_is its_run.execute.failed ∙ sym (ap (λ o. answer_len o - 1) same_asked.want))

  not_short : nat_lt its_len request.writable ≡ false
  not_short =
      let same : request.writable ≡ its_len = back.its_writable x small full (number x small full h d calm) now legal fair c q r.ring r.there r.new_used r.chain r.is_found a ∙ sym used_is in
      subst (λ n. nat_lt its_len n ≡ false) (sym same) (self its_len) where
        self : (n : ℕ) → nat_lt n n ≡ false
        self n = by (nat_lt n n) refl where
          by : (b : Bool) → nat_lt n n ≡ b → b ≡ false
          by false f = refl
          by true f = absurd (let l = ltb-true n n f in omega arith)

  told_is : item ≡ Number result.status
  told_is = ap (λ b. if b then Word tag.Dash else Number (ram x.per_page (unmap_acts (live_mappings now) request.maps ++ now) request.buffer 16)) not_short
      ∙ ap (λ n. Number n) (back.told_status x small full (number x small full h d calm) now legal fair c q r.ring r.there r.new_used r.chain r.is_found a end_len
      ∙ (its_run.status ∙ ap (λ (r : block.RequestResult). r.status) result_is))

  poll_acts : acts_of x (at_step (step_of.Queue d (queue.Poll q)) failed ∷ h) d ≡ (request_end_acts (live_mappings now) request ++ last) ++ now
  poll_acts = r.same ∙ ap (λ (t : Turn Act). t.acts ++ now) turn_is

  range_is : (w : Want) → (asked_by form).want ≡ Some w → w.dir ≡ From → ram_bytes x.per_page (acts_of x (at_step (step_of.Queue d (queue.Poll q)) failed ∷ h) d) w.buffer w.offset w.len ≡ result.bytes
  range_is w f from = ap (λ l. ram_bytes x.per_page l w.buffer w.offset w.len) poll_acts
      ∙ (back.told_range x small full (number x small full h d calm) now legal fair c q r.ring r.there r.new_used r.chain r.is_found a end_len (subst (Legal x) poll_acts (acts_of_device_legal x (at_step (step_of.Queue d (queue.Poll q)) failed ∷ h) d)) w (same_asked.want ∙ f) from
      ∙ end_bytes)

  abbrev ran : List Act
  ran = acts_of x its_run.execute.earlier d

  stored_then : result.stores ≡ true → (more : List Act) × (acts_of x (at_step (step_of.Queue d (queue.Execute q)) its_run.execute.failed ∷ its_run.execute.earlier) d ≡ Disk_act (Stored (512 * block_is.sector) block_is.payload) ∷ more)
  stored_then s =
      let disk = disk_of its_run.made d (device_view x d (deeds_of x its_run.execute.earlier)) in (
        Queue (Executed q result.status result.bytes) ∷ ran,
        its_run.turn ∙ (ap (λ b. (store_acts b (block.result_of disk b its_run.execute.failed) ++ Queue (Executed q (block.result_of disk b its_run.execute.failed).status (block.result_of disk b its_run.execute.failed).bytes) ∷ []) ++ ran) hand_block
            ∙ ap (λ l. l ++ ran) (stored_is block_is result (Queue (Executed q result.status result.bytes) ∷ []) s)),
      )

  completed_here : IsCompleted x h d q block_is (asked_by form).want r.chain.head items failed
  completed_here = record {
    finish = its_finish;
    execute = its_run.execute;
    made = its_run.made;
    is_made = its_run.is_made;
    result = result;
    is_result = refl;
    report = items_are ∙ (ap (λ n. Word tag.Len ∷ Number n ∷ Word tag.Status ∷ item ∷ []) (used_is ∙ hand_writable) ∙ ap (λ i. Word tag.Len ∷ Number block_is.writable ∷ Word tag.Status ∷ i ∷ []) told_is);
    bytes = range_is;
    store = stored_then;
  }

  pub completed_there : IsCompleted x h d q block_is (asked_by form).want head items failed
  completed_there = subst (λ head. IsCompleted x h d q block_is (asked_by form).want head items failed) head_is completed_here

pub block_law : (x : Setting) (h : History) → BlockLaw x h
block_law x h small full d calm q form head submit low inside e items failed answered = completed_there x small full h d calm q form head submit low inside e items failed answered
