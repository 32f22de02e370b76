-- A submit's chain, and the same chain when a poll reports it.
use Rattle.std.proofs.Common.{◌≡◌, ℕ, ◌+◌, ◌%◌, ◌==◌, ◌≤◌, Bool, true, false, refl, ap, subst, ◌∙◌, sym, cond, Option, None, Some, List, [], ◌∷◌, ◌++◌, map, take, find, append_assoc, nat_lt, if◌then◌else◌, inl, inr}
use Rattle.std.specs.Bool.{IsTrue}
use Rattle.std.specs.Option.{option_map_or}
use Rattle.vd_num.specs.declared.errno.Errno.{Errno}
use Rattle.vd_num.specs.declared.errno.Errno.TheVariants.{Inval, Nodev, Noent, Nospc}
use Rattle.vd_model.specs.declared.step.Step.TheVariants as step_of
use Rattle.vd_model.specs.declared.step.QueueStep.{QueueStep}
use Rattle.vd_model.specs.declared.step.QueueStep.TheVariants as queue
use Rattle.vd_model.specs.declared.step.SubmitForm.{SubmitForm}
use Rattle.vd_model.specs.declared.answer.Item.{Item}
use Rattle.vd_model.specs.declared.answer.Item.TheVariants.{Word, Number}
use Rattle.vd_model.specs.declared.answer.Tag.TheVariants as tag
use Rattle.vd_model.specs.declared.answer.Answer.TheVariants.{Done}
use Rattle.vd_model.specs.declared.memory.Want.{Want}
use Rattle.vd_model.specs.Setting.{Setting}
use Rattle.vd_model.specs.Creation.{Creation}
use Rattle.vd_model.specs.Acts.{Act, AddedChain, Request, Streaming, Queue, Driver, Driver_put, Chain_added, Chain_reclaimed, Chains_published}
use Rattle.vd_model.specs.Live.{buffers, buffers_len, maps}
use Rattle.vd_model.specs.Rings.{available_index_at, used_index_at}
use Rattle.vd_model.specs.Raw.{little_bytes}
use Rattle.vd_model.specs.Place.{taken_slots}
use Rattle.vd_model.specs.Turn.{Turn, refuse, refusal_turn, refusal_if}
use Rattle.vd_model.specs.BusTurns.{is_missing}
use Rattle.vd_model.specs.DriverTurns.{buffer_limit}
use Rattle.vd_model.specs.Queues.{Ring, ring_of, chains_out, reclaimed_count, published_chains_out, added_count, free_descriptors}
use Rattle.vd_model.specs.DaemonTurns.{has_indirect}
use Rattle.vd_model.specs.RingTurns.{number_at, used_event_puts, completed_turn, poll_turn, asked_by, first_of, slot_put, want_refusal, made_len, part_wants, table_wants, placed_mappings, request_puts, request_acts, parts_count, mapping_part, map_acts, buffer_acts, writable_of, submitted_turn, needed_descriptors, is_full, submit_turn}
use Rattle.vd_model.specs.Deeds.{device_view, acts_of_device}
use Rattle.vd_model.specs.History.{Entry, History, deeds_of, reply, queue_turn, device_queue_turn}
use Rattle.vd_model.specs.Agree.{concerns}
use Rattle.vd_laws.specs.Among.{Among}
use Rattle.vd_laws.specs.Runs.{acts_of}
use Rattle.vd_ring_laws.specs.Calm.{is_calm}
use Rattle.vd_laws.proofs.Lists.{push_right}
use Rattle.vd_laws.proofs.Turns.{acts_of_device_on}
use Rattle.vd_ring_laws.proofs.Drivers.{are_driver, append_driver, maps_driver, buffers_driver, request_puts_driver}
use Rattle.vd_ring_laws.proofs.Mild.{drivers_are_mild}
use Rattle.vd_ring_bytes.proofs.Numbers.{same_number}
use Rattle.vd_ring_bytes.proofs.RequestSource.{Comes, one_way}
use Rattle.vd_ring_bytes.proofs.Wants.{wants_are, wanted, asked_short}
use Rattle.vd_order_laws.proofs.FreeRings.{mild_free, free_ring}
use Rattle.vd_ring_turns.proofs.PollTurns.{element_id, element_len}
use Rattle.vd_disk_laws.proofs.PollReports.{Polls_as, silent, reports, poll_does}
use Rattle.vd_disk_laws.proofs.EntryDeeds.{at_step, name_self}
use Rattle.vd_disk_laws.proofs.StayingOut.{entry_stays}

-- the acts of a line on a queue of the device
pub line_acts : (x : Setting) (d : List ℕ) (g : History) (step : QueueStep) (failed : Bool) → acts_of x (at_step (step_of.Queue d step) failed ∷ g) d ≡ (device_queue_turn x d (device_view x d (deeds_of x g)) failed step).acts ++ acts_of x g d
unfolding deeds_of
line_acts x d g step failed =
    let turn = (device_queue_turn x d (device_view x d (deeds_of x g)) failed step).acts in
    acts_of_device_on d d turn (deeds_of x g) ∙ ap (λ b. (if b then turn else []) ++ acts_of_device d (deeds_of x g)) (name_self d)

-- ---- a submit

-- a submit that is answered placed a request
pub record Places (x : Setting) (made : Creation) (done : List Act) (q : ℕ) (form : SubmitForm) (turn : Turn Act) : Type 0 where
  pub ring : Ring
  pub there : ring_of done q ≡ Some ring
  pub granted : want_refusal made done (asked_by form).kind (asked_by form).want ≡ None
  pub ms : List Streaming
  pub are : placed_mappings x (taken_slots done) (maps done) (part_wants (buffers done) (asked_by form) ++ table_wants (has_indirect done) (buffers done) (asked_by form)) ≡ Some ms
  pub is : turn ≡ submitted_turn x done q ring (has_indirect done) (asked_by form) ms (take (needed_descriptors (has_indirect done) (asked_by form)) (free_descriptors ring.place.size (chains_out done q)))

abbrev Answers : (x : Setting) (made : Creation) (done : List Act) (q : ℕ) (form : SubmitForm) → Turn Act → Type 0
Answers x made done q form turn = (items : List Item) → turn.answer ≡ Done items → Places x made done q form turn

module _ (x : Setting) (made : Creation) (done : List Act) (q : ℕ) (form : SubmitForm) where
  answer_refuse : (o : Option Errno) (turn : Turn Act) → (o ≡ None → Answers x made done q form turn) → Answers x made done q form (refuse o turn)
  answer_refuse None turn h = h refl
  answer_refuse (Some errno) turn h = λ items e. cc

  answer_option : {X : Type 0} (turn : X → Turn Act) (o : Option X) (errno : Errno) → ((y : X) → o ≡ Some y → Answers x made done q form (turn y)) → Answers x made done q form (option_map_or turn o (refusal_turn errno))
  answer_option turn None errno h = λ items e. cc
  answer_option turn (Some y) errno h = h y refl

  pub submit_does : Answers x made done q form (submit_turn x made done q form)
  submit_does =
      let indirect = has_indirect done in
      let a = asked_by form in
      answer_refuse (refusal_if (is_missing made q) Inval) _ (λ e.
      answer_option _ (ring_of done q) Noent (λ ring f.
      answer_refuse (want_refusal made done a.kind a.want) _ (λ g.
      answer_refuse (refusal_if (nat_lt buffer_limit (buffers_len done + made_len indirect a)) Nospc) _ (λ h.
      answer_refuse (refusal_if (is_full ring.place.size (chains_out done q) (needed_descriptors indirect a)) Nospc) _ (λ i.
      answer_option _ (placed_mappings x (taken_slots done) (maps done) (part_wants (buffers done) a ++ table_wants indirect (buffers done) a)) Nospc (λ ms j items k.
      record { ring = ring; there = f; granted = g; ms = ms; are = j; is = refl }))))))

-- what it placed
pub record Placed (x : Setting) (acts done : List Act) (q head : ℕ) (form : SubmitForm) : Type 0 where
  pub ring : Ring
  pub there : ring_of acts q ≡ Some ring
  pub chain : AddedChain
  pub is_out : Among chain (chains_out acts q)
  pub head_is : chain.head ≡ head
  pub ms : List Streaming
  pub comes : Comes acts chain ms (asked_by form) done
  pub short : (w : Want) → (asked_by form).want ≡ Some w → w.len ≤ 1048576

module _ (x : Setting) (made : Creation) (d : List ℕ) (g : History) (failed : Bool) (q : ℕ) (form : SubmitForm) (head : ℕ) (items : List Item) where
  abbrev done : List Act
  done = acts_of x g d

  pub placed_by : (turn : Turn Act) → Places x made done q form turn → turn.answer ≡ Done (Word tag.Head ∷ Number head ∷ items) → Placed x (turn.acts ++ done) done q head form
  placed_by turn p e =
      let a = asked_by form in
      let indirect = has_indirect done in
      let ds = take (needed_descriptors indirect a) (free_descriptors p.ring.place.size (chains_out done q)) in
      let parts = map mapping_part (take (parts_count a) p.ms) in
      let puts = request_puts indirect p.ring.place a p.ms parts ds in
      let request : Request = record { buffer = buffers done; buffers = (if indirect then 2 else 1); maps = map (λ m. m.number) p.ms; writable = writable_of parts } in
      let chain : AddedChain = record { head = first_of ds; descriptors = ds; request = Some request } in
      let turn_is = p.is in
      let rest = puts ++ map_acts p.ms ++ buffer_acts indirect a parts in
      let acts = request_acts done q p.ring indirect a p.ms parts ds in
      let first = Queue (Chains_published q) in
      let index = Driver (Driver_put (available_index_at p.ring.place) (little_bytes 2 (added_count (acts ++ done) q))) in
      let slot = slot_put p.ring.place (added_count done q) (first_of ds) in
      let rest_driver : are_driver rest ≡ true = append_driver (puts ++ map_acts p.ms) (buffer_acts indirect a parts)
      (append_driver puts (map_acts p.ms) (request_puts_driver indirect p.ring.place a p.ms parts ds) (maps_driver p.ms)) (buffers_driver indirect a parts) in
      let said : Done (Word tag.Head ∷ Number (first_of ds) ∷ _) ≡ Done (Word tag.Head ∷ Number head ∷ items) = sym (ap (λ (t : Turn Act). t.answer) turn_is) ∙ e in
      record {
        ring = p.ring;
        there = ap (λ (t : Turn Act). ring_of (t.acts ++ done) q) turn_is ∙ (free_ring q rest done (mild_free q rest (drivers_are_mild rest rest_driver)) ∙ p.there);
        chain = chain;
        is_out = subst (λ (t : Turn Act). Among chain (chains_out (t.acts ++ done) q)) (sym turn_is)
            (subst (λ b. Among chain (cond b (chains_out (slot ∷ rest ++ done) q ++ chain ∷ []) (chains_out (slot ∷ rest ++ done) q))) (sym (same_number q)) (push_right chain (chains_out (slot ∷ rest ++ done) q)));
        head_is = cc;
        ms = p.ms;
        short = asked_short made done form p.granted;
        comes = record {
          indirect = indirect;
          since = first ∷ index ∷ Queue (Chain_added q chain) ∷ slot ∷ puts;
          split = ap (λ (t : Turn Act). t.acts ++ done) turn_is
              ∙ ap (λ l. first ∷ index ∷ Queue (Chain_added q chain) ∷ slot ∷ l) (append_assoc (puts ++ map_acts p.ms) (buffer_acts indirect a parts) done ∙ append_assoc puts (map_acts p.ms) (buffer_acts indirect a parts ++ done));
          is = refl;
          wants = wants_are x (taken_slots done) (maps done) (part_wants (buffers done) a ++ table_wants indirect (buffers done) a) p.ms p.are;
          ways = one_way form;
          low = wanted made done a.kind a.want p.granted;
        };
      }

-- ---- until it is reported

pub record Tracked (x : Setting) (g : History) (d : List ℕ) (q : ℕ) (ring : Ring) (c : AddedChain) (base : List Act) : Type 0 where
  pub there : ring_of (acts_of x g d) q ≡ Some ring
  pub is_out : Among c (chains_out (acts_of x g d) q)
  pub new : List Act
  pub same : acts_of x g d ≡ new ++ base

module _ (x : Setting) (d : List ℕ) (q : ℕ) (base : History) (ring : Ring) (there : ring_of (acts_of x base d) q ≡ Some ring) (c : AddedChain) (is_out : Among c (chains_out (acts_of x base d) q)) (since : History)
    (calm : (entry : Entry) → Among entry since → IsTrue (concerns d entry.step) → IsTrue (is_calm entry.step))
    (unreported : (later more : History) (f : Bool) (told : List Item) → since ≡ later ++ at_step (step_of.Queue d (queue.Poll q)) f ∷ more → reply x (more ++ base) (step_of.Queue d (queue.Poll q)) f ≡ Done (Word tag.Head ∷ Number c.head ∷ told) → ⊥) where
  among_behind : (entry : Entry) (xs ys : List Entry) → Among entry ys → Among entry (xs ++ ys)
  among_behind entry [] ys h = h
  among_behind entry (y ∷ xs) ys h = inr (among_behind entry xs ys h)

  pub tracked : (later before : List Entry) → since ≡ before ++ later → Tracked x (later ++ base) d q ring c (acts_of x base d)
  tracked [] before e = record { there = there; is_out = is_out; new = []; same = refl }
  tracked (entry ∷ later) before e =
      let t = tracked later (before ++ entry ∷ []) (e ∙ sym (append_assoc before (entry ∷ []) later)) in
      let s = entry_stays x d q (later ++ base) ring t.there c t.is_out entry.step entry.failed (λ k. calm entry (subst (Among entry) (sym e) (among_behind entry before (entry ∷ later) (inl refl))) k)
      (λ is told r. unreported before later entry.failed told (e ∙ ap (λ s. before ++ at_step s entry.failed ∷ later) is) r) in
      record { there = s.ring_stays; is_out = s.out_stays; new = s.turn ++ t.new; same = s.same ∙ (ap (λ l. s.turn ++ l) t.same ∙ sym (append_assoc s.turn t.new (acts_of x base d))) }

-- a submit that is answered with a head placed its request there
pub submit_placed : (x : Setting) (d : List ℕ) (g : History) (failed : Bool) (q : ℕ) (form : SubmitForm) (head : ℕ) (items : List Item) → reply x g (step_of.Queue d (queue.Submit q form)) failed ≡ Done (Word tag.Head ∷ Number head ∷ items)
    → Placed x (acts_of x (at_step (step_of.Queue d (queue.Submit q form)) failed ∷ g) d) (acts_of x g d) q head form
submit_placed x d g failed q form head items e = by (device_view x d (deeds_of x g)).made e (line_acts x d g (queue.Submit q form) failed) where
  on_bus : (made : Creation) (o : Option Errno) → (refuse o (submit_turn x made (acts_of x g d) q form)).answer ≡ Done (Word tag.Head ∷ Number head ∷ items)
      → acts_of x (at_step (step_of.Queue d (queue.Submit q form)) failed ∷ g) d ≡ (refuse o (submit_turn x made (acts_of x g d) q form)).acts ++ acts_of x g d → Placed x (acts_of x (at_step (step_of.Queue d (queue.Submit q form)) failed ∷ g) d) (acts_of x g d) q head form
  on_bus made None f same = subst (λ l. Placed x l (acts_of x g d) q head form) (sym same)
      (placed_by x made d g failed q form head items (submit_turn x made (acts_of x g d) q form) (submit_does x made (acts_of x g d) q form (Word tag.Head ∷ Number head ∷ items) f) f)
  on_bus made (Some errno) f same = cc

  by : (o : Option Creation) → (option_map_or (λ made. queue_turn x made d (device_view x d (deeds_of x g)) failed (queue.Submit q form)) o (refusal_turn Nodev)).answer ≡ Done (Word tag.Head ∷ Number head ∷ items)
      → acts_of x (at_step (step_of.Queue d (queue.Submit q form)) failed ∷ g) d ≡ (option_map_or (λ made. queue_turn x made d (device_view x d (deeds_of x g)) failed (queue.Submit q form)) o (refusal_turn Nodev)).acts ++ acts_of x g d
      → Placed x (acts_of x (at_step (step_of.Queue d (queue.Submit q form)) failed ∷ g) d) (acts_of x g d) q head form
  by None f same = cc
  by (Some made) f same = on_bus made _ f same

-- ---- a poll that reports

pub record Reported (x : Setting) (d : List ℕ) (h : History) (failed : Bool) (q : ℕ) (items : List Item) : Type 0 where
  pub ring : Ring
  pub there : ring_of (acts_of x h d) q ≡ Some ring
  pub new_used : (number_at x (acts_of x h d) (used_index_at ring.place) == reclaimed_count (acts_of x h d) q % 65536) ≡ false
  pub chain : AddedChain
  pub is_found : find (λ c. c.head == element_id x (acts_of x h d) q ring.place) (published_chains_out (acts_of x h d) q) ≡ Some chain
  pub turn : Turn Act
  pub is : turn ≡ completed_turn x (acts_of x h d) (Queue (Chain_reclaimed q chain.head) ∷ used_event_puts (acts_of x h d) ring.place (reclaimed_count (acts_of x h d) q + 1)) chain (element_len x (acts_of x h d) q ring.place)
  pub answer : turn.answer ≡ Done items
  pub same : acts_of x (at_step (step_of.Queue d (queue.Poll q)) failed ∷ h) d ≡ turn.acts ++ acts_of x h d

pub poll_reported : (x : Setting) (d : List ℕ) (h : History) (failed : Bool) (q : ℕ) (items : List Item) → reply x h (step_of.Queue d (queue.Poll q)) failed ≡ Done items → Reported x d h failed q items
poll_reported x d h failed q items e = by (device_view x d (deeds_of x h)).made e (line_acts x d h (queue.Poll q) failed) where
  polled_by : (turn : Turn Act) → Polls_as x (acts_of x h d) q turn → turn.answer ≡ Done items → acts_of x (at_step (step_of.Queue d (queue.Poll q)) failed ∷ h) d ≡ turn.acts ++ acts_of x h d → Reported x d h failed q items
  polled_by turn (silent none quiet) f same = absurd (quiet items f)
  polled_by turn (reports ring there new chain is_found is) f same = record { ring = ring; there = there; new_used = new; chain = chain; is_found = is_found; turn = turn; is = is; answer = f; same = same }

  on_bus : (made : Creation) (o : Option Errno) → (refuse o (poll_turn x made (acts_of x h d) q)).answer ≡ Done items
      → acts_of x (at_step (step_of.Queue d (queue.Poll q)) failed ∷ h) d ≡ (refuse o (poll_turn x made (acts_of x h d) q)).acts ++ acts_of x h d → Reported x d h failed q items
  on_bus made None f same = polled_by (poll_turn x made (acts_of x h d) q) (poll_does x made (acts_of x h d) q) f same
  on_bus made (Some errno) f same = cc

  by : (o : Option Creation) → (option_map_or (λ made. queue_turn x made d (device_view x d (deeds_of x h)) failed (queue.Poll q)) o (refusal_turn Nodev)).answer ≡ Done items
      → acts_of x (at_step (step_of.Queue d (queue.Poll q)) failed ∷ h) d ≡ (option_map_or (λ made. queue_turn x made d (device_view x d (deeds_of x h)) failed (queue.Poll q)) o (refusal_turn Nodev)).acts ++ acts_of x h d → Reported x d h failed q items
  by None f same = cc
  by (Some made) f same = on_bus made _ f same
