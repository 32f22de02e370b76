-- The execute and the finish of a request, in a calm span.
use Rattle.std.proofs.Common.{◌≡◌, ℕ, ◌+◌, ◌*◌, ◌==◌, ◌<◌, ◌≤◌, Bool, true, false, refl, ap, subst, ◌∙◌, sym, arith, cond, Option, None, Some, List, [], ◌∷◌, ◌++◌, append_assoc, true≢false, if◌then◌else◌, inl, inr}
use Rattle.std.specs.Bool.{IsTrue}
use Rattle.std.specs.List.{list_all}
use Rattle.std.proofs.lemmas.List.{append-nil}
use Rattle.vd_model.specs.declared.answer.Item.{Item}
use Rattle.vd_model.specs.declared.answer.Item.TheVariants.{Word, Number}
use Rattle.vd_model.specs.declared.answer.Tag.TheVariants as tag
use Rattle.vd_model.specs.declared.answer.Answer.TheVariants.{Done}
use Rattle.vd_model.specs.declared.step.Step.{Step}
use Rattle.vd_model.specs.declared.step.Step.TheVariants as step_of
use Rattle.vd_model.specs.declared.step.QueueStep.TheVariants as queue
use Rattle.vd_model.specs.Setting.{Setting}
use Rattle.vd_model.specs.Creation.{Creation}
use Rattle.vd_model.specs.Acts.{Act, Queue, Fetched, Finished, Executed, Ring_made, Disk_act, Stored}
use Rattle.vd_model.specs.Queues.{in_hand, execution_of, ends_position, Execution}
use Rattle.vd_model.specs.Block as block
use Rattle.vd_model.specs.DaemonTurns.{Hand, hand, store_acts, execute_hand}
use Rattle.vd_model.specs.Deeds.{device_view}
use Rattle.vd_model.specs.History.{Entry, History, deeds_of, reply, disk_of}
use Rattle.vd_model.specs.Agree.{concerns}
use Rattle.vd_laws.specs.Among.{Among}
use Rattle.vd_laws.specs.Runs.{acts_of}
use Rattle.vd_ring_laws.specs.Calm.{is_calm}
use Rattle.vd_ring_laws.specs.Heads.{pushed_heads, with_head, head_in_hand}
use Rattle.vd_disk_laws.specs.BlockLaw.{IsLast, Executes}
use Rattle.vd_ring_laws.proofs.Fair.{is_put}
use Rattle.vd_ring_bytes.proofs.Numbers.{same_number}
use Rattle.vd_ring_bytes.proofs.SameRing.{rings_made}
use Rattle.vd_disk_laws.proofs.LineDeeds.{IsOther, AreOther, puts_other}
use Rattle.vd_disk_laws.proofs.EntryDeeds.{at_step, Makes, other, finishes, does, entry_makes}

-- ---- acts that neither finish nor execute

keeps : (b : Bool) (o : Option Execution) (end : Execution) (p : Option (List Act)) → cond b None o ≡ Some end → (o ≡ Some end) × (cond b None p ≡ p)
keeps true o end p e = cc
keeps false o end p e = (e, refl)

module _ (q : ℕ) (end : Execution) where
  one_before : (act : Act) (acts : List Act) → IsOther q act → execution_of (act ∷ acts) q ≡ Some end → (execution_of acts q ≡ Some end) × (in_hand (act ∷ acts) q ≡ in_hand acts q)
  one_before (Queue (Executed k status bytes)) acts h e = (sym (ap (λ b. cond b (Some (record { status = status; bytes = bytes })) (execution_of acts q)) h) ∙ e, refl)
  one_before (Queue (Finished k)) acts h e = (e, ap (λ b. cond b None (in_hand acts q)) h)
  one_before (Queue (Fetched k)) acts h e = by (k == q) e where
    by : (b : Bool) → cond b None (execution_of acts q) ≡ Some end → (execution_of acts q ≡ Some end) × (cond b (Some acts) (in_hand acts q) ≡ in_hand acts q)
    by true f = cc
    by false f = (f, refl)
  one_before act acts h e = keeps (ends_position q act) (execution_of acts q) end (in_hand acts q) e

  all_before : (turn acts : List Act) → AreOther q turn → execution_of (turn ++ acts) q ≡ Some end → (execution_of acts q ≡ Some end) × (in_hand (turn ++ acts) q ≡ in_hand acts q)
  all_before [] acts h e = (e, refl)
  all_before (act ∷ turn) acts h e =
      let act_before = one_before act (turn ++ acts) h.0 e in
      let rest = all_before turn acts h.1 act_before.0 in
      (rest.0, act_before.1 ∙ rest.1)

-- ---- the execute

-- what the disk answered to the request in hand
abbrev pub done_as : Setting → Creation → List ℕ → History → Bool → Hand → block.RequestResult
done_as x made d g failed h = block.result_of (disk_of made d (device_view x d (deeds_of x g))) (block.block_of h.bytes h.writable) failed

pub record FoundExecute (x : Setting) (d : List ℕ) (q : ℕ) (g : History) (earlier : List Act) (end : Execution) : Type 0 where
  pub execute : IsLast g (step_of.Queue d (queue.Execute q)) (Executes x d q)
  pub made : Creation
  pub is_made : (device_view x d (deeds_of x execute.earlier)).made ≡ Some made
  pub status : end.status ≡ (done_as x made d execute.earlier execute.failed (hand x earlier q)).status
  pub bytes : end.bytes ≡ (done_as x made d execute.earlier execute.failed (hand x earlier q)).bytes
  -- what the execute made
  pub turn : acts_of x (at_step (step_of.Queue d (queue.Execute q)) execute.failed ∷ execute.earlier) d
      ≡ (execute_hand (disk_of made d (device_view x d (deeds_of x execute.earlier))) execute.failed q (hand x earlier q)).acts ++ acts_of x execute.earlier d

executed_now : (b : block.Block) (result : block.RequestResult) (q : ℕ) (acts : List Act) → execution_of ((store_acts b result ++ Queue (Executed q result.status result.bytes) ∷ []) ++ acts) q ≡ Some (record { status = result.status; bytes = result.bytes })
executed_now b result q acts = by result.stores where
  its : cond (q == q) (Some (record { status = result.status; bytes = result.bytes })) (execution_of acts q) ≡ Some (record { status = result.status; bytes = result.bytes })
  its = ap (λ b. cond b (Some (record { status = result.status; bytes = result.bytes })) (execution_of acts q)) (same_number q)

  by : (c : Bool) → execution_of (((if c then Disk_act (Stored (512 * b.sector) b.payload) ∷ [] else []) ++ Queue (Executed q result.status result.bytes) ∷ []) ++ acts) q ≡ Some (record { status = result.status; bytes = result.bytes })
  by true = its
  by false = its

hand_kept : (b : block.Block) (result : block.RequestResult) (q : ℕ) (acts : List Act) → in_hand ((store_acts b result ++ Queue (Executed q result.status result.bytes) ∷ []) ++ acts) q ≡ in_hand acts q
hand_kept b result q acts = by result.stores where
  by : (c : Bool) → in_hand (((if c then Disk_act (Stored (512 * b.sector) b.payload) ∷ [] else []) ++ Queue (Executed q result.status result.bytes) ∷ []) ++ acts) q ≡ in_hand acts q
  by true = refl
  by false = refl

module _ (x : Setting) (d : List ℕ) (q : ℕ) (start : History) (idle : in_hand (acts_of x start d) q ≡ None) (earlier : List Act) (end : Execution) where
  abbrev line : Step
  line = step_of.Queue d (queue.Execute q)

  further : (entry : Entry) (g : History) → ((f : Bool) (items : List Item) → entry ≡ at_step line f → reply x g line f ≡ Done items → ⊥)
      → (turn : List Act) → FoundExecute x d q g earlier end → FoundExecute x d q (entry ∷ g) earlier end
  further entry g no_such turn r = record {
    execute = record {
      since = entry ∷ r.execute.since;
      failed = r.execute.failed;
      earlier = r.execute.earlier;
      split = ap (λ l. entry ∷ l) r.execute.split;
      passes = r.execute.passes;
      none_since = λ later more f e p. by later more f e p;
    };
    made = r.made;
    is_made = r.is_made;
    status = r.status;
    bytes = r.bytes;
    turn = r.turn;
  } where
    by : (later more : History) (f : Bool) → entry ∷ r.execute.since ≡ later ++ at_step line f ∷ more → Executes x d q (more ++ at_step line r.execute.failed ∷ r.execute.earlier) f → ⊥
    by [] more f e p =
        let is : entry ≡ at_step line f = cc in
        let rest : r.execute.since ≡ more = cc in
        let whole : g ≡ more ++ at_step line r.execute.failed ∷ r.execute.earlier = r.execute.split ∙ ap (λ l. l ++ at_step line r.execute.failed ∷ r.execute.earlier) rest in
        no_such f (Word tag.Status ∷ Number p.0 ∷ []) is (subst (λ g. reply x g line f ≡ Done (Word tag.Status ∷ Number p.0 ∷ [])) (sym whole) p.1)
    by (l ∷ later) more f e p = r.execute.none_since later more f (let rest : r.execute.since ≡ later ++ at_step line f ∷ more = cc in rest) p

  pub find_execute : (span : List Entry) → ((entry : Entry) → Among entry span → IsTrue (concerns d entry.step) → IsTrue (is_calm entry.step))
      → in_hand (acts_of x (span ++ start) d) q ≡ Some earlier → execution_of (acts_of x (span ++ start) d) q ≡ Some end → FoundExecute x d q (span ++ start) earlier end
  find_execute [] calm taken ended = absurd (let both : None ≡ Some earlier = sym idle ∙ taken in cc)
  find_execute (entry ∷ span) calm taken ended = by (entry_makes x d q (span ++ start) entry.step entry.failed (calm entry (inl refl))) (find_execute span (λ other i. calm other (inr i))) where
    g : History
    g = span ++ start

    by : Makes x d q (span ++ start) entry → (in_hand (acts_of x (span ++ start) d) q ≡ Some earlier → execution_of (acts_of x (span ++ start) d) q ≡ Some end → FoundExecute x d q (span ++ start) earlier end)
        → FoundExecute x d q (entry ∷ span ++ start) earlier end
    by (other turn same are no_finish no_execute) rest =
        let b = all_before q end turn (acts_of x (span ++ start) d) are (subst (λ l. execution_of l q ≡ Some end) same ended) in
        further entry (span ++ start) no_execute turn (rest (sym b.1 ∙ subst (λ l. in_hand l q ≡ Some earlier) same taken) b.0)
    by (finishes f is old h last i puts are same items done) rest =
        absurd (let gone : None ≡ Some earlier = sym (ap (λ b. cond b None (in_hand (puts ++ acts_of x (span ++ start) d) q)) (same_number q)) ∙ subst (λ l. in_hand l q ≡ Some earlier) same taken in cc)
    by (does f is made is_made old h same told) rest =
        let b = block.block_of (hand x old q).bytes (hand x old q).writable in
        let result = done_as x made d (span ++ start) f (hand x old q) in
        let hand_is : Some old ≡ Some earlier = sym h ∙ (sym (hand_kept b result q (acts_of x (span ++ start) d)) ∙ subst (λ l. in_hand l q ≡ Some earlier) same taken) in
        let old_is : old ≡ earlier = cc in
        let end_is : Some (record { status = result.status; bytes = result.bytes }) ≡ Some end = sym (executed_now b result q (acts_of x (span ++ start) d)) ∙ subst (λ l. execution_of l q ≡ Some end) same ended in
        let its : record { status = result.status; bytes = result.bytes } ≡ end = cc in
        subst (λ earlier. FoundExecute x d q (entry ∷ span ++ start) earlier end) old_is (record {
          execute = record {
            since = [];
            failed = f;
            earlier = span ++ start;
            split = ap (λ e. e ∷ span ++ start) is;
            passes = (result.status, told);
            none_since = λ later more f e p. none later more f e;
          };
          made = made;
          is_made = is_made;
          status = sym (ap (λ (e : Execution). e.status) its);
          bytes = sym (ap (λ (e : Execution). e.bytes) its);
          turn = subst (λ (e : Entry). acts_of x (e ∷ span ++ start) d ≡ (execute_hand (disk_of made d (device_view x d (deeds_of x (span ++ start)))) f q (hand x old q)).acts ++ acts_of x (span ++ start) d) is same;
        }) where
          none : (later more : History) (f : Bool) → [] ≡ later ++ at_step line f ∷ more → ⊥
          none [] more f e = cc
          none (l ∷ later) more f e = cc

-- ---- the finish

abbrev pub IsUnfinished : ℕ → Act → Type 0
IsUnfinished q (Queue (Finished k)) = (k == q) ≡ false
IsUnfinished q _ = Unit {0}

abbrev pub AreUnfinished : ℕ → List Act → Type 0
AreUnfinished q [] = Unit {0}
AreUnfinished q (act ∷ acts) = IsUnfinished q act × AreUnfinished q acts

one_unfinished : (q : ℕ) (act : Act) → IsOther q act → IsUnfinished q act
one_unfinished q (Queue (Finished k)) h = h
one_unfinished q _ h = tt

others_unfinished : (q : ℕ) (acts : List Act) → AreOther q acts → AreUnfinished q acts
others_unfinished q [] h = tt
others_unfinished q (act ∷ acts) h = (one_unfinished q act h.0, others_unfinished q acts h.1)

-- a finish behind acts that don't finish
behind : (q : ℕ) (turn acts since older : List Act) → AreUnfinished q turn → turn ++ acts ≡ since ++ Queue (Finished q) ∷ older → (rest : List Act) × (since ≡ turn ++ rest) × (acts ≡ rest ++ Queue (Finished q) ∷ older)
behind q [] acts since older h e = (since, refl, e)
behind q (act ∷ turn) acts [] older h e =
    let is : act ≡ Queue (Finished q) = cc in
    absurd (let no_end : (q == q) ≡ false = subst (IsUnfinished q) is h.0 in true≢false (sym (same_number q) ∙ no_end))
behind q (act ∷ turn) acts (s ∷ since) older h e =
    let is : act ≡ s = cc in
    let tail : turn ++ acts ≡ since ++ Queue (Finished q) ∷ older = cc in
    let r = behind q turn acts since older h.1 tail in
    (r.0, ap (λ a. a ∷ since) (sym is) ∙ ap (λ l. act ∷ l) r.1, r.2)

pub made_le : (new acts : List Act) (q : ℕ) → rings_made acts q ≤ rings_made (new ++ acts) q
made_le [] acts q = omega arith
made_le (Queue (Ring_made k place region) ∷ new) acts q = by (k == q) (made_le new acts q) where
  by : (b : Bool) → rings_made acts q ≤ rings_made (new ++ acts) q → rings_made acts q ≤ cond b (rings_made (new ++ acts) q + 1) (rings_made (new ++ acts) q)
  by true h = omega arith
  by false h = h
made_le (_ ∷ new) acts q = made_le new acts q

-- while no ring is made, heads are only pushed
pub pushed_grows : (x : Setting) (q : ℕ) (new acts : List Act) → rings_made (new ++ acts) q ≡ rings_made acts q → (rest : List ℕ) × (pushed_heads x (new ++ acts) q ≡ pushed_heads x acts q ++ rest)
pushed_grows x q [] acts e = ([], sym (append-nil (pushed_heads x acts q)))
pushed_grows x q (Queue (Ring_made k place region) ∷ new) acts e = by (k == q) e (made_le new acts q) (pushed_grows x q new acts) where
  by : (b : Bool) → cond b (rings_made (new ++ acts) q + 1) (rings_made (new ++ acts) q) ≡ rings_made acts q → rings_made acts q ≤ rings_made (new ++ acts) q
      → (rings_made (new ++ acts) q ≡ rings_made acts q → (rest : List ℕ) × (pushed_heads x (new ++ acts) q ≡ pushed_heads x acts q ++ rest)) → (rest : List ℕ) × (cond b [] (pushed_heads x (new ++ acts) q) ≡ pushed_heads x acts q ++ rest)
  by true f l later = absurd (omega arith)
  by false f l later = later f
pushed_grows x q (Queue (Finished k) ∷ new) acts e = by (k == q) (head_in_hand x (new ++ acts) q) (pushed_grows x q new acts e) where
  by : (b : Bool) (o : Option ℕ) → (rest : List ℕ) × (pushed_heads x (new ++ acts) q ≡ pushed_heads x acts q ++ rest) → (rest : List ℕ) × (cond b (with_head (pushed_heads x (new ++ acts) q) o) (pushed_heads x (new ++ acts) q) ≡ pushed_heads x acts q ++ rest)
  by true None r = r
  by true (Some h) r = (r.0 ++ h ∷ [], ap (λ l. l ++ h ∷ []) r.1 ∙ append_assoc (pushed_heads x acts q) r.0 (h ∷ []))
  by false o r = r
pushed_grows x q (_ ∷ new) acts e = pushed_grows x q new acts e

executed_unfinished : (q k : ℕ) (b : block.Block) (result : block.RequestResult) → AreUnfinished q (store_acts b result ++ Queue (Executed k result.status result.bytes) ∷ [])
executed_unfinished q k b result = by result.stores where
  by : (c : Bool) → AreUnfinished q ((if c then Disk_act (Stored (512 * b.sector) b.payload) ∷ [] else []) ++ Queue (Executed k result.status result.bytes) ∷ [])
  by true = (tt, (tt, tt))
  by false = (tt, tt)

pub record FoundFinish (x : Setting) (d : List ℕ) (q : ℕ) (start : History) (span : List Entry) (older : List Act) : Type 0 where
  pub later : History
  pub failed : Bool
  pub inner : List Entry
  pub split : span ≡ later ++ at_step (step_of.Queue d (queue.Finish q)) failed ∷ inner
  pub items : List Item
  pub answered : reply x (inner ++ start) (step_of.Queue d (queue.Finish q)) failed ≡ Done items
  pub puts : List Act
  pub are : list_all is_put puts ≡ true
  pub back : older ≡ puts ++ acts_of x (inner ++ start) d
  pub turn : acts_of x (at_step (step_of.Queue d (queue.Finish q)) failed ∷ inner ++ start) d ≡ Queue (Finished q) ∷ puts ++ acts_of x (inner ++ start) d

module _ (x : Setting) (d : List ℕ) (q : ℕ) (start : History) (older : List Act) (new_ring : rings_made (acts_of x start d) q < rings_made older q) where
  onward : (entry : Entry) (span : List Entry) → FoundFinish x d q start span older → FoundFinish x d q start (entry ∷ span) older
  onward entry span r = record { later = entry ∷ r.later; failed = r.failed; inner = r.inner; split = ap (λ l. entry ∷ l) r.split; items = r.items; answered = r.answered; puts = r.puts; are = r.are; back = r.back; turn = r.turn }

  pub find_finish : (span : List Entry) → ((entry : Entry) → Among entry span → IsTrue (concerns d entry.step) → IsTrue (is_calm entry.step)) → (since : List Act)
      → acts_of x (span ++ start) d ≡ since ++ Queue (Finished q) ∷ older → FoundFinish x d q start span older
  find_finish [] calm since e =
      let l = made_le (since ++ Queue (Finished q) ∷ []) older q in
      let same : rings_made ((since ++ Queue (Finished q) ∷ []) ++ older) q ≡ rings_made (acts_of x start d) q = ap (λ l. rings_made l q) (append_assoc since (Queue (Finished q) ∷ []) older ∙ sym e) in
      absurd (omega arith)
  find_finish (entry ∷ span) calm since e = by (entry_makes x d q (span ++ start) entry.step entry.failed (calm entry (inl refl))) (find_finish span (λ other i. calm other (inr i))) where
    by : Makes x d q (span ++ start) entry → ((since : List Act) → acts_of x (span ++ start) d ≡ since ++ Queue (Finished q) ∷ older → FoundFinish x d q start span older) → FoundFinish x d q start (entry ∷ span) older
    by (other turn same are no_finish no_execute) rest =
        let b = behind q turn (acts_of x (span ++ start) d) since older (others_unfinished q turn are) (sym same ∙ e) in
        onward entry span (rest b.0 b.2)
    by (does f is made is_made old h same told) rest =
        let block_is = block.block_of (hand x old q).bytes (hand x old q).writable in
        let result = done_as x made d (span ++ start) f (hand x old q) in
        let b = behind q (store_acts block_is result ++ Queue (Executed q result.status result.bytes) ∷ []) (acts_of x (span ++ start) d) since older (executed_unfinished q q block_is result) (sym same ∙ e) in
        onward entry span (rest b.0 b.2)
    by (finishes f is old h last i puts are same items done) rest = each since (sym same ∙ e) where
      each : (since : List Act) → Queue (Finished q) ∷ puts ++ acts_of x (span ++ start) d ≡ since ++ Queue (Finished q) ∷ older → FoundFinish x d q start (entry ∷ span) older
      each [] k =
          let tail : puts ++ acts_of x (span ++ start) d ≡ older = cc in
          record {
            later = [];
            failed = f;
            inner = span;
            split = ap (λ e. e ∷ span) is;
            items = items;
            answered = done;
            puts = puts;
            are = are;
            back = sym tail;
            turn = subst (λ (e : Entry). acts_of x (e ∷ span ++ start) d ≡ Queue (Finished q) ∷ puts ++ acts_of x (span ++ start) d) is same;
          }
      each (s ∷ since) k =
          let tail : puts ++ acts_of x (span ++ start) d ≡ since ++ Queue (Finished q) ∷ older = cc in
          let b = behind q puts (acts_of x (span ++ start) d) since older (others_unfinished q puts (puts_other q puts are)) tail in
          onward entry span (rest b.0 b.2)

-- ---- acts of a span

pub record Since (x : Setting) (d : List ℕ) (start : History) (later inner : List Entry) : Type 0 where
  pub new : List Act
  pub same : acts_of x (later ++ inner ++ start) d ≡ new ++ acts_of x (inner ++ start) d

pub span_acts : (x : Setting) (d : List ℕ) (q : ℕ) (start : History) (later inner : List Entry) → ((entry : Entry) → Among entry later → IsTrue (concerns d entry.step) → IsTrue (is_calm entry.step)) → Since x d start later inner
span_acts x d q start [] inner calm = record { new = []; same = refl }
span_acts x d q start (entry ∷ later) inner calm = by (entry_makes x d q (later ++ inner ++ start) entry.step entry.failed (calm entry (inl refl))) (span_acts x d q start later inner (λ other i. calm other (inr i))) where
  front : (turn : List Act) → acts_of x (entry ∷ later ++ inner ++ start) d ≡ turn ++ acts_of x (later ++ inner ++ start) d → Since x d start later inner → Since x d start (entry ∷ later) inner
  front turn e s = record { new = turn ++ s.new; same = e ∙ (ap (λ l. turn ++ l) s.same ∙ sym (append_assoc turn s.new (acts_of x (inner ++ start) d))) }

  by : Makes x d q (later ++ inner ++ start) entry → Since x d start later inner → Since x d start (entry ∷ later) inner
  by (other turn same are no_finish no_execute) s = front turn same s
  by (does f is made is_made old h same told) s = front (execute_hand (disk_of made d (device_view x d (deeds_of x (later ++ inner ++ start)))) f q (hand x old q)).acts same s
  by (finishes f is old h last i puts are same items done) s = front (Queue (Finished q) ∷ puts) same s
