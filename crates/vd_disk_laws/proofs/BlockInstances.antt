-- Small histories meet the conditions of the block law, and it fails in two that leave one out.
use Rattle.std.proofs.Common.{arith, ◌≡◌, ℕ, Bool, true, false, refl, subst, sym, None, List, [], ◌∷◌, ◌++◌, inl, inr, true≢false}
use Rattle.std.specs.Int.Count.{ones}
use Rattle.vd_num.specs.Number.{power_from, doubled_to}
use Rattle.vd_model.specs.declared.step.Step.{Step}
use Rattle.vd_model.specs.declared.step.Step.TheVariants.{Queue}
use Rattle.vd_model.specs.declared.step.QueueStep.TheVariants as queue
use Rattle.vd_model.specs.declared.step.SubmitForm.{SubmitForm}
use Rattle.vd_model.specs.declared.answer.Tag.TheVariants as tag
use Rattle.vd_model.specs.declared.answer.Item.{Item}
use Rattle.vd_model.specs.declared.answer.Item.TheVariants.{Word, Number}
use Rattle.vd_model.specs.declared.answer.Answer.TheVariants.{Done}
use Rattle.vd_model.specs.Setting.{Setting}
use Rattle.vd_model.specs.Memory.{read as memory_read}
use Rattle.vd_model.specs.Place.{greatest, place_of}
use Rattle.vd_model.specs.Trace.{ending_at, ending_within}
use Rattle.vd_model.specs.State.{Max_set, Num_set}
use Rattle.vd_model.specs.Puts.{ram}
use Rattle.vd_model.specs.Queues.{ring_of}
use Rattle.vd_model.specs.Block.{result_of}
use Rattle.vd_model.specs.ControlTurns.{plain_creation}
use Rattle.vd_model.specs.RingTurns.{asked_by}
use Rattle.vd_model.specs.Deeds.{device_view}
use Rattle.vd_model.specs.History.{Entry, History, deeds_of, disk_of, reply}
use Rattle.vd_laws.specs.Among.{Among}
use Rattle.vd_laws.specs.Runs.{acts_of}
use Rattle.vd_laws.specs.Small.{v, history_of, dev, image}
use Rattle.vd_ring_laws.specs.DiskRequest.{request_of}
use Rattle.vd_ring_laws.specs.CalmInstances.{small, ring, number, addresses, ready, fetch, execute, finish}
use Rattle.vd_ring_laws.proofs.CalmRuns.{Each, AllOf, all_among, AreDescribed, described_is, idle_is, told, there, calm_run}
use Rattle.vd_disk_laws.specs.BlockLaw.{IsSubmitted, IsCompleted}
use Rattle.vd_disk_laws.specs.BlockInstances.{with_content, zeros, write, read, far, submit, poll, store, start, at_submit, at_execute, run, disturbed_run, report_items, IsMet, BlockInstances}

abbrev span : SubmitForm → History
span form = history_of (finish ∷ execute ∷ fetch ∷ submit form ∷ ready ∷ addresses ∷ number ∷ ring ∷ zeros ∷ [])

-- ---- a submit that no line since then polls

abbrev is_poll : Step → Bool
is_poll (Queue name (queue.Poll q)) = true
is_poll _ = false

among_there : (later more : History) (entry : Entry) → Among entry (later ++ entry ∷ more)
among_there [] more entry = inl refl
among_there (a ∷ later) more entry = inr (among_there later more entry)

abbrev submission_of : (x : Setting) (form : SubmitForm) (h since : History) → h ≡ since ++ record { step = submit form; failed = false } ∷ at_submit → (items : List Item) → reply x at_submit (submit form) false ≡ Done (Word tag.Head ∷ Number 0 ∷ items)
    → AllOf (λ e. is_poll e.step ≡ false) since → IsSubmitted x h v 0 form 0
submission_of x form h since split items answered quiet = record {
  since = since;
  failed = false;
  earlier = at_submit;
  split = split;
  items = items;
  answered = answered;
  unreported = λ later more f told e r. true≢false (all_among (λ e. is_poll e.step ≡ false) since quiet (record { step = poll; failed = f }) (subst (Among (record { step = poll; failed = f })) (sym e) (among_there later more (record { step = poll; failed = f }))));
}

-- ---- a write

write_described : Each (AreDescribed small) (run write)
unfolding deeds_of place_of greatest power_from doubled_to memory_read ending_at ending_within ones
write_described = (described_is small (run write) refl (record { ring = there; there = refl; same = refl }), (described_is small (history_of (execute ∷ fetch ∷ submit write ∷ ready ∷ addresses ∷ number ∷ ring ∷ zeros ∷ image v 0 4 ∷ dev v ∷ [])) refl (record { ring = there; there = refl; same = refl }), (described_is small (history_of (fetch ∷ submit write ∷ ready ∷ addresses ∷ number ∷ ring ∷ zeros ∷ image v 0 4 ∷ dev v ∷ [])) refl (record { ring = there; there = refl; same = refl }), (described_is small (history_of (submit write ∷ ready ∷ addresses ∷ number ∷ ring ∷ zeros ∷ image v 0 4 ∷ dev v ∷ [])) refl (record { ring = there; there = refl; same = refl }), (described_is small (history_of (ready ∷ addresses ∷ number ∷ ring ∷ zeros ∷ image v 0 4 ∷ dev v ∷ [])) refl (record { ring = there; there = refl; same = refl }), (idle_is small (history_of (addresses ∷ number ∷ ring ∷ zeros ∷ image v 0 4 ∷ dev v ∷ [])) told refl (λ q. refl), (idle_is small (history_of (number ∷ ring ∷ zeros ∷ image v 0 4 ∷ dev v ∷ [])) (Num_set 0 4 ∷ Max_set 0 256 ∷ []) refl (λ q. refl), (idle_is small (history_of (ring ∷ zeros ∷ image v 0 4 ∷ dev v ∷ [])) (Max_set 0 256 ∷ []) refl (λ q. refl), (idle_is small (history_of (zeros ∷ image v 0 4 ∷ dev v ∷ [])) (Max_set 0 256 ∷ []) refl (λ q. refl), (idle_is small (history_of (image v 0 4 ∷ dev v ∷ [])) (Max_set 0 256 ∷ []) refl (λ q. refl), (idle_is small (history_of (dev v ∷ [])) (Max_set 0 256 ∷ []) refl (λ q. refl), idle_is small (history_of []) [] refl (λ q. refl))))))))))))

write_no_ring : (q : ℕ) → ring_of (acts_of small start v) q ≡ None
unfolding deeds_of
write_no_ring q = refl

write_answered : (items : List Item) × (reply small at_submit (submit write) false ≡ Done (Word tag.Head ∷ Number 0 ∷ items))
unfolding deeds_of place_of greatest power_from doubled_to memory_read ending_at ending_within ones
write_answered = (_, refl)

write_polled : reply small (run write) poll false ≡ Done (Word tag.Head ∷ Number 0 ∷ report_items 1 0)
unfolding deeds_of place_of greatest power_from doubled_to memory_read ending_at ending_within ones
write_polled = refl

write_met : IsMet small write 1 0
write_met = record {
  addressed = omega arith;
  whole = (8, omega arith);
  calm = calm_run small start (span write) (tt, (tt, (tt, (tt, (tt, (tt, (tt, (tt, (tt, tt))))))))) write_no_ring write_described (refl, (refl, (refl, (refl, (refl, (refl, (refl, (refl, (refl, tt)))))))));
  submission = submission_of small write (run write) (history_of (finish ∷ execute ∷ fetch ∷ [])) refl write_answered.0 write_answered.1 (refl, (refl, (refl, tt)));
  low = omega arith;
  in_span = refl;
  polled = write_polled;
}

-- ---- a read

read_described : Each (AreDescribed with_content) (run read)
unfolding deeds_of place_of greatest power_from doubled_to memory_read ending_at ending_within ones
read_described = (described_is with_content (run read) refl (record { ring = there; there = refl; same = refl }), (described_is with_content (history_of (execute ∷ fetch ∷ submit read ∷ ready ∷ addresses ∷ number ∷ ring ∷ zeros ∷ image v 0 4 ∷ dev v ∷ [])) refl (record { ring = there; there = refl; same = refl }), (described_is with_content (history_of (fetch ∷ submit read ∷ ready ∷ addresses ∷ number ∷ ring ∷ zeros ∷ image v 0 4 ∷ dev v ∷ [])) refl (record { ring = there; there = refl; same = refl }), (described_is with_content (history_of (submit read ∷ ready ∷ addresses ∷ number ∷ ring ∷ zeros ∷ image v 0 4 ∷ dev v ∷ [])) refl (record { ring = there; there = refl; same = refl }), (described_is with_content (history_of (ready ∷ addresses ∷ number ∷ ring ∷ zeros ∷ image v 0 4 ∷ dev v ∷ [])) refl (record { ring = there; there = refl; same = refl }), (idle_is with_content (history_of (addresses ∷ number ∷ ring ∷ zeros ∷ image v 0 4 ∷ dev v ∷ [])) told refl (λ q. refl), (idle_is with_content (history_of (number ∷ ring ∷ zeros ∷ image v 0 4 ∷ dev v ∷ [])) (Num_set 0 4 ∷ Max_set 0 256 ∷ []) refl (λ q. refl), (idle_is with_content (history_of (ring ∷ zeros ∷ image v 0 4 ∷ dev v ∷ [])) (Max_set 0 256 ∷ []) refl (λ q. refl), (idle_is with_content (history_of (zeros ∷ image v 0 4 ∷ dev v ∷ [])) (Max_set 0 256 ∷ []) refl (λ q. refl), (idle_is with_content (history_of (image v 0 4 ∷ dev v ∷ [])) (Max_set 0 256 ∷ []) refl (λ q. refl), (idle_is with_content (history_of (dev v ∷ [])) (Max_set 0 256 ∷ []) refl (λ q. refl), idle_is with_content (history_of []) [] refl (λ q. refl))))))))))))

read_no_ring : (q : ℕ) → ring_of (acts_of with_content start v) q ≡ None
unfolding deeds_of
read_no_ring q = refl

read_answered : (items : List Item) × (reply with_content at_submit (submit read) false ≡ Done (Word tag.Head ∷ Number 0 ∷ items))
unfolding deeds_of place_of greatest power_from doubled_to memory_read ending_at ending_within ones
read_answered = (_, refl)

read_polled : reply with_content (run read) poll false ≡ Done (Word tag.Head ∷ Number 0 ∷ report_items 513 0)
unfolding deeds_of place_of greatest power_from doubled_to memory_read ending_at ending_within ones
read_polled = refl

read_met : IsMet with_content read 513 0
read_met = record {
  addressed = omega arith;
  whole = (8, omega arith);
  calm = calm_run with_content start (span read) (tt, (tt, (tt, (tt, (tt, (tt, (tt, (tt, (tt, tt))))))))) read_no_ring read_described (refl, (refl, (refl, (refl, (refl, (refl, (refl, (refl, (refl, tt)))))))));
  submission = submission_of with_content read (run read) (history_of (finish ∷ execute ∷ fetch ∷ [])) refl read_answered.0 read_answered.1 (refl, (refl, (refl, tt)));
  low = omega arith;
  in_span = refl;
  polled = read_polled;
}

brought_is : ram 1 (acts_of with_content (history_of (poll ∷ []) ++ run read) v) 0 511 ≡ 7
unfolding deeds_of place_of greatest power_from doubled_to memory_read ending_at ending_within ones
brought_is = refl

-- ---- a store into the used element

disturbed_polled : reply small disturbed_run poll false ≡ Done (Word tag.Head ∷ Number 0 ∷ report_items 2 0)
unfolding deeds_of place_of greatest power_from doubled_to memory_read ending_at ending_within ones
disturbed_polled = refl

disturbed_fails : IsCompleted small disturbed_run v 0 (request_of small (acts_of small at_submit v) write) (asked_by write).want 0 (report_items 2 0) false → ⊥
disturbed_fails c = let e : report_items 2 0 ≡ Word tag.Len ∷ Number 1 ∷ Word tag.Status ∷ Number c.result.status ∷ [] = c.report in cc

-- ---- a far sector

far_polled : reply small (run far) poll false ≡ Done (Word tag.Head ∷ Number 0 ∷ report_items 513 0)
unfolding deeds_of place_of greatest power_from doubled_to memory_read ending_at ending_within ones
far_polled = refl

far_refused : (result_of (disk_of plain_creation v (device_view small v (deeds_of small (at_execute far)))) (request_of small (acts_of small at_submit v) far) false).status ≡ 1
unfolding deeds_of place_of greatest power_from doubled_to memory_read ending_at ending_within ones
far_refused = refl

pub block_met : BlockInstances
block_met = record {
  write_met = write_met;
  read_met = read_met;
  read_back = brought_is;
  disturbed_submission = submission_of small write disturbed_run (history_of (store ∷ finish ∷ execute ∷ fetch ∷ [])) refl write_answered.0 write_answered.1 (refl, (refl, (refl, (refl, tt))));
  disturbed_poll = disturbed_polled;
  disturbed_breaks = disturbed_fails;
  far_poll = far_polled;
  far_status = far_refused;
}
