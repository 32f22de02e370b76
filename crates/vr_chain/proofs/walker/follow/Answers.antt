use Rattle.std.proofs.Common.{◌≡◌, true, false, length, List, Bool, cond, get_or, replicate, Option, Result, Some, None, Ok, Err, ap, sym, subst, ◌∙◌, refl, arith}
use Rattle.std.proofs.Math.ListN.{set}
use Rattle.std.proofs.lemmas.Result.{err_from_is_err_and}
use Rattle.vd_model.specs.Memory.{Memory}
use Rattle.vd_model.specs.declared.parts.Chain.{Chain}
use Rattle.vr_chain.specs.declared.error.WalkError.{WalkError}
use Rattle.vd_model.specs.declared.answer.ChainKind.{ChainKind}
use Rattle.vd_model.specs.declared.parts.Part.{Part}
use Rattle.vd_model.specs.declared.descriptor.Descriptor.{Descriptor}
use Rattle.vd_model.specs.declared.descriptor.Position.{Position}
use Rattle.vr_chain.proofs.Passed.{passed}
use Rattle.vd_model.specs.Trace.{TraceStart, first_position, first_kind, is_indirect, descriptor_at, chain_of, EndsAs, trace_start}
use Rattle.vr_chain.specs.Walk.{UnlessMemory}
use Rattle.vr_chain.proofs.Tracks.{Tracks, tracks-start, tracks-next, ends-missing, ends-faulty, ends-whole, ends-headless, soon-ends, next_range, fewer, table-direct}
use Rattle.vr_chain.proofs.Reached.{position-reached}
use Rattle.vr_chain.proofs.walker.follow.Goals as goal

-- an error that is how the trace ends
ended : (q : TraceStart) (m : Memory) (r s : Result Chain WalkError) → r ≡ s → UnlessMemory s (EndsAs q m) → UnlessMemory r (EndsAs q m)
ended q m r s e h = subst (λ (x : Result Chain WalkError). UnlessMemory x (EndsAs q m)) (sym e) h

-- what the tests say, by the marks
tested : (n : Bool) (parts : List Part) (marks now : List Bool) (p : Position) (d : Descriptor) (r : Option ChainKind) → now ≡ marks → r ≡ first_kind n parts (get_or now d.next false) p d → first_kind n parts (get_or marks d.next false) p d ≡ r
tested n parts marks now p d r e h = ap (λ (l : List Bool). first_kind n parts (get_or l d.next false) p d) (sym e) ∙ sym h

pub returns-then-head-ring-clause-found : goal.returns-then-head-ring-clause-found
returns-then-head-ring-clause-found g c m told =
    let q = trace_start c.args.ring.now c.args.head c.args.negotiated in
    ended q m _ _ (ap Err c.fault_at.ensures) (soon-ends q m _ (ends-headless q m c.if-head-ring.true))

pub returns-in_err-d-clause-found : goal.returns-in_err-d-clause-found
returns-in_err-d-clause-found g c m told =
    let q = trace_start c.args.ring.now c.args.head c.args.negotiated in
    let p = err_from_is_err_and c.from_residual-in_err-d.result c.from_residual-in_err-d.ensures.1 in
    let read = c.in_err-d.ensures.loads m (c.walk.invariant.memory.same_told ∙ told) in
    ended q m _ _ (p.1 ∙ ap Err p.2) (soon-ends q m _ (ends-missing q m c.walk.position c.walk.marks.items c.walk.gathered _ c.if-head-ring.false (c.walk.invariant.tracks m told) read))

pub returns-in-Some-clause-found : goal.returns-in-Some-clause-found
returns-in-Some-clause-found g c m told =
    let q = trace_start c.args.ring.now c.args.head c.args.negotiated in
    let d = c.in_ok-d.d in
    let read : descriptor_at m c.walk.position ≡ Ok d = c.in_ok-d.ensures.loads m (c.walk.invariant.memory.same_told ∙ told) in
    let tests = tested c.args.negotiated c.walk.gathered c.walk.marks.items c.deref.result.now c.walk.position d (Some c.in-Some.kind) c.deref.ensures.value c.in-Some.ensures in
    ended q m _ _ (ap Err c.fault_at-in-Some.ensures) (soon-ends q m _ (ends-faulty q m c.walk.position c.walk.marks.items c.walk.gathered d c.in-Some.kind c.if-head-ring.false (c.walk.invariant.tracks m told) read tests))

pub returns-in-None-clause-found : goal.returns-in-None-clause-found
returns-in-None-clause-found g c m told =
    let q = trace_start c.args.ring.now c.args.head c.args.negotiated in
    let d = c.in_ok-d.d in
    let read : descriptor_at m c.walk.position ≡ Ok d = c.in_ok-d.ensures.loads m (c.walk.invariant.memory.same_told ∙ told) in
    let tests = tested c.args.negotiated c.walk.gathered c.walk.marks.items c.deref.result.now c.walk.position d c.check.result c.deref.ensures.value c.check.ensures ∙ c.in_default.is in
    ended q m _ _ (ap Ok (c.into_chain.ensures ∙ ap (chain_of c.args.head) c.in_ok-take.ensures.ok)) (soon-ends q m _ (ends-whole q m c.walk.position c.walk.marks.items c.walk.gathered d c.if-head-ring.false (c.walk.invariant.tracks m told) read tests (sym c.in-None.ensures)))

pub walk-init : goal.walk-init
walk-init g c = record {
  memory = record { same_told = refl; same_span = refl; kept = g.met.M.Mem.keeps_refl c.args.mem.now };
  direct = λ n. refl;
  number = omega arith;
  inside = c.if-head-ring.false;
  marked = c.in_ok-arrive.ensures.len;
  tracks = λ m told.
      let q = trace_start c.args.ring.now c.args.head c.args.negotiated in
      subst (λ (l : List Part). Tracks q m (first_position q) c.arrive.new.marks.items l) (sym c.new-gathered.ensures) (tracks-start q m c.arrive.new.marks.items c.if-head-ring.false c.in_ok-arrive.ensures.ok);
}

-- the marks after the walk went on
marks-after : (indirect : Bool) (d : Descriptor) (r : Position) (marks new : List Bool) → indirect ≡ is_indirect d → new ≡ set (cond indirect (replicate r.table.entries false) marks) r.index true → new ≡ set (cond (is_indirect d) (replicate r.table.entries false) marks) r.index true
marks-after indirect d r marks new e w = w ∙ ap (λ (b : Bool). set (cond b (replicate r.table.entries false) marks) r.index true) e

pub walk-smaller : goal.walk-smaller
walk-smaller g c =
    let d = c.in_ok-d.d in
    let len : length c.walk.marks.items ≡ c.walk.position.table.entries = sym (ap length c.deref.ensures.value) ∙ c.deref.ensures.len ∙ c.walk.invariant.marked in
    let tests = tested c.args.negotiated c.walk.gathered c.walk.marks.items c.deref.result.now c.walk.position d c.check.result c.deref.ensures.value c.check.ensures ∙ c.in_default.is in
    let marks = marks-after c.is_indirect.result d c.in-Some-position_after.next c.walk.marks.items c.arrive-in-Some-position_after.new.marks.items c.is_indirect.ensures c.in_ok-arrive-in-Some-position_after.ensures.ok in
    fewer c.walk.position c.in-Some-position_after.next c.walk.marks.items c.arrive-in-Some-position_after.new.marks.items c.walk.gathered d c.walk.invariant.number len (passed c.args.negotiated c.walk.gathered (get_or c.walk.marks.items d.next false) c.walk.position d tests) (sym c.in-Some-position_after.ensures) marks

pub walk-preserved : goal.walk-preserved
walk-preserved g c =
    let d = c.in_ok-d.d in
    let r = c.in-Some-position_after.next in
    let len : length c.walk.marks.items ≡ c.walk.position.table.entries = sym (ap length c.deref.ensures.value) ∙ c.deref.ensures.len ∙ c.walk.invariant.marked in
    let tests = tested c.args.negotiated c.walk.gathered c.walk.marks.items c.deref.result.now c.walk.position d c.check.result c.deref.ensures.value c.check.ensures ∙ c.in_default.is in
    let marks = marks-after c.is_indirect.result d r c.walk.marks.items c.arrive-in-Some-position_after.new.marks.items c.is_indirect.ensures c.in_ok-arrive-in-Some-position_after.ensures.ok in
    let range = next_range c.walk.position r (get_or c.walk.marks.items d.next false) c.walk.gathered d (passed c.args.negotiated c.walk.gathered (get_or c.walk.marks.items d.next false) c.walk.position d tests) c.walk.invariant.number (sym c.in-Some-position_after.ensures) in
    record {
      memory = record {
        same_told = c.load.ensures.memory.same_told ∙ c.walk.invariant.memory.same_told;
        same_span = c.load.ensures.memory.same_span ∙ c.walk.invariant.memory.same_span;
        kept = g.met.M.Mem.keeps_trans _ _ _ c.walk.invariant.memory.kept c.load.ensures.memory.kept;
      };
      direct = λ n. table-direct c.walk.position r c.walk.gathered (get_or c.walk.marks.items d.next false) d (subst (λ (b : Bool). first_kind b c.walk.gathered (get_or c.walk.marks.items d.next false) c.walk.position d ≡ None) n tests) (sym c.in-Some-position_after.ensures) ∙ c.walk.invariant.direct n;
      number = range.0;
      inside = range.1;
      marked = c.in_ok-arrive-in-Some-position_after.ensures.len;
      tracks = λ m told.
          let q = trace_start c.args.ring.now c.args.head c.args.negotiated in
          let read : descriptor_at m c.walk.position ≡ Ok d = c.in_ok-d.ensures.loads m (c.walk.invariant.memory.same_told ∙ told) in
          subst (λ (l : List Part). Tracks q m r c.arrive-in-Some-position_after.new.marks.items l) (sym c.in_ok-take.ensures.ok)
          (tracks-next q m c.walk.position r c.walk.marks.items c.arrive-in-Some-position_after.new.marks.items c.walk.gathered d c.if-head-ring.false c.walk.invariant.number len (c.walk.invariant.tracks m told) read tests (sym c.in-Some-position_after.ensures) marks);
    }

pub returns-in_err-d-clause-no_bus : goal.returns-in_err-d-clause-no_bus
returns-in_err-d-clause-no_bus g c n reach at = absurd (cc (c.in_err-d.ensures.in_reach (position-reached (g.M.Mem.told c.args.mem.now) (g.M.Mem.span c.args.mem.now) (g.M.Mem.told c.walk.mem) (g.M.Mem.span c.walk.mem) c.args.ring.now c.walk.position (g.met.M.Mem.told_ends c.args.mem.now) (g.met.M.Mem.span_ends c.args.mem.now) c.walk.invariant.memory.same_told c.walk.invariant.memory.same_span (c.walk.invariant.direct n) c.walk.invariant.inside reach)))
