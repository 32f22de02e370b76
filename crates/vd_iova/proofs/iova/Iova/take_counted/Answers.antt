use Rattle.std.proofs.Common.{◌≡◌, ◌+◌, ◌<◌, ◌≤◌, Some, None, arith, length, sym, subst, ◌==◌, if◌then◌else◌}
use Rattle.std.specs.List.{slice_index, slice_set}
use Rattle.vd_model.specs.Place.{place_of}
use Rattle.vd_iova.specs.Space.{Space, taken_of, taken_at}
use Rattle.vd_iova.proofs.Places.{run_low, run_high, run_place, run_fresh, none_place, many_place}
use Rattle.vd_iova.proofs.Ranges.{took_sound, count_at}
use Rattle.vd_iova.proofs.iova.Iova.take_counted.Goals as goal

pub invariant_of-self : goal.invariant_of-self
invariant_of-self g c =
    let s : Space = record { counts = c.self.inside.counts.items; first = c.self.inside.first; «end» = c.self.inside.«end» } in
    let top = c.in-Some.ensures.run.0 in
    let low = run_low c.self.inside.words c.self.inside.full s c.self.invariant c.args.pages c.requires c.in-Some.start top in
    let high = run_high c.self.inside.words c.self.inside.full s c.self.invariant c.args.pages c.requires c.in-Some.start top in
    let counts = c.self.invariant.counts in
    let some = c.requires in
    let inside : c.in-Some.start < length c.self.inside.counts.items = omega arith in
    took_sound c.self.inside.words c.self.inside.full s c.self.invariant c.in-Some.start inside c.take_run.new.words c.take_run.new.full c.args.pages
    c.in-Some.ensures.run.1 top.clear some low high (run_fresh c.self.inside.words c.self.inside.full s c.self.invariant c.args.pages c.requires c.in-Some.start top)

pub returns-then-pages-self-clause-place : goal.returns-then-pages-self-clause-place
returns-then-pages-self-clause-place g c =
    let s : Space = record { counts = c.self.inside.counts.items; first = c.self.inside.first; «end» = c.self.inside.«end» } in
    let many = c.if-pages-self.true in
    subst (λ (t : Space). None ≡ place_of (taken_of t) c.args.pages t.first t.«end») c.self.view_is
    (sym (many_place c.self.inside.words c.self.inside.full s c.self.invariant c.args.pages c.requires many))

pub returns-in-Some-clause-place : goal.returns-in-Some-clause-place
returns-in-Some-clause-place g c =
    let s : Space = record { counts = c.self.inside.counts.items; first = c.self.inside.first; «end» = c.self.inside.«end» } in
    subst (λ (t : Space). Some c.in-Some.start ≡ place_of (taken_of t) c.args.pages t.first t.«end») c.self.view_is
    (sym (run_place c.self.inside.words c.self.inside.full s c.self.invariant c.args.pages c.requires c.in-Some.start c.in-Some.ensures.run.0))

pub returns-in-Some-clause-within : goal.returns-in-Some-clause-within
returns-in-Some-clause-within g c =
    let s : Space = record { counts = c.self.inside.counts.items; first = c.self.inside.first; «end» = c.self.inside.«end» } in
    let top = c.in-Some.ensures.run.0 in
    subst (λ (t : Space). (t.first ≤ c.in-Some.start) × (c.in-Some.start + c.args.pages ≤ t.«end»)) c.self.view_is
    (run_low c.self.inside.words c.self.inside.full s c.self.invariant c.args.pages c.requires c.in-Some.start top, run_high c.self.inside.words c.self.inside.full s c.self.invariant c.args.pages c.requires c.in-Some.start top)

pub returns-in-Some-clause-fresh : goal.returns-in-Some-clause-fresh
returns-in-Some-clause-fresh g c =
    let s : Space = record { counts = c.self.inside.counts.items; first = c.self.inside.first; «end» = c.self.inside.«end» } in
    subst (λ (t : Space). taken_at t c.in-Some.start ≡ 0) c.self.view_is
    (run_fresh c.self.inside.words c.self.inside.full s c.self.invariant c.args.pages c.requires c.in-Some.start c.in-Some.ensures.run.0)

pub returns-in-None-clause-place : goal.returns-in-None-clause-place
returns-in-None-clause-place g c =
    let s : Space = record { counts = c.self.inside.counts.items; first = c.self.inside.first; «end» = c.self.inside.«end» } in
    subst (λ (t : Space). None ≡ place_of (taken_of t) c.args.pages t.first t.«end») c.self.view_is
    (sym (none_place c.self.inside.words c.self.inside.full s c.self.invariant c.args.pages c.requires c.in-None.ensures.run.0))

pub returns-in-Some-clause-taken : goal.returns-in-Some-clause-taken
returns-in-Some-clause-taken g c = λ q.
    let s : Space = record { counts = c.self.inside.counts.items; first = c.self.inside.first; «end» = c.self.inside.«end» } in
    let high = run_high c.self.inside.words c.self.inside.full s c.self.invariant c.args.pages c.requires c.in-Some.start c.in-Some.ensures.run.0 in
    let counts = c.self.invariant.counts in
    let some = c.requires in
    let inside : c.in-Some.start < length c.self.inside.counts.items = omega arith in
    subst (λ (t : Space). slice_index (slice_set c.self.inside.counts.items c.in-Some.start c.args.pages) q ≡ (if q == c.in-Some.start then c.args.pages else taken_at t q)) c.self.view_is (count_at c.self.inside.counts.items c.in-Some.start c.args.pages q inside)
