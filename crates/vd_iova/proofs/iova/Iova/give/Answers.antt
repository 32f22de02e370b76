use Rattle.std.proofs.Common.{◌≡◌, ◌==◌, ◌<◌, arith, length, subst, if◌then◌else◌}
use Rattle.std.proofs.lemmas.Grind.{common_steps}
use Rattle.std.specs.List.{slice_index, slice_set}
use Rattle.vd_iova.specs.Space.{Space, taken_at}
use Rattle.vd_iova.proofs.Ranges.{gave_sound, count_at}
use Rattle.vd_iova.proofs.iova.Iova.give.Goals as goal

pub invariant_of-self : goal.invariant_of-self
invariant_of-self c =
    let s : Space = record { counts = c.self.inside.counts.items; first = c.self.inside.first; «end» = c.self.inside.«end» } in
    let count : c.index.result.now ≡ slice_index c.self.inside.counts.items c.args.start = grind (arith, common_steps) in
    let inside : c.args.start < length c.self.inside.counts.items = grind (arith, common_steps) in
    let some : 0 < c.index.result.now = grind (arith, common_steps) in
    gave_sound c.self.inside.words c.self.inside.full s c.self.invariant c.args.start inside c.unmark_run.new.words c.unmark_run.new.full c.index.result.now count some
    c.unmark_run.ensures.bits c.unmark_run.ensures.len c.unmark_run.ensures.summary

pub returns-clause-taken : goal.returns-clause-taken
returns-clause-taken c = λ q.
    let inside : c.args.start < length c.self.inside.counts.items = grind (arith, common_steps) in
    subst (λ (t : Space). slice_index (slice_set c.self.inside.counts.items c.args.start 0) q ≡ (if q == c.args.start then 0 else taken_at t q)) c.self.view_is (count_at c.self.inside.counts.items c.args.start 0 q inside)
