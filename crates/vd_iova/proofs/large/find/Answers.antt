use Rattle.std.proofs.Common.{◌+◌, ◌-◌, ◌<◌, ◌≤◌, subst, sym, ◌∙◌, arith, true≢false}
use Rattle.vd_iova.specs.Bits.{IsClear}
use Rattle.vd_iova.proofs.Multiples.{first_step, beyond, under, prev, is_multiple}
use Rattle.vd_iova.proofs.Powers.{word_start}
use Rattle.vd_iova.proofs.Searches.{candidate_down, candidates_above, candidates_end}
use Rattle.vd_iova.proofs.large.find.Goals as goal

pub loop-next-init : goal.loop-next-init
loop-next-init g c =
    let step = c.args.step in
    let some = c.requires.search.some in
    let wide = c.requires.search.fits in
    let pos : 0 < c.args.step = omega arith in
    let room = c.requires.search.room in
    let past = beyond step (c.args.«end» - c.args.n) pos in
    let below = under step (c.args.«end» - c.args.n) pos in
    record {
      multiple = first_step step (c.args.«end» - c.args.n);
      ends = omega arith;
      low = omega arith;
      above = λ k low high. absurd (omega arith);
      cost = omega arith;
    }

pub returns-then-run_clear-clause-run : goal.returns-then-run_clear-clause-run
returns-then-run_clear-clause-run g c =
    let step = c.args.step in
    let inv = c.loop-next.invariant in
    let some = c.requires.search.some in
    let wide = c.requires.search.fits in
    let pos : 0 < c.args.step = omega arith in
    let test = c.loop-next-test.true in
    let ends = inv.ends in
    let room = c.requires.search.room in
    let inside = c.requires.search.inside in
    let fits : c.args.step ≤ c.loop-next.next = omega arith in
    let at = prev step inv.multiple.0 c.loop-next.next pos fits inv.multiple.1 in
    let start = word_start step c.requires.whole.0 at.0 (c.loop-next.next - c.args.step) c.requires.whole.1 at.1 in (
      record {
        multiple = is_multiple step at.0 (c.loop-next.next - c.args.step) at.1;
        below = omega arith;
        inside = omega arith;
        clear = subst (λ s. IsClear c.args.words.now s c.args.n) start (c.run_clear.ensures.clear.0 c.if-run_clear.true);
        top = candidates_above c.args.words.now step c.args.n inv.multiple.0 c.loop-next.next (c.args.«end» + 1 - c.args.n) inv.multiple.1 pos fits inv.above;
      },
      omega arith,
    )

pub loop-next-preserved : goal.loop-next-preserved
loop-next-preserved g c =
    let step = c.args.step in
    let inv = c.loop-next.invariant in
    let some = c.requires.search.some in
    let wide = c.requires.search.fits in
    let whole = c.requires.whole.1 in
    let pos : 0 < c.args.step = omega arith in
    let test = c.loop-next-test.true in
    let ends = inv.ends in
    let paid = inv.cost in
    let looked = c.run_clear.ensures.cost in
    let fits : c.args.step ≤ c.loop-next.next = omega arith in
    let at = prev step inv.multiple.0 c.loop-next.next pos fits inv.multiple.1 in
    let start = word_start step c.requires.whole.0 at.0 (c.loop-next.next - c.args.step) c.requires.whole.1 at.1 in
    record {
      multiple = at;
      ends = omega arith;
      low = omega arith;
      above = candidate_down c.args.words.now step c.args.n inv.multiple.0 c.loop-next.next (c.args.«end» + 1 - c.args.n) inv.multiple.1 pos fits
          (λ clear. true≢false (sym (c.run_clear.ensures.clear.1 (subst (λ s. IsClear c.args.words.now s c.args.n) (sym start) clear)) ∙ c.if-run_clear.false)) inv.above;
      cost = omega arith;
    }

pub returns-clause-run : goal.returns-clause-run
returns-clause-run g c =
    let room = c.requires.search.room in
    let inside = c.requires.search.inside in
    candidates_end c.args.words.now c.args.step c.args.n c.loop-next.invariant.multiple.0 c.loop-next.next (c.args.«end» + 1 - c.args.n) c.loop-next.invariant.multiple.1
    c.args.first c.args.«end» c.requires.search.some c.requires.search.outside (omega arith) (let test = c.loop-next-test.false in omega arith) c.loop-next.invariant.above
