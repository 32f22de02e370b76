use Rattle.std.proofs.Common.{◌≡◌, ◌+◌, ◌-◌, ◌*◌, ◌/◌, inl, inr, sym, ◌∙◌, ap, arith, length}
use Rattle.std.proofs.lemmas.Bool.Decides.{leb_tells}
use Rattle.std.specs.List.{slice_index}
use Rattle.vd_iova.proofs.Runs.{no_run_join}
use Rattle.vd_iova.proofs.Searches.{group_sums, past_group, group_down, no_run_below, looks_all, looks_one}
use Rattle.vd_iova.proofs.small.find.Goals as goal

pub find_in_group-requires-clause-sums : goal.find_in_group-requires-clause-sums
find_in_group-requires-clause-sums g c =
    let test = c.loop-group-test.true in
    let from = c.max-from.ensures in
    let to = c.min-to.ensures in
    let high = c.words_for-high.ensures in
    group_sums c.args.words.now c.args.full.now c.look-sum.result (c.loop-group.group - 1) c.max-from.result c.min-to.result c.requires.summary c.look-sum.ensures.word
    (λ w low below. omega arith) (let room = c.requires.search.inside in omega arith)

pub returns-in-Some-clause-run : goal.returns-in-Some-clause-run
returns-in-Some-clause-run g c =
    let test = c.loop-group-test.true in
    let found = c.in-Some.ensures.run in
    let low = found.low in
    let below = found.high in
    let from = c.max-from.ensures in
    let to = c.min-to.ensures in
    let high = c.words_for-high.ensures in
    let room = c.requires.search.inside in
    let group : c.in-Some.found.at / 64 ≡ c.loop-group.group - 1 = omega arith in
    record {
      inside = omega arith;
      word_is = found.word_is;
      sum_is = found.sum_is ∙ c.look-sum.ensures.word ∙ ap (λ k. slice_index c.args.full.now k) (sym group);
      clear = found.clear;
      run = found.run;
      top = no_run_join c.args.words.now c.args.step c.args.n (64 * (c.in-Some.found.at + 1)) (64 * c.min-to.result) (64 * length c.args.words.now) found.top
          (past_group c.args.words.now c.args.step c.args.n c.args.first c.args.«end» c.requires.search.some c.requires.search.outside c.min-to.result c.loop-group.group
          (elim (leb_tells c.words_for-high.result (64 * (c.loop-group.group - 1) + 64)) [ inl ended ↦ (let e = ended.1 in inl (omega arith)) | inr later ↦ (let l = later.1 in inr (omega arith)) ])
          c.loop-group.invariant.above);
    }

pub loop-group-preserved : goal.loop-group-preserved
loop-group-preserved g c =
    let test = c.loop-group-test.true in
    let from = c.max-from.ensures in
    let to = c.min-to.ensures in
    let high = c.words_for-high.ensures in
    let last = c.words_for-last.ensures in
    let room = c.requires.search.inside in
    let inv = c.loop-group.invariant in
    let low = inv.low in
    let paid = inv.cost in
    let most = c.loop-group.auto in
    let looked = c.look-sum.ensures.cost in
    let searched = c.find_in_group.ensures.cost in
    record {
      low = omega arith;
      above = group_down c.args.words.now c.args.step c.args.n c.args.first c.args.«end» c.requires.search.some c.requires.search.outside c.max-from.result c.min-to.result c.loop-group.group
          (elim (leb_tells (c.args.first / 64) (64 * (c.loop-group.group - 1))) [ inl before ↦ (let b = before.1 in inl (omega arith)) | inr outer ↦ (let o = outer.1 in inr (omega arith)) ])
          (omega arith)
          c.in_default.ensures.run
          (past_group c.args.words.now c.args.step c.args.n c.args.first c.args.«end» c.requires.search.some c.requires.search.outside c.min-to.result c.loop-group.group
          (elim (leb_tells c.words_for-high.result (64 * (c.loop-group.group - 1) + 64)) [ inl ended ↦ (let e = ended.1 in inl (omega arith)) | inr later ↦ (let l = later.1 in inr (omega arith)) ])
          inv.above);
      cost = omega arith;
      one = λ single. (let before = inv.one single in let one = c.in_default.ensures.one single in omega arith);
    }

pub returns-clause-run : goal.returns-clause-run
returns-clause-run g c =
    let test = c.loop-group-test.false in
    let room = c.requires.search.inside in
    let order = c.requires.search.room in
    let some = c.requires.search.some in
    no_run_join c.args.words.now c.args.step c.args.n 0 (4096 * c.loop-group.group) (64 * length c.args.words.now)
    (no_run_below c.args.words.now c.args.step c.args.n c.args.first c.args.«end» c.requires.search.some c.requires.search.outside 0 (4096 * c.loop-group.group) (omega arith) (omega arith))
    c.loop-group.invariant.above

pub returns-clause-cost : goal.returns-clause-cost
returns-clause-cost g c =
    let test = c.loop-group-test.false in
    let high = c.words_for-high.ensures in
    let last = c.words_for-last.ensures in
    let low = c.loop-group.invariant.low in
    let paid = c.loop-group.invariant.cost in
    let most = looks_all c.args.first c.args.«end» (let some = c.requires.search.some in let room = c.requires.search.room in omega arith) in
    omega arith

pub returns-clause-one : goal.returns-clause-one
returns-clause-one g c = λ single.
    let test = c.loop-group-test.false in
    let high = c.words_for-high.ensures in
    let last = c.words_for-last.ensures in
    let low = c.loop-group.invariant.low in
    let paid = c.loop-group.invariant.one single in
    let most = looks_one c.args.first c.args.«end» (let some = c.requires.search.some in let room = c.requires.search.room in omega arith) in
    omega arith
