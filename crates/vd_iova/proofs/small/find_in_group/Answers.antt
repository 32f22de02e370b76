use Rattle.std.proofs.Common.{◌≡◌, ℕ, ◌+◌, ◌-◌, ◌*◌, ◌/◌, ◌%◌, ◌<◌, refl, subst, ap, ◌∙◌, arith}
use Rattle.std.specs.Int.{bit_at}
use Rattle.std.specs.List.{slice_index}
use Rattle.vd_iova.specs.Bits.{NoRun, IsClearWord}
use Rattle.vd_iova.proofs.Runs.{no_run_join, no_run_word}
use Rattle.vd_iova.proofs.Searches.{full_by_none, no_run_sums}
use Rattle.vd_iova.proofs.small.find_in_group.Goals as goal

-- none from the lowest word on, where the summary's bits from there on are set
pub returns-then-at-from-clause-run : goal.returns-then-at-from-clause-run
returns-then-at-from-clause-run g c =
    let words = c.args.words.now in
    let base = c.args.from / 64 * 64 in
    let bit = c.in-Some.bit in
    let past = c.if-at-from.true in
    let back : base + (c.args.from - base) ≡ c.args.from = omega arith in
    subst (λ k. NoRun words c.args.step c.args.n (64 * k) (64 * c.args.to)) back
    (no_run_join words c.args.step c.args.n (64 * (base + (c.args.from - base))) (64 * (base + c.loop-bit.«end»)) (64 * c.args.to)
    (no_run_sums words c.args.sum c.args.from c.args.to base c.args.step c.args.n c.requires.sums c.requires.some refl c.requires.group (c.args.from - base) c.loop-bit.«end» (omega arith) c.loop-bit.invariant.most
    (λ j low high. c.in-Some.ensures.top j (omega arith) high))
    c.loop-bit.invariant.above)

pub returns-clause-run : goal.returns-clause-run
returns-clause-run g c =
    let words = c.args.words.now in
    let base = c.args.from / 64 * 64 in
    let back : base + (c.args.from - base) ≡ c.args.from = omega arith in
    subst (λ k. NoRun words c.args.step c.args.n (64 * k) (64 * c.args.to)) back
    (no_run_join words c.args.step c.args.n (64 * (base + (c.args.from - base))) (64 * (base + c.loop-bit.«end»)) (64 * c.args.to)
    (no_run_sums words c.args.sum c.args.from c.args.to base c.args.step c.args.n c.requires.sums c.requires.some refl c.requires.group (c.args.from - base) c.loop-bit.«end» (omega arith) c.loop-bit.invariant.most
    (λ j low high. c.in_default.ensures j high))
    c.loop-bit.invariant.above)

pub returns-in-Some-top_run-clause-run : goal.returns-in-Some-top_run-clause-run
returns-in-Some-top_run-clause-run g c =
    let words = c.args.words.now in
    let base = c.args.from / 64 * 64 in
    let bit = c.in-Some.bit in
    let below = c.in-Some.ensures.below in
    let most = c.loop-bit.invariant.most in
    let group = c.requires.group in
    let next : base + (bit + 1) ≡ base + bit + 1 = omega arith in
    let index : (base + bit) % 64 ≡ bit = omega arith in
    record {
      low = c.if-at-from.false;
      high = omega arith;
      word_is = c.look-word.ensures.word;
      sum_is = refl;
      clear = ap (λ j. bit_at c.args.sum j) index ∙ c.in-Some.ensures.clear;
      run = c.in-Some-top_run.ensures;
      top = subst (λ k. NoRun words c.args.step c.args.n (64 * k) (64 * c.args.to)) next
          (no_run_join words c.args.step c.args.n (64 * (base + (bit + 1))) (64 * (base + c.loop-bit.«end»)) (64 * c.args.to)
          (no_run_sums words c.args.sum c.args.from c.args.to base c.args.step c.args.n c.requires.sums c.requires.some refl c.requires.group (bit + 1) c.loop-bit.«end»
          (let low = c.if-at-from.false in omega arith) c.loop-bit.invariant.most (λ j low high. c.in-Some.ensures.top j (omega arith) high))
          c.loop-bit.invariant.above);
    }

pub loop-bit-preserved : goal.loop-bit-preserved
loop-bit-preserved g c =
    let words = c.args.words.now in
    let base = c.args.from / 64 * 64 in
    let bit = c.in-Some.bit in
    let below = c.in-Some.ensures.below in
    let most = c.loop-bit.invariant.most in
    let group = c.requires.group in
    let inside = c.if-at-from.false in
    let paid = c.loop-bit.invariant.cost in
    let steps = c.look-word.ensures.cost in
    let next : base + bit + 1 ≡ base + (bit + 1) = omega arith in
    let index : (base + bit) % 64 ≡ bit = omega arith in
    let none = subst (λ x. (k : ℕ) → k < 64 → k % c.args.step ≡ 0 → IsClearWord x k c.args.n → ⊥) c.look-word.ensures.word c.in_default-top_run.ensures in
    record {
      most = omega arith;
      above = no_run_join words c.args.step c.args.n (64 * (base + bit)) (64 * (base + (bit + 1))) (64 * c.args.to)
          (subst (λ k. NoRun words c.args.step c.args.n (64 * (base + bit)) (64 * k)) next
          (no_run_word words c.args.step c.args.n c.requires.whole.0 (base + bit) c.requires.fits c.requires.whole.1 none))
          (no_run_join words c.args.step c.args.n (64 * (base + (bit + 1))) (64 * (base + c.loop-bit.«end»)) (64 * c.args.to)
          (no_run_sums words c.args.sum c.args.from c.args.to base c.args.step c.args.n c.requires.sums c.requires.some refl c.requires.group (bit + 1) c.loop-bit.«end»
          (omega arith) c.loop-bit.invariant.most (λ j low high. c.in-Some.ensures.top j (omega arith) high))
          c.loop-bit.invariant.above);
      cost = omega arith;
      one = λ single. absurd (c.requires.sums.not_full (base + bit) inside (omega arith) (ap (λ j. bit_at c.args.sum j) index ∙ c.in-Some.ensures.clear)
          (full_by_none words (base + bit) c.args.step (let least = c.requires.least in let fits = c.requires.fits in omega arith)
          (subst (λ m. (k : ℕ) → k < 64 → k % c.args.step ≡ 0 → IsClearWord (slice_index words (base + bit)) k m → ⊥) single none)));
    }
