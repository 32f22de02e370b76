use Rattle.std.proofs.Common.{◌≡◌, ℕ, ◌+◌, ◌-◌, ◌*◌, ◌/◌, ◌%◌, ◌<◌, ◌≤◌, Bool, true, false, arith, ap, subst, sym, ◌∙◌, inl, inr, length}
use Rattle.std.proofs.lemmas.Grind.{common_steps}
use Rattle.std.proofs.lemmas.Bool.Decides.{leb_tells}
use Rattle.vd_bounce.specs.Bounce.{is_page_present, page_size}
use Rattle.vd_bounce.proofs.Pages.{split, page_room, index_small}
use Rattle.vd_domain.proofs.Failing.{first_failing_here, first_failing_past, same_page}
use Rattle.vd_domain.proofs.pages.first_missing.Goals as goal
use Rattle.vd_domain.proofs.pages.first_missing.Goals.{then-page-count-via-then-page-count, then-page-count-via-else-page-count+then-not-present}

pub loop-left-preserved : goal.loop-left-preserved
loop-left-preserved c =
    let size : ℕ = page_size c.args.map.now in
    let P : ℕ → Bool = λ a. is_page_present c.args.map.now (a / size) in
    let g = c.per_page.ensures.value in
    let some = c.per_page.ensures.some in
    let here : P c.loop-left.at ≡ true = grind (arith, common_steps) in
    let fits : c.min-here.result ≤ c.loop-left.left = omega arith in
    let near : c.min-here.result ≤ 4096 * c.per_page.result - c.loop-left.at % (4096 * c.per_page.result) = omega arith in
    let room : c.min-here.result ≤ size - c.loop-left.at % size = subst (λ (n : ℕ). c.min-here.result ≤ 4096 * n - c.loop-left.at % (4096 * n)) g near in
    let below : c.loop-left.at / (4096 * c.per_page.result) < length c.args.map.now.frames = omega arith in
    let page : c.loop-left.at / size < length c.args.map.now.frames = subst (λ (n : ℕ). c.loop-left.at / (4096 * n) < length c.args.map.now.frames) g below in
    let whole : size * (c.loop-left.at / size) + c.loop-left.at % size ≡ c.loop-left.at = split size c.loop-left.at (omega arith) in
    let fill : size * (c.loop-left.at / size) + size ≤ size * length c.args.map.now.frames = page_room size (c.loop-left.at / size) (length c.args.map.now.frames) page in
    let small : c.loop-left.at % size < size = index_small size c.loop-left.at (omega arith) in
    let ends : c.loop-left.at + c.min-here.result ≤ size * length c.args.map.now.frames = omega arith in
    let all : (i : ℕ) → c.loop-left.at ≤ i → i < c.loop-left.at + c.min-here.result → P i ≡ true =
    (λ i low high. ap (λ page. is_page_present c.args.map.now page) (same_page size c.loop-left.at i (omega arith) low (omega arith)) ∙ here) in
    record {
      sum = (let sum = c.loop-left.invariant.sum in omega (arith, sum, fits));
      inside = (λ moved. ends);
      later = (let later = c.loop-left.invariant.later in omega (arith, later));
      there = (λ a low high. elim (leb_tells c.loop-left.at a) [
        | inl past ↦ all a past.1 high
        | inr before ↦ c.loop-left.invariant.there a low before.1
      ]);
      same = sym (first_failing_past P c.loop-left.at c.min-here.result c.loop-left.left fits all) ∙ c.loop-left.invariant.same;
    }

pub returns-then-page-count-clause-first : goal.returns-then-page-count-clause-first
returns-then-page-count-clause-first c =
    let size : ℕ = page_size c.args.map.now in
    let P : ℕ → Bool = λ a. is_page_present c.args.map.now (a / size) in
    let g = c.per_page.ensures.value in
    let missing : P c.loop-left.at ≡ false =
    elim c.then-page-count.branch [
      | then-page-count-via-then-page-count w ↦ grind (arith, common_steps)
      | then-page-count-via-else-page-count+then-not-present w ↦ grind (arith, common_steps)
    ] in
    sym (sym c.loop-left.invariant.same ∙ first_failing_here P c.loop-left.at c.loop-left.left c.loop-left-test.true missing)
