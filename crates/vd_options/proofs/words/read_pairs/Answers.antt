use Rattle.std.proofs.Common.{◌≡◌, ◌∙◌, ◌<◌, sym, ap, arith, Some, map, length}
use Rattle.std.proofs.lemmas.Grind.{common_steps}
use Rattle.std.specs.Prelude.{string_bytes}
use Rattle.vd_options.specs.Words.{with_pair, with_pairs}
use Rattle.vd_options.proofs.Numbers.{pairs_next, pairs_odd, rest_of}
use Rattle.vd_options.proofs.words.read_pairs.Goals as goal

pub loop-rest-preserved : goal.loop-rest-preserved
loop-rest-preserved c =
    let same : with_pair c.loop-rest.chosen (string_bytes c.index-rest-0.result) (string_bytes c.index-rest-1.result) ≡ Some c.in-Some.more =
    ap (λ f. with_pair c.loop-rest.chosen f (string_bytes c.index-rest-1.result)) (sym c.as_bytes.ensures.value)
    ∙ ap (λ v. with_pair c.loop-rest.chosen c.as_bytes.result.now v) (sym c.as_bytes-in-loop-rest.ensures.value) ∙ sym c.in-Some.ensures in
    ap (λ l. with_pairs c.in-Some.more (map string_bytes l)) (rest_of 2 c.loop-rest.rest.now)
    ∙ sym (pairs_next string_bytes c.loop-rest.chosen c.in-Some.more c.loop-rest.rest.now c.index-rest-0.result c.index-rest-1.result (omega arith) c.index-rest-0.is c.index-rest-1.is same)
    ∙ c.loop-rest.invariant

pub returns-then-rest-lt2 : goal.returns-then-rest-lt2
returns-then-rest-lt2 c =
    let some : 0 < length c.loop-rest.rest.now = grind (arith, common_steps) in
    sym (pairs_odd string_bytes c.loop-rest.chosen c.loop-rest.rest.now some (omega arith)) ∙ c.loop-rest.invariant
