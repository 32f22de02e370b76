use Rattle.std.proofs.Common.{◌+◌, ◌-◌, ◌*◌, ◌<◌, ◌≤◌, arith, ap, sym, subst, ◌∙◌, Some}
use Rattle.std.specs.Option.{option_map}
use Rattle.vd_num.specs.declared.number.Range.{Range}
use Rattle.vd_domain.specs.Handed.{range_of}
use Rattle.vd_domain.proofs.domain.Domain.coherent.Goals as goal

pub overflow_mul-result : goal.overflow_mul-result
overflow_mul-result c =
    let i = c.in-Some.ensures.inside in
    let some = i.0 in
    let top = i.1 in
    omega arith

pub overflow_add-result : goal.overflow_add-result
overflow_add-result c =
    let i = c.in-Some.ensures.inside in
    let top : c.in-Some.r.slot + c.pages.result ≤ 65536 = subst (λ n. c.in-Some.r.slot + n ≤ 65536) (sym c.pages.ensures.value) i.1 in
    omega arith

pub overflow_mul-result-in-Some : goal.overflow_mul-result-in-Some
overflow_mul-result-in-Some c =
    let i = c.in-Some.ensures.inside in
    let top : c.in-Some.r.slot + c.pages.result ≤ 65536 = subst (λ n. c.in-Some.r.slot + n ≤ 65536) (sym c.pages.ensures.value) i.1 in
    omega arith

pub overflow_sub-result : goal.overflow_sub-result
overflow_sub-result c =
    let i = c.in-Some.ensures.inside in
    let some : 0 < c.pages.result = subst (λ n. 0 < n) (sym c.pages.ensures.value) i.0 in
    omega arith

pub returns-in-Some : goal.returns-in-Some
returns-in-Some c =
    ap (λ n. let r : Range = record { start = 4096 * c.in-Some.r.slot; last = 4096 * (c.in-Some.r.slot + n) - 1 } in Some r) c.pages.ensures.value
    ∙ sym (ap (option_map range_of) c.in-Some.ensures.live)

pub returns-in-None : goal.returns-in-None
returns-in-None c = sym (ap (option_map range_of) c.in-None.ensures.live)
