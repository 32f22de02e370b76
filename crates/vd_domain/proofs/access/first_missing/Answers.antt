use Rattle.std.proofs.Common.{◌≡◌, ◌-◌, ◌+◌, ◌≤◌, arith, ap, sym, ◌∙◌, min, Some, None, ◌/◌, inl, inr}
use Rattle.std.proofs.lemmas.Bool.Decides.{leb_tells}
use Rattle.vd_bounce.specs.Bounce.{bounce_len, is_page_present, page_size}
use Rattle.vd_model.specs.AreaTurns.{first_failing}
use Rattle.vd_domain.specs.Reached.{is_reached}
use Rattle.vd_domain.proofs.Failing.{first_failing_all, first_failing_found, first_failing_same}
use Rattle.vd_domain.proofs.Reaches.{low_same, before, joined}
use Rattle.vd_domain.proofs.access.first_missing.Goals as goal

pub returns-then-is_in_page : goal.returns-then-is_in_page
returns-then-is_in_page c = sym (first_failing_all (is_reached c.args.bounce.now c.args.shared.now) c.args.at c.args.len (c.is_in_page.ensures c.if-is_in_page.true))

pub returns-in-Some : goal.returns-in-Some
returns-in-Some c =
    let is : c.near-near.result ≡ min c.args.len (bounce_len c.args.bounce.now - c.args.at) =
    c.near-near.ensures ∙ ap (λ e. min c.args.len (e - c.args.at)) c.end_of-end.ensures in
    let b = c.args.bounce.now in
    sym (first_failing_found (is_reached b c.args.shared.now) c.args.at c.near-near.result c.args.len c.in-Some.bad (omega arith)
    (first_failing_same (is_reached b c.args.shared.now) (λ a. is_page_present b (a / page_size b)) c.args.at c.near-near.result
    (λ a low high. low_same b c.args.shared.now a (let k = before c.args.at c.args.len c.near-near.result (bounce_len b) is (a - c.args.at) (omega arith) in omega arith))
    ∙ sym c.in-Some.ensures.first))

pub overflow_add-result : goal.overflow_add-result
overflow_add-result c =
    let bound = c.in-Some-first_missing_in.ensures.bound in
    let at = c.ranges.at.fits in
    let small = c.requires.small in
    let shared = c.requires.shared_small in
    let top = c.end_of-end.ensures in
    let start = c.saturating_sub.ensures in
    elim (leb_tells c.in-Some-first_missing_in.bad c.saturating_sub.result) [
      | inl low ↦ (let l = low.1 in omega arith)
      | inr high ↦ (let most : c.in-Some-first_missing_in.bad ≤ bounce_len c.args.shared.now = bound high.1 in omega arith)
    ]

pub returns-in-Some-first_missing_in : goal.returns-in-Some-first_missing_in
returns-in-Some-first_missing_in c =
    let is : c.near-near.result ≡ min c.args.len (bounce_len c.args.bounce.now - c.args.at) =
    c.near-near.ensures ∙ ap (λ e. min c.args.len (e - c.args.at)) c.end_of-end.ensures in
    let start : c.saturating_sub.result ≡ c.args.at - bounce_len c.args.bounce.now = c.saturating_sub.ensures ∙ ap (λ e. c.args.at - e) c.end_of-end.ensures in
    let b = c.args.bounce.now in
    let s = c.args.shared.now in
    ap (λ e. Some (c.in-Some-first_missing_in.bad + e)) c.end_of-end.ensures
    ∙ sym (joined b s c.args.at c.args.len c.near-near.result is c.in_default.ensures.there (Some c.in-Some-first_missing_in.bad)
    (sym (c.in-Some-first_missing_in.ensures.first ∙ ap (λ k. first_failing (λ a. is_page_present s (a / page_size s)) k (c.args.len - c.near-near.result)) start)))

pub returns-in-None : goal.returns-in-None
returns-in-None c =
    let is : c.near-near.result ≡ min c.args.len (bounce_len c.args.bounce.now - c.args.at) =
    c.near-near.ensures ∙ ap (λ e. min c.args.len (e - c.args.at)) c.end_of-end.ensures in
    let start : c.saturating_sub.result ≡ c.args.at - bounce_len c.args.bounce.now = c.saturating_sub.ensures ∙ ap (λ e. c.args.at - e) c.end_of-end.ensures in
    let b = c.args.bounce.now in
    let s = c.args.shared.now in
    sym (joined b s c.args.at c.args.len c.near-near.result is c.in_default.ensures.there None
    (sym (c.in-None.ensures.first ∙ ap (λ k. first_failing (λ a. is_page_present s (a / page_size s)) k (c.args.len - c.near-near.result)) start)))
