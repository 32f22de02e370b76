use Rattle.std.proofs.Common.{◌≡◌, ◌-◌, ◌+◌, arith, ap, ◌∙◌, length, min}
use Rattle.vd_bounce.specs.Bounce.{bounce_len, value, home_place}
use Rattle.vd_domain.proofs.Reaches.{high_open, read_is}
use Rattle.vd_domain.proofs.access.read.Goals as goal

pub get-requires-2-clause-there : goal.get-requires-2-clause-there
get-requires-2-clause-there c =
    let is : c.near-near.result ≡ min (length c.args.out.now) (bounce_len c.args.bounce.now - c.args.at) =
    c.near-near.ensures ∙ ap (λ e. min (length c.args.out.now) (e - c.args.at)) c.end_of-end.ensures in
    let start : c.saturating_sub.result ≡ c.args.at - bounce_len c.args.bounce.now = c.saturating_sub.ensures ∙ ap (λ e. c.args.at - e) c.end_of-end.ensures in
    let parts = c.split_at_mut-low.ensures.back_len in
    let long : length c.split_at_mut-low.result.1.now ≡ length c.args.out.now - c.near-near.result = omega arith in
    λ a low high. high_open c.args.bounce.now c.args.shared.now c.args.at (length c.args.out.now) c.near-near.result is c.requires.reach a (omega arith) (omega arith)

pub returns : goal.returns
returns c =
    let is : c.near-near.result ≡ min (length c.args.out.now) (bounce_len c.args.bounce.now - c.args.at) =
    c.near-near.ensures ∙ ap (λ e. min (length c.args.out.now) (e - c.args.at)) c.end_of-end.ensures in
    let start : c.saturating_sub.result ≡ c.args.at - bounce_len c.args.bounce.now = c.saturating_sub.ensures ∙ ap (λ e. c.args.at - e) c.end_of-end.ensures in
    let front : length c.split_at_mut-low.result.0.now ≡ c.near-near.result = c.split_at_mut-low.ensures.front_len in
    let parts = c.split_at_mut-low.ensures.back_len in
    let back : length c.split_at_mut-low.result.1.now ≡ length c.args.out.now - c.near-near.result = omega arith in
    read_is c.args.bounce.now c.args.pool.now c.args.shared.now c.args.store.now c.args.at (length c.args.out.now) c.near-near.result c.get.new.out c.get-2.new.out is
    (omega arith) (λ i below. c.get.ensures i (omega arith))
    (λ i below. c.get-2.ensures i (omega arith) ∙ ap (λ k. value c.args.shared.now c.args.store.now (home_place c.args.shared.now (k + i))) start)
