use Rattle.std.proofs.Common.{◌≡◌, ◌-◌, ℕ, arith, ap, ◌∙◌, length, min, take, drop, List, refl, length-take, length-drop}
use Rattle.vd_bounce.specs.Bounce.{Iova, bounce_len, value, over, home_by}
use Rattle.vd_domain.proofs.Reaches.{high_open, written_behind}
use Rattle.vd_domain.proofs.access.write.Goals as goal

pub put-requires-2-clause-there : goal.put-requires-2-clause-there
put-requires-2-clause-there c =
    let is : c.near-near.result ≡ min (length c.args.bytes.now) (bounce_len c.args.bounce.now - c.args.at) =
    c.near-near.ensures ∙ ap (λ e. min (length c.args.bytes.now) (e - c.args.at)) c.end_of-end.ensures in
    let start : c.saturating_sub.result ≡ c.args.at - bounce_len c.args.bounce.now = c.saturating_sub.ensures ∙ ap (λ e. c.args.at - e) c.end_of-end.ensures in
    let long : length (take (length c.args.bytes.now - c.near-near.result) (drop c.near-near.result c.args.bytes.now)) ≡ length c.args.bytes.now - c.near-near.result = simp (length-take, length-drop) (omega arith) in
    λ a low high. high_open c.args.bounce.now c.args.shared.now c.args.at (length c.args.bytes.now) c.near-near.result is c.requires.reach a (omega arith) (omega arith)

pub returns-clause-shared_bytes : goal.returns-clause-shared_bytes
returns-clause-shared_bytes c =
    let is : c.near-near.result ≡ min (length c.args.bytes.now) (bounce_len c.args.bounce.now - c.args.at) =
    c.near-near.ensures ∙ ap (λ e. min (length c.args.bytes.now) (e - c.args.at)) c.end_of-end.ensures in
    let start : c.saturating_sub.result ≡ c.args.at - bounce_len c.args.bounce.now = c.saturating_sub.ensures ∙ ap (λ e. c.args.at - e) c.end_of-end.ensures in
    let text : List ℕ = take (length c.args.bytes.now - c.near-near.result) (drop c.near-near.result c.args.bytes.now) in
    λ b. c.put-2.ensures.bytes (Iova b)
    ∙ ap (λ u. over (home_by u c.saturating_sub.result) text (Iova b) (value c.args.shared.now c.args.store.now (Iova b))) c.requires.plain
    ∙ ap (λ k. over (Iova k) text (Iova b) (value c.args.shared.now c.args.store.now (Iova b))) start
    ∙ written_behind c.args.at (length c.args.bytes.now) c.near-near.result (bounce_len c.args.bounce.now) c.args.bytes.now b (value c.args.shared.now c.args.store.now (Iova b)) refl is
