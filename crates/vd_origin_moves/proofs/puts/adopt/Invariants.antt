use Rattle.std.proofs.Common.{◌≡◌, ℕ, ◌-◌, ◌<◌, ◌^◌, ◌&&◌, nat_lt, if◌then◌else◌}
use Rattle.std.specs.List.{list_any}
use Rattle.vd_num.specs.Number.{is_within}
use Rattle.vd_model.specs.Live.{page_of}
use Rattle.vd_origins.specs.Runs.{origin_at}
use Rattle.vd_origin_moves.specs.Placed.{stretch_meets, stretch_of}
use Rattle.vd_origin_moves.proofs.puts.adopt.Given as goal

-- the pages before this one are done
abbrev pub invariant-loop-page : goal.invariant-loop-page
invariant-loop-page l = (o : ℕ) → o < 2 ^ 64 → origin_at l.area o
    ≡ (if is_within l.kept.base l.kept.size o
    && (nat_lt (page_of l.per_page (o - l.kept.base)) l.page && list_any (λ p. stretch_meets l.per_page (page_of l.per_page (o - l.kept.base)) (stretch_of p)) l.live.items)
    then origin_at l.bus (o - l.kept.base) else origin_at l.initial.area o)
