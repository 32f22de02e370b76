use Rattle.std.proofs.Common.{◌≡◌, ℕ, ◌+◌, ◌<◌, ◌^◌, ◌&&◌, nat_lt, if◌then◌else◌}
use Rattle.std.specs.List.{list_any}
use Rattle.vd_model.specs.Live.{page_of}
use Rattle.vd_origins.specs.Runs.{origin_at}
use Rattle.vd_origin_moves.specs.Placed.{stretch_meets, stretch_of}
use Rattle.vd_origin_moves.proofs.puts.give_back.Given as goal

-- the pages before this one are done
abbrev pub invariant-loop-page : goal.invariant-loop-page
invariant-loop-page l = (a : ℕ) → a < 2 ^ 64 → origin_at l.bus a
    ≡ (if nat_lt a l.kept.size && (nat_lt (page_of l.per_page a) l.page && list_any (λ p. stretch_meets l.per_page (page_of l.per_page a) (stretch_of p)) l.live.items)
    then origin_at l.area (l.kept.base + a) else origin_at l.initial.bus a)
