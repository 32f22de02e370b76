use Rattle.std.proofs.Common.{◌≡◌, ℕ, ◌<◌, ◌^◌, ◌&&◌, not, nat_lt, if◌then◌else◌}
use Rattle.std.specs.List.{list_any}
use Rattle.vd_model.specs.declared.memory.Origin.TheVariants.{Zero}
use Rattle.vd_model.specs.Live.{page_of}
use Rattle.vd_origins.specs.Runs.{origin_at}
use Rattle.vd_origin_moves.specs.Placed.{stretch_meets}
use Rattle.vd_origin_moves.proofs.puts.clear_absent.Given as goal

-- the pages before this one are done
abbrev pub invariant-loop-page : goal.invariant-loop-page
invariant-loop-page l = (a : ℕ) → a < 2 ^ 64 → origin_at l.bus a
    ≡ (if nat_lt (page_of l.per_page a) l.page && (stretch_meets l.per_page (page_of l.per_page a) l.stretch && not (list_any (stretch_meets l.per_page (page_of l.per_page a)) l.met.items))
    then Zero else origin_at l.initial.bus a)
