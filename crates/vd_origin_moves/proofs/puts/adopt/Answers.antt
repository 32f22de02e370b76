use Rattle.std.proofs.Common.{rules, ◌∙◌, ◌-◌, ◌*◌, ◌==◌, arith}
use Rattle.std.specs.List.{list_any}
use Rattle.vd_model.specs.Live.{page_of}
use Rattle.vd_origins.specs.Runs.{origin_at}
use Rattle.vd_num.specs.Number.{is_within}
use Rattle.vd_origin_moves.specs.Placed.{stretch_meets, stretch_of}
use Rattle.vd_origin_moves.proofs.Pages.{guarded_more, moved_part, from_source, all_moved}
use Rattle.vd_origin_moves.proofs.puts.adopt.Goals as goal

pub loop-page-preserved : goal.loop-page-preserved
loop-page-preserved c o less =
    guarded_more (is_within c.args.kept.base c.args.kept.size o) (λ q. list_any (λ p. stretch_meets c.args.per_page q (stretch_of p)) c.args.live.now.items) (page_of c.args.per_page (o - c.args.kept.base)) c.loop-page.page
    _ (origin_at c.args.bus.now (o - c.args.kept.base)) _ _ _
    (moved_part c.args.kept.base c.used_part-part.result.at c.used_part-part.result.len c.args.kept.size o
    (list_any (λ p. stretch_meets c.args.per_page c.loop-page.page (stretch_of p)) c.args.live.now.items) (page_of c.args.per_page (o - c.args.kept.base) == c.loop-page.page)
    (c.used_part-part.ensures.has (o - c.args.kept.base)))
    (c.in_ok-copy.ensures.ok o less ∙ from_source (λ n. origin_at c.args.bus.now n) c.args.kept.base c.used_part-part.result.at c.used_part-part.result.len o _) (c.loop-page.invariant o less)

pub returns : goal.returns
returns c o less =
    c.loop-page.invariant o less
    ∙ all_moved (4096 * c.args.per_page) c.args.kept.base c.args.kept.size o c.loop-page.page (list_any (λ p. stretch_meets c.args.per_page (page_of c.args.per_page (o - c.args.kept.base)) (stretch_of p)) c.args.live.now.items) _ _ (let some = c.requires.some in omega arith) c.loop-page-test.false
