use Rattle.std.proofs.Common.{rules, ◌∙◌, ◌+◌, ◌*◌, nat_lt, arith}
use Rattle.std.specs.List.{list_any}
use Rattle.vd_model.specs.Live.{page_of}
use Rattle.vd_origins.specs.Runs.{origin_at}
use Rattle.vd_origin_moves.specs.Placed.{stretch_meets, stretch_of}
use Rattle.vd_origin_moves.proofs.Pages.{guarded_more, to_target, all_passed}
use Rattle.vd_origin_moves.proofs.puts.give_back.Goals as goal

pub loop-page-preserved : goal.loop-page-preserved
loop-page-preserved c a less =
    guarded_more (nat_lt a c.args.kept.size) (λ q. list_any (λ p. stretch_meets c.args.per_page q (stretch_of p)) c.args.live.now.items) (page_of c.args.per_page a) c.loop-page.page
    _ (origin_at c.args.area.now (c.args.kept.base + a)) _ _ _ (c.used_part-part.ensures.has a)
    (c.in_ok-copy.ensures.ok a less ∙ to_target (λ n. origin_at c.args.area.now n) c.args.kept.base c.used_part-part.result.at c.used_part-part.result.len a _) (c.loop-page.invariant a less)

pub returns : goal.returns
returns c a less =
    c.loop-page.invariant a less
    ∙ all_passed (4096 * c.args.per_page) a c.args.kept.size c.loop-page.page (list_any (λ p. stretch_meets c.args.per_page (page_of c.args.per_page a) (stretch_of p)) c.args.live.now.items) _ _ (let some = c.requires.some in omega arith) c.loop-page-test.false
