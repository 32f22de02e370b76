use Rattle.std.proofs.Common.{rules, ◌∙◌, ◌&&◌, ◌/◌, ◌+◌, not}
use Rattle.std.specs.List.{list_any}
use Rattle.vd_model.specs.declared.memory.Origin.TheVariants.{Zero}
use Rattle.vd_model.specs.Live.{page_of}
use Rattle.vd_origins.specs.Runs.{origin_at}
use Rattle.vd_num.specs.Number.{is_within}
use Rattle.vd_origin_moves.specs.Placed.{stretch_meets}
use Rattle.vd_origin_moves.proofs.Pages.{step_more, none_yet, all_done, no_earlier, no_later}
use Rattle.vd_origin_moves.proofs.puts.clear_absent.Goals as goal

pub loop-page-init : goal.loop-page-init
loop-page-init c a less =
    none_yet (page_of c.args.per_page a) (c.args.stretch.slot / c.args.per_page) (stretch_meets c.args.per_page (page_of c.args.per_page a) c.args.stretch)
    (not (list_any (stretch_meets c.args.per_page (page_of c.args.per_page a)) c.args.met.now.items)) Zero _
    (λ early. no_earlier c.args.per_page (page_of c.args.per_page a) c.args.stretch c.requires.some early)

pub loop-page-preserved : goal.loop-page-preserved
loop-page-preserved c a less =
    step_more (λ q. stretch_meets c.args.per_page q c.args.stretch && not (list_any (stretch_meets c.args.per_page q) c.args.met.now.items)) (page_of c.args.per_page a) c.loop-page.page
    (is_within c.absent_part-part.result.at c.absent_part-part.result.len a) Zero _ _ _ (c.absent_part-part.ensures a) (c.in_ok-set.ensures.ok a less) (c.loop-page.invariant a less)

pub returns : goal.returns
returns c a less =
    c.loop-page.invariant a less
    ∙ all_done (page_of c.args.per_page a) ((c.args.stretch.slot + c.args.stretch.count) / c.args.per_page) c.loop-page.page (stretch_meets c.args.per_page (page_of c.args.per_page a) c.args.stretch)
    (not (list_any (stretch_meets c.args.per_page (page_of c.args.per_page a)) c.args.met.now.items)) Zero _
    c.loop-page-test.false (λ late. no_later c.args.per_page (page_of c.args.per_page a) c.args.stretch c.requires.some late)
