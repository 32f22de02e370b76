use Rattle.std.proofs.Common.{◌-◌, ◌+◌, ◌*◌, arith, if◌then◌else◌, false, ap, ◌∙◌}
use Rattle.std.specs.List.{slice_index, slice_index_or}
use Rattle.vd_num.specs.Number.{is_within}
use Rattle.vd_bounce.specs.Frames.{frame_byte}
use Rattle.vd_bounce.proofs.Pages.{area_then, area_else}
use Rattle.std.proofs.lemmas.Grind.{common_steps}
use Rattle.vd_bounce.proofs.Kept.{keeps_more}
use Rattle.vd_bounce.proofs.rows.adopt.Goals.{then-in_use-page, else-in_use-page}
use Rattle.vd_bounce.proofs.rows.adopt.Goals as goal

pub loop-page-preserved : goal.loop-page-preserved
loop-page-preserved c = elim c.if-in_use-page.branch [
  | then-in_use-page w ↦ record {
    kept = grind (arith, common_steps);
    bytes = λ a. grind (arith, common_steps, c.loop-page.invariant.bytes a);
    area = λ o. ap (λ l. slice_index l o) w.area-is ∙ w.copy_out.ensures o
        ∙ ap (λ old. if is_within (c.args.from + c.args.size * c.loop-page.page) c.args.size o then frame_byte c.args.size c.loop-page.frames c.loop-page.pool (o - c.args.from) else old) (c.loop-page.invariant.area o)
        ∙ area_then c.args.size c.args.from c.loop-page.page o c.requires.some _ _ _ (λ q. slice_index_or c.args.in_use.now q false) w.if-in_use-page.true
        (λ here. grind (arith, common_steps, c.loop-page.invariant.bytes (o - c.args.from)));
    present = λ p. grind (arith, common_steps, c.loop-page.invariant.present p);
  }
  | else-in_use-page w ↦ record {
    kept = keeps_more c.loop-page.invariant.kept (rw (w.frames-is, w.pool-is) w.drop_page.ensures.kept);
    bytes = λ a. grind (arith, common_steps, c.loop-page.invariant.bytes a, w.drop_page.ensures.bytes c.args.size a);
    area = λ o. ap (λ l. slice_index l o) w.area-is ∙ c.loop-page.invariant.area o
        ∙ area_else c.args.size c.args.from c.loop-page.page o c.requires.some _ _ (λ q. slice_index_or c.args.in_use.now q false) w.if-in_use-page.false;
    present = λ p. grind (arith, common_steps, c.loop-page.invariant.present p, w.drop_page.ensures.present p);
  }
]
