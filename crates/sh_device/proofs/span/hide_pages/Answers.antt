use Rattle.std.proofs.Common.{◌≡◌, suc, ◌+◌, arith, sym, ap, ◌∙◌}
use Rattle.std.specs.Prelude.{None}
use Rattle.sh_cells.specs.declared.view.View.{View}
use Rattle.sh_cells.specs.Passes.{view}
use Rattle.sh_cells.specs.Views.{page_store, with_page_store}
use Rattle.sh_device.specs.Spans.{with_hidden}
use Rattle.sh_device.proofs.Spans.{with_hidden-more}
use Rattle.sh_device.proofs.span.hide_pages.Goals as goal

pub loop-i-preserved : goal.loop-i-preserved
loop-i-preserved c =
    let inv = c.loop-i.invariant in
    let i = c.loop-i.i in
    let page = c.args.page in
    let start : View = view c.args.pass.now in
    let next : i + 1 ≡ suc i = omega arith in
    record {
      of = c.set_page.ensures.of;
      within = omega (arith, c.loop-i-test.true);
      gained = c.set_page.ensures.gained ∙ ap (λ (v : View). with_page_store v (page_store (page + i) None)) inv.gained ∙ sym (with_hidden-more start page i) ∙ ap (with_hidden start page) (sym next);
    }
