use Rattle.std.proofs.Common.{◌≡◌, ◌+◌, ◌∷◌, [], Option, None, length, take, get_or, arith, sym, ap, ◌∙◌, length-take}
use Rattle.std.proofs.lemmas.List.{take_more}
use Rattle.sh_cells.specs.declared.word.Side.{Side}
use Rattle.sh_cells.specs.declared.view.View.{View}
use Rattle.sh_cells.specs.Passes.{view}
use Rattle.sh_device.specs.Spans.{with_shown}
use Rattle.sh_device.proofs.Spans.{with_shown-snoc}
use Rattle.sh_device.proofs.span.show_absent.Goals as goal

pub loop-i-preserved : goal.loop-i-preserved
loop-i-preserved c =
    let inv = c.loop-i.invariant in
    let i = c.loop-i.i in
    let found = c.args.found.now in
    let page = c.args.page in
    let start : View = view c.args.pass.now in
    let o : Option Side = get_or found i None in
    let size : page + i ≡ page + length (take i found) = omega (arith, length-take i found, c.loop-i-test.true) in
    record {
      of = c.show_one.ensures.of;
      within = omega (arith, c.loop-i-test.true);
      gained = c.show_one.ensures.gained ∙ ap (λ (v : View). with_shown v (page + i) (o ∷ [])) inv.gained ∙ ap (λ n. with_shown (with_shown start page (take i found)) n (o ∷ [])) size
          ∙ sym (with_shown-snoc start page (take i found) o) ∙ ap (with_shown start page) (sym (take_more found i None c.loop-i-test.true));
    }
