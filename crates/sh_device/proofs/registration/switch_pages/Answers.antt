use Rattle.std.proofs.Common.{◌≡◌, ℕ, ◌+◌, ◌<◌, ◌∷◌, [], List, Option, None, length, take, get_or, arith, sym, subst, length-take}
use Rattle.std.proofs.lemmas.List.{take_more}
use Rattle.sh_cells.specs.declared.word.Side.{Side}
use Rattle.sh_cells.specs.declared.view.View.{View}
use Rattle.sh_cells.specs.Passes.{view}
use Rattle.sh_device.specs.Spans.{Switches}
use Rattle.sh_device.proofs.Spans.{Switches-snoc}
use Rattle.sh_device.proofs.registration.switch_pages.Goals as goal

pub loop-page-preserved : goal.loop-page-preserved
loop-page-preserved c =
    let inv = c.loop-page.invariant in
    let page = c.loop-page.page in
    let sides = c.args.sides.now in
    let start : View = view c.args.pass.now in
    let before : View = view c.loop-page.pass in
    let after : View = view c.switch_page.new.pass in
    let o : Option Side = get_or sides page None in
    let lt : page < length sides = omega (arith, c.loop-page-test.true, c.requires.inside.1) in
    let size : page ≡ 0 + length (take page sides) = omega (arith, length-take page sides, lt) in
    let next : Switches before (0 + length (take page sides)) (o ∷ []) after = subst (λ (n : ℕ). Switches before n (o ∷ []) after) size c.switch_page.ensures.switches in
    record {
      of = c.switch_page.ensures.of;
      within = omega (arith, c.loop-page-test.true);
      switches = subst (λ (l : List (Option Side)). Switches start 0 l after) (sym (take_more sides page None lt)) (Switches-snoc start before after 0 (take page sides) o inv.switches next);
      left = omega (arith, inv.left, c.switch_page.ensures.left);
    }
