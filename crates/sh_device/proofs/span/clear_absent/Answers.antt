use Rattle.std.proofs.Common.{◌≡◌, ℕ, ◌+◌, ◌∷◌, [], List, Option, None, length, take, get_or, arith, sym, subst, length-take}
use Rattle.std.proofs.lemmas.List.{take_more}
use Rattle.sh_cells.specs.declared.word.Side.{Side}
use Rattle.sh_cells.specs.declared.view.View.{View}
use Rattle.sh_cells.specs.Passes.{view}
use Rattle.sh_device.specs.Spans.{Clears}
use Rattle.sh_device.proofs.Spans.{Clears-snoc}
use Rattle.sh_device.proofs.span.clear_absent.Goals as goal

pub loop-i-preserved : goal.loop-i-preserved
loop-i-preserved c =
    let inv = c.loop-i.invariant in
    let i = c.loop-i.i in
    let found = c.args.found.now in
    let page = c.args.page in
    let start : View = view c.args.pass.now in
    let before : View = view c.loop-i.pass in
    let after : View = view c.clear_one.new.pass in
    let o : Option Side = get_or found i None in
    let size : page + i ≡ page + length (take i found) = omega (arith, length-take i found, c.loop-i-test.true) in
    let next : Clears before (page + length (take i found)) (o ∷ []) after = subst (λ (n : ℕ). Clears before n (o ∷ []) after) size c.clear_one.ensures.gained in
    record {
      of = c.clear_one.ensures.of;
      within = omega (arith, c.loop-i-test.true);
      gained = subst (λ (l : List (Option Side)). Clears start page l after) (sym (take_more found i None c.loop-i-test.true)) (Clears-snoc start before after page (take i found) o inv.gained next);
      left = omega (arith, inv.left, c.clear_one.ensures.left);
    }
