use Rattle.std.proofs.Common.{◌≡◌, arith, ap, ◌∙◌, ◌/◌}
use Rattle.sh_cells.specs.declared.view.View.{View}
use Rattle.sh_cells.specs.Passes.{view}
use Rattle.sh_device.proofs.Spans.{found_left}
use Rattle.sh_device.proofs.memory.hand.Goals as goal

pub clear_absent-requires-clause-left : goal.clear_absent-requires-clause-left
clear_absent-requires-clause-left c =
    let start : View = view c.args.pass.now in
    let same : (view c.find_pages.new.pass).left ≡ start.left = ap (λ (v : View). v.left) c.find_pages.ensures.found ∙ found_left start (c.args.iova / 4096) c.find_pages.new.found in
    omega (arith, same, c.requires.left, c.find_pages.auto.found)

pub write_on-stamp-requires-clause-left : goal.write_on-stamp-requires-clause-left
write_on-stamp-requires-clause-left c =
    let start : View = view c.args.pass.now in
    let same : (view c.find_pages.new.pass).left ≡ start.left = ap (λ (v : View). v.left) c.find_pages.ensures.found ∙ found_left start (c.args.iova / 4096) c.find_pages.new.found in
    omega (arith, same, c.requires.left, c.find_pages.auto.found, c.clear_absent.ensures.left)
