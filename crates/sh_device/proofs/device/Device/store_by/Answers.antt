use Rattle.sh_device.proofs.Going.{goes_bytes, goes_found, goes_to, goes_trans}
use Rattle.std.proofs.Common.{◌≡◌, arith, ap, ◌∙◌, ◌/◌, take}
use Rattle.sh_cells.specs.declared.view.View.{View}
use Rattle.sh_cells.specs.Passes.{view}
use Rattle.sh_device.proofs.Spans.{found_left}
use Rattle.sh_device.proofs.device.Device.store_by.Goals as goal

pub write_on-requires-clause-left : goal.write_on-requires-clause-left
write_on-requires-clause-left g c =
    let start : View = view c.args.pass.now in
    let same : (view c.find_range.new.pass).left ≡ start.left = ap (λ (v : View). v.left) c.in_ok-count.ensures.found ∙ found_left start (c.args.at / 4096) (take c.in_ok-count.count c.find_range.new.found) in
    omega (arith, same, c.requires.left)

pub returns-clause-goes : goal.returns-clause-goes
returns-clause-goes g c =
    let found = take c.in_ok-count.count c.find_range.new.found in
    goes_trans _ _ _ (goes_to _ _ _ (goes_found _ (c.args.at / 4096) found) c.in_ok-count.ensures.found) (goes_to _ _ _ (goes_bytes _ _ _ found _ _) c.write_on.ensures.gained)
