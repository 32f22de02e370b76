use Rattle.std.proofs.Common.{◌≡◌, ◌-◌, ◌*◌, ◌%◌, ◌≤◌, List, length}
use Rattle.sh_cells.specs.declared.word.Word.{Word}
use Rattle.sh_cells.specs.Passes.{view, IsOf}
use Rattle.sh_device.specs.Spans.{with_copied}
use Rattle.sh_device.proofs.registration.copy_page.Given as goal

abbrev pub invariant-loop-i : goal.invariant-loop-i
invariant-loop-i l = record {
  of : IsOf l.cells l.pass;
  even : l.i % 2 ≡ 0;
  within : l.i ≤ 4096;
  copies : (words : List Word) × (l.i ≡ 2 * length words) × (view l.pass ≡ with_copied (view l.initial.pass) l.stamp l.from l.to l.first words);
}

abbrev pub decreases-loop-i : goal.decreases-loop-i
decreases-loop-i l = 4096 - l.i
