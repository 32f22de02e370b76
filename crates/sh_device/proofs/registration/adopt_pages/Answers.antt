use Rattle.std.proofs.Common.{List, Option, subst}
use Rattle.std.specs.Prelude.{Some}
use Rattle.sh_cells.specs.declared.word.Side.{Side}
use Rattle.sh_cells.specs.declared.word.Side.TheVariants.{Second}
use Rattle.sh_cells.specs.Passes.{view}
use Rattle.sh_device.specs.Spans.{Switches}
use Rattle.sh_device.proofs.Spans.{take_replicate}
use Rattle.sh_device.proofs.registration.adopt_pages.Goals as goal

pub returns-clause-switches : goal.returns-clause-switches
returns-clause-switches c =
    subst (λ (l : List (Option Side)). Switches (view c.args.pass.now) 0 l (view c.switch_pages.new.pass)) (take_replicate {A = Option Side} (Some Second) c.args.count 4096 c.requires.inside.1) c.switch_pages.ensures.switches
