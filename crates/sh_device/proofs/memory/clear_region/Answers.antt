use Rattle.std.proofs.Common.{◌/◌, ◌∙◌, List, Option, None, ap, subst}
use Rattle.sh_cells.specs.declared.word.Side.{Side}
use Rattle.sh_cells.specs.Passes.{view}
use Rattle.sh_device.specs.Spans.{Clears, with_shown}
use Rattle.sh_device.proofs.Spans.{take_replicate}
use Rattle.sh_device.proofs.memory.clear_region.Goals as goal

pub returns-clause-clears : goal.returns-clause-clears
returns-clause-clears c =
    let p = c.args.iova / 4096 in
    let same = take_replicate {A = Option Side} None c.args.count 4096 c.requires.inside.2 in
    record {
      cleared = view c.clear_absent.new.pass;
      clears = subst (λ (l : List (Option Side)). Clears (view c.args.pass.now) p l (view c.clear_absent.new.pass)) same c.clear_absent.ensures.gained;
      gained = c.show_absent.ensures.gained ∙ ap (λ (l : List (Option Side)). with_shown (view c.clear_absent.new.pass) p l) same;
    }
