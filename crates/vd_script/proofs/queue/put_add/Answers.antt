use Rattle.std.proofs.Common.{map, ap, decimal}
use Rattle.std.proofs.lemmas.Result.{IfOk-equal}
use Rattle.vd_model.specs.Text.{part_text}
use Rattle.vd_script.proofs.Lines.{more_words}
use Rattle.vd_script.proofs.queue.put_add.Goals as goal

pub returns : goal.returns
returns c = IfOk-equal c.put_parts.result _ _ _ c.put_parts.ensures
    (more_words c.args.into.now c.begin.new.into _ _ c.args.name.now _ _ (map part_text c.args.parts.now) c.text.ensures (ap decimal c.from.ensures) c.in_ok-begin.ensures)
