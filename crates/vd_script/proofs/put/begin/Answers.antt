use Rattle.std.proofs.Common.{map, decimal}
use Rattle.std.proofs.lemmas.Result.{IfOk-equal}
use Rattle.vd_script.proofs.Lines.{named_words}
use Rattle.vd_script.proofs.put.begin.Goals as goal

pub returns : goal.returns
returns c = IfOk-equal c.put_numbers.result _ _ _ c.put_numbers.ensures
    (named_words c.args.into.now c.extend_from_slice.new.self c.put_name.new.into c.args.first.now c.args.device.now (map decimal c.args.numbers.now) c.in_ok-extend_from_slice.ensures.ok c.in_ok-put_name.ensures)
