use Rattle.vd_script.proofs.StepsKept.{again}
use Rattle.vd_script.proofs.print.print_step.Goals as goal

pub returns-clause-again : goal.returns-clause-again
returns-clause-again c = again c.requires.0 c.args.step.now c.requires.1

pub returns-in_err-put_line-clause-again : goal.returns-in_err-put_line-clause-again
returns-in_err-put_line-clause-again c = again c.requires.0 c.args.step.now c.requires.1
