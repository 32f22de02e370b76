use Rattle.vd_answers.proofs.Telling.{tells_over, tells_ok}
use Rattle.vd_control_path.proofs.Parts.{state_line, state_within, within_more}
use Rattle.vd_control_path.proofs.path.ControlPath.bus_line.Goals as goal

pub returns-in-Offered-clause-line : goal.returns-in-Offered-clause-line
returns-in-Offered-clause-line g c = λ made acts s. tells_ok (tells_over (λ more a. state_line c.bus_line.new.state more s a) (c.bus_line.ensures.line made acts s.state))

pub returns-in-Offered-clause-within : goal.returns-in-Offered-clause-within
returns-in-Offered-clause-within g c = λ most w. state_within most _ _ w (c.bus_line.ensures.counts most w.state)

pub returns-in-GetVqState-clause-within : goal.returns-in-GetVqState-clause-within
returns-in-GetVqState-clause-within g c = λ most w. within_more most _ (c.getvqstate.ensures.within most w)

pub returns-in-Attach-clause-within : goal.returns-in-Attach-clause-within
returns-in-Attach-clause-within g c = λ most w. within_more most _ (c.attach.ensures.within most w)
