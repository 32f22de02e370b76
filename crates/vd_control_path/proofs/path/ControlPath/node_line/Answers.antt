use Rattle.std.proofs.Common.{ap, sym, ◌∙◌}
use Rattle.vd_model.specs.NodeTurns.{plain_turn, write_turn}
use Rattle.vd_answers.proofs.Telling.{tells_as, tells_over}
use Rattle.vd_control_path.proofs.Parts.{state_line, message_line, state_within}
use Rattle.vd_control_path.proofs.path.ControlPath.node_line.Goals as goal

pub returns-in-Write-clause-line : goal.returns-in-Write-clause-line
returns-in-Write-clause-line g c = λ made acts s.
    tells_as (ap (plain_turn made acts) c.in-Write.is ∙ ap (write_turn acts) (sym c.as_slice-in-Write.ensures)) (tells_over (λ more a. message_line c.write.new.messages more s a) (c.write.ensures.line acts s.messages))

pub returns-in-Features-clause-line : goal.returns-in-Features-clause-line
returns-in-Features-clause-line g c = λ made acts s. tells_over (λ more a. state_line c.node_line.new.state more s a) (c.node_line.ensures.line made acts s.state)

pub returns-in-Features-clause-within : goal.returns-in-Features-clause-within
returns-in-Features-clause-within g c = λ most w. state_within most _ _ w (c.node_line.ensures.counts most w.state)
