use Rattle.std.proofs.Common.{ℕ, List, ap, sym, ◌∙◌}
use Rattle.vd_model.specs.Acts.{Driver}
use Rattle.vd_model.specs.Turn.{lift}
use Rattle.vd_model.specs.DriverTurns.{driver_turn, buf_turn}
use Rattle.vd_answers.proofs.Telling.{may_tell_as}
use Rattle.vd_memory_lines.proofs.memory.Memory.driver_line.Goals as goal

pub returns-in-Buf-clause-line : goal.returns-in-Buf-clause-line
returns-in-Buf-clause-line g c = λ x acts s. may_tell_as (ap (λ t. lift Driver (driver_turn x acts t)) c.in-Buf.is ∙ ap (λ (l : List ℕ). lift Driver (buf_turn acts l)) (sym c.as_slice.ensures)) (c.buf.ensures.line x acts c.args.pool.now s)

pub returns-in-Zeros-clause-line : goal.returns-in-Zeros-clause-line
returns-in-Zeros-clause-line g c = λ x acts s. may_tell_as (ap (λ t. lift Driver (driver_turn x acts t)) c.in-Zeros.is) (c.zeros.ensures.line x acts c.args.pool.now s)

pub returns-in-Peek-clause-line : goal.returns-in-Peek-clause-line
returns-in-Peek-clause-line g c = λ x acts s. may_tell_as (ap (λ t. lift Driver (driver_turn x acts t)) c.in-Peek.is) (c.peek.ensures.line x acts c.args.pool.now s)

pub returns-in-Coherent-clause-line : goal.returns-in-Coherent-clause-line
returns-in-Coherent-clause-line g c = λ x acts s. may_tell_as (ap (λ t. lift Driver (driver_turn x acts t)) c.in-Coherent.is) (c.coherent.ensures.line x acts c.args.pool.now s)

pub returns-in-Cget-clause-line : goal.returns-in-Cget-clause-line
returns-in-Cget-clause-line g c = λ x acts s. may_tell_as (ap (λ t. lift Driver (driver_turn x acts t)) c.in-Cget.is) (c.cget.ensures.line x acts c.args.pool.now s)
