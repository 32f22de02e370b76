use Rattle.std.proofs.Common.{ap, subst}
use Rattle.vd_answers.proofs.Telling.{tells_as}
use Rattle.vd_instance.specs.Lines.{ring_line_turn, HasParts}
use Rattle.vd_instance.proofs.line.RingLine.answer.Goals as goal

pub add-requires-clause-some : goal.add-requires-clause-some
add-requires-clause-some g c = subst HasParts c.in-Add.is c.requires.some

pub returns-in-Unring-clause-line : goal.returns-in-Unring-clause-line
returns-in-Unring-clause-line g c = λ x made acts q s k owned known. tells_as (ap (ring_line_turn x made acts q) c.in-Unring.is) (c.unring.ensures.line x made acts q s k owned known)

pub returns-in-Add-clause-line : goal.returns-in-Add-clause-line
returns-in-Add-clause-line g c = λ x made acts q s k owned known. tells_as (ap (ring_line_turn x made acts q) c.in-Add.is) (c.add.ensures.line x made acts c.args.pool.now q s k known)

pub returns-in-Publish-clause-line : goal.returns-in-Publish-clause-line
returns-in-Publish-clause-line g c = λ x made acts q s k owned known. tells_as (ap (ring_line_turn x made acts q) c.in-Publish.is) (c.publish.ensures.line x made acts c.args.pool.now q s k known)

pub returns-in-Poll-clause-line : goal.returns-in-Poll-clause-line
returns-in-Poll-clause-line g c = λ x made acts q s k owned known. tells_as (ap (ring_line_turn x made acts q) c.in-Poll.is) (c.poll.ensures.line x made acts q s k owned known)
