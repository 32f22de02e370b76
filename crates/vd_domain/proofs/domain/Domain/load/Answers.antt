use Rattle.std.proofs.Common.{arith, sym, ◌∙◌, length}
use Rattle.vd_domain.specs.Reached.{is_reached}
use Rattle.vd_domain.proofs.Failing.{first_failing_none}
use Rattle.vd_domain.proofs.Steps.{bus_is, loaded}
use Rattle.vd_domain.proofs.Opened.{stands_inside}
use Rattle.vd_domain.proofs.domain.Domain.load.Goals as goal

pub returns-in-Some-clause-ok : goal.returns-in-Some-clause-ok
returns-in-Some-clause-ok c = λ x acts s.
    sym (bus_is x acts _ _ (stands_inside c.self.view_is s) _ _ _ c.self.invariant c.args.at (length c.args.out.now)) ∙ sym c.in-Some.ensures

pub read-requires-clause-reach : goal.read-requires-clause-reach
read-requires-clause-reach c = first_failing_none (is_reached c.self.inside.bounce c.self.inside.shared) c.args.at (length c.args.out.now) (sym c.in_default.ensures)

pub returns-clause-ok : goal.returns-clause-ok
returns-clause-ok c = λ x acts s.
    let held = stands_inside c.self.view_is s in (
      sym (bus_is x acts _ _ held _ _ _ c.self.invariant c.args.at (length c.args.out.now)) ∙ sym c.in_default.ensures,
      loaded x acts _ _ held _ _ _ c.self.invariant c.args.at (length c.args.out.now) c.read.new.out (omega arith) (sym c.in_default.ensures) c.read.ensures,
    )
