use Rattle.std.proofs.Common.{sym, ◌∙◌, length}
use Rattle.vd_domain.specs.Reached.{is_reached}
use Rattle.vd_domain.proofs.Failing.{first_failing_none}
use Rattle.vd_domain.proofs.Steps.{bus_is, stored}
use Rattle.vd_domain.proofs.Opened.{stands_inside}
use Rattle.vd_domain.proofs.domain.Domain.store.Goals as goal

pub returns-in-Some-clause-ok : goal.returns-in-Some-clause-ok
returns-in-Some-clause-ok c = λ x acts s.
    sym (bus_is x acts _ _ (stands_inside c.self.view_is s) _ _ _ c.self.invariant c.args.at (length c.args.bytes.now)) ∙ sym c.in-Some.ensures

pub write-requires-clause-reach : goal.write-requires-clause-reach
write-requires-clause-reach c = first_failing_none (is_reached c.self.inside.bounce c.self.inside.shared) c.args.at (length c.args.bytes.now) (sym c.in_default.ensures)

pub returns-clause-ok : goal.returns-clause-ok
returns-clause-ok c = λ x acts s.
    let held = stands_inside c.self.view_is s in
    let e = c.write.ensures in (
      sym (bus_is x acts _ _ held _ _ _ c.self.invariant c.args.at (length c.args.bytes.now)) ∙ sym c.in_default.ensures,
      stored x acts _ _ held _ _ _ c.self.invariant c.args.at c.args.bytes.now c.write.new.bounce c.write.new.shared c.write.new.store c.write.new.pool
          e.same e.shared_same e.present e.bytes e.shared_bytes,
    )
