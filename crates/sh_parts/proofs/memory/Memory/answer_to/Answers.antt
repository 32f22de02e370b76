use Rattle.std.proofs.Common.{◌++◌, sym, ap, subst}
use Rattle.sh_parts.specs.declared.entry.DomainStep.TheVariants as asks
use Rattle.sh_parts.specs.Legal.{domain_turn}
use Rattle.sh_parts.specs.Memory.{Stands}
use Rattle.sh_parts.proofs.Turns.{by_turn, lookup_acts}
use Rattle.sh_parts.proofs.memory.Memory.answer_to.Goals as goal

pub returns-in_ok-map-in-Map-clause-makes : goal.returns-in_ok-map-in-Map-clause-makes
returns-in_ok-map-in-Map-clause-makes c = λ x done s.
    let made = c.in_ok-map-in-Map.ensures.makes x done c.in-Map.dir s in
    by_turn x done _ (domain_turn x done (asks.Map c.in-Map.len c.in-Map.dir)) _ c.map.new.self (ap (domain_turn x done) c.in-Map.is) made.0 made.1

pub returns-in-Unmap-clause-makes : goal.returns-in-Unmap-clause-makes
returns-in-Unmap-clause-makes c = λ x done s.
    let made = c.unmap.ensures.makes x done s in
    by_turn x done _ (domain_turn x done (asks.Unmap c.in-Unmap.number)) _ c.unmap.new.self (ap (domain_turn x done) c.in-Unmap.is) made.0 made.1

pub returns-in_ok-make_region-in-Coherent-clause-makes : goal.returns-in_ok-make_region-in-Coherent-clause-makes
returns-in_ok-make_region-in-Coherent-clause-makes c = λ x done s.
    let made = c.in_ok-make_region-in-Coherent.ensures.makes x done s in
    by_turn x done _ (domain_turn x done (asks.Coherent c.in-Coherent.len)) _ c.make_region.new.self (ap (domain_turn x done) c.in-Coherent.is) made.0 made.1

pub returns-in-FreeCoherent-clause-makes : goal.returns-in-FreeCoherent-clause-makes
returns-in-FreeCoherent-clause-makes c = λ x done s.
    let made = c.free_region.ensures.makes x done s in
    by_turn x done _ (domain_turn x done (asks.FreeCoherent c.in-FreeCoherent.number)) _ c.free_region.new.self (ap (domain_turn x done) c.in-FreeCoherent.is) made.0 made.1

pub returns-in-Lookup-clause-makes : goal.returns-in-Lookup-clause-makes
returns-in-Lookup-clause-makes c = λ x done s.
    by_turn x done _ (domain_turn x done (asks.Lookup c.in-Lookup.range)) _ c.args.self.now (ap (domain_turn x done) c.in-Lookup.is) (c.lookup.ensures x done s)
    (subst (λ acts. Stands x (acts ++ done) c.args.self.now) (sym (lookup_acts x done c.in-Lookup.range)) s)

pub returns-in-Register-clause-makes : goal.returns-in-Register-clause-makes
returns-in-Register-clause-makes c = λ x done s.
    let made = c.register.ensures.makes x done s in
    by_turn x done _ (domain_turn x done asks.Register) _ c.register.new.self (ap (domain_turn x done) c.in-Register.is) made.0 made.1

pub returns-in-Deregister-clause-makes : goal.returns-in-Deregister-clause-makes
returns-in-Deregister-clause-makes c = λ x done s.
    let made = c.deregister.ensures.makes x done s in
    by_turn x done _ (domain_turn x done asks.Deregister) _ c.deregister.new.self (ap (domain_turn x done) c.in-Deregister.is) made.0 made.1
