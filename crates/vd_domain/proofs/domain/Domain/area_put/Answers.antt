use Rattle.std.proofs.Common.{sym, subst}
use Rattle.vd_domain.specs.Held.{Held}
use Rattle.vd_domain.specs.Stands.{Stands}
use Rattle.vd_domain.specs.contracts.domain.Domain.{the_view}
use Rattle.vd_domain.proofs.AreaActs.{area_written}
use Rattle.vd_domain.proofs.domain.Domain.area_put.Goals as goal

pub returns-clause-ok : goal.returns-clause-ok
returns-clause-ok c = λ x acts m s.
    area_written x acts (the_view c.self.inside) c.area_put.new.self m c.args.offset c.args.bytes.now
    (subst (λ (h : Held). Stands x acts h m) (sym c.self.view_is) s)
    c.area_put.ensures.same c.area_put.ensures.frames (c.area_put.ensures.bytes m)
