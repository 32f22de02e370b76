use Rattle.std.proofs.Common.{sym, ◌∙◌}
use Rattle.vd_vhost.specs.Parts.{parts_of}
use Rattle.vd_vhost.proofs.Telling.{lookup_found}
use Rattle.vd_vhost.proofs.bus.Bus.lookup.Goals as goal

pub returns-in-Some : goal.returns-in-Some
returns-in-Some g c size done s =
    lookup_found _ size done (parts_of c.args.self.now) s c.args.range.start c.args.range.last c.in-Some.region c.if-range.false (sym c.in-Some.is ∙ c.first.ensures) c.tell_region.ensures
