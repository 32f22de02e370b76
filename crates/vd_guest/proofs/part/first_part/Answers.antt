use Rattle.std.proofs.Common.{◌≡◌, true, sym, ◌∙◌, rules}
use Rattle.vd_vhost_model.specs.GuestTable.{permits}
use Rattle.vd_guest.proofs.Holders.{reaches}
use Rattle.vd_guest.proofs.part.first_part.Goals as goal

pub returns-clause-part : goal.returns-clause-part
returns-clause-part c given s =
    let allowed : permits c.args.access c.in-Some.region ≡ true = search rules in
    reaches given c.args.regions.now s c.args.access c.args.at c.len_within.result c.in-Some.region (sym c.holder.ensures.found ∙ c.in-Some.is)
    c.in-Some.ensures.holds.0 c.len_within.ensures.last allowed c.args.left c.len_within.ensures.some c.len_within.ensures.few c.len_within.ensures.short
