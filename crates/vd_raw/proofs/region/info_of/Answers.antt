use Rattle.std.proofs.Common.{ap, ◌∙◌}
use Rattle.vd_abi.specs.Layout.{laid_out}
use Rattle.vd_abi.specs.Structs.{iova_info}
use Rattle.vd_model.specs.AreaTurns.{capability_of}
use Rattle.vd_raw.specs.Seen.{info_seen}
use Rattle.vd_raw.proofs.Agree.{info-bytes}
use Rattle.vd_raw.proofs.region.info_of.Goals as goal

pub returns : goal.returns
returns c =
    c.write.ensures ∙ ap (λ n. laid_out 48 (iova_info (info_seen c.args.region.now n))) c.capability.ensures
    ∙ info-bytes c.args.region.now (capability_of c.args.region.now)
