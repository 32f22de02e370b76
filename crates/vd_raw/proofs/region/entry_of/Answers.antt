use Rattle.std.proofs.Common.{◌<◌, ap, ◌∙◌, subst}
use Rattle.vd_abi.specs.Layout.{laid_out}
use Rattle.vd_abi.specs.Structs.{iotlb_entry}
use Rattle.vd_abi.specs.declared.iova.IotlbEntry.{IotlbEntry}
use Rattle.vd_raw.proofs.Agree.{entry-bytes}
use Rattle.vd_raw.proofs.region.entry_of.Goals as goal

pub returns : goal.returns
returns c =
    let seen = c.struct_of.ensures.seen in
    c.write.ensures ∙ ap (λ e. laid_out 32 (iotlb_entry e)) seen
    ∙ entry-bytes c.args.region.now (subst (λ (e : IotlbEntry). e.perm < 256) seen c.struct_of.ensures.byte)
