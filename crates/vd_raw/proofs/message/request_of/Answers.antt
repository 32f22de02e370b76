use Rattle.std.proofs.Common.{◌<◌, ap, ◌∙◌, subst}
use Rattle.vd_abi.specs.Layout.{laid_out}
use Rattle.vd_abi.specs.Structs.{request}
use Rattle.vd_abi.specs.declared.message.Request.{Request}
use Rattle.vd_raw.proofs.Agree.{request-bytes}
use Rattle.vd_raw.proofs.message.request_of.Goals as goal

pub returns : goal.returns
returns c =
    let seen = c.struct_of.ensures.seen in
    c.write.ensures ∙ ap (λ r. laid_out 152 (request r)) seen
    ∙ request-bytes c.args.sent.now.id c.args.sent.now.body (subst (λ (r : Request). r.status < 256) seen c.struct_of.ensures.byte)
