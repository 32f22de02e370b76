-- the bytes are those of each place
use Rattle.std.proofs.Common.{◌∙◌, ap, sym, arith, zero-add}
use Rattle.sh_workload.specs.Requests.{byte_of}
use Rattle.sh_workload.proofs.EachFrom.{each_from_is}
use Rattle.sh_workload.proofs.requests.fill.Goals as goal

pub returns : goal.returns
returns c =
    let byte = byte_of c.args.driver c.args.place in
    each_from_is byte 0 _ c.loop-j.bytes c.loop-j.auto.bytes
    (λ i below. c.loop-j.invariant i (omega arith) ∙ ap byte (sym (zero-add i)))
