use Rattle.std.proofs.Common.{Err}
use Rattle.vr_split.specs.ReachLemmas.{used_index-reached}
use Rattle.vr_device.proofs.Reached.{number-loaded}
use Rattle.vr_device.proofs.ring.DeviceRing.resume.Goals as goal

pub returns-in_err-used-clause-in_reach : goal.returns-in_err-used-clause-in_reach
returns-in_err-used-clause-in_reach g c ring =
    let ok = number-loaded (g.M.Mem.told c.args.mem.now) (g.M.Mem.span c.args.mem.now) _ _ (Err c.in_err-used.field-0.0) c.used_index.ensures c.in_err-used.ensures.loads c.in_err-used.ensures.spanned
    (used_index-reached (g.M.Mem.told c.args.mem.now) (g.M.Mem.span c.args.mem.now) c.args.place (g.met.M.Mem.told_ends c.args.mem.now) (g.met.M.Mem.span_ends c.args.mem.now) ring.device) in
    absurd (cc)
