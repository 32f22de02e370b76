use Rattle.std.proofs.Common.{Err}
use Rattle.vr_split.specs.ReachLemmas.{load-there}
use Rattle.vr_chain.proofs.walker.load.Goals as goal

pub returns-in_err-load-clause-in_reach : goal.returns-in_err-load-clause-in_reach
returns-in_err-load-clause-in_reach g c h =
    let ok = load-there (g.M.Mem.told c.args.mem.now) (g.M.Mem.span c.args.mem.now) c.address_of.result 16 c.load.new.out (Err c.in_err-load.field-0.0) c.in_err-load.ensures.loads c.in_err-load.ensures.spanned (rw c.address_of.ensures h) in
    absurd (cc)
