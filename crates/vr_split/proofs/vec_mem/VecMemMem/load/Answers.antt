use Rattle.std.proofs.Common.{length, Ok, ap, ◌∙◌, arith, rules}
use Rattle.std.proofs.lemmas.Grind.{common_steps}
use Rattle.vr_split.specs.MemLemmas.{tells, read-bytes_from, read-none}
use Rattle.vr_split.proofs.vec_mem.VecMemMem.load.Goals as goal

pub returns-then-is_empty-clause-loads : goal.returns-then-is_empty-clause-loads
returns-then-is_empty-clause-loads c = tells _ _ (read-none _ c.args.at c.args.out.now (search rules))

pub returns-clause-loads : goal.returns-clause-loads
returns-clause-loads c = tells _ _ (rw c.in_ok-i.ensures.at (read-bytes_from c.args.self.now.base c.args.self.now.bytes.items c.in_ok-i.i (length c.args.out.now) c.in_ok-i.ensures.within ∙ ap Ok (grind (arith, common_steps))))
