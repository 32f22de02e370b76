use Rattle.std.proofs.Common.{rules, not, ◌==◌}
use Rattle.std.proofs.lemmas.Fn.{filter_same}
use Rattle.blk_memory_disk.specs.declared.store.Older.{Older}
use Rattle.blk_memory_disk.proofs.store.forget.Goals as goal

pub returns-clause-forgotten : goal.returns-clause-forgotten
returns-clause-forgotten c = filter_same _ (λ (o : Older). not (o.sector == c.args.sector)) _ (λ x b f' k. search rules) _ _ c.retain.ensures.filtered
