use Rattle.std.proofs.Common.{Bool, false, if◌then◌else◌, [], ◌∷◌, ◌++◌, filter, length, not, ◌==◌, nat_lt, ◌≡◌, sym, ap, ◌∙◌, arith}
use Rattle.std.proofs.lemmas.Bool.Decides.{nat_tests}
use Rattle.blk_memory_disk.specs.declared.store.Older.{Older}
use Rattle.blk_memory_disk.proofs.store.keep.Goals as goal

pub returns-else-len-room-clause-kept : goal.returns-else-len-room-clause-kept
returns-else-len-room-clause-kept c =
    let full : nat_lt (length c.args.older.now.items) c.args.room ≡ false = grind (arith, nat_tests) in
    c.forget.ensures.forgotten
    ∙ sym (ap (λ (b : Bool). if b then c.args.older.now.items ++ c.args.more ∷ [] else filter (λ (o : Older). not (o.sector == c.args.more.sector)) c.args.older.now.items) full)
