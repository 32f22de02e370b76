use Rattle.std.proofs.Common.{◌≡◌, List, ℕ, length, ap, subst, sym, ◌∙◌, inr, rules}
use Rattle.blk_disk.specs.Contents.{Has}
use Rattle.blk_memory_disk.specs.Stored.{content_at, older_at}
use Rattle.blk_memory_disk.proofs.Writes.{content_written, content_other}
use Rattle.blk_memory_disk.proofs.store.bring_back.Goals as goal

pub returns-clause-own : goal.returns-clause-own
returns-clause-own c =
    let size : length c.in-Some.old ≡ 512 = search rules in
    let same : content_at c.replace.new.bytes c.args.sector ≡ c.in-Some.old =
    ap (λ (xs : List ℕ). content_at xs c.args.sector) c.replace.ensures ∙ content_written c.args.sector c.in-Some.old c.args.bytes.now size c.requires in
    inr (subst (λ (x : List ℕ). Has x (older_at c.args.older.now c.args.sector)) (sym same) c.in-Some.ensures)

pub returns-clause-others : goal.returns-clause-others
returns-clause-others c = λ s apart.
    let size : length c.in-Some.old ≡ 512 = search rules in
    ap (λ (xs : List ℕ). content_at xs s) c.replace.ensures ∙ content_other c.args.sector c.in-Some.old c.args.bytes.now size c.requires s apart
