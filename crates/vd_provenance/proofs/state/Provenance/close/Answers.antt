use Rattle.std.proofs.Common.{◌≡◌, sym, ◌∙◌, subst, List, OnOk}
use Rattle.vd_model.specs.Acts.{Act}
use Rattle.vd_provenance.specs.Keeping.{KeepsOrigins}
use Rattle.vd_provenance.proofs.Silent.{none_ends, some_ends}
use Rattle.vd_provenance.proofs.state.Provenance.close.Goals as goal

pub returns-then-is_registered : goal.returns-then-is_registered
returns-then-is_registered c acts f =
    subst (λ (l : List Act). OnOk c.deregister.result (KeepsOrigins c.args.per_page l c.deregister.new.self))
    (sym (some_ends c.args.per_page acts c.args.self.now f (sym c.is_registered.ensures ∙ c.if-is_registered.true))) (c.deregister.ensures acts f)

pub returns-else-is_registered : goal.returns-else-is_registered
returns-else-is_registered c acts f =
    subst (λ (l : List Act). KeepsOrigins c.args.per_page l c.args.self.now)
    (sym (none_ends c.args.per_page acts c.args.self.now f (sym c.is_registered.ensures ∙ c.if-is_registered.false))) f
