use Rattle.std.proofs.Common.{sym, ◌∙◌}
use Rattle.vd_domain.proofs.Passed.{any_later, any_here, any_past}
use Rattle.vd_domain.proofs.domain.mappings.has_buffer.Goals as goal

pub loop-entry-preserved : goal.loop-entry-preserved
loop-entry-preserved c =
    any_later c.args.buffer c.loop-entry.entry-index c.args.mappings.now _ c.loop-entry-test.true c.if-entry-buffer.false ∙ c.loop-entry.invariant

pub returns-then-entry-buffer : goal.returns-then-entry-buffer
returns-then-entry-buffer c =
    sym (any_here c.args.buffer c.loop-entry.entry-index c.args.mappings.now _ c.loop-entry-test.true c.if-entry-buffer.true) ∙ c.loop-entry.invariant

pub returns : goal.returns
returns c = sym (any_past c.args.buffer c.loop-entry.entry-index c.args.mappings.now c.loop-entry-test.false) ∙ c.loop-entry.invariant
