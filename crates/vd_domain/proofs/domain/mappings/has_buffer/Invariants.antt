use Rattle.std.proofs.Common.{◌≡◌, drop}
use Rattle.vd_domain.proofs.Passed.{any_of}
use Rattle.vd_domain.proofs.domain.mappings.has_buffer.Given as goal

abbrev pub invariant-loop-entry : goal.invariant-loop-entry
invariant-loop-entry l = any_of l.fn.buffer (drop l.entry-index l.fn.mappings) ≡ any_of l.fn.buffer l.fn.mappings
