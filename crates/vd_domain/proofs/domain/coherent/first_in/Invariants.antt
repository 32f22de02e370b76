use Rattle.std.proofs.Common.{◌≡◌, drop}
use Rattle.vd_domain.specs.Lookup.{lower_or}
use Rattle.vd_domain.proofs.Passed.{first_of_regions}
use Rattle.vd_domain.proofs.domain.coherent.first_in.Given as goal

abbrev pub invariant-loop-entry : goal.invariant-loop-entry
invariant-loop-entry l =
    lower_or l.lowest (first_of_regions l.fn.range.start l.fn.range.last (drop l.entry-index l.fn.extents))
    ≡ first_of_regions l.fn.range.start l.fn.range.last l.fn.extents
