use Rattle.std.proofs.Common.{◌≡◌, ℕ, ◌-◌, length, if◌then◌else◌}
use Rattle.std.specs.List.{slice_index}
use Rattle.vd_num.specs.Number.{is_within}
use Rattle.vd_domain.specs.Used.{AreFlags}
use Rattle.vd_domain.proofs.uses.Uses.leave.Given as goal

abbrev pub invariant-loop-page : goal.invariant-loop-page
invariant-loop-page l = record {
  len : length l.self-inside.counts.items ≡ length l.initial.self-inside.counts.items;
  counts : (p : ℕ) → slice_index l.self-inside.counts.items p
      ≡ (if is_within l.fn.pages.first (l.page - l.fn.pages.first) p then slice_index l.initial.self-inside.counts.items p - 1 else slice_index l.initial.self-inside.counts.items p);
  flags : AreFlags l.self-inside.counts.items l.self-inside.in_use.items;
}
