use Rattle.std.proofs.Common.{◌≡◌, ◌≤◌, ℕ, nat_lt, length, vec_capacity}
use Rattle.vr_packed.specs.Lies.{one_if, occurs}
use Rattle.vr_packed.proofs.steps.all_ids.Given as goal

abbrev pub invariant-loop-id : goal.invariant-loop-id
invariant-loop-id l = record {
  ids : (d : ℕ) → occurs d l.ids.items ≡ one_if (nat_lt d l.id);
  len : length l.ids.items ≡ l.id;
  room : l.size ≤ vec_capacity l.ids;
}
