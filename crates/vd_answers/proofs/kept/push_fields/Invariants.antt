use Rattle.std.proofs.Common.{◌≡◌, ◌+◌, ◌++◌, take, vec_len, vec_capacity}
use Rattle.vd_answers.proofs.kept.push_fields.Given as goal

abbrev pub invariant-loop-field : goal.invariant-loop-field
invariant-loop-field l =
    (l.into.items ≡ l.initial.into.items ++ take l.field-index l.fields)
    × (vec_len l.into ≡ vec_len l.initial.into + l.field-index)
    × (vec_capacity l.into ≡ vec_capacity l.initial.into)
