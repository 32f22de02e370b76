use Rattle.std.proofs.Common.{◌≡◌, ◌+◌, ◌++◌, take, vec_len, vec_capacity}
use Rattle.vd_answers.proofs.kept.push_bytes.Given as goal

abbrev pub invariant-loop-byte : goal.invariant-loop-byte
invariant-loop-byte l =
    (l.into.items ≡ l.initial.into.items ++ take l.byte-index l.bytes)
    × (vec_len l.into ≡ vec_len l.initial.into + l.byte-index)
    × (vec_capacity l.into ≡ vec_capacity l.initial.into)
