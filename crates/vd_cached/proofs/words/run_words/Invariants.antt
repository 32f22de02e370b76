use Rattle.std.proofs.Common.{◌≡◌, ◌∷◌, take, map}
use Rattle.std.specs.Prelude.{codes, string_bytes}
use Rattle.vd_cached.proofs.words.run_words.Given as goal

abbrev pub invariant-loop-word : goal.invariant-loop-word
invariant-loop-word l = map string_bytes l.all.items ≡ codes "run" ∷ map string_bytes (take l.word-index l.pairs)
