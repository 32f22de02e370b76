-- Each place of the table is a place of a first word, by computing.
use Rattle.std.proofs.Common.{ℕ, ◌<◌, ltb, get_or, true, refl}
use Rattle.std.proofs.lemmas.Bool.{agree_below_at, ltb-true}
use Rattle.vd_words.specs.declared.keyword.TheConstants.{PLACES}

pub place_below : (s : ℕ) → s < 256 → get_or PLACES s 0 < 73
place_below s lt = ltb-true _ _ (agree_below_at (λ c. ltb (get_or PLACES c 0) 73) (λ c. true) 256 s refl lt)
