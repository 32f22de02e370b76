use Rattle.std.proofs.Common.{length, ap, arith, refl, string_bytes}
use Rattle.vd_cached.proofs.Short.{too_short}
use Rattle.vd_cached.proofs.words.read_cached_words.Goals as goal

pub returns-then-words-lt2 : goal.returns-then-words-lt2
returns-then-words-lt2 c =
    let size = ap length c.as_slice-words.ensures.value in
    (λ usage. too_short string_bytes c.args.words.now.items (omega (arith, size, c.if-words-lt2.true)), λ none. refl)
