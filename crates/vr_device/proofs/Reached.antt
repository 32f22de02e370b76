-- Loads and stores of a ring that is in reach don't fail.
use Rattle.std.proofs.Common.{◌≡◌, ℕ, List, length, Option, Result, sym, subst}
use Rattle.std.specs.Prelude.{IsOk}
use Rattle.std.specs.Option.{ForSome}
use Rattle.vd_num.specs.declared.number.Bus.{Bus}
use Rattle.vd_num.specs.declared.number.Range.{Range}
use Rattle.vd_model.specs.Memory.{Memory}
use Rattle.vr_split.specs.Mem.{InSpan, LoadsNumber, Stores}
use Rattle.vr_split.specs.Reach.{Reaches}
use Rattle.vr_split.specs.ReachLemmas.{number-there, store-there}

-- a number that is in reach, by another name of its address
pub number-loaded : (told : Option Memory) (span : Option Range) (at at' : ℕ) (r : Result ℕ Bus) → at ≡ at' → ForSome told (λ m. LoadsNumber m at r) → (InSpan span at 2 → IsOk r) → Reaches told span at' 2 → IsOk r
number-loaded told span at at' r e loads spanned reach = number-there told span at r loads spanned (subst (λ (a : ℕ). Reaches told span a 2) (sym e) reach)

-- bytes that are in reach, the same way
pub bytes-stored : (told new : Option Memory) (span : Option Range) (at at' : ℕ) (bytes : List ℕ) (r : Result (Unit {0}) Bus) → at ≡ at' → ForSome told (λ m. Stores m at bytes r new) → (InSpan span at (length bytes) → IsOk r) → Reaches told span at' (length bytes) → IsOk r
bytes-stored told new span at at' bytes r e stores spanned reach = store-there told new span at bytes r stores spanned (subst (λ (a : ℕ). Reaches told span a (length bytes)) (sym e) reach)
