-- What a number is read from, and what a command makes of words.
use Rattle.std.proofs.Common.{◌≡◌, ℕ, List, [], Option, Some, None, Result, Ok, refl, sym, subst, ◌∙◌, inl, inr, codes}
use Rattle.std.specs.Str.Parse.{ParsesUnsigned, ExplainsUnsignedError, HasUnsignedDigitsIfOk, digits_value, without_leading_plus}
use Rattle.clap.specs.Words.{Kinds, HasKind, Row, Text, ReadsOne, kind_of, matches_of, one_text, rows_of}
use Rattle.clap.specs.declared.error.Error.{Error}
use Rattle.clap.specs.declared.error.kind.ErrorKind.TheVariants.{OutOfMemory}
use Rattle.clap.specs.declared.parser.matches.Found.{Found}
use Rattle.clap.proofs.WalkLemmas.{one_text-rows}
use Rattle.sh_words.specs.declared.words.WorkOptions.{WorkOptions}
use Rattle.sh_words.specs.Words.{HasNumber, AskFor, run_command}

number_at : {E : Type 0} (gives : List ℕ → Result ℕ E → Type 0) (f : Found) (name : Text) (n : ℕ) (o : Option ℕ) (t : Option Text) →
    one_text f name ≡ t → o ≡ Some n → (one_text f name ≡ None → o ≡ None) → ((s : Text) → one_text f name ≡ Some s → ReadsOne gives s o) →
    ((s : Text) → gives s (Ok n) → digits_value 10 (without_leading_plus s) ≡ n) → HasNumber (rows_of f) name n
number_at gives f name n o None e is none value digits = let bad : None ≡ Some n = sym (none e) ∙ is in absurd cc
number_at gives f name n o (Some s) e is none value digits =
    let read : ReadsOne gives s (Some n) = subst (λ (x : Option ℕ). ReadsOne gives s x) is (value s e) in
    (s, sym (one_text-rows f name) ∙ e, digits s read)

-- a number of so many bits that was got is that of the text which was matched
pub number_read : (bits : ℕ) (f : Found) (name : Text) (n : ℕ) (o : Option ℕ) → o ≡ Some n → (one_text f name ≡ None → o ≡ None) →
    ((s : Text) → one_text f name ≡ Some s → ReadsOne (λ (bs : List ℕ) r. ParsesUnsigned bits 10 bs r × ExplainsUnsignedError 10 bs r × HasUnsignedDigitsIfOk bs r) s o) →
    HasNumber (rows_of f) name n
number_read bits f name n o is none value =
    number_at (λ (bs : List ℕ) r. ParsesUnsigned bits 10 bs r × ExplainsUnsignedError 10 bs r × HasUnsignedDigitsIfOk bs r) f name n o (one_text f name) refl is none value
    (λ s read. sym read.0.1)

-- an error but want of memory comes only where the command refuses the words
pub is_refusal : (kinds : Kinds) (e : Error) → HasKind kinds e → (kind_of e ≡ OutOfMemory → ⊥) → kinds ≡ [] → ⊥
is_refusal kinds e has other none = elim (subst (λ (k : Kinds). HasKind k e) none has) [
  | inl memory ↦ other memory
  | inr among ↦ among
]

-- words ask for what was matched in them
pub asks_for : (words : List Text) (rows : List Row) (o : WorkOptions) → rows ≡ matches_of run_command words →
    HasNumber rows (codes "start") o.start → HasNumber rows (codes "drivers") o.drivers → HasNumber rows (codes "requests") o.requests → AskFor words o
asks_for words rows o same start drivers requests = record {
  start = subst (λ (r : List Row). HasNumber r (codes "start") o.start) same start;
  drivers = subst (λ (r : List Row). HasNumber r (codes "drivers") o.drivers) same drivers;
  requests = subst (λ (r : List Row). HasNumber r (codes "requests") o.requests) same requests;
}
