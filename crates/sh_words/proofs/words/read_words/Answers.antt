-- what the command makes of the words
use Rattle.std.proofs.Common.{◌≡◌, ◌*◌, ◌∙◌, ℕ, Global, true, map, string_bytes, rules, ap, ap₂, sym, subst}
use Rattle.clap.specs.Words.{app_of, fault_of, found_of, is_simple, is_simple_and_free, kind_of, matches_of, rows_of, HasKind, Kinds}
use Rattle.clap.specs.declared.error.kind.ErrorKind.TheVariants.{OutOfMemory}
use Rattle.sh_words.specs.Words.{run_command}
use Rattle.sh_words.proofs.Reading.{asks_for, is_refusal}
use Rattle.sh_words.proofs.words.read_words.Goals as goal

pub returns-in-Err-2-clause-refused : goal.returns-in-Err-2-clause-refused
returns-in-Err-2-clause-refused c =
    let words = map (string_bytes {Z = Global}) c.args.words.now.items in
    let simple : is_simple_and_free (app_of c.in-Ok.command) ≡ true = ap is_simple_and_free c.in-Ok.ensures in
    let same = ap₂ fault_of c.in-Ok.ensures (ap (map (string_bytes {Z = Global})) c.as_slice.ensures.value) in
    let has : HasKind (fault_of run_command words) c.in-Err-2.error = subst (λ (k : Kinds). HasKind k c.in-Err-2.error) same (c.in-Err-2.ensures.kinds simple) in
    let other : kind_of c.in-Err-2.error ≡ OutOfMemory → ⊥ = search rules in
    is_refusal _ c.in-Err-2.error has other

pub returns-then-all-gt-MOST_REQUESTS-clause-refused : goal.returns-then-all-gt-MOST_REQUESTS-clause-refused
returns-then-all-gt-MOST_REQUESTS-clause-refused c =
    let words = map (string_bytes {Z = Global}) c.args.words.now.items in
    let simple : is_simple (app_of c.in-Ok.command) ≡ true = ap is_simple c.in-Ok.ensures in
    let same = ap₂ matches_of c.in-Ok.ensures (ap (map (string_bytes {Z = Global})) c.as_slice.ensures.value) in
    let rows : rows_of (found_of c.in-Ok-try_get_matches_from.matches) ≡ matches_of run_command words = (c.in-Ok-try_get_matches_from.ensures.matches simple).0 ∙ same in
    let o = c.in-Some.options in
    let found = c.in-Some.ensures in
    let all : c.from.result * c.from-2.result ≡ o.drivers * o.requests = ap₂ (λ (x y : ℕ). x * y) c.from.ensures c.from-2.ensures in
    (o, asks_for words _ o rows found.start.1 found.drivers.2 found.requests.1, all, c.if-all-gt-MOST_REQUESTS.true)

pub returns-clause-asked : goal.returns-clause-asked
returns-clause-asked c =
    let words = map (string_bytes {Z = Global}) c.args.words.now.items in
    let simple : is_simple (app_of c.in-Ok.command) ≡ true = ap is_simple c.in-Ok.ensures in
    let same = ap₂ matches_of c.in-Ok.ensures (ap (map (string_bytes {Z = Global})) c.as_slice.ensures.value) in
    let rows : rows_of (found_of c.in-Ok-try_get_matches_from.matches) ≡ matches_of run_command words = (c.in-Ok-try_get_matches_from.ensures.matches simple).0 ∙ same in
    let found = c.in-Some.ensures in
    asks_for words _ c.in-Some.options rows found.start.1 found.drivers.2 found.requests.1

pub returns-clause-taken : goal.returns-clause-taken
returns-clause-taken c =
    let simple : is_simple_and_free (app_of c.in-Ok.command) ≡ true = ap is_simple_and_free c.in-Ok.ensures in
    let same = ap₂ fault_of c.in-Ok.ensures (ap (map (string_bytes {Z = Global})) c.as_slice.ensures.value) in
    sym same ∙ c.in-Ok-try_get_matches_from.ensures.kinds simple
