-- Why words ask for no run.
use Rattle.std.specs.Prelude.{◌≡◌, ◌≢◌, ◌<◌, ◌*◌, List, []}
use Rattle.clap.specs.Words.{Text, fault_of}
use Rattle.sh_words.specs.declared.words.WorkOptions.{WorkOptions}
use Rattle.sh_words.specs.declared.words.WordsError.{WordsError}
use Rattle.sh_words.specs.declared.words.WordsError.TheVariants.{Refused, Many, Memory}
use Rattle.sh_words.specs.Words.{run_command, AskFor}

-- the command refuses them; or they ask for a run of more requests than 20,000
abbrev pub IsCause : List Text → WordsError → Type 0
IsCause words (Refused error) = fault_of run_command words ≢ []
IsCause words (Many all) = (o : WorkOptions) × AskFor words o × (all ≡ o.drivers * o.requests) × (20000 < all)
IsCause words Memory = Unit {0}
