-- The command of a run: three options with a number each, and the run that its words ask for.
use Rattle.std.specs.Prelude.{ℕ, ◌≡◌, List, [], ◌∷◌, Some, codes, pos, true}
use Rattle.std.specs.Str.Parse.{digits_value, without_leading_plus}
use Rattle.clap.specs.Words.{App, Row, Rule, Text, new_app, new_rule, with_rule, matches_of, one_of}
use Rattle.clap.specs.declared.builder.value_parser.ValueParser.{ValueParser}
use Rattle.clap.specs.declared.builder.value_parser.ValueParser.TheVariants.{Signed, Unsigned}
use Rattle.sh_words.specs.declared.words.WorkOptions.{WorkOptions}

-- an option of this name with a number that passes a parser, and with a default
abbrev pub number_option : Text → ValueParser → Text → Rule
number_option name parser default = record (new_rule name) { long = Some name; value_names = 1; defaults = default ∷ []; parser = Some parser }

abbrev pub bare_command : App
bare_command = record (new_app (codes "vduse_work")) { top = record (new_app (codes "vduse_work")).top { no_binary_name = true } }

-- the number from which the requests are made, how many drivers there are, and how many requests each of them has
abbrev pub run_command : App
run_command =
    with_rule (with_rule (with_rule bare_command
    (number_option (codes "start") (Unsigned 0 9223372036854775807) (codes "1")))
    (number_option (codes "drivers") (Signed (pos 1) (pos 8)) (codes "4")))
    (number_option (codes "requests") (Signed (pos 0) (pos 20000)) (codes "100"))

-- among what was matched, the text of an option is this number in decimal
abbrev pub HasNumber : List Row → Text → ℕ → Type 0
HasNumber rows name n = (text : Text) × (one_of name rows ≡ Some text) × (digits_value 10 (without_leading_plus text) ≡ n)

-- words ask for a run by what the command matches in them
pub record AskFor (words : List Text) (o : WorkOptions) : Type 0 where
  pub start : HasNumber (matches_of run_command words) (codes "start") o.start
  pub drivers : HasNumber (matches_of run_command words) (codes "drivers") o.drivers
  pub requests : HasNumber (matches_of run_command words) (codes "requests") o.requests
