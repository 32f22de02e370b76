-- the text of an option reads as its number
use Rattle.std.proofs.Common.{arith, codes}
use Rattle.clap.specs.Words.{found_of}
use Rattle.sh_words.proofs.Reading.{number_read}
use Rattle.sh_words.proofs.words.options_in.Goals as goal

pub returns-clause-start : goal.returns-clause-start
returns-clause-start c =
    (c.if-start.false, number_read 64 (found_of c.args.matches.now) (codes "start") _ _ c.in_ok-start.was c.get_one.ensures.none c.get_one.ensures.value)

pub returns-clause-drivers : goal.returns-clause-drivers
returns-clause-drivers c = (
  omega (arith, c.if-drivers-eq0.false),
  c.if-drivers-gt8.false,
  number_read 32 (found_of c.args.matches.now) (codes "drivers") _ _ c.in_ok-drivers.was c.get_one-2.ensures.none c.get_one-2.ensures.value,
)

pub returns-clause-requests : goal.returns-clause-requests
returns-clause-requests c = (
  c.if-requests-gt20000.false,
  number_read 32 (found_of c.args.matches.now) (codes "requests") _ _ c.in_ok-requests.was c.get_one-3.ensures.none c.get_one-3.ensures.value,
)
