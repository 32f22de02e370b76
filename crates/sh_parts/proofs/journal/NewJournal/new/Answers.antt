use Rattle.sh_parts.proofs.Allowed.{begins}
use Rattle.sh_parts.proofs.journal.NewJournal.new.Goals as goal

pub of_words-requires : goal.of_words-requires
of_words-requires c = begins
