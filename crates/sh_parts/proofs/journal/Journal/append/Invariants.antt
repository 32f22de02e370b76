use Rattle.sh_parts.proofs.journal.Journal.append.Given as goal

abbrev pub ghosts-append_draft : goal.ghosts-append_draft
ghosts-append_draft g a = record { entry = a.entry }
