use Rattle.vd_iova.proofs.iova.Iova.give.Given as goal

abbrev pub ghosts-unmark_run : goal.ghosts-unmark_run
ghosts-unmark_run a = record { name = a.blank.name; parts = a.blank.parts }
