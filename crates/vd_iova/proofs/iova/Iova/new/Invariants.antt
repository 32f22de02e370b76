use Rattle.vd_iova.proofs.iova.Iova.new.Given as goal

abbrev pub ghosts-mark_outside : goal.ghosts-mark_outside
ghosts-mark_outside a = record { name = a.blank.name; parts = a.blank.parts }
