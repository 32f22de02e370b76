use Rattle.vd_iova.proofs.iova.Iova.take.Given as goal

abbrev pub ghosts-take_blank : goal.ghosts-take_blank
ghosts-take_blank a = record { name = a.blank.name; parts = a.blank.parts }
