use Rattle.sh_cells.proofs.cells.Cells.split_driver.Given as goal

abbrev pub ghosts-split : goal.ghosts-split
ghosts-split a = record { share = a.share }
