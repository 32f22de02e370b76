use Rattle.sh_cells.proofs.cells.Cells.draw.Given as goal

abbrev pub ghosts-draw_entry : goal.ghosts-draw_entry
ghosts-draw_entry g a = record { kind = a.kind; base = a.base; bytes = a.bytes.now }
