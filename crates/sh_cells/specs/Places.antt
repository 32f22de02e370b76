-- Where things lie in the table: word 0 is the last stamp drawn, words 1 to 4096 are the page words, and then come the cells, two for each even address.
use Rattle.std.specs.Prelude.{ℕ, zero, suc, ◌+◌, ◌-◌, ◌%◌}
use Rattle.sh_cells.specs.declared.word.Side.{Side}
use Rattle.sh_cells.specs.declared.word.Side.TheVariants.{First, Second}
use Rattle.sh_cells.specs.Words.{side_number}

-- the word of the table that says which side of a page is present
abbrev pub page_place : ℕ → ℕ
page_place page = page + 1

-- the word of the table that is the cell of an even address on one side
abbrev pub cell_place : Side → ℕ → ℕ
cell_place side at = 4097 + at + side_number side

-- and back: the page of a page word, the side of a cell, and its address
abbrev pub page_at : ℕ → ℕ
page_at place = place - 1

abbrev pub side_numbered : ℕ → Side
side_numbered zero = First
side_numbered (suc n) = Second

abbrev pub cell_side : ℕ → Side
cell_side place = side_numbered ((place - 4097) % 2)

abbrev pub cell_address : ℕ → ℕ
cell_address place = place - 4097 - (place - 4097) % 2
