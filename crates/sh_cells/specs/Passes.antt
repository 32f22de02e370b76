-- A pass and its cells, as contracts see them.
use Rattle.std.specs.Prelude.{◌≡◌, ℕ}
use Rattle.sh_cells.specs.declared.view.View.{View}
use Rattle.sh_cells.specs.declared.pass.Token.{Token}
use Rattle.sh_cells.specs.declared.pass.Log.{Log}
use Rattle.sh_cells.specs.declared.cells.Cells.{Cells}

-- what a pass has done and seen
abbrev pub view : Token → View
view t = t.seat.me.0

-- what all passes did
abbrev pub log_of : Log → View
log_of l = l.seat.me.0

-- the number of pages of the cells
abbrev pub pages_of : Cells → ℕ
pages_of cells = cells.pages

-- the pass is one of these cells
abbrev pub IsOf : Cells → Token → Type 0
IsOf cells t = t.seat.table_id ≡ cells.table.shared.table_id
