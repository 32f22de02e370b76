-- What each kind of step tells its pass: of the view before and after, and of the number that was found or stored.
use Rattle.std.specs.Prelude.{◌≡◌, ◌≢◌, ℕ, ◌+◌, ◌^◌, ◌<◌, ◌≤◌, List, Contains}
use Rattle.atomic_table.specs.Table.{Me, Step}
use Rattle.sh_cells.specs.declared.word.Word.{Word}
use Rattle.sh_cells.specs.declared.word.Kind.{Kind}
use Rattle.sh_cells.specs.declared.view.View.{View}
use Rattle.sh_cells.specs.Words.{word_of, zero_word, side_of}
use Rattle.sh_cells.specs.Places.{cell_side, cell_address, page_at}
use Rattle.sh_cells.specs.Views.{access, entry, page_store, with_entry, with_put, with_read, with_page_store, with_page_read, StampsBelow}
use Rattle.sh_cells.specs.Backed.{IsSettled}

-- a view, beside the slots that its seat holds: none, since these tables have no slots
abbrev pub Holding : Type 0
Holding = Me (Unit {0}) View

-- a load of a cell: the word that was found is read, and is not zero where the pass has a put there
abbrev pub ReadsCell : Step (Unit {0}) → Holding → ℕ → Holding → Type 0
ReadsCell s m n m' =
    (m'.0 ≡ with_read m.0 (access (cell_side s.word) (cell_address s.word) (word_of n))) × (m'.1 ≡ m.1)
    × ((w : Word) → Contains m.0.puts (access (cell_side s.word) (cell_address s.word) w) → word_of n ≢ zero_word)

-- a store of a cell: the word is put, and all stamps fit in 48 bits
abbrev pub PutsWord : Step (Unit {0}) → Holding → ℕ → Holding → Type 0
PutsWord s m n m' = (m'.0 ≡ with_put m.0 (access (cell_side s.word) (cell_address s.word) (word_of n))) × (m'.1 ≡ m.1) × StampsBelow (2 ^ 48) m.0

-- a draw: the entry has the stamp after the last one drawn, which is above all that the pass knew
abbrev pub DrawsEntry : Kind → ℕ → List ℕ → Step (Unit {0}) → Holding → ℕ → Holding → Type 0
DrawsEntry kind base bytes s m n m' = (m'.0 ≡ with_entry m.0 (entry (n + 1) kind base bytes)) × (m'.1 ≡ m.1) × (n < 2 ^ 47) × StampsBelow (n + 1) m.0

-- a load of a page word: the page was found so
abbrev pub FindsPage : Step (Unit {0}) → Holding → ℕ → Holding → Type 0
FindsPage s m n m' = (m'.0 ≡ with_page_read m.0 (page_at s.word) (side_of n)) × (m'.1 ≡ m.1)

-- a store of a page word: the page is set so
abbrev pub SetsPage : Step (Unit {0}) → Holding → ℕ → Holding → Type 0
SetsPage s m n m' = (m'.0 ≡ with_page_store m.0 (page_store (page_at s.word) (side_of n))) × (m'.1 ≡ m.1)

-- a look: nothing is gained, and the view of a pass that has the whole quota is the log of all passes
abbrev pub Looks : Step (Unit {0}) → Holding → ℕ → Holding → Type 0
Looks s m n m' = (m' ≡ m) × (m.0.left ≤ 2 ^ 47) × (m.0.quota ≤ 2 ^ 47) × (m.0.quota ≡ 2 ^ 47 → IsSettled m.0)
