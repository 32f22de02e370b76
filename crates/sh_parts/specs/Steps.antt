-- What the steps on a journal's table tell.
use Rattle.std.specs.Prelude.{ℕ, ◌≡◌, ◌≢◌, ◌⊎◌, true, List}
use mathlib.Core.List.{IsPrefix}
use Rattle.atomic_table.specs.Table.{Me, Step}
use Rattle.sh_parts.specs.declared.entry.Entry.{Entry}
use Rattle.sh_parts.specs.declared.view.View.{View}
use Rattle.sh_parts.specs.Views.{with_entry, without_meeting}

-- what a seat knows, and which slots it holds
abbrev pub Saw : Type 0
Saw = Me (Unit {0}) View

-- one of two lists begins the other
abbrev pub IsFront : List Entry → List Entry → Type 0
IsFront xs ys = IsPrefix xs ys ⊎ IsPrefix ys xs

abbrev pub Appends : Entry → Step (Unit {0}) → Saw → ℕ → Saw → Type 0
Appends e s m n m' = (m'.0 ≡ with_entry m.0 e) × (m'.1 ≡ m.1)

-- what was met is a front of the journal that one keeps, and has another place than one's own claim
abbrev pub Looks : Step (Unit {0}) → Saw → ℕ → Saw → Type 0
Looks s m n m' =
    (m'.0 ≡ without_meeting m.0) × (m'.1 ≡ m.1)
    × (m.0.met ≡ true → m.0.keeps ≡ true → IsPrefix m.0.met_entries m.0.journal)
    × (m.0.met ≡ true → m.0.claims ≡ true → (m.0.place ≢ m.0.met_place) × IsFront m.0.entries m.0.met_entries)
