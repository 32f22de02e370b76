-- The rule of a journal: every note claims a front of it, and no two claim one place.
use Rattle.std.specs.Prelude.{ℕ, ◌≡◌, ◌<◌, ◌≤◌, Bool, true, false, List, length}
use mathlib.Core.Option.{some}
use mathlib.Core.List.{IsPrefix}
use lib.ListN.{get_elem?}
use Rattle.sh_parts.specs.declared.entry.Entry.{Entry}
use Rattle.sh_parts.specs.declared.view.View.{View}

-- a front of the journal, and a place in it that was noted
abbrev pub IsNoted : List Entry → ℕ → List Entry → ℕ → Type 0
IsNoted journal noted entries place = IsPrefix entries journal × (place < length entries) × (place < noted)

-- one seat keeps the journal; each place has one owner: a seat, by its own claim (false) or by the one that it met (true)
abbrev pub Fits : ℕ → List Entry → ℕ → (ℕ → ℕ × Bool) → ℕ → View → Type 0
Fits seat journal noted owner by v =
    (v.keeps ≡ true → (by ≡ seat) × (v.journal ≡ journal) × (v.noted ≡ noted))
    × (v.claims ≡ true → IsNoted journal noted v.entries v.place × (owner v.place ≡ (by, false)))
    × (v.met ≡ true → IsNoted journal noted v.met_entries v.met_place × (owner v.met_place ≡ (by, true)))

-- the rule: there is one journal, and an owner of each place, which each seat fits
abbrev pub Kept : List View → Type 0
Kept views =
    (seat : ℕ) × (journal : List Entry) × (noted : ℕ) × (owner : ℕ → ℕ × Bool)
    × (noted ≤ length journal)
    × ((by : ℕ) (v : View) → get_elem? views by ≡ some v → Fits seat journal noted owner by v)
