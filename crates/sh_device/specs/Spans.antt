-- Ranges of words, and what the calls on them add to a view.
use Rattle.std.specs.Prelude.{ℕ, zero, suc, ◌≡◌, ◌≤◌, length, ◌+◌, ◌-◌, ◌*◌, ◌/◌, min, Option, Some, None, slice_index_or, List, [], ◌∷◌, ◌++◌, flat_map, slice_index, Contains, replicate, map, ◌==◌, if◌then◌else◌}
use Rattle.sh_cells.specs.declared.word.Word.{Word}
use Rattle.sh_cells.specs.declared.word.Side.{Side}
use Rattle.sh_cells.specs.declared.word.Side.TheVariants.{First}
use Rattle.sh_cells.specs.declared.word.Kind.{Kind}
use Rattle.sh_cells.specs.declared.word.Kind.TheVariants.{Zero}
use Rattle.sh_cells.specs.declared.view.Access.{Access}
use Rattle.sh_cells.specs.declared.view.StepKind.TheVariants.{WordLoaded, WordStored}
use Rattle.sh_cells.specs.declared.view.View.{View}
use Rattle.sh_cells.specs.Views.{access, entry, page_store, with_entry, with_page_read, with_page_store}

-- the bytes, two by two, under one stamp
abbrev pub words_of : ℕ → List ℕ → List Word
words_of stamp [] = []
words_of stamp (x ∷ []) = []
words_of stamp (x ∷ y ∷ ys) = record { stamp = stamp; bytes = x ∷ y ∷ [] } ∷ words_of stamp ys

-- and back
abbrev pub bytes_of : List Word → List ℕ
bytes_of ws = flat_map (λ (w : Word). slice_index w.bytes 0 ∷ slice_index w.bytes 1 ∷ []) ws

-- the least stamp, 2^64 - 1 where there is none
abbrev pub least_of : List Word → ℕ
least_of [] = 18446744073709551615
least_of (w ∷ ws) = min w.stamp (least_of ws)

-- words were loaded, one after another
abbrev pub with_reads : View → List Access → View
with_reads v rs = record v { reads = v.reads ++ rs; order = v.order ++ map (λ (r : Access). WordLoaded) rs }

-- words were stored, one after another
abbrev pub with_puts : View → List Access → View
with_puts v ps = record v { puts = v.puts ++ ps; order = v.order ++ map (λ (p : Access). WordStored) ps }

-- the pages from this one on were found so
abbrev pub with_found : View → ℕ → List (Option Side) → View
with_found v page [] = v
with_found v page (o ∷ os) = with_found (with_page_read v page o) (page + 1) os

-- a page is used on the side on which it was found, and on the first where it was absent
abbrev pub or_first : Option Side → Side
or_first None = First
or_first (Some side) = side

abbrev pub side_in : List (Option Side) → ℕ → Side
side_in found k = or_first (slice_index_or found k None)

-- words at addresses one after another, each on the side of its page; `found` begins at the page `first`
abbrev pub accesses_on : List (Option Side) → ℕ → ℕ → List Word → List Access
accesses_on found first at [] = []
accesses_on found first at (w ∷ ws) = access (side_in found (at / 4096 - first)) at w ∷ accesses_on found first (at + 2) ws

-- bytes were drawn as one entry, and its words put
abbrev pub with_bytes : View → ℕ → Kind → List (Option Side) → ℕ → List ℕ → View
with_bytes v stamp kind found at bytes = with_puts (with_entry v (entry stamp kind at bytes)) (accesses_on found (at / 4096) at (words_of stamp bytes))

-- a view only goes on: reads stay, the quota is the same, and no stamp comes back
pub record GoesOn (v w : View) : Type 0 where
  pub reads : (r : Access) → Contains v.reads r → Contains w.reads r
  pub quota : w.quota ≡ v.quota
  pub left : w.left ≤ v.left

-- zeros were drawn and put over a page, on its first side
abbrev pub zeros : List ℕ
zeros = replicate 4096 0

-- zeros were drawn and put over each page of these that was absent
abbrev pub Clears : View → ℕ → List (Option Side) → View → Type 0
Clears v page [] w = w ≡ v
Clears v page (Some side ∷ os) w = Clears v (page + 1) os w
Clears v page (None ∷ os) w = (stamp : ℕ) × Clears (with_bytes v stamp Zero [] (4096 * page) zeros) (page + 1) os w

-- each page of these that was absent was made present on its first side
abbrev pub with_shown : View → ℕ → List (Option Side) → View
with_shown v page [] = v
with_shown v page (Some side ∷ os) = with_shown v (page + 1) os
with_shown v page (None ∷ os) = with_shown (with_page_store v (page_store page (Some First))) (page + 1) os

-- each of so many pages from this one on was made absent
abbrev pub with_hidden : View → ℕ → ℕ → View
with_hidden v page zero = v
with_hidden v page (suc n) = with_hidden (with_page_store v (page_store page None)) (page + 1) n

-- words at addresses one after another, all on one side
abbrev pub accesses : Side → ℕ → List Word → List Access
accesses side at [] = []
accesses side at (w ∷ ws) = access side at w ∷ accesses side (at + 2) ws

-- a copy keeps the word that was read, and has a zero of its own entry in place of the one that nothing wrote
abbrev pub copied : ℕ → Word → Word
copied stamp w = if w.stamp == 0 then record { stamp = stamp; bytes = 0 ∷ 0 ∷ [] } else w

-- words were loaded on one side, and the copy of each stored on the other before the next was loaded
abbrev pub with_copied : View → ℕ → Side → Side → ℕ → List Word → View
with_copied v stamp from to at words = record v {
  reads = v.reads ++ accesses from at words;
  puts = v.puts ++ accesses to at (map (copied stamp) words);
  order = v.order ++ flat_map (λ (w : Word). WordLoaded ∷ WordStored ∷ []) words;
}

-- a zero entry was drawn over a page, and its words were copied from one side to the other
abbrev pub with_copies : View → ℕ → Side → Side → ℕ → List Word → View
with_copies v stamp from to page words = with_copied (with_entry v (entry stamp Zero (4096 * page) zeros)) stamp from to (4096 * page) words

-- a page went to a side: what stands on the side on which it was found was copied there, or it was cleared there if it was absent
abbrev pub Moves : View → ℕ → Option Side → Side → View → Type 0
Moves v page None to w = (stamp : ℕ) × (w ≡ with_bytes v stamp Zero (Some to ∷ []) (4096 * page) zeros)
Moves v page (Some from) to w = (stamp : ℕ) × (words : List Word) × (length words ≡ 2048) × (w ≡ with_copies v stamp from to page words)

-- each page from this one on was made absent, or was looked at, moved to its new side and made present there
abbrev pub Switches : View → ℕ → List (Option Side) → View → Type 0
Switches v page [] w = w ≡ v
Switches v page (None ∷ sides) w = Switches (with_page_store v (page_store page None)) (page + 1) sides w
Switches v page (Some to ∷ sides) w =
    (found : Option Side) × (u : View) × Moves (with_page_read v page found) page found to u × Switches (with_page_store u (page_store page (Some to))) (page + 1) sides w
