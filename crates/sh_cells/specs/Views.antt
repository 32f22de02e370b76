-- What a pass has done and seen, and what each step adds to it.
use Rattle.std.specs.Prelude.{◌≡◌, ◌≢◌, ℕ, ◌+◌, ◌-◌, ◌/◌, ◌≤◌, ◌<◌, ◌^◌, List, [], ◌∷◌, ◌++◌, length, Contains, Option, Some, None, Bool, true, false, ◌&&◌, ◌||◌, ◌==◌}
use Rattle.sh_cells.specs.declared.word.Word.{Word}
use Rattle.sh_cells.specs.declared.word.Side.{Side}
use Rattle.sh_cells.specs.declared.word.Kind.{Kind}
use Rattle.sh_cells.specs.declared.view.Entry.{Entry}
use Rattle.sh_cells.specs.declared.view.Access.{Access}
use Rattle.sh_cells.specs.declared.view.PageStore.{PageStore}
use Rattle.sh_cells.specs.declared.view.PageRead.{PageRead}
use Rattle.sh_cells.specs.declared.view.StepKind.TheVariants.{Drawn, WordStored, WordLoaded, PageStored, PageLoaded}
use Rattle.sh_cells.specs.declared.view.View.{View}
use Rattle.sh_cells.specs.Words.{zero_word}

abbrev pub entry : ℕ → Kind → ℕ → List ℕ → Entry
entry stamp kind base bytes = record { stamp = stamp; kind = kind; base = base; bytes = bytes }

abbrev pub access : Side → ℕ → Word → Access
access side at word = record { side = side; at = at; word = word }

abbrev pub page_store : ℕ → Option Side → PageStore
page_store page side = record { page = page; side = side }

-- the view that knows nothing: that of a pass which was joined into another
abbrev pub nothing : View
nothing = record { entries = []; puts = []; reads = []; page_stores = []; page_reads = []; order = []; left = 0; quota = 0 }

-- the first pass has done nothing, and may draw every stamp
abbrev pub all_stamps : View
all_stamps = record nothing { left = 2 ^ 47; quota = 2 ^ 47 }

-- a draw adds its entry, and one stamp fewer is left
abbrev pub with_entry : View → Entry → View
with_entry v e = record v { entries = v.entries ++ e ∷ []; order = v.order ++ Drawn ∷ []; left = v.left - 1 }

-- a store of a cell adds its put
abbrev pub with_put : View → Access → View
with_put v p = record v { puts = v.puts ++ p ∷ []; order = v.order ++ WordStored ∷ [] }

-- a load of a cell adds its read
abbrev pub with_read : View → Access → View
with_read v r = record v { reads = v.reads ++ r ∷ []; order = v.order ++ WordLoaded ∷ [] }

-- a store of a page word adds its page store
abbrev pub with_page_store : View → PageStore → View
with_page_store v s = record v { page_stores = v.page_stores ++ s ∷ []; order = v.order ++ PageStored ∷ [] }

abbrev pub is_side : Option Side → Bool
is_side None = false
is_side (Some side) = true

-- one of these stores made the page present
abbrev pub makes_present : ℕ → List PageStore → Bool
makes_present page [] = false
makes_present page (s ∷ ss) = (s.page == page && is_side s.side) || makes_present page ss

-- the page was found so, by a pass with these page stores
abbrev pub page_read : ℕ → Option Side → List PageStore → PageRead
page_read page side stores = record { page = page; side = side; stored = makes_present page stores }

-- a load of a page word adds its page read
abbrev pub with_page_read : View → ℕ → Option Side → View
with_page_read v page side = record v { page_reads = v.page_reads ++ page_read page side v.page_stores ∷ []; order = v.order ++ PageLoaded ∷ [] }

-- a split keeps all lists in both views; a share of the stamps and of the quota goes over
abbrev pub kept_of : ℕ → View → View
kept_of share v = record v { left = v.left - share; quota = v.quota - share }

abbrev pub given_of : ℕ → View → View
given_of share v = record v { left = share; quota = share }

-- a join has the lists of both, one behind the other, and the sums of their stamps and quotas
abbrev pub both_of : View → View → View
both_of v w = record { entries = v.entries ++ w.entries; puts = v.puts ++ w.puts; reads = v.reads ++ w.reads; page_stores = v.page_stores ++ w.page_stores; page_reads = v.page_reads ++ w.page_reads; order = v.order ++ w.order; left = v.left + w.left; quota = v.quota + w.quota }

-- each entry of the view lies in a memory of this many bytes
abbrev pub LiesWithin : ℕ → View → Type 0
LiesWithin size v = (e : Entry) → Contains v.entries e → e.base + length e.bytes ≤ size

-- each stamp that the view has drawn or read is below this one
pub record StampsBelow (stamp : ℕ) (v : View) : Type 0 where
  pub drawn : (e : Entry) → Contains v.entries e → e.stamp < stamp
  pub read : (r : Access) → Contains v.reads r → r.word.stamp < stamp

-- a load of an address: its page was found on some side, and then the word there; it is not zero where the pass has a put there
pub record LoadsWord (before : View) (at : ℕ) (word : Word) (after : View) : Type 0 where
  pub side : Side
  pub gained : after ≡ with_read (with_page_read before (at / 4096) (Some side)) (access side at word)
  pub own : (w : Word) → Contains before.puts (access side at w) → word ≢ zero_word
