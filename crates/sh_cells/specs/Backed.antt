-- What stands behind a word: the entry of its stamp, and the step that put it there.
use Rattle.std.specs.Prelude.{◌≡◌, ◌≢◌, ◌⊎◌, ℕ, ◌+◌, ◌-◌, ◌≤◌, ◌^◌, length, Contains, slice_range, Some, None, true}
use Rattle.sh_cells.specs.declared.word.Word.{Word}
use Rattle.sh_cells.specs.declared.word.Side.{Side}
use Rattle.sh_cells.specs.declared.view.Entry.{Entry}
use Rattle.sh_cells.specs.declared.view.Access.{Access}
use Rattle.sh_cells.specs.declared.view.PageRead.{PageRead}
use Rattle.sh_cells.specs.declared.view.View.{View}
use Rattle.sh_cells.specs.Words.{zero_word}
use Rattle.sh_cells.specs.Views.{access, page_store}

-- the entry has the two bytes of this word at this address, under its stamp
abbrev pub Covers : Entry → ℕ → Word → Type 0
Covers e at word = (e.stamp ≡ word.stamp) × (e.base ≤ at) × (at + 2 ≤ e.base + length e.bytes) × (slice_range e.bytes (at - e.base) (at - e.base + 2) ≡ word.bytes)

-- nothing wrote the word; or one of the entries covers it, and it was put there, on that side
abbrev pub IsBacked : (Entry → Type 0) → (Access → Type 0) → Side → ℕ → Word → Type 0
IsBacked drew put side at word = (word ≡ zero_word) ⊎ ((e : Entry) × drew e × Covers e at word × put (access side at word))

-- the same by the entries and puts of a log
abbrev pub Backed : View → Side → ℕ → Word → Type 0
Backed log = IsBacked (Contains log.entries) (Contains log.puts)

-- a word that the pass may put there: an entry of its own covers it
abbrev pub MayPut : View → ℕ → Word → Type 0
MayPut v at word = (e : Entry) × Contains v.entries e × Covers e at word

-- a word that the pass may copy there: it has read it at that address, on either side, and something wrote it
abbrev pub MayCopy : View → ℕ → Word → Type 0
MayCopy v at word = (from : Side) × Contains v.reads (access from at word) × (word ≢ zero_word)

-- the log of all passes
pub record IsSettled (log : View) : Type 0 where
  -- stamps are from 1 to 2^47, and the entries of one stamp are one
  pub stamps : (e : Entry) → Contains log.entries e → (1 ≤ e.stamp) × (e.stamp ≤ 2 ^ 47)
  pub one_each : (d e : Entry) → Contains log.entries d → Contains log.entries e → d.stamp ≡ e.stamp → d ≡ e
  -- each word that was read is zero, or was put there
  pub reads : (r : Access) → Contains log.reads r → Backed log r.side r.at r.word
  -- a page that was found on a side was stored so; and where a page was found absent by a pass that had made it present, it was made absent
  pub found_present : (r : PageRead) (side : Side) → Contains log.page_reads r → r.side ≡ Some side → Contains log.page_stores (page_store r.page (Some side))
  pub found_absent : (r : PageRead) → Contains log.page_reads r → r.side ≡ None → r.stored ≡ true → Contains log.page_stores (page_store r.page None)
