-- The rule of the cells: what their words and the views of all passes say of one another, between any two steps.
use Rattle.std.specs.Prelude.{◌≡◌, ◌≢◌, ℕ, ◌+◌, ◌*◌, ◌^◌, ◌%◌, ◌<◌, ◌≤◌, true, List, length, sum_by, slice_index, Contains, Some, None}
use mathlib.Core.Option.{some}
use lib.ListN.{get_elem?}
use Rattle.atomic_table.specs.Table.{State}
use Rattle.sh_cells.specs.declared.word.Side.{Side}
use Rattle.sh_cells.specs.declared.view.Entry.{Entry}
use Rattle.sh_cells.specs.declared.view.Access.{Access}
use Rattle.sh_cells.specs.declared.view.PageStore.{PageStore}
use Rattle.sh_cells.specs.declared.view.PageRead.{PageRead}
use Rattle.sh_cells.specs.declared.view.View.{View}
use Rattle.sh_cells.specs.Words.{word_of, zero_word, side_of}
use Rattle.sh_cells.specs.Places.{cell_place, page_place}
use Rattle.sh_cells.specs.Views.{page_store, nothing}
use Rattle.sh_cells.specs.Backed.{IsBacked}

abbrev pub entries_of : View → List Entry
entries_of v = v.entries

abbrev pub puts_of : View → List Access
puts_of v = v.puts

abbrev pub reads_of : View → List Access
reads_of v = v.reads

abbrev pub page_stores_of : View → List PageStore
page_stores_of v = v.page_stores

abbrev pub page_reads_of : View → List PageRead
page_reads_of v = v.page_reads

abbrev pub left_of : View → ℕ
left_of v = v.left

abbrev pub quota_of : View → ℕ
quota_of v = v.quota

-- some view has it in this list
abbrev pub Told : {A : Type 0} → (View → List A) → List View → A → Type 0
Told field views x = (by : ℕ) × (v : View) × (get_elem? views by ≡ some v) × Contains (field v) x

-- the words and the steps of all passes together
pub record IsConsistent (pages : ℕ) (words : List ℕ) (drew : Entry → Type 0) (put read : Access → Type 0) (stored : PageStore → Type 0) (found : PageRead → Type 0) : Type 0 where
  pub wide : length words ≡ 4097 + 4096 * pages
  pub few : pages ≤ 4096
  -- entries have stamps from 1 to the last one drawn, and those of one stamp are one
  pub drawn : (e : Entry) → drew e → (1 ≤ e.stamp) × (e.stamp ≤ slice_index words 0)
  pub one_each : (d e : Entry) → drew d → drew e → d.stamp ≡ e.stamp → d ≡ e
  -- the word of each cell, and each word that was read, is zero or was put there; a cell that has a put is not zero
  pub cells : (side : Side) (at : ℕ) → at % 2 ≡ 0 → at < 4096 * pages → IsBacked drew put side at (word_of (slice_index words (cell_place side at)))
  pub reads : (r : Access) → read r → IsBacked drew put r.side r.at r.word
  pub not_zero : (p : Access) → put p → word_of (slice_index words (cell_place p.side p.at)) ≢ zero_word
  -- a page that is present was stored so, and one that is absent and was stored present was stored absent
  pub present : (page : ℕ) (side : Side) → page < pages → side_of (slice_index words (page_place page)) ≡ Some side → stored (page_store page (Some side))
  pub absent : (page : ℕ) (side : Side) → page < pages → side_of (slice_index words (page_place page)) ≡ None → stored (page_store page (Some side)) → stored (page_store page None)
  -- the same of what page reads found
  pub found_present : (r : PageRead) (side : Side) → found r → r.side ≡ Some side → stored (page_store r.page (Some side))
  pub found_absent : (r : PageRead) → found r → r.side ≡ None → r.stored ≡ true → stored (page_store r.page None)

-- the stamps left lie above the last one drawn, the quotas are shares of all 2^47 stamps, and a view with no quota is spent
pub record IsDivided (words : List ℕ) (views : List View) : Type 0 where
  pub stamps : slice_index words 0 + sum_by left_of views ≤ 2 ^ 47
  pub quotas : sum_by quota_of views ≡ 2 ^ 47
  pub spent : (by : ℕ) (v : View) → get_elem? views by ≡ some v → v.quota ≡ 0 → v ≡ nothing

-- the rule
abbrev pub Kept : ℕ → State (Unit {0}) View → Type 0
Kept pages s =
    IsConsistent pages s.words (Told entries_of s.views) (Told puts_of s.views) (Told reads_of s.views) (Told page_stores_of s.views) (Told page_reads_of s.views)
    × IsDivided s.words s.views
