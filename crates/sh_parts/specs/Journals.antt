-- What contracts see of a journal and of a note.
use Rattle.std.specs.Prelude.{ℕ, List, []}
use Rattle.atomic_table.specs.Seated.{TableId}
use Rattle.sh_parts.specs.declared.entry.Entry.{Entry}
use Rattle.sh_parts.specs.declared.entry.JournalKind.{JournalKind}
use Rattle.sh_parts.specs.declared.entry.JournalKind.TheVariants.{Domain, Messages}
use Rattle.sh_parts.specs.Legal.{Numbers}

-- a journal: its entries, the oldest first, how many there were when the last note was made, and for how many more there is room
pub record JournalView : Type 0 where
  pub kind : JournalKind
  pub entries : List Entry
  pub noted : ℕ
  pub room : ℕ

-- a note: a front of its journal, and the place of an entry in it
pub record NoteView : Type 0 where
  pub kind : JournalKind
  pub entries : List Entry
  pub place : ℕ

-- the table of a journal, by a name's two ids
abbrev pub table_of : TableId → TableId → JournalKind → TableId
table_of domain messages Domain = domain
table_of domain messages Messages = messages

-- the id of a name that no call has picked
abbrev pub no_table : TableId
no_table = record { words = 0; slots = 0; views_name = 0; atom = 0; block = 0; offset = 0; slot_names = [] }

abbrev pub no_numbers : Numbers
no_numbers = record { bounce = 0; pages = 0; timeout = 0 }

-- the state under a lock: the entries of its journal, and how many there were when the last note was made
pub record StateView : Type 0 where
  pub entries : List Entry
  pub noted : ℕ

-- the messages before they have a name: their journal's table and entries, and their timeout in seconds
pub record NewMessagesView : Type 0 where
  pub table : TableId
  pub entries : List Entry
  pub timeout : ℕ

-- the memory before it has a name: its journal's table and entries, its bounce pages and all its pages
pub record NewDomainView : Type 0 where
  pub table : TableId
  pub entries : List Entry
  pub bounce : ℕ
  pub pages : ℕ
