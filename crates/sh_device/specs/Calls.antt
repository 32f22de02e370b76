-- What the calls of a device add to the view of their pass, and what they answer from a journal.
use Rattle.std.specs.Prelude.{ℕ, ◌≡◌, ◌≢◌, ◌⊎◌, ◌≤◌, ◌<◌, ◌+◌, ◌-◌, ◌*◌, ◌/◌, ◌%◌, ⊤, Bool, false, List, [], ◌∷◌, ◌++◌, length, reverse, max, Option, Some, None, IsSome, Result, Ok, Err, slice_index_or, if◌then◌else◌, All, replicate}
use mathlib.Core.List.{IsPrefix}
use Rattle.vd_num.specs.Number.{pages_of}
use Rattle.vd_num.specs.declared.errno.Errno.{Errno}
use Rattle.vd_model.specs.declared.memory.Dir.{Dir}
use Rattle.vd_model.specs.declared.memory.Dir.TheVariants as dir
use Rattle.vd_model.specs.declared.memory.Region.{Region}
use Rattle.vd_model.specs.declared.message.Body.{Body}
use Rattle.vd_model.specs.declared.message.TakeAnswer.TheVariants.{Pending}
use Rattle.vd_model.specs.Live.{is_in_use}
use Rattle.sh_cells.specs.declared.word.Word.{Word}
use Rattle.sh_cells.specs.declared.word.Side.{Side}
use Rattle.sh_cells.specs.declared.word.Side.TheVariants.{First}
use Rattle.sh_cells.specs.declared.word.Kind.TheVariants.{Daemon, Handed}
use Rattle.sh_cells.specs.declared.view.View.{View}
use Rattle.sh_parts.specs.declared.entry.Entry.{Entry}
use Rattle.sh_parts.specs.declared.entry.Entry.TheVariants as entry
use Rattle.sh_parts.specs.declared.entry.JournalKind.TheVariants as kind
use Rattle.sh_parts.specs.declared.entry.DomainStep.{DomainStep}
use Rattle.sh_parts.specs.declared.entry.DomainStep.TheVariants as step
use Rattle.sh_parts.specs.declared.entry.DomainAnswer.{DomainAnswer}
use Rattle.sh_parts.specs.declared.entry.DomainAnswer.TheVariants as answer
use Rattle.sh_parts.specs.declared.entry.MessageStep.{MessageStep}
use Rattle.sh_parts.specs.declared.entry.MessageStep.TheVariants as asks
use Rattle.sh_parts.specs.declared.entry.MessageAnswer.{MessageAnswer}
use Rattle.sh_parts.specs.declared.entry.MessageAnswer.TheVariants as tells
use Rattle.sh_parts.specs.Legal.{Numbers, domain_turn, domain_acts, message_answer, acts_of_entries, message_start, now_of, IsMoment}
use Rattle.sh_parts.specs.Journals.{NoteView}
use Rattle.sh_device.specs.Spans.{accesses_on, bytes_of, least_of, with_reads, with_found, with_bytes, Clears, with_shown, Switches}

-- ---- notes

-- the note is of an entry of the domain's journal with this step and answer, and the answer is right after the entries before it
pub record IsDomainNote (x : Numbers) (note : NoteView) (step : DomainStep) (answer : DomainAnswer) : Type 0 where
  pub before : List Entry
  pub entries : note.entries ≡ before ++ entry.Domain step answer ∷ []
  pub place : note.place ≡ length before
  pub kind : note.kind ≡ kind.Domain
  pub right : answer ≡ (domain_turn x (domain_acts x (reverse before)) step).answer

-- the same of an entry of the messages' journal, which has a moment too
pub record IsMessageNote (x : Numbers) (note : NoteView) (step : MessageStep) (answer : MessageAnswer) : Type 0 where
  pub before : List Entry
  pub moment : ℕ
  pub entries : note.entries ≡ before ++ entry.Message step moment answer ∷ []
  pub place : note.place ≡ length before
  pub kind : note.kind ≡ kind.Messages
  pub on_time : IsMoment (reverse before) step moment
  pub right : answer ≡ message_answer (message_start x) (acts_of_entries x (reverse before)) step

-- the noted entry is a tick: its moment is this one, or that of the tick before it where that was later
pub record IsTick (x : Numbers) (now : ℕ) (note : NoteView) : Type 0 where
  pub noted : IsMessageNote x note asks.Tick tells.Done
  pub moment : noted.moment ≡ max now (now_of (reverse noted.before))

-- what a step that finds something, or only succeeds, answers in its entry
abbrev pub found_answer : Result Region Errno → DomainAnswer
found_answer (Ok region) = answer.Found region
found_answer (Err e) = answer.Err e

abbrev pub done_answer : Result ⊤ Errno → DomainAnswer
done_answer (Ok _) = answer.Done
done_answer (Err e) = answer.Err e

-- the noted entry is a take of an id, with an end; an earlier entry is the send of this body that got the id
pub record IsExchange (x : Numbers) (note : NoteView) (body : Body) (ended : MessageAnswer) : Type 0 where
  pub id : ℕ
  pub taken : IsMessageNote x note (asks.Take id) ended
  pub sent_before : List Entry
  pub sent_moment : ℕ
  pub sent : IsPrefix (sent_before ++ entry.Message (asks.Send body) sent_moment (tells.Id id) ∷ []) note.entries
  pub is_end : ended ≢ tells.Taken Pending

-- ---- mappings

-- a live mapping or coherent region, with a note of its entry
pub record HeldView : Type 0 where
  pub note : NoteView
  pub number : ℕ
  pub iova : ℕ
  pub len : ℕ
  pub dir : Dir
  pub stamp : ℕ
  pub coherent : Bool

abbrev pub made_by : HeldView → DomainStep
made_by h = if h.coherent then step.Coherent h.len else step.Map h.len h.dir

pub record IsHeld (x : Numbers) (h : HeldView) : Type 0 where
  pub noted : IsDomainNote x h.note (made_by h) (answer.Mapped h.number h.iova)
  pub start : h.iova % 4096 ≡ 0
  pub inside : h.iova + 4096 * pages_of h.len ≤ 4096 * x.pages
  pub even : h.coherent ≡ false → h.len % 2 ≡ 0

-- the bytes that a mapping hands over
abbrev pub handed : Dir → List ℕ → List ℕ
handed dir.To bytes = bytes
handed dir.From bytes = []
handed dir.Both bytes = bytes

-- a mapping's bytes were handed: its pages were looked at, those that were absent cleared, its entry drawn and put, and then its absent pages made present
pub record Hands (before : View) (number iova count : ℕ) (bytes : List ℕ) (stamp : ℕ) (after : View) : Type 0 where
  pub found : List (Option Side)
  pub size : length found ≡ count
  pub cleared : View
  pub clears : Clears (with_found before (iova / 4096) found) (iova / 4096) found cleared
  pub gained : after ≡ with_shown (with_bytes cleared stamp (Handed number) found iova bytes) (iova / 4096) found

-- pages were cleared and made present on their first sides
abbrev pub absents : ℕ → List (Option Side)
absents n = replicate n None

pub record Makes (before : View) (page count : ℕ) (after : View) : Type 0 where
  pub cleared : View
  pub clears : Clears before page (absents count) cleared
  pub gained : after ≡ with_shown cleared page (absents count)

-- ---- access

-- the pages of a range were looked at, and its words read in order, each on the side on which its page was found; the bytes and the least stamp are theirs
pub record Reads (found : List (Option Side)) (before : View) (at : ℕ) (bytes : List ℕ) (least : ℕ) (after : View) : Type 0 where
  pub words : List Word
  pub gained : after ≡ with_reads (with_found before (at / 4096) found) (accesses_on found (at / 4096) at words)
  pub bytes_are : bytes ≡ bytes_of words
  pub least_is : least ≡ least_of words

-- a load: each page of the range was present
pub record Loads (before : View) (at : ℕ) (bytes : List ℕ) (least : ℕ) (after : View) : Type 0 where
  pub found : List (Option Side)
  pub covers : at + length bytes ≤ 4096 * (at / 4096 + length found)
  pub present : All IsSome found
  pub reads : Reads found before at bytes least after

-- a mapping's bytes came back
pub record Brings (before : View) (iova : ℕ) (bytes : List ℕ) (after : View) : Type 0 where
  pub found : List (Option Side)
  pub size : length found ≡ pages_of (length bytes)
  pub least : ℕ
  pub reads : Reads found before iova bytes least after

-- a store of a daemon: each page of the range was present, and the bytes were put as one entry, each word on the side on which its page was found
pub record Stores (before : View) (at : ℕ) (bytes : List ℕ) (stamp : ℕ) (after : View) : Type 0 where
  pub found : List (Option Side)
  pub covers : at + length bytes ≤ 4096 * (at / 4096 + length found)
  pub present : All IsSome found
  pub gained : after ≡ with_bytes (with_found before (at / 4096) found) stamp Daemon found at bytes

-- the first address of a range that is absent, or lies outside a memory of this size: each page before it was found present
pub record Misses (size : ℕ) (before : View) (at len : ℕ) (bus : ℕ) (after : View) : Type 0 where
  pub found : List (Option Side)
  pub gained : after ≡ with_found before (at / 4096) found
  pub from : at ≤ bus
  pub within : bus < at + len
  pub first : (bus ≡ at) ⊎ (bus % 4096 ≡ 0)
  pub present : (k : ℕ) → at / 4096 + k < bus / 4096 → IsSome (slice_index_or found k None)
  pub absent : ((bus / 4096 - at / 4096 < length found) × (slice_index_or found (bus / 4096 - at / 4096) None ≡ None)) ⊎ (bus ≡ max at size)

-- ---- registration

-- at the end of a registration a bounce page lies on its first side where a live mapping has it, and else it is absent
abbrev pub side_after : Numbers → List Entry → ℕ → Option Side
side_after x entries page = if is_in_use 1 (domain_acts x (reverse entries)) page then Some First else None

-- each bounce page went to the side where it lies then, by what the entries say
pub record Deregisters (x : Numbers) (entries : List Entry) (before after : View) : Type 0 where
  pub sides : List (Option Side)
  pub size : length sides ≡ x.bounce
  pub sides_are : (page : ℕ) → page < x.bounce → slice_index_or sides page None ≡ side_after x entries page
  pub switches : Switches before 0 sides after
