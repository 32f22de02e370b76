-- What a seat at a journal's table knows, and what each step makes of it.
use Rattle.std.specs.Prelude.{ℕ, ◌-◌, true, false, List, [], ◌∷◌, ◌++◌, length}
use Rattle.sh_parts.specs.declared.entry.Entry.{Entry}
use Rattle.sh_parts.specs.declared.entry.Entry.TheVariants as entry
use Rattle.sh_parts.specs.declared.entry.DomainStep.TheVariants as step
use Rattle.sh_parts.specs.declared.entry.DomainAnswer.TheVariants as answer
use Rattle.sh_parts.specs.declared.view.View.{View}

abbrev pub no_entry : Entry
no_entry = entry.Domain step.Register answer.Done

-- the seat that keeps a journal of which so many entries were noted
abbrev pub keeper : List Entry → ℕ → View
keeper journal noted = record { keeps = true; journal = journal; noted = noted; claims = false; entries = []; place = 0; met = false; met_entries = []; met_place = 0 }

-- the seat of a note
abbrev pub note_of : List Entry → ℕ → View
note_of entries place = record { keeps = false; journal = []; noted = 0; claims = true; entries = entries; place = place; met = false; met_entries = []; met_place = 0 }

-- a seat that was joined into another knows nothing
abbrev pub nobody : View
nobody = record { keeps = false; journal = []; noted = 0; claims = false; entries = []; place = 0; met = false; met_entries = []; met_place = 0 }

-- an append adds its entry at the end
abbrev pub with_entry : View → Entry → View
with_entry v e = record v { journal = v.journal ++ e ∷ [] }

-- after a note every entry is noted, and the note has the journal and the last entry's place
abbrev pub all_noted : View → View
all_noted v = record v { noted = length v.journal }

abbrev pub last_note : View → View
last_note v = note_of v.journal (length v.journal - 1)

-- a join takes in the other's claim
abbrev pub meeting : View → View → View
meeting v w = record v { met = w.claims; met_entries = w.entries; met_place = w.place }

-- a look lets go of it
abbrev pub without_meeting : View → View
without_meeting v = record v { met = false; met_entries = []; met_place = 0 }
