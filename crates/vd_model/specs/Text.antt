-- How the fields of a step are written: names, decimal numbers and lower-case digits.
use Rattle.std.specs.Prelude.{ℕ, Bool, true, false, List, [], ◌∷◌, ◌++◌, codes, decimal}
use Rattle.std.specs.List.{join_with_byte}
use Rattle.hex.specs.Hex.{encode_lower}
use Rattle.vd_model.specs.declared.parts.Part.{Part}
use Rattle.vd_model.specs.declared.memory.Dir.{Dir}
use Rattle.vd_model.specs.declared.memory.Dir.TheVariants.{To, From, Both}
use Rattle.vd_model.specs.declared.step.QueueOrConfig.{QueueOrConfig}
use Rattle.vd_model.specs.declared.step.QueueOrConfig.TheVariants as on
use Rattle.vd_model.specs.declared.step.SubmitForm.{SubmitForm}
use Rattle.vd_model.specs.declared.step.SubmitForm.TheVariants.{Read, Write, Flush, Id}

-- words, each behind the separator c
abbrev pub behind : ℕ → List (List ℕ) → List ℕ
behind c [] = []
behind c (w ∷ ws) = c ∷ (w ++ behind c ws)

-- a flag
abbrev pub flag_text : Bool → List ℕ
flag_text false = codes "0"
flag_text true = codes "1"

-- the direction of a mapping
abbrev pub dir_text : Dir → List ℕ
dir_text To = codes "to"
dir_text From = codes "from"
dir_text Both = codes "both"

-- a queue's number, or config
abbrev pub on_text : QueueOrConfig → List ℕ
on_text on.Config = codes "config"
on_text (on.Queue q) = decimal q

-- two digits for each byte, or - for no bytes
abbrev pub optional_hex_text : List ℕ → List ℕ
optional_hex_text [] = codes "-"
optional_hex_text (b ∷ bs) = encode_lower (b ∷ bs)

-- r for a part that the device reads, w for one that it writes
abbrev pub writable_text : Bool → List ℕ
writable_text false = codes "r"
writable_text true = codes "w"

-- a part, with a colon between its fields
abbrev pub part_text : Part → List ℕ
part_text p = join_with_byte 58 (writable_text p.writable ∷ decimal p.at ∷ decimal p.len ∷ [])

-- the words of a block request
abbrev pub submit_text : SubmitForm → List (List ℕ)
submit_text (Read sector b off len) = codes "read" ∷ decimal sector ∷ decimal b ∷ decimal off ∷ decimal len ∷ []
submit_text (Write sector b off len) = codes "write" ∷ decimal sector ∷ decimal b ∷ decimal off ∷ decimal len ∷ []
submit_text Flush = codes "flush" ∷ []
submit_text (Id b off) = codes "id" ∷ decimal b ∷ decimal off ∷ []
