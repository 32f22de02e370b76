-- First words, by a sum of their letters.
use Rattle.std.specs.Prelude.{ℕ, ◌+◌, ◌-◌, ◌*◌, ◌/◌, ◌%◌, List, length, slice_index, slice_index_or}
use Rattle.vd_model.specs.declared.word.Keyword.{Keyword}
use Rattle.vd_model.specs.declared.word.Keyword.TheVariants as first
use Rattle.vd_model.specs.declared.word.DriverWord.TheVariants.{Map}
use Rattle.vd_model.specs.ControlLines.{control_word_text}
use Rattle.vd_model.specs.NodeLines.{node_word_text}
use Rattle.vd_model.specs.AreaLines.{area_word_text}
use Rattle.vd_model.specs.BusLines.{bus_word_text}
use Rattle.vd_model.specs.DriverLines.{driver_word_text}
use Rattle.vd_model.specs.QueueLines.{queue_word_text}
use Rattle.vd_words.specs.declared.keyword.TheConstants.{FIRST_WORDS, PLACES}

-- the word as it is written
abbrev pub keyword_text : Keyword → List ℕ
keyword_text (first.Control w) = control_word_text w
keyword_text (first.Node w) = node_word_text w
keyword_text (first.Area w) = area_word_text w
keyword_text (first.Bus w) = bus_word_text w
keyword_text (first.Driver w) = driver_word_text w
keyword_text (first.Queue w) = queue_word_text w

-- a sum of the first letter, the one in the middle, the last but one, and the length
abbrev pub letter_sum : List ℕ → ℕ
letter_sum w = (16 * slice_index w 0 + 19 * slice_index w (length w / 2) + 2 * slice_index w (length w - 2) + length w) % 256

-- where the table says that the first word of that sum stands
abbrev pub place : List ℕ → ℕ
place w = slice_index PLACES (letter_sum w)

-- the first word that stands there
abbrev pub candidate : List ℕ → Keyword
candidate w = slice_index_or FIRST_WORDS (place w) (first.Driver Map)
