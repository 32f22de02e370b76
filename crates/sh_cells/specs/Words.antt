-- A word of two bytes with a stamp as one number, and a page word as one number.
use Rattle.std.specs.Prelude.{ℕ, zero, suc, ◌+◌, ◌*◌, ◌/◌, ◌%◌, [], ◌∷◌, Option, Some, None}
use Rattle.std.specs.Int.{w16, from_le_bytes}
use Rattle.sh_cells.specs.declared.word.Word.{Word}
use Rattle.sh_cells.specs.declared.word.Side.{Side}
use Rattle.sh_cells.specs.declared.word.Side.TheVariants.{First, Second}

-- the number of a word: the stamp in its upper 48 bits, and the two bytes below, the first of them lowest
abbrev pub word_number : Word → ℕ
word_number w = w.stamp * 65536 + from_le_bytes w16 w.bytes

-- and back: the word that a number stands for
abbrev pub word_of : ℕ → Word
word_of n = record { stamp = n / 65536; bytes = n % 256 ∷ n / 256 % 256 ∷ [] }

-- the word that nothing wrote
abbrev pub zero_word : Word
zero_word = record { stamp = 0; bytes = 0 ∷ 0 ∷ [] }

-- what a page word of this number says: no side, the first, or the second
abbrev pub side_of : ℕ → Option Side
side_of zero = None
side_of (suc zero) = Some First
side_of (suc (suc n)) = Some Second

-- an address has two cells, the first for its first side
abbrev pub side_number : Side → ℕ
side_number First = 0
side_number Second = 1
