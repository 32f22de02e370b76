-- Bits of a row of words, runs of clear ones, and a summary with a bit for each word.
use Rattle.std.specs.Prelude.{ℕ, ◌+◌, ◌*◌, ◌/◌, ◌%◌, ◌<◌, ◌≤◌, ◌≡◌, List, length, if◌then◌else◌, slice_index}
use Rattle.std.specs.Int.{bit_at}
use Rattle.vd_num.specs.Number.{is_within}

-- bit p mod 64 of word p / 64
unfoldable pub bit : List ℕ → ℕ → ℕ
bit words p = bit_at (slice_index words (p / 64)) (p % 64)

-- the n bits of a word from lo on are clear
abbrev pub IsClearWord : ℕ → ℕ → ℕ → Type 0
IsClearWord word lo n = (i : ℕ) → lo ≤ i → i < lo + n → bit_at word i ≡ 0

-- the n bits of the row from start on are clear
abbrev pub IsClear : List ℕ → ℕ → ℕ → Type 0
IsClear words start n = (p : ℕ) → start ≤ p → p < start + n → bit words p ≡ 0

-- no run of n clear bits starts at a multiple of step from lo to hi - 1
abbrev pub NoRun : List ℕ → ℕ → ℕ → ℕ → ℕ → Type 0
NoRun words step n lo hi = (k : ℕ) → lo ≤ k → k < hi → k % step ≡ 0 → IsClear words k n → ⊥

-- bit i is the greatest clear one of the word below bit `end`
pub record IsTopClear (word end i : ℕ) : Type 0 where
  pub below : i < end
  pub clear : bit_at word i ≡ 0
  pub top : (j : ℕ) → i < j → j < end → bit_at word j ≡ 1

-- lo is the greatest multiple of step from which n bits of the word are clear
pub record IsTopInWord (word step n lo : ℕ) : Type 0 where
  pub multiple : lo % step ≡ 0
  pub fits : lo + n ≤ 64
  pub clear : IsClearWord word lo n
  pub top : (k : ℕ) → lo < k → k < 64 → k % step ≡ 0 → IsClearWord word k n → ⊥

-- start is the greatest multiple of step below hi from which n bits are clear
pub record IsTopRun (words : List ℕ) (step n hi start : ℕ) : Type 0 where
  pub multiple : start % step ≡ 0
  pub below : start < hi
  pub inside : start + n ≤ 64 * length words
  pub clear : IsClear words start n
  pub top : NoRun words step n (start + 1) hi

-- every bit of word w is set
abbrev pub IsFullWord : List ℕ → ℕ → Type 0
IsFullWord words w = (i : ℕ) → i < 64 → bit words (64 * w + i) ≡ 1

-- bit w of the summary is set exactly where word w is full
pub record IsSummary (words full : List ℕ) : Type 0 where
  pub len : length words ≡ 64 * length full
  pub is_full : (w : ℕ) → w < length words → bit full w ≡ 1 → IsFullWord words w
  pub not_full : (w : ℕ) → w < length words → bit full w ≡ 0 → IsFullWord words w → ⊥

-- the bits outside first to end - 1 are set
pub record IsOutside (words : List ℕ) (first end : ℕ) : Type 0 where
  pub below : (p : ℕ) → p < first → p < 64 * length words → bit words p ≡ 1
  pub above : (p : ℕ) → end ≤ p → p < 64 * length words → bit words p ≡ 1

-- a run of n bits is asked for at multiples of step, from first to end - 1: step is not below n and below twice n, n bits
-- have room there, the row has up to 1,024 words, and its other bits are set
pub record IsSearch (words : List ℕ) (step n first end : ℕ) : Type 0 where
  pub some : 0 < n
  pub fits : n ≤ step
  pub least : step < 2 * n
  pub room : first + n ≤ end
  pub inside : end ≤ 64 * length words
  pub small : length words ≤ 1024
  pub outside : IsOutside words first end

-- one summary word says which of the words from `from` to `to` - 1 are full
pub record SumsUp (words : List ℕ) (sum from to : ℕ) : Type 0 where
  pub is_full : (w : ℕ) → from ≤ w → w < to → bit_at sum (w % 64) ≡ 1 → IsFullWord words w
  pub not_full : (w : ℕ) → from ≤ w → w < to → bit_at sum (w % 64) ≡ 0 → IsFullWord words w → ⊥

-- the top run of the words from `from` to `to` - 1 starts in word `at` at lo
pub record IsFoundIn (words : List ℕ) (step n summary from to at word sum lo : ℕ) : Type 0 where
  pub low : from ≤ at
  pub high : at < to
  pub word_is : word ≡ slice_index words at
  pub sum_is : sum ≡ summary
  pub clear : bit_at sum (at % 64) ≡ 0
  pub run : IsTopInWord word step n lo
  pub top : NoRun words step n (64 * (at + 1)) (64 * to)

-- the top run of all words starts in word `at` at lo
pub record IsFound (words full : List ℕ) (step n at word sum lo : ℕ) : Type 0 where
  pub inside : at < length words
  pub word_is : word ≡ slice_index words at
  pub sum_is : sum ≡ slice_index full (at / 64)
  pub clear : bit_at sum (at % 64) ≡ 0
  pub run : IsTopInWord word step n lo
  pub top : NoRun words step n (64 * (at + 1)) (64 * length words)

-- the n bits from start on were set, and the summary with them
pub record Takes (start n : ℕ) (words full words' full' : List ℕ) : Type 0 where
  pub bits : (p : ℕ) → bit words' p ≡ (if is_within start n p then 1 else bit words p)
  pub len : length words' ≡ length words
  pub summary : IsSummary words' full'
