-- What is known after each step of a search.
use Rattle.std.proofs.Common.{◌≡◌, ℕ, ◌+◌, ◌-◌, ◌*◌, ◌/◌, ◌%◌, ◌<◌, ◌≤◌, ◌⊎◌, inl, inr, subst, ap, sym, ◌∙◌, arith, List, length, Option, Some, None}
use Rattle.std.proofs.lemmas.Bool.Decides.{eqb_tells, leb_tells}
use Rattle.std.specs.Int.{bit_at}
use Rattle.std.specs.Option.{MatchOption}
use Rattle.vd_num.specs.Number.{power_from}
use Rattle.std.specs.List.{slice_index}
use Rattle.vd_iova.specs.Bits.{bit, IsClear, IsClearWord, NoRun, IsFullWord, IsSummary, IsOutside, SumsUp, IsTopRun}
use Rattle.vd_iova.proofs.Multiples.{between}
use Rattle.vd_iova.proofs.Runs.{bit_in, bit_small, bit_tells, bit_of, full_bit, no_run_join, no_run_set, one_not_zero}

-- a word in which no single bit is clear is full
pub full_by_none : (words : List ℕ) (w step : ℕ) → step ≡ 1 → ((k : ℕ) → k < 64 → k % step ≡ 0 → IsClearWord (slice_index words w) k 1 → ⊥) → IsFullWord words w
full_by_none words w step e none i h = elim (bit_tells (bit words (64 * w + i)) (bit_small words (64 * w + i))) [
  | inr set ↦ set
  | inl clear ↦ absurd (none i h (ap (λ s. i % s) e ∙ omega arith) (λ j low high. let same : j ≡ i = omega arith in ap (λ k. bit_at (slice_index words w) k) same ∙ sym (bit_of words w i h) ∙ clear))
]

-- one summary word says which words of its group are full
pub group_sums : (words full : List ℕ) (sum group from to : ℕ) → IsSummary words full → sum ≡ slice_index full group → ((w : ℕ) → from ≤ w → w < to → w / 64 ≡ group) → to ≤ length words → SumsUp words sum from to
group_sums words full sum group from to s read in_group inside = record {
  is_full = λ w low high set. s.is_full w (omega arith) (there w low high ∙ set);
  not_full = λ w low high clear. s.not_full w (omega arith) (there w low high ∙ clear);
} where
  there : (w : ℕ) → from ≤ w → w < to → bit full w ≡ bit_at sum (w % 64)
  there w low high = bit_in full w group (in_group w low high) ∙ ap (λ x. bit_at x (w % 64)) (sym read)

-- the words of a group above a bit of its summary word, where those bits are set
module _ (words : List ℕ) (sum from to base step n : ℕ) (sums : SumsUp words sum from to) (some : 0 < n) (start : base ≡ from / 64 * 64) (group : to ≤ base + 64) where
  pub no_run_sums : (lo end : ℕ) → from ≤ base + lo → base + end ≤ to → ((j : ℕ) → lo ≤ j → j < end → bit_at sum j ≡ 1) → NoRun words step n (64 * (base + lo)) (64 * (base + end))
  no_run_sums lo end low high set = no_run_set words step n (64 * (base + lo)) (64 * (base + end)) some (λ k above below.
      let w : ℕ = k / 64 in
      let rest : w % 64 ≡ w - base = omega (arith, start) in
      let one : bit_at sum (w % 64) ≡ 1 = ap (λ j. bit_at sum j) rest ∙ set (w - base) (omega arith) (omega arith) in
      full_bit words w k (sums.is_full w (omega arith) (omega arith) one) (omega arith) (omega arith))

module _ (words : List ℕ) (step n first end : ℕ) (some : 0 < n) (out : IsOutside words first end) where
  pub no_run_below : (lo hi : ℕ) → hi ≤ first → hi ≤ 64 * length words → NoRun words step n lo hi
  no_run_below lo hi low room = no_run_set words step n lo hi some (λ k above below. out.below k (omega arith) (omega arith))

  pub no_run_above : (lo hi : ℕ) → end ≤ lo → hi ≤ 64 * length words → NoRun words step n lo hi
  no_run_above lo hi high room = no_run_set words step n lo hi some (λ k above below. out.above k (omega arith) (omega arith))

  -- the words past a group, of which those above were searched
  pub past_group : (to group : ℕ) → (end ≤ 64 * to) ⊎ (4096 * group ≤ 64 * to) → NoRun words step n (4096 * group) (64 * length words) → NoRun words step n (64 * to) (64 * length words)
  past_group to group (inl ended) above = no_run_above (64 * to) (64 * length words) ended (omega arith)
  past_group to group (inr later) above = λ k low high. above k (omega arith) high

  -- one group more
  pub group_down : (from to group : ℕ) → (64 * from ≤ 4096 * (group - 1)) ⊎ (64 * from ≤ first) → from ≤ length words → NoRun words step n (64 * from) (64 * to) → NoRun words step n (64 * to) (64 * length words)
      → NoRun words step n (4096 * (group - 1)) (64 * length words)
  group_down from to group start room here past = no_run_join words step n (4096 * (group - 1)) (64 * from) (64 * length words) (below start)
      (no_run_join words step n (64 * from) (64 * to) (64 * length words) here past) where
        below : (64 * from ≤ 4096 * (group - 1)) ⊎ (64 * from ≤ first) → NoRun words step n (4096 * (group - 1)) (64 * from)
        below (inl none) = λ k low high. absurd (omega arith)
        below (inr outer) = no_run_below (4096 * (group - 1)) (64 * from) outer (omega arith)

  -- a top run ends before the end
  pub top_run_below : (start : ℕ) → end ≤ 64 * length words → IsTopRun words step n (64 * length words) start → IsTopRun words step n (end + 1 - n) start
  top_run_below start room t = record {
    multiple = t.multiple;
    below = elim (leb_tells end (start + n - 1)) [
      | inl past ↦
          (let p = past.1 in
          let inside = t.inside in
          absurd (one_not_zero (t.clear (start + n - 1) (omega arith) (omega arith)) (out.above (start + n - 1) p (omega arith))))
      | inr fits ↦ (let f = fits.1 in omega arith)
    ];
    inside = t.inside;
    clear = t.clear;
    top = λ k low high. t.top k low (omega arith);
  }

module _ (words : List ℕ) (step n q next hi : ℕ) (e : next ≡ q * step) where
  -- one candidate more, which isn't clear
  pub candidate_down : 0 < step → step ≤ next → (IsClear words (next - step) n → ⊥) → NoRun words step n next hi → NoRun words step n (next - step) hi
  candidate_down pos fits busy above k low high multiple clear = elim (leb_tells next k) [
    | inl up ↦ above k up.1 high multiple clear
    | inr down ↦ elim (eqb_tells k (next - step)) [
      | inl same ↦ busy (subst (λ x. IsClear words x n) same.1 clear)
      | inr other ↦
          (let near = down.1 in
          let ne = other.1 in
          between step q next k e near (omega arith) multiple)
    ]
  ]

  -- the candidates above this one
  pub candidates_above : 0 < step → step ≤ next → NoRun words step n next hi → NoRun words step n (next - step + 1) hi
  candidates_above pos fits above k low high multiple clear = elim (leb_tells next k) [
    | inl up ↦ above k up.1 high multiple clear
    | inr down ↦ (let near = down.1 in between step q next k e near (omega arith) multiple)
  ]

  -- the candidates below the first slot
  pub candidates_end : (first end : ℕ) → 0 < n → IsOutside words first end → first ≤ 64 * length words → next < first + step → NoRun words step n next hi → NoRun words step n 0 hi
  candidates_end first end some out room last above k low high multiple clear = elim (leb_tells next k) [
    | inl up ↦ above k up.1 high multiple clear
    | inr down ↦ (let near = down.1 in elim (leb_tells first k) [
      | inl inside ↦ (let i = inside.1 in between step q next k e near (omega arith) multiple)
      | inr outside ↦ (let o = outside.1 in one_not_zero (clear k (omega arith) (omega arith)) (out.below k o (omega arith)))
    ])
  ]

-- the answer of a search of all words, for slots up to the end
pub small_run : (words : List ℕ) (step n first end : ℕ) (A B : Type 0) (T : ℕ → Type 0) (r : Option ℕ) → 0 < n → IsOutside words first end → end ≤ 64 * length words → step ≡ power_from n
    → MatchOption r (NoRun words step n 0 (64 * length words) × A × B) (λ s. IsTopRun words step n (64 * length words) s × T s)
    → MatchOption r (NoRun words (power_from n) n 0 (end + 1 - n) × A × B) (λ s. IsTopRun words (power_from n) n (end + 1 - n) s × T s)
small_run words step n first end A B T None some out room e h =
    (subst (λ k. NoRun words k n 0 (end + 1 - n)) e (λ k low high. h.0 k low (omega arith)), h.1, h.2)
small_run words step n first end A B T (Some s) some out room e h =
    (subst (λ k. IsTopRun words k n (end + 1 - n) s) e (top_run_below words step n first end some out s room h.0), h.1)

-- ---- how many looks there are

pub looks_all : (first end : ℕ) → first < end → ((end + 63) / 64 + 63) / 64 - first / 64 / 64 + ((end + 63) / 64 - first / 64) ≤ (end - first) / 64 + (end - first) / 4096 + 4
looks_all first end order = omega arith

pub looks_one : (first end : ℕ) → first < end → ((end + 63) / 64 + 63) / 64 - first / 64 / 64 ≤ (end - first) / 4096 + 2
looks_one first end order = omega arith
