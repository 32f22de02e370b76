-- The dirty sectors after one was made dirty or clean.
use Rattle.std.proofs.Common.{◌≡◌, ℕ, ◌+◌, ◌-◌, ◌<◌, ◌≤◌, List, [], ◌∷◌, length, Option, Some, None, refl, sym, ap, subst, ◌∙◌, arith, length-set, get_or-set_same, get_or-set_other, inl, inr}
use Rattle.std.proofs.lemmas.Bool.{cases_eq}
use Rattle.std.specs.List.{slice_index_or, slice_set}
use Rattle.blk_dirty.specs.Dirty.{DirtyLines, IsSound, AreLines, bytes_at, mark, marked, with_bytes}
use Rattle.blk_dirty.proofs.Marks.{with_same, with_other, marked_with, marked_some, marked_none}

pub set_at : (lines : List (Option (List ℕ))) (sector : ℕ) (o : Option (List ℕ)) → sector < length lines → (s : ℕ) →
    slice_index_or (slice_set lines sector o) s None ≡ with_bytes sector o (λ t. slice_index_or lines t None) s
set_at lines sector o inside s = elim (cases_eq s sector) [
  | inl here ↦
      (let f : ℕ → Option (List ℕ) = λ t. slice_index_or lines t None in
      ap (λ (t : ℕ). slice_index_or (slice_set lines sector o) t None) here ∙ get_or-set_same lines sector o None inside
      ∙ sym (ap (λ (t : ℕ). with_bytes sector o (λ t. slice_index_or lines t None) t) here ∙ with_same sector o (λ t. slice_index_or lines t None)))
  | inr apart ↦ get_or-set_other lines sector s o None apart ∙ sym (with_other sector o (λ t. slice_index_or lines t None) s apart)
]

lines_with : (f g : ℕ → Option (List ℕ)) (sector : ℕ) (o : Option (List ℕ)) → ((s : ℕ) → g s ≡ with_bytes sector o f s) → AreLines f → ((bytes : List ℕ) → o ≡ Some bytes → length bytes ≡ 512) → AreLines g
lines_with f g sector o is whole own s bytes there = elim (cases_eq s sector) [
  | inl here ↦ own bytes (sym (ap (λ (t : ℕ). g t) here ∙ is sector ∙ with_same sector o f) ∙ there)
  | inr apart ↦ whole s bytes (sym (is s ∙ with_other sector o f s apart) ∙ there)
]

-- one sector's line was replaced
pub edited : (d : DirtyLines) (spare most sector len left room : ℕ) (o : Option (List ℕ)) → IsSound d spare most → sector < length d.lines → ((bytes : List ℕ) → o ≡ Some bytes → length bytes ≡ 512) →
    len + mark (bytes_at d sector) ≡ d.len + mark o → left + len ≡ d.room → d.room ≤ room → IsSound (record { lines = slice_set d.lines sector o; len = len; room = d.room }) left room
unfolding bytes_at
edited d spare most sector len left room o sound inside own count rest fits =
    let f : ℕ → Option (List ℕ) = λ t. slice_index_or d.lines t None in
    let g : ℕ → Option (List ℕ) = λ t. slice_index_or (slice_set d.lines sector o) t None in
    let size : length (slice_set d.lines sector o) ≡ length d.lines = length-set d.lines sector o in
    let is = set_at d.lines sector o inside in
    let sum : marked (λ t. slice_index_or (slice_set d.lines sector o) t None) (length d.lines) + mark (slice_index_or d.lines sector None) ≡ marked (λ t. slice_index_or d.lines t None) (length d.lines) + mark o =
    marked_with (λ t. slice_index_or d.lines t None) (λ t. slice_index_or (slice_set d.lines sector o) t None) sector o (length d.lines) is inside in
    let old : d.len ≡ marked (λ t. slice_index_or d.lines t None) (length d.lines) = sound.count in
    let now : len ≡ marked (λ t. slice_index_or (slice_set d.lines sector o) t None) (length d.lines) = omega arith in
    record {
      count = now ∙ ap (λ (n : ℕ). marked (λ t. slice_index_or (slice_set d.lines sector o) t None) n) (sym size);
      rest = rest;
      capacity = fits;
      whole = lines_with (λ t. slice_index_or d.lines t None) (λ t. slice_index_or (slice_set d.lines sector o) t None) sector o is sound.whole own;
    }

-- a dirty sector leaves fewer spare lines than there is room
pub used : (d : DirtyLines) (spare most sector : ℕ) (bytes : List ℕ) → IsSound d spare most → sector < length d.lines → bytes_at d sector ≡ Some bytes → spare < d.room
used d spare most sector bytes sound inside there =
    let one : mark (bytes_at d sector) ≡ 1 = ap (λ (o : Option (List ℕ)). mark o) there in
    let some : mark (bytes_at d sector) ≤ marked (bytes_at d) (length d.lines) = marked_some (bytes_at d) sector (length d.lines) inside in
    omega (arith, sound.count, sound.rest)

-- none is dirty
pub made : (d : DirtyLines) (spare most : ℕ) → ((s : ℕ) → bytes_at d s ≡ None) → d.len ≡ 0 → spare ≡ d.room → d.room ≤ most → IsSound d spare most
made d spare most none len all room = record {
  count = len ∙ sym (marked_none (bytes_at d) (length d.lines) none);
  rest = omega arith;
  capacity = room;
  whole = λ s bytes there. let no : None ≡ Some bytes = sym (none s) ∙ there in absurd (cc);
}
