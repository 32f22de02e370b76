-- A range of a buffer that other bytes stand in for.
use Rattle.std.proofs.Common.{◌≡◌, ℕ, ◌+◌, ◌-◌, ◌<◌, ◌≤◌, Bool, true, false, refl, ap, ◌∙◌, sym, arith, List, ◌++◌, length, take, drop, subst, ◌&&◌, if◌then◌else◌, inl, inr}
use Rattle.std.specs.List.{slice_index}
use Rattle.std.proofs.Math.Seq.{take-append_seam}
use Rattle.std.proofs.lemmas.Bool.{cases_lt}
use Rattle.std.proofs.lemmas.Bool.Decides.{nat_tests}
use Rattle.std.proofs.lemmas.List.{get_or_append_left, get_or-append_right}
use Rattle.vd_num.specs.Number.{is_within}
use Rattle.vd_model.specs.Acts.{Act, Streaming}
use Rattle.vd_model.specs.Live.{iova_of}
use Rattle.vd_model.specs.Puts.{shown_put, is_from_device, bus_bytes}
use Rattle.vd_buffers.proofs.EachFrom.{each_from_at, length-each_from}
use Rattle.vd_memory_lines.specs.Given.{given}

module _ (pre mid out post : List ℕ) (a n : ℕ) (front : length pre ≡ a) (size : length mid ≡ n) (same : length out ≡ n) where
  -- outside of the range
  pub outside : (j : ℕ) → is_within a n j ≡ false → slice_index (pre ++ (out ++ post)) j ≡ slice_index (pre ++ (mid ++ post)) j
  outside j off = elim (cases_lt j a) [
    | inl below ↦ get_or_append_left pre (out ++ post) 0 j (omega arith) ∙ sym (get_or_append_left pre (mid ++ post) 0 j (omega arith))
    | inr past ↦ (let behind : a + n ≤ j = grind (arith, nat_tests, off, past) in
        get_or-append_right pre (out ++ post) a j 0 front past ∙ get_or-append_right out post n (j - a) 0 same (omega arith)
        ∙ sym (get_or-append_right pre (mid ++ post) a j 0 front past ∙ get_or-append_right mid post n (j - a) 0 size (omega arith)))
  ]

  -- within it
  pub inside : (j : ℕ) → is_within a n j ≡ true → slice_index (pre ++ (out ++ post)) j ≡ slice_index out (j - a)
  inside j on =
      let low : a ≤ j = grind (arith, nat_tests, on) in
      let high : j < a + n = grind (arith, nat_tests, on) in
      get_or-append_right pre (out ++ post) a j 0 front low ∙ get_or_append_left out post 0 (j - a) (omega arith)

pub given_is : (g : ℕ) (acts : List Act) (m : Streaming) (pre mid out post : List ℕ) → length pre ≡ m.want.offset → length mid ≡ m.want.len
    → (is_from_device m.want.dir ≡ true → out ≡ bus_bytes g acts (iova_of m) m.want.len) → (is_from_device m.want.dir ≡ false → out ≡ mid)
    → (j : ℕ) → slice_index (pre ++ (out ++ post)) j ≡ given g acts m j (slice_index (pre ++ (mid ++ post)) j)
given_is g acts m pre mid out post front size from to j = by (is_from_device m.want.dir) refl (is_within m.want.offset m.want.len j) refl where
  by : (t : Bool) → is_from_device m.want.dir ≡ t → (u : Bool) → is_within m.want.offset m.want.len j ≡ u
      → slice_index (pre ++ (out ++ post)) j ≡ (if t && u then (shown_put g acts (iova_of m + (j - m.want.offset))).byte else slice_index (pre ++ (mid ++ post)) j)
  by false e u h = ap (λ (l : List ℕ). slice_index (pre ++ (l ++ post)) j) (to e)
  by true e u h = (let len : length out ≡ m.want.len = ap length (from e) ∙ length-each_from (λ a. (shown_put g acts a).byte) (iova_of m) m.want.len in within u h len) where
    within : (u : Bool) → is_within m.want.offset m.want.len j ≡ u → length out ≡ m.want.len
        → slice_index (pre ++ (out ++ post)) j ≡ (if u then (shown_put g acts (iova_of m + (j - m.want.offset))).byte else slice_index (pre ++ (mid ++ post)) j)
    within false h len = outside pre mid out post m.want.offset m.want.len front size len j h
    within true h len =
        let near : j - m.want.offset < m.want.len = grind (arith, nat_tests, h) in
        inside pre mid out post m.want.offset m.want.len front size len j h ∙ ap (λ (l : List ℕ). slice_index l (j - m.want.offset)) (from e)
        ∙ each_from_at (λ a. (shown_put g acts a).byte) (iova_of m) m.want.len (j - m.want.offset) near

-- what is written back of a whole list
pub refilled : {X : Type 0} (n : ℕ) (new old : List X) → length new ≡ n → take n (new ++ drop (length new) old) ≡ new
refilled n new old e = subst (λ k. take k (new ++ drop (length new) old) ≡ new) e (take-append_seam new (drop (length new) old))
