-- A request that isn't placed: its buffers are taken back, and there is no place for it.
use Rattle.std.proofs.Common.{◌≡◌, ◌≢◌, ℕ, ◌+◌, ◌-◌, ◌<◌, Bool, true, false, refl, ap, sym, subst, ◌∙◌, arith, List, ◌∷◌, ◌++◌, length, take, None, Result, Err, ◌⊎◌, inl, inr}
use Rattle.std.specs.List.{All}
use Rattle.vd_pool.specs.Memory.{PoolMemory as Pool}
use Rattle.vd_model.specs.Setting.{Setting}
use Rattle.vd_model.specs.Acts.{Act, Driver, Poked}
use Rattle.vd_model.specs.Live.{buffers, maps, live_mappings}
use Rattle.vd_model.specs.Place.{taken_slots}
use Rattle.vd_model.specs.RingTurns.{part_wants, table_wants, table_len, placed_mappings, needed_descriptors}
use Rattle.vd_buffers.specs.Places.{Places}
use Rattle.vd_memory_lines.specs.declared.memory.Memory.{Memory}
use Rattle.vd_memory_lines.specs.Stands.{Stands, IsInside}
use Rattle.vd_request_acts.proofs.Back.{back_front, back_both, back_filled, back_both_filled}
use Rattle.blk_driver.specs.Asked.{asked_in, front_bytes}
use Rattle.blk_driver.specs.Buffers.{has_range}
use Rattle.blk_driver.specs.declared.ask.Ask.{Ask}
use Rattle.blk_driver.specs.declared.driver.SubmitError.{SubmitError}
use Rattle.blk_driver.specs.declared.driver.SubmitError.TheVariants as error
use Rattle.blk_driver.specs.declared.driver.Submitted.{Submitted}
use Rattle.vd_request_lines.specs.Submitting.{made_acts, made_count, HasNoPlace, too_few, no_slots}
use Rattle.vd_request_lines.proofs.Makings.{made_more, front_ranged}
use Rattle.vd_request_lines.proofs.Requests.{draft, slots_before, maps_before}

-- what is left: the buffers as they were made, or the first of them filled again
abbrev pub Left : Setting → List Act → Bool → Ask → Memory → Pool → Type 0
Left x acts i ask k n = Stands x (made_acts i ask ++ acts) k n ⊎ Stands x (Driver (Poked (buffers acts) 0 (front_bytes ask 0)) ∷ made_acts i ask ++ acts) k n

-- an error of the driver
abbrev Failed : SubmitError → Result Submitted SubmitError
Failed e = Err e

no_space_full : Failed error.NoSpace ≡ Failed error.Full → ⊥
no_space_full e = cc

memory_full : Failed error.Memory ≡ Failed error.Full → ⊥
memory_full e = cc

module _ (x : Setting) (acts : List Act) (i : Bool) (ask : Ask) where
  pub left_of : (made k : Memory) (m n : Pool) (b : ℕ) → b ≡ buffers acts → Stands x (made_acts i ask ++ acts) made m → (e : SubmitError)
      → (Failed e ≡ Failed error.Full → (k ≡ made) × (n ≡ m))
      → ((Failed e ≡ Failed error.Full → ⊥) → (x : Setting) (acts : List Act) → Stands x acts made m → has_range acts b 0 17 ≡ true → Stands x (Driver (Poked b 0 (front_bytes ask 0)) ∷ acts) k n)
      → Left x acts i ask k n
  left_of made k m n b here s error.Full untouched filled =
      let same = untouched refl in
      inl (subst (λ (p : Pool). Stands x (made_acts i ask ++ acts) k p) (sym same.1) (subst (λ (t : Memory). Stands x (made_acts i ask ++ acts) t m) (sym same.0) s))
  left_of made k m n b here s error.NoSpace untouched filled =
      inr (subst (λ c. Stands x (Driver (Poked c 0 (front_bytes ask 0)) ∷ made_acts i ask ++ acts) k n) here
      (filled no_space_full x (made_acts i ask ++ acts) s (ap (λ c. has_range (made_acts i ask ++ acts) c 0 17) here ∙ front_ranged i ask acts)))
  left_of made k m n b here s error.Memory untouched filled =
      inr (subst (λ c. Stands x (Driver (Poked c 0 (front_bytes ask 0)) ∷ made_acts i ask ++ acts) k n) here
      (filled memory_full x (made_acts i ask ++ acts) s (ap (λ c. has_range (made_acts i ask ++ acts) c 0 17) here ∙ front_ranged i ask acts)))

  pub left_count : (k : Memory) (n : Pool) → Left x acts i ask k n → length k.buffers ≡ buffers acts + made_count i
  left_count k n (inl s) = s.buffers.count ∙ made_more i ask acts
  left_count k n (inr s) = s.buffers.count ∙ made_more i ask acts

-- the newest are taken back
left_taken : (x : Setting) (acts : List Act) (i : Bool) (ask : Ask) (k : Memory) (n : Pool) → All (IsInside acts) (live_mappings acts) → Left x acts i ask k n → Stands x acts (record k { buffers = take (buffers acts) k.buffers }) n
left_taken x acts false ask k n inside (inl s) = back_front x acts (front_bytes ask 0) k n inside s
left_taken x acts false ask k n inside (inr s) = back_filled x acts (front_bytes ask 0) k n inside s
left_taken x acts true ask k n inside (inl s) = back_both x acts (front_bytes ask 0) k n inside (table_len (asked_in ask)) s
left_taken x acts true ask k n inside (inr s) = back_both_filled x acts (front_bytes ask 0) k n inside (table_len (asked_in ask)) s

pub taken_back : (x : Setting) (acts : List Act) (i : Bool) (ask : Ask) (k : Memory) (n : Pool) → All (IsInside acts) (live_mappings acts) → Left x acts i ask k n
    → (new : Places) → new ≡ take (length k.buffers - made_count i) k.buffers → Stands x acts (record k { buffers = new }) n
taken_back x acts i ask k n inside left new e =
    let count = left_count x acts i ask k n left in
    let less : length k.buffers - made_count i ≡ buffers acts = omega (arith, count) in
    subst (λ (p : Places). Stands x acts (record k { buffers = p }) n) (sym (e ∙ ap (λ c. take c k.buffers) less)) (left_taken x acts i ask k n inside left)

-- why there was none
pub not_placed : (x : Setting) (acts : List Act) (i ev : Bool) (ask : Ask) (made : Memory) (m : Pool) (b free : ℕ) → b ≡ buffers acts → Stands x (made_acts i ask ++ acts) made m → (e : SubmitError) → e ≢ error.Memory
    → (Failed e ≡ Failed error.Full → free < needed_descriptors i (asked_in ask))
    → (Failed e ≡ Failed error.NoSpace → (x : Setting) (acts : List Act) → Stands x acts made m → has_range acts b 0 17 ≡ true
    → placed_mappings x (taken_slots acts) (maps acts) (part_wants b (asked_in ask) ++ table_wants i b (asked_in ask)) ≡ None)
    → HasNoPlace x acts (draft ask (buffers acts) i ev) free
not_placed x acts i ev ask made m b free here s error.Memory other full none = absurd (other refl)
not_placed x acts i ev ask made m b free here s error.Full other full none = too_few (full refl)
not_placed x acts i ev ask made m b free here s error.NoSpace other full none = no_slots (
    (λ j. placed_mappings x (sym (slots_before i ask acts) j) (sym (maps_before i ask acts) j) (part_wants (sym here j) (asked_in ask) ++ table_wants i (sym here j) (asked_in ask)))
    ∙ none refl x (made_acts i ask ++ acts) s (ap (λ c. has_range (made_acts i ask ++ acts) c 0 17) here ∙ front_ranged i ask acts))
