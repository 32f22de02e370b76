-- A place that was found is free, and a mapping there can be made.
use Rattle.std.proofs.Common.{◌≡◌, ℕ, ◌+◌, ◌<◌, ◌≤◌, Bool, true, false, refl, arith, None, Some, cond, List, [], ◌∷◌, ◌==◌, not, nat_le, length}
use Rattle.std.specs.List.{list_any}
use Rattle.std.proofs.lemmas.Bool.Decides.{nat_tests}
use Rattle.std.proofs.lemmas.Bool.{and_parts, leb-true, not-true}
use Rattle.vd_num.specs.Number.{pages_of}
use Rattle.vd_model.specs.declared.memory.Want.{Want}
use Rattle.vd_model.specs.Setting.{Setting}
use Rattle.vd_model.specs.Acts.{Act, Driver, Streaming, Buffer, Zeroed, Freed}
use Rattle.vd_model.specs.Live.{buffers, maps, buffer_len, live_mappings}
use Rattle.vd_model.specs.Place.{Slots, is_place, place_of, meets, mapping_slots, taken_slots}
use Rattle.vd_laws.specs.Among.{Among}
use Rattle.vd_laws.proofs.Lists.{any_false, greatest_is, among_map, among_left}
use Rattle.vd_laws.proofs.Legal.{covers, IsFresh}

-- a buffer that is there was made
pub there_made : (acts : List Act) (k size : ℕ) → buffer_len acts k ≡ Some size → k < buffers acts
there_made [] k size e = cc
there_made (Driver (Buffer bytes) ∷ acts) k size e = by (k == buffers acts) refl e (there_made acts k size) where
  by : (b : Bool) → (k == buffers acts) ≡ b → cond b (Some (length bytes)) (buffer_len acts k) ≡ Some size → (buffer_len acts k ≡ Some size → k < buffers acts) → k < buffers acts + 1
  by true f g later = grind (arith, nat_tests)
  by false f g later = let r = later g in omega arith
there_made (Driver (Zeroed len) ∷ acts) k size e = by (k == buffers acts) refl e (there_made acts k size) where
  by : (b : Bool) → (k == buffers acts) ≡ b → cond b (Some len) (buffer_len acts k) ≡ Some size → (buffer_len acts k ≡ Some size → k < buffers acts) → k < buffers acts + 1
  by true f g later = grind (arith, nat_tests)
  by false f g later = let r = later g in omega arith
there_made (Driver (Freed f) ∷ acts) k size e = by (k == f) e (there_made acts k size) where
  by : (b : Bool) → cond b None (buffer_len acts k) ≡ Some size → (buffer_len acts k ≡ Some size → k < buffers acts) → k < buffers acts
  by true g later = cc
  by false g later = later g
there_made (_ ∷ acts) k size e = there_made acts k size e

-- what a place has
pub record IsFree (held : List Slots) (n lo hi slot : ℕ) : Type 0 where
  pub low : lo ≤ slot
  pub high : slot + n ≤ hi
  pub free : list_any (meets slot n) held ≡ false

place_is : (held : List Slots) (n lo hi slot : ℕ) → place_of held n lo hi ≡ Some slot → is_place held n lo hi slot ≡ true
unfolding place_of
place_is held n lo hi slot e = greatest_is (is_place held n lo hi) hi slot e

pub place_free : (held : List Slots) (n lo hi slot : ℕ) → place_of held n lo hi ≡ Some slot → IsFree held n lo hi slot
place_free held n lo hi slot e =
    let a = and_parts _ (not (list_any (meets slot n) held)) (place_is held n lo hi slot e) in
    let b = and_parts _ (nat_le (slot + n) hi) a.0 in
    let c = and_parts _ (nat_le lo slot) b.0 in
    record { low = leb-true lo slot c.1; high = leb-true (slot + n) hi b.1; free = not-true _ a.1 }

apart : (m l : Streaming) (slot : ℕ) → meets m.slot (pages_of m.want.len) (mapping_slots l) ≡ false → covers m slot ≡ true → covers l slot ≡ true → ⊥
apart m l slot free c d = grind (arith, nat_tests)

pub taken_slots_held : (acts : List Act) (l : Streaming) → Among l (live_mappings acts) → Among (mapping_slots l) (taken_slots acts)
taken_slots_held acts l h = among_left (mapping_slots l) _ _ (among_map mapping_slots l (live_mappings acts) h)

-- the mapping of a want at a place
pub fresh : (x : Setting) (acts : List Act) (held : List Slots) → ((l : Streaming) → Among l (live_mappings acts) → Among (mapping_slots l) held)
    → (number : ℕ) → number ≡ maps acts → (want : Want) → want.buffer < buffers acts
    → (slot : ℕ) → place_of held (pages_of want.len) x.per_page x.bounce ≡ Some slot → IsFresh x acts (record { number = number; slot = slot; want = want })
fresh x acts held all number is want made slot e =
    let p = place_free held (pages_of want.len) x.per_page x.bounce slot e in
    record {
      number = is;
      buffer = made;
      fits = p.high;
      apart = λ l h s c d. apart (record { number = number; slot = slot; want = want }) l s (any_false (meets slot (pages_of want.len)) (mapping_slots l) held p.free (all l h)) c d;
    }
