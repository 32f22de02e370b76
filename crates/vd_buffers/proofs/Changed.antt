-- The bytes of one buffer are changed, and acts that change none.
use Rattle.std.proofs.Common.{◌≡◌, ℕ, zero, suc, ◌-◌, ◌<◌, ◌≤◌, nat_le, cond, if◌then◌else◌, Bool, true, false, refl, ap, subst, ◌∙◌, sym, arith, Option, None, Some, List, [], ◌∷◌, ◌==◌, length, inl, inr, true≢false}
use Rattle.std.specs.List.{slice_get, slice_index, slice_set}
use Rattle.std.specs.Option.{option_map, option_map_or}
use Rattle.std.proofs.lemmas.Bool.Decides.{eqb_tells, nat_tests}
use Rattle.std.proofs.lemmas.Option.{slice_get-get_or, slice_get_past}
use Rattle.vd_num.specs.Number.{is_within}
use Rattle.vd_model.specs.declared.memory.Origin.TheVariants.{Handed}
use Rattle.std.proofs.lemmas.List.{get_or-set_same, get_or-set_other, length-set}
use Rattle.std.proofs.lemmas.List.Sums.{sum_by-set}
use Rattle.vd_model.specs.Acts.{Act, Driver, DriverAct, Node, Bus, Message_act, State, Queue, Disk_act, Buffer, Zeroed, Freed, Poked, Mapped, Unmapped, Synced_device, Synced_cpu, Region_made, Region_freed, Driver_put}
use Rattle.vd_model.specs.Live.{buffers, buffer_len, buffers_len}
use Rattle.vd_model.specs.Puts.{Put, Ram, ram, last_put, text_at, put_or}
use Rattle.vd_buffers.specs.Places.{Places, place_of, len_of, total_of}
use Rattle.vd_buffers.specs.Stands.{Stands, is_buffer_act, is_buffer_deed}

-- a buffer that is there has a place
pub there_below : (places : Places) (k : ℕ) (bytes : List ℕ) → place_of places k ≡ Some bytes → k < length places
there_below [] k bytes e = cc
there_below (x ∷ xs) zero bytes e = omega arith
there_below (x ∷ xs) (suc k) bytes e = let below = there_below xs k bytes e in omega arith

-- the act leaves what buffers there are, and puts these bytes into one
pub record Rewrites (g : ℕ) (acts : List Act) (act : Act) (buffer : ℕ) (old new : List ℕ) : Type 0 where
  pub count : buffers (act ∷ acts) ≡ buffers acts
  pub lens : (k : ℕ) → buffer_len (act ∷ acts) k ≡ buffer_len acts k
  pub total : buffers_len (act ∷ acts) ≡ buffers_len acts
  pub size : length new ≡ length old
  pub here : (i : ℕ) → i < length old → slice_index new i ≡ ram g (act ∷ acts) buffer i
  pub others : (k i : ℕ) → (k == buffer) ≡ false → ram g (act ∷ acts) k i ≡ ram g acts k i

module _ (g : ℕ) (acts : List Act) (places : Places) (s : Stands g acts places) (act : Act) (buffer : ℕ) (old new : List ℕ) where
  pub rewritten : place_of places buffer ≡ Some old → Rewrites g acts act buffer old new → Stands g (act ∷ acts) (slice_set places buffer (Some new))
  rewritten there h = record {
    count = length-set places buffer (Some new) ∙ s.count ∙ sym h.count;
    lens = lens;
    bytes = bytes;
    total = total;
  } where
    below : buffer < length places
    below = there_below places buffer old there

    lens : (k : ℕ) → len_of (slice_set places buffer (Some new)) k ≡ buffer_len (act ∷ acts) k
    lens k = elim (eqb_tells k buffer) [
      | inl e ↦ subst (λ n. len_of (slice_set places buffer (Some new)) n ≡ buffer_len (act ∷ acts) n) (sym e.1)
          (ap (option_map length) (get_or-set_same places buffer (Some new) None below) ∙ ap Some h.size ∙ sym (ap (option_map length) there) ∙ s.lens buffer ∙ sym (h.lens buffer))
      | inr e ↦ ap (option_map length) (get_or-set_other places buffer k (Some new) None e.1) ∙ s.lens k ∙ sym (h.lens k)
    ]

    bytes : (k : ℕ) (text : List ℕ) → place_of (slice_set places buffer (Some new)) k ≡ Some text → (i : ℕ) → i < length text → slice_index text i ≡ ram g (act ∷ acts) k i
    bytes k text e i near = elim (eqb_tells k buffer) [
      | inl f ↦ here f.1
      | inr f ↦ (s.bytes k text (sym (get_or-set_other places buffer k (Some new) None f.1) ∙ e) i near ∙ sym (h.others k i f.0))
    ] where
      here : k ≡ buffer → slice_index text i ≡ ram g (act ∷ acts) k i
      here is =
          let got : Some new ≡ Some text = sym (get_or-set_same places buffer (Some new) None below) ∙ ap (place_of (slice_set places buffer (Some new))) (sym is) ∙ e in
          let same : new ≡ text = cc in
          let inside : i < length old = (let l : length new ≡ length text = ap length same in let size = h.size in omega arith) in
          ap (λ (t : List ℕ). slice_index t i) (sym same) ∙ h.here i inside ∙ ap (λ n. ram g (act ∷ acts) n i) (sym is)

    total : total_of (slice_set places buffer (Some new)) ≡ buffers_len (act ∷ acts)
    total =
        let sums = sum_by-set (λ place. option_map_or length place 0) places buffer (Some new) None below in
        let was : option_map_or length (place_of places buffer) 0 ≡ length old = ap (λ o. option_map_or length o 0) there in
        let size = h.size in
        let same : total_of (slice_set places buffer (Some new)) ≡ total_of places = omega arith in
        same ∙ s.total ∙ sym h.total

module _ (g : ℕ) (acts : List Act) (places : Places) (s : Stands g acts places) where
  by_deed : (act : DriverAct) → is_buffer_deed act ≡ false → Stands g (Driver act ∷ acts) places
  by_deed (Mapped m) e = record { count = s.count; lens = s.lens; bytes = s.bytes; total = s.total }
  by_deed (Synced_device m) e = record { count = s.count; lens = s.lens; bytes = s.bytes; total = s.total }
  by_deed (Region_made r) e = record { count = s.count; lens = s.lens; bytes = s.bytes; total = s.total }
  by_deed (Region_freed r) e = record { count = s.count; lens = s.lens; bytes = s.bytes; total = s.total }
  by_deed (Driver_put at bytes) e = record { count = s.count; lens = s.lens; bytes = s.bytes; total = s.total }
  by_deed (Buffer bytes) e = absurd (true≢false e)
  by_deed (Zeroed len) e = absurd (true≢false e)
  by_deed (Freed buffer) e = absurd (true≢false e)
  by_deed (Poked buffer at bytes) e = absurd (true≢false e)
  by_deed (Unmapped m) e = absurd (true≢false e)
  by_deed (Synced_cpu m) e = absurd (true≢false e)

  -- an act that changes no buffer
  pub leaves_buffers : (act : Act) → is_buffer_act act ≡ false → Stands g (act ∷ acts) places
  leaves_buffers (Driver act) e = by_deed act e
  leaves_buffers (Node act) e = record { count = s.count; lens = s.lens; bytes = s.bytes; total = s.total }
  leaves_buffers (Bus act) e = record { count = s.count; lens = s.lens; bytes = s.bytes; total = s.total }
  leaves_buffers (Message_act act) e = record { count = s.count; lens = s.lens; bytes = s.bytes; total = s.total }
  leaves_buffers (State act) e = record { count = s.count; lens = s.lens; bytes = s.bytes; total = s.total }
  leaves_buffers (Queue act) e = record { count = s.count; lens = s.lens; bytes = s.bytes; total = s.total }
  leaves_buffers (Disk_act act) e = record { count = s.count; lens = s.lens; bytes = s.bytes; total = s.total }

-- bytes are written over those of a buffer
module _ (g : ℕ) (acts : List Act) (buffer at : ℕ) (text old new : List ℕ) where
  after : ℕ → ℕ → Bool → ℕ
  after k i t = (put_or (cond t (text_at text at i (Handed None)) None) (last_put g acts) (Ram k i)).byte

  put_of : Option ℕ → Option Put
  put_of o = option_map (λ (b : ℕ). record { byte = b; origin = Handed None }) o

  pub poked : ((i : ℕ) → i < length old → slice_index old i ≡ ram g acts buffer i) → length new ≡ length old
      → ((i : ℕ) → slice_index new i ≡ (if is_within at (length text) i then slice_index text (i - at) else slice_index old i)) → Rewrites g acts (Driver (Poked buffer at text)) buffer old new
  unfolding after put_of
  poked were size written = record {
    count = refl;
    lens = λ k. refl;
    total = refl;
    size = size;
    here = here;
    others = λ k i f. ap (after k i) f;
  } where
    here : (i : ℕ) → i < length old → slice_index new i ≡ ram g (Driver (Poked buffer at text) ∷ acts) buffer i
    here i inside = (let same : (buffer == buffer) ≡ true = grind (arith, nat_tests) in written i ∙ by (is_within at (length text) i) refl ∙ sym (ap (after buffer i) same)) where
      off : (t : Bool) → nat_le at i ≡ t → (nat_le at i ≡ true → length text ≤ i - at) → ram g acts buffer i ≡ (put_or (put_of (if t then slice_get text (i - at) else None)) (last_put g acts) (Ram buffer i)).byte
      off false f past = refl
      off true f past = sym (ap (λ o. (put_or (put_of o) (last_put g acts) (Ram buffer i)).byte) (slice_get_past text (i - at) (past f)))

      by : (t : Bool) → is_within at (length text) i ≡ t → (if t then slice_index text (i - at) else slice_index old i) ≡ after buffer i true
      by true e =
          let low : nat_le at i ≡ true = grind (arith, nat_tests, e) in
          let high : i - at < length text = grind (arith, nat_tests, e) in
          sym (ap (λ t. (put_or (put_of (if t then slice_get text (i - at) else None)) (last_put g acts) (Ram buffer i)).byte) low
          ∙ ap (λ o. (put_or (put_of o) (last_put g acts) (Ram buffer i)).byte) (slice_get-get_or text (i - at) 0 high))
      by false e = were i inside ∙ off (nat_le at i) refl (λ f. grind (arith, nat_tests, e, f))
