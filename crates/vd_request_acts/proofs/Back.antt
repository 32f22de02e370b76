-- Without the buffers that were made last, a memory stands for the acts before they were made.
use Rattle.std.proofs.Common.{◌≡◌, ℕ, ◌+◌, ◌<◌, ◌≤◌, Bool, true, false, refl, ap, subst, sym, ◌∙◌, arith, Option, None, Some, nat_lt, if◌then◌else◌, List, [], ◌∷◌, ◌==◌, ◌&&◌, length, take, All}
use Rattle.std.specs.List.{slice_index}
use Rattle.std.specs.Option.{option_map, option_map_or, unwrap_or}
use Rattle.std.proofs.lemmas.Bool.Decides.{nat_tests}
use Rattle.std.proofs.lemmas.List.{length-take-le, get_or-take, get_or_past, take_all, take-take}
use Rattle.std.proofs.lemmas.List.Sums.{sum_by_more}
use Rattle.vd_pool.specs.Memory.{PoolMemory as Pool}
use Rattle.vd_model.specs.declared.memory.Origin.TheVariants.{Handed}
use Rattle.vd_model.specs.Setting.{Setting}
use Rattle.vd_model.specs.Acts.{Act, Driver, Buffer, Zeroed, Freed, Poked}
use Rattle.vd_model.specs.Live.{buffers, buffer_len, buffers_len, live_mappings, registration_of}
use Rattle.vd_model.specs.Puts.{Ram, ram, last_put, put_or, zero_if, text_at}
use Rattle.vd_domain.specs.Held.{Held}
use Rattle.vd_domain.specs.Stands as domain
use Rattle.vd_buffers.specs.Places.{Places, place_of, len_of, total_of}
use Rattle.vd_buffers.specs.Stands as buffers
use Rattle.vd_buffers.proofs.Changed.{there_below}
use Rattle.vd_memory_lines.specs.declared.memory.Memory.{Memory}
use Rattle.vd_memory_lines.specs.Stands.{Stands, IsInside}
use Rattle.vd_request_acts.proofs.Bytes.{address_of, over_none, driver_spot}
use Rattle.vd_request_acts.proofs.Alike.{domain_alike, stands_alike}
use Rattle.vd_request_acts.proofs.Placed.{front_again, front_under}

-- a buffer that wasn't made has no length
pub never_made : (acts : List Act) (k : ℕ) → buffers acts ≤ k → buffer_len acts k ≡ None
never_made [] k h = refl
never_made (Driver (Buffer bytes) ∷ acts) k h =
    let other : (k == buffers acts) ≡ false = grind (arith, nat_tests, h) in
    ap (λ t. if t then Some (length bytes) else buffer_len acts k) other ∙ never_made acts k (omega (arith, h))
never_made (Driver (Zeroed len) ∷ acts) k h =
    let other : (k == buffers acts) ≡ false = grind (arith, nat_tests, h) in
    ap (λ t. if t then Some len else buffer_len acts k) other ∙ never_made acts k (omega (arith, h))
never_made (Driver (Freed freed) ∷ acts) k h = by (k == freed) (never_made acts k h) where
  by : (t : Bool) → buffer_len acts k ≡ None → (if t then None else buffer_len acts k) ≡ None
  by true e = refl
  by false e = e
never_made (_ ∷ acts) k h = never_made acts k h

-- the act makes a buffer of so many bytes
pub record Makes (g : ℕ) (acts : List Act) (act : Act) (len : ℕ) : Type 0 where
  pub count : buffers (act ∷ acts) ≡ buffers acts + 1
  pub lens : (k : ℕ) → buffer_len (act ∷ acts) k ≡ (if k == buffers acts then Some len else buffer_len acts k)
  pub total : buffers_len (act ∷ acts) ≡ buffers_len acts + len
  pub others : (k i : ℕ) → (k == buffers acts) ≡ false → ram g (act ∷ acts) k i ≡ ram g acts k i

pub buffer_makes : (g : ℕ) (acts : List Act) (bytes : List ℕ) → Makes g acts (Driver (Buffer bytes)) (length bytes)
buffer_makes g acts bytes = record {
  count = refl;
  lens = λ k. refl;
  total = refl;
  others = λ k i e. ap (λ t. (put_or (if t then text_at bytes 0 i (Handed None) else None) (last_put g acts) (Ram k i)).byte) e;
}

pub zeroed_makes : (g : ℕ) (acts : List Act) (len : ℕ) → Makes g acts (Driver (Zeroed len)) len
zeroed_makes g acts len = record {
  count = refl;
  lens = λ k. refl;
  total = refl;
  others = λ k i e. ap (λ t. (put_or (zero_if (t && nat_lt i len)) (last_put g acts) (Ram k i)).byte) e;
}

module _ (g : ℕ) (acts : List Act) (act : Act) (len : ℕ) (h : Makes g acts act len) (places : Places) (s : buffers.Stands g (act ∷ acts) places) where
  abbrev size_of : Option (List ℕ) → ℕ
  size_of place = option_map_or length place 0

  sized : (o : Option (List ℕ)) → option_map length o ≡ Some len → size_of o ≡ len
  sized o e = by o ∙ ap (λ l. unwrap_or l 0) e where
    by : (o : Option (List ℕ)) → size_of o ≡ unwrap_or (option_map length o) 0
    by None = refl
    by (Some bytes) = refl

  pub buffer_back : buffers.Stands g acts (take (buffers acts) places)
  buffer_back = record { count = count; lens = lens; bytes = bytes; total = total } where
    long : length places ≡ buffers acts + 1
    long = s.count ∙ h.count

    count : length (take (buffers acts) places) ≡ buffers acts
    count = (let l = long in length-take-le (buffers acts) places (omega (arith, l)))

    same_place : (k : ℕ) → k < buffers acts → place_of (take (buffers acts) places) k ≡ place_of places k
    same_place k below = get_or-take (buffers acts) places k None below

    older : (k : ℕ) → k < buffers acts → (k == buffers acts) ≡ false
    older k below = grind (arith, nat_tests, below)

    lens : (k : ℕ) → len_of (take (buffers acts) places) k ≡ buffer_len acts k
    lens k = by (nat_lt k (buffers acts)) refl where
      by : (t : Bool) → nat_lt k (buffers acts) ≡ t → len_of (take (buffers acts) places) k ≡ buffer_len acts k
      by true e =
          let below : k < buffers acts = grind (arith, nat_tests, e) in
          ap (option_map length) (same_place k below) ∙ s.lens k ∙ h.lens k ∙ ap (λ t. if t then Some len else buffer_len acts k) (older k below)
      by false e =
          let past : buffers acts ≤ k = grind (arith, nat_tests, e) in
          let c = count in
          ap (option_map length) (get_or_past (take (buffers acts) places) k None (omega (arith, c, past))) ∙ sym (never_made acts k past)

    bytes : (k : ℕ) (text : List ℕ) → place_of (take (buffers acts) places) k ≡ Some text → (i : ℕ) → i < length text → slice_index text i ≡ ram g acts k i
    bytes k text there i inside =
        let below : k < buffers acts = subst (λ n. k < n) count (there_below (take (buffers acts) places) k text there) in
        s.bytes k text (sym (same_place k below) ∙ there) i inside ∙ h.others k i (older k below)

    newest : (buffers acts == buffers acts) ≡ true
    newest = grind (arith, nat_tests)

    total : total_of (take (buffers acts) places) ≡ buffers_len acts
    total =
        let l = long in
        let more = sum_by_more size_of places (buffers acts) None (omega (arith, l)) in
        let all : total_of (take (buffers acts + 1) places) ≡ total_of places = ap total_of (take_all (buffers acts + 1) places (omega (arith, l))) in
        let here : size_of (place_of places (buffers acts)) ≡ len =
        sized (place_of places (buffers acts))
        (s.lens (buffers acts) ∙ h.lens (buffers acts) ∙ ap (λ t. if t then Some len else buffer_len acts (buffers acts)) newest) in
        let is : total_of places ≡ buffers_len acts + len = s.total ∙ h.total in
        omega (arith, more, all, here, is)

-- ---- a whole memory

module _ (x : Setting) (done : List Act) (h : Held) (m : Pool) where
  pub domain_back : (front : List ℕ) → domain.Stands x (Driver (Buffer front) ∷ done) h m → domain.Stands x done h m
  domain_back front s = domain_alike x (Driver (Buffer front) ∷ done) done h m
      (record { mappings = refl; mapped = refl; coherent = refl; made = refl; shown = refl; area = refl; registered = refl; present = λ page. refl })
      (λ cell t. driver_spot x.per_page done (Buffer front) cell t ∙ over_none (address_of (registration_of done) cell) (last_put x.per_page done cell).byte) s

  pub domain_back_zeroed : (len : ℕ) → domain.Stands x (Driver (Zeroed len) ∷ done) h m → domain.Stands x done h m
  domain_back_zeroed len s = domain_alike x (Driver (Zeroed len) ∷ done) done h m
      (record { mappings = refl; mapped = refl; coherent = refl; made = refl; shown = refl; area = refl; registered = refl; present = λ page. refl })
      (λ cell t. driver_spot x.per_page done (Zeroed len) cell t ∙ over_none (address_of (registration_of done) cell) (last_put x.per_page done cell).byte) s

module _ (x : Setting) (done : List Act) (front : List ℕ) (k : Memory) (m : Pool) (inside : All (IsInside done) (live_mappings done)) where
  pub back_front : Stands x (Driver (Buffer front) ∷ done) k m → Stands x done (record k { buffers = take (buffers done) k.buffers }) m
  back_front s = record {
    domain = domain_back x done k.domain m front s.domain;
    buffers = buffer_back x.per_page done (Driver (Buffer front)) (length front) (buffer_makes x.per_page done front) k.buffers s.buffers;
    inside = inside;
  }

  pub back_both : (len : ℕ) → Stands x (Driver (Zeroed len) ∷ Driver (Buffer front) ∷ done) k m
      → Stands x done (record k { buffers = take (buffers done) k.buffers }) m
  back_both len s = record {
    domain = domain_back x done k.domain m front (domain_back_zeroed x (Driver (Buffer front) ∷ done) k.domain m len s.domain);
    buffers = subst (λ (l : Places). buffers.Stands x.per_page done l) (take-take (buffers done) (buffers done + 1) k.buffers (omega arith))
        (buffer_back x.per_page done (Driver (Buffer front)) (length front) (buffer_makes x.per_page done front) (take (buffers done + 1) k.buffers)
        (buffer_back x.per_page (Driver (Buffer front) ∷ done) (Driver (Zeroed len)) len (zeroed_makes x.per_page (Driver (Buffer front) ∷ done) len) k.buffers s.buffers));
    inside = inside;
  }

  pub back_filled : Stands x (Driver (Poked (buffers done) 0 front) ∷ Driver (Buffer front) ∷ done) k m
      → Stands x done (record k { buffers = take (buffers done) k.buffers }) m
  back_filled s = back_front
      (stands_alike x (Driver (Poked (buffers done) 0 front) ∷ Driver (Buffer front) ∷ done) (Driver (Buffer front) ∷ done) k m (front_again x.per_page done front) s)

  pub back_both_filled : (len : ℕ) → Stands x (Driver (Poked (buffers done) 0 front) ∷ Driver (Zeroed len) ∷ Driver (Buffer front) ∷ done) k m
      → Stands x done (record k { buffers = take (buffers done) k.buffers }) m
  back_both_filled len s = back_both len
      (stands_alike x (Driver (Poked (buffers done) 0 front) ∷ Driver (Zeroed len) ∷ Driver (Buffer front) ∷ done) (Driver (Zeroed len) ∷ Driver (Buffer front) ∷ done) k m
      (front_under x.per_page done front len) s)
