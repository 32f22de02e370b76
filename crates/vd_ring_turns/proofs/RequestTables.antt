-- The descriptors of a request, in the ring's table or in one of its own.
use Rattle.std.proofs.Common.{◌≡◌, ℕ, zero, suc, ◌+◌, ◌*◌, ◌-◌, ◌==◌, ◌<◌, ◌≤◌, true, false, refl, ap, subst, ◌∙◌, sym, arith, cond, Option, None, Some, List, [], ◌∷◌, ◌++◌, length, get_or, take, drop, append_assoc, unwrap_or, ◌&&◌, not, ◌⊎◌, inl, inr}
use Rattle.std.specs.List.{slice_get}
use Rattle.std.specs.Option.{option_map}
use Rattle.std.proofs.lemmas.Option.{slice_get-get_or}
use Rattle.std.proofs.lemmas.Bool.{le-leb}
use Rattle.std.proofs.lemmas.List.{length-append}
use Rattle.vd_num.specs.Number.{is_within}
use Rattle.vd_model.specs.declared.memory.Dir.TheVariants.{To}
use Rattle.vd_model.specs.declared.memory.Origin.TheVariants.{Handed}
use Rattle.vd_model.specs.declared.parts.Part.{Part}
use Rattle.vd_model.specs.declared.queue.RingPlace.{RingPlace}
use Rattle.vd_model.specs.Setting.{Setting, bounce_size}
use Rattle.vd_model.specs.Acts.{Act, Driver, Streaming, Buffer, Mapped, Driver_put}
use Rattle.vd_model.specs.Live.{live_mappings, buffers, iova_of, maps_address, meets_page, page_of, is_present}
use Rattle.vd_model.specs.Puts.{Ram, Put, byte_in, text_at, zero_if, or_put, handed_put_if, is_to_device, put_or, last_put, shown_put, each_from, ram, ram_bytes}
use Rattle.vd_model.specs.RingTurns.{descriptor_bytes, flags_of, descriptor_puts, map_acts, table_bytes, last_after}
use Rattle.vd_laws.specs.Among.{Among}
use Rattle.vd_laws.specs.Runs.{IsAddressed, IsWhole}
use Rattle.vd_laws.proofs.Lists.{push_right}
use Rattle.vd_laws.proofs.Legal.{Legal}
use Rattle.vd_laws.proofs.Sound.{earlier_legal}
use Rattle.vd_laws.proofs.Ranges.{in_range, before_range, past_range}
use Rattle.vd_laws.proofs.Shown.{by_address}
use Rattle.vd_ring_laws.specs.ChainLaw.{AreDistinct}
use Rattle.vd_model.specs.History.{History}
use Rattle.vd_laws.proofs.MemoryLaw.{moment_legal}
use Rattle.vd_ring_turns.specs.HandLaw.{HandLaw}
use Rattle.vd_ring_bytes.specs.FirmLaw.{AllMiss}
use Rattle.vd_ring_bytes.specs.IndirectLaw.{indices}
use Rattle.vd_ring_bytes.proofs.Numbers.{same_number}
use Rattle.vd_ring_bytes.proofs.FirmBytes.{miss_append}
use Rattle.vd_ring_bytes.proofs.StandingBytes.{Stands, stand_still, driver_stands}
use Rattle.vd_ring_bytes.proofs.RingLayout.{IsLaid}
use Rattle.vd_ring_bytes.proofs.RingMemory.{Linked}
use Rattle.vd_ring_bytes.proofs.SameRing.{elsewhere_append}
use Rattle.vd_ring_turns.proofs.RingSpares.{AreWithin, within_append}
use Rattle.vd_ring_turns.proofs.ChainAdds.{IsTabled, order}

-- ---- one descriptor

abbrev pub put_at : RingPlace → ℕ → List ℕ → Act
put_at r d bytes = Driver (Driver_put (r.desc + 16 * d) bytes)

module _ (x : Setting) (r : RingPlace) (laid : IsLaid x r) where
  one_within : (d : ℕ) (bytes : List ℕ) → length bytes ≡ 16 → d < r.size → AreWithin r (put_at r d bytes ∷ [])
  one_within d bytes e low = ((omega arith, let dr = laid.driver in let v = laid.device in omega arith), tt)

  one_misses : (d : ℕ) (bytes : List ℕ) → length bytes ≡ 16 → (k : ℕ) → (k ≡ d → ⊥) → (i : ℕ) → i < 16 → AllMiss (put_at r d bytes ∷ []) (r.desc + 16 * k + i)
  one_misses d bytes e k other i lo = (by (order k d other), tt) where
    by : (k < d) ⊎ (d < k) → is_within (r.desc + 16 * d) (length bytes) (r.desc + 16 * k + i) ≡ false
    by (inl l) = before_range (r.desc + 16 * d) (length bytes) (r.desc + 16 * k + i) (omega arith)
    by (inr l) = past_range (r.desc + 16 * d) (length bytes) (r.desc + 16 * k + i) (omega arith)

  one_above : (d : ℕ) (bytes : List ℕ) → length bytes ≡ 16 → d < r.size → (a : ℕ) → r.desc + 16 * r.size ≤ a → AllMiss (put_at r d bytes ∷ []) a
  one_above d bytes e low a lo = (past_range (r.desc + 16 * d) (length bytes) a (omega arith), tt)

  pub one_tabled : (d : ℕ) (bytes : List ℕ) → length bytes ≡ 16 → d < r.size → IsTabled r (d ∷ []) (put_at r d bytes ∷ [])
  one_tabled d bytes e low = record {
    within = one_within d bytes e low;
    elsewhere = λ k. (tt, tt);
    misses = λ k other i lo. one_misses d bytes e k (λ f. other (inl f)) i lo;
    above = one_above d bytes e low;
  }

  -- ---- those of a chain

  pub chain_tabled : (parts : List Part) (ds : List ℕ) → ((d : ℕ) → Among d ds → d < r.size) → IsTabled r ds (descriptor_puts r parts ds)
  chain_tabled [] ds low = record { within = tt; elsewhere = λ k. tt; misses = λ d o i lo. tt; above = λ a lo. tt }
  chain_tabled (part ∷ parts) [] low = record { within = tt; elsewhere = λ k. tt; misses = λ d o i lo. tt; above = λ a lo. tt }
  chain_tabled (part ∷ parts) (d ∷ []) low = one_tabled d (descriptor_bytes part.at part.len (flags_of false part.writable) 0) refl (low d (inl refl))
  chain_tabled (part ∷ parts) (d ∷ e ∷ ds) low =
      let rest = chain_tabled parts (e ∷ ds) (λ k i. low k (inr i)) in
      let bytes = descriptor_bytes part.at part.len (flags_of true part.writable) e in
      let head_tabled = one_tabled d bytes refl (low d (inl refl)) in
      let puts = descriptor_puts r parts (e ∷ ds) in
      let last = put_at r d bytes ∷ [] in
      record {
        within = within_append r puts last rest.within head_tabled.within;
        elsewhere = λ k. elsewhere_append k puts last (rest.elsewhere k) (head_tabled.elsewhere k);
        misses = λ k other i lo. miss_append puts last (r.desc + 16 * k + i) (rest.misses k (λ h. other (inr h)) i lo) (head_tabled.misses k (λ h. other (elim h [ inl f ↦ inl f | inr f ↦ absurd f ])) i lo);
        above = λ a lo. miss_append puts last a (rest.above a lo) (head_tabled.above a lo);
      }

  module _ (small : IsAddressed x) (full : IsWhole x) where
    desc_high : (d : ℕ) → bounce_size x ≤ r.desc + 16 * d
    desc_high d = let l = laid.low in omega arith

    pub chain_linked : (parts : List Part) (ds : List ℕ) (acts : List Act) → Legal x (descriptor_puts r parts ds ++ acts) → AreDistinct ds → ((d : ℕ) → Among d ds → d < r.size) → length parts ≡ length ds → 0 < length ds
        → Linked x (descriptor_puts r parts ds ++ acts) r.desc parts ds
    chain_linked [] [] acts legal d low e some = absurd (omega arith)
    chain_linked [] (k ∷ ds) acts legal d low e some = absurd (omega arith)
    chain_linked (part ∷ parts) [] acts legal d low e some = absurd (omega arith)
    chain_linked (part ∷ []) (k ∷ []) acts legal d low e some = driver_stands x full acts (r.desc + 16 * k) (descriptor_bytes part.at part.len (flags_of false part.writable) 0) (desc_high k) legal
    chain_linked (part ∷ []) (k ∷ j ∷ ds) acts legal d low e some = absurd (omega arith)
    chain_linked (part ∷ next ∷ parts) (k ∷ []) acts legal d low e some = absurd (omega arith)
    chain_linked (part ∷ next ∷ parts) (k ∷ j ∷ ds) acts legal d low e some =
        let bytes = descriptor_bytes part.at part.len (flags_of true part.writable) j in
        let puts = descriptor_puts r (next ∷ parts) (j ∷ ds) in
        let front = append_assoc puts (put_at r k bytes ∷ []) acts in
        let moved = subst (Legal x) front legal in
        let one_legal = earlier_legal x puts (put_at r k bytes ∷ acts) moved in
        let tabled = chain_tabled (next ∷ parts) (j ∷ ds) (λ i h. low i (inr h)) in
        let first = stand_still x small full puts (put_at r k bytes ∷ acts) (r.desc + 16 * k) bytes moved (λ i lo. tabled.misses k d.0 i lo) (λ i lo. inl (let h = desc_high k in omega arith))
        (driver_stands x full acts (r.desc + 16 * k) bytes (desc_high k) one_legal) in
        let rest = chain_linked (next ∷ parts) (j ∷ ds) (put_at r k bytes ∷ acts) moved d.1 (λ i h. low i (inr h)) (omega arith) (omega arith) in
        subst (λ l. Linked x l r.desc (part ∷ next ∷ parts) (k ∷ j ∷ ds)) (sym front) (first, rest)

-- ---- a table of its own

get_left : (xs ys : List ℕ) (i : ℕ) → i < length xs → get_or (xs ++ ys) i 0 ≡ get_or xs i 0
get_left [] ys i h = absurd (omega arith)
get_left (x ∷ xs) ys zero h = refl
get_left (x ∷ xs) ys (suc i) h = get_left xs ys i (omega arith)

get_right : (xs ys : List ℕ) (i : ℕ) → get_or (xs ++ ys) (length xs + i) 0 ≡ get_or ys i 0
get_right [] ys i = ap (λ k. get_or ys k 0) (let e : 0 + i ≡ i = omega arith in e)
get_right (x ∷ xs) ys i = ap (λ k. get_or (x ∷ xs ++ ys) k 0) (let e : suc (length xs) + i ≡ suc (length xs + i) = omega arith in e) ∙ get_right xs ys i

stands_left : (x : Setting) (acts : List Act) (at : ℕ) (xs ys : List ℕ) → Stands x acts at (xs ++ ys) → Stands x acts at xs
stands_left x acts at xs ys h = λ i lo. h i (let l : length (xs ++ ys) ≡ length xs + length ys = length-append xs ys in omega arith) ∙ get_left xs ys i lo

stands_right : (x : Setting) (acts : List Act) (at : ℕ) (xs ys : List ℕ) → Stands x acts at (xs ++ ys) → Stands x acts (at + length xs) ys
stands_right x acts at xs ys h = λ i lo.
    ap (λ a. (shown_put x.per_page acts a).byte) (let e : at + length xs + i ≡ at + (length xs + i) = omega arith in e)
    ∙ (h (length xs + i) (let l : length (xs ++ ys) ≡ length xs + length ys = length-append xs ys in omega arith) ∙ get_right xs ys i)

pub table_linked : (x : Setting) (acts : List Act) (base k : ℕ) (parts : List Part) → 0 < length parts → Stands x acts (base + 16 * k) (table_bytes k parts) → Linked x acts base parts (indices k parts)
table_linked x acts base k [] some h = absurd (omega arith)
table_linked x acts base k (part ∷ []) some h = h
table_linked x acts base k (part ∷ next ∷ parts) some h =
    let bytes = descriptor_bytes part.at part.len (flags_of true part.writable) (k + 1) in
    let rest = table_bytes (k + 1) (next ∷ parts) in (
      stands_left x acts (base + 16 * k) bytes rest h,
      table_linked x acts base (k + 1) (next ∷ parts) (omega arith)
          (subst (λ a. Stands x acts a rest) (let e : base + 16 * k + 16 ≡ base + 16 * (k + 1) = omega arith in e) (stands_right x acts (base + 16 * k) bytes rest h)),
    )

pub table_len_is : (k : ℕ) (parts : List Part) → length (table_bytes k parts) ≡ 16 * length parts
table_len_is k [] = omega arith
table_len_is k (part ∷ []) = omega arith
table_len_is k (part ∷ next ∷ parts) =
    let l = length-append (descriptor_bytes part.at part.len (flags_of true part.writable) (k + 1)) (table_bytes (k + 1) (next ∷ parts)) in
    let r = table_len_is (k + 1) (next ∷ parts) in
    omega (arith, l, r)

-- maps leave the buffers
maps_ram : (g : ℕ) (ms : List Streaming) (acts : List Act) (k i : ℕ) → last_put g (map_acts ms ++ acts) (Ram k i) ≡ last_put g acts (Ram k i)
maps_ram g [] acts k i = refl
maps_ram g (m ∷ ms) acts k i = ap (λ l. last_put g l (Ram k i)) (append_assoc (map_acts ms) (Driver (Mapped m) ∷ []) acts) ∙ maps_ram g ms (Driver (Mapped m) ∷ acts) k i

text_first : (bytes : List ℕ) (i : ℕ) → i < length bytes → byte_in bytes 0 i ≡ Some (get_or bytes i 0)
text_first bytes i low = ap (λ b. cond b (slice_get bytes (i - 0)) None) (le-leb 0 i (omega arith)) ∙ (ap (slice_get bytes) (let e : i - 0 ≡ i = omega arith in e) ∙ slice_get-get_or bytes i 0 low)

-- the mapping of a buffer that was just made shows its bytes
pub handed_stands : (x : Setting) (front : List Streaming) (bytes : List ℕ) (acts : List Act) (m : Streaming) → m.want.buffer ≡ buffers acts → m.want.offset ≡ 0 → m.want.len ≡ length bytes → m.want.dir ≡ To
    → Stands x (Driver (Mapped m) ∷ map_acts front ++ Driver (Buffer bytes) ∷ acts) (iova_of m) bytes
handed_stands x front bytes acts m is_buffer is_offset is_len goes = λ i lo.
    let before = map_acts front ++ Driver (Buffer bytes) ∷ acts in
    let a = iova_of m + i in
    let here : maps_address m a ≡ true = in_range (iova_of m) m.want.len a (omega arith) (omega arith) in
    let to : (is_to_device m.want.dir && maps_address m a) ≡ true = ap (λ d. is_to_device d && maps_address m a) goes ∙ here in
    let other : Option Put = zero_if (meets_page x.per_page (page_of x.per_page a) m && not (is_present x.per_page before (page_of x.per_page a))) in
    let index : m.want.offset + (a - iova_of m) ≡ i = omega arith in
    ap (λ p. p.byte) (by_address x.per_page before (Driver (Mapped m)) a refl (λ b. refl) (λ p. refl)
    ∙ ap (λ b. unwrap_or (or_put (handed_put_if b (last_put x.per_page before) m a) other) (shown_put x.per_page before a)) to)
    ∙ (ap (λ p. p.byte) (ap (λ j. last_put x.per_page before (Ram m.want.buffer j)) index ∙ maps_ram x.per_page front (Driver (Buffer bytes) ∷ acts) m.want.buffer i)
    ∙ (ap (λ b. (put_or (cond b (text_at bytes 0 i (Handed None)) None) (last_put x.per_page acts) (Ram m.want.buffer i)).byte) (subst (λ k. (m.want.buffer == k) ≡ true) is_buffer (same_number m.want.buffer))
    ∙ ap (λ o. (put_or (option_map (λ b. record { byte = b; origin = Handed None }) o) (last_put x.per_page acts) (Ram m.want.buffer i)).byte) (text_first bytes i lo)))

pub map_push : (ms : List Streaming) (m : Streaming) → map_acts (ms ++ m ∷ []) ≡ Driver (Mapped m) ∷ map_acts ms
map_push [] m = refl
map_push (n ∷ ms) m = ap (λ l. l ++ Driver (Mapped n) ∷ []) (map_push ms m)

pub split_last : (k : ℕ) (ms : List Streaming) → length ms ≡ k + 1 → (m : Streaming) × (drop k ms ≡ m ∷ []) × (ms ≡ take k ms ++ m ∷ [])
split_last zero [] h = absurd (omega arith)
split_last zero (m ∷ []) h = (m, refl, refl)
split_last zero (m ∷ n ∷ ms) h = absurd (omega arith)
split_last (suc k) [] h = absurd (omega arith)
split_last (suc k) (m ∷ ms) h = let s = split_last k ms (omega arith) in (s.0, s.1, ap (λ l. m ∷ l) s.2)

pub last_is : (k : ℕ) (ms : List Streaming) (m : Streaming) → drop k ms ≡ m ∷ [] → last_after k ms ≡ Some m
last_is k ms m e = rw e refl

-- ---- what mappings hand

get_each : (f : ℕ → ℕ) (from len i : ℕ) → i < len → get_or (each_from f from len) i 0 ≡ f (from + i)
get_each f from zero i h = absurd (omega arith)
get_each f from (suc len) zero h = ap f (let e : from ≡ from + 0 = omega arith in e)
get_each f from (suc len) (suc i) h = get_each f (from + 1) len i (omega arith) ∙ ap f (let e : from + 1 + i ≡ from + suc i = omega arith in e)

pub each_count : (f : ℕ → ℕ) (from len : ℕ) → length (each_from f from len) ≡ len
each_count f from zero = refl
each_count f from (suc len) = ap (λ n. suc n) (each_count f (from + 1) len)

-- right after its map a mapping that goes to the device shows the buffer's bytes
one_handed : (x : Setting) (acts : List Act) (m : Streaming) → m.want.dir ≡ To → Stands x (Driver (Mapped m) ∷ acts) (iova_of m) (ram_bytes x.per_page acts m.want.buffer m.want.offset m.want.len)
one_handed x acts m goes = λ i lo.
    let f : ℕ → ℕ = λ i. ram x.per_page acts m.want.buffer i in
    let count = each_count f m.want.offset m.want.len in
    let a = iova_of m + i in
    let here : maps_address m a ≡ true = in_range (iova_of m) m.want.len a (omega arith) (omega arith) in
    let to : (is_to_device m.want.dir && maps_address m a) ≡ true = ap (λ d. is_to_device d && maps_address m a) goes ∙ here in
    let other : Option Put = zero_if (meets_page x.per_page (page_of x.per_page a) m && not (is_present x.per_page acts (page_of x.per_page a))) in
    let index : m.want.offset + (a - iova_of m) ≡ m.want.offset + i = omega arith in
    ap (λ p. p.byte) (by_address x.per_page acts (Driver (Mapped m)) a refl (λ b. refl) (λ p. refl)
    ∙ ap (λ b. unwrap_or (or_put (handed_put_if b (last_put x.per_page acts) m a) other) (shown_put x.per_page acts a)) to)
    ∙ (ap f index ∙ sym (get_each f m.want.offset m.want.len i (omega arith)))

maps_miss : (ms : List Streaming) (a : ℕ) → AllMiss (map_acts ms) a
maps_miss [] a = tt
maps_miss (m ∷ ms) a = miss_append (map_acts ms) (Driver (Mapped m) ∷ []) a (maps_miss ms a) (tt, tt)

-- and while more mappings are made
pub maps_handed : (x : Setting) → IsAddressed x → IsWhole x → (ms : List Streaming) (acts : List Act) (m : Streaming) → Legal x (map_acts ms ++ acts) → Among m ms → m.want.dir ≡ To
    → Stands x (map_acts ms ++ acts) (iova_of m) (ram_bytes x.per_page acts m.want.buffer m.want.offset m.want.len)
maps_handed x small whole [] acts m legal h goes = absurd h
maps_handed x small whole (n ∷ ms) acts m legal (inl e) goes =
    let front = append_assoc (map_acts ms) (Driver (Mapped n) ∷ []) acts in
    let bytes = ram_bytes x.per_page acts m.want.buffer m.want.offset m.want.len in
    let count = each_count (λ i. ram x.per_page acts m.want.buffer i) m.want.offset m.want.len in
    let just_mapped : Stands x (Driver (Mapped n) ∷ acts) (iova_of m) bytes = subst (λ n. Stands x (Driver (Mapped n) ∷ acts) (iova_of m) bytes) e (one_handed x acts m goes) in
    subst (λ l. Stands x l (iova_of m) bytes) (sym front)
    (stand_still x small whole (map_acts ms) (Driver (Mapped n) ∷ acts) (iova_of m) bytes (subst (Legal x) front legal) (λ i lo. maps_miss ms (iova_of m + i))
    (λ i lo. inr (m, subst (λ k. Among m (live_mappings acts ++ k ∷ [])) e (push_right m (live_mappings acts)), in_range (iova_of m) m.want.len (iova_of m + i) (omega arith) (omega arith))) just_mapped)
maps_handed x small whole (n ∷ ms) acts m legal (inr h) goes =
    let front = append_assoc (map_acts ms) (Driver (Mapped n) ∷ []) acts in
    subst (λ l. Stands x l (iova_of m) (ram_bytes x.per_page acts m.want.buffer m.want.offset m.want.len)) (sym front) (maps_handed x small whole ms (Driver (Mapped n) ∷ acts) m (subst (Legal x) front legal) h goes)

pub hand_law : (x : Setting) (h : History) → HandLaw x h
hand_law x h small whole d ms acts at m there goes i low =
    let f : ℕ → ℕ = λ i. ram x.per_page acts m.want.buffer i in
    maps_handed x small whole ms acts m (moment_legal x h d (map_acts ms ++ acts) at) there goes i (subst (λ k. i < k) (sym (each_count f m.want.offset m.want.len)) low)
    ∙ get_each f m.want.offset m.want.len i low
