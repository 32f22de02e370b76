-- What the acts of placing a request come to.
use Rattle.std.proofs.Common.{◌≡◌, ℕ, ◌+◌, ◌<◌, ◌≢◌, Bool, true, false, refl, ap, subst, sym, ◌∙◌, arith, Option, None, Some, nat_lt, if◌then◌else◌, List, [], ◌∷◌, ◌++◌, ◌==◌, ◌&&◌, length, eqb-true, All}
use Rattle.std.specs.List.{slice_index}
use Rattle.std.proofs.lemmas.Bool.Decides.{nat_tests}
use Rattle.std.proofs.lemmas.List.Elements.{All-weaker}
use Rattle.vd_model.specs.declared.memory.Dir.TheVariants.{To}
use Rattle.vd_model.specs.declared.memory.Origin.TheVariants.{Handed}
use Rattle.vd_model.specs.declared.memory.Want.{Want}
use Rattle.vd_model.specs.Acts.{Act, Driver, Streaming, Buffer, Zeroed, Poked, Mapped, Synced_device}
use Rattle.vd_model.specs.Live.{buffers, registration_of, maps_address}
use Rattle.vd_model.specs.Puts.{Cell, Put, Iova, Area, Ram, ram, last_put, put_or, zero_if, text_at}
use Rattle.vd_model.specs.RingTurns.{map_acts}
use Rattle.vd_request_acts.specs.Alike.{IsAlike}
use Rattle.vd_request_acts.proofs.Bytes.{IsSpot, or_old, put_byte, text_byte, text_bytes, address_of, over, over_none, over_twice, puts_of, driver_spot, mapped_byte, handed_byte}
use Rattle.vd_request_acts.proofs.Alike.{Hole, IsShaped, IsAlikeOff, alike_off, off_hole, off_more}
use Rattle.vd_request_acts.proofs.Mapped.{MissesHole, index_of, is_fresh, mapped_puts, fresh_same, mapped_shape, maps_off, alike_maps, maps_ram, map_acts_last}

-- ---- a buffer is made, and its bytes are written into it again

twice : (o : Option Put) (newer older : Cell → Put) (cell : Cell) → newer cell ≡ put_or o older cell → put_or o newer cell ≡ newer cell
twice (Some put) newer older cell e = sym e
twice None newer older cell e = refl

-- bytes are written over the same bytes
pub poked_alike : (g : ℕ) (acts : List Act) (buffer : ℕ) (text : List ℕ)
    → ((i : ℕ) → (put_or (text_at text 0 i (Handed None)) (last_put g acts) (Ram buffer i)).byte ≡ ram g acts buffer i) → IsAlike g (Driver (Poked buffer 0 text) ∷ acts) acts
poked_alike g acts buffer text same = record {
  count = refl;
  lens = λ k. refl;
  total = refl;
  mappings = refl;
  mapped = refl;
  coherent = refl;
  made = refl;
  shown = refl;
  area = refl;
  registered = refl;
  present = λ page. refl;
  bytes = bytes;
} where
  bytes : (cell : Cell) → (last_put g (Driver (Poked buffer 0 text) ∷ acts) cell).byte ≡ (last_put g acts cell).byte
  bytes (Iova a) = driver_spot g acts (Poked buffer 0 text) (Iova a) tt ∙ over_none (address_of (registration_of acts) (Iova a)) (last_put g acts (Iova a)).byte
  bytes (Area o) = driver_spot g acts (Poked buffer 0 text) (Area o) tt ∙ over_none (address_of (registration_of acts) (Area o)) (last_put g acts (Area o)).byte
  bytes (Ram k i) = by (k == buffer) refl where
    by : (t : Bool) → (k == buffer) ≡ t → (put_or (if t then text_at text 0 i (Handed None) else None) (last_put g acts) (Ram k i)).byte ≡ ram g acts k i
    by false e = refl
    by true e = subst (λ n. (put_or (text_at text 0 i (Handed None)) (last_put g acts) (Ram n i)).byte ≡ ram g acts n i) (sym (eqb-true k buffer e)) (same i)

module _ (g : ℕ) (done : List Act) (front : List ℕ) where
  -- the header's bytes are in its buffer
  front_there : (i : ℕ)
      → last_put g (Driver (Buffer front) ∷ done) (Ram (buffers done) i) ≡ put_or (text_at front 0 i (Handed None)) (last_put g done) (Ram (buffers done) i)
  front_there i =
      let same : (buffers done == buffers done) ≡ true = grind (arith, nat_tests) in
      ap (λ t. put_or (if t then text_at front 0 i (Handed None) else None) (last_put g done) (Ram (buffers done) i)) same

  pub front_again : IsAlike g (Driver (Poked (buffers done) 0 front) ∷ Driver (Buffer front) ∷ done) (Driver (Buffer front) ∷ done)
  front_again = poked_alike g (Driver (Buffer front) ∷ done) (buffers done) front (λ i. ap (λ (p : Put). p.byte)
      (twice (text_at front 0 i (Handed None)) (last_put g (Driver (Buffer front) ∷ done)) (last_put g done) (Ram (buffers done) i) (front_there i)))

  -- a second buffer was made in between
  pub front_under : (len : ℕ)
      → IsAlike g (Driver (Poked (buffers done) 0 front) ∷ Driver (Zeroed len) ∷ Driver (Buffer front) ∷ done) (Driver (Zeroed len) ∷ Driver (Buffer front) ∷ done)
  front_under len = poked_alike g (Driver (Zeroed len) ∷ Driver (Buffer front) ∷ done) (buffers done) front (λ i. ap (λ (p : Put). p.byte)
      (twice (text_at front 0 i (Handed None)) (last_put g (Driver (Zeroed len) ∷ Driver (Buffer front) ∷ done)) (last_put g done) (Ram (buffers done) i)
      (under i ∙ front_there i))) where
        under : (i : ℕ)
            → last_put g (Driver (Zeroed len) ∷ Driver (Buffer front) ∷ done) (Ram (buffers done) i)
            ≡ last_put g (Driver (Buffer front) ∷ done) (Ram (buffers done) i)
        under i =
            let other : (buffers done == buffers done + 1) ≡ false = grind (arith, nat_tests) in
            ap (λ t. put_or (zero_if (t && nat_lt i len)) (last_put g (Driver (Buffer front) ∷ done)) (Ram (buffers done) i)) other

pub placed_direct : (g : ℕ) (done : List Act) (front : List ℕ) (ms : List Streaming)
    → IsAlike g (map_acts ms ++ Driver (Poked (buffers done) 0 front) ∷ Driver (Buffer front) ∷ done) (map_acts ms ++ Driver (Buffer front) ∷ done)
placed_direct g done front ms = alike_maps g (Driver (Poked (buffers done) 0 front) ∷ Driver (Buffer front) ∷ done) (Driver (Buffer front) ∷ done) (front_again g done front) ms

-- ---- a table whose bytes come late

-- the first bytes of a buffer
abbrev pub first_bytes : ℕ → ℕ → Hole
first_bytes buffer len k i = (k == buffer) && nat_lt i len

-- zeros in place of the table differ in its bytes alone
zeros_off : (g : ℕ) (acts : List Act) (table : List ℕ)
    → IsAlikeOff g (first_bytes (buffers acts) (length table)) (Driver (Zeroed (length table)) ∷ acts) (Driver (Buffer table) ∷ acts)
zeros_off g acts table = record {
  shape = record {
    mappings = refl;
    mapped = refl;
    coherent = refl;
    made = refl;
    shown = refl;
    area = refl;
    registered = refl;
    present = λ page. refl;
  };
  spots = λ cell s. driver_spot g acts (Zeroed (length table)) cell s ∙ sym (driver_spot g acts (Buffer table) cell s);
  count = refl;
  lens = λ k. refl;
  total = refl;
  rams = λ k i off. ap (λ t. (put_or (zero_if t) (last_put g acts) (Ram k i)).byte) off ∙ sym (buffer_ram k i off);
} where
  buffer_ram : (k i : ℕ) → first_bytes (buffers acts) (length table) k i ≡ false → ram g (Driver (Buffer table) ∷ acts) k i ≡ ram g acts k i
  buffer_ram k i off = by (k == buffers acts) refl where
    by : (t : Bool) → (k == buffers acts) ≡ t → (put_or (if t then text_at table 0 i (Handed None) else None) (last_put g acts) (Ram k i)).byte ≡ ram g acts k i
    by false e = refl
    by true e =
        let past : nat_lt i (length table) ≡ false = sym (ap (λ t. t && nat_lt i (length table)) e) ∙ off in
        put_byte (text_at table 0 i (Handed None)) (last_put g acts) (Ram k i)
        ∙ ap (λ o. or_old o (ram g acts k i)) (text_bytes table i (Handed None) ∙ ap (text_byte table i) past)

-- the table's own bytes
table_there : (g : ℕ) (acts : List Act) (table : List ℕ) (i : ℕ) → i < length table → ram g (Driver (Buffer table) ∷ acts) (buffers acts) i ≡ slice_index table i
table_there g acts table i inside =
    let same : (buffers acts == buffers acts) ≡ true = grind (arith, nat_tests) in
    let low : nat_lt i (length table) ≡ true = grind (arith, nat_tests, inside) in
    ap (λ t. (put_or (if t then text_at table 0 i (Handed None) else None) (last_put g acts) (Ram (buffers acts) i)).byte) same
    ∙ put_byte (text_at table 0 i (Handed None)) (last_put g acts) (Ram (buffers acts) i)
    ∙ ap (λ o. or_old o (ram g acts (buffers acts) i)) (text_bytes table i (Handed None) ∙ ap (text_byte table i) low)

-- the table is written and synced after its mapping, or was there before it
module _ (g : ℕ) (more acts : List Act) (table : List ℕ) (buffer number slot : ℕ) (e : IsAlikeOff g (first_bytes buffer (length table)) more acts)
    (there : (i : ℕ) → i < length table → ram g acts buffer i ≡ slice_index table i) where
  abbrev last : Streaming
  last = record { number = number; slot = slot; want = record { buffer = buffer; offset = 0; len = length table; dir = To } }

  abbrev mapped : List Act
  mapped = Driver (Mapped last) ∷ more

  abbrev filled : List Act
  filled = Driver (Poked buffer 0 table) ∷ mapped

  filled_ram : (k i : ℕ) → ram g filled k i ≡ ram g acts k i
  filled_ram k i = by (k == buffer) refl where
    inside : (t : Bool) → nat_lt i (length table) ≡ t → (k == buffer) ≡ true → or_old (text_byte table i t) (ram g more k i) ≡ ram g acts k i
    inside true f h = (let low : i < length table = grind (arith, nat_tests, f) in sym (there i low) ∙ ap (λ n. ram g acts n i) (sym (eqb-true k buffer h)))
    inside false f h = e.rams k i (ap (λ t. t && nat_lt i (length table)) h ∙ f)

    by : (t : Bool) → (k == buffer) ≡ t → (put_or (if t then text_at table 0 i (Handed None) else None) (last_put g mapped) (Ram k i)).byte ≡ ram g acts k i
    by false h = e.rams k i (ap (λ t. t && nat_lt i (length table)) h)
    by true h =
        put_byte (text_at table 0 i (Handed None)) (last_put g mapped) (Ram k i)
        ∙ ap (λ o. or_old o (ram g more k i)) (text_bytes table i (Handed None))
        ∙ inside (nat_lt i (length table)) refl h

  -- the byte that the mapping hands to an address, and the one that the sync hands
  abbrev handed_first : ℕ → ℕ
  handed_first a = ram g more buffer (index_of last a)

  abbrev synced : ℕ → Bool → Option ℕ
  synced a t = if t then Some (ram g filled buffer (index_of last a)) else None

  -- one address: the sync hands the table's byte where the mapping does on the other side
  at_address : (a old older : ℕ) → old ≡ older
      → or_old (puts_of g filled (Driver (Synced_device last)) a) (or_old (puts_of g more (Driver (Mapped last)) a) old) ≡ or_old (puts_of g acts (Driver (Mapped last)) a) older
  at_address a old older same =
      ap (λ o. or_old o (or_old (puts_of g more (Driver (Mapped last)) a) old)) (handed_byte (maps_address last a) (last_put g filled) last a)
      ∙ ap (λ o. or_old (synced a (maps_address last a)) (or_old o old))
      (mapped_puts g more last a ∙ ap (λ t. mapped_byte (maps_address last a) t (handed_first a)) (fresh_same g more acts last a e.shape))
      ∙ by (maps_address last a) (is_fresh g acts last a)
      ∙ sym (ap (λ o. or_old o older) (mapped_puts g acts last a)) where
        by : (handed fresh : Bool)
            → or_old (synced a handed) (or_old (mapped_byte handed fresh (handed_first a)) old) ≡ or_old (mapped_byte handed fresh (ram g acts buffer (index_of last a))) older
        by true fresh = filled_ram buffer (index_of last a)
        by false true = refl
        by false false = same

  synced_spots : (cell : Cell) → IsSpot cell → (last_put g (Driver (Synced_device last) ∷ filled) cell).byte ≡ (last_put g (Driver (Mapped last) ∷ acts) cell).byte
  synced_spots cell s =
      driver_spot g filled (Synced_device last) cell s
      ∙ ap (over (puts_of g filled (Driver (Synced_device last))) (address_of (registration_of more) cell)) (
      driver_spot g mapped (Poked buffer 0 table) cell s
      ∙ over_none (address_of (registration_of more) cell) (last_put g mapped cell).byte
      ∙ driver_spot g more (Mapped last) cell s)
      ∙ over_twice (puts_of g filled (Driver (Synced_device last))) (puts_of g more (Driver (Mapped last))) (puts_of g acts (Driver (Mapped last)))
      (address_of (registration_of more) cell) (last_put g more cell).byte (last_put g acts cell).byte
      (λ a. at_address a (last_put g more cell).byte (last_put g acts cell).byte (e.spots cell s)) (e.spots cell s)
      ∙ ap (λ r. over (puts_of g acts (Driver (Mapped last))) (address_of r cell) (last_put g acts cell).byte) e.shape.registered
      ∙ sym (driver_spot g acts (Mapped last) cell s)

  synced_shape : IsShaped g (Driver (Synced_device last) ∷ filled) (Driver (Mapped last) ∷ acts)
  synced_shape = (let shape = mapped_shape g more acts last e.shape in record {
    mappings = shape.mappings;
    mapped = shape.mapped;
    coherent = shape.coherent;
    made = shape.made;
    shown = shape.shown;
    area = shape.area;
    registered = shape.registered;
    present = shape.present;
  })

  pub filled_late : IsAlike g (Driver (Synced_device last) ∷ filled) (Driver (Mapped last) ∷ acts)
  filled_late = alike_off g (Driver (Synced_device last) ∷ filled) (Driver (Mapped last) ∷ acts) (record {
    shape = synced_shape;
    spots = synced_spots;
    count = e.count;
    lens = e.lens;
    total = e.total;
    rams = λ k i f. filled_ram k i;
  })

module _ (g : ℕ) (done : List Act) (front table : List ℕ) (ms : List Streaming) where
  abbrev first : List Act
  first = Driver (Buffer front) ∷ done

  abbrev below : List Act
  below = Driver (Poked (buffers done) 0 front) ∷ Driver (Zeroed (length table)) ∷ first

  abbrev above : List Act
  above = Driver (Buffer table) ∷ first

  abbrev hole : Hole
  hole = first_bytes (buffers done + 1) (length table)

  misses : (m : Streaming) → m.want.buffer ≢ buffers done + 1 → MissesHole hole m
  misses m other i =
      let miss : (m.want.buffer == buffers done + 1) ≡ false = grind (arith, nat_tests, other) in
      ap (λ t. t && nat_lt i (length table)) miss

  mapped_like : All (λ (m : Streaming). m.want.buffer ≢ buffers done + 1) ms → IsAlikeOff g hole (map_acts ms ++ below) (map_acts ms ++ above)
  mapped_like others = maps_off g hole below above ms (All-weaker (λ (m : Streaming). m.want.buffer ≢ buffers done + 1) (MissesHole hole) misses ms others)
      (off_more g hole below (Driver (Zeroed (length table)) ∷ first) above
      (off_hole g hole below (Driver (Zeroed (length table)) ∷ first) (front_under g done front (length table))) (zeros_off g first table))

  mapped_there : (i : ℕ) → i < length table → ram g (map_acts ms ++ above) (buffers done + 1) i ≡ slice_index table i
  mapped_there i inside = maps_ram g above ms (buffers done + 1) i ∙ table_there g first table i inside

  -- what is to be shown of a last mapping of this range
  abbrev Listed : ℕ → ℕ → Want → Type 0
  Listed number slot want = IsAlike g
      (Driver (Synced_device (record { number = number; slot = slot; want = want })) ∷ Driver (Poked (buffers done + 1) 0 table)
      ∷ Driver (Mapped (record { number = number; slot = slot; want = want })) ∷ map_acts ms ++ below)
      (Driver (Mapped (record { number = number; slot = slot; want = want })) ∷ map_acts ms ++ above)

  pub placed_listed : (last : Streaming) → last.want ≡ record { buffer = buffers done + 1; offset = 0; len = length table; dir = To }
      → All (λ (m : Streaming). m.want.buffer ≢ buffers done + 1) ms
      → IsAlike g
      (Driver (Synced_device last) ∷ Driver (Poked (buffers done + 1) 0 table) ∷ map_acts (ms ++ last ∷ [])
      ++ Driver (Poked (buffers done) 0 front) ∷ Driver (Zeroed (length table)) ∷ Driver (Buffer front) ∷ done)
      (map_acts (ms ++ last ∷ []) ++ Driver (Buffer table) ∷ Driver (Buffer front) ∷ done)
  placed_listed last want others =
      subst (λ (l : List Act). IsAlike g (Driver (Synced_device last) ∷ Driver (Poked (buffers done + 1) 0 table) ∷ l ++ below) (l ++ above)) (sym (map_acts_last ms last))
      (subst (Listed last.number last.slot) (sym want)
      (filled_late g (map_acts ms ++ below) (map_acts ms ++ above) table (buffers done + 1) last.number last.slot (mapped_like others) mapped_there))
