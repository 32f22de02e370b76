-- What buffers and mappings leave of a ring's memory, and what the puts of a request write there.
use Rattle.std.proofs.Common.{◌≡◌, ◌≢◌, ℕ, suc, ◌+◌, ◌-◌, ◌*◌, ◌%◌, ◌<◌, ◌≤◌, ◌^◌, Bool, true, false, refl, ap, sym, subst, ◌∙◌, arith, List, [], ◌∷◌, ◌++◌, append_assoc, length, map, Some, None, Option, All}
use Rattle.std.specs.Prelude.{IfSome}
use Rattle.std.proofs.lemmas.List.Elements.{All-nil, All-cons, All-tail, All-head}
use Rattle.byteorder.specs.Endian.{little_bytes}
use Rattle.vd_num.specs.Number.{pages_of}
use Rattle.vd_pool.specs.Memory.{PoolMemory as Pool}
use Rattle.vd_model.specs.declared.memory.Want.{Want}
use Rattle.vd_model.specs.declared.memory.Dir.TheVariants.{To, From}
use Rattle.vd_model.specs.declared.parts.Part.{Part}
use Rattle.vd_model.specs.Memory as model
use Rattle.vd_model.specs.Memory.{written}
use Rattle.vd_model.specs.Setting.{Setting}
use Rattle.vd_model.specs.Acts.{Act, Streaming, Coherent, Driver, Buffer, Mapped}
use Rattle.vd_model.specs.Live.{maps, live_mappings, live_regions, iova_of}
use Rattle.vd_model.specs.Place.{taken_slots}
use Rattle.vd_model.specs.Rings.{IsRingSize, available_slot_at}
use Rattle.vd_model.specs.RingTurns.{AskedRequest, part_wants, given_want, placed_mappings, map_acts, buffer_acts, mapping_part, table_bytes, table_puts, slot_put, first_of, descriptor_bytes, header_and_status}
use Rattle.vd_domain.specs.Held.{Held}
use Rattle.vd_domain.specs.Seen.{ring_map, ring_memory}
use Rattle.vd_domain.specs.Apart.{AreApart}
use Rattle.vd_domain.specs.Stands as domain
use Rattle.vr_driver.specs.Side.{DriverSide, next_chain}
use Rattle.vr_driver.specs.Driver.{with_table}
use Rattle.vd_ring_memory.specs.RingPuts.{after_puts, AreRingPuts, IsAfterRingPuts}
use Rattle.vd_ring_memory.proofs.RingTelling.{ring_after_puts}
use Rattle.vd_ring_memory.proofs.Standing.{stands_as_rings}
use Rattle.vd_queue_sides.proofs.Chained.{slot_same}
use Rattle.vd_rings.proofs.Chains.{first_is, whole_turns}
use Rattle.vd_rings.proofs.Putting.{Shows}
use Rattle.vd_driver_port.proofs.Quiet.{ring_quiet, mapped_quiet}
use Rattle.vd_driver_port.proofs.Placed as port
use Rattle.vd_driver_port.proofs.Placed.{placed_all}
use Rattle.blk_driver.specs.declared.ask.Ask.{Ask}
use Rattle.blk_driver.specs.declared.ask.Draft.{Draft}
use Rattle.vd_request_lines.specs.Submitting.{made_acts}
use Rattle.vd_request_lines.proofs.Mappings.{maps_same}

-- a request over buffers from this one on
abbrev pub draft : Ask → ℕ → Bool → Bool → Draft
draft ask b i ev = record { ask = ask; buffer = b; indirect = i; event_idx = ev }

-- ---- what the ring's memory shows stays

-- what no map and no buffer changes
pub base_same : {X : Type 0} (f : List Act → X) → ((m : Streaming) (done : List Act) → f (Driver (Mapped m) ∷ done) ≡ f done) → ((bytes : List ℕ) (done : List Act) → f (Driver (Buffer bytes) ∷ done) ≡ f done)
    → (i : Bool) (a : AskedRequest) (parts : List Part) (ms : List Streaming) (acts : List Act) → f ((map_acts ms ++ buffer_acts i a parts) ++ acts) ≡ f acts
base_same f one two i a parts ms acts =
    ap f (append_assoc (map_acts ms) (buffer_acts i a parts) acts) ∙ maps_same f one ms (buffer_acts i a parts ++ acts) ∙ by i where
      by : (i : Bool) → f (buffer_acts i a parts ++ acts) ≡ f acts
      by false = two (header_and_status a) acts
      by true = two (table_bytes 0 parts) (Driver (Buffer (header_and_status a)) ∷ acts) ∙ two (header_and_status a) acts

maps_quiet : (x : Setting) (n : ℕ) → x.bounce ≡ x.per_page * n → (acts : List Act) → All (λ (r : Coherent). x.bounce ≤ r.slot) (live_regions acts)
    → (ms : List Streaming) → All (λ (m : Streaming). m.slot + pages_of m.want.len ≤ x.bounce) ms → ring_memory x (map_acts ms ++ acts) ≡ ring_memory x acts
maps_quiet x n whole acts high [] all = refl
maps_quiet x n whole acts high (m ∷ ms) all =
    ap (λ (l : List Act). ring_memory x l) (append_assoc (map_acts ms) (Driver (Mapped m) ∷ []) acts)
    ∙ maps_quiet x n whole (Driver (Mapped m) ∷ acts) high ms (All-tail (λ (m : Streaming). m.slot + pages_of m.want.len ≤ x.bounce) m ms all)
    ∙ mapped_quiet x n whole acts high m (All-head (λ (m : Streaming). m.slot + pages_of m.want.len ≤ x.bounce) m ms all)

buffers_quiet : (x : Setting) (i : Bool) (a : AskedRequest) (parts : List Part) (acts : List Act) → ring_memory x (buffer_acts i a parts ++ acts) ≡ ring_memory x acts
buffers_quiet x false a parts acts = ring_quiet x acts (Buffer (header_and_status a)) (λ b. refl) (λ b e. refl)
buffers_quiet x true a parts acts =
    ring_quiet x (Driver (Buffer (header_and_status a)) ∷ acts) (Buffer (table_bytes 0 parts)) (λ b. refl) (λ b e. refl)
    ∙ ring_quiet x acts (Buffer (header_and_status a)) (λ b. refl) (λ b e. refl)

regions_same : (i : Bool) (a : AskedRequest) (parts : List Part) (acts : List Act) → live_regions (buffer_acts i a parts ++ acts) ≡ live_regions acts
regions_same false a parts acts = refl
regions_same true a parts acts = refl

pub base_quiet : (x : Setting) (acts : List Act) (n : ℕ) → x.bounce ≡ x.per_page * n → AreApart x acts → (ms : List Streaming) → All (λ (m : Streaming). m.slot + pages_of m.want.len ≤ x.bounce) ms
    → (i : Bool) (a : AskedRequest) (parts : List Part) → ring_memory x ((map_acts ms ++ buffer_acts i a parts) ++ acts) ≡ ring_memory x acts
base_quiet x acts n whole apart ms low i a parts =
    ap (λ (l : List Act). ring_memory x l) (append_assoc (map_acts ms) (buffer_acts i a parts) acts)
    ∙ maps_quiet x n whole (buffer_acts i a parts ++ acts) (subst (λ rs. All (λ (r : Coherent). x.bounce ≤ r.slot) rs) (sym (regions_same i a parts acts)) apart.high) ms low
    ∙ buffers_quiet x i a parts acts

-- the slots of some mappings that were placed lie in bounce memory
any_want : (wants : List Want) → All (λ w. Unit {0}) wants
any_want [] = All-nil (λ w. Unit {0})
any_want (w ∷ ws) = All-cons (λ w. Unit {0}) w ws tt (any_want ws)

lows : (x : Setting) (ms : List Streaming) → All (port.IsPlaced x (λ w. Unit {0})) ms → All (λ (m : Streaming). m.slot + pages_of m.want.len ≤ x.bounce) ms
lows x [] all = All-nil (λ (m : Streaming). m.slot + pages_of m.want.len ≤ x.bounce)
lows x (m ∷ ms) all =
    All-cons (λ (m : Streaming). m.slot + pages_of m.want.len ≤ x.bounce) m ms ((All-head (port.IsPlaced x (λ w. Unit {0})) m ms all).1)
    (lows x ms (All-tail (port.IsPlaced x (λ w. Unit {0})) m ms all))

pub placed_low : (x : Setting) (acts : List Act) (wants : List Want) (ms : List Streaming) → placed_mappings x (taken_slots acts) (maps acts) wants ≡ Some ms → All (λ (m : Streaming). m.slot + pages_of m.want.len ≤ x.bounce) ms
placed_low x acts wants ms e = lows x ms (placed_all x (λ w. Unit {0}) wants (taken_slots acts) (maps acts) ms e (any_want wants))

-- ---- the ring's puts

-- puts that write what was written, over a memory that shows the acts
pub puts_over : (x : Setting) (acts puts : List Act) (h k : Held) (m : Pool) → domain.Stands x acts h m → IsAfterRingPuts h k → ring_map h ≡ ring_memory x acts → Shows k → AreRingPuts acts puts
    → ring_map k ≡ after_puts (ring_map h) puts → domain.Stands x (puts ++ acts) k m
puts_over x acts puts h k m s after seen later only told =
    let p = after.after x acts m s in
    stands_as_rings x acts puts p.puts only p.only
    (ring_after_puts x acts puts only ∙ ap (λ (w : model.Memory). after_puts w puts) (sym seen) ∙ sym told ∙ later x (p.puts ++ acts) m p.stands) k m p.stands

-- the put of a table's descriptor, and of its head
pub table_put : (m : model.Memory) (s : DriverSide) (last : Streaming) (table n count : ℕ) → IsRingSize s.place.size → s.added ≡ count % 65536 → table ≡ iova_of last → last.want.len ≡ 16 * n
    → after_puts m (slot_put s.place count (first_of (next_chain s 1)) ∷ table_puts s.place (Some last) (next_chain s 1)) ≡ with_table m s table n
table_put m s last table n count size added at len =
    ap (λ l. written (written m (s.place.desc + 16 * first_of (next_chain s 1)) (descriptor_bytes (4096 * last.slot) l 4 0)) (available_slot_at s.place count) (little_bytes 2 (first_of (next_chain s 1)))) len
    ∙ ap (λ t. written (written m (s.place.desc + 16 * first_of (next_chain s 1)) (descriptor_bytes t (16 * n) 4 0)) (available_slot_at s.place count) (little_bytes 2 (first_of (next_chain s 1)))) (sym at)
    ∙ ap (λ at. written (written m (s.place.desc + 16 * first_of (next_chain s 1)) (descriptor_bytes table (16 * n) 4 0)) at (little_bytes 2 (first_of (next_chain s 1))))
    (sym (slot_same s.place (2 ^ (16 - size.0)) count (whole_turns s.place.size size)) ∙ ap (available_slot_at s.place) (sym added))
    ∙ ap (λ head. written (written m (s.place.desc + 16 * head) (descriptor_bytes table (16 * n) 4 0)) (available_slot_at s.place s.added) (little_bytes 2 head)) (sym (first_is (next_chain s 1)))

-- ---- what was listed

-- which slots are taken, and how many mappings were made, before anything is mapped
pub slots_before : (i : Bool) (ask : Ask) (acts : List Act) → taken_slots (made_acts i ask ++ acts) ≡ taken_slots acts
slots_before false ask acts = refl
slots_before true ask acts = refl

pub maps_before : (i : Bool) (ask : Ask) (acts : List Act) → maps (made_acts i ask ++ acts) ≡ maps acts
maps_before false ask acts = refl
maps_before true ask acts = refl

pub live_before : (i : Bool) (ask : Ask) (acts : List Act) → live_mappings (made_acts i ask ++ acts) ≡ live_mappings acts
live_before false ask acts = refl
live_before true ask acts = refl

-- how many bytes the table has
pub table_size : (k : ℕ) (parts : List Part) → length (table_bytes k parts) ≡ 16 * length parts
table_size k [] = refl
table_size k (p ∷ []) = refl
table_size k (p ∷ q ∷ parts) = (let rest = table_size (k + 1) (q ∷ parts) in omega (arith, rest))

pub map_len : (ms : List Streaming) → length (map mapping_part ms) ≡ length ms
map_len [] = refl
map_len (m ∷ ms) = ap suc (map_len ms)

-- wants of other buffers than the table's
not_next : (b k : ℕ) → k ≤ b → k ≢ b + 1
not_next b k low e = omega (arith, low, e)

-- the range of the status byte
abbrev status_of : ℕ → Want
status_of b = record { buffer = b; offset = 16; len = 1; dir = From }

pub others : (b : ℕ) (a : AskedRequest) (want : Option Want) → IfSome want (λ w. w.buffer < b) → All (λ (w : Want). w.buffer ≢ b + 1) (part_wants b (record a { want = want }))
others b a want given =
    All-cons (λ (w : Want). w.buffer ≢ b + 1) (record { buffer = b; offset = 0; len = 16; dir = To }) (given_want want ++ status_of b ∷ []) (not_next b b (omega arith)) (by want given) where
      last : All (λ (w : Want). w.buffer ≢ b + 1) (status_of b ∷ [])
      last = All-cons (λ (w : Want). w.buffer ≢ b + 1) (status_of b) [] (not_next b b (omega arith)) (All-nil (λ (w : Want). w.buffer ≢ b + 1))

      by : (want : Option Want) → IfSome want (λ w. w.buffer < b) → All (λ (w : Want). w.buffer ≢ b + 1) (given_want want ++ status_of b ∷ [])
      by None given = last
      by (Some w) given = All-cons (λ (w : Want). w.buffer ≢ b + 1) w (status_of b ∷ []) (not_next b w.buffer (omega (arith, given))) last
