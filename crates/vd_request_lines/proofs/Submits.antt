-- The line that places a request, by what its calls ensure.
use Rattle.std.proofs.Common.{if◌then◌else◌, ◌≡◌, ◌≢◌, ℕ, ◌+◌, ◌-◌, ◌*◌, ◌%◌, ◌<◌, Bool, true, false, ◌&&◌, refl, ap, sym, subst, ◌∙◌, arith, List, [], ◌∷◌, ◌++◌, append_assoc, length, take, map, Some, None, Option, All, true≢false}
use Rattle.std.specs.Prelude.{IfSome, is_some}
use Rattle.std.specs.List.{list_all}
use Rattle.byteorder.specs.Endian.{little_bytes}
use Rattle.vd_pool.specs.Memory.{PoolMemory as Pool}
use Rattle.vd_model.specs.declared.memory.Want.{Want}
use Rattle.vd_model.specs.declared.memory.Dir.TheVariants.{To}
use Rattle.vd_model.specs.declared.parts.Part.{Part}
use Rattle.vd_model.specs.declared.answer.Answer.{Answer}
use Rattle.vd_model.specs.declared.answer.Answer.TheVariants.{Done}
use Rattle.vd_model.specs.declared.answer.Item.TheVariants.{Word, Number}
use Rattle.vd_model.specs.declared.answer.Tag.TheVariants as tag
use Rattle.vd_model.specs.Setting.{Setting}
use Rattle.vd_model.specs.Acts.{Act, Request, Streaming, Driver, Queue, Buffer, Zeroed, Poked, Mapped, Synced_device, Driver_put, Chain_added, Chains_published}
use Rattle.vd_model.specs.Live.{buffers, maps, live_mappings, iova_of}
use Rattle.vd_model.specs.Place.{taken_slots}
use Rattle.vd_model.specs.Queues.{added_count, published_count}
use Rattle.vd_model.specs.Rings.{available_index_at}
use Rattle.vd_model.specs.RingTurns.{AskedRequest, part_wants, table_wants, table_len, parts_count, placed_mappings, map_acts, buffer_acts, mapping_part, table_bytes, last_after, request_puts, request_acts, slot_put, first_of, needed_descriptors, header_and_status, writable_of, wants_kick, submitted_turn}
use Rattle.vd_model.specs.DaemonTurns.{has_event_idx}
use Rattle.vd_model.specs.Turn.{Turn}
use Rattle.vd_answers.specs.Tells.{Tells}
use Rattle.vd_answers.proofs.Telling.{tells_by}
use Rattle.vd_domain.specs.Seen.{ring_map, ring_memory}
use Rattle.vd_domain.specs.Apart.{AreApart}
use Rattle.vd_memory_lines.specs.declared.memory.Memory.{Memory}
use Rattle.vd_memory_lines.specs.Stands.{Stands}
use Rattle.vr_driver.specs.Side.{with_chain, all_published}
use Rattle.vr_driver.specs.Driver.{with_index}
use Rattle.vd_ring_memory.specs.RingPutLemmas.{ring_puts_same, ring_finite}
use Rattle.vd_rings.specs.Stands.{leaves_ring}
use Rattle.vd_rings.proofs.Chains.{first_is}
use Rattle.vd_rings.proofs.Putting.{Shows}
use Rattle.vd_request_acts.proofs.Alike.{stands_alike}
use Rattle.vd_request_acts.proofs.Placed.{placed_direct, placed_listed}
use Rattle.blk_driver.specs.Asked.{asked_in, front_bytes, written_len}
use Rattle.blk_driver.specs.Buffers.{has_range, AreNumbered}
use Rattle.blk_driver.specs.Driver as blk
use Rattle.blk_driver.specs.Driver.{request_in, numbers_from}
use Rattle.blk_driver.specs.Mapped.{AreThere}
use Rattle.blk_driver.specs.Pended.{pending_for}
use Rattle.blk_driver.specs.Placed.{with_request}
use Rattle.blk_driver.specs.declared.ask.Ask.{Ask}
use Rattle.blk_driver.specs.declared.driver.Submitted.{Submitted}
use Rattle.blk_driver.specs.declared.pending.Pending.{Pending}
use Rattle.blk_driver.proofs.Parts.{parts_len}
use Rattle.vd_request_lines.specs.declared.held.HeldDriver.{HeldDriver}
use Rattle.vd_request_lines.specs.Stands.{RequestsStand, ring_in}
use Rattle.vd_request_lines.specs.After.{After}
use Rattle.vd_request_lines.specs.Submitting.{made_acts, IsSubmitted}
use Rattle.vd_request_lines.proofs.Leaving.{requests_stay}
use Rattle.vd_request_lines.proofs.Makings.{front_is, all_there, front_ranged, there_after, is_below, size_of}
use Rattle.vd_request_lines.proofs.Mappings.{AreOf, placed_are, numbers_are, front_of, writable_is, as_many, Split, split, each_want, numbered}
use Rattle.vd_request_lines.proofs.Requests.{draft, base_same, base_quiet, placed_low, slots_before, maps_before, live_before, table_size, map_len, others}
use Rattle.vd_request_lines.proofs.Posted.{HasTable, taken, puts, added_acts, index, only, requests_published, index_told, kick_told, posted}

-- ---- what was listed stands for buffers and mappings alone

direct_stands : (x : Setting) (acts : List Act) (k : Memory) (m : Pool) (ask : Ask) (ms : List Streaming) (parts : List Part)
    → Stands x (map_acts ms ++ (Driver (Poked (buffers acts) 0 (front_bytes ask 0)) ∷ made_acts false ask ++ acts)) k m → Stands x ((map_acts ms ++ buffer_acts false (asked_in ask) parts) ++ acts) k m
direct_stands x acts k m ask ms parts s =
    subst (λ (l : List Act). Stands x l k m) (sym (append_assoc (map_acts ms) (buffer_acts false (asked_in ask) parts) acts))
    (subst (λ (bytes : List ℕ). Stands x (map_acts ms ++ Driver (Buffer bytes) ∷ acts) k m) (front_is ask)
    (stands_alike x (map_acts ms ++ Driver (Poked (buffers acts) 0 (front_bytes ask 0)) ∷ Driver (Buffer (front_bytes ask 0)) ∷ acts) (map_acts ms ++ Driver (Buffer (front_bytes ask 0)) ∷ acts) k m
    (placed_direct x.per_page acts (front_bytes ask 0) ms) s))

-- the range of the table
abbrev table_want : ℕ → ℕ → Want
table_want b len = record { buffer = b + 1; offset = 0; len = len; dir = To }

-- the acts behind a table's
abbrev under_table : List Act → List ℕ → ℕ → List Act
under_table acts front len = Driver (Poked (buffers acts) 0 front) ∷ Driver (Zeroed len) ∷ Driver (Buffer front) ∷ acts

table_stands : (x : Setting) (acts : List Act) (k : Memory) (m : Pool) (ask : Ask) (ms front : List Streaming) (last : Streaming) (parts : List Part)
    → ms ≡ front ++ last ∷ [] → last.want ≡ table_want (buffers acts) (table_len (asked_in ask)) → All (λ (l : Streaming). l.want.buffer ≢ buffers acts + 1) front → length parts ≡ parts_count (asked_in ask)
    → Stands x (Driver (Synced_device last) ∷ Driver (Poked (buffers acts + 1) 0 (table_bytes 0 parts)) ∷ map_acts ms ++ under_table acts (front_bytes ask 0) (table_len (asked_in ask))) k m
    → Stands x ((map_acts ms ++ buffer_acts true (asked_in ask) parts) ++ acts) k m
table_stands x acts k m ask ms front last parts all is low len s =
    let table = table_bytes 0 parts in
    let fr = front_bytes ask 0 in
    let size : table_len (asked_in ask) ≡ length (table_bytes 0 parts) = ap (λ n. 16 * n) (sym len) ∙ sym (table_size 0 parts) in
    let split : Stands x (Driver (Synced_device last) ∷ Driver (Poked (buffers acts + 1) 0 table) ∷ map_acts (front ++ last ∷ []) ++ under_table acts fr (length table)) k m =
    subst (λ n. Stands x (Driver (Synced_device last) ∷ Driver (Poked (buffers acts + 1) 0 table) ∷ map_acts (front ++ last ∷ []) ++ under_table acts fr n) k m) size
    (subst (λ (l : List Streaming). Stands x (Driver (Synced_device last) ∷ Driver (Poked (buffers acts + 1) 0 table) ∷ map_acts l ++ under_table acts fr (table_len (asked_in ask))) k m) all s) in
    let alike = placed_listed x.per_page acts fr table front last (is ∙ ap (table_want (buffers acts)) size) low in
    let plain : Stands x (map_acts (front ++ last ∷ []) ++ Driver (Buffer table) ∷ Driver (Buffer fr) ∷ acts) k m =
    stands_alike x (Driver (Synced_device last) ∷ Driver (Poked (buffers acts + 1) 0 table) ∷ map_acts (front ++ last ∷ []) ++ under_table acts fr (length table))
    (map_acts (front ++ last ∷ []) ++ Driver (Buffer table) ∷ Driver (Buffer fr) ∷ acts) k m alike split in
    subst (λ (l : List Act). Stands x l k m) (sym (append_assoc (map_acts ms) (buffer_acts true (asked_in ask) parts) acts))
    (subst (λ (l : List Streaming). Stands x (map_acts l ++ Driver (Buffer table) ∷ Driver (Buffer (header_and_status (asked_in ask))) ∷ acts) k m) (sym all)
    (subst (λ (bytes : List ℕ). Stands x (map_acts (front ++ last ∷ []) ++ Driver (Buffer table) ∷ Driver (Buffer bytes) ∷ acts) k m) (front_is ask) plain))

-- the acts of the driver's calls before the maps
abbrev filled_acts : Bool → Ask → List Act → List Act
filled_acts i ask acts = Driver (Poked (buffers acts) 0 (front_bytes ask 0)) ∷ made_acts i ask ++ acts

-- what is known of a table
record Tabled (x : Setting) (acts : List Act) (ask : Ask) (ms : List Streaming) (parts : List Part) (k : Memory) (m : Pool) : Type 0 where
  pub front : List Streaming
  pub last : Streaming
  pub all : ms ≡ front ++ last ∷ []
  pub is : last.want ≡ table_want (buffers acts) (table_len (asked_in ask))
  pub low : All (λ (l : Streaming). l.want.buffer ≢ buffers acts + 1) front
  pub stands : Stands x (Driver (Synced_device last) ∷ Driver (Poked (buffers acts + 1) 0 (table_bytes 0 parts)) ∷ map_acts ms ++ filled_acts true ask acts) k m

listed_by : (i : Bool) (x : Setting) (acts : List Act) (ask : Ask) (ms : List Streaming) (parts : List Part) (mapped listed : Memory) (mp lp : Pool) → length parts ≡ parts_count (asked_in ask)
    → Stands x (map_acts ms ++ filled_acts i ask acts) mapped mp → (i ≡ false → (listed ≡ mapped) × (lp ≡ mp)) → (i ≡ true → Tabled x acts ask ms parts listed lp)
    → Stands x ((map_acts ms ++ buffer_acts i (asked_in ask) parts) ++ acts) listed lp
listed_by false x acts ask ms parts mapped listed mp lp len s direct table =
    let same = direct refl in
    subst (λ (p : Pool). Stands x ((map_acts ms ++ buffer_acts false (asked_in ask) parts) ++ acts) listed p) (sym same.1)
    (subst (λ (k : Memory). Stands x ((map_acts ms ++ buffer_acts false (asked_in ask) parts) ++ acts) k mp) (sym same.0) (direct_stands x acts mapped mp ask ms parts s))
listed_by true x acts ask ms parts mapped listed mp lp len s direct table =
    let t = table refl in table_stands x acts listed lp ask ms t.front t.last parts t.all t.is t.low len t.stands

-- ---- acts on buffers and maps leave a queue alone

both_on : (a b : Bool) → a ≡ true → b ≡ true → (a && b) ≡ true
both_on true b e f = f
both_on false b e f = absurd (true≢false (sym e))

all_on : (p : Act → Bool) (xs ys : List Act) → list_all p xs ≡ true → list_all p ys ≡ true → list_all p (xs ++ ys) ≡ true
all_on p [] ys e f = f
all_on p (x ∷ xs) ys e f = by (p x) refl e (λ e. all_on p xs ys e f) where
  by : (t : Bool) → p x ≡ t → (t && list_all p xs) ≡ true → (list_all p xs ≡ true → list_all p (xs ++ ys) ≡ true) → (p x && list_all p (xs ++ ys)) ≡ true
  by true g e rest = both_on (p x) (list_all p (xs ++ ys)) g (rest e)
  by false g e rest = absurd (true≢false (sym e))

maps_leave : (q : ℕ) (held : HeldDriver) (ms : List Streaming) → list_all (leaves_ring q (ring_in (Some held))) (map_acts ms) ≡ true
maps_leave q held [] = refl
maps_leave q held (m ∷ ms) = all_on (leaves_ring q (ring_in (Some held))) (map_acts ms) (Driver (Mapped m) ∷ []) (maps_leave q held ms) refl

buffers_leave : (q : ℕ) (held : HeldDriver) (i : Bool) (a : AskedRequest) (parts : List Part) → list_all (leaves_ring q (ring_in (Some held))) (buffer_acts i a parts) ≡ true
buffers_leave q held false a parts = refl
buffers_leave q held true a parts = refl

-- ---- the line

module _ (x : Setting) (acts : List Act) (m n : Pool) (q : ℕ) (h k : Memory) (held : HeldDriver) (s : Stands x acts h m) (r : RequestsStand acts q (Some held)) (before : ring_map h.domain ≡ ring_memory x acts) (later : Shows k.domain)
    (apart : AreApart x acts) (low : All (λ (l : Streaming). l.number < maps acts) (live_mappings acts)) (i ev : Bool) (events : ev ≡ has_event_idx acts) (ask : Ask)
    (given : IfSome (asked_in ask).want (λ w. has_range acts w.buffer w.offset w.len ≡ true)) (made : Memory) (makes : Stands x (made_acts i ask ++ acts) made m)
    (same : ring_map made.domain ≡ ring_map h.domain) (l : blk.Driver) (res : Submitted) (sub : IsSubmitted made m (draft ask (buffers acts) i ev) held.driver l res k n) where
  abbrev a : AskedRequest
  a = asked_in ask

  abbrev wants : List Want
  wants = part_wants (buffers acts) a ++ table_wants i (buffers acts) a

  abbrev filled : List Act
  filled = filled_acts i ask acts

  fills : Stands x filled sub.filled sub.filled_pool
  fills = sub.fills x (made_acts i ask ++ acts) makes (front_ranged i ask acts)

  placed_is : placed_mappings x (taken_slots filled) (maps filled) wants ≡ placed_mappings x (taken_slots acts) (maps acts) wants
  placed_is = λ j. placed_mappings x (slots_before i ask acts j) (maps_before i ask acts j) wants

  first_map : res.first_map ≡ maps acts
  first_map = (sub.first x filled fills).0 ∙ maps_before i ask acts

  pub are_placed : is_some (placed_mappings x (taken_slots acts) (maps acts) wants) ≡ true
  are_placed = ap is_some (sym placed_is) ∙ (sub.first x filled fills).1

  module _ (ms : List Streaming) (e : placed_mappings x (taken_slots acts) (maps acts) wants ≡ Some ms) where
    again : placed_mappings x (taken_slots filled) (maps filled) wants ≡ Some ms
    again = placed_is ∙ e

    are : AreOf (maps acts) wants ms
    are = placed_are x (taken_slots acts) (maps acts) wants ms e

    there : AreThere filled wants
    there = there_after (made_acts i ask ++ acts) filled wants (λ b. refl) (all_there x acts h m s i ask given)

    numbers : AreNumbered (maps filled) (live_mappings filled)
    numbers =
        subst (λ n. AreNumbered n (live_mappings filled)) (sym (maps_before i ask acts))
        (subst (λ (ls : List Streaming). AreNumbered (maps acts) ls) (sym (live_before i ask acts)) (numbered (maps acts) (live_mappings acts) low))

    abbrev parts : List Part
    parts = map mapping_part (take (parts_count a) ms)

    parts_are : sub.parts ≡ parts
    parts_are = sub.is x filled ms fills there numbers again

    front_are : AreOf (maps acts) (part_wants (buffers acts) a) (take (parts_count a) ms)
    front_are = subst (λ k. AreOf (maps acts) (part_wants (buffers acts) a) (take k ms)) (parts_len (buffers acts) a) (front_of (maps acts) (part_wants (buffers acts) a) (table_wants i (buffers acts) a) ms are)

    len : length parts ≡ parts_count a
    len = map_len (take (parts_count a) ms) ∙ as_many (maps acts) (part_wants (buffers acts) a) (take (parts_count a) ms) front_are ∙ parts_len (buffers acts) a

    given_low : (want : Option Want) → IfSome want (λ w. has_range acts w.buffer w.offset w.len ≡ true) → IfSome want (λ w. w.buffer < buffers acts)
    given_low None g = tt
    given_low (Some w) g = let z = size_of acts w.buffer w.offset w.len g in is_below x acts h m s w.buffer z.size z.is

    split_at : i ≡ true → Split (maps acts) (part_wants (buffers acts) a) (table_want (buffers acts) (table_len a)) ms
    split_at t = split (maps acts) (part_wants (buffers acts) a) (table_want (buffers acts) (table_len a)) ms
        (subst (λ b. AreOf (maps acts) (part_wants (buffers acts) a ++ table_wants b (buffers acts) a) ms) t are)

    found_at : (t : i ≡ true) → last_after (parts_count a) ms ≡ Some (split_at t).last
    found_at t = ap (λ k. last_after k ms) (sym (parts_len (buffers acts) a)) ∙ (split_at t).found

    table_at : (t : i ≡ true) → Stands x (Driver (Synced_device (split_at t).last) ∷ Driver (Poked (buffers acts + 1) 0 (table_bytes 0 sub.parts)) ∷ map_acts ms ++ filled) sub.listed sub.listed_pool × (sub.table ≡ iova_of (split_at t).last)
    table_at t = sub.tabled t x filled ms (split_at t).last fills there numbers again (found_at t)

    tabled : i ≡ true → Tabled x acts ask ms parts sub.listed sub.listed_pool
    tabled t = let p = split_at t in record {
      front = p.front;
      last = p.last;
      all = p.all;
      is = p.is;
      low = each_want (λ (w : Want). w.buffer ≢ buffers acts + 1) (maps acts) (part_wants (buffers acts) a) p.front p.are (others (buffers acts) a a.want (given_low a.want given));
      stands = subst (λ b. Stands x (Driver (Synced_device p.last) ∷ Driver (Poked (buffers acts + 1) 0 (table_bytes 0 parts)) ∷ map_acts ms ++ filled_acts b ask acts) sub.listed sub.listed_pool) t
          (subst (λ (ps : List Part). Stands x (Driver (Synced_device p.last) ∷ Driver (Poked (buffers acts + 1) 0 (table_bytes 0 ps)) ∷ map_acts ms ++ filled) sub.listed sub.listed_pool) parts_are (table_at t).0);
    }

    has_table : i ≡ true → HasTable a ms sub.table (length parts)
    has_table t = let p = split_at t in record { last = p.last; found = found_at t; at = (table_at t).1; len = ap (λ (w : Want). w.len) p.is ∙ ap (λ n. 16 * n) (sym len) }

    abbrev base : List Act
    base = (map_acts ms ++ buffer_acts i a parts) ++ acts

    listed : Stands x base sub.listed sub.listed_pool
    listed = listed_by i x acts ask ms parts sub.mapped sub.listed sub.mapped_pool sub.listed_pool len (sub.mapping x filled ms fills there again) sub.direct tabled

    whole : x.bounce ≡ x.per_page * length h.domain.bounce.frames
    whole = s.domain.bounce ∙ ap (λ g. g * length h.domain.bounce.frames) (sym s.domain.per_page)

    seen : ring_map sub.listed.domain ≡ ring_memory x base
    seen = sub.same_told ∙ same ∙ before ∙ sym (base_quiet x acts (length h.domain.bounce.frames) whole apart ms (placed_low x acts wants ms e) i a parts)

    requests : RequestsStand base q (Some held)
    requests = requests_stay q (map_acts ms ++ buffer_acts i a parts) acts (Some held)
        (all_on (leaves_ring q (ring_in (Some held))) (map_acts ms) (buffer_acts i a parts) (maps_leave q held ms) (buffers_leave q held i a parts)) r

    abbrev request : Request
    request = record { buffer = buffers acts; buffers = (if i then 2 else 1); maps = map (λ (l : Streaming). l.number) ms; writable = writable_of parts }

    abbrev pending : Pending
    pending = pending_for (draft ask (buffers acts) i ev) res.head res.first_map

    back_to : (f c : ℕ) → f + c - f ≡ c
    back_to f c = omega arith

    its_maps : numbers_from res.first_map (res.first_map + length wants - res.first_map) ≡ map (λ (l : Streaming). l.number) ms
    its_maps =
        ap (numbers_from res.first_map) (back_to res.first_map (length wants)) ∙ ap (λ f. numbers_from f (length wants)) first_map ∙ sym (numbers_are (maps acts) wants ms are)

    its_writable : written_len (part_wants (buffers acts) a) ≡ writable_of parts
    its_writable = sym (writable_is (maps acts) (part_wants (buffers acts) a) (take (parts_count a) ms) front_are)

    is : request_in pending ≡ request
    is = λ j. record { buffer = buffers acts; buffers = (if i then 2 else 1); maps = its_maps j; writable = its_writable j }

    abbrev ds : List ℕ
    ds = taken i a held.driver.ring

    head : res.head ≡ first_of ds
    head = sub.head ∙ first_is ds

    abbrev all : List Act
    all = request_acts acts q (record { place = held.driver.ring.place; region = held.region }) i a ms parts ds

    joined : ((request_puts i held.driver.ring.place a ms parts ds ++ map_acts ms) ++ buffer_acts i a parts) ++ acts ≡ request_puts i held.driver.ring.place a ms parts ds ++ base
    joined =
        append_assoc (request_puts i held.driver.ring.place a ms parts ds ++ map_acts ms) (buffer_acts i a parts) acts
        ∙ append_assoc (request_puts i held.driver.ring.place a ms parts ds) (map_acts ms) (buffer_acts i a parts ++ acts)
        ∙ ap (λ l. request_puts i held.driver.ring.place a ms parts ds ++ l) (sym (append_assoc (map_acts ms) (buffer_acts i a parts) acts))

    -- the acts of the model's turn, with those before the line
    all_is : all ++ acts ≡ added_acts x base q held requests i a ms parts sub.fits request pending is head
    all_is = λ j. Queue (Chain_added q (record { head = first_of ds; descriptors = ds; request = Some request }))
        ∷ slot_put held.driver.ring.place (sym (base_same (λ l. added_count l q) (λ m done. refl) (λ bytes done. refl) i a parts ms acts) j) (first_of ds)
        ∷ joined j

    told : ring_map k.domain ≡ with_index (with_request (ring_map sub.listed.domain) held.driver.ring i sub.table parts) (with_chain held.driver.ring (needed_descriptors i a))
    told = sub.told ∙ ap (λ (ps : List Part). with_index (with_request (ring_map sub.listed.domain) held.driver.ring i sub.table ps) (with_chain held.driver.ring (needed_descriptors i a))) parts_are

    events_after : ev ≡ has_event_idx (added_acts x base q held requests i a ms parts sub.fits request pending is head)
    events_after =
        events ∙ sym (ring_puts_same (λ l. has_event_idx l) (λ at bytes done. refl) base (puts x base q held requests i a ms parts sub.fits request pending is head) base
        (only x base q held requests i a ms parts sub.fits request pending is head (ring_map sub.listed.domain) seen (ring_finite sub.listed.domain))
        ∙ base_same (λ l. has_event_idx l) (λ m done. refl) (λ bytes done. refl) i a parts ms acts)

    -- what is told is what the turn says
    abbrev pub turn : Turn Act
    turn = submitted_turn x acts q (record { place = held.driver.ring.place; region = held.region }) i a ms ds

    pub submits : (heard : Answer → Type 0) (buffer : ℕ) → buffer ≡ buffers acts
        → heard (Done (Word tag.Head ∷ Number res.head ∷ Word tag.Idx ∷ Number res.idx ∷ Word tag.Kick ∷ Number (if res.kick then 1 else 0) ∷ Word tag.Buf ∷ Number buffer ∷ Word tag.Map ∷ Number res.first_map ∷ []))
        → Tells heard turn (After x acts q k n (Some (record held { driver = l })))
    submits heard buffer first said =
        let w = ring_map sub.listed.domain in
        let finite = ring_finite sub.listed.domain in
        let idx = index_told x base q held requests i a ms parts sub.fits request pending is head w seen finite res.idx sub.idx ∙ ap (λ l. added_count l q % 65536) (sym all_is) in
        let kick = kick_told x base q held requests i a ms parts sub.fits request pending is head w seen finite sub.table len has_table ev events_after res.kick (ring_map k.domain) told sub.kick
        ∙ ap (λ l. wants_kick x l held.driver.ring.place (added_count l q) (published_count l q)) (sym all_is) in
        tells_by refl
        (λ j. Done (Word tag.Head ∷ Number (head j) ∷ Word tag.Idx ∷ Number (idx j) ∷ Word tag.Kick ∷ Number (kick j) ∷ Word tag.Buf ∷ Number (first j) ∷ Word tag.Map ∷ Number (first_map j) ∷ []))
        said (record {
          memory = subst (λ (l : List Act). Stands x (Queue (Chains_published q) ∷ Driver (Driver_put (available_index_at held.driver.ring.place) (little_bytes 2 (added_count l q))) ∷ l) k n) (sym all_is)
              (posted x base q held requests i a ms parts sub.fits request pending is head w seen finite sub.table len has_table sub.listed k sub.listed_pool n refl listed sub.puts later told);
          requests = subst (λ (acts : List Act). RequestsStand (Queue (Chains_published q) ∷ Driver (Driver_put (available_index_at held.driver.ring.place) (little_bytes 2 (added_count acts q))) ∷ acts) q (Some (record held { driver = l }))) (sym all_is)
              (subst (λ (d : blk.Driver). RequestsStand (Queue (Chains_published q) ∷ index x base q held requests i a ms parts sub.fits request pending is head
              ∷ added_acts x base q held requests i a ms parts sub.fits request pending is head) q (Some (record held { driver = d }))) (sym driver_is)
              (requests_published x base q held requests i a ms parts sub.fits request pending is head w seen finite));
        }) where
          driver_is : l ≡ record { ring = all_published (with_chain held.driver.ring (needed_descriptors i a)); pending = held.driver.pending ++ pending ∷ [] }
          driver_is = λ j. record { ring = sub.side j; pending = sub.pending j }
