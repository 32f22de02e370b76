-- The parts of a request that was just mapped are those of its mappings.
use Rattle.std.proofs.Common.{◌≡◌, ℕ, suc, ◌+◌, ◌<◌, ◌*◌, ◌==◌, true, false, Option, Some, None, Ok, refl, ap, sym, subst, ◌∙◌, arith, cond, List, [], ◌∷◌, ◌++◌, length, take, drop, map, find, append_assoc}
use Rattle.std.specs.Option.{option_map, option_map_or}
use Rattle.std.proofs.lemmas.Bool.Decides.{nat_tests}
use Rattle.std.proofs.lemmas.List.{append-nil, take-append-drop}
use Rattle.vd_num.specs.Number.{pages_of}
use Rattle.vd_model.specs.declared.memory.Want.{Want}
use Rattle.vd_model.specs.declared.memory.Dir.TheVariants.{To}
use Rattle.vd_model.specs.declared.parts.Part.{Part}
use Rattle.vd_model.specs.Setting.{Setting}
use Rattle.vd_model.specs.Acts.{Act, Streaming, Driver, Mapped, Poked, Synced_device}
use Rattle.vd_model.specs.Live.{maps, live_mappings, buffer_len, iova_of}
use Rattle.vd_model.specs.Place.{Slots, place_of, taken_slots}
use Rattle.std.specs.Prelude.{nat_le}
use Rattle.vd_model.specs.Puts.{is_to_device, is_from_device}
use Rattle.vd_model.specs.RingTurns.{AskedRequest, part_wants, table_wants, table_bytes, last_after, parts_count, placed_mapping, placed_mappings, map_acts, mapping_part}
use Rattle.blk_driver.specs.Buffers.{AreNumbered, has_range}
use Rattle.blk_driver.specs.Asked.{asked_in, wants_of}
use Rattle.blk_driver.specs.declared.ask.Draft.{Draft}
use Rattle.blk_driver.specs.Mapped.{AreThere, Maps}
use Rattle.blk_driver.specs.Placed.{AreParts, Lists}

-- the mappings are of these wants, with numbers from this one on
abbrev AreOf : ℕ → List Want → List Streaming → Type 0
AreOf n [] [] = Unit {0}
AreOf n [] (m ∷ ms) = ⊥
AreOf n (w ∷ ws) [] = ⊥
AreOf n (w ∷ ws) (m ∷ ms) = (m.number ≡ n) × (m.want ≡ w) × AreOf (n + 1) ws ms

in_front : (first : Streaming) (o : Option (List Streaming)) (ms : List Streaming) → option_map (λ rest. first ∷ rest) o ≡ Some ms → (rest : List Streaming) × (o ≡ Some rest) × (ms ≡ first ∷ rest)
in_front first None ms e = cc
in_front first (Some rest) ms e = (rest, refl, cc)

placed_are : (x : Setting) (held : List Slots) (n : ℕ) (wants : List Want) (ms : List Streaming) → placed_mappings x held n wants ≡ Some ms → AreOf n wants ms
placed_are x held n [] [] e = tt
placed_are x held n [] (m ∷ ms) e = cc
placed_are x held n (w ∷ ws) ms e = by (place_of held (pages_of w.len) x.per_page x.bounce) (λ slot. placed_are x (held ++ record { start = slot; count = pages_of w.len } ∷ []) (n + 1) ws) e where
  by : (o : Option ℕ) → ((slot : ℕ) (rest : List Streaming) → placed_mappings x (held ++ record { start = slot; count = pages_of w.len } ∷ []) (n + 1) ws ≡ Some rest → AreOf (n + 1) ws rest)
      → placed_mapping w n o (λ slot. placed_mappings x (held ++ record { start = slot; count = pages_of w.len } ∷ []) (n + 1) ws) ≡ Some ms → AreOf n (w ∷ ws) ms
  by None more e = cc
  by (Some slot) more e =
      let p = in_front (record { number = n; slot = slot; want = w }) (placed_mappings x (held ++ record { start = slot; count = pages_of w.len } ∷ []) (n + 1) ws) ms e in
      subst (AreOf n (w ∷ ws)) (sym p.2) (refl, refl, more slot p.0 p.1)

-- of some wants and more, those at the front
front_of : (n : ℕ) (ws vs : List Want) (ms : List Streaming) → AreOf n (ws ++ vs) ms → AreOf n ws (take (length ws) ms)
front_of n [] vs ms are = tt
front_of n (w ∷ ws) vs [] are = are
front_of n (w ∷ ws) vs (m ∷ ms) are = (are.0, are.1, front_of (n + 1) ws vs ms are.2)

-- what is live after some maps
live_after : (ms : List Streaming) (acts : List Act) → live_mappings (map_acts ms ++ acts) ≡ live_mappings acts ++ ms
live_after [] acts = sym (append-nil (live_mappings acts))
live_after (m ∷ ms) acts =
    ap live_mappings (append_assoc (map_acts ms) (Driver (Mapped m) ∷ []) acts) ∙ live_after ms (Driver (Mapped m) ∷ acts) ∙ append_assoc (live_mappings acts) (m ∷ []) ms

numbered_more : (n : ℕ) (live : List Streaming) (m : Streaming) → AreNumbered n live → m.number ≡ n → AreNumbered (n + 1) (live ++ m ∷ [])
numbered_more n [] m are e = (omega (arith, e), tt)
numbered_more n (l ∷ live) m are e = (omega (arith, are.0), numbered_more n live m are.1 e)

found_at : (front ms : List Streaming) (m : Streaming) (n : ℕ) → AreNumbered n front → m.number ≡ n → find (λ l. l.number == n) (front ++ m ∷ ms) ≡ Some m
found_at [] ms m n are e = let yes : (m.number == n) ≡ true = grind (arith, nat_tests, e) in ap (λ b. cond b (Some m) (find (λ l. l.number == n) ms)) yes
found_at (l ∷ front) ms m n are e =
    let low : l.number < n = are.0 in
    let other : (l.number == n) ≡ false = grind (arith, nat_tests, low) in
    ap (λ b. cond b (Some l) (find (λ k. k.number == n) (front ++ m ∷ ms))) other ∙ found_at front ms m n are.1 e

parts_of : {S : Type 0} (stands : S → Setting → List Act → Type 0) (s : S) (x : Setting) (acts : List Act) (n : ℕ) (wants : List Want) (front ms more : List Streaming) (parts : List Part)
    → stands s x acts → live_mappings acts ≡ front ++ (ms ++ more) → AreNumbered n front → AreOf n wants ms → AreParts stands s n wants parts → parts ≡ map mapping_part ms
parts_of stands s x acts n [] front [] more [] holds live numbered of are = refl
parts_of stands s x acts n [] front (m ∷ ms) more parts holds live numbered of are = absurd of
parts_of stands s x acts n [] front [] more (p ∷ ps) holds live numbered of are = absurd are
parts_of stands s x acts n (w ∷ ws) front [] more parts holds live numbered of are = absurd of
parts_of stands s x acts n (w ∷ ws) front (m ∷ ms) more [] holds live numbered of are = absurd are
parts_of stands s x acts n (w ∷ ws) front (m ∷ ms) more (p ∷ ps) holds live numbered of are =
    let found : find (λ l. l.number == n) (live_mappings acts) ≡ Some m = ap (find (λ (l : Streaming). l.number == n)) live ∙ found_at front (ms ++ more) m n numbered of.0 in
    let at : p.at ≡ iova_of m = are.0.at x acts m holds found in
    let len : p.len ≡ m.want.len = are.0.len ∙ sym (ap (λ (v : Want). v.len) of.1) in
    let writable : p.writable ≡ is_from_device m.want.dir = are.0.writable ∙ sym (ap (λ (v : Want). is_from_device v.dir) of.1) in
    let rest = parts_of stands s x acts (n + 1) ws (front ++ m ∷ []) ms more ps holds (live ∙ sym (append_assoc front (m ∷ []) (ms ++ more))) (numbered_more n front m numbered of.0) of.2 are.1 in
    λ i. record { at = at i; len = len i; writable = writable i } ∷ rest i

-- the parts of wants that were mapped before others
pub mapped_parts : {S : Type 0} (stands : S → Setting → List Act → Type 0) (s : S) (x : Setting) (held : List Slots) (acts : List Act) (n : ℕ) (wants others : List Want) (ms : List Streaming) (parts : List Part)
    → stands s x (map_acts ms ++ acts) → AreNumbered n (live_mappings acts) → placed_mappings x held n (wants ++ others) ≡ Some ms → AreParts stands s n wants parts → parts ≡ map mapping_part (take (length wants) ms)
mapped_parts stands s x held acts n wants others ms parts holds numbered placed are =
    parts_of stands s x (map_acts ms ++ acts) n wants (live_mappings acts) (take (length wants) ms) (drop (length wants) ms) parts holds
    (live_after ms acts ∙ ap (λ all. live_mappings acts ++ all) (sym (take-append-drop (length wants) ms))) numbered (front_of n wants others ms (placed_are x held n (wants ++ others) ms placed)) are

pub parts_len : (buffer : ℕ) (a : AskedRequest) → length (part_wants buffer a) ≡ parts_count a
parts_len buffer a = by a.want where
  by : (want : Option Want) → length (part_wants buffer (record { kind = a.kind; sector = a.sector; want = want })) ≡ parts_count (record { kind = a.kind; sector = a.sector; want = want })
  by None = refl
  by (Some want) = refl

-- the parts of a request of which all was mapped
pub submitted_parts : {S : Type 0} (stands : S → Setting → List Act → Type 0) (filled mapped : S) (d : Draft) (first : ℕ) (parts : List Part)
    → Maps stands filled (wants_of d) (Ok first) mapped → AreParts stands mapped first (part_wants d.buffer (asked_in d.ask)) parts
    → (x : Setting) (acts : List Act) (ms : List Streaming) → stands filled x acts → AreThere acts (wants_of d) → AreNumbered (maps acts) (live_mappings acts)
    → placed_mappings x (taken_slots acts) (maps acts) (wants_of d) ≡ Some ms → parts ≡ map mapping_part (take (parts_count (asked_in d.ask)) ms)
submitted_parts stands filled mapped d first parts mapping are x acts ms holds there numbered placed =
    let at : first ≡ maps acts = (mapping.placed x acts holds).0 in
    subst (λ k. parts ≡ map mapping_part (take k ms)) (parts_len d.buffer (asked_in d.ask))
    (mapped_parts stands mapped x (taken_slots acts) acts (maps acts) (part_wants d.buffer (asked_in d.ask)) (table_wants d.indirect d.buffer (asked_in d.ask)) ms parts
    (mapping.mapped x acts ms holds there placed) numbered placed (subst (λ k. AreParts stands mapped k (part_wants d.buffer (asked_in d.ask)) parts) at are))

-- THE TABLE

-- buffers that are there stay there
lens_after : (ms : List Streaming) (acts : List Act) (k : ℕ) → buffer_len (map_acts ms ++ acts) k ≡ buffer_len acts k
lens_after [] acts k = refl
lens_after (m ∷ ms) acts k = ap (λ all. buffer_len all k) (append_assoc (map_acts ms) (Driver (Mapped m) ∷ []) acts) ∙ lens_after ms (Driver (Mapped m) ∷ acts) k

last_there : (acts : List Act) (ws : List Want) (w : Want) → AreThere acts (ws ++ w ∷ []) → has_range acts w.buffer w.offset w.len ≡ true
last_there acts [] w there = there.0
last_there acts (v ∷ ws) w there = last_there acts ws w there.1

-- the last mapping is of the last want
last_of : (n : ℕ) (ws : List Want) (w : Want) (ms : List Streaming) (last : Streaming) → AreOf n (ws ++ w ∷ []) ms → last_after (length ws) ms ≡ Some last → last.want ≡ w
last_of n [] w [] last are e = absurd are
last_of n [] w (m ∷ ms) last are e = let same : m ≡ last = cc in subst (λ (k : Streaming). k.want ≡ w) same are.1
last_of n (v ∷ ws) w [] last are e = absurd are
last_of n (v ∷ ws) w (m ∷ ms) last are e = last_of (n + 1) ws w ms last are.2 e

-- and it is found under the last number
last_found : (front : List Streaming) (n : ℕ) (ws : List Want) (w : Want) (ms : List Streaming) (last : Streaming) → AreNumbered n front → AreOf n (ws ++ w ∷ []) ms
    → last_after (length ws) ms ≡ Some last → find (λ m. m.number == n + length ws) (front ++ ms) ≡ Some last
last_found front n [] w [] last numbered are e = absurd are
last_found front n [] w (m ∷ ms) last numbered are e =
    let here : n + 0 ≡ n = omega arith in
    ap (λ k. find (λ (l : Streaming). l.number == k) (front ++ m ∷ ms)) here ∙ found_at front ms m n numbered are.0 ∙ e
last_found front n (v ∷ ws) w [] last numbered are e = absurd are
last_found front n (v ∷ ws) w (m ∷ ms) last numbered are e =
    let next : n + suc (length ws) ≡ n + 1 + length ws = omega arith in
    ap (λ k. find (λ (l : Streaming). l.number == k) (front ++ m ∷ ms)) next
    ∙ ap (find (λ (l : Streaming). l.number == n + 1 + length ws)) (sym (append_assoc front (m ∷ []) ms))
    ∙ last_found (front ++ m ∷ []) (n + 1) ws w ms last (numbered_more n front m numbered are.0) are.2 e

-- there are as many parts as wants
as_many : {S : Type 0} (stands : S → Setting → List Act → Type 0) (s : S) (n : ℕ) (wants : List Want) (parts : List Part) → AreParts stands s n wants parts → length parts ≡ length wants
as_many stands s n [] [] are = refl
as_many stands s n [] (p ∷ ps) are = absurd are
as_many stands s n (w ∷ ws) [] are = absurd are
as_many stands s n (w ∷ ws) (p ∷ ps) are = ap suc (as_many stands s (n + 1) ws ps are.1)

-- the table of a request of which all was mapped
pub submitted_table : {S : Type 0} (stands : S → Setting → List Act → Type 0) (filled mapped listed : S) (d : Draft) (first table : ℕ) (parts : List Part)
    → Maps stands filled (wants_of d) (Ok first) mapped → AreParts stands mapped first (part_wants d.buffer (asked_in d.ask)) parts → Lists stands mapped d (first + length parts) parts table listed
    → d.indirect ≡ true → (x : Setting) (acts : List Act) (ms : List Streaming) (last : Streaming) → stands filled x acts → AreThere acts (wants_of d) → AreNumbered (maps acts) (live_mappings acts)
    → placed_mappings x (taken_slots acts) (maps acts) (wants_of d) ≡ Some ms → last_after (parts_count (asked_in d.ask)) ms ≡ Some last
    → stands listed x (Driver (Synced_device last) ∷ Driver (Poked (d.buffer + 1) 0 (table_bytes 0 parts)) ∷ (map_acts ms ++ acts)) × (table ≡ iova_of last)
submitted_table stands filled mapped listed d first table parts mapping are lists tabled x acts ms last holds there numbered placed e =
    let a = asked_in d.ask in
    let ws = part_wants d.buffer a in
    let w : Want = record { buffer = d.buffer + 1; offset = 0; len = 16 * parts_count a; dir = To } in
    let all : wants_of d ≡ ws ++ w ∷ [] = ap (λ b. ws ++ table_wants b d.buffer a) tabled in
    let of = placed_are x (taken_slots acts) (maps acts) (ws ++ w ∷ []) ms (ap (placed_mappings x (taken_slots acts) (maps acts)) (sym all) ∙ placed) in
    let count = as_many stands mapped first ws parts are ∙ parts_len d.buffer a in
    let behind : last_after (length ws) ms ≡ Some last = ap (λ k. last_after k ms) (parts_len d.buffer a) ∙ e in
    let at : first ≡ maps acts = (mapping.placed x acts holds).0 in
    let number : first + length parts ≡ maps acts + length ws = (λ i. at i + as_many stands mapped first ws parts are i) in
    let found : find (λ (m : Streaming). m.number == first + length parts) (live_mappings (map_acts ms ++ acts)) ≡ Some last =
    (λ i. find (λ (m : Streaming). m.number == number i) (live_after ms acts i)) ∙ last_found (live_mappings acts) (maps acts) ws w ms last numbered of behind in
    let towards : is_to_device last.want.dir ≡ true = ap (λ (v : Want). is_to_device v.dir) (last_of (maps acts) ws w ms last of behind) in
    let room : has_range (map_acts ms ++ acts) (d.buffer + 1) 0 (16 * length parts) ≡ true =
    (λ i. option_map_or (λ size. nat_le (0 + 16 * count i) size) (lens_after ms acts (d.buffer + 1) i) false) ∙ last_there acts ws w (subst (AreThere acts) all there) in
    let done = lists.listed tabled x (map_acts ms ++ acts) last (mapping.mapped x acts ms holds there placed) room found towards in
    (done, lists.at tabled x _ last done found)
