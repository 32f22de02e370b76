-- A domain that stands for some acts, after one act more.
use Rattle.std.proofs.Common.{◌≡◌, ℕ, zero, suc, ◌+◌, ◌-◌, ◌*◌, ◌/◌, ◌%◌, ◌<◌, ◌≤◌, inl, inr, Bool, true, false, refl, subst, ap, sym, ◌∙◌, arith, Option, None, Some, min, nat_lt, ◌&&◌, ◌||◌, not, if◌then◌else◌, ◌==◌, List, [], ◌∷◌, ◌++◌, length, take, length-take, get_or-take, true≢false, map, filter}
use Rattle.std.specs.Prelude.{is_some, unwrap_or}
use Rattle.std.specs.List.{slice_index, slice_index_or, list_any}
use Rattle.std.specs.Option.{option_map, option_map_or}
use Rattle.std.proofs.lemmas.Bool.{eqb-true}
use Rattle.std.proofs.lemmas.Bool.Decides.{nat_tests, leb_tells}
use Rattle.vd_num.specs.Number.{is_within, pages_of}
use Rattle.vd_pool.specs.Memory.{PoolMemory, Grows, byte_of}
use Rattle.vd_bounce.specs.Frames.{frame_of}
use Rattle.vd_bounce.specs.Bounce as b
use Rattle.vd_bounce.specs.Bounce.{Bounce, Place, value, over, home_by, bounce_len, page_size, SameShape}
use Rattle.vd_iova.specs.Space.{Space, taken_of}
use Rattle.vd_model.specs.declared.memory.Origin.TheVariants.{Daemon}
use Rattle.vd_model.specs.Setting as model
use Rattle.vd_model.specs.Setting.{Setting}
use Rattle.vd_model.specs.Acts.{Act, Node, Driver, Streaming, Coherent, Daemon_put, Mapped, Unmapped, Synced_device, Region_made}
use Rattle.vd_model.specs.Live.{live_mappings, live_regions, region_covers, is_present, page_of, meets_page, maps_address, iova_of}
use Rattle.vd_model.specs.Puts.{Put, Iova, last_put, ram, bus_bytes, each_from, shown_put, text_at, driver_put, or_put, handed_put_if, zero_if, a_zero, ram_cell, is_to_device}
use Rattle.vd_model.specs.AreaTurns.{is_accessible, first_bus, first_failing}
use Rattle.vd_domain.specs.Reached.{is_reached, byte_at}
use Rattle.vd_domain.specs.Slots.{meets_slots}
use Rattle.vd_domain.specs.Held.{Held, IsFit, IsTaken, Holding, mapping_holds, region_holds, bounce_slots, has_slot, mapping_of}
use Rattle.vd_domain.specs.Stands.{Stands, last_byte}
use Rattle.vd_domain.specs.Handed.{IsOf}
use Rattle.vd_model.specs.Place.{place_of, taken_slots, meets, mapping_slots, region_slots}
use Rattle.vd_domain.proofs.Holdings.{taken_there, any_map, any_none, any_more, slots_of, meets_are, place_same}
use Rattle.vd_domain.proofs.Entries.{found_passes}
use Rattle.vd_domain.proofs.Failing.{first_failing_same, first_failing_none}
use Rattle.vd_domain.proofs.Reaches.{low_same, high_same, low_byte, high_byte}
use Rattle.std.proofs.Math.Nat.{mul-le-mul_left}
use Rattle.vd_domain.proofs.Present.{held_present, page_below, page_past, absent_zero}
use Rattle.vd_domain.proofs.Puttings.{or_byte, text_byte, driver_addressed, daemon_addressed, size_is, page_is_of, shown_put_low, shown_put_high, next_bytes, next_shared, next_area}

-- ---- lists by their places

pub list_each : (f : ℕ → ℕ) (xs : List ℕ) (from len : ℕ) → length xs ≡ len → ((i : ℕ) → i < len → slice_index xs i ≡ f (from + i)) → xs ≡ each_from f from len
list_each f [] from zero size same = refl
list_each f [] from (suc len) size same = absurd (omega arith)
list_each f (x ∷ xs) from zero size same = absurd (omega arith)
list_each f (x ∷ xs) from (suc len) size same =
    let first : x ≡ f (from + 0) = same 0 (omega arith) in
    let here : f (from + 0) ≡ f from = ap f (omega arith) in
    let rest : xs ≡ each_from f (from + 1) len = list_each f xs (from + 1) len (omega arith) (λ i below. same (suc i) (omega arith) ∙ ap f (let e : from + suc i ≡ from + 1 + i = omega arith in e)) in
    let head : x ≡ f from = first ∙ here in
    cc

each_at : (f : ℕ → ℕ) (from len j : ℕ) → j < len → slice_index (each_from f from len) j ≡ f (from + j)
each_at f from zero j below = absurd (omega arith)
each_at f from (suc len) zero below = ap f (let e : from ≡ from + 0 = omega arith in e)
each_at f from (suc len) (suc j) below = each_at f (from + 1) len j (omega arith) ∙ ap f (let e : from + 1 + j ≡ from + suc j = omega arith in e)

-- ---- a pool that has more frames

pub grown_value : (c : Bounce) (m n : PoolMemory) → Grows m n → (p : Place) → value c n p ≡ value c m p
grown_value c m n g (b.Iova a) = by (frame_of c.frames (a / page_size c)) where
  by : (o : Option ℕ) → option_map_or (λ f. byte_of n f (a % page_size c)) o 0 ≡ option_map_or (λ f. byte_of m f (a % page_size c)) o 0
  by None = refl
  by (Some f) = g.bytes f (a % page_size c)
grown_value c m n g (b.Area o) = refl

pub grown_stands : (x : Setting) (acts : List Act) (h : Held) (m n : PoolMemory) → Grows m n → Stands x acts h m → Stands x acts h n
grown_stands x acts h m n g s = record {
  bounce = s.bounce;
  iova = s.iova;
  per_page = s.per_page;
  live = s.live;
  maps = s.maps;
  regions = s.regions;
  made = s.made;
  is_shown = s.is_shown;
  area = s.area;
  registered = s.registered;
  present = s.present;
  bytes = λ a none below seen. grown_value h.bounce m n g (b.Iova a) ∙ s.bytes a none below seen;
  area_bytes = λ o below. s.area_bytes o below;
  shared = s.shared;
}

-- ---- bytes that are put from an address on

over_home : (u : Option ℕ) (at a : ℕ) (text : List ℕ) (old : ℕ) → over (home_by u at) text (home_by u a) old ≡ (if is_within at (length text) a then slice_index text (a - at) else old)
over_home None at a text old = refl
over_home (Some u) at a text old =
    let test : is_within (u + at) (length text) (u + a) ≡ is_within at (length text) a = shifted u at (length text) a in
    let far : u + a - (u + at) ≡ a - at = omega arith in
    ap (λ t. if t then slice_index text (u + a - (u + at)) else old) test ∙ ap (λ k. if is_within at (length text) a then slice_index text k else old) far where
      shifted : (u at n a : ℕ) → is_within (u + at) n (u + a) ≡ is_within at n a
      shifted u at n a = grind (arith, nat_tests)

-- the area outside of the registered range
over_outside : (u at size o : ℕ) (text : List ℕ) (old : ℕ) → (0 < length text → at + length text ≤ size) → is_within u size o ≡ false → over (b.Area (u + at)) text (b.Area o) old ≡ old
over_outside u at size o text old fits off = ap (λ t. if t then slice_index text (o - (u + at)) else old) (by (is_within (u + at) (length text) o) refl) where
  by : (t : Bool) → is_within (u + at) (length text) o ≡ t → t ≡ false
  by false e = refl
  by true e =
      let low : u + at ≤ o = grind (arith, nat_tests) in
      let high : o < u + at + length text = grind (arith, nat_tests) in
      let room = fits (omega arith) in
      let inside : is_within u size o ≡ true = (let l : u ≤ o = omega arith in let r : o < u + size = omega arith in grind (arith, nat_tests)) in
      absurd (true≢false (sym inside ∙ off))

-- the part of a text below the end
cut : (bytes : List ℕ) (at size a old : ℕ) → a < size
    → (if is_within at (length (take (min (length bytes) (size - at)) bytes)) a then slice_index (take (min (length bytes) (size - at)) bytes) (a - at) else old)
    ≡ (if is_within at (length bytes) a then slice_index bytes (a - at) else old)
cut bytes at size a old below = rw long (by (min (length bytes) (size - at)) refl (is_within at (length bytes) a) refl) where
  long : length (take (min (length bytes) (size - at)) bytes) ≡ min (length bytes) (size - at)
  long = simp length-take (omega arith)

  by : (k : ℕ) → k ≡ min (length bytes) (size - at) → (t : Bool) → is_within at (length bytes) a ≡ t
      → (if is_within at k a then slice_index (take k bytes) (a - at) else old) ≡ (if t then slice_index bytes (a - at) else old)
  by k is true e =
      let low : at ≤ a = grind (arith, nat_tests) in
      let high : a < at + length bytes = grind (arith, nat_tests) in
      let near : a < at + k = omega arith in
      let test : is_within at k a ≡ true = grind (arith, nat_tests) in
      ap (λ t. if t then slice_index (take k bytes) (a - at) else old) test ∙ get_or-take k bytes (a - at) 0 (omega arith)
  by k is false e =
      let less : k ≤ length bytes = omega arith in
      let test : is_within at k a ≡ false = grind (arith, nat_tests) in
      ap (λ t. if t then slice_index (take k bytes) (a - at) else old) test

cut_fits : (bytes : List ℕ) (at size : ℕ) → 0 < length (take (min (length bytes) (size - at)) bytes) → at + length (take (min (length bytes) (size - at)) bytes) ≤ size
cut_fits bytes at size any =
    let long : length (take (min (length bytes) (size - at)) bytes) ≡ min (length bytes) (size - at) = simp length-take (omega arith) in
    omega arith

area_long : (c d : Bounce) → SameShape c d → length (unwrap_or d.area []) ≡ length (unwrap_or c.area [])
area_long c d same = len_at d.area ∙ ap (λ o. unwrap_or o 0) same.area ∙ sym (len_at c.area) where
  len_at : (o : Option (List ℕ)) → length (unwrap_or o []) ≡ unwrap_or (option_map length o) 0
  len_at None = refl
  len_at (Some xs) = refl

slots_same : (c d : Bounce) → SameShape c d → d.per_page * length d.frames ≡ c.per_page * length c.frames
slots_same c d same = ap (λ g. g * length d.frames) same.size ∙ ap (λ n. c.per_page * n) same.pages

module _ (x : Setting) (acts : List Act) (h : Held) (m : PoolMemory) (s : Stands x acts h m) (low high : Space) (uses : List ℕ) (fit : IsFit h low high uses) where
  size_pos : 0 < page_size h.bounce
  size_pos = let some = fit.some in omega arith

  -- ---- what can be accessed

  pub covers_slot : (a : ℕ) → list_any (λ r. region_covers r a) h.regions ≡ list_any (λ (k : Holding). is_within k.slot k.count (a / 4096)) (map region_holds h.regions)
  covers_slot a = sym (any_map region_holds (λ (k : Holding). is_within k.slot k.count (a / 4096)) (λ r. region_covers r a) (λ r. refl) h.regions)

  pub none_low : (a : ℕ) → a < bounce_len h.bounce → list_any (λ r. region_covers r a) (live_regions acts) ≡ false
  none_low a below =
      ap (λ rs. list_any (λ r. region_covers r a) rs) (sym s.regions) ∙ covers_slot a
      ∙ any_none (λ (k : Holding). is_within k.slot k.count (a / 4096)) (map region_holds h.regions) (λ k d inside. off (slice_index_or (map region_holds h.regions) k d) (fit.regions.each k d inside)) where
        off : (k : Holding) → IsTaken high h.made k → is_within k.slot k.count (a / 4096) ≡ false
        off k t =
            let first = t.low in
            let at = fit.high_first in
            let slots : 4096 * (h.bounce.per_page * length h.bounce.frames) ≡ 4096 * h.bounce.per_page * length h.bounce.frames = omega arith in
            let under : a / 4096 < k.slot = omega arith in
            grind (arith, nat_tests)

  pub high_covers : (a : ℕ) → bounce_len h.bounce ≤ a → b.is_page_present h.shared ((a - bounce_len h.bounce) / page_size h.shared) ≡ list_any (λ r. region_covers r a) (live_regions acts)
  high_covers a above =
      ap (λ g. b.is_page_present h.shared ((a - bounce_len h.bounce) / (4096 * g))) fit.slots
      ∙ fit.shown ((a - bounce_len h.bounce) / 4096)
      ∙ ap (λ k. list_any (has_slot k) h.regions) slot ∙ ap (λ rs. list_any (λ r. region_covers r a) rs) s.regions where
        shift : (n a : ℕ) → 4096 * n ≤ a → n + (a - 4096 * n) / 4096 ≡ a / 4096
        shift n a le = omega arith

        size : 4096 * h.bounce.per_page * length h.bounce.frames ≡ 4096 * bounce_slots h
        size = omega arith

        slot : bounce_slots h + (a - bounce_len h.bounce) / 4096 ≡ a / 4096
        slot = ap (λ n. bounce_slots h + (a - n) / 4096) size ∙ shift (bounce_slots h) a (omega arith)

  low_present : (a : ℕ) → a < bounce_len h.bounce → b.is_page_present h.bounce (a / page_size h.bounce) ≡ is_present x.per_page acts (page_of x.per_page a)
  low_present a below = s.present (a / page_size h.bounce) (page_below (page_size h.bounce) (length h.bounce.frames) a size_pos below) ∙ ap (λ p. is_present x.per_page acts p) (sym (page_is_of x acts h m s a))

  pub reach_is : (a : ℕ) → is_reached h.bounce h.shared a ≡ is_accessible x acts a
  reach_is a = elim (leb_tells (bounce_len h.bounce) a) [
    | inr below ↦ low_reach below.1
    | inl above ↦ high_reach above.1
  ] where
    size : model.bounce_size x ≡ bounce_len h.bounce
    size = size_is x acts h m s

    or_false : (t : Bool) → (t || false) ≡ t
    or_false true = refl
    or_false false = refl

    low_reach : a < bounce_len h.bounce → is_reached h.bounce h.shared a ≡ is_accessible x acts a
    low_reach below =
        let test : nat_lt a (model.bounce_size x) ≡ true = (let same = size in grind (arith, nat_tests)) in
        low_same h.bounce h.shared a below ∙ low_present a below ∙ sym (or_false (is_present x.per_page acts (page_of x.per_page a)))
        ∙ ap (λ t. is_present x.per_page acts (page_of x.per_page a) || t) (sym (none_low a below))
        ∙ ap (λ t. (t && is_present x.per_page acts (page_of x.per_page a)) || list_any (λ r. region_covers r a) (live_regions acts)) (sym test)

    high_reach : bounce_len h.bounce ≤ a → is_reached h.bounce h.shared a ≡ is_accessible x acts a
    high_reach above =
        let test : nat_lt a (model.bounce_size x) ≡ false = (let same = size in grind (arith, nat_tests)) in
        high_same h.bounce h.shared a above ∙ high_covers a above
        ∙ ap (λ t. (t && is_present x.per_page acts (page_of x.per_page a)) || list_any (λ r. region_covers r a) (live_regions acts)) (sym test)

  pub bus_is : (at len : ℕ) → first_failing (is_reached h.bounce h.shared) at len ≡ first_bus x acts at len
  bus_is at len = first_failing_same (is_reached h.bounce h.shared) (is_accessible x acts) at len (λ a low high. reach_is a)

  -- what a daemon sees at an address that can be accessed
  pub byte_is : (a : ℕ) → is_reached h.bounce h.shared a ≡ true → byte_at h.bounce m h.shared h.store a ≡ (shown_put x.per_page acts a).byte
  byte_is a reach = elim (leb_tells (bounce_len h.bounce) a) [
    | inr below ↦
        (low_byte h.bounce m h.shared h.store a below.1
        ∙ shown_put_low x acts h m s a below.1 (sym (low_same h.bounce h.shared a below.1 ∙ low_present a below.1) ∙ reach) fit.room)
    | inl above ↦
        (high_byte h.bounce m h.shared h.store a above.1 ∙ ap (λ u. value h.shared h.store (home_by u (a - bounce_len h.bounce))) fit.plain
        ∙ shown_put_high x acts h m s a above.1 (sym (high_same h.bounce h.shared a above.1 ∙ high_covers a above.1) ∙ reach))
  ]

  pub loaded : (at len : ℕ) (out : List ℕ) → length out ≡ len → first_failing (is_reached h.bounce h.shared) at len ≡ None
      → ((i : ℕ) → i < len → slice_index out i ≡ byte_at h.bounce m h.shared h.store (at + i)) → out ≡ bus_bytes x.per_page acts at len
  loaded at len out long none bytes = list_each (λ a. (shown_put x.per_page acts a).byte) out at len long
      (λ i below. bytes i below ∙ byte_is (at + i) (first_failing_none (is_reached h.bounce h.shared) at len none (at + i) (omega arith) (omega arith)))

  -- the bytes of bounce memory that a mapping brings back
  pub fetched : (at len : ℕ) (out : List ℕ) → length out ≡ len → ((a : ℕ) → at ≤ a → a < at + len → (a < bounce_len h.bounce) × (b.is_page_present h.bounce (a / page_size h.bounce) ≡ true))
      → ((i : ℕ) → i < len → slice_index out i ≡ value h.bounce m (b.home_place h.bounce (at + i))) → out ≡ bus_bytes x.per_page acts at len
  fetched at len out long there bytes = list_each (λ a. (shown_put x.per_page acts a).byte) out at len long
      (λ i below. let k = there (at + i) (omega arith) (omega arith) in
      bytes i below ∙ shown_put_low x acts h m s (at + i) k.0 (sym (low_present (at + i) k.0) ∙ k.1) fit.room)

  -- ---- places

  -- the slots that are taken, by the space and by the acts
  pub meets_same : (n k : ℕ) → x.per_page ≤ k → k + n ≤ x.bounce → list_any (meets k n) (taken_of low) ≡ list_any (meets k n) (taken_slots acts)
  meets_same n = agree where
    region_off : (k : ℕ) → k + n ≤ x.bounce → list_any (meets k n) (map region_slots (live_regions acts)) ≡ false
    region_off k top =
        ap (λ (rs : List Coherent). list_any (meets k n) (map region_slots rs)) (sym s.regions)
        ∙ any_map region_slots (meets k n) (λ r. meets k n (region_slots r)) (λ r. refl) h.regions
        ∙ sym (any_map region_holds (λ (g : Holding). meets k n (slots_of g)) (λ r. meets k n (region_slots r)) (λ r. refl) h.regions)
        ∙ any_none (λ (g : Holding). meets k n (slots_of g)) (map region_holds h.regions) (λ i d below. off (slice_index_or (map region_holds h.regions) i d) (fit.regions.each i d below)) where
          off : (g : Holding) → IsTaken high h.made g → meets k n (slots_of g) ≡ false
          off g t =
              let first = t.low in
              let at = fit.high_first in
              let bounce = s.bounce in
              let under : k + n ≤ g.slot = omega arith in
              two (nat_lt k (g.slot + g.count)) g.slot (k + n) under where
                two : (b : Bool) (i j : ℕ) → j ≤ i → (b && nat_lt i j) ≡ false
                two true i j le = grind (arith, nat_tests)
                two false i j le = refl

    or_false : (t : Bool) → (t || false) ≡ t
    or_false true = refl
    or_false false = refl

    agree : (k : ℕ) → x.per_page ≤ k → k + n ≤ x.bounce → list_any (meets k n) (taken_of low) ≡ list_any (meets k n) (taken_slots acts)
    agree k above top =
        meets_are low h.maps (map mapping_holds h.live) fit.maps k n
        ∙ any_map mapping_holds (λ (g : Holding). meets k n (slots_of g)) (λ m. meets k n (mapping_slots m)) (λ m. refl) h.live
        ∙ ap (λ (l : List Streaming). list_any (λ m. meets k n (mapping_slots m)) l) s.live
        ∙ sym (any_map mapping_slots (meets k n) (λ m. meets k n (mapping_slots m)) (λ m. refl) (live_mappings acts))
        ∙ sym (or_false (list_any (meets k n) (map mapping_slots (live_mappings acts))))
        ∙ ap (λ t. list_any (meets k n) (map mapping_slots (live_mappings acts)) || t) (sym (region_off k top))
        ∙ sym (any_more (meets k n) (map mapping_slots (live_mappings acts)) (map region_slots (live_regions acts)))

  pub low_place : (n : ℕ) → place_of (taken_of low) n low.first low.«end» ≡ place_of (taken_slots acts) n x.per_page x.bounce
  low_place n =
      ap (λ k. place_of (taken_of low) n k low.«end») (fit.low_first ∙ sym s.per_page)
      ∙ ap (λ k. place_of (taken_of low) n x.per_page k) (fit.low_end ∙ sym s.bounce)
      ∙ place_same (taken_of low) (taken_slots acts) n x.per_page x.bounce (meets_same n)

  -- ---- a daemon's write

  pub stored : (at : ℕ) (bytes : List ℕ) (c d : Bounce) (store n : PoolMemory) → SameShape h.bounce c → SameShape h.shared d
      → ((p : ℕ) → b.is_page_present c p ≡ b.is_page_present h.bounce p)
      → ((p : Place) → value c n p ≡ over (b.home_place h.bounce at) (take (min (length bytes) (bounce_len h.bounce - at)) bytes) p (value h.bounce m p))
      → ((k : ℕ) → value d store (b.Iova k) ≡ (if is_within at (length bytes) (bounce_len h.bounce + k) then slice_index bytes (bounce_len h.bounce + k - at) else value h.shared h.store (b.Iova k)))
      → Stands x (Node (Daemon_put at bytes) ∷ acts) (record h { bounce = c; shared = d; store = store }) n
  stored at bytes c d store n same shared present low_values high_values = record {
    bounce = s.bounce ∙ sym (slots_same h.bounce c same);
    iova = s.iova ∙ ap (λ k. k + length h.shared.frames) (sym (slots_same h.bounce c same)) ∙ ap (λ k. c.per_page * length c.frames + k) (sym shared.pages);
    per_page = s.per_page ∙ sym same.size;
    live = s.live;
    maps = s.maps;
    regions = s.regions;
    made = s.made;
    is_shown = s.is_shown;
    area = same.area ∙ s.area;
    registered = s.registered ∙ ap (λ o. option_map (λ u. record { base = u; size = model.bounce_size x }) o) (sym same.user);
    present = λ p below. present p ∙ s.present p (subst (λ k. p < k) same.pages below);
    bytes = λ a none below seen. next_bytes x acts h m s (Node (Daemon_put at bytes)) (daemon_addressed x.per_page acts at bytes) (record h { bounce = c; shared = d; store = store }) n
        (λ a below seen none. low_values (b.Iova a) ∙ ap (λ u. over (home_by u at) (take (min (length bytes) (bounce_len h.bounce - at)) bytes) (b.Iova a) (value h.bounce m (b.Iova a))) none
        ∙ cut bytes at (bounce_len h.bounce) a (value h.bounce m (b.Iova a)) below ∙ text_byte bytes at a (value h.bounce m (b.Iova a)) Daemon
        ∙ ap (λ v. or_byte (text_at bytes at a Daemon) v) (s.bytes a none (subst (λ k. a < k) (sym (size_is x acts h m s)) below) seen))
        (sym same.user ∙ none) a below seen;
    area_bytes = next_area x acts h m s (Node (Daemon_put at bytes)) (daemon_addressed x.per_page acts at bytes) (record h { bounce = c; shared = d; store = store }) n (length (unwrap_or c.area []))
        (λ o below none. low_values (b.Area o) ∙ ap (λ u. over (home_by u at) (take (min (length bytes) (bounce_len h.bounce - at)) bytes) (b.Area o) (value h.bounce m (b.Area o))) none)
        (λ u o below some off. low_values (b.Area o) ∙ ap (λ u. over (home_by u at) (take (min (length bytes) (bounce_len h.bounce - at)) bytes) (b.Area o) (value h.bounce m (b.Area o))) some
        ∙ over_outside u at (bounce_len h.bounce) o (take (min (length bytes) (bounce_len h.bounce - at)) bytes) (value h.bounce m (b.Area o)) (cut_fits bytes at (bounce_len h.bounce)) off)
        (λ u a below some. low_values (b.Area (u + a)) ∙ ap (λ w. over (home_by w at) (take (min (length bytes) (bounce_len h.bounce - at)) bytes) (b.Area (u + a)) (value h.bounce m (b.Area (u + a)))) some
        ∙ over_home (Some u) at a (take (min (length bytes) (bounce_len h.bounce - at)) bytes) (value h.bounce m (b.Area (u + a)))
        ∙ cut bytes at (bounce_len h.bounce) a (value h.bounce m (b.Area (u + a))) below ∙ text_byte bytes at a (value h.bounce m (b.Area (u + a))) Daemon)
        (let long = area_long h.bounce c same in omega arith);
    shared = next_shared x acts h m s (Node (Daemon_put at bytes)) (daemon_addressed x.per_page acts at bytes) (record h { bounce = c; shared = d; store = store }) n
        (λ a above covered. high_values (a - bounce_len h.bounce)
        ∙ ap (λ k. if is_within at (length bytes) k then slice_index bytes (k - at) else value h.shared h.store (b.Iova (a - bounce_len h.bounce))) (let back : bounce_len h.bounce + (a - bounce_len h.bounce) ≡ a = omega arith in back)
        ∙ text_byte bytes at a (value h.shared h.store (b.Iova (a - bounce_len h.bounce))) Daemon
        ∙ ap (λ v. or_byte (text_at bytes at a Daemon) v) (ap (λ k. value h.shared h.store (b.Iova (a - k))) (sym (size_is x acts h m s)) ∙ s.shared a (subst (λ k. k ≤ a) (sym (size_is x acts h m s)) above) covered));
  }

  -- ---- an unmap

  pub unmapped : (a : ℕ) (mp : Streaming) → mapping_of h a ≡ Some mp → Stands x (Driver (Unmapped mp) ∷ acts) (record h { live = filter (λ (k : Streaming). not (k.number == a)) h.live }) m
  unmapped a mp e = record {
    bounce = s.bounce;
    iova = s.iova;
    per_page = s.per_page;
    live = ap (λ n. filter (λ (k : Streaming). not (k.number == n)) h.live) (sym number) ∙ ap (λ l. filter (λ (k : Streaming). not (k.number == mp.number)) l) s.live;
    maps = s.maps;
    regions = s.regions;
    made = s.made;
    is_shown = s.is_shown;
    area = s.area;
    registered = s.registered;
    present = s.present;
    bytes = λ a none below seen. next_bytes x acts h m s (Driver (Unmapped mp)) (driver_addressed x.per_page acts (Unmapped mp)) h m
        (λ a below seen none. s.bytes a none (subst (λ k. a < k) (sym (size_is x acts h m s)) below) seen) none a below seen;
    area_bytes = next_area x acts h m s (Driver (Unmapped mp)) (driver_addressed x.per_page acts (Unmapped mp)) h m (length (unwrap_or h.bounce.area []))
        (λ o below none. refl) (λ u o below some off. refl) (λ u a below some. refl) (omega arith);
    shared = next_shared x acts h m s (Driver (Unmapped mp)) (driver_addressed x.per_page acts (Unmapped mp)) h m
        (λ a above covered. ap (λ k. value h.shared h.store (b.Iova (a - k))) (sym (size_is x acts h m s)) ∙ s.shared a (subst (λ k. k ≤ a) (sym (size_is x acts h m s)) above) covered);
  } where
    number : mp.number ≡ a
    number = eqb-true mp.number a (found_passes (λ (k : Streaming). k.number == a) h.live mp e)

  -- ---- a region that is made

  pub high_place : (n : ℕ) → place_of (taken_of high) n high.first high.«end» ≡ place_of (taken_slots acts) n x.bounce x.iova
  high_place n =
      ap (λ k. place_of (taken_of high) n k high.«end») (fit.high_first ∙ sym s.bounce)
      ∙ ap (λ k. place_of (taken_of high) n x.bounce k) (fit.high_end ∙ sym s.iova)
      ∙ place_same (taken_of high) (taken_slots acts) n x.bounce x.iova agree where
        map_off : (k : ℕ) → x.bounce ≤ k → list_any (meets k n) (map mapping_slots (live_mappings acts)) ≡ false
        map_off k base =
            ap (λ (l : List Streaming). list_any (meets k n) (map mapping_slots l)) (sym s.live)
            ∙ any_map mapping_slots (meets k n) (λ m. meets k n (mapping_slots m)) (λ m. refl) h.live
            ∙ sym (any_map mapping_holds (λ (g : Holding). meets k n (slots_of g)) (λ m. meets k n (mapping_slots m)) (λ m. refl) h.live)
            ∙ any_none (λ (g : Holding). meets k n (slots_of g)) (map mapping_holds h.live) (λ i d below. off (slice_index_or (map mapping_holds h.live) i d) (fit.maps.each i d below)) where
              off : (g : Holding) → IsTaken low h.maps g → meets k n (slots_of g) ≡ false
              off g t =
                  let top = t.high in
                  let at = fit.low_end in
                  let bounce = s.bounce in
                  let under : g.slot + g.count ≤ k = omega arith in
                  two k (g.slot + g.count) (nat_lt g.slot (k + n)) under where
                    two : (i j : ℕ) (b : Bool) → j ≤ i → (nat_lt i j && b) ≡ false
                    two i j b le = let no : nat_lt i j ≡ false = grind (arith, nat_tests) in ap (λ t. t && b) no

        agree : (k : ℕ) → x.bounce ≤ k → k + n ≤ x.iova → list_any (meets k n) (taken_of high) ≡ list_any (meets k n) (taken_slots acts)
        agree k above top =
            meets_are high h.made (map region_holds h.regions) fit.regions k n
            ∙ any_map region_holds (λ (g : Holding). meets k n (slots_of g)) (λ r. meets k n (region_slots r)) (λ r. refl) h.regions
            ∙ ap (λ (l : List Coherent). list_any (λ r. meets k n (region_slots r)) l) s.regions
            ∙ sym (any_map region_slots (meets k n) (λ r. meets k n (region_slots r)) (λ r. refl) (live_regions acts))
            ∙ ap (λ t. t || list_any (meets k n) (map region_slots (live_regions acts))) (sym (map_off k above))
            ∙ sym (any_more (meets k n) (map mapping_slots (live_mappings acts)) (map region_slots (live_regions acts)))

  pub gained : (r : Coherent) (d : Bounce) (store : PoolMemory) → r.number ≡ h.made → bounce_slots h ≤ r.slot → SameShape h.shared d
      → ((p : Place) → value d store p ≡ value h.shared h.store p) → list_any (meets r.slot (pages_of r.len)) (taken_of high) ≡ false
      → Stands x (Driver (Region_made r) ∷ acts) (record h { shared = d; store = store; regions = h.regions ++ r ∷ []; made = h.made + 1 }) m
  gained r d store number base same values clear = record {
    bounce = s.bounce;
    iova = s.iova ∙ ap (λ n. bounce_slots h + n) (sym same.pages);
    per_page = s.per_page;
    live = s.live;
    maps = s.maps;
    regions = ap (λ l. l ++ r ∷ []) s.regions;
    made = ap (λ n. n + 1) s.made;
    is_shown = s.is_shown;
    area = s.area;
    registered = s.registered;
    present = s.present;
    bytes = λ a none below seen. next_bytes x acts h m s (Driver (Region_made r)) (driver_addressed x.per_page acts (Region_made r)) h m
        (λ a below seen none. s.bytes a none (subst (λ k. a < k) (sym (size_is x acts h m s)) below) seen ∙ sym (ap (λ t. or_byte (zero_if t) (last_byte x acts (Iova a))) (off_low a below))) none a below seen;
    area_bytes = next_area x acts h m s (Driver (Region_made r)) (driver_addressed x.per_page acts (Region_made r)) h m (length (unwrap_or h.bounce.area []))
        (λ o below none. refl) (λ u o below some off. refl)
        (λ u a below some. sym (ap (λ t. or_byte (zero_if t) (value h.bounce m (b.Area (u + a)))) (off_low a below))) (omega arith);
    shared = next_shared x acts h m s (Driver (Region_made r)) (driver_addressed x.per_page acts (Region_made r)) (record h { shared = d; store = store }) m high_part;
  } where
    size : 4096 * h.bounce.per_page * length h.bounce.frames ≡ 4096 * bounce_slots h
    size = omega arith

    off_low : (a : ℕ) → a < bounce_len h.bounce → region_covers r a ≡ false
    off_low a below =
        let even = size in
        let le = base in
        let under : a / 4096 < r.slot = omega arith in
        grind (arith, nat_tests)

    -- the region has no slot of another one
    alone : (a : ℕ) → region_covers r a ≡ true → list_any (λ r. region_covers r a) (live_regions acts) ≡ false
    alone a t =
        ap (λ rs. list_any (λ r. region_covers r a) rs) (sym s.regions) ∙ covers_slot a
        ∙ any_none (λ (k : Holding). is_within k.slot k.count (a / 4096)) (map region_holds h.regions) (λ i e below. off (slice_index_or (map region_holds h.regions) i e) (fit.regions.each i e below)) where
          off : (k : Holding) → IsTaken high h.made k → is_within k.slot k.count (a / 4096) ≡ false
          off k held = by (is_within k.slot k.count (a / 4096)) refl where
            both : (slot n at from count : ℕ) → is_within slot n at ≡ true → is_within from count at ≡ true → (nat_lt slot (from + count) && nat_lt from (slot + n)) ≡ true
            both slot n at from count p q = grind (arith, nat_tests)

            by : (u : Bool) → is_within k.slot k.count (a / 4096) ≡ u → u ≡ false
            by false e = refl
            by true e =
                let hit : meets r.slot (pages_of r.len) (slots_of k) ≡ true = both r.slot (pages_of r.len) (a / 4096) k.slot k.count t e in
                absurd (true≢false (sym (taken_there high h.made k (meets r.slot (pages_of r.len)) held hit) ∙ clear))

    high_part : (a : ℕ) → bounce_len h.bounce ≤ a → list_any (λ r. region_covers r a) (live_regions acts ++ r ∷ []) ≡ true
        → value d store (b.Iova (a - bounce_len h.bounce)) ≡ or_byte (zero_if (region_covers r a)) (last_byte x acts (Iova a))
    high_part a above covered = values (b.Iova (a - bounce_len h.bounce)) ∙ by (region_covers r a) refl where
      or_false : (t : Bool) → (t || (false || false)) ≡ t
      or_false true = refl
      or_false false = refl

      by : (t : Bool) → region_covers r a ≡ t → value h.shared h.store (b.Iova (a - bounce_len h.bounce)) ≡ or_byte (zero_if t) (last_byte x acts (Iova a))
      by true t = absent_zero h.shared h.store (a - bounce_len h.bounce) fit.plain (high_covers a above ∙ alone a t)
      by false t =
          let old : list_any (λ r. region_covers r a) (live_regions acts) ≡ true =
          sym (or_false (list_any (λ r. region_covers r a) (live_regions acts))) ∙ sym (ap (λ t. list_any (λ r. region_covers r a) (live_regions acts) || (t || false)) t)
          ∙ sym (any_more (λ r. region_covers r a) (live_regions acts) (r ∷ [])) ∙ covered in
          ap (λ k. value h.shared h.store (b.Iova (a - k))) (sym (size_is x acts h m s)) ∙ s.shared a (subst (λ k. k ≤ a) (sym (size_is x acts h m s)) above) old

  -- ---- a map

  module _ (mp : Streaming) (text : List ℕ) (is : IsOf x.per_page acts mp.want text) (long : length text ≡ mp.want.len) (inside : mp.slot + pages_of mp.want.len ≤ bounce_slots h) where
    -- the text ends below the end of bounce memory
    text_fits : iova_of mp + mp.want.len ≤ bounce_len h.bounce
    text_fits =
        let enough : mp.want.len ≤ 4096 * pages_of mp.want.len = omega arith in
        let size : 4096 * h.bounce.per_page * length h.bounce.frames ≡ 4096 * bounce_slots h = omega arith in
        omega arith

    handed_byte : (a : ℕ) → is_within (iova_of mp) mp.want.len a ≡ true → slice_index text (a - iova_of mp) ≡ (last_put x.per_page acts (ram_cell mp a)).byte
    handed_byte a t =
        let low : iova_of mp ≤ a = grind (arith, nat_tests, t) in
        let high : a < iova_of mp + mp.want.len = grind (arith, nat_tests, t) in
        ap (λ (xs : List ℕ). slice_index xs (a - iova_of mp)) is ∙ each_at (λ i. ram x.per_page acts mp.want.buffer i) mp.want.offset mp.want.len (a - iova_of mp) (omega arith)

    -- what a map puts at an address that held `old`, which is zero where its page wasn't present
    put_is : (a old : ℕ) → ((meets_page x.per_page (page_of x.per_page a) mp && not (is_present x.per_page acts (page_of x.per_page a))) ≡ true → old ≡ 0)
        → (if is_to_device mp.want.dir then (if is_within (iova_of mp) (length text) a then slice_index text (a - iova_of mp) else old) else old)
        ≡ or_byte (driver_put x.per_page (last_put x.per_page acts) acts (Mapped mp) a) old
    put_is a old fresh = ap (λ n. if is_to_device mp.want.dir then (if is_within (iova_of mp) n a then slice_index text (a - iova_of mp) else old) else old) long
        ∙ joined (is_to_device mp.want.dir) (is_within (iova_of mp) mp.want.len a)
        ∙ by (is_to_device mp.want.dir && is_within (iova_of mp) mp.want.len a) refl where
          joined : (t u : Bool) → (if t then (if u then slice_index text (a - iova_of mp) else old) else old) ≡ (if t && u then slice_index text (a - iova_of mp) else old)
          joined true u = refl
          joined false u = refl

          zero_part : (z : Bool) → (z ≡ true → old ≡ 0) → old ≡ or_byte (zero_if z) old
          zero_part true f = f refl
          zero_part false f = refl

          right : (t u : Bool) → (t && u) ≡ true → u ≡ true
          right true u e = e
          right false u e = absurd (true≢false (sym e))

          by : (t : Bool) → (is_to_device mp.want.dir && is_within (iova_of mp) mp.want.len a) ≡ t
              → (if t then slice_index text (a - iova_of mp) else old)
              ≡ or_byte (or_put (handed_put_if t (last_put x.per_page acts) mp a) (zero_if (meets_page x.per_page (page_of x.per_page a) mp && not (is_present x.per_page acts (page_of x.per_page a))))) old
          by true e = handed_byte a (right (is_to_device mp.want.dir) (is_within (iova_of mp) mp.want.len a) e)
          by false e = zero_part (meets_page x.per_page (page_of x.per_page a) mp && not (is_present x.per_page acts (page_of x.per_page a))) fresh

    -- the byte before doesn't matter in a page that was not present
    fresh_put : (a v w : ℕ) → (meets_page x.per_page (page_of x.per_page a) mp && not (is_present x.per_page acts (page_of x.per_page a))) ≡ true
        → or_byte (driver_put x.per_page (last_put x.per_page acts) acts (Mapped mp) a) v ≡ or_byte (driver_put x.per_page (last_put x.per_page acts) acts (Mapped mp) a) w
    fresh_put a v w e =
        ap (λ z. or_byte (or_put (handed_put_if (is_to_device mp.want.dir && maps_address mp a) (last_put x.per_page acts) mp a) (zero_if z)) v) e
        ∙ by (handed_put_if (is_to_device mp.want.dir && maps_address mp a) (last_put x.per_page acts) mp a)
        ∙ sym (ap (λ z. or_byte (or_put (handed_put_if (is_to_device mp.want.dir && maps_address mp a) (last_put x.per_page acts) mp a) (zero_if z)) w) e) where
          by : (o : Option Put) → or_byte (or_put o (Some a_zero)) v ≡ or_byte (or_put o (Some a_zero)) w
          by (Some p) = refl
          by None = refl

    -- nothing is put past bounce memory
    none_past : (a old : ℕ) → bounce_len h.bounce ≤ a → old ≡ or_byte (driver_put x.per_page (last_put x.per_page acts) acts (Mapped mp) a) old
    none_past a old above =
        let fits = text_fits in
        let off : is_within (iova_of mp) mp.want.len a ≡ false = grind (arith, nat_tests) in
        let no : (is_to_device mp.want.dir && maps_address mp a) ≡ false = ap (λ t. is_to_device mp.want.dir && t) off ∙ and_false (is_to_device mp.want.dir) in
        sym (ap (λ t. or_byte (or_put (handed_put_if t (last_put x.per_page acts) mp a) (zero_if (meets_page x.per_page (page_of x.per_page a) mp && not (is_present x.per_page acts (page_of x.per_page a))))) old) no
        ∙ ap (λ t. or_byte (zero_if (t && not (is_present x.per_page acts (page_of x.per_page a)))) old) past) where
          and_false : (t : Bool) → (t && false) ≡ false
          and_false true = refl
          and_false false = refl

          behind : length h.bounce.frames ≤ a / page_size h.bounce
          behind = page_past (page_size h.bounce) (length h.bounce.frames) a size_pos above

          more : bounce_slots h ≤ h.bounce.per_page * (a / page_size h.bounce)
          more = mul-le-mul_left h.bounce.per_page behind

          past : meets_page x.per_page (page_of x.per_page a) mp ≡ false
          past = ap (λ g. meets_page g (page_of g a) mp) s.per_page ∙ off_test (h.bounce.per_page * (a / page_size h.bounce)) (mp.slot + pages_of mp.want.len) (nat_lt mp.slot (h.bounce.per_page * (a / page_size h.bounce) + h.bounce.per_page)) (omega (arith, more, inside)) where
            off_test : (i j : ℕ) (t : Bool) → j ≤ i → (nat_lt i j && t) ≡ false
            off_test i j t le = let no : nat_lt i j ≡ false = grind (arith, nat_tests) in ap (λ b. b && t) no

    pub mapped : (c : Bounce) (n : PoolMemory) (first count : ℕ) → mp.number ≡ h.maps → SameShape h.bounce c
        → ((p : ℕ) → is_within first count p ≡ meets_slots h.bounce.per_page p mp.slot (pages_of mp.want.len))
        → ((p : ℕ) → p < length h.bounce.frames → is_some (frame_of c.frames p) ≡ (is_within first count p || is_some (frame_of h.bounce.frames p)))
        → ((p : Place) → value c n p ≡ (if is_to_device mp.want.dir then over (b.home_place h.bounce (iova_of mp)) text p (value h.bounce m p) else value h.bounce m p))
        → Stands x (Driver (Mapped mp) ∷ acts) (record h { bounce = c; live = h.live ++ mp ∷ []; maps = h.maps + 1; is_shown = true }) n
    mapped c n first count number same met frames values = record {
      bounce = s.bounce ∙ sym (slots_same h.bounce c same);
      iova = s.iova ∙ ap (λ k. k + length h.shared.frames) (sym (slots_same h.bounce c same));
      per_page = s.per_page ∙ sym same.size;
      live = ap (λ l. l ++ mp ∷ []) s.live;
      maps = ap (λ k. k + 1) s.maps;
      regions = s.regions;
      made = s.made;
      is_shown = refl;
      area = same.area ∙ s.area;
      registered = s.registered ∙ ap (λ o. option_map (λ u. record { base = u; size = model.bounce_size x }) o) (sym same.user);
      present = λ p below. held_present h.bounce c first count same frames p (inside_of p below)
          ∙ ap (λ t. t || b.is_page_present h.bounce p) (met p ∙ ap (λ g. meets_page g p mp) (sym s.per_page))
          ∙ ap (λ t. meets_page x.per_page p mp || t) (s.present p (inside_of p below));
      bytes = λ a none below seen. next_bytes x acts h m s (Driver (Mapped mp)) (driver_addressed x.per_page acts (Mapped mp)) (record h { bounce = c; live = h.live ++ mp ∷ []; maps = h.maps + 1; is_shown = true }) n
          low_part (sym same.user ∙ none) a below seen;
      area_bytes = next_area x acts h m s (Driver (Mapped mp)) (driver_addressed x.per_page acts (Mapped mp)) (record h { bounce = c; live = h.live ++ mp ∷ []; maps = h.maps + 1; is_shown = true }) n (length (unwrap_or c.area []))
          (λ o below none. values (b.Area o)
          ∙ ap (λ u. if is_to_device mp.want.dir then over (home_by u (iova_of mp)) text (b.Area o) (value h.bounce m (b.Area o)) else value h.bounce m (b.Area o)) none
          ∙ same_both (is_to_device mp.want.dir) (value h.bounce m (b.Area o)))
          (λ u o below some off. values (b.Area o)
          ∙ ap (λ w. if is_to_device mp.want.dir then over (home_by w (iova_of mp)) text (b.Area o) (value h.bounce m (b.Area o)) else value h.bounce m (b.Area o)) some
          ∙ ap (λ v. if is_to_device mp.want.dir then v else value h.bounce m (b.Area o))
          (over_outside u (iova_of mp) (bounce_len h.bounce) o text (value h.bounce m (b.Area o)) (λ any. (let fits = text_fits in let l = long in omega arith)) off)
          ∙ same_both (is_to_device mp.want.dir) (value h.bounce m (b.Area o)))
          (λ u a below some. values (b.Area (u + a))
          ∙ ap (λ w. if is_to_device mp.want.dir then over (home_by w (iova_of mp)) text (b.Area (u + a)) (value h.bounce m (b.Area (u + a))) else value h.bounce m (b.Area (u + a))) some
          ∙ ap (λ v. if is_to_device mp.want.dir then v else value h.bounce m (b.Area (u + a))) (over_home (Some u) (iova_of mp) a text (value h.bounce m (b.Area (u + a))))
          ∙ put_is a (value h.bounce m (b.Area (u + a))) (λ fresh. absurd (true≢false (sym (registered_present u a some below) ∙ fresh_absent a fresh))))
          (let same_long = area_long h.bounce c same in omega arith);
      shared = next_shared x acts h m s (Driver (Mapped mp)) (driver_addressed x.per_page acts (Mapped mp)) (record h { bounce = c; live = h.live ++ mp ∷ []; maps = h.maps + 1; is_shown = true }) n
          (λ a above covered. ap (λ k. value h.shared h.store (b.Iova (a - k))) (sym (size_is x acts h m s)) ∙ s.shared a (subst (λ k. k ≤ a) (sym (size_is x acts h m s)) above) covered
          ∙ none_past a (last_byte x acts (Iova a)) above);
    } where
      inside_of : (p : ℕ) → p < length c.frames → p < length h.bounce.frames
      inside_of p below = subst (λ k. p < k) same.pages below

      same_both : (t : Bool) (v : ℕ) → (if t then v else v) ≡ v
      same_both true v = refl
      same_both false v = refl

      left_of : (t u : Bool) → (t && not u) ≡ true → u ≡ false
      left_of true true e = absurd (true≢false (sym e))
      left_of true false e = refl
      left_of false u e = absurd (true≢false (sym e))

      -- a page that is fresh was absent
      fresh_absent : (a : ℕ) → (meets_page x.per_page (page_of x.per_page a) mp && not (is_present x.per_page acts (page_of x.per_page a))) ≡ true → is_present x.per_page acts (page_of x.per_page a) ≡ false
      fresh_absent a e = left_of (meets_page x.per_page (page_of x.per_page a) mp) (is_present x.per_page acts (page_of x.per_page a)) e

      registered_present : (u a : ℕ) → h.bounce.user ≡ Some u → a < bounce_len h.bounce → is_present x.per_page acts (page_of x.per_page a) ≡ true
      registered_present u a some below =
          let page : a / page_size h.bounce < length h.bounce.frames = page_below (page_size h.bounce) (length h.bounce.frames) a size_pos below in
          let test : nat_lt (a / page_size h.bounce) (length h.bounce.frames) ≡ true = grind (arith, nat_tests) in
          sym (low_present a below) ∙ ap (λ t. t && (is_some h.bounce.user || is_some (frame_of h.bounce.frames (a / page_size h.bounce)))) test
          ∙ ap (λ u. is_some u || is_some (frame_of h.bounce.frames (a / page_size h.bounce))) some

      low_part : (a : ℕ) → a < bounce_len h.bounce → is_present x.per_page (Driver (Mapped mp) ∷ acts) (page_of x.per_page a) ≡ true → h.bounce.user ≡ None
          → value c n (b.Iova a) ≡ or_byte (driver_put x.per_page (last_put x.per_page acts) acts (Mapped mp) a) (last_byte x acts (Iova a))
      low_part a below seen none =
          values (b.Iova a)
          ∙ ap (λ u. if is_to_device mp.want.dir then over (home_by u (iova_of mp)) text (b.Iova a) (value h.bounce m (b.Iova a)) else value h.bounce m (b.Iova a)) none
          ∙ put_is a (value h.bounce m (b.Iova a)) (λ fresh. absent_zero h.bounce m a none (low_present a below ∙ fresh_absent a fresh))
          ∙ by (is_present x.per_page acts (page_of x.per_page a)) refl where
            or_right : (t u : Bool) → u ≡ false → (t || u) ≡ true → (t && not u) ≡ true
            or_right true true e f = absurd (true≢false e)
            or_right true false e f = refl
            or_right false u e f = absurd (true≢false (sym f ∙ e))

            by : (t : Bool) → is_present x.per_page acts (page_of x.per_page a) ≡ t → or_byte (driver_put x.per_page (last_put x.per_page acts) acts (Mapped mp) a) (value h.bounce m (b.Iova a))
                ≡ or_byte (driver_put x.per_page (last_put x.per_page acts) acts (Mapped mp) a) (last_byte x acts (Iova a))
            by true e = ap (λ v. or_byte (driver_put x.per_page (last_put x.per_page acts) acts (Mapped mp) a) v) (s.bytes a none (subst (λ k. a < k) (sym (size_is x acts h m s)) below) e)
            by false e = fresh_put a (value h.bounce m (b.Iova a)) (last_byte x acts (Iova a)) (or_right (meets_page x.per_page (page_of x.per_page a) mp) (is_present x.per_page acts (page_of x.per_page a)) e seen)

    -- ---- a copy to the device

    synced_put : (a old : ℕ) → (if is_within (iova_of mp) (length text) a then slice_index text (a - iova_of mp) else old)
        ≡ or_byte (driver_put x.per_page (last_put x.per_page acts) acts (Synced_device mp) a) old
    synced_put a old = ap (λ n. if is_within (iova_of mp) n a then slice_index text (a - iova_of mp) else old) long ∙ by (is_within (iova_of mp) mp.want.len a) refl where
      by : (t : Bool) → is_within (iova_of mp) mp.want.len a ≡ t → (if t then slice_index text (a - iova_of mp) else old) ≡ or_byte (handed_put_if t (last_put x.per_page acts) mp a) old
      by true e = handed_byte a e
      by false e = refl

    synced_past : (a old : ℕ) → bounce_len h.bounce ≤ a → old ≡ or_byte (driver_put x.per_page (last_put x.per_page acts) acts (Synced_device mp) a) old
    synced_past a old above =
        let fits = text_fits in
        let off : is_within (iova_of mp) mp.want.len a ≡ false = grind (arith, nat_tests) in
        sym (ap (λ t. or_byte (handed_put_if t (last_put x.per_page acts) mp a) old) off)

    pub synced : (c : Bounce) (n : PoolMemory) → SameShape h.bounce c → ((p : ℕ) → b.is_page_present c p ≡ b.is_page_present h.bounce p)
        → ((p : Place) → value c n p ≡ over (b.home_place h.bounce (iova_of mp)) text p (value h.bounce m p))
        → Stands x (Driver (Synced_device mp) ∷ acts) (record h { bounce = c }) n
    synced c n same present values = record {
      bounce = s.bounce ∙ sym (slots_same h.bounce c same);
      iova = s.iova ∙ ap (λ k. k + length h.shared.frames) (sym (slots_same h.bounce c same));
      per_page = s.per_page ∙ sym same.size;
      live = s.live;
      maps = s.maps;
      regions = s.regions;
      made = s.made;
      is_shown = s.is_shown;
      area = same.area ∙ s.area;
      registered = s.registered ∙ ap (λ o. option_map (λ u. record { base = u; size = model.bounce_size x }) o) (sym same.user);
      present = λ p below. present p ∙ s.present p (subst (λ k. p < k) same.pages below);
      bytes = λ a none below seen. next_bytes x acts h m s (Driver (Synced_device mp)) (driver_addressed x.per_page acts (Synced_device mp)) (record h { bounce = c }) n
          (λ a below seen none. values (b.Iova a) ∙ ap (λ u. over (home_by u (iova_of mp)) text (b.Iova a) (value h.bounce m (b.Iova a))) none
          ∙ synced_put a (value h.bounce m (b.Iova a))
          ∙ ap (λ v. or_byte (driver_put x.per_page (last_put x.per_page acts) acts (Synced_device mp) a) v) (s.bytes a none (subst (λ k. a < k) (sym (size_is x acts h m s)) below) seen))
          (sym same.user ∙ none) a below seen;
      area_bytes = next_area x acts h m s (Driver (Synced_device mp)) (driver_addressed x.per_page acts (Synced_device mp)) (record h { bounce = c }) n (length (unwrap_or c.area []))
          (λ o below none. values (b.Area o) ∙ ap (λ u. over (home_by u (iova_of mp)) text (b.Area o) (value h.bounce m (b.Area o))) none)
          (λ u o below some off. values (b.Area o) ∙ ap (λ w. over (home_by w (iova_of mp)) text (b.Area o) (value h.bounce m (b.Area o))) some
          ∙ over_outside u (iova_of mp) (bounce_len h.bounce) o text (value h.bounce m (b.Area o)) (λ any. (let fits = text_fits in let l = long in omega arith)) off)
          (λ u a below some. values (b.Area (u + a)) ∙ ap (λ w. over (home_by w (iova_of mp)) text (b.Area (u + a)) (value h.bounce m (b.Area (u + a)))) some
          ∙ over_home (Some u) (iova_of mp) a text (value h.bounce m (b.Area (u + a))) ∙ synced_put a (value h.bounce m (b.Area (u + a))))
          (let same_long = area_long h.bounce c same in omega arith);
      shared = next_shared x acts h m s (Driver (Synced_device mp)) (driver_addressed x.per_page acts (Synced_device mp)) (record h { bounce = c }) n
          (λ a above covered. ap (λ k. value h.shared h.store (b.Iova (a - k))) (sym (size_is x acts h m s)) ∙ s.shared a (subst (λ k. k ≤ a) (sym (size_is x acts h m s)) above) covered
          ∙ synced_past a (last_byte x acts (Iova a)) above);
    }
