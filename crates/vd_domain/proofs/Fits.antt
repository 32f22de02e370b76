-- What is true of each domain stays so: after a map, an unmap and a write.
use Rattle.std.proofs.Common.{◌≡◌, ℕ, zero, suc, replicate, ◌+◌, ◌-◌, ◌*◌, ◌/◌, ◌<◌, ◌≤◌, inl, inr, refl, subst, ap, sym, ◌∙◌, arith, Bool, true, false, ◌&&◌, ◌||◌, not, nat_lt, if◌then◌else◌, ◌==◌, List, [], ◌∷◌, ◌++◌, length, Option, Some, None, map, filter, find, nat_le, ◌⊎◌}
use Rattle.std.specs.Prelude.{is_some, unwrap_or}
use Rattle.std.specs.List.{list_any, slice_index}
use Rattle.std.specs.Option.{option_map}
use Rattle.std.proofs.lemmas.Bool.Decides.{nat_tests, leb_tells}
use Rattle.std.proofs.lemmas.List.{get_or_past}
use Rattle.vd_num.specs.Number.{is_within, pages_of}
use Rattle.vd_pool.specs.Memory.{PoolMemory}
use Rattle.vd_bounce.specs.Frames.{frame_of, Holds}
use Rattle.vd_bounce.specs.Bounce.{Bounce, SameShape, bounce_len, page_size, is_page_present}
use Rattle.vd_iova.specs.Space.{Space, taken_at}
use Rattle.vd_model.specs.Acts.{Streaming, Coherent}
use Rattle.vd_model.specs.Live.{meets_page}
use Rattle.vd_domain.specs.Slots.{meets_slots}
use Rattle.vd_domain.specs.Held.{Held, IsFit, AreTaken, IsTaken, Holding, mapping_holds, region_holds, mapping_of, coherent_of, bounce_slots, has_slot}
use Rattle.vd_domain.specs.Numbered.{Numbered}
use Rattle.vd_domain.specs.declared.streaming.Bounced.{Bounced}
use Rattle.vd_domain.specs.declared.streaming.Extent.{Extent}
use Rattle.vd_domain.specs.Lists.{mappings_of, regions_of}
use Rattle.vd_domain.proofs.Entries.{mapped_more, mapped_fewer, mapped_found}
use Rattle.vd_domain.proofs.Holdings.{any_more, Gains, Loses, taken_more, taken_fewer, held_is}
use Rattle.vd_domain.proofs.Present.{held_present, page_below, framed_present, address_meets}
use Rattle.vd_domain.proofs.Counts.{count_map, count_more, count_fewer, count_found}

-- a test of pages on mappings is one on what they hold
holds_test : (g p : ℕ) → (m : Streaming) → (λ (h : Holding). meets_slots g p h.slot h.count) (mapping_holds m) ≡ meets_page g p m
holds_test g p m = refl

-- the area has room for the memory that is registered
pub room_kept : (b c : Bounce) → SameShape b c → ((u : ℕ) → b.user ≡ Some u → u + bounce_len b ≤ length (unwrap_or b.area []))
    → (u : ℕ) → c.user ≡ Some u → u + bounce_len c ≤ length (unwrap_or c.area [])
room_kept b c same room u e =
    let was = room u (sym same.user ∙ e) in
    let size : bounce_len c ≡ bounce_len b = ap (λ n. 4096 * n * length c.frames) same.size ∙ ap (λ n. 4096 * b.per_page * n) same.pages in
    let long : length (unwrap_or c.area []) ≡ length (unwrap_or b.area []) = len_at c.area ∙ ap (λ o. unwrap_or o 0) same.area ∙ sym (len_at b.area) in
    omega arith where
      len_at : (o : Option (List ℕ)) → length (unwrap_or o []) ≡ unwrap_or (option_map length o) 0
      len_at None = refl
      len_at (Some xs) = refl

-- ---- one mapping more

module _ (h : Held) (low high : Space) (uses : List ℕ) (fit : IsFit h low high uses) where
  pub mapped_fit : (m : Streaming) (first count : ℕ) (b : Bounce) (after : Space) (counts : List ℕ) → m.number ≡ h.maps → 0 < pages_of m.want.len
      → SameShape h.bounce b → Gains (mapping_holds m) low after
      → ((p : ℕ) → is_within first count p ≡ meets_slots h.bounce.per_page p m.slot (pages_of m.want.len))
      → ((p : ℕ) → p < length h.bounce.frames → is_some (frame_of b.frames p) ≡ (is_within first count p || is_some (frame_of h.bounce.frames p)))
      → ((p : ℕ) → slice_index counts p ≡ (if is_within first count p then slice_index uses p + 1 else slice_index uses p)) → length counts ≡ length uses
      → IsFit (record h { bounce = b; live = h.live ++ m ∷ []; maps = h.maps + 1; is_shown = true }) after high counts
  mapped_fit m first count b after counts number some same gains met frames counted long = record {
    some = (let some = fit.some in let size = same.size in omega arith);
    few = (let few = fit.few in let size = same.size in omega arith);
    pages = subst (λ n. 0 < n) (sym same.pages) fit.pages;
    room = room_kept h.bounce b same fit.room;
    low_first = gains.first ∙ fit.low_first ∙ sym same.size;
    low_end = gains.top ∙ fit.low_end ∙ sym slots;
    high_first = fit.high_first ∙ sym slots;
    high_end = fit.high_end ∙ ap (λ n. n + length h.shared.frames) (sym slots);
    small = subst (λ n. n + length h.shared.frames ≤ 65536) (sym slots) fit.small;
    maps = subst (λ (hs : List Holding). AreTaken after (h.maps + 1) hs) (sym (mapped_more mapping_holds h.live m)) (taken_more low after h.maps (map mapping_holds h.live) (mapping_holds m) fit.maps number some gains);
    regions = fit.regions;
    each = long ∙ fit.each ∙ sym same.pages;
    count = λ p below. counted p ∙ ap (λ t. if t then slice_index uses p + 1 else slice_index uses p) (met p)
        ∙ ap (λ n. if meets_page h.bounce.per_page p m then n + 1 else n) (fit.count p (subst (λ n. p < n) same.pages below))
        ∙ sym (count_more (meets_page h.bounce.per_page p) h.live m)
        ∙ ap (λ g. length (filter (meets_page g p) (h.live ++ m ∷ []))) (sym same.size);
    most = λ p. by_most p (is_within first count p) refl;
    framed = framed;
    slots = fit.slots;
    plain = fit.plain;
    store = fit.store;
    size = fit.size;
    shown = λ p. fit.shown p ∙ ap (λ n. list_any (has_slot (n + p)) h.regions) (sym slots);
  } where
    slots : b.per_page * length b.frames ≡ bounce_slots h
    slots = ap (λ g. g * length b.frames) same.size ∙ ap (λ n. h.bounce.per_page * n) same.pages

    by_most : (p : ℕ) (t : Bool) → is_within first count p ≡ t → slice_index counts p ≤ h.maps + 1
    by_most p true e = let is : slice_index counts p ≡ slice_index uses p + 1 = counted p ∙ ap (λ t. if t then slice_index uses p + 1 else slice_index uses p) e in let most = fit.most p in omega arith
    by_most p false e = let is : slice_index counts p ≡ slice_index uses p = counted p ∙ ap (λ t. if t then slice_index uses p + 1 else slice_index uses p) e in let most = fit.most p in omega arith

    or_true : (b : Bool) → (b || true) ≡ true
    or_true true = refl
    or_true false = refl

    framed : (p : ℕ) → 0 < slice_index counts p → is_some (frame_of b.frames p) ≡ true
    framed p any = elim (leb_tells (length counts) p) [
      | inl past ↦ absurd (let none : slice_index counts p ≡ 0 = get_or_past counts p 0 past.1 in omega arith)
      | inr inside ↦
          (let below : p < length h.bounce.frames = (let i = inside.1 in let each = fit.each in omega arith) in
          frames p below ∙ by (is_within first count p) refl)
    ] where
      by : (t : Bool) → is_within first count p ≡ t → (t || is_some (frame_of h.bounce.frames p)) ≡ true
      by true e = refl
      by false e = let is : slice_index counts p ≡ slice_index uses p = counted p ∙ ap (λ t. if t then slice_index uses p + 1 else slice_index uses p) e in fit.framed p (omega arith)

  -- ---- a live mapping

  holds_found : (a : ℕ) (m : Streaming) → mapping_of h a ≡ Some m → find (λ (k : Holding). k.number == a) (map mapping_holds h.live) ≡ Some (mapping_holds m)
  holds_found a m e = mapped_found mapping_holds (λ (m : Streaming). m.number == a) (λ (k : Holding). k.number == a) (λ m. refl) h.live ∙ ap (option_map mapping_holds) e

  pub live_taken : (a : ℕ) (m : Streaming) → mapping_of h a ≡ Some m → IsTaken low h.maps (mapping_holds m)
  live_taken a m e = held_is low h.maps (map mapping_holds h.live) a (mapping_holds m) fit.maps (holds_found a m e)

  -- it lies in bounce memory
  pub live_inside : (a : ℕ) (m : Streaming) → mapping_of h a ≡ Some m → (0 < pages_of m.want.len) × (m.slot + pages_of m.want.len ≤ bounce_slots h) × (0 < taken_at low m.slot)
  live_inside a m e =
      let t = live_taken a m e in
      let some = t.some in
      let high = t.high in
      let top = fit.low_end in
      let taken = t.taken in
      (some, omega arith, omega arith)

  -- the pages that it meets are counted and have frames
  pub live_counted : (a : ℕ) (m : Streaming) → mapping_of h a ≡ Some m → (p : ℕ) → p < length h.bounce.frames → meets_slots h.bounce.per_page p m.slot (pages_of m.want.len) ≡ true → 0 < slice_index uses p
  live_counted a m e p below meets = subst (λ n. 0 < n) (sym (fit.count p below)) (count_found (meets_page h.bounce.per_page p) (λ (m : Streaming). m.number == a) h.live m e meets)

  -- its bytes lie in present pages
  pub live_there : (a : ℕ) (m : Streaming) → mapping_of h a ≡ Some m → (k : ℕ) → 4096 * m.slot ≤ k → k < 4096 * m.slot + m.want.len
      → (k < bounce_len h.bounce) × (is_page_present h.bounce (k / page_size h.bounce) ≡ true)
  live_there a m e k from to =
      let inside = live_inside a m e in
      let top = inside.1 in
      let enough : m.want.len ≤ 4096 * pages_of m.want.len = omega arith in
      let size : 4096 * h.bounce.per_page * length h.bounce.frames ≡ 4096 * bounce_slots h = omega arith in
      let below : k < bounce_len h.bounce = omega arith in
      let page : k / page_size h.bounce < length h.bounce.frames = page_below (page_size h.bounce) (length h.bounce.frames) k (let some = fit.some in omega arith) below in (
        below,
        framed_present h.bounce (k / page_size h.bounce) page
            (fit.framed (k / page_size h.bounce) (live_counted a m e (k / page_size h.bounce) page (address_meets h.bounce.per_page m.slot m.want.len k fit.some from to))),
      )

  -- ---- one mapping fewer

  pub unmapped_fit : (a : ℕ) (m : Streaming) → mapping_of h a ≡ Some m → (first count : ℕ) (after : Space) (counts : List ℕ) → Loses (mapping_holds m) low after
      → ((p : ℕ) → is_within first count p ≡ meets_slots h.bounce.per_page p m.slot (pages_of m.want.len))
      → ((p : ℕ) → slice_index counts p ≡ (if is_within first count p then slice_index uses p - 1 else slice_index uses p)) → length counts ≡ length uses
      → IsFit (record h { live = filter (λ (k : Streaming). not (k.number == a)) h.live }) after high counts
  unmapped_fit a m e first count after counts loses met counted long = record {
    some = fit.some;
    few = fit.few;
    pages = fit.pages;
    room = fit.room;
    low_first = loses.first ∙ fit.low_first;
    low_end = loses.top ∙ fit.low_end;
    high_first = fit.high_first;
    high_end = fit.high_end;
    small = fit.small;
    maps = subst (λ (hs : List Holding). AreTaken after h.maps hs) (sym rest_is) (taken_fewer low after h.maps (map mapping_holds h.live) a (mapping_holds m) fit.maps (holds_found a m e) loses);
    regions = fit.regions;
    each = long ∙ fit.each;
    count = λ p below. by p below (is_within first count p) refl;
    most = λ p. (let less = fewer p in let most = fit.most p in omega arith);
    framed = λ p any. fit.framed p (let less = fewer p in omega arith);
    slots = fit.slots;
    plain = fit.plain;
    store = fit.store;
    size = fit.size;
    shown = fit.shown;
  } where
    rest : List Streaming
    rest = filter (λ (k : Streaming). not (k.number == a)) h.live

    rest_is : map mapping_holds (filter (λ (k : Streaming). not (k.number == a)) h.live) ≡ filter (λ (k : Holding). not (k.number == a)) (map mapping_holds h.live)
    rest_is = mapped_fewer mapping_holds (λ (k : Streaming). not (k.number == a)) (λ (k : Holding). not (k.number == a)) (λ k. refl) h.live

    fewer : (p : ℕ) → slice_index counts p ≤ slice_index uses p
    fewer p = by_range (is_within first count p) refl where
      by_range : (t : Bool) → is_within first count p ≡ t → slice_index counts p ≤ slice_index uses p
      by_range true t = let is : slice_index counts p ≡ slice_index uses p - 1 = counted p ∙ ap (λ t. if t then slice_index uses p - 1 else slice_index uses p) t in omega arith
      by_range false t = let is : slice_index counts p ≡ slice_index uses p = counted p ∙ ap (λ t. if t then slice_index uses p - 1 else slice_index uses p) t in omega arith

    -- the count of all, by the count of the rest
    parts : (p : ℕ) → length (filter (meets_page h.bounce.per_page p) h.live)
        ≡ length (filter (meets_page h.bounce.per_page p) (filter (λ (k : Streaming). not (k.number == a)) h.live)) + (if meets_slots h.bounce.per_page p m.slot (pages_of m.want.len) then 1 else 0)
    parts p =
        let f : Holding → Bool = λ k. meets_slots h.bounce.per_page p k.slot k.count in
        sym (count_map mapping_holds f (meets_page h.bounce.per_page p) (λ k. refl) h.live)
        ∙ count_fewer f a (map mapping_holds h.live) (mapping_holds m) fit.maps.apart (holds_found a m e)
        ∙ ap (λ (ks : List Holding). length (filter f ks) + (if meets_slots h.bounce.per_page p m.slot (pages_of m.want.len) then 1 else 0)) (sym rest_is)
        ∙ ap (λ n. n + (if meets_slots h.bounce.per_page p m.slot (pages_of m.want.len) then 1 else 0))
        (count_map mapping_holds f (meets_page h.bounce.per_page p) (λ k. refl) (filter (λ (k : Streaming). not (k.number == a)) h.live))

    by : (p : ℕ) → p < length h.bounce.frames → (t : Bool) → is_within first count p ≡ t → slice_index counts p ≡ length (filter (meets_page h.bounce.per_page p) (filter (λ (k : Streaming). not (k.number == a)) h.live))
    by p below true t =
        let is : slice_index counts p ≡ slice_index uses p - 1 = counted p ∙ ap (λ t. if t then slice_index uses p - 1 else slice_index uses p) t in
        let all = fit.count p below in
        let sum : length (filter (meets_page h.bounce.per_page p) h.live) ≡ length (filter (meets_page h.bounce.per_page p) (filter (λ (k : Streaming). not (k.number == a)) h.live)) + 1 =
        parts p ∙ ap (λ b. length (filter (meets_page h.bounce.per_page p) (filter (λ (k : Streaming). not (k.number == a)) h.live)) + (if b then 1 else 0)) (sym (met p) ∙ t) in
        omega arith
    by p below false t =
        let is : slice_index counts p ≡ slice_index uses p = counted p ∙ ap (λ t. if t then slice_index uses p - 1 else slice_index uses p) t in
        let all = fit.count p below in
        let sum : length (filter (meets_page h.bounce.per_page p) h.live) ≡ length (filter (meets_page h.bounce.per_page p) (filter (λ (k : Streaming). not (k.number == a)) h.live)) + 0 =
        parts p ∙ ap (λ b. length (filter (meets_page h.bounce.per_page p) (filter (λ (k : Streaming). not (k.number == a)) h.live)) + (if b then 1 else 0)) (sym (met p) ∙ t) in
        omega arith

  -- ---- bytes that are written

  pub written_fit : (b s : Bounce) (store : PoolMemory) → SameShape h.bounce b → b.frames ≡ h.bounce.frames → SameShape h.shared s → Holds s.frames store → store.per_page ≡ h.store.per_page
      → ((p : ℕ) → is_page_present s p ≡ is_page_present h.shared p) → IsFit (record h { bounce = b; shared = s; store = store }) low high uses
  written_fit b s store same frames shared holds size present = record {
    some = (let some = fit.some in let size = same.size in omega arith);
    few = (let few = fit.few in let size = same.size in omega arith);
    pages = subst (λ n. 0 < n) (sym same.pages) fit.pages;
    room = room_kept h.bounce b same fit.room;
    low_first = fit.low_first ∙ sym same.size;
    low_end = fit.low_end ∙ sym slots;
    high_first = fit.high_first ∙ sym slots;
    high_end = fit.high_end ∙ ap (λ n. n + length h.shared.frames) (sym slots) ∙ ap (λ n. b.per_page * length b.frames + n) (sym shared.pages);
    small = subst (λ n. n ≤ 65536) (sym (ap (λ n. n + length s.frames) slots ∙ ap (λ n. bounce_slots h + n) shared.pages)) fit.small;
    maps = fit.maps;
    regions = fit.regions;
    each = fit.each ∙ sym same.pages;
    count = λ p below. fit.count p (subst (λ n. p < n) same.pages below) ∙ ap (λ g. length (filter (meets_page g p) h.live)) (sym same.size);
    most = fit.most;
    framed = λ p any. ap (λ (fs : List (Option ℕ)). is_some (frame_of fs p)) frames ∙ fit.framed p any;
    slots = shared.size ∙ fit.slots;
    plain = shared.user ∙ fit.plain;
    store = holds;
    size = size ∙ fit.size;
    shown = λ p. present p ∙ fit.shown p ∙ ap (λ n. list_any (has_slot (n + p)) h.regions) (sym slots);
  } where
    slots : b.per_page * length b.frames ≡ bounce_slots h
    slots = ap (λ g. g * length b.frames) same.size ∙ ap (λ n. h.bounce.per_page * n) same.pages

  -- ---- one region more

  pub gained_fit : (r : Coherent) (s : Bounce) (store : PoolMemory) (after : Space) → r.number ≡ h.made → 0 < pages_of r.len → SameShape h.shared s → Holds s.frames store → store.per_page ≡ h.store.per_page
      → Gains (region_holds r) high after
      → ((p : ℕ) → p < length h.shared.frames → is_some (frame_of s.frames p) ≡ (is_within (r.slot - bounce_slots h) (pages_of r.len) p || is_some (frame_of h.shared.frames p)))
      → IsFit (record h { shared = s; store = store; regions = h.regions ++ r ∷ []; made = h.made + 1 }) low after uses
  gained_fit r s store after number some same holds size gains frames = record {
    some = fit.some;
    few = fit.few;
    pages = fit.pages;
    room = fit.room;
    low_first = fit.low_first;
    low_end = fit.low_end;
    high_first = gains.first ∙ fit.high_first;
    high_end = gains.top ∙ fit.high_end ∙ ap (λ n. bounce_slots h + n) (sym same.pages);
    small = subst (λ n. bounce_slots h + n ≤ 65536) (sym same.pages) fit.small;
    maps = fit.maps;
    regions = subst (λ (hs : List Holding). AreTaken after (h.made + 1) hs) (sym (mapped_more region_holds h.regions r)) (taken_more high after h.made (map region_holds h.regions) (region_holds r) fit.regions number some gains);
    each = fit.each;
    count = fit.count;
    most = fit.most;
    framed = fit.framed;
    slots = same.size ∙ fit.slots;
    plain = same.user ∙ fit.plain;
    store = holds;
    size = size ∙ fit.size;
    shown = λ p. by p (leb_tells (length h.shared.frames) p) ∙ sym (any_more (has_slot (bounce_slots h + p)) h.regions (r ∷ []));
  } where
    low_slot : bounce_slots h ≤ r.slot
    low_slot = let low = gains.low in let first = fit.high_first in omega arith

    top_slot : r.slot + pages_of r.len ≤ bounce_slots h + length h.shared.frames
    top_slot = let high = gains.high in let top = fit.high_end in omega arith

    shifted : (n slot base p : ℕ) → base ≤ slot → is_within (slot - base) n p ≡ is_within slot n (base + p)
    shifted n slot base p le = grind (arith, nat_tests)

    turned : (w t : Bool) → (w || t) ≡ (t || (w || false))
    turned true true = refl
    turned true false = refl
    turned false true = refl
    turned false false = refl

    by : (p : ℕ) → ((nat_le (length h.shared.frames) p ≡ true) × (length h.shared.frames ≤ p)) ⊎ ((nat_le (length h.shared.frames) p ≡ false) × (p < length h.shared.frames))
        → is_page_present s p ≡ (list_any (has_slot (bounce_slots h + p)) h.regions || list_any (has_slot (bounce_slots h + p)) (r ∷ []))
    by p (inr below) =
        held_present h.shared s (r.slot - bounce_slots h) (pages_of r.len) same frames p below.1
        ∙ ap (λ t. is_within (r.slot - bounce_slots h) (pages_of r.len) p || t) (fit.shown p)
        ∙ ap (λ t. t || list_any (has_slot (bounce_slots h + p)) h.regions) (shifted (pages_of r.len) r.slot (bounce_slots h) p low_slot)
        ∙ turned (is_within r.slot (pages_of r.len) (bounce_slots h + p)) (list_any (has_slot (bounce_slots h + p)) h.regions)
    by p (inl past) =
        let le : length h.shared.frames ≤ p = past.1 in
        let off : nat_lt p (length h.shared.frames) ≡ false = grind (arith, nat_tests) in
        let none : list_any (has_slot (bounce_slots h + p)) h.regions ≡ false = sym (fit.shown p) ∙ ap (λ t. t && (is_some h.shared.user || is_some (frame_of h.shared.frames p))) off in
        let top = top_slot in
        let not_here : is_within r.slot (pages_of r.len) (bounce_slots h + p) ≡ false = outside r.slot (pages_of r.len) (bounce_slots h + p) (omega arith) in
        ap (λ n. nat_lt p n && (is_some s.user || is_some (frame_of s.frames p))) same.pages
        ∙ ap (λ t. t && (is_some s.user || is_some (frame_of s.frames p))) off
        ∙ sym (ap (λ t. t || (is_within r.slot (pages_of r.len) (bounce_slots h + p) || false)) none ∙ ap (λ t. t || false) not_here) where
          outside : (slot n k : ℕ) → slot + n ≤ k → is_within slot n k ≡ false
          outside slot n k le = grind (arith, nat_tests)

-- ---- a new domain

zero_at : (n i : ℕ) → slice_index (replicate n 0) i ≡ 0
zero_at zero i = refl
zero_at (suc n) zero = refl
zero_at (suc n) (suc i) = zero_at n i

none_at : (n p : ℕ) → frame_of (replicate n None) p ≡ None
none_at zero p = refl
none_at (suc n) zero = refl
none_at (suc n) (suc p) = none_at n p

long_of : {X : Type 0} (n : ℕ) (v : X) → length (replicate n v) ≡ n
long_of zero v = refl
long_of (suc n) v = ap (λ k. suc k) (long_of n v)

nothing_taken : (space : Space) (n made : ℕ) → space.counts ≡ replicate n 0 → AreTaken space made []
nothing_taken space n made counts = record {
  each = λ k d below. absurd (omega arith);
  apart = λ i j d less below. absurd (omega arith);
  back = λ q any. absurd (let none : taken_at space q ≡ 0 = ap (λ (xs : List ℕ). slice_index xs q) counts ∙ zero_at n q in omega arith);
}

pub new_fit : (b s : Bounce) (store : PoolMemory) (low high : Space) (uses : List ℕ) (maps : Numbered Bounced) (held : Numbered Extent) (count g slots top : ℕ)
    → b ≡ record { frames = replicate count None; area = None; user = None; per_page = g }
    → s ≡ record { frames = replicate (top - slots) None; area = None; user = None; per_page = 1 }
    → low ≡ record { counts = replicate slots 0; first = g; «end» = slots } → high ≡ record { counts = replicate top 0; first = slots; «end» = top }
    → uses ≡ replicate count 0 → maps ≡ record { entries = []; made = 0 } → held ≡ record { entries = []; made = 0 }
    → 0 < g → g ≤ 16 → slots ≡ g * count → 0 < slots → slots < top → top ≤ 65536 → Holds s.frames store → store.per_page ≡ 1
    → IsFit (record { bounce = b; shared = s; store = store; live = mappings_of maps.entries; maps = maps.made; regions = regions_of held.entries; made = held.made; is_shown = false }) low high uses
new_fit b s store low high uses maps held count g slots top eb es el eh eu em er some few whole any less small holds size = record {
  some = (let e = g_is in omega arith);
  few = (let e = g_is in omega arith);
  pages = subst (λ n. 0 < n) (sym frames_long) (pos count (sym whole));
  room = λ u e. absurd (let none : b.user ≡ None = ap (λ (b : Bounce). b.user) eb in some_is_not_none (sym e ∙ none));
  low_first = ap (λ (t : Space). t.first) el ∙ sym g_is;
  low_end = ap (λ (t : Space). t.«end») el ∙ sym slots_is;
  high_first = ap (λ (t : Space). t.first) eh ∙ sym slots_is;
  high_end = ap (λ (t : Space). t.«end») eh ∙ sym all_is;
  small = subst (λ n. n ≤ 65536) (sym all_is) small;
  maps = subst (λ (ms : Numbered Bounced). AreTaken low ms.made (map mapping_holds (mappings_of ms.entries))) (sym em) (nothing_taken low slots 0 (ap (λ (t : Space). t.counts) el));
  regions = subst (λ (rs : Numbered Extent). AreTaken high rs.made (map region_holds (regions_of rs.entries))) (sym er) (nothing_taken high top 0 (ap (λ (t : Space). t.counts) eh));
  each = ap length eu ∙ long_of count 0 ∙ sym frames_long;
  count = λ p below. none_of p ∙ ap (λ (ms : Numbered Bounced). length (filter (meets_page b.per_page p) (mappings_of ms.entries))) (sym em);
  most = λ p. (let none = none_of p in omega arith);
  framed = λ p any. absurd (let none = none_of p in omega arith);
  slots = ap (λ (b : Bounce). b.per_page) es;
  plain = ap (λ (b : Bounce). b.user) es;
  store = holds;
  size = size;
  shown = λ p. ap (λ u. nat_lt p (length s.frames) && (is_some u || is_some (frame_of s.frames p))) (ap (λ (b : Bounce). b.user) es)
      ∙ ap (λ o. nat_lt p (length s.frames) && is_some o) (ap (λ (b : Bounce). frame_of b.frames p) es ∙ none_at (top - slots) p) ∙ and_false (nat_lt p (length s.frames))
      ∙ ap (λ (rs : Numbered Extent). list_any (has_slot (b.per_page * length b.frames + p)) (regions_of rs.entries)) (sym er);
} where
  pos : (k : ℕ) → g * k ≡ slots → 0 < k
  pos zero e = absurd (omega (arith, e, any))
  pos (suc k) e = omega arith

  some_is_not_none : {n : ℕ} → Some n ≡ None → ⊥
  some_is_not_none h = cc

  and_false : (t : Bool) → (t && false) ≡ false
  and_false true = refl
  and_false false = refl

  g_is : b.per_page ≡ g
  g_is = ap (λ (b : Bounce). b.per_page) eb

  frames_long : length b.frames ≡ count
  frames_long = ap (λ (b : Bounce). length b.frames) eb ∙ long_of count None

  slots_is : b.per_page * length b.frames ≡ slots
  slots_is = ap (λ n. n * length b.frames) g_is ∙ ap (λ n. g * n) frames_long ∙ sym whole

  all_is : b.per_page * length b.frames + length s.frames ≡ top
  all_is = ap (λ n. n + length s.frames) slots_is ∙ ap (λ n. slots + n) (ap (λ (b : Bounce). length b.frames) es ∙ long_of (top - slots) None) ∙ (let back : slots + (top - slots) ≡ top = omega arith in back)

  none_of : (p : ℕ) → slice_index uses p ≡ 0
  none_of p = ap (λ (xs : List ℕ). slice_index xs p) eu ∙ zero_at count p

-- a live region lies in coherent memory
pub region_inside : (h : Held) (low high : Space) (uses : List ℕ) → IsFit h low high uses → (a : ℕ) (r : Coherent) → coherent_of h a ≡ Some r
    → (0 < pages_of r.len) × (r.slot + pages_of r.len ≤ 65536) × (0 < taken_at high r.slot)
region_inside h low high uses fit a r e =
    let t = held_is high h.made (map region_holds h.regions) a (region_holds r) fit.regions
    (mapped_found region_holds (λ (m : Coherent). m.number == a) (λ (k : Holding). k.number == a) (λ m. refl) h.regions ∙ ap (option_map region_holds) e) in
    let some = t.some in
    let high = t.high in
    let top = fit.high_end in
    let small = fit.small in
    let taken = t.taken in
    (some, omega arith, omega arith)
