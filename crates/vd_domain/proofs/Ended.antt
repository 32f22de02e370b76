-- A domain without one of its coherent regions: freed, or as if it had not been made.
use Rattle.std.proofs.Common.{◌≡◌, ◌≢◌, ℕ, ◌+◌, ◌-◌, ◌*◌, ◌/◌, ◌<◌, ◌≤◌, ◌⊎◌, inl, inr, Bool, true, false, cond, refl, subst, ap, sym, ◌∙◌, arith, Option, None, Some, nat_lt, ◌&&◌, ◌||◌, not, if◌then◌else◌, ◌==◌, List, [], ◌∷◌, ◌++◌, length, true≢false, map, filter, find, All}
use Rattle.std.specs.Prelude.{is_some, unwrap_or}
use Rattle.std.specs.List.{list_any, AllPairs, slice_index_or}
use Rattle.std.specs.Option.{option_map, option_and_then}
use Rattle.std.proofs.lemmas.Bool.{eqb-true}
use Rattle.std.proofs.lemmas.Bool.Decides.{nat_tests}
use Rattle.std.proofs.lemmas.List.Elements.{All-weaker, All-cons, All-head, All-tail}
use Rattle.vd_num.specs.Number.{is_within, pages_of}
use Rattle.vd_pool.specs.Memory.{PoolMemory}
use Rattle.vd_bounce.specs.Frames.{frame_of, Holds}
use Rattle.vd_bounce.specs.Bounce as b
use Rattle.vd_bounce.specs.Bounce.{Bounce, value, bounce_len, page_size, SameShape}
use Rattle.vd_iova.specs.Space.{Space}
use Rattle.vd_model.specs.Setting as model
use Rattle.vd_model.specs.Setting.{Setting}
use Rattle.vd_model.specs.Acts.{Act, Driver, Coherent, Region_made, Region_freed}
use Rattle.vd_model.specs.Live.{live_regions, region_covers, registration_of}
use Rattle.vd_model.specs.Puts.{Iova, Area, last_put, is_moved, area_address, address_put, zero_if}
use Rattle.vd_domain.specs.Held.{Held, IsFit, IsTaken, IsApart, AreTaken, Holding, region_holds, bounce_slots, has_slot, coherent_of}
use Rattle.vd_domain.specs.Stands.{Stands, last_byte}
use Rattle.vd_domain.proofs.Entries.{found_passes, mapped_fewer, mapped_found}
use Rattle.vd_domain.proofs.Holdings.{any_map, any_none, found_all, pairs_head, pairs_tail, rest_kept, is_same, differ, Loses, taken_fewer, held_is}
use Rattle.vd_domain.proofs.Puttings.{or_byte, put_or_byte, driver_addressed, size_is, free_of, moved_to, stays_above, next_bytes, next_shared, next_area}

abbrev others : ℕ → List Holding → List Holding
others a hs = filter (λ (h : Holding). not (h.number == a)) hs

abbrev named : ℕ → List Holding → Option Holding
named a hs = find (λ (h : Holding). h.number == a) hs

-- ---- the ranges beside one

abbrev IsBeside : Holding → Holding → Type 0
IsBeside g k = (k.slot + k.count ≤ g.slot) ⊎ (g.slot + g.count ≤ k.slot)

turned : (g k : Holding) → IsApart g k → IsBeside g k
turned g k r = elim r.slots [ inl before ↦ inr before | inr after ↦ inl after ]

straight : (g k : Holding) → IsApart k g → IsBeside g k
straight g k r = r.slots

none_found : {X : Type 0} {x : X} → None ≡ Some x → ⊥
none_found e = cc

others_beside : (a : ℕ) (hs : List Holding) (g : Holding) → AllPairs IsApart hs → named a hs ≡ Some g → All (IsBeside g) (others a hs)
others_beside a [] g apart e = absurd (none_found e)
others_beside a (h ∷ hs) g apart e = by (h.number == a) refl (others_beside a hs g (pairs_tail IsApart h hs apart)) where
  heads : All (IsApart h) hs
  heads = pairs_head IsApart h hs apart

  by : (b : Bool) → (h.number == a) ≡ b → (named a hs ≡ Some g → All (IsBeside g) (others a hs)) → All (IsBeside g) (others a (h ∷ hs))
  by true t later =
      let hit : Some h ≡ Some g = sym (ap (λ b. cond b (Some h) (named a hs)) t) ∙ e in
      let is : h ≡ g = cc in
      subst (λ (ks : List Holding). All (IsBeside g) ks)
      (sym (ap (λ b. cond (not b) (h ∷ others a hs) (others a hs)) t ∙ rest_kept a h hs (eqb-true h.number a t) apart))
      (subst (λ (x : Holding). All (IsBeside x) hs) is (All-weaker (IsApart h) (IsBeside h) (turned h) hs heads))
  by false t later =
      let found : named a hs ≡ Some g = sym (ap (λ b. cond b (Some h) (named a hs)) t) ∙ e in
      let r : IsApart h g = found_all (IsApart h) (λ (h : Holding). h.number == a) hs g heads found in
      subst (λ (ks : List Holding). All (IsBeside g) ks)
      (sym (ap (λ b. cond (not b) (h ∷ others a hs) (others a hs)) t))
      (All-cons (IsBeside g) h (others a hs) (straight g h r) (later found))

-- a test that one range doesn't pass is passed by the others where all pass it
any_others : (f : Holding → Bool) (a : ℕ) (hs : List Holding) (g : Holding) → AllPairs IsApart hs → named a hs ≡ Some g → f g ≡ false → list_any f (others a hs) ≡ list_any f hs
any_others f a [] g apart e off = absurd (none_found e)
any_others f a (h ∷ hs) g apart e off = by (h.number == a) refl (any_others f a hs g (pairs_tail IsApart h hs apart)) where
  by : (b : Bool) → (h.number == a) ≡ b → (named a hs ≡ Some g → f g ≡ false → list_any f (others a hs) ≡ list_any f hs) → list_any f (others a (h ∷ hs)) ≡ list_any f (h ∷ hs)
  by true t later =
      let hit : Some h ≡ Some g = sym (ap (λ b. cond b (Some h) (named a hs)) t) ∙ e in
      let is : h ≡ g = cc in
      ap (list_any f) (ap (λ b. cond (not b) (h ∷ others a hs) (others a hs)) t ∙ rest_kept a h hs (eqb-true h.number a t) apart)
      ∙ sym (ap (λ b. b || list_any f hs) (ap f is ∙ off))
  by false t later =
      ap (λ b. list_any f (cond (not b) (h ∷ others a hs) (others a hs))) t
      ∙ ap (λ b. f h || b) (later (sym (ap (λ b. cond b (Some h) (named a hs)) t) ∙ e) off)

any_rest : (q a : ℕ) (hs : List Holding) (g : Holding) → AllPairs IsApart hs → named a hs ≡ Some g
    → list_any (λ (h : Holding). is_within h.slot h.count q) (others a hs) ≡ (not (is_within g.slot g.count q) && list_any (λ (h : Holding). is_within h.slot h.count q) hs)
any_rest q a hs g apart e = by (is_within g.slot g.count q) refl where
  f : Holding → Bool
  f h = is_within h.slot h.count q

  away : (g k : Holding) → is_within g.slot g.count q ≡ true → IsBeside g k → is_within k.slot k.count q ≡ false
  away g k here beside = elim beside [
    | inl before ↦ before_off g.slot g.count k.slot k.count here before
    | inr after ↦ after_off g.slot g.count k.slot k.count here after
  ] where
    before_off : (s n t o : ℕ) → is_within s n q ≡ true → t + o ≤ s → is_within t o q ≡ false
    before_off s n t o here le = grind (arith, nat_tests)

    after_off : (s n t o : ℕ) → is_within s n q ≡ true → s + n ≤ t → is_within t o q ≡ false
    after_off s n t o here le = grind (arith, nat_tests)

  by : (t : Bool) → is_within g.slot g.count q ≡ t → list_any (λ (h : Holding). is_within h.slot h.count q) (others a hs) ≡ (not t && list_any (λ (h : Holding). is_within h.slot h.count q) hs)
  by true t = any_none (λ (h : Holding). is_within h.slot h.count q) (others a hs)
      (All-weaker (IsBeside g) (λ (h : Holding). is_within h.slot h.count q ≡ false) (λ k beside. away g k t beside) (others a hs) (others_beside a hs g apart e))
  by false t = any_others (λ (h : Holding). is_within h.slot h.count q) a hs g apart e t

-- the others have other numbers
other_numbers : (a : ℕ) (hs : List Holding) → All (λ (h : Holding). h.number ≢ a) (others a hs)
other_numbers a [] = λ k d below. absurd (omega (arith, below))
other_numbers a (h ∷ hs) = by (h.number == a) refl (other_numbers a hs) where
  no : (h.number == a) ≡ false → h.number ≢ a
  no t same = grind (arith, nat_tests)

  by : (b : Bool) → (h.number == a) ≡ b → All (λ (h : Holding). h.number ≢ a) (others a hs) → All (λ (h : Holding). h.number ≢ a) (others a (h ∷ hs))
  by true t rest = subst (λ (ks : List Holding). All (λ (h : Holding). h.number ≢ a) ks) (sym (ap (λ b. cond (not b) (h ∷ others a hs) (others a hs)) t)) rest
  by false t rest = subst (λ (ks : List Holding). All (λ (h : Holding). h.number ≢ a) ks) (sym (ap (λ b. cond (not b) (h ∷ others a hs) (others a hs)) t))
      (All-cons (λ (h : Holding). h.number ≢ a) h (others a hs) (no t) rest)

pub last_less : (made n a : ℕ) → made - 1 ≡ a → n < made → n ≢ a → n < made - 1
last_less made n a last below other = grind (arith, nat_tests)

-- fewer were made
taken_below : (space : Space) (old new a : ℕ) (hs : List Holding) → ((n : ℕ) → n < old → n ≢ a → n < new) → AreTaken space old (others a hs) → AreTaken space new (others a hs)
taken_below space old new a hs lower t = record {
  each = λ k d below. (let h = slice_index_or (others a hs) k d in let held = t.each k d below in
      record { some = held.some; low = held.low; high = held.high; taken = held.taken; number = lower h.number held.number (other_numbers a hs k d below) });
  apart = t.apart;
  back = t.back;
}

-- ---- the regions beside one

abbrev pub others_of : ℕ → List Coherent → List Coherent
others_of a rs = filter (λ (r : Coherent). not (r.number == a)) rs

-- the last one is taken away
other_last : (c : Coherent) (cs : List Coherent) (r : Coherent) → All (IsApart (region_holds c)) (map region_holds (cs ++ r ∷ [])) → r.number ≢ c.number
other_last c [] r all = let one : IsApart (region_holds c) (region_holds r) = All-head (IsApart (region_holds c)) (region_holds r) [] all in one.numbers
other_last c (k ∷ ks) r all = other_last c ks r (All-tail (IsApart (region_holds c)) (region_holds k) (map region_holds (ks ++ r ∷ [])) all)

last_gone : (a : ℕ) (rs : List Coherent) (r : Coherent) → r.number ≡ a → AllPairs IsApart (map region_holds (rs ++ r ∷ [])) → others_of a (rs ++ r ∷ []) ≡ rs
last_gone a [] r is apart = ap (λ n. cond (not (n == a)) (r ∷ []) []) is ∙ ap (λ b. cond (not b) (r ∷ []) []) (is_same a)
last_gone a (c ∷ cs) r is apart =
    let ne = other_last c cs r (pairs_head IsApart (region_holds c) (map region_holds (cs ++ r ∷ [])) apart) in
    let off : (c.number == a) ≡ false = differ c.number a (λ e. ne (is ∙ sym e)) in
    ap (λ b. cond (not b) (c ∷ others_of a (cs ++ r ∷ [])) (others_of a (cs ++ r ∷ []))) off
    ∙ ap (λ ks. c ∷ ks) (last_gone a cs r is (pairs_tail IsApart (region_holds c) (map region_holds (cs ++ r ∷ [])) apart))

module _ (h : Held) (low high : Space) (uses : List ℕ) (fit : IsFit h low high uses) (a : ℕ) (r : Coherent) (found : coherent_of h a ≡ Some r) where
  pub number_is : r.number ≡ a
  number_is = eqb-true r.number a (found_passes (λ (k : Coherent). k.number == a) h.regions r found)

  holds_found : named a (map region_holds h.regions) ≡ Some (region_holds r)
  holds_found = mapped_found region_holds (λ (k : Coherent). k.number == a) (λ (k : Holding). k.number == a) (λ k. refl) h.regions ∙ ap (option_map region_holds) found

  pub taken_is : IsTaken high h.made (region_holds r)
  taken_is = held_is high h.made (map region_holds h.regions) a (region_holds r) fit.regions holds_found

  pub begins : bounce_slots h ≤ r.slot
  begins = let t = taken_is in let low = t.low in let first = fit.high_first in omega arith

  rest_is : map region_holds (others_of a h.regions) ≡ others a (map region_holds h.regions)
  rest_is = mapped_fewer region_holds (λ (k : Coherent). not (k.number == a)) (λ (k : Holding). not (k.number == a)) (λ k. refl) h.regions

  -- a slot of the others is a slot of one, but not of this one
  slot_rest : (q : ℕ) → list_any (has_slot q) (others_of a h.regions) ≡ (not (has_slot q r) && list_any (has_slot q) h.regions)
  slot_rest q =
      sym (any_map region_holds (λ (k : Holding). is_within k.slot k.count q) (has_slot q) (λ k. refl) (others_of a h.regions))
      ∙ ap (list_any (λ (k : Holding). is_within k.slot k.count q)) rest_is
      ∙ any_rest q a (map region_holds h.regions) (region_holds r) fit.regions.apart holds_found
      ∙ ap (λ t. not (has_slot q r) && t) (any_map region_holds (λ (k : Holding). is_within k.slot k.count q) (has_slot q) (λ k. refl) h.regions)

  shifted : (n slot base p : ℕ) → base ≤ slot → is_within (slot - base) n p ≡ is_within slot n (base + p)
  shifted n slot base p le = grind (arith, nat_tests)

  -- the page of an address in coherent memory is one of the region's where the region covers the address
  page_covers : (k : ℕ) → bounce_len h.bounce ≤ k → is_within (r.slot - bounce_slots h) (pages_of r.len) ((k - bounce_len h.bounce) / page_size h.shared) ≡ region_covers r k
  page_covers k above =
      ap (λ g. is_within (r.slot - bounce_slots h) (pages_of r.len) ((k - bounce_len h.bounce) / (4096 * g))) fit.slots
      ∙ shifted (pages_of r.len) r.slot (bounce_slots h) ((k - bounce_len h.bounce) / 4096) begins
      ∙ ap (λ q. is_within r.slot (pages_of r.len) q) slot where
        shift : (n a : ℕ) → 4096 * n ≤ a → n + (a - 4096 * n) / 4096 ≡ a / 4096
        shift n a le = omega arith

        size : 4096 * h.bounce.per_page * length h.bounce.frames ≡ 4096 * bounce_slots h
        size = omega arith

        slot : bounce_slots h + (k - bounce_len h.bounce) / 4096 ≡ k / 4096
        slot = ap (λ n. bounce_slots h + (k - n) / 4096) size ∙ shift (bounce_slots h) k (omega arith)

  pub off_low : (k : ℕ) → k < bounce_len h.bounce → region_covers r k ≡ false
  off_low k below =
      let size : 4096 * h.bounce.per_page * length h.bounce.frames ≡ 4096 * bounce_slots h = omega arith in
      let le = begins in
      let under : k / 4096 < r.slot = omega arith in
      grind (arith, nat_tests)

  -- ---- its pages have no frames any more

  module _ (d : Bounce) (store : PoolMemory) (same : SameShape h.shared d)
      (frames : (p : ℕ) → is_some (frame_of d.frames p) ≡ (not (is_within (r.slot - bounce_slots h) (pages_of r.len) p) && is_some (frame_of h.shared.frames p)))
      (values : (k : ℕ) → value d store (b.Iova k) ≡ (if is_within (r.slot - bounce_slots h) (pages_of r.len) (k / page_size h.shared) then 0 else value h.shared h.store (b.Iova k))) where
    pub ended_fit : (after : Space) (made : ℕ) → Holds d.frames store → store.per_page ≡ h.store.per_page → Loses (region_holds r) high after → ((n : ℕ) → n < h.made → n ≢ a → n < made)
        → IsFit (record h { shared = d; store = store; regions = others_of a h.regions; made = made }) low after uses
    ended_fit after made holds size loses lower = record {
      some = fit.some;
      few = fit.few;
      pages = fit.pages;
      room = fit.room;
      low_first = fit.low_first;
      low_end = fit.low_end;
      high_first = loses.first ∙ fit.high_first;
      high_end = loses.top ∙ fit.high_end ∙ ap (λ n. bounce_slots h + n) (sym same.pages);
      small = subst (λ n. bounce_slots h + n ≤ 65536) (sym same.pages) fit.small;
      maps = fit.maps;
      regions = subst (λ (hs : List Holding). AreTaken after made hs) (sym rest_is)
          (taken_below after h.made made a (map region_holds h.regions) lower (taken_fewer high after h.made (map region_holds h.regions) a (region_holds r) fit.regions holds_found loses));
      each = fit.each;
      count = fit.count;
      most = fit.most;
      framed = fit.framed;
      slots = same.size ∙ fit.slots;
      plain = same.user ∙ fit.plain;
      store = holds;
      size = size ∙ fit.size;
      shown = λ p. ap (λ n. nat_lt p n && (is_some d.user || is_some (frame_of d.frames p))) same.pages
          ∙ ap (λ u. nat_lt p (length h.shared.frames) && (is_some u || is_some (frame_of d.frames p))) same.user
          ∙ ap (λ u. nat_lt p (length h.shared.frames) && (is_some u || is_some (frame_of d.frames p))) fit.plain
          ∙ ap (λ t. nat_lt p (length h.shared.frames) && t) (frames p)
          ∙ swapped (nat_lt p (length h.shared.frames)) (not (is_within (r.slot - bounce_slots h) (pages_of r.len) p)) (is_some (frame_of h.shared.frames p))
          ∙ ap (λ u. not (is_within (r.slot - bounce_slots h) (pages_of r.len) p) && (nat_lt p (length h.shared.frames) && (is_some u || is_some (frame_of h.shared.frames p)))) (sym fit.plain)
          ∙ ap (λ t. not (is_within (r.slot - bounce_slots h) (pages_of r.len) p) && t) (fit.shown p)
          ∙ ap (λ t. not t && list_any (has_slot (bounce_slots h + p)) h.regions) (shifted (pages_of r.len) r.slot (bounce_slots h) p begins)
          ∙ sym (slot_rest (bounce_slots h + p));
    } where
      swapped : (t u v : Bool) → (t && (u && v)) ≡ (u && (t && v))
      swapped true true v = refl
      swapped true false v = refl
      swapped false true v = refl
      swapped false false v = refl

    pub gone : (p : ℕ) → has_slot (bounce_slots h + p) r ≡ true → frame_of d.frames p ≡ None
    gone p here = by (frame_of d.frames p) refl where
      off : is_some (frame_of d.frames p) ≡ false
      off = frames p ∙ ap (λ t. not t && is_some (frame_of h.shared.frames p)) (shifted (pages_of r.len) r.slot (bounce_slots h) p begins ∙ here)

      by : (o : Option ℕ) → frame_of d.frames p ≡ o → o ≡ None
      by None e = refl
      by (Some f) e = absurd (true≢false (sym (ap is_some e) ∙ off))

    -- the bytes of the others stay
    kept : (k : ℕ) → bounce_len h.bounce ≤ k → region_covers r k ≡ false → value d store (b.Iova (k - bounce_len h.bounce)) ≡ value h.shared h.store (b.Iova (k - bounce_len h.bounce))
    kept k above off = values (k - bounce_len h.bounce) ∙ ap (λ t. if t then 0 else value h.shared h.store (b.Iova (k - bounce_len h.bounce))) (page_covers k above ∙ off)

    left : (t u : Bool) → (not t && u) ≡ true → t ≡ false
    left true u e = absurd (true≢false (sym e))
    left false u e = refl

    right : (t u : Bool) → (not t && u) ≡ true → u ≡ true
    right true u e = absurd (true≢false (sym e))
    right false u e = e

    pub freed : (x : Setting) (acts : List Act) (m : PoolMemory) → Stands x acts h m → Stands x (Driver (Region_freed r) ∷ acts) (record h { shared = d; store = store; regions = others_of a h.regions }) m
    freed x acts m s = record {
      bounce = s.bounce;
      iova = s.iova ∙ ap (λ n. bounce_slots h + n) (sym same.pages);
      per_page = s.per_page;
      live = s.live;
      maps = s.maps;
      regions = held;
      made = s.made;
      is_shown = s.is_shown;
      area = s.area;
      registered = s.registered;
      present = s.present;
      bytes = λ k none below seen. next_bytes x acts h m s (Driver (Region_freed r)) (driver_addressed x.per_page acts (Region_freed r)) h m
          (λ k below seen none. s.bytes k none (subst (λ n. k < n) (sym (size_is x acts h m s)) below) seen) none k below seen;
      area_bytes = next_area x acts h m s (Driver (Region_freed r)) (driver_addressed x.per_page acts (Region_freed r)) h m (length (unwrap_or h.bounce.area []))
          (λ o below none. refl) (λ u o below some off. refl) (λ u k below some. refl) (omega arith);
      shared = next_shared x acts h m s (Driver (Region_freed r)) (driver_addressed x.per_page acts (Region_freed r)) (record h { shared = d; store = store }) m high_part;
    } where
      held : others_of a h.regions ≡ others_of r.number (live_regions acts)
      held = ap (λ n. others_of n h.regions) (sym number_is) ∙ ap (others_of r.number) s.regions

      high_part : (k : ℕ) → bounce_len h.bounce ≤ k → list_any (λ r. region_covers r k) (others_of r.number (live_regions acts)) ≡ true
          → value d store (b.Iova (k - bounce_len h.bounce)) ≡ last_byte x acts (Iova k)
      high_part k above covered =
          let both : (not (region_covers r k) && list_any (λ r. region_covers r k) h.regions) ≡ true = sym (slot_rest (k / 4096)) ∙ ap (list_any (λ r. region_covers r k)) held ∙ covered in
          let old : list_any (λ r. region_covers r k) (live_regions acts) ≡ true = ap (list_any (λ r. region_covers r k)) (sym s.regions) ∙ right (region_covers r k) (list_any (λ r. region_covers r k) h.regions) both in
          kept k above (left (region_covers r k) (list_any (λ r. region_covers r k) h.regions) both)
          ∙ ap (λ n. value h.shared h.store (b.Iova (k - n))) (sym (size_is x acts h m s)) ∙ s.shared k (subst (λ n. n ≤ k) (sym (size_is x acts h m s)) above) old

    pub undone : (x : Setting) (acts : List Act) (m : PoolMemory) → Stands x (Driver (Region_made r) ∷ acts) h m → Stands x acts (record h { shared = d; store = store; regions = others_of a h.regions; made = h.made - 1 }) m
    undone x acts m s = record {
      bounce = s.bounce;
      iova = s.iova ∙ ap (λ n. bounce_slots h + n) (sym same.pages);
      per_page = s.per_page;
      live = s.live;
      maps = s.maps;
      regions = held;
      made = (let made = s.made in omega arith);
      is_shown = s.is_shown;
      area = s.area;
      registered = s.registered;
      present = s.present;
      bytes = λ k none below seen. s.bytes k none below seen
          ∙ same_byte k (ap (λ o. is_moved o k) (free_of x (Driver (Region_made r) ∷ acts) h m s none)) (off_low k (subst (λ n. k < n) (size_is x (Driver (Region_made r) ∷ acts) h m s) below));
      area_bytes = λ o below. s.area_bytes o below ∙ same_area o;
      shared = high_part;
    } where
      held : others_of a h.regions ≡ live_regions acts
      held = ap (others_of a) s.regions ∙ last_gone a (live_regions acts) r number_is (subst (λ (rs : List Coherent). AllPairs IsApart (map region_holds rs)) s.regions fit.regions.apart)

      same_byte : (k : ℕ) → is_moved (registration_of acts) k ≡ false → region_covers r k ≡ false → last_byte x (Driver (Region_made r) ∷ acts) (Iova k) ≡ last_byte x acts (Iova k)
      same_byte k here off =
          ap (λ p. p.byte) ((driver_addressed x.per_page acts (Region_made r)).iova k here)
          ∙ put_or_byte (zero_if (region_covers r k)) (last_put x.per_page acts) (Iova k)
          ∙ ap (λ t. or_byte (zero_if t) (last_byte x acts (Iova k))) off

      same_area : (o : ℕ) → last_byte x (Driver (Region_made r) ∷ acts) (Area o) ≡ last_byte x acts (Area o)
      same_area o =
          ap (λ p. p.byte) ((driver_addressed x.per_page acts (Region_made r)).area o)
          ∙ put_or_byte (option_and_then (address_put x.per_page (last_put x.per_page acts) acts (Driver (Region_made r))) (area_address (registration_of acts) o)) (last_put x.per_page acts) (Area o)
          ∙ by h.bounce.user refl where
            by : (u : Option ℕ) → h.bounce.user ≡ u
                → or_byte (option_and_then (address_put x.per_page (last_put x.per_page acts) acts (Driver (Region_made r))) (area_address (registration_of acts) o)) (last_byte x acts (Area o)) ≡ last_byte x acts (Area o)
            by None e = ap (λ r'. or_byte (option_and_then (address_put x.per_page (last_put x.per_page acts) acts (Driver (Region_made r))) (area_address r' o)) (last_byte x acts (Area o)))
                (free_of x (Driver (Region_made r) ∷ acts) h m s e)
            by (Some u) e =
                ap (λ r'. or_byte (option_and_then (address_put x.per_page (last_put x.per_page acts) acts (Driver (Region_made r))) (area_address r' o)) (last_byte x acts (Area o)))
                (moved_to x (Driver (Region_made r) ∷ acts) h m s u e)
                ∙ by_range (is_within u (model.bounce_size x) o) refl where
                  by_range : (t : Bool) → is_within u (model.bounce_size x) o ≡ t
                      → or_byte (option_and_then (address_put x.per_page (last_put x.per_page acts) acts (Driver (Region_made r))) (if t then Some (o - u) else None)) (last_byte x acts (Area o)) ≡ last_byte x acts (Area o)
                  by_range false t = refl
                  by_range true t =
                      let from : u ≤ o = grind (arith, nat_tests) in
                      let to : o < u + model.bounce_size x = grind (arith, nat_tests) in
                      let size = size_is x (Driver (Region_made r) ∷ acts) h m s in
                      ap (λ t. or_byte (zero_if t) (last_byte x acts (Area o))) (off_low (o - u) (omega arith))

      high_part : (k : ℕ) → model.bounce_size x ≤ k → list_any (λ r. region_covers r k) (live_regions acts) ≡ true
          → value d store (b.Iova (k - model.bounce_size x)) ≡ last_byte x acts (Iova k)
      high_part k above covered =
          let size = size_is x (Driver (Region_made r) ∷ acts) h m s in
          let both : (not (region_covers r k) && list_any (λ r. region_covers r k) h.regions) ≡ true = sym (slot_rest (k / 4096)) ∙ ap (list_any (λ r. region_covers r k)) held ∙ covered in
          let off : region_covers r k ≡ false = left (region_covers r k) (list_any (λ r. region_covers r k) h.regions) both in
          let old : list_any (λ r. region_covers r k) (live_regions (Driver (Region_made r) ∷ acts)) ≡ true =
          ap (list_any (λ r. region_covers r k)) (sym s.regions) ∙ right (region_covers r k) (list_any (λ r. region_covers r k) h.regions) both in
          ap (λ n. value d store (b.Iova (k - n))) size ∙ kept k (subst (λ n. n ≤ k) size above) off
          ∙ ap (λ n. value h.shared h.store (b.Iova (k - n))) (sym size) ∙ s.shared k above old
          ∙ same_byte k (stays_above x (Driver (Region_made r) ∷ acts) h m s k above) off
