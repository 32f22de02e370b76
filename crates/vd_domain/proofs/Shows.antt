-- A domain after some mappings, one after another.
use Rattle.std.proofs.Common.{◌≡◌, ℕ, suc, ◌+◌, ◌*◌, ◌/◌, ◌<◌, ◌≤◌, ◌^◌, refl, subst, ap, sym, ◌∙◌, arith, true, ◌||◌, if◌then◌else◌, List, [], ◌∷◌, ◌++◌, length, drop, map, append_assoc}
use Rattle.std.specs.Prelude.{is_some}
use Rattle.std.proofs.Math.Nat.{mul-le-mul_left}
use Rattle.std.specs.List.{slice_index}
use Rattle.vd_num.specs.Number.{pages_of, is_within}
use Rattle.vd_pool.specs.Memory.{PoolMemory}
use Rattle.vd_iova.specs.Space.{Space}
use Rattle.vd_bounce.specs.Frames.{frame_of}
use Rattle.vd_bounce.specs.Bounce.{Bounce, Place, SameShape, page_size, value, over, home_place}
use Rattle.vd_model.specs.declared.memory.Want.{Want}
use Rattle.vd_model.specs.Setting.{Setting}
use Rattle.vd_model.specs.Acts.{Act, Driver, Mapped, Streaming}
use Rattle.vd_model.specs.Puts.{is_to_device}
use Rattle.vd_model.specs.RingTurns.{map_acts}
use Rattle.vd_domain.specs.declared.booking.Booked.{Booked}
use Rattle.vd_domain.specs.Held.{Held, IsFit, bounce_slots, mapping_holds}
use Rattle.vd_domain.specs.Handed.{IsOf, AreOf}
use Rattle.vd_domain.specs.Stands.{Stands}
use Rattle.vd_domain.specs.Placing.{IsGiven, AreGiven, IsSeen, streamings, with_mappings}
use Rattle.vd_domain.proofs.Batches.{pages_some, gains_of}
use Rattle.vd_domain.proofs.Fits.{mapped_fit}
use Rattle.vd_domain.proofs.Present.{address_meets}
use Rattle.vd_domain.proofs.Holdings.{meets_are}
use Rattle.vd_domain.proofs.Steps.{mapped, meets_same}
use Rattle.vd_model.specs.Place.{taken_slots}

-- what was the bounce memory doesn't matter
pub with_mappings_any : (h : Held) (c b : Bounce) (ms : List Streaming) → with_mappings (record h { bounce = c }) b ms ≡ with_mappings h b ms
with_mappings_any h c b [] = refl
with_mappings_any h c b (m ∷ ms) = with_mappings_any (record h { live = h.live ++ m ∷ []; maps = h.maps + 1; is_shown = true }) c b ms

-- the buffers hold the same bytes after a mapping
pub are_of_next : (g : ℕ) (acts : List Act) (m : Streaming) (wants : List Want) (text : List ℕ) → AreOf g acts wants text → AreOf g (Driver (Mapped m) ∷ acts) wants text
are_of_next g acts m [] text e = e
are_of_next g acts m (want ∷ wants) text e = (e.0, are_of_next g acts m wants (drop want.len text) e.1)

abbrev pub mapping_given : Want → Booked → Streaming
mapping_given want b = record { number = b.number; slot = b.slot; want = want }

abbrev pub one_more : Held → Bounce → Streaming → Held
one_more h c m = record h { bounce = c; live = h.live ++ m ∷ []; maps = h.maps + 1; is_shown = true }

module _ (h : Held) (low high next : Space) (uses : List ℕ) (fit : IsFit h low high uses) (want : Want) (b : Booked) (given : IsGiven h.bounce.per_page low h.maps want b next) (some : 0 < want.len) where
  pub slots_end : b.slot + pages_of want.len ≤ bounce_slots h
  slots_end = let high = given.high in let top = fit.low_end in omega arith

  pub pages_end : b.pages.first + b.pages.count ≤ length h.bounce.frames
  pages_end = given.inside (length h.bounce.frames) slots_end

  pub few_pages : length h.bounce.frames < 2 ^ 32
  few_pages =
      let small = fit.small in
      let some = fit.some in
      let one : suc 0 ≤ h.bounce.per_page = omega arith in
      let more : length h.bounce.frames * suc 0 ≤ length h.bounce.frames * h.bounce.per_page = mul-le-mul_left (length h.bounce.frames) one in
      omega arith

  pub covered : (a : ℕ) → 4096 * b.slot ≤ a → a < 4096 * b.slot + want.len → is_within b.pages.first b.pages.count (a / page_size h.bounce) ≡ true
  covered a below above = given.pages (a / page_size h.bounce) ∙ address_meets h.bounce.per_page b.slot want.len a fit.some below above

  module _ (c : Bounce) (same : SameShape h.bounce c)
      (frames : (p : ℕ) → p < length h.bounce.frames → is_some (frame_of c.frames p) ≡ (is_within b.pages.first b.pages.count p || is_some (frame_of h.bounce.frames p))) where
    pub fit_next : (counts : List ℕ) → ((p : ℕ) → slice_index counts p ≡ (if is_within b.pages.first b.pages.count p then slice_index uses p + 1 else slice_index uses p)) → length counts ≡ length uses
        → IsFit (one_more h c (mapping_given want b)) next high counts
    fit_next counts counted long =
        mapped_fit h low high uses fit (mapping_given want b) b.pages.first b.pages.count c next counts given.number (pages_some want.len some) same
        (gains_of h.bounce.per_page low next h.maps want b given) given.pages frames counted long

    pub stands_next : (x : Setting) (acts : List Act) (m n : PoolMemory) (text : List ℕ) → Stands x acts h m → IsOf x.per_page acts want text → length text ≡ want.len
        → ((p : Place) → value c n p ≡ (if is_to_device want.dir then over (home_place h.bounce (4096 * b.slot)) text p (value h.bounce m p) else value h.bounce m p))
        → Stands x (Driver (Mapped (mapping_given want b)) ∷ acts) (one_more h c (mapping_given want b)) n
    stands_next x acts m n text s is long values =
        mapped x acts h m s low high uses fit (mapping_given want b) text is long slots_end c n b.pages.first b.pages.count given.number same given.pages frames values

-- ---- the first of some wants, where the bounce memory is known by another name

module _ (h : Held) (old : Bounce) (named : h.bounce ≡ old) (low high after : Space) (uses : List ℕ) (fit : IsFit h low high uses) (want : Want) (wants : List Want) (b : Booked) (bs : List Booked)
    (given : AreGiven h.bounce.per_page low h.maps (want ∷ wants) (b ∷ bs) after) (some : 0 < want.len) (c : Bounce) (same : SameShape old c)
    (frames : (p : ℕ) → p < length old.frames → is_some (frame_of c.frames p) ≡ (is_within b.pages.first b.pages.count p || is_some (frame_of old.frames p))) where
  shape : SameShape h.bounce c
  shape = subst (λ (t : Bounce). SameShape t c) (sym named) same

  framed : (p : ℕ) → p < length h.bounce.frames → is_some (frame_of c.frames p) ≡ (is_within b.pages.first b.pages.count p || is_some (frame_of h.bounce.frames p))
  framed = subst (λ (t : Bounce). (p : ℕ) → p < length t.frames → is_some (frame_of c.frames p) ≡ (is_within b.pages.first b.pages.count p || is_some (frame_of t.frames p))) (sym named) frames

  pub first_given : AreGiven c.per_page given.0 (h.maps + 1) wants bs after
  first_given = subst (λ (g : ℕ). AreGiven g given.0 (h.maps + 1) wants bs after) (sym shape.size) given.2

  pub first_fit : (counts : List ℕ) → ((p : ℕ) → slice_index counts p ≡ (if is_within b.pages.first b.pages.count p then slice_index uses p + 1 else slice_index uses p)) → length counts ≡ length uses
      → IsFit (one_more h c (mapping_given want b)) given.0 high counts
  first_fit counts counted long = fit_next h low high given.0 uses fit want b given.1 some c shape framed counts counted long

  pub first_stands : (x : Setting) (acts : List Act) (m n : PoolMemory) (text : List ℕ) → Stands x acts h m → IsOf x.per_page acts want text → length text ≡ want.len
      → ((p : Place) → value c n p ≡ (if is_to_device want.dir then over (home_place old (4096 * b.slot)) text p (value old m p) else value old m p))
      → Stands x (Driver (Mapped (mapping_given want b)) ∷ acts) (one_more h c (mapping_given want b)) n
  first_stands x acts m n text s is long values =
      stands_next h low high given.0 uses fit want b given.1 some c shape framed x acts m n text s is long
      (subst (λ (t : Bounce). (p : Place) → value c n p ≡ (if is_to_device want.dir then over (home_place t (4096 * b.slot)) text p (value t m p) else value t m p)) (sym named) values)

  -- what the others come to from there on is what all come to
  pub rest_fit : (d : Bounce) (counts : List ℕ) → IsFit (with_mappings (one_more h c (mapping_given want b)) d (streamings wants bs)) after high counts → IsFit (with_mappings h d (streamings (want ∷ wants) (b ∷ bs))) after high counts
  rest_fit d counts f =
      subst (λ (k : Held). IsFit k after high counts)
      (with_mappings_any (record h { live = h.live ++ mapping_given want b ∷ []; maps = h.maps + 1; is_shown = true }) c d (streamings wants bs)) f

  pub rest_stands : (x : Setting) (acts : List Act) (d : Bounce) (n : PoolMemory) → Stands x (map_acts (streamings wants bs) ++ Driver (Mapped (mapping_given want b)) ∷ acts) (with_mappings (one_more h c (mapping_given want b)) d (streamings wants bs)) n
      → Stands x (map_acts (streamings (want ∷ wants) (b ∷ bs)) ++ acts) (with_mappings h d (streamings (want ∷ wants) (b ∷ bs))) n
  rest_stands x acts d n s =
      subst (λ (k : Held). Stands x (map_acts (streamings (want ∷ wants) (b ∷ bs)) ++ acts) k n)
      (with_mappings_any (record h { live = h.live ++ mapping_given want b ∷ []; maps = h.maps + 1; is_shown = true }) c d (streamings wants bs))
      (subst (λ (done : List Act). Stands x done (with_mappings (one_more h c (mapping_given want b)) d (streamings wants bs)) n)
      (sym (append_assoc (map_acts (streamings wants bs)) (Driver (Mapped (mapping_given want b)) ∷ []) acts)) s)

-- all of them at once
pub with_mappings_is : (h : Held) (b : Bounce) (ms : List Streaming) → 0 < length ms → with_mappings h b ms ≡ record h { bounce = b; live = h.live ++ ms; maps = h.maps + length ms; is_shown = true }
with_mappings_is h b [] some = absurd (omega (arith, some))
with_mappings_is h b (m ∷ []) some = refl
with_mappings_is h b (m ∷ k ∷ ms) some =
    with_mappings_is (record h { live = h.live ++ m ∷ []; maps = h.maps + 1; is_shown = true }) b (k ∷ ms) (omega arith)
    ∙ ap (λ (l : List Streaming). record h { bounce = b; live = l; maps = h.maps + 1 + length (k ∷ ms); is_shown = true }) (append_assoc h.live (m ∷ []) (k ∷ ms))
    ∙ ap (λ (n : ℕ). record h { bounce = b; live = h.live ++ m ∷ k ∷ ms; maps = n; is_shown = true }) (let sum : h.maps + 1 + length (k ∷ ms) ≡ h.maps + length (m ∷ k ∷ ms) = omega arith in sum)

-- what is held by the acts is what is held in the space
pub seen_of : (x : Setting) (acts : List Act) (h : Held) (m : PoolMemory) (low high : Space) (uses : List ℕ) → Stands x acts h m → IsFit h low high uses → IsSeen low (map mapping_holds h.live) (taken_slots acts)
seen_of x acts h m low high uses s fit start n below above =
    sym (meets_same x acts h m s low high uses fit n start (subst (λ k. k ≤ start) (fit.low_first ∙ sym s.per_page) below) (subst (λ k. start + n ≤ k) (fit.low_end ∙ sym s.bounce) above))
    ∙ meets_are low h.maps (map mapping_holds h.live) fit.maps start n
