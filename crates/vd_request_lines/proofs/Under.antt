-- What is brought back from the device's memory doesn't hang on what the driver put into its rings.
use Rattle.std.proofs.Common.{◌≡◌, ℕ, ◌+◌, ◌-◌, ◌*◌, ◌<◌, ◌≤◌, Bool, true, false, if◌then◌else◌, nat_lt, ◌==◌, ◌&&◌, refl, ap, sym, ◌∙◌, subst, arith, List, [], ◌∷◌, ◌++◌, append_assoc, length, Some, None, Option, true≢false}
use Rattle.std.specs.Prelude.{find}
use Rattle.std.specs.List.{All, slice_index}
use Rattle.std.proofs.lemmas.List.Elements.{All-weaker}
use Rattle.std.specs.Option.{option_and_then, option_map_or}
use Rattle.std.proofs.lemmas.Bool.Decides.{nat_tests}
use Rattle.vd_num.specs.Number.{is_within, pages_of}
use Rattle.vd_model.specs.Setting.{Setting}
use Rattle.vd_model.specs.Acts.{Act, Driver, Queue, QueueAct, Streaming, Unmapped, Driver_put}
use Rattle.vd_model.specs.Live.{Registration, registration_of, live_mappings, live_regions, iova_of}
use Rattle.vd_model.specs.Puts.{Iova, Area, Ram, ram, shown_put, last_put, put_or, put_if, home_cell, is_moved, address_put, address_put_if, area_address, is_from_device}
use Rattle.vd_model.specs.RingTurns.{unmap_act, unmap_acts}
use Rattle.vd_domain.proofs.Puttings.{IsAddressed, driver_addressed}
use Rattle.vd_domain.proofs.Holdings.{found_all}
use Rattle.vd_ring_memory.proofs.RingTelling.{shown_ring_put}
use Rattle.vd_ring_memory.specs.RingPuts.{IsRingPut}
use Rattle.vd_domain.specs.Apart.{AreApart}
use Rattle.vd_driver_port.proofs.Quiet.{high_of}

-- what no unmap changes, some unmaps don't change
pub unmaps_same : {X : Type 0} (f : List Act → X) → ((m : Streaming) (done : List Act) → f (Driver (Unmapped m) ∷ done) ≡ f done) → (mappings : List Streaming) (numbers : List ℕ) (done : List Act)
    → f (unmap_acts mappings numbers ++ done) ≡ f done
unmaps_same f one mappings [] done = refl
unmaps_same f one mappings (number ∷ numbers) done =
    ap f (append_assoc (unmap_acts mappings numbers) (unmap_act mappings number) done)
    ∙ unmaps_same f one mappings numbers (unmap_act mappings number ++ done)
    ∙ by (find (λ m. m.number == number) mappings) where
      by : (o : Option Streaming) → f (option_map_or (λ m. Driver (Unmapped m) ∷ []) o [] ++ done) ≡ f done
      by None = refl
      by (Some m) = one m done

-- an act that puts nothing at an address leaves the byte that is shown there
module _ (g : ℕ) (acts : List Act) (act : Act) (way : IsAddressed g acts act) (a : ℕ) (none : address_put g (last_put g acts) acts act a ≡ None) where
  quiet_cell : (r : Option Registration) → registration_of acts ≡ r → last_put g (act ∷ acts) (home_cell r a) ≡ last_put g acts (home_cell r a)
  quiet_cell None e = way.iova a (ap (λ r. is_moved r a) e) ∙ ap (λ o. put_or o (last_put g acts) (Iova a)) none
  quiet_cell (Some r) e = by (nat_lt a r.size) refl where
    by : (t : Bool) → nat_lt a r.size ≡ t
        → last_put g (act ∷ acts) (if nat_lt a r.size then Area (r.base + a) else Iova a) ≡ last_put g acts (if nat_lt a r.size then Area (r.base + a) else Iova a)
    by true f =
        let within : is_within r.base r.size (r.base + a) ≡ true = grind (arith, nat_tests, f) in
        let back : r.base + a - r.base ≡ a = omega arith in
        ap (λ t. last_put g (act ∷ acts) (if t then Area (r.base + a) else Iova a)) f
        ∙ way.area (r.base + a)
        ∙ ap (λ o. put_or (option_and_then (address_put g (last_put g acts) acts act) o) (last_put g acts) (Area (r.base + a)))
        (ap (λ o. area_address o (r.base + a)) e ∙ ap (λ t. if t then Some (r.base + a - r.base) else None) within ∙ ap Some back)
        ∙ ap (λ o. put_or o (last_put g acts) (Area (r.base + a))) none
        ∙ sym (ap (λ t. last_put g acts (if t then Area (r.base + a) else Iova a)) f)
    by false f =
        ap (λ t. last_put g (act ∷ acts) (if t then Area (r.base + a) else Iova a)) f
        ∙ way.iova a (ap (λ r. is_moved r a) e ∙ f)
        ∙ ap (λ o. put_or o (last_put g acts) (Iova a)) none
        ∙ sym (ap (λ t. last_put g acts (if t then Area (r.base + a) else Iova a)) f)

queue_addressed : (g : ℕ) (acts : List Act) (act : QueueAct) → IsAddressed g acts (Queue act)
queue_addressed g acts act = record {
  iova = λ a here. ap (λ t. put_or (address_put_if t g (last_put g acts) acts (Queue act) a) (last_put g acts) (Iova a)) here;
  area = λ o. refl;
}

-- buffers, and what is shown of bounce memory, are the same after some acts as after others
pub record AreLike (g top : ℕ) (more acts : List Act) : Type 0 where
  pub reg : registration_of more ≡ registration_of acts
  pub rams : (k i : ℕ) → ram g more k i ≡ ram g acts k i
  pub low : (a : ℕ) → a < top → (shown_put g more a).byte ≡ (shown_put g acts a).byte

module _ (g top : ℕ) (more acts : List Act) (like : AreLike g top more acts) (m : Streaming) (low : 4096 * (m.slot + pages_of m.want.len) ≤ top) where
  fetched : (t : Bool) (k i : ℕ) → (is_from_device m.want.dir && (k == m.want.buffer) && is_within m.want.offset m.want.len i) ≡ t
      → (put_or (put_if t (last_put g more) (home_cell (registration_of more) (iova_of m + (i - m.want.offset)))) (last_put g more) (Ram k i)).byte
      ≡ (put_or (put_if t (last_put g acts) (home_cell (registration_of acts) (iova_of m + (i - m.want.offset)))) (last_put g acts) (Ram k i)).byte
  fetched false k i e = like.rams k i
  fetched true k i e = like.low (iova_of m + (i - m.want.offset)) (below (last_of (is_from_device m.want.dir) (k == m.want.buffer) (is_within m.want.offset m.want.len i) e)) where
    last_of : (a b c : Bool) → (a && b && c) ≡ true → c ≡ true
    last_of true true c e = e
    last_of true false c e = absurd (true≢false (sym e))
    last_of false b c e = absurd (true≢false (sym e))

    below : is_within m.want.offset m.want.len i ≡ true → 4096 * m.slot + (i - m.want.offset) < top
    below f =
        let inside : i - m.want.offset < m.want.len = grind (arith, nat_tests, f) in
        omega (arith, inside, low)

  unmapped_like : AreLike g top (Driver (Unmapped m) ∷ more) (Driver (Unmapped m) ∷ acts)
  unmapped_like = record {
    reg = like.reg;
    rams = λ k i. fetched (is_from_device m.want.dir && (k == m.want.buffer) && is_within m.want.offset m.want.len i) k i refl;
    low = λ a below. ap (λ p. p.byte) (quiet_cell g more (Driver (Unmapped m)) (driver_addressed g more (Unmapped m)) a refl (registration_of more) refl)
        ∙ like.low a below
        ∙ sym (ap (λ p. p.byte) (quiet_cell g acts (Driver (Unmapped m)) (driver_addressed g acts (Unmapped m)) a refl (registration_of acts) refl));
  }

-- so are they after the same unmaps
unmaps_like : (g top : ℕ) (mappings : List Streaming) → All (λ (m : Streaming). 4096 * (m.slot + pages_of m.want.len) ≤ top) mappings → (numbers : List ℕ) (more acts : List Act)
    → AreLike g top more acts → AreLike g top (unmap_acts mappings numbers ++ more) (unmap_acts mappings numbers ++ acts)
unmaps_like g top mappings low [] more acts like = like
unmaps_like g top mappings low (number ∷ numbers) more acts like =
    subst (λ l. AreLike g top l ((unmap_acts mappings numbers ++ unmap_act mappings number) ++ acts)) (sym (append_assoc (unmap_acts mappings numbers) (unmap_act mappings number) more))
    (subst (λ l. AreLike g top (unmap_acts mappings numbers ++ (unmap_act mappings number ++ more)) l) (sym (append_assoc (unmap_acts mappings numbers) (unmap_act mappings number) acts))
    (unmaps_like g top mappings low numbers (unmap_act mappings number ++ more) (unmap_act mappings number ++ acts)
    (by (find (λ m. m.number == number) mappings) refl))) where
      by : (o : Option Streaming) → find (λ m. m.number == number) mappings ≡ o
          → AreLike g top (option_map_or (λ m. Driver (Unmapped m) ∷ []) o [] ++ more) (option_map_or (λ m. Driver (Unmapped m) ∷ []) o [] ++ acts)
      by None e = like
      by (Some m) e = unmapped_like g top more acts like m (found_all (λ (m : Streaming). 4096 * (m.slot + pages_of m.want.len) ≤ top) (λ m. m.number == number) mappings m low e)

-- a put into coherent memory is seen nowhere below its regions
module _ (x : Setting) (acts : List Act) (apart : AreApart x acts) (at : ℕ) (bytes : List ℕ) (only : IsRingPut acts (Driver (Driver_put at bytes))) where
  off : (a : ℕ) → a < 4096 * x.bounce → (t : Bool) → is_within at (length bytes) a ≡ t → is_within at (length bytes) a ≡ false
  off a below false e = e
  off a below true e =
      let from : at ≤ a = grind (arith, nat_tests, e) in
      let to : a < at + length bytes = grind (arith, nat_tests, e) in
      let high = high_of x (live_regions acts) apart.high a (only a from to) in
      absurd (omega (arith, high, below))

  pub put_like : AreLike x.per_page (4096 * x.bounce) (Driver (Driver_put at bytes) ∷ acts) acts
  put_like = record {
    reg = refl;
    rams = λ k i. refl;
    low = λ a below. shown_ring_put x.per_page acts at bytes a
        ∙ ap (λ t. if t then slice_index bytes (a - at) else (shown_put x.per_page acts a).byte) (off a below (is_within at (length bytes) a) refl);
  }

pub queue_like : (g top : ℕ) (more acts : List Act) (act : QueueAct) → AreLike g top more acts → AreLike g top (Queue act ∷ more) acts
queue_like g top more acts act like = record {
  reg = like.reg;
  rams = λ k i. like.rams k i;
  low = λ a below. ap (λ p. p.byte) (quiet_cell g more (Queue act) (queue_addressed g more act) a refl (registration_of more) refl) ∙ like.low a below;
}

pub like_self : (g top : ℕ) (acts : List Act) → AreLike g top acts acts
like_self g top acts = record { reg = refl; rams = λ k i. refl; low = λ a below. refl }

-- the bytes of a buffer after the unmaps of live mappings
pub ram_like : (x : Setting) (more acts : List Act) → AreApart x acts → AreLike x.per_page (4096 * x.bounce) more acts → (numbers : List ℕ) (k i : ℕ)
    → ram x.per_page (unmap_acts (live_mappings acts) numbers ++ more) k i ≡ ram x.per_page (unmap_acts (live_mappings acts) numbers ++ acts) k i
ram_like x more acts apart like numbers k i =
    (unmaps_like x.per_page (4096 * x.bounce) (live_mappings acts)
    (All-weaker (λ (m : Streaming). m.slot + pages_of m.want.len ≤ x.bounce) (λ (m : Streaming). 4096 * (m.slot + pages_of m.want.len) ≤ 4096 * x.bounce) (λ m h. omega (arith, h)) (live_mappings acts) apart.low)
    numbers more acts like).rams k i
