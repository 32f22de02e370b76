-- What belongs to a queue, and the turn of a line on the device.
use Rattle.std.proofs.Common.{◌≡◌, ℕ, zero, suc, ◌+◌, ◌<◌, ◌≤◌, arith, Bool, true, false, refl, ap, sym, subst, ◌∙◌, not, List, length, take, Option, Some, None, true≢false, ◌==◌, inl, inr}
use Rattle.std.specs.Prelude.{◌&&◌, ◌||◌, slice_index_or}
use Rattle.std.specs.List.{list_any}
use Rattle.std.specs.Option.{option_map_or}
use Rattle.std.proofs.lemmas.Bool.Decides.{eqb_tells}
use Rattle.std.proofs.lemmas.Bool.{cases_lt}
use Rattle.std.proofs.lemmas.List.{take_more, take_all, get_or_past}
use Rattle.vd_num.specs.declared.errno.Errno.TheVariants.{Busy, Nodev}
use Rattle.vd_pool.specs.Memory.{PoolMemory as Pool}
use Rattle.vd_model.specs.declared.step.DevStep.{DevStep}
use Rattle.vd_model.specs.declared.step.DevStep.TheVariants as line
use Rattle.vd_model.specs.declared.step.DriverStep.TheVariants as driver
use Rattle.vd_model.specs.Setting.{Setting}
use Rattle.vd_model.specs.Creation.{Creation}
use Rattle.vd_model.specs.Acts.{Act, AddedChain, Request, Driver}
use Rattle.vd_model.specs.Live.{is_attached}
use Rattle.vd_model.specs.Deeds.{Seen}
use Rattle.vd_model.specs.Turn.{Turn, refuse, refusal_if, refusal_turn, lift}
use Rattle.vd_model.specs.BusTurns.{bus_turn}
use Rattle.vd_model.specs.DriverTurns.{driver_turn}
use Rattle.vd_model.specs.Queues.{Ring, ring_of, chains_out, is_ring_region, some_pending}
use Rattle.vd_model.specs.History.{dev_turn, needs_bus, is_kept}
use Rattle.vd_device.specs.Turns.{line_turn}
use Rattle.vd_queue_sides.proofs.Daemons.{itself}
use Rattle.vd_queue_sides.proofs.Lists.{any_more}
use Rattle.vd_request_lines.specs.declared.held.HeldDriver.{HeldDriver}
use Rattle.vd_request_lines.specs.Stands.{RequestsStand, ring_in, pending_held}
use Rattle.vd_request_lines.proofs.Pendings.{pending_any}
use Rattle.vd_instance.specs.declared.instance.Instance.{Instance}
use Rattle.vd_instance.specs.Lines.{takes_kept}
use Rattle.vd_instance.specs.Drivers.{is_in, owns}
use Rattle.vd_instance.specs.Stands.{Stands, kept_driver, kept_ring}
use Rattle.vd_instance.proofs.Calm.{MayFree}
use Rattle.vd_instance.proofs.Deeds.{IsSpared, both_of}

or_true : (a : Bool) → (a || true) ≡ true
or_true true = refl
or_true false = refl

or_swap : (a b : Bool) → (a || b) ≡ (b || a)
or_swap true b = sym (or_true b)
or_swap false true = refl
or_swap false false = refl

-- a ring of one of the first n queues lies in its region
is_below : (acts : List Act) (region : ℕ) (r : Ring) (q n : ℕ) → q < n → ring_of acts q ≡ Some r → r.region ≡ region → is_ring_region acts region n ≡ true
is_below acts region r q zero less e f = absurd (omega (arith, less))
is_below acts region r q (suc n) less e f = elim (eqb_tells q n) [ inl h ↦ here h.1 | inr h ↦ before h.1 (λ fewer. is_below acts region r q n fewer e f) ] where
  here : q ≡ n → is_ring_region acts region (suc n) ≡ true
  here h =
      ap (λ o. option_map_or (λ s. s.region == region) o false || is_ring_region acts region n) (sym (ap (λ j. ring_of acts j) h) ∙ e)
      ∙ ap (λ j. (j == region) || is_ring_region acts region n) f
      ∙ ap (λ t. t || is_ring_region acts region n) (itself region)

  before : (q ≡ n → ⊥) → (q < n → is_ring_region acts region n ≡ true) → is_ring_region acts region (suc n) ≡ true
  before ne rest =
      let fewer : q < n = omega (arith, less, ne) in
      ap (λ t. option_map_or (λ s. s.region == region) (ring_of acts n) false || t) (rest fewer)
      ∙ or_true (option_map_or (λ s. s.region == region) (ring_of acts n) false)

-- what is true of some of the first n places
any_taken : (f : Option HeldDriver → Bool) (g h : ℕ → Bool) → h zero ≡ false → ((n : ℕ) → h (suc n) ≡ (g n || h n)) → (places : List (Option HeldDriver))
    → ((q : ℕ) → f (slice_index_or places q None) ≡ g q) → (n : ℕ) → n ≤ length places → list_any f (take n places) ≡ h n
any_taken f g h start more places each zero le = sym start
any_taken f g h start more places each (suc n) le =
    let less : n < length places = omega (arith, le) in
    let fewer : n ≤ length places = omega (arith, le) in
    let same : suc n ≡ n + 1 = omega arith in
    ap (λ k. list_any f (take k places)) same ∙ ap (list_any f) (take_more places n None less) ∙ any_more f (take n places) (slice_index_or places n None)
    ∙ ap (λ t. t || f (slice_index_or places n None)) (any_taken f g h start more places each n fewer)
    ∙ or_swap (h n) (f (slice_index_or places n None))
    ∙ ap (λ t. t || h n) (each n)
    ∙ sym (more n)

any_place : {x : Setting} {made : Creation} {acts : List Act} {i : Instance} {m : Pool} (f : Option HeldDriver → Bool) (g h : ℕ → Bool) → h zero ≡ false → ((n : ℕ) → h (suc n) ≡ (g n || h n))
    → ((q : ℕ) → f (kept_driver i q) ≡ g q) → Stands x made acts i m → list_any f i.drivers.items ≡ h made.queues
any_place {x} {made} {acts} {i} f g h start more each s =
    let same : length i.drivers.items ≤ length i.drivers.items = omega arith in
    ap (list_any f) (sym (take_all (length i.drivers.items) i.drivers.items same)) ∙ any_taken f g h start more i.drivers.items each (length i.drivers.items) same ∙ ap h s.places

-- a queue's ring lies in a region if that which is kept does
in_as : (acts : List Act) (region q : ℕ) (kept : Option HeldDriver) → RequestsStand acts q kept → is_in region kept ≡ option_map_or (λ s. s.region == region) (ring_of acts q) false
in_as acts region q None s = sym (ap (λ o. option_map_or (λ r. r.region == region) o false) s.side)
in_as acts region q (Some held) s = sym (ap (λ o. option_map_or (λ r. r.region == region) o false) s.side.ring)

pub any_region : {x : Setting} {made : Creation} {acts : List Act} {i : Instance} {m : Pool} (region : ℕ) → Stands x made acts i m → list_any (is_in region) i.drivers.items ≡ is_ring_region acts region made.queues
any_region {x} {made} {acts} {i} region s =
    any_place (is_in region) (λ q. option_map_or (λ r. r.region == region) (ring_of acts q) false) (is_ring_region acts region) refl (λ n. refl) (λ q. in_as acts region q (kept_driver i q) (s.drivers q)) s

-- and some pending request of a queue passes if one that is kept does
pub any_pending : {x : Setting} {made : Creation} {acts : List Act} {i : Instance} {m : Pool} (passes : Option Request → Bool) → passes None ≡ false → Stands x made acts i m
    → list_any (owns passes) i.drivers.items ≡ some_pending passes acts made.queues
any_pending {x} {made} {acts} {i} passes off s =
    any_place (owns passes) (λ q. list_any (λ (chain : AddedChain). passes chain.request) (chains_out acts q)) (some_pending passes acts) refl (λ n. refl)
    (λ q. sym (pending_any passes off (chains_out acts q) (pending_held (kept_driver i q)) (s.drivers q).pending)) s

-- ---- the queue of a ring is there

pub is_placed : (places : List (Option HeldDriver)) (q : ℕ) (held : HeldDriver) → slice_index_or places q None ≡ Some held → q < length places
is_placed places q held e = elim (cases_lt q (length places)) [ inl h ↦ h | inr h ↦ absurd (none (sym (get_or_past places q None h) ∙ e)) ] where
  none : None ≡ Some held → ⊥
  none e = cc

-- a region of no ring is spared
pub may_free : Creation → List Act → ℕ → Bool
may_free made acts region = not (is_ring_region acts region made.queues)

pub spares : {x : Setting} {made : Creation} {acts : List Act} {i : Instance} {m : Pool} → Stands x made acts i m → (q : ℕ) → IsSpared (may_free made acts) (kept_ring i q)
unfolding may_free
spares {x} {made} {acts} {i} s q = by (kept_driver i q) refl where
  by : (kept : Option HeldDriver) → kept_driver i q ≡ kept → IsSpared (may_free made acts) (ring_in kept)
  by None e = tt
  by (Some held) e = λ n f. elim (eqb_tells n held.region) [ inl h ↦ absurd (clash n f h.1) | inr h ↦ h.0 ] where
    there : q < made.queues
    there = subst (λ n. q < n) s.places (is_placed i.drivers.items q held e)

    stands : RequestsStand acts q (Some held)
    stands = subst (λ k. RequestsStand acts q k) e (s.drivers q)

    clash : (n : ℕ) → not (is_ring_region acts n made.queues) ≡ true → n ≡ held.region → ⊥
    clash n f h = true≢false (sym (sym (ap not (is_below acts n (record { place = held.driver.ring.place; region = held.region }) q made.queues there stands.side.ring (sym h))) ∙ f))

-- ---- the turn

not_both : (a b : Bool) → (a && b) ≡ false → a ≡ true → b ≡ false
not_both true b e f = e
not_both false b e f = absurd (true≢false (sym f))

pub may_end : (made : Creation) (acts : List Act) (step : DevStep) → takes_kept made acts step ≡ false → MayFree (may_free made acts) acts step
unfolding may_free
may_end made acts (line.Driver (driver.FreeCoherent region)) e = λ on. ap not (not_both (is_attached acts) (is_ring_region acts region made.queues) e on)
may_end made acts _ e = tt

pub dev_refused : (x : Setting) (made : Creation) (seen : Seen) (step : DevStep) → takes_kept made seen.acts step ≡ true → dev_turn x made seen step ≡ refusal_turn Busy
dev_refused x made seen (line.Driver step) e =
    let both = both_of (is_attached seen.acts) (is_kept made seen.acts step) e in
    ap (λ t. refuse (refusal_if (not t) Nodev) (refuse (refusal_if (is_kept made seen.acts step) Busy) (lift Driver (driver_turn x seen.acts step)))) both.0
    ∙ ap (λ t. refuse (refusal_if t Busy) (lift Driver (driver_turn x seen.acts step))) both.1
dev_refused x made seen _ e = absurd (true≢false (sym e))

module _ (x : Setting) (made : Creation) (seen : Seen) where
  by_bus : (turn : Turn Act) (kept : Bool) (on : Bool) → is_attached seen.acts ≡ on → (on ≡ true → kept ≡ false) → needs_bus seen.acts (refuse (refusal_if kept Busy) turn) ≡ needs_bus seen.acts turn
  by_bus turn kept false e free =
      ap (λ t. refuse (refusal_if (not t) Nodev) (refuse (refusal_if kept Busy) turn)) e ∙ sym (ap (λ t. refuse (refusal_if (not t) Nodev) turn) e)
  by_bus turn kept true e free = ap (λ t. needs_bus seen.acts (refuse (refusal_if t Busy) turn)) (free refl)

  pub dev_is : (now : ℕ) → seen.now ≡ now → (step : DevStep) → takes_kept made seen.acts step ≡ false → dev_turn x made seen step ≡ line_turn x made now seen.acts step
  dev_is now e (line.Node step) f = refl
  dev_is now e (line.Area step) f = refl
  dev_is now e (line.Bus step) f = ap (λ n. bus_turn made n seen.acts step) e
  dev_is now e (line.Driver step) f =
      by_bus (lift Driver (driver_turn x seen.acts step)) (is_kept made seen.acts step) (is_attached seen.acts) refl (not_both (is_attached seen.acts) (is_kept made seen.acts step) f)
