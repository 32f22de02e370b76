-- A domain with other coherent regions, and the range that one of them takes.
use Rattle.std.proofs.Common.{◌≡◌, ℕ, ◌+◌, ◌-◌, ◌<◌, ◌≤◌, ap, sym, subst, ◌∙◌, List, Some, if◌then◌else◌, ◌==◌, length, Option, None, arith}
use Rattle.std.specs.List.{slice_set}
use Rattle.vd_pool.specs.Memory.{PoolMemory, Grows}
use Rattle.vd_num.specs.Number.{pages_of}
use Rattle.vd_bounce.specs.Bounce as b
use Rattle.vd_iova.specs.Space.{Space, taken_of, taken_at}
use Rattle.vd_model.specs.Setting.{Setting, bounce_size}
use Rattle.vd_model.specs.Acts.{Act, Coherent}
use Rattle.vd_model.specs.Place.{place_of}
use Rattle.vd_domain.specs.Held.{Held, IsFit, bounce_slots, coherent_of}
use Rattle.vd_domain.specs.Stands.{Stands}
use Rattle.vd_domain.proofs.Holdings.{Gains, place_clear}
use Rattle.vd_domain.proofs.Steps.{grown_value}
use Rattle.vd_domain.proofs.Ended.{taken_is, begins}

-- ---- with other regions

pub stands_regions : {x : Setting} {acts : List Act} {m : PoolMemory} (h : Held) (l k : List Coherent) (i j : ℕ) → l ≡ k → i ≡ j → Stands x acts (record h { regions = k; made = j }) m → Stands x acts (record h { regions = l; made = i }) m
stands_regions {x} {acts} {m} h l k i j p q s = subst (λ (t : List Coherent). Stands x acts (record h { regions = t; made = i }) m) (sym p) (subst (λ n. Stands x acts (record h { regions = k; made = n }) m) (sym q) s)

pub fit_regions : {low high : Space} {uses : List ℕ} (h : Held) (l k : List Coherent) (i j : ℕ) → l ≡ k → i ≡ j → IsFit (record h { regions = k; made = j }) low high uses → IsFit (record h { regions = l; made = i }) low high uses
fit_regions {low} {high} {uses} h l k i j p q s = subst (λ (t : List Coherent). IsFit (record h { regions = t; made = i }) low high uses) (sym p) (subst (λ n. IsFit (record h { regions = k; made = n }) low high uses) (sym q) s)

pub region_inside_of : {h k : Held} (a : ℕ) (r : Coherent) → h ≡ k → coherent_of k a ≡ Some r → coherent_of h a ≡ Some r
region_inside_of a r e f = subst (λ (t : Held). coherent_of t a ≡ Some r) (sym e) f

pub region_outside : {h k : Held} (a : ℕ) (o : Option Coherent) → h ≡ k → coherent_of h a ≡ o → coherent_of k a ≡ o
region_outside a o e f = subst (λ (t : Held). coherent_of t a ≡ o) e f

pub no_region : {r : Coherent} → None ≡ Some r → ⊥
no_region e = cc

pub same_region : (h : Held) (a : ℕ) (r k : Coherent) → coherent_of h a ≡ Some r → coherent_of h a ≡ Some k → r ≡ k
same_region h a r k e f = let both : Some r ≡ Some k = sym e ∙ f in cc

-- where a live region lies in coherent memory
pub record RegionLies (h : Held) (high : Space) (r : Coherent) : Type 0 where
  pub begins : bounce_slots h ≤ r.slot
  pub small : r.slot ≤ 65536
  pub range : r.slot - bounce_slots h + pages_of r.len ≤ length h.shared.frames
  pub taken : 0 < taken_at high r.slot

pub region_lies : (h : Held) (low high : Space) (uses : List ℕ) → IsFit h low high uses → (a : ℕ) (r : Coherent) → coherent_of h a ≡ Some r → RegionLies h high r
region_lies h low high uses fit a r e =
    let t = taken_is h low high uses fit a r e in
    let from = begins h low high uses fit a r e in
    let some = t.some in
    let to = t.high in
    let top = fit.high_end in
    let small = fit.small in
    let taken = t.taken in
    record { begins = from; small = omega arith; range = omega arith; taken = omega arith }

-- ---- what a take gives

pub gains_take : (old new : Space) (number slot n m : ℕ) → n ≡ m → Some slot ≡ place_of (taken_of old) n old.first old.«end» → new ≡ record old { counts = slice_set old.counts slot n }
    → ((q : ℕ) → taken_at new q ≡ (if q == slot then n else taken_at old q)) → (old.first ≤ slot) × (slot + n ≤ old.«end») → taken_at old slot ≡ 0
    → Gains (record { number = number; slot = slot; count = m }) old new
gains_take old new number slot n m same place is taken within fresh = subst (λ k. Gains (record { number = number; slot = slot; count = k }) old new) same (record {
  first = ap (λ (s : Space). s.first) is;
  top = ap (λ (s : Space). s.«end») is;
  low = within.0;
  high = within.1;
  fresh = fresh;
  taken = taken;
  clear = place_clear (taken_of old) n old.first old.«end» slot place;
})

-- ---- coherent memory with more frames to give

pub spared_stands : (x : Setting) (acts : List Act) (h : Held) (m store : PoolMemory) → Grows h.store store → Stands x acts h m → Stands x acts (record h { store = store }) m
spared_stands x acts h m store g s = record {
  bounce = s.bounce;
  iova = s.iova;
  per_page = s.per_page;
  live = s.live;
  maps = s.maps;
  regions = s.regions;
  made = s.made;
  is_shown = s.is_shown;
  area = s.area;
  registered = s.registered;
  present = s.present;
  bytes = s.bytes;
  area_bytes = s.area_bytes;
  shared = λ a above covered. grown_value h.shared h.store store g (b.Iova (a - bounce_size x)) ∙ s.shared a above covered;
}
