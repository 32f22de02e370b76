-- What is kept of origins, after one act more.
use Rattle.std.proofs.Common.{◌≡◌, ℕ, zero, suc, ◌+◌, ◌-◌, ◌*◌, ◌/◌, ◌<◌, ◌≤◌, ◌^◌, inl, inr, refl, ap, sym, subst, ◌∙◌, arith, Bool, true, false, ◌==◌, ◌&&◌, ◌||◌, not, nat_lt, if◌then◌else◌, List, [], ◌∷◌, ◌++◌, length, map, filter, find, cond, Option, Some, None}
use Rattle.std.proofs.lemmas.Bool.Decides.{nat_tests, leb_tells}
use Rattle.std.specs.Prelude.{unwrap_or, is_some, slice_get}
use Rattle.std.specs.List.{list_any}
use Rattle.std.specs.Option.{option_map, option_and_then}
use Rattle.vd_num.specs.Number.{is_within, pages_of}
use Rattle.vd_origins.specs.Runs.{origin_at}
use Rattle.vd_model.specs.declared.memory.Origin.{Origin}
use Rattle.vd_model.specs.declared.memory.Origin.TheVariants.{Zero, Daemon, Handed}
use Rattle.vd_model.specs.Acts.{Act, Streaming, Coherent, Node, Driver, Daemon_put, Area_made, Area_put, Registered, Deregistered, Mapped, Unmapped, Synced_device, Region_made, Region_freed, Driver_put}
use Rattle.vd_model.specs.Live.{Registration, registration_of, live_mappings, live_regions, is_present, is_in_use, meets_page, page_of, maps_address, region_covers}
use Rattle.vd_model.specs.Puts.{Put, Cell, Iova, Area, last_put, put_or, iova_put, area_put, address_put, address_put_if, area_address, is_moved, home_cell, shown_put, text_at, zero_if, handed_put_if, put_if, or_put, is_to_device, returned_put}
use Rattle.vd_origin_moves.specs.declared.placed.Stretch.{Stretch}
use Rattle.vd_origin_moves.specs.declared.placed.Placed.{Placed}
use Rattle.vd_origin_moves.specs.declared.placed.Shared.{Shared}
use Rattle.vd_origin_moves.specs.declared.placed.Kept.{Kept}
use Rattle.vd_origin_moves.specs.Placed.{streaming, coherent, registration, stretch_of, stretch_meets, covers, area_has, lies_in_area, base_of}
use Rattle.vd_provenance.specs.Keeping.{Traced, KeepsOrigins, IsInside, PutAt, AreaSet, PagesCleared, HandedBy, Met, Adopted, Returned, is_there, is_seen}

-- ---- origins of puts

abbrev origin_of : Option Put → Option Origin
origin_of p = option_map (λ q. q.origin) p

put_origin : (p : Option Put) (before : Cell → Put) (cell : Cell) → (put_or p before cell).origin ≡ unwrap_or (origin_of p) (before cell).origin
put_origin (Some q) before cell = refl
put_origin None before cell = refl

get_tells : (o : Origin) (bytes : List ℕ) (i : ℕ) → origin_of (option_map (λ b. record { byte = b; origin = o }) (slice_get bytes i)) ≡ (if nat_lt i (length bytes) then Some o else None)
get_tells o [] zero = refl
get_tells o [] (suc i) = let no : nat_lt (suc i) 0 ≡ false = grind (arith, nat_tests) in sym (ap (λ b. if b then Some o else None) no)
get_tells o (b ∷ bytes) zero = let yes : nat_lt 0 (length (b ∷ bytes)) ≡ true = grind (arith, nat_tests) in sym (ap (λ b. if b then Some o else None) yes)
get_tells o (b ∷ bytes) (suc i) =
    let more : nat_lt i (length bytes) ≡ nat_lt (suc i) (length (b ∷ bytes)) = grind (arith, nat_tests) in
    get_tells o bytes i ∙ ap (λ b. if b then Some o else None) more

text_origin : (bytes : List ℕ) (at a : ℕ) (o : Origin) → origin_of (text_at bytes at a o) ≡ (if is_within at (length bytes) a then Some o else None)
text_origin bytes at a o = elim (leb_tells at a) [
  | inl upto ↦
      (let u = upto.1 in
      let turn : nat_lt (a - at) (length bytes) ≡ nat_lt a (at + length bytes) = grind (arith, nat_tests) in
      ap (λ b. origin_of (option_map (λ b. record { byte = b; origin = o }) (if b then slice_get bytes (a - at) else None))) upto.0
      ∙ get_tells o bytes (a - at)
      ∙ ap (λ b. if b then Some o else None) turn
      ∙ ap (λ b. if b && nat_lt a (at + length bytes) then Some o else None) (sym upto.0))
  | inr past ↦
      (ap (λ b. origin_of (option_map (λ b. record { byte = b; origin = o }) (if b then slice_get bytes (a - at) else None))) past.0
      ∙ ap (λ b. if b && nat_lt a (at + length bytes) then Some o else None) (sym past.0))
]

zero_origin : (b : Bool) → origin_of (zero_if b) ≡ (if b then Some Zero else None)
zero_origin true = refl
zero_origin false = refl

handed_origin : (b : Bool) (before : Cell → Put) (m : Streaming) (a : ℕ) → origin_of (handed_put_if b before m a) ≡ (if b then Some (Handed (Some m.number)) else None)
handed_origin true before m a = refl
handed_origin false before m a = refl

moved_origin : (b : Bool) (before : Cell → Put) (cell : Cell) → origin_of (put_if b before cell) ≡ (if b then Some (before cell).origin else None)
moved_origin true before cell = refl
moved_origin false before cell = refl

kept_is : (kept : Option Kept) (a : ℕ) → is_moved (option_map registration kept) a ≡ lies_in_area kept a
kept_is None a = refl
kept_is (Some k) a = refl

-- ---- an act that gives addresses an origin

-- what an act puts at addresses has this origin, at len addresses from `at` on
abbrev PutsAt : ℕ → List Act → Act → ℕ → ℕ → Origin → Type 0
PutsAt g acts act at len origin = (a : ℕ) → origin_of (address_put g (last_put g acts) acts act a) ≡ (if is_within at len a then Some origin else None)

-- it is kept where the address is
record IsPlain (g : ℕ) (acts : List Act) (act : Act) : Type 0 where
  iova : (a : ℕ) → iova_put g (last_put g acts) acts act a ≡ address_put_if (is_moved (registration_of acts) a) g (last_put g acts) acts act a
  area : (o : ℕ) → area_put g (last_put g acts) acts act o ≡ option_and_then (address_put g (last_put g acts) acts act) (area_address (registration_of acts) o)

bus_step : (g : ℕ) (acts : List Act) (act : Act) (a : ℕ) (m w : Bool) (origin old : Origin)
    → origin_of (address_put g (last_put g acts) acts act a) ≡ (if w then Some origin else None) → old ≡ (last_put g acts (Iova a)).origin
    → (if not m && w then origin else old) ≡ unwrap_or (origin_of (address_put_if m g (last_put g acts) acts act a)) (last_put g acts (Iova a)).origin
bus_step g acts act a true w origin old p e = e
bus_step g acts act a false true origin old p e = sym (ap (λ o. unwrap_or o (last_put g acts (Iova a)).origin) p)
bus_step g acts act a false false origin old p e = e ∙ sym (ap (λ o. unwrap_or o (last_put g acts (Iova a)).origin) p)

area_step : (g : ℕ) (acts : List Act) (act : Act) (o : ℕ) (kept : Option Kept) (at len : ℕ) (origin old : Origin)
    → PutsAt g acts act at len origin → old ≡ (last_put g acts (Area o)).origin
    → (if area_has kept at len o then origin else old)
    ≡ unwrap_or (origin_of (option_and_then (address_put g (last_put g acts) acts act) (area_address (option_map registration kept) o))) (last_put g acts (Area o)).origin
area_step g acts act o None at len origin old p e = e
area_step g acts act o (Some k) at len origin old p e = by (is_within k.base k.size o) (is_within at len (o - k.base)) (p (o - k.base)) where
  by : (b w : Bool) → origin_of (address_put g (last_put g acts) acts act (o - k.base)) ≡ (if w then Some origin else None)
      → (if b && w then origin else old)
      ≡ unwrap_or (origin_of (option_and_then (address_put g (last_put g acts) acts act) (if b then Some (o - k.base) else None))) (last_put g acts (Area o)).origin
  by false w p = e
  by true true p = sym (ap (λ x. unwrap_or x (last_put g acts (Area o)).origin) p)
  by true false p = e ∙ sym (ap (λ x. unwrap_or x (last_put g acts (Area o)).origin) p)

record Bytes (g : ℕ) (acts : List Act) (t : Traced) : Type 0 where
  bus : (a : ℕ) → a < 2 ^ 64 → origin_at t.bus a ≡ (last_put g acts (Iova a)).origin
  area : (o : ℕ) → o < 2 ^ 64 → origin_at t.area o ≡ (last_put g acts (Area o)).origin

bytes_put : (g : ℕ) (acts : List Act) (act : Act) (at len : ℕ) (origin : Origin) (t k : Traced) → KeepsOrigins g acts t → PutAt at len origin t k
    → PutsAt g acts act at len origin → IsPlain g acts act → Bytes g (act ∷ acts) k
bytes_put g acts act at len origin t k f put puts plain = record {
  bus = λ a less.
      put.bus a less
      ∙ bus_step g acts act a (lies_in_area t.kept a) (is_within at len a) origin (origin_at t.bus a) (puts a) (f.bus a less)
      ∙ ap (λ m. unwrap_or (origin_of (address_put_if m g (last_put g acts) acts act a)) (last_put g acts (Iova a)).origin) (sym (kept_is t.kept a) ∙ ap (λ r. is_moved r a) f.kept)
      ∙ ap (λ p. unwrap_or (origin_of p) (last_put g acts (Iova a)).origin) (sym (plain.iova a))
      ∙ sym (put_origin (iova_put g (last_put g acts) acts act a) (last_put g acts) (Iova a));
  area = λ o less.
      put.area o less
      ∙ area_step g acts act o t.kept at len origin (origin_at t.area o) puts (f.area o less)
      ∙ ap (λ r. unwrap_or (origin_of (option_and_then (address_put g (last_put g acts) acts act) (area_address r o))) (last_put g acts (Area o)).origin) f.kept
      ∙ ap (λ p. unwrap_or (origin_of p) (last_put g acts (Area o)).origin) (sym (plain.area o))
      ∙ sym (put_origin (area_put g (last_put g acts) acts act o) (last_put g acts) (Area o));
}

-- nothing is put where the origins stay
stays : (t : Traced) → PutAt 0 0 Zero t t
stays t = record {
  bus = λ a less. ap (λ b. if b then Zero else origin_at t.bus a) (sym (nowhere (not (lies_in_area t.kept a)) a));
  area = λ o less. ap (λ b. if b then Zero else origin_at t.area o) (sym (no_area t.kept o));
  rest = refl;
} where
  none : (a : ℕ) → is_within 0 0 a ≡ false
  none a = grind (arith, nat_tests)

  nowhere : (b : Bool) (a : ℕ) → (b && is_within 0 0 a) ≡ false
  nowhere true a = none a
  nowhere false a = refl

  no_area : (kept : Option Kept) (o : ℕ) → area_has kept 0 0 o ≡ false
  no_area None o = refl
  no_area (Some k) o = nowhere (is_within k.base k.size o) (o - k.base)

no_put : (a : ℕ) → None ≡ (if is_within 0 0 a then Some Zero else None)
no_put a = ap (λ b. if b then Some Zero else None) (sym none) where
  none : is_within 0 0 a ≡ false
  none = grind (arith, nat_tests)

-- ---- the acts

put_like : (g : ℕ) (acts : List Act) (act : Act) (t k : Traced) → Bytes g (act ∷ acts) k → KeepsOrigins g acts t
    → k.kept ≡ t.kept → k.live ≡ t.live → k.shared ≡ t.shared → k.met ≡ t.met
    → registration_of (act ∷ acts) ≡ registration_of acts → live_mappings (act ∷ acts) ≡ live_mappings acts → live_regions (act ∷ acts) ≡ live_regions acts
    → ((page : ℕ) → is_present g (act ∷ acts) page ≡ is_present g acts page) → KeepsOrigins g (act ∷ acts) k
put_like g acts act t k b f kept live shared met r l s p = record {
  bus = b.bus;
  area = b.area;
  kept = ap (λ x. option_map registration x) kept ∙ f.kept ∙ sym r;
  live = ap (λ x. map streaming x) live ∙ f.live ∙ sym l;
  shared = ap (λ x. map coherent x) shared ∙ f.shared ∙ sym s;
  present = λ page. ap (λ x. is_some x || list_any (stretch_meets g page) k.met) kept ∙ ap (λ x. is_some t.kept || list_any (stretch_meets g page) x) met ∙ f.present page ∙ sym (p page);
  inside = subst IsInside (sym kept) f.inside;
}

pub daemon_follows : (g : ℕ) (acts : List Act) (at len : ℕ) (bytes : List ℕ) (t k : Traced) → KeepsOrigins g acts t → length bytes ≡ len → PutAt at len Daemon t k
    → KeepsOrigins g (Node (Daemon_put at bytes) ∷ acts) k
daemon_follows g acts at len bytes t k f long put =
    put_like g acts (Node (Daemon_put at bytes)) t k
    (bytes_put g acts (Node (Daemon_put at bytes)) at len Daemon t k f put (λ a. text_origin bytes at a Daemon ∙ ap (λ n. if is_within at n a then Some Daemon else None) long) (record { iova = λ a. refl; area = λ o. refl }))
    f (ap (λ x. x.kept) put.rest) (ap (λ x. x.live) put.rest) (ap (λ x. x.shared) put.rest) (ap (λ x. x.met) put.rest) refl refl refl (λ page. refl)

pub driver_follows : (g : ℕ) (acts : List Act) (at len : ℕ) (bytes : List ℕ) (t k : Traced) → KeepsOrigins g acts t → length bytes ≡ len → PutAt at len (Handed None) t k
    → KeepsOrigins g (Driver (Driver_put at bytes) ∷ acts) k
driver_follows g acts at len bytes t k f long put =
    put_like g acts (Driver (Driver_put at bytes)) t k
    (bytes_put g acts (Driver (Driver_put at bytes)) at len (Handed None) t k f put (λ a. text_origin bytes at a (Handed None) ∙ ap (λ n. if is_within at n a then Some (Handed None) else None) long) (record { iova = λ a. refl; area = λ o. refl }))
    f (ap (λ x. x.kept) put.rest) (ap (λ x. x.live) put.rest) (ap (λ x. x.shared) put.rest) (ap (λ x. x.met) put.rest) refl refl refl (λ page. refl)

pub sync_follows : (g : ℕ) (acts : List Act) (p : Placed) (m : Streaming) (t k : Traced) → KeepsOrigins g acts t → streaming p ≡ m
    → PutAt (4096 * (p.iova / 4096)) p.want.len (Handed (Some p.number)) t k → KeepsOrigins g (Driver (Synced_device m) ∷ acts) k
sync_follows g acts p m t k f same put = subst (λ m. KeepsOrigins g (Driver (Synced_device m) ∷ acts) k) same
    (put_like g acts (Driver (Synced_device (streaming p))) t k
    (bytes_put g acts (Driver (Synced_device (streaming p))) (4096 * (p.iova / 4096)) p.want.len (Handed (Some p.number)) t k f put
    (λ a. handed_origin (maps_address (streaming p) a) (last_put g acts) (streaming p) a) (record { iova = λ a. refl; area = λ o. refl }))
    f (ap (λ x. x.kept) put.rest) (ap (λ x. x.live) put.rest) (ap (λ x. x.shared) put.rest) (ap (λ x. x.met) put.rest) refl refl refl (λ page. refl))

-- ---- mappings and regions that end

map_filter : {A B : Type 0} (h : A → B) (f : A → Bool) (k : B → Bool) → ((x : A) → f x ≡ k (h x)) → (xs : List A) → map h (filter f xs) ≡ filter k (map h xs)
map_filter h f k same [] = refl
map_filter {A} {B} h f k same (x ∷ xs) = by (f x) (k (h x)) (same x) (map_filter h f k same xs) where
  by : (b c : Bool) → b ≡ c → map h (filter f xs) ≡ filter k (map h xs) → map h (cond b (x ∷ filter f xs) (filter f xs)) ≡ cond c (h x ∷ filter k (map h xs)) (filter k (map h xs))
  by true true e rest = ap (λ ys. h x ∷ ys) rest
  by false false e rest = rest
  by true false e rest = cc
  by false true e rest = cc

any_map : {A B : Type 0} (h : A → B) (f : B → Bool) (xs : List A) → list_any f (map h xs) ≡ list_any (λ x. f (h x)) xs
any_map h f [] = refl
any_map h f (x ∷ xs) = ap (λ b. f (h x) || b) (any_map h f xs)

map_append : {A B : Type 0} (h : A → B) (xs : List A) (y : A) → map h (xs ++ y ∷ []) ≡ map h xs ++ h y ∷ []
map_append h [] y = refl
map_append h (x ∷ xs) y = ap (λ ys. h x ∷ ys) (map_append h xs y)

any_append : {A : Type 0} (f : A → Bool) (xs : List A) (y : A) → list_any f (xs ++ y ∷ []) ≡ (list_any f xs || f y)
any_append f [] y = by (f y) where
  by : (b : Bool) → (b || false) ≡ b
  by true = refl
  by false = refl
any_append f (x ∷ xs) y = ap (λ b. f x || b) (any_append f xs y) ∙ by (f x) (list_any f xs) (f y) where
  by : (a b c : Bool) → (a || (b || c)) ≡ ((a || b) || c)
  by true b c = refl
  by false b c = refl

quiet_bytes : (g : ℕ) (acts : List Act) (act : Act) (t : Traced) → KeepsOrigins g acts t → ((a : ℕ) → address_put g (last_put g acts) acts act a ≡ None) → IsPlain g acts act
    → Bytes g (act ∷ acts) t
quiet_bytes g acts act t f none plain = bytes_put g acts act 0 0 Zero t t f (stays t) (λ a. ap (λ p. origin_of p) (none a) ∙ no_put a) plain

pub unmap_follows : (g : ℕ) (acts : List Act) (number : ℕ) (m : Streaming) (t : Traced) → KeepsOrigins g acts t → m.number ≡ number
    → KeepsOrigins g (Driver (Unmapped m) ∷ acts) (record t { live = filter (λ p. not (p.number == number)) t.live })
unmap_follows g acts number m t f is =
    let b = quiet_bytes g acts (Driver (Unmapped m)) t f (λ a. refl) (record { iova = λ a. refl; area = λ o. refl }) in
    record {
      bus = b.bus;
      area = b.area;
      kept = f.kept;
      live = map_filter streaming (λ p. not (p.number == number)) (λ l. not (l.number == m.number)) (λ p. ap (λ n. not (p.number == n)) (sym is)) t.live ∙ ap (λ l. filter (λ l. not (l.number == m.number)) l) f.live;
      shared = f.shared;
      present = f.present;
      inside = f.inside;
    }

pub unshare_follows : (g : ℕ) (acts : List Act) (number : ℕ) (r : Coherent) (t : Traced) → KeepsOrigins g acts t → r.number ≡ number
    → KeepsOrigins g (Driver (Region_freed r) ∷ acts) (record t { shared = filter (λ p. not (p.number == number)) t.shared })
unshare_follows g acts number r t f is =
    let b = quiet_bytes g acts (Driver (Region_freed r)) t f (λ a. refl) (record { iova = λ a. refl; area = λ o. refl }) in
    record {
      bus = b.bus;
      area = b.area;
      kept = f.kept;
      live = f.live;
      shared = map_filter coherent (λ p. not (p.number == number)) (λ l. not (l.number == r.number)) (λ p. ap (λ n. not (p.number == n)) (sym is)) t.shared ∙ ap (λ l. filter (λ l. not (l.number == r.number)) l) f.shared;
      present = f.present;
      inside = f.inside;
    }

-- ---- a region that is made

region_within : (slot n a : ℕ) → is_within (4096 * slot) (4096 * n) a ≡ is_within slot n (a / 4096)
region_within slot n a = grind (arith, nat_tests)

pub share_follows : (g : ℕ) (acts : List Act) (r : Shared) (t k : Traced) → KeepsOrigins g acts t
    → PutAt (4096 * (r.iova / 4096)) (4096 * pages_of r.len) Zero t k → KeepsOrigins g (Driver (Region_made (coherent r)) ∷ acts) (record k { shared = k.shared ++ r ∷ [] })
share_follows g acts r t k f put =
    let b = bytes_put g acts (Driver (Region_made (coherent r))) (4096 * (r.iova / 4096)) (4096 * pages_of r.len) Zero t k f put
    (λ a. zero_origin (region_covers (coherent r) a) ∙ ap (λ b. if b then Some Zero else None) (sym (region_within (r.iova / 4096) (pages_of r.len) a))) (record { iova = λ a. refl; area = λ o. refl }) in
    record {
      bus = b.bus;
      area = b.area;
      kept = ap (λ x. option_map registration x) (ap (λ x. x.kept) put.rest) ∙ f.kept;
      live = ap (λ x. map streaming x) (ap (λ x. x.live) put.rest) ∙ f.live;
      shared = map_append coherent k.shared r ∙ ap (λ x. map coherent x ++ coherent r ∷ []) (ap (λ x. x.shared) put.rest) ∙ ap (λ x. x ++ coherent r ∷ []) f.shared;
      present = λ page. ap (λ x. is_some x || list_any (stretch_meets g page) k.met) (ap (λ x. x.kept) put.rest) ∙ ap (λ x. is_some t.kept || list_any (stretch_meets g page) x) (ap (λ x. x.met) put.rest) ∙ f.present page;
      inside = subst IsInside (sym (ap (λ x. x.kept) put.rest)) f.inside;
    }

-- ---- the area

quiet_bus : (g : ℕ) (acts : List Act) (act : Act) (t : Traced) → KeepsOrigins g acts t → ((a : ℕ) → address_put g (last_put g acts) acts act a ≡ None)
    → ((a : ℕ) → iova_put g (last_put g acts) acts act a ≡ address_put_if (is_moved (registration_of acts) a) g (last_put g acts) acts act a)
    → (a : ℕ) → a < 2 ^ 64 → origin_at t.bus a ≡ (last_put g (act ∷ acts) (Iova a)).origin
quiet_bus g acts act t f none plain a less =
    f.bus a less ∙ by (is_moved (registration_of acts) a) ∙ ap (λ p. (put_or p (last_put g acts) (Iova a)).origin) (sym (plain a)) where
      by : (m : Bool) → (last_put g acts (Iova a)).origin ≡ (put_or (address_put_if m g (last_put g acts) acts act a) (last_put g acts) (Iova a)).origin
      by true = refl
      by false = sym (ap (λ p. (put_or p (last_put g acts) (Iova a)).origin) (none a))

set_step : (w : Bool) (p : Option Put) (origin old : Origin) (before : Cell → Put) (cell : Cell) → origin_of p ≡ (if w then Some origin else None) → old ≡ (before cell).origin
    → (if w then origin else old) ≡ (put_or p before cell).origin
set_step true p origin old before cell e o = sym (put_origin p before cell ∙ ap (λ x. unwrap_or x (before cell).origin) e)
set_step false p origin old before cell e o = o ∙ sym (put_origin p before cell ∙ ap (λ x. unwrap_or x (before cell).origin) e)

-- an act on the area alone
area_like : (g : ℕ) (acts : List Act) (act : Act) (at len : ℕ) (origin : Origin) (t k : Traced) → KeepsOrigins g acts t → AreaSet at len origin t k
    → ((a : ℕ) → address_put g (last_put g acts) acts act a ≡ None)
    → ((a : ℕ) → iova_put g (last_put g acts) acts act a ≡ address_put_if (is_moved (registration_of acts) a) g (last_put g acts) acts act a)
    → ((o : ℕ) → origin_of (area_put g (last_put g acts) acts act o) ≡ (if is_within at len o then Some origin else None))
    → registration_of (act ∷ acts) ≡ registration_of acts → live_mappings (act ∷ acts) ≡ live_mappings acts → live_regions (act ∷ acts) ≡ live_regions acts
    → ((page : ℕ) → is_present g (act ∷ acts) page ≡ is_present g acts page) → KeepsOrigins g (act ∷ acts) k
area_like g acts act at len origin t k f set none plain puts r l s p =
    put_like g acts act t k (record {
      bus = λ a less. ap (λ x. origin_at x.bus a) set.rest ∙ quiet_bus g acts act t f none plain a less;
      area = λ o less. set.area o less ∙ set_step (is_within at len o) (area_put g (last_put g acts) acts act o) origin (origin_at t.area o) (last_put g acts) (Area o) (puts o) (f.area o less);
    }) f (ap (λ x. x.kept) set.rest) (ap (λ x. x.live) set.rest) (ap (λ x. x.shared) set.rest) (ap (λ x. x.met) set.rest) r l s p

-- an act that puts nothing at an address or into the area, where what is live stays so
pub quiet_follows : (g : ℕ) (acts : List Act) (act : Act) (t : Traced) → KeepsOrigins g acts t → ((a : ℕ) → address_put g (last_put g acts) acts act a ≡ None)
    → ((a : ℕ) → iova_put g (last_put g acts) acts act a ≡ address_put_if (is_moved (registration_of acts) a) g (last_put g acts) acts act a)
    → ((o : ℕ) → area_put g (last_put g acts) acts act o ≡ option_and_then (address_put g (last_put g acts) acts act) (area_address (registration_of acts) o))
    → registration_of (act ∷ acts) ≡ registration_of acts → live_mappings (act ∷ acts) ≡ live_mappings acts → live_regions (act ∷ acts) ≡ live_regions acts
    → ((page : ℕ) → is_present g (act ∷ acts) page ≡ is_present g acts page) → KeepsOrigins g (act ∷ acts) t
quiet_follows g acts act t f none iova area r l s p =
    put_like g acts act t t (bytes_put g acts act 0 0 Zero t t f (stays t) (λ a. ap origin_of (none a) ∙ no_put a) (record { iova = iova; area = area })) f refl refl refl refl r l s p

pub new_area_follows : (g : ℕ) (acts : List Act) (len : ℕ) (t k : Traced) → KeepsOrigins g acts t → AreaSet 0 len Zero t k → KeepsOrigins g (Node (Area_made len) ∷ acts) k
new_area_follows g acts len t k f set =
    area_like g acts (Node (Area_made len)) 0 len Zero t k f set (λ a. refl) (λ a. refl)
    (λ o. zero_origin (nat_lt o len) ∙ ap (λ b. if b then Some Zero else None) (sym (from_zero o))) refl refl refl (λ page. refl) where
      from_zero : (o : ℕ) → is_within 0 len o ≡ nat_lt o len
      from_zero o = grind (arith, nat_tests)

pub area_put_follows : (g : ℕ) (acts : List Act) (at len : ℕ) (bytes : List ℕ) (t k : Traced) → KeepsOrigins g acts t → length bytes ≡ len → AreaSet at len Daemon t k
    → KeepsOrigins g (Node (Area_put at bytes) ∷ acts) k
area_put_follows g acts at len bytes t k f long set =
    area_like g acts (Node (Area_put at bytes)) at len Daemon t k f set (λ a. refl) (λ a. refl)
    (λ o. text_origin bytes at o Daemon ∙ ap (λ n. if is_within at n o then Some Daemon else None) long) refl refl refl (λ page. refl)

-- ---- registrations

in_use_is : (g page : ℕ) (acts : List Act) (t : Traced) → KeepsOrigins g acts t → list_any (λ p. stretch_meets g page (stretch_of p)) t.live ≡ is_in_use g acts page
in_use_is g page acts t f = sym (any_map streaming (meets_page g page) t.live) ∙ ap (λ l. list_any (meets_page g page) l) f.live

-- what is moved has the origin that it had elsewhere
move_step : (w : Bool) (before : Cell → Put) (from cell : Cell) (source old : Origin) → (w ≡ true → source ≡ (before from).origin) → old ≡ (before cell).origin
    → (if w then source else old) ≡ (put_or (put_if w before from) before cell).origin
move_step true before from cell source old e o = e refl
move_step false before from cell source old e o = o

pub register_follows : (g : ℕ) (acts : List Act) (k : Kept) (t u : Traced) → KeepsOrigins g acts t → k.base + k.size ≤ 2 ^ 32 → Adopted g k t u
    → KeepsOrigins g (Node (Registered k.base k.size) ∷ acts) u
register_follows g acts k t u f small set = subst (λ x. KeepsOrigins g (Node (Registered k.base k.size) ∷ acts) x) (sym set.rest) (record {
  bus = quiet_bus g acts (Node (Registered k.base k.size)) t f (λ a. refl) (λ a. refl);
  area = λ o less.
      set.area o less
      ∙ ap (λ b. if is_within k.base k.size o && b then origin_at t.bus (o - k.base) else origin_at t.area o) (in_use_is g (page_of g (o - k.base)) acts t f)
      ∙ move_step (is_within k.base k.size o && is_in_use g acts (page_of g (o - k.base))) (last_put g acts) (Iova (o - k.base)) (Area o) (origin_at t.bus (o - k.base)) (origin_at t.area o)
      (λ w. f.bus (o - k.base) (omega arith)) (f.area o less);
  kept = refl;
  live = f.live;
  shared = f.shared;
  present = λ page. refl;
  inside = λ j e. by j e;
}) where
  by : (j : Kept) → Some k ≡ Some j → j.base + j.size ≤ 2 ^ 32
  by j e = let same : k ≡ j = cc in subst (λ (x : Kept). x.base + x.size ≤ 2 ^ 32) same small

pub deregister_follows : (g : ℕ) (acts : List Act) (t u : Traced) → KeepsOrigins g acts t → Returned g t u
    → KeepsOrigins g (Node Deregistered ∷ acts) (record u { kept = None; met = map stretch_of u.live })
deregister_follows g acts t u f set = record {
  bus = λ a less. set.bus a less ∙ by a less t.kept refl;
  area = λ o less. ap (λ x. origin_at x.area o) set.rest ∙ f.area o less ∙ nowhere o (registration_of acts);
  kept = refl;
  live = ap (λ x. map streaming x.live) set.rest ∙ f.live;
  shared = ap (λ x. map coherent x.shared) set.rest ∙ f.shared;
  present = λ page. ap (λ x. list_any (stretch_meets g page) (map stretch_of x.live)) set.rest ∙ any_map stretch_of (stretch_meets g page) t.live ∙ in_use_is g page acts t f;
  inside = λ j e. cc;
} where
  nowhere : (o : ℕ) (r : Option Registration) → (last_put g acts (Area o)).origin ≡ (put_or (option_and_then (address_put g (last_put g acts) acts (Node Deregistered)) (area_address r o)) (last_put g acts) (Area o)).origin
  nowhere o None = refl
  nowhere o (Some r) = within (is_within r.base r.size o) where
    within : (b : Bool) → (last_put g acts (Area o)).origin ≡ (put_or (option_and_then (address_put g (last_put g acts) acts (Node Deregistered)) (if b then Some (o - r.base) else None)) (last_put g acts) (Area o)).origin
    within true = refl
    within false = refl

  by : (a : ℕ) → a < 2 ^ 64 → (kept : Option Kept) → t.kept ≡ kept
      → (if lies_in_area t.kept a && list_any (λ p. stretch_meets g (page_of g a) (stretch_of p)) t.live then origin_at t.area (base_of t.kept + a) else origin_at t.bus a)
      ≡ (put_or (returned_put g (last_put g acts) acts (registration_of acts) a) (last_put g acts) (Iova a)).origin
  by a less None e =
      ap (λ x. if lies_in_area x a && list_any (λ p. stretch_meets g (page_of g a) (stretch_of p)) t.live then origin_at t.area (base_of x + a) else origin_at t.bus a) e ∙ f.bus a less
      ∙ ap (λ r. (put_or (returned_put g (last_put g acts) acts r a) (last_put g acts) (Iova a)).origin) (sym (ap (λ x. option_map registration x) e) ∙ f.kept)
  by a less (Some k) e =
      ap (λ x. if lies_in_area x a && list_any (λ p. stretch_meets g (page_of g a) (stretch_of p)) t.live then origin_at t.area (base_of x + a) else origin_at t.bus a) e
      ∙ ap (λ b. if nat_lt a k.size && b then origin_at t.area (k.base + a) else origin_at t.bus a) (in_use_is g (page_of g a) acts t f)
      ∙ move_step (nat_lt a k.size && is_in_use g acts (page_of g a)) (last_put g acts) (Area (k.base + a)) (Iova a) (origin_at t.area (k.base + a)) (origin_at t.bus a)
      (λ w. f.area (k.base + a) (below (nat_lt a k.size) (is_in_use g acts (page_of g a)) refl w (f.inside k e))) (f.bus a less)
      ∙ ap (λ r. (put_or (returned_put g (last_put g acts) acts r a) (last_put g acts) (Iova a)).origin) (sym (ap (λ x. option_map registration x) e) ∙ f.kept) where
        below : (b c : Bool) → nat_lt a k.size ≡ b → (b && c) ≡ true → k.base + k.size ≤ 2 ^ 32 → k.base + a < 2 ^ 64
        below true c h w fits = grind (arith, nat_tests)
        below false c h w fits = cc

-- ---- a mapping that is made

present_kept : (g page : ℕ) (acts : List Act) (t : Traced) → KeepsOrigins g acts t → is_some t.kept ≡ true → is_present g acts page ≡ true
present_kept g page acts t f some = sym (f.present page) ∙ ap (λ b. b || list_any (stretch_meets g page) t.met) some

-- the test of zeros is false where the page is present
no_zero : (m p : Bool) → p ≡ true → (m && not p) ≡ false
no_zero true true e = refl
no_zero false true e = refl
no_zero m false e = cc

map_step : (g : ℕ) (acts : List Act) (p : Placed) (a : ℕ) (m h z : Bool) (old : Origin) → (is_to_device p.want.dir && maps_address (streaming p) a) ≡ h
    → (meets_page g (page_of g a) (streaming p) && not (is_present g acts (page_of g a))) ≡ z → (m ≡ true → z ≡ false) → old ≡ (last_put g acts (Iova a)).origin
    → (if not m && h then Handed (Some p.number) else (if z then Zero else old))
    ≡ (put_or (address_put_if m g (last_put g acts) acts (Driver (Mapped (streaming p))) a) (last_put g acts) (Iova a)).origin
map_step g acts p a m h z old h_is z_is quiet o = by m h z quiet ∙ ap (λ x. (put_or (put_if_moved m x) (last_put g acts) (Iova a)).origin) (parts h z h_is z_is) ∙ whole m where
  hand_at : Bool → Option Put
  hand_at b = handed_put_if b (last_put g acts) (streaming p) a

  put_if_moved : Bool → Option Put → Option Put
  put_if_moved true x = None
  put_if_moved false x = x

  parts : (h z : Bool) → (is_to_device p.want.dir && maps_address (streaming p) a) ≡ h → (meets_page g (page_of g a) (streaming p) && not (is_present g acts (page_of g a))) ≡ z
      → or_put (hand_at h) (zero_if z) ≡ or_put (hand_at (is_to_device p.want.dir && maps_address (streaming p) a)) (zero_if (meets_page g (page_of g a) (streaming p) && not (is_present g acts (page_of g a))))
  parts h z e f = ap (λ b. or_put (hand_at b) (zero_if z)) (sym e) ∙ ap (λ b. or_put (hand_at (is_to_device p.want.dir && maps_address (streaming p) a)) (zero_if b)) (sym f)

  whole : (m : Bool) → (put_or (put_if_moved m (or_put (hand_at (is_to_device p.want.dir && maps_address (streaming p) a)) (zero_if (meets_page g (page_of g a) (streaming p) && not (is_present g acts (page_of g a)))))) (last_put g acts) (Iova a)).origin
      ≡ (put_or (address_put_if m g (last_put g acts) acts (Driver (Mapped (streaming p))) a) (last_put g acts) (Iova a)).origin
  whole true = refl
  whole false = refl

  by : (m h z : Bool) → (m ≡ true → z ≡ false) → (if not m && h then Handed (Some p.number) else (if z then Zero else old)) ≡ (put_or (put_if_moved m (or_put (hand_at h) (zero_if z))) (last_put g acts) (Iova a)).origin
  by true h true q = cc_of (q refl) where
    cc_of : true ≡ false → (if false && h then Handed (Some p.number) else Zero) ≡ (last_put g acts (Iova a)).origin
    cc_of e = cc
  by true h false q = o
  by false true z q = refl
  by false false true q = refl
  by false false false q = o

map_area_step : (g : ℕ) (acts : List Act) (p : Placed) (o : ℕ) (kept : Option Kept) (old : Origin) → ((page : ℕ) → is_some kept ≡ true → is_present g acts page ≡ true)
    → old ≡ (last_put g acts (Area o)).origin
    → (if is_to_device p.want.dir && area_has kept (4096 * (p.iova / 4096)) p.want.len o then Handed (Some p.number) else old)
    ≡ (put_or (option_and_then (address_put g (last_put g acts) acts (Driver (Mapped (streaming p)))) (area_address (option_map registration kept) o)) (last_put g acts) (Area o)).origin
map_area_step g acts p o None old present e = ap (λ b. if b then Handed (Some p.number) else old) (no (is_to_device p.want.dir)) ∙ e where
  no : (b : Bool) → (b && false) ≡ false
  no true = refl
  no false = refl
map_area_step g acts p o (Some k) old present e = by (is_within k.base k.size o) (is_to_device p.want.dir) (maps_address (streaming p) (o - k.base)) refl refl where
  before : Cell → Put
  before = last_put g acts

  zeros : zero_if (meets_page g (page_of g (o - k.base)) (streaming p) && not (is_present g acts (page_of g (o - k.base)))) ≡ None
  zeros = ap zero_if (no_zero (meets_page g (page_of g (o - k.base)) (streaming p)) (is_present g acts (page_of g (o - k.base))) (present (page_of g (o - k.base)) refl))

  alone : (d w : Bool) → (if d && w then Handed (Some p.number) else old) ≡ (put_or (or_put (handed_put_if (d && w) before (streaming p) (o - k.base)) None) before (Area o)).origin
  alone true true = refl
  alone true false = e
  alone false w = e

  by : (b d w : Bool) → is_to_device p.want.dir ≡ d → maps_address (streaming p) (o - k.base) ≡ w
      → (if is_to_device p.want.dir && (b && maps_address (streaming p) (o - k.base)) then Handed (Some p.number) else old)
      ≡ (put_or (option_and_then (address_put g before acts (Driver (Mapped (streaming p)))) (if b then Some (o - k.base) else None)) before (Area o)).origin
  by true d w d_is w_is =
      alone (is_to_device p.want.dir) (maps_address (streaming p) (o - k.base))
      ∙ ap (λ z. (put_or (or_put (handed_put_if (is_to_device p.want.dir && maps_address (streaming p) (o - k.base)) before (streaming p) (o - k.base)) z) before (Area o)).origin) (sym zeros)
  by false d w d_is w_is = ap (λ b. if b then Handed (Some p.number) else old) (no (is_to_device p.want.dir)) ∙ e where
    no : (b : Bool) → (b && false) ≡ false
    no true = refl
    no false = refl

pub map_follows : (g : ℕ) (acts : List Act) (p : Placed) (t t1 t2 t3 : Traced) → KeepsOrigins g acts t → PagesCleared g (stretch_of p) t t1 → HandedBy p t1 t2 → Met (stretch_of p) t2 t3
    → KeepsOrigins g (Driver (Mapped (streaming p)) ∷ acts) (record t3 { live = t3.live ++ p ∷ [] })
map_follows g acts p t t1 t2 t3 f c h m = record {
  bus = λ a less.
      ap (λ x. origin_at x.bus a) m.rest
      ∙ h.bus a less
      ∙ ap (λ x. if not (lies_in_area x a) && (is_to_device p.want.dir && maps_address (streaming p) a) then Handed (Some p.number) else origin_at t1.bus a) (ap (λ x. x.kept) c.rest)
      ∙ ap (λ x. if not (lies_in_area t.kept a) && (is_to_device p.want.dir && maps_address (streaming p) a) then Handed (Some p.number) else x) (c.bus a less
      ∙ ap (λ b. if stretch_meets g (page_of g a) (stretch_of p) && not b then Zero else origin_at t.bus a) (f.present (page_of g a)))
      ∙ map_step g acts p a (lies_in_area t.kept a) (is_to_device p.want.dir && maps_address (streaming p) a)
      (meets_page g (page_of g a) (streaming p) && not (is_present g acts (page_of g a))) (origin_at t.bus a) refl refl
      (λ k. no_zero (meets_page g (page_of g a) (streaming p)) (is_present g acts (page_of g a)) (present_kept g (page_of g a) acts t f (some_kept t.kept a k))) (f.bus a less)
      ∙ ap (λ b. (put_or (address_put_if b g (last_put g acts) acts (Driver (Mapped (streaming p))) a) (last_put g acts) (Iova a)).origin) (sym (kept_is t.kept a) ∙ ap (λ r. is_moved r a) f.kept);
  area = λ o less.
      ap (λ x. origin_at x.area o) m.rest
      ∙ h.area o less
      ∙ ap (λ x. if is_to_device p.want.dir && area_has x.kept (4096 * (p.iova / 4096)) p.want.len o then Handed (Some p.number) else origin_at x.area o) c.rest
      ∙ map_area_step g acts p o t.kept (origin_at t.area o) (λ page some. present_kept g page acts t f some) (f.area o less)
      ∙ ap (λ r. (put_or (option_and_then (address_put g (last_put g acts) acts (Driver (Mapped (streaming p)))) (area_address r o)) (last_put g acts) (Area o)).origin) f.kept;
  kept = ap (λ x. option_map registration x) kept ∙ f.kept;
  live = map_append streaming t3.live p ∙ ap (λ x. map streaming x ++ streaming p ∷ []) live ∙ ap (λ x. x ++ streaming p ∷ []) f.live;
  shared = ap (λ x. map coherent x) shared ∙ f.shared;
  present = λ page.
      ap (λ x. is_some x || list_any (stretch_meets g page) t3.met) kept
      ∙ ap (λ b. is_some t.kept || b) (m.met g page ∙ ap (λ x. stretch_meets g page (stretch_of p) || list_any (stretch_meets g page) x) met)
      ∙ turn (is_some t.kept) (stretch_meets g page (stretch_of p)) (list_any (stretch_meets g page) t.met)
      ∙ ap (λ b. stretch_meets g page (stretch_of p) || b) (f.present page);
  inside = subst IsInside (sym kept) f.inside;
} where
  kept : t3.kept ≡ t.kept
  kept = ap (λ x. x.kept) m.rest ∙ ap (λ x. x.kept) h.rest ∙ ap (λ x. x.kept) c.rest

  live : t3.live ≡ t.live
  live = ap (λ x. x.live) m.rest ∙ ap (λ x. x.live) h.rest ∙ ap (λ x. x.live) c.rest

  shared : t3.shared ≡ t.shared
  shared = ap (λ x. x.shared) m.rest ∙ ap (λ x. x.shared) h.rest ∙ ap (λ x. x.shared) c.rest

  met : t2.met ≡ t.met
  met = ap (λ x. x.met) h.rest ∙ ap (λ x. x.met) c.rest

  some_kept : (k : Option Kept) (a : ℕ) → lies_in_area k a ≡ true → is_some k ≡ true
  some_kept None a e = e
  some_kept (Some k) a e = refl

  turn : (a b c : Bool) → (a || (b || c)) ≡ (b || (a || c))
  turn true true c = refl
  turn true false c = refl
  turn false b c = refl

-- a stretch that lies in others meets no page that these don't
covered_page : (g page : ℕ) (s t : Stretch) → covers s t ≡ true → stretch_meets g page t ≡ true → stretch_meets g page s ≡ true
covered_page g page s t e m = grind (arith, nat_tests)

covered_any : (g page : ℕ) (t : Stretch) (xs : List Stretch) → list_any (λ s. covers s t) xs ≡ true → stretch_meets g page t ≡ true → list_any (stretch_meets g page) xs ≡ true
covered_any g page t [] e m = e
covered_any g page t (x ∷ xs) e m = by (covers x t) refl (λ rest. covered_any g page t xs rest m) where
  last : (b : Bool) → (b || true) ≡ true
  last true = refl
  last false = refl

  by : (b : Bool) → covers x t ≡ b → (list_any (λ s. covers s t) xs ≡ true → list_any (stretch_meets g page) xs ≡ true) → list_any (stretch_meets g page) (x ∷ xs) ≡ true
  by true c more = ap (λ b. b || list_any (stretch_meets g page) xs) (covered_page g page x t c m)
  by false c more = ap (λ b. stretch_meets g page x || b) (more (sym (ap (λ b. b || list_any (λ s. covers s t) xs) c) ∙ e)) ∙ last (stretch_meets g page x)

pub covered_meets : (t : Stretch) (k : Traced) → list_any (λ s. covers s t) k.met ≡ true → Met t k k
covered_meets t k e = record { met = λ g page. by g page (stretch_meets g page t) refl; rest = refl } where
  by : (g page : ℕ) (b : Bool) → stretch_meets g page t ≡ b → list_any (stretch_meets g page) k.met ≡ (stretch_meets g page t || list_any (stretch_meets g page) k.met)
  by g page true m = covered_any g page t k.met e m ∙ sym (ap (λ b. b || list_any (stretch_meets g page) k.met) m)
  by g page false m = sym (ap (λ b. b || list_any (stretch_meets g page) k.met) m)

-- ---- what is shown

pub shown_is : (g : ℕ) (acts : List Act) (t : Traced) (a : ℕ) → KeepsOrigins g acts t → a < 2 ^ 64
    → (if lies_in_area t.kept a then origin_at t.area (base_of t.kept + a) else origin_at t.bus a) ≡ (shown_put g acts a).origin
shown_is g acts t a f less = by t.kept refl ∙ ap (λ r. (last_put g acts (home_cell r a)).origin) f.kept where
  by : (k : Option Kept) → t.kept ≡ k → (if lies_in_area k a then origin_at t.area (base_of k + a) else origin_at t.bus a) ≡ (last_put g acts (home_cell (option_map registration k) a)).origin
  by None e = f.bus a less
  by (Some k) e = inner (nat_lt a k.size) refl where
    inner : (b : Bool) → nat_lt a k.size ≡ b → (if b then origin_at t.area (k.base + a) else origin_at t.bus a) ≡ (last_put g acts (if b then Area (k.base + a) else Iova a)).origin
    inner true h = let fits = f.inside k e in f.area (k.base + a) (grind (arith, nat_tests))
    inner false h = f.bus a less

pub seen_is : (bounce g : ℕ) (acts : List Act) (t : Traced) (a : ℕ) → KeepsOrigins g acts t
    → ((nat_lt a (4096 * bounce) && is_there g t (page_of g a)) || list_any (λ r. region_covers (coherent r) a) t.shared) ≡ is_seen bounce g acts a
seen_is bounce g acts t a f =
    ap (λ b. (nat_lt a (4096 * bounce) && b) || list_any (λ r. region_covers (coherent r) a) t.shared) (f.present (page_of g a))
    ∙ ap (λ b. (nat_lt a (4096 * bounce) && is_present g acts (page_of g a)) || b) (sym (any_map coherent (λ r. region_covers r a) t.shared) ∙ ap (λ l. list_any (λ r. region_covers r a) l) f.shared)

pub shown_some : (bounce g : ℕ) (acts : List Act) (t : Traced) (a : ℕ) (o : Origin) → KeepsOrigins g acts t → a < 2 ^ 64
    → ((nat_lt a (4096 * bounce) && is_there g t (page_of g a)) || list_any (λ r. region_covers (coherent r) a) t.shared) ≡ true
    → o ≡ (if lies_in_area t.kept a then origin_at t.area (base_of t.kept + a) else origin_at t.bus a)
    → Some o ≡ (if is_seen bounce g acts a then Some (shown_put g acts a).origin else None)
shown_some bounce g acts t a o f less seen is =
    ap (λ o. Some o) (is ∙ shown_is g acts t a f less)
    ∙ sym (ap (λ b. if b then Some (shown_put g acts a).origin else None) (sym (seen_is bounce g acts t a f) ∙ seen))

pub shown_none : (bounce g : ℕ) (acts : List Act) (t : Traced) (a : ℕ) → KeepsOrigins g acts t
    → ((nat_lt a (4096 * bounce) && is_there g t (page_of g a)) || list_any (λ r. region_covers (coherent r) a) t.shared) ≡ false
    → None ≡ (if is_seen bounce g acts a then Some (shown_put g acts a).origin else None)
shown_none bounce g acts t a f unseen =
    sym (ap (λ b. if b then Some (shown_put g acts a).origin else None) (sym (seen_is bounce g acts t a f) ∙ unseen))

-- the live mapping of a number is among those that are kept
pub found_is : (g : ℕ) (acts : List Act) (t : Traced) (number : ℕ) → KeepsOrigins g acts t
    → option_map streaming (find (λ p. p.number == number) t.live) ≡ find (λ l. l.number == number) (live_mappings acts)
found_is g acts t number f = found t.live ∙ ap (λ l. find (λ l. l.number == number) l) f.live where
  found : (xs : List Placed) → option_map streaming (find (λ p. p.number == number) xs) ≡ find (λ l. l.number == number) (map streaming xs)
  found [] = refl
  found (x ∷ xs) = by (x.number == number) (found xs) where
    by : (b : Bool) → option_map streaming (find (λ p. p.number == number) xs) ≡ find (λ l. l.number == number) (map streaming xs)
        → option_map streaming (cond b (Some x) (find (λ p. p.number == number) xs)) ≡ cond b (Some (streaming x)) (find (λ l. l.number == number) (map streaming xs))
    by true rest = refl
    by false rest = rest
