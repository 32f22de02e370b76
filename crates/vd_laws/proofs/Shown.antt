-- What an address has after an act.
use Rattle.std.proofs.Common.{◌≡◌, ℕ, ◌+◌, ◌-◌, ◌/◌, ◌<◌, ◌≤◌, Bool, true, false, refl, ap, subst, ◌∙◌, sym, arith, Option, None, Some, cond, List, ◌∷◌, ◌&&◌, not, nat_lt, unwrap_or}
use Rattle.std.specs.Option.{option_map, option_and_then}
use Rattle.std.specs.List.{slice_get}
use Rattle.std.proofs.lemmas.Bool.Decides.{nat_tests}
use Rattle.std.proofs.lemmas.Bool.{lt-ltb, le-ltb, lt-leb, ltb-true, ltb-false, and_from, and_left, and_right}
use Rattle.vd_num.specs.Number.{pages_of, is_within}
use Rattle.vd_model.specs.declared.memory.Origin.TheVariants.{Daemon, Handed}
use Rattle.vd_model.specs.Setting.{Setting, bounce_size}
use Rattle.vd_model.specs.Acts.{Act, DriverAct, Node, Driver, Streaming, Daemon_put, Area_made, Area_put, Registered, Deregistered, Mapped, Synced_device, Region_made, Driver_put}
use Rattle.vd_model.specs.Live.{Registration, live_mappings, registration_of, is_in_use, maps_address, page_of, meets_page, is_present}
use Rattle.vd_model.specs.Puts.{Cell, Iova, Area, Put, byte_in, zero_if, put_if, put_or, or_put, handed_put_if, is_to_device, home_cell, is_moved, area_address, returned_put, driver_put, address_put, address_put_if, put_at, last_put, shown_put}
use Rattle.vd_model.specs.Direct.{area_written, daemon_writes}
use Rattle.vd_laws.specs.Among.{Among}
use Rattle.vd_laws.specs.Runs.{IsAddressed}
use Rattle.vd_laws.proofs.Lists.{any_true}
use Rattle.vd_laws.proofs.Legal.{IsFresh, Admits}
use Rattle.vd_laws.proofs.Sound.{IsOurs, Sound}
use Rattle.vd_laws.proofs.Ranges.{is_in, before_range}
use Rattle.vd_laws.proofs.Pages.{on_slot, on_page, no_slots, live_mappings_present}

pub put_or_is : (o : Option Put) (before : Cell → Put) (cell : Cell) → put_or o before cell ≡ unwrap_or o (before cell)
put_or_is None before cell = refl
put_or_is (Some put) before cell = refl

-- an address below the size of a registration lies in the area, and the others keep their store
pub home_cell_moved : (r : Registration) (a : ℕ) → a < r.size → home_cell (Some r) a ≡ Area (r.base + a)
home_cell_moved r a low = ap (λ b. cond b (Area (r.base + a)) (Iova a)) (lt-ltb a r.size low)

pub home_cell_kept : (r : Registration) (a : ℕ) → r.size ≤ a → home_cell (Some r) a ≡ Iova a
home_cell_kept r a high = ap (λ b. cond b (Area (r.base + a)) (Iova a)) (le-ltb a r.size high)

back : (base a : ℕ) → base + a - base ≡ a
back base a = omega arith

within : (base size a : ℕ) → a < size → is_within base size (base + a) ≡ true
within base size a low = grind (arith, nat_tests)

-- where an act puts something by address, it puts it at the address's home
module _ (g : ℕ) (before : Cell → Put) (acts : List Act) (act : Act) (a : ℕ) where
  pub at_home : (o : Option Registration)
      → ((b : ℕ) → put_at g before acts act (Iova b) ≡ address_put_if (is_moved o b) g before acts act b)
      → ((p : ℕ) → put_at g before acts act (Area p) ≡ option_and_then (address_put g before acts act) (area_address o p))
      → put_at g before acts act (home_cell o a) ≡ address_put g before acts act a
  at_home None iova area = iova a
  at_home (Some r) iova area = by (nat_lt a r.size) refl where
    by : (b : Bool) → nat_lt a r.size ≡ b → put_at g before acts act (cond b (Area (r.base + a)) (Iova a)) ≡ address_put g before acts act a
    by true e =
        area (r.base + a)
        ∙ ap (λ b. option_and_then (address_put g before acts act) (cond b (Some (r.base + a - r.base)) None)) (within r.base r.size a (ltb-true a r.size e))
        ∙ ap (address_put g before acts act) (back r.base a)
    by false e = iova a ∙ ap (λ b. address_put_if b g before acts act a) e

-- the last put after an act that puts by address
pub by_address : (g : ℕ) (acts : List Act) (act : Act) (a : ℕ) → registration_of (act ∷ acts) ≡ registration_of acts
    → ((b : ℕ) → put_at g (last_put g acts) acts act (Iova b) ≡ address_put_if (is_moved (registration_of acts) b) g (last_put g acts) acts act b)
    → ((p : ℕ) → put_at g (last_put g acts) acts act (Area p) ≡ option_and_then (address_put g (last_put g acts) acts act) (area_address (registration_of acts) p))
    → shown_put g (act ∷ acts) a ≡ unwrap_or (address_put g (last_put g acts) acts act a) (shown_put g acts a)
by_address g acts act a same iova area =
    ap (λ o. last_put g (act ∷ acts) (home_cell o a)) same
    ∙ put_or_is (put_at g (last_put g acts) acts act (home_cell (registration_of acts) a)) (last_put g acts) (home_cell (registration_of acts) a)
    ∙ ap (λ o. unwrap_or o (shown_put g acts a)) (at_home g (last_put g acts) acts act a (registration_of acts) iova area)

-- what an act brings to an address of a live mapping
abbrev pub arrives : ℕ → List Act → Act → ℕ → Option Put
arrives g acts (Driver (Synced_device m)) a = handed_put_if (maps_address m a) (last_put g acts) m a
arrives g acts act a = option_map (λ b. record { byte = b; origin = Daemon }) (daemon_writes acts act a)

no_put : (b : Bool) (g : ℕ) (before : Cell → Put) (acts : List Act) (at : ℕ) (bytes : List ℕ) (a : ℕ) → address_put_if b g before acts (Node (Area_put at bytes)) a ≡ None
no_put true g before acts at bytes a = refl
no_put false g before acts at bytes a = refl

no_area : (b : Bool) (g : ℕ) (before : Cell → Put) (acts : List Act) (n a : ℕ) → address_put_if b g before acts (Node (Area_made n)) a ≡ None
no_area true g before acts n a = refl
no_area false g before acts n a = refl

module _ (x : Setting) (acts : List Act) (m : Streaming) (a : ℕ) (s : Sound x acts) (there : Among m (live_mappings acts)) (here : maps_address m a ≡ true) where
  slot_low : a / 4096 < x.bounce
  slot_low = let r = is_in m.slot (pages_of m.want.len) (a / 4096) (on_slot m a here) in let low : a / 4096 < m.slot + pages_of m.want.len = r.1 in let fits = s.fits m there in omega arith

  pub low : a < bounce_size x
  low = let p = slot_low in omega arith

  pub used : 0 < x.per_page → is_in_use x.per_page acts (page_of x.per_page a) ≡ true
  used some = any_true (meets_page x.per_page (page_of x.per_page a)) m (live_mappings acts) there (on_page x.per_page m a some here)

  -- the address's page is present where there are pages
  settled : (n : Streaming) → meets_page x.per_page (page_of x.per_page a) n && not (is_present x.per_page acts (page_of x.per_page a)) ≡ false
  settled n = by (nat_lt 0 x.per_page) refl where
    by : (b : Bool) → nat_lt 0 x.per_page ≡ b → meets_page x.per_page (page_of x.per_page a) n && not (is_present x.per_page acts (page_of x.per_page a)) ≡ false
    by true e =
        let there_is = live_mappings_present x.per_page acts m (page_of x.per_page a) there (on_page x.per_page m a (ltb-true 0 x.per_page e) here) in
        and_right (meets_page x.per_page (page_of x.per_page a) n) (not (is_present x.per_page acts (page_of x.per_page a))) (ap not there_is)
    by false e =
        let none : x.per_page ≡ 0 = (let f = ltb-false 0 x.per_page e in omega arith) in
        and_left (meets_page x.per_page (page_of x.per_page a) n) (not (is_present x.per_page acts (page_of x.per_page a)))
        (subst (λ g. meets_page g (page_of x.per_page a) n ≡ false) (sym none) (no_slots (page_of x.per_page a) n))

  -- no fresh mapping has the address
  not_mapped : (n : Streaming) → IsFresh x acts n → maps_address n a ≡ false
  not_mapped n f = by (maps_address n a) refl where
    by : (b : Bool) → maps_address n a ≡ b → maps_address n a ≡ false
    by true e = absurd (f.apart m there (a / 4096) (on_slot n a e) (on_slot m a here))
    by false e = e

  neither : (n : Streaming) (t b c : Bool) → b ≡ false → c ≡ false → or_put (handed_put_if (t && b) (last_put x.per_page acts) n a) (zero_if c) ≡ None
  neither n true b c e f = ap (λ b. or_put (handed_put_if b (last_put x.per_page acts) n a) (zero_if c)) e ∙ ap zero_if f
  neither n false b c e f = ap zero_if f

  -- a driver's act brings what a sync brings
  driver_arrives : IsAddressed x → (d : DriverAct) → Admits x acts (Driver d) → driver_put x.per_page (last_put x.per_page acts) acts d a ≡ arrives x.per_page acts (Driver d) a
  driver_arrives small (Synced_device n) h = refl
  driver_arrives small (Mapped n) h = neither n (is_to_device n.want.dir) (maps_address n a) _ (not_mapped n h) (settled n)
  driver_arrives small (Region_made r) h = ap zero_if (before_range r.slot (pages_of r.len) (a / 4096) (let p = slot_low in omega arith))
  driver_arrives small (Driver_put at bytes) h = ap (λ b. option_map (λ c. record { byte = c; origin = Handed None }) (cond b (slice_get bytes (a - at)) None)) (lt-leb at a (let l = low in let high = h small in omega arith))
  driver_arrives small _ h = refl

  -- what is in the area at a home
  area_puts : (at : ℕ) (bytes : List ℕ) (o : Option Registration) → put_at x.per_page (last_put x.per_page acts) acts (Node (Area_put at bytes)) (home_cell o a) ≡ option_map (λ b. record { byte = b; origin = Daemon }) (area_written o at bytes a)
  area_puts at bytes None = no_put (is_moved (registration_of acts) a) x.per_page (last_put x.per_page acts) acts at bytes a
  area_puts at bytes (Some r) = by (nat_lt a r.size) where
    by : (b : Bool) → put_at x.per_page (last_put x.per_page acts) acts (Node (Area_put at bytes)) (cond b (Area (r.base + a)) (Iova a))
        ≡ option_map (λ b. record { byte = b; origin = Daemon }) (cond b (byte_in bytes at (r.base + a)) None)
    by true = refl
    by false = no_put (is_moved (registration_of acts) a) x.per_page (last_put x.per_page acts) acts at bytes a

  made_puts : (n : ℕ) (o : Option Registration) → o ≡ None → put_at x.per_page (last_put x.per_page acts) acts (Node (Area_made n)) (home_cell o a) ≡ None
  made_puts n o e = subst (λ o. put_at x.per_page (last_put x.per_page acts) acts (Node (Area_made n)) (home_cell o a) ≡ None) (sym e) (no_area (is_moved (registration_of acts) a) x.per_page (last_put x.per_page acts) acts n a)

  registration_of_shown : (base size : ℕ) → registration_of acts ≡ None → size ≡ bounce_size x → 0 < x.per_page → shown_put x.per_page (Node (Registered base size) ∷ acts) a ≡ shown_put x.per_page acts a
  registration_of_shown base size none fits some =
      let below : a < size = (let l = low in omega arith) in
      let r : Registration = record { base = base; size = size } in
      let in_area : is_within base size (base + a) && is_in_use x.per_page acts (page_of x.per_page (base + a - base)) ≡ true =
      and_from (is_within base size (base + a)) (is_in_use x.per_page acts (page_of x.per_page (base + a - base))) (within base size a below) (ap (λ k. is_in_use x.per_page acts (page_of x.per_page k)) (back base a) ∙ used some) in
      ap (last_put x.per_page (Node (Registered base size) ∷ acts)) (home_cell_moved r a below)
      ∙ ap (λ b. put_or (put_if b (last_put x.per_page acts) (Iova (base + a - base))) (last_put x.per_page acts) (Area (base + a))) in_area
      ∙ ap (λ k. last_put x.per_page acts (Iova k)) (back base a)
      ∙ sym (ap (λ o. last_put x.per_page acts (home_cell o a)) none)

  deregistered_shown : (o : Option Registration) → IsOurs x o → put_or (returned_put x.per_page (last_put x.per_page acts) acts o a) (last_put x.per_page acts) (Iova a) ≡ last_put x.per_page acts (home_cell o a)
  deregistered_shown None ours = refl
  deregistered_shown (Some r) ours =
      let below : a < r.size = (let l = low in let e = ours.0 in omega arith) in
      ap (λ b. put_or (put_if b (last_put x.per_page acts) (Area (r.base + a))) (last_put x.per_page acts) (Iova a)) (and_from (nat_lt a r.size) (is_in_use x.per_page acts (page_of x.per_page a)) (lt-ltb a r.size below) (used ours.1))
      ∙ sym (ap (last_put x.per_page acts) (home_cell_moved r a below))

  -- what an address of a live mapping has after an act
  pub stays : IsAddressed x → (act : Act) → Admits x acts act → shown_put x.per_page (act ∷ acts) a ≡ unwrap_or (arrives x.per_page acts act a) (shown_put x.per_page acts a)
  stays small (Driver d) h = by_address x.per_page acts (Driver d) a refl (λ b. refl) (λ p. refl) ∙ ap (λ o. unwrap_or o (shown_put x.per_page acts a)) (driver_arrives small d h)
  stays small (Node (Daemon_put at bytes)) h = by_address x.per_page acts (Node (Daemon_put at bytes)) a refl (λ b. refl) (λ p. refl)
  stays small (Node (Area_made n)) h =
      put_or_is (put_at x.per_page (last_put x.per_page acts) acts (Node (Area_made n)) (home_cell (registration_of acts) a)) (last_put x.per_page acts) (home_cell (registration_of acts) a)
      ∙ ap (λ o. unwrap_or o (shown_put x.per_page acts a)) (made_puts n (registration_of acts) h)
  stays small (Node (Area_put at bytes)) h =
      put_or_is (put_at x.per_page (last_put x.per_page acts) acts (Node (Area_put at bytes)) (home_cell (registration_of acts) a)) (last_put x.per_page acts) (home_cell (registration_of acts) a)
      ∙ ap (λ o. unwrap_or o (shown_put x.per_page acts a)) (area_puts at bytes (registration_of acts))
  stays small (Node (Registered base size)) h = registration_of_shown base size h.0 h.1 h.2
  stays small (Node Deregistered) h = deregistered_shown (registration_of acts) s.ours
  stays small act h = by_address x.per_page acts act a refl (λ b. refl) (λ p. refl)
