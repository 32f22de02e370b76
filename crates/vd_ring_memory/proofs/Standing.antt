-- What a domain stands for after puts is told by the bytes that its daemon sees.
use Rattle.std.proofs.Common.{◌≡◌, ◌⊎◌, inl, inr, true≢false, ℕ, zero, suc, ◌+◌, ◌-◌, ◌*◌, ◌/◌, ◌<◌, ◌≤◌, Bool, true, false, ◌&&◌, ◌||◌, nat_lt, if◌then◌else◌, refl, ap, sym, ◌∙◌, subst, arith, List, [], ◌∷◌, ◌++◌, length, Some, None, Option}
use Rattle.std.specs.List.{list_any}
use Rattle.std.specs.Option.{option_map, option_and_then, unwrap_or}
use Rattle.std.proofs.lemmas.Bool.Decides.{nat_tests}
use Rattle.vd_num.specs.Number.{is_within}
use Rattle.vd_pool.specs.Memory.{PoolMemory as Pool}
use Rattle.vd_bounce.specs.Bounce as b
use Rattle.vd_bounce.specs.Bounce.{value}
use Rattle.std.specs.Prelude.{is_some}
use Rattle.vd_bounce.specs.Frames.{frame_of}
use Rattle.vd_model.specs.Memory.{Memory}
use Rattle.vd_model.specs.Setting.{Setting, bounce_size}
use Rattle.vd_model.specs.Acts.{Act, Node, Driver, Bus, Message_act, State, Queue, Disk_act, NodeAct, Opened, Closed, Daemon_put, Area_made, Area_put, Config_put, Registered, Deregistered, Driver_put}
use Rattle.vd_model.specs.Live.{Registration, live_mappings, maps, live_regions, regions, is_bounce_live, area_len, registration_of, is_present, page_of, region_covers}
use Rattle.vd_model.specs.Puts.{Iova, Area, last_put, put_or, home_cell, shown_put, address_put, area_address}
use Rattle.vd_model.specs.AreaTurns.{is_accessible}
use Rattle.vd_model.specs.DaemonTurns.{daemon_memory}
use Rattle.vd_domain.specs.Held.{Held}
use Rattle.vd_domain.proofs.Present.{page_below}
use Rattle.vd_domain.specs.Stands.{Stands, last_byte}
use Rattle.vd_ring_memory.specs.Puts.{IsDaemonPut, AreDaemonPuts}
use Rattle.std.specs.List.{slice_index}
use Rattle.vd_domain.specs.Handed.{is_coherent}
use Rattle.vd_domain.specs.Seen.{ring_memory}
use Rattle.vd_ring_memory.specs.RingPuts.{IsRingPut, AreRingPuts}
use Rattle.vd_ring_memory.specs.RingPutLemmas.{as_ring_put, coherent_same}
use Rattle.vd_ring_memory.proofs.RingTelling.{shown_ring_put}

-- a put of the daemon or of the driver at some addresses
pub record IsPut (act : Act) : Type 0 where
  pub at : ℕ
  pub bytes : List ℕ
  pub is : (act ≡ Node (Daemon_put at bytes)) ⊎ (act ≡ Driver (Driver_put at bytes))

abbrev pub ArePuts : List Act → Type 0
ArePuts [] = Unit {0}
ArePuts (act ∷ puts) = IsPut act × ArePuts puts

as_put : (x : Setting) (base : List Act) (act : Act) → IsDaemonPut x base act → (at : ℕ) × (bytes : List ℕ) × (act ≡ Node (Daemon_put at bytes))
as_put x base (Node act) e = of_node act e where
  of_node : (act : NodeAct) → IsDaemonPut x base (Node act) → (at : ℕ) × (bytes : List ℕ) × (Node act ≡ Node (Daemon_put at bytes))
  of_node (Daemon_put at bytes) e = (at, bytes, refl)
  of_node Opened e = absurd e
  of_node Closed e = absurd e
  of_node (Area_made len) e = absurd e
  of_node (Area_put at bytes) e = absurd e
  of_node (Config_put at bytes) e = absurd e
  of_node (Registered base size) e = absurd e
  of_node Deregistered e = absurd e
as_put x base (Driver act) e = absurd e
as_put x base (Bus act) e = absurd e
as_put x base (Message_act act) e = absurd e
as_put x base (State act) e = absurd e
as_put x base (Queue act) e = absurd e
as_put x base (Disk_act act) e = absurd e

pub daemon_puts : (x : Setting) (base puts : List Act) → AreDaemonPuts x base puts → ArePuts puts
daemon_puts x base [] only = tt
daemon_puts x base (act ∷ puts) only = (let p = as_put x base act only.0 in record { at = p.0; bytes = p.1; is = inl p.2 }, daemon_puts x base puts only.1)

pub ring_puts : (base puts : List Act) → AreRingPuts base puts → ArePuts puts
ring_puts base [] only = tt
ring_puts base (act ∷ puts) only = (let p = as_ring_put base act only.0 in record { at = p.0; bytes = p.1; is = inr p.2 }, ring_puts base puts only.1)

-- what no put changes, some puts don't change
any_puts_same : {X : Type 0} (f : List Act → X) → ((at : ℕ) (bytes : List ℕ) (done : List Act) → f (Node (Daemon_put at bytes) ∷ done) ≡ f done)
    → ((at : ℕ) (bytes : List ℕ) (done : List Act) → f (Driver (Driver_put at bytes) ∷ done) ≡ f done) → (puts done : List Act) → ArePuts puts → f (puts ++ done) ≡ f done
any_puts_same f one two [] done only = refl
any_puts_same f one two (act ∷ puts) done only = elim only.0.is [
  | inl e ↦ (ap (λ (a : Act). f (a ∷ puts ++ done)) e ∙ one only.0.at only.0.bytes (puts ++ done) ∙ any_puts_same f one two puts done only.1)
  | inr e ↦ (ap (λ (a : Act). f (a ∷ puts ++ done)) e ∙ two only.0.at only.0.bytes (puts ++ done) ∙ any_puts_same f one two puts done only.1)
]

registered_same : (puts done : List Act) → ArePuts puts → registration_of (puts ++ done) ≡ registration_of done
registered_same puts done only = any_puts_same registration_of (λ at bytes done. refl) (λ at bytes done. refl) puts done only

any_accessible : (x : Setting) (puts done : List Act) → ArePuts puts → (a : ℕ) → is_accessible x (puts ++ done) a ≡ is_accessible x done a
any_accessible x puts done only a = any_puts_same (λ acts. is_accessible x acts a) (λ at bytes done. refl) (λ at bytes done. refl) puts done only

-- a byte of the area that stands for no address is left alone
untouched : (x : Setting) (puts done : List Act) (o : ℕ) → ArePuts puts → area_address (registration_of done) o ≡ None → last_put x.per_page (puts ++ done) (Area o) ≡ last_put x.per_page done (Area o)
untouched x [] done o only off = refl
untouched x (act ∷ puts) done o only off =
    by act (none (ap (λ r. area_address r o) (registered_same puts done only.1) ∙ off)) only.0.is ∙ untouched x puts done o only.1 off where
      none : area_address (registration_of (puts ++ done)) o ≡ None → area_address (registration_of (puts ++ done)) o ≡ None
      none e = e

      by : (act : Act) → area_address (registration_of (puts ++ done)) o ≡ None → ((act ≡ Node (Daemon_put only.0.at only.0.bytes)) ⊎ (act ≡ Driver (Driver_put only.0.at only.0.bytes)))
          → last_put x.per_page (act ∷ puts ++ done) (Area o) ≡ last_put x.per_page (puts ++ done) (Area o)
      by act e (inl is) =
          ap (λ (a : Act). last_put x.per_page (a ∷ puts ++ done) (Area o)) is
          ∙ ap (λ k. put_or (option_and_then (address_put x.per_page (last_put x.per_page (puts ++ done)) (puts ++ done) (Node (Daemon_put only.0.at only.0.bytes))) k) (last_put x.per_page (puts ++ done)) (Area o)) e
      by act e (inr is) =
          ap (λ (a : Act). last_put x.per_page (a ∷ puts ++ done) (Area o)) is
          ∙ ap (λ k. put_or (option_and_then (address_put x.per_page (last_put x.per_page (puts ++ done)) (puts ++ done) (Driver (Driver_put only.0.at only.0.bytes))) k) (last_put x.per_page (puts ++ done)) (Area o)) e

some_page : (g n a : ℕ) → a < 4096 * g * n → 0 < 4096 * g
some_page zero n a below = absurd (let none : 4096 * 0 * n ≡ 0 = omega arith in omega arith)
some_page (suc g) n a below = omega arith

some_same : (v w : ℕ) → Some v ≡ Some w → v ≡ w
some_same v w e = cc

-- the byte at an address that can be accessed, where a daemon sees the same
pub daemon_seen : (x : Setting) (done puts more : List Act) → ArePuts puts → ArePuts more → daemon_memory x (puts ++ done) ≡ daemon_memory x (more ++ done)
    → (a : ℕ) → is_accessible x done a ≡ true → (shown_put x.per_page (puts ++ done) a).byte ≡ (shown_put x.per_page (more ++ done) a).byte
daemon_seen x done puts more only others same a e = some_same _ _ (
    sym (ap (λ t. if t then Some (shown_put x.per_page (puts ++ done) a).byte else None) (any_accessible x puts done only a ∙ e))
    ∙ ap (λ (t : Memory). t a) same
    ∙ ap (λ t. if t then Some (shown_put x.per_page (more ++ done) a).byte else None) (any_accessible x more done others a ∙ e))

-- the same where the driver sees the same of its rings: no put goes elsewhere
ring_left : (x : Setting) (done puts : List Act) → AreRingPuts done puts → (a : ℕ) → is_coherent done a ≡ false → (shown_put x.per_page (puts ++ done) a).byte ≡ (shown_put x.per_page done a).byte
ring_left x done [] only a off = refl
ring_left x done (act ∷ puts) only a off = by act only.0 (ring_left x done puts only.1 a off) where
  by : (act : Act) → IsRingPut done act → (shown_put x.per_page (puts ++ done) a).byte ≡ (shown_put x.per_page done a).byte → (shown_put x.per_page (act ∷ puts ++ done) a).byte ≡ (shown_put x.per_page done a).byte
  by act p rest =
      let q = as_ring_put done act p in
      let at = q.0 in
      let bytes = q.1 in
      ap (λ (t : Act). (shown_put x.per_page (t ∷ puts ++ done) a).byte) q.2
      ∙ shown_ring_put x.per_page (puts ++ done) at bytes a
      ∙ ap (λ t. if t then slice_index bytes (a - at) else (shown_put x.per_page (puts ++ done) a).byte) (outside at bytes (subst (λ (t : Act). IsRingPut done t) q.2 p) (is_within at (length bytes) a) refl)
      ∙ rest where
        outside : (at : ℕ) (bytes : List ℕ) → IsRingPut done (Driver (Driver_put at bytes)) → (t : Bool) → is_within at (length bytes) a ≡ t → is_within at (length bytes) a ≡ false
        outside at bytes p false e = e
        outside at bytes p true e =
            let low : at ≤ a = grind (arith, nat_tests, e) in
            let high : a < at + length bytes = grind (arith, nat_tests, e) in
            absurd (true≢false (sym (p a low high) ∙ off))

pub ring_seen : (x : Setting) (done puts more : List Act) → AreRingPuts done puts → AreRingPuts done more → ring_memory x (puts ++ done) ≡ ring_memory x (more ++ done)
    → (a : ℕ) → is_accessible x done a ≡ true → (shown_put x.per_page (puts ++ done) a).byte ≡ (shown_put x.per_page (more ++ done) a).byte
ring_seen x done puts more only others same a e = by (is_coherent done a) refl where
  by : (t : Bool) → is_coherent done a ≡ t → (shown_put x.per_page (puts ++ done) a).byte ≡ (shown_put x.per_page (more ++ done) a).byte
  by true f = some_same _ _ (
      sym (ap (λ t. if t then Some (shown_put x.per_page (puts ++ done) a).byte else None) (coherent_same done puts done only a ∙ f))
      ∙ ap (λ (t : Memory). t a) same
      ∙ ap (λ t. if t then Some (shown_put x.per_page (more ++ done) a).byte else None) (coherent_same done more done others a ∙ f))
  by false f = ring_left x done puts only a f ∙ sym (ring_left x done more others a f)

module _ (x : Setting) (done puts more : List Act) (only : ArePuts puts) (others : ArePuts more)
    (seen_same : (a : ℕ) → is_accessible x done a ≡ true → (shown_put x.per_page (puts ++ done) a).byte ≡ (shown_put x.per_page (more ++ done) a).byte) where
  -- that of the cell of such an address
  home_same : (a : ℕ) (r : Option Registration) → registration_of done ≡ r → is_accessible x done a ≡ true → last_byte x (puts ++ done) (home_cell r a) ≡ last_byte x (more ++ done) (home_cell r a)
  home_same a r e there =
      ap (λ r. (last_put x.per_page (puts ++ done) (home_cell r a)).byte) (sym e ∙ sym (registered_same puts done only))
      ∙ seen_same a there
      ∙ ap (λ r. (last_put x.per_page (more ++ done) (home_cell r a)).byte) (registered_same more done others ∙ e)

  present_same : (acts : List Act) → ArePuts acts → (p : ℕ) → is_present x.per_page (acts ++ done) p ≡ is_present x.per_page done p
  present_same acts all p = any_puts_same (λ l. is_present x.per_page l p) (λ at bytes l. refl) (λ at bytes l. refl) acts done all

  regions_same : (acts : List Act) → ArePuts acts → live_regions (acts ++ done) ≡ live_regions done
  regions_same acts all = any_puts_same live_regions (λ at bytes l. refl) (λ at bytes l. refl) acts done all

  both : {X : Type 0} (f : List Act → X) → ((at : ℕ) (bytes : List ℕ) (l : List Act) → f (Node (Daemon_put at bytes) ∷ l) ≡ f l) → ((at : ℕ) (bytes : List ℕ) (l : List Act) → f (Driver (Driver_put at bytes) ∷ l) ≡ f l) → f (more ++ done) ≡ f (puts ++ done)
  both f one two = any_puts_same f one two more done others ∙ sym (any_puts_same f one two puts done only)

  module _ (h : Held) (m : Pool) (s : Stands x (more ++ done) h m) where
    size_is : bounce_size x ≡ 4096 * h.bounce.per_page * length h.bounce.frames
    size_is = ap (λ n. 4096 * n) s.bounce ∙ (let e : 4096 * (h.bounce.per_page * length h.bounce.frames) ≡ 4096 * h.bounce.per_page * length h.bounce.frames = omega arith in e)

    reg_is : (o : Option ℕ) → h.bounce.user ≡ o → registration_of done ≡ option_map (λ u. record { base = u; size = bounce_size x }) o
    reg_is o e = sym (registered_same more done others) ∙ s.registered ∙ ap (λ o. option_map (λ u. record { base = u; size = bounce_size x }) o) e

    or_true : (p q : Bool) → p ≡ true → (p || q) ≡ true
    or_true true q e = refl
    or_true false q e = absurd (cc)

    true_or : (p q : Bool) → q ≡ true → (p || q) ≡ true
    true_or true q e = refl
    true_or false q e = e

    low_there : (a : ℕ) → a < bounce_size x → is_present x.per_page done (page_of x.per_page a) ≡ true → is_accessible x done a ≡ true
    low_there a below seen =
        let test : nat_lt a (bounce_size x) ≡ true = grind (arith, nat_tests) in
        or_true (nat_lt a (bounce_size x) && is_present x.per_page done (page_of x.per_page a)) (list_any (λ r. region_covers r a) (live_regions done))
        (ap (λ t. t && is_present x.per_page done (page_of x.per_page a)) test ∙ seen)

    high_there : (a : ℕ) → list_any (λ r. region_covers r a) (live_regions done) ≡ true → is_accessible x done a ≡ true
    high_there a covered = true_or (nat_lt a (bounce_size x) && is_present x.per_page done (page_of x.per_page a)) (list_any (λ r. region_covers r a) (live_regions done)) covered

    low_bytes : (a : ℕ) → h.bounce.user ≡ None → a < bounce_size x → is_present x.per_page (puts ++ done) (page_of x.per_page a) ≡ true → value h.bounce m (b.Iova a) ≡ last_byte x (puts ++ done) (Iova a)
    low_bytes a none below seen =
        let here : is_present x.per_page done (page_of x.per_page a) ≡ true = sym (present_same puts only (page_of x.per_page a)) ∙ seen in
        s.bytes a none below (present_same more others (page_of x.per_page a) ∙ here)
        ∙ sym (home_same a None (reg_is None none) (low_there a below here))

    high_bytes : (a : ℕ) → bounce_size x ≤ a → list_any (λ r. region_covers r a) (live_regions (puts ++ done)) ≡ true → value h.shared h.store (b.Iova (a - bounce_size x)) ≡ last_byte x (puts ++ done) (Iova a)
    high_bytes a above covered =
        let here : list_any (λ r. region_covers r a) (live_regions done) ≡ true = ap (λ rs. list_any (λ r. region_covers r a) rs) (sym (regions_same puts only)) ∙ covered in
        s.shared a above (ap (λ rs. list_any (λ r. region_covers r a) rs) (regions_same more others) ∙ here)
        ∙ by h.bounce.user refl (high_there a here) where
          test : nat_lt a (bounce_size x) ≡ false
          test = grind (arith, nat_tests)

          by : (o : Option ℕ) → h.bounce.user ≡ o → is_accessible x done a ≡ true → last_byte x (more ++ done) (Iova a) ≡ last_byte x (puts ++ done) (Iova a)
          by None e there = sym (home_same a None (reg_is None e) there)
          by (Some u) e there =
              ap (λ t. last_byte x (more ++ done) (if t then Area (u + a) else Iova a)) (sym test)
              ∙ sym (home_same a (Some (record { base = u; size = bounce_size x })) (reg_is (Some u) e) there)
              ∙ ap (λ t. last_byte x (puts ++ done) (if t then Area (u + a) else Iova a)) test

    -- where something is registered, each page has bytes
    moved_there : (u a : ℕ) → h.bounce.user ≡ Some u → a < bounce_size x → is_present x.per_page done (page_of x.per_page a) ≡ true
    moved_there u a e below =
        let size = size_is in
        let g = s.per_page in
        let some : 0 < 4096 * h.bounce.per_page = some_page h.bounce.per_page (length h.bounce.frames) a (subst (λ n. a < n) size below) in
        let page = page_below (4096 * h.bounce.per_page) (length h.bounce.frames) a some (subst (λ n. a < n) size below) in
        let test : nat_lt (a / (4096 * h.bounce.per_page)) (length h.bounce.frames) ≡ true = grind (arith, nat_tests) in
        sym (present_same more others (page_of x.per_page a))
        ∙ ap (λ g. is_present x.per_page (more ++ done) (a / (4096 * g))) g
        ∙ sym (s.present (a / (4096 * h.bounce.per_page)) page)
        ∙ ap (λ o. nat_lt (a / (4096 * h.bounce.per_page)) (length h.bounce.frames) && (is_some o || is_some (frame_of h.bounce.frames (a / (4096 * h.bounce.per_page))))) e
        ∙ ap (λ t. t && true) test

    area_bytes : (o : ℕ) → o < length (unwrap_or h.bounce.area []) → value h.bounce m (b.Area o) ≡ last_byte x (puts ++ done) (Area o)
    area_bytes o below = s.area_bytes o below ∙ by h.bounce.user refl where
      left : area_address (registration_of done) o ≡ None → last_byte x (more ++ done) (Area o) ≡ last_byte x (puts ++ done) (Area o)
      left off = ap (λ p. p.byte) (untouched x more done o others off ∙ sym (untouched x puts done o only off))

      by : (w : Option ℕ) → h.bounce.user ≡ w → last_byte x (more ++ done) (Area o) ≡ last_byte x (puts ++ done) (Area o)
      by None e = left (ap (λ r. area_address r o) (reg_is None e))
      by (Some u) e = by_range (is_within u (bounce_size x) o) refl where
        by_range : (t : Bool) → is_within u (bounce_size x) o ≡ t → last_byte x (more ++ done) (Area o) ≡ last_byte x (puts ++ done) (Area o)
        by_range false t = left (ap (λ r. area_address r o) (reg_is (Some u) e) ∙ ap (λ t. if t then Some (o - u) else None) t)
        by_range true t =
            let low : u ≤ o = grind (arith, nat_tests, t) in
            let high : o < u + bounce_size x = grind (arith, nat_tests, t) in
            let near : o - u < bounce_size x = omega arith in
            let back : u + (o - u) ≡ o = omega arith in
            let test : nat_lt (o - u) (bounce_size x) ≡ true = grind (arith, nat_tests, near) in
            ap (λ k. last_byte x (more ++ done) (Area k)) (sym back)
            ∙ ap (λ t. last_byte x (more ++ done) (if t then Area (u + (o - u)) else Iova (o - u))) (sym test)
            ∙ sym (home_same (o - u) (Some (record { base = u; size = bounce_size x })) (reg_is (Some u) e) (low_there (o - u) near (moved_there u (o - u) e near)))
            ∙ ap (λ t. last_byte x (puts ++ done) (if t then Area (u + (o - u)) else Iova (o - u))) test
            ∙ ap (λ k. last_byte x (puts ++ done) (Area k)) back

    pub stands_as : Stands x (puts ++ done) h m
    stands_as = record {
      bounce = s.bounce;
      iova = s.iova;
      per_page = s.per_page;
      live = s.live ∙ both live_mappings (λ at bytes l. refl) (λ at bytes l. refl);
      maps = s.maps ∙ both maps (λ at bytes l. refl) (λ at bytes l. refl);
      regions = s.regions ∙ both live_regions (λ at bytes l. refl) (λ at bytes l. refl);
      made = s.made ∙ both regions (λ at bytes l. refl) (λ at bytes l. refl);
      is_shown = s.is_shown ∙ both is_bounce_live (λ at bytes l. refl) (λ at bytes l. refl);
      area = s.area ∙ both area_len (λ at bytes l. refl) (λ at bytes l. refl);
      registered = sym (both registration_of (λ at bytes l. refl) (λ at bytes l. refl)) ∙ s.registered;
      present = λ p below. s.present p below ∙ both (λ l. is_present x.per_page l p) (λ at bytes l. refl) (λ at bytes l. refl);
      bytes = low_bytes;
      area_bytes = area_bytes;
      shared = high_bytes;
    }

-- a domain stands for those daemon's puts after which its daemon sees what it sees, and for the driver's likewise
pub stands_as_daemon : (x : Setting) (done puts more : List Act) → AreDaemonPuts x done puts → AreDaemonPuts x done more → daemon_memory x (puts ++ done) ≡ daemon_memory x (more ++ done)
    → (h : Held) (m : Pool) → Stands x (more ++ done) h m → Stands x (puts ++ done) h m
stands_as_daemon x done puts more only others same h m s =
    let p = daemon_puts x done puts only in
    let q = daemon_puts x done more others in
    stands_as x done puts more p q (daemon_seen x done puts more p q same) h m s

pub stands_as_rings : (x : Setting) (done puts more : List Act) → AreRingPuts done puts → AreRingPuts done more → ring_memory x (puts ++ done) ≡ ring_memory x (more ++ done)
    → (h : Held) (m : Pool) → Stands x (more ++ done) h m → Stands x (puts ++ done) h m
stands_as_rings x done puts more only others same h m s =
    stands_as x done puts more (ring_puts done puts only) (ring_puts done more others) (ring_seen x done puts more only others same) h m s
