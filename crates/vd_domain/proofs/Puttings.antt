-- The bytes of a device's memory after an act that puts bytes at addresses.
use Rattle.std.proofs.Common.{◌≡◌, ℕ, zero, suc, ◌+◌, ◌-◌, ◌*◌, ◌/◌, ◌<◌, ◌≤◌, Bool, true, false, refl, subst, ap, sym, ◌∙◌, arith, Option, None, Some, nat_le, nat_lt, ◌&&◌, if◌then◌else◌, List, [], ◌∷◌, length}
use Rattle.std.specs.List.{slice_get, slice_index, list_any}
use Rattle.std.specs.Option.{option_map, option_and_then, unwrap_or}
use Rattle.std.proofs.lemmas.Bool.Decides.{nat_tests}
use Rattle.std.proofs.lemmas.Option.{slice_get-get_or}
use Rattle.vd_num.specs.Number.{is_within}
use Rattle.vd_pool.specs.Memory.{PoolMemory}
use Rattle.vd_bounce.specs.Bounce as b
use Rattle.vd_bounce.specs.Bounce.{Bounce, Place, value, over, home_by, bounce_len, page_size}
use Rattle.vd_model.specs.declared.memory.Origin.{Origin}
use Rattle.vd_model.specs.Setting as model
use Rattle.vd_model.specs.Setting.{Setting}
use Rattle.vd_model.specs.Acts.{Act, Node, Driver, DriverAct, Daemon_put}
use Rattle.vd_model.specs.Live.{registration_of, live_regions, region_covers, is_present, page_of}
use Rattle.vd_model.specs.Puts.{Cell, Put, Iova, Area, last_put, is_moved, put_or, address_put, address_put_if, area_address, text_at, shown_put, home_cell}
use Rattle.vd_domain.specs.Held.{Held}
use Rattle.vd_domain.specs.Stands.{Stands, last_byte}

-- the byte that is put, or the one before it
abbrev pub or_byte : Option Put → ℕ → ℕ
or_byte (Some put) old = put.byte
or_byte None old = old

pub put_or_byte : (o : Option Put) (before : Cell → Put) (cell : Cell) → (put_or o before cell).byte ≡ or_byte o (before cell).byte
put_or_byte (Some put) before cell = refl
put_or_byte None before cell = refl

-- a byte of a text, or the one before it
pub text_byte : (bytes : List ℕ) (at a old : ℕ) (origin : Origin) → (if is_within at (length bytes) a then slice_index bytes (a - at) else old) ≡ or_byte (text_at bytes at a origin) old
text_byte bytes at a old origin = by (nat_le at a) refl (nat_lt a (at + length bytes)) refl where
  past : a - at < length bytes → slice_get bytes (a - at) ≡ Some (slice_index bytes (a - at))
  past inside = slice_get-get_or bytes (a - at) 0 inside

  by : (l : Bool) → nat_le at a ≡ l → (r : Bool) → nat_lt a (at + length bytes) ≡ r
      → (if l && r then slice_index bytes (a - at) else old) ≡ or_byte (option_map (λ b. record { byte = b; origin = origin }) (if l then slice_get bytes (a - at) else None)) old
  by false p r q = refl
  by true p true q =
      let inside : a - at < length bytes = grind (arith, nat_tests, p, q) in
      rw (past inside) refl
  by true p false q =
      let outside : length bytes ≤ a - at = grind (arith, nat_tests, p, q) in
      ap (λ o. or_byte (option_map (λ b. record { byte = b; origin = origin }) o) old) (sym (get_past bytes (a - at) outside)) where
        get_past : (xs : List ℕ) (k : ℕ) → length xs ≤ k → slice_get xs k ≡ None
        get_past [] k h = refl
        get_past (x ∷ xs) zero h = absurd (omega arith)
        get_past (x ∷ xs) (suc k) h = get_past xs k (omega arith)

-- the act's bytes go to addresses, and so to the cells of these
pub record IsAddressed (g : ℕ) (acts : List Act) (act : Act) : Type 0 where
  pub iova : (a : ℕ) → is_moved (registration_of acts) a ≡ false → last_put g (act ∷ acts) (Iova a) ≡ put_or (address_put g (last_put g acts) acts act a) (last_put g acts) (Iova a)
  pub area : (o : ℕ) → last_put g (act ∷ acts) (Area o) ≡ put_or (option_and_then (address_put g (last_put g acts) acts act) (area_address (registration_of acts) o)) (last_put g acts) (Area o)

pub driver_addressed : (g : ℕ) (acts : List Act) (act : DriverAct) → IsAddressed g acts (Driver act)
driver_addressed g acts act = record {
  iova = λ a here. ap (λ m. put_or (address_put_if m g (last_put g acts) acts (Driver act) a) (last_put g acts) (Iova a)) here;
  area = λ o. refl;
}

pub daemon_addressed : (g : ℕ) (acts : List Act) (at : ℕ) (bytes : List ℕ) → IsAddressed g acts (Node (Daemon_put at bytes))
daemon_addressed g acts at bytes = record {
  iova = λ a here. ap (λ m. put_or (address_put_if m g (last_put g acts) acts (Node (Daemon_put at bytes)) a) (last_put g acts) (Iova a)) here;
  area = λ o. refl;
}

-- ---- the sizes of a domain that stands for acts

module _ (x : Setting) (acts : List Act) (h : Held) (m : PoolMemory) (s : Stands x acts h m) where
  pub size_is : model.bounce_size x ≡ bounce_len h.bounce
  size_is = ap (λ n. 4096 * n) s.bounce ∙ (let e : 4096 * (h.bounce.per_page * length h.bounce.frames) ≡ 4096 * h.bounce.per_page * length h.bounce.frames = omega arith in e)

  pub page_is_of : (a : ℕ) → page_of x.per_page a ≡ a / page_size h.bounce
  page_is_of a = ap (λ g. a / (4096 * g)) s.per_page

  -- where nothing is registered, and where the area is from u on
  pub free_of : h.bounce.user ≡ None → registration_of acts ≡ None
  free_of none = s.registered ∙ ap (λ o. option_map (λ u. record { base = u; size = model.bounce_size x }) o) none

  pub moved_to : (u : ℕ) → h.bounce.user ≡ Some u → registration_of acts ≡ Some (record { base = u; size = model.bounce_size x })
  moved_to u some = s.registered ∙ ap (λ o. option_map (λ u. record { base = u; size = model.bounce_size x }) o) some

  pub stays_above : (a : ℕ) → model.bounce_size x ≤ a → is_moved (registration_of acts) a ≡ false
  stays_above a above = by h.bounce.user refl where
    test : nat_lt a (model.bounce_size x) ≡ false
    test = grind (arith, nat_tests)

    by : (o : Option ℕ) → h.bounce.user ≡ o → is_moved (registration_of acts) a ≡ false
    by None e = ap (λ r. is_moved r a) (free_of e)
    by (Some u) e = ap (λ r. is_moved r a) (moved_to u e) ∙ test

  -- the byte that is shown at an address of a present page, and at one of a region
  pub shown_put_low : (a : ℕ) → a < bounce_len h.bounce → is_present x.per_page acts (page_of x.per_page a) ≡ true
      → ((u : ℕ) → h.bounce.user ≡ Some u → u + bounce_len h.bounce ≤ length (unwrap_or h.bounce.area [])) → value h.bounce m (b.home_place h.bounce a) ≡ (shown_put x.per_page acts a).byte
  shown_put_low a below present room = by h.bounce.user refl where
    size : model.bounce_size x ≡ bounce_len h.bounce
    size = size_is

    by : (o : Option ℕ) → h.bounce.user ≡ o → value h.bounce m (home_by h.bounce.user a) ≡ (last_put x.per_page acts (home_cell (registration_of acts) a)).byte
    by None e =
        ap (λ o. value h.bounce m (home_by o a)) e ∙ s.bytes a e (subst (λ n. a < n) (sym size) below) present
        ∙ ap (λ r. (last_put x.per_page acts (home_cell r a)).byte) (sym (free_of e))
    by (Some u) e =
        let long = room u e in
        let test : nat_lt a (model.bounce_size x) ≡ true = (let inside : a < model.bounce_size x = subst (λ n. a < n) (sym size) below in grind (arith, nat_tests)) in
        ap (λ o. value h.bounce m (home_by o a)) e ∙ s.area_bytes (u + a) (omega arith)
        ∙ sym (ap (λ r. (last_put x.per_page acts (home_cell r a)).byte) (moved_to u e) ∙ ap (λ t. (last_put x.per_page acts (if t then Area (u + a) else Iova a)).byte) test)

  pub shown_put_high : (a : ℕ) → bounce_len h.bounce ≤ a → list_any (λ r. region_covers r a) (live_regions acts) ≡ true → value h.shared h.store (b.Iova (a - bounce_len h.bounce)) ≡ (shown_put x.per_page acts a).byte
  shown_put_high a above covered =
      let size : model.bounce_size x ≡ bounce_len h.bounce = size_is in
      let over : model.bounce_size x ≤ a = subst (λ n. n ≤ a) (sym size) above in
      ap (λ n. value h.shared h.store (b.Iova (a - n))) (sym size) ∙ s.shared a over covered ∙ by h.bounce.user refl where
        test : nat_lt a (model.bounce_size x) ≡ false
        test = (let size = size_is in grind (arith, nat_tests))

        by : (o : Option ℕ) → h.bounce.user ≡ o → last_byte x acts (Iova a) ≡ (last_put x.per_page acts (home_cell (registration_of acts) a)).byte
        by None e = ap (λ r. (last_put x.per_page acts (home_cell r a)).byte) (sym (free_of e))
        by (Some u) e = sym (ap (λ r. (last_put x.per_page acts (home_cell r a)).byte) (moved_to u e) ∙ ap (λ t. (last_put x.per_page acts (if t then Area (u + a) else Iova a)).byte) test)

  -- ---- one act more that puts bytes at addresses

  module _ (act : Act) (way : IsAddressed x.per_page acts act) (new : Held) (n : PoolMemory) where
    pub next_bytes : ((a : ℕ) → a < bounce_len h.bounce → is_present x.per_page (act ∷ acts) (page_of x.per_page a) ≡ true → h.bounce.user ≡ None
        → value new.bounce n (b.Iova a) ≡ or_byte (address_put x.per_page (last_put x.per_page acts) acts act a) (last_byte x acts (Iova a)))
        → h.bounce.user ≡ None → (a : ℕ) → a < model.bounce_size x → is_present x.per_page (act ∷ acts) (page_of x.per_page a) ≡ true
        → value new.bounce n (b.Iova a) ≡ last_byte x (act ∷ acts) (Iova a)
    next_bytes low none a below present =
        low a (subst (λ k. a < k) size_is below) present none
        ∙ sym (put_or_byte (address_put x.per_page (last_put x.per_page acts) acts act a) (last_put x.per_page acts) (Iova a))
        ∙ ap (λ p. p.byte) (sym (way.iova a (ap (λ r. is_moved r a) (free_of none))))

    pub next_shared : ((a : ℕ) → bounce_len h.bounce ≤ a → list_any (λ r. region_covers r a) (live_regions (act ∷ acts)) ≡ true
        → value new.shared new.store (b.Iova (a - bounce_len h.bounce)) ≡ or_byte (address_put x.per_page (last_put x.per_page acts) acts act a) (last_byte x acts (Iova a)))
        → (a : ℕ) → model.bounce_size x ≤ a → list_any (λ r. region_covers r a) (live_regions (act ∷ acts)) ≡ true
        → value new.shared new.store (b.Iova (a - model.bounce_size x)) ≡ last_byte x (act ∷ acts) (Iova a)
    next_shared high a above covered =
        ap (λ k. value new.shared new.store (b.Iova (a - k))) size_is
        ∙ high a (subst (λ k. k ≤ a) size_is above) covered
        ∙ sym (put_or_byte (address_put x.per_page (last_put x.per_page acts) acts act a) (last_put x.per_page acts) (Iova a))
        ∙ ap (λ p. p.byte) (sym (way.iova a (stays_above a above)))

    pub next_area : (long : ℕ) → ((o : ℕ) → o < long → h.bounce.user ≡ None → value new.bounce n (b.Area o) ≡ value h.bounce m (b.Area o))
        → ((u o : ℕ) → o < long → h.bounce.user ≡ Some u → is_within u (bounce_len h.bounce) o ≡ false → value new.bounce n (b.Area o) ≡ value h.bounce m (b.Area o))
        → ((u a : ℕ) → a < bounce_len h.bounce → h.bounce.user ≡ Some u
        → value new.bounce n (b.Area (u + a)) ≡ or_byte (address_put x.per_page (last_put x.per_page acts) acts act a) (value h.bounce m (b.Area (u + a))))
        → long ≤ length (unwrap_or h.bounce.area []) → (o : ℕ) → o < long → value new.bounce n (b.Area o) ≡ last_byte x (act ∷ acts) (Area o)
    next_area long free outside inside fits o below = by h.bounce.user refl where
      old : value h.bounce m (b.Area o) ≡ last_byte x acts (Area o)
      old = s.area_bytes o (omega arith)

      step : (k : Option ℕ) → area_address (registration_of acts) o ≡ k → last_byte x (act ∷ acts) (Area o) ≡ or_byte (option_and_then (address_put x.per_page (last_put x.per_page acts) acts act) k) (last_byte x acts (Area o))
      step k e = ap (λ p. p.byte) (way.area o)
          ∙ put_or_byte (option_and_then (address_put x.per_page (last_put x.per_page acts) acts act) (area_address (registration_of acts) o)) (last_put x.per_page acts) (Area o)
          ∙ ap (λ k. or_byte (option_and_then (address_put x.per_page (last_put x.per_page acts) acts act) k) (last_byte x acts (Area o))) e

      by : (o' : Option ℕ) → h.bounce.user ≡ o' → value new.bounce n (b.Area o) ≡ last_byte x (act ∷ acts) (Area o)
      by None e = free o below e ∙ old ∙ sym (step None (ap (λ r. area_address r o) (free_of e)))
      by (Some u) e = by_range (is_within u (model.bounce_size x) o) refl where
        by_range : (t : Bool) → is_within u (model.bounce_size x) o ≡ t → value new.bounce n (b.Area o) ≡ last_byte x (act ∷ acts) (Area o)
        by_range false t =
            outside u o below e (ap (λ k. is_within u k o) (sym size_is) ∙ t) ∙ old
            ∙ sym (step None (ap (λ r. area_address r o) (moved_to u e) ∙ ap (λ t. if t then Some (o - u) else None) t))
        by_range true t =
            let low : u ≤ o = grind (arith, nat_tests) in
            let high : o < u + model.bounce_size x = grind (arith, nat_tests) in
            let size = size_is in
            let back : o ≡ u + (o - u) = omega arith in
            ap (λ k. value new.bounce n (b.Area k)) back
            ∙ inside u (o - u) (omega arith) e
            ∙ ap (λ v. or_byte (address_put x.per_page (last_put x.per_page acts) acts act (o - u)) v) (ap (λ k. value h.bounce m (b.Area k)) (sym back) ∙ old)
            ∙ sym (step (Some (o - u)) (ap (λ r. area_address r o) (moved_to u e) ∙ ap (λ t. if t then Some (o - u) else None) t))
