-- What the driver does to its mappings changes no coherent byte.
use Rattle.std.proofs.Common.{◌≡◌, ℕ, zero, suc, ◌+◌, ◌-◌, ◌*◌, ◌/◌, ◌≤◌, Bool, true, false, if◌then◌else◌, nat_lt, ◌&&◌, ◌||◌, not, refl, ap, sym, ◌∙◌, subst, arith, List, [], ◌∷◌, Some, None, Option, true≢false}
use Rattle.std.specs.List.{list_any, All}
use Rattle.std.specs.Option.{option_and_then}
use Rattle.std.proofs.lemmas.Bool.Decides.{nat_tests}
use Rattle.std.proofs.lemmas.List.Elements.{All-head, All-tail}
use Rattle.std.proofs.Math.Nat.{mul-le-mul_left}
use Rattle.vd_num.specs.Number.{is_within, pages_of}
use Rattle.vd_model.specs.Setting.{Setting}
use Rattle.vd_model.specs.Acts.{Act, Driver, DriverAct, Mapped, Unmapped, Synced_device, Streaming, Coherent}
use Rattle.vd_model.specs.Live.{Registration, registration_of, live_regions, region_covers, page_of, meets_page, maps_address, is_present}
use Rattle.vd_model.specs.Puts.{Iova, Area, shown_put, last_put, put_or, home_cell, is_moved, address_put, address_put_if, area_address, is_to_device, or_put, handed_put_if, zero_if}
use Rattle.vd_domain.specs.Handed.{is_coherent}
use Rattle.vd_domain.specs.Seen.{ring_memory}
use Rattle.vd_domain.specs.Stands as domain
use Rattle.vd_domain.proofs.Present.{page_past}

module _ (g : ℕ) (acts : List Act) (act : DriverAct) (a : ℕ) (none : address_put g (last_put g acts) acts (Driver act) a ≡ None) where
  quiet_cell : (r : Option Registration) → registration_of acts ≡ r → last_put g (Driver act ∷ acts) (home_cell r a) ≡ last_put g acts (home_cell r a)
  quiet_cell None e =
      ap (λ r. put_or (address_put_if (is_moved r a) g (last_put g acts) acts (Driver act) a) (last_put g acts) (Iova a)) e
      ∙ ap (λ o. put_or o (last_put g acts) (Iova a)) none
  quiet_cell (Some r) e = by (nat_lt a r.size) refl where
    by : (t : Bool) → nat_lt a r.size ≡ t
        → last_put g (Driver act ∷ acts) (if nat_lt a r.size then Area (r.base + a) else Iova a) ≡ last_put g acts (if nat_lt a r.size then Area (r.base + a) else Iova a)
    by true f =
        let within : is_within r.base r.size (r.base + a) ≡ true = grind (arith, nat_tests, f) in
        let back : r.base + a - r.base ≡ a = omega arith in
        ap (λ t. last_put g (Driver act ∷ acts) (if t then Area (r.base + a) else Iova a)) f
        ∙ ap (λ o. put_or (option_and_then (address_put g (last_put g acts) acts (Driver act)) o) (last_put g acts) (Area (r.base + a)))
        (ap (λ o. area_address o (r.base + a)) e ∙ ap (λ t. if t then Some (r.base + a - r.base) else None) within ∙ ap Some back)
        ∙ ap (λ o. put_or o (last_put g acts) (Area (r.base + a))) none
        ∙ sym (ap (λ t. last_put g acts (if t then Area (r.base + a) else Iova a)) f)
    by false f =
        ap (λ t. last_put g (Driver act ∷ acts) (if t then Area (r.base + a) else Iova a)) f
        ∙ ap (λ o. put_or (address_put_if (is_moved o a) g (last_put g acts) acts (Driver act) a) (last_put g acts) (Iova a)) e
        ∙ ap (λ t. put_or (address_put_if t g (last_put g acts) acts (Driver act) a) (last_put g acts) (Iova a)) f
        ∙ ap (λ o. put_or o (last_put g acts) (Iova a)) none
        ∙ sym (ap (λ t. last_put g acts (if t then Area (r.base + a) else Iova a)) f)

  quiet_byte : (shown_put g (Driver act ∷ acts) a).byte ≡ (shown_put g acts a).byte
  quiet_byte = ap (λ p. p.byte) (quiet_cell (registration_of acts) refl)

-- an act that puts nothing at coherent addresses, and changes no region
pub ring_quiet : (x : Setting) (acts : List Act) (act : DriverAct) → ((a : ℕ) → is_coherent (Driver act ∷ acts) a ≡ is_coherent acts a)
    → ((a : ℕ) → is_coherent acts a ≡ true → address_put x.per_page (last_put x.per_page acts) acts (Driver act) a ≡ None)
    → ring_memory x (Driver act ∷ acts) ≡ ring_memory x acts
ring_quiet x acts act same none = λ j a. by a (is_coherent acts a) refl j where
  by : (a : ℕ) (t : Bool) → is_coherent acts a ≡ t → ring_memory x (Driver act ∷ acts) a ≡ ring_memory x acts a
  by a true e =
      ap (λ t. if t then Some (shown_put x.per_page (Driver act ∷ acts) a).byte else None) (same a ∙ e)
      ∙ ap Some (quiet_byte x.per_page acts act a (none a e))
      ∙ sym (ap (λ t. if t then Some (shown_put x.per_page acts a).byte else None) e)
  by a false e =
      ap (λ t. if t then Some (shown_put x.per_page (Driver act ∷ acts) a).byte else None) (same a ∙ e)
      ∙ sym (ap (λ t. if t then Some (shown_put x.per_page acts a).byte else None) e)

-- a coherent address lies behind bounce memory
pub high_of : (x : Setting) (regions : List Coherent) → All (λ (r : Coherent). x.bounce ≤ r.slot) regions → (a : ℕ) → list_any (λ r. region_covers r a) regions ≡ true → 4096 * x.bounce ≤ a
high_of x [] all a e = absurd (true≢false (sym e))
high_of x (r ∷ rs) all a e = by (region_covers r a) refl e (high_of x rs (All-tail (λ (r : Coherent). x.bounce ≤ r.slot) r rs all) a) where
  by : (t : Bool) → region_covers r a ≡ t → (t || list_any (λ r. region_covers r a) rs) ≡ true → (list_any (λ r. region_covers r a) rs ≡ true → 4096 * x.bounce ≤ a) → 4096 * x.bounce ≤ a
  by true f e later =
      let low : x.bounce ≤ r.slot = All-head (λ (r : Coherent). x.bounce ≤ r.slot) r rs all in
      let from : r.slot ≤ a / 4096 = grind (arith, nat_tests, f) in
      omega arith
  by false f e later = later e

-- a page behind bounce memory, which has whole pages
whole_past : (g n a : ℕ) → 4096 * (g * n) ≤ a → g * n ≤ g * (a / (4096 * g))
whole_past zero n a high = omega arith
whole_past (suc g) n a high =
    let first : 4096 * suc g * n ≡ 4096 * (suc g * n) = omega arith in
    mul-le-mul_left (suc g) (page_past (4096 * suc g) n a (omega arith) (omega arith))

module _ (x : Setting) (n : ℕ) (whole : x.bounce ≡ x.per_page * n) (m : Streaming) (low : m.slot + pages_of m.want.len ≤ x.bounce) (a : ℕ) (high : 4096 * x.bounce ≤ a) where
  off_bytes : maps_address m a ≡ false
  off_bytes = let past : 4096 * m.slot + m.want.len ≤ a = omega arith in grind (arith, nat_tests)

  off_page : meets_page x.per_page (page_of x.per_page a) m ≡ false
  off_page = off_test (x.per_page * (a / (4096 * x.per_page))) (m.slot + pages_of m.want.len) (nat_lt m.slot (x.per_page * (a / (4096 * x.per_page)) + x.per_page)) (omega (arith, past, low, whole)) where
    past : x.per_page * n ≤ x.per_page * (a / (4096 * x.per_page))
    past = whole_past x.per_page n a (subst (λ k. 4096 * k ≤ a) whole high)

    off_test : (i j : ℕ) (t : Bool) → j ≤ i → (nat_lt i j && t) ≡ false
    off_test i j t le = let no : nat_lt i j ≡ false = grind (arith, nat_tests) in ap (λ b. b && t) no

  mapped_none : (acts : List Act) → address_put x.per_page (last_put x.per_page acts) acts (Driver (Mapped m)) a ≡ None
  mapped_none acts =
      ap (λ t. or_put (handed_put_if (is_to_device m.want.dir && t) (last_put x.per_page acts) m a) (zero_if (meets_page x.per_page (page_of x.per_page a) m && not (is_present x.per_page acts (page_of x.per_page a))))) off_bytes
      ∙ ap (λ t. or_put (handed_put_if (is_to_device m.want.dir && false) (last_put x.per_page acts) m a) (zero_if (t && not (is_present x.per_page acts (page_of x.per_page a))))) off_page
      ∙ by (is_to_device m.want.dir) where
        by : (t : Bool) → or_put (handed_put_if (t && false) (last_put x.per_page acts) m a) None ≡ None
        by true = refl
        by false = refl

  synced_none : (acts : List Act) → address_put x.per_page (last_put x.per_page acts) acts (Driver (Synced_device m)) a ≡ None
  synced_none acts = ap (λ t. handed_put_if t (last_put x.per_page acts) m a) off_bytes

module _ (x : Setting) (n : ℕ) (whole : x.bounce ≡ x.per_page * n) (acts : List Act) (high : All (λ (r : Coherent). x.bounce ≤ r.slot) (live_regions acts)) (m : Streaming) where
  pub mapped_quiet : m.slot + pages_of m.want.len ≤ x.bounce → ring_memory x (Driver (Mapped m) ∷ acts) ≡ ring_memory x acts
  mapped_quiet low = ring_quiet x acts (Mapped m) (λ a. refl) (λ a e. mapped_none x n whole m low a (high_of x (live_regions acts) high a e) acts)

  pub synced_quiet : m.slot + pages_of m.want.len ≤ x.bounce → ring_memory x (Driver (Synced_device m) ∷ acts) ≡ ring_memory x acts
  synced_quiet low = ring_quiet x acts (Synced_device m) (λ a. refl) (λ a e. synced_none x n whole m low a (high_of x (live_regions acts) high a e) acts)

pub unmapped_quiet : (x : Setting) (acts : List Act) (m : Streaming) → ring_memory x (Driver (Unmapped m) ∷ acts) ≡ ring_memory x acts
unmapped_quiet x acts m = ring_quiet x acts (Unmapped m) (λ a. refl) (λ a e. refl)
