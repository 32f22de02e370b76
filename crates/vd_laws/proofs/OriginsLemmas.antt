-- Where each byte came from.
use Rattle.std.proofs.Common.{◌≡◌, ℕ, ◌+◌, ◌-◌, ◌<◌, ◌≤◌, Bool, true, false, refl, ap, subst, ◌∙◌, sym, arith, Option, None, Some, cond, List, [], ◌∷◌, ◌++◌, ◌&&◌, not, nat_le, nat_lt, true≢false, inl, inr}
use Rattle.std.specs.Option.{option_map, option_and_then}
use Rattle.std.proofs.lemmas.Bool.{and_parts, leb-true, ltb-true}
use Rattle.vd_num.specs.Number.{is_within}
use Rattle.vd_model.specs.declared.memory.Origin.{Origin}
use Rattle.vd_model.specs.declared.memory.Origin.TheVariants.{Zero, Daemon, Handed}
use Rattle.vd_model.specs.Acts.{Act, Node, Driver, Streaming, Daemon_put, Area_made, Area_put, Registered, Deregistered, Mapped, Synced_device, Region_made, Driver_put}
use Rattle.vd_model.specs.Live.{Registration, registration_of, is_in_use, page_of, meets_page, is_present, region_covers, maps_address}
use Rattle.vd_model.specs.Puts.{Cell, Iova, Area, Ram, Put, byte_in, text_at, zero_if, is_to_device, home_cell, is_moved, area_address, put_if, handed_put, handed_put_if, or_put, returned_put, address_put, address_put_if, iova_put, area_put, put_at, put_or, last_put, shown_put}
use Rattle.vd_model.specs.Setting.{Setting}
use Rattle.vd_laws.proofs.Legal.{Legal}
use Rattle.vd_laws.proofs.Ranges.{in_range}
use Rattle.vd_laws.specs.Origins.{has_registration, PassesWrite, IsCopied, Hands, ComesFrom, Comes, IsIndexOf, IsReadable, IsAddressOf}

-- a sync to the device is of a mapping that carries bytes there
abbrev pub Fits : Act → Type 0
Fits (Driver (Synced_device m)) = is_to_device m.want.dir ≡ true
Fits _ = Unit {0}

abbrev pub AllFit : List Act → Type 0
AllFit [] = Unit {0}
AllFit (act ∷ acts) = Fits act × AllFit acts

-- ---- addresses of cells

-- where in the area the last registration put the bounce memory, whether it stands or not
last_base : List Act → Option ℕ
last_base [] = None
last_base (Node (Registered base size) ∷ acts) = Some base
last_base (_ ∷ acts) = last_base acts

BaseOf : Option Registration → Option ℕ → Type 0
BaseOf None o = Unit {0}
BaseOf (Some r) o = o ≡ Some r.base

standing_base : (acts : List Act) → BaseOf (registration_of acts) (last_base acts)
unfolding BaseOf last_base
standing_base [] = tt
standing_base (Node (Registered base size) ∷ acts) = refl
standing_base (Node Deregistered ∷ acts) = tt
standing_base (_ ∷ acts) = standing_base acts

-- the address of a cell
IsAt : Option ℕ → Cell → ℕ → Type 0
IsAt o (Iova a) at = at ≡ a
IsAt o (Area p) at = (base a : ℕ) → o ≡ Some base → p ≡ base + a → at ≡ a
IsAt o (Ram k i) at = Unit {0}

-- the index of a cell in the area
IsOf : Cell → List Act → ℕ → Type 0
IsOf (Iova a) acts o = IsIndexOf a acts o
IsOf (Area p) acts o = o ≡ p
IsOf (Ram k i) acts o = Unit {0}

-- what stands in a cell came from there
From : ℕ → List Act → Cell → Put → Type 0
unfolding IsAt IsOf last_base
From g acts (Iova a) put = ComesFrom g acts (IsAt (last_base acts) (Iova a)) (IsOf (Iova a)) put.byte put.origin
From g acts (Area p) put = ComesFrom g acts (IsAt (last_base acts) (Area p)) (IsOf (Area p)) put.byte put.origin
From g acts (Ram k i) put = Unit {0}

-- the cell's address stays, but for a registration
same_base : (act : Act) (acts : List Act) → has_registration (act ∷ []) ≡ false → last_base (act ∷ acts) ≡ last_base acts
unfolding last_base
same_base (Node (Registered base size)) acts e = absurd (true≢false e)
same_base _ acts e = refl

-- ---- a byte that stays, or moves from cell to cell

no_registration : (act : Act) (later : List Act) → has_registration (act ∷ later) ≡ false → (has_registration (act ∷ []) ≡ false) × (has_registration later ≡ false)
no_registration (Node (Registered base size)) later e = absurd (true≢false e)
no_registration _ later e = (refl, e)

-- a registration that stands was the same before acts that make none
still_registered : (later acts : List Act) (r : Registration) → has_registration later ≡ false → registration_of (later ++ acts) ≡ Some r → registration_of acts ≡ Some r
still_registered [] acts r none e = e
still_registered (Node (Registered base size) ∷ later) acts r none e = absurd (true≢false none)
still_registered (Node Deregistered ∷ later) acts r none e = cc
still_registered (_ ∷ later) acts r none e = still_registered later acts r none e

-- where what was written into the area passes, after acts with no registration
abbrev Moves : List Act → (List Act → ℕ → Type 0) → (List Act → ℕ → Type 0) → Type 0
Moves acts M N = (later : List Act) (from : ℕ) (bytes : List ℕ) (earlier : List Act) (o : ℕ) → acts ≡ later ++ Node (Area_put from bytes) ∷ earlier → has_registration later ≡ false → M earlier o → N earlier o

write_passes : (acts : List Act) (P Q : ℕ → Type 0) (M N : List Act → ℕ → Type 0) (later : List Act) (act : Act) (earlier : List Act) (at : ℕ) → acts ≡ later ++ act ∷ earlier → has_registration later ≡ false
    → ((at : ℕ) → P at → Q at) → Moves acts M N → PassesWrite P M earlier at act → PassesWrite Q N earlier at act
write_passes acts P Q M N later (Node (Daemon_put from bytes)) earlier at split none f k place = f at place
write_passes acts P Q M N later (Node (Area_put from bytes)) earlier at split none f k place = k later from bytes earlier at split none place
write_passes acts P Q M N later (Node act) earlier at split none f k place = absurd place
write_passes acts P Q M N later _ earlier at split none f k place = absurd place

carried : (g : ℕ) (act : Act) (acts : List Act) (P Q : ℕ → Type 0) (M N : List Act → ℕ → Type 0) (byte : ℕ) (origin : Origin)
    → ((at : ℕ) → has_registration (act ∷ []) ≡ false → P at → Q at) → (has_registration (act ∷ []) ≡ false → Moves acts M N) → ComesFrom g acts P M byte origin → ComesFrom g (act ∷ acts) Q N byte origin
carried g act acts P Q M N byte Zero f k c = c
carried g act acts P Q M N byte Daemon f k c = record {
  later = act ∷ c.later;
  act = c.act;
  earlier = c.earlier;
  at = c.at;
  split = ap (λ l. act ∷ l) c.split;
  writes = c.writes;
  stays = λ none. let p = no_registration act c.later none in write_passes acts P Q M N c.later c.act c.earlier c.at c.split p.1 (λ at h. f at p.0 h) (k p.0) (c.stays p.1);
}
carried g act acts P Q M N byte (Handed mapping) f k c = record {
  later = act ∷ c.later;
  act = c.act;
  earlier = c.earlier;
  at = c.at;
  split = ap (λ l. act ∷ l) c.split;
  hands = c.hands;
  stays = λ none. let p = no_registration act c.later none in f c.at p.0 (c.stays p.1);
}

weaker : (g : ℕ) (acts : List Act) (P Q : ℕ → Type 0) (M N : List Act → ℕ → Type 0) (byte : ℕ) (origin : Origin) → ((at : ℕ) → P at → Q at) → Moves acts M N → ComesFrom g acts P M byte origin → ComesFrom g acts Q N byte origin
weaker g acts P Q M N byte Zero f k c = c
weaker g acts P Q M N byte Daemon f k c =
    record { later = c.later; act = c.act; earlier = c.earlier; at = c.at; split = c.split; writes = c.writes; stays = λ e. write_passes acts P Q M N c.later c.act c.earlier c.at c.split e f k (c.stays e) }
weaker g acts P Q M N byte (Handed mapping) f k c =
    record { later = c.later; act = c.act; earlier = c.earlier; at = c.at; split = c.split; hands = c.hands; stays = λ e. f c.at (c.stays e) }

-- the cell of an address in the area
cell_index : (r : Registration) (a : ℕ) → nat_lt a r.size ≡ true → area_address (Some r) (r.base + a) ≡ Some a
cell_index r a e =
    let low : a < r.size = ltb-true a r.size e in
    let back : r.base + a - r.base ≡ a = omega arith in
    ap (λ b. cond b (Some (r.base + a - r.base)) None) (in_range r.base r.size (r.base + a) (omega arith) (omega arith)) ∙ ap (λ n. Some n) back

-- while a registration stands, what was written into the cell of an address
index_moves : (acts : List Act) (r : Registration) (a : ℕ) → registration_of acts ≡ Some r → nat_lt a r.size ≡ true → Moves acts (λ earlier o. o ≡ r.base + a) (IsIndexOf a)
index_moves acts r a there low later from bytes earlier o split none is =
    let stood : registration_of earlier ≡ Some r = still_registered later (Node (Area_put from bytes) ∷ earlier) r none (ap registration_of (sym split) ∙ there) in
    ap (λ n. area_address (registration_of earlier) n) is ∙ (ap (λ s. area_address s (r.base + a)) stood ∙ cell_index r a low)

stays_from : (g : ℕ) (act : Act) (acts : List Act) (cell : Cell) (put : Put) → From g acts cell put → From g (act ∷ acts) cell put
unfolding From IsOf
stays_from g act acts (Iova a) put c = carried g act acts (IsAt (last_base acts) (Iova a)) (IsAt (last_base (act ∷ acts)) (Iova a)) (IsOf (Iova a)) (IsOf (Iova a)) put.byte put.origin (λ at e h. subst (λ o. IsAt o (Iova a) at) (sym (same_base act acts e)) h) (λ e later from bytes earlier o split none is. is) c
stays_from g act acts (Area p) put c = carried g act acts (IsAt (last_base acts) (Area p)) (IsAt (last_base (act ∷ acts)) (Area p)) (IsOf (Area p)) (IsOf (Area p)) put.byte put.origin (λ at e h. subst (λ o. IsAt o (Area p) at) (sym (same_base act acts e)) h) (λ e later from bytes earlier o split none is. is) c
stays_from g act acts (Ram k i) put c = tt

-- ---- what an act puts

Each : Option Put → (Put → Type 0) → Type 0
Each None P = Unit {0}
Each (Some put) P = P put

zero_each : (b : Bool) (P : Put → Type 0) → (b ≡ true → P (record { byte = 0; origin = Zero })) → Each (zero_if b) P
unfolding Each
zero_each true P h = h refl
zero_each false P h = tt

put_each_if : (b : Bool) (before : Cell → Put) (cell : Cell) (P : Put → Type 0) → (b ≡ true → P (before cell)) → Each (put_if b before cell) P
unfolding Each
put_each_if true before cell P h = h refl
put_each_if false before cell P h = tt

handed_put_each : (b : Bool) (before : Cell → Put) (m : Streaming) (a : ℕ) (P : Put → Type 0) → (b ≡ true → P (handed_put before m a)) → Each (handed_put_if b before m a) P
unfolding Each
handed_put_each true before m a P h = h refl
handed_put_each false before m a P h = tt

or_each : (o p : Option Put) (P : Put → Type 0) → Each o P → Each p P → Each (or_put o p) P
unfolding Each
or_each None p P h k = k
or_each (Some put) p P h k = h

text_each : (bytes : List ℕ) (at i : ℕ) (origin : Origin) (P : Put → Type 0) → ((b : ℕ) → byte_in bytes at i ≡ Some b → P (record { byte = b; origin = origin })) → Each (text_at bytes at i origin) P
unfolding Each
text_each bytes at i origin P h = by (byte_in bytes at i) refl where
  by : (o : Option ℕ) → byte_in bytes at i ≡ o → Each (option_map (λ b. record { byte = b; origin = origin }) o) P
  by None e = tt
  by (Some b) e = h b e

put_or_each : (o : Option Put) (before : Cell → Put) (cell : Cell) (P : Put → Type 0) → Each o P → P (before cell) → P (put_or o before cell)
unfolding Each
put_or_each None before cell P h was = was
put_or_each (Some put) before cell P h was = h

module _ (g : ℕ) (acts : List Act) where
  -- an act hands a byte now
  handing : (act : Act) (mapping : Option ℕ) (byte a : ℕ) (Q : ℕ → Type 0) (N : List Act → ℕ → Type 0) → Hands g acts mapping byte a act → Q a → ComesFrom g (act ∷ acts) Q N byte (Handed mapping)
  handing act mapping byte a Q N hands q = record { later = []; act = act; earlier = acts; at = a; split = refl; hands = hands; stays = λ e. q }

  copied : (m : Streaming) (a : ℕ) → is_to_device m.want.dir ≡ true → maps_address m a ≡ true → IsCopied g acts m m.number (handed_put (last_put g acts) m a).byte a
  copied m a to here = record { number = refl; to_device = to; within = here; was = refl }

  address_each : (act : Act) (a : ℕ) (Q : ℕ → Type 0) (N : List Act → ℕ → Type 0) → Fits act → Q a → Each (address_put g (last_put g acts) acts act a) (λ put. ComesFrom g (act ∷ acts) Q N put.byte put.origin)
  unfolding Each
  address_each (Driver (Mapped m)) a Q N h q =
      or_each (handed_put_if (is_to_device m.want.dir && maps_address m a) (last_put g acts) m a) (zero_if (meets_page g (page_of g a) m && not (is_present g acts (page_of g a))))
      (λ put. ComesFrom g (Driver (Mapped m) ∷ acts) Q N put.byte put.origin)
      (handed_put_each (is_to_device m.want.dir && maps_address m a) (last_put g acts) m a (λ put. ComesFrom g (Driver (Mapped m) ∷ acts) Q N put.byte put.origin)
      (λ e. let p = and_parts (is_to_device m.want.dir) (maps_address m a) e in handing (Driver (Mapped m)) (Some m.number) (handed_put (last_put g acts) m a).byte a Q N (copied m a p.0 p.1) q))
      (zero_each (meets_page g (page_of g a) m && not (is_present g acts (page_of g a))) (λ put. ComesFrom g (Driver (Mapped m) ∷ acts) Q N put.byte put.origin) (λ f. refl))
  address_each (Driver (Synced_device m)) a Q N h q = handed_put_each (maps_address m a) (last_put g acts) m a (λ put. ComesFrom g (Driver (Synced_device m) ∷ acts) Q N put.byte put.origin) (λ e. handing (Driver (Synced_device m)) (Some m.number) (handed_put (last_put g acts) m a).byte a Q N (copied m a h e) q)
  address_each (Driver (Region_made r)) a Q N h q = zero_each (region_covers r a) (λ put. ComesFrom g (Driver (Region_made r) ∷ acts) Q N put.byte put.origin) (λ f. refl)
  address_each (Driver (Driver_put at bytes)) a Q N h q = text_each bytes at a (Handed None) (λ put. ComesFrom g (Driver (Driver_put at bytes) ∷ acts) Q N put.byte put.origin) (λ b e. handing (Driver (Driver_put at bytes)) None b a Q N e q)
  address_each (Node (Daemon_put at bytes)) a Q N h q = text_each bytes at a Daemon (λ put. ComesFrom g (Node (Daemon_put at bytes) ∷ acts) Q N put.byte put.origin) (λ b e. record { later = []; act = Node (Daemon_put at bytes); earlier = acts; at = a; split = refl; writes = e; stays = λ none. q })
  address_each _ a Q N h q = tt

  -- a put by address, unless its cell is in the area
  unmoved_each : (b : Bool) (act : Act) (a : ℕ) → Fits act → Each (address_put_if b g (last_put g acts) acts act a) (From g (act ∷ acts) (Iova a))
  unfolding Each From IsAt IsOf
  unmoved_each true act a h = tt
  unmoved_each false act a h = address_each act a (IsAt (last_base (act ∷ acts)) (Iova a)) (IsOf (Iova a)) h refl

  -- what an act puts into the store of an address
  iova_each : (act : Act) (a : ℕ) → Fits act → ((cell : Cell) → From g acts cell (last_put g acts cell)) → Each (iova_put g (last_put g acts) acts act a) (From g (act ∷ acts) (Iova a))
  unfolding Each From IsAt IsOf last_base BaseOf
  iova_each (Node Deregistered) a h was = by (registration_of acts) refl (standing_base acts) where
    by : (o : Option Registration) → registration_of acts ≡ o → BaseOf o (last_base acts) → Each (returned_put g (last_put g acts) acts o a) (From g (Node Deregistered ∷ acts) (Iova a))
    by None there base = tt
    by (Some r) there base = put_each_if (nat_lt a r.size && is_in_use g acts (page_of g a)) (last_put g acts) (Area (r.base + a)) (From g (Node Deregistered ∷ acts) (Iova a)) (λ e.
        carried g (Node Deregistered) acts (IsAt (last_base acts) (Area (r.base + a))) (IsAt (last_base acts) (Iova a)) (IsOf (Area (r.base + a))) (IsOf (Iova a)) (last_put g acts (Area (r.base + a))).byte (last_put g acts (Area (r.base + a))).origin
        (λ at none is. is r.base a base refl) (λ none. index_moves acts r a there (and_parts (nat_lt a r.size) (is_in_use g acts (page_of g a)) e).0) (was (Area (r.base + a))))
  iova_each act a h was = unmoved_each (is_moved (registration_of acts) a) act a h

  -- an act that puts by address, at its cell in the area
  placed_each : (act : Act) (o : ℕ) → Fits act → last_base (act ∷ acts) ≡ last_base acts → (r : Option Registration) → BaseOf r (last_base acts)
      → Each (option_and_then (address_put g (last_put g acts) acts act) (area_address r o)) (From g (act ∷ acts) (Area o))
  unfolding Each From IsAt IsOf BaseOf
  placed_each act o h same None base = tt
  placed_each act o h same (Some r) base = by (is_within r.base r.size o) refl where
    by : (b : Bool) → is_within r.base r.size o ≡ b → Each (option_and_then (address_put g (last_put g acts) acts act) (cond b (Some (o - r.base)) None)) (From g (act ∷ acts) (Area o))
    by false e = tt
    by true e =
        let low : r.base ≤ o = leb-true r.base o (and_parts (nat_le r.base o) (nat_lt o (r.base + r.size)) e).0 in
        address_each act (o - r.base) (IsAt (last_base (act ∷ acts)) (Area o)) (IsOf (Area o)) h (λ base_is a f e. let same_base : Some r.base ≡ Some base_is = sym base ∙ sym same ∙ f in let k : r.base ≡ base_is = cc in omega arith)

  -- what an act puts into the area
  area_each : (act : Act) (o : ℕ) → Fits act → ((cell : Cell) → From g acts cell (last_put g acts cell)) → Each (area_put g (last_put g acts) acts act o) (From g (act ∷ acts) (Area o))
  unfolding Each From IsOf last_base
  area_each (Node (Area_made n)) o h was = zero_each (nat_lt o n) (From g (Node (Area_made n) ∷ acts) (Area o)) (λ e. refl)
  area_each (Node (Area_put at bytes)) o h was = text_each bytes at o Daemon (From g (Node (Area_put at bytes) ∷ acts) (Area o)) (λ b e. record { later = []; act = Node (Area_put at bytes); earlier = acts; at = o; split = refl; writes = e; stays = λ none. refl })
  area_each (Node (Registered base size)) o h was = put_each_if (is_within base size o && is_in_use g acts (page_of g (o - base))) (last_put g acts) (Iova (o - base)) (From g (Node (Registered base size) ∷ acts) (Area o))
      (λ e. carried g (Node (Registered base size)) acts (IsAt (last_base acts) (Iova (o - base))) (IsAt (Some base) (Area o)) (IsOf (Iova (o - base))) (IsOf (Area o)) (last_put g acts (Iova (o - base))).byte (last_put g acts (Iova (o - base))).origin
      (λ at none is. absurd (true≢false none)) (λ none. absurd (true≢false none)) (was (Iova (o - base))))
  area_each act o h was = placed_each act o h refl (registration_of acts) (standing_base acts)

  put_each : (act : Act) (cell : Cell) → Fits act → ((cell : Cell) → From g acts cell (last_put g acts cell)) → Each (put_at g (last_put g acts) acts act cell) (From g (act ∷ acts) cell)
  unfolding Each From
  put_each act (Iova a) h was = iova_each act a h was
  put_each act (Area o) h was = area_each act o h was
  put_each act (Ram k i) h was = any (put_at g (last_put g acts) acts act (Ram k i)) where
    any : (o : Option Put) → Each o (From g (act ∷ acts) (Ram k i))
    any None = tt
    any (Some put) = tt

comes_from : (g : ℕ) (acts : List Act) → AllFit acts → (cell : Cell) → From g acts cell (last_put g acts cell)
unfolding From
comes_from g [] fit (Iova a) = refl
comes_from g [] fit (Area o) = refl
comes_from g [] fit (Ram k i) = tt
comes_from g (act ∷ acts) fit cell =
    put_or_each (put_at g (last_put g acts) acts act cell) (last_put g acts) cell (From g (act ∷ acts) cell) (put_each g acts act cell fit.0 (comes_from g acts fit.1))
    (stays_from g act acts cell (last_put g acts cell) (comes_from g acts fit.1 cell))

-- what a daemon sees at an address
pub comes : (g : ℕ) (acts : List Act) → AllFit acts → (a : ℕ) → Comes g acts a (shown_put g acts a)
unfolding From IsAt IsOf BaseOf
comes g acts fit a = by (registration_of acts) refl (standing_base acts) where
  by : (o : Option Registration) → registration_of acts ≡ o → BaseOf o (last_base acts) → Comes g acts a (last_put g acts (home_cell o a))
  by None there base = comes_from g acts fit (Iova a)
  by (Some r) there base = either (nat_lt a r.size) refl where
    either : (b : Bool) → nat_lt a r.size ≡ b → Comes g acts a (last_put g acts (cond b (Area (r.base + a)) (Iova a)))
    either true low = weaker g acts (IsAt (last_base acts) (Area (r.base + a))) (λ at. at ≡ a) (IsOf (Area (r.base + a))) (IsIndexOf a) (last_put g acts (Area (r.base + a))).byte (last_put g acts (Area (r.base + a))).origin
        (λ at is. is r.base a base refl) (index_moves acts r a there low) (comes_from g acts fit (Area (r.base + a)))
    either false low = comes_from g acts fit (Iova a)

-- what stands in the area
pub comes_in_area : (g : ℕ) (acts : List Act) → AllFit acts → (o : ℕ)
    → ComesFrom g acts (IsAddressOf acts o) (λ earlier at. at ≡ o) (last_put g acts (Area o)).byte (last_put g acts (Area o)).origin
unfolding From IsAt IsOf BaseOf
comes_in_area g acts fit o =
    weaker g acts (IsAt (last_base acts) (Area o)) (IsAddressOf acts o) (IsOf (Area o)) (λ earlier at. at ≡ o) (last_put g acts (Area o)).byte (last_put g acts (Area o)).origin
    (λ at is. by at is (registration_of acts) (standing_base acts)) (λ later from bytes earlier at split none is. is) (comes_from g acts fit (Area o)) where
      by : (at : ℕ) → IsAt (last_base acts) (Area o) at → (r : Option Registration) → BaseOf r (last_base acts) → (a : ℕ) → area_address r o ≡ Some a → at ≡ a
      by at is None base a e = cc
      by at is (Some r) base a e = within (is_within r.base r.size o) refl e where
        within : (b : Bool) → is_within r.base r.size o ≡ b → cond b (Some (o - r.base)) None ≡ Some a → at ≡ a
        within true f e =
            let low : r.base ≤ o = leb-true r.base o (and_parts (nat_le r.base o) (nat_lt o (r.base + r.size)) f).0 in
            let same : o - r.base ≡ a = cc in
            is r.base a base (omega arith)
        within false f e = cc

-- by what an origin says
pub readable : (g : ℕ) (acts : List Act) (P : ℕ → Type 0) (N : List Act → ℕ → Type 0) (byte : ℕ) (origin : Origin) → ComesFrom g acts P N byte origin → IsReadable g acts P N byte
readable g acts P N byte Zero c = inl c
readable g acts P N byte Daemon c = inr (inl c)
readable g acts P N byte (Handed mapping) c = inr (inr (mapping, c))

-- ---- the acts of a run

pub fitting : (x : Setting) (acts : List Act) → Legal x acts → AllFit acts
fitting x [] legal = tt
fitting x (Driver (Synced_device m) ∷ acts) legal = (legal.0.1, fitting x acts legal.1)
fitting x (_ ∷ acts) legal = (tt, fitting x acts legal.1)

pub earlier_fit : (later acts : List Act) → AllFit (later ++ acts) → AllFit acts
earlier_fit [] acts fit = fit
earlier_fit (act ∷ later) acts fit = earlier_fit later acts fit.1
