-- What whole accesses show, change and are denied by.
use Rattle.std.proofs.Common.{◌≡◌, ℕ, zero, suc, ◌+◌, ◌-◌, ◌%◌, ◌^◌, ◌<◌, Bool, true, false, refl, ap, subst, ◌∙◌, sym, arith, ◌==◌, if◌then◌else◌, List, [], ◌∷◌, length, Option, Some, None, eqb-true}
use Rattle.std.specs.Option.{option_map_or, option_and_then}
use Rattle.std.specs.List.{slice_index}
use Rattle.std.proofs.Math.Nat.{mod-lt, mod-eq_of_lt, mod-add-mod}
use Rattle.vd_model.specs.declared.memory.Region.{Region}
use Rattle.vd_model.specs.Reading.{or_else}
use Rattle.vd_vhost_model.specs.declared.access.Access.{Access}
use Rattle.vd_vhost_model.specs.declared.access.Access.TheVariants.{Read, Write}
use Rattle.vd_vhost_model.specs.declared.access.Denied.{Denied}
use Rattle.vd_vhost_model.specs.declared.access.Denied.TheVariants.{Bus, Perm}
use Rattle.vd_vhost_model.specs.GuestTable.{region_at, permits, sees, denial_at, first_denial, next_address, loaded, stored_byte, byte_if}
use Rattle.vd_vhost_laws.specs.Through.{address_after, IsThrough, BreaksRule, FailsFirst}
use Rattle.vd_vhost_laws.proofs.Found.{found_holds, none_holds}

-- ---- addresses

pub next_small : (at : ℕ) → next_address at < 2 ^ 64
next_small at = mod-lt (at + 1) {m = 2 ^ 64} (omega arith)

first_address : (at : ℕ) → at < 2 ^ 64 → address_after at 0 ≡ at
first_address at small = let none : at + 0 ≡ at = omega arith in ap (λ a. a % 2 ^ 64) none ∙ mod-eq_of_lt small

later_address : (at i : ℕ) → address_after (next_address at) i ≡ address_after at (i + 1)
later_address at i = let more : at + 1 + i ≡ at + (i + 1) = omega arith in mod-add-mod (at + 1) (2 ^ 64) i ∙ ap (λ a. a % 2 ^ 64) more

-- ---- one address

abbrev Through : List Region → Access → ℕ → Type 0
Through table access at = (o : ℕ) × IsThrough table access at o

module _ (table : List Region) (access : Access) (at : ℕ) where
  pub sees_through : (o : ℕ) → sees table access at ≡ Some o → IsThrough table access at o
  sees_through o e = by (region_at table at) refl e where
    by : (f : Option Region) → region_at table at ≡ f → option_and_then (λ r. if permits access r then Some (r.offset + (at - r.start)) else None) f ≡ Some o → IsThrough table access at o
    by None f g = cc
    by (Some r) f g = of (permits access r) refl g where
      of : (b : Bool) → permits access r ≡ b → (if b then Some (r.offset + (at - r.start)) else None) ≡ Some o → IsThrough table access at o
      of true p h = let is : r.offset + (at - r.start) ≡ o = cc in record { region = r; holds = found_holds table at r f; permitted = p; byte = sym is }
      of false p h = cc

  pub free_sees : denial_at table access at ≡ None → (o : ℕ) × (sees table access at ≡ Some o)
  free_sees e = by (region_at table at) e where
    by : (f : Option Region) → option_map_or (λ r. if permits access r then None else Some (Perm at)) f (Some (Bus at)) ≡ None
        → (o : ℕ) × (option_and_then (λ r. if permits access r then Some (r.offset + (at - r.start)) else None) f ≡ Some o)
    by None g = cc
    by (Some r) g = of (permits access r) g where
      of : (b : Bool) → (if b then None else Some (Perm at)) ≡ None → (o : ℕ) × ((if b then Some (r.offset + (at - r.start)) else None) ≡ Some o)
      of true h = (r.offset + (at - r.start), refl)
      of false h = cc

  denied_breaks : (why : Denied) → denial_at table access at ≡ Some why → BreaksRule table access at why
  denied_breaks why e = by (region_at table at) refl e where
    by : (f : Option Region) → region_at table at ≡ f → option_map_or (λ r. if permits access r then None else Some (Perm at)) f (Some (Bus at)) ≡ Some why → BreaksRule table access at why
    by None f g = let is : Bus at ≡ why = cc in subst (BreaksRule table access at) is (refl, none_holds table at f)
    by (Some r) f g = of (permits access r) refl g where
      of : (b : Bool) → permits access r ≡ b → (if b then None else Some (Perm at)) ≡ Some why → BreaksRule table access at why
      of true p h = cc
      of false p h = let is : Perm at ≡ why = cc in subst (BreaksRule table access at) is (refl, r, found_holds table at r f, p)

-- ---- all of an access

module _ (table : List Region) (access : Access) where
  pub first_fails : (len at : ℕ) (why : Denied) → at < 2 ^ 64 → first_denial table access at len ≡ Some why → FailsFirst table access at len why
  first_fails zero at why small e = cc
  first_fails (suc len) at why small e = by (denial_at table access at) refl (first_fails len (next_address at) why (next_small at)) e where
    here : address_after at 0 ≡ at
    here = first_address at small

    by : (d : Option Denied) → denial_at table access at ≡ d → (first_denial table access (next_address at) len ≡ Some why → FailsFirst table access (next_address at) len why)
        → or_else d (first_denial table access (next_address at) len) ≡ Some why → FailsFirst table access at (suc len) why
    by (Some found) f rest g = let is : found ≡ why = cc in record {
      index = 0;
      within = omega arith;
      before = λ i low. absurd (omega (arith, low));
      breaks = subst (λ a. BreaksRule table access a why) (sym here) (denied_breaks table access at why (f ∙ ap Some is));
    }
    by None f rest g =
        let later = rest g in
        let within = later.within in
        record {
          index = later.index + 1;
          within = omega (arith, within);
          before = λ i low. before later i low;
          breaks = subst (λ a. BreaksRule table access a why) (later_address at later.index) later.breaks;
        } where
          before : (later : FailsFirst table access (next_address at) len why) → (i : ℕ) → i < later.index + 1 → Through table access (address_after at i)
          before later zero low =
              let seen = free_sees table access at f in
              subst (Through table access) (sym here) (seen.0, sees_through table access at seen.0 seen.1)
          before later (suc i) low =
              let same : i + 1 ≡ suc i = omega arith in
              subst (Through table access) (later_address at i ∙ ap (address_after at) same) (later.before i (omega (arith, low)))

  free_parts : (a b : Option Denied) → or_else a b ≡ None → (a ≡ None) × (b ≡ None)
  free_parts None b e = (refl, e)
  free_parts (Some x) b e = cc

  pub free_from : (len at : ℕ) → first_denial table access at (suc len) ≡ None → (denial_at table access at ≡ None) × (first_denial table access (next_address at) len ≡ None)
  free_from len at e = free_parts (denial_at table access at) (first_denial table access (next_address at) len) e

-- the byte at each of a load's addresses
module _ (table : List Region) (memory : ℕ → ℕ) where
  abbrev ShownAt : ℕ → ℕ → Type 0
  ShownAt at byte = (o : ℕ) × IsThrough table Read at o × (byte ≡ memory o)

  pub loaded_len : (len at : ℕ) → length (loaded table memory at len) ≡ len
  loaded_len zero at = refl
  loaded_len (suc len) at = ap suc (loaded_len len (next_address at))

  pub loaded_each : (len at : ℕ) → at < 2 ^ 64 → first_denial table Read at len ≡ None → (i : ℕ) → i < len → ShownAt (address_after at i) (slice_index (loaded table memory at len) i)
  loaded_each zero at small e i low = absurd (omega (arith, low))
  loaded_each (suc len) at small e zero low =
      let seen = free_sees table Read at (free_from table Read len at e).0 in
      subst (λ a. ShownAt a (option_map_or memory (sees table Read at) 0)) (sym (first_address at small))
      (seen.0, sees_through table Read at seen.0 seen.1, ap (λ o. option_map_or memory o 0) seen.1)
  loaded_each (suc len) at small e (suc i) low =
      let same : i + 1 ≡ suc i = omega arith in
      subst (λ a. ShownAt a (slice_index (loaded table memory (next_address at) len) i)) (later_address at i ∙ ap (address_after at) same)
      (loaded_each len (next_address at) (next_small at) (free_from table Read len at e).1 i (omega (arith, low)))

-- the address of a store that gives a byte
module _ (table : List Region) (o b : ℕ) where
  abbrev StoredAt : ℕ → List ℕ → Type 0
  StoredAt at bytes = (i : ℕ) × (i < length bytes) × IsThrough table Write (address_after at i) o × (b ≡ slice_index bytes i)

  pub stored_at : (bytes : List ℕ) (at : ℕ) → at < 2 ^ 64 → stored_byte table at bytes o ≡ Some b → StoredAt at bytes
  stored_at [] at small e = cc
  stored_at (c ∷ bytes) at small e = by (stored_byte table (next_address at) bytes o) refl (stored_at bytes (next_address at) (next_small at)) e where
    here : (s : Option ℕ) → sees table Write at ≡ s → byte_if (option_map_or (λ p. p == o) s false) c ≡ Some b → StoredAt at (c ∷ bytes)
    here None f g = cc
    here (Some p) f g = of (p == o) refl g where
      of : (t : Bool) → (p == o) ≡ t → byte_if t c ≡ Some b → StoredAt at (c ∷ bytes)
      of false q h = cc
      of true q h =
          let is : c ≡ b = cc in
          (0, omega arith, subst (λ a. IsThrough table Write a o) (sym (first_address at small)) (sees_through table Write at o (f ∙ ap Some (eqb-true p o q))), sym is)

    by : (s : Option ℕ) → stored_byte table (next_address at) bytes o ≡ s → (stored_byte table (next_address at) bytes o ≡ Some b → StoredAt (next_address at) bytes)
        → or_else s (byte_if (option_map_or (λ p. p == o) (sees table Write at) false) c) ≡ Some b → StoredAt at (c ∷ bytes)
    by None f rest g = here (sees table Write at) refl g
    by (Some x) f rest g =
        let is : x ≡ b = cc in
        let later = rest (f ∙ ap Some is) in
        let low = later.1 in
        (later.0 + 1, omega (arith, low), subst (λ a. IsThrough table Write a o) (later_address at later.0) later.2, later.3 ∙ next later.0) where
          next : (i : ℕ) → slice_index bytes i ≡ slice_index (c ∷ bytes) (i + 1)
          next i = let same : suc i ≡ i + 1 = omega arith in ap (slice_index (c ∷ bytes)) same
