-- The byte in a cell after an act.
use Rattle.std.proofs.Common.{◌≡◌, ℕ, ◌+◌, ◌-◌, ◌<◌, ◌≤◌, refl, ap, arith, Bool, true, false, if◌then◌else◌, ◌&&◌, nat_le, nat_lt, List, length, Option, Some, None}
use Rattle.std.proofs.lemmas.Bool.Decides.{nat_tests}
use Rattle.std.proofs.lemmas.Option.{slice_get-get_or, slice_get_past}
use Rattle.std.specs.List.{slice_index, slice_get}
use Rattle.std.specs.Option.{option_map, option_and_then}
use Rattle.vd_num.specs.Number.{is_within}
use Rattle.vd_model.specs.declared.memory.Origin.{Origin}
use Rattle.vd_model.specs.Acts.{Act}
use Rattle.vd_model.specs.Puts.{Cell, Put, text_at, put_or, put_if, zero_if, address_put, address_put_if}

-- an act that puts nothing at an address leaves the byte in the address's store
pub quiet_iova : (moved : Bool) (g : ℕ) (before : Cell → Put) (acts : List Act) (act : Act) (a : ℕ) (cell : Cell) → address_put g before acts act a ≡ None
    → (put_or (address_put_if moved g before acts act a) before cell).byte ≡ (before cell).byte
quiet_iova true g before acts act a cell none = refl
quiet_iova false g before acts act a cell none = ap (λ p. (put_or p before cell).byte) none

-- an act that puts nothing at any address leaves the bytes of the area
pub quiet_area : (o : Option ℕ) (g : ℕ) (before : Cell → Put) (acts : List Act) (act : Act) (cell : Cell) → ((a : ℕ) → address_put g before acts act a ≡ None)
    → (put_or (option_and_then (address_put g before acts act) o) before cell).byte ≡ (before cell).byte
quiet_area None g before acts act cell none = refl
quiet_area (Some a) g before acts act cell none = ap (λ p. (put_or p before cell).byte) (none a)

-- zeros where the test holds
pub zero_put : (test : Bool) (before : Cell → Put) (cell : Cell) → test ≡ true → (put_or (zero_if test) before cell).byte ≡ 0
zero_put true before cell e = refl
zero_put false before cell e = absurd (no e) where
  no : false ≡ true → ⊥
  no e = cc

-- what is put of another cell where the test holds
pub moved_put : (test : Bool) (before : Cell → Put) (from cell : Cell) → (put_or (put_if test before from) before cell).byte ≡ (if test then (before from).byte else (before cell).byte)
moved_put true before from cell = refl
moved_put false before from cell = refl

-- a text where it lies, and the byte before elsewhere
pub text_put : (bytes : List ℕ) (from at : ℕ) (origin : Origin) (before : Cell → Put) (cell : Cell)
    → (put_or (text_at bytes from at origin) before cell).byte ≡ (if is_within from (length bytes) at then slice_index bytes (at - from) else (before cell).byte)
text_put bytes from at origin before cell = by (nat_le from at) refl where
  ends : (b : Bool) → nat_lt at (from + length bytes) ≡ b → from ≤ at
      → (put_or (option_map (λ b. record { byte = b; origin = origin }) (slice_get bytes (at - from))) before cell).byte ≡ (if b then slice_index bytes (at - from) else (before cell).byte)
  ends true e low =
      let inside : at - from < length bytes = grind (arith, nat_tests) in
      ap (λ o. (put_or (option_map (λ b. record { byte = b; origin = origin }) o) before cell).byte) (slice_get-get_or bytes (at - from) 0 inside)
  ends false e low =
      let past : length bytes ≤ at - from = grind (arith, nat_tests) in
      ap (λ o. (put_or (option_map (λ b. record { byte = b; origin = origin }) o) before cell).byte) (slice_get_past bytes (at - from) past)

  by : (b : Bool) → nat_le from at ≡ b
      → (put_or (option_map (λ b. record { byte = b; origin = origin }) (if b then slice_get bytes (at - from) else None)) before cell).byte
      ≡ (if b && nat_lt at (from + length bytes) then slice_index bytes (at - from) else (before cell).byte)
  by true e = let low : from ≤ at = grind (arith, nat_tests) in ends (nat_lt at (from + length bytes)) refl low
  by false e = refl
