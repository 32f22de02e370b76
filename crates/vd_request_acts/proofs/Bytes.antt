-- The byte of what is put, and the byte of a cell after an act that puts bytes at addresses.
use Rattle.std.proofs.Common.{◌≡◌, ℕ, ◌-◌, ◌<◌, ◌≤◌, Bool, true, false, refl, ap, ◌∙◌, arith, Option, None, Some, nat_lt, nat_le, if◌then◌else◌, List, ◌∷◌, length}
use Rattle.std.specs.List.{slice_get, slice_index}
use Rattle.std.specs.Option.{option_map, option_and_then}
use Rattle.std.proofs.lemmas.Bool.Decides.{nat_tests}
use Rattle.std.proofs.lemmas.Option.{slice_get-get_or, slice_get_past}
use Rattle.vd_model.specs.declared.memory.Origin.{Origin}
use Rattle.vd_model.specs.Acts.{Act, Driver, DriverAct, Queue, QueueAct, Streaming}
use Rattle.vd_model.specs.Live.{Registration, registration_of}
use Rattle.vd_model.specs.Puts.{Cell, Put, Iova, Area, Ram, last_put, is_moved, put_or, or_put, zero_if, ram_cell, handed_put_if, iova_put, area_put, address_put, address_put_if, area_address, text_at}

abbrev pub byte_of : Option Put → Option ℕ
byte_of o = option_map (λ (p : Put). p.byte) o

-- the new number, if there is one, and else the old one
abbrev pub or_old : Option ℕ → ℕ → ℕ
or_old (Some new) old = new
or_old None old = old

pub put_byte : (o : Option Put) (before : Cell → Put) (cell : Cell) → (put_or o before cell).byte ≡ or_old (byte_of o) (before cell).byte
put_byte (Some put) before cell = refl
put_byte None before cell = refl

-- ---- a text from the start of a buffer

abbrev pub text_byte : List ℕ → ℕ → Bool → Option ℕ
text_byte bytes i t = if t then Some (slice_index bytes i) else None

abbrev pub text_of : Origin → Option ℕ → Option ℕ
text_of origin o = byte_of (option_map (λ (b : ℕ). record { byte = b; origin = origin }) o)

pub text_bytes : (bytes : List ℕ) (i : ℕ) (origin : Origin) → byte_of (text_at bytes 0 i origin) ≡ text_byte bytes i (nat_lt i (length bytes))
text_bytes bytes i origin =
    ap (λ t. text_of origin (if t then slice_get bytes (i - 0) else None)) low
    ∙ ap (λ n. text_of origin (slice_get bytes n)) back
    ∙ by (nat_lt i (length bytes)) refl where
      low : nat_le 0 i ≡ true
      low = grind (arith, nat_tests)

      back : i - 0 ≡ i
      back = omega arith

      by : (t : Bool) → nat_lt i (length bytes) ≡ t → text_of origin (slice_get bytes i) ≡ text_byte bytes i t
      by true e =
          let inside : i < length bytes = grind (arith, nat_tests, e) in
          ap (text_of origin) (slice_get-get_or bytes i 0 inside)
      by false e =
          let outside : length bytes ≤ i = grind (arith, nat_tests, e) in
          ap (text_of origin) (slice_get_past bytes i outside)

-- ---- the cell of an address

-- a byte that isn't a buffer's
abbrev pub IsSpot : Cell → Type 0
IsSpot (Ram k i) = ⊥
IsSpot _ = Unit {0}

-- the address whose byte the cell keeps
abbrev pub address_of : Option Registration → Cell → Option ℕ
address_of r (Iova a) = if is_moved r a then None else Some a
address_of r (Area o) = area_address r o
address_of r (Ram k i) = None

-- what is put at that address, or the old byte
abbrev pub over : (ℕ → Option ℕ) → Option ℕ → ℕ → ℕ
over f None old = old
over f (Some a) old = or_old (f a) old

pub over_none : (k : Option ℕ) (old : ℕ) → over (λ a. None) k old ≡ old
over_none None old = refl
over_none (Some a) old = refl

pub over_same : (f h : ℕ → Option ℕ) (k : Option ℕ) (old older : ℕ) → ((a : ℕ) → f a ≡ h a) → old ≡ older → over f k old ≡ over h k older
over_same f h None old older same e = e
over_same f h (Some a) old older same e = ap (λ o. or_old o old) (same a) ∙ ap (or_old (h a)) e

pub over_twice : (f h both : ℕ → Option ℕ) (k : Option ℕ) (old older : ℕ) → ((a : ℕ) → or_old (f a) (or_old (h a) old) ≡ or_old (both a) older) → old ≡ older
    → over f k (over h k old) ≡ over both k older
over_twice f h both None old older same e = e
over_twice f h both (Some a) old older same e = same a

module _ (g : ℕ) (acts : List Act) where
  -- the bytes that the act puts at addresses
  abbrev pub puts_of : Act → ℕ → Option ℕ
  puts_of act a = byte_of (address_put g (last_put g acts) acts act a)

  spot : (act : Act) → ((a : ℕ) → iova_put g (last_put g acts) acts act a ≡ address_put_if (is_moved (registration_of acts) a) g (last_put g acts) acts act a)
      → ((o : ℕ) → area_put g (last_put g acts) acts act o ≡ option_and_then (address_put g (last_put g acts) acts act) (area_address (registration_of acts) o))
      → (cell : Cell) → IsSpot cell → (last_put g (act ∷ acts) cell).byte ≡ over (puts_of act) (address_of (registration_of acts) cell) (last_put g acts cell).byte
  spot act iova area (Iova a) s =
      ap (λ o. (put_or o (last_put g acts) (Iova a)).byte) (iova a)
      ∙ put_byte (address_put_if (is_moved (registration_of acts) a) g (last_put g acts) acts act a) (last_put g acts) (Iova a)
      ∙ by (is_moved (registration_of acts) a) where
        by : (t : Bool) → or_old (byte_of (address_put_if t g (last_put g acts) acts act a)) (last_put g acts (Iova a)).byte
            ≡ over (puts_of act) (if t then None else Some a) (last_put g acts (Iova a)).byte
        by true = refl
        by false = refl
  spot act iova area (Area o) s =
      ap (λ p. (put_or p (last_put g acts) (Area o)).byte) (area o)
      ∙ put_byte (option_and_then (address_put g (last_put g acts) acts act) (area_address (registration_of acts) o)) (last_put g acts) (Area o)
      ∙ by (area_address (registration_of acts) o) where
        by : (k : Option ℕ) → or_old (byte_of (option_and_then (address_put g (last_put g acts) acts act) k)) (last_put g acts (Area o)).byte
            ≡ over (puts_of act) k (last_put g acts (Area o)).byte
        by None = refl
        by (Some a) = refl
  spot act iova area (Ram k i) s = absurd s

  pub driver_spot : (act : DriverAct) (cell : Cell) → IsSpot cell
      → (last_put g (Driver act ∷ acts) cell).byte ≡ over (puts_of (Driver act)) (address_of (registration_of acts) cell) (last_put g acts cell).byte
  driver_spot act = spot (Driver act) (λ a. refl) (λ o. refl)

  pub queue_spot : (act : QueueAct) (cell : Cell) → IsSpot cell → (last_put g (Queue act ∷ acts) cell).byte ≡ (last_put g acts cell).byte
  queue_spot act cell s = spot (Queue act) (λ a. refl) (λ o. refl) cell s ∙ over_none (address_of (registration_of acts) cell) (last_put g acts cell).byte

-- ---- what a mapping puts

-- a buffer's byte where it is handed, and else a zero where the page is new
abbrev pub mapped_byte : Bool → Bool → ℕ → Option ℕ
mapped_byte true fresh byte = Some byte
mapped_byte false true byte = Some 0
mapped_byte false false byte = None

pub mapped_put : (handed fresh : Bool) (before : Cell → Put) (m : Streaming) (a : ℕ)
    → byte_of (or_put (handed_put_if handed before m a) (zero_if fresh)) ≡ mapped_byte handed fresh (before (ram_cell m a)).byte
mapped_put true fresh before m a = refl
mapped_put false true before m a = refl
mapped_put false false before m a = refl

pub handed_byte : (handed : Bool) (before : Cell → Put) (m : Streaming) (a : ℕ)
    → byte_of (handed_put_if handed before m a) ≡ (if handed then Some (before (ram_cell m a)).byte else None)
handed_byte true before m a = refl
handed_byte false before m a = refl
