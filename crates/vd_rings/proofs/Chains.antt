-- The puts of a chain, and of a head in the available ring.
use Rattle.std.proofs.Common.{◌≡◌, ℕ, zero, suc, ◌+◌, ◌-◌, ◌*◌, ◌%◌, ◌^◌, ◌<◌, ◌≤◌, true, false, ◌==◌, refl, ap, sym, ◌∙◌, arith, List, [], ◌∷◌, ◌++◌, length, take, Some, None, Option}
use Rattle.std.specs.Prelude.{slice_index, ◌↔◌, Result, Ok, Err, OnErr}
use Rattle.vr_driver.specs.declared.ring.AddError.{AddError}
use Rattle.vr_driver.specs.declared.ring.AddError.TheVariants.{Full, TooLong}
use Rattle.std.specs.List.{list_any}
use Rattle.std.proofs.lemmas.Nat.{pow-add}
use Rattle.byteorder.specs.Endian.{little_bytes}
use Rattle.vd_model.specs.declared.queue.RingPlace.{RingPlace}
use Rattle.vd_model.specs.declared.parts.Part.{Part}
use Rattle.vd_model.specs.Memory.{Memory, written}
use Rattle.vd_model.specs.Acts.{Act, Driver, Driver_put}
use Rattle.vd_model.specs.Rings.{available_slot_at, IsRingSize}
use Rattle.vd_model.specs.RingTurns.{descriptor_puts, descriptor_bytes, flags_of, slot_put, first_of}
use Rattle.vd_domain.specs.Handed.{is_coherent}
use Rattle.vr_driver.specs.Side.{DriverSide, next_chain, free_from, unowned_descriptors}
use Rattle.vr_driver.specs.Driver.{chain_written, with_parts}
use Rattle.vd_ring_memory.specs.RingPuts.{after_puts, IsRingPut, AreRingPuts}
use Rattle.vd_queue_sides.proofs.Chained.{chain_puts, slot_same}
use Rattle.vd_queue_sides.proofs.Daemons.{itself}
use Rattle.vd_queue_sides.proofs.Lists.{or_left, or_right, any_taken}
use Rattle.vd_queue_sides.proofs.Owners.{free_none}

-- the first of some numbers
pub first_is : (ds : List ℕ) → slice_index ds 0 ≡ first_of ds
first_is [] = refl
first_is (d ∷ ds) = refl

pub first_taken : (n : ℕ) (ds : List ℕ) → 0 < n → first_of (take n ds) ≡ first_of ds
first_taken zero ds some = absurd (omega arith)
first_taken (suc n) [] some = refl
first_taken (suc n) (d ∷ ds) some = refl

-- a ring's size divides 65,536
pub whole_turns : (size : ℕ) → (s : IsRingSize size) → size * 2 ^ (16 - s.0) ≡ 65536
whole_turns size s =
    let few = s.1 in
    let all : s.0 + (16 - s.0) ≡ 16 = omega arith in
    ap (λ n. n * 2 ^ (16 - s.0)) s.2 ∙ sym (pow-add 2 s.0 (16 - s.0)) ∙ ap (λ n. 2 ^ n) all

-- what the least free descriptors are
pub next_inside : (s : DriverSide) (n d : ℕ) → list_any (λ k. k == d) (next_chain s n) ≡ true → d < length s.owners
next_inside s n d e =
    let f = free_none s.owners 0 d (any_taken (λ k. k == d) n (unowned_descriptors s) e) in
    let high = f.1 in
    omega arith

pub taken_len : {X : Type 0} (n : ℕ) (xs : List X) → n ≤ length xs → length (take n xs) ≡ n
taken_len zero xs fits = refl
taken_len (suc n) [] fits = absurd (omega arith)
taken_len (suc n) (x ∷ xs) fits = ap suc (taken_len n xs (omega arith))

module _ (base : List Act) where
  puts_more : (puts : List Act) (act : Act) → AreRingPuts base puts → IsRingPut base act → AreRingPuts base (puts ++ act ∷ [])
  puts_more [] act only one = (one, tt)
  puts_more (put ∷ puts) act only one = (only.0, puts_more puts act only.1 one)

  module _ (place : RingPlace) (table : (a : ℕ) → place.desc ≤ a → a < place.desc + 16 * place.size → is_coherent base a ≡ true) where
    in_table : (d at len flags next : ℕ) → d < place.size → IsRingPut base (Driver (Driver_put (place.desc + 16 * d) (descriptor_bytes at len flags next)))
    in_table d at len flags next below = λ a low high. table a (omega arith) (omega arith)

    pub in_descriptors : (parts : List Part) (ds : List ℕ) → ((d : ℕ) → list_any (λ k. k == d) ds ≡ true → d < place.size) → AreRingPuts base (descriptor_puts place parts ds)
    in_descriptors [] ds inside = tt
    in_descriptors (p ∷ ps) [] inside = tt
    in_descriptors (p ∷ ps) (d ∷ []) inside = (in_table d p.at p.len (flags_of false p.writable) 0 (inside d (or_left (d == d) false (itself d))), tt)
    in_descriptors (p ∷ ps) (d ∷ e ∷ ds) inside =
        puts_more (descriptor_puts place ps (e ∷ ds)) (Driver (Driver_put (place.desc + 16 * d) (descriptor_bytes p.at p.len (flags_of true p.writable) e)))
        (in_descriptors ps (e ∷ ds) (λ f g. inside f (or_right (d == f) (list_any (λ k. k == f) (e ∷ ds)) g)))
        (in_table d p.at p.len (flags_of true p.writable) e (inside d (or_left (d == d) (list_any (λ k. k == d) (e ∷ ds)) (itself d))))

-- an add writes its puts
pub parts_put : (m : Memory) (s : DriverSide) (parts : List Part) (count : ℕ) → IsRingSize s.place.size → s.added ≡ count % 65536 → length parts ≤ length (unowned_descriptors s)
    → after_puts m (slot_put s.place count (first_of (next_chain s (length parts))) ∷ descriptor_puts s.place parts (next_chain s (length parts))) ≡ with_parts m s parts
parts_put m s parts count size added fits =
    let ds = next_chain s (length parts) in
    ap (λ (w : Memory). written w (available_slot_at s.place count) (little_bytes 2 (first_of (next_chain s (length parts)))))
    (chain_puts m s.place parts (next_chain s (length parts)) (taken_len (length parts) (free_from 0 s.owners) fits))
    ∙ ap (λ at. written (chain_written m s.place parts (next_chain s (length parts)) (length parts)) at (little_bytes 2 (first_of (next_chain s (length parts)))))
    (sym (slot_same s.place (2 ^ (16 - size.0)) count (whole_turns s.place.size size)) ∙ ap (available_slot_at s.place) (sym added))
    ∙ ap (λ head. written (chain_written m s.place parts (next_chain s (length parts)) (length parts)) (available_slot_at s.place s.added) (little_bytes 2 head)) (sym (first_is (next_chain s (length parts))))

-- there are at most as many free descriptors as descriptors
free_few : (k : ℕ) (owners : List (Option ℕ)) → length (free_from k owners) ≤ length owners
free_few k [] = omega arith
free_few k (None ∷ owners) = let rest = free_few (k + 1) owners in omega arith
free_few k (Some head ∷ owners) = let rest = free_few (k + 1) owners in omega arith

-- an add is refused where too few are free
pub refused_full : (r : Result ℕ AddError) (s : DriverSide) (n : ℕ) → length s.owners ≡ s.place.size → (r ≡ Err TooLong ↔ (s.place.size < n)) → (r ≡ Err Full ↔ ((n ≤ s.place.size) × (length (unowned_descriptors s) < n))) → OnErr r (length (unowned_descriptors s) < n)
refused_full (Ok head) s n len long full = tt
refused_full (Err TooLong) s n len long full = let over = long.0 refl in let few = free_few 0 s.owners in omega arith
refused_full (Err Full) s n len long full = (full.0 refl).1
