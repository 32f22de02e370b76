-- The puts of a chain are what the driver's side of a ring writes.
use Rattle.std.proofs.Common.{◌≡◌, ◌^◌, ℕ, zero, suc, ◌+◌, ◌*◌, ◌%◌, ◌/◌, true, nat_lt, refl, ap, sym, ◌∙◌, arith, List, [], ◌∷◌, ◌++◌, length}
use Rattle.std.specs.Prelude.{slice_index, slice_index_or}
use Rattle.std.proofs.lemmas.Bool.Decides.{nat_tests}
use Rattle.std.proofs.Math.Nat.{mul-add-mod_self_left}
use Rattle.byteorder.specs.Endian.{little_bytes}
use Rattle.vd_model.specs.declared.queue.RingPlace.{RingPlace}
use Rattle.vd_model.specs.declared.parts.Part.{Part}
use Rattle.vd_model.specs.Memory.{Memory, written}
use Rattle.vd_model.specs.Acts.{Act, Driver, Driver_put}
use Rattle.vd_model.specs.Rings.{available_index_at, available_slot_at, used_element_at}
use Rattle.vd_model.specs.RingTurns.{descriptor_puts}
use Rattle.vr_driver.specs.Side.{DriverSide}
use Rattle.vr_driver.specs.Driver.{chain_written, with_descriptor, part_descriptor, no_part, with_index}
use Rattle.vd_ring_memory.specs.RingPuts.{after_puts}

-- the first descriptor, and then the others
chain_first : (m : Memory) (r : RingPlace) (p : Part) (ps : List Part) (d : ℕ) (ds : List ℕ) (n : ℕ)
    → chain_written m r (p ∷ ps) (d ∷ ds) (suc n) ≡ chain_written (with_descriptor m r d (part_descriptor p (nat_lt 1 (length (p ∷ ps))) (slice_index (d ∷ ds) 1))) r ps ds n
unfolding chain_written
chain_first m r p ps d ds zero = refl
chain_first m r p ps d ds (suc n) =
    let next : suc n + 1 ≡ suc (n + 1) = omega arith in
    let test : nat_lt (suc n + 1) (length (p ∷ ps)) ≡ nat_lt (n + 1) (length ps) = more n (length ps) in
    ap (λ w. with_descriptor w r (slice_index ds n) (part_descriptor (slice_index_or ps n no_part) (nat_lt (suc n + 1) (length (p ∷ ps))) (slice_index (d ∷ ds) (suc n + 1)))) (chain_first m r p ps d ds n)
    ∙ ap (λ t. with_descriptor (chain_written (with_descriptor m r d (part_descriptor p (nat_lt 1 (length (p ∷ ps))) (slice_index (d ∷ ds) 1))) r ps ds n) r (slice_index ds n)
    (part_descriptor (slice_index_or ps n no_part) t (slice_index (d ∷ ds) (suc n + 1)))) test
    ∙ ap (λ k. with_descriptor (chain_written (with_descriptor m r d (part_descriptor p (nat_lt 1 (length (p ∷ ps))) (slice_index (d ∷ ds) 1))) r ps ds n) r (slice_index ds n)
    (part_descriptor (slice_index_or ps n no_part) (nat_lt (n + 1) (length ps)) (slice_index (d ∷ ds) k))) next where
      more : (n m : ℕ) → nat_lt (suc n + 1) (suc m) ≡ nat_lt (n + 1) m
      more n m = grind (arith, nat_tests)

-- puts before others
after_both : (m : Memory) (later earlier : List Act) → after_puts m (later ++ earlier) ≡ after_puts (after_puts m earlier) later
after_both m [] earlier = refl
after_both m (Driver (Driver_put at bytes) ∷ later) earlier = ap (λ (w : Memory). written w at bytes) (after_both m later earlier)
after_both m (_ ∷ later) earlier = after_both m later earlier

pub chain_puts : (m : Memory) (r : RingPlace) (parts : List Part) (ds : List ℕ) → length ds ≡ length parts → after_puts m (descriptor_puts r parts ds) ≡ chain_written m r parts ds (length parts)
unfolding chain_written
chain_puts m r [] ds e = refl
chain_puts m r (p ∷ ps) [] e = absurd (omega arith)
chain_puts m r (p ∷ []) (d ∷ []) e = sym (chain_first m r p [] d [] 0)
chain_puts m r (p ∷ q ∷ ps) (d ∷ []) e = absurd (omega arith)
chain_puts m r (p ∷ []) (d ∷ f ∷ ds) e = absurd (omega arith)
chain_puts m r (p ∷ q ∷ ps) (d ∷ f ∷ ds) e =
    after_both m (descriptor_puts r (q ∷ ps) (f ∷ ds)) _
    ∙ chain_puts (with_descriptor m r d (part_descriptor p true f)) r (q ∷ ps) (f ∷ ds) (omega arith)
    ∙ sym (chain_first m r p (q ∷ ps) d (f ∷ ds) (length (q ∷ ps)) ∙ ap (λ t. chain_written (with_descriptor m r d (part_descriptor p t f)) r (q ∷ ps) (f ∷ ds) (length (q ∷ ps))) (two (length ps))) where
      two : (n : ℕ) → nat_lt 1 (suc (suc n)) ≡ true
      two n = grind (arith, nat_tests)

-- an index of sixteen bits
pub index_bytes : (n : ℕ) → little_bytes 2 (n % 65536) ≡ little_bytes 2 n
index_bytes n = ap (λ a. a ∷ n % 65536 / 256 % 256 ∷ []) low ∙ ap (λ b. n % 256 ∷ b ∷ []) high where
  low : n % 65536 % 256 ≡ n % 256
  low = omega arith

  high : n % 65536 / 256 % 256 ≡ n / 256 % 256
  high = omega arith

-- the slot of an index is that of its count
pub slot_index : (size k n : ℕ) → size * k ≡ 65536 → n % 65536 % size ≡ n % size
slot_index size k n whole =
    let split : n ≡ 65536 * (n / 65536) + n % 65536 = omega arith in
    let turned : size * k * (n / 65536) ≡ size * (k * (n / 65536)) = omega arith in
    sym (ap (λ j. j % size) (split ∙ ap (λ w. w * (n / 65536) + n % 65536) (sym whole) ∙ ap (λ w. w + n % 65536) turned)
    ∙ mul-add-mod_self_left size (k * (n / 65536)) (n % 65536))

pub slot_same : (r : RingPlace) (k n : ℕ) → r.size * k ≡ 65536 → available_slot_at r (n % 65536) ≡ available_slot_at r n
slot_same r k n whole = ap (λ i. (r.driver + (4 + 2 * i)) % 2 ^ 64) (slot_index r.size k n whole)

pub element_same : (r : RingPlace) (k n : ℕ) → r.size * k ≡ 65536 → used_element_at r (n % 65536) ≡ used_element_at r n
element_same r k n whole = ap (λ i. (r.device + (4 + 8 * i)) % 2 ^ 64) (slot_index r.size k n whole)

-- a publish writes its put
pub index_put : (m : Memory) (s : DriverSide) (count : ℕ) → s.added ≡ count % 65536 → after_puts m (Driver (Driver_put (available_index_at s.place) (little_bytes 2 count)) ∷ []) ≡ with_index m s
index_put m s count e = ap (λ l. written m (available_index_at s.place) l) (sym (index_bytes count) ∙ ap (little_bytes 2) (sym e))
