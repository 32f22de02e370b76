-- The sizes that words can ask for.
use Rattle.std.proofs.Common.{◌≡◌, ◌≢◌, ℕ, zero, suc, ◌+◌, ◌*◌, ◌/◌, ◌%◌, ◌^◌, ◌<◌, ◌≤◌, ◌⊎◌, inl, inr, Bool, true, false, cond, if◌then◌else◌, ◌&&◌, leb, refl, subst, sym, arith, List, [], ◌∷◌, codes, Option, Some, None}
use Rattle.std.proofs.Math.Nat.{pow-le-pow_right, two-pow-succ}
use Rattle.std.proofs.Math.Pow.{pow-lt}
use Rattle.std.proofs.lemmas.Nat.{ones_le_self, zero_from_ones, pow_pos}
use Rattle.std.proofs.lemmas.Bool.Decides.{nat_tests, eqb_tells, leb_tells}
use Rattle.std.specs.Prelude.{count_ones}
use Rattle.std.specs.Int.{is_power_of_two}
use Rattle.std.specs.Int.Count.{ones_step}
use Rattle.std.specs.Str.{bytes_eq}
use Rattle.vd_model.specs.Rings.{IsRingSize}
use Rattle.vd_options.specs.Words.{between, decimal_of}
use Rattle.vd_options.specs.Programs.{asked_queue, power_of, queue_of, ring_kind_of, ring_size_of}
use Rattle.vd_options.specs.declared.programs.RingKind.{RingKind}
use Rattle.vd_options.specs.declared.programs.QueueOptions.{QueueOptions}

-- ---- a number with one digit that is set

power_in : (d n : ℕ) → n ≤ d → count_ones n ≡ 1 → (k : ℕ) × (n ≡ 2 ^ k)
power_in zero n low one = let few = ones_le_self n in absurd (omega (arith, low, one, few))
power_in (suc d) n low one = elim (eqb_tells (n % 2) 0) [
  | inl even ↦ whole (power_in d (n / 2) (omega (arith, low)) (omega (arith, one, step, even.1))) even.1
  | inr odd ↦ single odd.1
] where
  step : count_ones n ≡ n % 2 + count_ones (n / 2)
  step = ones_step n

  whole : (k : ℕ) × (n / 2 ≡ 2 ^ k) → n % 2 ≡ 0 → (k : ℕ) × (n ≡ 2 ^ k)
  whole rest zero_digit = let half = rest.1 in let twice = two-pow-succ rest.0 in (suc rest.0, omega (arith, half, twice, zero_digit))

  single : n % 2 ≢ 0 → (k : ℕ) × (n ≡ 2 ^ k)
  single digit =
      let s = step in
      let none = zero_from_ones (n / 2) (omega (arith, one, s, digit)) in
      (0, omega (arith, none, one, s, digit))

-- such a number up to 32,768 is a ring's size
ring_size : (n : ℕ) → is_power_of_two n ≡ true → n ≤ 32768 → IsRingSize n
ring_size n one small =
    let is = power_in n n (omega arith) (grind (arith, nat_tests, one)) in
    (is.0, elim (leb_tells is.0 15) [ inl low ↦ low.1 | inr high ↦ past is.0 is.1 high.1 ], is.1) where
      past : (k : ℕ) → n ≡ 2 ^ k → 15 < k → k ≤ 15
      past k e high = let large : 32768 < 2 ^ k = pow-lt high in absurd (omega (arith, large, e, small))

pub some_is : (n : ℕ) → IsRingSize n → 0 < n
some_is n size = subst (λ m. 0 < m) (sym size.2) (pow_pos size.0)

pub small_is : (n : ℕ) → IsRingSize n → n ≤ 32768
small_is n size = subst (λ m. m ≤ 32768) (sym size.2) (pow-le-pow_right (omega arith) size.1)

-- ---- the words

between_is : (n m : ℕ) (low high : Bool) → leb 1 n ≡ low → leb n 32768 ≡ high → cond (low && high) (Some n) None ≡ Some m → m ≤ 32768
between_is n m true true el eh e =
    let same : n ≡ m = cc in
    let small : n ≤ 32768 = grind (arith, nat_tests, eh) in
    subst (λ k. k ≤ 32768) same small
between_is n m true false el eh e = absurd (cc)
between_is n m false high el eh e = absurd (cc)

between_size : (word : Option ℕ) (m : ℕ) → between 1 32768 word ≡ Some m → m ≤ 32768
between_size None m e = absurd (cc)
between_size (Some n) m e = between_is n m (leb 1 n) (leb n 32768) refl refl e

power_is : (n m : ℕ) (b : Bool) → is_power_of_two n ≡ b → cond b (Some n) None ≡ Some m → n ≤ 32768 → IsRingSize m
power_is n m true one e small = let same : n ≡ m = cc in subst IsRingSize same (ring_size n one small)
power_is n m false one e small = absurd (cc)

power_size : (word : Option ℕ) (m : ℕ) → ((n : ℕ) → word ≡ Some n → n ≤ 32768) → power_of word ≡ Some m → IsRingSize m
power_size None m sizes e = absurd (cc)
power_size (Some n) m sizes e = power_is n m (is_power_of_two n) refl e (sizes n refl)

queue_size : (kind : Option RingKind) (size : Option ℕ) (asked : QueueOptions) → ((n : ℕ) → size ≡ Some n → IsRingSize n) → queue_of kind size ≡ Some asked → IsRingSize asked.size
queue_size None None asked sizes e = absurd (cc)
queue_size None (Some n) asked sizes e = absurd (cc)
queue_size (Some kind) None asked sizes e = absurd (cc)
queue_size (Some kind) (Some n) asked sizes e =
    let same : record { kind = kind; size = n } ≡ asked = cc in
    subst (λ (o : QueueOptions). IsRingSize o.size) same (sizes n refl)

first_is : (b : Bool) (asked : QueueOptions) (queue : Option QueueOptions) → cond b queue None ≡ Some asked → queue ≡ Some asked
first_is true asked queue e = e
first_is false asked queue e = absurd (cc)

-- a queue that words ask for has a size that a ring can have
pub asked_is : (words : List (List ℕ)) (asked : QueueOptions) → asked_queue words ≡ Some asked → IsRingSize asked.size
asked_is [] asked e = absurd (cc)
asked_is (first ∷ []) asked e = absurd (cc)
asked_is (first ∷ kind ∷ []) asked e = absurd (cc)
asked_is (first ∷ kind ∷ size ∷ []) asked e =
    queue_size (ring_kind_of kind) (ring_size_of size) asked (λ n. power_size (between 1 32768 (decimal_of size)) n (between_size (decimal_of size)))
    (first_is (bytes_eq first (codes "queue")) asked (queue_of (ring_kind_of kind) (ring_size_of size)) e)
asked_is (first ∷ kind ∷ size ∷ more ∷ rest) asked e = absurd (cc)
