-- A queue to which nothing was added.
use Rattle.std.proofs.Common.{◌≡◌, ℕ, zero, suc, ◌+◌, ◌-◌, ◌*◌, ◌/◌, ◌%◌, ◌^◌, ◌<◌, ◌≤◌, false, List, [], ◌∷◌, length, get_or, Option, Some, None, Ok, refl, sym, ap, subst, ◌∙◌, arith, mul_assoc}
use Rattle.std.specs.Prelude.{replicate, IsSome}
use Rattle.std.specs.List.{slice_get}
use Rattle.std.proofs.Math.Nat.{one-le-pow, mul-add-mod_self_right}
use Rattle.std.proofs.Math.Pow.{pow_mono}
use Rattle.std.proofs.lemmas.Nat.{div-add-mod', pow-add}
use Rattle.std.proofs.lemmas.List.{length-replicate}
use Rattle.byteorder.specs.Endian.{little_bytes}
use Rattle.vd_model.specs.Memory.{Memory, bytes_from, read}
use Rattle.vd_model.specs.Rings.{IsRingSize, available_index_at, used_index_at, number16}
use Rattle.vd_model.specs.declared.queue.RingPlace.{RingPlace}
use Rattle.vr_split.specs.MemLemmas.{bytes_from-at, read-bytes}
use Rattle.vr_driver.specs.Side.{DriverSide, free_from, side_of}
use Rattle.vr_device.specs.Side.{Side}
use Rattle.vr_device.specs.Device.{resumed, resumed_at}
use Rattle.vr_pair.specs.QueueLists.{empty_lists}
use Rattle.vr_split_pair.specs.declared.chain.TakenChain.{TakenChain}
use Rattle.vr_split_pair.specs.Lies.{IsLaid, IsThere}
use Rattle.vr_split_pair.specs.Split.{Sides, SplitStands}
use Rattle.vr_split_pair.proofs.Fields.{available_index-plain, used_index-plain}
use Rattle.vr_split_pair.proofs.Taken.{number-back}

-- SIZES

pub record IsSize (size : ℕ) : Type 0 where
  pub some : 0 < size
  pub small : size ≤ 32768
  pub cyclic : (n : ℕ) → n % 65536 % size ≡ n % size

divided : (size q n : ℕ) → 65536 ≡ q * size → n % 65536 % size ≡ n % size
divided size q n e =
    let whole : n / 65536 * q * size ≡ n / 65536 * 65536 = mul_assoc (n / 65536) q size ∙ ap (λ k. n / 65536 * k) (sym e) in
    let is : n / 65536 * q * size + n % 65536 ≡ n = ap (λ k. k + n % 65536) whole ∙ div-add-mod' n 65536 in
    sym (mul-add-mod_self_right (n / 65536 * q) size (n % 65536)) ∙ ap (λ k. k % size) is

pub sized : (size : ℕ) → IsRingSize size → IsSize size
sized size s =
    let j = s.0 in
    let few : j ≤ 15 = s.1 in
    let e : size ≡ 2 ^ j = s.2 in
    let sum : 16 - j + j ≡ 16 = omega arith in
    let is : 65536 ≡ 2 ^ (16 - j) * size = ap (λ k. 2 ^ k) (sym sum) ∙ pow-add 2 (16 - j) j ∙ ap (λ x. 2 ^ (16 - j) * x) (sym e) in
    record {
      some = (let p : 1 ≤ 2 ^ j = one-le-pow j 2 (omega arith) in omega (arith, p, e));
      small = (let p : 2 ^ j ≤ 2 ^ 15 = pow_mono few in omega (arith, p, e));
      cyclic = λ n. divided size (2 ^ (16 - j)) n is;
    }

-- ZEROS

zero_at : (n i : ℕ) → i < n → slice_get {X = ℕ} (replicate n 0) i ≡ Some 0
zero_at zero i h = absurd (omega arith)
zero_at (suc n) zero h = refl
zero_at (suc n) (suc i) h = zero_at n i (omega arith)

zero_byte : (n a : ℕ) → a < n → bytes_from 0 (replicate n 0) a ≡ Some 0
zero_byte n a h = let P : ℕ → Type 0 = λ x. bytes_from 0 (replicate n 0) x ≡ Some 0 in let e : 0 + a ≡ a = omega arith in subst P e (bytes_from-at 0 (replicate n 0) a ∙ zero_at n a h)

two_zeros : (i : ℕ) → i < 2 → slice_get {X = ℕ} (0 ∷ 0 ∷ []) i ≡ Some 0
two_zeros zero h = refl
two_zeros (suc zero) h = refl
two_zeros (suc (suc i)) h = absurd (omega arith)

zero_read : (n a : ℕ) → a + 2 ≤ n → read (bytes_from 0 (replicate n 0)) a 2 ≡ Ok (little_bytes 2 0)
zero_read n a h = read-bytes (bytes_from 0 (replicate n 0)) a (0 ∷ 0 ∷ []) (λ i l. zero_byte n (a + i) (omega arith) ∙ sym (two_zeros i l))

abbrev no_owner : Option ℕ
no_owner = None

none_owned : (n d : ℕ) (x : Option ℕ) → x ≡ no_owner → get_or (replicate n no_owner) d x ≡ no_owner
none_owned zero d x e = e
none_owned (suc n) zero x e = refl
none_owned (suc n) (suc d) x e = none_owned n d x e

all_free : (n k : ℕ) → length (free_from k (replicate n None)) ≡ n
all_free zero k = refl
all_free (suc n) k = ap suc (all_free n (k + 1))

-- what a new pair has
pub record IsFresh (size n : ℕ) (place : RingPlace) (memory : Memory) (device : Side) : Type 0 where
  pub ring : IsRingSize size
  pub sized : place.size ≡ size
  pub desc : place.desc ≡ 0
  pub driver : place.driver ≡ 16 * size
  pub low : 16 * size + (6 + 2 * size) ≤ place.device
  pub near : place.device < 16 * size + (6 + 2 * size) + 4
  pub bytes : n ≡ place.device + (6 + 8 * size)
  pub zeros : memory ≡ bytes_from 0 (replicate n 0)
  pub resumes : resumed memory place ≡ Ok device

module _ (size n : ℕ) (place : RingPlace) (memory : Memory) (device : Side) (f : IsFresh size n place memory device) where
  laid : IsLaid place
  laid =
      let s = sized size f.ring in
      let small = s.small in
      let some = s.some in
      let same = f.sized in
      let desc = f.desc in
      let driver = f.driver in
      let low = f.low in
      let near = f.near in
      record {
        some = omega arith;
        small = omega arith;
        cyclic = λ k. subst (λ (j : ℕ). k % 65536 % j ≡ k % j) (sym f.sized) (s.cyclic k);
        driver = omega arith;
        device = omega arith;
        ends = omega arith;
      }

  at_zero : (a : ℕ) → a + 2 ≤ n → read memory a 2 ≡ Ok (little_bytes 2 0)
  at_zero a h = subst (λ (m : Memory). read m a 2 ≡ Ok (little_bytes 2 0)) (sym f.zeros) (zero_read n a h)

  there : IsThere memory place
  there a from to =
      let bytes = f.bytes in
      let same = f.sized in
      subst (λ (m : Memory). IsSome (m a)) (sym f.zeros) (rw (zero_byte n a (omega arith)) refl)

  used_zero : read memory (used_index_at place) 2 ≡ Ok (little_bytes 2 0)
  used_zero = let at = used_index-plain place laid in let bytes = f.bytes in at_zero (used_index_at place) (omega arith)

  device_is : device ≡ record { place = place; position = 0; used = 0 }
  device_is =
      let read_zero : number16 memory (used_index_at place) ≡ Ok 0 = number-back memory (used_index_at place) 0 used_zero in
      let both : Ok (record { place = place; position = 0; used = 0 }) ≡ Ok device = sym (ap (resumed_at place) read_zero) ∙ f.resumes in
      let same : record { place = place; position = 0; used = 0 } ≡ device = cc both in
      sym same

  abbrev pub fresh_sides : Sides
  fresh_sides = record { memory = memory; driver = side_of place; device = device; numbers = replicate size 0; taken = []; added = 0; placed = 0 }

  pub fresh_stands : SplitStands fresh_sides (empty_lists size)
  fresh_stands =
      let bytes = f.bytes in
      let same = f.sized in
      let index = available_index-plain place laid in
      let area = laid.device in
      record {
        descriptors = [];
        used_heads = [];
        course = record { reclaimed = 0; finished = 0; given = 0 };
        laid = laid;
        there = there;
        counts = record {
          size = sym f.sized;
          same_place = ap (λ (d : Side). d.place) device_is;
          added = refl;
          placed = refl;
          few = omega arith;
          bound = omega arith;
          finished = refl;
          given = refl;
          waiting = refl;
          driver_added = refl;
          driver_published = refl;
          driver_reclaimed = refl;
          device_position = ap (λ (d : Side). d.position) device_is;
          device_used = ap (λ (d : Side). d.used) device_is;
        };
        indices = record { available = at_zero (available_index_at place) (omega arith); used = used_zero };
        waits = tt;
        takes = tt;
        uses = tt;
        known_waiting = tt;
        known_taken = tt;
        known_used = tt;
        once = λ d. omega arith;
        owners = record {
          owners_len = length-replicate place.size None;
          announced_len = length-replicate place.size false;
          numbers_len = length-replicate size 0 ∙ sym f.sized;
          headed = λ d head e. let none : get_or (replicate place.size no_owner) d None ≡ None = none_owned place.size d None refl in absurd (cc (e, none));
          free = let all = all_free place.size 0 in omega (arith, all);
        };
      }

-- as its parts are made
pub fresh_at : (size n : ℕ) (place : RingPlace) (memory : Memory) (driver : DriverSide) (device : Side) (numbers : List ℕ) (taken : List TakenChain)
    → IsFresh size n place memory device → driver ≡ side_of place → numbers ≡ replicate size 0 → taken ≡ []
    → SplitStands (record { memory = memory; driver = driver; device = device; numbers = numbers; taken = taken; added = 0; placed = 0 }) (empty_lists size)
fresh_at size n place memory driver device numbers taken f driver_is numbers_is taken_is =
    let stands = fresh_stands size n place memory device f in
    let first = subst (λ (d : DriverSide). SplitStands (record { memory = memory; driver = d; device = device; numbers = replicate size 0; taken = []; added = 0; placed = 0 }) (empty_lists size)) (sym driver_is) stands in
    let second = subst (λ (l : List ℕ). SplitStands (record { memory = memory; driver = driver; device = device; numbers = l; taken = []; added = 0; placed = 0 }) (empty_lists size)) (sym numbers_is) first in
    subst (λ (l : List TakenChain). SplitStands (record { memory = memory; driver = driver; device = device; numbers = numbers; taken = l; added = 0; placed = 0 }) (empty_lists size)) (sym taken_is) second
