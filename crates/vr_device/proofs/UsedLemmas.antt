-- Giving a chain back: two stores where both fields can be read.
use Rattle.std.proofs.Common.{◌≡◌, ℕ, zero, suc, ◌+◌, List, Option, Some, None, Result, Ok, Err, refl, sym, ap, subst, ◌∙◌}
use Rattle.std.specs.Prelude.{IsSome, IsOk}
use Rattle.std.specs.Option.{ForSome}
use Rattle.byteorder.specs.Endian.{little_bytes}
use Rattle.vd_num.specs.declared.number.Bus.{Bus}
use Rattle.vd_model.specs.Memory.{Memory, read, byte_then, written}
use Rattle.vd_model.specs.Rings.{next16, used_index_at, used_element_at}
use Rattle.vr_split.specs.Mem.{Stores}
use Rattle.vr_split.specs.ReachLemmas.{there-written}
use Rattle.vr_device.specs.Side.{Side}
use Rattle.vr_device.specs.Device.{both_read, used_fields, element_bytes, with_element, with_used}

-- the first byte is there, and the others are
first_there : (a : ℕ) (o : Option ℕ) (r : Result (List ℕ) ℕ) → IsOk (byte_then a o r) → IsSome o × IsOk r
first_there a None r h = cc
first_there a (Some b) (Ok bytes) h = (refl, refl)
first_there a (Some b) (Err missing) h = cc

all_there : (a : ℕ) (o : Option ℕ) (r : Result (List ℕ) ℕ) → IsSome o → IsOk r → IsOk (byte_then a o r)
all_there a None r h g = cc
all_there a (Some b) (Ok bytes) h g = refl
all_there a (Some b) (Err missing) h g = cc

-- what can be read can be read after a store
read-stays : (m : Memory) (to : ℕ) (bytes : List ℕ) (a n : ℕ) → IsOk (read m a n) → IsOk (read (written m to bytes) a n)
unfolding read
read-stays m to bytes a zero h = refl
read-stays m to bytes a (suc n) h =
    let there = first_there a (m a) (read m (a + 1) n) h in
    all_there a (written m to bytes a) (read (written m to bytes) (a + 1) n)
    (there-written m to bytes a there.0)
    (read-stays m to bytes (a + 1) n there.1)

second_read : (a b : Result (List ℕ) ℕ) → IsOk (both_read a b) → IsOk b
second_read (Ok bytes) b h = h
second_read (Err missing) b h = cc

not_both : (r : Result (List ℕ) ℕ) (e : ℕ) → IsOk r → r ≡ Err e → ⊥
not_both (Ok bytes) e h g = cc
not_both (Err missing) e h g = cc

-- an element and an index are stored where they belong
pub record Places (side : Side) (head len element index next : ℕ) (bytes : List ℕ) : Type 0 where
  pub element_is : element ≡ used_element_at side.place side.used
  pub index_is : index ≡ used_index_at side.place
  pub next_is : next ≡ next16 side.used
  pub bytes_are : bytes ≡ element_bytes head len

-- what stands after the first store
pub element_stored : (m : Memory) (side : Side) (head len element index next : ℕ) (bytes : List ℕ) (first second : Option Memory) (done : Unit {0}) → Places side head len element index next bytes → first ≡ Some m
    → ForSome first (λ m. Stores m element bytes (Ok done) second) → second ≡ Some (with_element m side head len)
element_stored m side head len element index next bytes first second done p told h =
    (h m told).1
    ∙ ap (λ (a : ℕ). Some (written m a bytes)) p.element_is
    ∙ ap (λ (b : List ℕ). Some (written m (used_element_at side.place side.used) b)) p.bytes_are

-- what stands after both stores
pub pushed : (m : Memory) (side : Side) (head len element index next : ℕ) (bytes : List ℕ) (first second third : Option Memory) (done also : Unit {0}) → Places side head len element index next bytes → first ≡ Some m → IsOk (used_fields m side)
    → ForSome first (λ m. Stores m element bytes (Ok done) second) → ForSome second (λ m. Stores m index (little_bytes 2 next) (Ok also) third) → IsOk (used_fields m side) × (third ≡ Some (with_used m side head len))
pushed m side head len element index next bytes first second third done also p told ok h g =
    let one = (h m told).1 in
    let two = (g (written m element bytes) one).1 in (
      ok,
      two
          ∙ ap (λ (a : ℕ). Some (written (written m a bytes) index (little_bytes 2 next))) p.element_is
          ∙ ap (λ (b : List ℕ). Some (written (written m (used_element_at side.place side.used) b) index (little_bytes 2 next))) p.bytes_are
          ∙ ap (λ (a : ℕ). Some (written (written m (used_element_at side.place side.used) (element_bytes head len)) a (little_bytes 2 next))) p.index_is
          ∙ ap (λ (n : ℕ). Some (written (written m (used_element_at side.place side.used) (element_bytes head len)) (used_index_at side.place) (little_bytes 2 n))) p.next_is,
    )

-- the second store can't fail
pub not_missed : (m : Memory) (side : Side) (head len element index next : ℕ) (bytes : List ℕ) (first second third : Option Memory) (done : Unit {0}) (bus : Bus) → Places side head len element index next bytes → first ≡ Some m → IsOk (used_fields m side)
    → ForSome first (λ m. Stores m element bytes (Ok done) second) → ForSome second (λ m. Stores m index (little_bytes 2 next) (Err bus) third) → ⊥
not_missed m side head len element index next bytes first second third done bus p told ok h g =
    let one = (h m told).1 in
    let two = (g (written m element bytes) one).0 in
    let there : IsOk (read m index 2) = subst (λ (a : ℕ). IsOk (read m a 2)) (sym p.index_is) (second_read (read m (used_element_at side.place side.used) 8) (read m (used_index_at side.place) 2) ok) in
    not_both (read (written m element bytes) index 2) bus.at (read-stays m element bytes index 2 there) two
