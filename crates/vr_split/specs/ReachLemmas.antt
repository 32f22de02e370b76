-- What is reached can be loaded and stored.
use Rattle.std.proofs.Common.{◌≡◌, ℕ, zero, suc, ◌+◌, ◌-◌, ◌*◌, ◌%◌, ◌<◌, ◌≤◌, ◌^◌, List, length, Option, Some, None, Result, Ok, Err, refl, sym, subst, ◌∙◌, inl, inr, arith}
use Rattle.std.specs.Prelude.{IsSome, IsOk}
use Rattle.std.specs.Option.{ForSome}
use Rattle.std.proofs.lemmas.Bool.{cases_lt}
use Rattle.std.proofs.lemmas.Grind.{common_steps}
use Rattle.std.proofs.lemmas.Option.{slice_get-get_or}
use Rattle.vd_num.specs.declared.number.Bus.{Bus}
use Rattle.vd_num.specs.declared.number.Range.{Range}
use Rattle.vd_model.specs.Memory.{Memory, IsFinite, read, byte_then, written, bytes_from}
use Rattle.vd_model.specs.Rings.{number16_of, ring_address, available_flags_at, available_index_at, available_slot_at, used_event_at, used_flags_at, used_index_at, used_element_at, available_event_at}
use Rattle.vd_model.specs.declared.queue.RingPlace.{RingPlace}
use Rattle.vr_split.specs.Mem.{InSpan, Stores, Loads, LoadsNumber, IsUnchanged}
use Rattle.vr_split.specs.MemLemmas.{written-in, written-out, bytes_from-at}
use Rattle.vr_split.specs.Reach.{InMap, Reaches, in_map, in_span, RingInReach, KeepsReach}

byte_ok : (a : ℕ) (o : Option ℕ) (r : Result (List ℕ) ℕ) → IsSome o → IsOk r → IsOk (byte_then a o r)
byte_ok a None r h g = cc
byte_ok a (Some b) (Ok bytes) h g = refl
byte_ok a (Some b) (Err missing) h g = cc

not_both : (r : Result (List ℕ) ℕ) (e : ℕ) → IsOk r → r ≡ Err e → ⊥
not_both (Ok bytes) e h g = cc
not_both (Err missing) e h g = cc

-- bytes that are there are read
pub read-there : (m : Memory) (at n : ℕ) → InMap (Some m) at n → IsOk (read m at n)
unfolding read
read-there m at zero h = refl
read-there m at (suc n) h =
    let P : ℕ → Type 0 = λ x. IsSome (m x) in
    let first : at + 0 ≡ at = omega arith in
    byte_ok at (m at) (read m (at + 1) n) (subst P first (h 0 (omega arith)))
    (read-there m (at + 1) n (λ i l. let e : at + suc i ≡ at + 1 + i = omega arith in subst P e (h (suc i) (omega arith))))

-- a write takes nothing away
pub there-written : (m : Memory) (to : ℕ) (bytes : List ℕ) (a : ℕ) → IsSome (m a) → IsSome (written m to bytes a)
there-written m to bytes a h = elim (cases_lt a to) [
  | inl below ↦ rw (written-out m to bytes a (inl below)) h
  | inr above ↦ elim (cases_lt a (to + length bytes)) [
    | inl inside ↦ rw (written-in m to bytes a above inside, slice_get-get_or bytes (a - to) 0 (omega arith)) refl
    | inr past ↦ rw (written-out m to bytes a (inr past)) h
  ]
]

-- a store of bytes that are there
pub store-there : (told new : Option Memory) (span : Option Range) (at : ℕ) (bytes : List ℕ) (r : Result (Unit {0}) Bus) → ForSome told (λ m. Stores m at bytes r new) → (InSpan span at (length bytes) → IsOk r) → Reaches told span at (length bytes) → IsOk r
store-there None new span at bytes r h s (in_map i) = absurd i
store-there None new span at bytes r h s (in_span i) = s i
store-there (Some m) new span at bytes r h s (in_span i) = s i
store-there (Some m) new span at bytes (Ok done) h s (in_map i) = refl
store-there (Some m) new span at bytes (Err bus) h s (in_map i) = let ok = read-there m at (length bytes) i in let no = (h m refl).0 in absurd (not_both (read m at (length bytes)) bus.at ok no)

-- what it leaves in reach
pub reach-stored : (told new : Option Memory) (span span' : Option Range) (to : ℕ) (bytes : List ℕ) (r : Result (Unit {0}) Bus) → ForSome told (λ m. Stores m to bytes r new) → span' ≡ span → (at n : ℕ) → Reaches told span at n → Reaches new span' at n
reach-stored told new span span' to bytes r h e at n (in_span i) = in_span (subst (λ (o : Option Range). InSpan o at n) (sym e) i)
reach-stored None new span span' to bytes r h e at n (in_map i) = absurd i
reach-stored (Some m) new span span' to bytes (Ok done) h e at n (in_map i) = in_map (subst (λ (o : Option Memory). InMap o at n) (sym (h m refl).1) (λ k l. there-written m to bytes (at + k) (i k l)))
reach-stored (Some m) new span span' to bytes (Err bus) h e at n (in_map i) = in_map (subst (λ (o : Option Memory). InMap o at n) (sym (h m refl).1) i)

-- a load of bytes that are there
pub load-there : (told : Option Memory) (span : Option Range) (at : ℕ) (n : ℕ) (bytes : List ℕ) (r : Result (Unit {0}) Bus) → ForSome told (λ m. Loads m at n r bytes) → (InSpan span at n → IsOk r) → Reaches told span at n → IsOk r
load-there None span at n bytes r h s (in_map i) = absurd i
load-there None span at n bytes r h s (in_span i) = s i
load-there (Some m) span at n bytes r h s (in_span i) = s i
load-there (Some m) span at n bytes (Ok done) h s (in_map i) = refl
load-there (Some m) span at n bytes (Err bus) h s (in_map i) = let ok = read-there m at n i in let no = h m refl in absurd (not_both (read m at n) bus.at ok no)

below_by : (m : Memory) (a : ℕ) → IsFinite m → (o : Option ℕ) → m a ≡ o → IsSome o → a < 2 ^ 32
below_by m a f None e i = cc
below_by m a f (Some b) e i = f a b e

-- an address of a finite map
below_end : (m : Memory) (a : ℕ) → IsFinite m → IsSome (m a) → a < 2 ^ 32
below_end m a f i = below_by m a f (m a) refl i

-- a part of what is reached
pub Reaches-part : (told : Option Memory) (span : Option Range) (at n a k : ℕ) → at ≤ a → a + k ≤ at + n → Reaches told span at n → Reaches told span a k
Reaches-part None span at n a k l h (in_map i) = absurd i
Reaches-part (Some m) span at n a k l h (in_map i) = in_map (λ j g. let P : ℕ → Type 0 = λ x. IsSome (m x) in let e : at + (a - at + j) ≡ a + j = omega arith in subst P e (i (a - at + j) (omega arith)))
Reaches-part told None at n a k l h (in_span i) = absurd i
Reaches-part told (Some span) at n a k l h (in_span i) = in_span (let low = i.0 in let high = i.1 in (omega arith, omega arith))

-- what is reached ends at 2 ^ 64
pub Reaches-ends : (told : Option Memory) (span : Option Range) (at n : ℕ) → ForSome told IsFinite → ForSome span (λ r. r.last < 2 ^ 64) → 0 < n → Reaches told span at n → at + n ≤ 2 ^ 64
Reaches-ends None span at n f g p (in_map i) = absurd i
Reaches-ends (Some m) span at n f g p (in_map i) = let last = below_end m (at + (n - 1)) (f m refl) (i (n - 1) (omega arith)) in omega arith
Reaches-ends told None at n f g p (in_span i) = absurd i
Reaches-ends told (Some span) at n f g p (in_span i) = let last = g span refl in let high = i.1 in omega arith

number_missing : (r : Result (List ℕ) ℕ) (e : ℕ) → IsOk r → number16_of r ≡ Err e → ⊥
number_missing (Ok bytes) e h g = cc
number_missing (Err missing) e h g = cc

-- a load of a number that is there
pub number-there : (told : Option Memory) (span : Option Range) (at : ℕ) (r : Result ℕ Bus) → ForSome told (λ m. LoadsNumber m at r) → (InSpan span at 2 → IsOk r) → Reaches told span at 2 → IsOk r
number-there None span at r h s (in_map i) = absurd i
number-there None span at r h s (in_span i) = s i
number-there (Some m) span at r h s (in_span i) = s i
number-there (Some m) span at (Ok value) h s (in_map i) = refl
number-there (Some m) span at (Err bus) h s (in_map i) = absurd (number_missing (read m at 2) bus.at (read-there m at 2 i) (h m refl))

-- bytes of a list are in reach
pub Reaches-bytes_from : (base : ℕ) (bytes : List ℕ) (span : Option Range) (at n : ℕ) → base ≤ at → at + n ≤ base + length bytes → Reaches (Some (bytes_from base bytes)) span at n
Reaches-bytes_from base bytes span at n low high = in_map (λ i l.
    let place : base + (at - base + i) ≡ at + i = omega arith in
    let P : ℕ → Type 0 = λ x. IsSome (bytes_from base bytes x) in
    subst P place (rw (bytes_from-at base bytes (at - base + i), slice_get-get_or bytes (at - base + i) 0 (omega arith)) refl))

-- A field at an offset in a part of a ring is in reach where that part is.
whole_address : (start offset : ℕ) → start + offset < 2 ^ 64 → ring_address start offset ≡ start + offset
whole_address start offset h = grind (arith, common_steps)

pub field_reached : (told : Option Memory) (span : Option Range) (start n offset k a : ℕ) → ForSome told IsFinite → ForSome span (λ r. r.last < 2 ^ 64) → 0 < k → offset + k ≤ n → a ≡ ring_address start offset → Reaches told span start n → Reaches told span a k
field_reached told span start n offset k a f s some h e r =
    let ends = Reaches-ends told span start n f s (omega arith) r in
    let at : ring_address start offset ≡ start + offset = whole_address start offset (omega arith) in
    let P : ℕ → Type 0 = λ x. Reaches told span x k in
    subst P (sym e) (subst P (sym at) (Reaches-part told span start n (start + offset) k (omega arith) (omega arith) r))

-- what is in reach after calls that only load
pub reached_still : {S : Type 0} {told : S → Option Memory} {span : S → Option Range} {keeps : S → S → Type 0} {old new : S} → IsUnchanged told span keeps old new → (at n : ℕ) → Reaches (told old) (span old) at n → Reaches (told new) (span new) at n
reached_still same at n h = rw (same.same_told, same.same_span) h

-- the ring is in reach after calls that store
pub ring_still : {S : Type 0} {told : S → Option Memory} {span : S → Option Range} {keeps : S → S → Type 0} {old new : S} → KeepsReach told span keeps old new → (place : RingPlace) → RingInReach (told old) (span old) place → RingInReach (told new) (span new) place
ring_still kept place r = record {
  desc = kept.reach place.desc (16 * place.size) r.desc;
  driver = kept.reach place.driver (6 + 2 * place.size) r.driver;
  device = kept.reach place.device (6 + 8 * place.size) r.device;
}

-- THE FIELDS OF A RING are in reach where its part is.
module _ (told : Option Memory) (span : Option Range) (place : RingPlace) (f : ForSome told IsFinite) (s : ForSome span (λ r. r.last < 2 ^ 64)) where
  pub available_flags-reached : Reaches told span place.driver (6 + 2 * place.size) → Reaches told span (available_flags_at place) 2
  available_flags-reached r = field_reached told span place.driver (6 + 2 * place.size) 0 2 (available_flags_at place) f s (omega arith) (omega arith) refl r

  pub available_index-reached : Reaches told span place.driver (6 + 2 * place.size) → Reaches told span (available_index_at place) 2
  available_index-reached r = field_reached told span place.driver (6 + 2 * place.size) 2 2 (available_index_at place) f s (omega arith) (omega arith) refl r

  pub available_slot-reached : 0 < place.size → (index : ℕ) → Reaches told span place.driver (6 + 2 * place.size) → Reaches told span (available_slot_at place index) 2
  available_slot-reached some index r =
      let slot : index % place.size < place.size = omega arith in
      field_reached told span place.driver (6 + 2 * place.size) (4 + 2 * (index % place.size)) 2 (available_slot_at place index) f s (omega arith) (omega arith) refl r

  pub used_event-reached : Reaches told span place.driver (6 + 2 * place.size) → Reaches told span (used_event_at place) 2
  used_event-reached r = field_reached told span place.driver (6 + 2 * place.size) (4 + 2 * place.size) 2 (used_event_at place) f s (omega arith) (omega arith) refl r

  pub used_flags-reached : Reaches told span place.device (6 + 8 * place.size) → Reaches told span (used_flags_at place) 2
  used_flags-reached r = field_reached told span place.device (6 + 8 * place.size) 0 2 (used_flags_at place) f s (omega arith) (omega arith) refl r

  pub used_index-reached : Reaches told span place.device (6 + 8 * place.size) → Reaches told span (used_index_at place) 2
  used_index-reached r = field_reached told span place.device (6 + 8 * place.size) 2 2 (used_index_at place) f s (omega arith) (omega arith) refl r

  pub used_element-reached : 0 < place.size → (index : ℕ) → Reaches told span place.device (6 + 8 * place.size) → Reaches told span (used_element_at place index) 8
  used_element-reached some index r =
      let slot : index % place.size < place.size = omega arith in
      field_reached told span place.device (6 + 8 * place.size) (4 + 8 * (index % place.size)) 8 (used_element_at place index) f s (omega arith) (omega arith) refl r

  pub available_event-reached : Reaches told span place.device (6 + 8 * place.size) → Reaches told span (available_event_at place) 2
  available_event-reached r = field_reached told span place.device (6 + 8 * place.size) (4 + 8 * place.size) 2 (available_event_at place) f s (omega arith) (omega arith) refl r

-- WHAT KEEPS what is in reach

pub KeepsReach-none : {S : Type 0} {told : S → Option Memory} {span : S → Option Range} {keeps : S → S → Type 0} → ((s : S) → keeps s s) → (s : S) → KeepsReach told span keeps s s
KeepsReach-none reflexive s = record { reach = λ at n r. r; same_span = refl; kept = reflexive s }

pub KeepsReach-more : {S : Type 0} {told : S → Option Memory} {span : S → Option Range} {keeps : S → S → Type 0} {a b c : S} → ((a b c : S) → keeps a b → keeps b c → keeps a c) → KeepsReach told span keeps a b → KeepsReach told span keeps b c → KeepsReach told span keeps a c
KeepsReach-more {a} {b} {c} transitive first next = record {
  reach = λ at n r. next.reach at n (first.reach at n r);
  same_span = next.same_span ∙ first.same_span;
  kept = transitive a b c first.kept next.kept;
}

-- calls that only load keep it
pub KeepsReach-same : {S : Type 0} {told : S → Option Memory} {span : S → Option Range} {keeps : S → S → Type 0} {old new : S} → IsUnchanged told span keeps old new → KeepsReach told span keeps old new
KeepsReach-same same = record { reach = λ at n r. reached_still same at n r; same_span = same.same_span; kept = same.kept }

-- and so does a store, whatever it answers
pub KeepsReach-store : {S : Type 0} {told : S → Option Memory} {span : S → Option Range} {keeps : S → S → Type 0} {old new : S} → (to : ℕ) (bytes : List ℕ) (r : Result (Unit {0}) Bus) → ForSome (told old) (λ m. Stores m to bytes r (told new)) → span new ≡ span old → keeps old new → KeepsReach told span keeps old new
KeepsReach-store {told = told} {span = span} {old = old} {new = new} to bytes r stores e k = record { reach = reach-stored (told old) (told new) (span old) (span new) to bytes r stores e; same_span = e; kept = k }
