-- What holds of the sides whatever lists they stand for.
use Rattle.std.proofs.Common.{◌≡◌, ℕ, zero, suc, ◌+◌, ◌-◌, ◌^◌, ◌<◌, ◌≤◌, Bool, true, false, List, [], ◌∷◌, ◌++◌, length, get_or, Some, None, refl, sym, ap, subst, ◌∙◌, arith}
use Rattle.std.proofs.Props.{props}
use Rattle.std.proofs.Math.Logic.{∥∥₁_elim}
use Rattle.vd_model.specs.declared.parts.Part.{Part}
use Rattle.vr_pair.specs.QueueLists.{NumberedChain, FinishedChain, QueueLists, count_parts, finished_chains, free_count, numbered_chain, with_taken, with_used, with_reclaimed}
use Rattle.vr_slots.specs.declared.slot.Slot.{Slot}
use Rattle.vr_slots.specs.Slots.{wrap_of, slot_at, with_slot, is_available, is_used}
use Rattle.vr_packed.specs.declared.chain.TakenChain.{TakenChain}
use Rattle.vr_packed.specs.declared.chain.ChainRecord.{ChainRecord}
use Rattle.vr_packed.specs.Lies.{Waits, UsedLie, AreTaken, ChainLies, no_record, record_of}
use Rattle.vr_packed.specs.Packed.{Sides, PackedStands}
use Rattle.vr_packed.specs.State.{IsStood}
use Rattle.vr_packed.specs.Lies.{taken_of, without_taken, used_slot}
use Rattle.vr_packed.proofs.Records.{Removed, removed, none-taken}
use Rattle.vr_packed.proofs.Moves.{Front, ahead, UsedFront, behind, used_known, free_id, next_sides, next_stands, taken_entry, used_sides, used_stands, reclaimed_sides, reclaim_stands}
use Rattle.vr_packed.proofs.Moves.Ahead.{no_chain, a_chain}
use Rattle.vr_packed.proofs.Moves.Behind.{no_used, a_used}

-- no more chains than parts
waits-few : (slots : List Slot) (place number : ℕ) (cs : List NumberedChain) (ids : List ℕ) → Waits slots place number cs ids → length ids ≤ count_parts cs
waits-few slots place number [] [] h = omega arith
waits-few slots place number [] (i ∷ is) h = absurd h
waits-few slots place number (c ∷ cs) [] h = absurd h
waits-few slots place number (c ∷ cs) (i ∷ is) h =
    let rest : length is ≤ count_parts cs = waits-few slots (place + length c.parts) (number + 1) cs is h.3 in
    let some : 0 < length c.parts = h.1 in
    omega (arith, rest, some)

takes-few : (ts : List TakenChain) (cs : List NumberedChain) → AreTaken ts cs → length ts ≤ count_parts cs
takes-few [] [] h = omega arith
takes-few [] (c ∷ cs) h = absurd h
takes-few (t ∷ ts) [] h = absurd h
takes-few (t ∷ ts) (c ∷ cs) h =
    let rest : length ts ≤ count_parts cs = takes-few ts cs h.3 in
    let some : 0 < length c.parts = h.2 in
    omega (arith, rest, some)

uses-few : (slots : List Slot) (place : ℕ) (fs : List FinishedChain) (ids : List ℕ) → UsedLie slots place fs ids → length ids ≤ count_parts (finished_chains fs)
uses-few slots place [] [] h = omega arith
uses-few slots place [] (i ∷ is) h = absurd h
uses-few slots place (f ∷ fs) [] h = absurd h
uses-few slots place (f ∷ fs) (i ∷ is) h =
    let rest : length is ≤ count_parts (finished_chains fs) = uses-few slots (place + length f.chain.parts) fs is h.2 in
    let some : 0 < length f.chain.parts = h.1 in
    omega (arith, rest, some)

-- where a descriptor is free, so is an id
pub free_left : (s : Sides) (q : QueueLists) → PackedStands s q → s.placed < s.reclaimed + length s.slots → 0 < length s.free
free_left s q h left =
    let counts = h.counts in
    let waits : length h.waiting_ids ≤ count_parts q.waiting = waits-few s.slots s.read s.given q.waiting h.waiting_ids h.waits in
    let takes : length s.taken ≤ count_parts q.taken = takes-few s.taken q.taken h.takes in
    let uses : length h.used_ids ≤ count_parts (finished_chains q.used) = uses-few s.slots s.reclaimed q.used h.used_ids h.uses in
    let count = h.ids.count in
    omega (arith, waits, takes, uses, count, counts.written, counts.read, counts.waiting, left)

-- the order of the places, and their bounds
pub record InOrder (s : Sides) : Type 0 where
  pub some : 0 < length s.slots
  pub small : length s.slots ≤ 32768
  pub records : length s.records ≡ length s.slots
  pub reclaimed : s.reclaimed ≤ s.written
  pub written : s.written ≤ s.read
  pub read : s.read ≤ s.placed
  pub placed : s.placed ≤ s.reclaimed + length s.slots
  pub bound : s.placed ≤ 2 ^ 62 + 32768
  pub added : s.added ≤ s.placed
  pub given : s.given ≤ s.added

in_order_of : (s : Sides) (r : IsStood s) → InOrder s
in_order_of s r =
    let c = r.stands.counts in
    record {
      some = c.some;
      small = c.small;
      records = c.records_len;
      reclaimed = omega (arith, c.written);
      written = omega (arith, c.read);
      read = omega (arith, c.waiting);
      placed = c.fits;
      bound = c.bound;
      added = c.few;
      given = omega (arith, c.given);
    }

pub in_order : (s : Sides) → ∥ IsStood s ∥₁ → InOrder s
in_order s stood = record {
  some = ∥∥₁_elim stood (Prim.hlevel props) (λ r. (in_order_of s r).some);
  small = ∥∥₁_elim stood (Prim.hlevel props) (λ r. (in_order_of s r).small);
  records = ∥∥₁_elim stood (Prim.hlevel props) (λ r. (in_order_of s r).records);
  reclaimed = ∥∥₁_elim stood (Prim.hlevel props) (λ r. (in_order_of s r).reclaimed);
  written = ∥∥₁_elim stood (Prim.hlevel props) (λ r. (in_order_of s r).written);
  read = ∥∥₁_elim stood (Prim.hlevel props) (λ r. (in_order_of s r).read);
  placed = ∥∥₁_elim stood (Prim.hlevel props) (λ r. (in_order_of s r).placed);
  bound = ∥∥₁_elim stood (Prim.hlevel props) (λ r. (in_order_of s r).bound);
  added = ∥∥₁_elim stood (Prim.hlevel props) (λ r. (in_order_of s r).added);
  given = ∥∥₁_elim stood (Prim.hlevel props) (λ r. (in_order_of s r).given);
}

pub some_free : (s : Sides) → ∥ IsStood s ∥₁ → s.placed < s.reclaimed + length s.slots → 0 < length s.free
some_free s stood left = ∥∥₁_elim stood (Prim.hlevel props) (λ r. free_left s r.lists r.stands left)

-- AN ID that is taken from the free ones is one of the ring

id_within_of : (s : Sides) (id : ℕ) (free : List ℕ) → s.free ≡ free ++ id ∷ [] → (r : IsStood s) → id < length s.records
id_within_of s id free e r =
    let own = free_id s r.lists r.stands id free e in
    let within = own.within in
    omega (arith, within, r.stands.counts.records_len)

pub id_within : (s : Sides) (id : ℕ) (free : List ℕ) → s.free ≡ free ++ id ∷ [] → ∥ IsStood s ∥₁ → id < length s.records
id_within s id free e stood = ∥∥₁_elim stood (Prim.hlevel props) (λ r. id_within_of s id free e r)

-- WHAT THE DEVICE FINDS at its place

pub none_waits : (s : Sides) (q : QueueLists) (h : PackedStands s q) → is_available (wrap_of (length s.slots) s.read) (slot_at s.slots s.read) ≡ false → q.waiting ≡ []
none_waits s q h test = elim (ahead s q h) [
  | no_chain e t ↦ e
  | a_chain c rest e f t ↦ absurd (cc (sym t ∙ test))
]

pub record WaitingOne (s : Sides) (q : QueueLists) (h : PackedStands s q) : Type 0 where
  pub chain : NumberedChain
  pub rest : List NumberedChain
  pub first : q.waiting ≡ chain ∷ rest
  pub front : Front s.slots s.read s.given h.waiting_ids chain rest

pub one_waits : (s : Sides) (q : QueueLists) (h : PackedStands s q) → is_available (wrap_of (length s.slots) s.read) (slot_at s.slots s.read) ≡ true → WaitingOne s q h
one_waits s q h test = elim (ahead s q h) [
  | no_chain e t ↦ absurd (cc (sym t ∙ test))
  | a_chain c rest e f t ↦ record { chain = c; rest = rest; first = e; front = f }
]

-- a chain that waits is no longer than the ring, and ends before the driver's next place
pub record Short (s : Sides) (n : ℕ) : Type 0 where
  pub fits : n ≤ length s.slots
  pub ends : s.read + n ≤ s.placed
  pub room : length s.taken < length s.slots

pub short_of : (s : Sides) (q : QueueLists) (h : PackedStands s q) (w : WaitingOne s q h) → Short s (length w.chain.parts)
short_of s q h w =
    let counts = h.counts in
    let parts : count_parts q.waiting ≡ length w.chain.parts + count_parts w.rest = ap count_parts w.first in
    let ids : length h.waiting_ids ≡ suc (length w.front.more) = ap (λ (l : List ℕ). length l) w.front.ids_are in
    let count = h.ids.count in
    record {
      fits = omega (arith, parts, counts.waiting, counts.read, counts.written, counts.fits);
      ends = omega (arith, parts, counts.waiting);
      room = omega (arith, ids, count);
    }

-- the parts that were read, by what reading them says
abbrev pub IsRead : List Slot → ℕ → ℕ → List Part → Type 0
IsRead slots place found read = (id : ℕ) (parts : List Part) → 0 < length parts → length parts ≤ length slots → ChainLies slots place id parts → (found ≡ id) × (read ≡ parts)

read_short_of : (s : Sides) (found : ℕ) (read : List Part) → IsRead s.slots s.read found read → is_available (wrap_of (length s.slots) s.read) (slot_at s.slots s.read) ≡ true → (r : IsStood s) → Short s (length read)
read_short_of s found read is test r =
    let w = one_waits s r.lists r.stands test in
    let short = short_of s r.lists r.stands w in
    let same = is w.front.id w.chain.parts w.front.some short.fits w.front.lies in
    subst (λ (l : List Part). Short s (length l)) (sym same.1) short

pub read_short : (s : Sides) (found : ℕ) (read : List Part) → IsRead s.slots s.read found read → is_available (wrap_of (length s.slots) s.read) (slot_at s.slots s.read) ≡ true → ∥ IsStood s ∥₁ → Short s (length read)
read_short s found read is test stood = record {
  fits = ∥∥₁_elim stood (Prim.hlevel props) (λ r. (read_short_of s found read is test r).fits);
  ends = ∥∥₁_elim stood (Prim.hlevel props) (λ r. (read_short_of s found read is test r).ends);
  room = ∥∥₁_elim stood (Prim.hlevel props) (λ r. (read_short_of s found read is test r).room);
}

-- A CHAIN THAT IS USED ends before the device's next place

used_fits_of : (s : Sides) (number : ℕ) (t : TakenChain) → taken_of number s.taken ≡ Some t → (r : IsStood s) → s.written + t.count ≤ s.read
used_fits_of s number t e r =
    let out = removed number t s.taken r.lists.taken s.records r.stands.takes r.stands.known_taken e in
    let counts = r.stands.counts in
    let count = out.count in
    let parts = out.parts in
    omega (arith, count, parts, counts.read)

pub used_fits : (s : Sides) (number : ℕ) (t : TakenChain) → taken_of number s.taken ≡ Some t → ∥ IsStood s ∥₁ → s.written + t.count ≤ s.read
used_fits s number t e stood = ∥∥₁_elim stood (Prim.hlevel props) (λ r. used_fits_of s number t e r)

-- WHAT THE DRIVER FINDS at its place

pub none_used : (s : Sides) (q : QueueLists) (h : PackedStands s q) → is_used (wrap_of (length s.slots) s.reclaimed) (slot_at s.slots s.reclaimed) ≡ false → q.used ≡ []
none_used s q h test = elim (behind s q h) [
  | no_used e t ↦ e
  | a_used f rest e u t ↦ absurd (cc (sym t ∙ test))
]

pub record UsedOne (s : Sides) (q : QueueLists) (h : PackedStands s q) : Type 0 where
  pub finished : FinishedChain
  pub rest : List FinishedChain
  pub first : q.used ≡ finished ∷ rest
  pub front : UsedFront s.slots s.reclaimed h.used_ids finished rest

pub one_used : (s : Sides) (q : QueueLists) (h : PackedStands s q) → is_used (wrap_of (length s.slots) s.reclaimed) (slot_at s.slots s.reclaimed) ≡ true → UsedOne s q h
one_used s q h test = elim (behind s q h) [
  | no_used e t ↦ absurd (cc (sym t ∙ test))
  | a_used f rest e u t ↦ record { finished = f; rest = rest; first = e; front = u }
]

-- what the driver may do with the descriptor
pub record Reclaimable (s : Sides) (id : ℕ) : Type 0 where
  pub within : id < length s.records
  pub room : length s.free < length s.slots
  pub ends : s.reclaimed + (get_or s.records id no_record).count ≤ s.written

reclaimable_of : (s : Sides) → is_used (wrap_of (length s.slots) s.reclaimed) (slot_at s.slots s.reclaimed) ≡ true → (r : IsStood s) → Reclaimable s (slot_at s.slots s.reclaimed).id
reclaimable_of s test r =
    let one = one_used s r.lists r.stands test in
    let known = used_known s r.lists r.stands one.finished one.rest one.first one.front in
    let id : (slot_at s.slots s.reclaimed).id ≡ one.front.id = ap (λ (x : Slot). x.id) one.front.lies in
    let counts = r.stands.counts in
    let parts : count_parts (finished_chains r.lists.used) ≡ length one.finished.chain.parts + count_parts (finished_chains one.rest) = ap (λ (l : List FinishedChain). count_parts (finished_chains l)) one.first in
    let ids : length r.stands.used_ids ≡ suc (length one.front.more) = ap (λ (l : List ℕ). length l) one.front.ids_are in
    let count = r.stands.ids.count in
    let recorded : (get_or s.records one.front.id no_record).count ≡ length one.finished.chain.parts = ap (λ (x : ChainRecord). x.count) known.1 in
    let this : Reclaimable s one.front.id = record {
      within = known.0;
      room = omega (arith, ids, count);
      ends = omega (arith, recorded, parts, counts.written);
    } in
    subst (Reclaimable s) (sym id) this

pub reclaimable : (s : Sides) → is_used (wrap_of (length s.slots) s.reclaimed) (slot_at s.slots s.reclaimed) ≡ true → ∥ IsStood s ∥₁ → Reclaimable s (slot_at s.slots s.reclaimed).id
reclaimable s test stood = record {
  within = ∥∥₁_elim stood (Prim.hlevel props) (λ r. (reclaimable_of s test r).within);
  room = ∥∥₁_elim stood (Prim.hlevel props) (λ r. (reclaimable_of s test r).room);
  ends = ∥∥₁_elim stood (Prim.hlevel props) (λ r. (reclaimable_of s test r).ends);
}

-- by the code's count of free descriptors
pub free_room : (s : Sides) (q : QueueLists) (h : PackedStands s q) (n len : ℕ) → len ≡ length s.slots → n ≤ len - (s.placed - s.reclaimed) → n ≤ free_count q
free_room s q h n len e le =
    let counts = h.counts in
    omega (arith, e, le, counts.size, counts.written, counts.read, counts.waiting, counts.fits)

-- THE STEPS, by what the code leaves

pub unused_stands : (s : Sides) (q : QueueLists) (number : ℕ) (ts : List TakenChain) → taken_of number s.taken ≡ None → ts ≡ without_taken number s.taken → (h : PackedStands s q)
    → (numbered_chain number q.taken ≡ None) × PackedStands (record s { taken = ts }) q
unused_stands s q number ts none rest h =
    let absent = none-taken number s.taken q.taken h.takes none in
    (absent.0, subst (λ (l : List TakenChain). PackedStands (record s { taken = l }) q) (sym (rest ∙ absent.1)) h)

pub moved_used : (s : Sides) (q : QueueLists) (h : PackedStands s q) (number : ℕ) (t : TakenChain) (len : ℕ) (slots : List Slot) (ts : List TakenChain) → (out : Removed number t s.taken q.taken s.records)
    → slots ≡ with_slot s.slots s.written (used_slot t.id len (wrap_of (length s.slots) s.written)) → ts ≡ without_taken number s.taken
    → PackedStands (record s { slots = slots; written = s.written + t.count; taken = ts }) (with_used q out.chain len)
moved_used s q h number t len slots ts out marked rest =
    let stands = used_stands s q h number t len out in
    subst (λ (l : List Slot). PackedStands (record s { slots = l; written = s.written + t.count; taken = ts }) (with_used q out.chain len)) (sym marked)
    (subst (λ (l : List TakenChain). PackedStands (record (used_sides s number t len) { taken = l }) (with_used q out.chain len)) (sym rest) stands)

pub moved_reclaimed : (s : Sides) (q : QueueLists) (h : PackedStands s q) (one : UsedOne s q h) (free : List ℕ) (reclaimed id count : ℕ)
    → id ≡ one.front.id → count ≡ length one.finished.chain.parts → free ≡ s.free ++ id ∷ [] → reclaimed ≡ s.reclaimed + count
    → PackedStands (record s { reclaimed = reclaimed; free = free }) (with_reclaimed q one.rest)
moved_reclaimed s q h one free reclaimed id count named counted pushed at =
    let stands = reclaim_stands s q h one.finished one.rest one.first one.front in
    let freed : free ≡ s.free ++ one.front.id ∷ [] = pushed ∙ ap (λ (i : ℕ). s.free ++ i ∷ []) named in
    let place : reclaimed ≡ s.reclaimed + length one.finished.chain.parts = at ∙ ap (λ (n : ℕ). s.reclaimed + n) counted in
    subst (λ (n : ℕ). PackedStands (record s { reclaimed = n; free = free }) (with_reclaimed q one.rest)) (sym place)
    (subst (λ (l : List ℕ). PackedStands (record (reclaimed_sides s one.front.id (length one.finished.chain.parts)) { free = l }) (with_reclaimed q one.rest)) (sym freed) stands)

pub moved_next : (s : Sides) (q : QueueLists) (h : PackedStands s q) (w : WaitingOne s q h) (taken : List TakenChain) (place id count : ℕ)
    → id ≡ w.front.id → count ≡ length w.chain.parts → taken ≡ s.taken ++ taken_entry s.given id count ∷ [] → place ≡ s.read + count
    → PackedStands (record s { read = place; given = s.given + 1; taken = taken }) (with_taken q w.chain w.rest)
moved_next s q h w taken place id count named counted pushed at =
    let stands = next_stands s q h w.chain w.rest w.first w.front in
    let entry : taken_entry s.given id count ≡ taken_entry s.given w.front.id (length w.chain.parts) = ap (λ (i : ℕ). taken_entry s.given i count) named ∙ ap (λ (n : ℕ). taken_entry s.given w.front.id n) counted in
    let all : taken ≡ s.taken ++ taken_entry s.given w.front.id (length w.chain.parts) ∷ [] = pushed ∙ ap (λ (t : TakenChain). s.taken ++ t ∷ []) entry in
    let on : place ≡ s.read + length w.chain.parts = at ∙ ap (λ (n : ℕ). s.read + n) counted in
    subst (λ (n : ℕ). PackedStands (record s { read = n; given = s.given + 1; taken = taken }) (with_taken q w.chain w.rest)) (sym on)
    (subst (λ (l : List TakenChain). PackedStands (record (next_sides s w.front.id (length w.chain.parts)) { taken = l }) (with_taken q w.chain w.rest)) (sym all) stands)

-- a test by what the code's calls gave
pub test_of : (test : Bool → Slot → Bool) (wrap exact : Bool) (slot stood : Slot) (result is : Bool) → result ≡ test wrap slot → wrap ≡ exact → slot ≡ stood → result ≡ is → test exact stood ≡ is
test_of test wrap exact slot stood result is ran wraps same e =
    sym (ap (λ (w : Bool). test w stood) wraps) ∙ sym (ap (test wrap) same) ∙ sym ran ∙ e

-- the entry of a place in a list, whatever stands for one past its end
pub same_entry : (xs : List ChainRecord) (i : ℕ) (d e : ChainRecord) → i < length xs → get_or xs i d ≡ get_or xs i e
same_entry [] i d e h = absurd (omega arith)
same_entry (x ∷ xs) zero d e h = refl
same_entry (x ∷ xs) (suc i) d e h = same_entry xs i d e (omega arith)

-- the driver's record of the chain that was used first
pub recorded : (s : Sides) (q : QueueLists) (h : PackedStands s q) (one : UsedOne s q h) (slot : Slot) (r : ChainRecord) → slot ≡ slot_at s.slots s.reclaimed → r ≡ get_or s.records slot.id r
    → r ≡ record_of one.finished.chain
recorded s q h one slot r at is =
    let known = used_known s q h one.finished one.rest one.first one.front in
    let id : slot.id ≡ one.front.id = ap (λ (x : Slot). x.id) (at ∙ one.front.lies) in
    is ∙ ap (λ (i : ℕ). get_or s.records i r) id ∙ same_entry s.records one.front.id r no_record known.0 ∙ known.1
