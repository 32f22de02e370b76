-- What holds of the sides whatever lists they stand for, and what their answers tell of the lists.
use Rattle.std.proofs.Common.{◌≡◌, ℕ, suc, ◌+◌, ◌-◌, ◌*◌, ◌^◌, ◌<◌, ◌≤◌, false, List, [], ◌∷◌, length, get_or, Some, None, Ok, refl, sym, ap, subst, ◌∙◌, inl, inr, arith}
use Rattle.std.specs.Prelude.{IsOk}
use Rattle.std.proofs.Props.{props}
use Rattle.std.proofs.Math.Logic.{∥∥₁_elim}
use Rattle.vd_model.specs.Memory.{Memory}
use Rattle.vd_model.specs.RingTurns.{first_of}
use Rattle.vd_model.specs.Trace.{chain_of}
use Rattle.vd_model.specs.declared.parts.Chain.{Chain}
use Rattle.vd_model.specs.declared.queue.RingPlace.{RingPlace}
use Rattle.vr_split.specs.Reach.{RingInReach, in_map}
use Rattle.vr_driver.specs.Side.{DriverSide, unowned_descriptors, next_head}
use Rattle.vr_driver.specs.Driver.{next_completion}
use Rattle.vr_driver.specs.declared.completion.Completion.{Completion}
use Rattle.vr_device.specs.Device.{next_of}
use Rattle.vr_pair.specs.QueueLists.{NumberedChain, FinishedChain, QueueLists, free_count}
use Rattle.vr_split_pair.specs.Lies.{IsThere}
use Rattle.vr_split_pair.specs.Split.{Sides, SplitStands}
use Rattle.vr_split_pair.specs.State.{IsStood, IsTooMany}
use Rattle.vr_split_pair.proofs.Added.{owner_below, next_head_low}
use Rattle.vr_split_pair.proofs.Chains.{takes-len}
use Rattle.vr_split_pair.proofs.Taken.{front, few, none_next, one_next}
use Rattle.vr_split_pair.proofs.Reclaimed.{used_front, none_done, one_done}

-- NUMBERS

pub record InOrder (s : Sides) : Type 0 where
  pub some : 0 < s.driver.place.size
  pub small : s.driver.place.size ≤ 32768
  pub numbers : length s.numbers ≡ s.driver.place.size
  pub free : length (unowned_descriptors s.driver) ≤ s.driver.place.size
  pub few : s.added ≤ s.placed
  pub bound : s.placed ≤ 2 ^ 62 + 32768

in_order_of : (s : Sides) (r : IsStood s) → InOrder s
in_order_of s r =
    let l = r.stands.laid in
    let all = r.stands.owners.free in
    record {
      some = l.some;
      small = l.small;
      numbers = r.stands.owners.numbers_len;
      free = omega (arith, all);
      few = r.stands.counts.few;
      bound = r.stands.counts.bound;
    }

pub in_order : (s : Sides) → ∥ IsStood s ∥₁ → InOrder s
in_order s stood = record {
  some = ∥∥₁_elim stood (Prim.hlevel props) (λ r. (in_order_of s r).some);
  small = ∥∥₁_elim stood (Prim.hlevel props) (λ r. (in_order_of s r).small);
  numbers = ∥∥₁_elim stood (Prim.hlevel props) (λ r. (in_order_of s r).numbers);
  free = ∥∥₁_elim stood (Prim.hlevel props) (λ r. (in_order_of s r).free);
  few = ∥∥₁_elim stood (Prim.hlevel props) (λ r. (in_order_of s r).few);
  bound = ∥∥₁_elim stood (Prim.hlevel props) (λ r. (in_order_of s r).bound);
}

-- THE RING is in reach

laid_driver : (s : Sides) → ∥ IsStood s ∥₁ → s.driver.place.desc + 16 * s.driver.place.size ≤ s.driver.place.driver
laid_driver s stood = ∥∥₁_elim stood (Prim.hlevel props) (λ r. r.stands.laid.driver)

laid_device : (s : Sides) → ∥ IsStood s ∥₁ → s.driver.place.driver + (6 + 2 * s.driver.place.size) ≤ s.driver.place.device
laid_device s stood = ∥∥₁_elim stood (Prim.hlevel props) (λ r. r.stands.laid.device)

all_there : (s : Sides) → ∥ IsStood s ∥₁ → IsThere s.memory s.driver.place
all_there s stood a from to = ∥∥₁_elim stood (Prim.hlevel props) (λ r. r.stands.there a from to)

pub ring_there : (m : Memory) (r : RingPlace) → r.desc + 16 * r.size ≤ r.driver → r.driver + (6 + 2 * r.size) ≤ r.device → IsThere m r → RingInReach (Some m) None r
ring_there m r driver device there = record {
  desc = in_map (λ i l. there (r.desc + i) (omega arith) (omega arith));
  driver = in_map (λ i l. there (r.driver + i) (omega arith) (omega arith));
  device = in_map (λ i l. there (r.device + i) (omega arith) (omega arith));
}

pub in_reach : (s : Sides) → ∥ IsStood s ∥₁ → RingInReach (Some s.memory) None s.driver.place
in_reach s stood = ring_there s.memory s.driver.place (laid_driver s stood) (laid_device s stood) (all_there s stood)

pub same_place : (s : Sides) → ∥ IsStood s ∥₁ → (s.device.place.size ≡ s.driver.place.size) × (s.device.place.desc ≡ s.driver.place.desc) × (s.device.place.driver ≡ s.driver.place.driver) × (s.device.place.device ≡ s.driver.place.device)
same_place s stood = (
  ∥∥₁_elim stood (Prim.hlevel props) (λ r. ap (λ (p : RingPlace). p.size) r.stands.counts.same_place),
  ∥∥₁_elim stood (Prim.hlevel props) (λ r. ap (λ (p : RingPlace). p.desc) r.stands.counts.same_place),
  ∥∥₁_elim stood (Prim.hlevel props) (λ r. ap (λ (p : RingPlace). p.driver) r.stands.counts.same_place),
  ∥∥₁_elim stood (Prim.hlevel props) (λ r. ap (λ (p : RingPlace). p.device) r.stands.counts.same_place),
)

pub in_reach_too : (s : Sides) → ∥ IsStood s ∥₁ → RingInReach (Some s.memory) None s.device.place
in_reach_too s stood =
    let same = same_place s stood in
    let place : s.device.place ≡ s.driver.place =
    ap (λ (k : ℕ). record { size = k; desc = s.device.place.desc; driver = s.device.place.driver; device = s.device.place.device }) same.0
    ∙ ap (λ (k : ℕ). record { size = s.driver.place.size; desc = k; driver = s.device.place.driver; device = s.device.place.device }) same.1
    ∙ ap (λ (k : ℕ). record { size = s.driver.place.size; desc = s.driver.place.desc; driver = k; device = s.device.place.device }) same.2
    ∙ ap (λ (k : ℕ). record { size = s.driver.place.size; desc = s.driver.place.desc; driver = s.driver.place.driver; device = k }) same.3 in
    subst (λ (p : RingPlace). RingInReach (Some s.memory) None p) (sym place) (in_reach s stood)

-- ADDING

-- where too many descriptors are wanted, the lists have too few free ones
pub full_is : (s : Sides) (q : QueueLists) (h : SplitStands s q) (n : ℕ) → IsTooMany s.driver n → free_count q < n
full_is s q h n (inl e) = let size = h.counts.size in omega (arith, size, e)
full_is s q h n (inr e) = let size = h.counts.size in let all = h.owners.free in omega (arith, size, all, e)

pub room_is : (s : Sides) (q : QueueLists) (h : SplitStands s q) (n : ℕ) → n ≤ length (unowned_descriptors s.driver) → n ≤ free_count q
room_is s q h n e = let size = h.counts.size in let all = h.owners.free in omega (arith, size, all, e)

pub head_low : (s : Sides) (n : ℕ) → 0 < n → n ≤ length (unowned_descriptors s.driver) → ∥ IsStood s ∥₁ → next_head s.driver n < length s.numbers
head_low s n some room stood = ∥∥₁_elim stood (Prim.hlevel props) (λ r. let low = next_head_low s.driver n some room in let owners = r.stands.owners.owners_len in let numbers = r.stands.owners.numbers_len in omega (arith, low, owners, numbers))

-- WHAT THE DEVICE FINDS

pub data Ahead (s : Sides) (q : QueueLists) (h : SplitStands s q) : Type 0 where
  no_chain : q.waiting ≡ [] → next_of s.memory s.device false ≡ Ok None → Ahead s q h
  a_chain : (chain : NumberedChain) (rest : List NumberedChain) (e : q.waiting ≡ chain ∷ rest)
      → next_of s.memory s.device false ≡ Ok (Some (chain_of (first_of (front s q h chain rest e).descriptors) chain.parts)) → Ahead s q h

ahead : (s : Sides) (q : QueueLists) (h : SplitStands s q) → Ahead s q h
ahead s q h = by q.waiting refl where
  by : (l : List NumberedChain) → q.waiting ≡ l → Ahead s q h
  by [] e = no_chain e (none_next s q h e)
  by (chain ∷ rest) e = a_chain chain rest e (one_next s q h chain rest e)

pub next_sound : (s : Sides) → ∥ IsStood s ∥₁ → IsOk (next_of s.memory s.device false)
next_sound s stood = ∥∥₁_elim stood (Prim.hlevel props) (λ r. elim (ahead s r.lists r.stands) [
  | no_chain e t ↦ rw t refl
  | a_chain c rest e t ↦ rw t refl
])

pub none_waits : (s : Sides) (q : QueueLists) (h : SplitStands s q) → next_of s.memory s.device false ≡ Ok None → q.waiting ≡ []
none_waits s q h test = elim (ahead s q h) [
  | no_chain e t ↦ e
  | a_chain c rest e t ↦ absurd (cc (sym t ∙ test))
]

pub record WaitingOne (s : Sides) (q : QueueLists) (h : SplitStands s q) (found : Chain) : Type 0 where
  pub chain : NumberedChain
  pub rest : List NumberedChain
  pub first : q.waiting ≡ chain ∷ rest
  pub parts : found.parts ≡ chain.parts
  pub head : found.head ≡ first_of (front s q h chain rest first).descriptors

pub one_waits : (s : Sides) (q : QueueLists) (h : SplitStands s q) (found : Chain) → next_of s.memory s.device false ≡ Ok (Some found) → WaitingOne s q h found
one_waits s q h found test = elim (ahead s q h) [
  | no_chain e t ↦ absurd (cc (sym t ∙ test))
  | a_chain c rest e t ↦
      (let both : Ok (Some found) ≡ Ok (Some (chain_of (first_of (front s q h c rest e).descriptors) c.parts)) = sym test ∙ t in
      let same : found ≡ chain_of (first_of (front s q h c rest e).descriptors) c.parts = cc both in
      record { chain = c; rest = rest; first = e; parts = ap (λ (x : Chain). x.parts) same; head = ap (λ (x : Chain). x.head) same })
]

-- the number of the chain that was found
pub number_is : (s : Sides) (q : QueueLists) (h : SplitStands s q) (found : Chain) (w : WaitingOne s q h found) → get_or s.numbers found.head 0 ≡ w.chain.number
number_is s q h found w = ap (λ (i : ℕ). get_or s.numbers i 0) w.head ∙ (front s q h w.chain w.rest w.first).known.number

pub record Takeable (s : Sides) (head : ℕ) : Type 0 where
  pub within : head < length s.numbers
  pub room : length s.taken < s.driver.place.size

takeable_of : (s : Sides) (found : Chain) → next_of s.memory s.device false ≡ Ok (Some found) → (r : IsStood s) → Takeable s found.head
takeable_of s found test r =
    let w = one_waits s r.lists r.stands found test in
    let f = front s r.lists r.stands w.chain w.rest w.first in
    let inside = owner_below s.driver.owners (first_of f.descriptors) (first_of f.descriptors) f.known.owner in
    let owners = r.stands.owners.owners_len in
    let numbers = r.stands.owners.numbers_len in
    let head = w.head in
    let one : length r.lists.waiting ≡ suc (length w.rest) = ap (λ (l : List NumberedChain). length l) w.first in
    let all = (few s r.lists r.stands).all in
    let taken = takes-len s.taken r.lists.taken r.stands.takes in
    record { within = omega (arith, inside, owners, numbers, head); room = omega (arith, one, all, taken) }

pub takeable : (s : Sides) (found : Chain) → next_of s.memory s.device false ≡ Ok (Some found) → ∥ IsStood s ∥₁ → Takeable s found.head
takeable s found test stood = record {
  within = ∥∥₁_elim stood (Prim.hlevel props) (λ r. (takeable_of s found test r).within);
  room = ∥∥₁_elim stood (Prim.hlevel props) (λ r. (takeable_of s found test r).room);
}

-- WHAT THE DRIVER FINDS

pub data Behind (s : Sides) (q : QueueLists) (h : SplitStands s q) : Type 0 where
  no_used : q.used ≡ [] → next_completion s.memory s.driver ≡ Ok None → Behind s q h
  a_used : (done : FinishedChain) (rest : List FinishedChain) (e : q.used ≡ done ∷ rest)
      → next_completion s.memory s.driver ≡ Ok (Some (record { head = (used_front s q h done rest e).head; len = done.len })) → Behind s q h

behind : (s : Sides) (q : QueueLists) (h : SplitStands s q) → Behind s q h
behind s q h = by q.used refl where
  by : (l : List FinishedChain) → q.used ≡ l → Behind s q h
  by [] e = no_used e (none_done s q h e)
  by (done ∷ rest) e = a_used done rest e (one_done s q h done rest e)

pub done_sound : (s : Sides) → ∥ IsStood s ∥₁ → IsOk (next_completion s.memory s.driver)
done_sound s stood = ∥∥₁_elim stood (Prim.hlevel props) (λ r. elim (behind s r.lists r.stands) [
  | no_used e t ↦ rw t refl
  | a_used d rest e t ↦ rw t refl
])

pub none_used : (s : Sides) (q : QueueLists) (h : SplitStands s q) → next_completion s.memory s.driver ≡ Ok None → q.used ≡ []
none_used s q h test = elim (behind s q h) [
  | no_used e t ↦ e
  | a_used d rest e t ↦ absurd (cc (sym t ∙ test))
]

pub record UsedOne (s : Sides) (q : QueueLists) (h : SplitStands s q) (found : Completion) : Type 0 where
  pub finished : FinishedChain
  pub rest : List FinishedChain
  pub first : q.used ≡ finished ∷ rest
  pub head : found.head ≡ (used_front s q h finished rest first).head
  pub len : found.len ≡ finished.len

pub one_used : (s : Sides) (q : QueueLists) (h : SplitStands s q) (found : Completion) → next_completion s.memory s.driver ≡ Ok (Some found) → UsedOne s q h found
one_used s q h found test = elim (behind s q h) [
  | no_used e t ↦ absurd (cc (sym t ∙ test))
  | a_used d rest e t ↦
      (let both : Ok (Some found) ≡ Ok (Some (record { head = (used_front s q h d rest e).head; len = d.len })) = sym test ∙ t in
      let same : found ≡ record { head = (used_front s q h d rest e).head; len = d.len } = cc both in
      record { finished = d; rest = rest; first = e; head = ap (λ (x : Completion). x.head) same; len = ap (λ (x : Completion). x.len) same })
]

pub used_number_is : (s : Sides) (q : QueueLists) (h : SplitStands s q) (found : Completion) (u : UsedOne s q h found) → get_or s.numbers found.head 0 ≡ u.finished.chain.number
used_number_is s q h found u = ap (λ (i : ℕ). get_or s.numbers i 0) u.head ∙ (used_front s q h u.finished u.rest u.first).known.number

pub done_low : (s : Sides) (found : Completion) → next_completion s.memory s.driver ≡ Ok (Some found) → ∥ IsStood s ∥₁ → found.head < length s.numbers
done_low s found test stood = ∥∥₁_elim stood (Prim.hlevel props) (λ r.
    let u = one_used s r.lists r.stands found test in
    let f = used_front s r.lists r.stands u.finished u.rest u.first in
    let inside = owner_below s.driver.owners f.head f.head f.known.owner in
    let owners = r.stands.owners.owners_len in
    let numbers = r.stands.owners.numbers_len in
    let head = u.head in
    omega (arith, inside, owners, numbers, head))

-- THE SAME SIDES over a memory that tells the same
pub same_memory : (s : Sides) (m : Memory) (q : QueueLists) → m ≡ s.memory → SplitStands s q → SplitStands (record s { memory = m }) q
same_memory s m q e h = subst (λ (w : Memory). SplitStands (record s { memory = w }) q) (sym e) h

pub same_driver : (s : Sides) (m : Memory) (d : DriverSide) (q : QueueLists) → m ≡ s.memory → d ≡ s.driver → SplitStands s q → SplitStands (record s { memory = m; driver = d }) q
same_driver s m d q e f h = subst (λ (x : DriverSide). SplitStands (record s { memory = m; driver = x }) q) (sym f) (same_memory s m q e h)
