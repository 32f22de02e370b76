-- The sides after each call, by what its steps tell of the memory, of both sides and of what is kept.
use Rattle.std.proofs.Common.{◌≡◌, ℕ, zero, suc, ◌+◌, ◌^◌, false, ◌<◌, ◌++◌, List, [], ◌∷◌, length, get_or, Option, Some, None, Ok, refl, sym, ap, subst, ◌∙◌, inl, inr, arith}
use Rattle.std.specs.List.{All}
use Rattle.std.proofs.lemmas.Bool.{cases_lt}
use Rattle.std.proofs.Math.ListN.{set}
use Rattle.vd_model.specs.Memory.{Memory}
use Rattle.vd_model.specs.Rings.{next16}
use Rattle.vd_model.specs.RingTurns.{first_of}
use Rattle.vd_model.specs.declared.parts.Chain.{Chain}
use Rattle.vd_model.specs.declared.parts.Part.{Part}
use Rattle.vd_laws.specs.Among.{Among}
use Rattle.vr_driver.specs.Side.{DriverSide, next_head, with_chain, all_published, without_chain}
use Rattle.vr_driver.specs.Driver.{with_parts, with_index, with_answer, next_completion, side_after}
use Rattle.vr_driver.specs.declared.completion.Completion.{Completion}
use Rattle.vr_device.specs.Side.{Side}
use Rattle.vr_device.specs.Device.{with_used}
use Rattle.vr_pair.specs.QueueLists.{QueueLists, numbered_chain, with_added, with_taken, with_used as lists_used, with_reclaimed}
use Rattle.vr_split_pair.specs.declared.chain.TakenChain.{TakenChain}
use Rattle.vr_split_pair.specs.Lies.{taken_of, without_taken}
use Rattle.vr_split_pair.specs.Split.{Sides, SplitStands}
use Rattle.vr_split_pair.specs.State.{IsStood}
use Rattle.vr_split_pair.proofs.Added.{CanAdd, added_sides, added_stands}
use Rattle.vr_split_pair.proofs.Taken.{front, taken_stands}
use Rattle.vr_split_pair.proofs.Finished.{Removed, used_sides, used_stands, unused_stands}
use Rattle.vr_split_pair.proofs.Reclaimed.{used_front, reclaimed_stands}
use Rattle.vr_split_pair.proofs.Safe.{WaitingOne, number_is, UsedOne, one_used, same_driver}

-- the entry of a place in a list, whatever stands for one past its end
pub same_entry : {X : Type 0} (xs : List X) (i : ℕ) (d e : X) → i < length xs → get_or xs i d ≡ get_or xs i e
same_entry [] i d e h = absurd (omega arith)
same_entry (x ∷ xs) zero d e h = refl
same_entry (x ∷ xs) (suc i) d e h = same_entry xs i d e (omega arith)

-- A CHAIN WAS ADDED

pub record IsAdded (s : Sides) (parts : List Part) (memory : Memory) (driver : DriverSide) (head count : ℕ) : Type 0 where
  pub memory_is : memory ≡ with_index (with_parts s.memory s.driver parts) (with_chain s.driver (length parts))
  pub driver_is : driver ≡ all_published (with_chain s.driver (length parts))
  pub head_is : head ≡ next_head s.driver (length parts)
  pub count_is : count ≡ length parts

pub moved_added : (s : Sides) (q : QueueLists) (parts : List Part) (memory : Memory) (driver : DriverSide) (head count : ℕ) → SplitStands s q → CanAdd s parts → IsAdded s parts memory driver head count
    → SplitStands (record s { memory = memory; driver = driver; numbers = set s.numbers head s.added; added = s.added + 1; placed = s.placed + count }) (with_added q parts)
moved_added s q parts memory driver head count h a is =
    let stands = added_stands s q parts h a in
    let first = subst (λ (n : ℕ). SplitStands (record (added_sides s parts) { placed = s.placed + n }) (with_added q parts)) (sym is.count_is) stands in
    let second = subst (λ (i : ℕ). SplitStands (record (added_sides s parts) { numbers = set s.numbers i s.added; placed = s.placed + count }) (with_added q parts)) (sym is.head_is) first in
    let third = subst (λ (d : DriverSide). SplitStands (record (added_sides s parts) { driver = d; numbers = set s.numbers head s.added; placed = s.placed + count }) (with_added q parts)) (sym is.driver_is) second in
    subst (λ (m : Memory). SplitStands (record (added_sides s parts) { memory = m; driver = driver; numbers = set s.numbers head s.added; placed = s.placed + count }) (with_added q parts)) (sym is.memory_is) third

-- THE FIRST THAT WAITED WAS TAKEN

pub record IsTaken (s : Sides) (found : Chain) (memory : Memory) (device : Side) (number : ℕ) (taken : List TakenChain) : Type 0 where
  pub memory_is : memory ≡ s.memory
  pub device_is : device ≡ record s.device { position = next16 s.device.position }
  pub number_is : number ≡ get_or s.numbers found.head 0
  pub taken_is : taken ≡ s.taken ++ record { number = number; head = found.head } ∷ []

pub moved_taken : (s : Sides) (q : QueueLists) (h : SplitStands s q) (found : Chain) (w : WaitingOne s q h found) (memory : Memory) (device : Side) (number : ℕ) (taken : List TakenChain) → IsTaken s found memory device number taken
    → SplitStands (record s { memory = memory; device = device; taken = taken }) (with_taken q w.chain w.rest)
moved_taken s q h found w memory device number taken is =
    let stands = taken_stands s q h w.chain w.rest w.first in
    let named : number ≡ w.chain.number = is.number_is ∙ number_is s q h found w in
    let all : taken ≡ s.taken ++ record { number = w.chain.number; head = first_of (front s q h w.chain w.rest w.first).descriptors } ∷ [] =
    is.taken_is
    ∙ ap (λ (n : ℕ). s.taken ++ record { number = n; head = found.head } ∷ []) named
    ∙ ap (λ (i : ℕ). s.taken ++ record { number = w.chain.number; head = i } ∷ []) w.head in
    let first = subst (λ (l : List TakenChain). SplitStands (record s { device = record s.device { position = next16 s.device.position }; taken = l }) (with_taken q w.chain w.rest)) (sym all) stands in
    let second = subst (λ (d : Side). SplitStands (record s { device = d; taken = taken }) (with_taken q w.chain w.rest)) (sym is.device_is) first in
    subst (λ (m : Memory). SplitStands (record s { memory = m; device = device; taken = taken }) (with_taken q w.chain w.rest)) (sym is.memory_is) second

-- A TAKEN CHAIN WAS USED

pub record IsUsed (s : Sides) (number : ℕ) (t : TakenChain) (len : ℕ) (memory : Memory) (device : Side) (taken : List TakenChain) : Type 0 where
  pub memory_is : memory ≡ with_used s.memory s.device t.head len
  pub device_is : device ≡ record s.device { used = next16 s.device.used }
  pub taken_is : taken ≡ without_taken number s.taken

pub moved_used : (s : Sides) (q : QueueLists) (h : SplitStands s q) (number len : ℕ) (t : TakenChain) (short : len < 2 ^ 32) (out : Removed s.driver.owners s.driver.announced s.numbers number t s.taken q.taken)
    (memory : Memory) (device : Side) (taken : List TakenChain) → IsUsed s number t len memory device taken → SplitStands (record s { memory = memory; device = device; taken = taken }) (lists_used q out.chain len)
moved_used s q h number len t short out memory device taken is =
    let stands = used_stands s q h number len t short out in
    let first = subst (λ (l : List TakenChain). SplitStands (record (used_sides s number t len) { taken = l }) (lists_used q out.chain len)) (sym is.taken_is) stands in
    let second = subst (λ (d : Side). SplitStands (record (used_sides s number t len) { device = d; taken = taken }) (lists_used q out.chain len)) (sym is.device_is) first in
    subst (λ (m : Memory). SplitStands (record s { memory = m; device = device; taken = taken }) (lists_used q out.chain len)) (sym is.memory_is) second

-- THE FIRST THAT WAS USED WAS RECLAIMED

pub moved_reclaimed : (s : Sides) (q : QueueLists) (h : SplitStands s q) (found : Completion) (u : UsedOne s q h found) (memory : Memory) (driver : DriverSide) → memory ≡ s.memory → driver ≡ without_chain s.driver found.head
    → SplitStands (record s { memory = memory; driver = driver }) (with_reclaimed q u.rest)
moved_reclaimed s q h found u memory driver same gone =
    let stands = reclaimed_stands s q h u.finished u.rest u.first in
    let at : driver ≡ without_chain s.driver (used_front s q h u.finished u.rest u.first).head = gone ∙ ap (without_chain s.driver) u.head in
    let first = subst (λ (d : DriverSide). SplitStands (record s { driver = d }) (with_reclaimed q u.rest)) (sym at) stands in
    subst (λ (m : Memory). SplitStands (record s { memory = m; driver = driver }) (with_reclaimed q u.rest)) (sym same) first

-- what holds of all parts holds of each
pub each-word : (ps : List Part) → All (λ (p : Part). p.at < 2 ^ 64) ps → (p : Part) → Among p ps → p.at < 2 ^ 64
each-word [] all p i = absurd i
each-word (x ∷ ps) all p (inl e) =
    let at : p.at ≡ x.at = ap (λ (y : Part). y.at) e in
    let low : x.at < 2 ^ 64 = all 0 p (omega arith) in
    omega (arith, at, low)
each-word (x ∷ ps) all p (inr i) = each-word ps (λ k d l. all (suc k) d (omega arith)) p i

-- and of one more
pub next_word : (ps : List Part) (i : ℕ) (e : Part) → i < length ps → (get_or ps i e).at < 2 ^ 64 → ((k : ℕ) (d : Part) → k < i → (get_or ps k d).at < 2 ^ 64) → (k : ℕ) (d : Part) → k < i + 1 → (get_or ps k d).at < 2 ^ 64
next_word ps i e inside low before k d h = elim (cases_lt k i) [
  | inl less ↦ before k d less
  | inr past ↦
      (let here : i ≡ k = omega (arith, h, past) in
      let value : (get_or ps i d).at ≡ (get_or ps i e).at = ap (λ (x : Part). x.at) (same_entry ps i d e inside) in
      let small : (get_or ps i d).at < 2 ^ 64 = omega (arith, value, low) in
      subst (λ (j : ℕ). (get_or ps j d).at < 2 ^ 64) here small)
]

-- a side that reclaims without event indices writes nothing
pub answer_same : (m : Memory) (s : DriverSide) (o : Option Completion) → with_answer m s false (Ok o) ≡ m
answer_same m s None = refl
answer_same m s (Some done) = refl

-- WHERE NOTHING CHANGED but how the sides are told

pub moved_unused : (s : Sides) (q : QueueLists) (number : ℕ) (taken : List TakenChain) → taken_of number s.taken ≡ None → taken ≡ without_taken number s.taken → SplitStands s q
    → (numbered_chain number q.taken ≡ None) × SplitStands (record s { taken = taken }) q
moved_unused s q number taken none is h =
    let u = unused_stands s q number none h in
    (u.0, subst (λ (l : List TakenChain). SplitStands (record s { taken = l }) q) (sym is) u.1)

pub reclaimed_place : (d : DriverSide) (o : Option Completion) → (side_after d (Ok o)).place ≡ d.place
reclaimed_place d None = refl
reclaimed_place d (Some done) = refl

-- what stands after a completion was looked for
pub stood_reclaimed : (s : Sides) (o : Option Completion) (memory : Memory) (driver : DriverSide) → next_completion s.memory s.driver ≡ Ok o → driver ≡ side_after s.driver (Ok o) → memory ≡ s.memory → IsStood s
    → IsStood (record s { memory = memory; driver = driver })
stood_reclaimed s None memory driver test after same r = record { lists = r.lists; stands = same_driver s memory driver r.lists same after r.stands }
stood_reclaimed s (Some found) memory driver test after same r =
    let u = one_used s r.lists r.stands found test in
    record { lists = with_reclaimed r.lists u.rest; stands = moved_reclaimed s r.lists r.stands found u memory driver same after }
