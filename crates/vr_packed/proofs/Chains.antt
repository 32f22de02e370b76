-- Chains in a ring: what keeps them, and how a further one is written.
use Rattle.std.proofs.Common.{◌≡◌, ℕ, suc, ◌+◌, ◌%◌, ◌<◌, ◌≤◌, List, [], ◌∷◌, ◌++◌, length, refl, sym, ap, subst, ◌∙◌, arith}
use Rattle.vd_model.specs.declared.parts.Part.{Part}
use Rattle.vr_pair.specs.QueueLists.{NumberedChain, FinishedChain, count_parts, finished_chains}
use Rattle.vr_slots.specs.declared.slot.Slot.{Slot}
use Rattle.vr_slots.specs.Slots.{wrap_of, slot_at, with_slot}
use Rattle.vr_packed.specs.Lies.{is_more, waiting_slot, used_slot, ChainLies, Waits, UsedLie, chain_written}
use Rattle.vr_packed.proofs.Places.{apart, length-with_slot, slot-here, slot-other}

-- two rings of a size are alike in n places from one on
pub record AreAlike (old new : List Slot) (place n : ℕ) : Type 0 where
  pub len : length new ≡ length old
  pub same : (p : ℕ) → place ≤ p → p < place + n → slot_at new p ≡ slot_at old p

part-alike : (old new : List Slot) (place n from m : ℕ) → place ≤ from → from + m ≤ place + n → AreAlike old new place n → AreAlike old new from m
part-alike old new place n from m low high a = record { len = a.len; same = λ p l u. a.same p (omega arith) (omega arith) }

pub chain-kept : (old new : List Slot) (place id : ℕ) (ps : List Part) → AreAlike old new place (length ps) → ChainLies old place id ps → ChainLies new place id ps
chain-kept old new place id [] a h = tt
chain-kept old new place id (p ∷ ps) a h = (
  a.same place (omega arith) (omega arith) ∙ h.0 ∙ ap (λ (n : ℕ). waiting_slot id p (is_more ps) (wrap_of n place)) (sym a.len),
  chain-kept old new (place + 1) id ps (part-alike old new place (suc (length ps)) (place + 1) (length ps) (omega arith) (omega arith) a) h.1,
)

pub waits-kept : (old new : List Slot) (place number : ℕ) (cs : List NumberedChain) (ids : List ℕ) → AreAlike old new place (count_parts cs) → Waits old place number cs ids → Waits new place number cs ids
waits-kept old new place number [] [] a h = tt
waits-kept old new place number [] (id ∷ ids) a h = h
waits-kept old new place number (c ∷ cs) [] a h = h
waits-kept old new place number (c ∷ cs) (id ∷ ids) a h =
    let n : ℕ = length c.parts + count_parts cs in (
      h.0,
      h.1,
      chain-kept old new place id c.parts (part-alike old new place n place (length c.parts) (omega arith) (omega arith) a) h.2,
      waits-kept old new (place + length c.parts) (number + 1) cs ids (part-alike old new place n (place + length c.parts) (count_parts cs) (omega arith) (omega arith) a) h.3,
    )

pub uses-kept : (old new : List Slot) (place : ℕ) (fs : List FinishedChain) (ids : List ℕ) → AreAlike old new place (count_parts (finished_chains fs)) → UsedLie old place fs ids → UsedLie new place fs ids
uses-kept old new place [] [] a h = tt
uses-kept old new place [] (id ∷ ids) a h = h
uses-kept old new place (f ∷ fs) [] a h = h
uses-kept old new place (f ∷ fs) (id ∷ ids) a h =
    let n : ℕ = length f.chain.parts + count_parts (finished_chains fs) in
    let some : 0 < length f.chain.parts = h.1 in (
      a.same place (omega arith) (omega arith) ∙ h.0 ∙ ap (λ (k : ℕ). used_slot id f.len (wrap_of k place)) (sym a.len),
      h.1,
      uses-kept old new (place + length f.chain.parts) fs ids (part-alike old new place n (place + length f.chain.parts) (count_parts (finished_chains fs)) (omega arith) (omega arith) a) h.2,
    )

-- one more chain behind those that wait
pub waits-snoc : (slots : List Slot) (place number : ℕ) (cs : List NumberedChain) (ids : List ℕ) (c : NumberedChain) (id : ℕ)
    → c.number ≡ number + length cs → 0 < length c.parts → ChainLies slots (place + count_parts cs) id c.parts → Waits slots place number cs ids
    → Waits slots place number (cs ++ c ∷ []) (ids ++ id ∷ [])
waits-snoc slots place number [] [] c id e some lies h =
    let here : place + 0 ≡ place = omega arith in
    let first : c.number ≡ number = omega arith in
    (first, some, subst (λ (p : ℕ). ChainLies slots p id c.parts) here lies, tt)
waits-snoc slots place number [] (i ∷ is) c id e some lies h = absurd h
waits-snoc slots place number (x ∷ xs) [] c id e some lies h = absurd h
waits-snoc slots place number (x ∷ xs) (i ∷ is) c id e some lies h =
    let on : place + (length x.parts + count_parts xs) ≡ place + length x.parts + count_parts xs = omega arith in
    let next : c.number ≡ number + 1 + length xs = omega arith in
    (h.0, h.1, h.2, waits-snoc slots (place + length x.parts) (number + 1) xs is c id next some (subst (λ (p : ℕ). ChainLies slots p id c.parts) on lies) h.3)

-- and one more behind those that were used
pub uses-snoc : (slots : List Slot) (place : ℕ) (fs : List FinishedChain) (ids : List ℕ) (f : FinishedChain) (id : ℕ)
    → 0 < length f.chain.parts → slot_at slots (place + count_parts (finished_chains fs)) ≡ used_slot id f.len (wrap_of (length slots) (place + count_parts (finished_chains fs)))
    → UsedLie slots place fs ids → UsedLie slots place (fs ++ f ∷ []) (ids ++ id ∷ [])
uses-snoc slots place [] [] f id some lies h =
    let here : place + 0 ≡ place = omega arith in
    (subst (λ (p : ℕ). slot_at slots p ≡ used_slot id f.len (wrap_of (length slots) p)) here lies, some, tt)
uses-snoc slots place [] (i ∷ is) f id some lies h = absurd h
uses-snoc slots place (x ∷ xs) [] f id some lies h = absurd h
uses-snoc slots place (x ∷ xs) (i ∷ is) f id some lies h =
    let on : place + (length x.chain.parts + count_parts (finished_chains xs)) ≡ place + length x.chain.parts + count_parts (finished_chains xs) = omega arith in
    (h.0, h.1, uses-snoc slots (place + length x.chain.parts) xs is f id some (subst (λ (p : ℕ). slot_at slots p ≡ used_slot id f.len (wrap_of (length slots) p)) on lies) h.2)

pub count-snoc : (cs : List NumberedChain) (c : NumberedChain) → count_parts (cs ++ c ∷ []) ≡ count_parts cs + length c.parts
count-snoc [] c = omega arith
count-snoc (x ∷ xs) c = let rest = count-snoc xs c in omega (arith, rest)

pub finished-snoc : (fs : List FinishedChain) (f : FinishedChain) → finished_chains (fs ++ f ∷ []) ≡ finished_chains fs ++ f.chain ∷ []
finished-snoc [] f = refl
finished-snoc (x ∷ xs) f = ap (λ (l : List NumberedChain). x.chain ∷ l) (finished-snoc xs f)

-- A CHAIN IS WRITTEN

pub length-chain_written : (slots : List Slot) (place id : ℕ) (ps : List Part) → length (chain_written slots place id ps) ≡ length slots
length-chain_written slots place id [] = refl
length-chain_written slots place id (p ∷ ps) =
    let s = waiting_slot id p (is_more ps) (wrap_of (length slots) place) in
    length-chain_written (with_slot slots place s) (place + 1) id ps ∙ length-with_slot slots place s

-- what stands in slots of no part stays
pub written-other : (slots : List Slot) (place id : ℕ) (ps : List Part) (p : ℕ) → ((q : ℕ) → place ≤ q → q < place + length ps → p % length slots ≡ q % length slots → ⊥)
    → slot_at (chain_written slots place id ps) p ≡ slot_at slots p
written-other slots place id [] p other = refl
written-other slots place id (x ∷ ps) p other =
    let s = waiting_slot id x (is_more ps) (wrap_of (length slots) place) in
    let len = length-with_slot slots place s in
    written-other (with_slot slots place s) (place + 1) id ps p (λ q l u e. other q (omega arith) (omega arith) (subst (λ (n : ℕ). p % n ≡ q % n) len e))
    ∙ slot-other slots place p s (other place (omega arith) (omega arith))

-- and the chain stands there, where it is no longer than the ring
pub written-lies : (slots : List Slot) (place id : ℕ) (ps : List Part) → 0 < length slots → length ps ≤ length slots → ChainLies (chain_written slots place id ps) place id ps
written-lies slots place id [] some fits = tt
written-lies slots place id (x ∷ ps) some fits =
    let s = waiting_slot id x (is_more ps) (wrap_of (length slots) place) in
    let first = with_slot slots place s in
    let len : length first ≡ length slots = length-with_slot slots place s in
    let all : length (chain_written first (place + 1) id ps) ≡ length first = length-chain_written first (place + 1) id ps in
    let stays : slot_at (chain_written first (place + 1) id ps) place ≡ slot_at first place =
    written-other first (place + 1) id ps place (λ q l u e. apart (length first) place q (omega arith) (omega arith) (omega arith) e) in (
      stays ∙ slot-here slots place s some ∙ ap (λ (n : ℕ). waiting_slot id x (is_more ps) (wrap_of n place)) (sym (all ∙ len)),
      written-lies first (place + 1) id ps (omega arith) (omega arith),
    )
