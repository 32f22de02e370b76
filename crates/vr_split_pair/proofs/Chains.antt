-- Chains of a ring: what keeps them, one more of them, and the first of them.
use Rattle.std.proofs.Common.{◌≡◌, ℕ, suc, ◌+◌, ◌*◌, ◌^◌, ◌<◌, ◌≤◌, ◌==◌, Bool, true, false, List, [], ◌∷◌, ◌++◌, length, get_or, Option, Some, None, Ok, refl, sym, ap, subst, ◌∙◌, inl, inr, arith}
use Rattle.vd_model.specs.Memory.{Memory, read}
use Rattle.vd_model.specs.Rings.{available_slot_at, used_element_at}
use Rattle.vd_model.specs.RingTurns.{first_of}
use Rattle.vd_model.specs.declared.queue.RingPlace.{RingPlace}
use Rattle.vd_laws.specs.Among.{Among}
use Rattle.vr_device.specs.Device.{element_bytes}
use Rattle.vr_pair.specs.QueueLists.{NumberedChain, FinishedChain, count_parts, finished_chains}
use Rattle.vr_split_pair.specs.declared.chain.TakenChain.{TakenChain}
use Rattle.vr_split_pair.specs.Lies.{WaitsAt, Waits, UsedLie, held_by, IsKnown, Known, AreTaken, heads_of, taken_heads, one_if, occurs}
use Rattle.vr_split_pair.proofs.Owners.{either, same-number, same-test}
use Rattle.vr_split_pair.proofs.Tables.{linked-kept}

-- WHAT KEEPS chains that wait

-- the slots of some indices and the entries of some heads' descriptors are read as before, and those heads own what they did
pub record IsKept (m m' : Memory) (r : RingPlace) (owners owners' : List (Option ℕ)) (heads : List ℕ) (index n : ℕ) : Type 0 where
  pub slots : (k : ℕ) → index ≤ k → k < index + n → read m' (available_slot_at r k) 2 ≡ read m (available_slot_at r k) 2
  pub tables : (d head : ℕ) → d < r.size → Among head heads → get_or owners d None ≡ Some head → read m' (r.desc + 16 * d) 16 ≡ read m (r.desc + 16 * d) 16
  pub owned : (d head : ℕ) → Among head heads → get_or owners d None ≡ Some head → get_or owners' d None ≡ Some head

pub waits-kept : (m m' : Memory) (r : RingPlace) (owners owners' : List (Option ℕ)) (index : ℕ) (cs : List NumberedChain) (dss : List (List ℕ))
    → IsKept m m' r owners owners' (heads_of dss) index (length cs) → Waits m r owners index cs dss → Waits m' r owners' index cs dss
waits-kept m m' r owners owners' index [] [] k h = tt
waits-kept m m' r owners owners' index [] (ds ∷ dss) k h = h
waits-kept m m' r owners owners' index (c ∷ cs) [] k h = h
waits-kept m m' r owners owners' index (c ∷ cs) (ds ∷ dss) k h =
    let first : WaitsAt m r owners index c ds = h.0 in
    let w = first.written in
    let rest : IsKept m m' r owners owners' (heads_of dss) (index + 1) (length cs) = record {
      slots = λ j low high. k.slots j (omega arith) (omega arith);
      tables = λ d head low i e. k.tables d head low (inr i) e;
      owned = λ d head i e. k.owned d head (inr i) e;
    } in
    let stays : WaitsAt m' r owners' index c ds = record {
      slot = k.slots index (omega arith) (omega arith) ∙ first.slot;
      written = record {
        linked = linked-kept m m' r c.parts ds (λ d there. k.tables d (first_of ds) (w.low d there) (inl refl) (first.owned d there)) w.linked;
        distinct = w.distinct;
        low = w.low;
        size = w.size;
        ends = w.ends;
        words = w.words;
        ordered = w.ordered;
        short = w.short;
      };
      owned = λ d there. k.owned d (first_of ds) (inl refl) (first.owned d there);
    } in
    (stays, waits-kept m m' r owners owners' (index + 1) cs dss rest h.1)

pub waits-snoc : (m : Memory) (r : RingPlace) (owners : List (Option ℕ)) (index at : ℕ) (cs : List NumberedChain) (dss : List (List ℕ)) (c : NumberedChain) (ds : List ℕ)
    → at ≡ index + length cs → WaitsAt m r owners at c ds → Waits m r owners index cs dss → Waits m r owners index (cs ++ c ∷ []) (dss ++ ds ∷ [])
waits-snoc m r owners index at [] [] c ds e w h =
    let here : at ≡ index = omega arith in
    (subst (λ (i : ℕ). WaitsAt m r owners i c ds) here w, tt)
waits-snoc m r owners index at [] (x ∷ dss) c ds e w h = absurd h
waits-snoc m r owners index at (x ∷ cs) [] c ds e w h = absurd h
waits-snoc m r owners index at (x ∷ cs) (y ∷ dss) c ds e w h = (h.0, waits-snoc m r owners (index + 1) at cs dss c ds (omega arith) w h.1)

-- USED ELEMENTS

pub uses-kept : (m m' : Memory) (r : RingPlace) (index : ℕ) (fs : List FinishedChain) (heads : List ℕ)
    → ((k : ℕ) → index ≤ k → k < index + length fs → read m' (used_element_at r k) 8 ≡ read m (used_element_at r k) 8) → UsedLie m r index fs heads → UsedLie m' r index fs heads
uses-kept m m' r index [] [] same h = tt
uses-kept m m' r index [] (x ∷ heads) same h = h
uses-kept m m' r index (f ∷ fs) [] same h = h
uses-kept m m' r index (f ∷ fs) (x ∷ heads) same h = (
  same index (omega arith) (omega arith) ∙ h.0,
  h.1,
  uses-kept m m' r (index + 1) fs heads (λ k low high. same k (omega arith) (omega arith)) h.2,
)

pub uses-snoc : (m : Memory) (r : RingPlace) (index at : ℕ) (fs : List FinishedChain) (heads : List ℕ) (f : FinishedChain) (head : ℕ)
    → at ≡ index + length fs → read m (used_element_at r at) 8 ≡ Ok (element_bytes head f.len) → f.len < 2 ^ 32 → UsedLie m r index fs heads → UsedLie m r index (fs ++ f ∷ []) (heads ++ head ∷ [])
uses-snoc m r index at [] [] f head e lies small h =
    let here : at ≡ index = omega arith in
    (subst (λ (i : ℕ). read m (used_element_at r i) 8 ≡ Ok (element_bytes head f.len)) here lies, small, tt)
uses-snoc m r index at [] (x ∷ heads) f head e lies small h = absurd h
uses-snoc m r index at (x ∷ fs) [] f head e lies small h = absurd h
uses-snoc m r index at (x ∷ fs) (y ∷ heads) f head e lies small h = (h.0, h.1, uses-snoc m r (index + 1) at fs heads f head (omega arith) lies small h.2)

-- WHAT IS KNOWN of chains

-- what is known by a head stays
pub record HeadStays (owners owners' : List (Option ℕ)) (announced announced' : List Bool) (numbers numbers' : List ℕ) (head : ℕ) : Type 0 where
  pub owner : get_or owners' head None ≡ Some head
  pub told : get_or announced' head false ≡ true
  pub number : get_or numbers' head 0 ≡ get_or numbers head 0
  pub count : held_by head owners' ≡ held_by head owners

pub known-kept : (owners owners' : List (Option ℕ)) (announced announced' : List Bool) (numbers numbers' : List ℕ) (cs : List NumberedChain) (heads : List ℕ)
    → ((head : ℕ) → Among head heads → get_or owners head None ≡ Some head → get_or announced head false ≡ true → HeadStays owners owners' announced announced' numbers numbers' head)
    → Known owners announced numbers cs heads → Known owners' announced' numbers' cs heads
known-kept owners owners' announced announced' numbers numbers' [] [] stays h = tt
known-kept owners owners' announced announced' numbers numbers' [] (x ∷ heads) stays h = h
known-kept owners owners' announced announced' numbers numbers' (c ∷ cs) [] stays h = h
known-kept owners owners' announced announced' numbers numbers' (c ∷ cs) (x ∷ heads) stays h =
    let first : IsKnown owners announced numbers c x = h.0 in
    let k = stays x (inl refl) first.owner first.told in
    let now : IsKnown owners' announced' numbers' c x = record {
      owner = k.owner;
      told = k.told;
      number = k.number ∙ first.number;
      count = k.count ∙ first.count;
      some = first.some;
    } in
    (now, known-kept owners owners' announced announced' numbers numbers' cs heads (λ head i e f. stays head (inr i) e f) h.1)

pub known-snoc : (owners : List (Option ℕ)) (announced : List Bool) (numbers : List ℕ) (cs : List NumberedChain) (heads : List ℕ) (c : NumberedChain) (head : ℕ)
    → IsKnown owners announced numbers c head → Known owners announced numbers cs heads → Known owners announced numbers (cs ++ c ∷ []) (heads ++ head ∷ [])
known-snoc owners announced numbers [] [] c head k h = (k, tt)
known-snoc owners announced numbers [] (x ∷ heads) c head k h = absurd h
known-snoc owners announced numbers (y ∷ cs) [] c head k h = absurd h
known-snoc owners announced numbers (y ∷ cs) (x ∷ heads) c head k h = (h.0, known-snoc owners announced numbers cs heads c head k h.1)

-- as many chains as heads, and no more of them than parts
pub known-few : (owners : List (Option ℕ)) (announced : List Bool) (numbers : List ℕ) (cs : List NumberedChain) (heads : List ℕ) → Known owners announced numbers cs heads → length cs ≤ count_parts cs
known-few owners announced numbers [] [] h = omega arith
known-few owners announced numbers [] (x ∷ heads) h = absurd h
known-few owners announced numbers (c ∷ cs) [] h = absurd h
known-few owners announced numbers (c ∷ cs) (x ∷ heads) h =
    let some = h.0.some in
    let rest = known-few owners announced numbers cs heads h.1 in
    omega (arith, some, rest)

-- a number that is no owner is no head
pub known-absent : (owners : List (Option ℕ)) (announced : List Bool) (numbers : List ℕ) (cs : List NumberedChain) (heads : List ℕ) (d : ℕ) → Known owners announced numbers cs heads → get_or owners d None ≡ None → occurs d heads ≡ 0
known-absent owners announced numbers [] [] d h e = refl
known-absent owners announced numbers [] (x ∷ heads) d h e = absurd h
known-absent owners announced numbers (c ∷ cs) [] d h e = absurd h
known-absent owners announced numbers (c ∷ cs) (x ∷ heads) d h e =
    let rest = known-absent owners announced numbers cs heads d h.1 e in
    elim (either (x == d)) [
      | inl same ↦
          (let is : x ≡ d = same-test x d same in
          let owner : get_or owners x None ≡ Some x = h.0.owner in
          let none : get_or owners x None ≡ None = ap (λ (k : ℕ). get_or owners k None) is ∙ e in
          absurd (cc (owner, none)))
      | inr other ↦ (let zero : one_if (x == d) ≡ 0 = ap one_if other in omega (arith, zero, rest))
    ]

-- HEADS

pub heads-snoc : (dss : List (List ℕ)) (ds : List ℕ) → heads_of (dss ++ ds ∷ []) ≡ heads_of dss ++ first_of ds ∷ []
heads-snoc [] ds = refl
heads-snoc (x ∷ dss) ds = ap (λ (l : List ℕ). first_of x ∷ l) (heads-snoc dss ds)

pub taken_heads-snoc : (ts : List TakenChain) (t : TakenChain) → taken_heads (ts ++ t ∷ []) ≡ taken_heads ts ++ t.head ∷ []
taken_heads-snoc [] t = refl
taken_heads-snoc (x ∷ ts) t = ap (λ (l : List ℕ). x.head ∷ l) (taken_heads-snoc ts t)

pub occurs-snoc : (d : ℕ) (xs : List ℕ) (x : ℕ) → occurs d (xs ++ x ∷ []) ≡ one_if (x == d) + occurs d xs
occurs-snoc d [] x = refl
occurs-snoc d (y ∷ ys) x = let rest = occurs-snoc d ys x in omega (arith, rest)

pub one-same : (d : ℕ) → one_if (d == d) ≡ 1
one-same d = ap one_if (same-number d d refl)

pub occurs-among : (d : ℕ) (xs : List ℕ) → Among d xs → 1 ≤ occurs d xs
occurs-among d [] h = absurd h
occurs-among d (x ∷ xs) (inl e) =
    let one : one_if (x == d) ≡ 1 = ap one_if (same-number x d (sym e)) in
    omega (arith, one)
occurs-among d (x ∷ xs) (inr h) = let rest = occurs-among d xs h in omega (arith, rest)

-- a number that isn't in a list differs from those that are
pub others-differ : (d x : ℕ) (xs : List ℕ) → occurs d xs ≡ 0 → Among x xs → x ≡ d → ⊥
others-differ d x xs none h e = let one = occurs-among d xs (subst (λ (k : ℕ). Among k xs) e h) in omega (arith, none, one)

-- LISTS OF CHAINS

pub length-snoc : {X : Type 0} (xs : List X) (x : X) → length (xs ++ x ∷ []) ≡ suc (length xs)
length-snoc [] x = refl
length-snoc (y ∷ xs) x = ap suc (length-snoc xs x)

pub count-snoc : (cs : List NumberedChain) (c : NumberedChain) → count_parts (cs ++ c ∷ []) ≡ count_parts cs + length c.parts
count-snoc [] c = omega arith
count-snoc (x ∷ cs) c = let rest = count-snoc cs c in omega (arith, rest)

pub finished-snoc : (fs : List FinishedChain) (f : FinishedChain) → finished_chains (fs ++ f ∷ []) ≡ finished_chains fs ++ f.chain ∷ []
finished-snoc [] f = refl
finished-snoc (x ∷ fs) f = ap (λ (l : List NumberedChain). x.chain ∷ l) (finished-snoc fs f)

pub length-finished : (fs : List FinishedChain) → length (finished_chains fs) ≡ length fs
length-finished [] = refl
length-finished (f ∷ fs) = ap suc (length-finished fs)

pub takes-snoc : (ts : List TakenChain) (cs : List NumberedChain) (t : TakenChain) (c : NumberedChain) → t.number ≡ c.number → AreTaken ts cs → AreTaken (ts ++ t ∷ []) (cs ++ c ∷ [])
takes-snoc [] [] t c e h = (e, tt)
takes-snoc [] (x ∷ cs) t c e h = absurd h
takes-snoc (y ∷ ts) [] t c e h = absurd h
takes-snoc (y ∷ ts) (x ∷ cs) t c e h = (h.0, takes-snoc ts cs t c e h.1)

pub takes-len : (ts : List TakenChain) (cs : List NumberedChain) → AreTaken ts cs → length ts ≡ length cs
takes-len [] [] h = refl
takes-len [] (c ∷ cs) h = absurd h
takes-len (t ∷ ts) [] h = absurd h
takes-len (t ∷ ts) (c ∷ cs) h = ap suc (takes-len ts cs h.1)
