-- The loops over the parts of a chain.
use Rattle.std.proofs.Common.{◌≡◌, ℕ, zero, suc, ◌+◌, ◌<◌, ◌≤◌, ◌==◌, nat_lt, Bool, true, false, not, List, [], ◌∷◌, ◌++◌, length, take, drop, get_or, refl, sym, ap, subst, ◌∙◌, inl, inr, append_assoc, arith}
use Rattle.std.proofs.Math.Seq.{drop-cons, take-suc}
use Rattle.std.proofs.lemmas.Bool.Decides.{nat_tests}
use Rattle.std.proofs.lemmas.Bool.{cases_lt}
use Rattle.std.proofs.lemmas.Grind.{common_steps}
use Rattle.vd_model.specs.declared.parts.Part.{Part}
use Rattle.vr_slots.specs.declared.slot.Slot.{Slot}
use Rattle.vr_slots.specs.Slots.{slot_flags, wrap_of, slot_at, with_slot, slot_goes_on, slot_is_writable}
use Rattle.vr_packed.specs.Lies.{is_more, waiting_slot, ChainLies, chain_written, one_if, occurs}
use Rattle.vr_packed.proofs.FlagTests.{reads_back}
use Rattle.vr_packed.proofs.Records.{occurs-snoc}

abbrev pub no_part : Part
no_part = record { at = 0; len = 0; writable = false }

is_more-drop : (ps : List Part) (k : ℕ) → is_more (drop k ps) ≡ nat_lt k (length ps)
is_more-drop [] zero = refl
is_more-drop [] (suc k) = grind (arith, nat_tests)
is_more-drop (p ∷ ps) zero = grind (arith, nat_tests)
is_more-drop (p ∷ ps) (suc k) =
    let rest : is_more (drop k ps) ≡ nat_lt k (length ps) = is_more-drop ps k in
    let same : nat_lt k (length ps) ≡ nat_lt (suc k) (suc (length ps)) = grind (arith, nat_tests) in
    rest ∙ same

-- a part's descriptor with flags given as a number
abbrev flagged : Part → ℕ → ℕ → Slot
flagged p id flags = record { at = p.at; len = p.len; id = id; flags = flags }

-- one more part is written
pub write-more : (slots next : List Slot) (place id : ℕ) (ps : List Part) (i flags : ℕ) (p : Part) (wrap : Bool)
    → i < length ps → p ≡ get_or ps i no_part → wrap ≡ wrap_of (length slots) (place + i) → flags ≡ slot_flags (nat_lt (i + 1) (length ps)) p.writable wrap (not wrap)
    → next ≡ with_slot slots (place + i) (flagged p id flags)
    → chain_written next (place + (i + 1)) id (drop (i + 1) ps) ≡ chain_written slots (place + i) id (drop i ps)
write-more slots next place id ps i flags p wrap h here wraps marks set_to =
    let rest : List Part = drop (suc i) ps in
    let front : drop i ps ≡ p ∷ rest = drop-cons ps i no_part h ∙ ap (λ (x : Part). x ∷ rest) (sym here) in
    let last : suc i ≡ i + 1 = omega arith in
    let more : is_more rest ≡ nat_lt (i + 1) (length ps) = is_more-drop ps (suc i) ∙ ap (λ (k : ℕ). nat_lt k (length ps)) last in
    let exact = wrap_of (length slots) (place + i) in
    let same : waiting_slot id p (is_more rest) exact ≡ flagged p id flags =
    ap (λ (b : Bool). waiting_slot id p b exact) more
    ∙ (ap (λ (w : Bool). waiting_slot id p (nat_lt (i + 1) (length ps)) w) (sym wraps) ∙ ap (λ (f : ℕ). flagged p id f) (sym marks)) in
    let written : chain_written slots (place + i) id (p ∷ rest) ≡ chain_written next (place + i + 1) id rest =
    ap (λ (s : Slot). chain_written (with_slot slots (place + i) s) (place + i + 1) id rest) same
    ∙ ap (λ (l : List Slot). chain_written l (place + i + 1) id rest) (sym set_to) in
    let on : place + i + 1 ≡ place + (i + 1) = omega arith in
    sym (ap (chain_written slots (place + i) id) front ∙ written ∙ ap (λ (k : ℕ). chain_written next k id rest) on ∙ ap (λ (k : ℕ). chain_written next (place + (i + 1)) id (drop k ps)) last)

-- all parts are written
pub write-all : (slots : List Slot) (place id : ℕ) (ps : List Part) (i : ℕ) → length ps ≤ i → chain_written slots (place + i) id (drop i ps) ≡ slots
write-all slots place id ps i h =
    let none : drop i ps ≡ [] = grind (arith, common_steps) in
    ap (chain_written slots (place + i) id) none

abbrev pub part_with : Part → Bool → Part
part_with p writable = record { at = p.at; len = p.len; writable = writable }

-- the part that a descriptor says
abbrev pub record_part : Slot → Part
record_part s = record { at = s.at; len = s.len; writable = slot_is_writable s }

-- what a descriptor says of the part that it was written for
pub record ReadPart (slots : List Slot) (place id : ℕ) (ps : List Part) (i : ℕ) : Type 0 where
  pub part : record_part (slot_at slots (place + i)) ≡ get_or ps i no_part
  pub id_is : (slot_at slots (place + i)).id ≡ id
  pub more : slot_goes_on (slot_at slots (place + i)) ≡ nat_lt (i + 1) (length ps)
  pub rest : ChainLies slots (place + (i + 1)) id (drop (i + 1) ps)

pub read_part : (slots : List Slot) (place id : ℕ) (ps : List Part) (i : ℕ) → i < length ps → ChainLies slots (place + i) id (drop i ps) → ReadPart slots place id ps i
read_part slots place id ps i h lies =
    let p = get_or ps i no_part in
    let rest : List Part = drop (suc i) ps in
    let front : drop i ps ≡ p ∷ rest = drop-cons ps i no_part h in
    let last : suc i ≡ i + 1 = omega arith in
    let on : place + i + 1 ≡ place + (i + 1) = omega arith in
    let both : ChainLies slots (place + i) id (p ∷ rest) = subst (ChainLies slots (place + i) id) front lies in
    let wrap = wrap_of (length slots) (place + i) in
    let back = reads_back (is_more rest) p.writable wrap (not wrap) in
    record {
      part = ap record_part both.0 ∙ ap (λ (b : Bool). part_with p b) back.of_writable;
      id_is = ap (λ (s : Slot). s.id) both.0;
      more = ap slot_goes_on both.0 ∙ back.of_next ∙ is_more-drop ps (suc i) ∙ ap (λ (k : ℕ). nat_lt k (length ps)) last;
      rest = subst (λ (k : ℕ). ChainLies slots (place + (i + 1)) id (drop k ps)) last (subst (λ (k : ℕ). ChainLies slots k id rest) on both.1);
    }

-- one more part is read
pub read-more : (into next read : List Part) (ps : List Part) (i : ℕ) (p : Part) → i < length ps → p ≡ get_or ps i no_part → read ≡ into ++ take i ps → next ≡ read ++ p ∷ [] → next ≡ into ++ take (i + 1) ps
read-more into next read ps i p h here before after =
    let last : suc i ≡ i + 1 = omega arith in
    let longer : take (suc i) ps ≡ take i ps ++ (get_or ps i no_part ∷ []) = take-suc ps i no_part h in
    let joined : (into ++ take i ps) ++ (get_or ps i no_part ∷ []) ≡ into ++ (take i ps ++ (get_or ps i no_part ∷ [])) = append_assoc into (take i ps) (get_or ps i no_part ∷ []) in
    after ∙ (ap (λ (l : List Part). l ++ p ∷ []) before ∙ (ap (λ (x : Part). (into ++ take i ps) ++ (x ∷ [])) here
    ∙ (joined ∙ (ap (λ (l : List Part). into ++ l) (sym longer) ∙ ap (λ (k : ℕ). into ++ take k ps) last))))

-- IDS

one_more : (n d : ℕ) → one_if (n == d) + one_if (nat_lt d n) ≡ one_if (nat_lt d (n + 1))
one_more n d = elim (cases_lt d n) [
  | inl below ↦
      (let first : nat_lt d n ≡ true = grind (arith, nat_tests) in
      let second : nat_lt d (n + 1) ≡ true = grind (arith, nat_tests) in
      let other : (n == d) ≡ false = grind (arith, nat_tests) in
      rw (first, second, other) refl)
  | inr above ↦ elim (cases_lt n d) [
    | inl past ↦
        (let first : nat_lt d n ≡ false = grind (arith, nat_tests) in
        let second : nat_lt d (n + 1) ≡ false = grind (arith, nat_tests) in
        let other : (n == d) ≡ false = grind (arith, nat_tests) in
        rw (first, second, other) refl)
    | inr at ↦
        (let first : nat_lt d n ≡ false = grind (arith, nat_tests) in
        let second : nat_lt d (n + 1) ≡ true = grind (arith, nat_tests) in
        let same : (n == d) ≡ true = grind (arith, nat_tests) in
        rw (first, second, same) refl)
  ]
]

-- one more id
pub ids-more : (ids : List ℕ) (n : ℕ) → ((d : ℕ) → occurs d ids ≡ one_if (nat_lt d n)) → (d : ℕ) → occurs d (ids ++ n ∷ []) ≡ one_if (nat_lt d (n + 1))
ids-more ids n h d = occurs-snoc d ids n ∙ (ap (λ (k : ℕ). one_if (n == d) + k) (h d) ∙ one_more n d)

-- by the test of whether a chain goes on
pub next_is : (i : ℕ) (ps : List Part) → nat_lt (i + 1) (length ps) ≡ true → i + 1 < length ps
next_is i ps h = elim (cases_lt (i + 1) (length ps)) [
  | inl below ↦ below
  | inr past ↦
      (let test : nat_lt (i + 1) (length ps) ≡ false = grind (arith, nat_tests) in
      absurd (cc (sym test ∙ h)))
]

pub ends_is : (i : ℕ) (ps : List Part) → nat_lt (i + 1) (length ps) ≡ false → length ps ≤ i + 1
ends_is i ps h = elim (cases_lt (i + 1) (length ps)) [
  | inl below ↦
      (let test : nat_lt (i + 1) (length ps) ≡ true = grind (arith, nat_tests) in
      absurd (cc (sym test ∙ h)))
  | inr past ↦ past
]
