-- A queue to which nothing was added.
use Rattle.std.proofs.Common.{◌≡◌, ℕ, ◌+◌, ◌/◌, ◌%◌, ◌<◌, ◌≤◌, ◌==◌, nat_lt, true, not, List, [], length, replicate, get_or, refl, sym, ap, subst, ◌∙◌, arith}
use Rattle.std.proofs.Math.Nat.{mod-lt, div-eq_of_lt}
use Rattle.std.proofs.lemmas.List.{get_or-replicate, length-replicate}
use Rattle.vr_pair.specs.QueueLists.{empty_lists}
use Rattle.vr_slots.specs.declared.slot.Slot.{Slot}
use Rattle.vr_slots.specs.Slots.{empty_slot, wrap_of, slot_at, has_available}
use Rattle.vr_packed.specs.declared.chain.ChainRecord.{ChainRecord}
use Rattle.vr_packed.specs.declared.chain.TakenChain.{TakenChain}
use Rattle.vr_packed.specs.Lies.{one_if, occurs}
use Rattle.vr_packed.specs.Packed.{Sides, PackedStands}

abbrev pub fresh_sides : ℕ → List ℕ → List ChainRecord → Sides
fresh_sides n free records = record { slots = replicate n empty_slot; placed = 0; reclaimed = 0; added = 0; free = free; records = records; read = 0; written = 0; given = 0; taken = [] }

fresh-old : (n p : ℕ) → 0 < n → p < n → has_available (slot_at (replicate n empty_slot) p) ≡ not (wrap_of (length (replicate n empty_slot)) p)
fresh-old n p some high =
    let slots = replicate n empty_slot in
    let len : length slots ≡ n = length-replicate n empty_slot in
    let at : slot_at slots p ≡ get_or slots (p % n) empty_slot = ap (λ (k : ℕ). get_or slots (p % k) empty_slot) len in
    let here : get_or slots (p % n) empty_slot ≡ empty_slot = get_or-replicate n (p % n) empty_slot empty_slot (mod-lt p some) in
    let lap : p / n ≡ 0 = div-eq_of_lt high in
    let wrap : wrap_of (length slots) p ≡ true = ap (λ (k : ℕ). wrap_of k p) len ∙ ap (λ (k : ℕ). k % 2 == 0) lap in
    ap has_available (at ∙ here) ∙ sym (ap not wrap)

pub fresh_stands : (n : ℕ) (free : List ℕ) (records : List ChainRecord) → 0 < n → n ≤ 32768 → length records ≡ n
    → ((d : ℕ) → occurs d free ≡ one_if (nat_lt d n)) → length free ≡ n → PackedStands (fresh_sides n free records) (empty_lists n)
fresh_stands n free records some small records_len ids free_len =
    let len : length (replicate n empty_slot) ≡ n = length-replicate n empty_slot in
    record {
      waiting_ids = [];
      used_ids = [];
      counts = record {
        size = sym len;
        some = omega (arith, len, some);
        small = omega (arith, len, small);
        records_len = records_len ∙ sym len;
        added = refl;
        placed = refl;
        given = refl;
        few = omega arith;
        bound = omega arith;
        written = refl;
        read = refl;
        waiting = refl;
        fits = omega arith;
      };
      waits = tt;
      takes = tt;
      uses = tt;
      known_waiting = tt;
      known_taken = tt;
      known_used = tt;
      ids = record {
        once = λ d.
            let each : occurs d free ≡ one_if (nat_lt d n) = ids d in
            let all : occurs d free + (0 + (0 + 0)) ≡ one_if (nat_lt d n) = omega (arith, each) in
            all ∙ ap (λ (k : ℕ). one_if (nat_lt d k)) (sym len);
        count = omega (arith, free_len, len);
      };
      flags = record {
        old = λ p low high. fresh-old n p some (omega (arith, high, len));
        unused = λ p low high. absurd (omega (arith, high));
      };
    }

-- the same by what the code makes
pub fresh_at : (n : ℕ) (slots : List Slot) (free : List ℕ) (records : List ChainRecord) (taken : List TakenChain) → 0 < n → n ≤ 32768 → length records ≡ n
    → ((d : ℕ) → occurs d free ≡ one_if (nat_lt d n)) → length free ≡ n → slots ≡ replicate n empty_slot → taken ≡ []
    → PackedStands (record { slots = slots; placed = 0; reclaimed = 0; added = 0; free = free; records = records; read = 0; written = 0; given = 0; taken = taken }) (empty_lists n)
fresh_at n slots free records taken some small records_len ids free_len zeros none =
    subst (λ (l : List Slot). PackedStands (record (fresh_sides n free records) { slots = l; taken = taken }) (empty_lists n)) (sym zeros)
    (subst (λ (l : List TakenChain). PackedStands (record (fresh_sides n free records) { taken = l }) (empty_lists n)) (sym none) (fresh_stands n free records some small records_len ids free_len))
