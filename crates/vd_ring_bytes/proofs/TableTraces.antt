-- The trace inside an indirect table that a driver wrote.
use Rattle.std.proofs.Common.{◌≡◌, ℕ, zero, suc, ◌+◌, ◌*◌, ◌%◌, ◌/◌, ◌^◌, ◌<◌, ◌≤◌, Bool, true, false, refl, ap, subst, ◌∙◌, sym, arith, cond, None, Some, Ok, List, [], ◌∷◌, ◌==◌, ◌||◌, not, nat_lt, unwrap_or, length, if◌then◌else◌, inl, inr}
use Rattle.std.proofs.lemmas.Bool.{lt-leb}
use Rattle.std.proofs.Math.Nat.{mod-eq_of_lt}
use Rattle.vd_model.specs.declared.parts.Part.{Part}
use Rattle.vd_model.specs.declared.parts.Chain.{Chain}
use Rattle.vd_model.specs.declared.answer.ChainKind.TheVariants.{Head, Shape}
use Rattle.vd_model.specs.declared.queue.RingPlace.{RingPlace}
use Rattle.vd_model.specs.Memory.{Memory, read}
use Rattle.vd_model.specs.Trace.{TraceStart, trace_start, first_position, ending_of, whole, missing, chain_of, descriptor_from, descriptor_at, is_misshapen, with_part_read, parts_at, fault_of, fault_by, fault_of_read, fault_at, after_read, next_position, ending_by, ending_at, ending_within}
use Rattle.vd_model.specs.RingTurns.{first_of}
use Rattle.vd_laws.specs.Among.{Among}
use Rattle.vd_ring_laws.specs.ChainLaw.{AreDistinct}
use Rattle.vd_ring_laws.proofs.Traces.{entry, bytes_back, ends_now, goes_on, chain_from}
use Rattle.vd_ring_bytes.specs.IndirectLaw.{indices, table_place, IsTable, IndirectLaw}

-- ---- the descriptor that names it

indices_from : (k : ℕ) (parts : List Part) (d : ℕ) → Among d (indices k parts) → (k ≤ d) × (d < k + length parts)
indices_from k [] d h = absurd h
indices_from k (part ∷ parts) d (inl e) = (omega arith, omega arith)
indices_from k (part ∷ parts) d (inr h) = let l = indices_from (k + 1) parts d h in let lo : k + 1 ≤ d = l.0 in let hi : d < k + 1 + length parts = l.1 in (omega arith, omega arith)

indices_distinct : (k : ℕ) (parts : List Part) → AreDistinct (indices k parts)
indices_distinct k [] = tt
indices_distinct k (part ∷ parts) = ((λ h. (let lo : k + 1 ≤ k = (indices_from (k + 1) parts k h).0 in omega arith)), indices_distinct (k + 1) parts)

first_index : (parts : List Part) → 0 < length parts → first_of (indices 0 parts) ≡ 0
first_index [] h = absurd (omega arith)
first_index (part ∷ parts) h = refl

table_shape : (n len : ℕ) → len ≡ 16 * n → 0 < n → n ≤ 3 → (((len == 0) || not (len % 16 == 0)) || nat_lt 524288 len) ≡ false
table_shape zero len e h k = absurd (omega arith)
table_shape (suc zero) len e h k = subst (λ l. (((l == 0) || not (l % 16 == 0)) || nat_lt 524288 l) ≡ false) (sym e) refl
table_shape (suc (suc zero)) len e h k = subst (λ l. (((l == 0) || not (l % 16 == 0)) || nat_lt 524288 l) ≡ false) (sym e) refl
table_shape (suc (suc (suc zero))) len e h k = subst (λ l. (((l == 0) || not (l % 16 == 0)) || nat_lt 524288 l) ≡ false) (sym e) refl
table_shape (suc (suc (suc (suc n)))) len e h k = absurd (omega arith)

module _ (m : Memory) (r : RingPlace) (head at len : ℕ) (parts : List Part) (negotiated : Bool) (t : IsTable m r head at len parts) where
  abbrev start : TraceStart
  start = trace_start r head negotiated

  head_found : descriptor_at m (first_position start) ≡ Ok (entry at len 4 0)
  head_found =
      let lo = t.inside in
      let hi = t.ends in
      let address : (r.desc + 16 * head) % 2 ^ 64 ≡ r.desc + 16 * head = mod-eq_of_lt (omega arith) in
      let few = t.few in
      let is = t.is_len in
      let fits = t.fits in
      let some = t.some in
      ap (λ k. descriptor_from (read m k 16)) address ∙ (ap descriptor_from t.names ∙ ap Ok (bytes_back at len 4 0 (omega arith) (omega arith) (omega arith) (omega arith)))

  head_parts : parts_at m (first_position start ∷ []) ≡ []
  head_parts = ap (λ o. with_part_read [] o) head_found

  shape_is : is_misshapen negotiated (entry at len 4 0) ≡ not negotiated
  shape_is = by negotiated where
    by : (b : Bool) → ((((not b || false) || (len == 0)) || not (len % 16 == 0)) || nat_lt 524288 len) ≡ not b
    by true = table_shape (length parts) len t.is_len t.some t.few
    by false = refl

  head_fault : fault_at start m [] (first_position start) ≡ fault_by (first_position start) (if not negotiated then Some Shape else None)
  head_fault =
      ap (λ b. cond b (Some (fault_of (first_position start) Head)) (fault_of_read start [] (first_position start ∷ []) (first_position start) (descriptor_at m (first_position start)))) (lt-leb r.size head t.inside)
      ∙ (ap (λ o. fault_of_read start [] (first_position start ∷ []) (first_position start) o) head_found
      ∙ ap (λ b. fault_by (first_position start) (if b then Some Shape else None)) shape_is)

  head_next : next_position m (first_position start) ≡ Some (record { table = record { number = 1; at = at; entries = length parts }; index = 0 })
  head_next =
      let is = t.is_len in
      ap (λ o. after_read (first_position start) o) head_found
      ∙ ap (λ k. Some (record { table = record { number = 1; at = at; entries = k }; index = 0 })) (let e : len / 16 ≡ length parts = omega arith in e)

  table_goes : negotiated ≡ true → ending_at start m [] (first_position start) ≡ None
  unfolding ending_at
  table_goes n =
      ap (λ f. ending_by f (next_position m (first_position start)) (chain_of head (parts_at m (first_position start ∷ [])))) (head_fault ∙ ap (λ b. fault_by (first_position start) (if not b then Some Shape else None)) n)
      ∙ ap (λ o. ending_by None o (chain_of head (parts_at m (first_position start ∷ [])))) head_next

  table_stops : negotiated ≡ false → ending_at start m [] (first_position start) ≡ Some (fault_of (first_position start) Shape)
  unfolding ending_at
  table_stops n = ap (λ f. ending_by f (next_position m (first_position start)) (chain_of head (parts_at m (first_position start ∷ [])))) (head_fault ∙ ap (λ b. fault_by (first_position start) (if not b then Some Shape else None)) n)

  -- with tables negotiated the trace is that of the table's parts
  pub table_whole : negotiated ≡ true → ending_of start m ≡ whole (chain_of head parts)
  table_whole n =
      let few = t.few in
      let is = t.is_len in
      let fits = t.fits in
      let inner = chain_from m start t.inside 1 (table_place at (length parts)) (omega arith) (omega arith) (65536 + r.size) (first_position start ∷ []) [] parts (indices 0 parts) (omega arith) (record {
        linked = t.linked;
        distinct = indices_distinct 0 parts;
        low = λ k i. (let l : k < 0 + length parts = (indices_from 0 parts k i).1 in omega arith);
        words = t.words;
        turn = λ e. cc;
        ordered = t.ordered;
        short = (let l = t.short in omega arith);
        done_is = head_parts;
        fresh = λ k i. refl;
      }) in
      let count : 65537 + r.size ≡ suc (65536 + r.size) = omega arith in
      ap (λ o. unwrap_or o (missing 0))
      (ap (λ k. ending_within k start m [] (first_position start)) count
      ∙ (goes_on (65536 + r.size) start m [] (first_position start) (record { table = record { number = 1; at = at; entries = length parts }; index = 0 }) (table_goes n) head_next
      ∙ (ap (λ k. ending_within (65536 + r.size) start m (first_position start ∷ []) (record { table = record { number = 1; at = at; entries = length parts }; index = k })) (sym (first_index parts t.some)) ∙ inner)))

  -- without them it ends in a fault
  pub table_faulty : negotiated ≡ false → (chain : Chain) → ending_of start m ≡ whole chain → ⊥
  table_faulty n chain e =
      let count : 65537 + r.size ≡ suc (65536 + r.size) = omega arith in
      let is : ending_of start m ≡ fault_of (first_position start) Shape =
      ap (λ o. unwrap_or o (missing 0))
      (ap (λ k. ending_within k start m [] (first_position start)) count ∙ ends_now (65536 + r.size) start m [] (first_position start) (fault_of (first_position start) Shape) (table_stops n)) in
      let both : fault_of (first_position start) Shape ≡ whole chain = sym is ∙ e in
      cc

pub indirect_law : (m : Memory) → IndirectLaw m
indirect_law m = record {
  with_tables = λ r head at len parts t. table_whole m r head at len parts true t refl;
  without_tables = λ r head at len parts t chain. table_faulty m r head at len parts false t refl chain;
}
