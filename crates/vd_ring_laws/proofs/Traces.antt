-- The trace of a chain that a driver wrote, into the ring's own table or into an indirect one.
use Rattle.std.proofs.Common.{◌≡◌, ℕ, zero, suc, ◌+◌, ◌*◌, ◌%◌, ◌/◌, ◌^◌, ◌<◌, ◌≤◌, Bool, true, false, refl, ap, subst, ◌∙◌, sym, arith, cond, None, Some, Ok, List, [], ◌∷◌, ◌++◌, ◌==◌, ◌&&◌, ◌||◌, not, nat_le, unwrap_or, length, append_assoc, if◌then◌else◌, inl, inr}
use Rattle.std.specs.List.{list_any}
use Rattle.std.proofs.lemmas.Bool.{eq-eqb, ne_eqb, lt-leb, le-ltb}
use Rattle.std.proofs.lemmas.List.Folds.{list_any-append}
use Rattle.std.proofs.lemmas.List.Sums.{sum_by-cons, sum_by-append}
use Rattle.std.proofs.Math.Nat.{mod-eq_of_lt}
use Rattle.byteorder.specs.Numbers.{little_number-reads_back}
use Rattle.vd_num.specs.Field.{field_at}
use Rattle.vd_model.specs.declared.parts.Part.{Part}
use Rattle.vd_model.specs.declared.answer.ChainKind.TheVariants.{Head, Loop, Next, Order, Shape, Nested, Long}
use Rattle.vd_model.specs.declared.descriptor.Descriptor.{Descriptor}
use Rattle.vd_model.specs.declared.descriptor.Position.{Position}
use Rattle.vd_model.specs.declared.queue.RingPlace.{RingPlace}
use Rattle.vd_model.specs.Memory.{Memory, read}
use Rattle.vd_model.specs.Raw.{little_bytes}
use Rattle.vd_model.specs.Trace.{TraceStart, trace_start, Ending, whole, missing, chain_of, descriptor_of, descriptor_from, descriptor_at, is_indirect, has_next, is_writable, descriptor_part, is_misshapen, breaks_order, is_long, leaves_table, is_among, first_kind, with_part_read, parts_at, fault_of, fault_by, fault_of_read, fault_at, after_read, next_position, ending_by, ending_at, ending_within, total_len}
use Rattle.vd_model.specs.RingTurns.{descriptor_bytes, flags_of, first_of, is_out_of_order}
use Rattle.vd_laws.specs.Among.{Among}
use Rattle.vd_ring_laws.specs.ChainLaw.{AreDistinct}
use Rattle.vd_ring_laws.specs.TraceLaw.{IsLinked, TraceLaw}
use Rattle.vd_ring_laws.proofs.Distincts.{few_below}

-- ---- a descriptor

abbrev pub entry : ℕ → ℕ → ℕ → ℕ → Descriptor
entry at len flags next = record { at = at; len = len; flags = flags; next = next }

small_flags : (more writable : Bool) → flags_of more writable < 256 ^ 2
small_flags true true = omega arith
small_flags true false = omega arith
small_flags false true = omega arith
small_flags false false = omega arith

pub bytes_back : (at len flags next : ℕ) → at < 256 ^ 8 → len < 256 ^ 4 → flags < 256 ^ 2 → next < 256 ^ 2 → descriptor_of (descriptor_bytes at len flags next) ≡ entry at len flags next
bytes_back at len flags next a l f n =
    let bytes = descriptor_bytes at len flags next in
    let first : field_at 8 bytes 0 ≡ at = little_number-reads_back 8 at (little_bytes 4 len ++ (little_bytes 2 flags ++ little_bytes 2 next)) a in
    let second : field_at 4 bytes 8 ≡ len = little_number-reads_back 4 len (little_bytes 2 flags ++ little_bytes 2 next) l in
    let third : field_at 2 bytes 12 ≡ flags = little_number-reads_back 2 flags (little_bytes 2 next) f in
    let fourth : field_at 2 bytes 14 ≡ next = little_number-reads_back 2 next [] n in
    ap (λ k. entry k (field_at 4 bytes 8) (field_at 2 bytes 12) (field_at 2 bytes 14)) first
    ∙ (ap (λ k. entry at k (field_at 2 bytes 12) (field_at 2 bytes 14)) second
    ∙ (ap (λ k. entry at len k (field_at 2 bytes 14)) third ∙ ap (λ k. entry at len flags k) fourth))

-- the descriptor of a part
abbrev of_part : Part → Bool → ℕ → Descriptor
of_part part more next = entry part.at part.len (flags_of more part.writable) next

plain : (at len next : ℕ) (more writable : Bool) → is_indirect (entry at len (flags_of more writable) next) ≡ false
plain at len next true true = refl
plain at len next true false = refl
plain at len next false true = refl
plain at len next false false = refl

more_is : (at len next : ℕ) (more writable : Bool) → has_next (entry at len (flags_of more writable) next) ≡ more
more_is at len next true true = refl
more_is at len next true false = refl
more_is at len next false true = refl
more_is at len next false false = refl

writable_is : (at len next : ℕ) (more writable : Bool) → is_writable (entry at len (flags_of more writable) next) ≡ writable
writable_is at len next true true = refl
writable_is at len next true false = refl
writable_is at len next false true = refl
writable_is at len next false false = refl

kind_none : (n : Bool) (done : List Part) (seen : Bool) (p : Position) (d : Descriptor) → is_indirect d ≡ false → breaks_order done d ≡ false → is_long done d ≡ false → leaves_table p d ≡ false → has_next d && seen ≡ false
    → first_kind n done seen p d ≡ None
kind_none n done seen p d = by (is_indirect d) (breaks_order done d) (is_long done d) (leaves_table p d) (has_next d && seen) where
  by : (i b l t s : Bool) → i ≡ false → b ≡ false → l ≡ false → t ≡ false → s ≡ false
      → (if i then (if p.table.number == 1 then Some Nested else if is_misshapen n d then Some Shape else None) else if b then Some Order else if l then Some Long else if t then Some Next else if s then Some Loop else None) ≡ None
  by false false false false false e f g h k = refl
  by true b l t s e f g h k = cc
  by false true l t s e f g h k = cc
  by false false true t s e f g h k = cc
  by false false false true s e f g h k = cc
  by false false false false true e f g h k = cc

-- ---- a position

-- in the table of this number, the ring's own (0) or an indirect one (1), which lies where this place says; the trace may have come from another table
module _ (m : Memory) (s : TraceStart) (inside : s.head < s.ring.size) (number : ℕ) (r : RingPlace) (small : r.size ≤ 32768) (ends : r.desc + 16 * r.size ≤ 2 ^ 64) where
  abbrev at_index : ℕ → Position
  at_index d = record { table = record { number = number; at = r.desc; entries = r.size }; index = d }

  -- what is known of one position
  record IsAt (before : List Position) (done : List Part) (part : Part) (more : Bool) (d next : ℕ) : Type 0 where
    low : d < r.size
    next_low : next < r.size
    words : (part.at < 2 ^ 64) × (part.len < 2 ^ 32)
    stands : read m (r.desc + 16 * d) 16 ≡ Ok (descriptor_bytes part.at part.len (flags_of more part.writable) next)
    done_is : parts_at m before ≡ done
    in_order : not part.writable && list_any (λ q. q.writable) done ≡ false
    short : total_len done + part.len ≤ 16777216
    unseen : more && is_among number next (at_index d ∷ before) ≡ false

  module _ (before : List Position) (done : List Part) (part : Part) (more : Bool) (d next : ℕ) (a : IsAt before done part more d next) where
    found_at : descriptor_at m (at_index d) ≡ Ok (of_part part more next)
    found_at =
        let low = a.low in
        let next_low = a.next_low in
        let address : (r.desc + 16 * d) % 2 ^ 64 ≡ r.desc + 16 * d = mod-eq_of_lt (omega arith) in
        ap (λ k. descriptor_from (read m k 16)) address ∙ (ap descriptor_from a.stands ∙ ap Ok (bytes_back part.at part.len (flags_of more part.writable) next a.words.0 a.words.1 (small_flags more part.writable) (omega arith)))

    parts_now : parts_at m (at_index d ∷ before) ≡ done ++ part ∷ []
    parts_now =
        ap (λ o. with_part_read (parts_at m before) o) found_at
        ∙ (ap (λ l. with_part_read l (Ok (of_part part more next))) a.done_is
        ∙ (ap (λ b. cond b done (done ++ descriptor_part (of_part part more next) ∷ [])) (plain part.at part.len next more part.writable)
        ∙ ap (λ w. done ++ record { at = part.at; len = part.len; writable = w } ∷ []) (writable_is part.at part.len next more part.writable)))

    no_kind : first_kind s.negotiated done (is_among number next (at_index d ∷ before)) (at_index d) (of_part part more next) ≡ None
    no_kind = kind_none s.negotiated done (is_among number next (at_index d ∷ before)) (at_index d) (of_part part more next)
        (plain part.at part.len next more part.writable)
        (ap (λ w. not w && list_any (λ q. q.writable) done) (writable_is part.at part.len next more part.writable) ∙ a.in_order)
        (le-ltb 16777216 (total_len done + part.len) a.short)
        (ap (λ b. b && nat_le r.size next) (more_is part.at part.len next more part.writable) ∙ inside_table more)
        (ap (λ b. b && is_among number next (at_index d ∷ before)) (more_is part.at part.len next more part.writable) ∙ a.unseen) where
          inside_table : (b : Bool) → b && nat_le r.size next ≡ false
          inside_table true = lt-leb r.size next a.next_low
          inside_table false = refl

    no_fault : fault_at s m before (at_index d) ≡ None
    no_fault =
        ap (λ b. cond b (Some (fault_of (at_index d) Head)) (fault_of_read s (parts_at m before) (at_index d ∷ before) (at_index d) (descriptor_at m (at_index d)))) (lt-leb s.ring.size s.head inside)
        ∙ (ap (λ o. fault_of_read s (parts_at m before) (at_index d ∷ before) (at_index d) o) found_at
        ∙ (ap (λ l. fault_by (at_index d) (first_kind s.negotiated l (is_among number next (at_index d ∷ before)) (at_index d) (of_part part more next))) a.done_is
        ∙ ap (λ k. fault_by (at_index d) k) no_kind))

    next_is : next_position m (at_index d) ≡ (if more then Some (at_index next) else None)
    next_is =
        ap (λ o. after_read (at_index d) o) found_at
        ∙ (ap (λ b. cond b (Some (record { table = record { number = 1; at = part.at; entries = part.len / 16 }; index = 0 })) (cond (has_next (of_part part more next)) (Some (at_index next)) None)) (plain part.at part.len next more part.writable)
        ∙ ap (λ b. cond b (Some (at_index next)) None) (more_is part.at part.len next more part.writable))

    ending_is : ending_at s m before (at_index d) ≡ ending_by None (if more then Some (at_index next) else None) (chain_of s.head (done ++ part ∷ []))
    unfolding ending_at
    ending_is =
        ap (λ f. ending_by f (next_position m (at_index d)) (chain_of s.head (parts_at m (at_index d ∷ before)))) no_fault
        ∙ (ap (λ o. ending_by None o (chain_of s.head (parts_at m (at_index d ∷ before)))) next_is
        ∙ ap (λ l. ending_by None (if more then Some (at_index next) else None) (chain_of s.head l)) parts_now)

-- ---- the whole

pub ends_now : (n : ℕ) (s : TraceStart) (m : Memory) (before : List Position) (p : Position) (end : Ending) → ending_at s m before p ≡ Some end → ending_within (suc n) s m before p ≡ Some end
unfolding ending_within
ends_now n s m before p end e = rw (ending_within, e) refl

pub goes_on : (n : ℕ) (s : TraceStart) (m : Memory) (before : List Position) (p next : Position) → ending_at s m before p ≡ None → next_position m p ≡ Some next → ending_within (suc n) s m before p ≡ ending_within n s m (p ∷ before) next
unfolding ending_within
goes_on n s m before p next e f = rw (ending_within, e, f) refl

in_turn : (w l rest : Bool) → (l ≡ true → (not w || rest) ≡ false) → not w && l ≡ false
in_turn true l rest h = refl
in_turn false true rest h = let f : true ≡ false = h refl in f
in_turn false false rest h = refl

later_turn : (w l rest out : Bool) → (l ≡ true → (not w || rest) ≡ false) → ((w && rest) || out) ≡ false → (l || (w || false)) ≡ true → rest ≡ false
later_turn true l true out h e f = cc
later_turn w l false out h e f = refl
later_turn false true true out h e f = let g : true ≡ false = h refl in g
later_turn false false true out h e f = cc

out_later : (w rest out : Bool) → ((w && rest) || out) ≡ false → out ≡ false
out_later true true out e = cc
out_later true false out e = e
out_later false rest out e = e

same_length : (m : Memory) (r : RingPlace) (parts : List Part) (ds : List ℕ) → IsLinked m r parts ds → length parts ≡ length ds
same_length m r [] ds h = absurd h
same_length m r (part ∷ parts) [] h = absurd h
same_length m r (part ∷ []) (d ∷ []) h = refl
same_length m r (part ∷ []) (d ∷ e ∷ ds) h = absurd h
same_length m r (part ∷ next ∷ parts) (d ∷ []) h = absurd h
same_length m r (part ∷ next ∷ parts) (d ∷ e ∷ ds) h = ap (λ n. suc n) (same_length m r (next ∷ parts) (e ∷ ds) h.1)

module _ (m : Memory) (s : TraceStart) (inside : s.head < s.ring.size) (number : ℕ) (r : RingPlace) (small : r.size ≤ 32768) (ends : r.desc + 16 * r.size ≤ 2 ^ 64) where
  -- what is known of the rest of a chain
  pub record Rest (before : List Position) (done parts : List Part) (ds : List ℕ) : Type 0 where
    pub linked : IsLinked m r parts ds
    pub distinct : AreDistinct ds
    pub low : (k : ℕ) → Among k ds → k < r.size
    pub words : (part : Part) → Among part parts → (part.at < 2 ^ 64) × (part.len < 2 ^ 32)
    pub turn : list_any (λ q. q.writable) done ≡ true → list_any (λ q. not q.writable) parts ≡ false
    pub ordered : is_out_of_order parts ≡ false
    pub short : total_len done + total_len parts ≤ 16777216
    pub done_is : parts_at m before ≡ done
    pub fresh : (k : ℕ) → Among k ds → is_among number k before ≡ false

  first_is : (before : List Position) (done : List Part) (part : Part) (parts : List Part) (d : ℕ) (ds : List ℕ) (more : Bool) (next : ℕ) → Rest before done (part ∷ parts) (d ∷ ds) → next < r.size
      → read m (r.desc + 16 * d) 16 ≡ Ok (descriptor_bytes part.at part.len (flags_of more part.writable) next)
      → more && is_among number next (at_index m s inside number r small ends d ∷ before) ≡ false → IsAt m s inside number r small ends before done part more d next
  first_is before done part parts d ds more next a low stands unseen = record {
    low = a.low d (inl refl);
    next_low = low;
    words = a.words part (inl refl);
    stands = stands;
    done_is = a.done_is;
    in_order = in_turn part.writable (list_any (λ q. q.writable) done) (list_any (λ q. not q.writable) parts) a.turn;
    short = (let t = a.short in let c = sum_by-cons (λ (q : Part). q.len) part parts in omega (arith, t, c));
    unseen = unseen;
  }

  pub chain_from : (n : ℕ) (before : List Position) (done parts : List Part) (ds : List ℕ) → length parts ≤ n → Rest before done parts ds
      → ending_within n s m before (at_index m s inside number r small ends (first_of ds)) ≡ Some (whole (chain_of s.head (done ++ parts)))
  chain_from n before done [] ds le a = absurd a.linked
  chain_from n before done (part ∷ parts) [] le a = absurd a.linked
  chain_from zero before done (part ∷ parts) (d ∷ ds) le a = absurd (omega arith)
  chain_from (suc n) before done (part ∷ []) (d ∷ []) le a =
      ends_now n s m before (at_index m s inside number r small ends d) (whole (chain_of s.head (done ++ part ∷ [])))
      (ending_is m s inside number r small ends before done part false d 0 (first_is before done part [] d [] false 0 a (let l = a.low d (inl refl) in omega arith) a.linked refl))
  chain_from (suc n) before done (part ∷ []) (d ∷ e ∷ ds) le a = absurd a.linked
  chain_from (suc n) before done (part ∷ next ∷ parts) (d ∷ []) le a = absurd a.linked
  chain_from (suc n) before done (part ∷ next ∷ parts) (d ∷ e ∷ ds) le a =
      let here = at_index m s inside number r small ends d in
      let fresh : (k : ℕ) → Among k (e ∷ ds) → is_among number k (here ∷ before) ≡ false = λ k i. (
      ap (λ b. (b && (d == k)) || is_among number k before) (eq-eqb number number refl) ∙ ap (λ b. (true && b) || is_among number k before) (ne_eqb d k (λ f. a.distinct.0 (subst (λ j. Among j (e ∷ ds)) (sym f) i))) ∙ a.fresh k (inr i)) in
      let is = first_is before done part (next ∷ parts) d (e ∷ ds) true e a (a.low e (inr (inl refl))) a.linked.0 (fresh e (inl refl)) in
      let rest : Rest (here ∷ before) (done ++ part ∷ []) (next ∷ parts) (e ∷ ds) = record {
        linked = a.linked.1;
        distinct = a.distinct.1;
        low = λ k i. a.low k (inr i);
        words = λ p i. a.words p (inr i);
        turn = λ f. later_turn part.writable (list_any (λ q. q.writable) done) (list_any (λ q. not q.writable) (next ∷ parts)) (is_out_of_order (next ∷ parts)) a.turn a.ordered (sym (list_any-append (λ (q : Part). q.writable) done (part ∷ [])) ∙ f);
        ordered = out_later part.writable (list_any (λ q. not q.writable) (next ∷ parts)) (is_out_of_order (next ∷ parts)) a.ordered;
        short = (let t = a.short in let c = sum_by-cons (λ (q : Part). q.len) part (next ∷ parts) in let b = sum_by-append (λ (q : Part). q.len) done (part ∷ []) in let z = sum_by-cons (λ (q : Part). q.len) part [] in omega (arith, t, c, b, z));
        done_is = parts_now m s inside number r small ends before done part true d e is;
        fresh = fresh;
      } in
      goes_on n s m before here (at_index m s inside number r small ends e) (ending_is m s inside number r small ends before done part true d e is) (next_is m s inside number r small ends before done part true d e is)
      ∙ (chain_from n (here ∷ before) (done ++ part ∷ []) (next ∷ parts) (e ∷ ds) (omega arith) rest
      ∙ ap (λ l. Some (whole (chain_of s.head l))) (append_assoc done (part ∷ []) (next ∷ parts)))

-- ---- the ring's own table

first_low : (m : Memory) (r : RingPlace) (parts : List Part) (ds : List ℕ) → IsLinked m r parts ds → ((d : ℕ) → Among d ds → d < r.size) → first_of ds < r.size
first_low m r [] ds h low = absurd h
first_low m r (part ∷ parts) [] h low = absurd h
first_low m r (part ∷ parts) (d ∷ ds) h low = low d (inl refl)

pub trace_law : (m : Memory) → TraceLaw m
trace_law m r parts ds negotiated w =
    let inside = first_low m r parts ds w.linked w.low in
    let few = few_below r.size ds w.distinct w.low in
    let same = same_length m r parts ds w.linked in
    ap (λ o. unwrap_or o (missing 0)) (chain_from m (trace_start r (first_of ds) negotiated) inside 0 r w.size w.ends (65537 + r.size) [] [] parts ds (omega arith) (record {
      linked = w.linked;
      distinct = w.distinct;
      low = w.low;
      words = w.words;
      turn = λ e. cc;
      ordered = w.ordered;
      short = (let s = w.short in omega arith);
      done_is = refl;
      fresh = λ k i. refl;
    }))
