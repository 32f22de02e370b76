-- What a walk knows of the trace so far.
use Rattle.std.proofs.Common.{◌≡◌, ◌≢◌, ℕ, zero, suc, ◌+◌, ◌*◌, ◌/◌, ◌<◌, ◌≤◌, Bool, true, false, cond, ◌&&◌, ◌||◌, nat_le, ◌==◌, List, [], ◌∷◌, length, get_or, Option, Some, None, unwrap_or, Result, Ok, Err, refl, sym, ap, subst, ◌∙◌, ◌⊎◌, inl, inr, replicate, arith, get_or-set_other, get_or-set_same, length-set, ◌-◌}
use Rattle.std.proofs.Math.ListN.{set}
use Rattle.std.proofs.lemmas.List.{get_or-replicate, length-replicate}
use Rattle.std.proofs.lemmas.Bool.{cases_lt}
use Rattle.std.proofs.lemmas.List.Sums.{sum_by-cons, sum_by-set}
use Rattle.std.specs.List.{sum_by}
use Rattle.std.proofs.lemmas.Bool.Decides.{nat_tests}
use Rattle.vd_model.specs.Memory.{Memory}
use Rattle.vd_model.specs.declared.parts.Part.{Part}
use Rattle.vd_model.specs.declared.parts.Chain.{Chain}
use Rattle.vd_model.specs.declared.answer.ChainKind.{ChainKind}
use Rattle.vd_model.specs.declared.answer.ChainKind.TheVariants.{Head, Loop, Next, Order, Shape, Nested, Long}
use Rattle.vd_model.specs.declared.descriptor.Descriptor.{Descriptor}
use Rattle.vd_model.specs.declared.descriptor.Position.{Position}
use Rattle.vd_model.specs.Trace.{TraceStart, first_position, first_kind, is_indirect, has_next, is_among, leaves_table, is_long, is_misshapen, breaks_order, descriptor_at, parts_at, with_part, with_part_read, fault_at, fault_of, fault_of_read, fault_by, next_position, after_read, position_after, chain_of, Ending, whole, missing, ending_at, ending_by, ending_within, ending_of, IsTrace, Follows, EndsAs}
use Rattle.vr_chain.proofs.Passed.{Passed, passed}

-- how many entries of a table aren't marked
abbrev pub unmarked : List Bool → ℕ
unmarked marks = sum_by (λ b. cond b 0 1) marks

unmarked-le : (marks : List Bool) → unmarked marks ≤ length marks
unmarked-le [] = omega arith
unmarked-le (b ∷ marks) =
    let rest = unmarked-le marks in
    let e = sum_by-cons (λ (x : Bool). cond x 0 1) b marks in
    let one : cond b 0 1 ≤ 1 = grind arith in
    omega (arith, e, one, rest)

-- a new mark
unmarked-set : (marks : List Bool) (i : ℕ) → i < length marks → get_or marks i false ≡ false → unmarked (set marks i true) + 1 ≡ unmarked marks
unmarked-set marks i h e =
    let s = sum_by-set (λ (x : Bool). cond x 0 1) marks i true false h in
    let f = ap (λ (b : Bool). unmarked (set marks i true) + cond b 0 1) e in
    omega (arith, s, f)

-- position p, with the marks of its table and the parts before it, is the last of a trace
pub record Tracks (q : TraceStart) (m : Memory) (p : Position) (marks : List Bool) (parts : List Part) : Type 0 where
  pub before : List Position
  pub trace : IsTrace q m (p ∷ before)
  pub parts_are : parts ≡ parts_at m before
  pub marks_are : (i : ℕ) → i < p.table.entries → get_or marks i false ≡ is_among p.table.number i (p ∷ before)
  -- no position is in a table to come
  pub fresh : (n i : ℕ) → p.table.number < n → is_among n i (p ∷ before) ≡ false
  -- what was visited and what may be visited yet are together no more than both tables
  pub short : length before + ((1 - p.table.number) * 65536 + unmarked marks) ≤ 65536 + q.ring.size

-- a place that is marked now
mark_by : (marks : List Bool) (k i : ℕ) → k < length marks → (b : Bool) → (k == i) ≡ b → get_or (set marks k true) i false ≡ (b || get_or marks i false)
mark_by marks k i h true e =
    let same : k ≡ i = grind (arith, nat_tests) in
    rw (← same) (get_or-set_same marks k true false h)
mark_by marks k i h false e =
    let other : i ≢ k = grind (arith, nat_tests) in
    get_or-set_other marks k i true false other

mark_one : (marks : List Bool) (k i : ℕ) → k < length marks → get_or (set marks k true) i false ≡ (k == i || get_or marks i false)
mark_one marks k i h = mark_by marks k i h (k == i) refl

same_number : (n : ℕ) → (n == n) ≡ true
same_number n = grind (arith, nat_tests)

other_number : (n k : ℕ) → n < k → (n == k) ≡ false
other_number n k h = grind (arith, nat_tests)

-- a fresh table with one mark
mark_first : (n k i : ℕ) → k < n → i < n → get_or (set (replicate n false) k true) i false ≡ (k == i || false)
mark_first n k i h l =
    let len : k < length (replicate n false) = rw length-replicate h in
    mark_one (replicate n false) k i len ∙ ap (λ (b : Bool). k == i || b) (get_or-replicate n i false false l)

-- the head
pub tracks-start : (q : TraceStart) (m : Memory) (marks : List Bool) → q.head < q.ring.size → marks ≡ set (replicate q.ring.size false) q.head true → Tracks q m (first_position q) marks []
tracks-start q m marks h e = record {
  before = [];
  trace = refl;
  parts_are = refl;
  marks_are = λ i l. ap (λ (xs : List Bool). get_or xs i false) e ∙ mark_first q.ring.size q.head i h l;
  fresh = λ n i l. rw (other_number 0 n l) refl;
  short =
      let few = unmarked-le marks in
      let size : length marks ≡ q.ring.size = ap length e ∙ length-set (replicate q.ring.size false) q.head true ∙ length-replicate q.ring.size false in
      omega (arith, few, size);
}

-- The mark of the next place serves as well as the list of positions.
alike_at : (next out a b : Bool) → (out ≡ false → a ≡ b) → cond (next && out) (Some Next) (cond (next && a) (Some Loop) None) ≡ cond (next && out) (Some Next) (cond (next && b) (Some Loop) None)
alike_at false out a b h = refl
alike_at true true a b h = refl
alike_at true false a b h = ap (λ (x : Bool). cond x (Some Loop) None) (h refl)

seen_alike : (n : Bool) (parts : List Part) (a b : Bool) (p : Position) (d : Descriptor) → (d.next < p.table.entries → a ≡ b) → first_kind n parts a p d ≡ first_kind n parts b p d
seen_alike n parts a b p d h =
    ap (λ (x : Option ChainKind). cond (is_indirect d) (cond (p.table.number == 1) (Some Nested) (cond (is_misshapen n d) (Some Shape) None)) (cond (breaks_order parts d) (Some Order) (cond (is_long parts d) (Some Long) x)))
    (alike_at (has_next d) (nat_le p.table.entries d.next) a b (λ e. h (grind (arith, nat_tests))))

-- what the tests say at p
fault-tracked : (q : TraceStart) (m : Memory) (p : Position) (marks : List Bool) (parts : List Part) (d : Descriptor) → q.head < q.ring.size → (t : Tracks q m p marks parts) → descriptor_at m p ≡ Ok d → fault_at q m t.before p ≡ fault_by p (first_kind q.negotiated parts (get_or marks d.next false) p d)
fault-tracked q m p marks parts d h t e =
    let inside : nat_le q.ring.size q.head ≡ false = grind (arith, nat_tests) in
    let seen = is_among p.table.number d.next (p ∷ t.before) in
    ap (λ (b : Bool). cond b (Some (fault_of p Head)) (fault_of_read q (parts_at m t.before) (p ∷ t.before) p (descriptor_at m p))) inside
    ∙ ap (fault_of_read q (parts_at m t.before) (p ∷ t.before) p) e
    ∙ ap (λ (ps : List Part). fault_by p (first_kind q.negotiated ps seen p d)) (sym t.parts_are)
    ∙ ap (fault_by p) (sym (seen_alike q.negotiated parts (get_or marks d.next false) seen p d (λ l. t.marks_are d.next l)))

-- the parts after p
parts-tracked : (q : TraceStart) (m : Memory) (p : Position) (marks : List Bool) (parts : List Part) (d : Descriptor) → (t : Tracks q m p marks parts) → descriptor_at m p ≡ Ok d → parts_at m (p ∷ t.before) ≡ with_part parts d
parts-tracked q m p marks parts d t e =
    ap (with_part_read (parts_at m t.before)) e ∙ ap (λ (ps : List Part). with_part ps d) (sym t.parts_are)

next-tracked : (m : Memory) (p : Position) (d : Descriptor) (r : Option Position) → descriptor_at m p ≡ Ok d → position_after p d ≡ r → next_position m p ≡ r
next-tracked m p d r e g = ap (after_read p) e ∙ g

same_ending : (f f' : Option Ending) (n n' : Option Position) (c c' : Chain) → f ≡ f' → n ≡ n' → c ≡ c' → ending_by f n c ≡ ending_by f' n' c'
same_ending f f' n n' c c' a b e = ap (λ (x : Option Ending). ending_by x n c) a ∙ ap (λ (x : Option Position). ending_by f' x c) b ∙ ap (ending_by f' n') e

-- the trace ends so, before it has come to many positions
pub record EndsSoon (q : TraceStart) (m : Memory) (end : Ending) : Type 0 where
  pub last : Position
  pub before : List Position
  pub trace : IsTrace q m (last ∷ before)
  pub ends : ending_at q m before last ≡ Some end
  pub soon : length before ≤ 65536 + q.ring.size

pub soon-ends : (q : TraceStart) (m : Memory) (end : Ending) → EndsSoon q m end → EndsAs q m end
soon-ends q m end e = (e.last, e.before, e.trace, e.ends)

tracked-ends : (q : TraceStart) (m : Memory) (p : Position) (marks : List Bool) (parts : List Part) (end : Ending) → (t : Tracks q m p marks parts) → ending_at q m t.before p ≡ Some end → EndsSoon q m end
tracked-ends q m p marks parts end t e = record {
  last = p;
  before = t.before;
  trace = t.trace;
  ends = e;
  soon = let so_far = t.short in omega arith;
}

-- no descriptor
pub ends-missing : (q : TraceStart) (m : Memory) (p : Position) (marks : List Bool) (parts : List Part) (a : ℕ) → q.head < q.ring.size → Tracks q m p marks parts → descriptor_at m p ≡ Err a → EndsSoon q m (missing a)
unfolding ending_at
ends-missing q m p marks parts a h t e =
    let inside : nat_le q.ring.size q.head ≡ false = grind (arith, nat_tests) in
    tracked-ends q m p marks parts (missing a) t (rw (inside, e) refl)

-- a fault
pub ends-faulty : (q : TraceStart) (m : Memory) (p : Position) (marks : List Bool) (parts : List Part) (d : Descriptor) (kind : ChainKind) → q.head < q.ring.size → Tracks q m p marks parts → descriptor_at m p ≡ Ok d → first_kind q.negotiated parts (get_or marks d.next false) p d ≡ Some kind → EndsSoon q m (fault_of p kind)
unfolding ending_at
ends-faulty q m p marks parts d kind h t e f =
    tracked-ends q m p marks parts (fault_of p kind) t (rw (fault-tracked q m p marks parts d h t e, f) refl)

-- the end of the chain
pub ends-whole : (q : TraceStart) (m : Memory) (p : Position) (marks : List Bool) (parts : List Part) (d : Descriptor) → q.head < q.ring.size → Tracks q m p marks parts → descriptor_at m p ≡ Ok d → first_kind q.negotiated parts (get_or marks d.next false) p d ≡ None → position_after p d ≡ None → EndsSoon q m (whole (chain_of q.head (with_part parts d)))
unfolding ending_at
ends-whole q m p marks parts d h t e f g =
    tracked-ends q m p marks parts (whole (chain_of q.head (with_part parts d))) t
    (same_ending _ None _ None _ (chain_of q.head (with_part parts d))
    (fault-tracked q m p marks parts d h t e ∙ ap (fault_by p) f)
    (next-tracked m p d None e g)
    (ap (chain_of q.head) (parts-tracked q m p marks parts d t e)))

-- the position that follows
follows-tracked : (q : TraceStart) (m : Memory) (p r : Position) (marks : List Bool) (parts : List Part) (d : Descriptor) → q.head < q.ring.size → (t : Tracks q m p marks parts) → descriptor_at m p ≡ Ok d → first_kind q.negotiated parts (get_or marks d.next false) p d ≡ None → position_after p d ≡ Some r → Follows q m t.before p r
unfolding ending_at
follows-tracked q m p r marks parts d h t e f g = record {
  goes_on = same_ending _ None _ (Some r) _ _
      (fault-tracked q m p marks parts d h t e ∙ ap (fault_by p) f)
      (next-tracked m p d (Some r) e g) refl;
  next = next-tracked m p d (Some r) e g;
}

next_by : (indirect next : Bool) (x y r : Position) → cond indirect (Some x) (cond next (Some y) None) ≡ Some r → ((indirect ≡ true) × (x ≡ r)) ⊎ ((indirect ≡ false) × (next ≡ true) × (y ≡ r))
next_by true next x y r h = inl (refl, cc)
next_by false true x y r h = inr (refl, refl, cc)
next_by false false x y r h = cc

-- what a walk may still come to gets less
pub fewer : (p r : Position) (marks new : List Bool) (parts : List Part) (d : Descriptor) → p.table.number ≤ 1 → length marks ≡ p.table.entries → Passed parts (get_or marks d.next false) p d → position_after p d ≡ Some r → new ≡ set (cond (is_indirect d) (replicate r.table.entries false) marks) r.index true → (1 - r.table.number) * 65536 + unmarked new < (1 - p.table.number) * 65536 + unmarked marks
fewer p r marks new parts d low len ok g w =
    let x : Position = record { table = record { number = 1; at = d.at; entries = d.len / 16 }; index = 0 } in
    let y : Position = record { table = p.table; index = d.next } in
    let P : Position → Type 0 = λ s. (1 - s.table.number) * 65536 + unmarked new < (1 - p.table.number) * 65536 + unmarked marks in
    let marked : (b : Bool) → is_indirect d ≡ b → (s : Position) → s ≡ r → new ≡ set (cond b (replicate s.table.entries false) marks) s.index true =
    λ b i s o. w ∙ ap (λ (c : Bool). set (cond c (replicate r.table.entries false) marks) r.index true) i
    ∙ ap (λ (o : Position). set (cond b (replicate o.table.entries false) marks) o.index true) (sym o) in
    elim (next_by (is_indirect d) (has_next d) x y r g) [
      | inl (indirect, same) ↦
          (let in_ring : p.table.number < 1 = elim (cases_lt p.table.number 1) [ inl l ↦ l | inr g ↦ absurd (ok.in_ring indirect (omega arith)) ] in
          let few = unmarked-le new in
          let size : length new ≡ d.len / 16 = ap length (marked true indirect x same) ∙ length-set (replicate (d.len / 16) false) 0 true ∙ length-replicate (d.len / 16) false in
          let small = (ok.shape indirect).1 in
          subst P same (omega arith))
      | inr (direct, next, same) ↦
          (let one = unmarked-set marks d.next (let l = ok.inside direct next in omega arith) (ok.unseen direct next) in
          let now = ap unmarked (marked false direct y same) in
          subst P same (omega arith))
    ]

-- the next place of the same table
tracks-same : (q : TraceStart) (m : Memory) (p : Position) (marks : List Bool) (parts : List Part) (d : Descriptor) → length marks ≡ p.table.entries → (t : Tracks q m p marks parts) → descriptor_at m p ≡ Ok d → d.next < p.table.entries → unmarked (set marks d.next true) < unmarked marks → Follows q m t.before p (record { table = p.table; index = d.next }) → Tracks q m (record { table = p.table; index = d.next }) (set marks d.next true) (with_part parts d)
tracks-same q m p marks parts d len t e low less follows = record {
  before = p ∷ t.before;
  trace = (t.trace, follows);
  parts_are = sym (parts-tracked q m p marks parts d t e);
  marks_are = λ i l. mark_one marks d.next i (omega arith) ∙ ap (λ (b : Bool). d.next == i || b) (t.marks_are i l) ∙ sym (ap (λ (b : Bool). (b && (d.next == i)) || is_among p.table.number i (p ∷ t.before)) (same_number p.table.number));
  fresh = λ n i l. ap (λ (b : Bool). (b && (d.next == i)) || is_among n i (p ∷ t.before)) (other_number p.table.number n l) ∙ t.fresh n i l;
  short = let so_far = t.short in omega arith;
}

-- the start of an indirect table
tracks-new : (q : TraceStart) (m : Memory) (p : Position) (marks : List Bool) (parts : List Part) (d : Descriptor) → p.table.number < 1 → (t : Tracks q m p marks parts) → descriptor_at m p ≡ Ok d → 0 < d.len / 16 → unmarked (set (replicate (d.len / 16) false) 0 true) < 65536 → Follows q m t.before p (record { table = record { number = 1; at = d.at; entries = d.len / 16 }; index = 0 }) → Tracks q m (record { table = record { number = 1; at = d.at; entries = d.len / 16 }; index = 0 }) (set (replicate (d.len / 16) false) 0 true) (with_part parts d)
tracks-new q m p marks parts d low t e some less follows = record {
  before = p ∷ t.before;
  trace = (t.trace, follows);
  parts_are = sym (parts-tracked q m p marks parts d t e);
  marks_are = λ i l. mark_first (d.len / 16) 0 i some l ∙ ap (λ (b : Bool). 0 == i || b) (sym (t.fresh 1 i low));
  fresh = λ n i l. ap (λ (b : Bool). (b && (0 == i)) || is_among n i (p ∷ t.before)) (other_number 1 n l) ∙ t.fresh n i (omega arith);
  short = let so_far = t.short in omega arith;
}

pub tracks-next : (q : TraceStart) (m : Memory) (p r : Position) (marks new : List Bool) (parts : List Part) (d : Descriptor) → q.head < q.ring.size → p.table.number ≤ 1 → length marks ≡ p.table.entries → Tracks q m p marks parts → descriptor_at m p ≡ Ok d → first_kind q.negotiated parts (get_or marks d.next false) p d ≡ None → position_after p d ≡ Some r → new ≡ set (cond (is_indirect d) (replicate r.table.entries false) marks) r.index true → Tracks q m r new (with_part parts d)
tracks-next q m p r marks new parts d h low len t e f g w =
    let x : Position = record { table = record { number = 1; at = d.at; entries = d.len / 16 }; index = 0 } in
    let y : Position = record { table = p.table; index = d.next } in
    let follows = follows-tracked q m p r marks parts d h t e f g in
    let ok = passed q.negotiated parts (get_or marks d.next false) p d f in
    let marked : (b : Bool) → is_indirect d ≡ b → (s : Position) → s ≡ r → new ≡ set (cond b (replicate s.table.entries false) marks) s.index true =
    λ b i s o. w ∙ ap (λ (c : Bool). set (cond c (replicate r.table.entries false) marks) r.index true) i
    ∙ ap (λ (o : Position). set (cond b (replicate o.table.entries false) marks) o.index true) (sym o) in
    elim (next_by (is_indirect d) (has_next d) x y r g) [
      | inl (indirect, same) ↦
          (let in_ring : p.table.number < 1 = elim (cases_lt p.table.number 1) [ inl l ↦ l | inr g ↦ absurd (ok.in_ring indirect (omega arith)) ] in
          let few = unmarked-le (set (replicate (d.len / 16) false) 0 true) in
          let size : length (set (replicate (d.len / 16) false) 0 true) ≡ d.len / 16 = length-set (replicate (d.len / 16) false) 0 true ∙ length-replicate (d.len / 16) false in
          let small = (ok.shape indirect).1 in
          let there = tracks-new q m p marks parts d in_ring t e (ok.shape indirect).0 (omega arith) (subst (λ (s : Position). Follows q m t.before p s) (sym same) follows) in
          subst (λ (s : Position). Tracks q m s new (with_part parts d)) same
          (subst (λ (l : List Bool). Tracks q m x l (with_part parts d)) (sym (marked true indirect x same)) there))
      | inr (direct, next, same) ↦
          (let one = unmarked-set marks d.next (let l = ok.inside direct next in omega arith) (ok.unseen direct next) in
          let there = tracks-same q m p marks parts d len t e (ok.inside direct next) (omega arith) (subst (λ (s : Position). Follows q m t.before p s) (sym same) follows) in
          subst (λ (s : Position). Tracks q m s new (with_part parts d)) same
          (subst (λ (l : List Bool). Tracks q m y l (with_part parts d)) (sym (marked false direct y same)) there))
    ]

-- which position follows, by cases, with what passed tests say
pub next_range : (p r : Position) (seen : Bool) (parts : List Part) (d : Descriptor) → Passed parts seen p d → p.table.number ≤ 1 → position_after p d ≡ Some r → (r.table.number ≤ 1) × (r.index < r.table.entries)
next_range p r seen parts d ok low g =
    let P : Position → Type 0 = λ s. (s.table.number ≤ 1) × (s.index < s.table.entries) in
    elim (next_by (is_indirect d) (has_next d) (record { table = record { number = 1; at = d.at; entries = d.len / 16 }; index = 0 }) (record { table = p.table; index = d.next }) r g) [
      | inl (indirect, same) ↦ subst P same (omega arith, (ok.shape indirect).0)
      | inr (direct, next, same) ↦ subst P same (low, ok.inside direct next)
    ]

-- the head is outside the table
pub ends-headless : (q : TraceStart) (m : Memory) → q.ring.size ≤ q.head → EndsSoon q m (fault_of (first_position q) Head)
unfolding ending_at
ends-headless q m h =
    let inside : nat_le q.ring.size q.head ≡ true = grind (arith, nat_tests) in
    record { last = first_position q; before = []; trace = refl; ends = rw inside refl; soon = omega arith }

-- With no indirect tables the next position is in the same one.
pub table-direct : (p r : Position) (parts : List Part) (seen : Bool) (d : Descriptor) → first_kind false parts seen p d ≡ None → position_after p d ≡ Some r → r.table ≡ p.table
table-direct p r parts seen d f g = elim (next_by (is_indirect d) (has_next d) (record { table = record { number = 1; at = d.at; entries = d.len / 16 }; index = 0 }) (record { table = p.table; index = d.next }) r g) [
  | inl (indirect, same) ↦ absurd (never (is_indirect d) (p.table.number == 1) indirect f)
  | inr (direct, next, same) ↦ sym (ap (λ (s : Position). s.table) same)
] where
  never : (i n : Bool) → i ≡ true → cond i (cond n (Some Nested) (Some Shape)) (cond (breaks_order parts d) (Some Order) (cond (is_long parts d) (Some Long) (cond (leaves_table p d) (Some Next) (cond (has_next d && seen) (Some Loop) None)))) ≡ None → ⊥
  never true true e h = cc
  never true false e h = cc
  never false n e h = cc

new_len : (p r : Position) (marks : List Bool) (seen : Bool) (parts : List Part) (d : Descriptor) → length marks ≡ p.table.entries → position_after p d ≡ Some r → length (set (cond (is_indirect d) (replicate r.table.entries false) marks) r.index true) ≡ r.table.entries
new_len p r marks seen parts d len g =
    let P : Position → Type 0 = λ s. length (set (cond (is_indirect d) (replicate s.table.entries false) marks) s.index true) ≡ s.table.entries in
    elim (next_by (is_indirect d) (has_next d) (record { table = record { number = 1; at = d.at; entries = d.len / 16 }; index = 0 }) (record { table = p.table; index = d.next }) r g) [
      | inl (indirect, same) ↦ subst P same (ap (λ (b : Bool). length (set (cond b (replicate (d.len / 16) false) marks) 0 true)) indirect ∙ length-set (replicate (d.len / 16) false) 0 true ∙ length-replicate (d.len / 16) false)
      | inr (direct, next, same) ↦ subst P same (ap (λ (b : Bool). length (set (cond b (replicate p.table.entries false) marks) d.next true)) direct ∙ length-set marks d.next true ∙ len)
    ]

-- a trace that goes on
record GoesOn (q : TraceStart) (m : Memory) (most : ℕ) : Type 0 where
  position : Position
  marks : List Bool
  parts : List Part
  low : position.table.number ≤ 1
  len : length marks ≡ position.table.entries
  tracks : Tracks q m position marks parts
  less : (1 - position.table.number) * 65536 + unmarked marks < most

-- a trace ends at p, or goes on
ends_or_goes_on : (q : TraceStart) (m : Memory) → q.head < q.ring.size → (p : Position) (marks : List Bool) (parts : List Part) → p.table.number ≤ 1 → length marks ≡ p.table.entries → Tracks q m p marks parts
    → (read : Result Descriptor ℕ) → descriptor_at m p ≡ read → ((e : Ending) × EndsSoon q m e) ⊎ GoesOn q m ((1 - p.table.number) * 65536 + unmarked marks)
ends_or_goes_on q m h p marks parts low len t (Err a) e = inl (missing a, ends-missing q m p marks parts a h t e)
ends_or_goes_on q m h p marks parts low len t (Ok d) e = tests (first_kind q.negotiated parts (get_or marks d.next false) p d) refl
  where
    on : first_kind q.negotiated parts (get_or marks d.next false) p d ≡ None → (r : Option Position) → position_after p d ≡ r → ((e : Ending) × EndsSoon q m e) ⊎ GoesOn q m ((1 - p.table.number) * 65536 + unmarked marks)
    on f None g = inl (whole (chain_of q.head (with_part parts d)), ends-whole q m p marks parts d h t e f g)
    on f (Some r) g =
        let ok = passed q.negotiated parts (get_or marks d.next false) p d f in
        let new = set (cond (is_indirect d) (replicate r.table.entries false) marks) r.index true in
        inr (record {
          position = r;
          marks = new;
          parts = with_part parts d;
          low = (next_range p r (get_or marks d.next false) parts d ok low g).0;
          len = new_len p r marks (get_or marks d.next false) parts d len g;
          tracks = tracks-next q m p r marks new parts d h low len t e f g refl;
          less = fewer p r marks new parts d low len ok g refl;
        })

    tests : (k : Option ChainKind) → first_kind q.negotiated parts (get_or marks d.next false) p d ≡ k → ((e : Ending) × EndsSoon q m e) ⊎ GoesOn q m ((1 - p.table.number) * 65536 + unmarked marks)
    tests (Some kind) f = inl (fault_of p kind, ends-faulty q m p marks parts d kind h t e f)
    tests None f = on f (position_after p d) refl

-- Each trace ends: n bounds what it may still come to.
ends_within : (q : TraceStart) (m : Memory) → q.head < q.ring.size → (n : ℕ) → GoesOn q m n → (e : Ending) × EndsSoon q m e
ends_within q m h zero on = absurd (let l = on.less in omega arith)
ends_within q m h (suc n) on = elim (ends_or_goes_on q m h on.position on.marks on.parts on.low on.len on.tracks (descriptor_at m on.position) refl) [
  | inl end ↦ end
  | inr next ↦ ends_within q m h n (record { position = next.position; marks = next.marks; parts = next.parts; low = next.low; len = next.len; tracks = next.tracks; less = (let a = next.less in let b = on.less in omega arith) })
]

pub some_end : (q : TraceStart) (m : Memory) → (e : Ending) × EndsSoon q m e
some_end q m = elim (cases_lt q.head q.ring.size) [
  | inl inside ↦
      (let marks = set (replicate q.ring.size false) q.head true in
      ends_within q m inside (suc (65536 + unmarked marks)) (record {
        position = first_position q;
        marks = marks;
        parts = [];
        low = omega arith;
        len = length-set (replicate q.ring.size false) q.head true ∙ length-replicate q.ring.size false;
        tracks = tracks-start q m marks inside refl;
        less = omega arith;
      }))
  | inr outside ↦ (fault_of (first_position q) Head, ends-headless q m outside)
]

-- a position at which the trace doesn't end
going_on : (q : TraceStart) (m : Memory) (before : List Position) (r p : Position) (k : ℕ) → ending_at q m before r ≡ None → next_position m r ≡ Some p → ending_within (suc k) q m before r ≡ ending_within k q m (r ∷ before) p
unfolding ending_within
going_on q m before r p k e n = rw (e, n, ending_within) refl

-- a position at which it ends
stopping : (q : TraceStart) (m : Memory) (before : List Position) (p : Position) (end : Ending) (k : ℕ) → ending_at q m before p ≡ Some end → ending_within (suc k) q m before p ≡ Some end
unfolding ending_within
stopping q m before p end k e = rw (e, ending_within) refl

-- what is left of a trace after its positions so far
ending_within-trace : (q : TraceStart) (m : Memory) (p : Position) (before : List Position) → IsTrace q m (p ∷ before) → (k : ℕ) → ending_within (length before + k) q m [] (first_position q) ≡ ending_within k q m before p
ending_within-trace q m p [] t k =
    let none : 0 + k ≡ k = omega arith in
    ap (λ (n : ℕ). ending_within n q m [] (first_position q)) none ∙ ap (λ (x : Position). ending_within k q m [] x) (sym t)
ending_within-trace q m p (r ∷ before) t k =
    let more : length (r ∷ before) + k ≡ length before + suc k = omega arith in
    ap (λ (n : ℕ). ending_within n q m [] (first_position q)) more
    ∙ ending_within-trace q m r before t.0 (suc k)
    ∙ going_on q m before r p k t.1.goes_on t.1.next

ending_within-soon : (q : TraceStart) (m : Memory) (end : Ending) → EndsSoon q m end → ending_within (65537 + q.ring.size) q m [] (first_position q) ≡ Some end
ending_within-soon q m end e =
    let k = 65536 + q.ring.size - length e.before in
    let soon = e.soon in
    let all : 65537 + q.ring.size ≡ length e.before + suc k = omega arith in
    ap (λ (n : ℕ). ending_within n q m [] (first_position q)) all
    ∙ ending_within-trace q m e.last e.before e.trace (suc k)
    ∙ stopping q m e.before e.last end k e.ends

-- the trace ends as it is computed
pub ends-ending_of : (q : TraceStart) (m : Memory) → EndsAs q m (ending_of q m)
ends-ending_of q m =
    let e = some_end q m in
    let same : ending_of q m ≡ e.0 = ap (λ (o : Option Ending). unwrap_or o (missing 0)) (ending_within-soon q m e.0 e.1) in
    subst (λ (end : Ending). EndsAs q m end) (sym same) (soon-ends q m e.0 e.1)
