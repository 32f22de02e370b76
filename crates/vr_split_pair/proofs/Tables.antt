-- A chain is written into the table of a ring.
use Rattle.std.proofs.Common.{◌≡◌, ℕ, zero, suc, ◌+◌, ◌*◌, ◌<◌, ◌≤◌, true, false, nat_lt, List, [], ◌∷◌, length, Ok, refl, sym, ap, subst, ◌∙◌, ◌⊎◌, inl, inr, arith}
use Rattle.std.specs.Prelude.{IsSome, slice_index, slice_index_or}
use Rattle.std.proofs.lemmas.Bool.{cases_lt}
use Rattle.std.proofs.lemmas.Bool.Decides.{nat_tests}
use Rattle.vd_model.specs.Memory.{Memory, read, written}
use Rattle.vd_model.specs.RingTurns.{descriptor_bytes, flags_of}
use Rattle.vd_model.specs.declared.parts.Part.{Part}
use Rattle.vd_model.specs.declared.queue.RingPlace.{RingPlace}
use Rattle.vd_laws.specs.Among.{Among}
use Rattle.vd_ring_laws.specs.ChainLaw.{AreDistinct}
use Rattle.vd_ring_laws.specs.TraceLaw.{IsLinked}
use Rattle.vr_split.specs.MemLemmas.{read-written, read-written_apart}
use Rattle.vr_split.specs.ReachLemmas.{there-written}
use Rattle.vr_driver.specs.Driver.{chain_written, with_descriptor, part_descriptor, no_part}

abbrev first_entry : List Part → Part → ℕ → Memory → RingPlace → ℕ → Memory
first_entry ps p next m r d = with_descriptor m r d (part_descriptor p (nat_lt 1 (length (p ∷ ps))) next)

-- the first descriptor, and then the others
chain_first : (m : Memory) (r : RingPlace) (p : Part) (ps : List Part) (d : ℕ) (ds : List ℕ) (n : ℕ)
    → chain_written m r (p ∷ ps) (d ∷ ds) (suc n) ≡ chain_written (first_entry ps p (slice_index (d ∷ ds) 1) m r d) r ps ds n
unfolding chain_written
chain_first m r p ps d ds zero = refl
chain_first m r p ps d ds (suc n) =
    let start = first_entry ps p (slice_index (d ∷ ds) 1) m r d in
    let next : suc n + 1 ≡ suc (n + 1) = omega arith in
    let test : nat_lt (suc n + 1) (length (p ∷ ps)) ≡ nat_lt (n + 1) (length ps) = more n (length ps) in
    ap (λ w. with_descriptor w r (slice_index ds n) (part_descriptor (slice_index_or ps n no_part) (nat_lt (suc n + 1) (length (p ∷ ps))) (slice_index (d ∷ ds) (suc n + 1)))) (chain_first m r p ps d ds n)
    ∙ ap (λ t. with_descriptor (chain_written start r ps ds n) r (slice_index ds n) (part_descriptor (slice_index_or ps n no_part) t (slice_index (d ∷ ds) (suc n + 1)))) test
    ∙ ap (λ k. with_descriptor (chain_written start r ps ds n) r (slice_index ds n) (part_descriptor (slice_index_or ps n no_part) (nat_lt (n + 1) (length ps)) (slice_index (d ∷ ds) k))) next where
      more : (n m : ℕ) → nat_lt (suc n + 1) (suc m) ≡ nat_lt (n + 1) m
      more n m = grind (arith, nat_tests)

-- the entries of two descriptors are apart
entries-apart : (base d e : ℕ) → (d ≡ e → ⊥) → (base + 16 * d + 16 ≤ base + 16 * e) ⊎ (base + 16 * e + 16 ≤ base + 16 * d)
entries-apart base d e other = elim (cases_lt d e) [
  | inl less ↦ inl (omega arith)
  | inr more ↦ elim (cases_lt e d) [
    | inl less ↦ inr (omega arith)
    | inr same ↦ absurd (other (omega arith))
  ]
]

-- what is apart from an entry
entry-apart : (m : Memory) (at len flags next to a n : ℕ) → (a + n ≤ to) ⊎ (to + 16 ≤ a) → read (written m to (descriptor_bytes at len flags next)) a n ≡ read m a n
entry-apart m at len flags next to a n h = read-written_apart m to (descriptor_bytes at len flags next) a n h

-- an entry that isn't written
pub entry-kept : (n : ℕ) (m : Memory) (r : RingPlace) (ps : List Part) (ds : List ℕ) (d : ℕ) → n ≤ length ps → length ds ≡ length ps → (Among d ds → ⊥)
    → read (chain_written m r ps ds n) (r.desc + 16 * d) 16 ≡ read m (r.desc + 16 * d) 16
unfolding chain_written
entry-kept zero m r ps ds d few len other = refl
entry-kept (suc n) m r [] ds d few len other = absurd (omega arith)
entry-kept (suc n) m r (p ∷ ps) [] d few len other = absurd (omega arith)
entry-kept (suc n) m r (p ∷ ps) (e ∷ ds) d few len other =
    let start = first_entry ps p (slice_index (e ∷ ds) 1) m r e in
    ap (λ (w : Memory). read w (r.desc + 16 * d) 16) (chain_first m r p ps e ds n)
    ∙ entry-kept n start r ps ds d (omega arith) (omega arith) (λ there. other (inr there))
    ∙ entry-apart m p.at p.len (flags_of (nat_lt 1 (length (p ∷ ps))) p.writable) (slice_index (e ∷ ds) 1) (r.desc + 16 * e) (r.desc + 16 * d) 16 (entries-apart r.desc d e (λ same. other (inl same)))

-- what stands outside of the table stays
pub table-apart : (n : ℕ) (m : Memory) (r : RingPlace) (ps : List Part) (ds : List ℕ) (a k : ℕ) → n ≤ length ps → length ds ≡ length ps → ((d : ℕ) → Among d ds → d < r.size) → r.desc + 16 * r.size ≤ a
    → read (chain_written m r ps ds n) a k ≡ read m a k
unfolding chain_written
table-apart zero m r ps ds a k few len low past = refl
table-apart (suc n) m r [] ds a k few len low past = absurd (omega arith)
table-apart (suc n) m r (p ∷ ps) [] a k few len low past = absurd (omega arith)
table-apart (suc n) m r (p ∷ ps) (e ∷ ds) a k few len low past =
    let start = first_entry ps p (slice_index (e ∷ ds) 1) m r e in
    let inside = low e (inl refl) in
    ap (λ (w : Memory). read w a k) (chain_first m r p ps e ds n)
    ∙ table-apart n start r ps ds a k (omega arith) (omega arith) (λ d there. low d (inr there)) past
    ∙ entry-apart m p.at p.len (flags_of (nat_lt 1 (length (p ∷ ps))) p.writable) (slice_index (e ∷ ds) 1) (r.desc + 16 * e) a k (inr (omega arith))

-- nothing is taken away
pub there-chain : (n : ℕ) (m : Memory) (r : RingPlace) (ps : List Part) (ds : List ℕ) (a : ℕ) → IsSome (m a) → IsSome (chain_written m r ps ds n a)
unfolding chain_written
there-chain zero m r ps ds a h = h
there-chain (suc n) m r ps ds a h =
    let d = part_descriptor (slice_index_or ps n no_part) (nat_lt (n + 1) (length ps)) (slice_index ds (n + 1)) in
    there-written (chain_written m r ps ds n) (r.desc + 16 * slice_index ds n) (descriptor_bytes d.at d.len d.flags d.next) a (there-chain n m r ps ds a h)

-- a table that has a chain, where its entries stay
pub linked-kept : (m m' : Memory) (r : RingPlace) (ps : List Part) (ds : List ℕ) → ((d : ℕ) → Among d ds → read m' (r.desc + 16 * d) 16 ≡ read m (r.desc + 16 * d) 16) → IsLinked m r ps ds → IsLinked m' r ps ds
linked-kept m m' r [] ds same h = h
linked-kept m m' r (p ∷ ps) [] same h = h
linked-kept m m' r (p ∷ []) (d ∷ []) same h = same d (inl refl) ∙ h
linked-kept m m' r (p ∷ []) (d ∷ e ∷ ds) same h = h
linked-kept m m' r (p ∷ q ∷ ps) (d ∷ []) same h = h
linked-kept m m' r (p ∷ q ∷ ps) (d ∷ e ∷ ds) same h = (same d (inl refl) ∙ h.0, linked-kept m m' r (q ∷ ps) (e ∷ ds) (λ k there. same k (inr there)) h.1)

-- what was written is there
pub linked-written : (m : Memory) (r : RingPlace) (ps : List Part) (ds : List ℕ) → 0 < length ps → length ds ≡ length ps → AreDistinct ds → IsLinked (chain_written m r ps ds (length ps)) r ps ds
unfolding chain_written
linked-written m r [] ds some len distinct = absurd (omega arith)
linked-written m r (p ∷ ps) [] some len distinct = absurd (omega arith)
linked-written m r (p ∷ []) (d ∷ []) some len distinct = read-written m (r.desc + 16 * d) (descriptor_bytes p.at p.len (flags_of false p.writable) 0)
linked-written m r (p ∷ []) (d ∷ e ∷ ds) some len distinct = absurd (omega arith)
linked-written m r (p ∷ q ∷ ps) (d ∷ []) some len distinct = absurd (omega arith)
linked-written m r (p ∷ q ∷ ps) (d ∷ e ∷ ds) some len distinct =
    let bytes = descriptor_bytes p.at p.len (flags_of true p.writable) e in
    let start = written m (r.desc + 16 * d) bytes in
    let same : chain_written m r (p ∷ q ∷ ps) (d ∷ e ∷ ds) (length (p ∷ q ∷ ps)) ≡ chain_written start r (q ∷ ps) (e ∷ ds) (length (q ∷ ps)) = chain_first m r p (q ∷ ps) d (e ∷ ds) (length (q ∷ ps)) ∙ ap (λ t. chain_written (with_descriptor m r d (part_descriptor p t e)) r (q ∷ ps) (e ∷ ds) (length (q ∷ ps))) (two (length ps)) in
    let here : read (chain_written start r (q ∷ ps) (e ∷ ds) (length (q ∷ ps))) (r.desc + 16 * d) 16 ≡ Ok bytes =
    entry-kept (length (q ∷ ps)) start r (q ∷ ps) (e ∷ ds) d (omega arith) (omega arith) distinct.0 ∙ read-written m (r.desc + 16 * d) bytes in
    let rest = linked-written start r (q ∷ ps) (e ∷ ds) (omega arith) (omega arith) distinct.1 in
    subst (λ (w : Memory). IsLinked w r (p ∷ q ∷ ps) (d ∷ e ∷ ds)) (sym same) (here, rest) where
      two : (n : ℕ) → nat_lt 1 (suc (suc n)) ≡ true
      two n = grind (arith, nat_tests)
