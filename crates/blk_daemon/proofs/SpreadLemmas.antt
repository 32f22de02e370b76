-- What a finish tests and stores, part by part.
use Rattle.std.proofs.Common.{◌≡◌, ℕ, zero, suc, ◌+◌, ◌<◌, ◌≤◌, ◌^◌, Bool, true, false, if◌then◌else◌, List, [], ◌∷◌, length, take, drop, get_or, Option, Some, None, Result, Ok, Err, refl, sym, ap, subst, ◌∙◌, arith}
use Rattle.std.specs.Prelude.{IsOk, IsSome}
use Rattle.std.proofs.Math.Seq.{drop-cons}
use Rattle.vd_model.specs.Memory.{Memory, IsFinite, read, byte_then, written}
use Rattle.vd_model.specs.declared.parts.Part.{Part}
use Rattle.vr_split.specs.ReachLemmas.{there-written}
use Rattle.blk_daemon.specs.Finished.{missing_at, either_of, first_unwritable, spread_over}

-- A RANGE in pieces

ok_then : (at : ℕ) (o : Option ℕ) (r : Result (List ℕ) ℕ) → IsOk (byte_then at o r) → (IsSome o) × (IsOk r)
ok_then at None r h = absurd (cc)
ok_then at (Some b) (Ok bytes) h = (refl, refl)
ok_then at (Some b) (Err missing) h = absurd (cc)

then_ok : (at : ℕ) (o : Option ℕ) (r : Result (List ℕ) ℕ) → IsSome o → IsOk r → IsOk (byte_then at o r)
then_ok at None r s h = absurd (cc)
then_ok at (Some b) (Ok bytes) s h = refl
then_ok at (Some b) (Err missing) s h = absurd (cc)

then_err : (at : ℕ) (o : Option ℕ) (r : Result (List ℕ) ℕ) (missing : ℕ) → IsSome o → r ≡ Err missing → byte_then at o r ≡ Err missing
then_err at None r missing s e = absurd (cc)
then_err at (Some b) r missing s e = ap (byte_then at (Some b)) e

-- a byte is missing here or further on
missing_first : (at : ℕ) (o : Option ℕ) (r s : Result (List ℕ) ℕ) (missing : ℕ) → byte_then at o r ≡ Err missing → (r ≡ Err missing → s ≡ Err missing) → byte_then at o s ≡ Err missing
missing_first at None r s missing e goes = e
missing_first at (Some b) (Ok bytes) s missing e goes = absurd (cc)
missing_first at (Some b) (Err other) s missing e goes =
    let same : other ≡ missing = cc in
    then_err at (Some b) s missing refl (goes (ap Err same))

pub there_both : (m : Memory) (at a b : ℕ) → IsOk (read m at a) → IsOk (read m (at + a) b) → IsOk (read m at (a + b))
unfolding read
there_both m at zero b h g =
    let here : at + 0 ≡ at = omega arith in
    let none : 0 + b ≡ b = omega arith in
    rw none (subst (λ (x : ℕ). IsOk (read m x b)) here g)
there_both m at (suc a) b h g =
    let one = ok_then at (m at) (read m (at + 1) a) h in
    let next : at + suc a ≡ at + 1 + a = omega arith in
    let len : suc a + b ≡ suc (a + b) = omega arith in
    rw len (then_ok at (m at) (read m (at + 1) (a + b)) one.0 (there_both m (at + 1) a b one.1 (subst (λ (x : ℕ). IsOk (read m x b)) next g)))

pub missing_behind : (m : Memory) (at a b missing : ℕ) → IsOk (read m at a) → read m (at + a) b ≡ Err missing → read m at (a + b) ≡ Err missing
unfolding read
missing_behind m at zero b missing h g =
    let here : at + 0 ≡ at = omega arith in
    let none : 0 + b ≡ b = omega arith in
    rw none (subst (λ (x : ℕ). read m x b ≡ Err missing) here g)
missing_behind m at (suc a) b missing h g =
    let one = ok_then at (m at) (read m (at + 1) a) h in
    let next : at + suc a ≡ at + 1 + a = omega arith in
    let len : suc a + b ≡ suc (a + b) = omega arith in
    rw len (then_err at (m at) (read m (at + 1) (a + b)) missing one.0 (missing_behind m (at + 1) a b missing one.1 (subst (λ (x : ℕ). read m x b ≡ Err missing) next g)))

byte_below : (m : Memory) (a : ℕ) → IsFinite m → (o : Option ℕ) → m a ≡ o → IsSome o → a < 2 ^ 32
byte_below m a finite None e some = absurd (cc)
byte_below m a finite (Some b) e some = finite a b e

-- what is there ends below 2 ^ 32
pub there_below : (m : Memory) (at n : ℕ) → IsFinite m → 0 < n → IsOk (read m at n) → at + n ≤ 2 ^ 32
unfolding read
there_below m at zero finite some h = absurd (omega arith)
there_below m at (suc zero) finite some h =
    let one = ok_then at (m at) (read m (at + 1) zero) h in
    let below = byte_below m at finite (m at) refl one.0 in
    omega arith
there_below m at (suc (suc n)) finite some h =
    let one = ok_then at (m at) (read m (at + 1) (suc n)) h in
    let rest = there_below m (at + 1) (suc n) finite (omega arith) one.1 in
    omega arith

-- and stays there
pub read-stays : (m : Memory) (to : ℕ) (bytes : List ℕ) (a n : ℕ) → IsOk (read m a n) → IsOk (read (written m to bytes) a n)
unfolding read
read-stays m to bytes a zero h = refl
read-stays m to bytes a (suc n) h =
    let one = ok_then a (m a) (read m (a + 1) n) h in
    then_ok a (written m to bytes a) (read (written m to bytes) (a + 1) n) (there-written m to bytes a one.0) (read-stays m to bytes (a + 1) n one.1)

pub not_both : (r : Result (List ℕ) ℕ) (e : ℕ) → IsOk r → r ≡ Err e → ⊥
not_both (Ok bytes) e h g = cc
not_both (Err missing) e h g = cc

-- PARTS

none_missing : (r : Result (List ℕ) ℕ) → missing_at r ≡ None → IsOk r
none_missing (Ok bytes) e = refl
none_missing (Err at) e = absurd (cc)

missing_none : (r : Result (List ℕ) ℕ) → IsOk r → missing_at r ≡ None
missing_none (Ok bytes) e = refl
missing_none (Err at) e = absurd (cc)

first_none : (a b : Option ℕ) → either_of a b ≡ None → (a ≡ None) × (b ≡ None)
first_none None b e = (refl, e)
first_none (Some at) b e = absurd (cc)

both_none : (a b : Option ℕ) → a ≡ None → b ≡ None → either_of a b ≡ None
both_none None b e f = f
both_none (Some at) b e f = absurd (cc)

-- the next part that the device writes is there, and so are those after it
pub next_there : (m : Memory) (p : Part) (rest : List Part) → p.writable ≡ true → first_unwritable m (p ∷ rest) ≡ None → IsOk (read m p.at p.len) × (first_unwritable m rest ≡ None)
next_there m p rest writes e =
    let split : either_of (missing_at (read m p.at p.len)) (first_unwritable m rest) ≡ None = rw writes at e in
    let both = first_none (missing_at (read m p.at p.len)) (first_unwritable m rest) split in
    (none_missing (read m p.at p.len) both.0, both.1)

-- a store takes nothing away
part_stays : (m : Memory) (to : ℕ) (bytes : List ℕ) (p : Part) (w : Bool) (a b : Option ℕ) → (b ≡ None) → (if w then either_of (missing_at (read m p.at p.len)) a else a) ≡ None
    → (if w then either_of (missing_at (read (written m to bytes) p.at p.len)) b else b) ≡ None
part_stays m to bytes p true a b rest e =
    let there = none_missing (read m p.at p.len) (first_none (missing_at (read m p.at p.len)) a e).0 in
    both_none _ b (missing_none _ (read-stays m to bytes p.at p.len there)) rest
part_stays m to bytes p false a b rest e = rest

rest_none : (w : Bool) (r a : Option ℕ) → (if w then either_of r a else a) ≡ None → a ≡ None
rest_none true r a e = (first_none r a e).1
rest_none false r a e = e

pub unwritable_stays : (m : Memory) (to : ℕ) (bytes : List ℕ) (parts : List Part) → first_unwritable m parts ≡ None → first_unwritable (written m to bytes) parts ≡ None
unwritable_stays m to bytes [] e = refl
unwritable_stays m to bytes (p ∷ parts) e =
    let rest = rest_none p.writable (missing_at (read m p.at p.len)) (first_unwritable m parts) e in
    part_stays m to bytes p p.writable (first_unwritable m parts) (first_unwritable (written m to bytes) parts) (unwritable_stays m to bytes parts rest) e

-- some parts have their bytes, and the rest are there for theirs
pub record IsSpread (m : Memory) (parts : List Part) (bytes : List ℕ) (rest : List Part) (left : List ℕ) (new : Option Memory) : Type 0 where
  pub now : Memory
  pub told : new ≡ Some now
  pub same : spread_over now rest left ≡ spread_over m parts bytes
  pub there : first_unwritable now rest ≡ None

spread_step : (n : Memory) (p : Part) (rest : List Part) (left : List ℕ) → p.writable ≡ true → spread_over n (p ∷ rest) left ≡ spread_over (written n p.at (take p.len left)) rest (drop p.len left)
spread_step n p rest left writes = rw writes refl

skip_step : (n : Memory) (p : Part) (rest : List Part) (left : List ℕ) → p.writable ≡ false → spread_over n (p ∷ rest) left ≡ spread_over n rest left
skip_step n p rest left reads = rw reads refl

skip_unwritable : (n : Memory) (p : Part) (rest : List Part) → p.writable ≡ false → first_unwritable n (p ∷ rest) ≡ first_unwritable n rest
skip_unwritable n p rest reads = rw reads refl

pub spread_more : (m : Memory) (parts : List Part) (bytes : List ℕ) (p : Part) (rest : List Part) (left : List ℕ) (old new : Option Memory) → p.writable ≡ true → (s : IsSpread m parts bytes (p ∷ rest) left old)
    → new ≡ Some (written s.now p.at (take p.len left)) → IsSpread m parts bytes rest (drop p.len left) new
spread_more m parts bytes p rest left old new writes s stored = record {
  now = written s.now p.at (take p.len left);
  told = stored;
  same = sym (spread_step s.now p rest left writes) ∙ s.same;
  there = unwritable_stays s.now p.at (take p.len left) rest (next_there s.now p rest writes s.there).1;
}

pub spread_skip : (m : Memory) (parts : List Part) (bytes : List ℕ) (p : Part) (rest : List Part) (left : List ℕ) (old : Option Memory) → p.writable ≡ false → IsSpread m parts bytes (p ∷ rest) left old → IsSpread m parts bytes rest left old
spread_skip m parts bytes p rest left old reads s = record {
  now = s.now;
  told = s.told;
  same = sym (skip_step s.now p rest left reads) ∙ s.same;
  there = sym (skip_unwritable s.now p rest reads) ∙ s.there;
}

-- the parts from one on
pub drop_next : (parts : List Part) (i : ℕ) (d : Part) → i < length parts → drop i parts ≡ get_or parts i d ∷ drop (i + 1) parts
drop_next parts i d within =
    let next : suc i ≡ i + 1 = omega arith in
    drop-cons parts i d within ∙ ap (λ k. get_or parts i d ∷ drop k parts) next

-- the next part, which the device writes or reads
pub part_there : (m : Memory) (p : Part) (rest : List Part) → p.writable ≡ true → IsOk (read m p.at p.len) → first_unwritable m (p ∷ rest) ≡ first_unwritable m rest
part_there m p rest writes there = rw writes (ap (λ o. either_of o (first_unwritable m rest)) (missing_none (read m p.at p.len) there))

pub part_missing : (m : Memory) (p : Part) (rest : List Part) (at : ℕ) → p.writable ≡ true → read m p.at p.len ≡ Err at → first_unwritable m (p ∷ rest) ≡ Some at
part_missing m p rest at writes fails = rw (writes, fails) refl

pub part_read : (m : Memory) (p : Part) (rest : List Part) → p.writable ≡ false → first_unwritable m (p ∷ rest) ≡ first_unwritable m rest
part_read m p rest reads = skip_unwritable m p rest reads

-- no bytes are there, wherever
pub there_none : (m : Memory) (at n : ℕ) → n ≡ 0 → IsOk (read m at n)
unfolding read
there_none m at n e = rw e refl

-- a read that goes on behind a missing byte
pub missing_front : (m : Memory) (at a b missing : ℕ) → read m at a ≡ Err missing → read m at (a + b) ≡ Err missing
unfolding read
missing_front m at zero b missing e = absurd (cc)
missing_front m at (suc a) b missing e =
    let len : suc a + b ≡ suc (a + b) = omega arith in
    rw len (missing_first at (m at) (read m (at + 1) a) (read m (at + 1) (a + b)) missing e (missing_front m (at + 1) a b missing))

pub is_ok : {A E : Type 0} {r : Result A E} {a : A} → r ≡ Ok a → IsOk r
is_ok {r = r} {a = a} e = subst (λ x. IsOk x) (sym e) refl
