-- The parts of a chain that a device reads, one after another.
use Rattle.std.proofs.Common.{◌≡◌, ℕ, suc, ◌+◌, ◌-◌, ◌≤◌, ◌<◌, Bool, true, false, if◌then◌else◌, List, [], ◌∷◌, ◌++◌, length, take, drop, get_or, Result, Ok, Err, refl, sym, ap, subst, ◌∙◌, arith}
use Rattle.std.proofs.lemmas.List.{take_more, append_assoc, append-nil, take-append-drop}
use Rattle.std.proofs.Math.Seq.{drop-cons}
use Rattle.std.proofs.lemmas.Grind.{common_steps}
use Rattle.std.proofs.lemmas.List.Sums.{sum_by-take-le}
use Rattle.vr_chain.proofs.Sums.{readable-push, writable-push}
use Rattle.vd_model.specs.Trace.{readable_len, writable_len}
use Rattle.vd_model.specs.Memory.{Memory, read}
use Rattle.vd_model.specs.declared.parts.Part.{Part}
use Rattle.vd_model.specs.DaemonTurns.{bytes_then, readable_bytes}
use Rattle.vd_num.specs.declared.number.Bus.{Bus}
use Rattle.blk_daemon.specs.Parts.{ReadsParts}

then_assoc : (a b c : Result (List ℕ) ℕ) → bytes_then (bytes_then a b) c ≡ bytes_then a (bytes_then b c)
then_assoc (Err at) b c = refl
then_assoc (Ok xs) (Err at) c = refl
then_assoc (Ok xs) (Ok ys) (Err at) = refl
then_assoc (Ok xs) (Ok ys) (Ok zs) = ap Ok (append_assoc xs ys zs)

none_then : (b : Result (List ℕ) ℕ) → b ≡ bytes_then (Ok []) b
none_then (Ok ys) = refl
none_then (Err at) = refl

-- the bytes of a part in front of others
part_then : (m : Memory) (p : Part) (xs zs : List Part) (ys : Result (List ℕ) ℕ) → readable_bytes m zs ≡ bytes_then (readable_bytes m xs) ys
    → (if p.writable then readable_bytes m zs else bytes_then (read m p.at p.len) (readable_bytes m zs))
    ≡ bytes_then (if p.writable then readable_bytes m xs else bytes_then (read m p.at p.len) (readable_bytes m xs)) ys
part_then m p xs zs ys rest = by p.writable where
  by : (w : Bool) → (if w then readable_bytes m zs else bytes_then (read m p.at p.len) (readable_bytes m zs))
      ≡ bytes_then (if w then readable_bytes m xs else bytes_then (read m p.at p.len) (readable_bytes m xs)) ys
  by true = rest
  by false = ap (bytes_then (read m p.at p.len)) rest ∙ sym (then_assoc (read m p.at p.len) (readable_bytes m xs) ys)

-- the bytes of parts behind parts
readable-append : (m : Memory) (xs ys : List Part) → readable_bytes m (xs ++ ys) ≡ bytes_then (readable_bytes m xs) (readable_bytes m ys)
readable-append m [] ys = none_then (readable_bytes m ys)
readable-append m (x ∷ xs) ys = part_then m x xs (xs ++ ys) (readable_bytes m ys) (readable-append m xs ys)

-- the bytes of one part
one_part : (m : Memory) (p : Part) (bytes : List ℕ) → p.writable ≡ false → read m p.at p.len ≡ Ok bytes → readable_bytes m (p ∷ []) ≡ Ok bytes
one_part m p bytes reads now = rw (reads, now) (ap Ok (append-nil bytes))

-- one part more that the device reads
pub readable_more : (m : Memory) (parts : List Part) (i : ℕ) (d : Part) (front bytes : List ℕ) → i < length parts → (get_or parts i d).writable ≡ false → readable_bytes m (take i parts) ≡ Ok front
    → read m (get_or parts i d).at (get_or parts i d).len ≡ Ok bytes → readable_bytes m (take (i + 1) parts) ≡ Ok (front ++ bytes)
readable_more m parts i d front bytes within reads before now =
    ap (readable_bytes m) (take_more parts i d within)
    ∙ readable-append m (take i parts) (get_or parts i d ∷ [])
    ∙ ap (λ (r : Result (List ℕ) ℕ). bytes_then r (readable_bytes m (get_or parts i d ∷ []))) before
    ∙ ap (bytes_then (Ok front)) (one_part m (get_or parts i d) bytes reads now)

-- one part more that it writes
pub readable_skip : (m : Memory) (parts : List Part) (i : ℕ) (d : Part) (front : List ℕ) → i < length parts → (get_or parts i d).writable ≡ true → readable_bytes m (take i parts) ≡ Ok front → readable_bytes m (take (i + 1) parts) ≡ Ok front
readable_skip m parts i d front within writes before =
    let none : readable_bytes m (get_or parts i d ∷ []) ≡ Ok [] = rw writes refl in
    ap (readable_bytes m) (take_more parts i d within)
    ∙ readable-append m (take i parts) (get_or parts i d ∷ [])
    ∙ ap (λ (r : Result (List ℕ) ℕ). bytes_then r (readable_bytes m (get_or parts i d ∷ []))) before
    ∙ ap (bytes_then (Ok front)) none
    ∙ ap Ok (append-nil front)

-- a part that can't be read
pub readable_fails : (m : Memory) (parts : List Part) (i : ℕ) (d : Part) (front : List ℕ) (at : ℕ) → i < length parts → (get_or parts i d).writable ≡ false → readable_bytes m (take i parts) ≡ Ok front
    → read m (get_or parts i d).at (get_or parts i d).len ≡ Err at → readable_bytes m parts ≡ Err at
readable_fails m parts i d front at within reads before now =
    let behind : readable_bytes m (get_or parts i d ∷ drop (suc i) parts) ≡ Err at = rw (reads, now) refl in
    ap (readable_bytes m) (sym (take-append-drop i parts))
    ∙ readable-append m (take i parts) (drop i parts)
    ∙ ap (λ (r : Result (List ℕ) ℕ). bytes_then r (readable_bytes m (drop i parts))) before
    ∙ ap (λ (ps : List Part). bytes_then (Ok front) (readable_bytes m ps)) (drop-cons parts i d within)
    ∙ ap (bytes_then (Ok front)) behind

-- the lengths of parts up to one more, and that no part of them is longer than all
pub readable_count : (parts : List Part) (i : ℕ) (d : Part) (w : Bool) → i < length parts → (get_or parts i d).writable ≡ w → readable_len (take (i + 1) parts) ≡ readable_len (take i parts) + (if w then 0 else (get_or parts i d).len)
readable_count parts i d w within e = ap readable_len (take_more parts i d within) ∙ readable-push (take i parts) (get_or parts i d) w e

pub readable_within : (parts : List Part) (i : ℕ) → readable_len (take i parts) ≤ readable_len parts
readable_within parts i = sum_by-take-le (λ (q : Part). if q.writable then 0 else q.len) parts i

-- the bytes that a part has among them all
pub part_room : (xs : List ℕ) (at n : ℕ) → at + n ≤ length xs → length (take (at + n - at) (drop at xs)) ≡ n
part_room xs at n within = grind (arith, common_steps)

-- the answer of parts that can't be read
pub reads_fail : (m : Memory) (parts : List Part) (r : Result (Unit {0}) Bus) (bus : Bus) (bytes : List ℕ) → r ≡ Err bus → readable_bytes m parts ≡ Err bus.at → ReadsParts m parts r bytes
reads_fail m parts r bus bytes is e = subst (λ (x : Result (Unit {0}) Bus). ReadsParts m parts x bytes) (sym is) e

-- the same of the parts that it writes
pub writable_count : (parts : List Part) (i : ℕ) (d : Part) (w : Bool) → i < length parts → (get_or parts i d).writable ≡ w → writable_len (take (i + 1) parts) ≡ writable_len (take i parts) + (if w then (get_or parts i d).len else 0)
writable_count parts i d w within e = ap writable_len (take_more parts i d within) ∙ writable-push (take i parts) (get_or parts i d) w e

pub writable_within : (parts : List Part) (i : ℕ) → writable_len (take i parts) ≤ writable_len parts
writable_within parts i = sum_by-take-le (λ (q : Part). if q.writable then q.len else 0) parts i
