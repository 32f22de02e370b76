-- What a request is answered from the sectors of a window, and from a name.
use Rattle.std.proofs.Common.{◌≡◌, ℕ, zero, suc, ◌+◌, ◌-◌, ◌*◌, ◌/◌, ◌%◌, ◌<◌, ◌≤◌, ◌==◌, ◌||◌, not, nat_lt, false, min, List, [], ◌∷◌, ◌++◌, length, take, drop, replicate, set, Option, Some, None, refl, sym, ap, ◌∙◌, inl, inr, arith}
use Rattle.std.specs.Prelude.{IsSome, slice_index}
use Rattle.std.specs.Option.{ForSome, option_map}
use Rattle.std.proofs.Math.Seq.{drop-cons, take-append-add, take-append_seam}
use Rattle.std.proofs.lemmas.Grind.{common_steps}
use Rattle.std.proofs.lemmas.Bool.{cases_lt}
use Rattle.std.proofs.lemmas.Bool.Decides.{nat_tests}
use Rattle.std.proofs.lemmas.List.{take_all, take-append-le, take-replicate, drop-replicate, append-nil, take-set, get_or-set_same, length-set}
use Rattle.vd_io.specs.Sectors.{IsRead}
use Rattle.vd_model.specs.declared.memory.Window.{Window}
use Rattle.vd_model.specs.Puts.{each_from}
use Rattle.vd_model.specs.Block.{block_of, Disk, result_of, id_bytes}
use Rattle.vd_num.specs.Field.{field_at}
use Rattle.blk_daemon.specs.Held.{outcome_in}
use Rattle.blk_daemon.specs.Executed.{IsDisk, Ends, block_with}

-- bytes that a list has from a base on
each_told : (f : ℕ → ℕ) (c : List ℕ) (base from n : ℕ) → base + from + n ≤ length c → ((i : ℕ) → from ≤ i → i < from + n → f i ≡ slice_index c (base + i)) → each_from f from n ≡ take n (drop (base + from) c)
each_told f c base from zero h e = refl
each_told f c base from (suc n) h e =
    let front : drop (base + from) c ≡ slice_index c (base + from) ∷ drop (suc (base + from)) c = drop-cons c (base + from) 0 (omega arith) in
    let next : base + (from + 1) ≡ suc (base + from) = omega arith in
    let rest = each_told f c base (from + 1) n (omega arith) (λ i low high. e i (omega arith) (omega arith)) in
    let same : take n (drop (base + (from + 1)) c) ≡ take n (drop (suc (base + from)) c) = ap (λ k. take n (drop k c)) next in
    ap (λ b. b ∷ each_from f (from + 1) n) (e from (omega arith) (omega arith))
    ∙ ap (λ bs. slice_index c (base + from) ∷ bs) (rest ∙ same)
    ∙ ap (take (suc n)) (sym front)

-- sectors that lie in a window
pub inside_window : (count sector n : ℕ) → (not (n % 512 == 0) || nat_lt count (sector + n / 512)) ≡ false → 512 * sector + n ≤ 512 * count
inside_window count sector n h = grind (arith, nat_tests, h)

same_content : (old : Option (List ℕ)) → old ≡ option_map (λ c. c) old
same_content None = refl
same_content (Some c) = refl

read_bytes : (old : Option (List ℕ)) (f : ℕ → ℕ) (window : Window) (sector n size : ℕ) (into : List ℕ) → length into ≡ n → 512 * sector + n ≤ 512 * window.count → window.first + window.count ≤ size
    → ((c : List ℕ) → old ≡ Some c → length c ≡ 512 * size) → IsRead (window.first + sector) into old
    → ForSome old (λ c. (i : ℕ) → i < 512 * window.count → f i ≡ slice_index c (512 * window.first + i)) → IsSome old → into ≡ each_from f (512 * sector) n
read_bytes None f window sector n size into len within fits told read byte some = cc
read_bytes (Some c) f window sector n size into len within fits told read byte some =
    let total = told c refl in
    let start : 512 * (window.first + sector) ≡ 512 * window.first + 512 * sector = omega arith in
    read ∙ ap (λ k. take k (drop (512 * (window.first + sector)) c)) len ∙ ap (λ k. take n (drop k c)) start
    ∙ sym (each_told f c (512 * window.first) (512 * sector) n (omega arith) (λ i low high. byte c refl i (omega arith)))

-- a read that works
pub read_ends : (old new : Option (List ℕ)) (window : Window) (offered : ℕ) (name : List ℕ) (sector n size : ℕ) (payload into : List ℕ)
    → length into ≡ n → (not (n % 512 == 0) || nat_lt window.count (sector + n / 512)) ≡ false → window.first + window.count ≤ size
    → ((c : List ℕ) → old ≡ Some c → length c ≡ 512 * size) → IsRead (window.first + sector) into old → new ≡ old
    → (disk : Disk) → IsDisk old window offered name disk
    → Ends old new window (block_with 0 sector payload n) (result_of disk (block_with 0 sector payload n) false) (record { status = 0; bytes = into })
read_ends old new window offered name sector n size payload into len inside fits told read same disk is =
    let room : n + 1 - 1 ≡ n = omega arith in
    rw (is.sectors, room, inside) (record {
      status = refl;
      bytes = read_bytes old disk.byte window sector n size into len (inside_window window.count sector n inside) fits told read is.bytes;
      after = same ∙ same_content old;
    })

-- a name with zeros behind it, of which 20 bytes are told
pub id_is : (name into new : List ℕ) (len : ℕ) → length into ≡ 20 → into ≡ replicate (length into) 0 → len ≡ min (length name) 20 → new ≡ take len name → new ++ drop len into ≡ id_bytes name
id_is name into new len size blank least front =
    let zeros : into ≡ replicate 20 0 = blank ∙ ap (λ k. replicate k 0) size in
    let rest : drop len into ≡ replicate (20 - len) 0 = ap (drop len) zeros ∙ drop-replicate len 20 0 in
    elim (cases_lt (length name) 20) [
      | inl short ↦
          (let all : len ≡ length name = omega arith in
          let whole : new ≡ name = front ∙ take_all len name (omega arith) in
          let behind : 20 ≡ length name + (20 - len) = omega arith in
          ap (λ (xs : List ℕ). xs ++ drop len into) whole ∙ ap (λ (xs : List ℕ). name ++ xs) (rest ∙ sym (take-replicate (20 - len) 20 0 (omega arith)))
          ∙ sym (take-append-add name (replicate 20 0) (20 - len)) ∙ ap (λ k. take k (name ++ replicate 20 0)) (sym behind))
      | inr long ↦
          (let all : len ≡ 20 = omega arith in
          let none : drop len into ≡ [] = rest ∙ ap (λ k. replicate k 0) (let e : 20 - len ≡ 0 = omega arith in e) in
          ap (λ (xs : List ℕ). new ++ xs) none ∙ append-nil new ∙ front ∙ ap (λ k. take k name) all ∙ sym (take-append-le 20 name (replicate 20 0) (omega arith)))
    ]

-- a request of another type
pub unsupported_ends : (old : Option (List ℕ)) (window : Window) (kind sector room : ℕ) (payload into : List ℕ)
    → (kind ≡ 0 → ⊥) → (kind ≡ 1 → ⊥) → (kind ≡ 4 → ⊥) → (kind ≡ 8 → ⊥) → into ≡ replicate room 0
    → (disk : Disk) → Ends old old window (block_with kind sector payload room) (result_of disk (block_with kind sector payload room) false) (record { status = 2; bytes = into })
unsupported_ends old window kind sector room payload into no_in no_out no_flush no_id blank disk =
    let in_is : (kind == 0) ≡ false = grind (arith, nat_tests) in
    let out_is : (kind == 1) ≡ false = grind (arith, nat_tests) in
    let flush_is : (kind == 4) ≡ false = grind (arith, nat_tests) in
    let id_is : (kind == 8) ≡ false = grind (arith, nat_tests) in
    let left : room + 1 - 1 ≡ room = omega arith in
    rw (in_is, out_is, flush_is, id_is, left) (record { status = refl; bytes = λ some. blank; after = same_content old })

-- the status behind the answer's bytes
pub status_behind : (front into : List ℕ) (s : ℕ) → length front ≡ length into - 1 → 0 < length into
    → outcome_in (set (front ++ drop (length into - 1) into) (length into - 1) s) ≡ record { status = s; bytes = front }
status_behind front into s size some =
    let all : length (front ++ drop (length into - 1) into) ≡ length into = grind (arith, common_steps) in
    let now : length (set (front ++ drop (length into - 1) into) (length into - 1) s) - 1 ≡ length into - 1 = ap (λ n. n - 1) (length-set (front ++ drop (length into - 1) into) (length into - 1) s ∙ all) in
    let last : slice_index (set (front ++ drop (length into - 1) into) (length into - 1) s) (length into - 1) ≡ s = get_or-set_same (front ++ drop (length into - 1) into) (length into - 1) s 0 (omega arith) in
    let before : take (length into - 1) (set (front ++ drop (length into - 1) into) (length into - 1) s) ≡ front =
    take-set (front ++ drop (length into - 1) into) (length into - 1) s ∙ ap (λ n. take n (front ++ drop (length into - 1) into)) (sym size) ∙ take-append_seam front (drop (length into - 1) into) in
    let status = ap (slice_index (set (front ++ drop (length into - 1) into) (length into - 1) s)) now ∙ last in
    let bytes = ap (λ n. take n (set (front ++ drop (length into - 1) into) (length into - 1) s)) now ∙ before in
    λ i. record { status = status i; bytes = bytes i }

-- a request by the parts of its bytes
pub same_block : (bytes payload : List ℕ) (kind sector room n : ℕ) → kind ≡ field_at 4 bytes 0 → sector ≡ field_at 8 bytes 8 → payload ≡ drop 16 bytes → room + 1 ≡ n → block_with kind sector payload room ≡ block_of bytes n
same_block bytes payload kind sector room n k s p r = λ i. record { kind = k i; sector = s i; payload = p i; writable = r i }
