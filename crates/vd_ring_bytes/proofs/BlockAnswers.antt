-- What the disk answers has its length, and a header tells its request.
use Rattle.std.proofs.Common.{◌≡◌, ℕ, zero, suc, ◌+◌, ◌-◌, ◌*◌, ◌^◌, ◌==◌, ◌<◌, ◌≤◌, Bool, true, false, refl, ap, ◌∙◌, sym, arith, List, [], ◌∷◌, ◌++◌, length, take, replicate, ◌||◌, not, if◌then◌else◌, eqb-true}
use Rattle.std.proofs.lemmas.List.{length-append, length-replicate}
use Rattle.byteorder.specs.Numbers.{little_number-reads_back}
use Rattle.vd_num.specs.Field.{field_at}
use Rattle.vd_model.specs.Raw.{little_bytes}
use Rattle.vd_model.specs.Creation.{has_feature}
use Rattle.vd_model.specs.Puts.{each_from}
use Rattle.vd_model.specs.Block.{Block, block_of, Disk, RequestResult, result_of, ends_with, is_outside_disk, read_result, write_result, id_bytes, id_result, zeros_for}

each_length : (f : ℕ → ℕ) (from len : ℕ) → length (each_from f from len) ≡ len
each_length f from zero = refl
each_length f from (suc len) = ap (λ n. suc n) (each_length f (from + 1) len)

full_take : (n : ℕ) (xs : List ℕ) → n ≤ length xs → length (take n xs) ≡ n
full_take zero xs h = refl
full_take (suc n) [] h = absurd (omega arith)
full_take (suc n) (x ∷ xs) h = ap (λ k. suc k) (full_take n xs (omega arith))

abbrev Fits : Block → RequestResult → Type 0
Fits b r = length r.bytes ≡ b.writable - 1

zeros_fit : (b : Block) (status : ℕ) → Fits b (ends_with b status)
zeros_fit b status = length-replicate (b.writable - 1) 0

-- the answer's bytes are one less than what the device writes
pub result_fits : (disk : Disk) (b : Block) (failed : Bool) → Fits b (result_of disk b failed)
result_fits disk b failed = by (b.kind == 0) (b.kind == 1) (b.kind == 4) (b.kind == 8) where
  reads : (c : Bool) → Fits b (if c then ends_with b 1 else record { status = 0; bytes = each_from disk.byte (512 * b.sector) (b.writable - 1); stores = false })
  reads true = zeros_fit b 1
  reads false = each_length disk.byte (512 * b.sector) (b.writable - 1)

  writes : (c : Bool) → Fits b (if c then ends_with b 1 else record { status = 0; bytes = zeros_for b; stores = true })
  writes true = zeros_fit b 1
  writes false = zeros_fit b 0

  ids : (c : Bool) → (b.writable - 1 == 20) ≡ c → Fits b (if not c then ends_with b 1 else record { status = 0; bytes = id_bytes disk.name; stores = false })
  ids true e = full_take 20 (disk.name ++ replicate 20 0) (let l = length-append disk.name (replicate 20 0) in let r : length {A = ℕ} (replicate 20 0) ≡ 20 = refl in omega (arith, l, r)) ∙ sym (eqb-true (b.writable - 1) 20 e)
  ids false e = zeros_fit b 1

  by : (c d e f : Bool) → Fits b (if c then read_result disk b failed else if d then write_result disk b failed else if e then ends_with b (if failed then 1 else 0) else if f then id_result disk b else ends_with b 2)
  by true d e f = reads (is_outside_disk disk b.sector (b.writable - 1) || failed)
  by false true e f = writes (is_outside_disk disk b.sector (length b.payload) || has_feature disk.features 5 || failed)
  by false false true f = zeros_fit b (if failed then 1 else 0)
  by false false false true = ids (b.writable - 1 == 20) refl
  by false false false false = zeros_fit b 2

-- the header of a request, and its payload behind it, are read as that request
pub header_back : (kind sector writable : ℕ) (payload : List ℕ) → kind < 2 ^ 32 → sector < 2 ^ 64
    → block_of ((little_bytes 4 kind ++ little_bytes 4 0 ++ little_bytes 8 sector) ++ payload) writable ≡ record { kind = kind; sector = sector; payload = payload; writable = writable }
header_back kind sector writable payload k s =
    let bytes = (little_bytes 4 kind ++ little_bytes 4 0 ++ little_bytes 8 sector) ++ payload in
    let first : field_at 4 bytes 0 ≡ kind = little_number-reads_back 4 kind (little_bytes 4 0 ++ little_bytes 8 sector ++ payload) k in
    let second : field_at 8 bytes 8 ≡ sector = little_number-reads_back 8 sector payload s in
    ap (λ a. record { kind = a; sector = field_at 8 bytes 8; payload = payload; writable = writable }) first ∙ ap (λ a. record { kind = kind; sector = a; payload = payload; writable = writable }) second
