-- The layouts of the structs are the bytes that the definitions give.
use Rattle.std.proofs.Common.{◌≡◌, ℕ, ◌+◌, ◌<◌, ◌≤◌, List, take, drop, refl, ap, ◌∙◌, sym, arith}
use Rattle.std.proofs.Math.Nat.{mod-eq_of_lt}
use Rattle.std.proofs.lemmas.List.{drop-take, take-take}
use Rattle.byteorder.specs.Numbers.{little_from-take}
use Rattle.vd_num.specs.Field.{field_at}
use Rattle.vd_model.specs.declared.message.Body.{Body}
use Rattle.vd_model.specs.declared.message.Body.TheVariants as body
use Rattle.vd_model.specs.declared.memory.Region.{Region}
use Rattle.vd_model.specs.Raw.{request_bytes, entry_bytes, info_bytes}
use Rattle.vd_abi.specs.Layout.{laid_out}
use Rattle.vd_abi.specs.Structs.{request, iotlb_entry, iova_info}
use Rattle.vd_raw.specs.Seen.{request_seen, entry_seen, info_seen}

-- the status of a message is one byte
pub request-bytes : (id : ℕ) (said : Body) → (request_seen id said).status < 256 → laid_out 152 (request (request_seen id said)) ≡ request_bytes id said
unfolding laid_out
request-bytes id (body.VqState index) byte = refl
request-bytes id (body.Status value) byte = ap (λ n. request_bytes id (body.Status n)) (mod-eq_of_lt byte)
request-bytes id (body.Iotlb range) byte = refl

-- the permission of a region is one byte
pub entry-bytes : (r : Region) → r.perm < 256 → laid_out 32 (iotlb_entry (entry_seen r)) ≡ entry_bytes r
unfolding laid_out
entry-bytes r byte = ap (λ n. entry_bytes (record r { perm = n })) (mod-eq_of_lt byte)

pub info-bytes : (r : Region) (capability : ℕ) → laid_out 48 (iova_info (info_seen r capability)) ≡ info_bytes r capability
unfolding laid_out
info-bytes r capability = refl

-- a field is read the same in the first bytes of a list
pub field_at-take : (n at to : ℕ) (xs : List ℕ) → at + n ≤ to → field_at n (take to xs) at ≡ field_at n xs at
field_at-take n at to xs le =
    sym (little_from-take 0 n n (drop at (take to xs)) (omega arith))
    ∙ ap (λ ys. field_at n ys 0) (sym (drop-take at n (take to xs)) ∙ ap (drop at) (take-take (at + n) to xs le) ∙ drop-take at n xs)
    ∙ little_from-take 0 n n (drop at xs) (omega arith)
